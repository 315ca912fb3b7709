-- The limits that the terminals of a source can pass: open brackets, `else` in one item, and terminals in a row without a separator.
use Rattle.std.specs.Prelude.{ℕ, List, [], ◌∷◌, length, count_by, Option, Some, None, Bool, true, false, ◌||◌, nat_lt, if◌then◌else◌}
use Rattle.cl_base.specs.declared.limits.TheConstants.{OPEN_BRACKETS, RUN_TOKENS, ITEM_ELSES}
use Rattle.cl_tree.specs.declared.token.Mark.TheVariants as mark
use Rattle.cl_tree.specs.declared.grammar.Keyword.TheVariants as key
use Rattle.cl_tree.specs.declared.grammar.Sign.{Sign}
use Rattle.cl_tree.specs.declared.grammar.Sign.TheVariants as sign
use Rattle.cl_tree.specs.declared.grammar.Terminal.{Terminal}
use Rattle.cl_tree.specs.Items.{Bracket, effect, open_after, is_close, joined, cut}

-- the brackets that are open behind terminals
unfoldable pub open_behind : List Bracket → Bool → List Terminal → List Bracket
open_behind bs after [] = bs
open_behind bs after (p ∷ ps) = open_behind (open_after bs (effect after p.what)) (is_close p.what) ps

abbrev pub is_else : Sign → Bool
is_else (sign.Key key.Else) = true
is_else _ = false

-- how often `else` stands among terminals
abbrev pub elses : List Terminal → ℕ
elses ps = count_by (λ p. is_else p.what) ps

abbrev pub separates : Sign → Bool
separates (sign.Mark mark.OpenBrace) = true
separates (sign.Mark mark.CloseBrace) = true
separates (sign.Mark mark.Semicolon) = true
separates (sign.Mark mark.Comma) = true
separates (sign.Cle p) = true
separates _ = false

-- The terminals before, between and behind the separators.
unfoldable pub runs : List Terminal → List (List Terminal)
runs [] = [] ∷ []
runs (p ∷ ps) = if separates p.what then [] ∷ runs ps else joined false p (runs ps)

abbrev pub latest : List (List Terminal) → List Terminal
latest [] = []
latest (ps ∷ []) = ps
latest (ps ∷ qs ∷ pss) = latest (qs ∷ pss)

-- Behind the terminals too many brackets are open, or their last item has too many `else`, or their last run is too long.
unfoldable pub is_over : List Terminal → Bool
is_over ps =
    nat_lt OPEN_BRACKETS (length (open_behind [] false ps)) || (nat_lt ITEM_ELSES (elses (latest (cut ps))) || nat_lt RUN_TOKENS (length (latest (runs ps))))

-- The line of the first terminal that ends a beginning of which the test holds.
unfoldable pub first_where : (List Terminal → Bool) → List Terminal → Option ℕ
first_where test [] = None
first_where test (p ∷ ps) = if test (p ∷ []) then Some p.line else first_where (λ more. test (p ∷ more)) ps

-- The line of the first terminal that passes a limit.
unfoldable pub limit_passed : List Terminal → Option ℕ
limit_passed ps = first_where is_over ps
