-- The limits in one walk over the terminals, as the private code has it.
use Rattle.std.specs.Prelude.{ℕ, suc, ◌+◌, List, [], ◌∷◌, length, Option, Some, None, Bool, ◌||◌, nat_lt, if◌then◌else◌}
use Rattle.cl_base.specs.declared.limits.TheConstants.{OPEN_BRACKETS, RUN_TOKENS, ITEM_ELSES}
use Rattle.cl_tree.specs.declared.grammar.Sign.{Sign}
use Rattle.cl_tree.specs.declared.grammar.Terminal.{Terminal}
use Rattle.cl_tree.specs.Items.{Bracket, effect, open_after, ends_here, is_close}
use Rattle.cl_tree.specs.Limits.{is_else, separates}

abbrev pub passes : List Bracket → ℕ → ℕ → Bool
passes bs elses run = nat_lt OPEN_BRACKETS (length bs) || (nat_lt ITEM_ELSES elses || nat_lt RUN_TOKENS run)

abbrev pub else_count : Sign → ℕ
else_count s = if is_else s then 1 else 0

abbrev pub unseparated : ℕ → Sign → ℕ
unseparated n s = if separates s then 0 else suc n

-- `elses` are those of the item so far, `run` the terminals since the last separator.
unfoldable pub limit_from : List Bracket → Bool → ℕ → ℕ → List Terminal → Option ℕ
limit_from bs after elses run [] = None
limit_from bs after elses run (p ∷ ps) =
    if passes (open_after bs (effect after p.what)) (elses + else_count p.what) (unseparated run p.what)
    then Some p.line
    else limit_from (open_after bs (effect after p.what)) (is_close p.what) (if ends_here bs (effect after p.what) ps then 0 else elses + else_count p.what) (unseparated run p.what) ps
