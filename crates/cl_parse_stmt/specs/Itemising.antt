-- The reader of items on lists.
use Rattle.std.specs.Prelude.{ℕ, zero, suc, List, [], ◌∷◌, ◌++◌, length, Option, Some, None, Bool, true, false, ◌&&◌, if◌then◌else◌}
use Rattle.cl_tree.specs.declared.grammar.Keyword.TheVariants as key
use Rattle.cl_tree.specs.declared.grammar.Base.{Base}
use Rattle.cl_tree.specs.declared.grammar.Sign.{Sign}
use Rattle.cl_tree.specs.declared.grammar.Sign.TheVariants as sign
use Rattle.cl_tree.specs.declared.tree.CType.{CType}
use Rattle.cl_tree.specs.declared.tree.Declarator.{Declarator}
use Rattle.cl_tree.specs.declared.tree.Declaration.{Declaration}
use Rattle.cl_tree.specs.declared.tree.Stmt.{Stmt}
use Rattle.cl_tree.specs.declared.tree.Item.{Item}
use Rattle.cl_tree.specs.declared.tree.Item.TheVariants as item
use Rattle.cl_tree.specs.Words.{Word, comes}
use Rattle.cl_tree.specs.Spelling.{is_void}
use Rattle.cl_parse_expr.specs.declared.cursor.Fixed.TheVariants as fixed
use Rattle.cl_parse_expr.specs.Cursor.{◌>>=◌, Terminals, found, after, name_at, line_of}
use Rattle.cl_parse_expr.specs.Types.{base_at, type_of, pointers_at, second_at}
use Rattle.cl_parse_expr.specs.Reading.{opening, close, comma, expr_at}
use Rattle.cl_parse_stmt.specs.Declaring.{InitReader, semicolon, open_brace, close_brace, declarator_at, names_of, declared_as, init_at}
use Rattle.cl_parse_stmt.specs.Stating.{StmtReader, block_at, listed_of, stmt_at}

-- ---- structs

-- the members of one base, with their `;`; `first` is the line of the struct's first terminal
unfoldable pub member_at : InitReader → ℕ → Terminals → Option (Declaration × Terminals)
member_at I first ts = base_at ts >>= λ b. names_of false I b.0 b.1 first b.2 >>= λ n. after semicolon n.1 >>= λ c. Some (declared_as false n.0, c.1)

unfoldable pub members_at : InitReader → ℕ → ℕ → List Declaration → Terminals → Option (List Declaration × Terminals)
members_at I first zero done ts = None
members_at I first (suc m) done ts = found (after close_brace ts) (λ c. Some (done, c.1)) (member_at I first ts >>= λ r. members_at I first m (done ++ r.0 ∷ []) r.1)

-- behind the `{`
unfoldable pub struct_from : InitReader → ℕ → Word → Terminals → Option (Item × Terminals)
struct_from I line tag ts =
    member_at I line ts >>= λ r. members_at I line (suc (length r.1)) (r.0 ∷ []) r.1 >>= λ m. after semicolon m.1 >>= λ c. Some (item.Struct tag m.0 line, c.1)

-- ---- functions

unfoldable pub parameter_at : InitReader → ℕ → Terminals → Option (Declarator × Terminals)
parameter_at I first ts = base_at ts >>= λ b. if is_void b.0 then None else declarator_at false I b.0 b.1 first b.2

unfoldable pub more_parameters : InitReader → ℕ → ℕ → List Declarator → Terminals → Option (List Declarator × Terminals)
more_parameters I first zero done ts = None
more_parameters I first (suc m) done ts =
    found (after comma ts) (λ c. parameter_at I first c.1 >>= λ r. more_parameters I first m (done ++ r.0 ∷ []) r.1) (after close ts >>= λ r. Some (done, r.1))

-- whether `void` stands there, the parameters, and what follows the `)`
unfoldable pub parameters_at : InitReader → ℕ → Terminals → Option (Bool × List Declarator × Terminals)
parameters_at I first ts =
    found (after close ts) (λ c. Some (false, [], c.1))
    (found (after (fixed.Key key.Void) ts) (λ v. after close v.1 >>= λ c. Some (true, [], c.1))
    (parameter_at I first ts >>= λ p. more_parameters I first (length p.1) (p.0 ∷ []) p.1 >>= λ r. Some (false, r.0, r.1)))

unfoldable pub body_at : StmtReader → Terminals → Option (Option (List Stmt) × Terminals)
body_at L ts = found (after semicolon ts) (λ c. Some (None, c.1)) (after open_brace ts >>= λ o. block_at L (suc (length o.1)) [] o.1 >>= λ b. Some (Some b.0, b.1))

-- behind the `(`
unfoldable pub function_from : StmtReader → InitReader → Bool → CType → Word → ℕ → ℕ → Terminals → Option (Item × Terminals)
function_from L I is_static result name first second ts =
    parameters_at I first ts >>= λ p. body_at L p.2 >>= λ b. Some (item.Function is_static result name p.0 p.1 b.0 first second, b.1)

-- ---- variables and functions, which begin alike

unfoldable pub variables_from : InitReader → Bool → Base → ℕ → ℕ → Terminals → Option (Item × Terminals)
variables_from I is_static b floating first ts = names_of true I b floating first ts >>= λ n. after semicolon n.1 >>= λ c. Some (item.Variables (declared_as is_static n.0), c.1)

-- a name and a `(` behind the stars make a function
unfoldable pub called_at : Terminals → Option (Word × ℕ × Terminals)
called_at ts = name_at ts >>= λ n. after opening n.2 >>= λ o. Some (n.0, n.1, o.1)

unfoldable pub plain_from : StmtReader → InitReader → Bool → ℕ → Base × ℕ × Terminals → Option (Item × Terminals)
plain_from L I is_static first b =
    found (called_at (pointers_at (length b.2) (type_of b.0) b.2).1)
    (λ n. function_from L I is_static (pointers_at (length b.2) (type_of b.0) b.2).0 n.0 first (second_at b.0 b.1 n.1 b.2) n.2)
    (variables_from I is_static b.0 b.1 first b.2)

unfoldable pub plain_at : StmtReader → InitReader → Bool → ℕ → Terminals → Option (Item × Terminals)
plain_at L I is_static first ts = base_at ts >>= λ b. plain_from L I is_static first b

-- ---- items

-- `struct`, a tag and a `{`
unfoldable pub struct_at : Terminals → Option (Word × Terminals)
struct_at ts = after (fixed.Key key.Struct) ts >>= λ s. name_at s.1 >>= λ n. after open_brace n.2 >>= λ o. Some (n.0, o.1)

unfoldable pub unmarked_at : StmtReader → InitReader → Terminals → Option (Item × Terminals)
unmarked_at L I ts = found (struct_at ts) (λ s. struct_from I (line_of ts) s.0 s.1) (plain_at L I false (line_of ts) ts)

abbrev pub item_step : StmtReader → InitReader → ℕ → Sign → Terminals → Terminals → Option (Item × Terminals)
item_step L I line (sign.Cle p) here ts = Some (item.Cle p line, ts)
item_step L I line (sign.Key key.Static) here ts = plain_at L I true line ts
item_step L I line _ here ts = unmarked_at L I here

unfoldable pub item_of : StmtReader → InitReader → Terminals → Option (Item × Terminals)
item_of L I [] = None
item_of L I (t ∷ ts) = item_step L I t.line t.what (t ∷ ts) ts

abbrev pub ended : Item × Terminals → Option Item
ended (i, []) = Some i
ended (i, t ∷ ts) = None

-- each of the terminals can come out of a source
abbrev pub terminals_come : Terminals → Bool
terminals_come [] = true
terminals_come (t ∷ ts) = comes t.what && terminals_come ts

-- all of the terminals, with fuel for n levels
unfoldable pub whole_item : ℕ → Terminals → Option Item
whole_item n ts =
    if terminals_come ts
    then (item_of (listed_of (stmt_at n (expr_at n) (init_at n (expr_at n))) (init_at n (expr_at n))) (init_at n (expr_at n)) ts >>= λ i. ended i)
    else None
