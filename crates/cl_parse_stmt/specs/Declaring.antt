-- The reader of declarations on lists.
use Rattle.std.specs.Prelude.{ℕ, zero, suc, List, [], ◌∷◌, ◌++◌, length, Option, Some, None, Bool, true, false, if◌then◌else◌}
use Rattle.cl_tree.specs.declared.token.Mark.TheVariants as mark
use Rattle.cl_tree.specs.declared.grammar.Base.{Base}
use Rattle.cl_tree.specs.declared.grammar.Sign.{Sign}
use Rattle.cl_tree.specs.declared.grammar.Sign.TheVariants as sign
use Rattle.cl_tree.specs.declared.tree.CType.{CType}
use Rattle.cl_tree.specs.declared.tree.CType.TheVariants as ctype
use Rattle.cl_tree.specs.declared.tree.Init.{Init}
use Rattle.cl_tree.specs.declared.tree.Init.TheVariants as init
use Rattle.cl_tree.specs.declared.tree.Declarator.{Declarator}
use Rattle.cl_tree.specs.declared.tree.Declaration.{Declaration}
use Rattle.cl_tree.specs.Words.{Word, is_literal}
use Rattle.cl_tree.specs.Spelling.{is_void}
use Rattle.cl_parse_expr.specs.declared.cursor.Fixed.{Fixed}
use Rattle.cl_parse_expr.specs.declared.cursor.Fixed.TheVariants as fixed
use Rattle.cl_parse_expr.specs.Cursor.{◌>>=◌, Terminals, found, after, name_at}
use Rattle.cl_parse_expr.specs.Types.{base_at, type_of, pointers_at, second_at}
use Rattle.cl_parse_expr.specs.Reading.{Reader, comma}

abbrev pub open_bracket : Fixed
open_bracket = fixed.Mark mark.OpenBracket

abbrev pub close_bracket : Fixed
close_bracket = fixed.Mark mark.CloseBracket

abbrev pub open_brace : Fixed
open_brace = fixed.Mark mark.OpenBrace

abbrev pub close_brace : Fixed
close_brace = fixed.Mark mark.CloseBrace

abbrev pub assign : Fixed
assign = fixed.Mark mark.Assign

abbrev pub semicolon : Fixed
semicolon = fixed.Mark mark.Semicolon

-- ---- sizes of arrays

abbrev pub size_step : Sign → Terminals → Option (ℕ × Terminals)
size_step (sign.Integer value kind) ts = if is_literal value kind then Some (value, ts) else None
size_step _ ts = None

unfoldable pub size_at : Terminals → Option (ℕ × Terminals)
size_at [] = None
size_at (t ∷ ts) = size_step t.what ts

unfoldable pub dims_at : ℕ → List ℕ → Terminals → Option (List ℕ × Terminals)
dims_at zero done ts = Some (done, ts)
dims_at (suc m) done ts = found (after open_bracket ts) (λ x. size_at x.1 >>= λ n. after close_bracket n.1 >>= λ c. dims_at m (done ++ n.0 ∷ []) c.1) (Some (done, ts))

-- the first size is the outermost array's
abbrev pub arrayed : CType → List ℕ → CType
arrayed t [] = t
arrayed t (d ∷ ds) = ctype.Array (arrayed t ds) d

-- ---- initialisers

abbrev pub InitReader : Type 0
InitReader = Terminals → Option (Init × Terminals)

unfoldable pub more_inits : InitReader → ℕ → List Init → Terminals → Option (List Init × Terminals)
more_inits I zero done ts = None
more_inits I (suc m) done ts = found (after comma ts) (λ c. I c.1 >>= λ r. more_inits I m (done ++ r.0 ∷ []) r.1) (after close_brace ts >>= λ r. Some (done, r.1))

unfoldable pub braced_at : InitReader → Terminals → Option (Init × Terminals)
braced_at I ts = I ts >>= λ r. more_inits I (length r.1) (r.0 ∷ []) r.1 >>= λ m. Some (init.Many m.0, m.1)

unfoldable pub one_init : Reader → InitReader
one_init E ts = E 1 ts >>= λ e. Some (init.One e.0, e.1)

unfoldable pub init_at : ℕ → Reader → InitReader
init_at zero E ts = None
init_at (suc n) E ts = found (after open_brace ts) (λ x. braced_at (init_at n E) x.1) (one_init E ts)

-- ---- declarators

abbrev pub named_as : CType → List ℕ → Word → ℕ → ℕ → Option Init → Declarator
named_as t ds name line second i = record { name = name; ctype = arrayed t ds; init = i; line = line; second = second }

-- behind the sizes
unfoldable pub initialised : Bool → InitReader → Terminals → Option (Option Init × Terminals)
initialised false I ts = Some (None, ts)
initialised true I ts = found (after assign ts) (λ x. I x.1 >>= λ i. Some (Some i.0, i.1)) (Some (None, ts))

unfoldable pub name_from : Bool → InitReader → ℕ → CType × Terminals → Option (Declarator × Terminals)
name_from allowed I second p =
    name_at p.1 >>= λ n. dims_at (length n.2) [] n.2 >>= λ d. initialised allowed I d.1 >>= λ i. Some (named_as p.0 d.0 n.0 n.1 second i.0, i.1)

-- the lines of a floating base and of the first token are given
unfoldable pub declarator_at : Bool → InitReader → Base → ℕ → ℕ → Terminals → Option (Declarator × Terminals)
declarator_at allowed I b floating first ts = name_from allowed I (second_at b floating first ts) (pointers_at (length ts) (type_of b) ts)

unfoldable pub more_names : Bool → InitReader → Base → ℕ → ℕ → ℕ → List Declarator → Terminals → Option (List Declarator × Terminals)
more_names allowed I b f o zero done ts = None
more_names allowed I b f o (suc m) done ts = found (after comma ts) (λ c. declarator_at allowed I b f o c.1 >>= λ r. more_names allowed I b f o m (done ++ r.0 ∷ []) r.1) (Some (done, ts))

unfoldable pub names_at : Bool → InitReader → Base → ℕ → ℕ → Terminals → Option (List Declarator × Terminals)
names_at allowed I b f o ts = declarator_at allowed I b f o ts >>= λ r. more_names allowed I b f o (suc (length r.1)) (r.0 ∷ []) r.1

-- names of a base other than `void`
abbrev pub names_of : Bool → InitReader → Base → ℕ → ℕ → Terminals → Option (List Declarator × Terminals)
names_of allowed I b f o ts = if is_void b then None else names_at allowed I b f o ts

abbrev pub declared_as : Bool → List Declarator → Declaration
declared_as is_static names = record { is_static = is_static; names = names }

-- a declaration whose first token's line is given, behind its `static`
unfoldable pub declaration_from : InitReader → Bool → ℕ → Terminals → Option (Declaration × Terminals)
declaration_from I is_static first ts = base_at ts >>= λ b. names_of true I b.0 b.1 first b.2 >>= λ n. Some (declared_as is_static n.0, n.1)
