-- A turn of a loop over items' parts.
use Rattle.std.proofs.Common.{◌≡◌, ℕ, zero, suc, ◌-◌, ◌<◌, List, [], ◌∷◌, ◌++◌, refl, arith, Some}
use Rattle.cl_tree.specs.declared.tree.Declarator.{Declarator}
use Rattle.cl_tree.specs.declared.tree.Declaration.{Declaration}
use Rattle.cl_parse_expr.specs.Cursor.{◌>>=◌, Terminals, found, after}
use Rattle.cl_parse_expr.specs.Reading.{comma, close}
use Rattle.cl_parse_stmt.specs.Declaring.{close_brace, InitReader}
use Rattle.cl_parse_stmt.specs.Itemising.{member_at, members_at, parameter_at, more_parameters}

pub members_go : (I : InitReader) (f n : ℕ) (done : List Declaration) (ts : Terminals) → 0 < n → members_at I f (suc n) done ts ≡ found (after close_brace ts) (λ c. Some (done, c.1)) (member_at I f ts >>= λ r. members_at I f (suc (n - 1)) (done ++ r.0 ∷ []) r.1)
unfolding members_at
members_go I f zero done ts h = absurd (omega arith)
members_go I f (suc n) done ts h = let e : suc n - 1 ≡ n = omega arith in rw e refl

pub parameters_go : (I : InitReader) (f n : ℕ) (done : List Declarator) (ts : Terminals) → 0 < n → more_parameters I f n done ts ≡ found (after comma ts) (λ c. parameter_at I f c.1 >>= λ r. more_parameters I f (n - 1) (done ++ r.0 ∷ []) r.1) (after close ts >>= λ r. Some (done, r.1))
unfolding more_parameters
parameters_go I f zero done ts h = absurd (omega arith)
parameters_go I f (suc n) done ts h = let e : suc n - 1 ≡ n = omega arith in rw e refl
