-- A turn of a loop.
use Rattle.std.proofs.Common.{◌≡◌, ℕ, zero, suc, ◌-◌, ◌<◌, List, [], ◌∷◌, ◌++◌, refl, arith, Option, Some, None}
use Rattle.cl_tree.specs.declared.token.Mark.TheVariants as mark
use Rattle.cl_tree.specs.declared.tree.CType.{CType}
use Rattle.cl_tree.specs.declared.tree.CType.TheVariants as ctype
use Rattle.cl_tree.specs.declared.tree.Expr.{Expr}
use Rattle.cl_parse_expr.specs.declared.cursor.Fixed.TheVariants as fixed
use Rattle.cl_parse_expr.specs.declared.cursor.Link.{Link}
use Rattle.cl_parse_expr.specs.Cursor.{◌>>=◌, Terminals, found, after, link_at}
use Rattle.cl_parse_expr.specs.Types.{pointers_at}
use Rattle.cl_parse_expr.specs.Reading.{Reader, comma, close, grow, loop_of, more_at}

pub pointers_go : (n : ℕ) (t : CType) (ts : Terminals) → 0 < n → pointers_at n t ts ≡ found (after (fixed.Mark mark.Star) ts) (λ x. pointers_at (n - 1) (ctype.Pointer t) x.1) (t, ts)
unfolding pointers_at
pointers_go zero t ts h = absurd (omega arith)
pointers_go (suc n) t ts h = let e : suc n - 1 ≡ n = omega arith in rw e refl

pub more_go : (E : Reader) (n : ℕ) (done : List Expr) (ts : Terminals) → 0 < n → more_at E n done ts ≡ found (after comma ts) (λ c. E 1 c.1 >>= λ r. more_at E (n - 1) (done ++ r.0 ∷ []) r.1) (after close ts >>= λ r. Some (done, r.1))
unfolding more_at
more_go E zero done ts h = absurd (omega arith)
more_go E (suc n) done ts h = let e : suc n - 1 ≡ n = omega arith in rw e refl

pub loop_goes : (E : Reader) (n k : ℕ) (p : Expr) (ts : Terminals) → 0 < n → loop_of E (suc n) k p ts ≡ found (link_at k ts) (λ x. grow E p x.1 x.0 x.2 >>= λ r. loop_of E (suc (n - 1)) k r.0 r.1) (Some (p, ts))
unfolding loop_of
loop_goes E zero k p ts h = absurd (omega arith)
loop_goes E (suc n) k p ts h = let e : suc n - 1 ≡ n = omega arith in rw e refl
