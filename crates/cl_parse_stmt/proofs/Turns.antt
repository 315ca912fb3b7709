-- A turn of a loop.
use Rattle.std.proofs.Common.{◌≡◌, ℕ, zero, suc, ◌-◌, ◌<◌, List, [], ◌∷◌, ◌++◌, refl, ap, arith, Some, Bool}
use Rattle.cl_tree.specs.declared.grammar.Base.{Base}
use Rattle.cl_tree.specs.declared.tree.CType.{CType}
use Rattle.cl_tree.specs.declared.tree.CType.TheVariants as ctype
use Rattle.cl_tree.specs.declared.tree.Init.{Init}
use Rattle.cl_tree.specs.declared.tree.Declarator.{Declarator}
use Rattle.cl_tree.specs.declared.tree.Stmt.{Stmt}
use Rattle.cl_parse_expr.specs.Cursor.{◌>>=◌, Terminals, found, after}
use Rattle.cl_parse_expr.specs.Reading.{comma}
use Rattle.cl_parse_stmt.specs.Declaring.{open_bracket, close_bracket, close_brace, size_at, dims_at, arrayed, InitReader, more_inits, declarator_at, more_names}
use Rattle.cl_parse_stmt.specs.Stating.{StmtReader, block_at}

pub dims_go : (n : ℕ) (done : List ℕ) (ts : Terminals) → 0 < n → dims_at n done ts ≡ found (after open_bracket ts) (λ x. size_at x.1 >>= λ d. after close_bracket d.1 >>= λ c. dims_at (n - 1) (done ++ d.0 ∷ []) c.1) (Some (done, ts))
unfolding dims_at
dims_go zero done ts h = absurd (omega arith)
dims_go (suc n) done ts h = let e : suc n - 1 ≡ n = omega arith in rw e refl

pub arrayed_last : (t : CType) (ds : List ℕ) (d : ℕ) → arrayed t (ds ++ d ∷ []) ≡ arrayed (ctype.Array t d) ds
arrayed_last t [] d = refl
arrayed_last t (e ∷ ds) d = ap (λ (y : CType). ctype.Array y e) (arrayed_last t ds d)

pub inits_go : (I : InitReader) (n : ℕ) (done : List Init) (ts : Terminals) → 0 < n → more_inits I n done ts ≡ found (after comma ts) (λ c. I c.1 >>= λ r. more_inits I (n - 1) (done ++ r.0 ∷ []) r.1) (after close_brace ts >>= λ r. Some (done, r.1))
unfolding more_inits
inits_go I zero done ts h = absurd (omega arith)
inits_go I (suc n) done ts h = let e : suc n - 1 ≡ n = omega arith in rw e refl

pub names_go : (a : Bool) (I : InitReader) (b : Base) (f o n : ℕ) (done : List Declarator) (ts : Terminals) → 0 < n → more_names a I b f o (suc n) done ts ≡ found (after comma ts) (λ c. declarator_at a I b f o c.1 >>= λ r. more_names a I b f o (suc (n - 1)) (done ++ r.0 ∷ []) r.1) (Some (done, ts))
unfolding more_names
names_go a I b f o zero done ts h = absurd (omega arith)
names_go a I b f o (suc n) done ts h = let e : suc n - 1 ≡ n = omega arith in rw e refl

pub block_goes : (L : StmtReader) (n : ℕ) (done : List Stmt) (ts : Terminals) → 0 < n → block_at L (suc n) done ts ≡ found (after close_brace ts) (λ c. Some (done, c.1)) (L ts >>= λ r. block_at L (suc (n - 1)) (done ++ r.0 ∷ []) r.1)
unfolding block_at
block_goes L zero done ts h = absurd (omega arith)
block_goes L (suc n) done ts h = let e : suc n - 1 ≡ n = omega arith in rw e refl
