-- Calls: as many arguments as parameters, and as many as a format's conversions.
use Rattle.std.proofs.Common.{◌≡◌, ℕ, List, [], ◌∷◌, length, refl, sym, ap, Some, subst, codes}
use Rattle.cl_tree.specs.declared.tree.CType.{CType}
use Rattle.cl_tree.specs.declared.tree.Expr.{Expr}
use Rattle.cl_tree.specs.declared.tree.Node.{Node, Node-F, out-Node}
use Rattle.cl_tree.specs.declared.tree.Node.TheOpen as node
use Rattle.cl_tree.specs.declared.tree.Stmt.{Stmt}
use Rattle.cl_tree.specs.declared.tree.Act.{Act, Act-F, out-Act}
use Rattle.cl_tree.specs.declared.tree.Act.TheOpen as act
use Rattle.cl_tree.specs.declared.tree.Item.{Item}
use Rattle.cl_tree.specs.declared.tree.Program.{Program}
use Rattle.cl_tree.specs.Words.{Word}
use Rattle.cl_typing.specs.declared.format.Want.{Want}
use Rattle.cl_typing.specs.Rules.{AllHold}
use Rattle.cl_typing.specs.Scope.{function, Env, meaning}
use Rattle.cl_typing.specs.Typing.{rules}
use Rattle.typing_laws.specs.Standing.{Level, Spot, result_of, StmtStands, Stands}
use Rattle.typing_laws.specs.Typed.{HasType, ArgumentsFit, CallIs, of_function, of_getchar, NodeIs, AllWanted, CallFits, prints, puts, calls, ActFits, PrintfFits}
use Rattle.typing_laws.proofs.Expressions.{node_is}
use Rattle.typing_laws.proofs.Programs.{every_type, statements_fit}

module _ (tags names : Env) where
  as_many : (ts : List CType) (es : List Expr) → ArgumentsFit tags names ts es → length es ≡ length ts
  as_many [] [] h = refl
  as_many [] (e ∷ es) h = absurd h
  as_many (t ∷ ts) [] h = absurd h
  as_many (t ∷ ts) (e ∷ es) h = ap (λ n. ℕ.suc n) (as_many ts es h.1)

  as_wanted : (ws : List Want) (es : List Expr) → AllWanted tags names ws es → length es ≡ length ws
  as_wanted [] [] h = refl
  as_wanted [] (e ∷ es) h = absurd h
  as_wanted (w ∷ ws) [] h = absurd h
  as_wanted (w ∷ ws) (e ∷ es) h = ap (λ n. ℕ.suc n) (as_wanted ws es h.1)

  call_of : (name : Word) (es : List Expr) (t r : CType) (ts : List CType) → CallIs tags names name es t → meaning names name ≡ Some (function r ts) → ArgumentsFit tags names ts es
  call_of name es t r ts (of_function types p m a) q =
      let e : types ≡ ts = cc in
      subst (λ (w : List CType). ArgumentsFit tags names w es) e a
  call_of name es t r ts (of_getchar p m a b) q = absurd cc

  not_main : (es : List Expr) (t : CType) → CallIs tags names (codes "main") es t → ⊥
  not_main es t (of_function types p m a) = p refl
  not_main es t (of_getchar p m a b) = cc

  called : (x : Expr) (y : Node-F Node Expr) → out-Node x.node ≡ y → HasType tags names x → (t : CType) × NodeIs tags names y t
  called x y p h = (h.0, subst (λ (w : Node-F Node Expr). NodeIs tags names w h.0) p (node_is tags names x h.0 h.1))

  same_arguments : (e : Expr) (es fs : List Expr) (a b : Word) → out-Node e.node ≡ node.Call a es → out-Node e.node ≡ node.Call b fs → (es ≡ fs) × (a ≡ b)
  same_arguments e es fs a b p q = (cc, cc)

  print_is : (e : Expr) (arguments : List Expr) → out-Node e.node ≡ node.Call (codes "printf") arguments → CallFits tags names e → PrintfFits tags names arguments
  print_is e arguments q (prints f bytes wants rest p l c a) =
      record {
        format = f;
        rest = rest;
        bytes = bytes;
        wants = wants;
        first = (same_arguments e arguments (f ∷ rest) _ _ q p).0;
        literal = l;
        conversions = c;
        count = as_wanted wants rest a;
        each = a;
      }
  print_is e arguments q (puts f p i) = let d = (same_arguments e arguments (f ∷ []) _ _ q p).1 in absurd cc
  print_is e arguments q (calls name es p n m t) = absurd (n (sym (same_arguments e arguments es _ _ q p).1))

pub arguments_fit : (program : Program) → AllHold (rules program) → (tags names : Env) (x : Expr) → Stands program tags names x → (name : Word) (arguments : List Expr) → out-Node x.node ≡ node.Call name arguments → (result : CType) (types : List CType) → meaning names name ≡ Some (function result types) → ArgumentsFit tags names types arguments
arguments_fit program h tags names x s name arguments p result types m =
    let c = called tags names x (node.Call name arguments) p (every_type program h tags names x s) in
    call_of tags names name arguments c.0 result types c.1 m

pub arguments_count : (program : Program) → AllHold (rules program) → (tags names : Env) (x : Expr) → Stands program tags names x → (name : Word) (arguments : List Expr) → out-Node x.node ≡ node.Call name arguments → (result : CType) (types : List CType) → meaning names name ≡ Some (function result types) → length arguments ≡ length types
arguments_count program h tags names x s name arguments p result types m =
    as_many tags names types arguments (arguments_fit program h tags names x s name arguments p result types m)

pub main_uncalled : (program : Program) → AllHold (rules program) → (tags names : Env) (x : Expr) → Stands program tags names x → (arguments : List Expr) → out-Node x.node ≡ node.Call (codes "main") arguments → ⊥
main_uncalled program h tags names x s arguments p =
    let c = called tags names x (node.Call (codes "main") arguments) p (every_type program h tags names x s) in
    not_main tags names arguments c.0 c.1

pub format_fits : (program : Program) → AllHold (rules program) → (i : Item) (level : Level) (s : Stmt) (spot : Spot) → StmtStands program i level s spot → (e : Expr) (arguments : List Expr) → out-Act s.node ≡ act.Call e → out-Node e.node ≡ node.Call (codes "printf") arguments → PrintfFits level.tags spot.names arguments
format_fits program h i level s spot p e arguments q r =
    print_is level.tags spot.names e arguments r (subst (λ (w : Act-F Act Stmt). ActFits level.tags (result_of i) w spot) q (statements_fit program h i level s spot p))
