-- The meaning of a checked source gives its expressions the types that the rules give them.
use Rattle.std.proofs.Common.{◌≡◌, List, ◌∷◌, sym, ap, ◌∙◌, Bool, true, false, Some, subst, bytes_eq, if◌then◌else◌}
use Rattle.cl_tree.specs.declared.tree.CType.{CType}
use Rattle.cl_tree.specs.declared.tree.Expr.{Expr}
use Rattle.cl_tree.specs.declared.tree.Declarator.{Declarator}
use Rattle.cl_tree.specs.Words.{Word}
use Rattle.cl_mean.specs.declared.checked.Checked.{Checked}
use Rattle.cl_mean.specs.Shape.{Structs as Shapes, shape_of, structs_of}
use Rattle.cl_mean.specs.Source.{Binding, Env as Bindings, binding_of, Source, source_of}
use Rattle.cl_mean.specs.Evaluation.{Scope, meaning_of}
use Rattle.cl_typing.specs.Rules.{AllHold}
use Rattle.cl_typing.specs.Scope.{variable, function, binding, Env, meaning, bound}
use Rattle.cl_typing.specs.Typing.{rules}
use Rattle.typing_laws.specs.Standing.{Stands}
use Rattle.typing_laws.specs.Typed.{TypeIs}
use Rattle.typing_laws.specs.Meant.{StructsMatch, NamesMatch, FunctionsMatch, AllMeant}
use Rattle.typing_laws.proofs.Programs.{library_free}
use Rattle.typing_laws.proofs.Alike.{shapes_alike}
use Rattle.typing_laws.proofs.SameStructs.{structs_match}
use Rattle.typing_laws.proofs.SameFunctions.{source_structs, functions_match}

pub checked_structs : (checked : Checked) → AllHold (rules checked.typed.program) → (tags names : Env) (x : Expr) → Stands checked.typed.program tags names x → StructsMatch (source_of checked).structs tags
checked_structs checked h tags names x s =
    subst (λ (w : Shapes). StructsMatch w tags) (sym (source_structs checked))
    (subst (λ (w : Env). StructsMatch (structs_of checked.typed.program.items) w) (sym s.tags_are) (structs_match checked.typed.program h s.item s.level s.stands))

-- ---- a name more

module _ (structs : Shapes) (names : Env) (bindings : Bindings) (match : NamesMatch structs names bindings) where
  local_by : (d : Declarator) (b : Binding) (name : Word) (t : CType) (c : Binding) (x y : Bool) → x ≡ y → b.shape ≡ shape_of structs d.ctype
      → (if x then Some (variable d.ctype) else meaning names name) ≡ Some (variable t) → (if y then Some b else binding_of bindings name) ≡ Some c → c.shape ≡ shape_of structs t
  local_by d b name t c true true e s m f =
      let p : d.ctype ≡ t = cc in
      let q : b ≡ c = cc in
      ap (λ (w : Binding). w.shape) (sym q) ∙ s ∙ ap (shape_of structs) p
  local_by d b name t c false false e s m f = match name t c m f
  local_by d b name t c true false e s m f = absurd cc
  local_by d b name t c false true e s m f = absurd cc

  pub local_match : (d : Declarator) (b : Binding) → b.name ≡ d.name → b.shape ≡ shape_of structs d.ctype → NamesMatch structs (bound d ∷ names) (b ∷ bindings)
  unfolding meaning binding_of
  local_match d b n s name t c m f = local_by d b name t c (bytes_eq d.name name) (bytes_eq b.name name) (ap (λ (w : Word). bytes_eq w name) (sym n)) s m f

  function_by : (other : Word) (result : CType) (types : List CType) (name : Word) (t : CType) (x : Bool) → (if x then Some (function result types) else meaning names name) ≡ Some (variable t) → meaning names name ≡ Some (variable t)
  function_by other result types name t true m = absurd cc
  function_by other result types name t false m = m

  pub function_match : (other : Word) (result : CType) (types : List CType) → NamesMatch structs (binding other (function result types) ∷ names) bindings
  unfolding meaning
  function_match other result types name t c m f = match name t c (function_by other result types name t (bytes_eq other name) m) f

-- ---- a checked source

pub accepted_alike : (checked : Checked) → AllHold (rules checked.typed.program) → (tags names : Env) (x : Expr) → Stands checked.typed.program tags names x → (scope : Scope) → scope.source ≡ source_of checked → (bindings : Bindings)
    → NamesMatch (source_of checked).structs names bindings → AllMeant bindings (source_of checked).functions x → (t : CType) → TypeIs tags names x t → (meaning_of scope bindings x).shape ≡ shape_of (source_of checked).structs t
accepted_alike checked h tags names x s scope e bindings m a t is =
    let f : source_of checked ≡ scope.source = sym e in
    shapes_alike scope bindings tags names
    (subst (λ (w : Source). StructsMatch w.structs tags) f (checked_structs checked h tags names x s))
    (subst (λ (w : Source). NamesMatch w.structs names bindings) f m)
    (subst (λ (w : Source). FunctionsMatch w.structs names w.functions) f (functions_match checked h tags names x s))
    (library_free checked.typed.program h tags names x s)
    x t is (subst (λ (w : Source). AllMeant bindings w.functions x) f a)
    ∙ ap (λ (w : Source). shape_of w.structs t) e
