-- The functions and the objects of a program.
use Rattle.std.proofs.Common.{◌≡◌, ℕ, zero, suc, ◌+◌, ◌≤◌, List, [], ◌∷◌, ◌++◌, map, refl, sym, ap, ◌∙◌, arith, Bool, true, false, not, ◌&&◌, ◌||◌, Option, Some, None, subst, bytes_eq, codes, if◌then◌else◌, inl, inr, ◌⊎◌}
use Rattle.std.specs.Prelude.{slice_get, is_some}
use Rattle.std.specs.List.{flat_map, list_any}
use Rattle.cl_tree.specs.declared.kinds.IntKind.{IntKind}
use Rattle.cl_tree.specs.declared.kinds.IntKind.TheVariants.{I32}
use Rattle.cl_tree.specs.declared.tree.CType.{CType}
use Rattle.cl_tree.specs.declared.tree.CType.TheVariants.{Integer}
use Rattle.cl_tree.specs.declared.tree.Declarator.{Declarator}
use Rattle.cl_tree.specs.declared.tree.Declaration.{Declaration}
use Rattle.cl_tree.specs.declared.tree.Stmt.{Stmt}
use Rattle.cl_tree.specs.declared.tree.Item.{Item}
use Rattle.cl_tree.specs.declared.tree.Item.TheVariants as item
use Rattle.cl_tree.specs.declared.tree.Program.{Program}
use Rattle.cl_tree.specs.Words.{Word}
use Rattle.cl_mean.specs.declared.checked.FnFact.{FnFact}
use Rattle.cl_mean.specs.declared.checked.ObjFact.{ObjFact}
use Rattle.cl_mean.specs.Source.{statics_in, item_statics}
use Rattle.cl_typing.specs.Rules.{unless, AllHold}
use Rattle.cl_typing.specs.Scope.{Entry, function, binding, Env, meaning, is_bound, is_library, types_of, defined_after}
use Rattle.cl_typing.specs.Types.{kind_of}
use Rattle.cl_typing.specs.Twice.{Declared, function_fits, is_free, item_twice, declared_after, items_twice, twice}
use Rattle.cl_typing.specs.Facts.{function_facts, functions_from, functions_of, object_fact, object_facts, number_after, objects_from, objects_of, is_int, none, is_main, item_defines, no_main}
use Rattle.cl_typing.specs.Typing.{rules}
use Rattle.typing_laws.specs.Standing.{OneOf}
use Rattle.typing_laws.specs.Listed.{IsDefinition, IsFactOf, FactOfProgram, InOrder, Distinct, IsMain, HasMain, IsObjectOf, AreObjectsOf, OwnerFits, ObjectOfProgram, OwnerListed}
use Rattle.typing_laws.proofs.Lists.{none_of, holds, both, not_false, same_word, word_same}
use Rattle.typing_laws.proofs.TypeForms.{kind_is, same_kind_is}
use Rattle.typing_laws.proofs.Counted.{one_right}

one_split : {A : Type 0} (xs ys : List A) (x : A) → OneOf (xs ++ ys) x → OneOf xs x ⊎ OneOf ys x
one_split [] ys x h = inr h
one_split (z ∷ xs) ys x (inl h) = inl (inl h)
one_split (z ∷ xs) ys x (inr h) = first (one_split xs ys x h)
  where
    first : OneOf xs x ⊎ OneOf ys x → OneOf (z ∷ xs) x ⊎ OneOf ys x
    first (inl o) = inl (inr o)
    first (inr o) = inr o

-- ---- functions

-- a fact of an item, whose number is counted from a place on
pub record FactFrom (place : ℕ) (is : List Item) (f : FnFact) : Type 0 where
  pub steps : ℕ
  pub item : Item
  pub number : f.item ≡ place + steps
  pub stands : slice_get is steps ≡ Some item
  pub is_its : IsFactOf f item

later : (place : ℕ) (i : Item) (is : List Item) (f : FnFact) → FactFrom (suc place) is f → FactFrom place (i ∷ is) f
later place i is f h =
    let n : f.item ≡ suc place + h.steps = h.number in
    record { steps = suc h.steps; item = h.item; number = omega arith; stands = h.stands; is_its = h.is_its }

sound : (is : List Item) (place : ℕ) (f : FnFact) → OneOf (functions_from place is) f → FactFrom place is f
unfolding functions_from function_facts
sound [] place f h = absurd h
sound (item.Struct name members line ∷ is) place f h = later place _ is f (sound is (suc place) f h)
sound (item.Variables d ∷ is) place f h = later place _ is f (sound is (suc place) f h)
sound (item.Function is_static result name void_word params None line second ∷ is) place f h = later place _ is f (sound is (suc place) f h)
sound (item.Function is_static result name void_word params (Some body) line second ∷ is) place f (inl h) =
    let n : f.item ≡ place = ap (λ (w : FnFact). w.item) h in
    record {
      steps = 0;
      item = item.Function is_static result name void_word params (Some body) line second;
      number = omega arith;
      stands = refl;
      is_its = (ap (λ (w : FnFact). w.name) h, ap (λ (w : FnFact). w.line) h);
    }
sound (item.Function is_static result name void_word params (Some body) line second ∷ is) place f (inr h) = later place _ is f (sound is (suc place) f h)
sound (item.Cle p line ∷ is) place f h = later place _ is f (sound is (suc place) f h)

pub facts_are : (program : Program) (f : FnFact) → OneOf (functions_of program) f → FactOfProgram program f
unfolding functions_of
facts_are program f o =
    let h = sound program.items 0 f o in
    let n : f.item ≡ 0 + h.steps = h.number in
    let e : f.item ≡ h.steps = omega arith in
    (h.item, ap (λ k. slice_get program.items k) e ∙ h.stands, h.is_its)

complete : (is : List Item) (place k : ℕ) (i : Item) → slice_get is k ≡ Some i → IsDefinition i → (f : FnFact) × OneOf (functions_from place is) f × (f.item ≡ place + k) × IsFactOf f i
unfolding functions_from function_facts
complete [] place k i e d = absurd cc
complete (j ∷ is) place zero i e d = here i d (cc)
  where
    here : (w : Item) → IsDefinition w → j ≡ w → (f : FnFact) × OneOf (function_facts place j ++ functions_from (suc place) is) f × (f.item ≡ place + 0) × IsFactOf f w
    here (item.Struct name members line) c p = absurd c
    here (item.Variables v) c p = absurd c
    here (item.Function is_static result name void_word params None line second) c p = absurd c
    here (item.Function is_static result name void_word params (Some body) line second) c p = (
      record { name = name; item = place; line = second },
      subst (λ (w : Item). OneOf (function_facts place w ++ functions_from (suc place) is) (record { name = name; item = place; line = second })) (sym p) (inl refl),
      omega arith,
      (refl, refl),
    )
    here (item.Cle q line) c p = absurd c
complete (j ∷ is) place (suc k) i e d = there (complete is (suc place) k i e d)
  where
    there : ((f : FnFact) × OneOf (functions_from (suc place) is) f × (f.item ≡ suc place + k) × IsFactOf f i) → (f : FnFact) × OneOf (function_facts place j ++ functions_from (suc place) is) f × (f.item ≡ place + suc k) × IsFactOf f i
    there h =
        let n : h.0.item ≡ suc place + k = h.2 in
        (h.0, one_right (function_facts place j) _ h.0 h.1, omega arith, h.3)

pub each_listed : (program : Program) (k : ℕ) (i : Item) → slice_get program.items k ≡ Some i → IsDefinition i → (f : FnFact) × OneOf (functions_of program) f × (f.item ≡ k) × IsFactOf f i
unfolding functions_of
each_listed program k i e d =
    let h = complete program.items 0 k i e d in
    let n : h.0.item ≡ 0 + k = h.2 in
    (h.0, h.1, omega arith, h.3)

from_place : (is : List Item) (place : ℕ) (f : FnFact) → OneOf (functions_from place is) f → place ≤ f.item
from_place is place f o = let h = sound is place f o in let n : f.item ≡ place + h.steps = h.number in omega arith

in_order_from : (is : List Item) (place : ℕ) → InOrder (functions_from place is)
unfolding functions_from function_facts
in_order_from [] place = tt
in_order_from (item.Struct name members line ∷ is) place = in_order_from is (suc place)
in_order_from (item.Variables d ∷ is) place = in_order_from is (suc place)
in_order_from (item.Function is_static result name void_word params None line second ∷ is) place = in_order_from is (suc place)
in_order_from (item.Function is_static result name void_word params (Some body) line second ∷ is) place = (λ g o. from_place is (suc place) g o, in_order_from is (suc place))
in_order_from (item.Cle p line ∷ is) place = in_order_from is (suc place)

pub in_order : (program : Program) → InOrder (functions_of program)
unfolding functions_of
in_order program = in_order_from program.items 0

-- ---- distinct names

-- none of the facts has a name that is defined
abbrev pub Unbound : Env → List FnFact → Type 0
Unbound defined fs = (f : FnFact) → OneOf fs f → is_bound defined f.name ≡ false

bound_by : (b : Bool) (x : Entry) (o : Option Entry) → is_some (if b then Some x else o) ≡ false → (b ≡ false) × (is_some o ≡ false)
bound_by true x o h = absurd cc
bound_by false x o h = (refl, h)

unbound_behind : (name : Word) (e : Entry) (defined : Env) (other : Word) → is_bound (binding name e ∷ defined) other ≡ false → (bytes_eq name other ≡ false) × (is_bound defined other ≡ false)
unfolding is_bound meaning
unbound_behind name e defined other h = bound_by (bytes_eq name other) e (meaning defined other) h

fits_unbound : (so : Declared) (name : Word) (body : List Stmt) → function_fits so name (Some body) ≡ true → is_bound so.defined name ≡ false
fits_unbound so name body h =
    not_false (is_bound so.defined name) (both (is_free (meaning so.names name)) _ (both (not (is_library name)) _ h).1).1

differ : (a b : Word) → bytes_eq a b ≡ false → a ≡ b → ⊥
differ a b h e = let f : bytes_eq a b ≡ true = word_same a b e in absurd cc

distinct_from : (is : List Item) (place : ℕ) (so : Declared) → items_twice so is ≡ [] → Distinct (functions_from place is) × Unbound so.defined (functions_from place is)
unfolding functions_from function_facts items_twice item_twice defined_after
distinct_from [] place so e = (tt, λ f o. absurd o)
distinct_from (item.Struct name members line ∷ is) place so e = distinct_from is (suc place) (declared_after so (item.Struct name members line)) (none_of (item_twice so (item.Struct name members line)) _ e).1
distinct_from (item.Variables d ∷ is) place so e = distinct_from is (suc place) (declared_after so (item.Variables d)) (none_of (item_twice so (item.Variables d)) _ e).1
distinct_from (item.Function is_static result name void_word params None line second ∷ is) place so e =
    distinct_from is (suc place) (declared_after so (item.Function is_static result name void_word params None line second)) (none_of (item_twice so (item.Function is_static result name void_word params None line second)) _ e).1
distinct_from (item.Function is_static result name void_word params (Some body) line second ∷ is) place so e =
    let i = item.Function is_static result name void_word params (Some body) line second in
    let p = none_of (item_twice so i) (items_twice (declared_after so i) is) e in
    let u = fits_unbound so name body (holds (function_fits so name (Some body)) second (none_of (unless (function_fits so name (Some body)) second) _ p.0).0) in
    added name (record { name = name; item = place; line = second }) refl u (distinct_from is (suc place) (declared_after so i) p.1)
  where
    added : (n : Word) (f : FnFact) → f.name ≡ n → is_bound so.defined n ≡ false
        → Distinct (functions_from (suc place) is) × Unbound (binding n (function result (types_of params)) ∷ so.defined) (functions_from (suc place) is)
        → Distinct (f ∷ functions_from (suc place) is) × Unbound so.defined (f ∷ functions_from (suc place) is)
    added n f q u h = (
      (λ g o k. differ n g.name (unbound_behind n (function result (types_of params)) so.defined g.name (h.1 g o)).0 (sym q ∙ k), h.0),
      unbound,
    )
      where
        unbound : Unbound so.defined (f ∷ functions_from (suc place) is)
        unbound g (inl o) = ap (λ (w : FnFact). is_bound so.defined w.name) o ∙ ap (λ (w : Word). is_bound so.defined w) q ∙ u
        unbound g (inr o) = (unbound_behind n (function result (types_of params)) so.defined g.name (h.1 g o)).1
distinct_from (item.Cle p line ∷ is) place so e = distinct_from is (suc place) (declared_after so (item.Cle p line)) (none_of (item_twice so (item.Cle p line)) _ e).1

pub distinct : (program : Program) → AllHold (rules program) → Distinct (functions_of program)
unfolding functions_of twice
distinct program h = (distinct_from program.items 0 _ h.1.1.0).0

-- ---- main

any_one : (p : Item → Bool) (is : List Item) → list_any p is ≡ true → (k : ℕ) × (i : Item) × (slice_get is k ≡ Some i) × (p i ≡ true)
any_one p [] h = absurd cc
any_one p (i ∷ is) h = at_one (p i) refl h (any_one p is)
  where
    at_one : (b : Bool) → p i ≡ b → (b || list_any p is) ≡ true → (list_any p is ≡ true → (k : ℕ) × (j : Item) × (slice_get is k ≡ Some j) × (p j ≡ true)) → (k : ℕ) × (j : Item) × (slice_get (i ∷ is) k ≡ Some j) × (p j ≡ true)
    at_one true e q rest = (0, i, refl, e)
    at_one false e q rest = let r = rest q in (suc r.0, r.1, r.2, r.3)

int_is : (t : CType) (o : Option IntKind) → kind_of t ≡ o → is_int o ≡ true → t ≡ Integer I32
int_is t None e h = absurd cc
int_is t (Some k) e h = kind_is t k e ∙ ap Integer (same_kind_is k I32 h)

none_are : (ds : List Declarator) → none ds ≡ true → ds ≡ []
none_are [] h = refl
none_are (d ∷ ds) h = absurd cc

main_is : (i : Item) → is_main i ≡ true → IsDefinition i × IsMain i
unfolding is_main
main_is (item.Struct name members line) h = absurd cc
main_is (item.Variables d) h = absurd cc
main_is (item.Function is_static result name void_word params None line second) h = absurd cc
main_is (item.Function is_static result name void_word params (Some body) line second) h =
    let p = both (bytes_eq name (codes "main")) _ h in
    let q = both (is_int (kind_of result)) _ p.1 in
    (tt, (same_word name (codes "main") p.0, int_is result (kind_of result) refl q.0, none_are params q.1))
main_is (item.Cle p line) h = absurd cc

fact_named : (f : FnFact) (i : Item) → IsFactOf f i → IsMain i → f.name ≡ codes "main"
fact_named f (item.Struct name members line) h m = absurd h
fact_named f (item.Variables d) h m = absurd h
fact_named f (item.Function is_static result name void_word params None line second) h m = absurd h
fact_named f (item.Function is_static result name void_word params (Some body) line second) h m = h.0 ∙ m.0
fact_named f (item.Cle p line) h m = absurd h

pub has_main : (program : Program) → AllHold (rules program) → HasMain program
unfolding no_main
has_main program h =
    let b = both (list_any is_main program.items) _ (holds (list_any is_main program.items && list_any item_defines program.items) 1 h.1.1.1.1.1.1.0) in
    let a = any_one is_main program.items b.0 in
    let m = main_is a.1 a.3 in
    let f = each_listed program a.0 a.1 a.2 m.0 in
    record {
      fact = f.0;
      item = a.1;
      listed = f.1;
      named = fact_named f.0 a.1 f.3 m.1;
      stands = ap (λ k. slice_get program.items k) f.2 ∙ a.2;
      is_main = m.1;
    }

-- ---- objects

objects_match : (owner : Option ℕ) (place : ℕ) (ds : List Declarator) (os : List ObjFact) (es : List Declarator) → AreObjectsOf os es → AreObjectsOf (map (object_fact owner place) ds ++ os) (ds ++ es)
objects_match owner place [] os es h = h
objects_match owner place (d ∷ ds) os es h = ((refl, refl, refl), objects_match owner place ds os es h)

all_match : (is : List Item) (place number : ℕ) → AreObjectsOf (objects_from place number is) (flat_map item_statics is)
unfolding objects_from object_facts number_after
all_match [] place number = tt
all_match (item.Struct name members line ∷ is) place number = all_match is (suc place) number
all_match (item.Variables d ∷ is) place number = objects_match None place d.names _ _ (all_match is (suc place) number)
all_match (item.Function is_static result name void_word params None line second ∷ is) place number = all_match is (suc place) number
all_match (item.Function is_static result name void_word params (Some body) line second ∷ is) place number =
    objects_match (Some number) place (flat_map statics_in body) _ _ (all_match is (suc place) (suc number))
all_match (item.Cle p line ∷ is) place number = all_match is (suc place) number

pub objects_each : (program : Program) → AreObjectsOf (objects_of program) (flat_map item_statics program.items)
unfolding objects_of
objects_each program = all_match program.items 0 0

one_mapped : (owner : Option ℕ) (place : ℕ) (ds : List Declarator) (o : ObjFact) → OneOf (map (object_fact owner place) ds) o → (d : Declarator) × OneOf ds d × IsObjectOf o d × (o.owner ≡ owner) × (o.item ≡ place)
one_mapped owner place [] o h = absurd h
one_mapped owner place (d ∷ ds) o (inl h) =
    (d, inl refl, (ap (λ (w : ObjFact). w.name) h, ap (λ (w : ObjFact). w.ctype) h, ap (λ (w : ObjFact). w.line) h), ap (λ (w : ObjFact). w.owner) h, ap (λ (w : ObjFact). w.item) h)
one_mapped owner place (d ∷ ds) o (inr h) = let r = one_mapped owner place ds o h in (r.0, inr r.1, r.2, r.3, r.4)

-- an object of an item, whose numbers and its owner's are counted on
pub record ObjectFrom (place number : ℕ) (is : List Item) (o : ObjFact) : Type 0 where
  pub steps : ℕ
  pub item : Item
  pub declarator : Declarator
  pub numbered : o.item ≡ place + steps
  pub stands : slice_get is steps ≡ Some item
  pub declares : OneOf (item_statics item) declarator
  pub is_its : IsObjectOf o declarator
  pub owner : OwnerFits o.owner item
  pub listed : (k : ℕ) → o.owner ≡ Some k → (j : ℕ) × (f : FnFact) × (k ≡ number + j) × (slice_get (functions_from place is) j ≡ Some f) × (f.item ≡ o.item)

object_later : (place n m : ℕ) (i : Item) (is : List Item) (o : ObjFact) → (h : ObjectFrom (suc place) n is o)
    → ((k : ℕ) → o.owner ≡ Some k → (j : ℕ) × (f : FnFact) × (k ≡ m + j) × (slice_get (functions_from place (i ∷ is)) j ≡ Some f) × (f.item ≡ o.item)) → ObjectFrom place m (i ∷ is) o
object_later place n m i is o h l =
    let e : o.item ≡ suc place + h.steps = h.numbered in
    record { steps = suc h.steps; item = h.item; declarator = h.declarator; numbered = omega arith; stands = h.stands; declares = h.declares; is_its = h.is_its; owner = h.owner; listed = l }

no_function : (place n : ℕ) (i : Item) (is : List Item) (o : ObjFact) → functions_from place (i ∷ is) ≡ functions_from (suc place) is → ObjectFrom (suc place) n is o → ObjectFrom place n (i ∷ is) o
no_function place n i is o e h =
    object_later place n n i is o h (λ k p. let l = h.listed k p in (l.0, l.1, l.2, ap (λ (w : List FnFact). slice_get w l.0) e ∙ l.3, l.4))

one_function : (place n : ℕ) (i : Item) (is : List Item) (o : ObjFact) (f : FnFact) → functions_from place (i ∷ is) ≡ f ∷ functions_from (suc place) is → ObjectFrom (suc place) (suc n) is o → ObjectFrom place n (i ∷ is) o
one_function place n i is o f e h =
    object_later place (suc n) n i is o h (λ k p.
    let l = h.listed k p in
    let q : k ≡ suc n + l.0 = l.2 in
    (suc l.0, l.1, omega arith, ap (λ (w : List FnFact). slice_get w (suc l.0)) e ∙ l.3, l.4))

in_variables : (d : Declaration) (place n : ℕ) (is : List Item) (o : ObjFact) → (e : Declarator) → OneOf d.names e → IsObjectOf o e → o.owner ≡ None → o.item ≡ place → ObjectFrom place n (item.Variables d ∷ is) o
in_variables d place n is o e one its owner number =
    record {
      steps = 0;
      item = item.Variables d;
      declarator = e;
      numbered = omega arith;
      stands = refl;
      declares = one;
      is_its = its;
      owner = subst (λ (w : Option ℕ). OwnerFits w (item.Variables d)) (sym owner) tt;
      listed = λ k p. absurd (none_some k (sym owner ∙ p));
    }
  where
    none_some : (k : ℕ) → ◌≡◌ {A = Option ℕ} None (Some k) → ⊥
    none_some k q = cc

some_number : (a b : ℕ) → ◌≡◌ {A = Option ℕ} (Some a) (Some b) → b ≡ a
some_number a b e = cc

in_function : (is_static : Bool) (result : CType) (name : Word) (void_word : Bool) (params : List Declarator) (body : List Stmt) (line second : ℕ) (place n : ℕ) (is : List Item) (o : ObjFact) (e : Declarator)
    → OneOf (flat_map statics_in body) e → IsObjectOf o e → o.owner ≡ Some n → o.item ≡ place → ObjectFrom place n (item.Function is_static result name void_word params (Some body) line second ∷ is) o
unfolding functions_from function_facts
in_function is_static result name void_word params body line second place n is o e one its owner number =
    record {
      steps = 0;
      item = item.Function is_static result name void_word params (Some body) line second;
      declarator = e;
      numbered = omega arith;
      stands = refl;
      declares = one;
      is_its = its;
      owner = subst (λ (w : Option ℕ). OwnerFits w (item.Function is_static result name void_word params (Some body) line second)) (sym owner) tt;
      listed = λ k p.
          let q : k ≡ n = some_number n k (sym owner ∙ p) in
          (0, record { name = name; item = place; line = second }, omega arith, refl, sym number);
    }

object_found : (is : List Item) (place n : ℕ) (o : ObjFact) → OneOf (objects_from place n is) o → ObjectFrom place n is o
unfolding objects_from object_facts number_after functions_from function_facts
object_found [] place n o h = absurd h
object_found (item.Struct name members line ∷ is) place n o h = no_function place n _ is o refl (object_found is (suc place) n o h)
object_found (item.Variables d ∷ is) place n o h = which (object_found is (suc place) n o) (one_split (map (object_fact None place) d.names) (objects_from (suc place) n is) o h)
  where
    which : (OneOf (objects_from (suc place) n is) o → ObjectFrom (suc place) n is o) → OneOf (map (object_fact None place) d.names) o ⊎ OneOf (objects_from (suc place) n is) o → ObjectFrom place n (item.Variables d ∷ is) o
    which rest (inl a) = let r = one_mapped None place d.names o a in in_variables d place n is o r.0 r.1 r.2 r.3 r.4
    which rest (inr a) = no_function place n (item.Variables d) is o refl (rest a)
object_found (item.Function is_static result name void_word params None line second ∷ is) place n o h = no_function place n _ is o refl (object_found is (suc place) n o h)
object_found (item.Function is_static result name void_word params (Some body) line second ∷ is) place n o h =
    which (object_found is (suc place) (suc n) o) (one_split (map (object_fact (Some n) place) (flat_map statics_in body)) (objects_from (suc place) (suc n) is) o h)
  where
    which : (OneOf (objects_from (suc place) (suc n) is) o → ObjectFrom (suc place) (suc n) is o) → OneOf (map (object_fact (Some n) place) (flat_map statics_in body)) o ⊎ OneOf (objects_from (suc place) (suc n) is) o
        → ObjectFrom place n (item.Function is_static result name void_word params (Some body) line second ∷ is) o
    which rest (inl a) =
        let r = one_mapped (Some n) place (flat_map statics_in body) o a in
        in_function is_static result name void_word params body line second place n is o r.0 r.1 r.2 r.3 r.4
    which rest (inr a) =
        one_function place n (item.Function is_static result name void_word params (Some body) line second) is o (record { name = name; item = place; line = second }) refl (rest a)
object_found (item.Cle p line ∷ is) place n o h = no_function place n _ is o refl (object_found is (suc place) n o h)

pub object_is : (program : Program) (o : ObjFact) → OneOf (objects_of program) o → ObjectOfProgram program o
unfolding objects_of
object_is program o h =
    let f = object_found program.items 0 0 o h in
    let n : o.item ≡ 0 + f.steps = f.numbered in
    let e : o.item ≡ f.steps = omega arith in
    record {
      item = f.item;
      declarator = f.declarator;
      stands = ap (λ k. slice_get program.items k) e ∙ f.stands;
      declares = f.declares;
      is_its = f.is_its;
      owner = f.owner;
    }

pub owner_is : (program : Program) (o : ObjFact) → OneOf (objects_of program) o → OwnerListed program o
unfolding objects_of functions_of
owner_is program o h k p =
    let f = object_found program.items 0 0 o h in
    let l = f.listed k p in
    let n : k ≡ 0 + l.0 = l.2 in
    let e : k ≡ l.0 = omega arith in
    (l.1, ap (λ j. slice_get (functions_from 0 program.items) j) e ∙ l.3, l.4)
