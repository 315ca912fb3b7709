-- The meaning has the variables of a file as the rules know them.
use Rattle.std.proofs.Common.{◌≡◌, ℕ, suc, List, [], ◌∷◌, map, refl, sym, ap, ◌∙◌, Bool, true, false, not, ◌==◌, cond, Option, Some, None, subst, bytes_eq, if◌then◌else◌, inl, inr}
use Rattle.std.specs.Prelude.{filter, is_some}
use Rattle.std.specs.List.{flat_map}
use Rattle.cl_tree.specs.declared.tree.CType.{CType}
use Rattle.cl_tree.specs.declared.tree.Declarator.{Declarator}
use Rattle.cl_tree.specs.declared.tree.Item.{Item}
use Rattle.cl_tree.specs.declared.tree.Item.TheVariants as item
use Rattle.cl_tree.specs.Words.{Word}
use Rattle.cl_mean.specs.declared.checked.Checked.{Checked}
use Rattle.cl_mean.specs.declared.checked.ObjFact.{ObjFact}
use Rattle.cl_mean.specs.Shape.{Structs as Shapes, shape_of, structs_of}
use Rattle.cl_mean.specs.Source.{Binding, Env as Bindings, binding_of, Static, rest_of, level_of_object, statics_from, item_statics, is_global, source_of, known_at}
use Rattle.cl_typing.specs.Rules.{AllHold}
use Rattle.cl_typing.specs.Scope.{Entry, variable, function, structure, Env, meaning, is_bound, is_library, bound, with_names, types_of, env_after}
use Rattle.cl_typing.specs.Twice.{name_twice, names_twice, is_free, function_fits, item_twice}
use Rattle.cl_typing.specs.Facts.{objects_of}
use Rattle.cl_typing.specs.Typing.{rules}
use Rattle.typing_laws.specs.Standing.{OneOf, Level, outermost, level_after, AmongItems, ItemStands}
use Rattle.typing_laws.specs.Listed.{OwnerFits}
use Rattle.typing_laws.specs.Meant.{NamesMatch}
use Rattle.typing_laws.proofs.Lists.{none_of, holds, both, same_word, word_same}
use Rattle.typing_laws.proofs.Once.{ItemOnce, so_far, program_once}
use Rattle.typing_laws.proofs.Agreeing.{AllOnce, fresh_bound, names_kept, found_bound}
use Rattle.typing_laws.proofs.Listing.{object_is}
use Rattle.typing_laws.proofs.SameFunctions.{some_one, one_among}

-- ---- a variable of the file is declared once

not_free : (o : Option Entry) (t : CType) → o ≡ Some (variable t) → is_free o ≡ true → ⊥
not_free (Some (variable u)) t e h = cc
not_free (Some (function r ps)) t e h = cc
not_free (Some (structure ms)) t e h = cc
not_free None t e h = cc

kept_other : (b : Bool) (f : Entry) (o p : Option Entry) → (b ≡ true → ⊥) → o ≡ p → (if b then Some f else o) ≡ p
kept_other true f o p n h = absurd (n refl)
kept_other false f o p n h = h

variable_persists : (i : Item) (level : Level) → ItemOnce i level → (name : Word) (t : CType) → meaning level.names name ≡ Some (variable t) → meaning (env_after i level.names) name ≡ Some (variable t)
unfolding item_twice env_after
variable_persists (item.Struct n members line) level k name t m = m
variable_persists (item.Variables d) level k name t m = names_kept d.names level.names name (variable t) k.1 m
variable_persists (item.Function is_static result n void_word params body line second) level k name t m =
    unfold meaning in kept_other (bytes_eq n name) (function result (types_of params)) (meaning level.names name) (Some (variable t)) other m
  where
    other : bytes_eq n name ≡ true → ⊥
    other e =
        not_free (meaning level.names n) t (ap (λ (w : Word). meaning level.names w) (same_word n name e) ∙ m)
        (both (is_free (meaning level.names n)) _ (both (not (is_library n)) _ (holds (function_fits (so_far level k.0) n body) second (none_of _ _ k.1).0)).1).0
variable_persists (item.Cle p line) level k name t m = m

variable_at : (is : List Item) (level : Level) → AllOnce is level → (name : Word) (t : CType) → meaning level.names name ≡ Some (variable t) → (i : Item) (there : Level) → AmongItems is level i there → meaning there.names name ≡ Some (variable t)
variable_at [] level k name t m i there a = absurd a
variable_at (j ∷ is) level k name t m i there (inl a) = ap (λ (w : Level). meaning w.names name) a.1 ∙ m
variable_at (j ∷ is) level k name t m i there (inr a) =
    variable_at is (level_after j level) (λ u w q. k u w (inr q)) name t (variable_persists j level (k j level (inl (refl, refl))) name t m) i there a

own_first : (b : Bool) (f : Entry) (o : Option Entry) → b ≡ true → (if b then Some f else o) ≡ Some f
own_first true f o e = refl
own_first false f o e = absurd cc

declared_means : (ds : List Declarator) (names : Env) → names_twice names ds ≡ [] → (d : Declarator) → OneOf ds d → meaning (with_names ds names) d.name ≡ Some (variable d.ctype)
unfolding names_twice with_names
declared_means [] names e d o = absurd o
declared_means (c ∷ ds) names e d (inl o) =
    subst (λ (w : Declarator). meaning (with_names ds (bound c ∷ names)) w.name ≡ Some (variable w.ctype)) (sym o)
    (names_kept ds (bound c ∷ names) c.name (variable c.ctype) (none_of (name_twice names c) _ e).1
    (unfold meaning in own_first (bytes_eq c.name c.name) (variable c.ctype) (meaning names c.name) (word_same c.name c.name refl)))
declared_means (c ∷ ds) names e d (inr o) = declared_means ds (bound c ∷ names) (none_of (name_twice names c) _ e).1 d o

bound_more : (b : Bool) (f : Entry) (o : Option Entry) → is_some o ≡ true → is_some (if b then Some f else o) ≡ true
bound_more true f o h = refl
bound_more false f o h = h

not_bound : (ds : List Declarator) (names : Env) → names_twice names ds ≡ [] → (d : Declarator) → OneOf ds d → is_bound names d.name ≡ true → ⊥
unfolding names_twice
not_bound [] names e d o b = o
not_bound (c ∷ ds) names e d (inl o) b =
    fresh_bound (is_library c.name) (is_bound names c.name) c.line (none_of _ _ e).0 (subst (λ (w : Declarator). is_bound names w.name ≡ true) o b)
not_bound (c ∷ ds) names e d (inr o) b =
    not_bound ds (bound c ∷ names) (none_of (name_twice names c) _ e).1 d o
    (unfold is_bound in unfold meaning in bound_more (bytes_eq c.name d.name) (variable c.ctype) (meaning names d.name) b)

abbrev pub Declares : Item → Declarator → Type 0
Declares (item.Variables v) d = OneOf v.names d
Declares _ d = ⊥

declared_fresh : (i : Item) (level : Level) → ItemOnce i level → (d : Declarator) → Declares i d → is_bound level.names d.name ≡ true → ⊥
unfolding item_twice
declared_fresh (item.Struct n members line) level k d o b = o
declared_fresh (item.Variables v) level k d o b = not_bound v.names level.names k.1 d o b
declared_fresh (item.Function is_static result n void_word params body line second) level k d o b = o
declared_fresh (item.Cle p line) level k d o b = o

declared_behind : (i : Item) (level : Level) → ItemOnce i level → (d : Declarator) → Declares i d → meaning (env_after i level.names) d.name ≡ Some (variable d.ctype)
unfolding item_twice env_after
declared_behind (item.Struct n members line) level k d o = absurd o
declared_behind (item.Variables v) level k d o = declared_means v.names level.names k.1 d o
declared_behind (item.Function is_static result n void_word params body line second) level k d o = absurd o
declared_behind (item.Cle p line) level k d o = absurd o

same_variable : (o : Option Entry) (t u : CType) → o ≡ Some (variable t) → o ≡ Some (variable u) → u ≡ t
same_variable o t u e f = let g : variable t ≡ variable u = cc in cc

-- a variable that is known at an item is the one that the file declares under its name
pub variable_alike : (is : List Item) (level : Level) → AllOnce is level → (c : Item) (at : Level) → AmongItems is level c at → (d : Declarator) (t : CType) → meaning at.names d.name ≡ Some (variable t)
    → (i : Item) (there : Level) → AmongItems is level i there → Declares i d → d.ctype ≡ t
variable_alike [] level k c at a d t m i there b o = absurd a
variable_alike (j ∷ is) level k c at (inl a) d t m i there b o =
    let n : meaning level.names d.name ≡ Some (variable t) = subst (λ (w : Level). meaning w.names d.name ≡ Some (variable t)) a.1 m in
    absurd (declared_fresh i there (k i there b) d o (found_bound there.names d.name (variable t) (variable_at (j ∷ is) level k d.name t n i there b)))
variable_alike (j ∷ is) level k c at (inr a) d t m i there (inl b) o =
    let once : ItemOnce j level = k j level (inl (refl, refl)) in
    let n : meaning (env_after j level.names) d.name ≡ Some (variable d.ctype) = declared_behind j level once d (subst (λ (w : Item). Declares w d) b.0 o) in
    same_variable (meaning at.names d.name) t d.ctype m
    (variable_at is (level_after j level) (λ u w q. k u w (inr q)) d.name d.ctype n c at a)
variable_alike (j ∷ is) level k c at (inr a) d t m i there (inr b) o = variable_alike is (level_after j level) (λ u w q. k u w (inr q)) c at a d t m i there b o

-- ---- the meaning's names of a file

binding_one : (bs : Bindings) (name : Word) (b : Binding) → binding_of bs name ≡ Some b → OneOf bs b × (b.name ≡ name)
unfolding binding_of
binding_one [] name b h = absurd cc
binding_one (c ∷ bs) name b h = one (bytes_eq c.name name) refl h (binding_one bs name b)
  where
    one : (t : Bool) → bytes_eq c.name name ≡ t → (if t then Some c else binding_of bs name) ≡ Some b → (binding_of bs name ≡ Some b → OneOf bs b × (b.name ≡ name)) → OneOf (c ∷ bs) b × (b.name ≡ name)
    one true e f rest = let g : b ≡ c = cc in (inl g, ap (λ (w : Binding). w.name) g ∙ same_word c.name name e)
    one false e f rest = let r = rest f in (inr r.0, r.1)

filter_one : {A : Type 0} (p : A → Bool) (xs : List A) (x : A) → OneOf (filter p xs) x → OneOf xs x × (p x ≡ true)
filter_one p [] x o = absurd o
filter_one p (y ∷ ys) x o = one (p y) refl o (filter_one p ys x)
  where
    one : (b : Bool) → p y ≡ b → OneOf (cond b (y ∷ filter p ys) (filter p ys)) x → (OneOf (filter p ys) x → OneOf ys x × (p x ≡ true)) → OneOf (y ∷ ys) x × (p x ≡ true)
    one true e (inl q) rest = (inl q, ap p q ∙ e)
    one true e (inr q) rest = let r = rest q in (inr r.0, r.1)
    one false e q rest = let r = rest q in (inr r.0, r.1)

map_one : {A B : Type 0} (f : A → B) (xs : List A) (y : B) → OneOf (map f xs) y → (x : A) × OneOf xs x × (y ≡ f x)
map_one f [] y o = absurd o
map_one f (x ∷ xs) y (inl o) = (x, inl refl, o)
map_one f (x ∷ xs) y (inr o) = let r = map_one f xs y o in (r.0, inr r.1, r.2)

-- the object of a fact
pub record StaticOf (structs : Shapes) (s : Static) (o : ObjFact) : Type 0 where
  pub owner : s.owner ≡ o.owner
  pub name : s.binding.name ≡ o.name
  pub shape : s.binding.shape ≡ shape_of structs o.ctype

statics_are : (checked : Checked) (structs : Shapes) (k : ℕ) (seen : List ℕ) (os : List ObjFact) (ds : List Declarator) (s : Static) → OneOf (statics_from checked structs k seen os ds) s → (o : ObjFact) × OneOf os o × StaticOf structs s o
unfolding statics_from
statics_are checked structs k seen [] ds s h = absurd h
statics_are checked structs k seen (o ∷ os) ds s (inl h) =
    (o, inl refl, record { owner = ap (λ (w : Static). w.owner) h; name = ap (λ (w : Static). w.binding.name) h; shape = ap (λ (w : Static). w.binding.shape) h })
statics_are checked structs k seen (o ∷ os) ds s (inr h) = let r = statics_are checked structs (suc k) (level_of_object checked k ds ∷ seen) os (rest_of ds) s h in (r.0, inr r.1, r.2)

unowned : (s : Static) (o : Option ℕ) → s.owner ≡ o → is_global s ≡ true → o ≡ None
unowned s None e h = refl
unowned s (Some k) e h = let g : is_global (record s { owner = Some k }) ≡ true = subst (λ (w : Option ℕ). is_global (record s { owner = w }) ≡ true) e h in absurd cc

-- a binding of the file is that of an object without an owner
pub record GlobalOf (structs : Shapes) (os : List ObjFact) (name : Word) (b : Binding) : Type 0 where
  pub object : ObjFact
  pub listed : OneOf os object
  pub named : object.name ≡ name
  pub shape : b.shape ≡ shape_of structs object.ctype
  pub owner : object.owner ≡ None

among_globals : (checked : Checked) (structs : Shapes) (os : List ObjFact) (ds : List Declarator) (p : Binding → Bool) (name : Word) (b : Binding)
    → binding_of (filter p (map (λ s. s.binding) (filter is_global (statics_from checked structs 0 [] os ds)))) name ≡ Some b → GlobalOf structs os name b
among_globals checked structs os ds p name b h =
    let x = binding_one _ name b h in
    let y = filter_one p (map (λ s. s.binding) (filter is_global (statics_from checked structs 0 [] os ds))) b x.0 in
    let z = map_one (λ s. s.binding) (filter is_global (statics_from checked structs 0 [] os ds)) b y.0 in
    let w = filter_one is_global (statics_from checked structs 0 [] os ds) z.0 z.1 in
    let o = statics_are checked structs 0 [] os ds z.0 w.0 in
    record {
      object = o.0;
      listed = o.1;
      named = sym o.2.name ∙ ap (λ (v : Binding). v.name) (sym z.2) ∙ x.1;
      shape = ap (λ (v : Binding). v.shape) z.2 ∙ o.2.shape;
      owner = sym o.2.owner ∙ unowned z.0 z.0.owner refl w.1;
    }

global_of : (checked : Checked) (level : ℕ) (name : Word) (b : Binding) → binding_of (known_at (source_of checked) level) name ≡ Some b → GlobalOf (source_of checked).structs checked.typed.objects name b
unfolding source_of
global_of checked level name b h = among_globals checked (structs_of checked.typed.program.items) checked.typed.objects (flat_map item_statics checked.typed.program.items) (λ c. c.place.level == level) name b h

-- an object without an owner is declared by an item of variables
unowned_declares : (i : Item) (owner : Option ℕ) (d : Declarator) → owner ≡ None → OwnerFits owner i → OneOf (item_statics i) d → Declares i d
unowned_declares i (Some k) d e f o = absurd cc
unowned_declares (item.Struct n members line) None d e f o = absurd f
unowned_declares (item.Variables v) None d e f o = o
unowned_declares (item.Function is_static result n void_word params body line second) None d e f o = absurd f
unowned_declares (item.Cle p line) None d e f o = absurd f

module _ (checked : Checked) (h : AllHold (rules checked.typed.program)) (objects : checked.typed.objects ≡ objects_of checked.typed.program) where
  pub globals_match : (i : Item) (level : Level) → ItemStands checked.typed.program i level → (number : ℕ) → NamesMatch (source_of checked).structs level.names (known_at (source_of checked) number)
  globals_match i level a number name t b m f =
      let program = checked.typed.program in
      let g = global_of checked number name b f in
      let o = object_is program g.object (subst (λ (w : List ObjFact). OneOf w g.object) objects g.listed) in
      let j = one_among program.items outermost o.item (some_one program.items g.object.item o.item o.stands) in
      let n : o.declarator.name ≡ name = sym o.is_its.0 ∙ g.named in
      let e = variable_alike program.items outermost (program_once program h.1.1.0) i level a o.declarator t (ap (λ (w : Word). meaning level.names w) n ∙ m)
      o.item j.0 j.1 (unowned_declares o.item g.object.owner o.declarator g.owner o.owner o.declares) in
      g.shape ∙ ap (shape_of (source_of checked).structs) (o.is_its.1 ∙ e)
