-- Functions: each that is called is defined, with the result and the parameters by which it is known where it is called.
use Rattle.std.proofs.Common.{◌≡◌, ℕ, List, [], ◌∷◌, refl, sym, ap, ◌∙◌, Bool, true, false, not, ◌&&◌, ◌||◌, Option, Some, None, subst, bytes_eq, if◌then◌else◌, inl, inr, ◌⊎◌}
use Rattle.std.specs.Prelude.{is_some}
use Rattle.cl_tree.specs.declared.tree.CType.{CType}
use Rattle.cl_tree.specs.declared.tree.Declarator.{Declarator}
use Rattle.cl_tree.specs.declared.tree.Stmt.{Stmt}
use Rattle.cl_tree.specs.declared.tree.Item.{Item}
use Rattle.cl_tree.specs.declared.tree.Item.TheVariants as item
use Rattle.cl_tree.specs.declared.tree.Program.{Program}
use Rattle.cl_tree.specs.Words.{Word}
use Rattle.cl_typing.specs.Rules.{unless}
use Rattle.cl_typing.specs.Scope.{Entry, variable, function, structure, Env, meaning, is_bound, is_library, bound, with_names, types_of, env_after, defined_after, defined_in}
use Rattle.cl_typing.specs.Types.{same_type, is_result_type}
use Rattle.cl_typing.specs.Twice.{name_twice, names_twice, item_twice}
use Rattle.cl_typing.specs.Wrong.{same_types, agrees, item_wrong}
use Rattle.typing_laws.specs.Standing.{OneOf, Level, outermost, level_after, AmongItems, ItemStands}
use Rattle.typing_laws.specs.Named.{Defines, IsDefined}
use Rattle.typing_laws.proofs.Lists.{none_of, holds, both, same_word, word_same}
use Rattle.typing_laws.proofs.TypeForms.{type_same}
use Rattle.typing_laws.proofs.Items.{ItemRight}
use Rattle.typing_laws.proofs.Once.{ItemOnce}

-- ---- declarations that agree

same_types_are : (ts us : List CType) → same_types ts us ≡ true → ts ≡ us
unfolding same_types
same_types_are [] [] h = refl
same_types_are [] (u ∷ us) h = absurd cc
same_types_are (t ∷ ts) [] h = absurd cc
same_types_are (t ∷ ts) (u ∷ us) h =
    let p = both (same_type t u) _ h in
    let e : t ≡ u = type_same t u p.0 in
    let f : ts ≡ us = same_types_are ts us p.1 in
    cc

agreed : (o : Option Entry) (r : CType) (ps : List CType) (result : CType) (types : List CType) → o ≡ Some (function r ps) → agrees o result types ≡ true → (r ≡ result) × (ps ≡ types)
unfolding agrees
agreed (Some (function q qs)) r ps result types e h =
    let p = both (same_type q result) _ h in
    let f : q ≡ result = type_same q result p.0 in
    let g : qs ≡ types = same_types_are qs types p.1 in
    let d : q ≡ r = cc in
    let k : qs ≡ ps = cc in
    (sym d ∙ f, sym k ∙ g)
agreed (Some (variable t)) r ps result types e h = absurd cc
agreed (Some (structure ms)) r ps result types e h = absurd cc
agreed None r ps result types e h = absurd cc

item_agreed : (is_static : Bool) (result : CType) (name : Word) (void_word : Bool) (params : List Declarator) (body : Option (List Stmt)) (line second : ℕ) (level : Level) (r : CType) (ps : List CType)
    → ItemRight (item.Function is_static result name void_word params body line second) level → meaning level.names name ≡ Some (function r ps) → (r ≡ result) × (ps ≡ types_of params)
unfolding item_wrong
item_agreed is_static result name void_word params body line second level r ps h m =
    agreed (meaning level.names name) r ps result (types_of params) m
    (both (is_result_type result) _ (holds (is_result_type result && agrees (meaning level.names name) result (types_of params)) line (none_of _ _ h).0)).1

-- ---- a function keeps its meaning in the file

abbrev pub Function : CType → List CType → Option Entry
Function r ps = Some (function r ps)

kept_by : (b : Bool) (x : Entry) (o p : Option Entry) → (b ≡ true → ⊥) → o ≡ p → (if b then Some x else o) ≡ p
kept_by true x o p n h = absurd (n refl)
kept_by false x o p n h = h

pub found_bound : (names : Env) (name : Word) (e : Entry) → meaning names name ≡ Some e → is_bound names name ≡ true
unfolding is_bound
found_bound names name e h = ap is_some h

pub fresh_bound : (l b : Bool) (line : ℕ) → unless (not (l || b)) line ≡ [] → b ≡ true → ⊥
fresh_bound true b line e h = cc
fresh_bound false true line e h = cc
fresh_bound false false line e h = cc

pub names_kept : (ds : List Declarator) (names : Env) (name : Word) (e : Entry) → names_twice names ds ≡ [] → meaning names name ≡ Some e → meaning (with_names ds names) name ≡ Some e
unfolding names_twice with_names meaning
names_kept [] names name e h m = m
names_kept (d ∷ ds) names name e h m =
    let other : bytes_eq d.name name ≡ true → ⊥ = λ p.
    fresh_bound (is_library d.name) (is_bound names d.name) d.line (none_of _ _ h).0
    (ap (λ (w : Word). is_bound names w) (same_word d.name name p) ∙ found_bound names name e m) in
    names_kept ds (bound d ∷ names) name e (none_of (name_twice names d) _ h).1
    (kept_by (bytes_eq d.name name) (variable d.ctype) (meaning names name) (Some e) other m)

with_function : (b : Bool) (f : Entry) (o p : Option Entry) → o ≡ p → (b ≡ true → Some f ≡ p) → (if b then Some f else o) ≡ p
with_function true f o p h k = k refl
with_function false f o p h k = h

pub persist : (i : Item) (level : Level) → ItemOnce i level → ItemRight i level → (name : Word) (r : CType) (ps : List CType) → meaning level.names name ≡ Some (function r ps) → meaning (env_after i level.names) name ≡ Some (function r ps)
unfolding item_twice env_after
persist (item.Struct n members line) level k h name r ps m = m
persist (item.Variables d) level k h name r ps m = names_kept d.names level.names name (function r ps) k.1 m
persist (item.Function is_static result n void_word params body line second) level k h name r ps m =
    unfold meaning in with_function (bytes_eq n name) (function result (types_of params)) (meaning level.names name) (Some (function r ps)) m
    (λ e. same_function (item_agreed is_static result n void_word params body line second level r ps h (ap (λ (w : Word). meaning level.names w) (same_word n name e) ∙ m)))
  where
    same_function : (r ≡ result) × (ps ≡ types_of params) → Some (function result (types_of params)) ≡ Some (function r ps)
    same_function e = let f : r ≡ result = e.0 in let g : ps ≡ types_of params = e.1 in cc
persist (item.Cle p line) level k h name r ps m = m

abbrev pub AllOnce : List Item → Level → Type 0
AllOnce is level = (i : Item) (there : Level) → AmongItems is level i there → ItemOnce i there

abbrev pub AllRight : List Item → Level → Type 0
AllRight is level = (i : Item) (there : Level) → AmongItems is level i there → ItemRight i there

pub persists : (is : List Item) (level : Level) → AllOnce is level → AllRight is level → (name : Word) (r : CType) (ps : List CType) → meaning level.names name ≡ Some (function r ps)
    → (i : Item) (there : Level) → AmongItems is level i there → meaning there.names name ≡ Some (function r ps)
persists [] level k h name r ps m i there a = absurd a
persists (j ∷ is) level k h name r ps m i there (inl a) = ap (λ (w : Level). meaning w.names name) a.1 ∙ m
persists (j ∷ is) level k h name r ps m i there (inr a) =
    persists is (level_after j level) (λ u w q. k u w (inr q)) (λ u w q. h u w (inr q)) name r ps
    (persist j level (k j level (inl (refl, refl))) (h j level (inl (refl, refl))) name r ps m) i there a

-- ---- the definition of a function agrees with what is known of it

abbrev pub DefinesName : Word → Item → Type 0
DefinesName name (item.Function is_static result n void_word params (Some body) line second) = n ≡ name
DefinesName name _ = ⊥

defines_at : (i : Item) (level : Level) → ItemRight i level → (name : Word) (r : CType) (ps : List CType) → meaning level.names name ≡ Some (function r ps) → DefinesName name i → Defines name r ps i
defines_at (item.Struct n members line) level h name r ps m d = absurd d
defines_at (item.Variables v) level h name r ps m d = absurd d
defines_at (item.Function is_static result n void_word params None line second) level h name r ps m d = absurd d
defines_at (item.Function is_static result n void_word params (Some body) line second) level h name r ps m d =
    let e = item_agreed is_static result n void_word params (Some body) line second level r ps h (ap (λ (w : Word). meaning level.names w) d ∙ m) in
    (d, sym e.0, sym e.1)
defines_at (item.Cle p line) level h name r ps m d = absurd d

own_entry : (b : Bool) (f : Entry) (o : Option Entry) (g : Entry) → b ≡ true → (if b then Some f else o) ≡ Some g → f ≡ g
own_entry true f o g e h = cc
own_entry false f o g e h = absurd cc

-- what is known behind its own item
defines_behind : (i : Item) (level : Level) (name : Word) (r : CType) (ps : List CType) → meaning (env_after i level.names) name ≡ Some (function r ps) → DefinesName name i → Defines name r ps i
unfolding env_after meaning
defines_behind (item.Struct n members line) level name r ps m d = absurd d
defines_behind (item.Variables v) level name r ps m d = absurd d
defines_behind (item.Function is_static result n void_word params None line second) level name r ps m d = absurd d
defines_behind (item.Function is_static result n void_word params (Some body) line second) level name r ps m d =
    let e : function result (types_of params) ≡ function r ps = own_entry (bytes_eq n name) (function result (types_of params)) (meaning level.names name) (function r ps) (word_same n name d) m in
    let f : result ≡ r = cc in
    let g : types_of params ≡ ps = cc in
    (d, f, g)
defines_behind (item.Cle p line) level name r ps m d = absurd d

entry_behind : (i : Item) (names : Env) (name : Word) → DefinesName name i → (result : CType) × (types : List CType) × (meaning (env_after i names) name ≡ Some (function result types)) × Defines name result types i
unfolding env_after meaning
entry_behind (item.Struct n members line) names name d = absurd d
entry_behind (item.Variables v) names name d = absurd d
entry_behind (item.Function is_static result n void_word params None line second) names name d = absurd d
entry_behind (item.Function is_static result n void_word params (Some body) line second) names name d =
    (result, types_of params, chosen (bytes_eq n name) (word_same n name d), (d, refl, refl))
  where
    chosen : (b : Bool) → b ≡ true → (if b then Some (function result (types_of params)) else meaning names name) ≡ Some (function result (types_of params))
    chosen true e = refl
    chosen false e = absurd cc
entry_behind (item.Cle p line) names name d = absurd d

defines_moved : (name : Word) (r q : CType) (ps qs : List CType) (i : Item) → ◌≡◌ {A = Option Entry} (Some (function q qs)) (Some (function r ps)) → Defines name q qs i → Defines name r ps i
defines_moved name r q ps qs i e d =
    let f : q ≡ r = cc in
    let g : qs ≡ ps = cc in
    subst (λ (w : CType). Defines name w ps i) f (subst (λ (w : List CType). Defines name q w i) g d)

-- an item that is known behind the item c, and is defined by the item d
pub defined_alike : (is : List Item) (level : Level) → AllOnce is level → AllRight is level → (name : Word) (r : CType) (ps : List CType)
    → (c : Item) (at : Level) → AmongItems is level c at → meaning (env_after c at.names) name ≡ Some (function r ps)
    → (d : Item) (there : Level) → AmongItems is level d there → DefinesName name d → Defines name r ps d
defined_alike [] level k h name r ps c at a m d there b e = absurd a
defined_alike (j ∷ is) level k h name r ps c at (inl a) m d there (inl b) e =
    defines_behind d there name r ps
    (subst (λ (w : Level). meaning (env_after d w.names) name ≡ Some (function r ps)) (a.1 ∙ sym b.1)
    (subst (λ (w : Item). meaning (env_after w at.names) name ≡ Some (function r ps)) (a.0 ∙ sym b.0) m)) e
defined_alike (j ∷ is) level k h name r ps c at (inl a) m d there (inr b) e =
    let m' : meaning (env_after j level.names) name ≡ Some (function r ps) =
    subst (λ (w : Level). meaning (env_after j w.names) name ≡ Some (function r ps)) a.1
    (subst (λ (w : Item). meaning (env_after w at.names) name ≡ Some (function r ps)) a.0 m) in
    defines_at d there (h d there (inr b)) name r ps
    (persists is (level_after j level) (λ u w q. k u w (inr q)) (λ u w q. h u w (inr q)) name r ps m' d there b) e
defined_alike (j ∷ is) level k h name r ps c at (inr a) m d there (inl b) e =
    let f = entry_behind j level.names name (subst (λ (w : Item). DefinesName name w) b.0 e) in
    let p = persists is (level_after j level) (λ u w q. k u w (inr q)) (λ u w q. h u w (inr q)) name f.0 f.1 f.2 c at a in
    let q = persist c at (k c at (inr a)) (h c at (inr a)) name f.0 f.1 p in
    subst (λ (w : Item). Defines name r ps w) (sym b.0) (defines_moved name r f.0 ps f.1 j (sym q ∙ m) f.3)
defined_alike (j ∷ is) level k h name r ps c at (inr a) m d there (inr b) e =
    defined_alike is (level_after j level) (λ u w q. k u w (inr q)) (λ u w q. h u w (inr q)) name r ps c at a m d there b e

-- ---- what is defined has an item

defined_step : (b : Bool) (x : Entry) (o : Option Entry) → is_some (if b then Some x else o) ≡ true → (b ≡ true) ⊎ (is_some o ≡ true)
defined_step true x o h = inl refl
defined_step false x o h = inr h

defined_one : (i : Item) (defined : Env) (name : Word) → is_bound (defined_after i defined) name ≡ true → DefinesName name i ⊎ (is_bound defined name ≡ true)
unfolding defined_after is_bound meaning
defined_one (item.Struct n members line) defined name h = inr h
defined_one (item.Variables v) defined name h = inr h
defined_one (item.Function is_static result n void_word params None line second) defined name h = inr h
defined_one (item.Function is_static result n void_word params (Some body) line second) defined name h =
    which (defined_step (bytes_eq n name) (function result (types_of params)) (meaning defined name) h)
  where
    which : (bytes_eq n name ≡ true) ⊎ (is_some (meaning defined name) ≡ true) → (n ≡ name) ⊎ (is_some (meaning defined name) ≡ true)
    which (inl e) = inl (same_word n name e)
    which (inr e) = inr e
defined_one (item.Cle p line) defined name h = inr h

-- the items among which a function is defined
pub record DefinedAmong (is : List Item) (level : Level) (name : Word) : Type 0 where
  pub item : Item
  pub there : Level
  pub among : AmongItems is level item there
  pub defines : DefinesName name item

pub defined_found : (is : List Item) (level : Level) (defined : Env) (name : Word) → is_bound (defined_in is defined) name ≡ true → DefinedAmong is level name ⊎ (is_bound defined name ≡ true)
unfolding defined_in
defined_found [] level defined name h = inr h
defined_found (i ∷ is) level defined name h = at_first (defined_found is (level_after i level) (defined_after i defined) name h)
  where
    at_one : DefinesName name i ⊎ (is_bound defined name ≡ true) → DefinedAmong (i ∷ is) level name ⊎ (is_bound defined name ≡ true)
    at_one (inl d) = inl (record { item = i; there = level; among = inl (refl, refl); defines = d })
    at_one (inr e) = inr e

    at_first : DefinedAmong is (level_after i level) name ⊎ (is_bound (defined_after i defined) name ≡ true) → DefinedAmong (i ∷ is) level name ⊎ (is_bound defined name ≡ true)
    at_first (inl d) = inl (record { item = d.item; there = d.there; among = inr d.among; defines = d.defines })
    at_first (inr e) = at_one (defined_one i defined name e)

none_defined : (name : Word) → is_bound [] name ≡ true → ⊥
unfolding is_bound meaning
none_defined name h = cc

pub among_one : (is : List Item) (level : Level) (i : Item) (there : Level) → AmongItems is level i there → OneOf is i
among_one [] level i there a = absurd a
among_one (j ∷ is) level i there (inl a) = inl a.0
among_one (j ∷ is) level i there (inr a) = inr (among_one is (level_after j level) i there a)

-- a function that is known behind an item of the program, and is defined
pub is_defined : (program : Program) → AllOnce program.items outermost → AllRight program.items outermost → (name : Word) (r : CType) (ps : List CType)
    → (c : Item) (at : Level) → ItemStands program c at → meaning (env_after c at.names) name ≡ Some (function r ps)
    → is_bound (defined_in program.items []) name ≡ true → IsDefined program name r ps
is_defined program k h name r ps c at a m b = made (defined_found program.items outermost [] name b)
  where
    made : DefinedAmong program.items outermost name ⊎ (is_bound [] name ≡ true) → IsDefined program name r ps
    made (inl d) = record {
      item = d.item;
      stands = among_one program.items outermost d.item d.there d.among;
      defines = defined_alike program.items outermost k h name r ps c at a m d.item d.there d.among d.defines;
    }
    made (inr e) = absurd (none_defined name e)
