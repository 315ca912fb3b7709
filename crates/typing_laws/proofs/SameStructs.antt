-- The meaning has the structs of a program as the rules know them.
use Rattle.std.proofs.Common.{◌≡◌, ℕ, List, [], ◌∷◌, ◌++◌, refl, sym, ap, ◌∙◌, Bool, true, false, Option, Some, None, subst, bytes_eq, if◌then◌else◌, inl, inr, ◌⊎◌}
use Rattle.std.specs.Prelude.{is_some}
use Rattle.std.specs.List.{flat_map, fold}
use Rattle.cl_tree.specs.declared.tree.CType.{CType, CType-F, out-CType, map-CType, fold_out-CType}
use Rattle.cl_tree.specs.declared.tree.CType.TheOpen as ctype
use Rattle.cl_tree.specs.declared.tree.Declarator.{Declarator}
use Rattle.cl_tree.specs.declared.tree.Declaration.{Declaration}
use Rattle.cl_tree.specs.declared.tree.Item.{Item}
use Rattle.cl_tree.specs.declared.tree.Item.TheVariants as item
use Rattle.cl_tree.specs.declared.tree.Program.{Program}
use Rattle.cl_tree.specs.Words.{Word, entry}
use Rattle.cl_mean.specs.Shape.{Shape, Members, member, Structs as Shapes, struct_known, type_shape, shape_of, members_of as shapes_in, with_struct, structs_of}
use Rattle.cl_typing.specs.Rules.{unless, AllHold}
use Rattle.cl_typing.specs.Scope.{Field, Entry, structure, binding, Env, meaning, is_bound, members_in, members_of, tag_step, tag_of, declarators, fields_of, tags_after}
use Rattle.cl_typing.specs.Twice.{item_twice}
use Rattle.cl_typing.specs.Unknown.{is_tag, has_tag, types_unknown, members_unknown, item_unknown}
use Rattle.cl_typing.specs.Typing.{rules}
use Rattle.typing_laws.specs.Standing.{Level, outermost, level_after, AmongItems, ItemStands}
use Rattle.typing_laws.specs.Meant.{shapes_of, StructsMatch}
use Rattle.typing_laws.proofs.Lists.{none_of, holds, not_false, same_word, word_same}
use Rattle.typing_laws.proofs.TypeForms.{TypeParts, type_induction}
use Rattle.typing_laws.proofs.Items.{ItemKnown, defined_by, program_known}
use Rattle.typing_laws.proofs.Once.{ItemOnce, program_once}

-- ---- tables that grow at their end

abbrev pub Grown : Shapes → Shapes → Type 0
Grown before behind = (tag : Word) (ms : Members) → entry before tag ≡ Some ms → entry behind tag ≡ Some ms

some_first : (b : Bool) (m : Members) (o p : Option Members) (ms : Members) → (o ≡ Some ms → p ≡ Some ms) → (if b then Some m else o) ≡ Some ms → (if b then Some m else p) ≡ Some ms
some_first true m o p ms f h = h
some_first false m o p ms f h = f h

entry_front : (xs ys : Shapes) → Grown xs (xs ++ ys)
entry_front [] ys tag ms h = absurd cc
entry_front (x ∷ xs) ys tag ms h = some_first (bytes_eq x.0 tag) x.1 (entry xs tag) (entry (xs ++ ys) tag) ms (entry_front xs ys tag ms) h

with_grown : (i : Item) (st : Shapes) → Grown st (with_struct st i)
with_grown (item.Struct name members line) st = entry_front st _
with_grown (item.Variables d) st = λ tag ms h. h
with_grown (item.Function is_static result name void_word params body line second) st = λ tag ms h. h
with_grown (item.Cle p line) st = λ tag ms h. h

all_grown : (is : List Item) (st : Shapes) → Grown st (fold with_struct st is)
all_grown [] st tag ms h = h
all_grown (i ∷ is) st tag ms h = all_grown is (with_struct st i) tag ms (with_grown i st tag ms h)

none_first : (b : Bool) (m : Members) (o : Option Members) → (if b then Some m else o) ≡ None → (b ≡ false) × (o ≡ None)
none_first true m o h = absurd cc
none_first false m o h = (refl, h)

entry_last : (xs : Shapes) (tag : Word) (ms : Members) → entry xs tag ≡ None → entry (xs ++ (tag, ms) ∷ []) tag ≡ Some ms
entry_last [] tag ms h = one (bytes_eq tag tag) (word_same tag tag refl)
  where
    one : (b : Bool) → b ≡ true → (if b then Some ms else None) ≡ Some ms
    one true e = refl
    one false e = absurd cc
entry_last (x ∷ xs) tag ms h = after (bytes_eq x.0 tag) (none_first (bytes_eq x.0 tag) x.1 (entry xs tag) h).0 (entry_last xs tag ms (none_first (bytes_eq x.0 tag) x.1 (entry xs tag) h).1)
  where
    after : (b : Bool) → b ≡ false → entry (xs ++ (tag, ms) ∷ []) tag ≡ Some ms → (if b then Some x.1 else entry (xs ++ (tag, ms) ∷ []) tag) ≡ Some ms
    after true e k = absurd cc
    after false e k = k

entry_split : (xs : Shapes) (tag other : Word) (ms ns : Members) → entry (xs ++ (tag, ms) ∷ []) other ≡ Some ns → (entry xs other ≡ Some ns) ⊎ (bytes_eq tag other ≡ true)
entry_split [] tag other ms ns h = one (bytes_eq tag other) h
  where
    one : (b : Bool) → (if b then Some ms else None) ≡ Some ns → (◌≡◌ {A = Option Members} None (Some ns)) ⊎ (b ≡ true)
    one true e = inr refl
    one false e = inl e
entry_split (x ∷ xs) tag other ms ns h = one (bytes_eq x.0 other) h (entry_split xs tag other ms ns)
  where
    one : (b : Bool) → (if b then Some x.1 else entry (xs ++ (tag, ms) ∷ []) other) ≡ Some ns → (entry (xs ++ (tag, ms) ∷ []) other ≡ Some ns → (entry xs other ≡ Some ns) ⊎ (bytes_eq tag other ≡ true))
        → ((if b then Some x.1 else entry xs other) ≡ Some ns) ⊎ (bytes_eq tag other ≡ true)
    one true e rest = inl e
    one false e rest = rest e

-- ---- shapes stay

abbrev pub Found : Shapes → CType → Type 0
Found st t = (tag : Word) → tag_of t ≡ Some tag → (ms : Members) × (entry st tag ≡ Some ms)

tag_is : (t : CType) → tag_of t ≡ tag_step (map-CType CType (Option Word) tag_of (out-CType t))
unfolding tag_of
tag_is t = fold_out-CType (Option Word) tag_step t

shape_is : (st : Shapes) (t : CType) → shape_of st t ≡ type_shape st (map-CType CType Shape (shape_of st) (out-CType t))
unfolding shape_of
shape_is st t = fold_out-CType Shape (type_shape st) t

module _ (before behind : Shapes) (grown : Grown before behind) where
  abbrev pub Stays : CType → Type 0
  Stays t = Found before t → shape_of before t ≡ shape_of behind t

  struct_stays : (tag : Word) (ms : Members) → entry before tag ≡ Some ms → struct_known (entry before tag) ≡ struct_known (entry behind tag)
  struct_stays tag ms h = ap struct_known (h ∙ sym (grown tag ms h))

  stays_step : (x : CType-F CType) → TypeParts Stays x → ((tag : Word) → tag_step (map-CType CType (Option Word) tag_of x) ≡ Some tag → (ms : Members) × (entry before tag ≡ Some ms))
      → type_shape before (map-CType CType Shape (shape_of before) x) ≡ type_shape behind (map-CType CType Shape (shape_of behind) x)
  stays_step ctype.Void p f = refl
  stays_step (ctype.Integer k) p f = refl
  stays_step (ctype.Struct tag) p f = let m = f tag refl in struct_stays tag m.0 m.1
  stays_step (ctype.Array t n) p f = ap (λ w. type_shape before (ctype.Array w n)) (p f)
  stays_step (ctype.Pointer t) p f = refl
  stays_step ctype.Floating p f = refl

  pub shape_stays : (t : CType) → Stays t
  shape_stays = type_induction Stays (λ t p f.
      shape_is before t
      ∙ stays_step (out-CType t) p (λ tag e. f tag (tag_is t ∙ e))
      ∙ sym (shape_is behind t))

  abbrev pub AllFound : List Field → Type 0
  AllFound [] = Unit {0}
  AllFound (f ∷ fs) = Found before f.ctype × AllFound fs

  pub shapes_stay : (fs : List Field) → AllFound fs → shapes_of before fs ≡ shapes_of behind fs
  shapes_stay [] h = refl
  shapes_stay (f ∷ fs) h = two f.name (shape_stays f.ctype h.0) (shapes_stay fs h.1)
    where
      two : (name : Word) {s t : Shape} {ms ns : Members} → s ≡ t → ms ≡ ns → member name s ms ≡ member name t ns
      two name {s} {t} {ms} {ns} p q = ap (λ w. member name w ms) p ∙ ap (λ w. member name t w) q

-- ---- members

shapes_appear : (st : Shapes) (ds : List Declarator) → shapes_in st ds ≡ shapes_of st (fields_of ds)
shapes_appear st [] = refl
shapes_appear st (d ∷ ds) = ap (λ w. member d.name (shape_of st d.ctype) w) (shapes_appear st ds)

flat_declarators : (members : List Declaration) → flat_map (λ d. d.names) members ≡ declarators members
unfolding declarators
flat_declarators [] = refl
flat_declarators (d ∷ ds) = ap (λ w. d.names ++ w) (flat_declarators ds)

-- ---- the structs at a level

abbrev pub FieldsTagged : Env → List Field → Type 0
FieldsTagged tags [] = Unit {0}
FieldsTagged tags (f ∷ fs) = (has_tag tags f.ctype ≡ true) × FieldsTagged tags fs

pub record SameStructs (tags : Env) (st : Shapes) : Type 0 where
  pub same : StructsMatch st tags
  pub back : (tag : Word) (ms : Members) → entry st tag ≡ Some ms → is_bound tags tag ≡ true
  pub tagged : (tag : Word) (fields : List Field) → members_of tags tag ≡ Some fields → FieldsTagged tags fields
  pub structs : (tag : Word) → is_bound tags tag ≡ true → (fields : List Field) × (members_of tags tag ≡ Some fields)

bound_tag : (tags : Env) (o : Option Word) (tag : Word) → is_tag tags o ≡ true → o ≡ Some tag → is_bound tags tag ≡ true
bound_tag tags None tag h e = absurd cc
bound_tag tags (Some t) tag h e = let f : t ≡ tag = cc in subst (λ (w : Word). is_bound tags w ≡ true) f h

found_in : (tags : Env) (st : Shapes) → SameStructs tags st → (t : CType) → has_tag tags t ≡ true → Found st t
unfolding has_tag
found_in tags st s t h tag e =
    let f = s.structs tag (bound_tag tags (tag_of t) tag h e) in
    (shapes_of st f.0, s.same tag f.0 f.1)

all_found : (tags : Env) (st grown : Shapes) (g : Grown st grown) → SameStructs tags st → (fs : List Field) → FieldsTagged tags fs → AllFound st grown g fs
all_found tags st grown g s [] h = tt
all_found tags st grown g s (f ∷ fs) h = (found_in tags st s f.ctype h.0, all_found tags st grown g s fs h.1)

pub still_match : (tags : Env) (st grown : Shapes) → Grown st grown → SameStructs tags st → StructsMatch grown tags
still_match tags st grown g s tag fields m =
    g tag (shapes_of st fields) (s.same tag fields m)
    ∙ ap (λ (w : Members). Some w) (shapes_stay st grown g fields (all_found tags st grown g s fields (s.tagged tag fields m)))

-- ---- a struct more

kept_bound : (tags : Env) (name : Word) (e : Entry) (tag : Word) → is_bound tags tag ≡ true → is_bound (binding name e ∷ tags) tag ≡ true
unfolding is_bound meaning
kept_bound tags name e tag h = one (bytes_eq name tag) h
  where
    one : (b : Bool) → is_some (meaning tags tag) ≡ true → is_some (if b then Some e else meaning tags tag) ≡ true
    one true k = refl
    one false k = k

tag_kept : (tags : Env) (name : Word) (e : Entry) (o : Option Word) → is_tag tags o ≡ true → is_tag (binding name e ∷ tags) o ≡ true
tag_kept tags name e None h = refl
tag_kept tags name e (Some tag) h = kept_bound tags name e tag h

fields_kept : (tags : Env) (name : Word) (e : Entry) (fs : List Field) → FieldsTagged tags fs → FieldsTagged (binding name e ∷ tags) fs
unfolding has_tag
fields_kept tags name e [] h = tt
fields_kept tags name e (f ∷ fs) h = (tag_kept tags name e (tag_of f.ctype) h.0, fields_kept tags name e fs h.1)

-- what a tag means behind a struct: that struct, or what it meant before
members_behind : (tags : Env) (name tag : Word) (new fields : List Field) → members_of (binding name (structure new) ∷ tags) tag ≡ Some fields → ((name ≡ tag) × (new ≡ fields)) ⊎ (members_of tags tag ≡ Some fields)
unfolding members_of meaning
members_behind tags name tag new fields h = one (bytes_eq name tag) refl h
  where
    one : (b : Bool) → bytes_eq name tag ≡ b → members_in (if b then Some (structure new) else meaning tags tag) ≡ Some fields → ((name ≡ tag) × (new ≡ fields)) ⊎ (members_in (meaning tags tag) ≡ Some fields)
    one true e k = inl (same_word name tag e, (cc))
    one false e k = inr k

members_own : (tags : Env) (name tag : Word) (new : List Field) → bytes_eq name tag ≡ true → members_of (binding name (structure new) ∷ tags) tag ≡ Some new
unfolding members_of meaning
members_own tags name tag new h = one (bytes_eq name tag) h
  where
    one : (b : Bool) → b ≡ true → members_in (if b then Some (structure new) else meaning tags tag) ≡ Some new
    one true e = refl
    one false e = absurd cc

bound_behind : (tags : Env) (name tag : Word) (e : Entry) → is_bound (binding name e ∷ tags) tag ≡ true → (bytes_eq name tag ≡ true) ⊎ (is_bound tags tag ≡ true)
unfolding is_bound meaning
bound_behind tags name tag e h = one (bytes_eq name tag) h
  where
    one : (b : Bool) → is_some (if b then Some e else meaning tags tag) ≡ true → (b ≡ true) ⊎ (is_some (meaning tags tag) ≡ true)
    one true k = inl refl
    one false k = inr k

own_bound : (tags : Env) (name tag : Word) (e : Entry) → bytes_eq name tag ≡ true → is_bound (binding name e ∷ tags) tag ≡ true
unfolding is_bound meaning
own_bound tags name tag e h = one (bytes_eq name tag) h
  where
    one : (b : Bool) → b ≡ true → is_some (if b then Some e else meaning tags tag) ≡ true
    one true k = refl
    one false k = absurd cc

members_kept : (tags : Env) (name tag : Word) (new fields : List Field) → bytes_eq name tag ≡ false → members_of tags tag ≡ Some fields → members_of (binding name (structure new) ∷ tags) tag ≡ Some fields
unfolding members_of meaning
members_kept tags name tag new fields e m = one (bytes_eq name tag) e
  where
    one : (b : Bool) → b ≡ false → members_in (if b then Some (structure new) else meaning tags tag) ≡ Some fields
    one true k = absurd cc
    one false k = m

members_other : (tags : Env) (name tag : Word) (new fields : List Field) (b : Bool) → bytes_eq name tag ≡ b → members_of tags tag ≡ Some fields → (f : List Field) × (members_of (binding name (structure new) ∷ tags) tag ≡ Some f)
members_other tags name tag new fields true e m = (new, members_own tags name tag new e)
members_other tags name tag new fields false e m = (fields, members_kept tags name tag new fields e m)

module _ (tags : Env) (st : Shapes) (s : SameStructs tags st) (name : Word) (members : List Declaration) (line : ℕ)
    (tagged : FieldsTagged tags (fields_of (declarators members))) (fresh : is_bound tags name ≡ false) where
  abbrev pub new : List Field
  new = fields_of (declarators members)

  abbrev pub more : Shapes
  more = with_struct st (item.Struct name members line)

  unseen : (o : Option Members) → entry st name ≡ o → entry st name ≡ None
  unseen None e = e
  unseen (Some ms) e = let b = s.back name ms e in absurd cc

  new_members : shapes_in st (flat_map (λ d. d.names) members) ≡ shapes_of more new
  new_members =
      ap (shapes_in st) (flat_declarators members)
      ∙ shapes_appear st (declarators members)
      ∙ shapes_stay st more (entry_front st _) new (all_found tags st more (entry_front st _) s new tagged)

  new_found : (tag : Word) → name ≡ tag → entry more tag ≡ Some (shapes_of more new)
  new_found tag e =
      subst (λ (w : Word). entry more w ≡ Some (shapes_of more new)) e
      (entry_last st name (shapes_in st (flat_map (λ d. d.names) members)) (unseen (entry st name) refl) ∙ ap (λ (w : Members). Some w) new_members)

  pub struct_more : SameStructs (binding name (structure new) ∷ tags) more
  struct_more = record {
    same = λ tag fields m. matches tag fields (members_behind tags name tag new fields m);
    back = λ tag ms e. seen tag (entry_split st name tag (shapes_in st (flat_map (λ d. d.names) members)) ms e);
    tagged = λ tag fields m. keeps tag fields (members_behind tags name tag new fields m);
    structs = λ tag b. has tag (bound_behind tags name tag (structure new) b);
  }
    where
      matches : (tag : Word) (fields : List Field) → ((name ≡ tag) × (new ≡ fields)) ⊎ (members_of tags tag ≡ Some fields) → entry more tag ≡ Some (shapes_of more fields)
      matches tag fields (inl e) = new_found tag e.0 ∙ ap (λ w. Some (shapes_of more w)) e.1
      matches tag fields (inr m) = still_match tags st more (entry_front st _) s tag fields m

      seen : (tag : Word) {ms : Members} → (entry st tag ≡ Some ms) ⊎ (bytes_eq name tag ≡ true) → is_bound (binding name (structure new) ∷ tags) tag ≡ true
      seen tag {ms} (inl e) = kept_bound tags name (structure new) tag (s.back tag ms e)
      seen tag (inr e) = own_bound tags name tag (structure new) e

      keeps : (tag : Word) (fields : List Field) → ((name ≡ tag) × (new ≡ fields)) ⊎ (members_of tags tag ≡ Some fields) → FieldsTagged (binding name (structure new) ∷ tags) fields
      keeps tag fields (inl e) = subst (FieldsTagged (binding name (structure new) ∷ tags)) e.1 (fields_kept tags name (structure new) new tagged)
      keeps tag fields (inr m) = fields_kept tags name (structure new) fields (s.tagged tag fields m)

      has : (tag : Word) → (bytes_eq name tag ≡ true) ⊎ (is_bound tags tag ≡ true) → (fields : List Field) × (members_of (binding name (structure new) ∷ tags) tag ≡ Some fields)
      has tag (inl e) = (new, members_own tags name tag new e)
      has tag (inr b) = let f = s.structs tag b in members_other tags name tag new f.0 (bytes_eq name tag) refl f.1

-- ---- items

names_tagged : (tags : Env) (ds : List Declarator) (rest : List Declarator) → types_unknown tags ds ≡ [] → FieldsTagged tags (fields_of rest) → FieldsTagged tags (fields_of (ds ++ rest))
unfolding types_unknown
names_tagged tags [] rest e h = h
names_tagged tags (d ∷ ds) rest e h = (holds _ d.line (none_of _ _ e).0, names_tagged tags ds rest (none_of (unless (has_tag tags d.ctype) d.line) _ e).1 h)

members_tagged : (tags : Env) (members : List Declaration) → members_unknown tags members ≡ [] → FieldsTagged tags (fields_of (declarators members))
unfolding members_unknown declarators
members_tagged tags [] e = tt
members_tagged tags (m ∷ ms) e = names_tagged tags m.names (declarators ms) (none_of _ _ e).0 (members_tagged tags ms (none_of (types_unknown tags m.names) _ e).1)

module _ (defined : Env) where
  structs_step : (i : Item) (level : Level) (st : Shapes) → ItemKnown defined i level → ItemOnce i level → SameStructs level.tags st → SameStructs (tags_after i level.tags) (with_struct st i)
  unfolding item_unknown item_twice tags_after
  structs_step (item.Struct name members line) level st k o s =
      struct_more level.tags st s name members line (members_tagged level.tags members k)
      (not_false (is_bound level.tags name) (holds _ line (none_of _ _ o.1).0))
  structs_step (item.Variables d) level st k o s = s
  structs_step (item.Function is_static result name void_word params body line second) level st k o s = s
  structs_step (item.Cle p line) level st k o s = s

  pub structs_among : (is : List Item) (level : Level) (st : Shapes) → ((i : Item) (there : Level) → AmongItems is level i there → ItemKnown defined i there) → ((i : Item) (there : Level) → AmongItems is level i there → ItemOnce i there)
      → SameStructs level.tags st → (i : Item) (there : Level) → AmongItems is level i there → StructsMatch (fold with_struct st is) there.tags
  structs_among [] level st k o s i there a = absurd a
  structs_among (j ∷ is) level st k o s i there (inl a) =
      subst (λ (w : Level). StructsMatch (fold with_struct st (j ∷ is)) w.tags) (sym a.1)
      (still_match level.tags st (fold with_struct st (j ∷ is)) (all_grown (j ∷ is) st) s)
  structs_among (j ∷ is) level st k o s i there (inr a) =
      structs_among is (level_after j level) (with_struct st j) (λ u w m. k u w (inr m)) (λ u w m. o u w (inr m))
      (structs_step j level st (k j level (inl (refl, refl))) (o j level (inl (refl, refl))) s) i there a

no_structs : SameStructs [] []
unfolding members_of is_bound meaning
no_structs = record { same = λ tag fields m. absurd (none_some fields m); back = λ tag ms e. absurd (none_members ms e); tagged = λ tag fields m. absurd (none_some fields m); structs = λ tag b. absurd (false_true b) }
  where
    none_some : (fields : List Field) → ◌≡◌ {A = Option (List Field)} None (Some fields) → ⊥
    none_some fields e = cc

    none_members : (ms : Members) → ◌≡◌ {A = Option Members} None (Some ms) → ⊥
    none_members ms e = cc

    false_true : false ≡ true → ⊥
    false_true e = cc

-- the structs of a program, at each item
pub structs_match : (program : Program) → AllHold (rules program) → (i : Item) (level : Level) → ItemStands program i level → StructsMatch (structs_of program.items) level.tags
unfolding structs_of
structs_match program h i level a =
    structs_among (defined_by program) program.items outermost [] (program_known program h.1.1.1.0) (program_once program h.1.1.0) no_structs i level a
