-- Struct tags: those that types name are known, at each place of a program in which every name is known.
use Rattle.std.proofs.Common.{◌≡◌, ℕ, List, [], ◌∷◌, refl, sym, ap, ◌∙◌, Bool, true, false, Option, Some, None, subst, bytes_eq, if◌then◌else◌, inl, inr, ◌⊎◌}
use Rattle.std.specs.Prelude.{is_some}
use Rattle.cl_tree.specs.declared.tree.CType.{CType}
use Rattle.cl_tree.specs.declared.tree.Expr.{Expr}
use Rattle.cl_tree.specs.declared.tree.Declarator.{Declarator}
use Rattle.cl_tree.specs.declared.tree.Declaration.{Declaration}
use Rattle.cl_tree.specs.declared.tree.Stmt.{Stmt}
use Rattle.cl_tree.specs.declared.tree.Act.{Act, Act-F, out-Act}
use Rattle.cl_tree.specs.declared.tree.Act.TheOpen as act
use Rattle.cl_tree.specs.declared.tree.Item.{Item}
use Rattle.cl_tree.specs.declared.tree.Item.TheVariants as item
use Rattle.cl_tree.specs.declared.tree.Program.{Program}
use Rattle.cl_tree.specs.Words.{Word}
use Rattle.cl_typing.specs.Rules.{unless}
use Rattle.cl_typing.specs.Scope.{Scoped, Field, Entry, variable, function, structure, Binding, Env, meaning, is_bound, bound, members_in, members_of, tag_of, types_of, env_after, tags_after}
use Rattle.cl_typing.specs.Unknown.{Known, is_tag, has_tag, declarator_unknown, names_unknown, act_unknown, body_unknown, types_unknown, members_unknown, item_unknown, unknown}
use Rattle.typing_laws.specs.Standing.{OneOf, Level, outermost, level_after, AmongItems, ItemStands, Spot, body_spot, declares, act_declares, Initialises, Evaluates, BodyHas, InBody, ItemEvaluates, Stands}
use Rattle.typing_laws.specs.Named.{TagKnown, EntryKnown, NamesKnow, ItemKnows}
use Rattle.typing_laws.proofs.Levels.{unknown_parts, stmt_unknown_is}
use Rattle.typing_laws.proofs.Lists.{none_of, none_in, holds, some_of}
use Rattle.typing_laws.proofs.StatementNames.{KnownAt, among_known, part_known}
use Rattle.typing_laws.proofs.Kept.{AllKeep, names_keep, initialises_keep, among_keeps, stands_keeps, evaluates_keeps}
use Rattle.typing_laws.proofs.Items.{known_at, ItemKnown, body_known, in_body_known, defined_by, program_known}

-- ---- tags

-- all that are bound are structs
abbrev pub Structs : Env → Type 0
Structs [] = Unit {0}
Structs (b ∷ bs) = ((members : List Field) × (b.entry ≡ structure members)) × Structs bs

found_by : (b : Bool) (x : Entry) (o : Option Entry) (e : Entry) → (if b then Some x else o) ≡ Some e → (x ≡ e) ⊎ (o ≡ Some e)
found_by true x o e h = inl (cc)
found_by false x o e h = inr h

pub struct_found : (tags : Env) → Structs tags → (tag : Word) (entry : Entry) → meaning tags tag ≡ Some entry → (members : List Field) × (entry ≡ structure members)
unfolding meaning
struct_found [] s tag entry h = absurd cc
struct_found (b ∷ bs) s tag entry h = at_one (struct_found bs s.1 tag entry) (found_by (bytes_eq b.name tag) b.entry (meaning bs tag) entry h)
  where
    at_one : (meaning bs tag ≡ Some entry → (members : List Field) × (entry ≡ structure members)) → (b.entry ≡ entry) ⊎ (meaning bs tag ≡ Some entry) → (members : List Field) × (entry ≡ structure members)
    at_one rest (inl e) = (s.0.0, sym e ∙ s.0.1)
    at_one rest (inr e) = rest e

bound_has : (env : Env) (name : Word) → is_bound env name ≡ true → (entry : Entry) × (meaning env name ≡ Some entry)
unfolding is_bound
bound_has env name h = some_of (meaning env name) h

tag_has : (tags : Env) (o : Option Word) → is_tag tags o ≡ true → (tag : Word) → o ≡ Some tag → is_bound tags tag ≡ true
tag_has tags None h tag e = absurd cc
tag_has tags (Some t) h tag e = let f : t ≡ tag = cc in subst (λ (w : Word). is_bound tags w ≡ true) f h

pub tag_known : (tags : Env) → Structs tags → (t : CType) → has_tag tags t ≡ true → TagKnown tags t
unfolding has_tag members_of
tag_known tags s t h tag e =
    let m = bound_has tags tag (tag_has tags (tag_of t) h tag e) in
    let f = struct_found tags s tag m.0 m.1 in
    (f.0, ap members_in m.1 ∙ ap (λ (w : Entry). members_in (Some w)) f.1)

-- ---- tags stay known

some_kept : (b : Bool) (x : Entry) (o : Option Entry) → is_some o ≡ true → is_some (if b then Some x else o) ≡ true
some_kept true x o h = refl
some_kept false x o h = h

bound_kept : (b : Binding) (env : Env) (name : Word) → is_bound env name ≡ true → is_bound (b ∷ env) name ≡ true
unfolding is_bound meaning
bound_kept b env name h = some_kept (bytes_eq b.name name) b.entry (meaning env name) h

tag_kept : (b : Binding) (tags : Env) (o : Option Word) → is_tag tags o ≡ true → is_tag (b ∷ tags) o ≡ true
tag_kept b tags None h = refl
tag_kept b tags (Some tag) h = bound_kept b tags tag h

has_kept : (b : Binding) (tags : Env) (t : CType) → has_tag tags t ≡ true → has_tag (b ∷ tags) t ≡ true
unfolding has_tag
has_kept b tags t h = tag_kept b tags (tag_of t) h

-- ---- the types of what is bound name known tags

abbrev pub AllHave : Env → List CType → Type 0
AllHave tags [] = Unit {0}
AllHave tags (t ∷ ts) = (has_tag tags t ≡ true) × AllHave tags ts

abbrev pub EntryTagged : Env → Entry → Type 0
EntryTagged tags (variable t) = has_tag tags t ≡ true
EntryTagged tags (function result types) = (has_tag tags result ≡ true) × AllHave tags types
EntryTagged tags (structure members) = Unit {0}

abbrev pub Tagged : Env → Env → Type 0
Tagged tags [] = Unit {0}
Tagged tags (b ∷ bs) = EntryTagged tags b.entry × Tagged tags bs

all_kept : (b : Binding) (tags : Env) (ts : List CType) → AllHave tags ts → AllHave (b ∷ tags) ts
all_kept b tags [] h = tt
all_kept b tags (t ∷ ts) h = (has_kept b tags t h.0, all_kept b tags ts h.1)

entry_kept : (b : Binding) (tags : Env) (e : Entry) → EntryTagged tags e → EntryTagged (b ∷ tags) e
entry_kept b tags (variable t) h = has_kept b tags t h
entry_kept b tags (function result types) h = (has_kept b tags result h.0, all_kept b tags types h.1)
entry_kept b tags (structure members) h = tt

tagged_kept : (b : Binding) (tags names : Env) → Tagged tags names → Tagged (b ∷ tags) names
tagged_kept b tags [] h = tt
tagged_kept b tags (c ∷ names) h = (entry_kept b tags c.entry h.0, tagged_kept b tags names h.1)

pub tagged_found : (tags names : Env) → Tagged tags names → (name : Word) (entry : Entry) → meaning names name ≡ Some entry → EntryTagged tags entry
unfolding meaning
tagged_found tags [] s name entry h = absurd cc
tagged_found tags (b ∷ bs) s name entry h = at_one (tagged_found tags bs s.1 name entry) (found_by (bytes_eq b.name name) b.entry (meaning bs name) entry h)
  where
    at_one : (meaning bs name ≡ Some entry → EntryTagged tags entry) → (b.entry ≡ entry) ⊎ (meaning bs name ≡ Some entry) → EntryTagged tags entry
    at_one rest (inl e) = subst (λ (w : Entry). EntryTagged tags w) e s.0
    at_one rest (inr e) = rest e

-- ---- what has a known tag

all_known : (tags : Env) → Structs tags → (ts : List CType) → AllHave tags ts → (t : CType) → OneOf ts t → TagKnown tags t
all_known tags s [] h t o = absurd o
all_known tags s (u ∷ ts) h t (inl o) = subst (λ (w : CType). TagKnown tags w) (sym o) (tag_known tags s u h.0)
all_known tags s (u ∷ ts) h t (inr o) = all_known tags s ts h.1 t o

pub entry_known : (tags : Env) → Structs tags → (e : Entry) → EntryTagged tags e → EntryKnown tags e
entry_known tags s (variable t) h = tag_known tags s t h
entry_known tags s (function result types) h = (tag_known tags s result h.0, all_known tags s types h.1)
entry_known tags s (structure members) h = tt

types_know : (tags : Env) → Structs tags → (ds : List Declarator) → types_unknown tags ds ≡ [] → NamesKnow tags ds
unfolding types_unknown
types_know tags s ds e d o = tag_known tags s d.ctype (holds _ d.line (none_in (λ c. unless (has_tag tags c.ctype) c.line) ds e d o))

-- ---- declarations

module _ (known : Known) where
  abbrev pub Keep : List Declarator → Type 0
  Keep ds = AllKeep (Tagged known.tags) ds

  own_tag : (d : Declarator) (names : Env) → declarator_unknown known names d ≡ [] → has_tag known.tags d.ctype ≡ true
  unfolding declarator_unknown
  own_tag d names h = holds _ d.line (none_of _ _ h).0

  pub names_tagged : (ds : List Declarator) (names : Env) → names_unknown known names ds ≡ [] → Keep ds
  unfolding names_unknown
  names_tagged [] names e d o = absurd o
  names_tagged (c ∷ ds) names e d (inl o) = λ inner h. (subst (λ (w : Declarator). has_tag known.tags w.ctype ≡ true) (sym o) (own_tag c names (none_of _ _ e).0), h)
  names_tagged (c ∷ ds) names e d (inr o) = names_tagged ds (bound c ∷ names) (none_of (declarator_unknown known names c) _ e).1 d o

  declares_step : (y : Act-F Act Stmt) (names : Env) → (act_unknown known (unknown_parts known y)).places names ≡ [] → names_unknown known names (act_declares y) ≡ []
  unfolding names_unknown
  declares_step (act.Declare d) names e = e
  declares_step _ names e = refl

  pub declares_tagged : (s : Stmt) (spot : Spot) → KnownAt known s spot → Keep (declares s)
  declares_tagged s spot h =
      names_tagged (declares s) spot.names
      (declares_step (out-Act s.node) spot.names (ap (λ (w : Scoped). w.places spot.names) (sym (stmt_unknown_is known s)) ∙ h))

  names_know : (ds : List Declarator) (names : Env) → Structs known.tags → names_unknown known names ds ≡ [] → NamesKnow known.tags ds
  unfolding names_unknown
  names_know [] names s e d o = absurd o
  names_know (c ∷ ds) names s e d (inl o) =
      subst (λ (w : Declarator). TagKnown known.tags w.ctype) (sym o) (tag_known known.tags s c.ctype (own_tag c names (none_of _ _ e).0))
  names_know (c ∷ ds) names s e d (inr o) = names_know ds (bound c ∷ names) s (none_of (declarator_unknown known names c) _ e).1 d o

  pub statement_knows : (s : Stmt) (spot : Spot) → KnownAt known s spot → Structs known.tags → NamesKnow known.tags (declares s)
  statement_knows s spot h t =
      names_know (declares s) spot.names t
      (declares_step (out-Act s.node) spot.names (ap (λ (w : Scoped). w.places spot.names) (sym (stmt_unknown_is known s)) ∙ h))

-- ---- items

pub item_knows : (defined : Env) (i : Item) (level : Level) → ItemKnown defined i level → Structs level.tags → ItemKnows level.tags i
unfolding item_unknown members_unknown
item_knows defined (item.Struct name members line) level e s = λ m o. types_know level.tags s m.names (none_in (λ n. types_unknown level.tags n.names) members e m o)
item_knows defined (item.Variables d) level e s = names_know (known_at defined level.tags) d.names level.names s e
item_knows defined (item.Function is_static result name void_word params body line second) level e s =
    let p = none_of (unless (has_tag level.tags result) second) _ e in
    (tag_known level.tags s result (holds _ second p.0), types_know level.tags s params (none_of (types_unknown level.tags params) _ p.1).0)
item_knows defined (item.Cle p line) level e s = tt

pub record LevelTagged (level : Level) : Type 0 where
  pub structs : Structs level.tags
  pub tagged : Tagged level.tags level.names

params_tagged : (tags : Env) (params : List Declarator) → types_unknown tags params ≡ [] → AllHave tags (types_of params)
unfolding types_unknown
params_tagged tags [] e = tt
params_tagged tags (d ∷ ds) e = (holds _ d.line (none_of _ _ e).0, params_tagged tags ds (none_of (unless (has_tag tags d.ctype) d.line) _ e).1)

params_keep : (tags : Env) (params : List Declarator) → types_unknown tags params ≡ [] → AllKeep (Tagged tags) params
unfolding types_unknown
params_keep tags params e d o names h = (holds _ d.line (none_in (λ c. unless (has_tag tags c.ctype) c.line) params e d o), h)

module _ (defined : Env) where
  pub function_tagged : (is_static : Bool) (result : CType) (name : Word) (void_word : Bool) (params : List Declarator) (body : Option (List Stmt)) (line second : ℕ) (level : Level)
      → ItemKnown defined (item.Function is_static result name void_word params body line second) level → Tagged level.tags level.names
      → Tagged level.tags (env_after (item.Function is_static result name void_word params body line second) level.names)
  unfolding item_unknown env_after
  function_tagged is_static result name void_word params body line second level e h =
      let p = none_of (unless (has_tag level.tags result) second) _ e in
      ((holds _ second p.0, params_tagged level.tags params (none_of (types_unknown level.tags params) _ p.1).0), h)

  level_step : (i : Item) (level : Level) → ItemKnown defined i level → LevelTagged level → LevelTagged (level_after i level)
  unfolding item_unknown env_after tags_after
  level_step (item.Struct name members line) level e t = record { structs = ((_, refl), t.structs); tagged = tagged_kept _ level.tags level.names t.tagged }
  level_step (item.Variables d) level e t = record { structs = t.structs; tagged = names_keep (Tagged level.tags) d.names (names_tagged (known_at defined level.tags) d.names level.names e) level.names t.tagged }
  level_step (item.Function is_static result name void_word params body line second) level e t =
      record { structs = t.structs; tagged = function_tagged is_static result name void_word params body line second level e t.tagged }
  level_step (item.Cle p line) level e t = record { structs = t.structs; tagged = t.tagged }

  level_same : (a b : Level) → a ≡ b → LevelTagged b → LevelTagged a
  level_same a b e h = subst (λ (w : Level). LevelTagged w) (sym e) h

  pub levels_tagged : (is : List Item) (level : Level) → ((i : Item) (there : Level) → AmongItems is level i there → ItemKnown defined i there) → LevelTagged level
      → (i : Item) (there : Level) → AmongItems is level i there → LevelTagged there
  levels_tagged [] level k t i there h = absurd h
  levels_tagged (j ∷ is) level k t i there (inl h) = level_same there level h.1 t
  levels_tagged (j ∷ is) level k t i there (inr h) =
      levels_tagged is (level_after j level) (λ u w m. k u w (inr m)) (level_step j level (k j level (inl (refl, refl))) t) i there h

  body_tagged : (i : Item) (level : Level) → ItemKnown defined i level → LevelTagged level → (s : Stmt) (spot : Spot) → BodyHas i level.names s spot → Tagged level.tags spot.names
  unfolding item_unknown body_unknown
  body_tagged (item.Struct name members line) level e t s spot h = absurd h
  body_tagged (item.Variables d) level e t s spot h = absurd h
  body_tagged (item.Function is_static result name void_word params None line second) level e t s spot h = absurd h
  body_tagged (item.Function is_static result name void_word params (Some body) line second) level e t s spot h =
      let f = item.Function is_static result name void_word params (Some body) line second in
      let b = body_spot params (env_after f level.names) in
      let p = none_of (types_unknown level.tags params) _ (none_of (unless (has_tag level.tags result) second) _ e).1 in
      among_keeps (Tagged level.tags) (KnownAt (known_at defined level.tags)) (part_known (known_at defined level.tags)) (declares_tagged (known_at defined level.tags))
      body b (among_known (known_at defined level.tags) body b p.1)
      (names_keep (Tagged level.tags) params (params_keep level.tags params p.0) (env_after f level.names)
      (function_tagged is_static result name void_word params (Some body) line second level e t.tagged))
      s spot h
  body_tagged (item.Cle p line) level e t s spot h = absurd h

  in_body_tagged : (i : Item) (level : Level) → ItemKnown defined i level → LevelTagged level → (s : Stmt) (there : Spot) → InBody i level.names s there → Tagged level.tags there.names
  in_body_tagged i level e t s there h =
      stands_keeps (Tagged level.tags) (KnownAt (known_at defined level.tags)) (part_known (known_at defined level.tags)) (declares_tagged (known_at defined level.tags))
      s there h.outermost h.spot h.stands (body_known defined i level e h.outermost h.spot h.among) (body_tagged i level e t h.outermost h.spot h.among)

  statement_tagged : (i : Item) (level : Level) → ItemKnown defined i level → LevelTagged level → (x : Expr) (there : Env) → (s : Stmt) (spot : Spot) → InBody i level.names s spot → Evaluates (out-Act s.node) spot x there → Tagged level.tags there
  statement_tagged i level e t x there s spot h v =
      evaluates_keeps (Tagged level.tags) (KnownAt (known_at defined level.tags)) (part_known (known_at defined level.tags)) (declares_tagged (known_at defined level.tags))
      s spot (in_body_known defined i level e s spot h) (in_body_tagged i level e t s spot h) x there v

  variables_tagged : (d : Declaration) (level : Level) → ItemKnown defined (item.Variables d) level → LevelTagged level → (x : Expr) (there : Env) → Initialises d.names level.names x there → Tagged level.tags there
  unfolding item_unknown
  variables_tagged d level e t x there h =
      initialises_keep (Tagged level.tags) d.names (names_tagged (known_at defined level.tags) d.names level.names e) level.names t.tagged x there h

  pub evaluated_tagged : (i : Item) (level : Level) → ItemKnown defined i level → LevelTagged level → (x : Expr) (there : Env) → ItemEvaluates i level.names x there → Tagged level.tags there
  evaluated_tagged (item.Struct name members line) level e t x there h = statement_tagged _ level e t x there h.0 h.1 h.2 h.3
  evaluated_tagged (item.Variables d) level e t x there h = variables_tagged d level e t x there h
  evaluated_tagged (item.Function is_static result name void_word params body line second) level e t x there h = statement_tagged _ level e t x there h.0 h.1 h.2 h.3
  evaluated_tagged (item.Cle p line) level e t x there h = statement_tagged _ level e t x there h.0 h.1 h.2 h.3

-- ---- a program

pub program_tagged : (program : Program) → unknown program ≡ [] → (i : Item) (level : Level) → ItemStands program i level → LevelTagged level
program_tagged program e i level h =
    levels_tagged (defined_by program) program.items outermost (program_known program e) (record { structs = tt; tagged = tt }) i level h

-- where an expression stands: the tags are structs, and what is bound names known tags
pub expression_tagged : (program : Program) → unknown program ≡ [] → (tags there : Env) (x : Expr) → Stands program tags there x → Structs tags × Tagged tags there
expression_tagged program e tags there x h =
    let k = program_known program e h.item h.level h.stands in
    let t = program_tagged program e h.item h.level h.stands in
    let r = evaluated_tagged (defined_by program) h.item h.level k t h.root there h.evaluates in
    subst (λ (w : Env). Structs w × Tagged w there) (sym h.tags_are) (t.structs, r)
