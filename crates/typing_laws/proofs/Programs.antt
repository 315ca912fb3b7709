-- Programs of which the rules of names and types hold.
use Rattle.std.proofs.Common.{◌≡◌, ℕ, List, [], sym, ◌∙◌, Bool, true, false, Option, Some, None, bytes_eq, if◌then◌else◌}
use Rattle.cl_tree.specs.declared.tree.CType.{CType}
use Rattle.cl_tree.specs.declared.tree.Expr.{Expr}
use Rattle.cl_tree.specs.declared.tree.Node.{Node, Node-F, out-Node}
use Rattle.cl_tree.specs.declared.tree.Node.TheOpen as node
use Rattle.cl_tree.specs.declared.tree.Declarator.{Declarator}
use Rattle.cl_tree.specs.declared.tree.Stmt.{Stmt}
use Rattle.cl_tree.specs.declared.tree.Act.{out-Act}
use Rattle.cl_tree.specs.declared.tree.Item.{Item}
use Rattle.cl_tree.specs.declared.tree.Item.TheVariants as item
use Rattle.cl_tree.specs.declared.tree.Program.{Program}
use Rattle.cl_tree.specs.Words.{Word}
use Rattle.cl_typing.specs.Rules.{AllHold}
use Rattle.cl_typing.specs.Scope.{Entry, variable, function, Env, meaning, is_bound, is_library, env_after}
use Rattle.cl_typing.specs.Twice.{twice}
use Rattle.cl_typing.specs.Unknown.{is_callee, can_call, node_unknown, unknown}
use Rattle.cl_typing.specs.Wrong.{wrong}
use Rattle.cl_typing.specs.Typing.{rules}
use Rattle.typing_laws.specs.Standing.{Level, ItemStands, Spot, body_spot, declares, PartOf, Evaluates, BodyHas, InBody, ItemEvaluates, result_of, StmtStands, Stands}
use Rattle.typing_laws.specs.Typed.{HasType, of_function, of_getchar, NodeIs, ActFits, ItemFits}
use Rattle.typing_laws.specs.Named.{of_program, of_getchar as by_getchar, Resolves, EntryKnown, NamesKnow, ItemKnows}
use Rattle.typing_laws.proofs.Lists.{none_of, holds}
use Rattle.typing_laws.proofs.Levels.{names_of, unknown_is}
use Rattle.typing_laws.proofs.Expressions.{node_is}
use Rattle.typing_laws.proofs.Kept.{AllKeep, names_keep, initialises_keep, among_keeps, stands_keeps, evaluates_keeps}
use Rattle.typing_laws.proofs.Items.{known_at, ItemKnown, ItemRight, in_body_known, statement_fits, item_fits, defined_by, program_known, program_right, expression_known, expression_type}
use Rattle.typing_laws.proofs.Tags.{tag_known, tagged_found, entry_known, item_knows, statement_knows, program_tagged, expression_tagged}
use Rattle.typing_laws.proofs.Once.{program_once, library_unbound}
use Rattle.typing_laws.proofs.Agreeing.{persist, is_defined}

-- ---- functions are known from the file alone

-- what is known as a function is known so outside
abbrev pub OverBase : Env → Env → Type 0
OverBase base names = (name : Word) (r : CType) (ps : List CType) → meaning names name ≡ Some (function r ps) → meaning base name ≡ Some (function r ps)

behind_variable : (b : Bool) (t : CType) (o : Option Entry) (r : CType) (ps : List CType) → (if b then Some (variable t) else o) ≡ Some (function r ps) → o ≡ Some (function r ps)
behind_variable true t o r ps h = absurd cc
behind_variable false t o r ps h = h

all_over : (base : Env) (ds : List Declarator) → AllKeep (OverBase base) ds
unfolding meaning
all_over base ds d o names h name r ps m = h name r ps (behind_variable (bytes_eq d.name name) d.ctype (meaning names name) r ps m)

abbrev pub Any : Stmt → Spot → Type 0
Any s spot = Unit {0}

module _ (base : Env) where
  any_part : (t : Stmt) (spot : Spot) → Any t spot → (s : Stmt) (there : Spot) → PartOf (out-Act t.node) spot s there → Any s there
  any_part t spot k s there p = tt

  any_own : (t : Stmt) (spot : Spot) → Any t spot → AllKeep (OverBase base) (declares t)
  any_own t spot k = all_over base (declares t)

body_over : (i : Item) (names : Env) (s : Stmt) (spot : Spot) → BodyHas i names s spot → OverBase (env_after i names) spot.names
body_over (item.Struct name members line) names s spot b = absurd b
body_over (item.Variables d) names s spot b = absurd b
body_over (item.Function is_static result name void_word params None line second) names s spot b = absurd b
body_over (item.Function is_static result name void_word params (Some body) line second) names s spot b =
    let base = env_after (item.Function is_static result name void_word params (Some body) line second) names in
    among_keeps (OverBase base) Any (any_part base) (any_own base) body (body_spot params base) (λ t there a. tt)
    (names_keep (OverBase base) params (all_over base params) base (λ n r ps m. m)) s spot b
body_over (item.Cle p line) names s spot b = absurd b

statement_over : (i : Item) (names : Env) (x : Expr) (there : Env) → (s : Stmt) (spot : Spot) → InBody i names s spot → Evaluates (out-Act s.node) spot x there → OverBase (env_after i names) there
statement_over i names x there s spot b v =
    let base = env_after i names in
    evaluates_keeps (OverBase base) Any (any_part base) (any_own base) s spot tt
    (stands_keeps (OverBase base) Any (any_part base) (any_own base) s spot b.outermost b.spot b.stands tt (body_over i names b.outermost b.spot b.among)) x there v

module _ (program : Program) (once : twice program ≡ []) (known : unknown program ≡ []) (right : wrong program ≡ []) where
  file_over : (i : Item) (level : Level) → ItemStands program i level → OverBase (env_after i level.names) level.names
  file_over i level h name r ps m = persist i level (program_once program once i level h) (program_right program right i level h) name r ps m

  pub item_over : (i : Item) (level : Level) → ItemStands program i level → (x : Expr) (there : Env) → ItemEvaluates i level.names x there → OverBase (env_after i level.names) there
  item_over (item.Struct name members line) level h x there v = statement_over _ level.names x there v.0 v.1 v.2 v.3
  item_over (item.Variables d) level h x there v =
      initialises_keep (OverBase (env_after (item.Variables d) level.names)) d.names (all_over (env_after (item.Variables d) level.names) d.names) level.names
      (file_over (item.Variables d) level h) x there v
  item_over (item.Function is_static result name void_word params body line second) level h x there v = statement_over _ level.names x there v.0 v.1 v.2 v.3
  item_over (item.Cle p line) level h x there v = statement_over _ level.names x there v.0 v.1 v.2 v.3

  -- ---- what an expression names

  callee_bound : (names : Env) (name : Word) (r : CType) (ps : List CType) (o : Option Entry) → o ≡ Some (function r ps) → is_callee (defined_by program) name o (is_library name) ≡ true → is_bound (defined_by program) name ≡ true
  callee_bound names name r ps (Some (function q qs)) e h = h
  callee_bound names name r ps (Some (variable t)) e h = absurd cc
  callee_bound names name r ps None e h = absurd cc
  callee_bound names name r ps (Some _) e h = absurd cc

  call_bound : (names : Env) (name : Word) (r : CType) (ps : List CType) → meaning names name ≡ Some (function r ps) → can_call (defined_by program) names name ≡ true → is_bound (defined_by program) name ≡ true
  unfolding can_call
  call_bound names name r ps m h = callee_bound names name r ps (meaning names name) m h

  module _ (tags there : Env) where
    resolves_step : (x : Expr) → Stands program tags there x → (y : Node-F Node Expr) → (line : ℕ) → node_unknown (known_at (defined_by program) tags) there (names_of (known_at (defined_by program) tags) there y) line ≡ []
        → (t : CType) → NodeIs tags there y t → Resolves program tags there y
    resolves_step x h (node.Number n kind) line e t is = tt
    resolves_step x h node.Real line e t is = tt
    resolves_step x h (node.Letter byte) line e t is = tt
    resolves_step x h (node.Text bytes) line e t is = tt
    resolves_step x h (node.Variable name) line e t is =
        let g = expression_tagged program known tags there x h in
        (t, is, tag_known tags g.0 t (tagged_found tags there g.1 name (variable t) is))
    resolves_step x h (node.Unary op a) line e t is = tt
    resolves_step x h (node.Binary op a b) line e t is = tt
    resolves_step x h (node.Choice c a b) line e t is = tt
    resolves_step x h (node.Cast to a) line e t is =
        let g = expression_tagged program known tags there x h in
        tag_known tags g.0 to (holds _ line (none_of _ _ e).0)
    resolves_step x h (node.Call name arguments) line e t (of_function types p m a) =
        let o = item_over h.item h.level h.stands h.root there h.evaluates in
        of_program t types m
        (is_defined program (program_once program once) (program_right program right) name t types h.item h.level h.stands
        (o name t types m) (call_bound there name t types m (holds (can_call (defined_by program) there name) line (none_of _ _ e).0)))
    resolves_step x h (node.Call name arguments) line e t (of_getchar p m a b) = by_getchar p m
    resolves_step x h (node.Index a i) line e t is = tt
    resolves_step x h (node.Member a name) line e t is = tt
    resolves_step x h (node.Arrow a name) line e t is = tt
    resolves_step x h (node.Paren a) line e t is = tt

    pub resolves : (x : Expr) → Stands program tags there x → Resolves program tags there (out-Node x.node)
    resolves x h =
        let t = expression_type program right tags there x h in
        resolves_step x h (out-Node x.node) x.line
        (sym (unknown_is (known_at (defined_by program) tags) there x) ∙ expression_known program known tags there x h)
        t.0 (node_is tags there x t.0 t.1)

-- ---- laws

pub every_name_resolves : (program : Program) → AllHold (rules program) → (tags names : Env) (x : Expr) → Stands program tags names x → Resolves program tags names (out-Node x.node)
every_name_resolves program h tags names x s = resolves program h.1.1.0 h.1.1.1.0 h.1.1.1.1.0 tags names x s

pub every_tag_known : (program : Program) → AllHold (rules program) → (tags names : Env) (x : Expr) → Stands program tags names x → (name : Word) (entry : Entry) → meaning names name ≡ Some entry → EntryKnown tags entry
every_tag_known program h tags names x s name entry m =
    let g = expression_tagged program h.1.1.1.0 tags names x s in
    entry_known tags g.0 entry (tagged_found tags names g.1 name entry m)

pub every_item_knows : (program : Program) → AllHold (rules program) → (i : Item) (level : Level) → ItemStands program i level → ItemKnows level.tags i
every_item_knows program h i level s =
    item_knows (defined_by program) i level (program_known program h.1.1.1.0 i level s) (program_tagged program h.1.1.1.0 i level s).structs

pub every_declaration_knows : (program : Program) → AllHold (rules program) → (i : Item) (level : Level) (s : Stmt) (spot : Spot) → StmtStands program i level s spot → NamesKnow level.tags (declares s)
every_declaration_knows program h i level s spot p =
    statement_knows (known_at (defined_by program) level.tags) s spot
    (in_body_known (defined_by program) i level (program_known program h.1.1.1.0 i level p.stands) s spot p.within)
    (program_tagged program h.1.1.1.0 i level p.stands).structs

pub library_free : (program : Program) → AllHold (rules program) → (tags names : Env) (x : Expr) → Stands program tags names x → (name : Word) → is_library name ≡ true → meaning names name ≡ None
library_free program h tags names x s name l = library_unbound program h.1.1.0 tags names x s name l

pub every_type : (program : Program) → AllHold (rules program) → (tags names : Env) (x : Expr) → Stands program tags names x → HasType tags names x
every_type program h tags names x s = expression_type program h.1.1.1.1.0 tags names x s

pub statements_fit : (program : Program) → AllHold (rules program) → (i : Item) (level : Level) (s : Stmt) (spot : Spot) → StmtStands program i level s spot → ActFits level.tags (result_of i) (out-Act s.node) spot
statements_fit program h i level s spot p = statement_fits i level (program_right program h.1.1.1.1.0 i level p.stands) s spot p.within

pub items_fit : (program : Program) → AllHold (rules program) → (i : Item) (level : Level) → ItemStands program i level → ItemFits i level
items_fit program h i level s = item_fits i level (program_right program h.1.1.1.1.0 i level s)

pub items_known_all : (program : Program) → AllHold (rules program) → (i : Item) (level : Level) → ItemStands program i level → ItemKnown (defined_by program) i level
items_known_all program h i level s = program_known program h.1.1.1.0 i level s

pub items_right_all : (program : Program) → AllHold (rules program) → (i : Item) (level : Level) → ItemStands program i level → ItemRight i level
items_right_all program h i level s = program_right program h.1.1.1.1.0 i level s
