-- The labels that pragmas put on items are among those that pragmas name.
use Rattle.std.proofs.Common.{◌≡◌, ℕ, List, [], ◌∷◌, ◌++◌, map, length, sym, ap, ◌∙◌, subst, Bool, true, false, Some, None, bytes_eq, if◌then◌else◌}
use Rattle.std.specs.List.{flat_map}
use Rattle.cl_tree.specs.declared.token.Pragma.TheVariants as pragma
use Rattle.cl_tree.specs.declared.tree.Stmt.{Stmt, fold_out-Stmt}
use Rattle.cl_tree.specs.declared.tree.Act.{Act, Act-F, out-Act, map-Act, fold-Act, fold_out-Act}
use Rattle.cl_tree.specs.declared.tree.Act.TheOpen as act
use Rattle.cl_tree.specs.declared.tree.Item.{Item}
use Rattle.cl_tree.specs.declared.tree.Item.TheVariants as item
use Rattle.cl_tree.specs.Words.{Word}
use Rattle.cl_labelling.specs.Pragmas.{Placed, act_pragmas, stmt_pragmas, item_pragmas}
use Rattle.cl_labelling.specs.Names.{Named, has_word, pragma_known}
use Rattle.cl_labelling.specs.Regions.{Marked, Role, says, is_item, passed_over, bars, Part, without, open_after, waiting_after, itself, marked_in, alone, if_static, act_part, stmt_part, body_marked, item_part}
use Rattle.typing_laws.proofs.Levels.{StmtParts, stmt_induction}
use Rattle.typing_laws.proofs.Levels as level
use Rattle.labelling_laws.proofs.Elements.{Each, each_append, each_front, each_back}

-- ---- what the folds are at one level

abbrev pub Placing : Type 0
Placing = ℕ → List Placed

abbrev pub pragma_parts : Act-F Act Stmt → Act-F Placing (List Placed)
pragma_parts = map-Act Act Stmt Placing (List Placed) (fold-Act Placing (List Placed) act_pragmas (λ s. s.node s.line)) stmt_pragmas

pub stmt_pragmas_is : (s : Stmt) → stmt_pragmas s ≡ act_pragmas (pragma_parts (out-Act s.node)) s.line
unfolding stmt_pragmas
stmt_pragmas_is s =
    fold_out-Stmt Placing (List Placed) act_pragmas (λ x. x.node x.line) s
    ∙ ap (λ (f : Placing). f s.line) (fold_out-Act Placing (List Placed) act_pragmas (λ x. x.node x.line) s.node)

abbrev pub Standing : Type 0
Standing = ℕ → Part

abbrev pub part_parts : Act-F Act Stmt → Act-F Standing Part
part_parts = map-Act Act Stmt Standing Part (fold-Act Standing Part act_part (λ s. s.node s.line)) stmt_part

pub stmt_part_is : (s : Stmt) → stmt_part s ≡ act_part (part_parts (out-Act s.node)) s.line
unfolding stmt_part
stmt_part_is s =
    fold_out-Stmt Standing Part act_part (λ x. x.node x.line) s
    ∙ ap (λ (f : Standing). f s.line) (fold_out-Act Standing Part act_part (λ x. x.node x.line) s.node)

-- ---- marks

module _ (named : Named) where
  abbrev pub IsLabel : Word → Type 0
  IsLabel w = has_word named.labels w ≡ true

  abbrev pub PlacedKnown : Placed → Type 0
  PlacedKnown p = pragma_known named p.pragma ≡ true

  abbrev pub RoleKnown : Role → Type 0
  RoleKnown (says p) = pragma_known named p ≡ true
  RoleKnown _ = Unit {0}

  abbrev pub MarksKnown : Marked → Type 0
  MarksKnown m = Each IsLabel m.marks

  abbrev pub PartKnown : Part → Type 0
  PartKnown p = RoleKnown p.role × Each MarksKnown p.inner

  without_known : (begun : List Word) (name : Word) → Each IsLabel begun → Each IsLabel (without begun name)
  unfolding without
  without_known [] name h = tt
  without_known (w ∷ ws) name h = by (bytes_eq w name) (without_known ws name h.1)
    where
      by : (b : Bool) → Each IsLabel (without ws name) → Each IsLabel (if b then ws else w ∷ without ws name)
      by true k = h.1
      by false k = (h.0, k)

  begun_known : (begun : List Word) (role : Role) → Each IsLabel begun → RoleKnown role → Each IsLabel (open_after begun role)
  begun_known begun (says (pragma.Begin name)) h k = (k, h)
  begun_known begun (says (pragma.End name)) h k = without_known begun name h
  begun_known begun (says (pragma.Def name text)) h k = h
  begun_known begun (says (pragma.Next name)) h k = h
  begun_known begun (is_item subject) h k = h
  begun_known begun passed_over h k = h
  begun_known begun bars h k = h

  waiting_known : (waiting : List Word) (role : Role) → Each IsLabel waiting → RoleKnown role → Each IsLabel (waiting_after waiting role)
  waiting_known waiting (says (pragma.Begin name)) h k = h
  waiting_known waiting (says (pragma.End name)) h k = h
  waiting_known waiting (says (pragma.Def name text)) h k = h
  waiting_known waiting (says (pragma.Next name)) h k = (k, h)
  waiting_known waiting (is_item subject) h k = tt
  waiting_known waiting passed_over h k = h
  waiting_known waiting bars h k = tt

  itself_known : (role : Role) (line : ℕ) (marks : List Word) → Each IsLabel marks → Each MarksKnown (itself role line marks)
  itself_known (says p) line marks h = tt
  itself_known (is_item subject) line marks h = (h, tt)
  itself_known passed_over line marks h = tt
  itself_known bars line marks h = tt

  pub marked_known : (begun waiting : List Word) (ps : List Part) → Each IsLabel begun → Each IsLabel waiting → Each PartKnown ps → Each MarksKnown (marked_in begun waiting ps)
  unfolding marked_in
  marked_known begun waiting [] h k q = tt
  marked_known begun waiting (p ∷ ps) h k q =
      each_append MarksKnown (itself p.role p.line (waiting ++ begun)) _
      (itself_known p.role p.line (waiting ++ begun) (each_append IsLabel waiting begun k h))
      (each_append MarksKnown p.inner _ q.0.1
      (marked_known (open_after begun p.role) (waiting_after waiting p.role) ps (begun_known begun p.role h q.0.0) (waiting_known waiting p.role k q.0.0) q.1))

  alone_known : (p : Part) → PartKnown p → Each MarksKnown (alone p)
  alone_known p k = each_append MarksKnown (itself p.role p.line []) p.inner (itself_known p.role p.line [] tt) k.1

  -- ---- statements

  abbrev pub StmtKnown : Stmt → Type 0
  StmtKnown s = Each PlacedKnown (stmt_pragmas s) → PartKnown (stmt_part s)

  parts_known : (ss : List Stmt) → level.Each StmtKnown ss → Each PlacedKnown (flat_map (λ x. x) (map stmt_pragmas ss)) → Each PartKnown (map stmt_part ss)
  parts_known [] h k = tt
  parts_known (s ∷ ss) h k = (
    h.0 (each_front PlacedKnown (stmt_pragmas s) _ k),
    parts_known ss h.1 (each_back PlacedKnown (stmt_pragmas s) _ k),
  )

  static_known : (b : Bool) (n : ℕ) → RoleKnown (if_static b n)
  static_known true n = tt
  static_known false n = tt

  act_known : (y : Act-F Act Stmt) (line : ℕ) → StmtParts StmtKnown y → Each PlacedKnown (act_pragmas (pragma_parts y) line) → PartKnown (act_part (part_parts y) line)
  act_known act.Empty line h k = (tt, tt)
  act_known (act.Block all) line h k = (tt, marked_known [] [] (map stmt_part all) tt tt (parts_known all h k))
  act_known (act.Set op place value) line h k = (tt, tt)
  act_known (act.Bump up prefix place) line h k = (tt, tt)
  act_known (act.Call x) line h k = (tt, tt)
  act_known (act.If test a None) line h k = (
    tt,
    each_append MarksKnown (alone (stmt_part a)) [] (alone_known (stmt_part a) (h.0 (each_front PlacedKnown (stmt_pragmas a) [] k))) tt,
  )
  act_known (act.If test a (Some b)) line h k = (
    tt,
    each_append MarksKnown (alone (stmt_part a)) (alone (stmt_part b))
        (alone_known (stmt_part a) (h.0 (each_front PlacedKnown (stmt_pragmas a) (stmt_pragmas b) k)))
        (alone_known (stmt_part b) (h.1 (each_back PlacedKnown (stmt_pragmas a) (stmt_pragmas b) k))),
  )
  act_known (act.While test body) line h k = (tt, alone_known (stmt_part body) (h k))
  act_known (act.DoWhile body test) line h k = (tt, alone_known (stmt_part body) (h k))
  act_known (act.For first test next body) line h k = (tt, alone_known (stmt_part body) (h.2 k))
  act_known (act.Return x) line h k = (tt, tt)
  act_known act.Break line h k = (tt, tt)
  act_known act.Continue line h k = (tt, tt)
  act_known (act.Declare d) line h k = (static_known d.is_static (length d.names), tt)
  act_known (act.Cle p) line h k = (k.0, tt)

  pub stmt_known : (s : Stmt) → StmtKnown s
  stmt_known = stmt_induction StmtKnown (λ s h k.
      subst PartKnown (sym (stmt_part_is s)) (act_known (out-Act s.node) s.line h (subst (λ (ps : List Placed). Each PlacedKnown ps) (stmt_pragmas_is s) k)))

  body_known : (ss : List Stmt) → Each PlacedKnown (flat_map stmt_pragmas ss) → Each PartKnown (map stmt_part ss)
  body_known [] k = tt
  body_known (s ∷ ss) k = (
    stmt_known s (each_front PlacedKnown (stmt_pragmas s) _ k),
    body_known ss (each_back PlacedKnown (stmt_pragmas s) _ k),
  )

  -- ---- items

  item_known : (i : Item) → Each PlacedKnown (item_pragmas i) → PartKnown (item_part i)
  unfolding item_pragmas item_part body_marked
  item_known (item.Struct name members line) k = (tt, tt)
  item_known (item.Variables d) k = (tt, tt)
  item_known (item.Function is_static result name void_word params None line second) k = (tt, tt)
  item_known (item.Function is_static result name void_word params (Some body) line second) k =
      (tt, marked_known [] [] (map stmt_part body) tt tt (body_known body k))
  item_known (item.Cle p line) k = (k.0, tt)

  pub items_known : (is : List Item) → Each PlacedKnown (flat_map item_pragmas is) → Each PartKnown (map item_part is)
  items_known [] k = tt
  items_known (i ∷ is) k = (
    item_known i (each_front PlacedKnown (item_pragmas i) _ k),
    items_known is (each_back PlacedKnown (item_pragmas i) _ k),
  )
