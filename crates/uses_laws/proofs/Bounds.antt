-- The numbers that uses name are those of functions and objects.
use Rattle.std.proofs.Common.{◌≡◌, ℕ, zero, suc, ◌+◌, ◌<◌, ◌≤◌, List, [], ◌∷◌, ◌++◌, map, length, refl, sym, ap, ◌∙◌, subst, arith, Bool, true, false, if◌then◌else◌, Option, Some, None, option_map, bytes_eq}
use Rattle.std.specs.List.{flat_map}
use Rattle.cl_tree.specs.declared.tree.Expr.{Expr, fold_out-Expr}
use Rattle.cl_tree.specs.declared.tree.Node.{Node, Node-F, out-Node, map-Node, fold-Node, fold_out-Node}
use Rattle.cl_tree.specs.declared.tree.Node.TheOpen as node
use Rattle.cl_tree.specs.declared.tree.Init.{Init, Init-F, out-Init, map-Init, fold_out-Init}
use Rattle.cl_tree.specs.declared.tree.Init.TheOpen as init
use Rattle.cl_tree.specs.declared.tree.Declarator.{Declarator}
use Rattle.cl_tree.specs.declared.tree.Stmt.{Stmt, fold_out-Stmt}
use Rattle.cl_tree.specs.declared.tree.Act.{Act, Act-F, out-Act, map-Act, fold-Act, fold_out-Act}
use Rattle.cl_tree.specs.declared.tree.Act.TheOpen as act
use Rattle.cl_tree.specs.declared.tree.Item.{Item}
use Rattle.cl_tree.specs.declared.tree.Item.TheVariants as item
use Rattle.cl_tree.specs.Words.{Word}
use Rattle.cl_mean.specs.declared.checked.FnFact.{FnFact}
use Rattle.cl_mean.specs.declared.checked.Typed.{Typed}
use Rattle.cl_levels.specs.declared.uses.Variable.{Variable}
use Rattle.cl_levels.specs.declared.uses.Variable.TheVariants.{Static, Local}
use Rattle.cl_levels.specs.declared.uses.Use.{Use}
use Rattle.cl_levels.specs.declared.uses.Use.TheVariants.{Named, Called}
use Rattle.cl_levels.specs.Uses.{number_from, number_among, Known, variable_of, Names, Read, named, called, node_read, read, uses_in, maybe_uses, init_step, init_uses, maybe_init, Walk, in_turn, if_there, scoped, reads, with_local, locals_walk, with_static, statics_walk, declare_walk, act_walk, walk, with_params, body_walk, with_objects, bodies_from, no_names, uses_of}
use Rattle.typing_laws.proofs.Levels.{Each, init_induction, Maybe, StmtParts, stmt_induction, InitParts}
use Rattle.typing_laws.proofs.Alike.{Parts, expr_induction}
use Rattle.uses_laws.specs.Within.{statics_from, numbered, RootWithin, RootsWithin, UseWithin, UsesWithin, BodiesWithin}

-- ---- lists

pub append_within : (m n : ℕ) (a b : List Use) → UsesWithin m n a → UsesWithin m n b → UsesWithin m n (a ++ b)
append_within m n [] b h g = g
append_within m n (u ∷ a) b h g = (h.0, append_within m n a b h.1 g)

root_more : (n o : ℕ) (r : Option Variable) → n ≤ o → RootWithin n r → RootWithin o r
root_more n o (Some (Static k)) l h = omega arith
root_more n o (Some (Local k)) l h = tt
root_more n o None l h = tt

roots_more : (n o : ℕ) (rs : List (Option Variable)) → n ≤ o → RootsWithin n rs → RootsWithin o rs
roots_more n o [] l h = tt
roots_more n o (r ∷ rs) l h = (root_more n o r l h.0, roots_more n o rs l h.1)

use_more : (m n o : ℕ) (u : Use) → n ≤ o → UseWithin m n u → UseWithin m o u
use_more m n o (Named k line) l h = omega arith
use_more m n o (Called g roots line) l h = (h.0, roots_more n o roots l h.1)

pub uses_more : (m n o : ℕ) (us : List Use) → n ≤ o → UsesWithin m n us → UsesWithin m o us
uses_more m n o [] l h = tt
uses_more m n o (u ∷ us) l h = (use_more m n o u l h.0, uses_more m n o us l h.1)

-- the known variables that are objects of static duration are below `n`
abbrev pub KnownWithin : ℕ → List Known → Type 0
KnownWithin n [] = Unit {0}
KnownWithin n (k ∷ ks) = RootWithin n (Some k.variable) × KnownWithin n ks

pub known_more : (n o : ℕ) (ks : List Known) → n ≤ o → KnownWithin n ks → KnownWithin o ks
known_more n o [] l h = tt
known_more n o (k ∷ ks) l h = (root_more n o (Some k.variable) l h.0, known_more n o ks l h.1)

-- ---- names

variable_case : (b : Bool) (n : ℕ) (v : Variable) (o : Option Variable) → RootWithin n (Some v) → RootWithin n o
    → RootWithin n (if b then Some v else o)
variable_case true n v o h g = h
variable_case false n v o h g = g

variable_within : (n : ℕ) (ks : List Known) (name : Word) → KnownWithin n ks → RootWithin n (variable_of ks name)
unfolding variable_of
variable_within n [] name h = tt
variable_within n (k ∷ ks) name h =
    variable_case (bytes_eq k.name name) n k.variable (variable_of ks name) h.0 (variable_within n ks name h.1)

number_case : (b : Bool) (k m g : ℕ) (o : Option ℕ) → k < m → (o ≡ Some g → g < m) → (if b then Some k else o) ≡ Some g → g < m
number_case true k m g o l f e = let q : k ≡ g = cc in omega arith
number_case false k m g o l f e = f e

number_within : (k : ℕ) (fs : List FnFact) (name : Word) (g : ℕ) → number_from k fs name ≡ Some g → g < k + length fs
unfolding number_from
number_within k [] name g e = absurd cc
number_within k (f ∷ fs) name g e =
    number_case (bytes_eq f.name name) k (k + suc (length fs)) g (number_from (suc k) fs name) (omega arith)
    (λ q. let l : g < suc k + length fs = number_within (suc k) fs name g q in omega arith) e

number_among_within : (fs : List FnFact) (name : Word) (g : ℕ) → number_among fs name ≡ Some g → g < length fs
number_among_within fs name g e = let l : g < 0 + length fs = number_within 0 fs name g e in omega arith

-- ---- expressions

abbrev pub ReadWithin : ℕ → ℕ → Read → Type 0
ReadWithin m n r = UsesWithin m n r.uses × RootWithin n r.root

named_within : (m n : ℕ) (o : Option Variable) (line : ℕ) → RootWithin n o → UsesWithin m n (named o line)
named_within m n (Some (Static k)) line h = (h, tt)
named_within m n (Some (Local k)) line h = tt
named_within m n None line h = tt

called_within : (m n : ℕ) (o : Option ℕ) (roots : List (Option Variable)) (line : ℕ) → ((g : ℕ) → o ≡ Some g → g < m)
    → RootsWithin n roots → UsesWithin m n (called o roots line)
called_within m n None roots line f h = tt
called_within m n (Some g) roots line f h = ((f g refl, h), tt)

module _ (fs : List FnFact) (n : ℕ) (ks : List Known) (known : KnownWithin n ks) where
  abbrev pub read_parts : Node-F Node Expr → Node-F (ℕ → Read) Read
  read_parts = map-Node Node Expr (ℕ → Read) Read (fold-Node (ℕ → Read) Read (node_read fs ks) (λ e. e.node e.line)) (read fs ks)

  read_is : (e : Expr) → read fs ks e ≡ node_read fs ks (read_parts (out-Node e.node)) e.line
  unfolding read
  read_is e =
      fold_out-Expr (ℕ → Read) Read (node_read fs ks) (λ x. x.node x.line) e
      ∙ ap (λ (f : ℕ → Read). f e.line) (fold_out-Node (ℕ → Read) Read (node_read fs ks) (λ x. x.node x.line) e.node)

  abbrev pub Fits : Expr → Type 0
  Fits e = ReadWithin (length fs) n (read fs ks e)

  roots_of : (es : List Expr) → Each Fits es → RootsWithin n (map (λ a. a.root) (map (read fs ks) es))
  roots_of [] h = tt
  roots_of (e ∷ es) h = (h.0.1, roots_of es h.1)

  uses_of_all : (es : List Expr) → Each Fits es → UsesWithin (length fs) n (flat_map (λ a. a.uses) (map (read fs ks) es))
  uses_of_all [] h = tt
  uses_of_all (e ∷ es) h = append_within (length fs) n (read fs ks e).uses _ h.0.0 (uses_of_all es h.1)

  node_within : (y : Node-F Node Expr) (line : ℕ) → Parts Fits y → ReadWithin (length fs) n (node_read fs ks (read_parts y) line)
  node_within (node.Number value kind) line h = (tt, tt)
  node_within node.Real line h = (tt, tt)
  node_within (node.Letter b) line h = (tt, tt)
  node_within (node.Text bs) line h = (tt, tt)
  node_within (node.Variable name) line h =
      (named_within (length fs) n (variable_of ks name) line (variable_within n ks name known), variable_within n ks name known)
  node_within (node.Unary op a) line h = (h.0, tt)
  node_within (node.Binary op a b) line h = (append_within (length fs) n (read fs ks a).uses _ h.0.0 h.1.0, tt)
  node_within (node.Choice c a b) line h =
      (append_within (length fs) n (read fs ks c).uses _ h.0.0 (append_within (length fs) n (read fs ks a).uses _ h.1.0 h.2.0), tt)
  node_within (node.Cast t a) line h = (h.0, tt)
  node_within (node.Call name es) line h = (
    append_within (length fs) n (called (number_among fs name) (map (λ a. a.root) (map (read fs ks) es)) line) _
        (called_within (length fs) n (number_among fs name) (map (λ a. a.root) (map (read fs ks) es)) line (number_among_within fs name) (roots_of es h))
        (uses_of_all es h),
    tt,
  )
  node_within (node.Index a i) line h = (append_within (length fs) n (read fs ks a).uses _ h.0.0 h.1.0, h.0.1)
  node_within (node.Member a name) line h = h
  node_within (node.Arrow a name) line h = h
  node_within (node.Paren a) line h = h

  pub expr_within : (e : Expr) → Fits e
  expr_within = expr_induction Fits (λ e h. subst (ReadWithin (length fs) n) (sym (read_is e)) (node_within (out-Node e.node) e.line h))

  pub uses_within : (e : Expr) → UsesWithin (length fs) n (uses_in fs ks e)
  uses_within e = (expr_within e).0

  pub maybe_within : (e : Option Expr) → UsesWithin (length fs) n (maybe_uses fs ks e)
  maybe_within None = tt
  maybe_within (Some e) = uses_within e

  abbrev pub InitFits : Init → Type 0
  InitFits i = UsesWithin (length fs) n (init_uses fs ks i)

  init_is : (i : Init) → init_uses fs ks i ≡ init_step fs ks (map-Init Init (List Use) (init_uses fs ks) (out-Init i))
  unfolding init_uses
  init_is i = fold_out-Init (List Use) (init_step fs ks) i

  all_inits : (is : List Init) → Each InitFits is → UsesWithin (length fs) n (flat_map (λ us. us) (map (init_uses fs ks) is))
  all_inits [] h = tt
  all_inits (i ∷ is) h = append_within (length fs) n (init_uses fs ks i) _ h.0 (all_inits is h.1)

  init_within : (y : Init-F Init) → InitParts InitFits y → UsesWithin (length fs) n (init_step fs ks (map-Init Init (List Use) (init_uses fs ks) y))
  init_within (init.One e) h = uses_within e
  init_within (init.Many all) h = all_inits all h

  pub inits_within : (i : Init) → InitFits i
  inits_within = init_induction InitFits (λ i h. subst (UsesWithin (length fs) n) (sym (init_is i)) (init_within (out-Init i) h))

  pub start_within : (i : Option Init) → UsesWithin (length fs) n (maybe_init fs ks i)
  start_within None = tt
  start_within (Some i) = inits_within i

-- ---- statements

abbrev pub Right : Names → Type 0
Right ns = KnownWithin ns.statics ns.known

pub record WalkFits (m : ℕ) (w : Walk) (ns : Names) : Type 0 where
  pub uses : UsesWithin m (w ns).1.statics (w ns).0
  pub names : Right (w ns).1
  pub grows : ns.statics ≤ (w ns).1.statics

abbrev pub Sound : ℕ → Walk → Type 0
Sound m w = (ns : Names) → Right ns → WalkFits m w ns

reads_sound : (m : ℕ) (uses : List Known → List Use) → ((n : ℕ) (ks : List Known) → KnownWithin n ks → UsesWithin m n (uses ks)) → Sound m (reads uses)
reads_sound m uses f ns h = record { uses = f ns.statics ns.known h; names = h; grows = omega arith }

abbrev pub AllSound : ℕ → List Walk → Type 0
AllSound m [] = Unit {0}
AllSound m (w ∷ ws) = Sound m w × AllSound m ws

turn_sound : (m : ℕ) (ws : List Walk) → AllSound m ws → Sound m (in_turn ws)
turn_sound m [] s ns h = record { uses = tt; names = h; grows = omega arith }
turn_sound m (w ∷ ws) s ns h =
    let a : WalkFits m w ns = s.0 ns h in
    let b : WalkFits m (in_turn ws) (w ns).1 = turn_sound m ws s.1 (w ns).1 a.names in
    let l : ns.statics ≤ (w ns).1.statics = a.grows in
    let r : (w ns).1.statics ≤ (in_turn ws (w ns).1).1.statics = b.grows in
    record {
      uses = append_within m _ (w ns).0 _ (uses_more m _ _ (w ns).0 r a.uses) b.uses;
      names = b.names;
      grows = omega arith;
    }

scoped_sound : (m : ℕ) (w : Walk) → Sound m w → Sound m (scoped w)
scoped_sound m w s ns h =
    let a : WalkFits m w ns = s ns h in
    record { uses = a.uses; names = known_more ns.statics (w ns).1.statics ns.known a.grows h; grows = a.grows }

next_within : (n : ℕ) → n < suc n
next_within n = omega arith

next_more : (n : ℕ) → n ≤ suc n
next_more n = omega arith

static_right : (d : Declarator) (ns : Names) → Right ns → Right (with_static d.name ns)
static_right d ns h = (next_within ns.statics, known_more ns.statics (suc ns.statics) ns.known (next_more ns.statics) h)

statics_sound : (m : ℕ) (ds : List Declarator) → Sound m (statics_walk ds)
statics_sound m [] ns h = record { uses = tt; names = h; grows = omega arith }
statics_sound m (d ∷ ds) ns h =
    let a : WalkFits m (statics_walk ds) (with_static d.name ns) = statics_sound m ds (with_static d.name ns) (static_right d ns h) in
    let g : suc ns.statics ≤ (statics_walk ds (with_static d.name ns)).1.statics = a.grows in
    record { uses = (omega arith, a.uses); names = a.names; grows = omega arith }

local_right : (d : Declarator) (ns : Names) → Right ns → Right (with_local d.name ns)
local_right d ns h = (tt, h)

abbrev pub walk_parts : List FnFact → Act-F Act Stmt → Act-F Walk Walk
walk_parts fs = map-Act Act Stmt Walk Walk (fold-Act Walk Walk (act_walk fs) (λ s. s.node)) (walk fs)

pub walk_is : (fs : List FnFact) (s : Stmt) → walk fs s ≡ act_walk fs (walk_parts fs (out-Act s.node))
unfolding walk
walk_is fs s =
    fold_out-Stmt Walk Walk (act_walk fs) (λ x. x.node) s
    ∙ fold_out-Act Walk Walk (act_walk fs) (λ x. x.node) s.node

module _ (fs : List FnFact) where
  locals_sound : (ds : List Declarator) → Sound (length fs) (locals_walk fs ds)
  locals_sound [] ns h = record { uses = tt; names = h; grows = omega arith }
  locals_sound (d ∷ ds) ns h =
      let r : Right (with_local d.name ns) = local_right d ns h in
      let a : WalkFits (length fs) (locals_walk fs ds) (with_local d.name ns) = locals_sound ds (with_local d.name ns) r in
      let u : UsesWithin (length fs) ns.statics (maybe_init fs (with_local d.name ns).known d.init) =
      start_within fs ns.statics (with_local d.name ns).known r d.init in
      record {
        uses = append_within (length fs) _ (maybe_init fs (with_local d.name ns).known d.init) _ (uses_more (length fs) ns.statics _ _ a.grows u) a.uses;
        names = a.names;
        grows = a.grows;
      }

  declare_sound : (b : Bool) (ds : List Declarator) → Sound (length fs) (declare_walk fs b ds)
  declare_sound true ds = statics_sound (length fs) ds
  declare_sound false ds = locals_sound ds

  abbrev pub StmtSound : Stmt → Type 0
  StmtSound s = Sound (length fs) (walk fs s)

  all_sound : (ss : List Stmt) → Each StmtSound ss → AllSound (length fs) (map (walk fs) ss)
  all_sound [] h = tt
  all_sound (s ∷ ss) h = (h.0, all_sound ss h.1)

  none_sound : Sound (length fs) (if_there None)
  none_sound ns r = record { uses = tt; names = r; grows = omega arith }

  there_sound : (w : Walk) → Sound (length fs) w → Sound (length fs) (if_there (Some w))
  there_sound w h ns r = h ns r

  expr_sound : (e : Expr) → Sound (length fs) (reads (λ ks. uses_in fs ks e))
  expr_sound e = reads_sound (length fs) (λ ks. uses_in fs ks e) (λ n ks k. uses_within fs n ks k e)

  part_sound : (e : Option Expr) → Sound (length fs) (reads (λ ks. maybe_uses fs ks e))
  part_sound e = reads_sound (length fs) (λ ks. maybe_uses fs ks e) (λ n ks k. maybe_within fs n ks k e)

  nothing_sound : Sound (length fs) (reads (λ ks. []))
  nothing_sound = reads_sound (length fs) (λ ks. []) (λ n ks k. tt)

  if_sound : (c : Expr) (w : Walk) → Sound (length fs) w → (o : Option Walk) → Sound (length fs) (if_there o)
      → Sound (length fs) (in_turn (reads (λ ks. uses_in fs ks c) ∷ scoped w ∷ scoped (if_there o) ∷ []))
  if_sound c w h o g =
      turn_sound (length fs) (reads (λ ks. uses_in fs ks c) ∷ scoped w ∷ scoped (if_there o) ∷ [])
      (expr_sound c, (scoped_sound (length fs) w h, (scoped_sound (length fs) (if_there o) g, tt)))

  abbrev pub for_parts : Option Walk → Option Expr → Option Walk → Walk → List Walk
  for_parts first test next w = if_there first ∷ reads (λ ks. maybe_uses fs ks test) ∷ if_there next ∷ scoped w ∷ []

  for_sound : (first : Option Walk) → Sound (length fs) (if_there first) → (test : Option Expr) (next : Option Walk)
      → Sound (length fs) (if_there next) → (w : Walk) → Sound (length fs) w → Sound (length fs) (scoped (in_turn (for_parts first test next w)))
  for_sound first a test next b w h =
      scoped_sound (length fs) (in_turn (for_parts first test next w)) (turn_sound (length fs) (for_parts first test next w)
      (a, (part_sound test, (b, (scoped_sound (length fs) w h, tt)))))

  act_sound : (y : Act-F Act Stmt) → StmtParts StmtSound y → Sound (length fs) (act_walk fs (walk_parts fs y))
  act_sound act.Empty h = nothing_sound
  act_sound (act.Block ss) h = scoped_sound (length fs) (in_turn (map (walk fs) ss)) (turn_sound (length fs) (map (walk fs) ss) (all_sound ss h))
  act_sound (act.Set op place value) h =
      reads_sound (length fs) (λ ks. uses_in fs ks place ++ uses_in fs ks value)
      (λ n ks k. append_within (length fs) n (uses_in fs ks place) _ (uses_within fs n ks k place) (uses_within fs n ks k value))
  act_sound (act.Bump up prefix place) h = expr_sound place
  act_sound (act.Call e) h = expr_sound e
  act_sound (act.If c s None) h = if_sound c (walk fs s) h.0 None none_sound
  act_sound (act.If c s (Some t)) h = if_sound c (walk fs s) h.0 (Some (walk fs t)) (there_sound (walk fs t) h.1)
  act_sound (act.While c s) h = turn_sound (length fs) (reads (λ ks. uses_in fs ks c) ∷ scoped (walk fs s) ∷ []) (expr_sound c, (scoped_sound (length fs) (walk fs s) h, tt))
  act_sound (act.DoWhile s c) h = turn_sound (length fs) (scoped (walk fs s) ∷ reads (λ ks. uses_in fs ks c) ∷ []) (scoped_sound (length fs) (walk fs s) h, (expr_sound c, tt))
  act_sound (act.For None test None s) h = for_sound None none_sound test None none_sound (walk fs s) h.2
  act_sound (act.For None test (Some n) s) h =
      for_sound None none_sound test (Some (walk fs n)) (there_sound (walk fs n) h.1) (walk fs s) h.2
  act_sound (act.For (Some f) test None s) h =
      for_sound (Some (walk fs f)) (there_sound (walk fs f) h.0) test None none_sound (walk fs s) h.2
  act_sound (act.For (Some f) test (Some n) s) h =
      for_sound (Some (walk fs f)) (there_sound (walk fs f) h.0) test (Some (walk fs n)) (there_sound (walk fs n) h.1) (walk fs s) h.2
  act_sound (act.Return e) h = part_sound e
  act_sound act.Break h = nothing_sound
  act_sound act.Continue h = nothing_sound
  act_sound (act.Declare d) h = declare_sound d.is_static d.names
  act_sound (act.Cle p) h = nothing_sound

  pub stmt_sound : (s : Stmt) → StmtSound s
  stmt_sound = stmt_induction StmtSound (λ s h. subst (Sound (length fs)) (sym (walk_is fs s)) (act_sound (out-Act s.node) h))

  each_sound : (ss : List Stmt) → Each StmtSound ss
  each_sound [] = tt
  each_sound (s ∷ ss) = (stmt_sound s, each_sound ss)

  -- ---- items

  params_right : (ds : List Declarator) (ns : Names) → Right ns → Right (with_params ds ns) × (ns.statics ≤ (with_params ds ns).statics)
  unfolding with_params
  params_right [] ns h = (h, omega arith)
  params_right (d ∷ ds) ns h = params_right ds (with_local d.name ns) (local_right d ns h)

  body_sound : (params : List Declarator) (ss : List Stmt) → Sound (length fs) (body_walk fs params ss)
  unfolding body_walk
  body_sound params ss ns h =
      let p = params_right params (record { known = ns.known; locals = 0; statics = ns.statics }) h in
      let behind : Names = with_params params (record { known = ns.known; locals = 0; statics = ns.statics }) in
      let a : WalkFits (length fs) (in_turn (map (walk fs) ss)) behind = turn_sound (length fs) (map (walk fs) ss) (all_sound ss (each_sound ss)) behind p.0 in
      let l : ns.statics ≤ behind.statics = p.1 in
      let r : behind.statics ≤ (in_turn (map (walk fs) ss) behind).1.statics = a.grows in
      let g : ns.statics ≤ (in_turn (map (walk fs) ss) behind).1.statics = omega arith in
      record { uses = a.uses; names = known_more ns.statics _ ns.known g h; grows = g }

  objects_right : (ds : List Declarator) (ns : Names) → Right ns → Right (with_objects ds ns)
  unfolding with_objects
  objects_right [] ns h = h
  objects_right (d ∷ ds) ns h = objects_right ds (with_static d.name ns) (static_right d ns h)

  objects_grow : (ds : List Declarator) (ns : Names) → ns.statics ≤ (with_objects ds ns).statics
  unfolding with_objects
  objects_grow [] ns = omega arith
  objects_grow (d ∷ ds) ns =
      let l : suc ns.statics ≤ (with_objects ds (with_static d.name ns)).statics = objects_grow ds (with_static d.name ns) in omega arith

  statics_grow : (is : List Item) (ns : Names) → Right ns → ns.statics ≤ statics_from fs ns is
  unfolding statics_from
  statics_grow [] ns h = omega arith
  statics_grow (item.Struct name members line ∷ is) ns h = statics_grow is ns h
  statics_grow (item.Variables d ∷ is) ns h =
      let l : ns.statics ≤ (with_objects d.names ns).statics = objects_grow d.names ns in
      let r : (with_objects d.names ns).statics ≤ statics_from fs (with_objects d.names ns) is =
      statics_grow is (with_objects d.names ns) (objects_right d.names ns h) in
      omega arith
  statics_grow (item.Function is_static result name void_word params None line second ∷ is) ns h = statics_grow is ns h
  statics_grow (item.Function is_static result name void_word params (Some ss) line second ∷ is) ns h =
      let a : WalkFits (length fs) (body_walk fs params ss) ns = body_sound params ss ns h in
      let l : ns.statics ≤ (body_walk fs params ss ns).1.statics = a.grows in
      let r : (body_walk fs params ss ns).1.statics ≤ statics_from fs (body_walk fs params ss ns).1 is =
      statics_grow is (body_walk fs params ss ns).1 a.names in
      omega arith
  statics_grow (item.Cle p line ∷ is) ns h = statics_grow is ns h

  bodies_within : (is : List Item) (ns : Names) → Right ns → BodiesWithin (length fs) (statics_from fs ns is) (bodies_from fs ns is)
  unfolding statics_from bodies_from
  bodies_within [] ns h = tt
  bodies_within (item.Struct name members line ∷ is) ns h = bodies_within is ns h
  bodies_within (item.Variables d ∷ is) ns h = bodies_within is (with_objects d.names ns) (objects_right d.names ns h)
  bodies_within (item.Function is_static result name void_word params None line second ∷ is) ns h = bodies_within is ns h
  bodies_within (item.Function is_static result name void_word params (Some ss) line second ∷ is) ns h =
      let a : WalkFits (length fs) (body_walk fs params ss) ns = body_sound params ss ns h in (
        uses_more (length fs) (body_walk fs params ss ns).1.statics _ (body_walk fs params ss ns).0 (statics_grow is (body_walk fs params ss ns).1 a.names) a.uses,
        bodies_within is (body_walk fs params ss ns).1 a.names,
      )
  bodies_within (item.Cle p line ∷ is) ns h = bodies_within is ns h

pub all_within : (typed : Typed) → BodiesWithin (length typed.functions) (numbered typed) (uses_of typed)
unfolding uses_of
all_within typed = bodies_within typed.functions typed.program.items no_names tt
