-- A label for each object of static duration.
use Rattle.std.proofs.Common.{◌≡◌, ℕ, zero, suc, ◌+◌, arith, List, [], ◌∷◌, ◌++◌, map, length, length-append, refl, sym, ap, ◌∙◌, Bool, true, false, Some, None}
use Rattle.std.specs.List.{flat_map}
use Rattle.cl_tree.specs.declared.tree.Declarator.{Declarator}
use Rattle.cl_tree.specs.declared.tree.Stmt.{Stmt, fold_out-Stmt}
use Rattle.cl_tree.specs.declared.tree.Act.{Act, Act-F, out-Act, map-Act, fold-Act, fold_out-Act}
use Rattle.cl_tree.specs.declared.tree.Act.TheOpen as act
use Rattle.cl_tree.specs.declared.tree.Item.{Item}
use Rattle.cl_tree.specs.declared.tree.Item.TheVariants as item
use Rattle.cl_tree.specs.declared.tree.Program.{Program}
use Rattle.cl_tree.specs.Words.{Word}
use Rattle.cl_mean.specs.declared.checked.ObjFact.{ObjFact}
use Rattle.cl_mean.specs.Shape.{times}
use Rattle.cl_mean.specs.Source.{act_statics, statics_in, item_statics, if_static}
use Rattle.cl_labelling.specs.Regions as region
use Rattle.cl_labelling.specs.Regions.{Subject, objects, function, Marked, Role, says, is_item, passed_over, bars, Part, open_after, waiting_after, itself, marked_in, alone, act_part, stmt_part, body_marked, item_part, marked_of}
use Rattle.cl_labelling.specs.Items.{labels_on, label_names, on_objects}
use Rattle.typing_laws.specs.Listed.{AreObjectsOf}
use Rattle.typing_laws.proofs.Levels.{StmtParts, stmt_induction}
use Rattle.typing_laws.proofs.Levels as level
use Rattle.labelling_laws.proofs.Marks.{part_parts, stmt_part_is}

abbrev static_parts : Act-F Act Stmt → Act-F (List Declarator) (List Declarator)
static_parts = map-Act Act Stmt (List Declarator) (List Declarator) (fold-Act (List Declarator) (List Declarator) act_statics (λ s. s.node)) statics_in

statics_is : (s : Stmt) → statics_in s ≡ act_statics (static_parts (out-Act s.node))
unfolding statics_in
statics_is s =
    fold_out-Stmt (List Declarator) (List Declarator) act_statics (λ x. x.node) s
    ∙ fold_out-Act (List Declarator) (List Declarator) act_statics (λ x. x.node) s.node

pub times_one : {A : Type 0} (n : ℕ) (x : A) → length (times n (x ∷ [])) ≡ n
times_one zero x = refl
times_one (suc n) x = ap suc (times_one n x)

flat_then : {X A : Type 0} (f : X → List A) (xs ys : List X) → length (flat_map f (xs ++ ys)) ≡ length (flat_map f xs) + length (flat_map f ys)
flat_then f [] ys = omega arith
flat_then f (x ∷ xs) ys =
    let h : length (flat_map f (xs ++ ys)) ≡ length (flat_map f xs) + length (flat_map f ys) = flat_then f xs ys in
    let a : length (f x ++ flat_map f (xs ++ ys)) ≡ length (f x) + length (flat_map f (xs ++ ys)) = length-append (f x) (flat_map f (xs ++ ys)) in
    let b : length (f x ++ flat_map f xs) ≡ length (f x) + length (flat_map f xs) = length-append (f x) (flat_map f xs) in
    omega (arith, h, a, b)

none_more : (n m : ℕ) → n ≡ m → 0 + n ≡ m
none_more n m e = omega (arith, e)

module _ (names : List Word) where
  -- how many labels some items have
  abbrev pub counted : List Marked → ℕ
  counted ms = length (flat_map (labels_on names) ms)

  counted_then : (xs ys : List Marked) → counted (xs ++ ys) ≡ counted xs + counted ys
  counted_then xs ys = flat_then (labels_on names) xs ys

  -- the objects of a role
  abbrev of_role : Role → ℕ
  of_role (is_item (objects count)) = count
  of_role _ = 0

  abbrev pub of_part : Part → ℕ
  of_part p = of_role p.role + counted p.inner

  itself_counted : (role : Role) (line : ℕ) (marks : List Word) → counted (itself role line marks) ≡ of_role role
  itself_counted (says p) line marks = refl
  itself_counted (is_item (objects count)) line marks = length-append (times count _) [] ∙ ap (λ n. n + 0) (times_one count _) ∙ omega arith
  itself_counted (is_item (function name)) line marks = refl
  itself_counted passed_over line marks = refl
  itself_counted bars line marks = refl

  abbrev total : List Part → ℕ
  total [] = 0
  total (p ∷ ps) = of_part p + total ps

  pub marked_counted : (begun waiting : List Word) (ps : List Part) → counted (marked_in begun waiting ps) ≡ total ps
  unfolding marked_in
  marked_counted begun waiting [] = refl
  marked_counted begun waiting (p ∷ ps) =
      let here = itself p.role p.line (waiting ++ begun) in
      let rest = marked_in (open_after begun p.role) (waiting_after waiting p.role) ps in
      let a : counted here ≡ of_role p.role = itself_counted p.role p.line (waiting ++ begun) in
      let b : counted rest ≡ total ps = marked_counted (open_after begun p.role) (waiting_after waiting p.role) ps in
      let c : counted (here ++ (p.inner ++ rest)) ≡ counted here + counted (p.inner ++ rest) = counted_then here (p.inner ++ rest) in
      let d : counted (p.inner ++ rest) ≡ counted p.inner + counted rest = counted_then p.inner rest in
      omega (arith, a, b, c, d)

  alone_counted : (p : Part) → counted (alone p) ≡ of_part p
  alone_counted p = counted_then (itself p.role p.line []) p.inner ∙ ap (λ n. n + counted p.inner) (itself_counted p.role p.line [])

  -- ---- statements

  abbrev IsCounted : Stmt → Type 0
  IsCounted s = of_part (stmt_part s) ≡ length (statics_in s)

  total_is : (ss : List Stmt) → level.Each IsCounted ss → total (map stmt_part ss) ≡ length (flat_map (λ x. x) (map statics_in ss))
  total_is [] h = refl
  total_is (s ∷ ss) h =
      let a : of_part (stmt_part s) ≡ length (statics_in s) = h.0 in
      let b : total (map stmt_part ss) ≡ length (flat_map (λ x. x) (map statics_in ss)) = total_is ss h.1 in
      let c = length-append (statics_in s) (flat_map (λ x. x) (map statics_in ss)) in
      omega (arith, a, b, c)

  static_counted : (b : Bool) (names' : List Declarator) → of_role (region.if_static b (length names')) + 0 ≡ length (if_static b names')
  static_counted true ds = omega arith
  static_counted false ds = refl

  act_counted : (y : Act-F Act Stmt) (line : ℕ) → StmtParts IsCounted y → of_part (act_part (part_parts y) line) ≡ length (act_statics (static_parts y))
  act_counted act.Empty line h = refl
  act_counted (act.Block all) line h = none_more _ _ (marked_counted [] [] (map stmt_part all) ∙ total_is all h)
  act_counted (act.Set op place value) line h = refl
  act_counted (act.Bump up prefix place) line h = refl
  act_counted (act.Call x) line h = refl
  act_counted (act.If test a None) line h =
      let p : of_part (stmt_part a) ≡ length (statics_in a) = h.0 in
      let q : counted (alone (stmt_part a)) ≡ of_part (stmt_part a) = alone_counted (stmt_part a) in
      let r : counted (alone (stmt_part a) ++ []) ≡ counted (alone (stmt_part a)) + 0 = counted_then (alone (stmt_part a)) [] in
      let s : length (statics_in a ++ []) ≡ length (statics_in a) + 0 = length-append (statics_in a) [] in
      none_more (counted (alone (stmt_part a) ++ [])) (length (statics_in a ++ [])) (omega (arith, p, q, r, s))
  act_counted (act.If test a (Some b)) line h =
      let p : of_part (stmt_part a) ≡ length (statics_in a) = h.0 in
      let o : of_part (stmt_part b) ≡ length (statics_in b) = h.1 in
      let q : counted (alone (stmt_part a)) ≡ of_part (stmt_part a) = alone_counted (stmt_part a) in
      let t : counted (alone (stmt_part b)) ≡ of_part (stmt_part b) = alone_counted (stmt_part b) in
      let r : counted (alone (stmt_part a) ++ alone (stmt_part b)) ≡ counted (alone (stmt_part a)) + counted (alone (stmt_part b)) = counted_then (alone (stmt_part a)) (alone (stmt_part b)) in
      let s : length (statics_in a ++ statics_in b) ≡ length (statics_in a) + length (statics_in b) = length-append (statics_in a) (statics_in b) in
      none_more (counted (alone (stmt_part a) ++ alone (stmt_part b))) (length (statics_in a ++ statics_in b)) (omega (arith, p, o, q, t, r, s))
  act_counted (act.While test body) line h = none_more _ _ (alone_counted (stmt_part body) ∙ h)
  act_counted (act.DoWhile body test) line h = none_more _ _ (alone_counted (stmt_part body) ∙ h)
  act_counted (act.For first test next body) line h = none_more _ _ (alone_counted (stmt_part body) ∙ h.2)
  act_counted (act.Return x) line h = refl
  act_counted act.Break line h = refl
  act_counted act.Continue line h = refl
  act_counted (act.Declare d) line h = static_counted d.is_static d.names
  act_counted (act.Cle p) line h = refl

  stmt_counted : (s : Stmt) → IsCounted s
  stmt_counted = stmt_induction IsCounted (λ s h. ap of_part (stmt_part_is s) ∙ act_counted (out-Act s.node) s.line h ∙ ap length (sym (statics_is s)))

  body_total : (ss : List Stmt) → total (map stmt_part ss) ≡ length (flat_map statics_in ss)
  body_total [] = refl
  body_total (s ∷ ss) =
      let a : of_part (stmt_part s) ≡ length (statics_in s) = stmt_counted s in
      let b : total (map stmt_part ss) ≡ length (flat_map statics_in ss) = body_total ss in
      let c = length-append (statics_in s) (flat_map statics_in ss) in
      omega (arith, a, b, c)

  -- ---- items

  item_counted : (i : Item) → of_part (item_part i) ≡ length (item_statics i)
  unfolding item_part body_marked
  item_counted (item.Struct name members line) = refl
  item_counted (item.Variables d) = omega arith
  item_counted (item.Function is_static result name void_word params None line second) = refl
  item_counted (item.Function is_static result name void_word params (Some body) line second) = none_more _ _ (marked_counted [] [] (map stmt_part body) ∙ body_total body)
  item_counted (item.Cle p line) = refl

  items_total : (is : List Item) → total (map item_part is) ≡ length (flat_map item_statics is)
  items_total [] = refl
  items_total (i ∷ is) =
      let a : of_part (item_part i) ≡ length (item_statics i) = item_counted i in
      let b : total (map item_part is) ≡ length (flat_map item_statics is) = items_total is in
      let c = length-append (item_statics i) (flat_map item_statics is) in
      omega (arith, a, b, c)

objects_counted : (os : List ObjFact) (ds : List Declarator) → AreObjectsOf os ds → length os ≡ length ds
objects_counted [] [] h = refl
objects_counted [] (d ∷ ds) h = absurd h
objects_counted (o ∷ os) [] h = absurd h
objects_counted (o ∷ os) (d ∷ ds) h = ap suc (objects_counted os ds h.1)

-- the labels of objects are as many as the objects
pub labels_counted : (program : Program) (os : List ObjFact) → AreObjectsOf os (flat_map item_statics program.items) → length (on_objects program) ≡ length os
unfolding on_objects marked_of
labels_counted program os h =
    marked_counted (label_names program) [] [] (map item_part program.items) ∙ items_total (label_names program) program.items
    ∙ sym (objects_counted os (flat_map item_statics program.items) h)
