-- At most as many objects are numbered as are counted.
use Rattle.std.proofs.Common.{◌≡◌, ℕ, suc, ◌+◌, ◌≤◌, List, [], ◌∷◌, ◌++◌, map, length, refl, sym, ap, ◌∙◌, subst, arith, Bool, true, false, if◌then◌else◌, Option, Some, None}
use Rattle.std.specs.List.{flat_map}
use Rattle.cl_tree.specs.declared.tree.Expr.{Expr}
use Rattle.cl_tree.specs.declared.tree.Declaration.{Declaration}
use Rattle.cl_tree.specs.declared.tree.Declarator.{Declarator}
use Rattle.cl_tree.specs.declared.tree.Stmt.{Stmt}
use Rattle.cl_tree.specs.declared.tree.Act.{Act, Act-F, out-Act}
use Rattle.cl_tree.specs.declared.tree.Act.TheOpen as act
use Rattle.cl_tree.specs.declared.tree.CType.{CType}
use Rattle.cl_tree.specs.Words.{Word}
use Rattle.cl_tree.specs.declared.tree.Item.{Item}
use Rattle.cl_tree.specs.declared.tree.Item.TheVariants as item
use Rattle.cl_mean.specs.declared.checked.FnFact.{FnFact}
use Rattle.cl_mean.specs.declared.checked.Typed.{Typed}
use Rattle.cl_typing.specs.Sizes.{Size, Counted, objects, declared_objects, act_counted, stmt_counted, body_counted, in_item, in_items, sizes_after, maybe_counted}
use Rattle.cl_typing.specs.Typing.{IsTyped}
use Rattle.cl_levels.specs.Uses.{Known, Names, Walk, in_turn, if_there, scoped, reads, with_local, locals_walk, with_static, statics_walk, declare_walk, act_walk, walk, with_params, body_walk, with_objects, no_names, uses_in, maybe_uses}
use Rattle.typing_laws.proofs.Counted.{counted_parts, stmt_counted_is}
use Rattle.typing_laws.proofs.Levels.{Each, StmtParts, stmt_induction}
use Rattle.typing_laws.proofs.Weights.{weigh, by_size, weigh_app, program_bounded, objects_grow, objects_weigh}
use Rattle.uses_laws.specs.Within.{statics_from, numbered}
use Rattle.uses_laws.proofs.Bounds.{walk_parts, walk_is}

abbrev one : Counted → ℕ
one = by_size (λ n. 1)

-- a walk numbers at most so many objects
abbrev Light : Walk → ℕ → Type 0
Light w n = (ns : Names) → (w ns).1.statics ≤ ns.statics + n

abbrev AllLight : List Walk → ℕ → Type 0
AllLight [] n = Unit {0}
AllLight (w ∷ ws) n = (k : ℕ) × ((m : ℕ) × (Light w k × (AllLight ws m × (k + m ≤ n))))

turn_light : (ws : List Walk) (n : ℕ) → AllLight ws n → Light (in_turn ws) n
turn_light [] n h ns = omega arith
turn_light (w ∷ ws) n h ns =
    let a : (w ns).1.statics ≤ ns.statics + h.0 = h.1.1.0 ns in
    let b : (in_turn ws (w ns).1).1.statics ≤ (w ns).1.statics + h.1.0 = turn_light ws h.1.0 h.1.1.1.0 (w ns).1 in
    let c : h.0 + h.1.0 ≤ n = h.1.1.1.1 in
    omega arith

nothing_light : (uses : List Known → _) (n : ℕ) → Light (reads uses) n
nothing_light uses n ns = omega arith

weaker : (w : Walk) (k n : ℕ) → k ≤ n → Light w k → Light w n
weaker w k n l h ns = let a : (w ns).1.statics ≤ ns.statics + k = h ns in omega arith

statics_light : (ds : List Declarator) → Light (statics_walk ds) (length ds)
statics_light [] ns = omega arith
statics_light (d ∷ ds) ns =
    let a : (statics_walk ds (with_static d.name ns)).1.statics ≤ suc ns.statics + length ds = statics_light ds (with_static d.name ns) in omega arith

module _ (fs : List FnFact) (sizes : List Size) where
  locals_light : (ds : List Declarator) → Light (locals_walk fs ds) 0
  locals_light [] ns = omega arith
  locals_light (d ∷ ds) ns = locals_light ds (with_local d.name ns)

  weigh_names : (ds : List Declarator) → weigh one (objects sizes ds) ≡ length ds
  unfolding objects
  weigh_names [] = refl
  weigh_names (d ∷ ds) = let e : weigh one (objects sizes ds) ≡ length ds = weigh_names ds in omega arith

  declare_light : (b : Bool) (ds : List Declarator) → Light (declare_walk fs b ds) (weigh one (if b then objects sizes ds else []))
  declare_light true ds = weaker (statics_walk ds) (length ds) (weigh one (objects sizes ds)) (let e : weigh one (objects sizes ds) ≡ length ds = weigh_names ds in omega arith) (statics_light ds)
  declare_light false ds = locals_light ds

  abbrev StmtLight : Stmt → Type 0
  StmtLight s = Light (walk fs s) (weigh one (stmt_counted sizes s))

  parts_light : (xs ys : List Counted) → weigh one xs + weigh one ys ≤ weigh one (xs ++ ys)
  parts_light xs ys = let e : weigh one (xs ++ ys) ≡ weigh one xs + weigh one ys = weigh_app one xs ys in omega arith

  all_light : (ss : List Stmt) → Each StmtLight ss → AllLight (map (walk fs) ss) (weigh one (flat_map (λ cs. cs) (map (stmt_counted sizes) ss)))
  all_light [] h = tt
  all_light (s ∷ ss) h =
      (weigh one (stmt_counted sizes s), (weigh one (flat_map (λ cs. cs) (map (stmt_counted sizes) ss)), (h.0, (all_light ss h.1, parts_light (stmt_counted sizes s) (flat_map (λ cs. cs) (map (stmt_counted sizes) ss))))))

  two : (v w : Walk) (k n : ℕ) → Light v 0 → Light w k → k ≤ n → AllLight (v ∷ w ∷ []) n
  two v w k n f g l = (0, (n, (f, ((k, (0, (g, (tt, omega arith)))), omega arith))))

  if_light : (c : Expr) (w o : Walk) (xs ys : List Counted) → Light w (weigh one xs) → Light o (weigh one ys)
      → Light (in_turn (reads (λ ks. uses_in fs ks c) ∷ scoped w ∷ scoped o ∷ [])) (weigh one (xs ++ ys))
  if_light c w o xs ys f g =
      turn_light (reads (λ ks. uses_in fs ks c) ∷ scoped w ∷ scoped o ∷ []) (weigh one (xs ++ ys))
      (0, (weigh one (xs ++ ys), (nothing_light (λ ks. uses_in fs ks c) 0, ((weigh one xs, (weigh one ys, (f, ((weigh one ys, (0, (g, (tt, omega arith)))), parts_light xs ys)))), omega arith))))

  for_light : (first next : Option Walk) (test : Option Expr) (w : Walk) (xs ys zs : List Counted) → Light (if_there first) (weigh one xs) → Light (if_there next) (weigh one ys) → Light w (weigh one zs)
      → Light (scoped (in_turn (if_there first ∷ reads (λ ks. maybe_uses fs ks test) ∷ if_there next ∷ scoped w ∷ []))) (weigh one (xs ++ (ys ++ zs)))
  for_light first next test w xs ys zs f g h =
      turn_light (if_there first ∷ reads (λ ks. maybe_uses fs ks test) ∷ if_there next ∷ scoped w ∷ []) (weigh one (xs ++ (ys ++ zs))) (
        weigh one xs,
        (
          weigh one (ys ++ zs),
          (
            f,
            (
              (0, (weigh one (ys ++ zs), (nothing_light (λ ks. maybe_uses fs ks test) 0, ((weigh one ys, (weigh one zs, (g, ((weigh one zs, (0, (h, (tt, omega arith)))), parts_light ys zs)))), omega arith)))),
              parts_light xs (ys ++ zs),
            ),
          ),
        ),
      )

  none_light : (n : ℕ) → Light (if_there None) n
  none_light n ns = omega arith

  declared : (d : Declaration) → Light (declare_walk fs d.is_static d.names) (weigh one (declared_objects sizes d))
  unfolding declared_objects
  declared d = declare_light d.is_static d.names

  act_light : (y : Act-F Act Stmt) (line : ℕ) → StmtParts StmtLight y → Light (act_walk fs (walk_parts fs y)) (weigh one (act_counted sizes (counted_parts sizes y) line))
  act_light act.Empty line h = nothing_light (λ ks. []) 0
  act_light (act.Block ss) line h = turn_light (map (walk fs) ss) (weigh one (flat_map (λ cs. cs) (map (stmt_counted sizes) ss))) (all_light ss h)
  act_light (act.Set op place value) line h = nothing_light (λ ks. uses_in fs ks place ++ uses_in fs ks value) 0
  act_light (act.Bump up prefix place) line h = nothing_light (λ ks. uses_in fs ks place) 0
  act_light (act.Call e) line h = nothing_light (λ ks. uses_in fs ks e) 0
  act_light (act.If c s None) line h = if_light c (walk fs s) (if_there None) (stmt_counted sizes s) [] h.0 (none_light 0)
  act_light (act.If c s (Some t)) line h = if_light c (walk fs s) (walk fs t) (stmt_counted sizes s) (stmt_counted sizes t) h.0 h.1
  act_light (act.While c s) line h =
      turn_light (reads (λ ks. uses_in fs ks c) ∷ scoped (walk fs s) ∷ []) (weigh one (stmt_counted sizes s))
      (two (reads (λ ks. uses_in fs ks c)) (scoped (walk fs s)) (weigh one (stmt_counted sizes s)) (weigh one (stmt_counted sizes s)) (nothing_light (λ ks. uses_in fs ks c) 0) h (omega arith))
  act_light (act.DoWhile s c) line h =
      turn_light (scoped (walk fs s) ∷ reads (λ ks. uses_in fs ks c) ∷ []) (weigh one (stmt_counted sizes s))
      (weigh one (stmt_counted sizes s), (0, (h, ((0, (0, (nothing_light (λ ks. uses_in fs ks c) 0, (tt, omega arith)))), omega arith))))
  act_light (act.For None test None s) line h = for_light None None test (walk fs s) [] [] (stmt_counted sizes s) (none_light 0) (none_light 0) h.2
  act_light (act.For None test (Some n) s) line h = for_light None (Some (walk fs n)) test (walk fs s) [] (stmt_counted sizes n) (stmt_counted sizes s) (none_light 0) h.1 h.2
  act_light (act.For (Some f) test None s) line h = for_light (Some (walk fs f)) None test (walk fs s) (stmt_counted sizes f) [] (stmt_counted sizes s) h.0 (none_light 0) h.2
  act_light (act.For (Some f) test (Some n) s) line h = for_light (Some (walk fs f)) (Some (walk fs n)) test (walk fs s) (stmt_counted sizes f) (stmt_counted sizes n) (stmt_counted sizes s) h.0 h.1 h.2
  act_light (act.Return e) line h = nothing_light (λ ks. maybe_uses fs ks e) 0
  act_light act.Break line h = nothing_light (λ ks. []) 0
  act_light act.Continue line h = nothing_light (λ ks. []) 0
  act_light (act.Declare d) line h = declared d
  act_light (act.Cle p) line h = nothing_light (λ ks. []) (weigh one (act_counted sizes (counted_parts sizes (act.Cle p)) line))

  stmt_light : (s : Stmt) → StmtLight s
  stmt_light = stmt_induction StmtLight (λ s h.
      subst (λ w. Light w (weigh one (stmt_counted sizes s))) (sym (walk_is fs s))
      (subst (λ cs. Light (act_walk fs (walk_parts fs (out-Act s.node))) (weigh one cs)) (sym (stmt_counted_is sizes s)) (act_light (out-Act s.node) s.line h)))

  each_light : (ss : List Stmt) → Each StmtLight ss
  each_light [] = tt
  each_light (s ∷ ss) = (stmt_light s, each_light ss)

params_light : (ds : List Declarator) (ns : Names) → (with_params ds ns).statics ≤ ns.statics
unfolding with_params
params_light [] ns = omega arith
params_light (d ∷ ds) ns = params_light ds (with_local d.name ns)

objects_light : (ds : List Declarator) (ns : Names) → (with_objects ds ns).statics ≤ ns.statics + length ds
unfolding with_objects
objects_light [] ns = omega arith
objects_light (d ∷ ds) ns =
    let a : (with_objects ds (with_static d.name ns)).statics ≤ suc ns.statics + length ds = objects_light ds (with_static d.name ns) in omega arith

module _ (fs : List FnFact) where
  body_light : (sizes : List Size) (params : List Declarator) (ss : List Stmt) (line : ℕ) → Light (body_walk fs params ss) (weigh one (body_counted sizes params (Some ss) line))
  unfolding body_walk body_counted
  body_light sizes params ss line ns =
      let behind : Names = with_params params (record { known = ns.known; locals = 0; statics = ns.statics }) in
      let a : (in_turn (map (walk fs) ss) behind).1.statics ≤ behind.statics + weigh one (flat_map (λ cs. cs) (map (stmt_counted sizes) ss)) =
      turn_light (map (walk fs) ss) (weigh one (flat_map (λ cs. cs) (map (stmt_counted sizes) ss))) (all_light fs sizes ss (each_light fs sizes ss)) behind in
      let b : behind.statics ≤ ns.statics = params_light params (record { known = ns.known; locals = 0; statics = ns.statics }) in
      omega arith

  variables_weigh : (sizes : List Size) (d : Declaration) → weigh one (in_item sizes (item.Variables d)) ≡ length d.names
  unfolding in_item
  variables_weigh sizes d = weigh_names fs sizes d.names

  defined_light : (sizes : List Size) (is_static : Bool) (result : CType) (name : Word) (void_word : Bool) (params : List Declarator) (ss : List Stmt) (line second : ℕ) (ns : Names)
      → (body_walk fs params ss ns).1.statics ≤ ns.statics + weigh one (in_item sizes (item.Function is_static result name void_word params (Some ss) line second))
  unfolding in_item
  defined_light sizes is_static result name void_word params ss line second ns = body_light sizes params ss line ns

  items_light : (is : List Item) (ns : Names) (sizes : List Size) → statics_from fs ns is ≤ ns.statics + weigh one (in_items sizes is)
  unfolding statics_from in_items
  items_light [] ns sizes = omega arith
  items_light (item.Struct name members line ∷ is) ns sizes =
      let a = items_light is ns (sizes_after sizes (item.Struct name members line)) in
      let b = weigh_app one (in_item sizes (item.Struct name members line)) (in_items (sizes_after sizes (item.Struct name members line)) is) in
      omega arith
  items_light (item.Variables d ∷ is) ns sizes =
      let a = items_light is (with_objects d.names ns) (sizes_after sizes (item.Variables d)) in
      let b = weigh_app one (in_item sizes (item.Variables d)) (in_items (sizes_after sizes (item.Variables d)) is) in
      let c = objects_light d.names ns in
      let e : weigh one (in_item sizes (item.Variables d)) ≡ length d.names = variables_weigh sizes d in
      omega arith
  items_light (item.Function is_static result name void_word params None line second ∷ is) ns sizes =
      let i = item.Function is_static result name void_word params None line second in
      let a = items_light is ns (sizes_after sizes i) in
      let b = weigh_app one (in_item sizes i) (in_items (sizes_after sizes i) is) in
      omega arith
  items_light (item.Function is_static result name void_word params (Some ss) line second ∷ is) ns sizes =
      let i = item.Function is_static result name void_word params (Some ss) line second in
      let a = items_light is (body_walk fs params ss ns).1 (sizes_after sizes i) in
      let b = weigh_app one (in_item sizes i) (in_items (sizes_after sizes i) is) in
      let c : (body_walk fs params ss ns).1.statics ≤ ns.statics + weigh one (in_item sizes i) = defined_light sizes is_static result name void_word params ss line second ns in
      omega arith
  items_light (item.Cle p line ∷ is) ns sizes =
      let a = items_light is ns (sizes_after sizes (item.Cle p line)) in
      let b = weigh_app one (in_item sizes (item.Cle p line)) (in_items (sizes_after sizes (item.Cle p line)) is) in
      omega arith

pub numbered_small : (typed : Typed) → IsTyped typed.program typed → numbered typed ≤ 4096
numbered_small typed t =
    let a : weigh one (in_items [] typed.program.items) ≤ 4096 = program_bounded typed.program t.holds.1.1.1.1.1.0 (λ x. x.objects) one 4096 objects_grow refl in
    let b : numbered typed ≤ 0 + weigh one (in_items [] typed.program.items) = items_light typed.functions typed.program.items no_names [] in
    omega arith
