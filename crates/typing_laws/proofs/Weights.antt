-- Counts: what is counted of a kind is within the limit of its kind.
use Rattle.std.proofs.Common.{◌≡◌, ℕ, ◌+◌, ◌≤◌, List, [], ◌∷◌, ◌++◌, map, length, refl, sym, ap, ◌∙◌, arith, leb-true, Bool, true, false, Some, None, subst, if◌then◌else◌, length-append, inl, inr}
use Rattle.std.proofs.lemmas.List.{length-map}
use Rattle.std.proofs.lemmas.Bool.{le-leb}
use Rattle.std.specs.Prelude.{nat_le, sum}
use Rattle.std.specs.List.{flat_map}
use Rattle.cl_tree.specs.declared.token.Pragma.{Pragma}
use Rattle.cl_tree.specs.declared.token.Pragma.TheVariants as pragma
use Rattle.cl_tree.specs.declared.tree.Declarator.{Declarator}
use Rattle.cl_tree.specs.declared.tree.Stmt.{Stmt, fold_out-Stmt}
use Rattle.cl_tree.specs.declared.tree.Act.{Act, Act-F, out-Act, map-Act, fold-Act, fold_out-Act}
use Rattle.cl_tree.specs.declared.tree.Act.TheOpen as act
use Rattle.cl_tree.specs.declared.tree.Item.{Item}
use Rattle.cl_tree.specs.declared.tree.Item.TheVariants as item
use Rattle.cl_tree.specs.declared.tree.Program.{Program}
use Rattle.cl_mean.specs.Source.{if_static, act_statics, statics_in, item_statics}
use Rattle.cl_typing.specs.declared.totals.Totals.{Totals}
use Rattle.cl_typing.specs.Rules.{unless}
use Rattle.cl_typing.specs.Sizes.{Size, size_of, size_of_all, Counted, a_struct, a_label, a_function, an_object, of_pragma, objects, declared_objects, act_counted, stmt_counted, body_counted, in_item, sizes_after, in_items, totals_after, within, line_of, over, no_totals, too_large}
use Rattle.cl_typing.specs.Facts.{function_facts, functions_from, functions_of, object_fact, object_facts, number_after, objects_from, objects_of}
use Rattle.typing_laws.specs.Standing.{OneOf}
use Rattle.typing_laws.specs.Sized.{HasSizes, integers_from, structs_among, one_def, act_defs, defs_in, item_defs, defs_among}
use Rattle.typing_laws.proofs.Lists.{none_of, holds, both}
use Rattle.typing_laws.proofs.Levels.{Each, StmtParts, stmt_induction}
use Rattle.typing_laws.proofs.Counted.{sum_cons, counted_parts, stmt_counted_is, object_small}

-- ---- weights of what is counted

abbrev pub weigh : (Counted → ℕ) → List Counted → ℕ
weigh f [] = 0
weigh f (c ∷ cs) = f c + weigh f cs

pub weigh_app : (f : Counted → ℕ) (xs ys : List Counted) → weigh f (xs ++ ys) ≡ weigh f xs + weigh f ys
weigh_app f [] ys = omega arith
weigh_app f (x ∷ xs) ys = let e : weigh f (xs ++ ys) ≡ weigh f xs + weigh f ys = weigh_app f xs ys in omega arith

-- what a total grows by, and its limit
abbrev pub Grows : (Totals → ℕ) → (Counted → ℕ) → ℕ → Type 0
Grows g f limit = (t : Totals) (c : Counted) → within (totals_after t c) c ≡ true → g t ≤ limit → (g (totals_after t c) ≡ g t + f c) × (g t + f c ≤ limit)

bounded : (g : Totals → ℕ) (f : Counted → ℕ) (limit : ℕ) → Grows g f limit → (t : Totals) (cs : List Counted) → over t cs ≡ [] → g t ≤ limit → g t + weigh f cs ≤ limit
unfolding over
bounded g f limit grows t [] e h = omega arith
bounded g f limit grows t (c ∷ cs) e h =
    let s = grows t c (holds _ (line_of c) (none_of _ _ e).0) h in
    let p : g (totals_after t c) ≡ g t + f c = s.0 in
    let q : g t + f c ≤ limit = s.1 in
    let r : g (totals_after t c) + weigh f cs ≤ limit =
    bounded g f limit grows (totals_after t c) cs (none_of (unless (within (totals_after t c) c) (line_of c)) _ e).1 (omega arith) in
    omega arith

abbrev pub one_struct : Counted → ℕ
one_struct (a_struct line) = 1
one_struct _ = 0

abbrev pub one_label : Counted → ℕ
one_label (a_label line) = 1
one_label _ = 0

abbrev pub one_function : Counted → ℕ
one_function (a_function line size) = 1
one_function _ = 0

abbrev pub by_size : (ℕ → ℕ) → Counted → ℕ
by_size w (an_object line size) = w size
by_size w _ = 0

structs_grow : Grows (λ t. t.structs) one_struct 256
structs_grow t (a_struct line) e h = (refl, leb-true (t.structs + 1) 256 e)
structs_grow t (a_label line) e h = (omega arith, omega arith)
structs_grow t (a_function line size) e h = (omega arith, omega arith)
structs_grow t (an_object line size) e h = (omega arith, omega arith)

labels_grow : Grows (λ t. t.definitions) one_label 1024
labels_grow t (a_struct line) e h = (omega arith, omega arith)
labels_grow t (a_label line) e h = (refl, leb-true (t.definitions + 1) 1024 e)
labels_grow t (a_function line size) e h = (omega arith, omega arith)
labels_grow t (an_object line size) e h = (omega arith, omega arith)

functions_grow : Grows (λ t. t.functions) one_function 4096
functions_grow t (a_struct line) e h = (omega arith, omega arith)
functions_grow t (a_label line) e h = (omega arith, omega arith)
functions_grow t (a_function line size) e h = (refl, leb-true (t.functions + 1) 4096 (both _ _ e).0)
functions_grow t (an_object line size) e h = (omega arith, omega arith)

pub objects_grow : Grows (λ t. t.objects) (by_size (λ n. 1)) 4096
objects_grow t (a_struct line) e h = (omega arith, omega arith)
objects_grow t (a_label line) e h = (omega arith, omega arith)
objects_grow t (a_function line size) e h = (omega arith, omega arith)
objects_grow t (an_object line size) e h = (refl, leb-true (t.objects + 1) 4096 (both _ _ e).0)

integers_grow : Grows (λ t. t.integers) (by_size (λ n. n)) 1048576
integers_grow t (a_struct line) e h = (omega arith, omega arith)
integers_grow t (a_label line) e h = (omega arith, omega arith)
integers_grow t (a_function line size) e h = (omega arith, omega arith)
integers_grow t (an_object line size) e h = (refl, leb-true (t.integers + size) 1048576 (both _ _ (both _ _ e).1).1)

pub program_bounded : (program : Program) → too_large program ≡ [] → (g : Totals → ℕ) (f : Counted → ℕ) (limit : ℕ) → Grows g f limit → g no_totals ≡ 0 → weigh f (in_items [] program.items) ≤ limit
unfolding too_large
program_bounded program e g f limit grows z =
    let b : g no_totals + weigh f (in_items [] program.items) ≤ limit = bounded g f limit grows no_totals (in_items [] program.items) e (omega arith) in
    omega arith

-- ---- objects of static duration

module _ (w : ℕ → ℕ) (sizes : List Size) where
  abbrev pub of_names : List Declarator → ℕ
  of_names [] = 0
  of_names (d ∷ ds) = w (size_of sizes d.ctype) + of_names ds

  names_app : (xs ys : List Declarator) → of_names (xs ++ ys) ≡ of_names xs + of_names ys
  names_app [] ys = omega arith
  names_app (x ∷ xs) ys = let e : of_names (xs ++ ys) ≡ of_names xs + of_names ys = names_app xs ys in omega arith

  pub objects_weigh : (ds : List Declarator) → weigh (by_size w) (objects sizes ds) ≡ of_names ds
  unfolding objects
  objects_weigh [] = refl
  objects_weigh (d ∷ ds) = ap (λ n. w (size_of sizes d.ctype) + n) (objects_weigh ds)

  abbrev pub Heavy : Stmt → Type 0
  Heavy s = of_names (statics_in s) ≤ weigh (by_size w) (stmt_counted sizes s)

  abbrev pub static_parts : Act-F Act Stmt → Act-F (List Declarator) (List Declarator)
  static_parts = map-Act Act Stmt (List Declarator) (List Declarator) (fold-Act (List Declarator) (List Declarator) act_statics (λ s. s.node)) statics_in

  statics_is : (s : Stmt) → statics_in s ≡ act_statics (static_parts (out-Act s.node))
  unfolding statics_in
  statics_is s =
      fold_out-Stmt (List Declarator) (List Declarator) act_statics (λ x. x.node) s
      ∙ fold_out-Act (List Declarator) (List Declarator) act_statics (λ x. x.node) s.node

  block_heavy : (ss : List Stmt) → Each Heavy ss → of_names (flat_map (λ s. s) (map statics_in ss)) ≤ weigh (by_size w) (flat_map (λ cs. cs) (map (stmt_counted sizes) ss))
  block_heavy [] h = omega arith
  block_heavy (s ∷ ss) h =
      let a : of_names (statics_in s) ≤ weigh (by_size w) (stmt_counted sizes s) = h.0 in
      let b : of_names (flat_map (λ s. s) (map statics_in ss)) ≤ weigh (by_size w) (flat_map (λ cs. cs) (map (stmt_counted sizes) ss)) = block_heavy ss h.1 in
      let c : of_names (statics_in s ++ flat_map (λ s. s) (map statics_in ss)) ≡ of_names (statics_in s) + of_names (flat_map (λ s. s) (map statics_in ss)) = names_app (statics_in s) (flat_map (λ s. s) (map statics_in ss)) in
      let d : weigh (by_size w) (stmt_counted sizes s ++ flat_map (λ cs. cs) (map (stmt_counted sizes) ss)) ≡ weigh (by_size w) (stmt_counted sizes s) + weigh (by_size w) (flat_map (λ cs. cs) (map (stmt_counted sizes) ss)) =
      weigh_app (by_size w) (stmt_counted sizes s) (flat_map (λ cs. cs) (map (stmt_counted sizes) ss)) in
      omega arith

  right_part : (xs ys : List Counted) (n : ℕ) → n ≤ weigh (by_size w) ys → n ≤ weigh (by_size w) (xs ++ ys)
  right_part xs ys n h = let e : weigh (by_size w) (xs ++ ys) ≡ weigh (by_size w) xs + weigh (by_size w) ys = weigh_app (by_size w) xs ys in omega arith

  left_part : (xs ys : List Counted) (n : ℕ) → n ≤ weigh (by_size w) xs → n ≤ weigh (by_size w) (xs ++ ys)
  left_part xs ys n h = let e : weigh (by_size w) (xs ++ ys) ≡ weigh (by_size w) xs + weigh (by_size w) ys = weigh_app (by_size w) xs ys in omega arith

  two_parts : (ds es : List Declarator) (xs ys : List Counted) → of_names ds ≤ weigh (by_size w) xs → of_names es ≤ weigh (by_size w) ys → of_names (ds ++ es) ≤ weigh (by_size w) (xs ++ ys)
  two_parts ds es xs ys p q =
      let a : of_names (ds ++ es) ≡ of_names ds + of_names es = names_app ds es in
      let b : weigh (by_size w) (xs ++ ys) ≡ weigh (by_size w) xs + weigh (by_size w) ys = weigh_app (by_size w) xs ys in
      omega arith

  static_names : (b : Bool) (ds : List Declarator) → of_names (if_static b ds) ≤ weigh (by_size w) (if b then objects sizes ds else [])
  static_names true ds = let e : weigh (by_size w) (objects sizes ds) ≡ of_names ds = objects_weigh ds in omega arith
  static_names false ds = omega arith

  heavy_step : (y : Act-F Act Stmt) (line : ℕ) → StmtParts Heavy y → of_names (act_statics (static_parts y)) ≤ weigh (by_size w) (act_counted sizes (counted_parts sizes y) line)
  unfolding declared_objects
  heavy_step (act.Block ss) line h = block_heavy ss h
  heavy_step (act.If c a None) line h = two_parts (statics_in a) [] (stmt_counted sizes a) [] h.0 (omega arith)
  heavy_step (act.If c a (Some b)) line h = two_parts (statics_in a) (statics_in b) (stmt_counted sizes a) (stmt_counted sizes b) h.0 h.1
  heavy_step (act.While c body) line h = h
  heavy_step (act.DoWhile body c) line h = h
  heavy_step (act.For None test None body) line h = h.2
  heavy_step (act.For None test (Some n) body) line h = right_part (stmt_counted sizes n) (stmt_counted sizes body) (of_names (statics_in body)) h.2
  heavy_step (act.For (Some f) test None body) line h = right_part (stmt_counted sizes f) (stmt_counted sizes body) (of_names (statics_in body)) h.2
  heavy_step (act.For (Some f) test (Some n) body) line h =
      right_part (stmt_counted sizes f) (stmt_counted sizes n ++ stmt_counted sizes body) (of_names (statics_in body))
      (right_part (stmt_counted sizes n) (stmt_counted sizes body) (of_names (statics_in body)) h.2)
  heavy_step (act.Declare d) line h = static_names d.is_static d.names
  heavy_step (act.Cle p) line h = omega arith
  heavy_step _ line h = omega arith

  pub heavy : (s : Stmt) → Heavy s
  heavy = stmt_induction Heavy (λ s h.
      subst (λ ds. of_names ds ≤ weigh (by_size w) (stmt_counted sizes s)) (sym (statics_is s))
      (subst (λ cs. of_names (act_statics (static_parts (out-Act s.node))) ≤ weigh (by_size w) cs) (sym (stmt_counted_is sizes s)) (heavy_step (out-Act s.node) s.line h)))

  body_heavy : (ss : List Stmt) → of_names (flat_map statics_in ss) ≤ weigh (by_size w) (flat_map (λ cs. cs) (map (stmt_counted sizes) ss))
  body_heavy [] = omega arith
  body_heavy (s ∷ ss) = two_parts (statics_in s) (flat_map statics_in ss) (stmt_counted sizes s) (flat_map (λ cs. cs) (map (stmt_counted sizes) ss)) (heavy s) (body_heavy ss)

  item_heavy : (i : Item) → of_names (item_statics i) ≤ weigh (by_size w) (in_item sizes i)
  unfolding in_item body_counted
  item_heavy (item.Struct name members line) = omega arith
  item_heavy (item.Variables d) = let e : weigh (by_size w) (objects sizes d.names) ≡ of_names d.names = objects_weigh d.names in omega arith
  item_heavy (item.Function is_static result name void_word params None line second) = omega arith
  item_heavy (item.Function is_static result name void_word params (Some body) line second) =
      let a : of_names (flat_map statics_in body) ≤ weigh (by_size w) (flat_map (λ cs. cs) (map (stmt_counted sizes) body)) = body_heavy body in
      omega arith
  item_heavy (item.Cle p line) = omega arith

-- ---- each object

abbrev pub one_unless : Bool → ℕ
one_unless true = 0
one_unless false = 1

too_big : ℕ → ℕ
too_big n = one_unless (nat_le n 65536)

zero_each : (f : Counted → ℕ) (cs : List Counted) → ((c : Counted) → OneOf cs c → f c ≡ 0) → weigh f cs ≡ 0
zero_each f [] h = refl
zero_each f (c ∷ cs) h =
    let a : f c ≡ 0 = h c (inl refl) in
    let b : weigh f cs ≡ 0 = zero_each f cs (λ d o. h d (inr o)) in
    omega arith

names_zero : (w : ℕ → ℕ) (sizes : List Size) (ds : List Declarator) → of_names w sizes ds ≤ 0 → (d : Declarator) → OneOf ds d → w (size_of sizes d.ctype) ≡ 0
names_zero w sizes [] h d o = absurd o
names_zero w sizes (e ∷ ds) h d (inl o) =
    let a : w (size_of sizes e.ctype) ≡ 0 = omega arith in
    ap (λ (x : Declarator). w (size_of sizes x.ctype)) o ∙ a
names_zero w sizes (e ∷ ds) h d (inr o) = names_zero w sizes ds (omega arith) d o

is_small : (n : ℕ) (b : Bool) → nat_le n 65536 ≡ b → one_unless b ≡ 0 → n ≤ 65536
is_small n true e h = leb-true n 65536 e
is_small n false e h = absurd (omega arith)

not_big : (n : ℕ) (b : Bool) → b ≡ true → one_unless b ≡ 0
not_big n true e = refl
not_big n false e = absurd cc

module _ (program : Program) (small : too_large program ≡ []) (i : Item) (sizes : List Size) (has : HasSizes program i sizes) where
  none_big : (c : Counted) → OneOf (in_item sizes i) c → by_size too_big c ≡ 0
  unfolding too_big
  none_big (a_struct line) o = refl
  none_big (a_label line) o = refl
  none_big (a_function line size) o = refl
  none_big (an_object line size) o = not_big size (nat_le size 65536) (le-leb size 65536 (object_small program small i sizes has line size o))

  pub each_small : (d : Declarator) → OneOf (item_statics i) d → size_of sizes d.ctype ≤ 65536
  unfolding too_big
  each_small d o =
      let a : of_names too_big sizes (item_statics i) ≤ weigh (by_size too_big) (in_item sizes i) = item_heavy too_big sizes i in
      let b : weigh (by_size too_big) (in_item sizes i) ≡ 0 = zero_each (by_size too_big) (in_item sizes i) none_big in
      is_small (size_of sizes d.ctype) (nat_le (size_of sizes d.ctype) 65536) refl (names_zero too_big sizes (item_statics i) (omega arith) d o)

-- ---- integers and objects of all items

all_names : (sizes : List Size) (ds : List Declarator) → of_names (λ n. n) sizes ds ≡ size_of_all sizes ds
unfolding size_of_all
all_names sizes [] = refl
all_names sizes (d ∷ ds) = ap (λ n. size_of sizes d.ctype + n) (all_names sizes ds)

count_names : (sizes : List Size) (ds : List Declarator) → of_names (λ n. 1) sizes ds ≡ length ds
count_names sizes [] = refl
count_names sizes (d ∷ ds) = let e : of_names (λ n. 1) sizes ds ≡ length ds = count_names sizes ds in omega arith

integers_heavy : (is : List Item) (sizes : List Size) → integers_from sizes is ≤ weigh (by_size (λ n. n)) (in_items sizes is)
unfolding in_items
integers_heavy [] sizes = omega arith
integers_heavy (i ∷ is) sizes =
    let a : of_names (λ n. n) sizes (item_statics i) ≤ weigh (by_size (λ n. n)) (in_item sizes i) = item_heavy (λ n. n) sizes i in
    let b : of_names (λ n. n) sizes (item_statics i) ≡ size_of_all sizes (item_statics i) = all_names sizes (item_statics i) in
    let c : integers_from (sizes_after sizes i) is ≤ weigh (by_size (λ n. n)) (in_items (sizes_after sizes i) is) = integers_heavy is (sizes_after sizes i) in
    let d : weigh (by_size (λ n. n)) (in_item sizes i ++ in_items (sizes_after sizes i) is) ≡ weigh (by_size (λ n. n)) (in_item sizes i) + weigh (by_size (λ n. n)) (in_items (sizes_after sizes i) is) =
    weigh_app (by_size (λ n. n)) (in_item sizes i) (in_items (sizes_after sizes i) is) in
    omega arith

facts_count : (place number : ℕ) (i : Item) → length (object_facts place number i) ≡ length (item_statics i)
unfolding object_facts
facts_count place number (item.Struct name members line) = refl
facts_count place number (item.Variables d) = length-map d.names (object_fact None place)
facts_count place number (item.Function is_static result name void_word params None line second) = refl
facts_count place number (item.Function is_static result name void_word params (Some body) line second) = length-map (flat_map statics_in body) (object_fact (Some number) place)
facts_count place number (item.Cle p line) = refl

objects_heavy : (is : List Item) (place number : ℕ) (sizes : List Size) → length (objects_from place number is) ≤ weigh (by_size (λ n. 1)) (in_items sizes is)
unfolding objects_from in_items
objects_heavy [] place number sizes = omega arith
objects_heavy (i ∷ is) place number sizes =
    let a : of_names (λ n. 1) sizes (item_statics i) ≤ weigh (by_size (λ n. 1)) (in_item sizes i) = item_heavy (λ n. 1) sizes i in
    let b : of_names (λ n. 1) sizes (item_statics i) ≡ length (item_statics i) = count_names sizes (item_statics i) in
    let f : length (object_facts place number i) ≡ length (item_statics i) = facts_count place number i in
    let c : length (objects_from (ℕ.suc place) (number_after number i) is) ≤ weigh (by_size (λ n. 1)) (in_items (sizes_after sizes i) is) = objects_heavy is (ℕ.suc place) (number_after number i) (sizes_after sizes i) in
    let d : weigh (by_size (λ n. 1)) (in_item sizes i ++ in_items (sizes_after sizes i) is) ≡ weigh (by_size (λ n. 1)) (in_item sizes i) + weigh (by_size (λ n. 1)) (in_items (sizes_after sizes i) is) =
    weigh_app (by_size (λ n. 1)) (in_item sizes i) (in_items (sizes_after sizes i) is) in
    let e : length (object_facts place number i ++ objects_from (ℕ.suc place) (number_after number i) is) ≡ length (object_facts place number i) + length (objects_from (ℕ.suc place) (number_after number i) is) =
    length-append (object_facts place number i) (objects_from (ℕ.suc place) (number_after number i) is) in
    omega arith

function_heavy : (place : ℕ) (i : Item) (sizes : List Size) → length (function_facts place i) ≤ weigh one_function (in_item sizes i)
unfolding function_facts in_item body_counted
function_heavy place (item.Struct name members line) sizes = omega arith
function_heavy place (item.Variables d) sizes = omega arith
function_heavy place (item.Function is_static result name void_word params None line second) sizes = omega arith
function_heavy place (item.Function is_static result name void_word params (Some body) line second) sizes = omega arith
function_heavy place (item.Cle p line) sizes = omega arith

functions_heavy : (is : List Item) (place : ℕ) (sizes : List Size) → length (functions_from place is) ≤ weigh one_function (in_items sizes is)
unfolding functions_from in_items
functions_heavy [] place sizes = omega arith
functions_heavy (i ∷ is) place sizes =
    let a : length (function_facts place i) ≤ weigh one_function (in_item sizes i) = function_heavy place i sizes in
    let c : length (functions_from (ℕ.suc place) is) ≤ weigh one_function (in_items (sizes_after sizes i) is) = functions_heavy is (ℕ.suc place) (sizes_after sizes i) in
    let d : weigh one_function (in_item sizes i ++ in_items (sizes_after sizes i) is) ≡ weigh one_function (in_item sizes i) + weigh one_function (in_items (sizes_after sizes i) is) =
    weigh_app one_function (in_item sizes i) (in_items (sizes_after sizes i) is) in
    let e : length (function_facts place i ++ functions_from (ℕ.suc place) is) ≡ length (function_facts place i) + length (functions_from (ℕ.suc place) is) =
    length-append (function_facts place i) (functions_from (ℕ.suc place) is) in
    omega arith

structs_step : (is : List Item) (i : Item) (sizes : List Size) (n m : ℕ) → structs_among is ≤ m → weigh one_struct (in_item sizes i) + m ≡ n → structs_among (i ∷ is) ≤ n
unfolding in_item
structs_step is (item.Struct name members line) sizes n m h e = omega arith
structs_step is (item.Variables d) sizes n m h e = omega arith
structs_step is (item.Function is_static result name void_word params body line second) sizes n m h e = omega arith
structs_step is (item.Cle p line) sizes n m h e = omega arith

structs_heavy : (is : List Item) (sizes : List Size) → structs_among is ≤ weigh one_struct (in_items sizes is)
unfolding in_items
structs_heavy [] sizes = omega arith
structs_heavy (i ∷ is) sizes =
    structs_step is i sizes _ (weigh one_struct (in_items (sizes_after sizes i) is)) (structs_heavy is (sizes_after sizes i))
    (sym (weigh_app one_struct (in_item sizes i) (in_items (sizes_after sizes i) is)))

-- ---- definitions of labels

pragma_weighs : (p : Pragma) (line : ℕ) → weigh one_label (of_pragma p line) ≡ one_def p
unfolding of_pragma
pragma_weighs (pragma.Def name text) line = refl
pragma_weighs _ line = refl

module _ (sizes : List Size) where
  abbrev pub Defining : Stmt → Type 0
  Defining s = defs_in s ≤ weigh one_label (stmt_counted sizes s)

  abbrev pub def_parts : Act-F Act Stmt → Act-F ℕ ℕ
  def_parts = map-Act Act Stmt ℕ ℕ (fold-Act ℕ ℕ act_defs (λ s. s.node)) defs_in

  defs_is : (s : Stmt) → defs_in s ≡ act_defs (def_parts (out-Act s.node))
  unfolding defs_in
  defs_is s = fold_out-Stmt ℕ ℕ act_defs (λ x. x.node) s ∙ fold_out-Act ℕ ℕ act_defs (λ x. x.node) s.node

  both_parts : (n m : ℕ) (xs ys : List Counted) → n ≤ weigh one_label xs → m ≤ weigh one_label ys → n + m ≤ weigh one_label (xs ++ ys)
  both_parts n m xs ys p q = let b : weigh one_label (xs ++ ys) ≡ weigh one_label xs + weigh one_label ys = weigh_app one_label xs ys in omega arith

  block_defining : (ss : List Stmt) → Each Defining ss → sum (map defs_in ss) ≤ weigh one_label (flat_map (λ cs. cs) (map (stmt_counted sizes) ss))
  block_defining [] h = omega arith
  block_defining (s ∷ ss) h =
      let a : defs_in s + sum (map defs_in ss) ≤ weigh one_label (stmt_counted sizes s ++ flat_map (λ cs. cs) (map (stmt_counted sizes) ss)) =
      both_parts (defs_in s) (sum (map defs_in ss)) (stmt_counted sizes s) (flat_map (λ cs. cs) (map (stmt_counted sizes) ss)) h.0 (block_defining ss h.1) in
      let b : sum (defs_in s ∷ map defs_in ss) ≡ defs_in s + sum (map defs_in ss) = sum_cons (defs_in s) (map defs_in ss) in
      omega arith

  defining_step : (y : Act-F Act Stmt) (line : ℕ) → StmtParts Defining y → act_defs (def_parts y) ≤ weigh one_label (act_counted sizes (counted_parts sizes y) line)
  defining_step (act.Block ss) line h = block_defining ss h
  defining_step (act.If c a None) line h = both_parts (defs_in a) 0 (stmt_counted sizes a) [] h.0 (omega arith)
  defining_step (act.If c a (Some b)) line h = both_parts (defs_in a) (defs_in b) (stmt_counted sizes a) (stmt_counted sizes b) h.0 h.1
  defining_step (act.While c body) line h = h
  defining_step (act.DoWhile body c) line h = h
  defining_step (act.For None test None body) line h = both_parts 0 (0 + defs_in body) [] (stmt_counted sizes body) (omega arith) (omega (arith, h.2))
  defining_step (act.For None test (Some n) body) line h =
      both_parts 0 (defs_in n + defs_in body) [] (stmt_counted sizes n ++ stmt_counted sizes body) (omega arith) (both_parts (defs_in n) (defs_in body) (stmt_counted sizes n) (stmt_counted sizes body) h.1 h.2)
  defining_step (act.For (Some f) test None body) line h = both_parts (defs_in f) (0 + defs_in body) (stmt_counted sizes f) (stmt_counted sizes body) h.0 (omega (arith, h.2))
  defining_step (act.For (Some f) test (Some n) body) line h =
      both_parts (defs_in f) (defs_in n + defs_in body) (stmt_counted sizes f) (stmt_counted sizes n ++ stmt_counted sizes body) h.0 (both_parts (defs_in n) (defs_in body) (stmt_counted sizes n) (stmt_counted sizes body) h.1 h.2)
  defining_step (act.Cle p) line h = let e : weigh one_label (of_pragma p line) ≡ one_def p = pragma_weighs p line in omega arith
  defining_step (act.Declare d) line h = omega arith
  defining_step _ line h = omega arith

  pub defining : (s : Stmt) → Defining s
  defining = stmt_induction Defining (λ s h.
      subst (λ n. n ≤ weigh one_label (stmt_counted sizes s)) (sym (defs_is s))
      (subst (λ cs. act_defs (def_parts (out-Act s.node)) ≤ weigh one_label cs) (sym (stmt_counted_is sizes s)) (defining_step (out-Act s.node) s.line h)))

  all_defining : (ss : List Stmt) → Each Defining ss
  all_defining [] = tt
  all_defining (s ∷ ss) = (defining s, all_defining ss)

  item_defining : (i : Item) → item_defs i ≤ weigh one_label (in_item sizes i)
  unfolding in_item body_counted
  item_defining (item.Struct name members line) = omega arith
  item_defining (item.Variables d) = omega arith
  item_defining (item.Function is_static result name void_word params None line second) = omega arith
  item_defining (item.Function is_static result name void_word params (Some body) line second) =
      let a : sum (map defs_in body) ≤ weigh one_label (flat_map (λ cs. cs) (map (stmt_counted sizes) body)) = block_defining body (all_defining body) in
      omega arith
  item_defining (item.Cle p line) = let e : weigh one_label (of_pragma p line) ≡ one_def p = pragma_weighs p line in omega arith

defs_heavy : (is : List Item) (sizes : List Size) → defs_among is ≤ weigh one_label (in_items sizes is)
unfolding in_items
defs_heavy [] sizes = omega arith
defs_heavy (i ∷ is) sizes = both_parts sizes (item_defs i) (defs_among is) (in_item sizes i) (in_items (sizes_after sizes i) is) (item_defining sizes i) (defs_heavy is (sizes_after sizes i))

-- ---- a program

module _ (program : Program) (small : too_large program ≡ []) where
  pub integers_small : integers_from [] program.items ≤ 1048576
  integers_small =
      let a : weigh (by_size (λ n. n)) (in_items [] program.items) ≤ 1048576 = program_bounded program small (λ t. t.integers) (by_size (λ n. n)) 1048576 integers_grow refl in
      let b : integers_from [] program.items ≤ weigh (by_size (λ n. n)) (in_items [] program.items) = integers_heavy program.items [] in
      omega arith

  pub objects_small : length (objects_of program) ≤ 4096
  unfolding objects_of
  objects_small =
      let a : weigh (by_size (λ n. 1)) (in_items [] program.items) ≤ 4096 = program_bounded program small (λ t. t.objects) (by_size (λ n. 1)) 4096 objects_grow refl in
      let b : length (objects_from 0 0 program.items) ≤ weigh (by_size (λ n. 1)) (in_items [] program.items) = objects_heavy program.items 0 0 [] in
      omega arith

  pub functions_small : length (functions_of program) ≤ 4096
  unfolding functions_of
  functions_small =
      let a : weigh one_function (in_items [] program.items) ≤ 4096 = program_bounded program small (λ t. t.functions) one_function 4096 functions_grow refl in
      let b : length (functions_from 0 program.items) ≤ weigh one_function (in_items [] program.items) = functions_heavy program.items 0 [] in
      omega arith

  pub structs_small : structs_among program.items ≤ 256
  structs_small =
      let a : weigh one_struct (in_items [] program.items) ≤ 256 = program_bounded program small (λ t. t.structs) one_struct 256 structs_grow refl in
      let b : structs_among program.items ≤ weigh one_struct (in_items [] program.items) = structs_heavy program.items [] in
      omega arith

  pub defs_small : defs_among program.items ≤ 1024
  defs_small =
      let a : weigh one_label (in_items [] program.items) ≤ 1024 = program_bounded program small (λ t. t.definitions) one_label 1024 labels_grow refl in
      let b : defs_among program.items ≤ weigh one_label (in_items [] program.items) = defs_heavy program.items [] in
      omega arith
