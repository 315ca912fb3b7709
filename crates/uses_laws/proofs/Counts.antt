-- As many functions and objects as the facts of a typed program have.
use Rattle.std.proofs.Common.{◌≡◌, ◌≤◌, ℕ, zero, suc, ◌+◌, List, [], ◌∷◌, ◌++◌, map, length, refl, sym, ap, ◌∙◌, Bool, true, false, Option, Some, None}
use Rattle.std.specs.List.{flat_map}
use Rattle.std.proofs.lemmas.List.{length-append, length-map}
use Rattle.cl_tree.specs.declared.tree.Declarator.{Declarator}
use Rattle.cl_tree.specs.declared.tree.Stmt.{Stmt, fold_out-Stmt}
use Rattle.cl_tree.specs.declared.tree.Act.{Act, Act-F, out-Act, map-Act, fold-Act, fold_out-Act}
use Rattle.cl_tree.specs.declared.tree.Act.TheOpen as act
use Rattle.cl_tree.specs.declared.tree.Item.{Item}
use Rattle.cl_tree.specs.declared.tree.Item.TheVariants as item
use Rattle.cl_tree.specs.declared.tree.Program.{Program}
use Rattle.cl_mean.specs.declared.checked.FnFact.{FnFact}
use Rattle.cl_mean.specs.declared.checked.Typed.{Typed}
use Rattle.cl_mean.specs.Shape.{times}
use Rattle.cl_mean.specs.Source as source
use Rattle.cl_mean.specs.Source.{act_statics, statics_in}
use Rattle.cl_typing.specs.Rules.{Lines}
use Rattle.cl_typing.specs.Facts.{function_facts, functions_from, functions_of, object_fact, object_facts, number_after, objects_from, objects_of}
use Rattle.cl_typing.specs.Typing.{IsTyped}
use Rattle.cl_levels.specs.Levels.{if_static, act_lines, stmt_lines, lines_in, object_lines}
use Rattle.cl_levels.specs.Uses.{Names, bodies_from, uses_of, no_names}
use Rattle.typing_laws.proofs.Levels.{Each, StmtParts, stmt_induction}
use Rattle.typing_laws.proofs.Limited.{all_functions, all_objects}

-- ---- functions

bodies_count : (fs : List FnFact) (is : List Item) (ns : Names) (place : ℕ) → length (bodies_from fs ns is) ≡ length (functions_from place is)
unfolding bodies_from functions_from function_facts
bodies_count fs [] ns place = refl
bodies_count fs (item.Struct name members line ∷ is) ns place = bodies_count fs is _ (suc place)
bodies_count fs (item.Variables d ∷ is) ns place = bodies_count fs is _ (suc place)
bodies_count fs (item.Function is_static result name void_word params None line second ∷ is) ns place = bodies_count fs is _ (suc place)
bodies_count fs (item.Function is_static result name void_word params (Some ss) line second ∷ is) ns place = ap suc (bodies_count fs is _ (suc place))
bodies_count fs (item.Cle p line ∷ is) ns place = bodies_count fs is _ (suc place)

pub functions_count : (program : Program) (typed : Typed) → IsTyped program typed → length (uses_of typed) ≡ length typed.functions
unfolding uses_of functions_of
functions_count program typed h =
    bodies_count typed.functions typed.program.items no_names 0
    ∙ ap (λ (p : Program). length (functions_from 0 p.items)) h.same ∙ ap (λ (fs : List FnFact). length fs) (sym h.functions)

-- ---- objects

both_count : (a b : Lines) (xs ys : List Declarator) → length a ≡ length xs → length b ≡ length ys → length (a ++ b) ≡ length (xs ++ ys)
both_count a b xs ys h g = length-append a b ∙ ap (λ n. n + length b) h ∙ ap (λ n. length xs + n) g ∙ sym (length-append xs ys)

times_count : (n line : ℕ) → length (times n (line ∷ [])) ≡ n
times_count zero line = refl
times_count (suc n) line = ap suc (times_count n line)

abbrev pub line_parts : Act-F Act Stmt → Act-F (ℕ → Lines) Lines
line_parts = map-Act Act Stmt (ℕ → Lines) Lines (fold-Act (ℕ → Lines) Lines act_lines (λ s. s.node s.line)) stmt_lines

lines_is : (s : Stmt) → stmt_lines s ≡ act_lines (line_parts (out-Act s.node)) s.line
unfolding stmt_lines
lines_is s =
    fold_out-Stmt (ℕ → Lines) Lines act_lines (λ x. x.node x.line) s
    ∙ ap (λ (f : ℕ → Lines). f s.line) (fold_out-Act (ℕ → Lines) Lines act_lines (λ x. x.node x.line) s.node)

abbrev pub static_parts : Act-F Act Stmt → Act-F (List Declarator) (List Declarator)
static_parts = map-Act Act Stmt (List Declarator) (List Declarator) (fold-Act (List Declarator) (List Declarator) act_statics (λ s. s.node)) statics_in

statics_is : (s : Stmt) → statics_in s ≡ act_statics (static_parts (out-Act s.node))
unfolding statics_in
statics_is s =
    fold_out-Stmt (List Declarator) (List Declarator) act_statics (λ x. x.node) s
    ∙ fold_out-Act (List Declarator) (List Declarator) act_statics (λ x. x.node) s.node

abbrev pub Alike : Stmt → Type 0
Alike s = length (stmt_lines s) ≡ length (statics_in s)

all_count : (ss : List Stmt) → Each Alike ss → length (flat_map (λ ls. ls) (map stmt_lines ss)) ≡ length (flat_map (λ s. s) (map statics_in ss))
all_count [] h = refl
all_count (s ∷ ss) h = both_count (stmt_lines s) _ (statics_in s) _ h.0 (all_count ss h.1)

declared_count : (b : Bool) (ds : List Declarator) (line : ℕ) → length (if_static b (length ds) line) ≡ length (source.if_static b ds)
declared_count true ds line = times_count (length ds) line
declared_count false ds line = refl

act_count : (y : Act-F Act Stmt) (line : ℕ) → StmtParts Alike y → length (act_lines (line_parts y) line) ≡ length (act_statics (static_parts y))
act_count act.Empty line h = refl
act_count (act.Block ss) line h = all_count ss h
act_count (act.Set op place value) line h = refl
act_count (act.Bump up prefix place) line h = refl
act_count (act.Call e) line h = refl
act_count (act.If c s None) line h = both_count (stmt_lines s) [] (statics_in s) [] h.0 refl
act_count (act.If c s (Some t)) line h = both_count (stmt_lines s) (stmt_lines t) (statics_in s) (statics_in t) h.0 h.1
act_count (act.While c s) line h = h
act_count (act.DoWhile s c) line h = h
act_count (act.For first test next s) line h = h.2
act_count (act.Return e) line h = refl
act_count act.Break line h = refl
act_count act.Continue line h = refl
act_count (act.Declare d) line h = declared_count d.is_static d.names line
act_count (act.Cle p) line h = refl

stmt_count : (s : Stmt) → Alike s
stmt_count = stmt_induction Alike (λ s h. ap length (lines_is s) ∙ act_count (out-Act s.node) s.line h ∙ ap length (sym (statics_is s)))

body_count : (ss : List Stmt) → length (flat_map stmt_lines ss) ≡ length (flat_map statics_in ss)
body_count [] = refl
body_count (s ∷ ss) = both_count (stmt_lines s) _ (statics_in s) _ (stmt_count s) (body_count ss)

item_count : (place number : ℕ) (i : Item) → length (lines_in i) ≡ length (object_facts place number i)
unfolding lines_in object_facts
item_count place number (item.Struct name members line) = refl
item_count place number (item.Variables d) = times_count (length d.names) _ ∙ sym (length-map d.names (object_fact None place))
item_count place number (item.Function is_static result name void_word params None line second) = refl
item_count place number (item.Function is_static result name void_word params (Some ss) line second) =
    body_count ss ∙ sym (length-map (flat_map statics_in ss) (object_fact (Some number) place))
item_count place number (item.Cle p line) = refl

items_count : (is : List Item) (place number : ℕ) → length (flat_map lines_in is) ≡ length (objects_from place number is)
unfolding objects_from
items_count [] place number = refl
items_count (i ∷ is) place number =
    length-append (lines_in i) (flat_map lines_in is) ∙ ap (λ n. n + length (flat_map lines_in is)) (item_count place number i)
    ∙ ap (λ n. length (object_facts place number i) + n) (items_count is (suc place) (number_after number i))
    ∙ sym (length-append (object_facts place number i) (objects_from (suc place) (number_after number i) is))

pub objects_count : (program : Program) (typed : Typed) → IsTyped program typed → length (object_lines typed.program) ≡ length typed.objects
unfolding object_lines objects_of
objects_count program typed h =
    items_count typed.program.items 0 0
    ∙ ap (λ (p : Program). length (objects_from 0 0 p.items)) h.same ∙ ap (λ os. length os) (sym h.objects)

-- ---- limits

pub functions_within : (program : Program) (typed : Typed) → IsTyped program typed → length typed.functions ≤ 4096
functions_within program typed h = rw h.functions (all_functions program h.holds)

pub objects_within : (program : Program) (typed : Typed) → IsTyped program typed → length typed.objects ≤ 4096
objects_within program typed h = rw h.objects (all_objects program h.holds)
