-- A row can be made of each call across levels, and says what it should.
use Rattle.std.proofs.Common.{◌≡◌, ◌⊎◌, inl, inr, ⊎_elim, ◌<◌, ◌≤◌, ◌+◌, ℕ, zero, suc, List, [], ◌∷◌, ◌++◌, length, Bool, true, false, not, ◌&&◌, ◌||◌, ◌==◌, nat_le, Option, Some, None, is_some, slice_get, slice_index_or, eq-eqb, refl, sym, ap, subst, ◌∙◌, arith}
use Rattle.std.specs.List.{Contains, All, flat_map, list_any}
use Rattle.std.proofs.lemmas.Bool.{false≢true, leb-true}
use Rattle.std.proofs.lemmas.Option.{none-some, same_Some}
use Rattle.std.proofs.lemmas.List.Elements.{All-contains}
use Rattle.std.proofs.Math.Bool.{or-true}
use Rattle.cl_tree.specs.declared.tree.CType.{CType}
use Rattle.cl_tree.specs.declared.tree.Item.{Item}
use Rattle.cl_tree.specs.declared.tree.Item.TheVariants as item
use Rattle.cl_tree.specs.Words.{Word}
use Rattle.cl_mean.specs.declared.checked.FnFact.{FnFact}
use Rattle.cl_mean.specs.declared.checked.GedlRow.{GedlRow}
use Rattle.cl_mean.specs.declared.checked.Levels.{Levels}
use Rattle.cl_mean.specs.declared.checked.Typed.{Typed}
use Rattle.cl_mean.specs.declared.labels.Entry.{Entry}
use Rattle.cl_mean.specs.declared.labels.LabelFact.{LabelFact}
use Rattle.cl_mean.specs.declared.labels.LabelTable.{LabelTable}
use Rattle.cl_mean.specs.Judging.{entry_for}
use Rattle.cl_mean.specs.Shape.{Structs, structs_of}
use Rattle.cl_mean.specs.Source.{entries_of, no_item}
use Rattle.cl_typing.specs.Facts.{functions_of}
use Rattle.cl_typing.specs.Rules.{Lines, unless}
use Rattle.cl_typing.specs.Typing.{IsTyped}
use Rattle.typing_laws.specs.Standing.{OneOf}
use Rattle.typing_laws.specs.Listed.{IsFactOf, FactOfProgram}
use Rattle.typing_laws.proofs.Listing.{facts_are}
use Rattle.cl_labelling.specs.Fits.{Signature, defined_by}
use Rattle.cl_levels.specs.declared.uses.Call.{Call}
use Rattle.cl_levels.specs.Crossings.{args_of}
use Rattle.cl_levels.specs.Levels.{no_fact}
use Rattle.cl_levels.proofs.Each.{head_or_tail, at_head, in_tail, in_none}
use Rattle.cl_calls.specs.Calls.{level_at, label_for, entry_of, no_entry_in}
use Rattle.cl_calls.specs.Signatures.{signatures_in}
use Rattle.cl_rows.specs.Rows.{IsFilled, IsReady}
use Rattle.cl_rows.specs.Wide.{size_in, is_wide_in, is_place, wide_in, too_wide_in}

-- ---- what a row says

pub small_in : (typed : Typed) (f : ℕ) (reply : Bool) (structs : Structs) → structs ≡ structs_of typed.program.items
    → size_in (structs_of typed.program.items) (signatures_in typed f) reply ≤ 4096 → size_in structs (signatures_in typed f) reply ≤ 4096
small_in typed f reply structs e h = subst (λ ss. size_in ss (signatures_in typed f) reply ≤ 4096) (sym e) h

pub filled : (typed : Typed) (labels : LabelTable) (from to f : ℕ) (structs : Structs) → structs ≡ structs_of typed.program.items
    → (r : GedlRow) (e : Entry) (s : Signature) (l : LabelFact)
    → r.from ≡ from → r.to ≡ to → r.function ≡ f → entry_for (entries_of (label_for labels f)) from ≡ Some e → r.operation ≡ e.operation → r.oneway ≡ e.oneway
    → signatures_in typed f ≡ s ∷ [] → r.name ≡ s.name → r.args ≡ args_of s.params → r.result ≡ s.result
    → label_for labels f ≡ Some l → r.label ≡ l.name
    → r.request ≡ size_in structs (signatures_in typed f) false → r.reply ≡ size_in structs (signatures_in typed f) true
    → IsFilled typed labels from to f r
filled typed labels from to f structs same r e s l is_from is_to is_f entry operation oneway signature name args result label label_is request reply = record {
  from_is = is_from;
  to_is = is_to;
  function_is = is_f;
  entry = (e, (entry, (operation, oneway)));
  signature = (s, (ap (λ ss. slice_get ss 0) signature, (name, (args, result))));
  label = (l, (label, label_is));
  request = request ∙ ap (λ ss. size_in ss (signatures_in typed f) false) same;
  reply = reply ∙ ap (λ ss. size_in ss (signatures_in typed f) true) same;
}

-- ---- a call has an entry

append_none : (xs ys : Lines) → xs ++ ys ≡ [] → (xs ≡ []) × (ys ≡ [])
append_none [] ys h = (refl, h)
append_none (x ∷ xs) ys h = let n : suc (length (xs ++ ys)) ≡ 0 = ap length h in absurd (omega (arith, n))

holds : (b : Bool) (line : ℕ) → unless b line ≡ [] → b ≡ true
holds true line h = refl
holds false line h = let n : 1 ≡ 0 = ap length h in absurd (omega (arith, n))

none_at : (P : Call → Bool) (cs : List Call) (c : Call) → flat_map (λ d. unless (P d) d.line) cs ≡ [] → Contains cs c → P c ≡ true
none_at P [] c h there = absurd (in_none c there)
none_at P (d ∷ ds) c h there =
    let both = append_none (unless (P d) d.line) (flat_map (λ d. unless (P d) d.line) ds) h in
    ⊎_elim (λ (e : d ≡ c). subst (λ (x : Call). P x ≡ true) e (holds (P d) d.line both.0)) (λ (l : Contains ds c). none_at P ds c both.1 l) (head_or_tail d c ds there)

has_entry : (labels : LabelTable) (levels : Levels) (cs : List Call) (c : Call) → no_entry_in labels levels cs ≡ [] → Contains cs c → is_some (entry_of labels levels c) ≡ true
unfolding no_entry_in
has_entry labels levels cs c h there = none_at (λ d. is_some (entry_of labels levels d)) cs c h there

not_none : {A : Type 0} (o : Option A) → is_some o ≡ true → o ≡ None → ⊥
not_none None h e = false≢true h
not_none (Some x) h e = none-some x (sym e)

no_label : (o : Option LabelFact) (from : ℕ) → is_some (entry_for (entries_of o) from) ≡ true → o ≡ None → ⊥
unfolding entry_for
no_label None from h e = false≢true h
no_label (Some l) from h e = none-some l (sym e)

-- ---- a function is defined

one_at : (fs : List FnFact) (i : ℕ) (d : FnFact) → i < length fs → OneOf fs (slice_index_or fs i d)
one_at [] i d l = absurd (omega (arith, l))
one_at (f ∷ fs) zero d l = inl refl
one_at (f ∷ fs) (suc i) d l = inr (one_at fs i d (omega (arith, l)))

item_at : (items : List Item) (k : ℕ) (i d : Item) → slice_get items k ≡ Some i → slice_index_or items k d ≡ i
item_at [] k i d e = absurd (none-some i e)
item_at (x ∷ xs) zero i d e = same_Some x i e
item_at (x ∷ xs) (suc k) i d e = item_at xs k i d e

defines : (f : FnFact) (i : Item) → IsFactOf f i → defined_by i ≡ [] → ⊥
defines f (item.Struct name members line) h e = h
defines f (item.Variables d) h e = h
defines f (item.Function is_static result name void_word params None line second) h e = h
defines f (item.Function is_static result name void_word params (Some body) line second) h e = let n : 1 ≡ 0 = ap length e in omega (arith, n)
defines f (item.Cle p line) h e = h

pub is_defined : (typed : Typed) (f : ℕ) → IsTyped typed.program typed → f < length typed.functions → signatures_in typed f ≡ [] → ⊥
is_defined typed f types within none =
    let fact : FnFact = slice_index_or typed.functions f no_fact in
    let one : OneOf (functions_of typed.program) (slice_index_or typed.functions f no_fact) = subst (λ fs. OneOf fs (slice_index_or typed.functions f no_fact)) types.functions (one_at typed.functions f no_fact within) in
    let there : FactOfProgram typed.program (slice_index_or typed.functions f no_fact) = facts_are typed.program (slice_index_or typed.functions f no_fact) one in
    defines (slice_index_or typed.functions f no_fact) there.0 there.2
    (ap defined_by (sym (item_at typed.program.items (slice_index_or typed.functions f no_fact).item there.0 no_item there.1)) ∙ none)

-- ---- its payloads aren't wide

any_called : (cs : List Call) (c : Call) → Contains cs c → list_any (λ d. d.callee == c.callee) cs ≡ true
any_called [] c h = absurd (in_none c h)
any_called (d ∷ ds) c h =
    ⊎_elim (λ (e : d ≡ c). rw (eq-eqb d.callee c.callee (ap (λ (x : Call). x.callee) e)) refl)
    (λ (l : Contains ds c). rw (any_called ds c l, or-true (d.callee == c.callee)) refl) (head_or_tail d c ds h)

no_place : (typed : Typed) (cs : List Call) (facts : List FnFact) (g f k : ℕ) → g + f ≡ k → f < length facts → wide_in typed cs g facts ≡ [] → not (is_place typed cs k) ≡ true
unfolding wide_in
no_place typed cs [] g f k e l h = absurd (omega (arith, l))
no_place typed cs (fact ∷ facts) g zero k e l h =
    let same : g ≡ k = omega (arith, e) in
    subst (λ n. not (is_place typed cs n) ≡ true) same (holds (not (is_place typed cs g)) fact.line (append_none (unless (not (is_place typed cs g)) fact.line) (wide_in typed cs (suc g) facts) h).0)
no_place typed cs (fact ∷ facts) g (suc f) k e l h =
    no_place typed cs facts (suc g) f k (omega (arith, e)) (omega (arith, l)) (append_none (unless (not (is_place typed cs g)) fact.line) (wide_in typed cs (suc g) facts) h).1

parts : (a b w : Bool) → w ≡ true → not ((not a || not b) && w) ≡ true → (a ≡ true) × (b ≡ true)
parts a b false e h = absurd (false≢true e)
parts true true true e h = (refl, refl)
parts true false true e h = absurd (false≢true h)
parts false b true e h = absurd (false≢true h)

narrow_both : (typed : Typed) (cs : List Call) (c : Call) → c.callee < length typed.functions → too_wide_in typed cs ≡ [] → Contains cs c
    → (size_in (structs_of typed.program.items) (signatures_in typed c.callee) false ≤ 4096) × (size_in (structs_of typed.program.items) (signatures_in typed c.callee) true ≤ 4096)
unfolding too_wide_in
narrow_both typed cs c within h there =
    let both = parts (nat_le (size_in (structs_of typed.program.items) (signatures_in typed c.callee) false) 4096) (nat_le (size_in (structs_of typed.program.items) (signatures_in typed c.callee) true) 4096)
    (list_any (λ d. d.callee == c.callee) cs) (any_called cs c there) (no_place typed cs typed.functions 0 c.callee c.callee (omega arith) within h) in
    (leb-true (size_in (structs_of typed.program.items) (signatures_in typed c.callee) false) 4096 both.0, leb-true (size_in (structs_of typed.program.items) (signatures_in typed c.callee) true) 4096 both.1)

pub ready : (typed : Typed) (labels : LabelTable) (levels : Levels) (cs : List Call) → IsTyped typed.program typed → All (λ c. c.callee < length typed.functions) cs
    → no_entry_in labels levels cs ≡ [] → too_wide_in typed cs ≡ [] → (c : Call) → Contains cs c → IsReady typed labels (level_at levels c.caller) c.callee
ready typed labels levels cs types callees entries narrow c there =
    let within : c.callee < length typed.functions = All-contains (λ (d : Call). d.callee < length typed.functions) cs c callees there in
    let entry = has_entry labels levels cs c entries there in
    let sizes = narrow_both typed cs c within narrow there in
    record {
      label = no_label (label_for labels c.callee) (level_at levels c.caller) entry;
      entry = not_none (entry_of labels levels c) entry;
      signature = is_defined typed c.callee types within;
      request = sizes.0;
      reply = sizes.1;
    }
