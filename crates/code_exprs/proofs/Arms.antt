-- What the parts of an expression write, put together.
use Rattle.std.proofs.Common.{◌≡◌, ℕ, zero, suc, ◌+◌, ◌≤◌, List, [], ◌∷◌, length, map, drop, max, slice_set, pos, arith, refl, sym, ap, ◌∙◌, subst, Option, Some, None, option_map, is_some, true, Result, Ok, Err, OnOk}
use Rattle.std.proofs.lemmas.Option.{none-some}
use Rattle.cl_base.specs.declared.name.NoMemory.{NoMemory}
use Rattle.cl_tree.specs.Arithmetic.{common}
use Rattle.cl_tree.specs.declared.kinds.IntKind.{IntKind}
use Rattle.cl_mean.specs.Shape.{Shape, count_of}
use Rattle.en_image.specs.declared.instr.Instr.{Instr}
use Rattle.en_image.specs.declared.instr.Instr.TheVariants as instr
use Rattle.code_forms.specs.declared.route.Route.{Route}
use Rattle.code_forms.specs.declared.route.Route.TheVariants.{Within, Across}
use Rattle.code_forms.specs.declared.mark.Mark.{Mark}
use Rattle.code_forms.specs.declared.mark.Mark.TheVariants.{Set}
use Rattle.code_forms.specs.Layout as layout
use Rattle.code_forms.specs.Pieces.{Piece, no_code, then_do, then_piece}
use Rattle.code_forms.specs.Lowering as l
use Rattle.code_tables.specs.declared.types.ValueType.{ValueType}
use Rattle.code_tables.specs.Types.{kept, shape_by, shape_in}
use Rattle.code_exprs.specs.Placed.{place_shape, IsPlaced}
use Rattle.code_exprs.specs.Written.{Written, pushed, reached, wrote}
use Rattle.code_exprs.proofs.Wrote.{wrote_do, wrote_asked}
use Rattle.code_exprs.proofs.Holes.{set_in, filled, both_is, either_is, chosen_is}

pub on_ok : {A : Type 0} (r : Result A NoMemory) (P Q : Type 0) → (P → Q) → OnOk r P → OnOk r Q
on_ok (Ok x) P Q f h = f h
on_ok (Err e) P Q f h = tt

long_set : (xs : List Mark) (i : ℕ) (x : Mark) → length (slice_set xs i x) ≡ length xs
long_set [] i x = refl
long_set (y ∷ ys) zero x = refl
long_set (y ∷ ys) (suc i) x = ap (λ (n : ℕ). suc n) (long_set ys i x)

same_long : (hole : ℕ) (i : Instr) (w v : Written) → v ≡ set_in hole i w → length v.code ≡ length w.code
same_long hole i w v e = ap (λ (x : Written). length x.code) e ∙ long_set w.code hole (Set i)

pub both_done : (a b : Piece) (top hole n past : ℕ) (w w1 w2 w3 w4 w5 : Written) → w1 ≡ wrote a top w → hole ≡ length w1.code → w2 ≡ pushed (instr.Zero 0 ∷ []) w1
    → w3 ≡ wrote b top w2 → n ≡ length w3.code → past ≡ n + 3 → w4 ≡ set_in hole (instr.Zero past) w3
    → w5 ≡ reached (top + 1) (pushed (instr.Zero past ∷ instr.Push (pos 1) ∷ instr.Jump (past + 1) ∷ instr.Push (pos 0) ∷ []) w4) → w5 ≡ wrote (l.both a b) top w
both_done a b top hole n past w w1 w2 w3 w4 w5 e1 eh e2 e3 en ep e4 e5 =
    let s = same_long hole (instr.Zero past) w3 w4 e4 in
    let p : past ≡ length w4.code + 3 = omega (arith, en, ep, s) in
    both_is a b top past w w1 w4 w5 e1 (filled b top (instr.Zero 0) (instr.Zero past) w1 w2 w3 w4 hole e2 eh e3 e4) p e5

pub either_done : (a b : Piece) (top m second hole n holds past : ℕ) (w w1 w2 w3 w4 w5 w6 : Written) → w1 ≡ wrote a top w → m ≡ length w1.code → second ≡ m + 2
    → w2 ≡ pushed (instr.Zero second ∷ []) w1 → hole ≡ length w2.code → w3 ≡ pushed (instr.Jump 0 ∷ []) w2
    → w4 ≡ wrote b top w3 → n ≡ length w4.code → holds ≡ n + 1 → w5 ≡ set_in hole (instr.Jump holds) w4 → past ≡ holds + 2
    → w6 ≡ reached (top + 1) (pushed (instr.Zero past ∷ instr.Push (pos 1) ∷ instr.Jump (past + 1) ∷ instr.Push (pos 0) ∷ []) w5) → w6 ≡ wrote (l.either a b) top w
either_done a b top m second hole n holds past w w1 w2 w3 w4 w5 w6 e1 em es e2 eh e3 e4 en eo e5 ep e6 =
    let s = same_long hole (instr.Jump holds) w4 w5 e5 in
    let p : holds ≡ length w5.code + 1 = omega (arith, en, eo, s) in
    let q : second ≡ length w1.code + 2 = es ∙ ap (λ k. k + 2) em in
    either_is a b top second holds w w1 w5 w6 e1 q
    (filled b top (instr.Jump 0) (instr.Jump holds) w2 w3 w4 w5 hole e3 eh e4 e5 ∙ ap (λ (x : Written). wrote b top (pushed (instr.Jump holds ∷ []) x)) e2) p
    (e6 ∙ ap (λ k. reached (top + 1) (pushed (instr.Zero k ∷ instr.Push (pos 1) ∷ instr.Jump (k + 1) ∷ instr.Push (pos 0) ∷ []) w5)) ep)

pub chosen_done : (test a b : l.Lowered) (first kind : IntKind) (top hole leave other end : ℕ) (w w1 w2 w3 w4 w5 w6 w7 w8 : Written)
    → first ≡ l.kind_of a → kind ≡ common (l.kind_of a) (l.kind_of b)
    → w1 ≡ wrote test.value top w → hole ≡ length w1.code → w2 ≡ pushed (instr.Zero 0 ∷ []) w1 → w3 ≡ wrote a.value top w2
    → w4 ≡ reached (top + 1) (pushed (l.convert_code first kind) w3) → leave ≡ length w4.code → other ≡ leave + 1 → w5 ≡ set_in hole (instr.Zero other) w4
    → w6 ≡ pushed (instr.Jump 0 ∷ []) w5 → w7 ≡ wrote (l.operand kind b) top w6 → end ≡ length w7.code → w8 ≡ set_in leave (instr.Jump end) w7
    → w8 ≡ wrote (l.chosen test.value (l.operand (common (l.kind_of a) (l.kind_of b)) a) (l.operand (common (l.kind_of a) (l.kind_of b)) b)) top w
chosen_done test a b first kind top hole leave other end w w1 w2 w3 w4 w5 w6 w7 w8 ef ek e1 eh e2 e3 e4 el eo e5 e6 e7 ee e8 =
    let f4 : w4 ≡ wrote (l.operand kind a) top w2 =
    e4 ∙ ap (λ k. reached (top + 1) (pushed (l.convert_code k kind) w3)) ef ∙ ap (λ (x : Written). reached (top + 1) (pushed (l.convert_code (l.kind_of a) kind) x)) e3
    ∙ wrote_do a.value 1 (l.convert_code (l.kind_of a) kind) top w2 in
    let f5 = filled (l.operand kind a) top (instr.Zero 0) (instr.Zero other) w1 w2 w4 w5 hole e2 eh f4 e5 in
    let s5 = same_long hole (instr.Zero other) w4 w5 e5 in
    let p : other ≡ length w5.code + 1 = omega (arith, el, eo, s5) in
    let q : leave ≡ length w5.code = omega (arith, el, s5) in
    let f8 = filled (l.operand kind b) top (instr.Jump 0) (instr.Jump end) w5 w6 w7 w8 leave e6 q e7 e8 in
    let r : end ≡ length w8.code = ee ∙ sym (same_long leave (instr.Jump end) w7 w8 e8) in
    chosen_is test.value (l.operand kind a) (l.operand kind b) top other end w w1 w5 w8 e1 f5 p f8 r
    ∙ ap (λ k. wrote (l.chosen test.value (l.operand k a) (l.operand k b)) top w) ek

-- ---- elements and members

element_case : (line : ℕ) (es : layout.Elements) (a b : l.Lowered) (s : Shape) (top : ℕ) (w w1 w2 : Written) (p : Option Piece) → option_map (λ (q : Piece). a.shape) p ≡ Some s
    → IsPlaced (l.element_of line es a b p) top w w1 → w2 ≡ reached (top + count_of es.shape) (pushed (instr.Fetch (count_of es.shape) ∷ []) w1)
    → w2 ≡ wrote (l.element_of line es a b p).value top w
element_case line es a b s top w w1 w2 None e placed f = absurd (none-some s e)
element_case line es a b s top w w1 w2 (Some p) e placed f =
    let q = then_do (then_piece p 1 b.value) 1 (instr.At es.count (count_of es.shape) line ∷ []) in
    f ∙ ap (λ (x : Written). reached (top + count_of es.shape) (pushed (instr.Fetch (count_of es.shape) ∷ []) x)) (placed q refl)
    ∙ wrote_do q (count_of es.shape) (instr.Fetch (count_of es.shape) ∷ []) top w

pub element_done : (line : ℕ) (o : Option layout.Elements) (es : layout.Elements) (a b : l.Lowered) (s : Shape) (top : ℕ) (w w1 w2 : Written) → Some es ≡ o → Some s ≡ place_shape a
    → IsPlaced (l.indexed o line a b) top w w1 → w2 ≡ reached (top + count_of es.shape) (pushed (instr.Fetch (count_of es.shape) ∷ []) w1)
    → w2 ≡ wrote (l.indexed o line a b).value top w
element_done line o es a b s top w w1 w2 eo e placed f =
    subst (λ (o : Option layout.Elements). IsPlaced (l.indexed o line a b) top w w1 → w2 ≡ wrote (l.indexed o line a b).value top w) eo
    (λ p. element_case line es a b s top w w1 w2 a.place (sym e) p f) placed

held_case : (line : ℕ) (es : layout.Elements) (a b : l.Lowered) (top : ℕ) (w w1 : Written) (p : Option Piece) → option_map (λ (q : Piece). a.shape) p ≡ None
    → w1 ≡ wrote (l.element_held line es (count_of a.shape) a.value b.value) top w → w1 ≡ wrote (l.element_of line es a b p).value top w
held_case line es a b top w w1 None e f = f
held_case line es a b top w w1 (Some p) e f = absurd (none-some a.shape (sym e))

pub element_held_done : (line : ℕ) (o : Option layout.Elements) (es : layout.Elements) (a b : l.Lowered) (top : ℕ) (w w1 : Written) → Some es ≡ o → None ≡ place_shape a
    → w1 ≡ wrote (l.element_held line es (count_of a.shape) a.value b.value) top w → w1 ≡ wrote (l.indexed o line a b).value top w
element_held_done line o es a b top w w1 eo e f =
    subst (λ (o : Option layout.Elements). w1 ≡ wrote (l.indexed o line a b).value top w) eo (held_case line es a b top w w1 a.place (sym e) f)

section_case : (s : layout.Section) (a : l.Lowered) (t : Shape) (top : ℕ) (w w1 w2 : Written) (p : Option Piece) → option_map (λ (q : Piece). a.shape) p ≡ Some t
    → IsPlaced (l.section_of s a p) top w w1 → w2 ≡ reached (top + count_of s.shape) (pushed (instr.Fetch (count_of s.shape) ∷ []) w1)
    → w2 ≡ wrote (l.section_of s a p).value top w
section_case s a t top w w1 w2 None e placed f = absurd (none-some t e)
section_case s a t top w w1 w2 (Some p) e placed f =
    let q = then_do p 1 (instr.Offset s.offset ∷ []) in
    f ∙ ap (λ (x : Written). reached (top + count_of s.shape) (pushed (instr.Fetch (count_of s.shape) ∷ []) x)) (placed q refl)
    ∙ wrote_do q (count_of s.shape) (instr.Fetch (count_of s.shape) ∷ []) top w

pub section_done : (o : Option layout.Section) (s : layout.Section) (a : l.Lowered) (t : Shape) (top : ℕ) (w w1 w2 : Written) → Some s ≡ o → Some t ≡ place_shape a
    → IsPlaced (l.selected o a) top w w1 → w2 ≡ reached (top + count_of s.shape) (pushed (instr.Fetch (count_of s.shape) ∷ []) w1)
    → w2 ≡ wrote (l.selected o a).value top w
section_done o s a t top w w1 w2 eo e placed f =
    subst (λ (o : Option layout.Section). IsPlaced (l.selected o a) top w w1 → w2 ≡ wrote (l.selected o a).value top w) eo
    (λ p. section_case s a t top w w1 w2 a.place (sym e) p f) placed

held_section : (s : layout.Section) (a : l.Lowered) (top : ℕ) (w w1 : Written) (p : Option Piece) → option_map (λ (q : Piece). a.shape) p ≡ None
    → w1 ≡ wrote (l.section_held s (count_of a.shape) a.value) top w → w1 ≡ wrote (l.section_of s a p).value top w
held_section s a top w w1 None e f = f
held_section s a top w w1 (Some p) e f = absurd (none-some a.shape (sym e))

pub section_held_done : (o : Option layout.Section) (s : layout.Section) (a : l.Lowered) (top : ℕ) (w w1 : Written) → Some s ≡ o → None ≡ place_shape a
    → w1 ≡ wrote (l.section_held s (count_of a.shape) a.value) top w → w1 ≡ wrote (l.selected o a).value top w
section_held_done o s a top w w1 eo e f =
    subst (λ (o : Option layout.Section). w1 ≡ wrote (l.selected o a).value top w) eo (held_section s a top w w1 a.place (sym e) f)

-- ---- calls

pub shapes_are : (ps : List ValueType) → map shape_in ps ≡ map shape_by (map kept ps)
shapes_are [] = refl
shapes_are (p ∷ ps) = ap (λ (ss : List Shape). shape_in p ∷ ss) (shapes_are ps)

none_left : {A : Type 0} (xs : List A) (k : ℕ) → length xs ≤ k → drop k xs ≡ []
none_left [] zero h = refl
none_left [] (suc k) h = refl
none_left (x ∷ xs) zero h = absurd (omega arith)
none_left (x ∷ xs) (suc k) h = none_left xs k (omega arith)

no_more : (ss : List Shape) → l.arguments ss [] ≡ no_code
no_more [] = refl
no_more (s ∷ ss) = refl

-- no argument is left
pub arguments_end : {A : Type 0} (f : A → l.Lowered) (ss : List Shape) (es : List A) (k at : ℕ) (w1 w2 whole : Written) → length es ≤ k → w2 ≡ wrote no_code at w1
    → wrote (l.arguments ss (map f (drop k es))) at w1 ≡ whole → w2 ≡ whole
arguments_end f ss es k at w1 w2 whole h e rest =
    e ∙ ap (λ (p : Piece). wrote p at w1) (sym (no_more ss)) ∙ ap (λ xs. wrote (l.arguments ss (map f xs)) at w1) (sym (none_left es k h)) ∙ rest

pub called_within : (c : layout.Callee) (route : Route) (line : ℕ) (ss : List Shape) (es : List l.Lowered) (top cells : ℕ) (w w1 w2 w3 : Written) → route ≡ Within → ss ≡ c.params
    → w1 ≡ wrote (l.arguments ss es) top w → w2 ≡ pushed (instr.Call c.index c.line ∷ []) w1 → cells ≡ count_of c.result → w3 ≡ reached (top + cells) w2
    → w3 ≡ wrote (l.called_by route line c (l.arguments c.params es)) top w
called_within c route line ss es top cells w w1 w2 w3 er ess e1 e2 ec e3 =
    let args = l.arguments c.params es in
    e3 ∙ ap (reached (top + cells)) e2 ∙ ap (λ (x : Written). reached (top + cells) (pushed (instr.Call c.index c.line ∷ []) x)) (e1 ∙ ap (λ xs. wrote (l.arguments xs es) top w) ess)
    ∙ ap (λ n. reached (top + n) (pushed (instr.Call c.index c.line ∷ []) (wrote args top w))) ec
    ∙ wrote_do args (count_of c.result) (instr.Call c.index c.line ∷ []) top w
    ∙ ap (λ r. wrote (l.called_by r line c args) top w) (sym er)

abbrev pub high : List Shape → ℕ → ℕ
high ss result = max (layout.widths ss + layout.counts ss) (layout.widths ss + result + layout.lent_counts ss + 1 + max result (layout.lent_counts ss))

pub called_across : (c : layout.Callee) (route : Route) (row line : ℕ) (ss : List Shape) (es : List l.Lowered) (top cells n : ℕ) (w w1 w2 w3 : Written) → route ≡ Across row → ss ≡ c.params
    → w1 ≡ wrote (l.arguments ss es) top w → cells ≡ count_of c.result → w2 ≡ pushed (l.across_code row line ss cells top) w1 → n ≡ high ss cells → w3 ≡ reached (top + n) w2
    → w3 ≡ wrote (l.called_by route line c (l.arguments c.params es)) top w
called_across c route row line ss es top cells n w w1 w2 w3 er ess e1 ec e2 en e3 =
    let args = l.arguments c.params es in
    e3 ∙ ap (λ k. reached (top + k) w2) en ∙ ap (reached (top + high ss cells)) (e2 ∙ ap (pushed (l.across_code row line ss cells top)) e1)
    ∙ ap (λ k. reached (top + high ss k) (pushed (l.across_code row line ss k top) (wrote (l.arguments ss es) top w))) ec
    ∙ ap (λ xs. reached (top + high xs (count_of c.result)) (pushed (l.across_code row line xs (count_of c.result) top) (wrote (l.arguments xs es) top w))) ess
    ∙ wrote_asked row line c.params (count_of c.result) args top w
    ∙ ap (λ r. wrote (l.called_by r line c args) top w) (sym er)

-- ---- where the code found that there is a place

pub element_found : (line : ℕ) (o : Option layout.Elements) (es : layout.Elements) (a b : l.Lowered) (t : Option ValueType) (top : ℕ) (w w1 w2 : Written) → Some es ≡ o → is_some t ≡ true → option_map shape_in t ≡ place_shape a
    → IsPlaced (l.indexed o line a b) top w w1 → w2 ≡ reached (top + count_of es.shape) (pushed (instr.Fetch (count_of es.shape) ∷ []) w1)
    → w2 ≡ wrote (l.indexed o line a b).value top w
element_found line o es a b None top w w1 w2 eo i e placed f = absurd (cc)
element_found line o es a b (Some t) top w w1 w2 eo i e placed f = element_done line o es a b (shape_in t) top w w1 w2 eo e placed f

pub section_found : (o : Option layout.Section) (s : layout.Section) (a : l.Lowered) (t : Option ValueType) (top : ℕ) (w w1 w2 : Written) → Some s ≡ o → is_some t ≡ true → option_map shape_in t ≡ place_shape a
    → IsPlaced (l.selected o a) top w w1 → w2 ≡ reached (top + count_of s.shape) (pushed (instr.Fetch (count_of s.shape) ∷ []) w1)
    → w2 ≡ wrote (l.selected o a).value top w
section_found o s a None top w w1 w2 eo i e placed f = absurd (cc)
section_found o s a (Some t) top w w1 w2 eo i e placed f = section_done o s a (shape_in t) top w w1 w2 eo e placed f
