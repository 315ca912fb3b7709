-- Jumps whose place is known behind the piece that they go over.
use Rattle.std.proofs.Common.{◌≡◌, ℕ, ◌+◌, ◌≤◌, pos, List, [], ◌∷◌, ◌++◌, length, max, slice_set, arith, refl, sym, ap, ◌∙◌, append_assoc, length-append}
use Rattle.std.proofs.Math.Seq.{set-append_seam}
use Rattle.en_image.specs.declared.instr.Instr.{Instr}
use Rattle.en_image.specs.declared.instr.Instr.TheVariants as instr
use Rattle.code_forms.specs.declared.mark.Mark.{Mark}
use Rattle.code_forms.specs.declared.mark.Mark.TheVariants.{Set}
use Rattle.code_forms.specs.Pieces.{Piece, sets}
use Rattle.std.proofs.lemmas.List.{map-append}
use Rattle.code_forms.specs.Lowering.{both, both_code, either, either_code, chosen, chosen_code}
use Rattle.code_exprs.specs.Written.{Written, pushed, reached, wrote}
use Rattle.code_exprs.proofs.Wrote.{made, written, longer}

abbrev pub set_in : ℕ → Instr → Written → Written
set_in hole i w = made (slice_set w.code hole (Set i)) w.most

seam : (c d : List Mark) (z i : Mark) → slice_set ((c ++ z ∷ []) ++ d) (length c) i ≡ (c ++ i ∷ []) ++ d
seam c d z i =
    ap (λ xs. slice_set xs (length c) i) (append_assoc c (z ∷ []) d) ∙ set-append_seam c z d i ∙ sym (append_assoc c (i ∷ []) d)

same_length : (c : List Mark) (z i : Mark) → length (c ++ z ∷ []) ≡ length (c ++ i ∷ [])
same_length c z i = length-append c (z ∷ []) ∙ sym (length-append c (i ∷ []))

-- A hole that is filled is as if the right instruction had been written at once.
pub filled : (p : Piece) (top : ℕ) (z i : Instr) (w w1 w2 w3 : Written) (hole : ℕ) → w1 ≡ pushed (z ∷ []) w → hole ≡ length w.code → w2 ≡ wrote p top w1
    → w3 ≡ set_in hole i w2 → w3 ≡ wrote p top (pushed (i ∷ []) w)
filled p top z i w w1 w2 w3 hole e1 eh e2 e3 =
    e3 ∙ ap (λ n. set_in n i w2) eh ∙ ap (set_in (length w.code) i) (e2 ∙ ap (wrote p top) e1)
    ∙ written _ _ _ _ (seam w.code (sets (p.code (length (w.code ++ Set z ∷ [])) top)) (Set z) (Set i) ∙ ap (λ n. (w.code ++ Set i ∷ []) ++ sets (p.code n top)) (same_length w.code (Set z) (Set i))) refl

long : (p : Piece) (top : ℕ) (w w1 : Written) → w1 ≡ wrote p top w → length w1.code ≡ length w.code + length (p.code (length w.code) top)
long p top w w1 e = ap (λ (x : Written). length x.code) e ∙ longer w.code (p.code (length w.code) top)

pub both_is : (a b : Piece) (top past : ℕ) (w w1 w3 w4 : Written) → w1 ≡ wrote a top w → w3 ≡ wrote b top (pushed (instr.Zero past ∷ []) w1) → past ≡ length w3.code + 3
    → w4 ≡ reached (top + 1) (pushed (instr.Zero past ∷ instr.Push (pos 1) ∷ instr.Jump (past + 1) ∷ instr.Push (pos 0) ∷ []) w3) → w4 ≡ wrote (both a b) top w
both_is a b top past w w1 w3 w4 e1 e3 ep e4 =
    let ca = a.code (length w.code) top in
    let cb = b.code (length w.code + length ca + 1) top in
    let tail = instr.Zero past ∷ instr.Push (pos 1) ∷ instr.Jump (past + 1) ∷ instr.Push (pos 0) ∷ [] in
    let n1 : length w1.code ≡ length w.code + length ca = long a top w w1 e1 in
    let n2 : length (w1.code ++ Set (instr.Zero past) ∷ []) ≡ length w.code + length ca + 1 = length-append w1.code (Set (instr.Zero past) ∷ []) ∙ ap (λ n. n + 1) n1 in
    let c3 : w3.code ≡ ((w.code ++ sets ca) ++ Set (instr.Zero past) ∷ []) ++ sets cb =
    ap (λ (x : Written). x.code) e3 ∙ ap (λ n. (w1.code ++ Set (instr.Zero past) ∷ []) ++ sets (b.code n top)) n2 ∙ ap (λ (x : Written). (x.code ++ Set (instr.Zero past) ∷ []) ++ sets cb) e1 in
    let n3 : length w3.code ≡ length w.code + length ca + 1 + length cb =
    ap (λ (x : Written). length x.code) e3 ∙ longer (w1.code ++ Set (instr.Zero past) ∷ []) (b.code (length (w1.code ++ Set (instr.Zero past) ∷ [])) top)
    ∙ ap (λ n. n + length (b.code n top)) n2 in
    let p : past ≡ length w.code + length ca + length cb + 4 = omega (arith, ep, n3) in
    let flat : (((w.code ++ sets ca) ++ Set (instr.Zero past) ∷ []) ++ sets cb) ++ sets tail ≡ w.code ++ sets (ca ++ (instr.Zero past ∷ (cb ++ tail))) = simp (append_assoc, map-append) in
    let m3 : w3.most ≡ max (max w.most (top + a.height)) (top + b.height) = ap (λ (x : Written). x.most) e3 ∙ ap (λ (x : Written). max x.most (top + b.height)) e1 in
    let m : max w3.most (top + 1) ≡ max w.most (top + max (max a.height b.height) 1) = omega (arith, m3) in
    e4 ∙ written _ _ _ _ (ap (λ c. c ++ sets tail) c3 ∙ flat ∙ ap (λ n. w.code ++ sets (both_code ca n cb)) p) m

pub either_is : (a b : Piece) (top second holds : ℕ) (w w1 w3 w4 : Written) → w1 ≡ wrote a top w → second ≡ length w1.code + 2
    → w3 ≡ wrote b top (pushed (instr.Jump holds ∷ []) (pushed (instr.Zero second ∷ []) w1)) → holds ≡ length w3.code + 1
    → w4 ≡ reached (top + 1) (pushed (instr.Zero (holds + 2) ∷ instr.Push (pos 1) ∷ instr.Jump (holds + 2 + 1) ∷ instr.Push (pos 0) ∷ []) w3) → w4 ≡ wrote (either a b) top w
either_is a b top second holds w w1 w3 w4 e1 es e3 eh e4 =
    let ca = a.code (length w.code) top in
    let cb = b.code (length w.code + length ca + 2) top in
    let tail = instr.Zero (holds + 2) ∷ instr.Push (pos 1) ∷ instr.Jump (holds + 3) ∷ instr.Push (pos 0) ∷ [] in
    let t : holds + 2 + 1 ≡ holds + 3 = omega arith in
    let n1 : length w1.code ≡ length w.code + length ca = long a top w w1 e1 in
    let n2 : length ((w1.code ++ Set (instr.Zero second) ∷ []) ++ Set (instr.Jump holds) ∷ []) ≡ length w.code + length ca + 2 =
    length-append (w1.code ++ Set (instr.Zero second) ∷ []) (Set (instr.Jump holds) ∷ []) ∙ ap (λ n. n + 1) (length-append w1.code (Set (instr.Zero second) ∷ []) ∙ ap (λ n. n + 1) n1) ∙ omega arith in
    let c3 : w3.code ≡ (((w.code ++ sets ca) ++ Set (instr.Zero second) ∷ []) ++ Set (instr.Jump holds) ∷ []) ++ sets cb =
    ap (λ (x : Written). x.code) e3 ∙ ap (λ n. ((w1.code ++ Set (instr.Zero second) ∷ []) ++ Set (instr.Jump holds) ∷ []) ++ sets (b.code n top)) n2
    ∙ ap (λ (x : Written). ((x.code ++ Set (instr.Zero second) ∷ []) ++ Set (instr.Jump holds) ∷ []) ++ sets cb) e1 in
    let n3 : length w3.code ≡ length w.code + length ca + 2 + length cb =
    ap (λ (x : Written). length x.code) e3 ∙ longer ((w1.code ++ Set (instr.Zero second) ∷ []) ++ Set (instr.Jump holds) ∷ []) (b.code (length ((w1.code ++ Set (instr.Zero second) ∷ []) ++ Set (instr.Jump holds) ∷ [])) top)
    ∙ ap (λ n. n + length (b.code n top)) n2 in
    let s : second ≡ length w.code + length ca + 2 = omega (arith, es, n1) in
    let h : holds ≡ length w.code + length ca + length cb + 3 = omega (arith, eh, n3) in
    let flat : ((((w.code ++ sets ca) ++ Set (instr.Zero second) ∷ []) ++ Set (instr.Jump holds) ∷ []) ++ sets cb) ++ sets tail ≡ w.code ++ sets (ca ++ (instr.Zero second ∷ instr.Jump holds ∷ (cb ++ tail))) = simp (append_assoc, map-append) in
    let m3 : w3.most ≡ max (max w.most (top + a.height)) (top + b.height) = ap (λ (x : Written). x.most) e3 ∙ ap (λ (x : Written). max x.most (top + b.height)) e1 in
    let m : max w3.most (top + 1) ≡ max w.most (top + max (max a.height b.height) 1) = omega (arith, m3) in
    e4 ∙ written _ _ _ _ (ap (λ n. w3.code ++ sets (instr.Zero (holds + 2) ∷ instr.Push (pos 1) ∷ instr.Jump n ∷ instr.Push (pos 0) ∷ [])) t ∙ ap (λ c. c ++ sets tail) c3 ∙ flat
    ∙ ap (λ n. w.code ++ sets (either_code ca n holds cb)) s ∙ ap (λ n. w.code ++ sets (either_code ca (length w.code + length ca + 2) n cb)) h) m

pub chosen_is : (test a b : Piece) (top other end : ℕ) (w w1 w3 w5 : Written) → w1 ≡ wrote test top w
    → w3 ≡ wrote a top (pushed (instr.Zero other ∷ []) w1) → other ≡ length w3.code + 1
    → w5 ≡ wrote b top (pushed (instr.Jump end ∷ []) w3) → end ≡ length w5.code → w5 ≡ wrote (chosen test a b) top w
chosen_is test a b top other end w w1 w3 w5 e1 e3 eo e5 ee =
    let ct = test.code (length w.code) top in
    let ca = a.code (length w.code + length ct + 1) top in
    let cb = b.code (length w.code + length ct + length ca + 2) top in
    let n1 : length w1.code ≡ length w.code + length ct = long test top w w1 e1 in
    let n2 : length (w1.code ++ Set (instr.Zero other) ∷ []) ≡ length w.code + length ct + 1 = length-append w1.code (Set (instr.Zero other) ∷ []) ∙ ap (λ n. n + 1) n1 in
    let c3 : w3.code ≡ ((w.code ++ sets ct) ++ Set (instr.Zero other) ∷ []) ++ sets ca =
    ap (λ (x : Written). x.code) e3 ∙ ap (λ n. (w1.code ++ Set (instr.Zero other) ∷ []) ++ sets (a.code n top)) n2 ∙ ap (λ (x : Written). (x.code ++ Set (instr.Zero other) ∷ []) ++ sets ca) e1 in
    let n3 : length w3.code ≡ length w.code + length ct + 1 + length ca =
    ap (λ (x : Written). length x.code) e3 ∙ longer (w1.code ++ Set (instr.Zero other) ∷ []) (a.code (length (w1.code ++ Set (instr.Zero other) ∷ [])) top)
    ∙ ap (λ n. n + length (a.code n top)) n2 in
    let n4 : length (w3.code ++ Set (instr.Jump end) ∷ []) ≡ length w.code + length ct + length ca + 2 = length-append w3.code (Set (instr.Jump end) ∷ []) ∙ ap (λ n. n + 1) n3 ∙ omega arith in
    let c5 : w5.code ≡ ((((w.code ++ sets ct) ++ Set (instr.Zero other) ∷ []) ++ sets ca) ++ Set (instr.Jump end) ∷ []) ++ sets cb =
    ap (λ (x : Written). x.code) e5 ∙ ap (λ n. (w3.code ++ Set (instr.Jump end) ∷ []) ++ sets (b.code n top)) n4 ∙ ap (λ c. (c ++ Set (instr.Jump end) ∷ []) ++ sets cb) c3 in
    let n5 : length w5.code ≡ length w.code + length ct + length ca + 2 + length cb =
    ap (λ (x : Written). length x.code) e5 ∙ longer (w3.code ++ Set (instr.Jump end) ∷ []) (b.code (length (w3.code ++ Set (instr.Jump end) ∷ [])) top)
    ∙ ap (λ n. n + length (b.code n top)) n4 in
    let o : other ≡ length w.code + length ct + length ca + 2 = omega (arith, eo, n3) in
    let f : end ≡ length w.code + length ct + length ca + 2 + length cb = ee ∙ n5 in
    let flat : ((((w.code ++ sets ct) ++ Set (instr.Zero other) ∷ []) ++ sets ca) ++ Set (instr.Jump end) ∷ []) ++ sets cb ≡ w.code ++ sets (ct ++ (instr.Zero other ∷ (ca ++ (instr.Jump end ∷ cb)))) = simp (append_assoc, map-append) in
    let m3 : w3.most ≡ max (max w.most (top + test.height)) (top + a.height) = ap (λ (x : Written). x.most) e3 ∙ ap (λ (x : Written). max x.most (top + a.height)) e1 in
    let m5 : w5.most ≡ max w3.most (top + b.height) = ap (λ (x : Written). x.most) e5 in
    let m : w5.most ≡ max w.most (top + max test.height (max a.height b.height)) = omega (arith, m3, m5) in
    written _ _ _ _ (c5 ∙ flat ∙ ap (λ n. w.code ++ sets (chosen_code ct n ca end cb)) o ∙ ap (λ n. w.code ++ sets (chosen_code ct (length w.code + length ct + length ca + 2) ca n cb)) f) m
