-- Pieces one after the other.
use Rattle.std.proofs.Common.{◌≡◌, ℕ, ◌+◌, ◌-◌, List, [], ◌∷◌, ◌++◌, length, max, arith, ap, ◌∙◌, append_assoc, length-append, sym}
use Rattle.cl_mean.specs.Shape.{Shape, count_of}
use Rattle.en_image.specs.declared.instr.Instr.{Instr}
use Rattle.en_image.specs.declared.instr.Instr.TheVariants as instr
use Rattle.code_forms.specs.Layout.{Section, widths, counts, lent_counts}
use Rattle.code_forms.specs.Lowering.{then_twice, section_held, across_code, asked}
use Rattle.code_forms.specs.declared.mark.Mark.{Mark}
use Rattle.code_forms.specs.declared.mark.Mark.TheVariants.{Set}
use Rattle.code_forms.specs.Pieces.{Piece, sets, then_do, then_piece}
use Rattle.std.proofs.lemmas.List.{length-map, map-append}
use Rattle.code_exprs.specs.Written.{Written, pushed, reached, wrote}

abbrev pub made : List Mark → ℕ → Written
made c m = record { code = c; most = m }

pub written : (c d : List Mark) (m n : ℕ) → c ≡ d → m ≡ n → made c m ≡ made d n
written c d m n e f = λ k. record { code = e k; most = f k }

pub joined : (xs : List Mark) (a b : List Instr) → (xs ++ sets a) ++ sets b ≡ xs ++ sets (a ++ b)
joined xs a b = append_assoc xs (sets a) (sets b) ∙ ap (λ ys. xs ++ ys) (sym (map-append Set a b))

pub longer : (xs : List Mark) (a : List Instr) → length (xs ++ sets a) ≡ length xs + length a
longer xs a = length-append xs (sets a) ∙ ap (λ n. length xs + n) (length-map a Set)

higher : (m top a b : ℕ) → max (max m (top + a)) (top + b) ≡ max m (top + max a b)
higher m top a b = omega arith

pub wrote_do : (p : Piece) (high : ℕ) (is : List Instr) (top : ℕ) (w : Written) → reached (top + high) (pushed is (wrote p top w)) ≡ wrote (then_do p high is) top w
wrote_do p high is top w =
    written _ _ _ _ (joined w.code (p.code (length w.code) top) is) (higher w.most top p.height high)

pub wrote_piece : (a : Piece) (n : ℕ) (b : Piece) (top : ℕ) (w : Written) → wrote b (top + n) (wrote a top w) ≡ wrote (then_piece a n b) top w
wrote_piece a n b top w =
    let c = a.code (length w.code) top in
    let h : max (max w.most (top + a.height)) (top + n + b.height) ≡ max w.most (top + max a.height (n + b.height)) = omega arith in
    written _ _ _ _
    (ap (λ i. (w.code ++ sets c) ++ sets (b.code i (top + n))) (longer w.code c) ∙ joined w.code c (b.code (length w.code + length c) (top + n))) h

pub wrote_twice : (whole : ℕ) (a : Piece) (top : ℕ) (w : Written) → reached (top + (whole + 2)) (pushed (instr.Local top ∷ instr.Local top ∷ []) (wrote a top w)) ≡ wrote (then_twice whole a) top w
wrote_twice whole a top w =
    written _ _ _ _ (joined w.code (a.code (length w.code) top) (instr.Local top ∷ instr.Local top ∷ [])) (higher w.most top a.height (whole + 2))

pub wrote_section : (s : Section) (whole : ℕ) (a : Piece) (top : ℕ) (w : Written)
    → reached (top + (whole + 1 + count_of s.shape)) (pushed (instr.Local top ∷ instr.Local (top + s.offset) ∷ instr.Fetch (count_of s.shape) ∷ instr.Store (count_of s.shape) ∷ instr.Drop (whole - count_of s.shape) ∷ []) (wrote a top w))
    ≡ wrote (section_held s whole a) top w
wrote_section s whole a top w =
    written _ _ _ _ (joined w.code (a.code (length w.code) top) (instr.Local top ∷ instr.Local (top + s.offset) ∷ instr.Fetch (count_of s.shape) ∷ instr.Store (count_of s.shape) ∷ instr.Drop (whole - count_of s.shape) ∷ []))
    (higher w.most top a.height (whole + 1 + count_of s.shape))

pub wrote_asked : (row line : ℕ) (ss : List Shape) (result : ℕ) (args : Piece) (top : ℕ) (w : Written)
    → reached (top + max (widths ss + counts ss) (widths ss + result + lent_counts ss + 1 + max result (lent_counts ss))) (pushed (across_code row line ss result top) (wrote args top w))
    ≡ wrote (asked row line ss result args) top w
wrote_asked row line ss result args top w =
    written _ _ _ _ (joined w.code (args.code (length w.code) top) (across_code row line ss result top))
    (higher w.most top args.height (max (widths ss + counts ss) (widths ss + result + lent_counts ss + 1 + max result (lent_counts ss))))
