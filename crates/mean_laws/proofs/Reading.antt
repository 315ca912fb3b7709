-- Bytes that are read as a frame are just its bytes, and the bytes of a frame are read as that frame.
use Rattle.std.proofs.Common.{◌≡◌, ℕ, zero, suc, ◌+◌, ◌*◌, ◌/◌, ◌%◌, ◌^◌, ◌<◌, ◌==◌, arith, ℤ, List, [], ◌∷◌, ◌++◌, length, drop, refl, sym, subst, ap, ◌∙◌, Bool, true, false, ◌&&◌, if◌then◌else◌, Some, None, bytes_eq, lt-ltb}
use Rattle.std.proofs.lemmas.Bool.{false≢true}
use Rattle.std.proofs.lemmas.Option.{none-some, same_Some}
use Rattle.std.proofs.lemmas.Slice.Eq.{bytes_eq-Decides}
use Rattle.byteorder.specs.Endian.{big_bytes, big_from}
use Rattle.byteorder.specs.Numbers.{big_number-reads_back}
use Rattle.cl_tree.specs.declared.kinds.IntKind.{IntKind}
use Rattle.cl_tree.specs.Arithmetic.{fits, residue}
use Rattle.cl_mean.specs.Shape.{size_of}
use Rattle.cl_mean.specs.Source.{Source}
use Rattle.cl_mean.specs.Guarded.{Content, holds, blocked, broken}
use Rattle.cl_mean.specs.Journal.{Said, says_stop, message, Frame, frame, payload_bytes, payload_numbers, kinds_at, mux_of, typ_of, content_number, content_bytes, frame_bytes, bytes_of, content_in, said_in, is_known, frame_named, frame_in}
use Rattle.cl_mean.specs.LocalRun.{is_fitting, is_content}
use Rattle.mean_laws.specs.Frames.{IsSaid, IsFrameOf}
use Rattle.mean_laws.proofs.Expressions.{two_same}
use Rattle.mean_laws.proofs.Numbers.{number_back}

-- ---- bytes that are read

both : (x y : Bool) → (x && y) ≡ true → (x ≡ true) × (y ≡ true)
both true y e = (refl, e)
both false y e = absurd (false≢true e)

by_test : (source : Source) (bytes : List ℕ) (f g : Frame) (q : Bool) → (is_known source g.said && bytes_eq (bytes_of source g) bytes) ≡ q → (if q then Some g else None) ≡ Some f → bytes_of source f ≡ bytes
by_test source bytes f g true e h = subst (λ (z : Frame). bytes_of source z ≡ bytes) (same_Some g f h) ((bytes_eq-Decides (bytes_of source g) bytes).0 (both (is_known source g.said) (bytes_eq (bytes_of source g) bytes) e).1)
by_test source bytes f g false e h = absurd (none-some f h)

pub read_back : (source : Source) (bytes : List ℕ) (f : Frame) → frame_in source bytes ≡ Some f → bytes_of source f ≡ bytes
unfolding frame_in
read_back source bytes f h = by_test source bytes f (frame_named source bytes) (is_known source (frame_named source bytes).said && bytes_eq (bytes_of source (frame_named source bytes)) bytes) refl h

-- ---- the numbers of a payload

behind : (n x : ℕ) (rest : List ℕ) → drop n (big_bytes n x ++ rest) ≡ rest
behind zero x rest = refl
behind (suc n) x rest = behind n x rest

numbers_back : (kinds : List IntKind) (ns : List ℤ) → is_fitting kinds ns ≡ true → payload_numbers kinds (payload_bytes kinds ns) ≡ ns
unfolding payload_numbers payload_bytes
numbers_back [] [] e = refl
numbers_back [] (n ∷ ns) e = absurd (false≢true e)
numbers_back (k ∷ ks) [] e = absurd (false≢true e)
numbers_back (k ∷ ks) (n ∷ ns) e =
    let f : (fits k n ≡ true) × (is_fitting ks ns ≡ true) = both (fits k n) (is_fitting ks ns) e in
    two_same (λ (m : ℤ) (ms : List ℤ). m ∷ ms) _ _ _ _ (number_back k n (payload_bytes ks ns) f.0)
    (ap (payload_numbers ks) (behind (size_of k) (residue k n) (payload_bytes ks ns)) ∙ numbers_back ks ns f.1)

content_back : (kinds : List IntKind) (content : Content ℤ) → is_content kinds content ≡ true → content_in (content_number content) kinds (content_bytes kinds content) ≡ content
content_back kinds (holds ns) e = ap (λ (ms : List ℤ). holds ms) (numbers_back kinds ns e)
content_back kinds blocked e = refl
content_back kinds broken e = refl

-- ---- the numbers of a header

module _ (mux typ turn code : ℕ) (payload : List ℕ) where
  pub typ_back : typ < 2 ^ 32 → big_from 8 4 (frame_bytes mux typ turn code payload) ≡ typ
  unfolding frame_bytes
  typ_back h = big_number-reads_back 4 typ (big_bytes 8 turn ++ (big_bytes 1 code ++ (big_bytes 4 (length payload) ++ payload))) h

  pub turn_back : turn < 2 ^ 64 → big_from 12 8 (frame_bytes mux typ turn code payload) ≡ turn
  unfolding frame_bytes
  turn_back h = big_number-reads_back 8 turn (big_bytes 1 code ++ (big_bytes 4 (length payload) ++ payload)) h

  pub code_back : code < 256 → big_from 20 1 (frame_bytes mux typ turn code payload) ≡ code
  unfolding frame_bytes
  code_back h = big_number-reads_back 1 code (big_bytes 4 (length payload) ++ payload) h

  pub payload_back : drop 25 (frame_bytes mux typ turn code payload) ≡ payload
  unfolding frame_bytes
  payload_back = refl

-- ---- the frame

code_small : (content : Content ℤ) → content_number content < 256
code_small (holds ns) = omega arith
code_small blocked = omega arith
code_small broken = omega arith

even : (k : ℕ) → (2 * k % 2 == 1) ≡ false
even k = let e : 2 * k % 2 ≡ 0 = omega arith in ap (λ (z : ℕ). z == 1) e

odd : (k : ℕ) → ((2 * k + 1) % 2 == 1) ≡ true
odd k = let e : (2 * k + 1) % 2 ≡ 1 = omega arith in ap (λ (z : ℕ). z == 1) e

-- the row and the way that a tag, which is one more than this number, stands for
abbrev said_of : Source → ℕ → List ℕ → ℕ → Bool → Said
said_of source code payload k reply = message k reply (content_in code (kinds_at source source.rows k reply) payload)

said_back : (source : Source) (k : ℕ) (reply : Bool) (code : ℕ) (payload : List ℕ) → said_in source (typ_of k reply) code payload ≡ said_of source code payload k reply
said_back source k false code payload =
    let e : 2 * k + 1 ≡ suc (2 * k) = omega arith in
    let i : 2 * k / 2 ≡ k = omega arith in
    ap (λ (z : ℕ). said_in source z code payload) e ∙ two_same (said_of source code payload) _ _ _ _ i (even k)
said_back source k true code payload =
    let e : 2 * k + 2 ≡ suc (2 * k + 1) = omega arith in
    let i : (2 * k + 1) / 2 ≡ k = omega arith in
    ap (λ (z : ℕ). said_in source z code payload) e ∙ two_same (said_of source code payload) _ _ _ _ i (odd k)

named_back : (source : Source) (turn : ℕ) (said : Said) → turn < 2 ^ 64 → IsSaid source said → frame_named source (bytes_of source (frame turn said)) ≡ frame turn said
unfolding frame_named bytes_of frame_bytes
named_back source turn says_stop t h = ap (λ (z : ℕ). frame z says_stop) (turn_back 0 0 turn 3 [] t)
named_back source turn (message k reply content) t h =
    let kinds : List IntKind = kinds_at source source.rows k reply in
    let mux : ℕ = mux_of source.rows k in
    let typ : ℕ = typ_of k reply in
    let code : ℕ = content_number content in
    let payload : List ℕ = content_bytes kinds content in
    two_same (λ (i : ℕ) (s : Said). frame i s) _ _ _ _ (turn_back mux typ turn code payload t)
    (ap (λ (z : ℕ). said_in source z (big_from 20 1 (frame_bytes mux typ turn code payload)) (drop 25 (frame_bytes mux typ turn code payload))) (typ_back mux typ turn code payload h.1)
    ∙ two_same (λ (i : ℕ) (bs : List ℕ). said_in source typ i bs) _ _ _ _ (code_back mux typ turn code payload (code_small content)) (payload_back mux typ turn code payload)
    ∙ said_back source k reply code payload ∙ ap (λ (c : Content ℤ). message k reply c) (content_back kinds content h.2))

there : (source : Source) (said : Said) → IsSaid source said → is_known source said ≡ true
there source says_stop h = refl
there source (message k reply content) h = lt-ltb k (length source.rows) h.0

read_if : (source : Source) (f g : Frame) → g ≡ f → is_known source f.said ≡ true → (if is_known source g.said && bytes_eq (bytes_of source g) (bytes_of source f) then Some g else None) ≡ Some f
read_if source f g e h =
    subst (λ (z : Frame). (if is_known source z.said && bytes_eq (bytes_of source z) (bytes_of source f) then Some z else None) ≡ Some f) (sym e)
    (rw (h, (bytes_eq-Decides (bytes_of source f) (bytes_of source f)).1 refl) refl)

pub reads_its_bytes : (source : Source) (f : Frame) → IsFrameOf source f → frame_in source (bytes_of source f) ≡ Some f
unfolding frame_in
reads_its_bytes source f h = read_if source f (frame_named source (bytes_of source f)) (named_back source f.turn f.said h.0 h.1) (there source f.said h.1)
