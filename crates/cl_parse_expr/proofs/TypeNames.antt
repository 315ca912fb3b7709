-- Types: what is read is spelled so, and what is spelled so is read.
use Rattle.std.proofs.Common.{◌≡◌, ℕ, zero, suc, ◌+◌, ◌<◌, ◌≤◌, List, [], ◌∷◌, ◌++◌, length, refl, subst, sym, ap, ◌∙◌, arith, Bool, true, false, ◌&&◌, cond, Option, Some, None, inl, inr, ◌⊎◌}
use Rattle.cl_tree.specs.declared.token.Mark.TheVariants as mark
use Rattle.cl_tree.specs.declared.grammar.Base.{Base}
use Rattle.cl_tree.specs.declared.grammar.Base.TheVariants as base
use Rattle.cl_tree.specs.declared.grammar.Keyword.{Keyword}
use Rattle.cl_tree.specs.declared.grammar.Keyword.TheVariants as key
use Rattle.cl_tree.specs.declared.grammar.Sign.{Sign}
use Rattle.cl_tree.specs.declared.grammar.Sign.TheVariants as sign
use Rattle.cl_tree.specs.declared.grammar.Terminal.{Terminal}
use Rattle.cl_tree.specs.declared.tree.CType.{CType, CType-F, out-CType, roll-CType, ind-CType, map-CType, out-roll-CType, roll-out-CType, fold_out-CType}
use Rattle.cl_tree.specs.declared.tree.CType.TheOpen as layer
use Rattle.cl_tree.specs.declared.tree.CType.TheVariants as ctype
use Rattle.cl_tree.specs.declared.tree.CType.TheVariants.{outs-Void, outs-Integer, outs-Struct, outs-Array, outs-Pointer, outs-Floating, rolls-Void, rolls-Integer, rolls-Struct, rolls-Array, rolls-Pointer, rolls-Floating}
use Rattle.cl_tree.specs.Words.{Word}
use Rattle.cl_tree.specs.Spelling.{Spelling, put_on, put, key_on, Fits, Reads, TypeShape, type_step, type_shape, plain_type, is_empty, base_on, stars_on, Holder, star, floating, other, holder, star_lines, floating_lines, other_lines}
use Rattle.cl_parse_expr.specs.declared.cursor.Fixed.{Fixed}
use Rattle.cl_parse_expr.specs.declared.cursor.Fixed.TheVariants as fixed
use Rattle.cl_parse_expr.specs.Cursor.{◌>>=◌, Terminals, after, found, is_fixed, name_at, line_of}
use Rattle.cl_parse_expr.specs.Types.{key_base, base_step, base_at, type_of, pointers_at, base_second, second_at}
use Rattle.cl_parse_expr.proofs.Marks.{some_of, some_is, and_elim, and_intro, fixed_on, Stands, after_reads, found_sound, not_other, bind_some, found_ok, no_terminals, Named, name_reads, name_sound, reads_length}

-- ---- shapes of types

type_shape_is : (t : CType) → type_shape t ≡ type_step (map-CType CType TypeShape type_shape (out-CType t))
unfolding type_shape
type_shape_is t = fold_out-CType TypeShape type_step t

type_made : (t : CType) (x : CType-F CType) → out-CType t ≡ x → type_shape t ≡ type_step (map-CType CType TypeShape type_shape x)
type_made t x e = type_shape_is t ∙ ap (λ (y : CType-F CType). type_step (map-CType CType TypeShape type_shape y)) e

pub plain_is : (b : Base) → type_shape (type_of b) ≡ plain_type b
plain_is base.Void = type_made ctype.Void layer.Void outs-Void
plain_is (base.Kind k) = type_made (ctype.Integer k) (layer.Integer k) (outs-Integer k)
plain_is base.Real = type_made ctype.Floating layer.Floating outs-Floating
plain_is (base.Tag n) = type_made (ctype.Struct n) (layer.Struct n) (outs-Struct n)

-- a base with stars, and sizes behind
abbrev pub shape_of : Base → ℕ → List ℕ → TypeShape
shape_of b n ds = record { base = b; stars = n; dims = ds; proper = true }

pub pointer_is : (t : CType) (b : Base) (n : ℕ) → type_shape t ≡ shape_of b n [] → type_shape (ctype.Pointer t) ≡ shape_of b (suc n) []
pointer_is t b n e = type_made (ctype.Pointer t) (layer.Pointer t) (outs-Pointer t) ∙ ap (λ (y : TypeShape). type_step (layer.Pointer y)) e

pub array_is : (t : CType) (b : Base) (n d : ℕ) (ds : List ℕ) → type_shape t ≡ shape_of b n ds → type_shape (ctype.Array t d) ≡ shape_of b n (d ∷ ds)
array_is t b n d ds e = type_made (ctype.Array t d) (layer.Array t d) (outs-Array t d) ∙ ap (λ (y : TypeShape). type_step (layer.Array y d)) e

abbrev pub pointed : CType → ℕ → CType
pointed t zero = t
pointed t (suc n) = ctype.Pointer (pointed t n)

abbrev pub arrayed : CType → List ℕ → CType
arrayed t [] = t
arrayed t (d ∷ ds) = ctype.Array (arrayed t ds) d

pub pointed_is : (b : Base) (n : ℕ) → type_shape (pointed (type_of b) n) ≡ shape_of b n []
pointed_is b zero = plain_is b
pointed_is b (suc n) = pointer_is (pointed (type_of b) n) b n (pointed_is b n)

pub arrayed_is : (t : CType) (b : Base) (n : ℕ) (ds : List ℕ) → type_shape t ≡ shape_of b n [] → type_shape (arrayed t ds) ≡ shape_of b n ds
arrayed_is t b n [] e = e
arrayed_is t b n (d ∷ ds) e = array_is (arrayed t ds) b n d ds (arrayed_is t b n ds e)

pub pointed_more : (t : CType) (n : ℕ) → pointed (ctype.Pointer t) n ≡ ctype.Pointer (pointed t n)
pointed_more t zero = refl
pointed_more t (suc n) = ap (λ (y : CType). ctype.Pointer y) (pointed_more t n)

-- a well-formed type is made of its base, stars and sizes
abbrev pub made_of : TypeShape → CType
made_of s = arrayed (pointed (type_of s.base) s.stars) s.dims

abbrev IsMade : CType → Type 0
IsMade t = (type_shape t).proper ≡ true → made_of (type_shape t) ≡ t

pub no_dims : (ds : List ℕ) → is_empty ds ≡ true → ds ≡ []
no_dims [] e = refl
no_dims (d ∷ ds) e = absurd cc

made_step : (y : CType-F ((t : CType) × IsMade t)) → IsMade (roll-CType (map-CType ((t : CType) × IsMade t) CType (λ t. t.0) y))
made_step layer.Void h = ap made_of (type_made _ layer.Void (out-roll-CType layer.Void)) ∙ sym rolls-Void
made_step (layer.Integer k) h = ap made_of (type_made _ (layer.Integer k) (out-roll-CType (layer.Integer k))) ∙ sym (rolls-Integer k)
made_step (layer.Struct n) h = ap made_of (type_made _ (layer.Struct n) (out-roll-CType (layer.Struct n))) ∙ sym (rolls-Struct n)
made_step layer.Floating h = ap made_of (type_made _ layer.Floating (out-roll-CType layer.Floating)) ∙ sym rolls-Floating
made_step (layer.Array t d) h =
    let e = type_made (roll-CType (layer.Array t.0 d)) (layer.Array t.0 d) (out-roll-CType (layer.Array t.0 d)) in
    let p : (type_shape t.0).proper ≡ true = subst (λ (y : TypeShape). y.proper ≡ true) e h in
    ap made_of e ∙ ap (λ (y : CType). ctype.Array y d) (t.1 p) ∙ sym (rolls-Array t.0 d)
made_step (layer.Pointer t) h =
    let e = type_made (roll-CType (layer.Pointer t.0)) (layer.Pointer t.0) (out-roll-CType (layer.Pointer t.0)) in
    let p = and_elim _ _ (subst (λ (y : TypeShape). y.proper ≡ true) e h) in
    let f : (type_shape t.0).dims ≡ [] = no_dims (type_shape t.0).dims p.0 in
    let g : pointed (type_of (type_shape t.0).base) (type_shape t.0).stars ≡ t.0 = ap (λ (ds : List ℕ). arrayed (pointed (type_of (type_shape t.0).base) (type_shape t.0).stars) ds) (sym f) ∙ t.1 p.1 in
    ap made_of e ∙ ap (λ (y : CType). ctype.Pointer y) g ∙ sym (rolls-Pointer t.0)

pub type_is_made : (t : CType) → IsMade t
type_is_made = ind-CType IsMade (λ x y q. subst (λ (z : CType-F CType). IsMade (roll-CType z)) q (made_step y))

-- ---- the base

base_found : (l : ℕ) (s : Sign) (ts : Terminals) (x : Base × ℕ × Terminals) → base_step l s ts ≡ Some x → (lines : List ℕ) (ms : Spelling) (t : Terminal) (rest : Terminals) → t.what ≡ s → t.line ≡ l → Fits lines x.1 → Reads ms x.2 rest → Reads (base_on lines x.0 ms) (t ∷ ts) rest
base_found l (sign.Kind k) ts x e lines ms t rest w a fits reads =
    let z = some_is (base.Kind k, l, ts) x e in
    subst (λ (y : Base × ℕ × Terminals). Fits lines y.1 → Reads ms y.2 rest → Reads (base_on lines y.0 ms) (t ∷ ts) rest) z
    (λ f r. (w, subst (λ (y : ℕ). Fits lines y) (sym a) f, r)) fits reads
base_found l sign.Real ts x e lines ms t rest w a fits reads =
    let z = some_is (base.Real, l, ts) x e in
    subst (λ (y : Base × ℕ × Terminals). Fits lines y.1 → Reads ms y.2 rest → Reads (base_on lines y.0 ms) (t ∷ ts) rest) z
    (λ f r. (w, subst (λ (y : ℕ). Fits lines y) (sym a) f, r)) fits reads
base_found l (sign.Key key.Void) ts x e lines ms t rest w a fits reads =
    let z = some_is (base.Void, l, ts) x e in
    subst (λ (y : Base × ℕ × Terminals). Fits lines y.1 → Reads ms y.2 rest → Reads (base_on lines y.0 ms) (t ∷ ts) rest) z
    (λ f r. (w, subst (λ (y : ℕ). Fits lines y) (sym a) f, r)) fits reads
base_found l (sign.Key key.Struct) ts x e lines ms t rest w a fits reads =
    let n = bind_some (name_at ts) (λ n. Some (base.Tag n.0, l, n.2)) x e in
    let z = some_is (base.Tag n.0.0, l, n.0.2) x n.2 in
    subst (λ (y : Base × ℕ × Terminals). Fits lines y.1 → Reads ms y.2 rest → Reads (base_on lines y.0 ms) (t ∷ ts) rest) z
    (λ f r. (w, subst (λ (y : ℕ). Fits lines y) (sym a) f, name_sound [] ms ts rest n.0 n.1 tt r)) fits reads
base_found l _ ts x e lines ms t rest w a fits reads = absurd cc

pub base_sound : (ts : Terminals) (x : Base × ℕ × Terminals) → base_at ts ≡ Some x → (lines : List ℕ) (ms : Spelling) (rest : Terminals) → Fits lines x.1 → Reads ms x.2 rest → Reads (base_on lines x.0 ms) ts rest
unfolding base_at
base_sound [] x e lines ms rest fits reads = absurd cc
base_sound (t ∷ ts) x e lines ms rest fits reads = base_found t.line t.what ts x e lines ms t rest refl refl fits reads

-- a base stands at the front, with its line and what follows
pub record Based (lines : List ℕ) (b : Base) (ms : Spelling) (ts rest : Terminals) : Type 0 where
  pub line : ℕ
  pub next : Terminals
  pub fits : Fits lines line
  pub found : base_at ts ≡ Some (b, line, next)
  pub reads : Reads ms next rest
  pub less : length next < length ts
  pub first : line ≡ line_of ts

pub base_reads : (lines : List ℕ) (b : Base) (ms : Spelling) (ts rest : Terminals) → Reads (base_on lines b ms) ts rest → Based lines b ms ts rest
unfolding base_at
base_reads lines base.Void ms [] rest h = absurd h
base_reads lines (base.Kind k) ms [] rest h = absurd h
base_reads lines base.Real ms [] rest h = absurd h
base_reads lines (base.Tag n) ms [] rest h = absurd h
base_reads lines base.Void ms (t ∷ ts) rest h = record { line = t.line; next = ts; fits = h.1; found = rw h.0 refl; reads = h.2; less = omega arith; first = refl }
base_reads lines (base.Kind k) ms (t ∷ ts) rest h = record { line = t.line; next = ts; fits = h.1; found = rw h.0 refl; reads = h.2; less = omega arith; first = refl }
base_reads lines base.Real ms (t ∷ ts) rest h = record { line = t.line; next = ts; fits = h.1; found = rw h.0 refl; reads = h.2; less = omega arith; first = refl }
base_reads lines (base.Tag n) ms (t ∷ ts) rest h =
    let a = name_reads [] n ms ts rest h.2 in
    let less = a.less in
    record { line = t.line; next = a.next; fits = h.1; found = rw (h.0, a.found) refl; reads = a.reads; less = omega arith; first = refl }

-- what begins no type
abbrev pub begins_type : Sign → Bool
begins_type (sign.Kind k) = true
begins_type sign.Real = true
begins_type (sign.Key key.Void) = true
begins_type (sign.Key key.Struct) = true
begins_type _ = false

no_type_step : (l : ℕ) (s : Sign) (ts : Terminals) → begins_type s ≡ false → base_step l s ts ≡ None
no_type_step l (sign.Kind k) ts e = absurd cc
no_type_step l sign.Real ts e = absurd cc
no_type_step l (sign.Key key.Void) ts e = absurd cc
no_type_step l (sign.Key key.Struct) ts e = absurd cc
no_type_step l _ ts e = refl

pub no_type : (t : Terminal) (ts : Terminals) → begins_type t.what ≡ false → base_at (t ∷ ts) ≡ None
unfolding base_at
no_type t ts e = no_type_step t.line t.what ts e

-- ---- stars

abbrev pub asterisk : Fixed
asterisk = fixed.Mark mark.Star

-- which of three lines is the second one
abbrev pub second_line : Holder → ℕ → ℕ → ℕ → ℕ
second_line star s f o = s
second_line floating s f o = f
second_line other s f o = o

pub star_fits : (h : Holder) (s f o : ℕ) → Fits (star_lines h (second_line h s f o)) s
star_fits star s f o = (refl, tt)
star_fits floating s f o = tt
star_fits other s f o = tt

pub floating_fits : (h : Holder) (s f o : ℕ) → Fits (floating_lines h (second_line h s f o)) f
floating_fits star s f o = tt
floating_fits floating s f o = (refl, tt)
floating_fits other s f o = tt

pub other_fits : (h : Holder) (s f o : ℕ) → Fits (other_lines h (second_line h s f o)) o
other_fits star s f o = tt
other_fits floating s f o = tt
other_fits other s f o = (refl, tt)

pub second_back : (n : ℕ) (b : Base) (second s f o : ℕ) → (0 < n → Fits (star_lines (holder n b) second) s) → Fits (floating_lines (holder n b) second) f → Fits (other_lines (holder n b) second) o → second_line (holder n b) s f o ≡ second
second_back (suc n) b second s f o h g k = (h (omega arith)).0
second_back zero base.Void second s f o h g k = k.0
second_back zero (base.Kind i) second s f o h g k = k.0
second_back zero base.Real second s f o h g k = g.0
second_back zero (base.Tag i) second s f o h g k = k.0

base_second_is : (b : Base) (s f o : ℕ) → base_second b f o ≡ second_line (holder zero b) s f o
base_second_is base.Void s f o = refl
base_second_is (base.Kind k) s f o = refl
base_second_is base.Real s f o = refl
base_second_is (base.Tag n) s f o = refl

abbrev pub IsSecond : Base → ℕ → Terminals → Type 0
IsSecond b n ts = (f o : ℕ) → second_at b f o ts ≡ second_line (holder n b) (line_of ts) f o

second_none : (b : Base) (ts : Terminals) → after asterisk ts ≡ None → IsSecond b zero ts
unfolding second_at
second_none b ts e f o = rw e (base_second_is b (line_of ts) f o)

second_some : (b : Base) (n : ℕ) (ts : Terminals) (x : ℕ × Terminals) → after asterisk ts ≡ Some x → x.0 ≡ line_of ts → IsSecond b (suc n) ts
unfolding second_at
second_some b n ts x e q f o = rw e q

after_line_step : (f : Fixed) (t : Terminal) (ts : Terminals) (x : ℕ × Terminals) (b : Bool) → is_fixed f t.what ≡ b → cond b (some_of {A = ℕ × Terminals} (t.line, ts)) None ≡ Some x → (x.0 ≡ t.line) × (x.1 ≡ ts)
after_line_step f t ts x true e g = let z = some_is (t.line, ts) x g in (sym (ap (λ (p : ℕ × Terminals). p.0) z), sym (ap (λ (p : ℕ × Terminals). p.1) z))
after_line_step f t ts x false e g = absurd cc

pub after_line : (f : Fixed) (ts : Terminals) (x : ℕ × Terminals) → after f ts ≡ Some x → (x.0 ≡ line_of ts) × (length ts ≡ suc (length x.1))
unfolding after
after_line f [] x e = absurd cc
after_line f (t ∷ ts) x e = let a = after_line_step f t ts x (is_fixed f t.what) refl e in (a.0, ap (λ (y : Terminals). suc (length y)) (sym a.1))

-- what was read behind a base
pub record Pointed (b : Base) (k : ℕ) (ts : Terminals) (p : CType × Terminals) : Type 0 where
  pub count : ℕ
  pub shape : type_shape p.0 ≡ shape_of b (count + k) []
  pub reads : (lines : List ℕ) (ms : Spelling) (rest : Terminals) → Fits lines (line_of ts) → Reads ms p.1 rest → Reads (stars_on lines count ms) ts rest
  pub second : IsSecond b count ts

no_stars : (b : Base) (k : ℕ) (t : CType) (ts : Terminals) → type_shape t ≡ shape_of b k [] → after asterisk ts ≡ None → Pointed b k ts (t, ts)
no_stars b k t ts e f = record { count = zero; shape = let z : zero + k ≡ k = omega arith in rw z e; reads = λ lines ms rest fits r. r; second = second_none b ts f }

pub pointers_sound : (m : ℕ) (b : Base) (k : ℕ) (t : CType) (ts : Terminals) → length ts ≤ m → type_shape t ≡ shape_of b k [] → Pointed b k ts (pointers_at m t ts)
unfolding pointers_at
pointers_sound zero b k t [] le e = no_stars b k t [] e (no_terminals asterisk)
pointers_sound zero b k t (p ∷ ts) le e = absurd (omega arith)
pointers_sound (suc m) b k t ts le e =
    elim (found_ok (after asterisk ts) (λ x. pointers_at m (ctype.Pointer t) x.1) (t, ts) _ refl) [
      | inl h ↦ subst (Pointed b k ts) h.1 (no_stars b k t ts e h.0)
      | inr h ↦
          let a = after_line asterisk ts h.0 h.1 in
          let less = a.1 in
          let r = pointers_sound m b (suc k) (ctype.Pointer t) h.0.1 (omega arith) (pointer_is t b k e) in
          subst (Pointed b k ts) h.2 (record {
            count = suc r.count;
            shape = let z : suc r.count + k ≡ r.count + suc k = omega arith in rw z r.shape;
            reads = λ lines ms rest fits reads. found_sound asterisk lines (stars_on [] r.count ms) ts rest h.0 h.1 (subst (λ (y : ℕ). Fits lines y) (sym a.0) fits) (r.reads [] ms rest tt reads);
            second = second_some b r.count ts h.0 h.1 a.0;
          })
    ]

-- what is spelled behind a base
pub record Starred (b : Base) (lines : List ℕ) (n m : ℕ) (t : CType) (ms : Spelling) (ts rest : Terminals) : Type 0 where
  pub next : Terminals
  pub found : pointers_at m t ts ≡ (pointed t n, next)
  pub reads : Reads ms next rest
  pub fits : 0 < n → Fits lines (line_of ts)
  pub second : IsSecond b n ts
  pub less : length next ≤ length ts

abbrev pub NoStar : Spelling → Terminals → Type 0
NoStar ms rest = (ts : Terminals) → Reads ms ts rest → after asterisk ts ≡ None

pointers_stop : (m : ℕ) (t : CType) (ts : Terminals) → after asterisk ts ≡ None → pointers_at m t ts ≡ (t, ts)
unfolding pointers_at
pointers_stop zero t ts e = refl
pointers_stop (suc m) t ts e = rw e refl

pub pointers_read : (m n : ℕ) (b : Base) (lines : List ℕ) (t : CType) (ms : Spelling) (ts rest : Terminals) → length ts ≤ m → NoStar ms rest → Reads (stars_on lines n ms) ts rest → Starred b lines n m t ms ts rest
unfolding pointers_at
pointers_read m zero b lines t ms ts rest le none h =
    let e = none ts h in
    record { next = ts; found = pointers_stop m t ts e; reads = h; fits = λ f. absurd (omega arith); second = second_none b ts e; less = omega arith }
pointers_read zero (suc n) b lines t ms ts rest le none h = let a = after_reads asterisk lines (stars_on [] n ms) ts rest h in let l = a.less in absurd (omega arith)
pointers_read (suc m) (suc n) b lines t ms ts rest le none h =
    let a = after_reads asterisk lines (stars_on [] n ms) ts rest h in
    let l = a.less in
    let q = after_line asterisk ts (a.line, a.next) a.found in
    let r = pointers_read m n b [] (ctype.Pointer t) ms a.next rest (omega arith) none a.reads in
    let s = r.less in
    record {
      next = r.next;
      found = rw a.found (r.found ∙ ap (λ (y : CType). (y, r.next)) (pointed_more t n));
      reads = r.reads;
      fits = λ f. subst (λ (y : ℕ). Fits lines y) q.0 a.fits;
      second = second_some b n ts (a.line, a.next) a.found q.0;
      less = omega arith;
    }
