-- Terminals against spellings.
use Rattle.std.proofs.Common.{◌≡◌, ℕ, zero, suc, ◌+◌, ◌<◌, ◌≤◌, List, [], ◌∷◌, ◌++◌, length, map, refl, subst, sym, ap, ◌∙◌, arith, Bool, true, false, ◌&&◌, cond, Option, Some, None, inl, inr, ◌⊎◌}
use denote.Enum.Bare.{same_true, true_same}
use Rattle.cl_tree.specs.contracts.token.Mark.{the_type as mark_type}
use Rattle.cl_tree.specs.contracts.grammar.Keyword.{the_type as key_type}
use Rattle.cl_tree.specs.declared.token.Mark.{Mark}
use Rattle.cl_tree.specs.declared.grammar.Keyword.{Keyword}
use Rattle.cl_tree.specs.declared.grammar.Sign.{Sign}
use Rattle.cl_tree.specs.declared.grammar.Sign.TheVariants as sign
use Rattle.cl_tree.specs.declared.grammar.Terminal.{Terminal}
use Rattle.cl_tree.specs.Words.{Word}
use Rattle.cl_tree.specs.Spelling.{Want, is, size, Wanted, Spelling, put_on, first_on, Meets, Fits, Reads}
use Rattle.cl_parse_expr.specs.declared.cursor.Fixed.{Fixed}
use Rattle.cl_parse_expr.specs.declared.cursor.Fixed.TheVariants as fixed
use Rattle.cl_parse_expr.specs.Cursor.{◌>>=◌, Terminals, same_mark, same_key, fixed_sign, is_fixed, after, found, name_step, name_at, line_of}

abbrev pub some_of : {A : Type 0} → A → Option A
some_of x = Some x

pub some_is : {A : Type 0} (x y : A) → some_of x ≡ some_of y → x ≡ y
some_is x y e = cc

pub and_intro : (a b : Bool) → a ≡ true → b ≡ true → (a && b) ≡ true
and_intro true b e f = f
and_intro false b e f = e

pub and_elim : (a b : Bool) → (a && b) ≡ true → (a ≡ true) × (b ≡ true)
and_elim true b e = (refl, e)
and_elim false b e = absurd cc

pub reads_append : (ms ns : Spelling) (ts mid rest : Terminals) → Reads ms ts mid → Reads ns mid rest → Reads (ms ++ ns) ts rest
reads_append [] ns ts mid rest e h = subst (λ (x : Terminals). Reads ns x rest) (sym e) h
reads_append (m ∷ ms) ns [] mid rest e h = absurd e
reads_append (m ∷ ms) ns (t ∷ ts) mid rest e h = (e.0, e.1, reads_append ms ns ts mid rest e.2 h)

pub reads_split : (ms ns : Spelling) (ts rest : Terminals) → Reads (ms ++ ns) ts rest → (mid : Terminals) × Reads ms ts mid × Reads ns mid rest
reads_split [] ns ts rest h = (ts, refl, h)
reads_split (m ∷ ms) ns [] rest h = absurd h
reads_split (m ∷ ms) ns (t ∷ ts) rest h =
    let r = reads_split ms ns ts rest h.2 in
    (r.0, (h.0, h.1, r.1), r.2)

pub fits_append : (ls ms : List ℕ) (line : ℕ) → Fits ls line → Fits ms line → Fits (ls ++ ms) line
fits_append [] ms line f g = g
fits_append (l ∷ ls) ms line f g = (f.0, fits_append ls ms line f.1 g)

pub fits_split : (ls ms : List ℕ) (line : ℕ) → Fits (ls ++ ms) line → Fits ls line × Fits ms line
fits_split [] ms line f = (tt, f)
fits_split (l ∷ ls) ms line f = let r = fits_split ls ms line f.1 in ((f.0, r.0), r.1)

-- Further lines of the first terminal are those on which it stands.
pub first_reads : (lines : List ℕ) (ms : Spelling) (ts rest : Terminals) → Fits lines (line_of ts) → Reads ms ts rest → Reads (first_on lines ms) ts rest
first_reads lines [] ts rest f h = h
first_reads lines (m ∷ ms) [] rest f h = absurd h
first_reads lines (m ∷ ms) (t ∷ ts) rest f h = (h.0, fits_append lines m.lines t.line f h.1, h.2)

pub reads_length : (ms : Spelling) (ts rest : Terminals) → Reads ms ts rest → length rest + length ms ≡ length ts
reads_length [] ts rest h = rw h (omega arith)
reads_length (m ∷ ms) [] rest h = absurd h
reads_length (m ∷ ms) (t ∷ ts) rest h = omega (arith, reads_length ms ts rest h.2)

mark_is : (a b : Mark) → same_mark a b ≡ true → a ≡ b
unfolding same_mark
mark_is a b e = same_true mark_type tt a b e

mark_self : (a : Mark) → same_mark a a ≡ true
unfolding same_mark
mark_self a = true_same mark_type a a refl

key_is : (a b : Keyword) → same_key a b ≡ true → a ≡ b
unfolding same_key
key_is a b e = same_true key_type tt a b e

key_self : (a : Keyword) → same_key a a ≡ true
unfolding same_key
key_self a = true_same key_type a a refl

pub fixed_self : (f : Fixed) → is_fixed f (fixed_sign f) ≡ true
fixed_self (fixed.Mark m) = mark_self m
fixed_self (fixed.Key k) = key_self k

pub is_fixed_true : (f : Fixed) (x : Sign) → is_fixed f x ≡ true → x ≡ fixed_sign f
is_fixed_true (fixed.Mark m) (sign.Mark n) e = ap (λ (y : Mark). sign.Mark y) (mark_is n m e)
is_fixed_true (fixed.Key k) (sign.Key l) e = ap (λ (y : Keyword). sign.Key y) (key_is l k e)
is_fixed_true (fixed.Mark m) _ e = absurd cc
is_fixed_true (fixed.Key k) _ e = absurd cc

-- what is wanted of a fixed terminal
abbrev pub fixed_on : List ℕ → Fixed → Spelling → Spelling
fixed_on lines f rest = put_on lines (fixed_sign f) rest

-- a fixed terminal stands at the front, with its line and what follows
pub record Stands (f : Fixed) (lines : List ℕ) (ms : Spelling) (ts rest : Terminals) : Type 0 where
  pub line : ℕ
  pub next : Terminals
  pub fits : Fits lines line
  pub found : after f ts ≡ Some (line, next)
  pub reads : Reads ms next rest
  pub less : length ts ≡ suc (length next)

-- a terminal that is wanted is found
pub after_reads : (f : Fixed) (lines : List ℕ) (ms : Spelling) (ts rest : Terminals) → Reads (fixed_on lines f ms) ts rest → Stands f lines ms ts rest
unfolding after
after_reads f lines ms [] rest h = absurd h
after_reads f lines ms (t ∷ ts) rest h =
    let e : is_fixed f t.what ≡ true = rw h.0 (fixed_self f) in
    record { line = t.line; next = ts; fits = h.1; found = rw e refl; reads = h.2; less = refl }

-- and a terminal that is found is as it is wanted
after_step : (f : Fixed) (lines : List ℕ) (ms : Spelling) (t : Terminal) (ts rest : Terminals) (line : ℕ) (next : Terminals) (b : Bool) → is_fixed f t.what ≡ b → cond b (some_of {A = ℕ × Terminals} (t.line, ts)) None ≡ Some (line, next) → Fits lines line → Reads ms next rest → Reads (fixed_on lines f ms) (t ∷ ts) rest
after_step f lines ms t ts rest line next true e g fits reads =
    let x = some_is (t.line, ts) (line, next) g in
    let l : t.line ≡ line = ap (λ (p : ℕ × Terminals). p.0) x in
    let n : ts ≡ next = ap (λ (p : ℕ × Terminals). p.1) x in
    (is_fixed_true f t.what e, subst (λ (y : ℕ). Fits lines y) (sym l) fits, rw n reads)
after_step f lines ms t ts rest line next false e g fits reads = absurd cc

pub after_sound : (f : Fixed) (lines : List ℕ) (ms : Spelling) (ts rest : Terminals) (line : ℕ) (next : Terminals) → after f ts ≡ Some (line, next) → Fits lines line → Reads ms next rest → Reads (fixed_on lines f ms) ts rest
unfolding after
after_sound f lines ms [] rest line next e fits reads = absurd cc
after_sound f lines ms (t ∷ ts) rest line next e fits reads = after_step f lines ms t ts rest line next (is_fixed f t.what) refl e fits reads

-- where the found pair is one
pub found_sound : (f : Fixed) (lines : List ℕ) (ms : Spelling) (ts rest : Terminals) (x : ℕ × Terminals) → after f ts ≡ Some x → Fits lines x.0 → Reads ms x.1 rest → Reads (fixed_on lines f ms) ts rest
found_sound f lines ms ts rest x e fits reads = after_sound f lines ms ts rest x.0 x.1 e fits reads

pub no_terminal : (f : Fixed) (ts : Terminals) (t : Terminal) → is_fixed f t.what ≡ false → after f (t ∷ ts) ≡ None
unfolding after
no_terminal f ts t e = rw e refl

pub no_terminals : (f : Fixed) → after f [] ≡ None
unfolding after
no_terminals f = refl

-- another terminal stands at the front
pub not_other : (s : Sign) (f : Fixed) (lines : List ℕ) (ms : Spelling) (ts rest : Terminals) → is_fixed f s ≡ false → Reads (put_on lines s ms) ts rest → after f ts ≡ None
not_other s f lines ms [] rest e h = absurd h
not_other s f lines ms (t ∷ ts) rest e h = no_terminal f ts t (rw h.0 e)

-- the value of a step that did not fail
pub bind_some : {A B : Type 0} (r : Option A) (f : A → Option B) (y : B) → (r >>= f) ≡ Some y → (x : A) × (r ≡ Some x) × (f x ≡ Some y)
bind_some (Some x) f y e = (x, refl, e)
bind_some None f y e = absurd cc

-- one way or the other
pub found_ok : {A B : Type 0} (o : Option A) (f : A → B) (b y : B) → found o f b ≡ y → ((o ≡ None) × (b ≡ y)) ⊎ ((x : A) × (o ≡ Some x) × (f x ≡ y))
found_ok None f b y e = inl (refl, e)
found_ok (Some x) f b y e = inr (x, refl, e)

-- ---- names

pub record Named (lines : List ℕ) (name : Word) (ms : Spelling) (ts rest : Terminals) : Type 0 where
  pub line : ℕ
  pub next : Terminals
  pub fits : Fits lines line
  pub found : name_at ts ≡ Some (name, line, next)
  pub reads : Reads ms next rest
  pub less : length ts ≡ suc (length next)

pub name_reads : (lines : List ℕ) (name : Word) (ms : Spelling) (ts rest : Terminals) → Reads (put_on lines (sign.Name name) ms) ts rest → Named lines name ms ts rest
unfolding name_at
name_reads lines name ms [] rest h = absurd h
name_reads lines name ms (t ∷ ts) rest h = record { line = t.line; next = ts; fits = h.1; found = rw h.0 refl; reads = h.2; less = refl }

-- a name at the front, as it was found
name_found : (line : ℕ) (s : Sign) (ts : Terminals) (x : Word × ℕ × Terminals) → name_step line s ts ≡ Some x → (s ≡ sign.Name x.0) × (line ≡ x.1) × (ts ≡ x.2)
name_found line (sign.Name n) ts x e =
    let z = some_is (n, line, ts) x e in
    (ap (λ (y : Word × ℕ × Terminals). sign.Name y.0) z, ap (λ (y : Word × ℕ × Terminals). y.1) z, ap (λ (y : Word × ℕ × Terminals). y.2) z)
name_found line _ ts x e = absurd cc

pub name_sound : (lines : List ℕ) (ms : Spelling) (ts rest : Terminals) (x : Word × ℕ × Terminals) → name_at ts ≡ Some x → Fits lines x.1 → Reads ms x.2 rest → Reads (put_on lines (sign.Name x.0) ms) ts rest
unfolding name_at
name_sound lines ms [] rest x e fits reads = absurd cc
name_sound lines ms (t ∷ ts) rest x e fits reads =
    let f = name_found t.line t.what ts x e in
    (f.0, subst (λ (y : ℕ). Fits lines y) (sym f.1) fits, subst (λ (y : Terminals). Reads ms y rest) (sym f.2) reads)
