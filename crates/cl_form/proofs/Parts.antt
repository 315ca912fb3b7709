-- What is found in texts and items is there, and what is there is found.
use Rattle.std.proofs.Common.{◌≡◌, ℕ, ◌-◌, List, [], ◌∷◌, ◌++◌, length, take, drop, refl, subst, sym, ap, ◌∙◌, arith, Bool, true, false, not, ◌&&◌, ◌==◌, Option, Some, None, is_none, length-append, bytes_eq, codes, eqb-true, eq-eqb}
use Rattle.std.proofs.lemmas.Slice.Eq.{bytes_eq-Decides}
use Rattle.std.proofs.lemmas.List.{take-append-drop}
use Rattle.std.proofs.Math.Seq.{take-append_seam, drop-append_seam}
use Rattle.cl_tree.specs.declared.kinds.IntKind.{IntKind}
use Rattle.cl_tree.specs.declared.kinds.IntKind.TheVariants.{I8, U8, I16, U16, I32, U32, Long, ULong, LLong, ULLong}
use Rattle.cl_tree.specs.declared.token.Pragma.TheVariants.{Def, Next, Begin, End}
use Rattle.cl_tree.specs.declared.tree.CType.{CType, CType-F, out-CType, roll-CType, roll-out-CType}
use Rattle.cl_tree.specs.declared.tree.CType.TheOpen as ctype
use Rattle.cl_tree.specs.declared.tree.CType.TheVariants.{Integer, rolls-Integer, outs-Integer}
use Rattle.cl_tree.specs.declared.tree.Init.{Init}
use Rattle.cl_tree.specs.declared.tree.Stmt.{Stmt}
use Rattle.cl_tree.specs.declared.tree.Declarator.{Declarator}
use Rattle.cl_tree.specs.declared.tree.Item.{Item}
use Rattle.cl_tree.specs.declared.tree.Item.TheVariants.{Struct, Variables, Function, Cle}
use Rattle.cl_tree.specs.Words.{Word}
use Rattle.cl_form.specs.Form.{is_plain_text, is_level, level_text, is_int, function_item, variable_item}
use Rattle.cl_form.specs.Reading.{◌>>=◌, behind, before, checked_level, level_of, plain_rest, is_headed, is_int_layer, is_int_type, def_at, is_def, is_next, level_def, label_at, plain_name, variable_of, function_of}
use Rattle.cl_form.proofs.Steps.{and_intro, and_elim, some_of, some_is, bind_some, where_some, where_so}

-- ---- texts

pub same_is : (a b : List ℕ) → bytes_eq a b ≡ true → a ≡ b
same_is a b e = (bytes_eq-Decides a b).0 e

pub same_self : (a : List ℕ) → bytes_eq a a ≡ true
same_self a = (bytes_eq-Decides a a).1 refl

pub behind_sound : (p text r : List ℕ) → behind p text ≡ Some r → text ≡ p ++ r
unfolding behind
behind_sound p text r e =
    let w = where_some (bytes_eq (take (length p) text) p) (drop (length p) text) r e in
    sym (take-append-drop (length p) text) ∙ ap (λ (y : List ℕ). y ++ drop (length p) text) (same_is _ _ w.0) ∙ ap (λ (y : List ℕ). p ++ y) w.1

pub behind_self : (p r : List ℕ) → behind p (p ++ r) ≡ Some r
unfolding behind
behind_self p r =
    let e : bytes_eq (take (length p) (p ++ r)) p ≡ true = (bytes_eq-Decides (take (length p) (p ++ r)) p).1 (take-append_seam p r) in
    rw (e, drop-append_seam p r) refl

pub before_sound : (p text r : List ℕ) → before p text ≡ Some r → text ≡ r ++ p
unfolding before
before_sound p text r e =
    let n : ℕ = length text - length p in
    let w = where_some (bytes_eq (drop n text) p) (take n text) r e in
    sym (take-append-drop n text) ∙ ap (λ (y : List ℕ). take n text ++ y) (same_is _ _ w.0) ∙ ap (λ (y : List ℕ). y ++ p) w.1

pub before_self : (p r : List ℕ) → before p (r ++ p) ≡ Some r
unfolding before
before_self p r =
    let n : length (r ++ p) - length p ≡ length r = omega (arith, length-append r p) in
    let e : bytes_eq (drop (length r) (r ++ p)) p ≡ true = (bytes_eq-Decides (drop (length r) (r ++ p)) p).1 (drop-append_seam r p) in
    rw (n, e, take-append_seam r p) refl

abbrev opening : List ℕ
opening = codes "{\"level\":\""

abbrev closing : List ℕ
closing = codes "\"}"

pub level_sound : (text level : List ℕ) → level_of text ≡ Some level → (text ≡ level_text level) × (is_level level ≡ true)
unfolding level_of level_text
level_sound text level e =
    let a = bind_some (behind opening text) (λ rest. before closing rest >>= checked_level) level e in
    let b = bind_some (before closing a.0) checked_level level a.2 in
    let w = where_some (is_level b.0) b.0 level b.2 in
    (behind_sound opening text a.0 a.1 ∙ ap (λ (y : List ℕ). opening ++ y) (before_sound closing a.0 b.0 b.1 ∙ ap (λ (y : List ℕ). y ++ closing) w.1), ap is_level (sym w.1) ∙ w.0)

pub level_complete : (level : List ℕ) → is_level level ≡ true → level_of (level_text level) ≡ Some level
unfolding level_of level_text
level_complete level e = rw (behind_self opening (level ++ closing), before_self closing level, e) refl

plain_sound : (head source : List ℕ) (o : Option (List ℕ)) → behind head source ≡ o → plain_rest o ≡ true → (rest : List ℕ) × (source ≡ head ++ rest) × (is_plain_text rest ≡ true)
plain_sound head source None e f = absurd cc
plain_sound head source (Some rest) e f = (rest, behind_sound head source rest e, f)

pub headed_sound : (head source : List ℕ) → is_headed head source ≡ true → (rest : List ℕ) × (source ≡ head ++ rest) × (is_plain_text rest ≡ true)
unfolding is_headed
headed_sound head source e = plain_sound head source (behind head source) refl e

pub headed_complete : (head source rest : List ℕ) → source ≡ head ++ rest → is_plain_text rest ≡ true → is_headed head source ≡ true
unfolding is_headed
headed_complete head source rest e f = rw (e, behind_self head rest) f

-- ---- items

pub def_sound : (n : ℕ) (i : Item) (x : Word × List ℕ) → def_at n i ≡ Some x → i ≡ Cle (Def x.0 x.1) n
def_sound n (Cle (Def name text) line) x e =
    let w = where_some {A = Word × List ℕ} (line == n) (name, text) x e in
    ap (λ (y : Word × List ℕ). Cle (Def y.0 y.1) line) w.1 ∙ ap (λ (m : ℕ). Cle (Def x.0 x.1) m) (eqb-true line n w.0)
def_sound n (Cle (Begin name) line) x e = absurd cc
def_sound n (Cle (End name) line) x e = absurd cc
def_sound n (Cle (Next name) line) x e = absurd cc
def_sound n (Struct name members line) x e = absurd cc
def_sound n (Variables d) x e = absurd cc
def_sound n (Function s r name v ps b l k) x e = absurd cc

pub def_complete : (n : ℕ) (name text : List ℕ) → def_at n (Cle (Def name text) n) ≡ Some (name, text)
def_complete n name text = where_so {A = Word × List ℕ} (n == n) (name, text) (eq-eqb n n refl)

pub level_def_sound : (n : ℕ) (i : Item) (x : Word × Word) → level_def n i ≡ Some x → (i ≡ Cle (Def x.0 (level_text x.1)) n) × (is_level x.1 ≡ true)
unfolding level_def
level_def_sound n i x e =
    let a = bind_some {B = Word × Word} (def_at n i) (λ y. level_of y.1 >>= λ level. some_of {A = Word × Word} (y.0, level)) x e in
    let b = bind_some {B = Word × Word} (level_of a.0.1) (λ level. some_of {A = Word × Word} (a.0.0, level)) x a.2 in
    let s = level_sound a.0.1 b.0 b.1 in
    let made : (i ≡ Cle (Def a.0.0 (level_text b.0)) n) × (is_level b.0 ≡ true) = (def_sound n i a.0 a.1 ∙ ap (λ (t : List ℕ). Cle (Def a.0.0 t) n) s.0, s.1) in
    subst (λ (y : Word × Word). (i ≡ Cle (Def y.0 (level_text y.1)) n) × (is_level y.1 ≡ true)) (some_is {A = Word × Word} (a.0.0, b.0) x b.2) made

pub level_def_complete : (n : ℕ) (name level : Word) → is_level level ≡ true → level_def n (Cle (Def name (level_text level)) n) ≡ Some (name, level)
unfolding level_def
level_def_complete n name level e = rw (eq-eqb n n refl, level_complete level e) refl

pub label_sound : (n : ℕ) (i : Item) (x : Word) → label_at n i ≡ Some x → (text : List ℕ) × (i ≡ Cle (Def x text) n)
label_sound n i x e =
    let a = bind_some (def_at n i) (λ y. some_of y.0) x e in
    (a.0.1, def_sound n i a.0 a.1 ∙ ap (λ (y : Word). Cle (Def y a.0.1) n) (some_is a.0.0 x a.2))

pub label_complete : (n : ℕ) (name text : List ℕ) → label_at n (Cle (Def name text) n) ≡ Some name
label_complete n name text = rw (eq-eqb n n refl) refl

pub is_def_true : (n : ℕ) (name text : List ℕ) (i : Item) → is_def n name text i ≡ true → i ≡ Cle (Def name text) n
is_def_true n name text (Cle (Def called given) line) e =
    let q = and_elim (line == n) (bytes_eq called name && bytes_eq given text) e in
    let r = and_elim (bytes_eq called name) (bytes_eq given text) q.1 in
    let a = eqb-true line n q.0 in
    let b = same_is called name r.0 in
    let c = same_is given text r.1 in
    cc
is_def_true n name text (Cle (Begin called) line) e = absurd cc
is_def_true n name text (Cle (End called) line) e = absurd cc
is_def_true n name text (Cle (Next called) line) e = absurd cc
is_def_true n name text (Struct called members line) e = absurd cc
is_def_true n name text (Variables d) e = absurd cc
is_def_true n name text (Function s r called v ps b l k) e = absurd cc

pub is_def_self : (n : ℕ) (name text : List ℕ) → is_def n name text (Cle (Def name text) n) ≡ true
is_def_self n name text = and_intro _ _ (eq-eqb n n refl) (and_intro _ _ (same_self name) (same_self text))

pub is_next_true : (n : ℕ) (name : List ℕ) (i : Item) → is_next n name i ≡ true → i ≡ Cle (Next name) n
is_next_true n name (Cle (Next called) line) e =
    let q = and_elim (line == n) (bytes_eq called name) e in
    let a = eqb-true line n q.0 in
    let b = same_is called name q.1 in
    cc
is_next_true n name (Cle (Begin called) line) e = absurd cc
is_next_true n name (Cle (End called) line) e = absurd cc
is_next_true n name (Cle (Def called text) line) e = absurd cc
is_next_true n name (Struct called members line) e = absurd cc
is_next_true n name (Variables d) e = absurd cc
is_next_true n name (Function s r called v ps b l k) e = absurd cc

pub is_next_self : (n : ℕ) (name : List ℕ) → is_next n name (Cle (Next name) n) ≡ true
is_next_self n name = and_intro _ _ (eq-eqb n n refl) (same_self name)

int_true : (k : IntKind) → is_int k ≡ true → k ≡ I32
int_true I32 e = refl
int_true I8 e = absurd cc
int_true U8 e = absurd cc
int_true I16 e = absurd cc
int_true U16 e = absurd cc
int_true U32 e = absurd cc
int_true Long e = absurd cc
int_true ULong e = absurd cc
int_true LLong e = absurd cc
int_true ULLong e = absurd cc

int_layer : (t : CType) (x : CType-F CType) → out-CType t ≡ x → is_int_layer x ≡ true → t ≡ Integer I32
int_layer t (ctype.Integer k) e f = sym (roll-out-CType t) ∙ ap roll-CType e ∙ rolls-Integer k ∙ ap Integer (int_true k f)
int_layer t ctype.Void e f = absurd cc
int_layer t ctype.Floating e f = absurd cc
int_layer t (ctype.Struct name) e f = absurd cc
int_layer t (ctype.Array u n) e f = absurd cc
int_layer t (ctype.Pointer u) e f = absurd cc

pub int_type_true : (t : CType) → is_int_type t ≡ true → t ≡ Integer I32
int_type_true t e = int_layer t (out-CType t) refl e

pub int_type_int : is_int_type (Integer I32) ≡ true
int_type_int = rw (outs-Integer I32) refl

none_is : (o : Option Init) → is_none o ≡ true → o ≡ None
none_is None e = refl
none_is (Some x) e = absurd cc

abbrev declarator : Word → CType → Option Init → ℕ → ℕ → Declarator
declarator n t i a c = record { name = n; ctype = t; init = i; line = a; second = c }

declarator_is : (n m : Word) (t u : CType) (i j : Option Init) (a b c e : ℕ) → n ≡ m → t ≡ u → i ≡ j → a ≡ b → c ≡ e → declarator n t i a c ≡ declarator m u j b e
declarator_is n m t u i j a b c e p q r s v = rw (p, q, r, s, v) refl

plain_sound_name : (d : Declarator) (x : Word) → plain_name d ≡ Some x → d ≡ declarator x (Integer I32) None 6 6
plain_sound_name d x e =
    let w = where_some (is_int_type d.ctype && (is_none d.init && (d.line == 6 && d.second == 6))) d.name x e in
    let q = and_elim (is_int_type d.ctype) (is_none d.init && (d.line == 6 && d.second == 6)) w.0 in
    let r = and_elim (is_none d.init) (d.line == 6 && d.second == 6) q.1 in
    let s = and_elim (d.line == 6) (d.second == 6) r.1 in
    declarator_is d.name x d.ctype (Integer I32) d.init None d.line 6 d.second 6 w.1 (int_type_true d.ctype q.0) (none_is d.init r.0) (eqb-true d.line 6 s.0) (eqb-true d.second 6 s.1)

variable_in : (s : Bool) (ds : List Declarator) (x : Word) → variable_of (Variables (record { is_static = s; names = ds })) ≡ Some x → Variables (record { is_static = s; names = ds }) ≡ variable_item x
variable_in false (d ∷ []) x e = ap (λ (y : Declarator). Variables (record { is_static = false; names = y ∷ [] })) (plain_sound_name d x e)
variable_in false [] x e = absurd cc
variable_in false (d ∷ c ∷ ds) x e = absurd cc
variable_in true ds x e = absurd cc

pub variable_sound : (i : Item) (x : Word) → variable_of i ≡ Some x → i ≡ variable_item x
variable_sound (Variables d) x e = variable_in d.is_static d.names x e
variable_sound (Cle p line) x e = absurd cc
variable_sound (Struct name members line) x e = absurd cc
variable_sound (Function s r name v ps b l k) x e = absurd cc

pub variable_complete : (x : Word) → variable_of (variable_item x) ≡ Some x
variable_complete x = rw (int_type_int) refl

pub function_sound : (i : Item) (x : Word × ℕ × List Stmt) → function_of i ≡ Some x → (line : ℕ) × (i ≡ function_item x.0 line x.1 x.2)
function_sound (Function s r name v [] (Some body) line second) x e =
    let w = where_some {A = Word × ℕ × List Stmt} (not s && (is_int_type r && v)) (name, second, body) x e in
    let q = and_elim (not s) (is_int_type r && v) w.0 in
    let t = and_elim (is_int_type r) v q.1 in
    (line, header s r v name line second body (off s q.0) (int_type_true r t.0) t.1 ∙ ap (λ (y : Word × ℕ × List Stmt). function_item y.0 line y.1 y.2) w.1)
  where
    off : (s : Bool) → not s ≡ true → s ≡ false
    off false e = refl
    off true e = absurd cc

    header : (s : Bool) (r : CType) (v : Bool) (name : Word) (line second : ℕ) (body : List Stmt) → s ≡ false → r ≡ Integer I32 → v ≡ true
        → Function s r name v [] (Some body) line second ≡ function_item name line second body
    header s r v name line second body e f g = rw (e, f, g) refl
function_sound (Function s r name v [] None line second) x e = absurd cc
function_sound (Function s r name v (p ∷ ps) None line second) x e = absurd cc
function_sound (Function s r name v (p ∷ ps) (Some body) line second) x e = absurd cc
function_sound (Variables d) x e = absurd cc
function_sound (Cle p line) x e = absurd cc
function_sound (Struct name members line) x e = absurd cc

pub function_complete : (name : Word) (line second : ℕ) (body : List Stmt) → function_of (function_item name line second body) ≡ Some (name, second, body)
function_complete name line second body = rw (int_type_int) refl
