-- All of the terminals as one item.
use Rattle.std.proofs.Common.{◌≡◌, ◌⊎◌, inl, inr, ℕ, suc, ◌^◌, ◌<◌, ◌≤◌, [], ◌∷◌, length, refl, sym, ap, subst, ◌∙◌, arith, Bool, true, false, cond, Option, Some, None, Result, Ok, Err}
use Rattle.std.specs.Prelude.{MatchResult, nat_lt}
use Rattle.std.proofs.lemmas.Bool.{ltb-true, lt-ltb}
use Rattle.cl_tree.specs.declared.kinds.IntKind.{IntKind}
use Rattle.cl_tree.specs.declared.kinds.IntKind.TheVariants as kind
use Rattle.cl_tree.specs.declared.grammar.Sign.{Sign}
use Rattle.cl_tree.specs.declared.grammar.Sign.TheVariants as sign
use Rattle.cl_tree.specs.declared.tree.Item.{Item}
use Rattle.cl_tree.specs.Words.{is_literal, comes}
use Rattle.cl_tree.specs.Spelling.{Want, is, size, Meets, Spelling, Reads, want_comes, all_come}
use Rattle.cl_tree.specs.Items.{item_spelling, is_item, is_well_formed}
use Rattle.cl_tree.specs.Reading.{IsItem, IsUnread}
use Rattle.cl_parse_expr.specs.declared.stop.Stop.{Stop}
use Rattle.cl_parse_expr.specs.declared.stop.Stop.TheVariants.{Memory, Unread}
use Rattle.cl_parse_expr.specs.Cursor.{◌>>=◌, Terminals, Gives}
use Rattle.cl_parse_expr.specs.Reading.{expr_at}
use Rattle.cl_parse_expr.proofs.Marks.{some_is, and_intro, and_elim, bind_some}
use Rattle.cl_parse_expr.proofs.Sound.{expr_sound}
use Rattle.cl_parse_expr.proofs.Complete.{expr_complete}
use Rattle.cl_parse_stmt.specs.Declaring.{init_at}
use Rattle.cl_parse_stmt.specs.Stating.{listed_of, stmt_at}
use Rattle.cl_parse_stmt.specs.Itemising.{item_of, ended, terminals_come, whole_item}
use Rattle.cl_parse_stmt.proofs.Declared.{init_sound, init_complete}
use Rattle.cl_parse_stmt.proofs.Stated.{guarded, stmt_sound, listed_of_sound}
use Rattle.cl_parse_stmt.proofs.Restated.{listed_complete}
use Rattle.cl_parse_stmt.proofs.Itemised.{Itemised, item_sound}
use Rattle.cl_parse_stmt.proofs.Reitemised.{item_read}

-- ---- what a source can bring

below : (v n : ℕ) → n ≤ 2 ^ 64 → nat_lt v n ≡ true → nat_lt v (2 ^ 64) ≡ true
below v n le e = let l = ltb-true v n e in lt-ltb v (2 ^ 64) (omega arith)

literal_fits : (v : ℕ) (k : IntKind) → is_literal v k ≡ true → nat_lt v (2 ^ 64) ≡ true
unfolding is_literal
literal_fits v kind.I8 e = below v 0 (omega arith) e
literal_fits v kind.U8 e = below v 0 (omega arith) e
literal_fits v kind.I16 e = below v 0 (omega arith) e
literal_fits v kind.U16 e = below v 0 (omega arith) e
literal_fits v kind.I32 e = below v (2 ^ 31) (omega arith) e
literal_fits v kind.U32 e = below v (2 ^ 32) (omega arith) e
literal_fits v kind.Long e = below v (2 ^ 63) (omega arith) e
literal_fits v kind.ULong e = e
literal_fits v kind.LLong e = below v (2 ^ 63) (omega arith) e
literal_fits v kind.ULLong e = e

want_same : (w : Want) (x : Sign) → Meets w x → want_comes w ≡ comes x
unfolding comes
want_same (is s) x e = ap comes (sym e)
want_same (size n) (sign.Integer v k) e = subst (λ (y : ℕ). nat_lt y (2 ^ 64) ≡ is_literal v k) e.0 (literal_fits v k e.1 ∙ sym e.1)
want_same (size n) _ e = absurd e

-- A spelling can come where its terminals can.
come_same : (ms : Spelling) (ts : Terminals) → Reads ms ts [] → all_come ms ≡ terminals_come ts
unfolding all_come
come_same [] ts h = ap terminals_come (sym h)
come_same (m ∷ ms) [] h = absurd h
come_same (m ∷ ms) (t ∷ ts) h = rw (want_same m.what t.what h.0, come_same ms ts h.2) refl

-- ---- items

well_formed : (i : Item) (ts : Terminals) → is_item i ≡ true → Reads (item_spelling i) ts [] → terminals_come ts ≡ true → is_well_formed i ≡ true
unfolding is_well_formed
well_formed i ts p h e = and_intro _ _ p (come_same (item_spelling i) ts h ∙ e)

formed : (i : Item) → is_well_formed i ≡ true → (is_item i ≡ true) × (all_come (item_spelling i) ≡ true)
unfolding is_well_formed
formed i e = and_elim (is_item i) (all_come (item_spelling i)) e

ended_ok : (i x : Item) (ts rest : Terminals) → terminals_come ts ≡ true → ended (i, rest) ≡ Some x → Itemised i ts rest → IsItem ts x
ended_ok i x ts [] p h w = subst (λ (y : Item). IsItem ts y) (some_is i x h) (record { well_formed = well_formed i ts w.proper w.reads p; reads = w.reads })
ended_ok i x ts (t ∷ rest) p h w = absurd cc

pub item_found : (n : ℕ) (ts : Terminals) (x : Item) → whole_item n ts ≡ Some x → IsItem ts x
unfolding whole_item
item_found n ts x e =
    let E = expr_at n in
    let I = init_at n (expr_at n) in
    let L = listed_of (stmt_at n E I) I in
    let sound = init_sound E (expr_sound n) n in
    let g = guarded (terminals_come ts) (item_of L I ts >>= λ i. ended i) x e in
    let b = bind_some (item_of L I ts) (λ i. ended i) x g.1 in
    ended_ok b.0.0 x ts b.0.1 g.0 b.2 (item_sound L (listed_of_sound (stmt_at n E I) (stmt_sound E (expr_sound n) I sound n) I sound) I sound ts b.0 b.1)

-- with fuel enough
pub item_whole : (n : ℕ) (ts : Terminals) (x : Item) → length ts < n → IsItem ts x → whole_item n ts ≡ Some x
unfolding whole_item
item_whole n ts x lt h =
    let all = expr_complete n in
    let inits = init_complete (expr_at n) n all n (omega arith) in
    let listed = listed_complete (expr_at n) n all (init_at n (expr_at n)) inits n (omega arith) in
    let f = formed x h.well_formed in
    let c : terminals_come ts ≡ true = sym (come_same (item_spelling x) ts h.reads) ∙ f.1 in
    let e = item_read (listed_of (stmt_at n (expr_at n) (init_at n (expr_at n))) (init_at n (expr_at n))) n listed (init_at n (expr_at n)) inits x ts [] lt (record { reads = h.reads; proper = f.0 }) in
    rw (c, e) refl

-- so it is decided whether they are an item
pub item_or_none : (ts : Terminals) → ((i : Item) × IsItem ts i) ⊎ IsUnread ts
item_or_none ts = by (whole_item (suc (length ts)) ts) refl
  where
    by : (o : Option Item) → whole_item (suc (length ts)) ts ≡ o → ((i : Item) × IsItem ts i) ⊎ IsUnread ts
    by (Some i) e = inl (i, item_found (suc (length ts)) ts i e)
    by None e = inr (λ i h. let f = item_whole (suc (length ts)) ts i (omega arith) h in cc)

pub item_one : (ts : Terminals) (x y : Item) → IsItem ts x → IsItem ts y → x ≡ y
item_one ts x y h k = some_is x y (sym (item_whole (suc (length ts)) ts x (omega arith) h) ∙ item_whole (suc (length ts)) ts y (omega arith) k)

pub item_only : (n : ℕ) (ts : Terminals) (x : Item) (r : Result Item Stop) → Gives (λ y. y) r (whole_item n ts) → length ts < n → IsItem ts x → MatchResult r (λ y. y ≡ x) (λ e. e ≡ Memory)
item_only n ts x (Ok y) g lt h = some_is y x (sym g ∙ item_whole n ts x lt h)
item_only n ts x (Err Memory) g lt h = refl
item_only n ts x (Err Unread) g lt h = let e = item_whole n ts x lt h in absurd cc
