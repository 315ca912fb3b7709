-- The spelling of a program is cut back into its items, and the terminals of read items are that spelling.
use Rattle.std.proofs.Common.{◌≡◌, ◌⊎◌, inl, inr, ℕ, List, [], ◌∷◌, ◌++◌, map, refl, subst, sym, ap, ◌∙◌, Bool, true, false, ◌&&◌, ◌||◌, if◌then◌else◌, Option, Some, None, append_assoc}
use Rattle.std.specs.List.{flat_map}
use Rattle.std.proofs.lemmas.List.{append-nil}
use Rattle.cl_tree.specs.declared.token.Mark.TheVariants as mark
use Rattle.cl_tree.specs.declared.token.Pragma.{Pragma}
use Rattle.cl_tree.specs.declared.grammar.Keyword.TheVariants as key
use Rattle.cl_tree.specs.declared.grammar.Sign.{Sign}
use Rattle.cl_tree.specs.declared.grammar.Sign.TheVariants as sign
use Rattle.cl_tree.specs.declared.grammar.Terminal.{Terminal}
use Rattle.cl_tree.specs.declared.tree.CType.{CType}
use Rattle.cl_tree.specs.declared.tree.Declarator.{Declarator}
use Rattle.cl_tree.specs.declared.tree.Declaration.{Declaration}
use Rattle.cl_tree.specs.declared.tree.Stmt.{Stmt}
use Rattle.cl_tree.specs.declared.tree.Item.{Item}
use Rattle.cl_tree.specs.declared.tree.Item.TheVariants as item
use Rattle.cl_tree.specs.declared.tree.Program.{Program}
use Rattle.cl_tree.specs.Spelling.{Want, is, size, Wanted, Spelling, put_on, put, put_mark, put_at, mark_on, key_on, commas, is_empty, Meets, Reads, type_name, held_by, floating_lines, other_lines}
use Rattle.cl_tree.specs.Statements.{declarator, declaration, base_lines, first_lines, base_of, common_base, stmt_shape, statements}
use Rattle.cl_tree.specs.Items.{member, parameter, parameters, body_then, named_function, function, item_spelling, is_well_formed, WellFormed, program_spelling, Bracket, round, brace, body, Effect, pragma_line, effect, open_after, ends_item, is_close, is_pragma_first, ends_here, joined, cut_from, cut}
use Rattle.cl_tree.specs.Reading.{IsItem, AreItems}
use Rattle.cl_parse_expr.specs.Cursor.{Terminals}
use Rattle.cl_parse_expr.proofs.Marks.{reads_split, reads_append}
use Rattle.cl_parse.proofs.Cut.{all_closed}
use Rattle.cl_parse.proofs.Within.{want_effect, want_closes, is_cle, Ends, plain_step, open_step, close_step, semicolon_step, Through, in_brackets, base_goes, type_goes, Throughs, commas_through}
use Rattle.cl_parse.proofs.WithinStatement.{Held, Helds, held_append, held_semicolon, held_list, all_held, declarator_through, names_through, declaration_through}

-- ---- what an item is spelled by

done : (a : Bool) → Ends [] a (put_mark mark.Semicolon [])
done a = (refl, refl, refl)

member_held : (d : Declaration) → Held (member d)
member_held d b bs a rest k = base_goes (base_lines d.names) (common_base d.names) (commas (map declarator d.names) ++ put_mark mark.Semicolon []) rest (b ∷ bs) a (λ c. held_semicolon (commas (map declarator d.names)) (names_through d.names) b bs c rest k)

members_held : (ds : List Declaration) → Held (flat_map member ds)
members_held [] = λ b bs a rest k. k a
members_held (d ∷ ds) = held_append (member d) (flat_map member ds) (member_held d) (members_held ds)

parameter_through : (d : Declarator) → Through (parameter d)
parameter_through d bs a rest k = base_goes (floating_lines (held_by d.ctype) d.second) (base_of d) (declarator d) rest bs a (λ c. declarator_through d bs c rest k)

all_parameters : (ds : List Declarator) → Throughs (map parameter ds)
all_parameters [] = tt
all_parameters (d ∷ ds) = (parameter_through d, all_parameters ds)

body_ends : (b : Option (List Stmt)) → Ends [] true (body_then b ++ [])
body_ends None = (refl, refl, refl)
body_ends (Some ss) =
    open_step [] mark.OpenBrace body (statements (map stmt_shape ss) ++ []) [] true refl
    (subst (λ (y : Spelling). Ends (body ∷ []) false y) (sym (append_assoc (flat_map (λ s. s) (map (λ s. s.spelling) (map stmt_shape ss))) (put_mark mark.CloseBrace []) []))
    (held_list (map (λ s. s.spelling) (map stmt_shape ss)) (all_held ss) body [] false (put_mark mark.CloseBrace []) (λ c. (refl, refl, refl))))

parameters_go : (void_word : Bool) (params : List Declarator) (ms rest : Spelling) (bs : List Bracket) (a : Bool) → ((c : Bool) → Ends bs c (ms ++ rest)) → Ends bs a (parameters void_word params ms ++ rest)
parameters_go true params ms rest bs a k = plain_step [] (sign.Key key.Void) (ms ++ rest) bs a refl (k false)
parameters_go false params ms rest bs a k =
    subst (λ (y : Spelling). Ends bs a y) (sym (append_assoc (commas (map parameter params)) ms rest)) (commas_through (map parameter params) (all_parameters params) bs a (ms ++ rest) k)

function_ends : (is_static : Bool) (lines : List ℕ) (result : CType) (second : ℕ) (ms : Spelling) → ((c : Bool) → Ends [] c (ms ++ [])) → Ends [] false (function is_static lines result second ms ++ [])
function_ends true lines result second ms k = plain_step lines (sign.Key key.Static) _ [] false refl (type_goes [] result second ms [] [] false k)
function_ends false lines result second ms k = type_goes lines result second ms [] [] false k

-- a pragma line, or terminals of which the last ends the item
abbrev Form : Item → Type 0
Form i = ((p : Pragma) × (line : ℕ) × (i ≡ item.Cle p line)) ⊎ Ends [] false (item_spelling i ++ [])

form : (i : Item) → Form i
unfolding item_spelling
form (item.Struct name members line) = inr (plain_step (line ∷ flat_map (λ d. first_lines d.names) members) (sign.Key key.Struct) (put (sign.Name name) (put_mark mark.OpenBrace (flat_map member members ++ put_mark mark.CloseBrace (put_mark mark.Semicolon []))) ++ []) [] false refl
    (plain_step [] (sign.Name name) (put_mark mark.OpenBrace (flat_map member members ++ put_mark mark.CloseBrace (put_mark mark.Semicolon [])) ++ []) [] false refl
    (in_brackets [] mark.OpenBrace mark.CloseBrace brace brace (flat_map member members) (put_mark mark.Semicolon []) [] [] false refl (λ c. refl) refl refl (λ after k. members_held members brace [] false after k) (done false))))
form (item.Variables d) = inr (subst (λ (y : Spelling). Ends [] false y) (sym (append_assoc (declaration [] d) (put_mark mark.Semicolon []) [])) (declaration_through [] d [] false (put_mark mark.Semicolon []) done))
form (item.Function is_static result name void_word params inside line second) = inr
    (function_ends is_static (line ∷ first_lines params) result second (named_function result name void_word params inside second)
    (λ c. plain_step (other_lines (held_by result) second) (sign.Name name) (put_mark mark.OpenParen (parameters void_word params (put_mark mark.CloseParen (body_then inside))) ++ []) [] c refl
    (open_step [] mark.OpenParen round (parameters void_word params (put_mark mark.CloseParen (body_then inside)) ++ []) [] false refl
    (parameters_go void_word params (put_mark mark.CloseParen (body_then inside)) [] (round ∷ []) false (λ d. close_step mark.CloseParen round round (body_then inside ++ []) [] d refl refl refl (body_ends inside))))))
form (item.Cle p line) = inl (p, line, refl)

-- ---- terminals against what is wanted

meets_effect : (a : Bool) (w : Want) (s : Sign) → Meets w s → effect a s ≡ want_effect a w
meets_effect a (is t) s e = ap (λ (x : Sign). effect a x) e
meets_effect a (size n) (sign.Integer v k) e = refl
meets_effect a (size n) _ e = absurd e

meets_closes : (w : Want) (s : Sign) → Meets w s → is_close s ≡ want_closes w
meets_closes (is t) s e = ap (λ (x : Sign). is_close x) e
meets_closes (size n) (sign.Integer v k) e = refl
meets_closes (size n) _ e = absurd e

abbrev pragma_sign : Sign → Bool
pragma_sign s = is_pragma_first (record { line = 0; what = s } ∷ [])

want_no_pragma : (t : Sign) → is_cle (is t) ≡ false → pragma_sign t ≡ false
want_no_pragma (sign.Cle p) e = absurd cc
want_no_pragma _ e = refl

no_pragma : (w : Want) (s : Sign) → Meets w s → is_cle w ≡ false → pragma_sign s ≡ false
no_pragma (is t) s e f = ap pragma_sign e ∙ want_no_pragma t f
no_pragma (size n) (sign.Integer v k) e f = refl
no_pragma (size n) _ e f = absurd e

stays_no_cle : (a : Bool) (w : Want) → ends_item [] (want_effect a w) ≡ false → is_cle w ≡ false
stays_no_cle a (is (sign.Cle p)) e = absurd cc
stays_no_cle a (is _) e = refl
stays_no_cle a (size n) e = refl

first_no_cle : (v : Wanted) (ws : Spelling) (a : Bool) → Ends [] a (v ∷ ws) → is_cle v.what ≡ false
first_no_cle v [] a h = h.1
first_no_cle v (w ∷ ws) a h = stays_no_cle a v.what h.0

-- no pragma line stands behind a terminal that ends nothing
no_cut : (v : Wanted) (ws : Spelling) (bs : List Bracket) (a : Bool) (ts rest : Terminals) → Ends bs a (v ∷ ws) → Reads (v ∷ ws) ts rest → (is_empty bs && is_pragma_first ts) ≡ false
no_cut v ws bs a [] rest h r = absurd r
no_cut v ws (b ∷ bs) a (q ∷ ts) rest h r = refl
no_cut v ws [] a (q ∷ ts) rest h r = no_pragma v.what q.what r.0 (first_no_cle v ws a h)

-- ---- one item

record Cuts (ms : Spelling) (bs : List Bracket) (a : Bool) (ts rest : Terminals) : Type 0 where
  terminals : Terminals
  cut_is : cut_from bs a ts ≡ terminals ∷ cut_from [] false rest
  reads : Reads ms terminals []

last_cut : (w : Wanted) (bs : List Bracket) (a : Bool) (p : Terminal) (ts : Terminals) → ends_item bs (effect a p.what) ≡ true → is_close p.what ≡ false → cut_from bs a (p ∷ ts) ≡ (p ∷ []) ∷ cut_from [] false ts
unfolding cut_from
last_cut w bs a p ts e c =
    let here : ends_here bs (effect a p.what) ts ≡ true = rw e refl in
    let none_open : open_after bs (effect a p.what) ≡ [] = all_closed bs (effect a p.what) ts here in
    rw (here, none_open, c) refl

next_cut : (bs : List Bracket) (a : Bool) (p : Terminal) (ts xs rest : Terminals) → ends_item bs (effect a p.what) ≡ false → (is_empty (open_after bs (effect a p.what)) && is_pragma_first ts) ≡ false → cut_from (open_after bs (effect a p.what)) (is_close p.what) ts ≡ xs ∷ cut_from [] false rest → cut_from bs a (p ∷ ts) ≡ (p ∷ xs) ∷ cut_from [] false rest
unfolding cut_from
next_cut bs a p ts xs rest e f c =
    let here : ends_here bs (effect a p.what) ts ≡ false = rw (e, f) refl in
    rw (here, c) refl

item_cuts : (ms : Spelling) (bs : List Bracket) (a : Bool) (ts rest : Terminals) → Ends bs a ms → Reads ms ts rest → Cuts ms bs a ts rest
item_cuts [] bs a ts rest h r = absurd h
item_cuts (w ∷ ms) bs a [] rest h r = absurd r
item_cuts (w ∷ []) bs a (p ∷ ts) rest h r =
    let e : ends_item bs (effect a p.what) ≡ true = ap (λ (x : Effect). ends_item bs x) (meets_effect a w.what p.what r.0) ∙ h.0 in
    let c : is_close p.what ≡ false = meets_closes w.what p.what r.0 ∙ h.2 in
    record {
      terminals = p ∷ [];
      cut_is = last_cut w bs a p ts e c ∙ ap (λ (us : Terminals). (p ∷ []) ∷ cut_from [] false us) r.2;
      reads = (r.0, r.1, refl);
    }
item_cuts (w ∷ v ∷ ms) bs a (p ∷ ts) rest h r =
    let m = meets_effect a w.what p.what r.0 in
    let n = meets_closes w.what p.what r.0 in
    let e : ends_item bs (effect a p.what) ≡ false = ap (λ (x : Effect). ends_item bs x) m ∙ h.0 in
    let more : Ends (open_after bs (effect a p.what)) (is_close p.what) (v ∷ ms) = subst (λ (x : Effect). Ends (open_after bs x) (is_close p.what) (v ∷ ms)) (sym m) (subst (λ (x : Bool). Ends (open_after bs (want_effect a w.what)) x (v ∷ ms)) (sym n) h.1) in
    let f = no_cut v ms (open_after bs (effect a p.what)) (is_close p.what) ts rest more r.2 in
    let g = item_cuts (v ∷ ms) (open_after bs (effect a p.what)) (is_close p.what) ts rest more r.2 in
    record {
      terminals = p ∷ g.terminals;
      cut_is = next_cut bs a p ts g.terminals rest e f g.cut_is;
      reads = (r.0, r.1, g.reads);
    }

cle_spelling : (p : Pragma) (line : ℕ) → item_spelling (item.Cle p line) ≡ put_at line (sign.Cle p) []
unfolding item_spelling
cle_spelling p line = refl

cle_cuts : (g : Pragma) (line : ℕ) (ts rest : Terminals) → Reads (put_at line (sign.Cle g) []) ts rest → Cuts (put_at line (sign.Cle g) []) [] false ts rest
cle_cuts g line [] rest r = absurd r
cle_cuts g line (p ∷ ts) rest r =
    let e : ends_item [] (effect false p.what) ≡ true = ap (λ (x : Sign). ends_item [] (effect false x)) r.0 in
    let c : is_close p.what ≡ false = ap (λ (x : Sign). is_close x) r.0 in
    record {
      terminals = p ∷ [];
      cut_is = last_cut (record { what = is (sign.Cle g); lines = [] }) [] false p ts e c ∙ ap (λ (us : Terminals). (p ∷ []) ∷ cut_from [] false us) r.2;
      reads = (r.0, r.1, refl);
    }

whole_cuts : (i : Item) (ts rest : Terminals) → Reads (item_spelling i) ts rest → Cuts (item_spelling i) [] false ts rest
whole_cuts i ts rest r = by (form i)
  where
    by : Form i → Cuts (item_spelling i) [] false ts rest
    by (inl d) =
        let same : item_spelling i ≡ put_at d.1 (sign.Cle d.0) [] = ap item_spelling d.2 ∙ cle_spelling d.0 d.1 in
        subst (λ (ms : Spelling). Cuts ms [] false ts rest) (sym same) (cle_cuts d.0 d.1 ts rest (subst (λ (ms : Spelling). Reads ms ts rest) same r))
    by (inr h) = item_cuts (item_spelling i) [] false ts rest (subst (λ (ms : Spelling). Ends [] false ms) (append-nil (item_spelling i)) h) r

-- ---- programs

abbrev All_items : List Item → Type 0
All_items [] = Unit {0}
All_items (i ∷ more) = (is_well_formed i ≡ true) × All_items more

no_items : (ts : Terminals) → ts ≡ [] → AreItems (cut_from [] false ts) []
unfolding cut_from
no_items [] e = tt
no_items (t ∷ ts) e = absurd cc

items_cut : (all : List Item) (ts : Terminals) → All_items all → Reads (flat_map item_spelling all) ts [] → AreItems (cut_from [] false ts) all
items_cut [] ts h r = no_items ts r
items_cut (i ∷ more) ts h r =
    let s = reads_split (item_spelling i) (flat_map item_spelling more) ts [] r in
    let c = whole_cuts i ts s.0 s.1 in
    subst (λ (pss : List Terminals). AreItems pss (i ∷ more)) (sym c.cut_is) (record { well_formed = h.0; reads = c.reads }, items_cut more s.0 h.1 s.2)

all_items : (all : List Item) → WellFormed (record { items = all }) → All_items all
all_items [] h = tt
all_items (i ∷ more) h = (h.0, all_items more h.1)

pub spelling_cut : (p : Program) (ps : List Terminal) → WellFormed p → Reads (program_spelling p) ps [] → AreItems (cut ps) p.items
unfolding cut program_spelling
spelling_cut p ps h r = items_cut p.items ps (all_items p.items h) r

-- ---- and back

joined_parts : (b : Bool) (p : Terminal) (pss : List Terminals) → flat_map (λ ps. ps) (joined b p pss) ≡ p ∷ flat_map (λ ps. ps) pss
joined_parts true p pss = refl
joined_parts false p [] = refl
joined_parts false p (ps ∷ pss) = refl

parts_of_cut : (bs : List Bracket) (a : Bool) (ps : Terminals) → flat_map (λ ps. ps) (cut_from bs a ps) ≡ ps
unfolding cut_from
parts_of_cut bs a [] = refl
parts_of_cut bs a (p ∷ ps) = joined_parts _ p _ ∙ ap (λ (us : Terminals). p ∷ us) (parts_of_cut (open_after bs (effect a p.what)) (is_close p.what) ps)

reads_before : (ms : Spelling) (ts rest : Terminals) → Reads ms ts [] → Reads ms (ts ++ rest) rest
reads_before [] [] rest r = refl
reads_before [] (t ∷ ts) rest r = absurd cc
reads_before (m ∷ ms) [] rest r = absurd r
reads_before (m ∷ ms) (t ∷ ts) rest r = (r.0, r.1, reads_before ms ts rest r.2)

items_spelled : (pss : List Terminals) (all : List Item) → AreItems pss all → Reads (flat_map item_spelling all) (flat_map (λ ps. ps) pss) []
items_spelled [] [] h = refl
items_spelled (ps ∷ pss) (i ∷ more) h = reads_append (item_spelling i) (flat_map item_spelling more) (ps ++ flat_map (λ ps. ps) pss) (flat_map (λ ps. ps) pss) [] (reads_before (item_spelling i) ps (flat_map (λ ps. ps) pss) h.0.reads) (items_spelled pss more h.1)
items_spelled [] (i ∷ more) h = absurd h
items_spelled (ps ∷ pss) [] h = absurd h

items_well : (pss : List Terminals) (all : List Item) → AreItems pss all → WellFormed (record { items = all })
items_well [] [] h = tt
items_well (ps ∷ pss) (i ∷ more) h = (h.0.well_formed, items_well pss more h.1)
items_well [] (i ∷ more) h = absurd h
items_well (ps ∷ pss) [] h = absurd h

pub cut_spelled : (p : Program) (ps : List Terminal) → AreItems (cut ps) p.items → WellFormed p × Reads (program_spelling p) ps []
unfolding cut program_spelling
cut_spelled p ps h = (
  items_well (cut_from [] false ps) p.items h,
  subst (λ (us : Terminals). Reads (flat_map item_spelling p.items) us []) (parts_of_cut [] false ps) (items_spelled (cut_from [] false ps) p.items h),
)
