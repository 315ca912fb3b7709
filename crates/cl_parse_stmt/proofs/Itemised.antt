-- Items: what is read is spelled so.
use Rattle.std.proofs.Common.{◌≡◌, ℕ, zero, suc, List, [], ◌∷◌, ◌++◌, length, map, refl, subst, sym, ap, ◌∙◌, arith, Bool, true, false, not, ◌&&◌, ◌||◌, cond, Option, Some, None, inl, inr, append_assoc}
use Rattle.std.specs.List.{flat_map}
use Rattle.std.proofs.lemmas.List.{append-nil}
use Rattle.cl_tree.specs.declared.token.Mark.TheVariants as mark
use Rattle.cl_tree.specs.declared.grammar.Keyword.TheVariants as key
use Rattle.cl_tree.specs.declared.grammar.Base.{Base}
use Rattle.cl_tree.specs.declared.grammar.Sign.{Sign}
use Rattle.cl_tree.specs.declared.grammar.Sign.TheVariants as sign
use Rattle.cl_tree.specs.declared.grammar.Terminal.{Terminal}
use Rattle.cl_tree.specs.declared.tree.Declarator.{Declarator}
use Rattle.cl_tree.specs.declared.tree.Declaration.{Declaration}
use Rattle.cl_tree.specs.declared.tree.Stmt.{Stmt}
use Rattle.cl_tree.specs.declared.tree.Item.{Item}
use Rattle.cl_tree.specs.declared.tree.Item.TheVariants as item
use Rattle.cl_tree.specs.Words.{Word}
use Rattle.cl_tree.specs.Spelling.{Spelling, put_on, put, put_mark, key_on, commas, Fits, Reads, type_shape, type_name, is_empty, is_void, held_by, star_lines, floating_lines, other_lines, base_on, stars_on}
use Rattle.cl_tree.specs.Statements.{declarator, base_lines, first_lines, base_of, is_declarator, declared, declaration, is_declaration, stmt_shape, statements}
use Rattle.cl_tree.specs.Items.{member, is_member, all_members, parameter, all_parameters, parameters, body_then, is_body, function, item_spelling, is_item}
use Rattle.cl_parse_expr.specs.declared.cursor.Fixed.TheVariants as fixed
use Rattle.cl_parse_expr.specs.Cursor.{◌>>=◌, Terminals, after, found, name_at, line_of}
use Rattle.cl_parse_expr.specs.Types.{base_at, type_of, pointers_at, second_at}
use Rattle.cl_parse_expr.specs.Reading.{opening, close, comma}
use Rattle.cl_parse_expr.proofs.Marks.{some_of, some_is, and_intro, reads_append, found_sound, bind_some, found_ok, name_sound, fits_append}
use Rattle.cl_parse_expr.proofs.TypeNames.{plain_is, base_sound, pointers_sound, after_line}
use Rattle.cl_parse_expr.proofs.Sound.{name_spelled, other_place, floating_place, base_place, type_place}
use Rattle.cl_parse_stmt.specs.Declaring.{InitReader, semicolon, open_brace, close_brace, declarator_at, names_of, declared_as}
use Rattle.cl_parse_stmt.specs.Stating.{StmtReader, block_at}
use Rattle.cl_parse_stmt.specs.Itemising.{member_at, members_at, struct_from, parameter_at, more_parameters, parameters_at, body_at, function_from, variables_from, called_at, plain_from, plain_at, struct_at, unmarked_at, item_step, item_of}
use Rattle.cl_parse_stmt.proofs.Declared.{InitSound, declarator_sound, Named_all, names_sound, declared_plain, declared_static, static_key, base_line}
use Rattle.cl_parse_stmt.proofs.Stated.{ListedSound, block_sound}

pub record Itemised (i : Item) (ts rest : Terminals) : Type 0 where
  pub reads : Reads (item_spelling i) ts rest
  pub proper : is_item i ≡ true

-- ---- members

abbrev pub all_first_lines : List Declaration → List ℕ
all_first_lines ds = flat_map (λ d. first_lines d.names) ds

-- members of one base; `first` is the struct's line
record Membered (d : Declaration) (first : ℕ) (ts rest : Terminals) : Type 0 where
  pub reads : Reads (member d) ts rest
  pub proper : is_member d ≡ true
  pub at_first : Fits (first_lines d.names) first

member_sound : (I : InitReader) → InitSound I → (first : ℕ) (ts : Terminals) (x : Declaration × Terminals) → member_at I first ts ≡ Some x → Membered x.0 first ts x.1
unfolding member_at
member_sound I sound first ts x e =
    let b = bind_some (base_at ts) (λ b. names_of false I b.0 b.1 first b.2 >>= λ n. after semicolon n.1 >>= λ c. Some (declared_as false n.0, c.1)) x e in
    let n = bind_some (names_of false I b.0.0 b.0.1 first b.0.2) (λ n. after semicolon n.1 >>= λ c. Some (declared_as false n.0, c.1)) x b.2 in
    let c = bind_some (after semicolon n.0.1) (λ c. Some (declared_as false n.0.0, c.1)) x n.2 in
    let w = names_sound false I sound b.0.0 b.0.1 first b.0.2 n.0 n.1 in
    let z = some_is (declared_as false n.0.0, c.0.1) x c.2 in
    let ended = reads_append (commas (map declarator n.0.0)) (put_mark mark.Semicolon []) b.0.2 n.0.1 c.0.1 w.reads (found_sound semicolon [] [] n.0.1 c.0.1 c.0 c.1 tt refl) in
    subst (λ (y : Declaration × Terminals). Membered y.0 first ts y.1) z (record {
      reads = subst (λ (y : Base). Reads (base_on (base_lines n.0.0) y (commas (map declarator n.0.0) ++ put_mark mark.Semicolon [])) ts c.0.1) (sym w.of_base)
          (base_sound ts b.0 b.1 (base_lines n.0.0) (commas (map declarator n.0.0) ++ put_mark mark.Semicolon []) c.0.1 w.at_base ended);
      proper = w.proper;
      at_first = w.at_first;
    })

-- the members behind, and the `}`
record Members (ds : List Declaration) (first : ℕ) (ts next : Terminals) : Type 0 where
  pub reads : (ms : Spelling) (rest : Terminals) → Reads ms next rest → Reads (flat_map member ds ++ put_mark mark.CloseBrace ms) ts rest
  pub proper : all_members ds ≡ true
  pub at_first : Fits (all_first_lines ds) first

one_more_member : (d : Declaration) (ds : List Declaration) (first : ℕ) (ts mid next : Terminals) → Membered d first ts mid → Members ds first mid next → Members (d ∷ ds) first ts next
one_more_member d ds first ts mid next w ws = record {
  reads = λ ms rest r. subst (λ (y : Spelling). Reads y ts rest) (sym (append_assoc (member d) (flat_map member ds) (put_mark mark.CloseBrace ms))) (reads_append (member d) _ ts mid rest w.reads (ws.reads ms rest r));
  proper = and_intro _ _ w.proper ws.proper;
  at_first = fits_append _ _ first w.at_first ws.at_first;
}

members_sound : (I : InitReader) → InitSound I → (first m : ℕ) (done : List Declaration) (ts : Terminals) (x : List Declaration × Terminals) → members_at I first m done ts ≡ Some x → (ds : List Declaration) × (x.0 ≡ done ++ ds) × Members ds first ts x.1
unfolding members_at
members_sound I sound first zero done ts x e = absurd cc
members_sound I sound first (suc m) done ts x e =
    elim (found_ok (after close_brace ts) (λ c. Some (done, c.1)) (member_at I first ts >>= λ r. members_at I first m (done ++ r.0 ∷ []) r.1) (Some x) e) [
      | inl h ↦
          let b = bind_some (member_at I first ts) (λ r. members_at I first m (done ++ r.0 ∷ []) r.1) x h.1 in
          let w = member_sound I sound first ts b.0 b.1 in
          let r = members_sound I sound first m (done ++ b.0.0 ∷ []) b.0.1 x b.2 in
          (b.0.0 ∷ r.0, r.1 ∙ append_assoc done (b.0.0 ∷ []) r.0, one_more_member b.0.0 r.0 first ts b.0.1 x.1 w r.2)
      | inr h ↦
          let z = some_is (done, h.0.1) x h.2 in (
            [],
            sym (ap (λ (y : List Declaration × Terminals). y.0) z) ∙ sym (append-nil done),
            record {
              reads = λ ms rest r. found_sound close_brace [] ms ts rest h.0 h.1 tt (subst (λ (y : Terminals). Reads ms y rest) (sym (ap (λ (y : List Declaration × Terminals). y.1) z)) r);
              proper = refl;
              at_first = tt;
            },
          )
    ]

-- ---- structs

struct_begun : (ts : Terminals) (s : Word × Terminals) → struct_at ts ≡ Some s → (lines : List ℕ) → Fits lines (line_of ts) → (ms : Spelling) (rest : Terminals) → Reads ms s.1 rest → Reads (key_on lines key.Struct (put (sign.Name s.0) (put_mark mark.OpenBrace ms))) ts rest
unfolding struct_at
struct_begun ts s e lines fits ms rest r =
    let k = bind_some (after (fixed.Key key.Struct) ts) (λ k. name_at k.1 >>= λ n. after open_brace n.2 >>= λ o. Some (n.0, o.1)) s e in
    let n = bind_some (name_at k.0.1) (λ n. after open_brace n.2 >>= λ o. Some (n.0, o.1)) s k.2 in
    let o = bind_some (after open_brace n.0.2) (λ o. Some (n.0.0, o.1)) s n.2 in
    let z = some_is (n.0.0, o.0.1) s o.2 in
    let a = after_line (fixed.Key key.Struct) ts k.0 k.1 in
    let opened = found_sound open_brace [] ms n.0.2 rest o.0 o.1 tt (subst (λ (y : Terminals). Reads ms y rest) (sym (ap (λ (y : Word × Terminals). y.1) z)) r) in
    subst (λ (y : Word). Reads (key_on lines key.Struct (put (sign.Name y) (put_mark mark.OpenBrace ms))) ts rest) (ap (λ (y : Word × Terminals). y.0) z)
    (found_sound (fixed.Key key.Struct) lines (put (sign.Name n.0.0) (put_mark mark.OpenBrace ms)) ts rest k.0 k.1 (subst (λ (y : ℕ). Fits lines y) (sym a.0) fits) (name_sound [] (put_mark mark.OpenBrace ms) k.0.1 rest n.0 n.1 tt opened))

struct_sound : (I : InitReader) → InitSound I → (ts : Terminals) (s : Word × Terminals) → struct_at ts ≡ Some s → (x : Item × Terminals) → struct_from I (line_of ts) s.0 s.1 ≡ Some x → Itemised x.0 ts x.1
unfolding struct_from item_spelling is_item
struct_sound I sound ts s begins x e =
    let l = line_of ts in
    let b = bind_some (member_at I l s.1) (λ r. members_at I l (suc (length r.1)) (r.0 ∷ []) r.1 >>= λ m. after semicolon m.1 >>= λ c. Some (item.Struct s.0 m.0 l, c.1)) x e in
    let m = bind_some (members_at I l (suc (length b.0.1)) (b.0.0 ∷ []) b.0.1) (λ m. after semicolon m.1 >>= λ c. Some (item.Struct s.0 m.0 l, c.1)) x b.2 in
    let c = bind_some (after semicolon m.0.1) (λ c. Some (item.Struct s.0 m.0.0 l, c.1)) x m.2 in
    let w = member_sound I sound l s.1 b.0 b.1 in
    let r = members_sound I sound l (suc (length b.0.1)) (b.0.0 ∷ []) b.0.1 m.0 m.1 in
    let all = one_more_member b.0.0 r.0 l s.1 b.0.1 m.0.1 w r.2 in
    let z = some_is (item.Struct s.0 m.0.0 l, c.0.1) x c.2 in
    subst (λ (y : Item × Terminals). Itemised y.0 ts y.1) z
    (subst (λ (y : List Declaration). Itemised (item.Struct s.0 y l) ts c.0.1) (sym r.1)
    (record {
      reads = struct_begun ts s begins (l ∷ all_first_lines (b.0.0 ∷ r.0)) (refl, all.at_first) _ c.0.1
          (all.reads (put_mark mark.Semicolon []) c.0.1 (found_sound semicolon [] [] m.0.1 c.0.1 c.0 c.1 tt refl));
      proper = all.proper;
    }))

-- ---- parameters

record Parametered (d : Declarator) (first : ℕ) (ts rest : Terminals) : Type 0 where
  pub reads : Reads (parameter d) ts rest
  pub proper : (not (is_void (base_of d)) && is_declarator false (base_of d) d) ≡ true
  pub at_first : Fits (other_lines (held_by d.ctype) d.second) first

-- not void
guarded : {A : Type 0} (b : Bool) (x : Option A) (y : A) → cond b None x ≡ Some y → (not b ≡ true) × (x ≡ Some y)
guarded true x y e = absurd cc
guarded false x y e = (refl, e)

parameter_sound : (I : InitReader) → InitSound I → (first : ℕ) (ts : Terminals) (x : Declarator × Terminals) → parameter_at I first ts ≡ Some x → Parametered x.0 first ts x.1
unfolding parameter_at
parameter_sound I sound first ts x e =
    let b = bind_some (base_at ts) (λ b. cond (is_void b.0) None (declarator_at false I b.0 b.1 first b.2)) x e in
    let g = guarded (is_void b.0.0) (declarator_at false I b.0.0 b.0.1 first b.0.2) x b.2 in
    let w = declarator_sound false I sound b.0.0 b.0.1 first b.0.2 x g.1 in
    record {
      reads = subst (λ (y : Base). Reads (base_on (floating_lines (held_by x.0.ctype) x.0.second) y (declarator x.0)) ts x.1) (sym w.of_base)
          (base_sound ts b.0 b.1 (floating_lines (held_by x.0.ctype) x.0.second) (declarator x.0) x.1 w.at_base w.reads);
      proper = subst (λ (y : Base). (not (is_void y) && is_declarator false y x.0) ≡ true) (sym w.of_base) (and_intro _ _ g.0 w.proper);
      at_first = w.at_first;
    }

abbrev pub other_parameters : List Declarator → Spelling
other_parameters ds = flat_map (put_mark mark.Comma) (map parameter ds)

-- the parameters behind, and the `)`
record Parameters (ds : List Declarator) (first : ℕ) (ts next : Terminals) : Type 0 where
  pub reads : (ms : Spelling) (rest : Terminals) → Reads ms next rest → Reads (other_parameters ds ++ put_mark mark.CloseParen ms) ts rest
  pub proper : all_parameters ds ≡ true
  pub at_first : Fits (first_lines ds) first

more_parameters_sound : (I : InitReader) → InitSound I → (first m : ℕ) (done : List Declarator) (ts : Terminals) (x : List Declarator × Terminals) → more_parameters I first m done ts ≡ Some x → (ds : List Declarator) × (x.0 ≡ done ++ ds) × Parameters ds first ts x.1
unfolding more_parameters
more_parameters_sound I sound first zero done ts x e = absurd cc
more_parameters_sound I sound first (suc m) done ts x e =
    elim (found_ok (after comma ts) (λ c. parameter_at I first c.1 >>= λ r. more_parameters I first m (done ++ r.0 ∷ []) r.1) (after close ts >>= λ r. Some (done, r.1)) (Some x) e) [
      | inl h ↦
          let c = bind_some (after close ts) (λ r. Some (done, r.1)) x h.1 in
          let z = some_is (done, c.0.1) x c.2 in (
            [],
            sym (ap (λ (y : List Declarator × Terminals). y.0) z) ∙ sym (append-nil done),
            record {
              reads = λ ms rest r. found_sound close [] ms ts rest c.0 c.1 tt (subst (λ (y : Terminals). Reads ms y rest) (sym (ap (λ (y : List Declarator × Terminals). y.1) z)) r);
              proper = refl;
              at_first = tt;
            },
          )
      | inr h ↦
          let d = bind_some (parameter_at I first h.0.1) (λ r. more_parameters I first m (done ++ r.0 ∷ []) r.1) x h.2 in
          let w = parameter_sound I sound first h.0.1 d.0 d.1 in
          let r = more_parameters_sound I sound first m (done ++ d.0.0 ∷ []) d.0.1 x d.2 in (
            d.0.0 ∷ r.0,
            r.1 ∙ append_assoc done (d.0.0 ∷ []) r.0,
            record {
              reads = λ ms rest q. found_sound comma [] ((parameter d.0.0 ++ other_parameters r.0) ++ put_mark mark.CloseParen ms) ts rest h.0 h.1 tt
                  (subst (λ (y : Spelling). Reads y h.0.1 rest) (sym (append_assoc (parameter d.0.0) (other_parameters r.0) (put_mark mark.CloseParen ms))) (reads_append (parameter d.0.0) _ h.0.1 d.0.1 rest w.reads (r.2.reads ms rest q)));
              proper = and_intro _ _ w.proper r.2.proper;
              at_first = fits_append _ _ first w.at_first r.2.at_first;
            },
          )
    ]

-- what stands between the brackets of a function
record Bracketed (void_word : Bool) (ds : List Declarator) (first : ℕ) (ts next : Terminals) : Type 0 where
  pub reads : (ms : Spelling) (rest : Terminals) → Reads ms next rest → Reads (parameters void_word ds (put_mark mark.CloseParen ms)) ts rest
  pub words : (not void_word || is_empty ds) ≡ true
  pub proper : all_parameters ds ≡ true
  pub at_first : Fits (first_lines ds) first

parameters_sound : (I : InitReader) → InitSound I → (first : ℕ) (ts : Terminals) (x : Bool × List Declarator × Terminals) → parameters_at I first ts ≡ Some x → Bracketed x.0 x.1 first ts x.2
unfolding parameters_at
parameters_sound I sound first ts x e =
    let some_parameters : Option (Bool × List Declarator × Terminals) = parameter_at I first ts >>= λ p. more_parameters I first (length p.1) (p.0 ∷ []) p.1 >>= λ r. Some (false, r.0, r.1) in
    elim (found_ok (after close ts) (λ c. Some (false, [], c.1)) (found (after (fixed.Key key.Void) ts) (λ v. after close v.1 >>= λ c. Some (true, [], c.1)) some_parameters) (Some x) e) [
      | inr h ↦
          let z = some_is (false, [], h.0.1) x h.2 in
          subst (λ (y : Bool × List Declarator × Terminals). Bracketed y.0 y.1 first ts y.2) z
          (record { reads = λ ms rest r. found_sound close [] ms ts rest h.0 h.1 tt r; words = refl; proper = refl; at_first = tt })
      | inl h ↦
          elim (found_ok (after (fixed.Key key.Void) ts) (λ v. after close v.1 >>= λ c. Some (true, [], c.1)) some_parameters (Some x) h.1) [
            | inr v ↦
                let c = bind_some (after close v.0.1) (λ c. Some (true, [], c.1)) x v.2 in
                let z = some_is (true, [], c.0.1) x c.2 in
                subst (λ (y : Bool × List Declarator × Terminals). Bracketed y.0 y.1 first ts y.2) z
                (record { reads = λ ms rest r. found_sound (fixed.Key key.Void) [] (put_mark mark.CloseParen ms) ts rest v.0 v.1 tt (found_sound close [] ms v.0.1 rest c.0 c.1 tt r); words = refl; proper = refl; at_first = tt })
            | inl v ↦
                let p = bind_some (parameter_at I first ts) (λ p. more_parameters I first (length p.1) (p.0 ∷ []) p.1 >>= λ r. Some (false, r.0, r.1)) x v.1 in
                let m = bind_some (more_parameters I first (length p.0.1) (p.0.0 ∷ []) p.0.1) (λ r. Some (false, r.0, r.1)) x p.2 in
                let w = parameter_sound I sound first ts p.0 p.1 in
                let r = more_parameters_sound I sound first (length p.0.1) (p.0.0 ∷ []) p.0.1 m.0 m.1 in
                let z = some_is (false, m.0.0, m.0.1) x m.2 in
                subst (λ (y : Bool × List Declarator × Terminals). Bracketed y.0 y.1 first ts y.2) z
                (subst (λ (y : List Declarator). Bracketed false y first ts m.0.1) (sym r.1)
                (record {
                  reads = λ ms rest q. subst (λ (y : Spelling). Reads y ts rest) (sym (append_assoc (parameter p.0.0) (other_parameters r.0) (put_mark mark.CloseParen ms))) (reads_append (parameter p.0.0) _ ts p.0.1 rest w.reads (r.2.reads ms rest q));
                  words = refl;
                  proper = and_intro _ _ w.proper r.2.proper;
                  at_first = fits_append _ _ first w.at_first r.2.at_first;
                }))
          ]
    ]

-- ---- bodies

body_sound : (L : StmtReader) → ListedSound L → (ts : Terminals) (x : Option (List Stmt) × Terminals) → body_at L ts ≡ Some x → Reads (body_then x.0) ts x.1 × (is_body x.0 ≡ true)
unfolding body_at
body_sound L both ts x e =
    elim (found_ok (after semicolon ts) (λ c. Some (None, c.1)) (after open_brace ts >>= λ o. block_at L (suc (length o.1)) [] o.1 >>= λ b. Some (Some b.0, b.1)) (Some x) e) [
      | inr h ↦
          let z = some_is (None, h.0.1) x h.2 in
          subst (λ (y : Option (List Stmt) × Terminals). Reads (body_then y.0) ts y.1 × (is_body y.0 ≡ true)) z (found_sound semicolon [] [] ts h.0.1 h.0 h.1 tt refl, refl)
      | inl h ↦
          let o = bind_some (after open_brace ts) (λ o. block_at L (suc (length o.1)) [] o.1 >>= λ b. Some (Some b.0, b.1)) x h.1 in
          let b = bind_some (block_at L (suc (length o.0.1)) [] o.0.1) (λ b. Some (Some b.0, b.1)) x o.2 in
          let r = block_sound L both (suc (length o.0.1)) [] o.0.1 b.0 b.1 in
          let z = some_is (Some b.0.0, b.0.1) x b.2 in
          subst (λ (y : Option (List Stmt) × Terminals). Reads (body_then y.0) ts y.1 × (is_body y.0 ≡ true)) z
          (subst (λ (y : List Stmt). Reads (body_then (Some y)) ts b.0.1 × (is_body (Some y) ≡ true)) (sym r.1)
          (found_sound open_brace [] (statements (map stmt_shape r.0)) ts b.0.1 o.0 o.1 tt r.2, r.3))
    ]

-- ---- functions and variables

-- An item begins at `start`, and goes on at `us` behind its `static`.
abbrev Begins : Bool → ℕ → Terminals → Terminals → Type 0
Begins true first start us = after static_key start ≡ Some (first, us)
Begins false first start us = (start ≡ us) × (first ≡ line_of us)

-- a type with its stars
typed : (us : Terminals) (b : Base × ℕ × Terminals) → base_at us ≡ Some b → (o : ℕ) (lines : List ℕ) → Fits lines b.1 → (ms : Spelling) (rest : Terminals) → Reads ms (pointers_at (length b.2) (type_of b.0) b.2).1 rest → Reads (type_name lines (pointers_at (length b.2) (type_of b.0) b.2).0 (second_at b.0 b.1 o b.2) ms) us rest
typed us b e o lines fits ms rest r =
    let p = pointers_at (length b.2) (type_of b.0) b.2 in
    let w = pointers_sound (length b.2) b.0 0 (type_of b.0) b.2 (omega arith) (plain_is b.0) in
    let second = second_at b.0 b.1 o b.2 in
    let stars = name_spelled b.0 b.1 o b.2 p.0 p.1 w ms rest r in
    subst (λ (y : Base). Reads (base_on (lines ++ floating_lines (held_by p.0) second) y (stars_on (star_lines (held_by p.0) second) (type_shape p.0).stars ms)) us rest) (sym (base_place b.0 b.2 p.0 p.1 w))
    (base_sound us b e (lines ++ floating_lines (held_by p.0) second) _ rest (fits_append lines _ b.1 fits (floating_place b.0 b.1 o b.2 p.0 p.1 w)) stars)

function_placed : (s : Bool) (first : ℕ) (start us : Terminals) → Begins s first start us → (b : Base × ℕ × Terminals) → base_at us ≡ Some b → (o : ℕ) (lines : List ℕ) → Fits lines first → (ms : Spelling) (rest : Terminals) → Reads ms (pointers_at (length b.2) (type_of b.0) b.2).1 rest → Reads (function s lines (pointers_at (length b.2) (type_of b.0) b.2).0 (second_at b.0 b.1 o b.2) ms) start rest
function_placed true first start us begins b e o lines fits ms rest r = found_sound static_key lines _ start rest (first, us) begins fits (typed us b e o [] tt ms rest r)
function_placed false first start us begins b e o lines fits ms rest r =
    let at : first ≡ b.1 = begins.1 ∙ sym (base_line us b e) in
    let t = typed us b e o lines (subst (λ (y : ℕ). Fits lines y) at fits) ms rest r in
    subst (λ (y : Terminals). Reads (type_name lines (pointers_at (length b.2) (type_of b.0) b.2).0 (second_at b.0 b.1 o b.2) ms) y rest) (sym begins.0) t

variables_placed : (s : Bool) (first : ℕ) (start us : Terminals) → Begins s first start us → (b : Base × ℕ × Terminals) → base_at us ≡ Some b → (n : List Declarator × Terminals) → Named_all true b.0 b.1 first n.0 b.2 n.1 → Reads (declared [] s n.0) start n.1
variables_placed true first start us begins b e n w = declared_static [] start (first, us) begins b e tt n w
variables_placed false first start us begins b e n w =
    let t = declared_plain [] first us b e begins.1 tt n w in
    subst (λ (y : Terminals). Reads (declared [] false n.0) y n.1) (sym begins.0) t

called_sound : (ts : Terminals) (n : Word × ℕ × Terminals) → called_at ts ≡ Some n → (lines : List ℕ) → Fits lines n.1 → (ms : Spelling) (rest : Terminals) → Reads ms n.2 rest → Reads (put_on lines (sign.Name n.0) (put_mark mark.OpenParen ms)) ts rest
unfolding called_at
called_sound ts n e lines fits ms rest r =
    let m = bind_some (name_at ts) (λ m. after opening m.2 >>= λ o. Some (m.0, m.1, o.1)) n e in
    let o = bind_some (after opening m.0.2) (λ o. Some (m.0.0, m.0.1, o.1)) n m.2 in
    let z = some_is (m.0.0, m.0.1, o.0.1) n o.2 in
    let f : Fits lines m.0.1 = subst (λ (y : ℕ). Fits lines y) (sym (ap (λ (y : Word × ℕ × Terminals). y.1) z)) fits in
    let g : Reads ms o.0.1 rest = subst (λ (y : Terminals). Reads ms y rest) (sym (ap (λ (y : Word × ℕ × Terminals). y.2) z)) r in
    subst (λ (y : Word). Reads (put_on lines (sign.Name y) (put_mark mark.OpenParen ms)) ts rest) (ap (λ (y : Word × ℕ × Terminals). y.0) z)
    (name_sound lines (put_mark mark.OpenParen ms) ts rest m.0 m.1 f (found_sound opening [] ms m.0.2 rest o.0 o.1 tt g))

function_sound : (L : StmtReader) → ListedSound L → (I : InitReader) → InitSound I → (s : Bool) (first : ℕ) (start us : Terminals) → Begins s first start us → (b : Base × ℕ × Terminals) → base_at us ≡ Some b → (n : Word × ℕ × Terminals) → called_at (pointers_at (length b.2) (type_of b.0) b.2).1 ≡ Some n
    → (x : Item × Terminals) → function_from L I s (pointers_at (length b.2) (type_of b.0) b.2).0 n.0 first (second_at b.0 b.1 n.1 b.2) n.2 ≡ Some x → Itemised x.0 start x.1
unfolding function_from item_spelling is_item
function_sound L both I sound s first start us begins b e n called x f =
    let t = pointers_at (length b.2) (type_of b.0) b.2 in
    let w = pointers_sound (length b.2) b.0 0 (type_of b.0) b.2 (omega arith) (plain_is b.0) in
    let second = second_at b.0 b.1 n.1 b.2 in
    let p = bind_some (parameters_at I first n.2) (λ p. body_at L p.2 >>= λ b. Some (item.Function s t.0 n.0 p.0 p.1 b.0 first second, b.1)) x f in
    let c = bind_some (body_at L p.0.2) (λ b. Some (item.Function s t.0 n.0 p.0.0 p.0.1 b.0 first second, b.1)) x p.2 in
    let ps = parameters_sound I sound first n.2 p.0 p.1 in
    let body = body_sound L both p.0.2 c.0 c.1 in
    let z = some_is (item.Function s t.0 n.0 p.0.0 p.0.1 c.0.0 first second, c.0.1) x c.2 in
    let named = called_sound t.1 n called (other_lines (held_by t.0) second) (other_place b.0 b.1 n.1 b.2 t.0 t.1 w) (parameters p.0.0 p.0.1 (put_mark mark.CloseParen (body_then c.0.0))) c.0.1 (ps.reads (body_then c.0.0) c.0.1 body.0) in
    subst (λ (y : Item × Terminals). Itemised y.0 start y.1) z (record {
      reads = function_placed s first start us begins b e n.1 (first ∷ first_lines p.0.1) (refl, ps.at_first) _ c.0.1 named;
      proper = and_intro _ _ (type_place b.0 b.2 t.0 t.1 w) (and_intro _ _ ps.words (and_intro _ _ ps.proper body.1));
    })

variables_sound : (I : InitReader) → InitSound I → (s : Bool) (first : ℕ) (start us : Terminals) → Begins s first start us → (b : Base × ℕ × Terminals) → base_at us ≡ Some b → (x : Item × Terminals) → variables_from I s b.0 b.1 first b.2 ≡ Some x → Itemised x.0 start x.1
unfolding variables_from item_spelling is_item declaration is_declaration
variables_sound I sound s first start us begins b e x f =
    let n = bind_some (names_of true I b.0 b.1 first b.2) (λ n. after semicolon n.1 >>= λ c. Some (item.Variables (declared_as s n.0), c.1)) x f in
    let c = bind_some (after semicolon n.0.1) (λ c. Some (item.Variables (declared_as s n.0.0), c.1)) x n.2 in
    let w = names_sound true I sound b.0 b.1 first b.2 n.0 n.1 in
    let z = some_is (item.Variables (declared_as s n.0.0), c.0.1) x c.2 in
    subst (λ (y : Item × Terminals). Itemised y.0 start y.1) z (record {
      reads = reads_append (declared [] s n.0.0) (put_mark mark.Semicolon []) start n.0.1 c.0.1 (variables_placed s first start us begins b e n.0 w) (found_sound semicolon [] [] n.0.1 c.0.1 c.0 c.1 tt refl);
      proper = w.proper;
    })

plain_sound : (L : StmtReader) → ListedSound L → (I : InitReader) → InitSound I → (s : Bool) (first : ℕ) (start us : Terminals) → Begins s first start us → (x : Item × Terminals) → plain_at L I s first us ≡ Some x → Itemised x.0 start x.1
unfolding plain_at plain_from
plain_sound L both I sound s first start us begins x e =
    let b = bind_some (base_at us) (λ b. plain_from L I s first b) x e in
    let t = pointers_at (length b.0.2) (type_of b.0.0) b.0.2 in
    elim (found_ok (called_at t.1) (λ n. function_from L I s t.0 n.0 first (second_at b.0.0 b.0.1 n.1 b.0.2) n.2) (variables_from I s b.0.0 b.0.1 first b.0.2) (Some x) b.2) [
      | inl h ↦ variables_sound I sound s first start us begins b.0 b.1 x h.1
      | inr h ↦ function_sound L both I sound s first start us begins b.0 b.1 h.0 h.1 x h.2
    ]

-- ---- items

unmarked_sound : (L : StmtReader) → ListedSound L → (I : InitReader) → InitSound I → (ts : Terminals) (x : Item × Terminals) → unmarked_at L I ts ≡ Some x → Itemised x.0 ts x.1
unfolding unmarked_at
unmarked_sound L both I sound ts x e =
    elim (found_ok (struct_at ts) (λ s. struct_from I (line_of ts) s.0 s.1) (plain_at L I false (line_of ts) ts) (Some x) e) [
      | inl h ↦ plain_sound L both I sound false (line_of ts) ts ts (refl, refl) x h.1
      | inr h ↦ struct_sound I sound ts h.0 h.1 x h.2
    ]

static_front : (t : Terminal) (ts : Terminals) → t.what ≡ sign.Key key.Static → after static_key (t ∷ ts) ≡ Some (t.line, ts)
unfolding after
static_front t ts e = rw (e, Rattle.cl_parse_expr.proofs.Marks.fixed_self static_key) refl

item_step_sound : (L : StmtReader) → ListedSound L → (I : InitReader) → InitSound I → (t : Terminal) (ts : Terminals) (s : Sign) → t.what ≡ s → (x : Item × Terminals) → item_step L I t.line s (t ∷ ts) ts ≡ Some x → Itemised x.0 (t ∷ ts) x.1
unfolding item_spelling is_item
item_step_sound L both I sound t ts (sign.Cle p) is x e =
    let z = some_is (item.Cle p t.line, ts) x e in
    subst (λ (y : Item × Terminals). Itemised y.0 (t ∷ ts) y.1) z (record { reads = (is, (refl, tt), refl); proper = refl })
item_step_sound L both I sound t ts (sign.Key key.Static) is x e = plain_sound L both I sound true t.line (t ∷ ts) ts (static_front t ts is) x e
item_step_sound L both I sound t ts _ is x e = unmarked_sound L both I sound (t ∷ ts) x e

pub item_sound : (L : StmtReader) → ListedSound L → (I : InitReader) → InitSound I → (ts : Terminals) (x : Item × Terminals) → item_of L I ts ≡ Some x → Itemised x.0 ts x.1
unfolding item_of
item_sound L both I sound [] x e = absurd cc
item_sound L both I sound (t ∷ ts) x e = item_step_sound L both I sound t ts t.what refl x e
