-- Declarations: what is read is spelled so, and what is spelled so is read.
use Rattle.std.proofs.Common.{◌≡◌, ℕ, zero, suc, ◌+◌, ◌<◌, ◌≤◌, List, [], ◌∷◌, ◌++◌, length, map, refl, subst, sym, ap, ◌∙◌, arith, Bool, true, false, not, ◌&&◌, cond, Option, Some, None, inl, inr, append_assoc}
use Rattle.std.specs.List.{flat_map}
use Rattle.std.proofs.lemmas.List.{append-nil}
use Rattle.std.proofs.lemmas.Slice.Eq.{bytes_eq-Decides}
use denote.Enum.Bare.{same_true, true_same}
use Rattle.cl_tree.specs.contracts.kinds.IntKind.{the_type as kind_type}
use Rattle.cl_tree.specs.declared.kinds.IntKind.{IntKind}
use Rattle.cl_tree.specs.declared.token.Mark.TheVariants as mark
use Rattle.cl_tree.specs.declared.grammar.Keyword.TheVariants as key
use Rattle.cl_tree.specs.declared.grammar.Base.{Base}
use Rattle.cl_tree.specs.declared.grammar.Base.TheVariants as base
use Rattle.cl_tree.specs.declared.grammar.Sign.{Sign}
use Rattle.cl_tree.specs.declared.grammar.Sign.TheVariants as sign
use Rattle.cl_tree.specs.declared.grammar.Terminal.{Terminal}
use Rattle.cl_tree.specs.declared.tree.CType.{CType}
use Rattle.cl_tree.specs.declared.tree.Init.{Init, Init-F, out-Init, roll-Init, roll-out-Init, map-Init, fold_out-Init}
use Rattle.cl_tree.specs.declared.tree.Init.TheOpen as layer
use Rattle.cl_tree.specs.declared.tree.Init.TheVariants as init
use Rattle.cl_tree.specs.declared.tree.Init.TheVariants.{outs-One, outs-Many, rolls-One, rolls-Many}
use Rattle.cl_tree.specs.declared.tree.Declarator.{Declarator}
use Rattle.cl_tree.specs.Words.{Word, is_literal}
use Rattle.cl_tree.specs.Spelling.{size, Meets, Spelling, put_on, put_at, put_mark, put_size, commas, Fits, Reads, TypeShape, type_shape, is_empty, is_void, same_base, base_on, stars_on, dims_then, holder, held_by, star_lines, floating_lines, other_lines}
use Rattle.cl_tree.specs.Statements.{InitShape, init_step, init_shape, all_inits, initialiser, declarator, base_lines, first_lines, base_of, common_base, init_allowed, is_declarator, all_declarators, are_names, declared}
use Rattle.cl_parse_expr.specs.declared.cursor.Fixed.{Fixed}
use Rattle.cl_parse_expr.specs.declared.cursor.Fixed.TheVariants as fixed
use Rattle.cl_parse_expr.specs.Cursor.{◌>>=◌, Terminals, after, found, same_mark, is_fixed, name_at, line_of}
use Rattle.cl_parse_expr.specs.Types.{base_at, base_step, type_of, pointers_at, second_at}
use Rattle.cl_parse_expr.specs.Reading.{Reader, opening, close, comma}
use Rattle.cl_parse_expr.proofs.Marks.{some_of, some_is, and_intro, and_elim, fits_append, fits_split, reads_append, reads_split, reads_length, after_reads, found_sound, not_other, bind_some, found_ok, name_reads, name_sound}
use Rattle.cl_parse_expr.proofs.TypeNames.{shape_of, pointed, pointed_is, arrayed_is, type_is_made, plain_is, Based, base_reads, base_sound, asterisk, second_line, star_fits, floating_fits, other_fits, second_back, Pointed, pointers_sound, Starred, pointers_read}
use Rattle.cl_parse_expr.proofs.Sound.{Sound}
use Rattle.cl_parse_expr.proofs.Complete.{Complete, Ends, IsEnd, comma_ends, sign_ends, any_read, starts_not, some_pair}
use Rattle.cl_parse_stmt.specs.Declaring.{open_bracket, close_bracket, open_brace, close_brace, assign, size_step, size_at, dims_at, arrayed, InitReader, more_inits, braced_at, one_init, init_at, named_as, initialised, name_from, declarator_at, more_names, names_at, names_of}

-- ---- sizes

size_found : (s : Sign) (ts : Terminals) (x : ℕ × Terminals) → size_step s ts ≡ Some x → (ms : Spelling) (t : Terminal) (rest : Terminals) → t.what ≡ s → Reads ms x.1 rest → Reads (put_size x.0 ms) (t ∷ ts) rest
size_found (sign.Integer v k) ts x e ms t rest same reads = checked (is_literal v k) refl e
  where
    checked : (b : Bool) → is_literal v k ≡ b → cond b (some_of {A = ℕ × Terminals} (v, ts)) None ≡ Some x → Reads (put_size x.0 ms) (t ∷ ts) rest
    checked true l f =
        let z = some_is (v, ts) x f in
        let met : Meets (size x.0) (sign.Integer v k) = (ap (λ (y : ℕ × Terminals). y.0) z, l) in
        let u : ts ≡ x.1 = ap (λ (y : ℕ × Terminals). y.1) z in
        (subst (λ (y : Sign). Meets (size x.0) y) (sym same) met, tt, subst (λ (y : Terminals). Reads ms y rest) (sym u) reads)
    checked false l f = absurd cc
size_found _ ts x e ms t rest same reads = absurd cc

size_sound : (ts : Terminals) (x : ℕ × Terminals) → size_at ts ≡ Some x → (ms : Spelling) (rest : Terminals) → Reads ms x.1 rest → Reads (put_size x.0 ms) ts rest
unfolding size_at
size_sound [] x e ms rest reads = absurd cc
size_sound (t ∷ ts) x e ms rest reads = size_found t.what ts x e ms t rest refl reads

size_back : (n : ℕ) (s : Sign) (ts : Terminals) → Meets (size n) s → size_step s ts ≡ Some (n, ts)
size_back n (sign.Integer v k) ts h = rw (h.1, h.0) refl
size_back n _ ts h = absurd h

-- a size stands at the front
record Sized (n : ℕ) (ms : Spelling) (ts rest : Terminals) : Type 0 where
  pub next : Terminals
  pub found : size_at ts ≡ Some (n, next)
  pub reads : Reads ms next rest
  pub less : length ts ≡ suc (length next)

size_reads : (n : ℕ) (ms : Spelling) (ts rest : Terminals) → Reads (put_size n ms) ts rest → Sized n ms ts rest
unfolding size_at
size_reads n ms [] rest h = absurd h
size_reads n ms (t ∷ ts) rest h = record { next = ts; found = size_back n t.what ts h.0; reads = h.2; less = refl }

dims_sound : (m : ℕ) (done : List ℕ) (ts : Terminals) (x : List ℕ × Terminals) → dims_at m done ts ≡ Some x → (ds : List ℕ) × (x.0 ≡ done ++ ds) × ((ms : Spelling) (rest : Terminals) → Reads ms x.1 rest → Reads (dims_then ds ms) ts rest)
unfolding dims_at
dims_sound zero done ts x e =
    let z = some_is (done, ts) x e in
    ([], sym (ap (λ (y : List ℕ × Terminals). y.0) z) ∙ sym (append-nil done), λ ms rest r. subst (λ (y : Terminals). Reads ms y rest) (sym (ap (λ (y : List ℕ × Terminals). y.1) z)) r)
dims_sound (suc m) done ts x e =
    elim (found_ok (after open_bracket ts) (λ o. size_at o.1 >>= λ n. after close_bracket n.1 >>= λ c. dims_at m (done ++ n.0 ∷ []) c.1) (Some (done, ts)) (Some x) e) [
      | inl h ↦
          let z = some_is (done, ts) x h.1 in
          ([], sym (ap (λ (y : List ℕ × Terminals). y.0) z) ∙ sym (append-nil done), λ ms rest r. subst (λ (y : Terminals). Reads ms y rest) (sym (ap (λ (y : List ℕ × Terminals). y.1) z)) r)
      | inr h ↦
          let n = bind_some (size_at h.0.1) (λ n. after close_bracket n.1 >>= λ c. dims_at m (done ++ n.0 ∷ []) c.1) x h.2 in
          let c = bind_some (after close_bracket n.0.1) (λ c. dims_at m (done ++ n.0.0 ∷ []) c.1) x n.2 in
          let r = dims_sound m (done ++ n.0.0 ∷ []) c.0.1 x c.2 in (
            n.0.0 ∷ r.0,
            r.1 ∙ append_assoc done (n.0.0 ∷ []) r.0,
            λ ms rest reads.
                found_sound open_bracket [] (put_size n.0.0 (put_mark mark.CloseBracket (dims_then r.0 ms))) ts rest h.0 h.1 tt
                (size_sound h.0.1 n.0 n.1 (put_mark mark.CloseBracket (dims_then r.0 ms)) rest (found_sound close_bracket [] (dims_then r.0 ms) n.0.1 rest c.0 c.1 tt (r.2 ms rest reads))),
          )
    ]

-- what stands behind something, and isn't f
abbrev pub Without : Fixed → Spelling → Terminals → Type 0
Without f ms rest = (ts : Terminals) → Reads ms ts rest → after f ts ≡ None

record Dims (done ds : List ℕ) (m : ℕ) (ms : Spelling) (ts rest : Terminals) : Type 0 where
  pub next : Terminals
  pub found : dims_at m done ts ≡ Some (done ++ ds, next)
  pub reads : Reads ms next rest
  pub less : length next ≤ length ts

dims_stop : (m : ℕ) (done : List ℕ) (ts : Terminals) → after open_bracket ts ≡ None → dims_at m done ts ≡ Some (done ++ [], ts)
unfolding dims_at
dims_stop zero done ts e = some_pair _ _ _ _ (sym (append-nil done)) refl
dims_stop (suc m) done ts e = rw e (some_pair _ _ _ _ (sym (append-nil done)) refl)

dims_read : (m : ℕ) (done ds : List ℕ) (ms : Spelling) (ts rest : Terminals) → length ts ≤ m → Without open_bracket ms rest → Reads (dims_then ds ms) ts rest → Dims done ds m ms ts rest
unfolding dims_at
dims_read m done [] ms ts rest le none h = record { next = ts; found = dims_stop m done ts (none ts h); reads = h; less = omega arith }
dims_read zero done (d ∷ ds) ms ts rest le none h = let a = after_reads open_bracket [] (put_size d (put_mark mark.CloseBracket (dims_then ds ms))) ts rest h in let l = a.less in absurd (omega arith)
dims_read (suc m) done (d ∷ ds) ms ts rest le none h =
    let a = after_reads open_bracket [] (put_size d (put_mark mark.CloseBracket (dims_then ds ms))) ts rest h in
    let n = size_reads d (put_mark mark.CloseBracket (dims_then ds ms)) a.next rest a.reads in
    let c = after_reads close_bracket [] (dims_then ds ms) n.next rest n.reads in
    let l1 = a.less in
    let l2 = n.less in
    let l3 = c.less in
    let r = dims_read m (done ++ d ∷ []) ds ms c.next rest (omega arith) none c.reads in
    let l4 = r.less in
    record {
      next = r.next;
      found = rw (a.found, n.found, c.found) (r.found ∙ some_pair _ _ _ _ (append_assoc done (d ∷ []) ds) refl);
      reads = r.reads;
      less = omega arith;
    }

-- ---- initialisers

pub init_is : (i : Init) → init_shape i ≡ init_step (map-Init Init InitShape init_shape (out-Init i))
unfolding init_shape
init_is i = fold_out-Init InitShape init_step i

abbrev layered : Init-F Init → InitShape
layered x = init_step (map-Init Init InitShape init_shape x)

init_made : (i : Init) (x : Init-F Init) → out-Init i ≡ x → init_shape i ≡ layered x
init_made i x e = init_is i ∙ ap layered e

init_rolled : (i j : Init) (x : Init-F Init) → out-Init i ≡ x → roll-Init x ≡ j → j ≡ i
init_rolled i j x e f = sym f ∙ ap (λ (y : Init-F Init). roll-Init y) (sym e) ∙ roll-out-Init i

pub record Initial (i : Init) (ts rest : Terminals) : Type 0 where
  pub reads : Reads (init_shape i).spelling ts rest
  pub proper : (init_shape i).proper ≡ true

abbrev pub InitSound : InitReader → Type 0
InitSound I = (ts : Terminals) (x : Init × Terminals) → I ts ≡ Some x → Initial x.0 ts x.1

abbrev inits_of : List Init → List Spelling
inits_of is = map (λ s. s.spelling) (map init_shape is)

abbrev other_inits : List Init → Spelling
other_inits is = flat_map (put_mark mark.Comma) (inits_of is) ++ put_mark mark.CloseBrace []

more_inits_sound : (I : InitReader) → InitSound I → (m : ℕ) (done : List Init) (ts : Terminals) (x : List Init × Terminals) → more_inits I m done ts ≡ Some x → (js : List Init) × (x.0 ≡ done ++ js) × Reads (other_inits js) ts x.1 × (all_inits (map init_shape js) ≡ true)
unfolding more_inits
more_inits_sound I sound zero done ts x e = absurd cc
more_inits_sound I sound (suc m) done ts x e =
    elim (found_ok (after comma ts) (λ c. I c.1 >>= λ r. more_inits I m (done ++ r.0 ∷ []) r.1) (after close_brace ts >>= λ r. Some (done, r.1)) (Some x) e) [
      | inl h ↦
          let b = bind_some (after close_brace ts) (λ r. Some (done, r.1)) x h.1 in
          let q = some_is (done, b.0.1) x b.2 in
          ([], sym (ap (λ (y : List Init × Terminals). y.0) q) ∙ sym (append-nil done), found_sound close_brace [] [] ts x.1 b.0 b.1 tt (ap (λ (y : List Init × Terminals). y.1) q), refl)
      | inr h ↦
          let b = bind_some (I h.0.1) (λ r. more_inits I m (done ++ r.0 ∷ []) r.1) x h.2 in
          let w = sound h.0.1 b.0 b.1 in
          let r = more_inits_sound I sound m (done ++ b.0.0 ∷ []) b.0.1 x b.2 in (
            b.0.0 ∷ r.0,
            r.1 ∙ append_assoc done (b.0.0 ∷ []) r.0,
            subst (λ (ms : Spelling). Reads ms ts x.1) (sym (append_assoc (put_mark mark.Comma (init_shape b.0.0).spelling) (flat_map (put_mark mark.Comma) (inits_of r.0)) (put_mark mark.CloseBrace [])))
                (found_sound comma [] _ ts x.1 h.0 h.1 tt (reads_append (init_shape b.0.0).spelling _ h.0.1 b.0.1 x.1 w.reads r.2)),
            and_intro _ _ w.proper r.3,
          )
    ]

initial : (i : Init) (x : Init-F Init) (ts rest : Terminals) → out-Init i ≡ x → Reads (layered x).spelling ts rest → (layered x).proper ≡ true → Initial i ts rest
initial i x ts rest o r p = record {
  reads = subst (λ (y : InitShape). Reads y.spelling ts rest) (sym (init_made i x o)) r;
  proper = subst (λ (y : InitShape). y.proper ≡ true) (sym (init_made i x o)) p;
}

braced_sound : (I : InitReader) → InitSound I → (start : Terminals) (o : ℕ × Terminals) → after open_brace start ≡ Some o → (x : Init × Terminals) → braced_at I o.1 ≡ Some x → Initial x.0 start x.1
unfolding braced_at
braced_sound I sound start o f x e =
    let ts = o.1 in
    let b = bind_some (I ts) (λ r. more_inits I (length r.1) (r.0 ∷ []) r.1 >>= λ m. Some (init.Many m.0, m.1)) x e in
    let m = bind_some (more_inits I (length b.0.1) (b.0.0 ∷ []) b.0.1) (λ m. Some (init.Many m.0, m.1)) x b.2 in
    let w = sound ts b.0 b.1 in
    let r = more_inits_sound I sound (length b.0.1) (b.0.0 ∷ []) b.0.1 m.0 m.1 in
    let all : m.0.0 ≡ b.0.0 ∷ r.0 = r.1 in
    let z : some_of {A = Init × Terminals} (init.Many (b.0.0 ∷ r.0), m.0.1) ≡ Some x = subst (λ (y : List Init). some_of {A = Init × Terminals} (init.Many y, m.0.1) ≡ Some x) all m.2 in
    let q = some_is (init.Many (b.0.0 ∷ r.0), m.0.1) x z in
    subst (λ (y : Init × Terminals). Initial y.0 start y.1) q
    (initial (init.Many (b.0.0 ∷ r.0)) (layer.Many (b.0.0 ∷ r.0)) start m.0.1 (outs-Many (b.0.0 ∷ r.0))
    (found_sound open_brace [] _ start m.0.1 o f tt
    (subst (λ (ms : Spelling). Reads ms ts m.0.1) (sym (append_assoc (init_shape b.0.0).spelling (flat_map (put_mark mark.Comma) (inits_of r.0)) (put_mark mark.CloseBrace [])))
    (reads_append (init_shape b.0.0).spelling _ ts b.0.1 m.0.1 w.reads r.2)))
    (and_intro _ _ w.proper r.3))

one_sound : (E : Reader) → Sound E → InitSound (one_init E)
unfolding one_init
one_sound E sound ts x e =
    let b = bind_some (E 1 ts) (λ e. Some (init.One e.0, e.1)) x e in
    let w = sound 1 ts b.0 (omega arith) (omega arith) b.1 in
    let q = some_is (init.One b.0.0, b.0.1) x b.2 in
    subst (λ (y : Init × Terminals). Initial y.0 ts y.1) q (initial (init.One b.0.0) (layer.One b.0.0) ts b.0.1 (outs-One b.0.0) w.left.reads w.left.proper)

pub init_sound : (E : Reader) → Sound E → (n : ℕ) → InitSound (init_at n E)
unfolding init_at
init_sound E sound zero ts x e = absurd cc
init_sound E sound (suc n) ts x e =
    elim (found_ok (after open_brace ts) (λ o. braced_at (init_at n E) o.1) (one_init E ts) (Some x) e) [
      | inl h ↦ one_sound E sound ts x h.1
      | inr h ↦ braced_sound (init_at n E) (init_sound E sound n) ts h.0 h.1 x h.2
    ]

abbrev pub InitComplete : InitReader → ℕ → Type 0
InitComplete I n = (i : Init) (ts rest : Terminals) → length ts < n → Initial i ts rest → Ends rest → I ts ≡ Some (i, rest)

pub brace_ends : IsEnd (sign.Mark mark.CloseBrace)
unfolding same_mark
brace_ends = (refl, refl)

brace_comma : is_fixed comma (sign.Mark mark.CloseBrace) ≡ false
unfolding same_mark
brace_comma = refl

inits_end : (is : List Init) (ts rest : Terminals) → Reads (other_inits is) ts rest → Ends ts
inits_end [] ts rest h = sign_ends (sign.Mark mark.CloseBrace) [] [] ts rest brace_ends h
inits_end (i ∷ is) ts rest h = sign_ends (sign.Mark mark.Comma) [] _ ts rest comma_ends h

more_inits_read : (I : InitReader) (n : ℕ) → InitComplete I n → (m : ℕ) (done is : List Init) (ts rest : Terminals) → length ts < n → length ts ≤ m → all_inits (map init_shape is) ≡ true → Reads (other_inits is) ts rest → more_inits I m done ts ≡ Some (done ++ is, rest)
unfolding more_inits
more_inits_read I n all zero done [] ts rest lt le p h = let a = after_reads close_brace [] [] ts rest h in let l = a.less in absurd (omega arith)
more_inits_read I n all zero done (i ∷ is) ts rest lt le p h = let a = after_reads comma [] ((init_shape i).spelling ++ flat_map (put_mark mark.Comma) (inits_of is) ++ put_mark mark.CloseBrace []) ts rest h in let l = a.less in absurd (omega arith)
more_inits_read I n all (suc m) done [] ts rest lt le p h =
    let a = after_reads close_brace [] [] ts rest h in
    rw (not_other (sign.Mark mark.CloseBrace) comma [] [] ts rest brace_comma h, a.found) (some_pair _ _ _ _ (sym (append-nil done)) a.reads)
more_inits_read I n all (suc m) done (i ∷ is) ts rest lt le p h =
    let q = and_elim _ _ p in
    let a = after_reads comma [] ((init_shape i).spelling ++ other_inits is) ts rest (subst (λ (ms : Spelling). Reads ms ts rest) (append_assoc (put_mark mark.Comma (init_shape i).spelling) (flat_map (put_mark mark.Comma) (inits_of is)) (put_mark mark.CloseBrace [])) h) in
    let r = reads_split (init_shape i).spelling (other_inits is) a.next rest a.reads in
    let long = a.less in
    let short = reads_length (init_shape i).spelling a.next r.0 r.1 in
    let one = all i a.next r.0 (omega arith) (record { reads = r.1; proper = q.0 }) (inits_end is r.0 rest r.2) in
    let more = more_inits_read I n all m (done ++ i ∷ []) is r.0 rest (omega arith) (omega arith) q.1 r.2 in
    rw (a.found, one, more) (rw append_assoc refl)

braced_read : (I : InitReader) (n : ℕ) → InitComplete I n → (is : List Init) (ts rest : Terminals) → length ts < n → (not (is_empty (map init_shape is)) && all_inits (map init_shape is)) ≡ true → Reads (commas (inits_of is) ++ put_mark mark.CloseBrace []) ts rest → braced_at I ts ≡ Some (init.Many is, rest)
unfolding braced_at
braced_read I n all [] ts rest lt p h = absurd cc
braced_read I n all (i ∷ is) ts rest lt p h =
    let q = and_elim _ _ p in
    let r = reads_split (init_shape i).spelling (other_inits is) ts rest (subst (λ (ms : Spelling). Reads ms ts rest) (append_assoc (init_shape i).spelling (flat_map (put_mark mark.Comma) (inits_of is)) (put_mark mark.CloseBrace [])) h) in
    let short = reads_length (init_shape i).spelling ts r.0 r.1 in
    let one = all i ts r.0 lt (record { reads = r.1; proper = q.0 }) (inits_end is r.0 rest r.2) in
    let more = more_inits_read I n all (length r.0) (i ∷ []) is r.0 rest (omega arith) (omega arith) q.1 r.2 in
    rw (one, more) refl

init_step_read : (E : Reader) (m : ℕ) → Complete E m → (n : ℕ) → InitComplete (init_at n E) n → (i : Init) (x : Init-F Init) → out-Init i ≡ x → (ts rest : Terminals) → length ts < suc n → length ts < m → Initial i ts rest → Ends rest → found (after open_brace ts) (λ o. braced_at (init_at n E) o.1) (one_init E ts) ≡ Some (i, rest)
unfolding one_init
init_step_read E m all n more i (layer.One e) o ts rest lt le h ends =
    let q = init_made i (layer.One e) o in
    let r = subst (λ (y : InitShape). Reads y.spelling ts rest) q h.reads in
    let p = subst (λ (y : InitShape). y.proper ≡ true) q h.proper in
    let f = any_read E m all e ts rest le p r ends in
    rw (starts_not open_brace refl e ts rest r, f) (some_pair _ _ _ _ (init_rolled i _ _ o (rolls-One e)) refl)
init_step_read E m all n more i (layer.Many is) o ts rest lt le h ends =
    let q = init_made i (layer.Many is) o in
    let r = subst (λ (y : InitShape). Reads y.spelling ts rest) q h.reads in
    let p = subst (λ (y : InitShape). y.proper ≡ true) q h.proper in
    let a = after_reads open_brace [] (commas (inits_of is) ++ put_mark mark.CloseBrace []) ts rest r in
    let l = a.less in
    let f = braced_read (init_at n E) n more is a.next rest (omega arith) p a.reads in
    rw (a.found, f) (some_pair _ _ _ _ (init_rolled i _ _ o (rolls-Many is)) refl)

pub init_complete : (E : Reader) (m : ℕ) → Complete E m → (n : ℕ) → n ≤ m → InitComplete (init_at n E) n
unfolding init_at
init_complete E m all zero le i ts rest lt h ends = absurd (omega arith)
init_complete E m all (suc n) le i ts rest lt h ends = init_step_read E m all n (init_complete E m all n (omega arith)) i (out-Init i) refl ts rest lt (omega arith) h ends

-- ---- declarators

same_base_is : (a b : Base) → same_base a b ≡ true → a ≡ b
same_base_is base.Void base.Void e = refl
same_base_is (base.Kind a) (base.Kind b) e = ap (λ (y : IntKind). base.Kind y) (same_true kind_type tt a b e)
same_base_is base.Real base.Real e = refl
same_base_is (base.Tag a) (base.Tag b) e = ap (λ (y : Word). base.Tag y) ((bytes_eq-Decides a b).0 e)
same_base_is _ _ e = absurd cc

same_base_self : (a : Base) → same_base a a ≡ true
same_base_self base.Void = refl
same_base_self (base.Kind a) = true_same kind_type a a refl
same_base_self base.Real = refl
same_base_self (base.Tag a) = (bytes_eq-Decides a a).1 refl

-- a name that was read
pub record Name (allowed : Bool) (b : Base) (f o : ℕ) (d : Declarator) (ts rest : Terminals) : Type 0 where
  pub reads : Reads (declarator d) ts rest
  pub proper : is_declarator allowed b d ≡ true
  pub of_base : base_of d ≡ b
  pub at_base : Fits (floating_lines (held_by d.ctype) d.second) f
  pub at_first : Fits (other_lines (held_by d.ctype) d.second) o

initialised_sound : (allowed : Bool) (I : InitReader) → InitSound I → (ts : Terminals) (x : Option Init × Terminals) → initialised allowed I ts ≡ Some x → Reads (initialiser x.0) ts x.1 × (init_allowed allowed x.0 ≡ true)
unfolding initialised
initialised_sound false I sound ts x e =
    let z = some_is (None, ts) x e in
    subst (λ (y : Option Init × Terminals). Reads (initialiser y.0) ts y.1 × (init_allowed false y.0 ≡ true)) z (refl, refl)
initialised_sound true I sound ts x e =
    elim (found_ok (after assign ts) (λ a. I a.1 >>= λ i. Some (Some i.0, i.1)) (Some (None, ts)) (Some x) e) [
      | inl h ↦
          let z = some_is (None, ts) x h.1 in
          subst (λ (y : Option Init × Terminals). Reads (initialiser y.0) ts y.1 × (init_allowed true y.0 ≡ true)) z (refl, refl)
      | inr h ↦
          let i = bind_some (I h.0.1) (λ i. Some (Some i.0, i.1)) x h.2 in
          let w = sound h.0.1 i.0 i.1 in
          let z = some_is (Some i.0.0, i.0.1) x i.2 in
          subst (λ (y : Option Init × Terminals). Reads (initialiser y.0) ts y.1 × (init_allowed true y.0 ≡ true)) z
          (found_sound assign [] (init_shape i.0.0).spelling ts i.0.1 h.0 h.1 tt w.reads, w.proper)
    ]

-- a declarator, of whose type the shape is known
declarator_by : (d : Declarator) (s : TypeShape) → type_shape d.ctype ≡ s → (ts rest : Terminals) → Reads (stars_on (star_lines (holder s.stars s.base) d.second) s.stars (put_at d.line (sign.Name d.name) (dims_then s.dims (initialiser d.init)))) ts rest → Reads (declarator d) ts rest
unfolding declarator
declarator_by d s e ts rest h = subst (λ (y : TypeShape). Reads (stars_on (star_lines (holder y.stars y.base) d.second) y.stars (put_at d.line (sign.Name d.name) (dims_then y.dims (initialiser d.init)))) ts rest) (sym e) h

name_sound_from : (allowed : Bool) (I : InitReader) → InitSound I → (b : Base) (f o : ℕ) (ts : Terminals) (t : CType) (next : Terminals) → Pointed b 0 ts (t, next) → (x : Declarator × Terminals) → name_from allowed I (second_at b f o ts) (t, next) ≡ Some x → Name allowed b f o x.0 ts x.1
unfolding name_from
name_sound_from allowed I sound b f o ts t next w x e =
    let second = second_at b f o ts in
    let n = bind_some (name_at next) (λ n. dims_at (length n.2) [] n.2 >>= λ d. initialised allowed I d.1 >>= λ i. Some (named_as t d.0 n.0 n.1 second i.0, i.1)) x e in
    let d = bind_some (dims_at (length n.0.2) [] n.0.2) (λ d. initialised allowed I d.1 >>= λ i. Some (named_as t d.0 n.0.0 n.0.1 second i.0, i.1)) x n.2 in
    let i = bind_some (initialised allowed I d.0.1) (λ i. Some (named_as t d.0.0 n.0.0 n.0.1 second i.0, i.1)) x d.2 in
    let ds = dims_sound (length n.0.2) [] n.0.2 d.0 d.1 in
    let v = initialised_sound allowed I sound d.0.1 i.0 i.1 in
    let made = named_as t d.0.0 n.0.0 n.0.1 second i.0.0 in
    let z = some_is (made, i.0.1) x i.2 in
    let zero-more : w.count + 0 ≡ w.count = omega arith in
    let plain : type_shape t ≡ shape_of b w.count [] = w.shape ∙ ap (λ (y : ℕ). shape_of b y []) zero-more in
    let whole : type_shape (arrayed t d.0.0) ≡ shape_of b w.count d.0.0 = arrayed_is t b w.count d.0.0 plain in
    let behind : Reads (dims_then d.0.0 (initialiser i.0.0)) n.0.2 i.0.1 =
    subst (λ (y : List ℕ). Reads (dims_then y (initialiser i.0.0)) n.0.2 i.0.1) (sym ds.1) (ds.2 (initialiser i.0.0) i.0.1 v.0) in
    let at_name : Reads (put_at n.0.1 (sign.Name n.0.0) (dims_then d.0.0 (initialiser i.0.0))) next i.0.1 = name_sound (n.0.1 ∷ []) (dims_then d.0.0 (initialiser i.0.0)) next i.0.1 n.0 n.1 (refl, tt) behind in
    let h = holder w.count b in
    let is_second = w.second f o in
    subst (λ (y : Declarator × Terminals). Name allowed b f o y.0 ts y.1) z (record {
      reads = declarator_by made (shape_of b w.count d.0.0) whole ts i.0.1
          (w.reads (star_lines h second) _ i.0.1 (subst (λ (y : ℕ). Fits (star_lines h y) (line_of ts)) (sym is_second) (star_fits h (line_of ts) f o)) at_name);
      proper = and_intro _ _ (ap (λ (y : TypeShape). y.proper) whole) (and_intro _ _ (subst (λ (y : TypeShape). same_base b y.base ≡ true) (sym whole) (same_base_self b)) v.1);
      of_base = ap (λ (y : TypeShape). y.base) whole;
      at_base = subst (λ (y : TypeShape). Fits (floating_lines (holder y.stars y.base) second) f) (sym whole) (subst (λ (y : ℕ). Fits (floating_lines h y) f) (sym is_second) (floating_fits h (line_of ts) f o));
      at_first = subst (λ (y : TypeShape). Fits (other_lines (holder y.stars y.base) second) o) (sym whole) (subst (λ (y : ℕ). Fits (other_lines h y) o) (sym is_second) (other_fits h (line_of ts) f o));
    })

pub declarator_sound : (allowed : Bool) (I : InitReader) → InitSound I → (b : Base) (f o : ℕ) (ts : Terminals) (x : Declarator × Terminals) → declarator_at allowed I b f o ts ≡ Some x → Name allowed b f o x.0 ts x.1
unfolding declarator_at
declarator_sound allowed I sound b f o ts x e =
    let p = pointers_at (length ts) (type_of b) ts in
    name_sound_from allowed I sound b f o ts p.0 p.1 (pointers_sound (length ts) b 0 (type_of b) ts (omega arith) (plain_is b)) x e

-- what may stand behind a declarator
pub record Closes (ts : Terminals) : Type 0 where
  pub ends : Ends ts
  pub bracket : after open_bracket ts ≡ None
  pub assigned : after assign ts ≡ None

abbrev pub IsStop : Sign → Type 0
IsStop s = IsEnd s × (is_fixed open_bracket s ≡ false) × (is_fixed assign s ≡ false)

pub stop_closes : (s : Sign) (lines : List ℕ) (ms : Spelling) (ts rest : Terminals) → IsStop s → Reads (put_on lines s ms) ts rest → Closes ts
stop_closes s lines ms ts rest q h = record { ends = sign_ends s lines ms ts rest q.0 h; bracket = not_other s open_bracket lines ms ts rest q.1 h; assigned = not_other s assign lines ms ts rest q.2 h }

pub comma_stops : IsStop (sign.Mark mark.Comma)
unfolding same_mark
comma_stops = ((refl, refl), refl, refl)

pub semicolon_stops : IsStop (sign.Mark mark.Semicolon)
unfolding same_mark
semicolon_stops = ((refl, refl), refl, refl)

pub close_stops : IsStop (sign.Mark mark.CloseParen)
unfolding same_mark
close_stops = ((refl, refl), refl, refl)

assign_bracket : is_fixed open_bracket (sign.Mark mark.Assign) ≡ false
unfolding same_mark
assign_bracket = refl

no_bracket : (i : Option Init) (rest : Terminals) → Closes rest → Without open_bracket (initialiser i) rest
no_bracket None rest c ts h = subst (λ (y : Terminals). after open_bracket y ≡ None) (sym h) c.bracket
no_bracket (Some i) rest c ts h = not_other (sign.Mark mark.Assign) open_bracket [] (init_shape i).spelling ts rest assign_bracket h

initialised_read : (allowed : Bool) (I : InitReader) (n : ℕ) → InitComplete I n → (i : Option Init) (ts rest : Terminals) → length ts < n → init_allowed allowed i ≡ true → Closes rest → Reads (initialiser i) ts rest → initialised allowed I ts ≡ Some (i, rest)
unfolding initialised
initialised_read false I n all None ts rest lt p c h = some_pair _ _ _ _ refl h
initialised_read false I n all (Some i) ts rest lt p c h = absurd cc
initialised_read true I n all None ts rest lt p c h = let e : after assign ts ≡ None = subst (λ (y : Terminals). after assign y ≡ None) (sym h) c.assigned in rw e (some_pair _ _ _ _ refl h)
initialised_read true I n all (Some i) ts rest lt p c h =
    let a = after_reads assign [] (init_shape i).spelling ts rest h in
    let l = a.less in
    let r = all i a.next rest (omega arith) (record { reads = a.reads; proper = p }) c.ends in
    rw (a.found, r) refl

no_star_name : (line : ℕ) (name : Word) (ms : Spelling) (rest : Terminals) → Without asterisk (put_at line (sign.Name name) ms) rest
no_star_name line name ms rest ts h = not_other (sign.Name name) asterisk (line ∷ []) ms ts rest refl h

-- the parts of a proper type
pub made_type : (t : CType) → (type_shape t).proper ≡ true → arrayed (pointed (type_of (type_shape t).base) (type_shape t).stars) (type_shape t).dims ≡ t
made_type t p = as_arrayed _ (type_shape t).dims ∙ type_is_made t p
  where
    as_arrayed : (u : CType) (ds : List ℕ) → arrayed u ds ≡ Rattle.cl_parse_expr.proofs.TypeNames.arrayed u ds
    as_arrayed u [] = refl
    as_arrayed u (d ∷ ds) = ap (λ (y : CType). Rattle.cl_tree.specs.declared.tree.CType.TheVariants.Array y d) (as_arrayed u ds)

-- what is to be known of a name to read it
pub record IsName (allowed : Bool) (b : Base) (f o : ℕ) (d : Declarator) (ts rest : Terminals) : Type 0 where
  pub reads : Reads (declarator d) ts rest
  pub proper : is_declarator allowed b d ≡ true
  pub at_base : Fits (floating_lines (held_by d.ctype) d.second) f
  pub at_first : Fits (other_lines (held_by d.ctype) d.second) o

pub declarator_opened : (d : Declarator) (ts rest : Terminals) → Reads (declarator d) ts rest → Reads (stars_on (star_lines (held_by d.ctype) d.second) (type_shape d.ctype).stars (put_at d.line (sign.Name d.name) (dims_then (type_shape d.ctype).dims (initialiser d.init)))) ts rest
unfolding declarator
declarator_opened d ts rest h = h

pub declarator_read : (allowed : Bool) (I : InitReader) (n : ℕ) → InitComplete I n → (b : Base) (f o : ℕ) (d : Declarator) (ts rest : Terminals) → length ts < n → IsName allowed b f o d ts rest → Closes rest → declarator_at allowed I b f o ts ≡ Some (d, rest)
unfolding declarator_at name_from
declarator_read allowed I n all b f o d ts rest lt h c =
    let s = type_shape d.ctype in
    let q = and_elim _ _ h.proper in
    let v = and_elim _ _ q.1 in
    let same : b ≡ s.base = same_base_is b s.base v.0 in
    let inner : Spelling = dims_then s.dims (initialiser d.init) in
    let w = pointers_read (length ts) s.stars s.base (star_lines (held_by d.ctype) d.second) (type_of s.base) (put_at d.line (sign.Name d.name) inner) ts rest (omega arith) (no_star_name d.line d.name inner rest) (declarator_opened d ts rest h.reads) in
    let m = name_reads (d.line ∷ []) d.name inner w.next rest w.reads in
    let l1 = w.less in
    let l2 = m.less in
    let ds = dims_read (length m.next) [] s.dims (initialiser d.init) m.next rest (omega arith) (no_bracket d.init rest c) m.reads in
    let l3 = ds.less in
    let i = initialised_read allowed I n all d.init ds.next rest (omega arith) v.1 c ds.reads in
    let second : second_at s.base f o ts ≡ d.second = w.second f o ∙ second_back s.stars s.base d.second (line_of ts) f o w.fits h.at_base h.at_first in
    let at_line : m.line ≡ d.line = m.fits.0 in
    rw (same, w.found, m.found, ds.found, i, second, at_line) (ap (λ (y : CType). some_of {A = Declarator × Terminals} (record { name = d.name; ctype = y; init = d.init; line = d.line; second = d.second }, rest)) (made_type d.ctype q.0))

-- ---- names

abbrev pub other_names : List Declarator → Spelling
other_names ds = flat_map (put_mark mark.Comma) (map declarator ds)

-- names that were read
pub record Names (allowed : Bool) (b : Base) (f o : ℕ) (ds : List Declarator) : Type 0 where
  pub proper : all_declarators allowed b ds ≡ true
  pub at_base : Fits (base_lines ds) f
  pub at_first : Fits (first_lines ds) o

one_more_name : (allowed : Bool) (b : Base) (f o : ℕ) (d : Declarator) (ds : List Declarator) (ts rest : Terminals) → Name allowed b f o d ts rest → Names allowed b f o ds → Names allowed b f o (d ∷ ds)
one_more_name allowed b f o d ds ts rest n ns = record { proper = and_intro _ _ n.proper ns.proper; at_base = fits_append _ _ f n.at_base ns.at_base; at_first = fits_append _ _ o n.at_first ns.at_first }

more_names_sound : (allowed : Bool) (I : InitReader) → InitSound I → (b : Base) (f o m : ℕ) (done : List Declarator) (ts : Terminals) (x : List Declarator × Terminals) → more_names allowed I b f o m done ts ≡ Some x → (ds : List Declarator) × (x.0 ≡ done ++ ds) × Reads (other_names ds) ts x.1 × Names allowed b f o ds
unfolding more_names
more_names_sound allowed I sound b f o zero done ts x e = absurd cc
more_names_sound allowed I sound b f o (suc m) done ts x e =
    elim (found_ok (after comma ts) (λ c. declarator_at allowed I b f o c.1 >>= λ r. more_names allowed I b f o m (done ++ r.0 ∷ []) r.1) (Some (done, ts)) (Some x) e) [
      | inl h ↦
          let q = some_is (done, ts) x h.1 in
          ([], sym (ap (λ (y : List Declarator × Terminals). y.0) q) ∙ sym (append-nil done), ap (λ (y : List Declarator × Terminals). y.1) q, record { proper = refl; at_base = tt; at_first = tt })
      | inr h ↦
          let d = bind_some (declarator_at allowed I b f o h.0.1) (λ r. more_names allowed I b f o m (done ++ r.0 ∷ []) r.1) x h.2 in
          let w = declarator_sound allowed I sound b f o h.0.1 d.0 d.1 in
          let r = more_names_sound allowed I sound b f o m (done ++ d.0.0 ∷ []) d.0.1 x d.2 in (
            d.0.0 ∷ r.0,
            r.1 ∙ append_assoc done (d.0.0 ∷ []) r.0,
            found_sound comma [] (declarator d.0.0 ++ other_names r.0) ts x.1 h.0 h.1 tt (reads_append (declarator d.0.0) (other_names r.0) h.0.1 d.0.1 x.1 w.reads r.2),
            one_more_name allowed b f o d.0.0 r.0 h.0.1 d.0.1 w r.3,
          )
    ]

-- the names of a declaration
pub record Named_all (allowed : Bool) (b : Base) (f o : ℕ) (ds : List Declarator) (ts rest : Terminals) : Type 0 where
  pub reads : Reads (commas (map declarator ds)) ts rest
  pub proper : are_names allowed ds ≡ true
  pub of_base : common_base ds ≡ b
  pub at_base : Fits (base_lines ds) f
  pub at_first : Fits (first_lines ds) o

names_at_sound : (allowed : Bool) (I : InitReader) → InitSound I → (b : Base) → not (is_void b) ≡ true → (f o : ℕ) (ts : Terminals) (x : List Declarator × Terminals) → names_at allowed I b f o ts ≡ Some x → Named_all allowed b f o x.0 ts x.1
unfolding names_at
names_at_sound allowed I sound b void f o ts x e =
    let d = bind_some (declarator_at allowed I b f o ts) (λ r. more_names allowed I b f o (suc (length r.1)) (r.0 ∷ []) r.1) x e in
    let w = declarator_sound allowed I sound b f o ts d.0 d.1 in
    let r = more_names_sound allowed I sound b f o (suc (length d.0.1)) (d.0.0 ∷ []) d.0.1 x d.2 in
    let ns = one_more_name allowed b f o d.0.0 r.0 ts d.0.1 w r.3 in
    subst (λ (y : List Declarator). Named_all allowed b f o y ts x.1) (sym r.1) (record {
      reads = reads_append (declarator d.0.0) (other_names r.0) ts d.0.1 x.1 w.reads r.2;
      proper = subst (λ (y : Base). (not (is_void y) && all_declarators allowed y (d.0.0 ∷ r.0)) ≡ true) (sym w.of_base) (and_intro _ _ void ns.proper);
      of_base = w.of_base;
      at_base = ns.at_base;
      at_first = ns.at_first;
    })

pub names_sound : (allowed : Bool) (I : InitReader) → InitSound I → (b : Base) (f o : ℕ) (ts : Terminals) (x : List Declarator × Terminals) → names_of allowed I b f o ts ≡ Some x → Named_all allowed b f o x.0 ts x.1
names_sound allowed I sound base.Void f o ts x e = absurd cc
names_sound allowed I sound (base.Kind k) f o ts x e = names_at_sound allowed I sound (base.Kind k) refl f o ts x e
names_sound allowed I sound base.Real f o ts x e = names_at_sound allowed I sound base.Real refl f o ts x e
names_sound allowed I sound (base.Tag n) f o ts x e = names_at_sound allowed I sound (base.Tag n) refl f o ts x e

-- what stands behind the names of a declaration
pub record Follows (ms : Spelling) (rest : Terminals) : Type 0 where
  pub closes : (ts : Terminals) → Reads ms ts rest → Closes ts
  pub comma : Without Rattle.cl_parse_expr.specs.Reading.comma ms rest

names_close : (ds : List Declarator) (ms : Spelling) (ts rest : Terminals) → Follows ms rest → Reads (other_names ds ++ ms) ts rest → Closes ts
names_close [] ms ts rest k h = k.closes ts h
names_close (d ∷ ds) ms ts rest k h = stop_closes (sign.Mark mark.Comma) [] _ ts rest comma_stops h

record Listing (allowed : Bool) (I : InitReader) (b : Base) (f o m : ℕ) (done ds : List Declarator) (ms : Spelling) (ts rest : Terminals) : Type 0 where
  pub next : Terminals
  pub found : more_names allowed I b f o m done ts ≡ Some (done ++ ds, next)
  pub reads : Reads ms next rest
  pub less : length next ≤ length ts

more_names_read : (allowed : Bool) (I : InitReader) (n : ℕ) → InitComplete I n → (b : Base) (f o m : ℕ) (done ds : List Declarator) (ms : Spelling) (ts rest : Terminals) → length ts < n → length ts < m → Names allowed b f o ds → Follows ms rest → Reads (other_names ds ++ ms) ts rest → Listing allowed I b f o m done ds ms ts rest
unfolding more_names
more_names_read allowed I n all b f o zero done ds ms ts rest lt le p k h = absurd (omega arith)
more_names_read allowed I n all b f o (suc m) done [] ms ts rest lt le p k h =
    record { next = ts; found = let e = k.comma ts h in rw e (some_pair _ _ _ _ (sym (append-nil done)) refl); reads = h; less = omega arith }
more_names_read allowed I n all b f o (suc m) done (d ∷ ds) ms ts rest lt le p k h =
    let a = after_reads comma [] (declarator d ++ (other_names ds ++ ms)) ts rest (subst (λ (y : Spelling). Reads y ts rest) (append_assoc (put_mark mark.Comma (declarator d)) (other_names ds) ms) h) in
    let r = reads_split (declarator d) (other_names ds ++ ms) a.next rest a.reads in
    let q = and_elim _ _ p.proper in
    let fb = fits_split _ _ f p.at_base in
    let fo = fits_split _ _ o p.at_first in
    let long = a.less in
    let short = reads_length (declarator d) a.next r.0 r.1 in
    let one = declarator_read allowed I n all b f o d a.next r.0 (omega arith) (record { reads = r.1; proper = q.0; at_base = fb.0; at_first = fo.0 }) (names_close ds ms r.0 rest k r.2) in
    let more = more_names_read allowed I n all b f o m (done ++ d ∷ []) ds ms r.0 rest (omega arith) (omega arith) (record { proper = q.1; at_base = fb.1; at_first = fo.1 }) k r.2 in
    let l = more.less in
    record {
      next = more.next;
      found = rw (a.found, one) (more.found ∙ some_pair _ _ _ _ (append_assoc done (d ∷ []) ds) refl);
      reads = more.reads;
      less = omega arith;
    }

pub record NamesRead (allowed : Bool) (I : InitReader) (f o : ℕ) (ds : List Declarator) (ms : Spelling) (ts rest : Terminals) : Type 0 where
  pub next : Terminals
  pub found : names_of allowed I (common_base ds) f o ts ≡ Some (ds, next)
  pub reads : Reads ms next rest
  pub less : length next ≤ length ts

names_unvoid : (allowed : Bool) (I : InitReader) (b : Base) (f o : ℕ) (ts : Terminals) → not (is_void b) ≡ true → names_of allowed I b f o ts ≡ names_at allowed I b f o ts
names_unvoid allowed I base.Void f o ts e = absurd cc
names_unvoid allowed I (base.Kind k) f o ts e = refl
names_unvoid allowed I base.Real f o ts e = refl
names_unvoid allowed I (base.Tag n) f o ts e = refl

pub names_read : (allowed : Bool) (I : InitReader) (n : ℕ) → InitComplete I n → (f o : ℕ) (ds : List Declarator) (ms : Spelling) (ts rest : Terminals) → length ts < n → are_names allowed ds ≡ true → Fits (base_lines ds) f → Fits (first_lines ds) o → Follows ms rest → Reads (commas (map declarator ds) ++ ms) ts rest → NamesRead allowed I f o ds ms ts rest
unfolding names_at
names_read allowed I n all f o [] ms ts rest lt p fb fo k h = absurd cc
names_read allowed I n all f o (d ∷ ds) ms ts rest lt p fb fo k h =
    let q = and_elim _ _ p in
    let v = and_elim _ _ q.1 in
    let r = reads_split (declarator d) (other_names ds ++ ms) ts rest (subst (λ (y : Spelling). Reads y ts rest) (append_assoc (declarator d) (other_names ds) ms) h) in
    let sb = fits_split _ _ f fb in
    let so = fits_split _ _ o fo in
    let short = reads_length (declarator d) ts r.0 r.1 in
    let one = declarator_read allowed I n all (base_of d) f o d ts r.0 lt (record { reads = r.1; proper = v.0; at_base = sb.0; at_first = so.0 }) (names_close ds ms r.0 rest k r.2) in
    let more = more_names_read allowed I n all (base_of d) f o (suc (length r.0)) (d ∷ []) ds ms r.0 rest (omega arith) (omega arith) (record { proper = v.1; at_base = sb.1; at_first = so.1 }) k r.2 in
    let l = more.less in
    record {
      next = more.next;
      found = names_unvoid allowed I (base_of d) f o ts q.0 ∙ rw (one, more.found) refl;
      reads = more.reads;
      less = omega arith;
    }

-- ---- declarations

base_line_step : (l : ℕ) (s : Sign) (ts : Terminals) (x : Base × ℕ × Terminals) → base_step l s ts ≡ Some x → x.1 ≡ l
base_line_step l (sign.Kind k) ts x e = sym (ap (λ (y : Base × ℕ × Terminals). y.1) (some_is (base.Kind k, l, ts) x e))
base_line_step l sign.Real ts x e = sym (ap (λ (y : Base × ℕ × Terminals). y.1) (some_is (base.Real, l, ts) x e))
base_line_step l (sign.Key key.Void) ts x e = sym (ap (λ (y : Base × ℕ × Terminals). y.1) (some_is (base.Void, l, ts) x e))
base_line_step l (sign.Key key.Struct) ts x e =
    let n = bind_some (name_at ts) (λ n. Some (base.Tag n.0, l, n.2)) x e in
    sym (ap (λ (y : Base × ℕ × Terminals). y.1) (some_is (base.Tag n.0.0, l, n.0.2) x n.2))
base_line_step l _ ts x e = absurd cc

pub base_line : (ts : Terminals) (x : Base × ℕ × Terminals) → base_at ts ≡ Some x → x.1 ≡ line_of ts
unfolding base_at
base_line [] x e = absurd cc
base_line (t ∷ ts) x e = base_line_step t.line t.what ts x e

abbrev pub static_key : Fixed
static_key = fixed.Key key.Static

pub declared_plain : (lines : List ℕ) (first : ℕ) (us : Terminals) (b : Base × ℕ × Terminals) → base_at us ≡ Some b → first ≡ line_of us → Fits lines first → (n : List Declarator × Terminals) → Named_all true b.0 b.1 first n.0 b.2 n.1 → Reads (declared lines false n.0) us n.1
declared_plain lines first us b e same fits n w =
    let at : first ≡ b.1 = same ∙ sym (base_line us b e) in
    let f = fits_append lines _ b.1 (subst (λ (y : ℕ). Fits lines y) at fits) (fits_append _ _ b.1 (subst (λ (y : ℕ). Fits (first_lines n.0) y) at w.at_first) w.at_base) in
    subst (λ (y : Base). Reads (base_on (lines ++ (first_lines n.0 ++ base_lines n.0)) y (commas (map declarator n.0))) us n.1) (sym w.of_base)
    (base_sound us b e (lines ++ (first_lines n.0 ++ base_lines n.0)) (commas (map declarator n.0)) n.1 f w.reads)

pub declared_static : (lines : List ℕ) (ts : Terminals) (s : ℕ × Terminals) → after static_key ts ≡ Some s → (b : Base × ℕ × Terminals) → base_at s.1 ≡ Some b → Fits lines s.0 → (n : List Declarator × Terminals) → Named_all true b.0 b.1 s.0 n.0 b.2 n.1 → Reads (declared lines true n.0) ts n.1
declared_static lines ts s found-static b e fits n w =
    found_sound static_key (lines ++ first_lines n.0) _ ts n.1 s found-static (fits_append lines _ s.0 fits w.at_first)
    (subst (λ (y : Base). Reads (base_on (base_lines n.0) y (commas (map declarator n.0))) s.1 n.1) (sym w.of_base)
    (base_sound s.1 b e (base_lines n.0) (commas (map declarator n.0)) n.1 w.at_base w.reads))

pub base_append : (lines : List ℕ) (b : Base) (xs ms : Spelling) → base_on lines b xs ++ ms ≡ base_on lines b (xs ++ ms)
base_append lines base.Void xs ms = refl
base_append lines (base.Kind k) xs ms = refl
base_append lines base.Real xs ms = refl
base_append lines (base.Tag n) xs ms = refl

-- a declaration that is spelled, and what stands behind it
pub record DeclaredRead (I : InitReader) (lines : List ℕ) (ds : List Declarator) (ms : Spelling) (first : ℕ) (ts rest : Terminals) : Type 0 where
  pub floating : ℕ
  pub behind : Terminals
  pub base : base_at ts ≡ Some (common_base ds, floating, behind)
  pub next : Terminals
  pub names : names_of true I (common_base ds) floating first behind ≡ Some (ds, next)
  pub fits : Fits lines first
  pub reads : Reads ms next rest
  pub less : length next < length ts

pub plain_read : (I : InitReader) (n : ℕ) → InitComplete I n → (lines : List ℕ) (ds : List Declarator) (ms : Spelling) (ts rest : Terminals) → length ts < n → are_names true ds ≡ true → Follows ms rest → Reads (declared lines false ds ++ ms) ts rest → DeclaredRead I lines ds ms (line_of ts) ts rest
plain_read I n all lines ds ms ts rest lt p k h =
    let b = base_reads (lines ++ (first_lines ds ++ base_lines ds)) (common_base ds) (commas (map declarator ds) ++ ms) ts rest (subst (λ (y : Spelling). Reads y ts rest) (base_append _ (common_base ds) (commas (map declarator ds)) ms) h) in
    let f = fits_split lines _ b.line b.fits in
    let g = fits_split (first_lines ds) (base_lines ds) b.line f.1 in
    let less = b.less in
    let r = names_read true I n all b.line (line_of ts) ds ms b.next rest (omega arith) p g.1 (subst (λ (y : ℕ). Fits (first_lines ds) y) b.first g.0) k b.reads in
    let more = r.less in
    record { floating = b.line; behind = b.next; base = b.found; next = r.next; names = r.found; fits = subst (λ (y : ℕ). Fits lines y) b.first f.0; reads = r.reads; less = omega arith }

-- behind its `static`
pub record StaticRead (I : InitReader) (lines : List ℕ) (ds : List Declarator) (ms : Spelling) (ts rest : Terminals) : Type 0 where
  pub line : ℕ
  pub behind : Terminals
  pub found : after static_key ts ≡ Some (line, behind)
  pub less : length behind < length ts
  pub declared : DeclaredRead I lines ds ms line behind rest

pub static_read : (I : InitReader) (n : ℕ) → InitComplete I n → (lines : List ℕ) (ds : List Declarator) (ms : Spelling) (ts rest : Terminals) → length ts < n → are_names true ds ≡ true → Follows ms rest → Reads (declared lines true ds ++ ms) ts rest → StaticRead I lines ds ms ts rest
static_read I n all lines ds ms ts rest lt p k h =
    let a = after_reads static_key (lines ++ first_lines ds) (base_on (base_lines ds) (common_base ds) (commas (map declarator ds)) ++ ms) ts rest h in
    let f = fits_split lines (first_lines ds) a.line a.fits in
    let l = a.less in
    let b = base_reads (base_lines ds) (common_base ds) (commas (map declarator ds) ++ ms) a.next rest (subst (λ (y : Spelling). Reads y a.next rest) (base_append _ (common_base ds) (commas (map declarator ds)) ms) a.reads) in
    let less = b.less in
    let r = names_read true I n all b.line a.line ds ms b.next rest (omega arith) p b.fits f.1 k b.reads in
    let more = r.less in
    record {
      line = a.line;
      behind = a.next;
      found = a.found;
      less = omega arith;
      declared = record { floating = b.line; behind = b.next; base = b.found; next = r.next; names = r.found; fits = f.0; reads = r.reads; less = omega arith };
    }
