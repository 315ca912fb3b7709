-- Items: what is spelled so is read.
use Rattle.std.proofs.Common.{◌≡◌, ℕ, zero, suc, ◌<◌, ◌≤◌, List, [], ◌∷◌, ◌++◌, length, map, refl, subst, sym, ap, ◌∙◌, arith, Bool, true, false, not, ◌&&◌, ◌||◌, cond, Option, Some, None, append_assoc}
use Rattle.std.specs.List.{flat_map}
use Rattle.std.proofs.lemmas.List.{append-nil}
use Rattle.cl_tree.specs.declared.token.Mark.{Mark}
use Rattle.cl_tree.specs.declared.token.Mark.TheVariants as mark
use Rattle.cl_tree.specs.declared.grammar.Keyword.TheVariants as key
use Rattle.cl_tree.specs.declared.grammar.Base.{Base}
use Rattle.cl_tree.specs.declared.grammar.Base.TheVariants as base
use Rattle.cl_tree.specs.declared.grammar.Sign.TheVariants as sign
use Rattle.cl_tree.specs.declared.grammar.Terminal.{Terminal}
use Rattle.cl_tree.specs.declared.tree.CType.{CType}
use Rattle.cl_tree.specs.declared.tree.Init.{Init}
use Rattle.cl_tree.specs.declared.tree.Declarator.{Declarator}
use Rattle.cl_tree.specs.declared.tree.Declaration.{Declaration}
use Rattle.cl_tree.specs.declared.tree.Stmt.{Stmt}
use Rattle.cl_tree.specs.declared.tree.Item.{Item}
use Rattle.cl_tree.specs.declared.tree.Item.TheVariants as item
use Rattle.cl_tree.specs.Words.{Word}
use Rattle.cl_tree.specs.Spelling.{Spelling, put_on, put, put_at, put_mark, put_size, key_on, commas, Fits, Reads, type_shape, type_name, is_type_name, is_empty, is_void, held_by, star_lines, floating_lines, other_lines, base_on, stars_on, dims_then}
use Rattle.cl_tree.specs.Statements.{initialiser, init_shape, declarator, base_lines, first_lines, base_of, common_base, are_names, is_declarator, declared, declaration, is_declaration, stmt_shape, statements}
use Rattle.cl_tree.specs.Items.{member, is_member, all_members, parameter, all_parameters, parameters, body_then, is_body, named_function, function, item_spelling, is_item}
use Rattle.cl_parse_expr.specs.declared.cursor.Fixed.{Fixed}
use Rattle.cl_parse_expr.specs.declared.cursor.Fixed.TheVariants as fixed
use Rattle.cl_parse_expr.specs.Cursor.{Terminals, after, same_mark, same_key, is_fixed, line_of}
use Rattle.cl_parse_expr.specs.Types.{base_at, type_of, pointers_at, second_at}
use Rattle.cl_parse_expr.specs.Reading.{opening, close, comma}
use Rattle.cl_parse_expr.proofs.Marks.{some_of, some_is, and_elim, reads_split, reads_length, after_reads, is_fixed_true, not_other, name_reads, fits_split}
use Rattle.cl_parse_expr.proofs.TypeNames.{no_dims, base_reads, pointers_read, asterisk, second_back, pointed, after_line}
use Rattle.cl_parse_expr.proofs.Complete.{close_comma, index_closed, some_pair}
use Rattle.cl_parse_stmt.specs.Declaring.{InitReader, open_brace, close_brace, semicolon, declared_as, arrayed}
use Rattle.cl_parse_stmt.specs.Stating.{StmtReader}
use Rattle.cl_parse_stmt.specs.Itemising.{member_at, members_at, struct_from, parameter_at, more_parameters, parameters_at, body_at, function_from, variables_from, called_at, plain_from, plain_at, struct_at, unmarked_at, item_step, item_of}
use Rattle.cl_parse_stmt.proofs.Declared.{InitComplete, Closes, stop_closes, comma_stops, semicolon_stops, close_stops, declarator_opened, declarator_read, made_type, Follows, names_read, other_names, static_key, base_append}
use Rattle.cl_parse_stmt.proofs.Restated.{ListedComplete, semicolon_follows, block_read}
use Rattle.cl_parse_stmt.proofs.Itemised.{Itemised, all_first_lines, other_parameters}

-- ---- first terminals

base_no_mark : (m : Mark) (b : Base) (lines : List ℕ) (ms : Spelling) (ts rest : Terminals) → Reads (base_on lines b ms) ts rest → after (fixed.Mark m) ts ≡ None
base_no_mark m base.Void lines ms ts rest h = not_other (sign.Key key.Void) (fixed.Mark m) lines ms ts rest refl h
base_no_mark m (base.Kind k) lines ms ts rest h = not_other (sign.Kind k) (fixed.Mark m) lines ms ts rest refl h
base_no_mark m base.Real lines ms ts rest h = not_other sign.Real (fixed.Mark m) lines ms ts rest refl h
base_no_mark m (base.Tag n) lines ms ts rest h = not_other (sign.Key key.Struct) (fixed.Mark m) lines (put (sign.Name n) ms) ts rest refl h

abbrev void_key : Fixed
void_key = fixed.Key key.Void

abbrev struct_key : Fixed
struct_key = fixed.Key key.Struct

struct_void : is_fixed void_key (sign.Key key.Struct) ≡ false
unfolding same_key
struct_void = refl

void_struct : is_fixed struct_key (sign.Key key.Void) ≡ false
unfolding same_key
void_struct = refl

base_no_void : (b : Base) (lines : List ℕ) (ms : Spelling) (ts rest : Terminals) → not (is_void b) ≡ true → Reads (base_on lines b ms) ts rest → after void_key ts ≡ None
base_no_void base.Void lines ms ts rest v h = absurd cc
base_no_void (base.Kind k) lines ms ts rest v h = not_other (sign.Kind k) void_key lines ms ts rest refl h
base_no_void base.Real lines ms ts rest v h = not_other sign.Real void_key lines ms ts rest refl h
base_no_void (base.Tag n) lines ms ts rest v h = not_other (sign.Key key.Struct) void_key lines (put (sign.Name n) ms) ts rest struct_void h

-- ---- members

not_true : (b : Bool) → not b ≡ true → b ≡ false
not_true true e = absurd cc
not_true false e = refl

record MemberRead (I : InitReader) (first : ℕ) (d : Declaration) (ms : Spelling) (ts rest : Terminals) : Type 0 where
  pub next : Terminals
  pub found : member_at I first ts ≡ Some (d, next)
  pub reads : Reads ms next rest
  pub less : length next < length ts
  pub no_brace : after close_brace ts ≡ None

member_read : (I : InitReader) (n : ℕ) → InitComplete I n → (first : ℕ) (d : Declaration) (ms : Spelling) (ts rest : Terminals) → length ts < n → is_member d ≡ true → Fits (first_lines d.names) first → Reads (member d ++ ms) ts rest → MemberRead I first d ms ts rest
unfolding member_at
member_read I n all first d ms ts rest lt p fits h =
    let names : Spelling = commas (map declarator d.names) in
    let h1 : Reads (base_on (base_lines d.names) (common_base d.names) ((names ++ put_mark mark.Semicolon []) ++ ms)) ts rest = subst (λ (y : Spelling). Reads y ts rest) (base_append (base_lines d.names) (common_base d.names) (names ++ put_mark mark.Semicolon []) ms) h in
    let b = base_reads (base_lines d.names) (common_base d.names) ((names ++ put_mark mark.Semicolon []) ++ ms) ts rest h1 in
    let h2 : Reads (names ++ put_mark mark.Semicolon ms) b.next rest = subst (λ (y : Spelling). Reads y b.next rest) (append_assoc names (put_mark mark.Semicolon []) ms) b.reads in
    let q = and_elim (not d.is_static) (are_names false d.names) p in
    let l1 = b.less in
    let r = names_read false I n all b.line first d.names (put_mark mark.Semicolon ms) b.next rest (omega arith) q.1 b.fits fits (semicolon_follows ms rest) h2 in
    let l2 = r.less in
    let c = after_reads semicolon [] ms r.next rest r.reads in
    let l3 = c.less in
    record {
      next = c.next;
      found = rw (b.found, r.found, c.found) (ap (λ (y : Bool). some_of {A = Declaration × Terminals} (declared_as y d.names, c.next)) (sym (not_true d.is_static q.0)));
      reads = c.reads;
      less = omega arith;
      no_brace = base_no_mark mark.CloseBrace (common_base d.names) (base_lines d.names) _ ts rest h1;
    }

record MembersRead (I : InitReader) (first m : ℕ) (done ds : List Declaration) (ms : Spelling) (ts rest : Terminals) : Type 0 where
  pub next : Terminals
  pub found : members_at I first m done ts ≡ Some (done ++ ds, next)
  pub reads : Reads ms next rest
  pub less : length next ≤ length ts

members_read : (I : InitReader) (n : ℕ) → InitComplete I n → (first m : ℕ) (done ds : List Declaration) (ms : Spelling) (ts rest : Terminals) → length ts < n → length ts < m → all_members ds ≡ true → Fits (all_first_lines ds) first → Reads (flat_map member ds ++ put_mark mark.CloseBrace ms) ts rest → MembersRead I first m done ds ms ts rest
unfolding members_at
members_read I n all first zero done ds ms ts rest lt le p fits h = absurd (omega arith)
members_read I n all first (suc m) done [] ms ts rest lt le p fits h =
    let a = after_reads close_brace [] ms ts rest h in
    let l = a.less in
    record { next = a.next; found = rw a.found (some_pair _ _ _ _ (sym (append-nil done)) refl); reads = a.reads; less = omega arith }
members_read I n all first (suc m) done (d ∷ ds) ms ts rest lt le p fits h =
    let q = and_elim _ _ p in
    let f = fits_split (first_lines d.names) (all_first_lines ds) first fits in
    let one = member_read I n all first d (flat_map member ds ++ put_mark mark.CloseBrace ms) ts rest lt q.0 f.0 (subst (λ (y : Spelling). Reads y ts rest) (append_assoc (member d) (flat_map member ds) (put_mark mark.CloseBrace ms)) h) in
    let l1 = one.less in
    let more = members_read I n all first m (done ++ d ∷ []) ds ms one.next rest (omega arith) (omega arith) q.1 f.1 one.reads in
    let l2 = more.less in
    let none = one.no_brace in
    record {
      next = more.next;
      found = rw (none, one.found) (more.found ∙ some_pair _ _ _ _ (append_assoc done (d ∷ []) ds) refl);
      reads = more.reads;
      less = omega arith;
    }

-- ---- fronts of items

unmarked_base : (L : StmtReader) (I : InitReader) (b : Base) (lines : List ℕ) (ms : Spelling) (ts rest : Terminals) → Reads (base_on lines b ms) ts rest → item_of L I ts ≡ unmarked_at L I ts
unfolding item_of
unmarked_base L I base.Void lines ms [] rest h = absurd h
unmarked_base L I (base.Kind k) lines ms [] rest h = absurd h
unmarked_base L I base.Real lines ms [] rest h = absurd h
unmarked_base L I (base.Tag n) lines ms [] rest h = absurd h
unmarked_base L I base.Void lines ms (t ∷ ts) rest h = rw h.0 refl
unmarked_base L I (base.Kind k) lines ms (t ∷ ts) rest h = rw h.0 refl
unmarked_base L I base.Real lines ms (t ∷ ts) rest h = rw h.0 refl
unmarked_base L I (base.Tag n) lines ms (t ∷ ts) rest h = rw h.0 refl

static_item_step : (L : StmtReader) (I : InitReader) (t : Terminal) (ts : Terminals) (x : ℕ × Terminals) (b : Bool) → is_fixed static_key t.what ≡ b → cond b (some_of {A = ℕ × Terminals} (t.line, ts)) None ≡ Some x → item_step L I t.line t.what (t ∷ ts) ts ≡ plain_at L I true x.0 x.1
static_item_step L I t ts x true e g = rw (is_fixed_true static_key t.what e) (ap (λ (y : ℕ × Terminals). plain_at L I true y.0 y.1) (some_is (t.line, ts) x g))
static_item_step L I t ts x false e g = absurd cc

static_item : (L : StmtReader) (I : InitReader) (ts : Terminals) (x : ℕ × Terminals) → after static_key ts ≡ Some x → item_of L I ts ≡ plain_at L I true x.0 x.1
unfolding after item_of
static_item L I [] x e = absurd cc
static_item L I (t ∷ ts) x e = static_item_step L I t ts x (is_fixed static_key t.what) refl e

-- a type is no struct's beginning where no `{` follows its base
no_struct : (b : Base) (lines : List ℕ) (ms : Spelling) (ts rest : Terminals) → ((us : Terminals) → Reads ms us rest → after open_brace us ≡ None) → Reads (base_on lines b ms) ts rest → struct_at ts ≡ None
unfolding struct_at
no_struct base.Void lines ms ts rest f h = let e = not_other (sign.Key key.Void) struct_key lines ms ts rest void_struct h in rw e refl
no_struct (base.Kind k) lines ms ts rest f h = let e = not_other (sign.Kind k) struct_key lines ms ts rest refl h in rw e refl
no_struct base.Real lines ms ts rest f h = let e = not_other sign.Real struct_key lines ms ts rest refl h in rw e refl
no_struct (base.Tag n) lines ms ts rest f h =
    let k = after_reads struct_key lines (put (sign.Name n) ms) ts rest h in
    let m = name_reads [] n ms k.next rest k.reads in
    let e = f m.next m.reads in
    rw (k.found, m.found, e) refl

star_brace : is_fixed open_brace (sign.Mark mark.Star) ≡ false
unfolding same_mark
star_brace = refl

-- a name behind stars
no_brace : (lines : List ℕ) (n : ℕ) (at : List ℕ) (name : Word) (ms : Spelling) (ts rest : Terminals) → Reads (stars_on lines n (put_on at (sign.Name name) ms)) ts rest → after open_brace ts ≡ None
no_brace lines zero at name ms ts rest h = not_other (sign.Name name) open_brace at ms ts rest refl h
no_brace lines (suc n) at name ms ts rest h = not_other (sign.Mark mark.Star) open_brace lines (stars_on [] n (put_on at (sign.Name name) ms)) ts rest star_brace h

no_star : (at : List ℕ) (name : Word) (ms : Spelling) (rest us : Terminals) → Reads (put_on at (sign.Name name) ms) us rest → after asterisk us ≡ None
no_star at name ms rest us h = not_other (sign.Name name) asterisk at ms us rest refl h

-- ---- structs

struct_read : (L : StmtReader) (I : InitReader) (n : ℕ) → InitComplete I n → (name : Word) (members : List Declaration) (line : ℕ) (ts rest : Terminals) → length ts < n → (not (is_empty members) && all_members members) ≡ true
    → Reads (key_on (line ∷ all_first_lines members) key.Struct (put (sign.Name name) (put_mark mark.OpenBrace (flat_map member members ++ put_mark mark.CloseBrace (put_mark mark.Semicolon []))))) ts rest → item_of L I ts ≡ Some (item.Struct name members line, rest)
unfolding unmarked_at struct_at struct_from
struct_read L I n all name [] line ts rest lt p h = absurd cc
struct_read L I n all name (d ∷ ds) line ts rest lt p h =
    let lines : List ℕ = line ∷ all_first_lines (d ∷ ds) in
    let behind : Spelling = flat_map member ds ++ put_mark mark.CloseBrace (put_mark mark.Semicolon []) in
    let inside : Spelling = flat_map member (d ∷ ds) ++ put_mark mark.CloseBrace (put_mark mark.Semicolon []) in
    let k = after_reads struct_key lines (put (sign.Name name) (put_mark mark.OpenBrace inside)) ts rest h in
    let l1 = k.less in
    let m = name_reads [] name (put_mark mark.OpenBrace inside) k.next rest k.reads in
    let l2 = m.less in
    let o = after_reads open_brace [] inside m.next rest m.reads in
    let l3 = o.less in
    let a = after_line struct_key ts (k.line, k.next) k.found in
    let at : line_of ts ≡ line = sym a.0 ∙ k.fits.0 in
    let f = fits_split (first_lines d.names) (all_first_lines ds) line (subst (λ (y : ℕ). Fits (all_first_lines (d ∷ ds)) y) k.fits.0 k.fits.1) in
    let v = and_elim (is_member d) (all_members ds) p in
    let one = member_read I n all line d behind o.next rest (omega arith) v.0 f.0 (subst (λ (y : Spelling). Reads y o.next rest) (append_assoc (member d) (flat_map member ds) (put_mark mark.CloseBrace (put_mark mark.Semicolon []))) o.reads) in
    let l4 = one.less in
    let more = members_read I n all line (suc (length one.next)) (d ∷ []) ds (put_mark mark.Semicolon []) one.next rest (omega arith) (omega arith) v.1 f.1 one.reads in
    let c = after_reads semicolon [] [] more.next rest more.reads in
    unmarked_base L I (base.Tag name) lines (put_mark mark.OpenBrace inside) ts rest h ∙ rw (k.found, m.found, o.found, at, one.found, more.found, c.found) (some_pair _ _ _ _ refl c.reads)

-- ---- variables

assign_opening : is_fixed opening (sign.Mark mark.Assign) ≡ false
unfolding same_mark
assign_opening = refl

comma_opening : is_fixed opening (sign.Mark mark.Comma) ≡ false
unfolding same_mark
comma_opening = refl

semicolon_opening : is_fixed opening (sign.Mark mark.Semicolon) ≡ false
unfolding same_mark
semicolon_opening = refl

-- no `(` stands behind a variable's name
no_opening : (dims : List ℕ) (i : Option Init) (ds : List Declarator) (us mid rest : Terminals) → Reads (dims_then dims (initialiser i)) us mid → Reads (other_names ds ++ put_mark mark.Semicolon []) mid rest → after opening us ≡ None
no_opening (n ∷ ns) i ds us mid rest h k = not_other (sign.Mark mark.OpenBracket) opening [] (put_size n (put_mark mark.CloseBracket (dims_then ns (initialiser i)))) us mid index_closed h
no_opening [] (Some i) ds us mid rest h k = not_other (sign.Mark mark.Assign) opening [] (init_shape i).spelling us mid assign_opening h
no_opening [] None [] us mid rest h k = subst (λ (y : Terminals). after opening y ≡ None) (sym h) (not_other (sign.Mark mark.Semicolon) opening [] [] mid rest semicolon_opening k)
no_opening [] None (d ∷ ds) us mid rest h k = subst (λ (y : Terminals). after opening y ≡ None) (sym h) (not_other (sign.Mark mark.Comma) opening [] _ mid rest comma_opening k)

names_first : (d : Declarator) (ds : List Declarator) (us rest : Terminals) → Reads (commas (map declarator (d ∷ ds)) ++ put_mark mark.Semicolon []) us rest → (mid : Terminals) × Reads (declarator d) us mid × Reads (other_names ds ++ put_mark mark.Semicolon []) mid rest
names_first d ds us rest h = reads_split (declarator d) (other_names ds ++ put_mark mark.Semicolon []) us rest (subst (λ (y : Spelling). Reads y us rest) (append_assoc (declarator d) (other_names ds) (put_mark mark.Semicolon [])) h)

not_called : (t : CType) (d : Declarator) (ds : List Declarator) (us rest : Terminals) → Reads (commas (map declarator (d ∷ ds)) ++ put_mark mark.Semicolon []) us rest → called_at (pointers_at (length us) t us).1 ≡ None
unfolding called_at
not_called t d ds us rest h =
    let s = type_shape d.ctype in
    let r = names_first d ds us rest h in
    let inner : Spelling = dims_then s.dims (initialiser d.init) in
    let w = pointers_read (length us) s.stars s.base (star_lines (held_by d.ctype) d.second) t (put_at d.line (sign.Name d.name) inner) us r.0 (omega arith) (no_star (d.line ∷ []) d.name inner r.0) (declarator_opened d us r.0 r.1) in
    let m = name_reads (d.line ∷ []) d.name inner w.next r.0 w.reads in
    let e = no_opening s.dims d.init ds m.next r.0 rest m.reads r.2 in
    rw (w.found, m.found, e) refl

names_no_brace : (d : Declarator) (ds : List Declarator) (rest us : Terminals) → Reads (commas (map declarator (d ∷ ds)) ++ put_mark mark.Semicolon []) us rest → after open_brace us ≡ None
names_no_brace d ds rest us h =
    let s = type_shape d.ctype in
    let r = names_first d ds us rest h in
    no_brace (star_lines (held_by d.ctype) d.second) s.stars (d.line ∷ []) d.name (dims_then s.dims (initialiser d.init)) us r.0 (declarator_opened d us r.0 r.1)

-- behind the base
variables_behind : (L : StmtReader) (I : InitReader) (n : ℕ) → InitComplete I n → (s : Bool) (f first : ℕ) (ds : List Declarator) (us rest : Terminals) → length us < n → are_names true ds ≡ true → Fits (base_lines ds) f → Fits (first_lines ds) first → Reads (commas (map declarator ds) ++ put_mark mark.Semicolon []) us rest
    → plain_from L I s first (common_base ds, f, us) ≡ Some (item.Variables (declared_as s ds), rest)
unfolding plain_from variables_from
variables_behind L I n all s f first [] us rest lt p fb fo h = absurd cc
variables_behind L I n all s f first (d ∷ ds) us rest lt p fb fo h =
    let none = not_called (type_of (base_of d)) d ds us rest h in
    let r = names_read true I n all f first (d ∷ ds) (put_mark mark.Semicolon []) us rest lt p fb fo (semicolon_follows [] rest) h in
    let c = after_reads semicolon [] [] r.next rest r.reads in
    rw (none, r.found, c.found) (some_pair _ _ _ _ refl c.reads)

variables_no_brace : (ds : List Declarator) (rest : Terminals) → are_names true ds ≡ true → (us : Terminals) → Reads (commas (map declarator ds) ++ put_mark mark.Semicolon []) us rest → after open_brace us ≡ None
variables_no_brace [] rest p us h = absurd cc
variables_no_brace (d ∷ ds) rest p us h = names_no_brace d ds rest us h

variables_read : (L : StmtReader) (I : InitReader) (n : ℕ) → InitComplete I n → (s : Bool) (ds : List Declarator) (ts rest : Terminals) → length ts < n → are_names true ds ≡ true → Reads (declared [] s ds ++ put_mark mark.Semicolon []) ts rest → item_of L I ts ≡ Some (item.Variables (declared_as s ds), rest)
unfolding unmarked_at plain_at
variables_read L I n all true ds ts rest lt p h =
    let names : Spelling = commas (map declarator ds) ++ put_mark mark.Semicolon [] in
    let a = after_reads static_key (first_lines ds) (base_on (base_lines ds) (common_base ds) (commas (map declarator ds)) ++ put_mark mark.Semicolon []) ts rest h in
    let l1 = a.less in
    let b = base_reads (base_lines ds) (common_base ds) names a.next rest (subst (λ (y : Spelling). Reads y a.next rest) (base_append (base_lines ds) (common_base ds) (commas (map declarator ds)) (put_mark mark.Semicolon [])) a.reads) in
    let l2 = b.less in
    let v = variables_behind L I n all true b.line a.line ds b.next rest (omega arith) p b.fits a.fits b.reads in
    static_item L I ts (a.line, a.next) a.found ∙ rw b.found v
variables_read L I n all false ds ts rest lt p h =
    let names : Spelling = commas (map declarator ds) ++ put_mark mark.Semicolon [] in
    let lines : List ℕ = first_lines ds ++ base_lines ds in
    let h1 : Reads (base_on lines (common_base ds) names) ts rest = subst (λ (y : Spelling). Reads y ts rest) (base_append lines (common_base ds) (commas (map declarator ds)) (put_mark mark.Semicolon [])) h in
    let b = base_reads lines (common_base ds) names ts rest h1 in
    let l = b.less in
    let f = fits_split (first_lines ds) (base_lines ds) b.line b.fits in
    let v = variables_behind L I n all false b.line (line_of ts) ds b.next rest (omega arith) p f.1 (subst (λ (y : ℕ). Fits (first_lines ds) y) b.first f.0) b.reads in
    let e = no_struct (common_base ds) lines names ts rest (variables_no_brace ds rest p) h1 in
    unmarked_base L I (common_base ds) lines names ts rest h1 ∙ rw (e, b.found) v

-- ---- parameters

unvoided : {A : Type 0} (b : Base) (x : Option A) → not (is_void b) ≡ true → cond (is_void b) None x ≡ x
unvoided base.Void x e = absurd cc
unvoided (base.Kind k) x e = refl
unvoided base.Real x e = refl
unvoided (base.Tag n) x e = refl

abbrev IsParameter : ℕ → Declarator → Type 0
IsParameter first d = ((not (is_void (base_of d)) && is_declarator false (base_of d) d) ≡ true) × Fits (other_lines (held_by d.ctype) d.second) first

parameter_read : (I : InitReader) (n : ℕ) → InitComplete I n → (first : ℕ) (d : Declarator) (ts rest : Terminals) → length ts < n → IsParameter first d → Closes rest → Reads (parameter d) ts rest → parameter_at I first ts ≡ Some (d, rest)
unfolding parameter_at
parameter_read I n all first d ts rest lt p c h =
    let q = and_elim _ _ p.0 in
    let b = base_reads (floating_lines (held_by d.ctype) d.second) (base_of d) (declarator d) ts rest h in
    let l = b.less in
    let r = declarator_read false I n all (base_of d) b.line first d b.next rest (omega arith) (record { reads = b.reads; proper = q.1; at_base = b.fits; at_first = p.1 }) c in
    rw b.found (unvoided (base_of d) _ q.0 ∙ r)

parameters_close : (ds : List Declarator) (ms : Spelling) (ts rest : Terminals) → Reads (other_parameters ds ++ put_mark mark.CloseParen ms) ts rest → Closes ts
parameters_close [] ms ts rest h = stop_closes (sign.Mark mark.CloseParen) [] ms ts rest close_stops h
parameters_close (d ∷ ds) ms ts rest h = stop_closes (sign.Mark mark.Comma) [] _ ts rest comma_stops h

record ParametersRead (I : InitReader) (first m : ℕ) (done ds : List Declarator) (ms : Spelling) (ts rest : Terminals) : Type 0 where
  pub next : Terminals
  pub found : more_parameters I first m done ts ≡ Some (done ++ ds, next)
  pub reads : Reads ms next rest
  pub less : length next < length ts

more_parameters_read : (I : InitReader) (n : ℕ) → InitComplete I n → (first m : ℕ) (done ds : List Declarator) (ms : Spelling) (ts rest : Terminals) → length ts < n → length ts ≤ m → all_parameters ds ≡ true → Fits (first_lines ds) first → Reads (other_parameters ds ++ put_mark mark.CloseParen ms) ts rest → ParametersRead I first m done ds ms ts rest
unfolding more_parameters
more_parameters_read I n all first zero done [] ms ts rest lt le p fits h = let a = after_reads close [] ms ts rest h in let l = a.less in absurd (omega arith)
more_parameters_read I n all first zero done (d ∷ ds) ms ts rest lt le p fits h = let a = after_reads comma [] ((parameter d ++ other_parameters ds) ++ put_mark mark.CloseParen ms) ts rest h in let l = a.less in absurd (omega arith)
more_parameters_read I n all first (suc m) done [] ms ts rest lt le p fits h =
    let a = after_reads close [] ms ts rest h in
    let l = a.less in
    let none = not_other (sign.Mark mark.CloseParen) comma [] ms ts rest close_comma h in
    record { next = a.next; found = rw (none, a.found) (some_pair _ _ _ _ (sym (append-nil done)) refl); reads = a.reads; less = omega arith }
more_parameters_read I n all first (suc m) done (d ∷ ds) ms ts rest lt le p fits h =
    let a = after_reads comma [] ((parameter d ++ other_parameters ds) ++ put_mark mark.CloseParen ms) ts rest h in
    let l1 = a.less in
    let r = reads_split (parameter d) (other_parameters ds ++ put_mark mark.CloseParen ms) a.next rest (subst (λ (y : Spelling). Reads y a.next rest) (append_assoc (parameter d) (other_parameters ds) (put_mark mark.CloseParen ms)) a.reads) in
    let l2 = reads_length (parameter d) a.next r.0 r.1 in
    let q = and_elim _ _ p in
    let f = fits_split (other_lines (held_by d.ctype) d.second) (first_lines ds) first fits in
    let one = parameter_read I n all first d a.next r.0 (omega arith) (q.0, f.0) (parameters_close ds ms r.0 rest r.2) r.1 in
    let more = more_parameters_read I n all first m (done ++ d ∷ []) ds ms r.0 rest (omega arith) (omega arith) q.1 f.1 r.2 in
    let l3 = more.less in
    record {
      next = more.next;
      found = rw (a.found, one) (more.found ∙ some_pair _ _ _ _ (append_assoc done (d ∷ []) ds) refl);
      reads = more.reads;
      less = omega arith;
    }

record BracketedRead (I : InitReader) (first : ℕ) (void_word : Bool) (ds : List Declarator) (ms : Spelling) (ts rest : Terminals) : Type 0 where
  pub next : Terminals
  pub found : parameters_at I first ts ≡ Some (void_word, ds, next)
  pub reads : Reads ms next rest
  pub less : length next < length ts

void_close : is_fixed close (sign.Key key.Void) ≡ false
void_close = refl

parameters_read : (I : InitReader) (n : ℕ) → InitComplete I n → (first : ℕ) (void_word : Bool) (ds : List Declarator) (ms : Spelling) (ts rest : Terminals) → length ts < n → (not void_word || is_empty ds) ≡ true → all_parameters ds ≡ true → Fits (first_lines ds) first → Reads (parameters void_word ds (put_mark mark.CloseParen ms)) ts rest → BracketedRead I first void_word ds ms ts rest
unfolding parameters_at
parameters_read I n all first true (d ∷ ds) ms ts rest lt w p fits h = absurd cc
parameters_read I n all first true [] ms ts rest lt w p fits h =
    let none = not_other (sign.Key key.Void) close [] (put_mark mark.CloseParen ms) ts rest void_close h in
    let v = after_reads void_key [] (put_mark mark.CloseParen ms) ts rest h in
    let l1 = v.less in
    let c = after_reads close [] ms v.next rest v.reads in
    let l2 = c.less in
    record { next = c.next; found = rw (none, v.found, c.found) refl; reads = c.reads; less = omega arith }
parameters_read I n all first false [] ms ts rest lt w p fits h =
    let c = after_reads close [] ms ts rest h in
    let l = c.less in
    record { next = c.next; found = rw c.found refl; reads = c.reads; less = omega arith }
parameters_read I n all first false (d ∷ ds) ms ts rest lt w p fits h =
    let r = reads_split (parameter d) (other_parameters ds ++ put_mark mark.CloseParen ms) ts rest (subst (λ (y : Spelling). Reads y ts rest) (append_assoc (parameter d) (other_parameters ds) (put_mark mark.CloseParen ms)) h) in
    let l1 = reads_length (parameter d) ts r.0 r.1 in
    let q = and_elim _ _ p in
    let v = and_elim _ _ q.0 in
    let f = fits_split (other_lines (held_by d.ctype) d.second) (first_lines ds) first fits in
    let none = base_no_mark mark.CloseParen (base_of d) (floating_lines (held_by d.ctype) d.second) (declarator d) ts r.0 r.1 in
    let no_void = base_no_void (base_of d) (floating_lines (held_by d.ctype) d.second) (declarator d) ts r.0 v.0 r.1 in
    let one = parameter_read I n all first d ts r.0 lt (q.0, f.0) (parameters_close ds ms r.0 rest r.2) r.1 in
    let more = more_parameters_read I n all first (length r.0) (d ∷ []) ds ms r.0 rest (omega arith) (omega arith) q.1 f.1 r.2 in
    let l2 = more.less in
    record { next = more.next; found = rw (none, no_void, one, more.found) refl; reads = more.reads; less = omega arith }

-- ---- bodies

brace_semicolon : is_fixed semicolon (sign.Mark mark.OpenBrace) ≡ false
unfolding same_mark
brace_semicolon = refl

body_read : (L : StmtReader) (n : ℕ) → ListedComplete L n → (body : Option (List Stmt)) (ts rest : Terminals) → length ts < n → is_body body ≡ true → Reads (body_then body) ts rest → body_at L ts ≡ Some (body, rest)
unfolding body_at
body_read L n all None ts rest lt p h = let a = after_reads semicolon [] [] ts rest h in rw a.found (some_pair _ _ _ _ refl a.reads)
body_read L n all (Some ss) ts rest lt p h =
    let none = not_other (sign.Mark mark.OpenBrace) semicolon [] (statements (map stmt_shape ss)) ts rest brace_semicolon h in
    let a = after_reads open_brace [] (statements (map stmt_shape ss)) ts rest h in
    let l = a.less in
    let b = block_read L n all (suc (length a.next)) [] ss a.next rest (omega arith) (omega arith) p a.reads in
    rw (none, a.found, b) refl

-- ---- functions

-- a result's type is its base with stars
result_type : (t : CType) → is_type_name t ≡ true → pointed (type_of (type_shape t).base) (type_shape t).stars ≡ t
result_type t p =
    let q = and_elim _ _ p in
    sym (ap (λ (y : List ℕ). arrayed (pointed (type_of (type_shape t).base) (type_shape t).stars) y) (no_dims (type_shape t).dims q.0)) ∙ made_type t q.1

-- a function's type and name, and the `(`
record CalledRead (lines : List ℕ) (result : CType) (name : Word) (second : ℕ) (ms : Spelling) (us rest : Terminals) : Type 0 where
  pub line : ℕ
  pub next : Terminals
  pub base : base_at us ≡ Some ((type_shape result).base, line, next)
  pub fits : Fits lines line
  pub first : line ≡ line_of us
  pub mid : Terminals
  pub found : pointers_at (length next) (type_of (type_shape result).base) next ≡ (result, mid)
  pub at : ℕ
  pub inside : Terminals
  pub called : called_at mid ≡ Some (name, at, inside)
  pub line_is : second_at (type_shape result).base line at next ≡ second
  pub reads : Reads ms inside rest
  pub less : length inside < length us

called_read : (lines : List ℕ) (result : CType) (name : Word) (second : ℕ) (ms : Spelling) (us rest : Terminals) → is_type_name result ≡ true → Reads (type_name lines result second (put_on (other_lines (held_by result) second) (sign.Name name) (put_mark mark.OpenParen ms))) us rest → CalledRead lines result name second ms us rest
unfolding called_at
called_read lines result name second ms us rest p h =
    let s = type_shape result in
    let inner : Spelling = put_on (other_lines (held_by result) second) (sign.Name name) (put_mark mark.OpenParen ms) in
    let b = base_reads (lines ++ floating_lines (held_by result) second) s.base (stars_on (star_lines (held_by result) second) s.stars inner) us rest h in
    let l1 = b.less in
    let f = fits_split lines (floating_lines (held_by result) second) b.line b.fits in
    let w = pointers_read (length b.next) s.stars s.base (star_lines (held_by result) second) (type_of s.base) inner b.next rest (omega arith) (no_star (other_lines (held_by result) second) name (put_mark mark.OpenParen ms) rest) b.reads in
    let l2 = w.less in
    let m = name_reads (other_lines (held_by result) second) name (put_mark mark.OpenParen ms) w.next rest w.reads in
    let l3 = m.less in
    let o = after_reads opening [] ms m.next rest m.reads in
    let l4 = o.less in
    record {
      line = b.line;
      next = b.next;
      base = b.found;
      fits = f.0;
      first = b.first;
      mid = w.next;
      found = w.found ∙ ap (λ (y : CType). (y, w.next)) (result_type result p);
      at = m.line;
      inside = o.next;
      called = rw (m.found, o.found) refl;
      line_is = w.second b.line m.line ∙ second_back s.stars s.base second (line_of b.next) b.line m.line w.fits f.1 m.fits;
      reads = o.reads;
      less = omega arith;
    }

-- what is to be known of a function, its type aside
record IsFunction (void_word : Bool) (params : List Declarator) (body : Option (List Stmt)) (first : ℕ) : Type 0 where
  pub words : (not void_word || is_empty params) ≡ true
  pub proper : all_parameters params ≡ true
  pub at_first : Fits (first_lines params) first
  pub is_body : is_body body ≡ true

function_at : (L : StmtReader) (n : ℕ) → ListedComplete L n → (I : InitReader) → InitComplete I n → (s : Bool) (lines : List ℕ) (result : CType) (name : Word) (void_word : Bool) (params : List Declarator) (body : Option (List Stmt)) (first second : ℕ) (us rest : Terminals) → length us < n → IsFunction void_word params body first
    → CalledRead lines result name second (parameters void_word params (put_mark mark.CloseParen (body_then body))) us rest → plain_at L I s first us ≡ Some (item.Function s result name void_word params body first second, rest)
unfolding plain_at plain_from function_from
function_at L n listed I inits s lines result name void_word params body first second us rest lt w c =
    let l1 = c.less in
    let p = parameters_read I n inits first void_word params (body_then body) c.inside rest (omega arith) w.words w.proper w.at_first c.reads in
    let l2 = p.less in
    let b = body_read L n listed body p.next rest (omega arith) w.is_body p.reads in
    rw (c.base, c.found, c.called, c.line_is, p.found, b) refl

function_read : (L : StmtReader) (n : ℕ) → ListedComplete L n → (I : InitReader) → InitComplete I n → (s : Bool) (result : CType) (name : Word) (void_word : Bool) (params : List Declarator) (body : Option (List Stmt)) (line second : ℕ) (ts rest : Terminals) → length ts < n
    → (is_type_name result && ((not void_word || is_empty params) && (all_parameters params && is_body body))) ≡ true
    → Reads (function s (line ∷ first_lines params) result second (named_function result name void_word params body second)) ts rest → item_of L I ts ≡ Some (item.Function s result name void_word params body line second, rest)
unfolding unmarked_at
function_read L n listed I inits true result name void_word params body line second ts rest lt p h =
    let q = and_elim _ _ p in
    let v = and_elim _ _ q.1 in
    let u = and_elim _ _ v.1 in
    let inner : Spelling = named_function result name void_word params body second in
    let a = after_reads static_key (line ∷ first_lines params) (type_name [] result second inner) ts rest h in
    let l = a.less in
    let at : a.line ≡ line = a.fits.0 in
    let c = called_read [] result name second (parameters void_word params (put_mark mark.CloseParen (body_then body))) a.next rest q.0 a.reads in
    let w = function_at L n listed I inits true [] result name void_word params body line second a.next rest (omega arith) (record { words = v.0; proper = u.0; at_first = subst (λ (y : ℕ). Fits (first_lines params) y) at a.fits.1; is_body = u.1 }) c in
    static_item L I ts (a.line, a.next) a.found ∙ subst (λ (y : ℕ). plain_at L I true y a.next ≡ Some (item.Function true result name void_word params body line second, rest)) (sym at) w
function_read L n listed I inits false result name void_word params body line second ts rest lt p h =
    let q = and_elim _ _ p in
    let v = and_elim _ _ q.1 in
    let u = and_elim _ _ v.1 in
    let s = type_shape result in
    let lines : List ℕ = line ∷ first_lines params in
    let inner : Spelling = named_function result name void_word params body second in
    let starred : Spelling = stars_on (star_lines (held_by result) second) s.stars inner in
    let c = called_read lines result name second (parameters void_word params (put_mark mark.CloseParen (body_then body))) ts rest q.0 h in
    let at : c.line ≡ line = c.fits.0 in
    let begins : line_of ts ≡ line = sym c.first ∙ at in
    let w = function_at L n listed I inits false lines result name void_word params body line second ts rest lt (record { words = v.0; proper = u.0; at_first = subst (λ (y : ℕ). Fits (first_lines params) y) at c.fits.1; is_body = u.1 }) c in
    let e = no_struct s.base (lines ++ floating_lines (held_by result) second) starred ts rest (λ us k. no_brace (star_lines (held_by result) second) s.stars (other_lines (held_by result) second) name _ us rest k) h in
    unmarked_base L I s.base (lines ++ floating_lines (held_by result) second) starred ts rest h ∙ rw (e, begins) w

-- ---- items

cle_read : (L : StmtReader) (I : InitReader) (p : Rattle.cl_tree.specs.declared.token.Pragma.Pragma) (line : ℕ) (ts rest : Terminals) → Reads (put_at line (sign.Cle p) []) ts rest → item_of L I ts ≡ Some (item.Cle p line, rest)
unfolding item_of
cle_read L I p line [] rest h = absurd h
cle_read L I p line (t ∷ ts) rest h = rw (h.0, h.1.0) (some_pair _ _ _ _ refl h.2)

pub item_read : (L : StmtReader) (n : ℕ) → ListedComplete L n → (I : InitReader) → InitComplete I n → (i : Item) (ts rest : Terminals) → length ts < n → Itemised i ts rest → item_of L I ts ≡ Some (i, rest)
unfolding item_spelling is_item declaration is_declaration
item_read L n listed I inits (item.Struct name members line) ts rest lt w = struct_read L I n inits name members line ts rest lt w.proper w.reads
item_read L n listed I inits (item.Variables d) ts rest lt w = variables_read L I n inits d.is_static d.names ts rest lt w.proper w.reads
item_read L n listed I inits (item.Function s result name void_word params body line second) ts rest lt w = function_read L n listed I inits s result name void_word params body line second ts rest lt w.proper w.reads
item_read L n listed I inits (item.Cle p line) ts rest lt w = cle_read L I p line ts rest w.reads
