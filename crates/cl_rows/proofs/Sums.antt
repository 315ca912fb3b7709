-- Sums of bytes, by the definitions of payloads.
use Rattle.std.proofs.Common.{◌≡◌, ℕ, zero, suc, ◌+◌, ◌*◌, ◌≤◌, List, [], ◌∷◌, ◌++◌, Bool, true, false, Option, Some, None, option_map, is_some, if◌then◌else◌, bytes_eq, codes, take, length, slice_index_or, add-one, ◌<◌, Result, Ok, Err, OnOk, refl, sym, ap, subst, ◌∙◌, arith}
use Rattle.std.specs.List.{flat_map, fold}
use Rattle.std.specs.Map.{update}
use Rattle.std.proofs.lemmas.List.Sums.{fold-append}
use Rattle.std.proofs.lemmas.Option.{none-some}
use Rattle.std.proofs.lemmas.Slice.Eq.{bytes_eq-Decides}
use Rattle.std.proofs.lemmas.Bool.{false≢true}
use Rattle.cl_tree.specs.declared.kinds.IntKind.{IntKind}
use Rattle.cl_tree.specs.declared.tree.CType.{CType}
use Rattle.cl_tree.specs.declared.tree.Declaration.{Declaration}
use Rattle.cl_tree.specs.declared.tree.Declarator.{Declarator}
use Rattle.cl_tree.specs.declared.tree.Item.{Item}
use Rattle.cl_tree.specs.Words.{Word, entry}
use Rattle.cl_mean.specs.Shape.{Shape, nothing, integer, struct, array, Members, member_kinds, struct_known, Structs, structs_of, with_struct, shape_of, members_of, kinds_of, total_size, size_of, times}
use Rattle.cl_mean.specs.Source.{parameters_of, request_members, array_members}
use Rattle.cl_labelling.specs.Fits.{Signature, payload}
use Rattle.cl_scope.specs.declared.latest.Latest.{Latest}
use Rattle.cl_scope.specs.Table.{place_at}
use Rattle.cl_rows.specs.Capped.{most, capped}
use Rattle.cl_rows.proofs.Caps.{capped_product}
use Rattle.cl_rows.specs.Wide.{size_in}
use Rattle.cl_rows.specs.Bytes.{bytes_of, array_bytes, declared_bytes, arrays_bytes, members_bytes, AreKnown, AreNoted}

zero_more : (n : ℕ) → n ≡ 0 + n
zero_more n = omega arith

size_both : (a b : List IntKind) → total_size (a ++ b) ≡ total_size a + total_size b
size_both [] b = zero_more (total_size b)
size_both (k ∷ ks) b = let h = size_both ks b in omega arith

size_times : (n : ℕ) (ks : List IntKind) → total_size (times n ks) ≡ n * total_size ks
size_times zero ks = omega arith
size_times (suc n) ks = size_both ks (times n ks) ∙ ap (λ (m : ℕ). total_size ks + m) (size_times n ks) ∙ grind arith

pub product_is : (e : Shape) (n : ℕ) → capped (capped n * capped (total_size (kinds_of e))) ≡ capped (total_size (times n (kinds_of e)))
product_is e n = capped_product n (total_size (kinds_of e)) ∙ ap capped (sym (size_times n (kinds_of e)))

pub no_array : (o : Option Members) → array_bytes (struct_known o) ≡ 0
no_array None = refl
no_array (Some ms) = refl

pub declared_is : (structs : Structs) (ds : List Declarator) → declared_bytes structs ds ≡ total_size (member_kinds (members_of structs ds))
unfolding declared_bytes
declared_is structs [] = refl
declared_is structs (d ∷ ds) =
    ap (λ (n : ℕ). bytes_of (shape_of structs d.ctype) + n) (declared_is structs ds) ∙ sym (size_both (kinds_of (shape_of structs d.ctype)) (member_kinds (members_of structs ds)))

more_declared : (structs : Structs) (a b : List Declarator) → declared_bytes structs (a ++ b) ≡ declared_bytes structs a + declared_bytes structs b
unfolding declared_bytes
more_declared structs [] b = zero_more (declared_bytes structs b)
more_declared structs (d ∷ ds) b = let h = more_declared structs ds b in omega arith

pub members_is : (structs : Structs) (ms : List Declaration) → members_bytes structs ms ≡ total_size (member_kinds (members_of structs (flat_map (λ d. d.names) ms)))
unfolding members_bytes declared_bytes
members_is structs ms = each ms ∙ declared_is structs (flat_map (λ d. d.names) ms)
  where
    each : (ms : List Declaration) → members_bytes structs ms ≡ declared_bytes structs (flat_map (λ d. d.names) ms)
    each [] = refl
    each (m ∷ ms) = ap (λ (n : ℕ). declared_bytes structs m.names + n) (each ms) ∙ sym (more_declared structs m.names (flat_map (λ d. d.names) ms))

-- ---- payloads

request_kinds : (structs : Structs) (k : ℕ) (ds : List Declarator) → member_kinds (request_members (parameters_of structs None k ds)) ≡ member_kinds (members_of structs ds)
request_kinds structs k [] = refl
request_kinds structs k (d ∷ ds) = ap (λ (ks : List IntKind). kinds_of (shape_of structs d.ctype) ++ ks) (request_kinds structs (suc k) ds)

arrays_are : (structs : Structs) (k : ℕ) (ds : List Declarator) → total_size (member_kinds (array_members (parameters_of structs None k ds))) ≡ arrays_bytes structs ds
unfolding arrays_bytes
arrays_are structs k [] = refl
arrays_are structs k (d ∷ ds) = by (shape_of structs d.ctype) refl (arrays_are structs (suc k) ds)
  where
    by : (s : Shape) → shape_of structs d.ctype ≡ s → total_size (member_kinds (array_members (parameters_of structs None (suc k) ds))) ≡ arrays_bytes structs ds
        → total_size (member_kinds (array_members (parameters_of structs None k (d ∷ ds)))) ≡ array_bytes (shape_of structs d.ctype) + arrays_bytes structs ds
    by nothing e rest = rw e (rest ∙ zero_more (arrays_bytes structs ds))
    by (integer kind) e rest = rw e (rest ∙ zero_more (arrays_bytes structs ds))
    by (struct ms) e rest = rw e (rest ∙ zero_more (arrays_bytes structs ds))
    by (array element size) e rest =
        rw e (size_both (kinds_of (array element size)) (member_kinds (array_members (parameters_of structs None (suc k) ds))) ∙ ap (λ (n : ℕ). bytes_of (array element size) + n) rest)

pub request_is : (structs : Structs) (s : Signature) → declared_bytes structs s.params ≡ total_size (kinds_of (payload structs s false))
request_is structs s = declared_is structs s.params ∙ ap total_size (sym (request_kinds structs 0 s.params))

pub reply_is : (structs : Structs) (s : Signature) → bytes_of (shape_of structs s.result) + arrays_bytes structs s.params ≡ total_size (kinds_of (payload structs s true))
reply_is structs s =
    ap (λ (n : ℕ). bytes_of (shape_of structs s.result) + n) (sym (arrays_are structs 0 s.params))
    ∙ sym (size_both (kinds_of (shape_of structs s.result)) (member_kinds (array_members (parameters_of structs None 0 s.params))))

-- ---- structs

abbrev width : Members → ℕ
width ms = capped (total_size (member_kinds ms))

abbrev or_else : Option Members → Option Members → Option Members
or_else None o = o
or_else (Some ms) o = Some ms

abbrev if_same : Bool → Members → Option Members
if_same true ms = Some ms
if_same false ms = None

entry_more : (structs : Structs) (tag q : Word) (ms : Members) → entry (structs ++ (tag, ms) ∷ []) q ≡ or_else (entry structs q) (if_same (bytes_eq tag q) ms)
entry_more [] tag q ms = by (bytes_eq tag q)
  where
    by : (b : Bool) → (if b then Some ms else None) ≡ if_same b ms
    by true = refl
    by false = refl
entry_more (row ∷ rows) tag q ms = by (bytes_eq row.0 q) (entry_more rows tag q ms)
  where
    by : (b : Bool) → entry (rows ++ (tag, ms) ∷ []) q ≡ or_else (entry rows q) (if_same (bytes_eq tag q) ms)
        → (if b then Some row.1 else entry (rows ++ (tag, ms) ∷ []) q) ≡ or_else (if b then Some row.1 else entry rows q) (if_same (bytes_eq tag q) ms)
    by true h = refl
    by false h = h

or_none : (o : Option Members) → or_else o None ≡ o
or_none None = refl
or_none (Some ms) = refl

or_some : (o p : Option Members) → is_some (option_map width o) ≡ true → or_else o p ≡ o
or_some None p h = absurd (false≢true h)
or_some (Some ms) p h = refl

no_members_there : (o : Option Members) → None ≡ option_map width o → o ≡ None
no_members_there None e = refl
no_members_there (Some ms) e = absurd (none-some (width ms) e)

module _ (structs : Structs) (tag : Word) (members : List Declaration) (known : Latest) (is : AreKnown structs known) where
  abbrev given : Members
  given = members_of structs (flat_map (λ d. d.names) members)

  pub noted_new : (new : Latest) (size : ℕ) → size ≡ capped (members_bytes structs members) → place_at known tag ≡ None
      → ((q : Word) → place_at new q ≡ update bytes_eq (place_at known) tag (Some size) q) → AreNoted structs tag members new
  noted_new new size e none after q = after q ∙ by (bytes_eq tag q) refl
    where
      by : (b : Bool) → bytes_eq tag q ≡ b → update bytes_eq (place_at known) tag (Some size) q ≡ option_map width (entry (structs ++ (tag, given) ∷ []) q)
      by true same =
          let here : tag ≡ q = (bytes_eq-Decides tag q).0 same in
          let empty : entry structs q ≡ None = subst (λ (w : Word). entry structs w ≡ None) here (no_members_there (entry structs tag) (sym none ∙ is tag)) in
          rw (entry_more structs tag q given, same, empty) (ap Some (e ∙ ap capped (members_is structs members)))
      by false other = rw (entry_more structs tag q given, other, or_none (entry structs q)) (is q)

  pub noted_old : is_some (place_at known tag) ≡ true → AreNoted structs tag members known
  noted_old there q = by (bytes_eq tag q) refl
    where
      by : (b : Bool) → bytes_eq tag q ≡ b → place_at known q ≡ option_map width (entry (structs ++ (tag, given) ∷ []) q)
      by true same =
          let here : tag ≡ q = (bytes_eq-Decides tag q).0 same in
          let there : is_some (option_map width (entry structs q)) ≡ true = subst (λ (w : Word). is_some (option_map width (entry structs w)) ≡ true) here (subst (λ (o : Option ℕ). is_some o ≡ true) (is tag) there) in
          rw (entry_more structs tag q given, or_some (entry structs q) (if_same (bytes_eq tag q) given) there) (is q)
      by false other = rw (entry_more structs tag q given, other, or_none (entry structs q)) (is q)

pub noted_none : (known : Latest) → ((q : List ℕ) → place_at known q ≡ None) → AreKnown (structs_of []) known
unfolding structs_of
noted_none known e q = e q

take_next : {A : Type 0} (xs : List A) (i : ℕ) (d : A) → i < length xs → take (suc i) xs ≡ take i xs ++ slice_index_or xs i d ∷ []
take_next [] i d l = absurd (omega arith)
take_next (y ∷ ys) zero d l = refl
take_next (y ∷ ys) (suc i) d l = ap (λ zs. y ∷ zs) (take_next ys i d (omega arith))

pub next_item : (items : List Item) (i : ℕ) (x : Item) (before : List Item) (known : Latest) → i < length items → x ≡ slice_index_or items i x → before ≡ take i items
    → AreKnown (with_struct (structs_of before) x) known → AreKnown (structs_of (take (i + 1) items)) known
unfolding structs_of
next_item items i x before known l at same is =
    rw (add-one i) (subst (λ structs. AreKnown structs known)
    (sym (ap (fold with_struct []) (take_next items i x l ∙ ap (λ y. take i items ++ y ∷ []) (sym at)) ∙ fold-append with_struct [] (take i items) (x ∷ [])))
    (subst (λ xs. AreKnown (with_struct (fold with_struct [] xs) x) known) same is))

is_absent : (o : Option ℕ) → is_some o ≡ false → o ≡ None
is_absent None h = refl
is_absent (Some x) h = absurd (false≢true (sym h))

pub noted_by : {E : Type 0} (structs : Structs) (tag : Word) (members : List Declaration) (known new : Latest) (size : ℕ) (result : Result (Unit {0}) E) → AreKnown structs known
    → size ≡ capped (members_bytes structs members) → is_some (place_at known tag) ≡ false
    → OnOk result ((q : Word) → place_at new q ≡ update bytes_eq (place_at known) tag (Some size) q) → OnOk result (AreNoted structs tag members new)
noted_by structs tag members known new size (Ok x) is e none after = noted_new structs tag members known is new size e (is_absent (place_at known tag) none) after
noted_by structs tag members known new size (Err x) is e none after = tt

-- ---- by the signature of a function

pub request_by : (structs : Structs) (ss : List Signature) (s : Signature) (n : ℕ) → n ≡ capped (declared_bytes structs s.params) → ss ≡ s ∷ [] → n ≡ capped (size_in structs ss false)
request_by structs ss s n e is = e ∙ ap capped (request_is structs s ∙ sym (ap (λ (xs : List Signature). size_in structs xs false) is))

pub reply_by : (structs : Structs) (ss : List Signature) (s : Signature) (n : ℕ) → n ≡ capped (bytes_of (shape_of structs s.result) + arrays_bytes structs s.params) → ss ≡ s ∷ []
    → n ≡ capped (size_in structs ss true)
reply_by structs ss s n e is = e ∙ ap capped (reply_is structs s ∙ sym (ap (λ (xs : List Signature). size_in structs xs true) is))
