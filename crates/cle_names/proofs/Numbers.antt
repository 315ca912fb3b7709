-- A list of words and the place of each.
use Rattle.std.proofs.Common.{◌≡◌, ◌≤◌, ◌<◌, ◌+◌, ℕ, suc, arith, get_or, drop, drop-cons, add-one, List, [], ◌∷◌, ◌++◌, length, refl, ap, sym, ◌∙◌, subst, Bool, true, false, ◌||◌, if◌then◌else◌, Option, Some, None, option_map, unwrap_or, is_some, bytes_eq}
use Rattle.std.specs.Map.{update}
use Rattle.std.proofs.Common.{map, Bor}
use Rattle.std.proofs.lemmas.List.{map-append, drop_all}
use Rattle.cl_tree.specs.Words.{Word}
use Rattle.cl_labelling.specs.Names.{has_word, number_of}
use Rattle.cl_scope.specs.declared.latest.Latest.{Latest}
use Rattle.cl_scope.specs.Table.{place_at}
use Rattle.cl_scope.proofs.Places.{same_name, same_bytes}
use Rattle.cle_names.specs.Walked.{place_of}
use Rattle.cle_names.specs.Finding.{IsNumbered}

same_bool : (b c : Bool) → (b ≡ true → c ≡ true) → (c ≡ true → b ≡ true) → b ≡ c
same_bool true true h k = refl
same_bool true false h k = sym (h refl)
same_bool false true h k = k refl
same_bool false false h k = refl

turned : (a b : Word) → bytes_eq a b ≡ true → bytes_eq b a ≡ true
turned a b h = subst (λ (x : Word). bytes_eq x a ≡ true) (same_name a b h) (same_bytes a)

pub bytes_sym : (a b : Word) → bytes_eq a b ≡ bytes_eq b a
bytes_sym a b = same_bool (bytes_eq a b) (bytes_eq b a) (turned a b) (turned b a)

-- ---- one word more

below_none : (b : Bool) (o : Option ℕ) → (if b then Some 0 else option_map suc o) ≡ None → o ≡ None
below_none true o h = cc
below_none false None h = refl
below_none false (Some k) h = cc

clash : (k : ℕ) (x y : Option ℕ) → Some k ≡ None → x ≡ y
clash k x y h = cc

push_case : (b c : Bool) (o r : Option ℕ) (n : ℕ) → r ≡ (if c then Some n else o)
    → (c ≡ true → (if b then Some 0 else option_map suc o) ≡ None)
    → (if b then Some 0 else option_map suc r) ≡ (if c then Some (suc n) else (if b then Some 0 else option_map suc o))
push_case true true o r n e h = clash 0 (Some 0) (Some (suc n)) (h refl)
push_case true false o r n e h = refl
push_case false true o r n e h = ap (option_map suc) e
push_case false false o r n e h = ap (option_map suc) e

place_push : (words : List Word) (w q : Word) → (bytes_eq w q ≡ true → place_of words q ≡ None)
    → place_of (words ++ w ∷ []) q ≡ (if bytes_eq w q then Some (length words) else place_of words q)
unfolding place_of
place_push [] w q h = refl
place_push (v ∷ vs) w q h =
    push_case (bytes_eq v q) (bytes_eq w q) (place_of vs q) (place_of (vs ++ w ∷ []) q) (length vs)
    (place_push vs w q (λ e. below_none (bytes_eq v q) (place_of vs q) (h e))) h

pub numbered_none : (known : Latest) → ((q : Word) → place_at known q ≡ None) → IsNumbered [] known
unfolding place_of
numbered_none known h = h

pub numbered_push : (words : List Word) (w : Word) (old new : Latest) → IsNumbered words old → place_of words w ≡ None
    → ((q : Word) → place_at new q ≡ update bytes_eq (place_at old) w (Some (length words)) q)
    → IsNumbered (words ++ w ∷ []) new
numbered_push words w old new k none u = λ q.
    u q ∙ ap (λ (o : Option ℕ). if bytes_eq w q then Some (length words) else o) (k q)
    ∙ sym (place_push words w q (λ e. subst (λ (x : Word). place_of words x ≡ None) (same_name w q e) none))

-- ---- whether a word is there, and its number

has_case : (b : Bool) (o : Option ℕ) (c : Bool) → is_some o ≡ c → is_some (if b then Some 0 else option_map suc o) ≡ (b || c)
has_case true o c h = refl
has_case false None c h = h
has_case false (Some k) c h = h

pub has_place : (words : List Word) (w : Word) → is_some (place_of words w) ≡ has_word words w
unfolding place_of has_word
has_place [] w = refl
has_place (v ∷ vs) w =
    has_case (bytes_eq v w) (place_of vs w) (has_word vs w) (has_place vs w)
    ∙ ap (λ (b : Bool). b || has_word vs w) (bytes_sym v w)

not_case : (o : Option ℕ) (b : Bool) → is_some o ≡ b → b ≡ false → o ≡ None
not_case None b e h = refl
not_case (Some k) b e h = let z : true ≡ false = e ∙ h in cc

pub not_there : (words : List Word) (w : Word) → has_word words w ≡ false → place_of words w ≡ None
not_there words w h = not_case (place_of words w) (has_word words w) (has_place words w) h

number_case : (b : Bool) (o : Option ℕ) (n k : ℕ) → k ≡ unwrap_or o n
    → (if b then 0 else suc k) ≡ unwrap_or (if b then Some 0 else option_map suc o) (suc n)
number_case true o n k h = refl
number_case false None n k h = ap suc h
number_case false (Some j) n k h = ap suc h

pub number_is : (words : List Word) (w : Word) → number_of words w ≡ unwrap_or (place_of words w) (length words)
unfolding place_of number_of
number_is [] w = refl
number_is (v ∷ vs) w =
    number_case (bytes_eq v w) (place_of vs w) (length vs) (number_of vs w) (number_is vs w)

pub number_some : (words : List Word) (w : Word) (k : ℕ) → Some k ≡ place_of words w → k ≡ number_of words w
number_some words w k e =
    ap (λ (o : Option ℕ). unwrap_or o (length words)) e ∙ sym (number_is words w)

pub number_none : (words : List Word) (w : Word) → None ≡ place_of words w → length words ≡ number_of words w
number_none words w e =
    ap (λ (o : Option ℕ). unwrap_or o (length words)) e ∙ sym (number_is words w)

-- ---- the words of names

abbrev pub words_of : List (Bor Word) → List Word
words_of names = map (λ (n : Bor Word). n.now) names

pub words_push : (names : List (Bor Word)) (all : List (Bor Word)) (name : Bor Word) (words : List Word)
    → all ≡ names ++ name ∷ [] → words_of names ≡ words → words_of all ≡ words ++ name.now ∷ []
words_push names all name words e v =
    ap words_of e ∙ map-append (λ (n : Bor Word). n.now) names (name ∷ [])
    ∙ ap (λ (ws : List Word). ws ++ name.now ∷ []) v

pub numbered_add : (names : List (Bor Word)) (all : List (Bor Word)) (name : Bor Word) (words : List Word) (old new : Latest)
    (n : ℕ) → IsNumbered (words_of names) old → words_of names ≡ words → place_of words name.now ≡ None
    → all ≡ names ++ name ∷ [] → n ≡ length words
    → ((q : Word) → place_at new q ≡ update bytes_eq (place_at old) name.now (Some n) q)
    → IsNumbered (words_of all) new
numbered_add names all name words old new n k v none e size u =
    let i : IsNumbered words old = subst (λ (ws : List Word). IsNumbered ws old) v k in
    let j : IsNumbered (words ++ name.now ∷ []) new =
    numbered_push words name.now old new i none
    (subst (λ (m : ℕ). (q : Word) → place_at new q ≡ update bytes_eq (place_at old) name.now (Some m) q) size u) in
    subst (λ (ws : List Word). IsNumbered ws new) (sym (words_push names all name words e v)) j

within_case : (b : Bool) (k n : ℕ) → k ≤ n → (if b then 0 else suc k) ≤ suc n
within_case true k n h = omega arith
within_case false k n h = omega arith

pub number_within : (words : List Word) (w : Word) → number_of words w ≤ length words
unfolding number_of
number_within [] w = omega arith
number_within (v ∷ vs) w = within_case (bytes_eq v w) (number_of vs w) (length vs) (number_within vs w)

-- ---- a search for a word

rest_at : (ws : List Word) (v : Word) (i : ℕ) → i < length ws → v ≡ get_or ws i v → drop i ws ≡ v ∷ drop (suc i) ws
rest_at ws v i h is = drop-cons ws i v h ∙ ap (λ (x : Word). x ∷ drop (suc i) ws) (sym is)

number_at : (ws : List Word) (w v : Word) (i : ℕ) (b : Bool) → i < length ws → v ≡ get_or ws i v → bytes_eq v w ≡ b
    → number_of (drop i ws) w ≡ (if b then 0 else suc (number_of (drop (suc i) ws) w))
unfolding number_of
number_at ws w v i b h is e =
    ap (λ (xs : List Word). number_of xs w) (rest_at ws v i h is)
    ∙ ap (λ (c : Bool). if c then 0 else suc (number_of (drop (suc i) ws) w)) e

pub number_here : (ws : List Word) (w v : Word) (i k n : ℕ) → i < length ws → v ≡ get_or ws i v → bytes_eq v w ≡ true
    → k + number_of (drop i ws) w ≡ n → k ≡ n
number_here ws w v i k n h is e rest =
    let z : number_of (drop i ws) w ≡ 0 = number_at ws w v i true h is e in omega (arith, z, rest)

pub number_step : (ws : List Word) (w v : Word) (i k n : ℕ) → i < length ws → v ≡ get_or ws i v → bytes_eq v w ≡ false
    → k + number_of (drop i ws) w ≡ n → (k + 1) + number_of (drop (i + 1) ws) w ≡ n
number_step ws w v i k n h is e rest =
    let z : number_of (drop i ws) w ≡ suc (number_of (drop (suc i) ws) w) = number_at ws w v i false h is e in
    let e : number_of (drop (i + 1) ws) w ≡ number_of (drop (suc i) ws) w = rw add-one refl in
    omega (arith, z, rest, e)

pub number_end : (ws : List Word) (w : Word) (i k n : ℕ) → length ws ≤ i → k + number_of (drop i ws) w ≡ n → k ≡ n
unfolding number_of
number_end ws w i k n h rest =
    let z : number_of (drop i ws) w ≡ 0 = ap (λ (xs : List Word). number_of xs w) (drop_all i ws h) in
    omega (arith, z, rest)
