-- The member of a struct that has a name.
use Rattle.std.proofs.Common.{◌≡◌, ℕ, zero, suc, ◌+◌, ◌<◌, ◌≤◌, arith, List, [], ◌∷◌, ◌++◌, length, drop, get_or, refl, sym, ap, ◌∙◌, Bool, true, false, if◌then◌else◌, bytes_eq, add-one, drop-cons}
use Rattle.std.specs.List.{flat_map}
use Rattle.cl_tree.specs.declared.tree.Declaration.{Declaration}
use Rattle.cl_tree.specs.declared.tree.Declarator.{Declarator}
use Rattle.cl_tree.specs.Words.{Word}
use Rattle.cl_mean.specs.Shape.{Shape, nothing, member_index, Structs, members_of, shape_of, count_of}
use Rattle.code_forms.specs.Layout as layout
use Rattle.code_tables.specs.Types.{section_of, behind}

pub behind_none : (s : layout.Section) → s ≡ behind 0 s
behind_none s = let e : s.offset ≡ 0 + s.offset = omega arith in ap (λ (n : ℕ). record { shape = s.shape; offset = n }) e

pub behind_more : (a b n : ℕ) (s : layout.Section) → n ≡ a + b → behind a (behind b s) ≡ behind n s
behind_more a b n s e = let f : a + (b + s.offset) ≡ n + s.offset = omega (arith, e) in ap (λ (k : ℕ). record { shape = s.shape; offset = k }) f

first_is : (structs : Structs) (d : Declarator) (ds : List Declarator) (name : Word) → bytes_eq d.name name ≡ true
    → section_of (members_of structs (d ∷ ds)) name ≡ record { shape = shape_of structs d.ctype; offset = 0 }
first_is structs d ds name e =
    ap (λ (b : Bool). layout.member_at (members_of structs (d ∷ ds)) (if b then 0 else suc (member_index (members_of structs ds) name))) e

other_is : (structs : Structs) (d : Declarator) (ds : List Declarator) (name : Word) → bytes_eq d.name name ≡ false
    → section_of (members_of structs (d ∷ ds)) name ≡ behind (count_of (shape_of structs d.ctype)) (section_of (members_of structs ds) name)
other_is structs d ds name e =
    ap (λ (b : Bool). layout.member_at (members_of structs (d ∷ ds)) (if b then 0 else suc (member_index (members_of structs ds) name))) e

rest_is : (all es : List Declarator) (i : ℕ) (d : Declarator) → i < length all → d ≡ get_or all i d → drop i all ++ es ≡ d ∷ (drop (i + 1) all ++ es)
rest_is all es i d h is =
    ap (λ (xs : List Declarator). xs ++ es) (drop-cons all i d h ∙ ap (λ (x : Declarator). x ∷ drop (suc i) all) (sym is))
    ∙ ap (λ (k : ℕ). d ∷ (drop k all ++ es)) (sym (add-one i))

-- it is the next one
pub found_at : (structs : Structs) (all es : List Declarator) (i : ℕ) (d : Declarator) (name : Word) (offset : ℕ) → i < length all → d ≡ get_or all i d
    → bytes_eq d.name name ≡ true
    → section_of (members_of structs (all ++ es)) name ≡ behind offset (section_of (members_of structs (drop i all ++ es)) name)
    → section_of (members_of structs (all ++ es)) name ≡ record { shape = shape_of structs d.ctype; offset = offset }
found_at structs all es i d name offset h is same before =
    let e : offset + 0 ≡ offset = omega arith in
    before ∙ ap (λ (xs : List Declarator). behind offset (section_of (members_of structs xs) name)) (rest_is all es i d h is)
    ∙ ap (behind offset) (first_is structs d (drop (i + 1) all ++ es) name same)
    ∙ ap (λ (n : ℕ). record { shape = shape_of structs d.ctype; offset = n }) e

-- it is not the next one
pub found_on : (structs : Structs) (all es : List Declarator) (i : ℕ) (d : Declarator) (name : Word) (offset cells more : ℕ) → i < length all → d ≡ get_or all i d
    → bytes_eq d.name name ≡ false → cells ≡ count_of (shape_of structs d.ctype) → more ≡ offset + cells
    → section_of (members_of structs (all ++ es)) name ≡ behind offset (section_of (members_of structs (drop i all ++ es)) name)
    → section_of (members_of structs (all ++ es)) name ≡ behind more (section_of (members_of structs (drop (i + 1) all ++ es)) name)
found_on structs all es i d name offset cells more h is other size sum before =
    before ∙ ap (λ (xs : List Declarator). behind offset (section_of (members_of structs xs) name)) (rest_is all es i d h is)
    ∙ ap (behind offset) (other_is structs d (drop (i + 1) all ++ es) name other)
    ∙ behind_more offset (count_of (shape_of structs d.ctype)) more (section_of (members_of structs (drop (i + 1) all ++ es)) name) (sum ∙ ap (λ (n : ℕ). offset + n) size)

nothing_left : {A : Type 0} (all : List A) (i : ℕ) → length all ≤ i → drop i all ≡ []
nothing_left [] zero h = refl
nothing_left [] (suc i) h = refl
nothing_left (x ∷ xs) zero h = absurd (omega arith)
nothing_left (x ∷ xs) (suc i) h = nothing_left xs i (omega arith)

-- it is none of them
pub found_none : (structs : Structs) (all es : List Declarator) (i : ℕ) (name : Word) (offset : ℕ) → length all ≤ i
    → section_of (members_of structs (all ++ es)) name ≡ behind offset (section_of (members_of structs (drop i all ++ es)) name)
    → section_of (members_of structs (all ++ es)) name ≡ behind offset (section_of (members_of structs es) name)
found_none structs all es i name offset h before =
    before ∙ ap (λ (xs : List Declarator). behind offset (section_of (members_of structs (xs ++ es)) name)) (nothing_left all i h)

-- ---- declarations

abbrev names_in : List Declaration → List Declarator
names_in ds = flat_map (λ d. d.names) ds

next_is : (all : List Declaration) (i : ℕ) (d : Declaration) → i < length all → d ≡ get_or all i d → names_in (drop i all) ≡ d.names ++ names_in (drop (i + 1) all)
next_is all i d h is =
    ap names_in (drop-cons all i d h ∙ ap (λ (x : Declaration). x ∷ drop (suc i) all) (sym is))
    ∙ ap (λ (k : ℕ). d.names ++ names_in (drop k all)) (sym (add-one i))

-- it stands in the next declaration
pub member_at : (structs : Structs) (all : List Declaration) (i : ℕ) (d : Declaration) (names : List Declarator) (name : Word) (before offset whole : ℕ) (shape : Shape) → i < length all → d ≡ get_or all i d
    → names ≡ d.names → ((es : List Declarator) → section_of (members_of structs (names ++ es)) name ≡ record { shape = shape; offset = offset }) → whole ≡ before + offset
    → section_of (members_of structs (names_in all)) name ≡ behind before (section_of (members_of structs (names_in (drop i all))) name)
    → record { shape = shape; offset = whole } ≡ section_of (members_of structs (names_in all)) name
member_at structs all i d names name before offset whole shape h is same found sum was =
    sym (was ∙ ap (λ (xs : List Declarator). behind before (section_of (members_of structs xs) name)) (next_is all i d h is ∙ ap (λ (xs : List Declarator). xs ++ names_in (drop (i + 1) all)) (sym same))
    ∙ ap (behind before) (found (names_in (drop (i + 1) all))) ∙ ap (λ (n : ℕ). record { shape = shape; offset = n }) (sym sum))

-- it does not
pub member_on : (structs : Structs) (all : List Declaration) (i : ℕ) (d : Declaration) (names : List Declarator) (name : Word) (before cells more : ℕ) → i < length all → d ≡ get_or all i d
    → names ≡ d.names → ((es : List Declarator) → section_of (members_of structs (names ++ es)) name ≡ behind cells (section_of (members_of structs es) name)) → more ≡ before + cells
    → section_of (members_of structs (names_in all)) name ≡ behind before (section_of (members_of structs (names_in (drop i all))) name)
    → section_of (members_of structs (names_in all)) name ≡ behind more (section_of (members_of structs (names_in (drop (i + 1) all))) name)
member_on structs all i d names name before cells more h is same past sum was =
    was ∙ ap (λ (xs : List Declarator). behind before (section_of (members_of structs xs) name)) (next_is all i d h is ∙ ap (λ (xs : List Declarator). xs ++ names_in (drop (i + 1) all)) (sym same))
    ∙ ap (behind before) (past (names_in (drop (i + 1) all)))
    ∙ behind_more before cells more (section_of (members_of structs (names_in (drop (i + 1) all))) name) sum

-- no declaration is left
pub member_none : (structs : Structs) (all : List Declaration) (i : ℕ) (name : Word) (before : ℕ) → length all ≤ i
    → section_of (members_of structs (names_in all)) name ≡ behind before (section_of (members_of structs (names_in (drop i all))) name)
    → record { shape = nothing; offset = before } ≡ section_of (members_of structs (names_in all)) name
member_none structs all i name before h was =
    let e : before + 0 ≡ before = omega arith in
    sym (was ∙ ap (λ (xs : List Declaration). behind before (section_of (members_of structs (names_in xs)) name)) (nothing_left all i h) ∙ ap (λ (n : ℕ). record { shape = nothing; offset = n }) e)
