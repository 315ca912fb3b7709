-- One item further.
use Rattle.std.proofs.Common.{◌≡◌, ℕ, suc, ◌+◌, ◌<◌, ◌≤◌, List, [], ◌∷◌, ◌++◌, drop, drop-cons, add-one, length, slice_index_or, Bool, refl, sym, ap, subst, ◌∙◌, append_assoc, Err}
use Rattle.std.specs.List.{flat_map}
use Rattle.std.proofs.lemmas.List.{drop_all}
use Rattle.cl_typing.specs.Rules.{Lines, unless}
use Rattle.cl_scope.specs.Finds.{Finds}
use Rattle.cl_scope.specs.declared.stop.Stop.{Stop}
use Rattle.cl_regions.specs.Roles.{subject_of}
use Rattle.cl_regions.proofs.Steps.{front}
use Rattle.cle_items.specs.Numbered.{Numbered, numbered}
use Rattle.cle_items.specs.declared.numbers.Numbered as code

abbrev pub seen : code.Numbered → Numbered
seen n = record { subject = subject_of n.subject; line = n.line; label = n.label }

-- what an item and those behind it come to
pub next : {A : Type 0} (f : Numbered → List A) (all : List code.Numbered) (i : ℕ) (n : code.Numbered) → i < length all → n ≡ slice_index_or all i n
    → flat_map f (numbered (drop i all)) ≡ f (seen n) ++ flat_map f (numbered (drop (i + 1) all))
next f all i n within is = rw (add-one i) (ap (λ (xs : List code.Numbered). flat_map f (numbered xs)) (drop-cons all i n within ∙ ap (λ (x : code.Numbered). x ∷ drop (suc i) all) (sym is)))

pub none_left : {A : Type 0} (f : Numbered → List A) (all : List code.Numbered) (i : ℕ) → length all ≤ i → flat_map f (numbered (drop i all)) ≡ []
none_left f all i past = ap (λ (xs : List code.Numbered). flat_map f (numbered xs)) (drop_all i all past)

-- a rule that holds at an item
pub holds : (f : Numbered → Lines) (all : List code.Numbered) (i : ℕ) (n : code.Numbered) (whole : Lines) → i < length all → n ≡ slice_index_or all i n
    → f (seen n) ≡ [] → flat_map f (numbered (drop i all)) ≡ whole → flat_map f (numbered (drop (i + 1) all)) ≡ whole
holds f all i n whole within is fine rest =
    ap (λ (ls : Lines). ls ++ flat_map f (numbered (drop (i + 1) all))) (sym fine) ∙ sym (next f all i n within is) ∙ rest

-- or fails there
pub fails : (f : Numbered → Lines) (all : List code.Numbered) (i : ℕ) (n : code.Numbered) (b : Bool) (stop : Stop) (whole : Lines) → i < length all → n ≡ slice_index_or all i n
    → f (seen n) ≡ unless b n.line → Finds (Err stop) (unless b n.line) → flat_map f (numbered (drop i all)) ≡ whole → Finds (Err stop) whole
fails f all i n b stop whole within is e found rest =
    subst (λ (ls : Lines). Finds (Err stop) ls) (sym (next f all i n within is ∙ ap (λ (ls : Lines). ls ++ flat_map f (numbered (drop (i + 1) all))) e) ∙ rest)
    (front stop b n.line n.line (flat_map f (numbered (drop (i + 1) all))) refl found)

-- what was found so far, and one item more
pub one_more : {A : Type 0} (f : Numbered → List A) (all : List code.Numbered) (i : ℕ) (n : code.Numbered) (old new whole : List A) → i < length all → n ≡ slice_index_or all i n
    → new ≡ old ++ f (seen n) → old ++ flat_map f (numbered (drop i all)) ≡ whole → new ++ flat_map f (numbered (drop (i + 1) all)) ≡ whole
one_more f all i n old new whole within is e rest =
    ap (λ (xs : List _). xs ++ flat_map f (numbered (drop (i + 1) all))) e ∙ append_assoc old (f (seen n)) (flat_map f (numbered (drop (i + 1) all)))
    ∙ ap (λ (xs : List _). old ++ xs) (sym (next f all i n within is)) ∙ rest
