-- The rules of definitions are those of the pragmas.
use Rattle.std.proofs.Common.{◌≡◌, ℕ, List, [], ◌∷◌, ◌++◌, refl, ap, sym, ◌∙◌, subst, Bool, true, false, not, ◌||◌, is_some, Result, Err, bytes_eq}
use Rattle.std.proofs.lemmas.List.{append_assoc, append-nil}
use Rattle.std.specs.List.{flat_map}
use Rattle.cl_tree.specs.declared.token.Pragma.{Pragma}
use Rattle.cl_tree.specs.declared.token.Pragma.TheVariants as pragma
use Rattle.cl_tree.specs.Words.{Word}
use Rattle.cl_typing.specs.Rules.{Lines, unless}
use Rattle.cl_labelling.specs.Json.{json_of}
use Rattle.cl_labelling.specs.Text.{draft_in}
use Rattle.cl_mean.specs.declared.labels.LabelFact.{LabelFact}
use Rattle.cl_labelling.specs.Names.{Named, not_json, misshapen, levels_in, defined_twice, names_of, has_word, is_shaped, levels_after}
use Rattle.cl_labelling.specs.Pragmas.{Placed, placed}
use Rattle.cl_scope.specs.Finds.{Finds}
use Rattle.cl_scope.specs.declared.stop.Stop.{Stop}
use Rattle.cl_scope.specs.declared.stop.Stop.TheVariants.{At, NoMemory}
use Rattle.cle_names.specs.Finding.{FindsPlace}
use Rattle.cle_names.specs.Reading.{has_json}
use Rattle.cle_names.specs.Names.{facts_at, labels_in}
use Rattle.cle_names.specs.Walked.{definitions_in, json_places, shape_at, levels_past, shape_places, levels_behind, labels_past, twice_at, twice_places, labels_behind}

-- ---- texts that are no JSON

json_one : (q : Pragma) (line : ℕ) (ps : List Placed) → json_places ps ≡ not_json (definitions_in ps)
    → unless (has_json q) line ++ json_places ps ≡ not_json (definitions_in (placed q line ∷ ps))
unfolding not_json
json_one (pragma.Def name text) line ps e = ap (λ (ls : Lines). unless (is_some (json_of text)) line ++ ls) e
json_one (pragma.Begin name) line ps e = e
json_one (pragma.End name) line ps e = e
json_one (pragma.Next name) line ps e = e

pub json_same : (ps : List Placed) → json_places ps ≡ not_json (definitions_in ps)
unfolding json_places not_json
json_same [] = refl
json_same (p ∷ ps) = json_one p.pragma p.line ps (json_same ps)

pub json_finds : (r : Result (Unit {0}) Stop) (ps : List Placed) → Finds r (json_places ps)
    → Finds r (not_json (definitions_in ps))
json_finds r ps h = subst (λ (ls : Lines). Finds r ls) (json_same ps) h

-- ---- shapes and levels

shape_one : (q : Pragma) (line : ℕ) (levels : List Word) (ps : List Placed)
    → ((ws : List Word) → shape_places ws ps ≡ misshapen ws (definitions_in ps))
    → shape_at levels q line ++ shape_places (levels_past levels q) ps ≡ misshapen levels (definitions_in (placed q line ∷ ps))
unfolding misshapen
shape_one (pragma.Def name text) line levels ps h =
    ap (λ (ls : Lines). unless (is_shaped levels (draft_in text)) line ++ ls) (h (levels_after levels (draft_in text)))
shape_one (pragma.Begin name) line levels ps h = h levels
shape_one (pragma.End name) line levels ps h = h levels
shape_one (pragma.Next name) line levels ps h = h levels

pub shape_same : (ps : List Placed) (levels : List Word) → shape_places levels ps ≡ misshapen levels (definitions_in ps)
unfolding shape_places misshapen
shape_same [] levels = refl
shape_same (p ∷ ps) levels = shape_one p.pragma p.line levels ps (λ (ws : List Word). shape_same ps ws)

levels_one : (q : Pragma) (line : ℕ) (levels : List Word) (ps : List Placed)
    → ((ws : List Word) → levels_behind ws ps ≡ levels_in ws (definitions_in ps))
    → levels_behind (levels_past levels q) ps ≡ levels_in levels (definitions_in (placed q line ∷ ps))
unfolding levels_in
levels_one (pragma.Def name text) line levels ps h = h (levels_after levels (draft_in text))
levels_one (pragma.Begin name) line levels ps h = h levels
levels_one (pragma.End name) line levels ps h = h levels
levels_one (pragma.Next name) line levels ps h = h levels

pub levels_same : (ps : List Placed) (levels : List Word) → levels_behind levels ps ≡ levels_in levels (definitions_in ps)
unfolding levels_behind levels_in
levels_same [] levels = refl
levels_same (p ∷ ps) levels = levels_one p.pragma p.line levels ps (λ (ws : List Word). levels_same ps ws)

-- ---- labels

or_last : (b c d : Bool) → ((b || c) || d) ≡ (b || (c || d))
or_last true c d = refl
or_last false c d = refl

or_turned : (b c : Bool) → (b || c) ≡ (c || b)
or_turned true true = refl
or_turned true false = refl
or_turned false true = refl
or_turned false false = refl

or_none : (b : Bool) → (b || false) ≡ b
or_none true = refl
or_none false = refl

has_last : (words : List Word) (w q : Word) → has_word (words ++ w ∷ []) q ≡ (has_word words q || bytes_eq q w)
unfolding has_word
has_last [] w q = or_none (bytes_eq q w)
has_last (v ∷ vs) w q =
    ap (λ (b : Bool). bytes_eq q v || b) (has_last vs w q) ∙ sym (or_last (bytes_eq q v) (has_word vs q) (bytes_eq q w))

has_first : (words : List Word) (w q : Word) → has_word (w ∷ words) q ≡ (bytes_eq q w || has_word words q)
unfolding has_word
has_first words w q = refl

agree_more : (seen labels : List Word) (w : Word) → ((q : Word) → has_word seen q ≡ has_word labels q) → (q : Word)
    → has_word (w ∷ seen) q ≡ has_word (labels ++ w ∷ []) q
agree_more seen labels w h q =
    has_first seen w q ∙ ap (λ (b : Bool). bytes_eq q w || b) (h q) ∙ or_turned (bytes_eq q w) (has_word labels q)
    ∙ sym (has_last labels w q)

twice_one : (q : Pragma) (line : ℕ) (seen labels : List Word) (ps : List Placed)
    → ((w : Word) → has_word seen w ≡ has_word labels w)
    → ((ss ls : List Word) → ((w : Word) → has_word ss w ≡ has_word ls w) → twice_places ls ps ≡ defined_twice ss (definitions_in ps))
    → twice_at labels q line ++ twice_places (labels_past labels q) ps ≡ defined_twice seen (definitions_in (placed q line ∷ ps))
unfolding defined_twice
twice_one (pragma.Def name text) line seen labels ps same h =
    ap (λ (b : Bool). unless (not b) line ++ twice_places (labels ++ name ∷ []) ps) (sym (same name))
    ∙ ap (λ (ls : Lines). unless (not (has_word seen name)) line ++ ls)
    (h (name ∷ seen) (labels ++ name ∷ []) (agree_more seen labels name same))
twice_one (pragma.Begin name) line seen labels ps same h = h seen labels same
twice_one (pragma.End name) line seen labels ps same h = h seen labels same
twice_one (pragma.Next name) line seen labels ps same h = h seen labels same

pub twice_same : (ps : List Placed) (seen labels : List Word) → ((w : Word) → has_word seen w ≡ has_word labels w)
    → twice_places labels ps ≡ defined_twice seen (definitions_in ps)
unfolding twice_places defined_twice
twice_same [] seen labels same = refl
twice_same (p ∷ ps) seen labels same =
    twice_one p.pragma p.line seen labels ps same
    (λ (ss ls : List Word) (e : (w : Word) → has_word ss w ≡ has_word ls w). twice_same ps ss ls e)

pub twice_from_none : (ps : List Placed) → twice_places [] ps ≡ defined_twice [] (definitions_in ps)
twice_from_none ps = twice_same ps [] [] (λ w. refl)

labels_one : (q : Pragma) (line : ℕ) (labels : List Word) (ps : List Placed)
    → ((ws : List Word) → labels_behind ws ps ≡ ws ++ names_of (definitions_in ps))
    → labels_behind (labels_past labels q) ps ≡ labels ++ names_of (definitions_in (placed q line ∷ ps))
labels_one (pragma.Def name text) line labels ps h =
    h (labels ++ name ∷ []) ∙ append_assoc labels (name ∷ []) (names_of (definitions_in ps))
labels_one (pragma.Begin name) line labels ps h = h labels
labels_one (pragma.End name) line labels ps h = h labels
labels_one (pragma.Next name) line labels ps h = h labels

pub labels_same : (ps : List Placed) (labels : List Word) → labels_behind labels ps ≡ labels ++ names_of (definitions_in ps)
unfolding labels_behind
labels_same [] labels = sym (append-nil labels)
labels_same (p ∷ ps) labels = labels_one p.pragma p.line labels ps (λ (ws : List Word). labels_same ps ws)

-- ---- the table of labels

facts_one : (named : Named) (q : Pragma) (line : ℕ) (ps : List Placed) → flat_map (facts_at named) ps ≡ labels_in named ps
    → facts_at named (placed q line) ++ flat_map (facts_at named) ps ≡ labels_in named (placed q line ∷ ps)
unfolding labels_in
facts_one named (pragma.Def name text) line ps e =
    ap (λ (fs : List LabelFact). facts_at named (placed (pragma.Def name text) line) ++ fs) e
facts_one named (pragma.Begin name) line ps e = e
facts_one named (pragma.End name) line ps e = e
facts_one named (pragma.Next name) line ps e = e

pub facts_same : (named : Named) (ps : List Placed) → flat_map (facts_at named) ps ≡ labels_in named ps
unfolding labels_in
facts_same named [] = refl
facts_same named (p ∷ ps) = facts_one named p.pragma p.line ps (facts_same named ps)

-- ---- the answers of whole searches

place_stop : (A : Type 0) (stop : Stop) (a b : Lines) → a ≡ b → Finds (Err stop) a → FindsPlace {A = A} (Err stop) b
place_stop A (At line) a b e h = rw (← e) h
place_stop A NoMemory a b e h = tt

pub shape_none : (ps : List Placed) (levels : List Word) → levels ≡ [] → shape_places levels ps ≡ []
    → misshapen [] (definitions_in ps) ≡ []
shape_none ps levels e h = sym (shape_same ps []) ∙ ap (λ (ws : List Word). shape_places ws ps) (sym e) ∙ h

pub shape_stop : (A : Type 0) (stop : Stop) (ps : List Placed) (levels : List Word) → levels ≡ []
    → Finds (Err stop) (shape_places levels ps) → FindsPlace {A = A} (Err stop) (misshapen [] (definitions_in ps))
shape_stop A stop ps levels e h =
    place_stop A stop (shape_places levels ps) (misshapen [] (definitions_in ps))
    (ap (λ (ws : List Word). shape_places ws ps) e ∙ shape_same ps []) h

pub shape_levels : (ps : List Placed) (levels new : List Word) → levels ≡ [] → new ≡ levels_behind levels ps
    → new ≡ levels_in [] (definitions_in ps)
shape_levels ps levels new e h = h ∙ ap (λ (ws : List Word). levels_behind ws ps) e ∙ levels_same ps []

pub twice_none : (ps : List Placed) (labels : List Word) → labels ≡ [] → twice_places labels ps ≡ []
    → defined_twice [] (definitions_in ps) ≡ []
twice_none ps labels e h =
    sym (twice_from_none ps) ∙ ap (λ (ws : List Word). twice_places ws ps) (sym e) ∙ h

pub twice_stop : (A : Type 0) (stop : Stop) (ps : List Placed) (labels : List Word) → labels ≡ []
    → Finds (Err stop) (twice_places labels ps) → FindsPlace {A = A} (Err stop) (defined_twice [] (definitions_in ps))
twice_stop A stop ps labels e h =
    place_stop A stop (twice_places labels ps) (defined_twice [] (definitions_in ps))
    (ap (λ (ws : List Word). twice_places ws ps) e ∙ twice_from_none ps) h

pub twice_labels : (ps : List Placed) (labels new : List Word) → labels ≡ [] → new ≡ labels_behind labels ps
    → new ≡ names_of (definitions_in ps)
twice_labels ps labels new e h = h ∙ ap (λ (ws : List Word). labels_behind ws ps) e ∙ labels_same ps []
