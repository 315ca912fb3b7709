-- What `from_slice` says of a text, as the reading of its bytes.
use Rattle.std.proofs.Common.{◌≡◌, ℕ, List, Bool, true, false, refl, ap, ◌∙◌, Some, None, option_and_then, if◌then◌else◌, Result, Ok, Err, IfOk, IfErr}
use Rattle.std.specs.Str.{is_utf8, IsUtf8}
use Rattle.std.proofs.lemmas.Str.{IsUtf8-from_is_utf8, is_utf8-from_IsUtf8}
use Rattle.serde_json.specs.Data.{Data}
use Rattle.serde_json.specs.Read.{read}
use Rattle.cl_labelling.specs.Json.{json_of}
use Rattle.cl_labelling.specs.declared.draft.Draft.{Draft}
use Rattle.cl_labelling.specs.Text.{draft_of, draft_in}
use Rattle.cle_text.specs.Answer.{Stops, JsonIs, ShapeStops}
use Rattle.cle_text.specs.declared.definition.TextStop.{TextStop}
use Rattle.cle_text.specs.declared.definition.TextStop.TheVariants.{NotJson, Misshapen, NoMemory}

pub json_some : (text : List ℕ) (d : Data) → IsUtf8 text → read text ≡ Some d → json_of text ≡ Some d
unfolding json_of
json_some text d u e = ap (λ (b : Bool). if b then read text else None) (is_utf8-from_IsUtf8 text u) ∙ e

none_case : (text : List ℕ) (b : Bool) → (b ≡ true → read text ≡ None) → (if b then read text else None) ≡ None
none_case text true h = h refl
none_case text false h = refl

pub json_none : (text : List ℕ) → (IsUtf8 text → read text ≡ None) → json_of text ≡ None
unfolding json_of
json_none text h = none_case text (is_utf8 text) (λ e. h (IsUtf8-from_is_utf8 text e))

-- ---- the answer of the whole

pub found_whole : (text : List ℕ) (d : Data) (r : Result Draft TextStop) → json_of text ≡ Some d
    → IfOk r (λ draft. draft_of d ≡ Some draft) → IfOk r (λ draft. draft_in text ≡ Some draft)
unfolding draft_in
found_whole text d (Ok draft) e h = ap (option_and_then draft_of) e ∙ h
found_whole text d (Err stop) e h = tt

pub fails_whole : (text : List ℕ) (d : Data) (r : Result Draft TextStop) → json_of text ≡ Some d
    → IfErr r (λ stop. ShapeStops stop (draft_of d)) → IfErr r (λ stop. Stops stop text)
unfolding Stops
fails_whole text d (Ok draft) e h = tt
fails_whole text d (Err NotJson) e h = absurd h
fails_whole text d (Err Misshapen) e h = (d, e, h)
fails_whole text d (Err NoMemory) e h = tt

pub no_json : (text : List ℕ) (stop : TextStop) → JsonIs (Err stop) (json_of text) → Stops stop text
unfolding Stops JsonIs
no_json text NotJson h = h
no_json text Misshapen h = absurd h
no_json text NoMemory h = tt
