-- What `from_slice` says of a text, as the reading of its bytes.
use Rattle.std.proofs.Common.{◌≡◌, ℕ, List, Bool, true, false, refl, ap, ◌∙◌, Some, None, if◌then◌else◌}
use Rattle.std.specs.Str.{is_utf8, IsUtf8}
use Rattle.std.proofs.lemmas.Str.{IsUtf8-from_is_utf8, is_utf8-from_IsUtf8}
use Rattle.serde_json.specs.Data.{Data}
use Rattle.serde_json.specs.Read.{read}
use Rattle.cl_labelling.specs.Json.{json_of}

pub json_some : (text : List ℕ) (d : Data) → IsUtf8 text → read text ≡ Some d → json_of text ≡ Some d
unfolding json_of
json_some text d u e = ap (λ (b : Bool). if b then read text else None) (is_utf8-from_IsUtf8 text u) ∙ e

none_case : (text : List ℕ) (b : Bool) → (b ≡ true → read text ≡ None) → (if b then read text else None) ≡ None
none_case text true h = h refl
none_case text false h = refl

pub json_none : (text : List ℕ) → (IsUtf8 text → read text ≡ None) → json_of text ≡ None
unfolding json_of
json_none text h = none_case text (is_utf8 text) (λ e. h (IsUtf8-from_is_utf8 text e))
