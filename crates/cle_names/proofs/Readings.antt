-- Readings of a text.
use Rattle.std.proofs.Common.{◌≡◌, ℕ, List, true, false, refl, sym, ap, ◌∙◌, Option, Some, None, option_and_then, is_some, subst}
use Rattle.serde_json.specs.Data.{Data}
use Rattle.cl_labelling.specs.declared.draft.Draft.{Draft}
use Rattle.cl_labelling.specs.Json.{json_of}
use Rattle.cl_labelling.specs.Text.{draft_in, draft_of}
use Rattle.cle_text.specs.Answer.{Stops}
use Rattle.cle_text.specs.declared.definition.TextStop.{TextStop}
use Rattle.cle_text.specs.declared.definition.TextStop.TheVariants.{NotJson, Misshapen}

some_read : (o : Option Data) (draft : Draft) → option_and_then draft_of o ≡ Some draft → true ≡ is_some o
some_read None draft h = cc
some_read (Some d) draft h = refl

pub read_whole : (text : List ℕ) (draft : Draft) → draft_in text ≡ Some draft → true ≡ is_some (json_of text)
unfolding draft_in
read_whole text draft h = some_read (json_of text) draft h

pub read_none : (text : List ℕ) → json_of text ≡ None → None ≡ draft_in text
unfolding draft_in
read_none text h = ap (option_and_then draft_of) (sym h)

pub read_other : (text : List ℕ) (d : Data) → json_of text ≡ Some d → draft_of d ≡ None → None ≡ draft_in text
unfolding draft_in
read_other text d h k = sym (ap (option_and_then draft_of) h ∙ k)

pub not_read : (text : List ℕ) → json_of text ≡ None → false ≡ is_some (json_of text)
not_read text h = rw h refl

pub is_read : (text : List ℕ) (d : Data) → json_of text ≡ Some d → true ≡ is_some (json_of text)
is_read text d h = rw h refl

pub stops_json : (text : List ℕ) (stop : TextStop) → stop ≡ NotJson → Stops stop text → json_of text ≡ None
unfolding Stops
stops_json text stop e h = subst (λ (s : TextStop). Stops s text) e h

pub stops_shape : (text : List ℕ) (stop : TextStop) → stop ≡ Misshapen → Stops stop text
    → (d : Data) × (json_of text ≡ Some d) × (draft_of d ≡ None)
unfolding Stops
stops_shape text stop e h = subst (λ (s : TextStop). Stops s text) e h

pub ruleset readings = (read_whole, read_none, read_other, not_read, is_read)
