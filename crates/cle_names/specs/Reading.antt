-- What the text of a pragma says, where it defines a label.
use Rattle.std.specs.Prelude.{◌≡◌, Bool, true, is_some, Option, None}
use Rattle.cl_tree.specs.declared.token.Pragma.{Pragma}
use Rattle.cl_tree.specs.declared.token.Pragma.TheVariants as pragma
use Rattle.cl_labelling.specs.declared.draft.Draft.{Draft}
use Rattle.cl_labelling.specs.Json.{json_of}
use Rattle.cl_labelling.specs.Text.{draft_in}

-- nothing but the text of a definition has to be JSON
abbrev pub has_json : Pragma → Bool
has_json (pragma.Def name text) = is_some (json_of text)
has_json _ = true

abbrev pub draft_at : Pragma → Option Draft
draft_at (pragma.Def name text) = draft_in text
draft_at _ = None

pub record IsRead (p : Pragma) (is_json : Bool) (draft : Option Draft) : Type 0 where
  pub json : is_json ≡ has_json p
  pub says : draft ≡ draft_at p
