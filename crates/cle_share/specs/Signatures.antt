-- The signatures of functions, by their names: the first of a name is kept.
use Rattle.std.specs.Prelude.{List, Bool, true, false, Option, Some, None, option_map, bytes_eq, if◌then◌else◌}
use Rattle.std.specs.BTreeMap.{get_by_text}
use Rattle.cl_tree.specs.declared.tree.CType.{CType}
use Rattle.cl_tree.specs.declared.tree.Declarator.{Declarator}
use Rattle.cl_tree.specs.declared.tree.Item.{Item}
use Rattle.cl_tree.specs.Words.{Word}
use Rattle.cl_labelling.specs.Fits as fits
use Rattle.cl_labelling.specs.Fits.{defined_by, declared_by, signature_among}
use Rattle.cle_share.specs.declared.signatures.Signature.{Signature}
use Rattle.cle_share.specs.declared.signatures.Signatures.{Signatures}

-- a signature without its name
pub record Parts : Type 0 where
  pub result : CType
  pub params : List Declarator

abbrev pub parts_of : fits.Signature → Parts
parts_of s = record { result = s.result; params = s.params }

abbrev pub parts_in : Signature → Parts
parts_in s = record { result = s.result.now; params = s.params.now }

-- what is noted for a name
abbrev pub noted_at : Signatures → Word → Option Parts
noted_at all name = option_map parts_in (get_by_text all.by_name name)

-- the first signature of a name
unfoldable pub known : List fits.Signature → Word → Option Parts
known ss name = option_map parts_of (signature_among ss name)

abbrev pub or_first : Option Parts → Option Parts → Option Parts
or_first (Some p) other = Some p
or_first None other = other

-- what an item defines, or declares
abbrev pub signatures_in : Bool → Item → List fits.Signature
signatures_in true item = defined_by item
signatures_in false item = declared_by item

abbrev pub if_named : Word → Parts → Word → Option Parts
if_named name parts q = if bytes_eq name q then Some parts else None
