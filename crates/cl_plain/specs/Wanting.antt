-- What the Rust types say, as the definitions have it.
use Rattle.std.specs.Prelude.{List, [], ◌∷◌, map, Bool, true, ◌&&◌}
use Rattle.cl_tree.specs.declared.tree.Item.{Item}
use Rattle.cl_tree.specs.Items.{is_well_formed}
use Rattle.cl_tree.specs.declared.grammar.Base.{Base}
use Rattle.cl_tree.specs.declared.grammar.Base.TheVariants as base
use Rattle.cl_tree.specs.Spelling as tree
use Rattle.cl_plain.specs.declared.wanted.Want.{Want}
use Rattle.cl_plain.specs.declared.wanted.Want.TheVariants.{Is, Size}
use Rattle.cl_plain.specs.declared.wanted.Wanted.{Wanted}
use Rattle.cl_plain.specs.declared.types.Common.{Common}
use Rattle.cl_plain.specs.declared.types.Common.TheVariants as common
use Rattle.cl_plain.specs.declared.types.Holder.{Holder}
use Rattle.cl_plain.specs.declared.types.Holder.TheVariants as holder

abbrev pub want_of : Want → tree.Want
want_of (Is s) = tree.is s
want_of (Size n) = tree.size n

abbrev pub wanted_of : Wanted → tree.Wanted
wanted_of w = record { what = want_of w.what; lines = w.lines }

-- the spelling that a list of wanted terminals is
unfoldable pub written : List Wanted → tree.Spelling
written ws = map wanted_of ws

abbrev pub holder_of : Holder → tree.Holder
holder_of holder.Star = tree.star
holder_of holder.Floating = tree.floating
holder_of holder.Other = tree.other

abbrev pub base_seen : Common → Base
base_seen common.Void = base.Void
base_seen (common.Kind kind) = base.Kind kind
base_seen common.Real = base.Real
base_seen (common.Tag tag) = base.Tag tag.now

unfoldable pub all_well_formed : List Item → Bool
all_well_formed [] = true
all_well_formed (i ∷ is) = is_well_formed i && all_well_formed is
