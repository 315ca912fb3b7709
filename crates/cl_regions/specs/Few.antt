-- What is kept of a list of labels: none, one, or that they are more.
use Rattle.std.specs.Prelude.{List, [], ◌∷◌}
use Rattle.cl_tree.specs.Words.{Word}
use Rattle.cl_regions.specs.declared.labels.Labels.{Labels}
use Rattle.cl_regions.specs.declared.labels.Labels.TheVariants as labels

pub data Few : Type 0 where
  none : Few
  one : Word → Few
  many : Few

abbrev pub few : List Word → Few
few [] = none
few (w ∷ []) = one w
few (w ∷ v ∷ ws) = many

abbrev pub both : Few → Few → Few
both none b = b
both a none = a
both a b = many

-- what the code keeps
abbrev pub few_of : Labels → Few
few_of labels.Nothing = none
few_of (labels.One name) = one name.now
few_of labels.Many = many
