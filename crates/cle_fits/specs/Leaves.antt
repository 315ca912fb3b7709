-- The integers of a payload that a field names.
use Rattle.std.specs.Prelude.{◌≡◌, ℕ, ℤ, List, [], Bool, true, not, ◌||◌, Some}
use Rattle.std.specs.List.{flat_map}
use Rattle.cl_tree.specs.Arithmetic.{fits}
use Rattle.cl_tree.specs.declared.tree.CType.{CType}
use Rattle.cl_tree.specs.declared.tree.Declarator.{Declarator}
use Rattle.cl_tree.specs.declared.tree.Program.{Program}
use Rattle.cl_tree.specs.Words.{Word}
use Rattle.cl_mean.specs.declared.labels.LabelFact.{LabelFact}
use Rattle.cl_labelling.specs.Fits.{Signature, signature, subject_fits}
use Rattle.cl_labelling.specs.Regions.{function}
use Rattle.cl_typing.specs.Rules.{Lines, unless}
use Rattle.cl_scope.specs.Table.{place_at}
use Rattle.cl_scope.specs.declared.latest.Latest.{Latest}
use Rattle.rpc_codec.specs.declared.leaves.Leaf.{Leaf}
use Rattle.cle_share.specs.Bearings.{Bearing}

-- an integer that is chosen can hold the number
abbrev pub leaf_fits : ℤ → Leaf → Bool
leaf_fits n l = not l.chosen || fits l.kind n

-- how a function is declared, whatever its name is
abbrev pub nameless : CType → List Declarator → Signature
nameless result params = signature [] result params

-- the declarations of functions whose label's taints don't fit
abbrev pub misfit_at : Program → List LabelFact → Bearing → Lines
misfit_at program labels b = unless (subject_fits program labels (function b.function) (Some b.label)) b.line

unfoldable pub misfits : Program → List LabelFact → List Bearing → Lines
misfits program labels bs = flat_map (misfit_at program labels) bs

-- What is noted of functions are labels that fit them.
abbrev pub AllFit : Program → List LabelFact → Latest → Type 0
AllFit program labels passed = (name : Word) (k : ℕ) → place_at passed name ≡ Some k → subject_fits program labels (function name) (Some k) ≡ true
