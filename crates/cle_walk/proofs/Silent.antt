-- Nothing is noted of static locals.
use Rattle.std.proofs.Common.{◌≡◌, ℕ, List, [], ◌∷◌, Bool, true, false, refl}
use Rattle.cl_tree.specs.declared.tree.Declarator.{Declarator}
use Rattle.cl_levels.specs.Crossings.{Levelled}
use Rattle.cl_levels.specs.Uses.{Names, with_static}
use Rattle.cle_ways.specs.Ways.{statics_walk, declare_walk}

silent : (ds : List Declarator) (ns : Names) → (statics_walk ds ns).0 ≡ []
silent [] ns = refl
silent (d ∷ ds) ns = silent ds (with_static d.name ns)

pub declared_silent : (l : Levelled) (f : ℕ) (b : Bool) (ds : List Declarator) (ns : Names) → b ≡ true → (declare_walk l f b ds ns).0 ≡ []
declared_silent l f true ds ns e = silent ds ns
declared_silent l f false ds ns e = absurd (cc)
