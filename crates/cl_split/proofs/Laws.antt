-- What functions use lies within the limits of a program.
use Rattle.std.proofs.Common.{◌≡◌, ◌≤◌, ◌<◌, ℕ, zero, suc, List, [], ◌∷◌, map, length, All, sym, ap, subst, ◌∙◌, arith}
use Rattle.std.proofs.lemmas.List.{length-map, get_or-map}
use Rattle.cl_base.specs.declared.limits.TheConstants.{FUNCTIONS, OBJECTS}
use Rattle.cl_mean.specs.declared.checked.Typed.{Typed}
use Rattle.cl_typing.specs.Typing.{IsTyped}
use Rattle.cl_typing.specs.Facts.{functions_of, objects_of}
use Rattle.typing_laws.proofs.Limited.{all_functions, all_objects}
use Rattle.cl_levels.specs.declared.uses.Body.{Body}
use Rattle.cl_levels.specs.declared.uses.Use.{Use}
use Rattle.cl_levels.specs.Levels.{object_lines}
use Rattle.cl_levels.specs.Uses.{uses_of}
use Rattle.cl_levels.specs.declared.uses.Use.TheVariants.{Named, Called}
use Rattle.uses_laws.specs.Within.{numbered, UseWithin, UsesWithin, BodiesWithin}
use Rattle.uses_laws.proofs.Bounds.{all_within}
use Rattle.uses_laws.proofs.Counts.{functions_count, objects_count}
use Rattle.uses_laws.proofs.Light.{numbered_small}
use Rattle.cl_groups.specs.Ties.{IsBelow}

below : (m n : ℕ) (u : Use) → m ≤ 4096 → n ≤ 4096 → UseWithin m n u → IsBelow u
below m n (Named k line) a b h = omega arith
below m n (Called g roots line) a b h = omega (arith, h.0)

all_below : (m n : ℕ) (us : List Use) → m ≤ 4096 → n ≤ 4096 → UsesWithin m n us → All IsBelow us
all_below m n [] a b h k d l = absurd (omega arith)
all_below m n (u ∷ us) a b h zero d l = below m n u a b h.0
all_below m n (u ∷ us) a b h (suc k) d l = all_below m n us a b h.1 k d (omega arith)

each_below : (m n : ℕ) (uss : List (List Use)) → m ≤ 4096 → n ≤ 4096 → BodiesWithin m n uss → All (λ us. All IsBelow us) uss
each_below m n [] a b h k d l = absurd (omega arith)
each_below m n (us ∷ uss) a b h zero d l = all_below m n us a b h.0
each_below m n (us ∷ uss) a b h (suc k) d l = each_below m n uss a b h.1 k d (omega arith)

module _ (typed : Typed) (t : IsTyped typed.program typed) where
  pub few_functions : length typed.functions ≤ 4096
  few_functions = subst (λ fs. length fs ≤ 4096) (sym t.functions) (all_functions typed.program t.holds)

  pub few_objects : length typed.objects ≤ 4096
  few_objects = subst (λ os. length os ≤ 4096) (sym t.objects) (all_objects typed.program t.holds)

  pub uses_counted : length (uses_of typed) ≡ length typed.functions
  uses_counted = functions_count typed.program typed t

  pub lines_counted : length (object_lines typed.program) ≡ length typed.objects
  lines_counted = objects_count typed.program typed t

  uses_below : All (λ us. All IsBelow us) (uses_of typed)
  uses_below = each_below (length typed.functions) (numbered typed) (uses_of typed) few_functions (numbered_small typed t) (all_within typed)

  module _ (bodies : List Body) (is : map (λ b. b.uses) bodies ≡ uses_of typed) where
    pub few_bodies : length bodies ≤ 4096
    few_bodies =
        let e : length bodies ≡ length typed.functions = sym (length-map bodies (λ b. b.uses)) ∙ ap length is ∙ uses_counted in
        let f : length typed.functions ≤ 4096 = few_functions in
        omega arith

    pub bodies_below : All (λ b. All IsBelow b.uses) bodies
    bodies_below = each bodies (subst (λ uss. All (λ us. All IsBelow us) uss) (sym is) uses_below)
      where
        each : (bs : List Body) → All (λ us. All IsBelow us) (map (λ b. b.uses) bs) → All (λ b. All IsBelow b.uses) bs
        each bs h = λ k d l. subst (λ us. All IsBelow us) (get_or-map (λ b. b.uses) bs k d d.uses l)
            (h k d.uses (subst (λ n. k < n) (sym (length-map bs (λ b. b.uses))) l))
