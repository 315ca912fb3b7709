-- A level's own run, and what its code leaves alone, in every source.
use Rattle.std.proofs.Common.{◌≡◌, ℕ, refl, subst, Bool, true, false, ◌==◌, eqb-true, if◌then◌else◌, List, Option, Some, None, inl}
use Rattle.std.proofs.lemmas.Option.{none-some, same_Some}
use Rattle.cl_tree.specs.Words.{Word}
use Rattle.cl_mean.specs.declared.checked.Checked.{Checked}
use Rattle.cl_mean.specs.declared.checked.GedlRow.{GedlRow}
use Rattle.cl_mean.specs.State.{State}
use Rattle.cl_mean.specs.Source.{Definition, Source, source_of, function_named, function_at}
use Rattle.cl_mean.specs.Value.{Labelled}
use Rattle.cl_mean.specs.Calls.{far, call_at, local_call, served}
use Rattle.cl_mean.specs.Guarded.{serves_at}
use Rattle.cl_mean.specs.Journal.{Frame}
use Rattle.cl_mean.specs.LocalRun.{LevelRun, row_at, if_at, function_served, output_at}
use Rattle.mean_laws.specs.Alike.{Nums, AtLevel}
use Rattle.mean_laws.specs.Apart.{AsksBelow, LeavesOthers, ServeSame, apart_at}
use Rattle.mean_laws.specs.Runs.{IsFunctionOf, SameLocal, local_from}
use Rattle.mean_laws.proofs.Alike.{MaybeKnown, All_known, all_known}
use Rattle.mean_laws.proofs.LocalAlike
use Rattle.mean_laws.proofs.Keeps
use Rattle.mean_laws.proofs.Apart

-- ---- the functions that a source's names and rows stand for

module _ (source : Source) where
  found : (name : Word) (o : Option Definition) → function_named source.functions name ≡ o → MaybeKnown (IsFunctionOf source) o
  found name None e = tt
  found name (Some d) e = inl (name, e)

  pub known : (name : Word) → MaybeKnown (IsFunctionOf source) (function_named source.functions name)
  known name = found name (function_named source.functions name) refl

  -- a level serves functions of its own
  by_test : (L : ℕ) (f d : Definition) (q : Bool) → (f.level == L) ≡ q → (if q then Some f else None) ≡ Some d → d.level ≡ L
  by_test L f d true q e = subst (λ (z : Definition). z.level ≡ L) (same_Some f d e) (eqb-true f.level L q)
  by_test L f d false q e = absurd (none-some d e)

  at_level : (L : ℕ) (o : Option Definition) (d : Definition) → if_at L o ≡ Some d → d.level ≡ L
  at_level L None d e = absurd (none-some d e)
  at_level L (Some f) d e = by_test L f d (f.level == L) refl e

  of_row : (L : ℕ) (o : Option GedlRow) (d : Definition) → function_served source L o ≡ Some d → d.level ≡ L
  of_row L None d e = absurd (none-some d e)
  of_row L (Some row) d e = at_level L (function_at source.functions row.function) d e

  pub serves : (L k : ℕ) (d : Definition) → function_served source L (row_at source.rows k) ≡ Some d → All_known d × (d.level ≡ L)
  serves L k d e = (tt, of_row L (row_at source.rows k) d e)

-- ---- the laws

pub same_local : (checked : Checked) (level limit : ℕ) (s t : State) → AtLevel level s t → (frames : List Frame) → SameLocal level (local_from checked level limit s frames) (local_from checked level limit t frames)
same_local checked level limit s t h frames =
    LocalAlike.run_near level checked limit All_known (λ name. all_known (function_named (source_of checked).functions name)) (serves (source_of checked) level) s t h frames

pub same_output : (level : ℕ) (l m : LevelRun) → SameLocal level l m → output_at level l ≡ output_at level m
same_output level l m h = LocalAlike.output_near level l m h

pub leaves_others : (source : Source) (bound : ℕ) (d : Definition) (xs ys : List Labelled) → Nums xs ys → (s t : State) → AtLevel d.level s t
    → LeavesOthers d.level Nums s t (served (local_call source bound (call_at source (far source) bound)) d xs s) (served (local_call source bound (call_at source (far source) bound)) d ys t)
leaves_others source bound d xs ys n s t h =
    Keeps.serving_keeps d.level source All_known (λ name. all_known (function_named source.functions name)) bound d tt refl xs ys n s t h

pub come_apart : (source : Source) (bound count : ℕ) (rank : ℕ → ℕ)
    → ((d : Definition) → IsFunctionOf source d → (xs : List Labelled) (s : State) → AsksBelow count rank (IsFunctionOf source) d.level (served (local_call source bound (call_at source (far source) bound)) d xs s))
    → (depth : ℕ) → ServeSame count rank (IsFunctionOf source) (serves_at source bound depth) (apart_at source bound depth)
come_apart source bound count rank falls depth =
    Apart.serves_same count rank (IsFunctionOf source) source bound (known source) falls depth
