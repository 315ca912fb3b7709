-- A level's code never looks at another level. Two runs in whose states one level is the same but for labels, whatever the other
-- levels are, go side by side as long as code of that level runs: they ask the same of the others, do the same to the level, and
-- end the same. A higher bound on rounds and calls changes nothing, where the lower one isn't met.
use Rattle.std.proofs.Common.{◌≡◌, ℕ, List, subst, sym}
use Rattle.cl_tree.specs.Words.{Word}
use Rattle.cl_mean.specs.Value.{Labelled}
use Rattle.cl_mean.specs.State.{Place}
use Rattle.cl_mean.specs.Source.{Definition, Source, known_at, function_named}
use Rattle.cl_mean.specs.Course.{Stop, Computation}
use Rattle.cl_mean.specs.Evaluation.{Argument}
use Rattle.cl_mean.specs.Calls.{far, call_at, local_call, body_run, served}
use Rattle.mean_laws.proofs.Alike.{by_states, sides_ask, Nums, Same, Alike, Respects, Bounds, Args, Envs, Endings, MaybeKnown, CallsAlike}
use Rattle.mean_laws.proofs.SameLevel.{AtLevel, One, level_respects, level_knows, lies_at}
use Rattle.mean_laws.proofs.LevelCalls
use Rattle.mean_laws.proofs.FarCalls

-- `Known`: the functions that the source's names stand for.
module _ (Lax : Stop → Type 0) (source : Source) (L : ℕ) (Known : Definition → Type 0) (named : (name : Word) → MaybeKnown Known (function_named source.functions name)) where
  abbrev pub Here : Place → Place → Type 0
  Here p q = One L p q

  abbrev pub Like : {A B : Type 0} → (A → B → Type 0) → Computation A → Computation B → Type 0
  Like P m n = Alike (by_states (AtLevel L) Lax) P m n

  respects_at : (l : ℕ) → l ≡ L → Respects (by_states (AtLevel L) Lax) (One L) l
  respects_at l e = subst (λ (z : ℕ). Respects (by_states (AtLevel L) Lax) (One L) z) (sym e) (level_respects Lax L)

  knows_at : (l : ℕ) → l ≡ L → Envs (One L) (known_at source l) (known_at source l)
  knows_at l e = subst (λ (z : ℕ). Envs (One L) (known_at source z) (known_at source z)) (sym e) (level_knows L source)

  -- What a call does that is made at the level.
  pub calls_local : (n n' : ℕ) → Bounds Lax n n' → (here : Definition) → here.level ≡ L → CallsAlike (by_states (AtLevel L) Lax) (One L) Known here (call_at source (far source) n) (call_at source (far source) n')
  calls_local n n' b here l =
      LevelCalls.calls_alike (by_states (AtLevel L) Lax) (One L) source Known named (λ z. z ≡ L) respects_at knows_at (lies_at L) tt (far source) (far source)
      (λ m m' bb hs f line d kn xs ys e h. FarCalls.far_like (by_states (AtLevel L) Lax) (One L) source L (level_respects Lax L) (sides_ask (AtLevel L) Lax) (local_call source m (call_at source (far source) m)) (local_call source m' (call_at source (far source) m')) f line d xs ys e h)
      n n' b here l

  pub local_call_local : (n n' : ℕ) → Bounds Lax n n' → (d : Definition) → Known d → d.level ≡ L → (xs ys : List Argument) → Args (One L) xs ys → Like Same (local_call source n (call_at source (far source) n) d xs) (local_call source n' (call_at source (far source) n') d ys)
  local_call_local n n' b d kn l xs ys h =
      LevelCalls.local_like (by_states (AtLevel L) Lax) (One L) source Known named (λ z. z ≡ L) respects_at knows_at (lies_at L) tt n n' b (call_at source (far source) n) (call_at source (far source) n') d kn l (calls_local n n' b d l) xs ys h

  -- The level serves a request.
  pub serving_local : (n n' : ℕ) → Bounds Lax n n' → (d : Definition) → Known d → d.level ≡ L → (xs ys : List Labelled) → Nums xs ys
      → Like Nums (served (local_call source n (call_at source (far source) n)) d xs) (served (local_call source n' (call_at source (far source) n')) d ys)
  serving_local n n' b d kn l xs ys h =
      FarCalls.served_like (by_states (AtLevel L) Lax) (One L) source L (level_respects Lax L) (sides_ask (AtLevel L) Lax) (local_call source n (call_at source (far source) n)) (local_call source n' (call_at source (far source) n')) d l (local_call_local n n' b d kn l) xs ys h

  -- The level runs `main`, or the body of another function.
  pub body_local : (n n' : ℕ) → Bounds Lax n n' → (d : Definition) → Known d → d.level ≡ L → (xs ys : List Argument) → Args (One L) xs ys
      → Like (Endings (One L)) (body_run source n (call_at source (far source) n) d xs) (body_run source n' (call_at source (far source) n') d ys)
  body_local n n' b d kn l xs ys h =
      LevelCalls.body_like (by_states (AtLevel L) Lax) (One L) source Known named (λ z. z ≡ L) respects_at knows_at (lies_at L) tt n n' b (call_at source (far source) n) (call_at source (far source) n') d kn l (calls_local n n' b d l) xs ys h
