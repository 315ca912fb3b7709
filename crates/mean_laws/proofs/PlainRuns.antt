-- A run by plain calls never asks; and it forgets labels.
use Rattle.std.proofs.Common.{◌≡◌, ℕ, List, [], ◌∷◌, length, refl, subst, ap, Result, Ok, Err, Bool, true, false, if◌then◌else◌, Option, Some, None, inr}
use Rattle.std.specs.Prelude.{nat_lt}
use Rattle.cl_mean.specs.declared.checked.Checked.{Checked}
use Rattle.cl_mean.specs.State.{Object, Written, LevelState, State, Fault, Deed, level_in}
use Rattle.cl_mean.specs.Source.{Definition, Source, source_of, main_of, known_at, function_named}
use Rattle.cl_mean.specs.Course.{Course, comes, stops, meaningless, stop_by, Computation, goes_to, done, within, ◌>>◌}
use Rattle.cl_mean.specs.Evaluation.{Argument}
use Rattle.cl_mean.specs.Calls.{LocalCall, paid, cost_of, unguarded, call_at, local_call, body_run}
use Rattle.cl_mean.specs.Meaning.{start_of, bound_of, exit_value, main_run, main_course, plain_run}
use Rattle.cl_mean.specs.Value.{Labelled}
use Rattle.mean_laws.specs.Alike.{SideBySide}
use Rattle.mean_laws.specs.Runs.{Never, NeverAsks}
use Rattle.mean_laws.proofs.Alike.{Family, alike_then, Same, same_refl, Nums, Any, Respects, Bounds, bound_same, Args, Endings, All_known, all_known, CallsAlike}
use Rattle.mean_laws.proofs.Statements.{BytesAll}
use Rattle.mean_laws.proofs.SameLevel.{Agree, Objects, Ended, Deeds}
use Rattle.mean_laws.proofs.AllLevels.{LevelsAll, length_all, at_all, set_all, SamePlace, envs_refl, bound_refl, places_respect}
use Rattle.mean_laws.proofs.Exits.{exit_like}
use Rattle.mean_laws.proofs.FarCalls.{both_like}
use Rattle.mean_laws.proofs.LevelCalls

-- ---- the family: two courses that end, and end the same

abbrev pub Still : {A B : Type 0} → (A → B → Type 0) → Course A → Course B → Type 0
Still P (comes a s) (comes b t) = P a b × LevelsAll s t
Still P (stops h s) (stops k t) = (h ≡ k) × LevelsAll s t
Still P _ _ = ⊥

abbrev pub Quiet : {A B : Type 0} → (A → B → Type 0) → Computation A → Computation B → Type 0
Quiet P m n = (s t : State) → LevelsAll s t → Still P (m s) (n t)

pub still_then : {A B C D : Type 0} (P : A → B → Type 0) (Q : C → D → Type 0) (x : Course A) (y : Course B) (f : A → Computation C) (g : B → Computation D) → Still P x y → ((a : A) (b : B) → P a b → Quiet Q (f a) (g b)) → Still Q (goes_to f x) (goes_to g y)
still_then P Q (comes a s) (comes b t) f g e h = h a b e.0 s t e.1
still_then P Q (stops j s) (stops k t) f g e h = e
still_then P Q _ _ f g e h = absurd e

abbrev pub still : Family
still = record {
  Lax = Never;
  Meets = Unit {0};
  Like = Quiet;
  pures = λ P a b p s t r. (p, r);
  halts = λ P stop o s t r. (refl, r);
  meets = λ P m s t r. (refl, r);
  laxes = λ P stop n l. absurd l;
  thens = λ P Q m n f g hm hf s t r. still_then P Q (m s) (n t) f g (hm s t r) hf;
}

done_still : {A C : Type 0} (P : A → C → Type 0) (l line : ℕ) (s t : State) (x : Result (A × LevelState) Fault) (y : Result (C × LevelState) Fault) → LevelsAll s t → Ended P x y → Still P (done l line s x) (done l line t y)
done_still P l line s t (Ok x) (Ok y) r h = (h.0, set_all l s t x.1 y.1 r h.1)
done_still P l line s t (Ok x) (Err d) r h = absurd h
done_still P l line s t (Err c) (Ok y) r h = absurd h
done_still P l line s t (Err c) (Err d) r h = (ap (stop_by l line) h, r)

within_still : {A C : Type 0} (P : A → C → Type 0) (l line : ℕ) (f : Deed A) (g : Deed C) → Deeds P f g → Quiet P (within l line f) (within l line g)
unfolding within
within_still {A} {C} P l line f g h s t r =
    subst (λ (z : ℕ). Still P (if nat_lt l (length s) then done l line s (f (level_in s l)) else stops meaningless s) (if nat_lt l z then done l line t (g (level_in t l)) else stops meaningless t)) (length_all s t r)
    (either (nat_lt l (length s)))
  where
    either : (z : Bool) → Still P (if z then done l line s (f (level_in s l)) else stops meaningless s) (if z then done l line t (g (level_in t l)) else stops meaningless t)
    either true = done_still P l line s t (f (level_in s l)) (g (level_in t l)) r (h (level_in s l) (level_in t l) (at_all l s t r))
    either false = (refl, r)

still_respects : (l : ℕ) → Respects still SamePlace l
still_respects l = places_respect still (λ A C P z line f g w h. within_still P z line f g h) l

-- ---- plain calls

module _ (F : Family) (respects : (l : ℕ) → Respects F SamePlace l) (source : Source) where
  pub unguarded_like : (call call' : LocalCall) → ((d : Definition) (xs ys : List Argument) → Args SamePlace xs ys → F.Like Same (call d xs) (call' d ys)) → (here : Definition) (line : ℕ) (d : Definition) (xs ys : List Argument) → Args SamePlace xs ys
      → F.Like Same (unguarded source call here line d xs) (unguarded source call' here line d ys)
  unfolding unguarded
  unguarded_like call call' hc here line d xs ys h =
      both_like F source here.level d (λ row entry. paid here.level line d >> call d xs) (λ row entry. paid here.level line d >> call' d ys)
      (λ row entry. alike_then F Any Same (paid here.level line d) (paid here.level line d) (λ _. call d xs) (λ _. call' d ys) ((respects here.level).pays line (cost_of d)) (λ a b p. hc d xs ys h))

  module _ (meet : F.Meets) where
    calls_plain : (n n' : ℕ) → Bounds F.Lax n n' → (here : Definition) → CallsAlike F SamePlace All_known here (call_at source (unguarded source) n) (call_at source (unguarded source) n')
    calls_plain n n' b here =
        LevelCalls.calls_alike F SamePlace source All_known (λ name. all_known (function_named source.functions name)) (λ z. Unit {0}) (λ l e. respects l) (λ l e. envs_refl (known_at source l)) (λ l i b q. bound_refl b) meet (unguarded source) (unguarded source)
        (λ m m' bb hs f line d kd xs ys e h. unguarded_like (local_call source m (call_at source (unguarded source) m)) (local_call source m' (call_at source (unguarded source) m')) (λ z us vs k. hs z tt tt us vs k) f line d xs ys h)
        n n' b here tt

    -- plain runs of a function under two bounds
    pub body_plain : (n n' : ℕ) → Bounds F.Lax n n' → (d : Definition) → F.Like (Endings SamePlace) (body_run source n (call_at source (unguarded source) n) d []) (body_run source n' (call_at source (unguarded source) n') d [])
    body_plain n n' b d =
        LevelCalls.body_like F SamePlace source All_known (λ name. all_known (function_named source.functions name)) (λ z. Unit {0}) (λ l e. respects l) (λ l e. envs_refl (known_at source l)) (λ l i b q. bound_refl b) meet n n' b
        (call_at source (unguarded source) n) (call_at source (unguarded source) n') d tt tt (calls_plain n n' b d) [] [] tt

-- ---- so the plain meaning never asks

objects_refl : (os : List Object) → Objects os os
objects_refl [] = tt
objects_refl (o ∷ os) = (same_refl o.value, objects_refl os)

bytes_refl : (ws : List Written) → BytesAll ws ws
bytes_refl [] = tt
bytes_refl (w ∷ ws) = (refl, bytes_refl ws)

pub level_refl : (l : LevelState) → Agree l l
level_refl l = record { objects = objects_refl l.objects; input = refl; output = bytes_refl l.output; steps_left = refl; active = refl; cost = refl }

pub levels_refl : (s : State) → LevelsAll s s
levels_refl [] = tt
levels_refl (l ∷ ls) = (level_refl l, levels_refl ls)

still_never : {A B : Type 0} (P : A → B → Type 0) (x : Course A) (y : Course B) → Still P x y → NeverAsks x
still_never P (comes a s) (comes b t) e = tt
still_never P (stops h s) (stops k t) e = tt
still_never P _ _ e = absurd e

main_still : (source : Source) (n : ℕ) (o : Option Definition) → Quiet Nums (main_run source (unguarded source) n o) (main_run source (unguarded source) n o)
main_still source n None s t r = (refl, r)
main_still source n (Some d) s t r = still_then (Endings SamePlace) Nums _ _ exit_value exit_value (body_plain still still_respects source tt n n (bound_same Never n) d s t r) (exit_like still SamePlace)

pub plain_never_asks : (checked : Checked) (inputs : List (List ℕ)) (limit : ℕ) → NeverAsks (plain_run checked inputs limit)
unfolding plain_run main_course
plain_never_asks checked inputs limit =
    still_never Nums _ _ (main_still (source_of checked) (bound_of checked limit) (main_of (source_of checked)) (start_of checked inputs limit) (start_of checked inputs limit) (levels_refl (start_of checked inputs limit)))

still_beside : (x y : Course (List Labelled)) → Still Nums x y → SideBySide LevelsAll Never Nums x y
still_beside (comes a s) (comes b t) h = h
still_beside (stops j s) (stops k t) h = inr h
still_beside _ _ h = absurd h

pub plain_labels : (checked : Checked) (bound : ℕ) (s t : State) → LevelsAll s t → SideBySide LevelsAll Never Nums (main_course checked (unguarded (source_of checked)) bound s) (main_course checked (unguarded (source_of checked)) bound t)
unfolding main_course
plain_labels checked bound s t r = still_beside _ _ (main_still (source_of checked) bound (main_of (source_of checked)) s t r)
