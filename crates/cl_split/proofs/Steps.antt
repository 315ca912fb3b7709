-- From what was found to the levels of a program.
use Rattle.std.proofs.Common.{◌≡◌, ◌⊎◌, inl, inr, ◌<◌, ◌≤◌, ℕ, suc, ◌*◌, ◌+◌, List, [], ◌∷◌, map, length, drop, drop-cons, add-one, Option, Some, None, Bool, true, false, bytes_eq, codes, not, if◌then◌else◌, slice_index_or, refl, sym, ap, subst, ◌∙◌, arith, Result, Ok, Err}
use Rattle.cl_mean.specs.declared.checked.Levels.{Levels}
use Rattle.cl_typing.specs.Rules.{unless, Lines}
use Rattle.cl_levels.specs.declared.uses.Body.{Body}
use Rattle.cl_levels.specs.declared.uses.Use.{Use}
use Rattle.cl_levels.specs.declared.uses.Use.TheVariants.{Named, Called}
use Rattle.cl_levels.specs.Levels.{Annotated, Symbol, function, object, own_level, LevelOr, IsMainLevel, AreLevels, IsLevelled, differs, foreign_use, foreign_names, two_levels}
use Rattle.cl_levels.specs.Crossings.{level_rules}
use Rattle.cl_levels.specs.Placed.{Holds, IsFirst, listed}
use Rattle.cl_levels.specs.Uses.{uses_of, number_from, number_among}
use Rattle.cl_mean.specs.declared.checked.FnFact.{FnFact}
use Rattle.cl_mean.specs.declared.checked.Typed.{Typed}
use Rattle.cl_mean.specs.declared.labels.LabelTable.{LabelTable}
use Rattle.cl_tree.specs.Words.{Word}
use Rattle.std.proofs.lemmas.List.{drop_all}
use Rattle.std.specs.Result.{IsErrAnd}
use Rattle.cl_split.specs.declared.stop.SplitStop.{SplitStop}
use Rattle.cl_split.specs.declared.stop.SplitStop.TheVariants as stop
use Rattle.cl_split.specs.Answer.{annotated, IsFailure, RuleAnswer, HasLevels, LevelsAnswer}
use Rattle.cl_groups.proofs.Borne.{least_of_either}
use Rattle.cl_levels.proofs.Each.{each_same}
use Rattle.cl_groups.specs.declared.own.Own.{Own}
use Rattle.cl_groups.specs.Foreign.{foreign_by, foreign_in, function_lines}
use Rattle.cl_groups.specs.Grounds.{AreGrounds, FirstOf}
use Rattle.cl_groups.specs.Marks.{Stands, AllStand, Conflict, IsLeast, lesser_of}
use Rattle.cl_groups.specs.Own.{own_at}
use Rattle.cl_groups.specs.Ties.{node}
use Rattle.cl_groups.proofs.Firsts.{level_or, first_group}

-- the number of a function, one further
pub next_number : (name : Word) (fs : List FnFact) (k : ℕ) (f : FnFact) → k < length fs → f ≡ slice_index_or fs k f
    → number_from k (drop k fs) name ≡ (if bytes_eq f.name name then Some k else number_from (k + 1) (drop (k + 1) fs) name)
unfolding number_from
next_number name fs k f within is = rw (add-one k) (ap (λ gs. number_from k gs name) (drop-cons fs k f within ∙ ap (λ (g : FnFact). g ∷ drop (suc k) fs) (sym is)))

pub number_here : (name : Word) (fs : List FnFact) (k : ℕ) (f : FnFact) (b : Bool) → k < length fs → f ≡ slice_index_or fs k f → b ≡ bytes_eq f.name name → b ≡ true
    → number_from k (drop k fs) name ≡ number_among fs name → Some k ≡ number_among fs name
number_here name fs k f b within is e t h =
    ap (λ (c : Bool). if c then Some k else number_from (k + 1) (drop (k + 1) fs) name) (sym t ∙ e) ∙ sym (next_number name fs k f within is) ∙ h

pub number_behind : (name : Word) (fs : List FnFact) (k : ℕ) (f : FnFact) (b : Bool) → k < length fs → f ≡ slice_index_or fs k f → b ≡ bytes_eq f.name name → b ≡ false
    → number_from k (drop k fs) name ≡ number_among fs name → number_from (k + 1) (drop (k + 1) fs) name ≡ number_among fs name
number_behind name fs k f b within is e t h =
    ap (λ (c : Bool). if c then Some k else number_from (k + 1) (drop (k + 1) fs) name) (sym t ∙ e) ∙ sym (next_number name fs k f within is) ∙ h

pub no_number : (name : Word) (fs : List FnFact) (k : ℕ) → length fs ≤ k → number_from k (drop k fs) name ≡ number_among fs name → None ≡ number_among fs name
unfolding number_from
no_number name fs k past h = ap (λ gs. number_from k gs name) (sym (drop_all k fs past)) ∙ h

module _ (a : Annotated) (own : Own) (bodies : List Body) (lines : List ℕ) (carried : List (List ℕ)) (g : AreGrounds a own bodies lines carried) where
  same_foreign : (f : ℕ) (u : Use) → foreign_by own f u ≡ foreign_use a f u
  same_foreign f (Named k line) =
      ap (λ o. unless (not (differs o (own_at own (object k)))) line) (g.are_own.agree (function f))
      ∙ ap (λ o. unless (not (differs (own_level a (function f)) o)) line) (g.are_own.agree (object k))
  same_foreign f (Called h roots line) = refl

  pub foreign_is : foreign_in own 0 (map (λ b. b.uses) bodies) ≡ foreign_names a
  unfolding foreign_names
  foreign_is = ap (foreign_in own 0) g.uses_are ∙ each_same (foreign_by own) (foreign_use a) same_foreign 0 (uses_of a.typed)

  pub main_is : (m level : ℕ) → number_among a.typed.functions (codes "main") ≡ Some m → Stands carried (slice_index_or own.functions m None) (2 * m + 0) 0 level → IsMainLevel a level
  main_is m level e h =
      (m, (e, level_or a own bodies lines carried g (function m) 0 level (subst (λ n. Stands carried (slice_index_or own.functions m None) n 0 level) (omega arith) h)))

  of_main : (main : ℕ) → IsMainLevel a main → (x : Symbol) (level : ℕ) → LevelOr (λ l. l ≡ main) a x level → LevelOr (IsMainLevel a) a x level
  of_main main is x level (inl e) = inl e
  of_main main is x level (inr (free, inl h)) = inr (free, inl h)
  of_main main is x level (inr (free, inr h)) = inr (free, inr (h.0, subst (IsMainLevel a) (sym h.1) is))

  pub functions_are : (main : ℕ) (levels : List ℕ) → IsMainLevel a main → AllStand carried own.functions 0 main levels → AreLevels function a levels
  functions_are main levels is h = λ k l. of_main main is (function k) (slice_index_or levels k 0)
      (level_or a own bodies lines carried g (function k) main (slice_index_or levels k 0)
      (subst (λ n. Stands carried (slice_index_or own.functions k None) n main (slice_index_or levels k 0)) (omega arith) (h k l)))

  pub objects_are : (main : ℕ) (levels : List ℕ) → IsMainLevel a main → AllStand carried own.objects 1 main levels → AreLevels object a levels
  objects_are main levels is h = λ k l. of_main main is (object k) (slice_index_or levels k 0)
      (level_or a own bodies lines carried g (object k) main (slice_index_or levels k 0) (h k l))

  pub groups_are : (fo oo : List (Option ℕ)) (fl ol : List ℕ) (first second : Option ℕ) → fo ≡ own.functions → fl ≡ function_lines a.typed.program.items a.typed.functions
      → oo ≡ own.objects → ol ≡ lines → IsLeast (Conflict carried fo fl 0 (length fl)) first → IsLeast (Conflict carried oo ol 1 (length ol)) second
      → FirstOf (lesser_of first second) (two_levels a)
  groups_are fo oo fl ol first second e1 e2 e3 e4 f s =
      let f1 = subst (λ x. IsLeast (Conflict carried x fl 0 (length fl)) first) e1 f in
      let f2 = subst (λ x. IsLeast (Conflict carried own.functions x 0 (length x)) first) e2 f1 in
      let s1 = subst (λ x. IsLeast (Conflict carried x ol 1 (length ol)) second) e3 s in
      let s2 = subst (λ x. IsLeast (Conflict carried own.objects x 1 (length x)) second) e4 s1 in
      first_group a own bodies lines carried g (lesser_of first second)
      (least_of_either (Conflict carried own.functions (function_lines a.typed.program.items a.typed.functions) 0 (length (function_lines a.typed.program.items a.typed.functions))) (Conflict carried own.objects lines 1 (length lines)) first second f2 s2)

-- ---- what the rules answer together

pub handed_levels : (a : Annotated) (r : Result Levels SplitStop) (e : SplitStop) → IsErrAnd r (λ t. t ≡ e) → IsFailure (level_rules a) e → LevelsAnswer a r
handed_levels a (Ok x) e h f = absurd h
handed_levels a (Err t) e h f = subst (IsFailure (level_rules a)) (sym h) f

pub groups_failed : (a b : Annotated) (e : SplitStop) → b ≡ a → RuleAnswer {A = Unit {0}} 24 (two_levels b) (Err e) → IsFailure (level_rules a) e
groups_failed a b (stop.Rule n line) i h = inl (h.0, subst (λ x. IsFirst (two_levels x) line) i h.1)
groups_failed a b stop.NoMemory i h = tt

pub names_failed : (a b : Annotated) (e : SplitStop) → b ≡ a → Holds (two_levels b) → RuleAnswer {A = Unit {0}} 25 (listed (foreign_names b)) (Err e) → IsFailure (level_rules a) e
names_failed a b (stop.Rule n line) i g h = inr (subst (λ x. Holds (two_levels x)) i g, inl (h.0, subst (λ x. IsFirst (listed (foreign_names x)) line) i h.1))
names_failed a b stop.NoMemory i g h = tt

pub both_hold : (a b : Annotated) (levels : Levels) → b ≡ a → Holds (two_levels b) → Holds (listed (foreign_names b)) → IsLevelled b levels → HasLevels a levels
both_hold a b levels i g h l = subst (λ x. HasLevels x levels) i (record { holds = (g, (h, tt)); levelled = l })

pub same_annotated : (t u : Typed) (x y : LabelTable) → t ≡ u → x ≡ y → annotated t x ≡ annotated u y
same_annotated t u x y e f = ap (λ v. annotated v x) e ∙ ap (λ v. annotated u v) f
