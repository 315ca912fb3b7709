-- Nodes that bear levels as groups that have them; the first group that has two.
use Rattle.std.proofs.Common.{◌≡◌, ◌⊎◌, inl, inr, ⊎_elim, ◌≤◌, ◌<◌, ℕ, ◌*◌, ◌+◌, List, [], ◌∷◌, map, length, Option, Some, None, slice_index_or, refl, sym, ap, subst, ◌∙◌, arith}
use Rattle.std.proofs.lemmas.List.{get_or-map, length-map}
use Rattle.cl_base.specs.declared.limits.TheConstants.{LEVELS}
use Rattle.cl_mean.specs.Source.{no_item}
use Rattle.cl_reach.specs.Reach.{Bears}
use Rattle.cl_levels.specs.declared.uses.Body.{Body}
use Rattle.cl_levels.specs.Levels.{Annotated, Symbol, function, object, own_level, IsFree, InGroup, GroupHas, HasNone, HasTwo, LevelOr, IsSymbol, symbol_line, two_levels, no_fact, object_lines}
use Rattle.cl_levels.specs.Placed.{Places, Holds, IsFirst}
use Rattle.cl_groups.specs.declared.own.Own.{Own}
use Rattle.cl_groups.specs.Foreign.{function_line, function_lines}
use Rattle.cl_groups.specs.Grounds.{AreOwn, AreGrounds, FirstOf}
use Rattle.cl_groups.specs.Marks.{NoneBetween, BearsTwo, Stands, Conflict, IsLeast}
use Rattle.cl_groups.specs.Own.{own_at}
use Rattle.cl_groups.specs.Ties.{node}
use Rattle.cl_groups.proofs.Groups.{group_of, carried_by, not_own, free_there}

module _ (a : Annotated) (own : Own) (bodies : List Body) (lines : List ℕ) (carried : List (List ℕ)) (g : AreGrounds a own bodies lines carried) where
  pub bears_group : (x : Symbol) (level : ℕ) → Bears carried level (node x) → GroupHas a x level
  bears_group x level b = group_of a own g.are_own.agree g.are_own.sure level (node x) ((g.bears level (node x)).0 b) x refl

  pub group_bears : (x : Symbol) (level : ℕ) → IsFree a x → GroupHas a x level → Bears carried level (node x)
  group_bears x level free h = (g.bears level (node x)).1 (carried_by a own g.are_own.agree g.are_own.sure x level free h)

  pub group_below : (x : Symbol) (level : ℕ) → GroupHas a x level → level < LEVELS
  group_below x level h = g.are_own.below h.1.1.0 level (g.are_own.agree h.1.1.0 ∙ h.1.1.1.1)

  two_borne : (x : Symbol) → IsFree a x → HasTwo a x → BearsTwo carried (node x)
  two_borne x free h = record {
    one = h.0;
    other = h.1.0;
    one_below = group_below x h.0 h.1.1.0;
    other_below = group_below x h.1.0 h.1.1.1.0;
    apart = h.1.1.1.1;
    bears_one = group_bears x h.0 free h.1.1.0;
    bears_other = group_bears x h.1.0 free h.1.1.1.0;
  }

  has_two : (x : Symbol) → BearsTwo carried (node x) → HasTwo a x
  has_two x b = (b.one, (b.other, (bears_group x b.one b.bears_one, (bears_group x b.other b.bears_other, b.apart))))

  abbrev flines : List ℕ
  flines = function_lines a.typed.program.items a.typed.functions

  abbrev InConflict : ℕ → Type 0
  InConflict line = Conflict carried own.functions flines 0 (length flines) line ⊎ Conflict carried own.objects lines 1 (length lines) line

  counted : length flines ≡ length a.typed.functions
  counted = length-map a.typed.functions (function_line a.typed.program.items)

  function_stands : (k : ℕ) → k < length a.typed.functions → slice_index_or flines k 0 ≡ symbol_line a (function k)
  unfolding symbol_line
  function_stands k l = get_or-map (function_line a.typed.program.items) a.typed.functions k no_fact 0 l

  object_stands : (k : ℕ) → slice_index_or lines k 0 ≡ symbol_line a (object k)
  unfolding symbol_line
  object_stands k = ap (λ ls. slice_index_or ls k 0) g.lines_are

  to_place : (line : ℕ) → InConflict line → two_levels a line line
  to_place line (inl c) =
      let l : c.0 < length a.typed.functions = subst (λ n. c.0 < n) counted c.1.0 in
      let b : BearsTwo carried (node (function c.0)) = subst (λ n. BearsTwo carried n) (omega arith) c.1.1.1.0 in
      (refl, (function c.0, (l, (free_there a own g.are_own.agree g.are_own.sure (function c.0) c.1.1.0, (has_two (function c.0) b, sym (function_stands c.0 l) ∙ c.1.1.1.1)))))
  to_place line (inr c) =
      let l : c.0 < length a.typed.objects = subst (λ n. c.0 < n) g.all_objects c.1.0 in
      (refl, (object c.0, (l, (free_there a own g.are_own.agree g.are_own.sure (object c.0) c.1.1.0, (has_two (object c.0) c.1.1.1.0, sym (object_stands c.0) ∙ c.1.1.1.1)))))

  at_symbol : (x : Symbol) (line : ℕ) → IsSymbol a x → IsFree a x → HasTwo a x → symbol_line a x ≡ line → InConflict line
  at_symbol (function k) line l free two is =
      inl (
        k,
        (
          subst (λ n. k < n) (sym counted) l,
          (
            not_own a own g.are_own.agree g.are_own.sure (function k) free,
            (subst (λ n. BearsTwo carried n) (omega arith) (two_borne (function k) free two), function_stands k l ∙ is),
          ),
        ),
      )
  at_symbol (object k) line l free two is =
      inr (
        k,
        (
          subst (λ n. k < n) (sym g.all_objects) l,
          (
            not_own a own g.are_own.agree g.are_own.sure (object k) free,
            (two_borne (object k) free two, object_stands k ∙ is),
          ),
        ),
      )

  from_place : (position line : ℕ) → two_levels a position line → InConflict line
  from_place position line h = at_symbol h.1.0 line h.1.1.0 h.1.1.1.0 h.1.1.1.1.0 h.1.1.1.1.1

  pub first_group : (least : Option ℕ) → IsLeast InConflict least → FirstOf least (two_levels a)
  first_group None h = λ position line t. h line (from_place position line t)
  first_group (Some line) h = (line, (to_place line h.0, λ other at t. subst (λ n. line ≤ n) (sym t.0) (h.1 at (from_place other at t))))

  -- the level of a symbol
  pub level_or : (x : Symbol) (otherwise level : ℕ) → Stands carried (own_at own x) (node x) otherwise level → LevelOr (λ l. l ≡ otherwise) a x level
  level_or x otherwise level (inl e) = inl (sym (g.are_own.agree x) ∙ e)
  level_or x otherwise level (inr (e, inl b)) = inr (free_there a own g.are_own.agree g.are_own.sure x e, inl (bears_group x level b))
  level_or x otherwise level (inr (e, inr (none, is))) =
      let free = free_there a own g.are_own.agree g.are_own.sure x e in
      inr (free, inr (λ l h. none l (omega arith) (group_below x l h) (group_bears x l free h), is))
