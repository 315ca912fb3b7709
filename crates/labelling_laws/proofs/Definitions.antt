-- Definitions of which the rules hold: each has a shape, and what it names is there.
use Rattle.std.proofs.Common.{◌≡◌, ◌<◌, ◌≤◌, ℕ, suc, List, [], ◌∷◌, map, length, refl, sym, ap, subst, Bool, true, false, ◌&&◌, Option, Some, None, option_map, leb-true}
use Rattle.std.specs.Prelude.{is_some, if◌then◌else◌, ◌==◌}
use Rattle.std.specs.List.{flat_map, list_all}
use Rattle.std.proofs.lemmas.List.Elements.{All-from_recursion}
use Prim.Native.Char.{code}
use Rattle.cl_tree.specs.declared.token.Pragma.{Pragma}
use Rattle.cl_tree.specs.declared.token.Pragma.TheVariants as pragma
use Rattle.cl_tree.specs.Words.{Word}
use Rattle.cl_mean.specs.declared.labels.Mention.TheVariants.{Label, Level}
use Rattle.cl_mean.specs.declared.labels.LabelFact.{LabelFact}
use Rattle.cl_mean.specs.declared.labels.LabelTable.{LabelTable}
use Rattle.cl_typing.specs.Rules.{unless}
use Rattle.cl_labelling.specs.declared.draft.TaintsDraft.{TaintsDraft}
use Rattle.cl_labelling.specs.declared.draft.Draft.{Draft}
use Rattle.cl_labelling.specs.Text.{draft_in}
use Rattle.cl_labelling.specs.Pragmas.{Placed, placed, Definition, definition_at}
use Rattle.cl_labelling.specs.Names.{Named, has_word, levels_after, is_shaped, misshapen, levels_in, is_mentioned, all_mentioned, taints_known, draft_known, pragma_known, not_known, number_of, mention_of, mentions_of, taints_of, entry_of, label_fact}
use Rattle.typing_laws.proofs.Lists.{none_of, holds, both, some_of}
use Rattle.labelling_laws.specs.Within.{LevelWithin, MentionWithin, MentionsWithin, TaintsWithin, LabelWithin}
use Rattle.labelling_laws.proofs.Elements.{Each, each_append, each_passes, each_map}
use Rattle.labelling_laws.proofs.Numbers.{number_below, with_kept, with_there}

-- ---- levels

pub levels_few : (ds : List Definition) (levels : List Word) → length levels ≤ 32 → misshapen levels ds ≡ [] → length (levels_in levels ds) ≤ 32
unfolding misshapen levels_in
levels_few [] levels h e = h
levels_few (d ∷ ds) levels h e =
    let p = none_of (unless (is_shaped levels (draft_in d.text)) d.line) _ e in
    let q = both (is_some (draft_in d.text)) _ (holds (is_shaped levels (draft_in d.text)) d.line p.0) in
    levels_few ds (levels_after levels (draft_in d.text)) (leb-true (length (levels_after levels (draft_in d.text))) 32 q.1) p.1

after_kept : (levels : List Word) (o : Option Draft) (w : Word) → has_word levels w ≡ true → has_word (levels_after levels o) w ≡ true
after_kept levels None w h = h
after_kept levels (Some x) w h = with_kept levels x.level w h

in_kept : (ds : List Definition) (levels : List Word) (w : Word) → has_word levels w ≡ true → has_word (levels_in levels ds) w ≡ true
unfolding levels_in
in_kept [] levels w h = h
in_kept (d ∷ ds) levels w h = in_kept ds (levels_after levels (draft_in d.text)) w (after_kept levels (draft_in d.text) w h)

-- a definition has a shape, and its level is one of the program
pub record Shaped (levels : List Word) (d : Definition) : Type 0 where
  pub draft : Draft
  pub says : draft_in d.text ≡ Some draft
  pub level : has_word levels draft.level ≡ true

pub shaped : (ds : List Definition) (levels : List Word) → misshapen levels ds ≡ [] → Each (Shaped (levels_in levels ds)) ds
unfolding misshapen levels_in
shaped [] levels e = tt
shaped (d ∷ ds) levels e =
    let p = none_of (unless (is_shaped levels (draft_in d.text)) d.line) _ e in
    let q = both (is_some (draft_in d.text)) _ (holds (is_shaped levels (draft_in d.text)) d.line p.0) in
    let s = some_of (draft_in d.text) q.0 in (
      record {
        draft = s.0;
        says = s.1;
        level = in_kept ds (levels_after levels (draft_in d.text)) s.0.level
            (subst (λ (o : Option Draft). has_word (levels_after levels o) s.0.level ≡ true) (sym s.1) (with_there levels s.0.level));
      },
      shaped ds (levels_after levels (draft_in d.text)) p.1,
    )

-- ---- names

abbrev pub Known : Named → Definition → Type 0
Known named d = draft_known named (draft_in d.text) ≡ true

pub pragmas_known : (named : Named) (ps : List Placed) → not_known named ps ≡ [] → Each (λ p. pragma_known named p.pragma ≡ true) ps
unfolding not_known
pragmas_known named [] e = tt
pragmas_known named (p ∷ ps) e =
    let q = none_of (unless (pragma_known named p.pragma) p.line) _ e in
    (holds (pragma_known named p.pragma) p.line q.0, pragmas_known named ps q.1)

definition_known : (named : Named) (p : Pragma) (line : ℕ) → pragma_known named p ≡ true → Each (Known named) (definition_at (placed p line))
definition_known named (pragma.Def name text) line h = (h, tt)
definition_known named (pragma.Begin name) line h = tt
definition_known named (pragma.End name) line h = tt
definition_known named (pragma.Next name) line h = tt

pub definitions_known : (named : Named) (ps : List Placed) → Each (λ p. pragma_known named p.pragma ≡ true) ps → Each (Known named) (flat_map definition_at ps)
definitions_known named [] h = tt
definitions_known named (p ∷ ps) h =
    each_append (Known named) (definition_at p) (flat_map definition_at ps)
    (definition_known named p.pragma p.line h.0) (definitions_known named ps h.1)

-- ---- facts

-- a shaped definition whose names are known
pub record Good (named : Named) (d : Definition) : Type 0 where
  pub draft : Draft
  pub says : draft_in d.text ≡ Some draft
  pub level : has_word named.levels draft.level ≡ true
  pub known : draft_known named (Some draft) ≡ true

good : (named : Named) (d : Definition) → Shaped named.levels d → Known named d → Good named d
good named d s k = record {
  draft = s.draft;
  says = s.says;
  level = s.level;
  known = subst (λ (o : Option Draft). draft_known named o ≡ true) s.says k;
}

pub goods : (named : Named) (ds : List Definition) → Each (Shaped named.levels) ds → Each (Known named) ds → Each (Good named) ds
goods named [] s k = tt
goods named (d ∷ ds) s k = (good named d s.0 k.0, goods named ds s.1 k.1)

abbrev pub facts_in : Named → List Definition → List LabelFact
facts_in named ds = flat_map (λ d. label_fact named d (draft_in d.text)) ds

pub facts_counted : (named : Named) (ds : List Definition) → Each (Good named) ds → length (facts_in named ds) ≡ length ds
facts_counted named [] h = refl
facts_counted named (d ∷ ds) h = rw (h.0.says) (ap suc (facts_counted named ds h.1))

-- ---- what a definition names, in a table with these levels and so many labels

module _ (table : LabelTable) (named : Named) (levels : table.levels ≡ named.levels) (labels : length table.labels ≡ length named.labels) where
  level_within : (w : Word) → has_word named.levels w ≡ true → LevelWithin table (number_of named.levels w)
  level_within w h = rw levels (number_below named.levels w h)

  label_within : (w : Word) → has_word named.labels w ≡ true → number_of named.labels w < length table.labels
  label_within w h = rw labels (number_below named.labels w h)

  pub mention_within : (w : Word) → is_mentioned named w ≡ true → MentionWithin table (mention_of named w)
  unfolding is_mentioned mention_of
  mention_within [] h = absurd cc
  mention_within (b ∷ bs) h = by (b == code "@") h
    where
      by : (q : Bool) → (if q then has_word named.levels bs else has_word named.labels (b ∷ bs)) ≡ true
          → MentionWithin table (if q then Level (number_of named.levels bs) else Label (number_of named.labels (b ∷ bs)))
      by true k = level_within bs k
      by false k = label_within (b ∷ bs) k

  mentions_within : (ws : List Word) → all_mentioned named ws ≡ true → MentionsWithin table (mentions_of named ws)
  mentions_within ws h = All-from_recursion (MentionWithin table) (mentions_of named ws)
      (each_map (mention_of named) (MentionWithin table) ws (each_passes (is_mentioned named) (λ w. MentionWithin table (mention_of named w)) mention_within ws h))

  taints_within : (o : Option TaintsDraft) → taints_known named o ≡ true → TaintsWithin table (option_map (taints_of named) o)
  taints_within None h = tt
  taints_within (Some t) h =
      let p = both (list_all (λ a. all_mentioned named a.all) t.args && all_mentioned named t.code) (all_mentioned named t.result) h in
      let q = both (list_all (λ a. all_mentioned named a.all) t.args) (all_mentioned named t.code) p.0 in
      record {
        args = All-from_recursion _ _ (each_map (λ a. record { all = mentions_of named a.all }) (λ a. MentionsWithin table a.all) t.args
            (each_passes (λ a. all_mentioned named a.all) (λ a. MentionsWithin table (mentions_of named a.all)) (λ a k. mentions_within a.all k) t.args q.0));
        code = mentions_within t.code q.1;
        result = mentions_within t.result p.1;
      }

  fact_within : (d : Definition) (x : Draft) → has_word named.levels x.level ≡ true → draft_known named (Some x) ≡ true → Each (LabelWithin table) (label_fact named d (Some x))
  fact_within d x l k =
      let p = both (list_all (λ e. has_word named.levels e.remote) x.entries) (taints_known named x.taints) k in (
        record {
          level = level_within x.level l;
          remotes = All-from_recursion (λ e. LevelWithin table e.remote) (map (entry_of named) x.entries)
              (each_map (entry_of named) (λ e. LevelWithin table e.remote) x.entries
              (each_passes (λ e. has_word named.levels e.remote) (λ e. LevelWithin table (entry_of named e).remote) (λ e h. level_within e.remote h) x.entries p.0));
          taints = taints_within x.taints p.1;
        },
        tt,
      )

  pub facts_within : (ds : List Definition) → Each (Good named) ds → Each (LabelWithin table) (facts_in named ds)
  facts_within [] h = tt
  facts_within (d ∷ ds) h =
      each_append (LabelWithin table) (label_fact named d (draft_in d.text)) (facts_in named ds)
      (subst (λ (o : Option Draft). Each (LabelWithin table) (label_fact named d o)) (sym h.0.says) (fact_within d h.0.draft h.0.level h.0.known))
      (facts_within ds h.1)
