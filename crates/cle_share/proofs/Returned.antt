-- What is known of the taints of each label's arguments, and what is lent by them.
use Rattle.std.proofs.Common.{◌≡◌, ℕ, zero, suc, ◌<◌, ◌≤◌, Bool, true, false, ◌&&◌, List, [], ◌∷◌, ◌++◌, map, drop, drop-cons, length, Option, Some, None, option_map, slice_get, slice_index_or, refl, sym, ap, ◌∙◌, if◌then◌else◌}
use Rattle.std.specs.List.{list_all}
use Rattle.std.proofs.lemmas.List.Folds.{list_all-append}
use Rattle.std.proofs.lemmas.Option.{none-some}
use Rattle.cl_tree.specs.declared.tree.CType.{out-CType}
use Rattle.cl_tree.specs.declared.tree.Declarator.{Declarator}
use Rattle.cl_mean.specs.declared.labels.Entry.{Entry}
use Rattle.cl_mean.specs.declared.labels.Mention.{Mention}
use Rattle.cl_mean.specs.declared.labels.Mentions.{Mentions}
use Rattle.cl_mean.specs.declared.labels.LabelFact.{LabelFact}
use Rattle.cl_mean.specs.Source.{label_at}
use Rattle.cl_labelling.specs.Shareable.{all_shareable, is_array, is_shareable, lent, shareable_back}
use Rattle.cle_share.specs.Bearings.{backs, go_back}

-- the row of a label's number
pub get_map : {X Y : Type 0} (f : X → Y) (xs : List X) (k : ℕ) → slice_get (map f xs) k ≡ option_map f (slice_get xs k)
get_map f [] k = refl
get_map f (x ∷ xs) zero = refl
get_map f (x ∷ xs) (suc k) = get_map f xs k

pub row_at : (f : LabelFact → List Bool) (labels : List LabelFact) (k : ℕ) (l : LabelFact) → label_at labels (Some k) ≡ Some l → slice_get (map f labels) k ≡ Some (f l)
row_at f [] k l e = absurd (none-some l e)
row_at f (x ∷ xs) zero l e = ap (option_map f) e
row_at f (x ∷ xs) (suc k) l e = row_at f xs k l e

-- two lists of taints are shareable with the levels of entries where each is
both : (a b c d : Bool) → ((a && b) && (c && d)) ≡ ((a && c) && (b && d))
both true b true d = refl
both true true false d = refl
both true false false d = refl
both false b c d = refl

all_both : (labels : List LabelFact) (xs ys : List Mention) (es : List Entry) → list_all (λ e. all_shareable labels e.remote (xs ++ ys)) es
    ≡ (list_all (λ e. all_shareable labels e.remote xs) es && list_all (λ e. all_shareable labels e.remote ys) es)
all_both labels xs ys [] = refl
all_both labels xs ys (e ∷ es) =
    rw (list_all-append (is_shareable labels e.remote) xs ys, all_both labels xs ys es)
    (both (all_shareable labels e.remote xs) (all_shareable labels e.remote ys) (list_all (λ e. all_shareable labels e.remote xs) es) (list_all (λ e. all_shareable labels e.remote ys) es))

all_none : (labels : List LabelFact) (es : List Entry) → list_all (λ e. all_shareable labels e.remote []) es ≡ true
all_none labels [] = refl
all_none labels (e ∷ es) = all_none labels es

pub none_go : (bs : List Bool) → go_back bs [] ≡ true
unfolding go_back
none_go [] = refl
none_go (b ∷ bs) = refl

-- what is lent is shareable where the taints of each array parameter are
module _ (labels : List LabelFact) (l : LabelFact) where
  abbrev pub back : Mentions → Bool
  back m = shareable_back labels l m.all

  one : (a : Bool) (m : Mentions) (rest : List Mention) → (if a then back m else true) && shareable_back labels l rest ≡ shareable_back labels l ((if a then m.all else []) ++ rest)
  one true m rest = sym (all_both labels m.all rest l.entries)
  one false m rest = refl

  pub lent_back : (ms : List Mentions) (ds : List Declarator) → go_back (map back ms) ds ≡ shareable_back labels l (lent ms ds)
  unfolding go_back lent
  lent_back [] ds = sym (all_none labels l.entries)
  lent_back (m ∷ ms) [] = sym (all_none labels l.entries)
  lent_back (m ∷ ms) (d ∷ ds) =
      ap (λ (b : Bool). (if is_array (out-CType d.ctype) then back m else true) && b) (lent_back ms ds)
      ∙ one (is_array (out-CType d.ctype)) m (lent ms ds)

pub one_goes : (b : Bool) (bs : List Bool) (d : Declarator) (ds : List Declarator) → (if is_array (out-CType d.ctype) then b else true) ≡ true → go_back (b ∷ bs) (d ∷ ds) ≡ go_back bs ds
unfolding go_back
one_goes b bs d ds e = rw e refl

pub one_stops : (b : Bool) (bs : List Bool) (d : Declarator) (ds : List Declarator) → (if is_array (out-CType d.ctype) then b else true) ≡ false → go_back (b ∷ bs) (d ∷ ds) ≡ false
unfolding go_back
one_stops b bs d ds e = rw e refl
