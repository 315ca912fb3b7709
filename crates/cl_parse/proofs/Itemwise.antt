-- Reading one item after the other.
use Rattle.std.proofs.Common.{◌≡◌, inl, inr, ℕ, List, [], ◌∷◌, ◌++◌, take, drop, refl, sym, subst, append_assoc, Bool, false, ◌≤◌, ◌<◌, length, arith}
use Rattle.std.proofs.lemmas.List.{append-nil}
use Rattle.cl_tree.specs.declared.grammar.Terminal.{Terminal}
use Rattle.cl_tree.specs.declared.tree.Item.{Item}
use Rattle.cl_tree.specs.Items.{cut_from, cut}
use Rattle.cl_tree.specs.Reading.{IsItem, IsUnread, line_of, IsFirstUnread}
use Rattle.cl_parse_expr.specs.Cursor as cursor
use Rattle.cl_parse_expr.specs.declared.stop.Stop.TheVariants.{Memory, Unread}
use Rattle.cl_parse.specs.First.{first_length, first_closes}
use Rattle.cl_parse.specs.Answer.{IsOneItem, AreOneItems}
use Rattle.cl_parse.proofs.Cut.{splits, first_some}

pub same_line : (ps : List Terminal) → line_of ps ≡ cursor.line_of ps
same_line [] = refl
same_line (p ∷ ps) = refl

pub item_unread : (ps : List Terminal) → ((i : Item) → IsItem ps i → Unread ≡ Memory) → IsUnread ps
item_unread ps h i is = let e : Unread ≡ Memory = h i is in cc

-- `done` are the items of the terminals so far, and `left` the terminals of those that follow.
pub record Goes (pss : List (List Terminal)) (done : List Item) (left : List (List Terminal)) : Type 0 where
  pub whole : (is : List Item) → AreOneItems left is → AreOneItems pss (done ++ is)
  pub unread : (line : ℕ) → IsFirstUnread left line → IsFirstUnread pss line

pub goes_start : (pss : List (List Terminal)) → Goes pss [] pss
goes_start pss = record { whole = λ is h. h; unread = λ line h. h }

goes_item : (pss : List (List Terminal)) (done : List Item) (ps : List Terminal) (more : List (List Terminal)) (i : Item) → Goes pss done (ps ∷ more) → IsOneItem ps i → Goes pss (done ++ i ∷ []) more
goes_item pss done ps more i g o = record {
  whole = λ is h. subst (λ (js : List Item). AreOneItems pss js) (sym (append_assoc done (i ∷ []) is)) (g.whole (i ∷ is) (o, h));
  unread = λ line h. g.unread line (inr ((i, o.is_item), h));
}

pub goes_end : (pss : List (List Terminal)) (done : List Item) → Goes pss done [] → AreOneItems pss done
goes_end pss done g = subst (λ (js : List Item). AreOneItems pss js) (append-nil done) (g.whole [] tt)

goes_unread : (pss : List (List Terminal)) (done : List Item) (ps : List Terminal) (more : List (List Terminal)) (line : ℕ) → Goes pss done (ps ∷ more) → IsUnread ps × (line_of ps ≡ line) → IsFirstUnread pss line
goes_unread pss done ps more line g u = g.unread line (inl u)

-- The same over terminals of which the first item is cut off.
cut_first : (after : Bool) (ps : List Terminal) → (ps ≡ [] → ⊥) → cut_from [] after ps ≡ take (first_length [] after ps) ps ∷ cut_from [] (first_closes [] after ps) (drop (first_length [] after ps) ps)
cut_first after [] h = absurd (h refl)
cut_first after (p ∷ ps) h = splits [] after p ps

pub goes_next : (pss : List (List Terminal)) (done : List Item) (after : Bool) (ps : List Terminal) (i : Item) → (ps ≡ [] → ⊥)
    → Goes pss done (cut_from [] after ps) → IsOneItem (take (first_length [] after ps) ps) i → Goes pss (done ++ i ∷ []) (cut_from [] (first_closes [] after ps) (drop (first_length [] after ps) ps))
goes_next pss done after ps i h g o = goes_item pss done (take (first_length [] after ps) ps) _ i (subst (λ (left : List (List Terminal)). Goes pss done left) (cut_first after ps h) g) o

pub goes_stop : (pss : List (List Terminal)) (done : List Item) (after : Bool) (ps : List Terminal) (line : ℕ) → (ps ≡ [] → ⊥)
    → Goes pss done (cut_from [] after ps) → IsUnread (take (first_length [] after ps) ps) × (line_of (take (first_length [] after ps) ps) ≡ line) → IsFirstUnread pss line
goes_stop pss done after ps line h g u = goes_unread pss done (take (first_length [] after ps) ps) (cut_from [] (first_closes [] after ps) (drop (first_length [] after ps) ps)) line (subst (λ (left : List (List Terminal)). Goes pss done left) (cut_first after ps h) g) u

pub goes_cut : (ps : List Terminal) → Goes (cut ps) [] (cut_from [] false ps)
unfolding cut
goes_cut ps = goes_start (cut_from [] false ps)

pub goes_done : (pss : List (List Terminal)) (done : List Item) (after : Bool) (ps : List Terminal) → ps ≡ [] → Goes pss done (cut_from [] after ps) → AreOneItems pss done
unfolding cut_from
goes_done pss done after [] e g = goes_end pss done g
goes_done pss done after (p ∷ ps) e g = cc

-- What `is_empty` tells.
pub none_left : (ps : List Terminal) → length ps ≡ 0 → ps ≡ []
none_left [] h = refl
none_left (p ∷ ps) h = absurd (omega arith)

pub first_moves : (after : Bool) (ps : List Terminal) → 0 < length ps → 1 ≤ first_length [] after ps
first_moves after [] h = absurd (omega arith)
first_moves after (p ∷ ps) h = first_some [] after p ps
