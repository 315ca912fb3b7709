use Rattle.std.proofs.Common.{ℕ, List, [], Option, get_or, subst, sym, ap, ◌∙◌}
use Rattle.std.proofs.lemmas.Option.{slice_get-get_or, get_or_from_slice_get}
use Rattle.cle_table.specs.Numbers.{row_at, Puts}
use Rattle.cle_table.proofs.Puts.{rows_put, on_ok}
use Rattle.cle_table.proofs.nodes.Rows.put.Goals as goal

pub returns : goal.returns
returns c = on_ok c.put.result _ _
    (λ (p : Puts (row_at c.index_mut.result.now) (row_at c.put.new.self) c.args.k c.args.number).
    rows_put c.args.self.now c.grow_rows.new.rows.items c.args.f c.args.k c.args.number c.put.new.self c.in_ok-grow_rows.ensures.long
    (λ g. c.in_ok-grow_rows.ensures.same g ∙ ap (λ r. get_or r g []) c.self.view_is)
    (subst (λ (row : List (Option ℕ)). Puts (row_at row) (row_at c.put.new.self) c.args.k c.args.number)
    (c.index_mut.ensures.value ∙ sym (get_or_from_slice_get c.grow_rows.new.rows.items c.args.f _ [] (slice_get-get_or c.grow_rows.new.rows.items c.args.f c.index_mut.result.now c.in_ok-grow_rows.ensures.long))) p))
    c.put.ensures
