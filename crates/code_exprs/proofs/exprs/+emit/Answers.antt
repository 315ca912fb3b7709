use Rattle.std.proofs.Common.{◌≡◌, ◌≤◌, length, map, drop, ap, ◌∙◌, arith, rules, Some, is_some, true}
use Rattle.code_forms.specs.Layout as layout
use Rattle.cl_tree.specs.Arithmetic.{common}
use Rattle.cl_mean.specs.Shape.{kind_in}
use Rattle.code_forms.specs.Lowering as l
use Rattle.code_tables.specs.Facts.{called, callee_by, facts_by}
use Rattle.code_tables.specs.Table.{bounds}
use Rattle.code_tables.specs.Types.{elements_in, section_in, shape_in}
use Rattle.code_exprs.specs.Placed.{low}
use Rattle.code_exprs.proofs.Arms.{on_ok, both_done, either_done, chosen_done, arguments_end, called_within, called_across, shapes_are, element_found, section_found}
use Rattle.code_exprs.proofs.exprs.+emit.Goals as goal

pub emit_both-returns : goal.emit_both-returns
emit_both-returns t c =
    on_ok c.put_truth.result _ _
    (both_done (low c.args.facts.now c.args.names.now c.args.a.now).value (low c.args.facts.now c.args.names.now c.args.b.now).value c.args.top
    c.in_ok-hole.hole c.in_ok-place.field-0 c.in_ok-past.past c.args.writer.now c.emit_value.new.writer c.put.new.self c.emit_value-2.new.writer
    c.set.new.self c.put_truth.new.self c.in_ok-emit_value.ensures.code c.in_ok-hole.ensures c.in_ok-put.ensures c.in_ok-emit_value-2.ensures.code
    c.in_ok-place.ensures c.in_ok-past.ensures c.set.ensures) c.put_truth.ensures

pub emit_either-returns : goal.emit_either-returns
emit_either-returns t c =
    on_ok c.put_truth.result _ _
    (either_done (low c.args.facts.now c.args.names.now c.args.a.now).value (low c.args.facts.now c.args.names.now c.args.b.now).value c.args.top
    c.in_ok-place.field-0 c.in_ok-second.second c.in_ok-hole.hole c.in_ok-place-2.field-0 c.in_ok-holds.holds c.in_ok-plus.field-0
    c.args.writer.now c.emit_value.new.writer c.put.new.self c.put-2.new.self c.emit_value-2.new.writer c.set.new.self c.put_truth.new.self
    c.in_ok-emit_value.ensures.code c.in_ok-place.ensures c.in_ok-second.ensures c.in_ok-put.ensures c.in_ok-hole.ensures c.in_ok-put-2.ensures
    c.in_ok-emit_value-2.ensures.code c.in_ok-place-2.ensures c.in_ok-holds.ensures c.set.ensures c.in_ok-plus.ensures) c.put_truth.ensures

pub emit_choice-returns-clause-code : goal.emit_choice-returns-clause-code
emit_choice-returns-clause-code t c =
    let first : c.kind-first.result ≡ l.kind_of (low c.args.facts.now c.args.names.now c.args.a.now) = c.kind-first.ensures ∙ ap kind_in c.in_ok-emit_value-2.ensures.ctype in
    let second : c.kind.result ≡ l.kind_of (low c.args.facts.now c.args.names.now c.args.b.now) = c.kind.ensures ∙ ap kind_in c.in_ok-type_of.ensures in
    chosen_done (low c.args.facts.now c.args.names.now c.args.test.now) (low c.args.facts.now c.args.names.now c.args.a.now) (low c.args.facts.now c.args.names.now c.args.b.now)
    c.kind-first.result c.common-kind.result c.args.top c.in_ok-hole.hole c.in_ok-leave.leave c.in_ok-plus.field-0 c.in_ok-end.end
    c.args.writer.now c.emit_value.new.writer c.put.new.self c.emit_value-2.new.writer c.put_convert.new.self c.set.new.self c.put-2.new.self c.emit_operand.new.writer c.set-2.new.self
    first (c.common-kind.ensures ∙ ap (λ k. common k c.kind.result) first ∙ ap (common (l.kind_of (low c.args.facts.now c.args.names.now c.args.a.now))) second)
    c.in_ok-emit_value.ensures.code c.in_ok-hole.ensures c.in_ok-put.ensures c.in_ok-emit_value-2.ensures.code c.in_ok-put_convert.ensures
    c.in_ok-leave.ensures c.in_ok-plus.ensures c.set.ensures c.in_ok-put-2.ensures c.in_ok-emit_operand.ensures c.in_ok-end.ensures c.set-2.ensures

pub emit_arguments-returns : goal.emit_arguments-returns
emit_arguments-returns t c =
    let h : length c.args.all.now ≤ c.loop-k.k = omega arith in
    on_ok c.put_nothing-2.result _ _
    (λ e. arguments_end (l.lowered (facts_by c.args.facts.now) (bounds c.args.names.now)) (map shape_in (drop c.loop-k.k c.args.params.now)) c.args.all.now c.loop-k.k c.loop-k.at
    c.loop-k.writer c.put_nothing-2.new.self _ h e c.loop-k.invariant) c.put_nothing-2.ensures

pub emit_called-returns-in_ok-cells-in-Within : goal.emit_called-returns-in_ok-cells-in-Within
emit_called-returns-in_ok-cells-in-Within t c =
    on_ok c.reach.result _ _
    (called_within (callee_by (called c.args.callee.now)) c.args.callee.now.route c.args.line (map shape_in c.as_slice-params.result.now)
    (map (l.lowered (facts_by c.args.facts.now) (bounds c.args.names.now)) c.args.all.now) c.args.top c.in_ok-cells-in-Within.field-0
    c.args.writer.now c.emit_arguments.new.writer c.put.new.self c.reach.new.self c.in-Within.is
    (ap (map shape_in) c.as_slice-params.ensures.value ∙ shapes_are c.args.callee.now.params.items)
    c.in_ok-emit_arguments-in-Within.ensures c.in_ok-put-in-Within.ensures c.in_ok-cells-in-Within.ensures) c.reach.ensures

pub emit_called-returns-in_ok-height-in-Across : goal.emit_called-returns-in_ok-height-in-Across
emit_called-returns-in_ok-height-in-Across t c =
    on_ok c.reach-in-Across.result _ _
    (called_across (callee_by (called c.args.callee.now)) c.args.callee.now.route c.in-Across.row c.args.line (map shape_in c.as_slice-params.result.now)
    (map (l.lowered (facts_by c.args.facts.now) (bounds c.args.names.now)) c.args.all.now) c.args.top c.in_ok-cells-in-Across.cells c.in_ok-height-in-Across.field-0
    c.args.writer.now c.emit_arguments-in-Across.new.writer c.put_across.new.writer c.reach-in-Across.new.self c.in-Across.is
    (ap (map shape_in) c.as_slice-params.ensures.value ∙ shapes_are c.args.callee.now.params.items)
    c.in_ok-emit_arguments-in-Across.ensures c.in_ok-cells-in-Across.ensures c.in_ok-put_across-in-Across.ensures c.in_ok-height-in-Across.ensures) c.reach-in-Across.ensures

pub emit_index-returns-then-is_some-clause-code : goal.emit_index-returns-then-is_some-clause-code
emit_index-returns-then-is_some-clause-code t c =
    let a = low c.args.facts.now c.args.names.now c.args.a.now in
    let found : Some (elements_in c.in-Some.es) ≡ layout.elements_in a.shape = search rules in
    let there : is_some c.in_ok-place_of.field-0 ≡ true = search rules in
    element_found c.args.line (layout.elements_in a.shape) (elements_in c.in-Some.es) a (low c.args.facts.now c.args.names.now c.args.b.now) c.in_ok-place_of.field-0
    c.args.top c.args.writer.now c.emit_element.new.writer c.put_fetch.new.self found there c.in_ok-place_of.ensures c.in_ok-emit_element.ensures.code c.in_ok-put_fetch.ensures

pub emit_member-returns-then-is_some-clause-code : goal.emit_member-returns-then-is_some-clause-code
emit_member-returns-then-is_some-clause-code t c =
    let a = low c.args.facts.now c.args.names.now c.args.a.now in
    let found : Some (section_in c.in-Some.s) ≡ layout.member_in a.shape c.args.name.now = search rules in
    let there : is_some c.in_ok-place_of.field-0 ≡ true = search rules in
    section_found (layout.member_in a.shape c.args.name.now) (section_in c.in-Some.s) a c.in_ok-place_of.field-0
    c.args.top c.args.writer.now c.emit_section.new.writer c.put_fetch.new.self found there c.in_ok-place_of.ensures c.in_ok-emit_section.ensures.code c.in_ok-put_fetch.ensures
