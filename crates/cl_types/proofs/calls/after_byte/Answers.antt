use Rattle.std.proofs.Common.{drop, sym, ◌∙◌}
use Rattle.cl_types.proofs.Formats.{on_part, takes_part, takes_none, wrong_part}
use Rattle.cl_types.proofs.calls.after_byte.Goals as goal

pub returns-in-On-clause-some : goal.returns-in-On-clause-some
returns-in-On-clause-some c = λ rest.
    on_part c.args.tags.now c.args.names.now c.args.part c.in-On.next c.args.b rest
    (drop c.args.taken c.args.arguments.now) c.in-On.ensures

pub returns-in-Wrong-clause-none : goal.returns-in-Wrong-clause-none
returns-in-Wrong-clause-none c = λ none rest.
    wrong_part c.args.tags.now c.args.names.now c.args.part c.args.b rest (drop c.args.taken c.args.arguments.now)
    c.in-Wrong.ensures

pub returns-then-not-is_wanted-clause-none : goal.returns-then-not-is_wanted-clause-none
returns-then-not-is_wanted-clause-none c = λ none rest.
    takes_none c.args.tags.now c.args.names.now c.args.part c.in-Takes.want c.args.b rest
    (drop c.args.taken c.args.arguments.now) c.in-Takes.ensures (sym c.if-not-is_wanted.true ∙ c.is_wanted.ensures.fits)

pub returns-else-not-is_wanted-clause-some : goal.returns-else-not-is_wanted-clause-some
returns-else-not-is_wanted-clause-some c = λ rest.
    takes_part c.args.tags.now c.args.names.now c.args.part c.in-Takes.want c.args.b rest c.args.arguments.now
    c.args.taken c.in-Takes.ensures (sym c.if-not-is_wanted.false ∙ c.is_wanted.ensures.fits)
