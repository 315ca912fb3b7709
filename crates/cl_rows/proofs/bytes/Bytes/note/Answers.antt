use Rattle.std.proofs.Common.{ap, is_some, sym, ◌∙◌}
use Rattle.cl_rows.specs.Bytes.{structs_in}
use Rattle.cl_rows.proofs.Sums.{noted_by}
use Rattle.cl_rows.proofs.bytes.Bytes.note.Goals as goal

pub returns-clause-known : goal.returns-clause-known
returns-clause-known c =
    noted_by (structs_in c.args.self.now) c.args.tag.now c.args.members.now c.args.self.now.known c.set.new.self c.of_members-size.result c.set.result c.requires
    c.of_members-size.ensures (ap is_some (sym c.get.ensures) ∙ sym c.is_some.ensures ∙ c.if-is_some.false) c.set.ensures.ok
