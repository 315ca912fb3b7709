use Rattle.std.proofs.Common.{◌≡◌, ◌+◌, [], true, length, refl, rules, take, None}
use Rattle.std.specs.BTreeMap.{get_by_text}
use Rattle.cl_mean.specs.Shape.{shape_of, structs_of}
use Rattle.rpc_codec.specs.Leaves.{leaves}
use Rattle.guard_places.proofs.Tabled.{table_added}
use Rattle.guard_places.proofs.table.Table.add.Goals as goal

pub returns : goal.returns
returns c = λ added front is.
    let none : get_by_text c.args.self.now.members c.args.name.now ≡ None = search rules in
    let total : c.in-Some.count ≡ c.args.self.now.count + length c.in_ok-leaves.leaves.items = search rules in
    let all : c.in_ok-leaves.leaves.items ≡ leaves (shape_of (structs_of (take c.args.known c.args.items.now)) c.args.ctype.now) true [] = search rules in
    table_added c.args.items.now c.args.self.now _ front (shape_of (structs_of (take c.args.known c.args.items.now)) c.args.ctype.now) c.args.name.now
    (record { at = c.args.self.now.count; leaves = c.in_ok-leaves.leaves; inner = c.in_ok-inner.inner }) is none c.in_ok-put.ensures.each total refl all c.in_ok-inner.ensures
