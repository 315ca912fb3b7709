use Rattle.std.proofs.Common.{◌≡◌, List, [], Some, slice_get, subst, take, true, rules}
use Rattle.std.specs.List.{flat_map}
use Rattle.cl_mean.specs.Shape.{members_of, structs_of}
use Rattle.cl_tree.specs.declared.tree.Declaration.{Declaration}
use Rattle.cl_tree.specs.declared.tree.Item.{Item}
use Rattle.rpc_codec.specs.Leaves.{member_leaves}
use Rattle.guard_places.specs.Tables.{IsTable}
use Rattle.guard_places.proofs.Tabled.{item_table_is}
use Rattle.guard_places.proofs.tables.item_table.Goals as goal

pub returns-then-branch : goal.returns-then-branch
returns-then-branch c =
    let got : slice_get c.args.checked.now.typed.program.items c.args.item ≡ Some c.in-Some.found.now = search rules in
    let made = c.in_ok-add_declarations.ensures c.if-branch.true (λ path. []) (c.new-table.ensures c.as_slice-items.result.now) in
    let named = subst (λ (ds : List Declaration). IsTable c.as_slice-items.result.now c.add_declarations.new.self (λ path. member_leaves (members_of (structs_of (take c.args.item c.as_slice-items.result.now)) (flat_map (λ d. d.names) ds)) true path)) c.as_slice.ensures made in
    item_table_is c.args.checked.now c.args.item c.add_declarations.new.self _ c.in-Struct.members _ c.in-Some.found.now got c.in-Struct.is
    (subst (λ (all : List Item). IsTable all c.add_declarations.new.self (λ path. member_leaves (members_of (structs_of (take c.args.item all)) (flat_map (λ d. d.names) c.in-Struct.members)) true path)) c.as_slice-items.ensures named)
