use Rattle.std.proofs.Common.{◌≡◌, ◌<◌, ◌≤◌, ◌++◌, length, take, true, arith, subst, sym, List, rules}
use Rattle.std.proofs.lemmas.List.{take_all}
use Rattle.cl_mean.specs.Shape.{members_of, shape_of, structs_of}
use Rattle.cl_tree.specs.declared.tree.Declarator.{Declarator}
use Rattle.cl_tree.specs.Words.{Word}
use Rattle.rpc_codec.specs.declared.leaves.Leaf.{Leaf}
use Rattle.rpc_codec.specs.Leaves.{behind, leads_to, leaves, member_leaves}
use Rattle.guard_places.specs.Tables.{IsTable}
use Rattle.guard_places.proofs.Tabled.{members_step, nothing_more}
use Rattle.guard_places.proofs.table.Table.add_all.Goals as goal

pub loop-name-init : goal.loop-name-init
loop-name-init c = λ front is. nothing_more c.args.items.now c.args.self.now front is

pub loop-name-preserved : goal.loop-name-preserved
loop-name-preserved c = λ front is.
    let h : c.loop-name.name-index < length c.args.names.now = omega arith in
    let done : c.in_ok-add.field-0 ≡ true = search rules in
    let before : List Word → List Leaf = λ path. front path ++ member_leaves (members_of (structs_of (take c.args.known c.args.items.now)) (take c.loop-name.name-index c.args.names.now)) true path in
    members_step c.args.items.now c.add.new.self front (structs_of (take c.args.known c.args.items.now)) c.args.names.now c.loop-name.name-index c.name-item.result h (sym c.name-item.is)
    (subst (λ (name : Word). IsTable c.args.items.now c.add.new.self (λ path. before path ++ leaves (shape_of (structs_of (take c.args.known c.args.items.now)) c.name-item.result.ctype) (leads_to true path name) (behind path))) c.text.ensures
    (c.in_ok-add.ensures done before (c.loop-name.invariant front is)))

pub returns : goal.returns
returns c = λ added front is.
    let h : length c.args.names.now ≤ c.loop-name.name-index = omega arith in
    subst (λ (ds : List Declarator). IsTable c.args.items.now c.loop-name.self (λ path. front path ++ member_leaves (members_of (structs_of (take c.args.known c.args.items.now)) ds) true path))
    (take_all c.loop-name.name-index c.args.names.now h) (c.loop-name.invariant front is)
