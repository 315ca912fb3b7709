use Rattle.std.proofs.Common.{◌≡◌, ◌<◌, ◌≤◌, ◌++◌, length, take, true, arith, subst, sym, List, rules}
use Rattle.std.specs.List.{flat_map}
use Rattle.std.proofs.lemmas.List.{take_all}
use Rattle.cl_mean.specs.Shape.{members_of, structs_of}
use Rattle.cl_tree.specs.declared.tree.Declaration.{Declaration}
use Rattle.cl_tree.specs.declared.tree.Declarator.{Declarator}
use Rattle.cl_tree.specs.Words.{Word}
use Rattle.rpc_codec.specs.declared.leaves.Leaf.{Leaf}
use Rattle.rpc_codec.specs.Leaves.{member_leaves}
use Rattle.guard_places.specs.Tables.{IsTable}
use Rattle.guard_places.proofs.Tabled.{declarations_step, nothing_more}
use Rattle.guard_places.proofs.table.Table.add_declarations.Goals as goal

pub loop-declaration-init : goal.loop-declaration-init
loop-declaration-init c = λ front is. nothing_more c.args.items.now c.args.self.now front is

pub loop-declaration-preserved : goal.loop-declaration-preserved
loop-declaration-preserved c = λ front is.
    let h : c.loop-declaration.declaration-index < length c.args.declarations.now = omega arith in
    let done : c.in_ok-add_all.field-0 ≡ true = search rules in
    let before : List Word → List Leaf = λ path. front path ++ member_leaves (members_of (structs_of (take c.args.known c.args.items.now)) (flat_map (λ d. d.names) (take c.loop-declaration.declaration-index c.args.declarations.now))) true path in
    declarations_step c.args.items.now c.add_all.new.self front (structs_of (take c.args.known c.args.items.now)) c.args.declarations.now c.loop-declaration.declaration-index c.declaration-item.result h (sym c.declaration-item.is)
    (subst (λ (ds : List Declarator). IsTable c.args.items.now c.add_all.new.self (λ path. before path ++ member_leaves (members_of (structs_of (take c.args.known c.args.items.now)) ds) true path)) c.as_slice.ensures (c.in_ok-add_all.ensures done before (c.loop-declaration.invariant front is)))

pub returns : goal.returns
returns c = λ added front is.
    let h : length c.args.declarations.now ≤ c.loop-declaration.declaration-index = omega arith in
    subst (λ (ds : List Declaration). IsTable c.args.items.now c.loop-declaration.self (λ path. front path ++ member_leaves (members_of (structs_of (take c.args.known c.args.items.now)) (flat_map (λ d. d.names) ds)) true path))
    (take_all c.loop-declaration.declaration-index c.args.declarations.now h) (c.loop-declaration.invariant front is)
