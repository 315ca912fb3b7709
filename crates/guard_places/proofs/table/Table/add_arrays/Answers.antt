use Rattle.std.proofs.Common.{◌≡◌, ◌<◌, ◌≤◌, ◌++◌, length, take, true, arith, subst, sym, List, rules}
use Rattle.std.proofs.lemmas.List.{take_all}
use Rattle.cl_mean.specs.Shape.{structs_of}
use Rattle.cl_tree.specs.declared.tree.Declarator.{Declarator}
use Rattle.rpc_codec.specs.Signature.{array_leaves}
use Rattle.guard_places.specs.Tables.{IsTable}
use Rattle.guard_places.proofs.Tabled.{arrays_step, nothing_more}
use Rattle.guard_places.proofs.table.Table.add_arrays.Goals as goal

pub loop-param-init : goal.loop-param-init
loop-param-init c = λ front is. nothing_more c.args.items.now c.args.self.now front is

pub loop-param-preserved : goal.loop-param-preserved
loop-param-preserved c = λ front is.
    let h : c.loop-param.param-index < length c.args.params.now = omega arith in
    let done : c.in_ok-add_if_array.field-0 ≡ true = search rules in
    arrays_step c.args.items.now c.add_if_array.new.self front (structs_of c.args.items.now) c.args.params.now c.loop-param.param-index c.param-item.result h (sym c.param-item.is)
    (c.in_ok-add_if_array.ensures done (λ path. front path ++ array_leaves (structs_of c.args.items.now) (take c.loop-param.param-index c.args.params.now) path) (c.loop-param.invariant front is))

pub returns : goal.returns
returns c = λ added front is.
    let h : length c.args.params.now ≤ c.loop-param.param-index = omega arith in
    subst (λ (ds : List Declarator). IsTable c.args.items.now c.loop-param.self (λ path. front path ++ array_leaves (structs_of c.args.items.now) ds path))
    (take_all c.loop-param.param-index c.args.params.now h) (c.loop-param.invariant front is)
