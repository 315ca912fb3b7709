use Rattle.std.proofs.Common.{◌≡◌, ◌++◌, ◌≤◌, List, length, take, true, arith, subst, sym, rules, ap, ◌∙◌, Ok, Err}
use Rattle.std.proofs.lemmas.List.{take_all, append-nil}
use Rattle.cl_mean.specs.Shape.{shape_of, structs_of}
use Rattle.cl_tree.specs.declared.tree.Item.{Item}
use Rattle.cl_tree.specs.Words.{Word}
use Rattle.rpc_codec.specs.declared.leaves.Leaf.{Leaf}
use Rattle.rpc_codec.specs.Leaves.{behind, leads_to, leaves}
use Rattle.rpc_codec.specs.Signature.{if_array}
use Rattle.rpc_codec.proofs.Structs.{array_part, other_part}
use Rattle.guard_places.specs.Tables.{IsTable}
use Rattle.guard_places.proofs.Tabled.{array_added, none_added}
use Rattle.guard_places.proofs.table.Table.add_if_array.Goals as goal

pub returns-in_ok-added-in-Array : goal.returns-in_ok-added-in-Array
returns-in_ok-added-in-Array c = λ added front is.
    array_added c.args.items.now c.add.new.self front c.args.param.now.ctype _ _ c.args.param.now.name c.in-Array.is
    (subst (λ (name : Word). IsTable c.args.items.now c.add.new.self (λ path. front path ++ leaves (shape_of (structs_of (take (length c.args.items.now) c.args.items.now)) c.args.param.now.ctype) (leads_to true path name) (behind path))) c.text.ensures (c.in_ok-added-in-Array.ensures added front is))

pub returns-in_default : goal.returns-in_default
returns-in_default c = λ added front is. none_added c.args.items.now c.args.self.now front c.args.param.now.ctype c.args.param.now.name c.in_default.not-Array is
