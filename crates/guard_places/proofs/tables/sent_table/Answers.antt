use Rattle.std.proofs.Common.{◌≡◌, List, [], Some, subst, rules}
use Rattle.cl_mean.specs.Shape.{structs_of}
use Rattle.cl_tree.specs.declared.tree.Item.{Item}
use Rattle.rpc_codec.specs.Signature.{signature_leaves}
use Rattle.guard_places.specs.Tables.{IsTable}
use Rattle.guard_places.proofs.Tabled.{sent_table_is}
use Rattle.guard_places.proofs.tables.sent_table.Goals as goal

pub returns-then-branch : goal.returns-then-branch
returns-then-branch c =
    let made = c.in_ok-add_signature.ensures c.if-branch.true (λ path. []) (c.new-table.ensures c.as_slice-items.result.now) in
    sent_table_is c.args.checked.now c.args.function c.args.reply c.add_signature.new.self (record { result = c.in-Some.signature.result.now; params = c.in-Some.signature.params.now }) c.in-Some.ensures
    (subst (λ (all : List Item). IsTable all c.add_signature.new.self (λ path. signature_leaves (structs_of all) c.args.reply (Some (record { result = c.in-Some.signature.result.now; params = c.in-Some.signature.params.now })) path)) c.as_slice-items.ensures made)
