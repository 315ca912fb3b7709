use Rattle.std.proofs.Common.{◌≡◌, ◌++◌, Bool, Some, subst, sym, true, false, rules}
use Rattle.cl_mean.specs.Shape.{structs_of}
use Rattle.rpc_codec.specs.Signature.{Signature, signature_leaves}
use Rattle.guard_places.specs.Tables.{IsTable}
use Rattle.guard_places.proofs.Tabled.{reply_added, request_added}
use Rattle.guard_places.proofs.table.Table.add_signature.Goals as goal

pub returns-then-not-reply : goal.returns-then-not-reply
returns-then-not-reply c = λ added front is.
    let signature : Signature = record { result = c.args.returns.now; params = c.args.params.now } in
    let request : false ≡ c.args.reply = search rules in
    subst (λ (r : Bool). IsTable c.args.items.now c.add_all.new.self (λ path. front path ++ signature_leaves (structs_of c.args.items.now) r (Some signature) path)) request
    (request_added c.args.items.now c.add_all.new.self front signature (c.in_ok-added.ensures added front is))

pub returns : goal.returns
returns c = λ added front is.
    let signature : Signature = record { result = c.args.returns.now; params = c.args.params.now } in
    let reply : true ≡ c.args.reply = search rules in
    let first : c.in_ok-add.field-0 ≡ true = search rules in
    subst (λ (r : Bool). IsTable c.args.items.now c.add_arrays.new.self (λ path. front path ++ signature_leaves (structs_of c.args.items.now) r (Some signature) path)) reply
    (reply_added c.args.items.now c.add_arrays.new.self front signature (c.in_ok-added-2.ensures added _ (c.in_ok-add.ensures first front is)))
