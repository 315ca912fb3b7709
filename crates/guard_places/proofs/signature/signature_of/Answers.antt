use Rattle.std.proofs.Common.{◌≡◌, rules, Some, None, slice_get}
use Rattle.guard_places.proofs.Signatures.{item_found, item_missing, function_missing}
use Rattle.guard_places.proofs.signature.signature_of.Goals as goal

pub returns-in_err-fact : goal.returns-in_err-fact
returns-in_err-fact c =
    let none : slice_get c.args.checked.now.typed.functions c.args.function ≡ None = search rules in
    rw (c.from_residual.ensures) (function_missing c.args.checked.now c.args.function none)

pub returns-in_err-item : goal.returns-in_err-item
returns-in_err-item c =
    let fact : slice_get c.args.checked.now.typed.functions c.args.function ≡ Some c.in_ok-fact.fact.now = search rules in
    let none : slice_get c.args.checked.now.typed.program.items c.in_ok-fact.fact.now.item ≡ None = search rules in
    rw (c.from_residual-in_err-item.ensures) (item_missing c.args.checked.now c.args.function c.in_ok-fact.fact.now fact none)

pub returns : goal.returns
returns c =
    let fact : slice_get c.args.checked.now.typed.functions c.args.function ≡ Some c.in_ok-fact.fact.now = search rules in
    let item : slice_get c.args.checked.now.typed.program.items c.in_ok-fact.fact.now.item ≡ Some c.in_ok-item.item.now = search rules in
    rw (item_found c.args.checked.now c.args.function c.in_ok-fact.fact.now c.in_ok-item.item.now fact item) c.item_signature.ensures
