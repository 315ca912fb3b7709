use Rattle.std.proofs.Common.{rules, ◌≡◌, ap, ◌∙◌, Ok, ◌++◌, ℕ, List}
use Rattle.rpc_codec.specs.Frames.{header_bytes}
use Rattle.hal_route.specs.declared.uplink.Passed.TheVariants.{To}
use Rattle.cl_run.specs.Steps.{int_payload}
use Rattle.cl_run.proofs.Sends.{number_goes, number_long}
use Rattle.cl_run.proofs.exchange.send_reply.Goals as goal

pub unreachable-requires : goal.unreachable-requires
unreachable-requires c =
    let put : c.put_int.new.frame ≡ c.set_header.new.self ++ int_payload c.args.value = search rules in
    let bytes = put ∙ ap (λ (front : List ℕ). front ++ int_payload c.args.value) (c.set_header.ensures.bytes ∙ ap header_bytes c.header_of.ensures) in
    let answer : c.take.result ≡ Ok (To c.args.route.now.row.now.from) = (number_goes c.reply_passes.ensures _ _ _ _ _ _ (int_payload c.args.value) _ c.requires.served c.requires.row c.requires.ready (number_long c.args.value) c.take.ensures.taken bytes).answer in
    search rules
