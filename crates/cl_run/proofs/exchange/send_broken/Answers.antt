use Rattle.std.proofs.Common.{rules, ◌≡◌, ap, ◌∙◌, Ok}
use Rattle.rpc_codec.specs.Frames.{header_bytes}
use Rattle.hal_route.specs.declared.uplink.Passed.TheVariants.{To}
use Rattle.cl_run.proofs.Sends.{broken_goes}
use Rattle.cl_run.proofs.exchange.send_broken.Goals as goal

pub unreachable-requires : goal.unreachable-requires
unreachable-requires c =
    let answer : c.take.result ≡ Ok (To c.args.route.now.row.now.from) = (broken_goes c.reply_passes.ensures _ _ _ _ _ _ _ c.requires.served c.requires.row c.requires.ready c.take.ensures.taken (c.set_header.ensures.bytes ∙ ap header_bytes c.header_of.ensures)).answer in
    search rules
