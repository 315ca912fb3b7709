use Rattle.std.proofs.Common.{rules, ◌≡◌, ap, ◌∙◌, Ok}
use Rattle.rpc_codec.specs.Frames.{header_bytes}
use Rattle.hal_route.specs.declared.uplink.Passed.TheVariants.{To}
use Rattle.cl_run.proofs.Sends.{request_goes}
use Rattle.cl_run.proofs.exchange.send_request.Goals as goal

pub unreachable-requires : goal.unreachable-requires
unreachable-requires c =
    let answer : c.take.result ≡ Ok (To c.args.route.now.row.now.to) = (request_goes c.request_passes.ensures _ _ _ _ _ _ _ c.requires.served c.requires.row c.requires.ready c.take.ensures.taken (c.set_header.ensures.bytes ∙ ap header_bytes c.header_of.ensures)).answer in
    search rules

pub returns-clause-level : goal.returns-clause-level
returns-clause-level c =
    let answer : c.take.result ≡ Ok (To c.args.route.now.row.now.to) = (request_goes c.request_passes.ensures _ _ _ _ _ _ _ c.requires.served c.requires.row c.requires.ready c.take.ensures.taken (c.set_header.ensures.bytes ∙ ap header_bytes c.header_of.ensures)).answer in
    search rules
