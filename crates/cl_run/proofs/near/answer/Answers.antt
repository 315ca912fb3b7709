use Rattle.std.proofs.Common.{◌≡◌, ap, List, [], ◌∷◌, ◌++◌, true, rules}
use Rattle.rpc_codec.specs.Frames.{header_bytes}
use Rattle.rpc_codec.specs.declared.frame.TheConstants.{VALUES}
use Rattle.cl_run.specs.declared.crossing.Content.TheVariants.{Values}
use Rattle.cl_run.specs.declared.crossing.Crossing.{Crossing}
use Rattle.cl_run.specs.declared.state.State.{State}
use Rattle.cl_run.specs.FormCalls.{crossing, replied}
use Rattle.hal_route.specs.Hal.{recorded}
use Rattle.cl_run.specs.Steps.{header_of, int_payload}
use Rattle.cl_run.proofs.Journal.{ready, reply_crosses, int_kind}
use Rattle.cl_run.proofs.near.answer.Goals as goal

pub replied-value-requires : goal.replied-value-requires
replied-value-requires c = int_kind _ _ _ c.requires.served c.requires.row

pub send_reply-requires-clause-ready : goal.send_reply-requires-clause-ready
send_reply-requires-clause-ready c = ready _ _ c.requires.stands

pub returns-clause-number : goal.returns-clause-number
returns-clause-number c =
    let bytes : c.send_reply.new.frame ≡ header_bytes (header_of c.args.running.now.hal c.args.route.now.number true VALUES 4) ++ int_payload c.replied-value.result = search rules in
    let came = c.received.ensures _ _ c.replied-value.ensures.fits bytes in
    search rules

pub returns-clause-crosses : goal.returns-clause-crosses
returns-clause-crosses c =
    let more : c.push-2.new.self ≡ c.args.running.now.state.crossings ++ crossing c.args.route.now.number true (Values (replied c.args.route.now.row.now c.args.n ∷ [])) ∷ [] = search rules in
    let with : List Crossing → State = λ cs. record { levels = c.args.running.now.state.levels; objects = c.args.running.now.state.objects; crossings = cs } in
    let state = ap with more in
    let hal : c.send_reply.new.hal ≡ recorded c.args.running.now.hal (header_bytes (header_of c.args.running.now.hal c.args.route.now.number true VALUES 4) ++ int_payload (replied c.args.route.now.row.now c.args.n)) = search rules in
    reply_crosses _ _ _ _ _ _ c.requires.served c.requires.row c.requires.stands c.requires.paid state hal
