use Rattle.std.proofs.Common.{◌≡◌, ◌∙◌, ℤ, ap, List, [], ◌∷◌, ◌++◌, false}
use Rattle.cl_run.specs.declared.crossing.Content.TheVariants.{Values}
use Rattle.cl_run.specs.declared.crossing.Crossing.{Crossing}
use Rattle.cl_run.specs.declared.state.State.{State}
use Rattle.cl_run.specs.FormCalls.{crossing}
use Rattle.cl_run.proofs.Journal.{ready, request_crosses}
use Rattle.cl_run.proofs.near.ask.Goals as goal

pub send_request-requires-clause-ready : goal.send_request-requires-clause-ready
send_request-requires-clause-ready c = ready _ _ c.requires.stands

pub returns-clause-crosses : goal.returns-clause-crosses
returns-clause-crosses c =
    let more : c.push.new.self ≡ c.args.running.now.state.crossings ++ crossing c.args.route.now.number false (Values []) ∷ [] = c.in_ok-push.ensures.ok ∙ ap (λ (v : List ℤ). c.args.running.now.state.crossings ++ crossing c.args.route.now.number false (Values v) ∷ []) c.new.ensures in
    let with : List Crossing → State = λ cs. record { levels = c.args.running.now.state.levels; objects = c.args.running.now.state.objects; crossings = cs } in
    let state = ap with more in
    request_crosses _ _ _ _ _ c.requires.served c.requires.row c.requires.stands c.requires.paid state c.send_request.ensures.journal
