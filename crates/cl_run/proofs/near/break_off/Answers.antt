use Rattle.std.proofs.Common.{◌≡◌, ap, List, [], ◌∷◌, ◌++◌, true}
use Rattle.cl_run.specs.declared.crossing.Content.TheVariants.{Broken}
use Rattle.cl_run.specs.declared.crossing.Crossing.{Crossing}
use Rattle.cl_run.specs.declared.state.State.{State}
use Rattle.cl_run.specs.FormCalls.{crossing}
use Rattle.cl_run.proofs.Journal.{ready, broken_crosses}
use Rattle.cl_run.proofs.near.break_off.Goals as goal

pub send_broken-requires-clause-ready : goal.send_broken-requires-clause-ready
send_broken-requires-clause-ready c = ready _ _ c.requires.stands

pub returns-clause-crosses : goal.returns-clause-crosses
returns-clause-crosses c =
    let more : c.push.new.self ≡ c.args.running.now.state.crossings ++ crossing c.args.route.now.number true Broken ∷ [] = c.in_ok-push.ensures.ok in
    let with : List Crossing → State = λ cs. record { levels = c.args.running.now.state.levels; objects = c.args.running.now.state.objects; crossings = cs } in
    let state = ap with more in
    broken_crosses _ _ _ _ _ c.requires.served c.requires.row c.requires.stands c.requires.paid state c.send_broken.ensures.journal
