use Rattle.cl_run.proofs.Journal.{ready}
use Rattle.cl_run.proofs.run.run_checked.Goals as goal

pub send_stop-requires : goal.send_stop-requires
send_stop-requires c = record { ready = ready _ c.run_main.new.running c.run_main.ensures.stands }
