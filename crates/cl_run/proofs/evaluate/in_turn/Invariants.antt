use Rattle.std.proofs.Common.{◌≡◌, map, drop}
use Rattle.cl_run.specs.FormExecution.{run, in_turn}
use Rattle.cl_run.specs.FormCalls.{scope_at}
use Rattle.cl_run.specs.Steps.{Goes}
use Rattle.cl_run.proofs.evaluate.in_turn.Given as goal

abbrev pub invariant-loop-s : goal.invariant-loop-s
invariant-loop-s g l =
    (in_turn (map (run (scope_at (g.W.World.checked l.world) (g.W.World.depth l.world)) (g.W.World.context l.world)) (drop l.s-index l.all)) l.run.state ≡ in_turn (map (run (scope_at (g.W.World.checked l.world) (g.W.World.depth l.world)) (g.W.World.context l.world)) l.all) l.initial.run.state)
    × Goes (g.W.World.checked l.world) l.initial.run l.run
