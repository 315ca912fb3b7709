use Rattle.std.proofs.Common.{◌≡◌, ◌≤◌, [], false, length}
use Rattle.cl_base.specs.declared.limits.TheConstants.{RUN_TOKENS, ITEM_ELSES}
use Rattle.cl_parse.specs.Walk.{limit_from}
use Rattle.cl_parse.proofs.limits.first_over.Given as goal

abbrev pub invariant-terminals : goal.invariant-terminals
invariant-terminals l = record {
  same : limit_from l.brackets l.after l.elses l.run l.rest ≡ limit_from [] false 0 0 l.terminals;
  elses : l.elses ≤ ITEM_ELSES;
  run : l.run ≤ RUN_TOKENS;
}

abbrev pub decreases-terminals : goal.decreases-terminals
decreases-terminals l = length l.rest
