use Rattle.std.proofs.Common.{◌≡◌, ◌+◌, [], length}
use Rattle.cl_parse.specs.First.{first_length, first_closes}
use Rattle.cl_parse.proofs.first.first_item.Given as goal

abbrev pub invariant-terminals : goal.invariant-terminals
invariant-terminals l = record {
  count : l.size + length l.rest ≡ length l.terminals;
  size : l.size + first_length l.brackets l.closes l.rest ≡ first_length [] l.after l.terminals;
  closes : first_closes l.brackets l.closes l.rest ≡ first_closes [] l.after l.terminals;
}

abbrev pub decreases-terminals : goal.decreases-terminals
decreases-terminals l = length l.rest
