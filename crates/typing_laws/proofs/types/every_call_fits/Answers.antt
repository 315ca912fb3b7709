use Rattle.typing_laws.proofs.Calling.{arguments_count, arguments_fit, main_uncalled}
use Rattle.typing_laws.proofs.types.every_call_fits.Goals as goal

pub returns-clause-count : goal.returns-clause-count
returns-clause-count c = arguments_count

pub returns-clause-each : goal.returns-clause-each
returns-clause-each c = arguments_fit

pub returns-clause-main : goal.returns-clause-main
returns-clause-main c = main_uncalled
