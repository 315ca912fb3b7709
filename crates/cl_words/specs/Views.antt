-- What the code reads, as the definitions have it.
use Rattle.std.specs.Option.{option_copied}
use Rattle.cl_words.specs.declared.words.Command.{Command}
use Rattle.cl_words.specs.declared.words.Command.TheVariants as command
use Rattle.cl_words.specs.Words.{Asked, Check, Run}

abbrev pub asked_of : Command → Asked
asked_of (command.Check source) = Check source.now
asked_of (command.Run run) = Run (record { source = run.source.now; journal = option_copied run.journal })
