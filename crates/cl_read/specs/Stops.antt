-- The lexer's and the reader's stops, as the front end has them.
use Rattle.cl_lex.specs.declared.lex.LexStop.{LexStop}
use Rattle.cl_lex.specs.declared.lex.LexStop.TheVariants as lexer
use Rattle.cl_parse.specs.declared.stop.ParseStop.{ParseStop}
use Rattle.cl_parse.specs.declared.stop.ParseStop.TheVariants as reader
use Rattle.cl_read.specs.declared.stop.ReadStop.{ReadStop}
use Rattle.cl_read.specs.declared.stop.ReadStop.TheVariants.{Refused, NoMemory}

abbrev pub of_lexer : LexStop → ReadStop
of_lexer (lexer.Rule rule line) = Refused rule line
of_lexer lexer.NoMemory = NoMemory

abbrev pub of_reader : ParseStop → ReadStop
of_reader (reader.Rule rule line) = Refused rule line
of_reader reader.NoMemory = NoMemory
