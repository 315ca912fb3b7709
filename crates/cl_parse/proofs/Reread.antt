-- Tokens have one answer.
use Rattle.std.proofs.Common.{◌≡◌, ◌⊎◌, List}
use Rattle.cl_tree.specs.declared.token.Token.{Token}
use Rattle.cl_tree.specs.declared.tree.Program.{Program}
use Rattle.cl_tree.specs.Reading.{ReadsAs, HasProgram, HasFailure}
use Rattle.cl_parse_stmt.proofs.AllItems.{item_one, item_or_none}
use Rattle.cl_parse.proofs.Answered.{one_program, answered}

pub one_reading : (tokens : List Token) (p q : Program) → ReadsAs tokens p → ReadsAs tokens q → p ≡ q
one_reading tokens p q h k = one_program item_one tokens p q h k

pub has_answer : (tokens : List Token) → HasProgram tokens ⊎ HasFailure tokens
has_answer tokens = answered item_or_none tokens
