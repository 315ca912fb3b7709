use Rattle.std.proofs.Common.{[]}
use Rattle.cle_items.proofs.Labels.{numbers_are}
use Rattle.cle_items.proofs.laws.numbers_of_items.Goals as goal

pub returns : goal.returns
returns c names all = numbers_are names [] all
