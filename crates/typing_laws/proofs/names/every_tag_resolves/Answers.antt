use Rattle.typing_laws.proofs.Programs.{every_tag_known, every_item_knows, every_declaration_knows}
use Rattle.typing_laws.proofs.names.every_tag_resolves.Goals as goal

pub returns-clause-known : goal.returns-clause-known
returns-clause-known c = every_tag_known

pub returns-clause-items : goal.returns-clause-items
returns-clause-items c = every_item_knows

pub returns-clause-statements : goal.returns-clause-statements
returns-clause-statements c = every_declaration_knows
