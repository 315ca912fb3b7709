-- What the items so far declare, as the definition has it.
use Rattle.cl_typing.specs.Twice as twice
use Rattle.cl_twice.specs.declared.items.Declared.{Declared}

abbrev pub declared_of : Declared → twice.Declared
declared_of so = record { names = so.names; tags = so.tags; defined = so.defined }
