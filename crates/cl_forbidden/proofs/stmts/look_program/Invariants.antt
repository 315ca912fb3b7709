use Rattle.std.proofs.Common.{◌≡◌, drop}
use Rattle.std.specs.List.{flat_map}
use Rattle.cl_typing.specs.Tokens.{item_tokens}
use Rattle.cl_forbidden.proofs.stmts.look_program.Given as goal

abbrev pub invariant-loop-item : goal.invariant-loop-item
invariant-loop-item l = flat_map (item_tokens l.sought) (drop l.item-index l.program.items)
    ≡ flat_map (item_tokens l.sought) l.program.items
