use Rattle.std.proofs.Common.{◌≡◌, drop}
use Rattle.std.specs.List.{flat_map}
use Rattle.cl_typing.specs.Tokens.{declarator_tokens}
use Rattle.cl_forbidden.proofs.stmts.look_names.Given as goal

abbrev pub invariant-loop-d : goal.invariant-loop-d
invariant-loop-d l =
    flat_map (declarator_tokens l.sought) (drop l.d-index l.ds) ≡ flat_map (declarator_tokens l.sought) l.ds
