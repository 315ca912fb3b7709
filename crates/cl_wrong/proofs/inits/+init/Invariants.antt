use Rattle.std.proofs.Common.{◌≡◌, map, drop}
use Rattle.cl_typing.specs.Wrong.{init_fits, all_fit, members_fit}
use Rattle.cl_wrong.proofs.inits.+init.Given as goal

abbrev pub invariant-all_fit-loop-p : goal.invariant-all_fit-loop-p
invariant-all_fit-loop-p l =
    all_fit l.t (map (init_fits l.tags l.names l.is_static) (drop l.p-index l.parts))
    ≡ all_fit l.t (map (init_fits l.tags l.names l.is_static) l.parts)

abbrev pub invariant-members_fit-loop-i : goal.invariant-members_fit-loop-i
invariant-members_fit-loop-i l =
    members_fit (drop l.i l.fields) (map (init_fits l.tags l.names l.is_static) (drop l.i l.parts))
    ≡ members_fit l.fields (map (init_fits l.tags l.names l.is_static) l.parts)
