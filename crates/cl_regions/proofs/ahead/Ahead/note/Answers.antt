use Rattle.std.proofs.Common.{◌≤◌, length, arith}
use Rattle.cl_regions.specs.Ahead.{ends_ahead}
use Rattle.cl_regions.specs.Roles.{role_of}
use Rattle.cl_regions.proofs.Aheads.{noted, ends_few}
use Rattle.cl_regions.proofs.ahead.Ahead.note.Goals as goal

pub returns : goal.returns
returns c = λ p ps h e l.
    let k : length (ends_ahead ps) ≤ length ps = ends_few ps in
    noted c.args.self.now _ p ps (role_of c.args.role) c.is_regular-regular.result h e
    (c.is_regular-regular.ensures ps h) (c.in_ok-pass_back.ensures (ends_ahead ps) h.ends (omega arith))
    c.next_before-self.ensures c.in_ok-push.ensures.items
