use Rattle.std.proofs.Common.{◌≡◌, ap}
use Rattle.cl_base.specs.Memory.{Memory}
use Rattle.cl_base.proofs.Files.{pushed}
use Rattle.cl_base.proofs.memory.MemFiles.add.Goals as goal

pub returns-in_ok-push-in-None-clause-ok : goal.returns-in_ok-push-in-None-clause-ok
returns-in_ok-push-in-None-clause-ok c =
    let same : c.self.inside.files.items ≡ c.args.self.now.files = ap (λ (m : Memory). m.files) c.self.view_is in
    rw (c.in_ok-push-in-None.ensures.items, c.in_ok-name-in-None.ensures, c.in_ok-content.ensures, same)
    (pushed c.args.path.now c.args.bytes.now c.args.self.now.files c.in-None.ensures)
