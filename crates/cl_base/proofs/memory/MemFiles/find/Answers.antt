use Rattle.cl_base.proofs.Files.{found}
use Rattle.cl_base.proofs.memory.MemFiles.find.Goals as goal

pub returns : goal.returns
returns c = found c.args.path.now c.args.self.now.files c.position.result c.position.ensures
