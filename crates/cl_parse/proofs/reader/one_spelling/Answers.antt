use Rattle.cl_parse.proofs.Recut.{spelling_cut, cut_spelled}
use Rattle.cl_parse.proofs.reader.one_spelling.Goals as goal

pub returns-clause-cut_back : goal.returns-clause-cut_back
returns-clause-cut_back c = spelling_cut

pub returns-clause-spelled : goal.returns-clause-spelled
returns-clause-spelled c = cut_spelled
