use Rattle.std.proofs.Common.{◌*◌, ap, ◌∙◌}
use Rattle.cl_rows.specs.Capped.{capped}
use Rattle.cl_rows.proofs.Sums.{product_is}
use Rattle.cl_rows.proofs.bytes.elements.Goals as goal

pub returns : goal.returns
returns c = λ e h. c.product.ensures ∙ ap (λ m. capped (capped c.args.n * m)) h ∙ product_is e c.args.n
