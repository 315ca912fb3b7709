use Rattle.cl_tree.proofs.Ranges.{unsigned_cast, unsigned_product_fits, unsigned_product_is}
use Rattle.cl_tree.proofs.arithmetic.multiply_unsigned.Goals as goal

pub overflow_cast-product : goal.overflow_cast-product
overflow_cast-product c = unsigned_cast c.args.kind c.args.a c.ranges.a c.requires.unsigned c.requires.left

pub overflow_cast-product-2 : goal.overflow_cast-product-2
overflow_cast-product-2 c = unsigned_cast c.args.kind c.args.b c.ranges.b c.requires.unsigned c.requires.right

pub overflow_mul-product : goal.overflow_mul-product
overflow_mul-product c = unsigned_product_fits c.args.kind c.args.a c.args.b c.ranges.a c.ranges.b c.requires.left c.requires.right

pub returns : goal.returns
returns c =
    unsigned_product_is c.args.kind c.args.a c.args.b c.modulus.result c.ranges.a c.ranges.b record { sfits = c.modulus.type_inv } c.requires.unsigned c.requires.left c.requires.right c.modulus.ensures
