-- Numbers that fit all kinds.
use Rattle.std.proofs.Common.{◌≡◌, refl, true, pos}
use Rattle.cl_tree.specs.declared.kinds.IntKind.{IntKind}
use Rattle.cl_tree.specs.declared.kinds.IntKind.TheVariants as int_kind
use Rattle.cl_tree.specs.Arithmetic.{fits, least, beyond, is_signed, width}

pub zero_fits : (kind : IntKind) → fits kind (pos 0) ≡ true
unfolding fits least beyond is_signed width
zero_fits int_kind.I8 = refl
zero_fits int_kind.U8 = refl
zero_fits int_kind.I16 = refl
zero_fits int_kind.U16 = refl
zero_fits int_kind.I32 = refl
zero_fits int_kind.U32 = refl
zero_fits int_kind.Long = refl
zero_fits int_kind.ULong = refl
zero_fits int_kind.LLong = refl
zero_fits int_kind.ULLong = refl
