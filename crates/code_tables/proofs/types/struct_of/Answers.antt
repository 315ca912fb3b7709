use Rattle.std.proofs.Common.{◌≡◌, rules, sym, ◌∙◌, true, false, bytes_eq}
use Rattle.cl_mean.specs.Shape.{structs_of}
use Rattle.rpc_codec.proofs.Structs.{struct_found, other_struct, no_struct}
use Rattle.code_tables.proofs.types.struct_of.Goals as goal

pub loop-place-init : goal.loop-place-init
unfolding structs_of
loop-place-init c = search rules

pub loop-place-preserved-in_default : goal.loop-place-preserved-in_default
loop-place-preserved-in_default c = no_struct _ _ _ c.index-items-place.result c.loop-place-test.true (rw (sym c.index-items-place.is) c.in_default.not-Struct) c.loop-place.invariant

pub returns-then-eq : goal.returns-then-eq
returns-then-eq c =
    let same : bytes_eq c.in-Struct.name c.args.tag.now ≡ true = search rules in
    rw c.as_slice.ensures (struct_found _ _ _ _ _ _ _ c.loop-place-test.true (sym c.index-items-place.is ∙ c.in-Struct.is) same c.loop-place.invariant)

pub loop-place-preserved : goal.loop-place-preserved
loop-place-preserved c =
    let other : bytes_eq c.in-Struct.name c.args.tag.now ≡ false = search rules in
    other_struct _ _ _ _ _ _ _ c.loop-place-test.true (sym c.index-items-place.is ∙ c.in-Struct.is) other c.loop-place.invariant
