use Rattle.std.proofs.Common.{sym}
use Rattle.rpc_codec.proofs.Structs.{members_more}
use Rattle.rpc_codec.proofs.leaves.+leaves.Goals as goal

pub push_struct-loop-declaration-preserved : goal.push_struct-loop-declaration-preserved
push_struct-loop-declaration-preserved c c' = members_more _ _ _ _ _ c'.declaration-item.result _ _ _ c'.loop-declaration-test.true (sym c'.declaration-item.is) (rw c'.as_slice.ensures at c'.in_ok-push_all.ensures) c'.loop-declaration.invariant
