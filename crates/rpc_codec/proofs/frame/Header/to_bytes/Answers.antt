use Rattle.std.proofs.Common.{rules, ◌≡◌, ◌%◌, ◌<◌, refl}
use Rattle.std.proofs.Math.Nat.{mod-eq_of_lt}
use Rattle.rpc_codec.specs.Frames.{header_bytes}
use Rattle.rpc_codec.proofs.frame.Header.to_bytes.Goals as goal

pub returns : goal.returns
unfolding header_bytes
returns c =
    let small : c.args.self.kind < 256 = search rules in
    let kind : c.args.self.kind % 256 ≡ c.args.self.kind = mod-eq_of_lt small in
    rw (c.write_u32-4.ensures, c.write_u64.ensures, c.write_u32-3.ensures, c.write_u32-2.ensures, c.write_u32.ensures, kind) refl
