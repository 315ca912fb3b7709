use Rattle.std.proofs.Common.{refl}
use Rattle.cl_mean.specs.Journal.{frame_bytes}
use Rattle.rpc_codec.specs.Frames.{header_bytes}
use Rattle.rpc_codec.proofs.laws.frame_is_header_and_payload.Goals as goal

pub returns : goal.returns
unfolding frame_bytes header_bytes
returns c mux typ turn code payload = refl
