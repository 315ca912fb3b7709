-- What leaving a `for` leaves.
use Rattle.std.proofs.Common.{◌≡◌, ◌-◌, length, drop, Option, Some, None}
use Rattle.cl_typing.specs.Scope.{Env, Scoped}
use Rattle.cl_typing.specs.Unknown.{env_behind}
use Rattle.cl_scope.proofs.Behind.{extends_self, left}

pub left_head : (s : Option Scoped) (env : Env) → drop (length (env_behind s env) - length env) (env_behind s env) ≡ env
left_head None env = (extends_self env).left
left_head (Some s) env = left s.declares env
