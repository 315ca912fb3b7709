use Rattle.std.proofs.Common.{◌≡◌, ◌+◌, ◌≤◌, ◌<◌, length, take}
use Rattle.cl_mean.specs.Journal.{mux_of}
use Rattle.hal_route.specs.Hal.{channels_of}
use Rattle.hal_route.proofs.channel.channels_of.Given as goal

abbrev pub invariant-loop-k : goal.invariant-loop-k
invariant-loop-k l =
    (l.channels.items ≡ take l.k (channels_of l.rows)) × (l.k < length l.rows → l.mux ≡ mux_of l.rows l.k) × (l.mux ≤ l.k + 1)
