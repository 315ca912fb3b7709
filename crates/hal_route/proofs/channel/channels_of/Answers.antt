use Rattle.std.proofs.Common.{ℕ, ◌+◌, ◌++◌, [], ◌∷◌, length, List, ap, sym, ◌∙◌, arith}
use Rattle.std.proofs.lemmas.List.{take_all}
use Rattle.hal_route.specs.declared.channel.Channel.{Channel}
use Rattle.hal_route.specs.Hal.{channel_of}
use Rattle.hal_route.proofs.Channels.{take_channel, mux_of-next, mux_of-zero, one_pair_le, row_at, last_row, length-channels_of}
use Rattle.hal_route.proofs.channel.channels_of.Goals as goal
use Rattle.hal_route.proofs.channel.channels_of.Goals.{in-Some, in_default}

pub loop-k-init : goal.loop-k-init
loop-k-init c = (c.in_ok-channels.ensures.items, mux_of-zero c.args.rows.now, omega arith)

pub loop-k-preserved : goal.loop-k-preserved
loop-k-preserved c =
    let here = row_at _ _ _ c.loop-k-test.true c.index-rows-k.is in
    let more = take_channel _ _ _ _ here (c.loop-k.invariant.1 c.loop-k-test.true) in
    let items = c.in_ok-push.ensures.items ∙ ap (λ (cs : List Channel). cs ++ channel_of c.index-rows-k.result c.loop-k.mux ∷ []) c.loop-k.invariant.0 ∙ sym more in
    elim c.match-at.branch [
      | in-Some w ↦
          let grown = one_pair_le c.index-rows-k.result w.in-Some.next.now in
          (items, λ _. w.mux-is ∙ ap (λ (n : ℕ). c.loop-k.mux + n) w.one_pair-mux.ensures ∙ mux_of-next _ _ _ _ _ here w.in-Some.ensures (c.loop-k.invariant.1 c.loop-k-test.true), omega (arith, w.one_pair-mux.ensures, grown))
      | in_default w ↦ (items, λ within. absurd (last_row _ _ w.in_default.ensures within), omega arith)
    ]

pub overflow_add-mux : goal.overflow_add-mux
overflow_add-mux c = omega (arith, c.one_pair-mux.ensures, one_pair_le c.index-rows-k.result c.in-Some.next.now)

pub returns-clause-channels : goal.returns-clause-channels
returns-clause-channels c = c.loop-k.invariant.0 ∙ take_all _ _ (rw length-channels_of (omega arith))

pub returns-clause-count : goal.returns-clause-count
returns-clause-count c = ap length (returns-clause-channels c) ∙ length-channels_of _
