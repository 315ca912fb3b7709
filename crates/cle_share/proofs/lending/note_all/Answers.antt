use Rattle.std.proofs.Common.{◌&&◌, sym, ap, ◌∙◌, arith, add-one, suc, drop, map, List}
use Rattle.std.proofs.lemmas.List.{length-map}
use Rattle.cle_share.specs.Bearings.{Bearing, all_lend, bearings, flag_at}
use Rattle.cle_share.specs.Signatures.{noted_at}
use Rattle.cle_share.proofs.Flags.{noted, next}
use Rattle.cle_share.proofs.lending.note_all.Goals as goal

pub loop-bearing-preserved : goal.loop-bearing-preserved
loop-bearing-preserved c = record {
  each = λ k. rw (add-one c.loop-bearing.bearing-index)
      (noted (map (λ row. row.items) c.args.rows.now) (noted_at c.args.signatures.now) c.loop-bearing.flags c.note.new.flags
      (record { function = c.bearing-item.result.function.now; label = c.bearing-item.result.label; line = c.bearing-item.result.line }) (bearings (drop (suc c.loop-bearing.bearing-index) c.args.all.now)) c.lends.result
      c.lends.ensures c.note.ensures.kept c.note.ensures.cleared (c.loop-bearing.invariant.long ∙ sym (length-map c.args.rows.now _)) k
      ∙ ap (λ (bs : List Bearing). flag_at c.loop-bearing.flags k && all_lend (map (λ row. row.items) c.args.rows.now) (noted_at c.args.signatures.now) k bs)
      (sym (next c.args.all.now c.loop-bearing.bearing-index c.bearing-item.result (omega arith) c.bearing-item.is))
      ∙ c.loop-bearing.invariant.each k);
  long = c.note.ensures.long ∙ c.loop-bearing.invariant.long;
}
