use Rattle.std.proofs.Common.{◌≡◌, map, length, true, false, nat_le, arith}
use Rattle.std.proofs.lemmas.Bool.Decides.{nat_tests}
use Rattle.std.proofs.lemmas.List.{length-map}
use Rattle.serde_json.specs.View.{view}
use Rattle.cle_text.proofs.Arrays as parts
use Rattle.cle_text.proofs.definition.few_parts.Goals as goal

pub returns-then-entries-gt32 : goal.returns-then-entries-gt32
returns-then-entries-gt32 c =
    let e : nat_le (length (map view c.in_ok-entries.entries.now)) 32 ≡ false = rw length-map (grind (arith, nat_tests)) in
    parts.many_parts (view c.args.list.now) (map view c.in_ok-entries.entries.now) c.in_ok-entries.ensures e

pub returns : goal.returns
returns c =
    let e : nat_le (length (map view c.in_ok-entries.entries.now)) 32 ≡ true = rw length-map (grind (arith, nat_tests)) in
    parts.few_parts (view c.args.list.now) (map view c.in_ok-entries.entries.now) c.in_ok-entries.ensures e
