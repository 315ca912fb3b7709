use Rattle.std.proofs.Common.{List, ℕ, ap, ◌∙◌, arith}
use Rattle.cl_scope.specs.Table.{map_of}
use Rattle.cl_scope.proofs.Spread.{put_at, nothing_past, not_there}
use Rattle.cl_scope.proofs.latest.Latest.restore.Goals as goal

pub returns-then-map-len : goal.returns-then-map-len
returns-then-map-len c = λ (q : List ℕ).
    put_at c.args.self.now.maps.items c.map_of-map.result c.index_mut.result.now c.restore.new.self (omega (arith, c.if-map-len.true, c.len.ensures)) c.index_mut.ensures.value
    c.args.name.now c.args.hidden (c.map_of-map.ensures.map ∙ ap map_of (c.as_bytes.ensures.value ∙ c.text.ensures)) c.restore.ensures q

pub returns-else-map-len : goal.returns-else-map-len
returns-else-map-len c = λ (q : List ℕ).
    let past = nothing_past c.args.self.now.maps.items c.args.name.now (omega (arith, c.if-map-len.false, c.len.ensures, c.map_of-map.ensures.map, ap map_of (c.as_bytes.ensures.value ∙ c.text.ensures))) in
    absurd (not_there _ past c.requires)
