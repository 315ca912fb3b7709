use Rattle.std.proofs.Common.{◌≡◌, ℕ, List, Some, bytes_eq, ap, ◌∙◌, arith}
use Rattle.std.specs.Map.{update}
use Rattle.cl_scope.specs.Table.{held_at, place_at, map_of}
use Rattle.cl_scope.proofs.Spread.{put_at, same_at, update_on, on_ok, on_err}
use Rattle.cl_scope.proofs.latest.Latest.set.Goals as goal

pub returns-clause-ok : goal.returns-clause-ok
returns-clause-ok c = on_ok c.set.result _ _
    (λ (u : (r : List ℕ) → held_at c.set.new.self r ≡ update bytes_eq (held_at c.index_mut.result.now) c.args.name.now (Some c.args.place) r) q.
    put_at c.open.new.self.maps.items c.map_of-map.result c.index_mut.result.now c.set.new.self (omega (arith, c.map_of-map.ensures.below, c.in_ok-open.ensures.all)) c.index_mut.ensures.value
    c.args.name.now (Some c.args.place) (c.map_of-map.ensures.map ∙ ap map_of (c.as_bytes.ensures.value ∙ c.text.ensures)) u q
    ∙ update_on (place_at c.open.new.self) (place_at c.args.self.now) c.args.name.now (Some c.args.place) c.in_ok-open.ensures.same q)
    c.set.ensures.ok

pub returns-clause-err : goal.returns-clause-err
returns-clause-err c = on_err c.set.result _ _
    (λ (u : (r : List ℕ) → held_at c.set.new.self r ≡ held_at c.index_mut.result.now r) q.
    same_at c.open.new.self.maps.items c.map_of-map.result c.index_mut.result.now c.set.new.self (omega (arith, c.map_of-map.ensures.below, c.in_ok-open.ensures.all)) c.index_mut.ensures.value u q
    ∙ c.in_ok-open.ensures.same q)
    c.set.ensures.err
