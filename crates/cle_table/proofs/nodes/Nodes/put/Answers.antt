use Rattle.std.proofs.Common.{refl, subst, sym}
use Rattle.cle_ways.specs.declared.ways.Holder.{Holder}
use Rattle.cle_table.specs.Numbers.{number_of, Puts}
use Rattle.cle_table.specs.declared.nodes.Nodes.{Nodes}
use Rattle.cle_table.proofs.Puts.{object_put, local_put, result_put, on_ok}
use Rattle.cle_table.proofs.nodes.Nodes.put.Goals as goal

pub returns-in-Object-clause-number : goal.returns-in-Object-clause-number
returns-in-Object-clause-number c =
    let s : Nodes = c.args.self.now in
    let t : Nodes = record { objects = c.put.new.self; results = s.results; locals = s.locals; holders = s.holders } in
    on_ok c.put.result _ _ (λ p. subst (λ (x : Holder). Puts (number_of s) (number_of t) x c.args.number) (sym c.in-Object.is) (object_put s t c.args.number c.in-Object.k refl refl p)) c.put.ensures

pub returns-in-Local-clause-number : goal.returns-in-Local-clause-number
returns-in-Local-clause-number c =
    let s : Nodes = c.args.self.now in
    let t : Nodes = record { objects = s.objects; results = s.results; locals = c.put-in-Local.new.self; holders = s.holders } in
    on_ok c.put-in-Local.result _ _ (λ p. subst (λ (x : Holder). Puts (number_of s) (number_of t) x c.args.number) (sym c.in-Local.is) (local_put s t c.args.number c.in-Local.f c.in-Local.k refl refl p)) c.put-in-Local.ensures

pub returns-in-Result-clause-number : goal.returns-in-Result-clause-number
returns-in-Result-clause-number c =
    let s : Nodes = c.args.self.now in
    let t : Nodes = record { objects = s.objects; results = c.put-in-Result.new.self; locals = s.locals; holders = s.holders } in
    on_ok c.put-in-Result.result _ _ (λ p. subst (λ (x : Holder). Puts (number_of s) (number_of t) x c.args.number) (sym c.in-Result.is) (result_put s t c.args.number c.in-Result.f refl refl p)) c.put-in-Result.ensures
