use Rattle.std.proofs.Common.{◌++◌, ◌∷◌, [], ℕ, List, subst, ap, ◌∙◌}
use Rattle.cle_ways.specs.declared.ways.Holder.{Holder}
use Rattle.cle_table.specs.Numbers.{number_of, Puts}
use Rattle.cle_table.specs.declared.nodes.Nodes.{Nodes}
use Rattle.cle_table.proofs.Numbered.{numbered_more, has_more}
use Rattle.cle_table.proofs.nodes.Nodes.add.Goals as goal

pub returns-clause-numbered : goal.returns-clause-numbered
returns-clause-numbered c =
    let s : Nodes = c.args.self.now in
    let t : Nodes = record { objects = c.put.new.self.objects; results = c.put.new.self.results; locals = c.put.new.self.locals; holders = c.push.new.self } in
    numbered_more s t c.args.x c.requires (subst (λ (n : ℕ). Puts (number_of s) (number_of t) c.args.x n) c.len-number.ensures c.in_ok-put.ensures.number)
    (c.in_ok-push.ensures.items ∙ ap (λ (hs : List Holder). hs ++ c.args.x ∷ []) c.in_ok-put.ensures.holders)

pub returns-clause-kept : goal.returns-clause-kept
returns-clause-kept c =
    let s : Nodes = c.args.self.now in
    let t : Nodes = record { objects = c.put.new.self.objects; results = c.put.new.self.results; locals = c.put.new.self.locals; holders = c.push.new.self } in
    has_more s t c.args.x c.len-number.result c.in_ok-put.ensures.number
