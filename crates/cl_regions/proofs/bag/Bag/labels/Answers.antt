use Rattle.std.proofs.Common.{ap, option_map, false, true, ◌≡◌, arith}
use Rattle.std.specs.String.{string_bytes}
use Rattle.cl_regions.specs.declared.bag.Held.{Held}
use Rattle.cl_regions.proofs.Bags.{lone, nothing, no_entries, none_there}
use Rattle.cl_regions.proofs.bag.Bag.labels.Goals as goal

pub returns-in-Some : goal.returns-in-Some
returns-in-Some c = λ ws h. lone c.args.self.now ws (string_bytes c.in-Some.field-0-0.now) c.in-Some.held.now.name.now
    c.in-Some.held.now.count h (omega arith)
    (ap (option_map (λ (x : Held). (x.name.now, x.count))) c.in-Some.ensures.value)

pub returns-in-None : goal.returns-in-None
returns-in-None c = λ ws h. nothing c.args.self.now ws h (omega arith)
    (none_there c.args.self.now (no_entries c.args.self.now.held.entries (λ l. let f : false ≡ true = c.in-None.ensures.variant.1 l in cc)))
