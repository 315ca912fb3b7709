use Rattle.std.proofs.Common.{◌≡◌, None, refl, subst, Option}
use Rattle.guard_places.specs.declared.inside.Inner.{Inner}
use Rattle.guard_places.specs.Tables.{IsInner}
use Rattle.guard_places.proofs.Inners.{is_none, none_many, some_many}
use Rattle.guard_places.proofs.inside.many.Goals as goal

pub returns-in_default : goal.returns-in_default
returns-in_default c = λ items element h.
    let none : c.args.inner ≡ None = is_none c.args.inner c.in_default.not-Some in
    none_many items element c.args.size (subst (λ (o : Option Inner). IsInner items o element) none h)

pub returns : goal.returns
returns c = λ items element h.
    some_many items element c.in-Some.one _ c.args.size refl c.in-Some-checked_mul.ensures.1 (subst (λ (o : Option Inner). IsInner items o element) c.in-Some.is h)
