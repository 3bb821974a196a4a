use Rattle.std.proofs.Common.{◌≡◌, ◌∙◌, None, sym, subst}
use Rattle.zthreads.specs.Endpoints.{Stands, TreeTaken}
use Rattle.zthreads.proofs.Results.{none_if}
use Rattle.zthreads.proofs.hearing.front_of.Goals as goal

pub returns-then-is_some-clause-taken : goal.returns-then-is_some-clause-taken
returns-then-is_some-clause-taken c s waits h = subst (λ (f : TreeTaken). Stands c.args.endpoint.now s f waits) (sym c.take.ensures.value) h

pub returns-clause-taken : goal.returns-clause-taken
returns-clause-taken c s waits h =
    let none : c.args.front.now ≡ None = none_if c.args.front.now (sym c.is_some.ensures ∙ c.if-is_some.false) in
    c.take-2.ensures.taken s waits (subst (λ (f : TreeTaken). Stands c.args.endpoint.now s f waits) none h)

pub returns-clause-front : goal.returns-clause-front
returns-clause-front c = none_if c.args.front.now (sym c.is_some.ensures ∙ c.if-is_some.false)

pub returns-then-link-links-clause-taken : goal.returns-then-link-links-clause-taken
returns-then-link-links-clause-taken c s waits h =
    let none : c.args.front.now ≡ None = none_if c.args.front.now (sym c.is_some.ensures ∙ c.if-is_some.false) in
    subst (λ (f : TreeTaken). Stands c.args.endpoint.now s f waits) none h

pub returns-then-link-links-clause-front : goal.returns-then-link-links-clause-front
returns-then-link-links-clause-front c = none_if c.args.front.now (sym c.is_some.ensures ∙ c.if-is_some.false)
