use Rattle.std.proofs.Common.{◌∙◌, subst}
use Rattle.std.proofs.lemmas.List.{take_all}
use Rattle.std.specs.List.{AllByRecursion}
use Rattle.zstore.specs.support.Timeouts.{HasTimeoutWithin}
use Rattle.zstore.proofs.parts.Fitting.{all_within}
use Rattle.zstore.proofs.store.Store.are_timeouts_within.Goals as goal

pub returns-clause-within : goal.returns-clause-within
returns-clause-within c =
    let sessions = c.args.self.now.tree.sessions in
    let most = c.args.limits.timeout in
    all_within sessions most
    (subst (AllByRecursion (HasTimeoutWithin sessions most))
    (take_all c.loop-id.id-index c.deref-id-items.result.now c.loop-id-test.false
    ∙ c.loop-id.invariant.all) c.loop-id.invariant.within)
