use Rattle.std.proofs.Common.{sym, ◌∙◌}
use Rattle.std.specs.FinMap as finite
use Rattle.zcalls.specs.declared.reply.PartReply.TheVariants.{Checked}
use Rattle.zcalls.specs.Part.{check_step}
use Rattle.zcalls.proofs.Tables.{absent-on_version, stale-on_version, fresh-on_version, node_there}
use Rattle.zops.proofs.part.check.Goals as goal

pub returns-in_default-clause-stopped : goal.returns-in_default-clause-stopped
unfolding check_step
returns-in_default-clause-stopped c = absent-on_version c.args.check.now.version _ _ (sym c.in_default.ensures.node)

pub returns-then-has_other_version-clause-stopped : goal.returns-then-has_other_version-clause-stopped
unfolding check_step
returns-then-has_other_version-clause-stopped c =
    let other = sym (c.has_other_version.ensures c.args.check.now.path c.in-Some.ensures.found) ∙ c.if-has_other_version.true in
    stale-on_version c.args.check.now.version _ _ other

pub returns-clause-done : goal.returns-clause-done
unfolding check_step
returns-clause-done c =
    let path = c.args.check.now.path in
    let t = c.args.store.now.tree in
    let other = sym (c.has_other_version.ensures path c.in-Some.ensures.found) ∙ c.if-has_other_version.false in
    let there = node_there (finite.get t.nodes path) (sym c.in-Some.ensures.node) in
    fresh-on_version c.args.check.now.version (finite.get t.nodes path) (λ n. (t, Checked)) there.0 there.1 other
