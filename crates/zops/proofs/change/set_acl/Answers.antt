use Rattle.std.proofs.Common.{Ok, ap, sym, ◌∙◌}
use Rattle.std.specs.FinMap as finite
use Rattle.ztree.specs.Tree.{stat_at}
use Rattle.zcalls.specs.declared.change.ChangeReply.TheVariants.{Set}
use Rattle.zcalls.specs.Part.{acl_step, has_other_acl}
use Rattle.zcalls.proofs.Tables.{node_there}
use Rattle.zops.proofs.Acls.{absent-unless_other, stale-unless_other, acl_step-done}
use Rattle.zops.proofs.change.set_acl.Goals as goal

pub returns-in_default-clause-stopped : goal.returns-in_default-clause-stopped
unfolding acl_step
returns-in_default-clause-stopped c = absent-unless_other (has_other_acl c.args.set.now.version) _ _ (sym c.in_default.ensures.node)

pub returns-then-has_other_acl-clause-stopped : goal.returns-then-has_other_acl-clause-stopped
unfolding acl_step
returns-then-has_other_acl-clause-stopped c =
    let other = sym (c.has_other_acl.ensures c.args.set.now.path c.in-Some.ensures.found) ∙ c.if-has_other_acl.true in
    stale-unless_other (has_other_acl c.args.set.now.version) _ _ other

pub returns-clause-done : goal.returns-clause-done
returns-clause-done c =
    let set = c.args.set.now in
    let t = c.args.store.now.tree in
    let fresh = sym (c.has_other_acl.ensures set.path c.in-Some.ensures.found) ∙ c.if-has_other_acl.false in
    let there = node_there (finite.get t.nodes set.path) (sym c.in-Some.ensures.node) in
    let tree = c.put_acl.ensures.tree set.path c.in-Some.ensures.found in
    let still = ap (λ places. finite.get places c.in-Some.id) c.put_acl.ensures.same.0 ∙ c.in-Some.ensures.found in
    let reported = sym (ap (λ u. stat_at u.nodes set.path) tree) ∙ c.in-Some-stat.ensures.stat set.path still in
    acl_step-done t set there.0 c.in-Some-stat.stat there.1 fresh reported ∙ (λ i. Ok (sym tree i, Set c.in-Some-stat.stat))
