use Rattle.std.proofs.Common.{Ok, ap, sym, ◌∙◌, arith}
use Rattle.std.specs.FinMap as finite
use Rattle.ztree.specs.Tree.{stat_at, with_data_at}
use Rattle.zcalls.specs.declared.change.ChangeReply.TheVariants.{Set}
use Rattle.zcalls.specs.Part.{set_step}
use Rattle.zcalls.proofs.Tables.{absent-on_version, stale-on_version, node_there}
use Rattle.zcalls.proofs.Reported.{set_step-done}
use Rattle.zops.proofs.Marks.{mark_steps}
use Rattle.zops.proofs.change.set.Goals as goal

pub returns-in_default-clause-stopped : goal.returns-in_default-clause-stopped
unfolding set_step
returns-in_default-clause-stopped c = absent-on_version c.args.set.now.version _ _ (sym c.in_default.ensures.node)

pub returns-then-has_other_version-clause-stopped : goal.returns-then-has_other_version-clause-stopped
unfolding set_step
returns-then-has_other_version-clause-stopped c =
    let other = sym (c.has_other_version.ensures c.args.set.now.path c.in-Some.ensures.found) ∙ c.if-has_other_version.true in
    stale-on_version c.args.set.now.version _ _ other

pub returns-clause-done : goal.returns-clause-done
returns-clause-done c =
    let set = c.args.set.now in
    let t = c.args.store.now.tree in
    let fresh = sym (c.has_other_version.ensures set.path c.in-Some.ensures.found) ∙ c.if-has_other_version.false in
    let there = node_there (finite.get t.nodes set.path) (sym c.in-Some.ensures.node) in
    let tree = c.in_ok-put_data.ensures.tree set.path c.in-Some.ensures.found ∙ ap (with_data_at t set.path) c.in_ok-clone.ensures.cases in
    let still = ap (λ places. finite.get places c.in-Some.id) c.in_ok-put_data.ensures.same.0 ∙ c.in-Some.ensures.found in
    let reported = sym (ap (λ u. stat_at u.nodes set.path) tree) ∙ c.in-Some-stat.ensures.stat set.path still in
    record {
      step_is = set_step-done t set there.0 c.in-Some-stat.stat there.1 fresh reported ∙ (λ i. Ok (sym tree i, Set c.in-Some-stat.stat));
      given = let same = c.in_ok-put_data.ensures.same.1 in omega (arith, same);
      mark = mark_steps 1 c.args.store.now c.put_data.new.self (omega arith) c.in_ok-put_data.ensures.marked;
    }
