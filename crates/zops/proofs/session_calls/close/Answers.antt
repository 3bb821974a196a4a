use Rattle.std.proofs.Common.{sym, subst, ◌∙◌, ap, arith}
use Rattle.ztree.specs.Tree.{with_next_zxid, parent_of}
use Rattle.zcalls.specs.Bounds.{IsBounded}
use Rattle.zcalls.proofs.Ends.{ended-ends, few_ephemerals}
use Rattle.zcalls.proofs.Timed.{ended_bounded, few_nodes}
use Rattle.zops.proofs.session_calls.close.Goals as goal

pub end_session-requires-clause-counters : goal.end_session-requires-clause-counters
end_session-requires-clause-counters c path n e owned parent found =
    let t = c.args.store.now.tree in
    let here = (c.requires.steady.bounded.counters (parent_of path) parent found).cversion in
    let gone = few_ephemerals t.nodes c.args.session in
    let few = few_nodes t c.keeps_lawful.ensures in
    let room = c.requires.zxid in
    omega (arith, here, gone, few, room)

pub raise-requires : goal.raise-requires
raise-requires c = rw (c.end_session.ensures.tree, (ended-ends c.args.store.now.tree c.args.session).zxid) c.requires.zxid

pub returns-clause-left : goal.returns-clause-left
returns-clause-left c = record {
  bounded = subst IsBounded (sym (c.raise.ensures.tree ∙ ap with_next_zxid c.end_session.ensures.tree))
      (ended_bounded c.args.store.now.tree c.args.session c.requires.steady.bounded c.keeps_lawful.ensures c.requires.zxid);
  given = let same = c.raise.ensures.same.1 in let none = c.end_session.ensures.given in omega (arith, same, none);
}
