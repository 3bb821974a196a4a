use Rattle.std.proofs.Common.{inl, inr, refl, ◌∙◌}
use Rattle.zpeers.specs.Incoming.{arriving_from}
use Rattle.znode.proofs.node_lemmas.Refusals.{dropped, ended}
use Rattle.znode.proofs.node.record_came.Goals as goal

pub returns-in-Ok-clause-comes : goal.returns-in-Ok-clause-comes
returns-in-Ok-clause-comes c = inl c.in-Ok.ensures.accepted

pub returns-then-ends_node-clause-fault : goal.returns-then-ends_node-clause-fault
returns-then-ends_node-clause-fault c =
    ended c.args.own c.args.from (record { tag = c.args.tag; bytes = c.args.bytes.now }) (arriving_from c.args.incoming.now c.args.from)
    c.in-Err.fault c.in-Err.ensures.fault (c.ends_node.ensures.yes c.if-ends_node.true c.requires)

pub returns-else-ends_node-clause-comes : goal.returns-else-ends_node-clause-comes
returns-else-ends_node-clause-comes c =
    let why = c.ends_node.ensures.no c.if-ends_node.false in
    inr (
      dropped c.args.own why.1.0 c.args.from (record { tag = c.args.tag; bytes = c.args.bytes.now })
          (arriving_from c.args.incoming.now c.args.from) c.in-Err.fault why.0 why.1.1 c.in-Err.ensures.fault,
      c.forget.ensures.none,
      refl,
    )

pub returns-else-ends_node-clause-others : goal.returns-else-ends_node-clause-others
returns-else-ends_node-clause-others c = λ p other. c.forget.ensures.others p other ∙ c.take.ensures.others p other
