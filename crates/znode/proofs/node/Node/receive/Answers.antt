use Rattle.std.proofs.Common.{sym, ◌∙◌}
use Rattle.std.proofs.lemmas.Result.{err_from_is_err_and}
use Rattle.znode.specs.contracts.node.Node.{the_view}
use Rattle.znode.proofs.node_lemmas.Receiving.{receives}
use Rattle.znode.proofs.node_lemmas.Refusals.{link_fault}
use Rattle.znode.proofs.node.Node.receive.Goals as goal

pub returns-clause-taken : goal.returns-clause-taken
returns-clause-taken c =
    rw (← c.self.view_is) (receives (the_view c.self.inside) c.in-Some.own c.args.from (record { tag = c.args.tag; bytes = c.args.bytes.now })
    c.in_ok-came.came c.in-Some-came.message c.record_came.new.incoming c.hear.new.self (sym c.own.ensures ∙ c.in-Some.is)
    (c.is_master.ensures.no c.if-is_master.false) c.in-Some-came.is c.in_ok-came.ensures.comes c.record_came.ensures.others c.in_ok-hear.ensures)

pub returns-in_err-came-clause-fault : goal.returns-in_err-came-clause-fault
returns-in_err-came-clause-fault c =
    let p = err_from_is_err_and c.from_residual.result c.from_residual.ensures.1 in
    rw (p.1, p.2, ← c.self.view_is)
    (link_fault (the_view c.self.inside) c.in-Some.own c.args.from (record { tag = c.args.tag; bytes = c.args.bytes.now })
    c.in_err-came.field-0.0 (sym c.own.ensures ∙ c.in-Some.is) c.in_err-came.ensures.fault)
