use Rattle.std.proofs.Common.{◌≤◌, length, arith}
use Rattle.zwire.specs.declared.limits.TheConstants.{MAX_FRAME}
use Rattle.zpeers.proofs.Outs.{if_err}
use Rattle.zpeers.proofs.Arrives.{peer_fault}
use Rattle.zpeers.proofs.incoming.take_at.Goals as goal

pub returns-in-Some-clause-fault : goal.returns-in-Some-clause-fault
returns-in-Some-clause-fault c =
    let short : length c.args.bytes.now ≤ MAX_FRAME = omega arith in
    if_err c.take_more.result _ _ c.take_more.ensures.fault (λ fault is.
    peer_fault c.args.own c.args.from (record { tag = c.args.tag; bytes = c.args.bytes.now }) c.args.slot.now fault short
    (is c.args.own c.args.from))
