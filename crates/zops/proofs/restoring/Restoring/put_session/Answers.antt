use Rattle.zops.proofs.Restored.{restoring_session, granted}
use Rattle.zops.proofs.restoring.Restoring.put_session.Goals as goal

pub invariant_of-self : goal.invariant_of-self
invariant_of-self c =
    let s = c.self.inside in
    let put = c.put_session in
    restoring_session s.store put.new.self s.applied c.args.id c.args.session put.result c.self.invariant
    (granted s.store.tree c.args.id c.args.session c.number.result c.number-2.result c.zxid.result c.limits.result
    c.number.ensures c.number-2.ensures c.zxid.ensures c.limits.ensures c.if-number.false
    c.if-session-lt-MIN_TIMEOUT.false c.if-session-limits.false)
    put.ensures.tree put.ensures.given put.ensures.err
