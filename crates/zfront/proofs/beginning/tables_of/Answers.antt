use Rattle.std.proofs.Common.{ap}
use Rattle.zfront.proofs.Seating.{sessions_end, sessions_more, with_rest}
use Rattle.zfront.proofs.beginning.tables_of.Goals as goal

pub loop-session-init : goal.loop-session-init
loop-session-init c = ap (with_rest c.args.sessions.now 0) c.new-tables.ensures

pub loop-session-preserved : goal.loop-session-preserved
loop-session-preserved c =
    sessions_more c.args.limits c.args.sessions.now c.loop-session.session-index c.session-item.result c.loop-session.tables c.restore.new.self
    c.loop-session-test.true c.session-item.is c.in_ok-restore.ensures c.loop-session.invariant

pub returns : goal.returns
returns c = sessions_end c.args.limits c.args.sessions.now c.loop-session.session-index c.loop-session.tables c.loop-session-test.false c.loop-session.invariant
