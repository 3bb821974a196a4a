use Rattle.zthreads.proofs.Hosted.{idle_both}
use Rattle.zthreads.proofs.Wires.{same_endpoint}
use Rattle.zthreads.proofs.hearing.next_link.Goals as goal

pub loop-preserved : goal.loop-preserved
loop-preserved c =
    let i = c.loop.invariant in
    let a = c.args.host.now in
    let b = c.loop.host in
    let z = c.has_message.new.host in
    (idle_both a b z i.0 c.has_message.ensures.idle, same_endpoint a.endpoint b.endpoint z.endpoint i.1 c.has_message.ensures.same)

pub returns-then-has_message-clause-idle : goal.returns-then-has_message-clause-idle
returns-then-has_message-clause-idle c = idle_both c.args.host.now c.loop.host c.has_message.new.host c.loop.invariant.0 c.has_message.ensures.idle

pub returns-then-has_message-clause-same : goal.returns-then-has_message-clause-same
returns-then-has_message-clause-same c =
    same_endpoint c.args.host.now.endpoint c.loop.host.endpoint c.has_message.new.host.endpoint c.loop.invariant.1 c.has_message.ensures.same
