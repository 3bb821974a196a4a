use Rattle.std.proofs.lemmas.Result.{err_from_is_err_and}
use Rattle.zcodec.specs.Forms.{read_times}
use Rattle.zcodec.proofs.Loops.{goes_on, fails, is_done}
use Rattle.zwire.specs.Replies.{part_reply}
use Rattle.zwire.proofs.list_reading.counted_replies.Goals as goal

pub returns-in_err-reply : goal.returns-in_err-reply
returns-in_err-reply c =
    let p = err_from_is_err_and c.from_residual.result c.from_residual.ensures.1 in
    rw (p.1, p.2)
    (fails part_reply c.loop.replies.items c.args.count c.loop.counter c.loop.rest.now (read_times part_reply c.args.count c.args.bytes.now)
    c.in_err-reply.field-0.0 c.loop-test.true c.in_err-reply.ensures c.loop.invariant)

pub loop-preserved : goal.loop-preserved
loop-preserved c =
    rw c.in_ok-push.ensures.items
    (goes_on part_reply c.loop.replies.items c.args.count c.loop.counter c.loop.rest.now (read_times part_reply c.args.count c.args.bytes.now)
    c.in_ok-reply.reply c.in_ok-reply.after.now c.loop-test.true c.in_ok-reply.ensures c.loop.invariant)

pub returns : goal.returns
returns c = is_done part_reply c.loop.replies.items c.args.count c.loop.counter c.loop.rest.now
    (read_times part_reply c.args.count c.args.bytes.now) c.loop-test.false c.loop.invariant
