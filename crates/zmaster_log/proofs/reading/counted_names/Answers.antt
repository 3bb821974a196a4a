use Rattle.std.proofs.lemmas.Result.{err_from_is_err_and}
use Rattle.zcodec.specs.Forms.{read_times}
use Rattle.zcodec.proofs.Loops.{goes_on, fails, is_done}
use Rattle.zmaster_log.specs.Bytes.{node}
use Rattle.zmaster_log.proofs.reading.counted_names.Goals as goal

pub returns-in_err-name : goal.returns-in_err-name
returns-in_err-name c =
    let p = err_from_is_err_and c.from_residual.result c.from_residual.ensures.1 in
    rw (p.1, p.2)
    (fails node c.loop.names.items c.args.count c.loop.counter c.loop.rest.now (read_times node c.args.count c.args.bytes.now)
    c.in_err-name.field-0.0 c.loop-test.true c.in_err-name.ensures c.loop.invariant)

pub loop-preserved : goal.loop-preserved
loop-preserved c =
    rw c.in_ok-push.ensures.items
    (goes_on node c.loop.names.items c.args.count c.loop.counter c.loop.rest.now (read_times node c.args.count c.args.bytes.now)
    c.in_ok-name.name c.in_ok-name.after.now c.loop-test.true c.in_ok-name.ensures c.loop.invariant)

pub returns : goal.returns
returns c = is_done node c.loop.names.items c.args.count c.loop.counter c.loop.rest.now (read_times node c.args.count c.args.bytes.now)
    c.loop-test.false c.loop.invariant
