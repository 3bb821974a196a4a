use Rattle.std.proofs.Common.{◌∷◌, [], arith, length-append}
use Rattle.std.proofs.lemmas.Result.{err_from_is_err_and}
use Rattle.zcodec.specs.Forms.{read_times}
use Rattle.zcodec.proofs.Loops.{goes_on, fails, is_done}
use Rattle.zwire.specs.records.Calls.{part}
use Rattle.zwire.proofs.records.call_reading.counted_parts.Goals as goal

pub returns-in_err-part-clause-parts : goal.returns-in_err-part-clause-parts
returns-in_err-part-clause-parts c =
    let p = err_from_is_err_and c.from_residual.result c.from_residual.ensures.1 in
    rw (p.1, p.2)
    (fails part c.loop.parts.items c.args.count c.loop.counter c.loop.rest.now (read_times part c.args.count c.args.bytes.now) c.in_err-part.field-0.0 c.loop-test.true c.in_err-part.ensures c.loop.invariant.so_far)

pub loop-preserved : goal.loop-preserved
loop-preserved c =
    record {
      so_far = rw c.in_ok-push.ensures.items
          (goes_on part c.loop.parts.items c.args.count c.loop.counter c.loop.rest.now (read_times part c.args.count c.args.bytes.now) c.in_ok-part.part c.in_ok-part.after.now c.loop-test.true c.in_ok-part.ensures c.loop.invariant.so_far);
      counted = rw c.in_ok-push.ensures.items (let so_far = c.loop.invariant.counted in omega (arith, so_far, length-append c.loop.parts.items (c.in_ok-part.part ∷ [])));
    }

pub returns-clause-parts : goal.returns-clause-parts
returns-clause-parts c = is_done part c.loop.parts.items c.args.count c.loop.counter c.loop.rest.now (read_times part c.args.count c.args.bytes.now) c.loop-test.false c.loop.invariant.so_far
