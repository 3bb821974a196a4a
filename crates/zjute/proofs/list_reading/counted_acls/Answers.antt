use Rattle.std.proofs.Common.{◌∷◌, [], arith, length-append}
use Rattle.std.proofs.lemmas.Result.{err_from_is_err_and}
use Rattle.zcodec.specs.Forms.{read_times}
use Rattle.zjute.specs.Requests.{acl}
use Rattle.zcodec.proofs.Loops.{goes_on, fails, is_done}
use Rattle.zjute.proofs.list_reading.counted_acls.Goals as goal

pub returns-in_err-entry : goal.returns-in_err-entry
returns-in_err-entry c =
    let p = err_from_is_err_and c.from_residual.result c.from_residual.ensures.1 in
    rw (p.1, p.2)
    (fails acl c.loop.acls.items c.args.count c.loop.counter c.loop.rest.now (read_times acl c.args.count c.args.bytes.now) c.in_err-entry.field-0.0 c.loop-test.true c.in_err-entry.ensures c.loop.invariant.so_far)

pub loop-preserved : goal.loop-preserved
loop-preserved c =
    record {
      so_far = rw c.in_ok-push.ensures.items
          (goes_on acl c.loop.acls.items c.args.count c.loop.counter c.loop.rest.now (read_times acl c.args.count c.args.bytes.now) c.in_ok-entry.entry c.in_ok-entry.after.now c.loop-test.true c.in_ok-entry.ensures c.loop.invariant.so_far);
      counted = rw c.in_ok-push.ensures.items (let so_far = c.loop.invariant.counted in omega (arith, so_far, length-append c.loop.acls.items (c.in_ok-entry.entry ∷ [])));
    }

pub returns : goal.returns
returns c =
    rw c.within.ensures
    (is_done acl c.loop.acls.items c.args.count c.loop.counter c.loop.rest.now (read_times acl c.args.count c.args.bytes.now) c.loop-test.false c.loop.invariant.so_far)
