use Rattle.std.proofs.Common.{length, ap, refl, ◌∙◌}
use Rattle.std.proofs.lemmas.Result.{err_from_is_err_and}
use Rattle.zcodec.proofs.Bytes.{done}
use Rattle.zjute.specs.Shapes.{read_until}
use Rattle.zjute.specs.Parts.{looks, look_or_end}
use Rattle.zjute.proofs.Loops.{until_on, until_done, until_fail, until_short}
use Rattle.zjute.proofs.part_reading.looks_of.Goals as goal

pub returns-in_err-look : goal.returns-in_err-look
unfolding looks
returns-in_err-look c =
    let p = err_from_is_err_and c.from_residual.result c.from_residual.ensures.1 in
    rw (p.1, p.2)
    (until_fail look_or_end c.in_err-look.field-0.0 c.loop.looks.items (length c.args.bytes.now) c.loop.counter c.loop.rest.now (read_until look_or_end (length c.args.bytes.now) c.args.bytes.now) c.loop-test.true c.in_err-look.ensures c.loop.invariant.so_far)

pub returns-in-None : goal.returns-in-None
unfolding looks
returns-in-None c =
    let total = read_until look_or_end (length c.args.bytes.now) c.args.bytes.now in
    rw c.new.ensures
    (until_done look_or_end c.loop.looks.items (length c.args.bytes.now) c.loop.counter c.loop.rest.now c.in_ok-look.after.now total c.loop-test.true
    (c.in_ok-look.ensures ∙ ap (λ o. done (o, c.in_ok-look.after.now)) c.in-None.is) c.loop.invariant.so_far)

pub loop-preserved : goal.loop-preserved
loop-preserved c =
    let total = read_until look_or_end (length c.args.bytes.now) c.args.bytes.now in
    record {
      so_far = rw c.in_ok-push-in-Some.ensures.items
          (until_on look_or_end c.loop.looks.items (length c.args.bytes.now) c.loop.counter c.loop.rest.now c.in-Some.look c.in_ok-look.after.now total c.loop-test.true
          (c.in_ok-look.ensures ∙ ap (λ o. done (o, c.in_ok-look.after.now)) c.in-Some.is) c.loop.invariant.so_far);
      last = refl;
    }

pub returns : goal.returns
unfolding looks
returns c =
    until_short look_or_end c.loop.looks.items (length c.args.bytes.now) c.loop.counter c.loop.rest.now (read_until look_or_end (length c.args.bytes.now) c.args.bytes.now) c.loop-test.false c.loop.invariant.so_far
