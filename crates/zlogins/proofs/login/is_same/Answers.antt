use Rattle.std.proofs.Common.{arith, ◌∙◌}
use Rattle.zlogins.proofs.Differences.{other_length, reported_all, reported_more}
use Rattle.zlogins.proofs.login.is_same.Goals as goal

pub returns-then-given-own : goal.returns-then-given-own
returns-then-given-own c = other_length c.args.given.now c.args.own.now c.if-given-own.true

pub bytes-preserved : goal.bytes-preserved
bytes-preserved c =
    let within = c.bytes-test.true in
    let long = c.if-given-own.false in
    reported_more c.bytes.difference c.args.given.now c.args.own.now c.bytes.i 0 0 (omega (arith, within, long)) within
    ∙ c.bytes.invariant

pub returns : goal.returns
returns c =
    let end = c.bytes-test.false in
    let long = c.if-given-own.false in
    reported_all c.bytes.difference c.args.given.now c.args.own.now c.bytes.i (omega (arith, end, long)) end
    ∙ c.bytes.invariant
