use Rattle.std.proofs.Common.{◌≡◌, arith, ap, ◌∙◌}
use Rattle.zpasswords.proofs.Blocks.{block_more, block_whole, block_with}
use Rattle.zpasswords.proofs.hmac.keyed_block.Goals as goal

pub bytes-preserved : goal.bytes-preserved
bytes-preserved c =
    let within = c.bytes-test.true in
    rw c.bytes.invariant (block_more c.args.pad c.args.key.now c.bytes.i 0 c.told-key (omega (arith, within)))

pub returns : goal.returns
returns c =
    let done = c.bytes.auto.i-end in
    let e : c.bytes.i ≡ 32 = omega (arith, done) in
    c.bytes.invariant ∙ ap (block_with c.args.pad c.args.key.now) e ∙ block_whole c.args.pad c.args.key.now c.told-key
