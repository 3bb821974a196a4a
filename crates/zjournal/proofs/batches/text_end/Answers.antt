use Rattle.std.proofs.Common.{arith}
use Rattle.zjournal.proofs.Scan.{reads_on}
use Rattle.zjournal.proofs.batches.text_end.Goals as goal

pub loop-at-preserved : goal.loop-at-preserved
loop-at-preserved c =
    let within = c.loop-at-test.true in
    record {
      within = omega (arith, within);
      reads = reads_on c.args.bytes.now c.args.start c.loop-at.at c.loop-at.invariant.reads
          within c.if-bytes-at-eq0.false;
    }
