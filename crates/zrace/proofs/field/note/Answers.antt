use Rattle.std.proofs.Common.{arith}
use Rattle.zrace.proofs.Seen.{one_seen}
use Rattle.zrace.proofs.Shown.{one_recorded}
use Rattle.zrace.proofs.field.note.Goals as goal

pub returns-then-place-len-clause-reported : goal.returns-then-place-len-clause-reported
returns-then-place-len-clause-reported c = λ run reported one.
    one_seen run c.args.versions.now.items c.args.node c.args.version (omega arith) reported one

pub returns-then-place-len-clause-recorded : goal.returns-then-place-len-clause-recorded
returns-then-place-len-clause-recorded c = λ cs recorded one.
    one_recorded cs c.args.versions.now.items c.args.node c.args.version (omega arith) recorded one
