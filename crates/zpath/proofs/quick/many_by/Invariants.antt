use Rattle.std.proofs.Common.{drop}
use Rattle.zpath.specs.support.Plain.{cut_by}
use Rattle.zpath.proofs.Cuts.{CutsOn}
use Rattle.zpath.proofs.quick.many_by.Given as goal

abbrev pub invariant-loop-len : goal.invariant-loop-len
invariant-loop-len l = CutsOn l.names.items l.begin (drop l.len-index l.lens) l.text (cut_by l.lens l.text)
