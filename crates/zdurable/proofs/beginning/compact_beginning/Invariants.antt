use Rattle.std.proofs.Common.{take}
use Rattle.zdurable.proofs.Renewing.{IsWriting, texts_in}
use Rattle.zdurable.proofs.beginning.compact_beginning.Given as goal

abbrev pub invariant-loop-text : goal.invariant-loop-text
invariant-loop-text g l =
    IsWriting g.D.Device.seen g.D.Device.may_leave g.D.Device.beside g.D.Device.moment g.D.Device.left_since l.start l.fn.journal l.journal
    (texts_in (take l.text-index l.texts))
