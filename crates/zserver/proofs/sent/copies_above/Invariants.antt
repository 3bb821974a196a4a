use Rattle.std.proofs.Common.{◌≡◌, take}
use Rattle.zprotocol.specs.server.Table.{entries_above}
use Rattle.zserver.proofs.sent.copies_above.Given as goal

abbrev pub invariant-loop-e : goal.invariant-loop-e
invariant-loop-e l = l.copies.items ≡ entries_above l.n (take l.e-index l.sent)
