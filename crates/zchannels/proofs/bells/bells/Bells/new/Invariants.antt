use Rattle.std.proofs.Common.{◌≡◌, length}
use Rattle.zchannels.proofs.bells.bells.Bells.new.Given as goal

abbrev pub invariant-loop : goal.invariant-loop
invariant-loop l = length l.words.items ≡ l.counter
