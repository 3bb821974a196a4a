use Rattle.std.proofs.Common.{◌≡◌, drop}
use Rattle.zresponses.specs.effects.Watching.{earlier, first_fault, granted_all}
use Rattle.zresponses.proofs.effects.watching.grant_all.Given as goal

abbrev pub invariant-loop-wish : goal.invariant-loop-wish
invariant-loop-wish l =
    record {
      granted : granted_all l.connection (drop l.wish-index l.wishes) l.tables ≡ granted_all l.connection l.wishes l.initial.tables;
      fault : earlier l.first (first_fault l.connection (drop l.wish-index l.wishes) l.tables) ≡ first_fault l.connection l.wishes l.initial.tables;
    }
