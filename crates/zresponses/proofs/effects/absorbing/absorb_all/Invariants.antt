use Rattle.std.proofs.Common.{◌≡◌, drop}
use Rattle.zresponses.specs.effects.Replying.{absorbed_all}
use Rattle.zresponses.proofs.effects.absorbing.absorb_all.Given as goal

abbrev pub invariant-loop-place : goal.invariant-loop-place
invariant-loop-place l =
    absorbed_all (drop l.place l.calls) (drop l.place l.replies) l.tables ≡ absorbed_all l.calls l.replies l.initial.tables
