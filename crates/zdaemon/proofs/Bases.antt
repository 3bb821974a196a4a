-- A later start tells greater zxids.
use Rattle.std.proofs.Common.{◌≡◌, ◌+◌, ◌*◌, ◌<◌, ◌^◌, ℕ, arith}
use Rattle.std.proofs.lemmas.Grind.{common_steps}
use Rattle.zresponses.proofs.Bases.{long_is}
use Rattle.zdaemon.specs.Bases.{base_at, LaterStartsTellMore}

-- the base of a time that counts
base_is : (now : ℕ) → now < 2 ^ 42 → base_at now ≡ now * 2 ^ 20
base_is now small = grind (arith, common_steps)

pub later_starts_tell_more : LaterStartsTellMore
later_starts_tell_more before later last zxid first small few low =
    rw (base_is before (omega arith)) (rw (base_is later small) (rw (long_is (before * 2 ^ 20 + last) (omega arith)) (rw (long_is (later * 2 ^ 20 + zxid) (omega arith)) (grind (arith, common_steps)))))
