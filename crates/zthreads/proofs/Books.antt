-- A timestamp after all that a process knew.
use Rattle.std.proofs.Common.{◌≡◌, ◌<◌, ℕ, max, arith}
use Rattle.std.proofs.Math.Nat.{le-max_left, le-max_right, max-le, max-zero}
use Rattle.zprotocol.specs.declared.traces.stamp.TheConstants.{MAX_STAMP}
use Rattle.zprotocol.specs.traces.Stamps.{next_stamp}
use Rattle.zthreads.proofs.Pending.{is_next}

-- a stamp after all that was known is later than each of that
pub behind : (next known : ℕ) → next ≡ next_stamp known → next < MAX_STAMP → known < next
behind next known is early = let e = is_next next known is early in omega (arith, e)

pub behind_own : (next own learnt : ℕ) → next ≡ next_stamp (max own learnt) → next < MAX_STAMP → max own 0 < next
behind_own next own learnt is early =
    let above = behind next (max own learnt) is early in
    omega (arith, above, le-max_left own learnt, max-zero own)

pub behind_message : (next own learnt message : ℕ) → next ≡ next_stamp (max own (max learnt message)) → next < MAX_STAMP → max own message < next
behind_message next own learnt message is early =
    let above = behind next (max own (max learnt message)) is early in
    let own_is = le-max_left own (max learnt message) in
    let message_is = le-max_right learnt message in
    let all_is = le-max_right own (max learnt message) in
    omega (arith, above, max-le {a = own} {b = message} {k = max own (max learnt message)} own_is (omega (arith, message_is, all_is)))
