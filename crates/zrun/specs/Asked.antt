-- What a clause says of a call that is sent again until its reply comes.
use Rattle.std.specs.Prelude.{◌≡◌, ◌<◌, ◌⊎◌, ℕ, zero, suc, true}
use Rattle.zcalls.specs.declared.call.Call.{Call}
use Rattle.zcalls.specs.declared.reply.Reply.{Reply}
use Rattle.zthreads.specs.declared.caller.Caller.{Caller}
use Rattle.zthreads.specs.Callers.{Retried, SameCaller}
use Rattle.zrun.specs.declared.asking.TheConstants.{TURNS}
use Rattle.zrun.specs.declared.client.Client.{Client}
use Rattle.zrun.specs.declared.faults.Unanswered.{Unanswered}
use Rattle.zrun.specs.declared.faults.Unanswered.TheVariants.{NoAnswer}
use Rattle.zrun.specs.declared.patience.Patience.{Patience}
use Rattle.zrun.specs.Clients.{BeganThen, caller_of, TurnedInVain, TurnedUntil}

-- it sent the call again, or had no memory for that
abbrev pub SentAgain : Caller → Caller → Type 0
SentAgain a b = Retried a b true ⊎ SameCaller a b

-- n times it sent the call again and called `turn` `turns` times, and no call returned a reply
abbrev pub InsistedInVain : ℕ → ℕ → Caller → Caller → Type 0
InsistedInVain turns zero a b = b ≡ a
InsistedInVain turns (suc n) a b =
    (m sent : Caller) × InsistedInVain turns n a m × SentAgain m sent × TurnedInVain turns sent b

-- it did so in vain, fewer times than it may, and once more, which returned this reply
abbrev pub InsistedUntil : Patience → Caller → Caller → Reply → Type 0
InsistedUntil patience a b reply =
    (n : ℕ) × (n < patience.retries) × (m sent : Caller) × InsistedInVain patience.turns n a m
    × SentAgain m sent × TurnedUntil patience.turns sent b reply

-- it called `turn` as often as it may after the first send and after each resend, in vain
abbrev pub AskedInVain : Patience → Caller → Caller → Type 0
AskedInVain patience a b =
    (m : Caller) × TurnedInVain patience.turns a m × InsistedInVain patience.turns patience.retries m b

-- one of these calls of `turn` returned this reply
abbrev pub AskedUntil : Patience → Caller → Caller → Reply → Type 0
AskedUntil patience a b reply =
    TurnedUntil patience.turns a b reply
    ⊎ ((m : Caller) × TurnedInVain patience.turns a m × InsistedUntil patience m b reply)

-- it invoked the call, and continued like this until this reply came
abbrev pub CalledPatientlyUntil : Patience → Call → Client → Client → Reply → Type 0
CalledPatientlyUntil patience call a b reply =
    BeganThen (caller_of a) call (λ begun. AskedUntil patience begun (caller_of b) reply)

-- if the fault is that there is no reply, it invoked the call, and continued like this in vain
abbrev pub CalledPatientlyInVain : Patience → Call → Client → Client → Unanswered → Type 0
CalledPatientlyInVain patience call a b fault =
    fault ≡ NoAnswer → BeganThen (caller_of a) call (λ begun. AskedInVain patience begun (caller_of b))

-- there is no reply: it sent the call again as often as it may, in vain
abbrev pub GaveUp : Patience → Client → Client → Unanswered → Type 0
GaveUp patience a b fault =
    (fault ≡ NoAnswer) × InsistedInVain patience.turns patience.retries (caller_of a) (caller_of b)

-- the patience of n resends, with `TURNS` calls of `turn` after each send
abbrev pub so_often : ℕ → Patience
so_often n = record { turns = TURNS; retries = n }

-- one of these calls of `turn` returned this reply
abbrev pub InsistedWithinUntil : Caller → Caller → Reply → Type 0
InsistedWithinUntil a b reply = (n : ℕ) × InsistedUntil (so_often n) a b reply

-- there is no reply: it did so in vain
abbrev pub InsistedWithinInVain : Client → Client → Unanswered → Type 0
InsistedWithinInVain a b fault = (fault ≡ NoAnswer) × ((n : ℕ) × InsistedInVain TURNS n (caller_of a) (caller_of b))

-- it invoked the call before
abbrev pub AskedWithinUntil : Call → Client → Client → Reply → Type 0
AskedWithinUntil call a b reply = (n : ℕ) × CalledPatientlyUntil (so_often n) call a b reply

abbrev pub AskedWithinInVain : Call → Client → Client → Unanswered → Type 0
AskedWithinInVain call a b fault =
    fault ≡ NoAnswer → (n : ℕ) × BeganThen (caller_of a) call (λ begun. AskedInVain (so_often n) begun (caller_of b))
