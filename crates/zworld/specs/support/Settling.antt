-- A settling that continues from where the processes are. What a call does of it is a function of
-- settlings. The outcomes are learnt as events are done, so each fact holds whatever follows those
-- learnt so far.
use Rattle.std.specs.Prelude.{◌≡◌, ◌⊎◌, ℕ, Bool, true, List, [], ◌++◌, map, flat_map}
use Rattle.ztree.specs.Tree.{Tree}
use Rattle.zcalls.specs.Cached.{CachedState}
use Rattle.zprotocol.specs.server.Machine.{cached_tree}
use Rattle.zprotocol.specs.declared.process.Process.{Process}
use Rattle.zprotocol.specs.declared.world.event.Event.{Event}
use Rattle.zprotocol.specs.declared.world.event.Event.TheVariants.{Take}
use Rattle.zprotocol.specs.declared.world.outcome.Outcome.{Outcome}
use Rattle.zprotocol.specs.world.History.{History}
use Rattle.zprotocol.specs.world.Settle.{Settling, with_tries, passes, deliveries}
use Rattle.zprotocol.specs.world.support.Alike.{IsAlike}
use Rattle.zworld.specs.Held.{Held, kept_world}
use Rattle.zworld.specs.Steps.{AreActed, CanWantMemoryToSettle}
use Rattle.zworld.specs.support.Stepped.{Seen}

-- a settling of the world of trees with cached replies
abbrev pub TreeSettling : Type 0
TreeSettling = Settling (CachedState Tree)

-- a settling is where the processes are: this many more events may be done, and these are the
-- outcomes to come
pub record StandsAt (held : Held) (history : History) (more : ℕ) (rest : List Outcome) (s : TreeSettling) : Type 0 where
  pub alike : IsAlike s.world (kept_world held history)
  pub remaining : s.left ≡ more
  pub coming : s.outcomes ≡ rest

-- how far settling has come: what is held, how many more events may be done, and the history so far
pub record Point : Type 0 where
  pub held : Held
  pub left : ℕ
  pub seen : History

-- where it is strict, no server may run out of memory
abbrev pub MayLearn : Bool → List Outcome → Type 0
MayLearn strict reported = strict ≡ true → AreActed reported

-- from one point to another, outcomes were learnt and the history grew: one function, of a settling
-- at the first point, equals the other, of one at the second
abbrev pub GoesOn : Bool → (TreeSettling → TreeSettling) → (TreeSettling → TreeSettling) → Point → Point → Type 0
GoesOn strict whole rest before after =
    (reported : List Outcome) × (given : History) × (after.seen ≡ before.seen ++ given)
    × ((history : History) (outcomes : List Outcome) (s : TreeSettling) → StandsAt before.held history before.left (reported ++ outcomes) s
    → (t : TreeSettling) × StandsAt after.held (history ++ given) after.left outcomes t × (whole s ≡ rest t))
    × MayLearn strict reported

-- from one point to another, a function of settlings was done
abbrev pub Does : Bool → (TreeSettling → TreeSettling) → Point → Point → Type 0
Does strict done before after = GoesOn strict done (λ s. s) before after

-- the same, of events that were tried
abbrev pub Tries : Bool → List Event → Point → Point → Type 0
Tries strict events before after = Does strict (λ s. with_tries cached_tree s events) before after

-- the same, from what was held and seen to what is, with this many events left before and after
abbrev pub TriesBy : Bool → List Event → Held → Held → (before after : Seen) → (left more : ℕ) → Type 0
TriesBy strict events old new before after left more =
    Tries strict events (record { held = old; left = left; seen = before.items }) (record { held = new; left = more; seen = after.items })

-- and where callers see nothing, whatever they saw before, and no server takes part
abbrev pub TriesUnseen : List Event → Held → Held → (left more : ℕ) → Type 0
TriesUnseen events old new left more =
    (seen : History) → Tries true events (record { held = old; left = left; seen = seen }) (record { held = new; left = more; seen = seen })

-- the same, of passes over the channels of this many clients
abbrev pub PassesBy : Bool → (clients limit : ℕ) → Held → Held → (before after : Seen) → (left more : ℕ) → Type 0
PassesBy strict clients limit old new before after left more =
    Does strict (passes cached_tree (deliveries clients) limit)
    (record { held = old; left = left; seen = before.items }) (record { held = new; left = more; seen = after.items })

-- a delivery on each channel from one process
abbrev pub takes_from : List Process → Process → List Event
takes_from receivers from = map (λ to. Take from to) receivers

-- and on each channel from some processes
abbrev pub takes : List Process → List Process → List Event
takes receivers senders = flat_map (takes_from receivers) senders

-- this history is the other one, and more
abbrev pub GoOn : History → History → Type 0
GoOn after before = (given : History) × (after ≡ before ++ given)

-- settling that continues from what is held, with that many more events, can run out of memory
abbrev pub CanRunOut : Held → (left : ℕ) → Type 0
CanRunOut held left = CanWantMemoryToSettle (kept_world held []) left

-- from one point to another nothing was done, or it could have run out of memory at the first
abbrev pub StillOrCould : Held → Held → (left more : ℕ) → Type 0
StillOrCould old new left more = ((new ≡ old) × (more ≡ left)) ⊎ CanRunOut old left
