-- Channels in the order of their senders and then of their receivers, which is that of delivery,
-- and the index of one among those that are stored. These are in reverse order.
use Rattle.std.specs.Prelude.{◌≡◌, ℕ, suc, ◌<◌, ◌≤◌, ◌==◌, nat_lt, Bool, not, if◌then◌else◌, [], ◌∷◌, ◌++◌, length, take, drop, get_or}
use Rattle.std.specs.List.{AllByRecursion}
use Rattle.zprotocol.specs.declared.message.Message.{Message}
use Rattle.zprotocol.specs.declared.process.Process.{Process}
use Rattle.zworld.specs.links.Places.{Channel, Sent, Queues, sent_of, Precedes, Reaches}

-- this was sent on the channels
abbrev pub Holds : {T : Type 0} → Sent T → Queues T → Type 0
Holds sent links = (p q : Process) → sent_of sent p q ≡ links p q

-- a channel with one message more
abbrev pub longer : {T : Type 0} → Channel T → Message T → Channel T
longer channel message = record channel { others = channel.others ++ message ∷ [] }

-- a channel isn't to the process at this position
abbrev pub is_for_others : {T : Type 0} → ℕ → Channel T → Bool
is_for_others to channel = not (channel.to == to)

-- a channel comes before these positions
abbrev pub IsBefore : {T : Type 0} → Channel T → (from to : ℕ) → Type 0
IsBefore channel from to = Precedes channel.from channel.to from to

-- the same as a test
abbrev pub is_before : {T : Type 0} → Channel T → (from to : ℕ) → Bool
is_before channel from to = if channel.from == from then nat_lt channel.to to else nat_lt channel.from from

-- it comes after them
abbrev pub IsBehind : {T : Type 0} → Channel T → (from to : ℕ) → Type 0
IsBehind channel from to = Precedes from to channel.from channel.to

-- it is at them or comes after them
abbrev pub IsFrom : {T : Type 0} → Channel T → (from to : ℕ) → Type 0
IsFrom channel from to = Reaches from to channel.from channel.to

-- the channels are in order, each once: the one that comes first is the last of the list
abbrev pub AreSorted : {T : Type 0} → Sent T → Type 0
AreSorted [] = Unit {0}
AreSorted (channel ∷ channels) = AllByRecursion (λ other. IsBehind channel other.from other.to) channels × AreSorted channels

-- that many channels are at these positions or come after them
pub record IsCountFrom {T : Type 0} (channels : Sent T) (from to count : ℕ) : Type 0 where
  pub within : count ≤ length channels
  pub counted : AllByRecursion (λ channel. IsFrom channel from to) (take count channels)
  pub before : AllByRecursion (λ channel. IsBefore channel from to) (drop count channels)

-- channels that come after these positions, and channels that come before them, all in order
pub record IsAround {T : Type 0} (front back : Sent T) (from to : ℕ) : Type 0 where
  pub behind : AllByRecursion (λ channel. IsBehind channel from to) front
  pub before : AllByRecursion (λ channel. IsBefore channel from to) back
  pub sorted : AreSorted (front ++ back)

-- the channel between these positions has this index
pub record IsFound {T : Type 0} (channels : Sent T) (from to at : ℕ) : Type 0 where
  pub within : at < length channels
  pub places : (channel : Channel T) → channel ≡ get_or channels at channel → (channel.from ≡ from) × (channel.to ≡ to)
  pub around : IsAround (take at channels) (drop (suc at) channels) from to

-- it doesn't hold messages, and would have this index
pub record IsGap {T : Type 0} (channels : Sent T) (from to at : ℕ) : Type 0 where
  pub within : at ≤ length channels
  pub around : IsAround (take at channels) (drop at channels) from to
