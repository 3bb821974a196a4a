-- The channels as they are stored: a list of those on which something was sent, and the failure
-- notices of servers.
use Rattle.std.specs.Borrow.{Bor}
use Rattle.std.specs.Prelude.{◌≡◌, ℕ, ◌<◌, ◌≤◌, ◌==◌, Bool, true, false, ◌&&◌, ◌||◌, if◌then◌else◌, Option, MatchOption, List, [], ◌∷◌, ◌++◌, drop, get_or}
use Rattle.zprotocol.specs.declared.limits.TheConstants.{PROCESSES}
use Rattle.zprotocol.specs.declared.message.Message.{Message}
use Rattle.zprotocol.specs.declared.message.Message.TheVariants.{Gone}
use Rattle.zprotocol.specs.declared.process.Process.{Process}
use Rattle.zprotocol.specs.declared.process.Process.TheVariants.{Master, Server}
use Rattle.zprotocol.specs.Places.{place_of}
use Rattle.zprotocol.specs.world.Links.{is_same}
use Rattle.zworld.specs.declared.links.turn.Turn.{Turn}

-- the messages on each channel
abbrev pub Queues : Type 0 → Type 0
Queues T = Process → Process → List (Message T)

-- a channel on which messages were sent: the positions of its sender and receiver, its front, and
-- the others in order
pub record Channel (T : Type 0) : Type 0 where
  pub from : ℕ
  pub to : ℕ
  pub front : Message T
  pub others : List (Message T)

-- the channels on which messages were sent
abbrev pub Sent : Type 0 → Type 0
Sent T = List (Channel T)

-- what is stored: those channels; and of each server, by its number, whether its failure notice
-- comes after them
pub record Channels (T : Type 0) : Type 0 where
  pub sent : Sent T
  pub noted : List Bool

-- the messages of a channel, the front first
abbrev pub messages : {T : Type 0} → Channel T → List (Message T)
messages channel = channel.front ∷ channel.others

-- it is the channel between these positions
abbrev pub is_between : {T : Type 0} → Channel T → (from to : ℕ) → Bool
is_between channel from to = (channel.from == from) && (channel.to == to)

-- the messages on the channel between these positions
abbrev pub messages_at : {T : Type 0} → Sent T → (from to : ℕ) → List (Message T)
messages_at [] from to = []
messages_at (channel ∷ channels) from to = if is_between channel from to then messages channel else messages_at channels from to

-- what was sent on each channel
unfoldable pub sent_of : {T : Type 0} → Sent T → Queues T
sent_of sent from to = messages_at sent (place_of from) (place_of to)

-- the process is a server whose failure notice is in flight
abbrev pub is_noted : List Bool → Process → Bool
is_noted noted (Server s) = get_or noted s false
is_noted noted other = false

-- the failure notice of a server to the master, where it is in flight
abbrev pub notice_of : {T : Type 0} → List Bool → Queues T
notice_of noted from to = if is_noted noted from && is_same to Master then Gone ∷ [] else []

-- what is stored, seen as all channels: a notice comes after all that its server had sent
unfoldable pub links_of : {T : Type 0} → Channels T → Queues T
links_of channels from to = sent_of channels.sent from to ++ notice_of channels.noted from to

-- the process is a server that has sent its failure notice, and the master hasn't received it
abbrev pub has_notice : {T : Type 0} → Channels T → Process → Bool
has_notice channels from = is_noted channels.noted from

-- channels of which one is replaced
abbrev pub with_link : {T : Type 0} → Queues T → Process → Process → List (Message T) → Queues T
with_link links from to queue p q = if is_same p from && is_same q to then queue else links p q

-- channels to one of which a message was appended
abbrev pub with_last : {T : Type 0} → Queues T → Process → Process → Message T → Queues T
with_last links from to message = with_link links from to (links from to ++ message ∷ [])

-- channels of which one lost its front
abbrev pub without_first : {T : Type 0} → Queues T → Process → Process → Queues T
without_first links from to = with_link links from to (drop 1 (links from to))

-- these channels are stored
abbrev pub Keeps : {T : Type 0} → Channels T → Queues T → Type 0
Keeps channels links = (p q : Process) → links_of channels p q ≡ links p q

-- the front of a queue, which was removed; none where it was empty
abbrev pub IsFrontOf : {X : Type 0} → List X → Option X → Type 0
IsFrontOf queue taken = MatchOption taken (queue ≡ []) (λ front. queue ≡ front ∷ drop 1 queue)

-- and one that is only shown
abbrev pub ShowsFront : {X : Type 0} → List X → Option (Bor X) → Type 0
ShowsFront {X} queue shown = MatchOption shown (queue ≡ []) (λ front. (rest : List X) × (queue ≡ front.now ∷ rest))

-- a queue holds something
abbrev pub holds : {X : Type 0} → List X → Bool
holds [] = false
holds (x ∷ xs) = true

-- the notices in flight are those of these processes
abbrev pub Notes : {T : Type 0} → Channels T → (Process → Bool) → Type 0
Notes channels noted = (p : Process) → has_notice channels p ≡ noted p

-- one process more has sent its notice
abbrev pub with_notice : {T : Type 0} → Channels T → Process → Process → Bool
with_notice channels from p = is_same p from || has_notice channels p

-- the notices are left that are still on their channels
abbrev pub notices_left : {T : Type 0} → Channels T → Queues T → Process → Bool
notices_left channels links p = has_notice channels p && holds (links p Master)

-- channels of which those to a process are empty
abbrev pub without_receiver : {T : Type 0} → Queues T → Process → Queues T
without_receiver links to p q = if is_same q to then [] else links p q

-- two positions come before two others: by the senders', and for one sender by the receivers'
abbrev pub Precedes : (from to next_from next_to : ℕ) → Type 0
Precedes from to next_from next_to = (from ≤ next_from) × (next_from ≤ from → to < next_to)

-- or they are those
abbrev pub Reaches : (from to next_from next_to : ℕ) → Type 0
Reaches from to next_from next_to = (from ≤ next_from) × (next_from ≤ from → to ≤ next_to)

-- a fact of each channel from two positions on, and before a turn, the positions of one channel
abbrev pub Between : (from to : ℕ) → Turn → (Process → Process → Type 0) → Type 0
Between from to end Fact =
    (p q : Process) → place_of p < PROCESSES → Reaches from to (place_of p) (place_of q)
    → Precedes (place_of p) (place_of q) end.sender end.receiver → Fact p q

-- a fact of the channel at a turn, if there is one
abbrev pub At : Turn → (Process → Process → Type 0) → Type 0
At turn Fact = (p q : Process) → place_of p ≡ turn.sender → place_of q ≡ turn.receiver → turn.sender < PROCESSES → Fact p q
