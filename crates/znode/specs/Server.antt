-- What the server of a node does with a message, and what becomes of what it puts: what is for the
-- master becomes a report, what is for another process waits to be sent.
use Rattle.std.specs.Prelude.{◌≡◌, ℕ, ◌==◌, Bool, true, false, ◌||◌, if◌then◌else◌, List, [], ◌∷◌, ◌++◌, map, Option, None, Some}
use Rattle.std.specs.List.{flat_map, list_any}
use Rattle.zprotocol.specs.declared.message.Message.TheVariants as message
use Rattle.zprotocol.specs.declared.process.Process.{Process}
use Rattle.zprotocol.specs.declared.process.Process.TheVariants.{Master, Server, Client}
use Rattle.zprotocol.specs.world.Does.{Out, idle_effect}
use Rattle.zserver.specs.Server.{TreeMessage}
use Rattle.zactor.specs.declared.done.Done.{Done}
use Rattle.zactor.specs.declared.input.Input.TheVariants.{Hear}
use Rattle.zactor.specs.Acting.{TreeStanding, TreeEffect, TreePost, can_come, effect_of}
use Rattle.zmaster_log.specs.declared.entry.News.{News}
use Rattle.zmaster_log.specs.declared.entry.News.TheVariants as news
use Rattle.zpeers.specs.Outgoing.{OutgoingView, WaitingView, waiting_for}
use Rattle.znode.specs.Node.{SeatView}

-- ---- what is put

-- what a message to the master reports
abbrev pub news_in : ℕ → TreeMessage → List News
news_in own (message.Have epoch last) = news.Have epoch last ∷ []
news_in own (message.Joined epoch) = news.Joined epoch ∷ []
news_in own message.Gone = news.Gone own ∷ []
news_in own other = []

abbrev pub news_to : ℕ → Process → TreeMessage → List News
news_to own Master m = news_in own m
news_to own (Server s) m = []
news_to own (Client c) m = []

-- the reports among what a server puts
abbrev pub news_of : ℕ → List TreePost → List News
news_of own posts = flat_map (λ (post : TreePost). news_to own post.0 post.1) posts

-- a server puts that it has received the state
abbrev pub is_joined : Process → TreeMessage → Bool
is_joined Master (message.Joined epoch) = true
is_joined to m = false

abbrev pub has_joined : List TreePost → Bool
has_joined posts = list_any (λ (post : TreePost). is_joined post.0 post.1) posts

-- the same process, and not the master: there are links to servers and clients alone
abbrev pub is_link : Process → Process → Bool
is_link (Server s) (Server t) = s == t
is_link (Client c) (Client d) = c == d
is_link p q = false

abbrev pub put_to : Process → Process → TreeMessage → List TreeMessage
put_to p q m = if is_link p q then m ∷ [] else []

-- the messages for a process among what a server puts, in order
abbrev pub puts_to : Process → List TreePost → List TreeMessage
puts_to p posts = flat_map (λ (post : TreePost). put_to p post.0 post.1) posts

-- a message of which nothing was written
abbrev pub fresh : TreeMessage → WaitingView
fresh m = record { message = m; written = 0 }

-- each waits after what waited for its receiver
abbrev pub AreQueued : List TreePost → OutgoingView → OutgoingView → Type 0
AreQueued posts old new = (p : Process) → waiting_for new p ≡ waiting_for old p ++ map fresh (puts_to p posts)

-- all of it is put
pub record ArePut (own : ℕ) (posts : List TreePost) (old new : SeatView) : Type 0 where
  pub standing : new.standing ≡ old.standing
  pub state : new.has_state ≡ old.has_state || has_joined posts
  pub reports : new.reports ≡ old.reports ++ news_of own posts
  pub queued : AreQueued posts old.outgoing new.outgoing

-- ---- what is done

-- What a server may do with a message: what its table says, as servers of the world do; or, where
-- memory runs out, it drops a query, or stops. One that has stopped does nothing.
abbrev pub MayDo : ℕ → Process → TreeMessage → TreeStanding → TreeEffect → Type 0
MayDo own from m Out effect = effect ≡ idle_effect Out
MayDo own from m standing effect =
    (done : Done) × (can_come standing (Hear from m) done ≡ true)
    × (effect ≡ effect_of (Server own) standing (Hear from m) done)

-- the server handles a message, and all that it puts is put
pub record Hears (own : ℕ) (from : Process) (m : TreeMessage) (old new : SeatView) : Type 0 where
  pub effect : TreeEffect
  pub done : MayDo own from m old.standing effect
  pub put : ArePut own effect.posts (record old { standing = effect.left }) new

-- the same, if there is a message
abbrev pub HearsAny : ℕ → Process → Option TreeMessage → SeatView → SeatView → Type 0
HearsAny own from None old new = new ≡ old
HearsAny own from (Some m) old new = Hears own from m old new
