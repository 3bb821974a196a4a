-- Channels: one list of messages for each ordered pair of processes. A message that is sent goes
-- last, and the front is delivered. So a channel neither loses nor repeats messages, and preserves
-- their order. Runs in which channels lose their ends are in zlinearizability/specs/Cuts.antt.
use Rattle.std.specs.Prelude.{Bool, true, false, ◌&&◌, ◌==◌, if◌then◌else◌, List, [], ◌∷◌, ◌++◌, drop}
use Rattle.zprotocol.specs.declared.process.Process.{Process}
use Rattle.zprotocol.specs.declared.process.Process.TheVariants.{Master, Server, Client}
use Rattle.zprotocol.specs.server.View.{MessageOf, Post}

-- the two are one process
abbrev pub is_same : Process → Process → Bool
is_same Master Master = true
is_same (Server s) (Server t) = s == t
is_same (Client c) (Client d) = c == d
is_same p q = false

-- the messages on the channel from one process to another, the front first
abbrev pub Links : Type 0 → Type 0
Links M = Process → Process → List (MessageOf M)

-- what is sent to one receiver, in order
abbrev pub messages_to : {M : Type 0} → Process → List (Post M) → List (MessageOf M)
messages_to to [] = []
messages_to to (post ∷ posts) = if is_same to post.0 then post.1 ∷ messages_to to posts else messages_to to posts

-- the channels after a process sent messages
abbrev pub put : {M : Type 0} → Links M → Process → List (Post M) → Links M
put links sender posts from to = if is_same from sender then links from to ++ messages_to to posts else links from to

-- the channels after the front of one was delivered
abbrev pub without_front : {M : Type 0} → Links M → Process → Process → Links M
without_front links sender taker from to = if is_same from sender && is_same to taker then drop 1 (links from to) else links from to
