-- Messages that are sent on channels, except those to servers that have stopped; and the end of a
-- server.
use Rattle.std.specs.Prelude.{◌≡◌, ℕ, ◌+◌, ◌-◌, ◌<◌, ◌≤◌, Bool, true, false, List}
use Rattle.ztree.specs.Tree.{Tree}
use Rattle.zcalls.specs.Cached.{CachedState}
use Rattle.zprotocol.specs.declared.limits.TheConstants.{PROCESSES}
use Rattle.zprotocol.specs.declared.message.Message.TheVariants.{Gone}
use Rattle.zprotocol.specs.declared.process.Process.{Process}
use Rattle.zprotocol.specs.declared.process.Process.TheVariants.{Master, Server}
use Rattle.zprotocol.specs.server.View.{Post}
use Rattle.zactor.specs.Acting.{TreeStanding, has_stopped}
use Rattle.zactor.specs.declared.done.Done.{Done}
use Rattle.zactor.specs.declared.done.Done.TheVariants.{Began, Answered}
use Rattle.zworld.specs.links.Places.{links_of, has_notice, with_last, with_notice, without_receiver, Keeps}
use Rattle.zprotocol.specs.world.Links.{put}
use Rattle.zworld.specs.Held.{HeldChannels, standing_at}

-- the process is a server that has stopped
abbrev pub is_lost : List TreeStanding → Process → Bool
is_lost actors (Server s) = has_stopped (standing_at actors (Server s))
is_lost actors other = false

-- on the channels to those that have not stopped, this was sent
abbrev pub IsPosted : List TreeStanding → HeldChannels → Process → List (Post (CachedState Tree)) → HeldChannels → Type 0
IsPosted actors old sender posts new =
    (from to : Process) → is_lost actors to ≡ false → links_of new from to ≡ put (links_of old) sender posts from to

-- a process can end: it is a server that hasn't sent its failure notice
abbrev pub CanEnd : HeldChannels → Process → Type 0
CanEnd old process = (s : ℕ) × (process ≡ Server s) × (has_notice old process ≡ false)

-- a server ended: it sent its failure notice, and nothing is on channels to it
pub record HasEnded (old new : HeldChannels) (server : Process) : Type 0 where
  pub links : Keeps new (without_receiver (with_last (links_of old) server Master Gone) server)
  pub notices : (p : Process) → has_notice new p ≡ true → with_notice old server p ≡ true

-- how many clients wait, where as many waited before
abbrev pub waiting_after : ℕ → Done → ℕ
waiting_after waiting (Began number) = waiting + 1
waiting_after waiting (Answered number) = waiting - 1
waiting_after waiting done = waiting

-- it is a number of clients: a client that returns an answer had waited
abbrev pub CanCount : ℕ → Done → Type 0
CanCount waiting (Answered number) = 0 < waiting
CanCount waiting done = waiting ≤ PROCESSES
