-- Worlds in which no message names, or goes to, a process that the world doesn't have.
use Rattle.std.specs.Prelude.{◌≡◌, ℕ, Bool, true, false, nat_lt, Option, None, Some}
use Rattle.std.specs.List.{AllByRecursion}
use Rattle.zcalls.specs.declared.call.Entry.{Entry}
use Rattle.zcalls.specs.Lists.{Among}
use Rattle.zprotocol.specs.declared.message.Message.TheVariants as message
use Rattle.zprotocol.specs.declared.process.Process.{Process}
use Rattle.zprotocol.specs.declared.process.Process.TheVariants.{Master, Server, Client}
use Rattle.zprotocol.specs.server.View.{ServerView, Neighbour, MessageOf, Post}
use Rattle.zprotocol.specs.client.View.{ClientView}
use Rattle.zprotocol.specs.Places.{is_server}
use Rattle.zprotocol.specs.world.Links.{Links}
use Rattle.zprotocol.specs.world.World.{World}

-- the process is the master, a possible server, or one of this many clients
abbrev pub is_process : ℕ → Process → Bool
is_process clients Master = true
is_process clients (Server s) = is_server s
is_process clients (Client c) = nat_lt c clients

-- there is a server of this number
abbrev pub IsServer : ℕ → Type 0
IsServer s = is_server s ≡ true

-- a server, if one is named
abbrev pub IsNamed : Option ℕ → Type 0
IsNamed None = Unit {0}
IsNamed (Some s) = is_server s ≡ true

-- a neighbour, if there is one
abbrev pub IsNear : Option Neighbour → Type 0
IsNear None = Unit {0}
IsNear (Some near) = is_server near.0 ≡ true

-- the entry, which has its number, is of a client of the world
abbrev pub IsOfClient : ℕ → ℕ × Entry → Type 0
IsOfClient clients e = nat_lt e.1.client clients ≡ true

-- a message that names only processes of the world
abbrev pub SpeaksWithin : {M : Type 0} → ℕ → MessageOf M → Type 0
SpeaksWithin clients (message.Update epoch n entry) = nat_lt entry.client clients ≡ true
SpeaksWithin clients (message.NewPred epoch p) = is_server p ≡ true
SpeaksWithin clients (message.NewSucc epoch t last) = is_server t ≡ true
SpeaksWithin clients (message.Config epoch head tail) = IsNamed head × IsNamed tail
SpeaksWithin clients other = Unit {0}

-- a message that is sent to a process of the world
abbrev pub GoesWithin : {M : Type 0} → ℕ → Post M → Type 0
GoesWithin clients post = (is_process clients post.0 ≡ true) × SpeaksWithin clients post.1

-- a server's view that names only processes of the world
pub record IsViewWithin {M : Type 0} (clients : ℕ) (v : ServerView M) : Type 0 where
  pub near_pred : IsNear v.pred
  pub near_succ : IsNear v.succ
  pub of_clients : AllByRecursion (IsOfClient clients) v.sent

-- a client's view that does; a client that the world doesn't have has no outstanding call
pub record IsClientWithin (clients c : ℕ) (v : ClientView) : Type 0 where
  pub named_head : IsNamed v.head
  pub named_tail : IsNamed v.tail
  pub waits_not : nat_lt c clients ≡ false → v.outstanding ≡ None

-- a member of the chain
abbrev pub IsMemberWithin : Neighbour → Type 0
IsMemberWithin member = is_server member.0 ≡ true

-- what is on channels is between processes of the world, and names only those
abbrev pub AreLinksWithin : {M : Type 0} → ℕ → Links M → Type 0
AreLinksWithin {M} clients links =
    (from to : Process) (m : MessageOf M) → Among m (links from to)
    → (is_process clients from ≡ true) × (is_process clients to ≡ true) × SpeaksWithin clients m

-- the world
pub record IsWithin {M : Type 0} (clients : ℕ) (w : World M) : Type 0 where
  pub counted : w.master.clients ≡ clients
  pub chain : AllByRecursion IsMemberWithin w.master.chain
  pub used : AllByRecursion IsServer w.master.used
  pub views : (s : ℕ) → IsViewWithin clients (w.servers s)
  pub callers : (c : ℕ) → IsClientWithin clients c (w.clients c)
  pub sent : AreLinksWithin clients w.links
