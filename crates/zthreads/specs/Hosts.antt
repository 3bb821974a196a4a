-- What a clause says of a process with its endpoint.
use Rattle.std.specs.Prelude.{◌≡◌, ℕ, List, [], max, Ok}
use Rattle.zprotocol.specs.declared.master.order.Order.{Order}
use Rattle.zprotocol.specs.declared.process.Process.{Process}
use Rattle.zprotocol.specs.declared.process.Process.TheVariants.{Client}
use Rattle.zprotocol.specs.declared.traces.trace.Act.TheVariants.{Ordered}
use Rattle.zprotocol.specs.traces.Stamps.{next_stamp}
use Rattle.zactor.specs.declared.act_fault.ActFault.{ActFault}
use Rattle.zactor.specs.declared.input.Input.{Input}
use Rattle.zactor.specs.declared.input.Input.TheVariants.{Hear}
use Rattle.zactor.specs.declared.done.Done.{Done}
use Rattle.zactor.specs.declared.handed.Handed.{Handed}
use Rattle.zactor.specs.Acting.{handed_by}
use Rattle.zthreads.specs.declared.endpoint.Endpoint.{Endpoint}
use Rattle.zthreads.specs.declared.host.Host.{Host}
use Rattle.zthreads.specs.Endpoints.{Accounts, books_of, IsEntered, pending, process_of, SameBooks, self_of, stamp_of_endpoint}
use Rattle.zthreads.specs.Endpoints.{TreeDeed, TreeStamped, TreeStanding, TreeTaken}
use Rattle.zthreads.specs.Hosting.{Did, IsUndone}

-- its endpoint, its state, and the last timestamp that it learned
abbrev pub host_endpoint : Host → Endpoint
host_endpoint h = h.endpoint

abbrev pub host_standing : Host → TreeStanding
host_standing h = h.actor

abbrev pub host_learnt : Host → ℕ
host_learnt h = h.learnt

-- a message that it received, and that counts as still in its ring
abbrev pub host_front : Host → TreeTaken
host_front h = h.front

-- the steps account for it as it is: they led to its state and last timestamp, they received what it
-- received, except what counts as still in its ring, and sent what it sent, with what waits to be sent
abbrev pub AccountsForHost : Host → List TreeDeed → Type 0
AccountsForHost h deeds =
    Accounts (self_of h.endpoint) (books_of h.endpoint) h.actor h.front (pending h.endpoint) deeds

-- the last timestamp that it knows
abbrev pub host_stamp : Host → ℕ
host_stamp h = max (stamp_of_endpoint h.endpoint) h.learnt

-- it is a client
abbrev pub IsClientHost : Host → Type 0
IsClientHost h = (c : ℕ) × (process_of h.endpoint ≡ Client c)

-- nothing was done: its state, trace, record and timestamps are as they were
pub record DidIdle (a b : Host) : Type 0 where
  pub books : SameBooks a.endpoint b.endpoint
  pub stands : b.actor ≡ a.actor
  pub learnt : b.learnt ≡ a.learnt

-- it was given an input, and the event has that timestamp
pub record Acted (a b : Host) (input : Input) (stamp : ℕ) (done : Done) : Type 0 where
  pub did : Did a.endpoint a.actor b.endpoint b.actor input stamp done
  pub learnt : b.learnt ≡ a.learnt

-- it received a message: its event comes after that of the message, and all that it knew; what it
-- returns is in `handed`
abbrev pub Received : Host → Host → Handed → Handed → Done → Type 0
Received a b before after done =
    (from : Process) × (m : TreeStamped) × Acted a b (Hear from m.1) (next_stamp (max (stamp_of_endpoint a.endpoint) (max a.learnt m.0))) done
    × (after ≡ handed_by (Hear from m.1) (Ok done) before)

-- it was given an input from outside: its event comes after all that it knew
abbrev pub Gave : Host → Host → Input → Done → Type 0
Gave a b input done = Acted a b input (next_stamp (host_stamp a)) done

-- it wasn't, for that reason
abbrev pub GaveUp : Host → Host → Input → ActFault → Type 0
GaveUp a b input fault = DidIdle a b × IsUndone a.actor input fault

-- the master refused an order, which is an event of its trace
pub record RefusesOrder (a b : Host) (order : Order) : Type 0 where
  pub stands : b.actor ≡ a.actor
  pub entered : IsEntered a.endpoint b.endpoint (stamp_of_endpoint b.endpoint) (Ordered order) []
