-- What a server does with a message, as one of ten kinds of row, each with its conditions. A proof
-- that splits the server table has one case for each. That the table is these rows is a law.
use Rattle.std.specs.Prelude.{◌≡◌, ℕ, ◌+◌, ◌<◌, List, [], ◌∷◌, ◌++◌, Option, Some, None}
use Rattle.zcalls.specs.declared.call.Entry.{Entry}
use Rattle.zcalls.specs.declared.call.Update.{Update}
use Rattle.zcalls.specs.declared.call.Query.{Query}
use Rattle.zprotocol.specs.declared.limits.TheConstants.{MAX_LOG_NUMBER}
use Rattle.zprotocol.specs.declared.message.Message.TheVariants as message
use Rattle.zprotocol.specs.declared.process.Process.{Process}
use Rattle.zprotocol.specs.declared.process.Process.TheVariants.{Master, Server, Client}
use Rattle.zprotocol.specs.server.Machine.{Does}
use Rattle.zprotocol.specs.server.View.{ServerView, Neighbour, Transfer, MessageOf, Post}
use Rattle.zprotocol.specs.server.Table.{ServerResult, ack_posts, answer_posts, forward_post, entries_above, last_number, missing_posts}

-- an entry is accepted: without successor it is processed, with one it is forwarded
pub data IsAccepted {M : Type 0} (does : Does M) (v : ServerView M) (m : M) (n : ℕ) (e : Entry) : ServerResult M → Type 0 where
  Processes : v.succ ≡ None
      → IsAccepted does v m n e (record v { machine = Some (does.apply m e).0; last = n }, answer_posts e (does.apply m e).1 ++ ack_posts v.pred n)
  Forwards : (succ : Neighbour) → v.succ ≡ Some succ
      → IsAccepted does v m n e (record v { machine = Some (does.apply m e).0; last = n; sent = v.sent ++ (n, e) ∷ [] }, forward_post succ (n, e) ∷ [])

-- what a server without successor acknowledges
abbrev pub acks_all : {M : Type 0} → ServerView M → List (Post M)
acks_all v = elim v.machine [ None ↦ [] | Some m ↦ ack_posts v.pred v.last ]

-- the rows that do something, and that nothing is done
pub data IsRow {M : Type 0} (does : Does M) (v : ServerView M) : Process → MessageOf M → ServerResult M → Type 0 where
  Ignores : (from : Process) (m : MessageOf M) → IsRow does v from m (v, [])
  Submits : (c number : ℕ) (update : Update) (m : M) (r : ServerResult M) → v.machine ≡ Some m → v.pred ≡ None → v.last < MAX_LOG_NUMBER
      → IsAccepted does v m (v.last + 1) (record { client = c; number = number; update = update }) r
      → IsRow does v (Client c) (message.Submit number update) r
  Updates : (p epoch n : ℕ) (e : Entry) (m : M) (r : ServerResult M) → v.machine ≡ Some m → v.pred ≡ Some (p, epoch) → n ≡ v.last + 1 → v.last < MAX_LOG_NUMBER
      → IsAccepted does v m n e r
      → IsRow does v (Server p) (message.Update epoch n e) r
  Asks : (c number : ℕ) (query : Query) (m : M) → v.machine ≡ Some m → v.succ ≡ None
      → IsRow does v (Client c) (message.Query number query) (v, (Client c, message.Answer number (does.ask m query)) ∷ [])
  Acknowledges : (t epoch n : ℕ) → v.succ ≡ Some (t, epoch)
      → IsRow does v (Server t) (message.Ack epoch n) (record v { sent = entries_above n v.sent }, ack_posts v.pred n)
  Shows : (p epoch : ℕ) (transfer : Transfer M) → v.machine ≡ None → v.pred ≡ Some (p, epoch)
      → IsRow does v (Server p) (message.Snapshot epoch transfer)
      (record v { machine = Some transfer.machine; last = transfer.last; sent = [] }, (Server p, message.Ack epoch transfer.last) ∷ (Master, message.Joined epoch) ∷ [])
  Turns : (epoch p : ℕ)
      → IsRow does v Master (message.NewPred epoch p) (record v { pred = Some (p, epoch) }, (Master, message.Have epoch (last_number v)) ∷ [])
  Follows : (epoch t : ℕ) (last : Option ℕ) (m : M) → v.machine ≡ Some m
      → IsRow does v Master (message.NewSucc epoch t last) (record v { succ = Some (t, epoch) }, missing_posts v m (t, epoch) last)
  Leads : (epoch : ℕ) → IsRow does v Master (message.BecomeHead epoch) (record v { pred = None }, [])
  Ends : (epoch : ℕ) → IsRow does v Master (message.BecomeTail epoch) (record v { sent = []; succ = None }, acks_all v)
