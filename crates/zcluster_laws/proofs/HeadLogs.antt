-- The log of a head, in the log world beside a run of heads: an event of the chain leaves it as it
-- is, and an update at a head makes that head's longer by its entry.
use Rattle.std.specs.Prelude.{if◌then◌else◌}
use Rattle.std.proofs.Common.{◌≡◌, ℕ, Bool, true, false, ◌==◌, List, [], ◌∷◌, ◌++◌, Option, Some, None, sym, ap, ◌∙◌, subst}
use Rattle.zcalls.specs.declared.call.Entry.{Entry}
use Rattle.zcalls.specs.declared.call.Update.{Update}
use Rattle.zcalls.specs.Cached.{Plain}
use Rattle.zprotocol.specs.declared.message.Message.TheVariants as message
use Rattle.zprotocol.specs.declared.process.Process.{Process}
use Rattle.zprotocol.specs.declared.process.Process.TheVariants.{Master, Server, Client}
use Rattle.zprotocol.specs.declared.world.event.Event.{Event}
use Rattle.zprotocol.specs.declared.world.event.Event.TheVariants.{Begin, Retry, Take, Ignore, Fail, Order}
use Rattle.zprotocol.specs.server.View.{ServerView, Neighbour}
use Rattle.zprotocol.specs.server.Table as server
use Rattle.zprotocol.specs.server.support.Cases.{IsRow, Ignores, Submits, Updates, Asks, Acknowledges, Shows, Turns, Follows, Leads, Ends}
use Rattle.zprotocol.proofs.server_lemmas.Cases.{server_case}
use Rattle.zprotocol.proofs.world_lemmas.Effects.{by_choice}
use Rattle.zprotocol.specs.world.Does.{Hear, server_effect, stop_effect}
use Rattle.zprotocol.specs.world.Links.{without_front}
use Rattle.zprotocol.specs.world.Events.{is_enabled, does_in, front_step, acts}
use Rattle.zlinearizability.specs.chain.Flow.{log_machine, LogWorld, LogMessage, log_at}
use Rattle.zlinearizability.specs.chain.Account.{Account, next_account}
use Rattle.zlinearizability.proofs.chain_lemmas.links.Links.{at_cases, at_same, at_other}
use Rattle.zlinearizability.proofs.Runs.{next_world}
use Rattle.zheads.proofs.Shown.{IsInside}
use Rattle.zheads.proofs.Holds.{IsFresh, IsSilent, mirrored}
use Rattle.zheads.proofs.Appended.{fresh_client, appended, entry_of_call, world_is, appended_log}

no_neighbour : (pred : Option Neighbour) (n : Neighbour) → pred ≡ None → pred ≡ Some n → ⊥
no_neighbour pred n none some = let no : ◌≡◌ {A = Option Neighbour} None (Some n) = sym none ∙ some in cc no

module _ {P : Type 0} (plain : Plain P) where
  -- a row for a message of the master or of a server
  row_same : (v : ServerView (List Entry)) (log : List Entry) (from : Process) (m : LogMessage) (r : server.ServerResult (List Entry))
      → IsInside from → v.machine ≡ Some log → v.pred ≡ None → IsRow (log_machine plain) v from m r → r.0.machine ≡ Some log
  row_same v log from m r i has head (Ignores from' m') = has
  row_same v log from m r i has head (Submits c number update mine r' has' head' room did) = absurd i
  row_same v log from m r i has head (Updates p epoch n e mine r' has' pred next room did) = absurd (no_neighbour v.pred (p, epoch) head pred)
  row_same v log from m r i has head (Asks c number query mine has' ends) = has
  row_same v log from m r i has head (Acknowledges t epoch n succ) = has
  row_same v log from m r i has head (Shows p epoch transfer none pred) = absurd (no_neighbour v.pred (p, epoch) head pred)
  row_same v log from m r i has head (Turns epoch p) = has
  row_same v log from m r i has head (Follows epoch t last mine has') = has
  row_same v log from m r i has head (Leads epoch) = has
  row_same v log from m r i has head (Ends epoch) = has

  module _ (s : ℕ) (log : List Entry) where
    -- the server has this log, and no predecessor
    abbrev Stays : LogWorld → Type 0
    Stays w = log_at w s ≡ Some log

    abbrev IsFirst : LogWorld → Type 0
    IsFirst w = (w.servers s).pred ≡ None

    server_same : (w : LogWorld) (from : Process) (y : ℕ) (m : LogMessage) → IsInside from → Stays w → IsFirst w
        → Stays (does_in (log_machine plain) w (Server y) (Hear from m))
    server_same w from y m i has head =
        let did = server.server_step (log_machine plain) (w.servers y) from m in
        by_choice Stays (server.is_retirement from m) w (Server y) stop_effect (server_effect did) has
        (at_cases (λ (v : ServerView (List Entry)). v.machine ≡ Some log) y did.0 w.servers s
        (λ same. row_same (w.servers y) log from m did i (subst (λ z. (w.servers z).machine ≡ Some log) same has)
        (subst (λ z. (w.servers z).pred ≡ None) same head) (server_case (log_machine plain) (w.servers y) from m))
        (λ other. has))

    front_same : (w : LogWorld) (from to : Process) → IsInside from → IsInside to → (link : List LogMessage) → Stays w → IsFirst w
        → Stays (front_step (log_machine plain) w from to link)
    front_same w from to i j [] has head = has
    front_same w from Master i j (m ∷ rest) has head = has
    front_same w from (Server y) i j (m ∷ rest) has head =
        server_same (record w { links = without_front w.links from (Server y) }) from y m i has head
    front_same w from (Client c) i j (m ∷ rest) has head = absurd j

    if_same : (b : Bool) (v w : LogWorld) → Stays v → Stays w → Stays (if b then v else w)
    if_same true v w first second = first
    if_same false v w first second = second

    -- an event of the chain
    module _ (t : Account) (has : Stays t.world) (head : IsFirst t.world) where
      kept_same : (event : Event) → Stays (acts (log_machine plain) t.world event) → Stays (next_account plain t event).world
      kept_same event did =
          subst Stays (sym (next_world plain t event))
          (if_same (is_enabled t.world event) (acts (log_machine plain) t.world event) t.world did has)

      take_same : (from to : Process) → IsInside from → IsInside to → Stays (next_account plain t (Take from to)).world
      take_same from to i j = kept_same (Take from to) (front_same t.world from to i j (t.world.links from to) has head)

      pub event_same : (event : Event) → Stays (mirrored plain t event).world
      event_same (Begin c call) = has
      event_same (Retry c) = has
      event_same (Take (Client c) to) = has
      event_same (Take Master (Client c)) = has
      event_same (Take (Server y) (Client c)) = has
      event_same (Take Master Master) = take_same Master Master tt tt
      event_same (Take Master (Server y)) = take_same Master (Server y) tt tt
      event_same (Take (Server p) Master) = take_same (Server p) Master tt tt
      event_same (Take (Server p) (Server y)) = take_same (Server p) (Server y) tt tt
      event_same (Ignore (Client c) to) = has
      event_same (Ignore Master (Client c)) = has
      event_same (Ignore (Server y) (Client c)) = has
      event_same (Ignore Master Master) = kept_same (Ignore Master Master) has
      event_same (Ignore Master (Server y)) = kept_same (Ignore Master (Server y)) has
      event_same (Ignore (Server p) Master) = kept_same (Ignore (Server p) Master) has
      event_same (Ignore (Server p) (Server y)) = kept_same (Ignore (Server p) (Server y)) has
      event_same (Fail y) = kept_same (Fail y) has
      event_same (Order order) = kept_same (Order order) has

  -- an update at a head
  module _ (t : Account) (s : ℕ) (u : Update) (fresh : IsFresh t.world.history) (silent : IsSilent t.world) (live : t.world.failed s ≡ false) where
    abbrev did : server.ServerResult (List Entry)
    did = server.server_step (log_machine plain) (t.world.servers s) (Client (fresh_client t)) (message.Submit 1 u)

    pub own_log : (log : List Entry) → log_at t.world s ≡ Some log → (t.world.servers s).pred ≡ None → server.has_room (t.world.servers s) ≡ true
        → log_at (appended plain t s u).world s ≡ Some (log ++ entry_of_call t u ∷ [])
    own_log log has head room =
        ap (λ (w : LogWorld). log_at w s) (world_is plain t s u fresh silent live)
        ∙ ap (λ (z : ServerView (List Entry)). z.machine) (at_same s did.0 t.world.servers)
        ∙ appended_log plain (t.world.servers s) (fresh_client t) u log has head room

    pub other_log : (z : ℕ) → (z == s) ≡ false → log_at (appended plain t s u).world z ≡ log_at t.world z
    other_log z other =
        ap (λ (w : LogWorld). log_at w z) (world_is plain t s u fresh silent live)
        ∙ ap (λ (v : ServerView (List Entry)). v.machine) (at_other s did.0 t.world.servers z other)
