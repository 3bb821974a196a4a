-- The event Take at a server, from the master: all of its orders, and what is none.
use Rattle.std.proofs.Common.{◌≡◌, ◌⊎◌, ℕ, Bool, true, false, List, [], ◌∷◌, Option, Some, None, refl, sym, ap, ◌∙◌, subst}
use Rattle.zcalls.specs.declared.call.Entry.{Entry}
use Rattle.zcalls.specs.Cached.{Plain}
use Rattle.zprotocol.specs.declared.message.Message.TheVariants as message
use Rattle.zprotocol.specs.declared.process.Process.TheVariants.{Master, Server}
use Rattle.zprotocol.specs.server.View.{ServerView, Neighbour}
use Rattle.zprotocol.specs.server.Table as server
use Rattle.zprotocol.specs.server.Table.{new_succ_row}
use Rattle.zprotocol.proofs.server_lemmas.Fields.{view_of}
use Rattle.zprotocol.specs.declared.world.event.Event.TheVariants.{Take}
use Rattle.zprotocol.specs.world.Links.{without_front}
use Rattle.zprotocol.specs.world.Does.{server_effect, stop_effect}
use Rattle.zprotocol.specs.world.Events.{did_in, front_step}
use Rattle.zlinearizability.proofs.legal_lemmas.lists.Prefixes.{prefix_same}
use Rattle.zlinearizability.specs.chain.Flow.{log_machine, LogMessage, Log, or_else, log_at}
use Rattle.zlinearizability.specs.chain.Chain.{Place, IsPast, LeadsTo, is_fresh, turn_of}
use Rattle.zlinearizability.specs.chain.Account.{Account, account_by}
use Rattle.zlinearizability.specs.chain.Sound.{IsSound, IsSoundAfter}
use Rattle.zlinearizability.proofs.chain_lemmas.links.Links.{at_itself}
use Rattle.zlinearizability.proofs.chain_lemmas.steps.ServerSteps.{account_with_view}
use Rattle.zlinearizability.proofs.chain_lemmas.steps.Stops.{stop_sound}
use Rattle.zlinearizability.proofs.chain_lemmas.Events.{where_enabled, front_there}
use Rattle.zlinearizability.specs.chain.Events.{KeepsSoundOver}
use Rattle.zlinearizability.proofs.master_lemmas.orders.OrderSteps.{IsGoodTurn, turn_sound, turn_begins}
use Rattle.zlinearizability.proofs.master_lemmas.orders.Neighbours.{final_log_of, first_log_of, same_final_log, same_first}
use Rattle.zlinearizability.proofs.master_lemmas.orders.Neighbours.{after_turn, take_tail_order, take_head_order}
use Rattle.zlinearizability.proofs.master_lemmas.orders.Neighbours.{take_pred_order}
use Rattle.zlinearizability.proofs.master_lemmas.orders.Successors.{take_succ_order}
use Rattle.zlinearizability.proofs.master_lemmas.orders.Handovers.{take_whole_order}

-- a message that the server ignores, and that turns it to no one
module _ {P : Type 0} (plain : Plain P) (t : Account) (s : IsSound plain t) (y : ℕ) (m : LogMessage) (rest : List LogMessage)
    (link : t.world.links Master (Server y) ≡ m ∷ rest) (alive : t.world.failed y ≡ false) where
  abbrev old : ServerView (List Entry)
  old = t.world.servers y

  leads_on : (fresh : Bool) (pred place : Place) → turn_of m ≡ None → LeadsTo (IsPast t.world) fresh pred (m ∷ rest) place
      → LeadsTo (IsPast t.world) fresh pred rest place
  leads_on fresh pred place turn = by (turn_of m) turn
    where
      by : (o : Option Place) → o ≡ None
          → (elim o as (λ x. Type 0) [
            | None ↦ LeadsTo (IsPast t.world) fresh pred rest place
            | Some new ↦ ((fresh ≡ true) ⊎ IsPast t.world pred)
                × LeadsTo (IsPast t.world) false new rest place
          ])
          → LeadsTo (IsPast t.world) fresh pred rest place
      by None e h = h
      by (Some new) e h = absurd (cc e)

  good_same : turn_of m ≡ None → IsGoodTurn t.world y old rest
  good_same turn = record {
    machine = refl;
    succ = λ some no_order. some;
    final_log = λ log is. (
      log,
      sym (final_log_of plain t s y m rest link alive old
          ∙ same_final_log plain t s y m rest link alive old old.machine old.pred) ∙ is,
      prefix_same log,
    );
    shows = λ log is. (
      log,
      sym (first_log_of plain t s y m rest link alive old
          ∙ ap (or_else old.machine) (same_first plain t s y m rest link alive old old.pred)) ∙ is,
      prefix_same log,
    );
    line = λ place is. leads_on (is_fresh t.world y) old.pred place turn
        (subst (λ q. LeadsTo (IsPast t.world) (is_fresh t.world y) (t.world.servers y).pred q place) link (s.line y place is));
    successor = λ x k is. s.successors y x k is;
    sent = s.sent y;
  }

  -- the event
  pub take_ignored : turn_of m ≡ None → server.server_step (log_machine plain) (t.world.servers y) Master m ≡ (t.world.servers y, [])
      → IsSoundAfter plain t (account_by plain t (Take Master (Server y))
      (did_in (record t.world { links = without_front t.world.links Master (Server y) }) (Server y)
      (server_effect (server.server_step (log_machine plain) (t.world.servers y) Master m))))
  take_ignored turn is = after_turn plain t s y m rest link alive (old, []) is (good_same turn)
      (turn_sound plain t s y m rest link alive old (good_same turn))

  -- an order to retire: the server ignores it, and stops
  pub take_retirement : turn_of m ≡ None
      → IsSoundAfter plain t (account_by plain t (Take Master (Server y))
      (did_in (record t.world { links = without_front t.world.links Master (Server y) }) (Server y) stop_effect))
  take_retirement turn = (
    subst (λ (servers : ℕ → ServerView (List Entry)). IsSound plain (record (account_with_view plain t Master y old) {
      world = record (did_in (record t.world { links = without_front t.world.links Master (Server y) }) (Server y) stop_effect) { servers = servers };
    }))
        (at_itself y t.world.servers)
        (stop_sound plain (account_with_view plain t Master y old) (turn_sound plain t s y m rest link alive old (good_same turn)) y),
    turn_begins plain t s y m rest link alive old (good_same turn),
  )

-- a server without a log ignores a successor
without_log : {P : Type 0} (plain : Plain P) (machine : Log) (last : ℕ) (sent : List (ℕ × Entry)) (pred succ : Option Neighbour)
    (epoch z : ℕ) (n : Option ℕ) → machine ≡ None
    → server.server_step (log_machine plain) (view_of machine last sent pred succ) Master (message.NewSucc epoch z n)
    ≡ (view_of machine last sent pred succ, [])
unfolding server.server_step new_succ_row
without_log plain None last sent pred succ epoch z n none = refl
without_log plain (Some log) last sent pred succ epoch z n none = absurd (cc none)

module _ {P : Type 0} (plain : Plain P) where
  -- what a server ignores from the master
  module _ (t : Account) (s : IsSound plain t) (y : ℕ) where
    abbrev IsHeard : LogMessage → Type 0
    IsHeard m = (rest : List LogMessage) → t.world.links Master (Server y) ≡ m ∷ rest → t.world.failed y ≡ false
        → IsSoundAfter plain t (account_by plain t (Take Master (Server y)) (front_step (log_machine plain) t.world Master (Server y) (m ∷ rest)))

    succ_by : (epoch z : ℕ) (n : Option ℕ) (log : Log) → log_at t.world y ≡ log → IsHeard (message.NewSucc epoch z n)
    succ_by epoch z n None is rest link alive = take_ignored plain t s y (message.NewSucc epoch z n) rest link alive refl
        (without_log plain (t.world.servers y).machine (t.world.servers y).last (t.world.servers y).sent (t.world.servers y).pred
        (t.world.servers y).succ epoch z n is)
    succ_by epoch z None (Some log) is rest link alive = take_whole_order plain t s y epoch z rest link alive log is
    succ_by epoch z (Some n) (Some log) is rest link alive = take_succ_order plain t s y epoch z n rest link alive log is

    heard : (m : LogMessage) → IsHeard m
    unfolding server.server_step
    heard (message.NewPred epoch p) rest link alive = take_pred_order plain t s y epoch p rest link alive
    heard (message.BecomeHead epoch) rest link alive = take_head_order plain t s y epoch rest link alive
    heard (message.BecomeTail epoch) rest link alive = take_tail_order plain t s y epoch rest link alive
    heard (message.NewSucc epoch z n) rest link alive = succ_by epoch z n (log_at t.world y) refl rest link alive
    heard (message.Submit number update) rest link alive = take_ignored plain t s y (message.Submit number update) rest link alive refl refl
    heard (message.Query number query) rest link alive = take_ignored plain t s y (message.Query number query) rest link alive refl refl
    heard (message.Answer number reply) rest link alive = take_ignored plain t s y (message.Answer number reply) rest link alive refl refl
    heard (message.Update epoch n e) rest link alive = take_ignored plain t s y (message.Update epoch n e) rest link alive refl refl
    heard (message.Ack epoch n) rest link alive = take_ignored plain t s y (message.Ack epoch n) rest link alive refl refl
    heard (message.Snapshot epoch transfer) rest link alive = take_ignored plain t s y (message.Snapshot epoch transfer) rest link alive refl refl
    heard (message.Have epoch last) rest link alive = take_ignored plain t s y (message.Have epoch last) rest link alive refl refl
    heard (message.Joined epoch) rest link alive = take_ignored plain t s y (message.Joined epoch) rest link alive refl refl
    heard message.Retire rest link alive = take_retirement plain t s y message.Retire rest link alive refl
    heard message.Gone rest link alive = take_ignored plain t s y message.Gone rest link alive refl refl
    heard (message.Config epoch head tail) rest link alive = take_ignored plain t s y (message.Config epoch head tail) rest link alive refl refl

  -- a server takes whatever is the front of the master's link
  pub servers_hear_master : (y : ℕ) → KeepsSoundOver plain (Take Master (Server y))
  servers_hear_master y t lasts s = where_enabled plain t (Take Master (Server y)) s (λ e. front_there plain t Master (Server y) e (heard t s y))
