-- What an event of the chain leaves of a log world: the history, empty channels from clients, and
-- logs that only grow.
use Rattle.std.specs.Prelude.{◌&&◌, if◌then◌else◌}
use Rattle.std.proofs.Common.{◌≡◌, ℕ, ◌+◌, eqb-true, Bool, true, false, ◌==◌, List, [], ◌∷◌, ◌++◌, drop, Some, None, refl, sym, ap, ◌∙◌, subst}
use Rattle.zcalls.specs.declared.call.Entry.{Entry}
use Rattle.zcalls.specs.Cached.{Plain}
use Rattle.zprotocol.specs.declared.process.Process.{Process}
use Rattle.zprotocol.specs.declared.process.Process.TheVariants.{Master, Server, Client}
use Rattle.zprotocol.specs.declared.world.event.Event.TheVariants.{Take, Ignore, Fail, Order}
use Rattle.zprotocol.specs.server.View.{ServerView, Transfer}
use Rattle.zprotocol.specs.server.Table as server
use Rattle.zprotocol.specs.server.support.Cases.{IsAccepted, IsRow, Processes, Forwards, Ignores, Submits, Updates}
use Rattle.zprotocol.specs.server.support.Cases.{Asks, Acknowledges, Shows, Turns, Follows, Leads, Ends}
use Rattle.zprotocol.proofs.server_lemmas.Cases.{server_case}
use Rattle.zprotocol.specs.master.Table as master
use Rattle.zprotocol.specs.world.Links.{is_same, without_front}
use Rattle.zprotocol.specs.world.Does.{Hear, master_effect, server_effect, stop_effect}
use Rattle.zprotocol.specs.world.Events.{is_enabled, did_in, does_in, front_step, acts}
use Rattle.zprotocol.specs.world.Keeping.{keeps}
use Rattle.zprotocol.proofs.world_lemmas.Effects.{by_choice}
use Rattle.zlinearizability.specs.legal.Prefix.{IsPrefix}
use Rattle.zlinearizability.specs.chain.Flow.{log_machine, LogWorld, LogMessage, Log, log_at}
use Rattle.zlinearizability.proofs.legal_lemmas.lists.Prefixes.{prefix_same, prefix_append, prefix_of}
use Rattle.zheads.proofs.Shown.{IsInside}

-- a log has grown, or is as it was
abbrev pub Grown : Log → Log → Type 0
Grown old new = (log : List Entry) → old ≡ Some log → (more : List Entry) × (new ≡ Some more) × IsPrefix log more

pub grown_same : (log : Log) → Grown log log
grown_same log own is = (own, is, prefix_same own)

-- from one world to another
pub record IsQuiet (v w : LogWorld) : Type 0 where
  pub history : w.history ≡ v.history
  pub silent : ((c : ℕ) (to : Process) → v.links (Client c) to ≡ []) → (c : ℕ) (to : Process) → w.links (Client c) to ≡ []
  pub grown : (s : ℕ) → Grown (log_at v s) (log_at w s)

pub quiet_same : (v : LogWorld) → IsQuiet v v
quiet_same v = record { history = refl; silent = λ h. h; grown = λ s. grown_same (log_at v s) }

pub quiet_both : (u v w : LogWorld) → IsQuiet u v → IsQuiet v w → IsQuiet u w
quiet_both u v w h k = record {
  history = k.history ∙ h.history;
  silent = λ none. k.silent (h.silent none);
  grown = λ s log is. let first = h.grown s log is in let second = k.grown s first.0 first.1 in
      (second.0, second.1, prefix_of log first.0 second.0 first.2 second.2);
}

drop_none : {A : Type 0} (b : Bool) (l : List A) → l ≡ [] → (if b then drop 1 l else l) ≡ []
drop_none true l is = ap (drop 1) is
drop_none false l is = is

pub quiet_pop : (v : LogWorld) (from to : Process) → IsQuiet v (record v { links = without_front v.links from to })
quiet_pop v from to = record {
  history = refl;
  silent = λ none c q. drop_none (is_same (Client c) from && is_same q to) (v.links (Client c) q) (none c q);
  grown = λ s. grown_same (log_at v s);
}

module _ {P : Type 0} (plain : Plain P) where
  -- a row lets a log grow
  accepted_grown : (v : ServerView (List Entry)) (mine : List Entry) (n : ℕ) (e : Entry) (r : server.ServerResult (List Entry))
      → IsAccepted (log_machine plain) v mine n e r → v.machine ≡ Some mine → Grown v.machine r.0.machine
  accepted_grown v mine n e r (Processes ends) has log is =
      let same : ◌≡◌ {A = Log} (Some mine) (Some log) = sym has ∙ is in
      (mine ++ e ∷ [], refl, subst (λ l. IsPrefix l (mine ++ e ∷ [])) (cc same) (prefix_append mine (e ∷ [])))
  accepted_grown v mine n e r (Forwards succ is_succ) has log is =
      let same : ◌≡◌ {A = Log} (Some mine) (Some log) = sym has ∙ is in
      (mine ++ e ∷ [], refl, subst (λ l. IsPrefix l (mine ++ e ∷ [])) (cc same) (prefix_append mine (e ∷ [])))

  row_grown : (v : ServerView (List Entry)) (from : Process) (m : LogMessage) (r : server.ServerResult (List Entry)) → IsRow (log_machine plain) v from m r
      → Grown v.machine r.0.machine
  row_grown v from m r (Ignores from' m') = grown_same v.machine
  row_grown v from m r (Submits c number update mine r' has head room did) = accepted_grown v mine (v.last + 1) _ r did has
  row_grown v from m r (Updates p epoch n e mine r' has pred next room did) = accepted_grown v mine n e r did has
  row_grown v from m r (Asks c number query mine has ends) = grown_same v.machine
  row_grown v from m r (Acknowledges t epoch n succ) = grown_same v.machine
  row_grown v from m r (Shows p epoch transfer none pred) = λ log is.
      absurd (let no : ◌≡◌ {A = Log} None (Some log) = sym none ∙ is in cc no)
  row_grown v from m r (Turns epoch p) = grown_same v.machine
  row_grown v from m r (Follows epoch t last mine has) = grown_same v.machine
  row_grown v from m r (Leads epoch) = grown_same v.machine
  row_grown v from m r (Ends epoch) = grown_same v.machine

  at_grown : (b : Bool) (old new : ServerView (List Entry)) (other : ServerView (List Entry)) → (b ≡ true → other ≡ old) → Grown old.machine new.machine
      → Grown other.machine (if b then new else other).machine
  at_grown true old new other is h = λ log has. h log (sym (ap (λ (x : ServerView (List Entry)). x.machine) (is refl)) ∙ has)
  at_grown false old new other is h = grown_same other.machine

  quiet_stop : (v : LogWorld) (s : ℕ) → IsQuiet v (did_in v (Server s) stop_effect)
  quiet_stop v s = record { history = refl; silent = λ none. none; grown = λ x. grown_same (log_at v x) }

  quiet_row : (v : LogWorld) (s : ℕ) (did : server.ServerResult (List Entry)) → Grown (v.servers s).machine did.0.machine
      → IsQuiet v (did_in v (Server s) (server_effect did))
  quiet_row v s did h = record {
    history = refl;
    silent = λ none. none;
    grown = λ x. at_grown (x == s) (v.servers s) did.0 (v.servers x) (λ t. ap v.servers (eqb-true x s t)) h;
  }

  pub quiet_server : (v : LogWorld) (from : Process) (s : ℕ) (m : LogMessage) → IsQuiet v (does_in (log_machine plain) v (Server s) (Hear from m))
  quiet_server v from s m =
      let did = server.server_step (log_machine plain) (v.servers s) from m in
      by_choice (IsQuiet v) (server.is_retirement from m) v (Server s) stop_effect (server_effect did) (quiet_stop v s)
      (quiet_row v s did (row_grown (v.servers s) from m did (server_case (log_machine plain) (v.servers s) from m)))

  quiet_master : (v : LogWorld) (did : master.MasterResult (Transfer (List Entry))) → IsQuiet v (did_in v Master (master_effect did))
  quiet_master v did = record { history = refl; silent = λ none. none; grown = λ x. grown_same (log_at v x) }

  -- a front is taken
  front_quiet : (v : LogWorld) (from to : Process) → IsInside to → (link : List LogMessage) → IsQuiet v (front_step (log_machine plain) v from to link)
  front_quiet v from to i [] = quiet_same v
  front_quiet v from Master i (m ∷ rest) =
      quiet_both v (record v { links = without_front v.links from Master }) _ (quiet_pop v from Master)
      (quiet_master (record v { links = without_front v.links from Master }) (master.master_step v.master from m))
  front_quiet v from (Server s) i (m ∷ rest) =
      quiet_both v (record v { links = without_front v.links from (Server s) }) _ (quiet_pop v from (Server s))
      (quiet_server (record v { links = without_front v.links from (Server s) }) from s m)
  front_quiet v from (Client c) i (m ∷ rest) = absurd i

  quiet_if : (b : Bool) (v w : LogWorld) → IsQuiet v w → IsQuiet v (if b then w else v)
  quiet_if true v w h = h
  quiet_if false v w h = quiet_same v

  -- an event
  pub take_quiet : (v : LogWorld) (from to : Process) → IsInside to → IsQuiet v (keeps (log_machine plain) v (Take from to))
  take_quiet v from to i = quiet_if (is_enabled v (Take from to)) v (acts (log_machine plain) v (Take from to)) (front_quiet v from to i (v.links from to))

  pub fail_quiet : (v : LogWorld) (s : ℕ) → IsQuiet v (keeps (log_machine plain) v (Fail s))
  fail_quiet v s = quiet_if (is_enabled v (Fail s)) v (acts (log_machine plain) v (Fail s)) (quiet_stop v s)

  pub order_quiet : (v : LogWorld) (order : _) → IsQuiet v (keeps (log_machine plain) v (Order order))
  order_quiet v order = quiet_if (is_enabled v (Order order)) v (acts (log_machine plain) v (Order order)) (quiet_master v (master.order_step v.master order))

  pub ignore_quiet : (v : LogWorld) (from to : Process) → IsQuiet v (keeps (log_machine plain) v (Ignore from to))
  ignore_quiet v from to = quiet_if (is_enabled v (Ignore from to)) v (acts (log_machine plain) v (Ignore from to)) (quiet_pop v from to)
