-- The event Take at a server, from a client.
use Rattle.std.specs.Prelude.{is_none}
use Rattle.std.proofs.Common.{◌≡◌, ◌⊎◌, ℕ, ◌+◌, true, false, if◌then◌else◌, List, [], ◌∷◌, ◌++◌, length, Option, Some}
use Rattle.std.proofs.Common.{None, refl, sym, ap, ◌∙◌, subst, inl, inr}
use Rattle.zcalls.specs.declared.call.Entry.{Entry}
use Rattle.zcalls.specs.Lists.{Among, ComesBefore}
use Rattle.zcalls.specs.Cached.{Plain}
use Rattle.zprotocol.specs.declared.message.Message.TheVariants as message
use Rattle.zprotocol.specs.declared.process.Process.{Process}
use Rattle.zprotocol.specs.declared.process.Process.TheVariants.{Server, Client}
use Rattle.zprotocol.specs.server.View.{ServerView, Neighbour}
use Rattle.zprotocol.specs.server.Table.{ServerResult}
use Rattle.zprotocol.specs.server.Table as server
use Rattle.zprotocol.specs.server.support.Cases.{IsAccepted, IsRow, Processes, Forwards, Ignores, Submits, Updates}
use Rattle.zprotocol.specs.server.support.Cases.{Asks, Acknowledges, Shows, Turns, Follows, Leads, Ends}
use Rattle.zprotocol.proofs.server_lemmas.Cases.{server_case}
use Rattle.zprotocol.specs.master.View.{members}
use Rattle.zprotocol.specs.declared.world.event.Event.TheVariants.{Take}
use Rattle.zprotocol.specs.world.Links.{without_front}
use Rattle.zprotocol.specs.world.Does.{Hear}
use Rattle.zprotocol.specs.world.Events.{does_in}
use Rattle.zlinearizability.specs.legal.Prefix.{IsPrefix}
use Rattle.zlinearizability.specs.legal.Items.{Item, new_items}
use Rattle.zlinearizability.proofs.legal_lemmas.lists.Tests.{left_of}
use Rattle.zlinearizability.proofs.legal_lemmas.lists.Prefixes.{prefix_same, prefix_append}
use Rattle.zlinearizability.specs.chain.Flow.{log_machine, LogWorld, LogMessage, Log, or_else, log_at, final_log_by, final_log}
use Rattle.zlinearizability.specs.chain.Flow.{first_snapshot_by, first_log, length_of}
use Rattle.zlinearizability.specs.chain.Last.{HasExactLast}
use Rattle.zlinearizability.specs.chain.Chain.{IsAhead}
use Rattle.zlinearizability.specs.chain.Messages.{IsJustified}
use Rattle.zlinearizability.specs.chain.Account.{Account, tail_log, committed_after, query_items_by, query_items_of_front, query_items, account_by}
use Rattle.zlinearizability.specs.chain.Sound.{IsSound, IsSoundAfter}
use Rattle.zlinearizability.proofs.chain_lemmas.links.Links.{at_same}
use Rattle.zlinearizability.proofs.chain_lemmas.places.Pairs.{log_member}
use Rattle.zlinearizability.proofs.chain_lemmas.tables.RowViews.{row_sent, row_begun, row_blank}
use Rattle.zlinearizability.proofs.chain_lemmas.places.Heads.{head_is_first}
use Rattle.zlinearizability.proofs.chain_lemmas.steps.Takes.{with_view, neighbours_stay}
use Rattle.zlinearizability.proofs.chain_lemmas.steps.Views.{IsGoodView}
use Rattle.zlinearizability.proofs.chain_lemmas.steps.ServerSteps.{account_with_puts, puts_at_once, account_with_view}
use Rattle.zlinearizability.proofs.chain_lemmas.steps.ServerSteps.{view_step_sound, view_step_begins, after_puts}
use Rattle.zlinearizability.proofs.servers_lemmas.ServerMessages.{accepted_puts}

-- an entry came to a head
pub record IsSubmitted (v : ServerView (List Entry)) (machine : Log) : Type 0 where
  pub log : List Entry
  pub entry : Entry
  pub has : v.machine ≡ Some log
  pub head : v.pred ≡ None
  pub new : machine ≡ Some (log ++ entry ∷ [])

module _ {P : Type 0} (plain : Plain P) where
  accepted_machine : (v : ServerView (List Entry)) (mine : List Entry) (n : ℕ) (e : Entry) (r : ServerResult (List Entry))
      → IsAccepted (log_machine plain) v mine n e r → r.0.machine ≡ Some (mine ++ e ∷ [])
  accepted_machine v mine n e r (Processes ends) = refl
  accepted_machine v mine n e r (Forwards succ is) = refl

  -- what a client's message makes of the log
  client_machine : (v : ServerView (List Entry)) (from : Process) (m : LogMessage) (r : ServerResult (List Entry))
      → IsRow (log_machine plain) v from m r → (c : ℕ) → from ≡ Client c
      → (r.0.machine ≡ v.machine) ⊎ IsSubmitted v r.0.machine
  client_machine v from m r (Ignores from' m') c is = inl refl
  client_machine v from m r (Submits d number update mine r' has head room did) c is =
      inr (record {
        log = mine;
        entry = record { client = d; number = number; update = update };
        has = has;
        head = head;
        new = accepted_machine v mine (v.last + 1) (record { client = d; number = number; update = update }) r did;
      })
  client_machine v from m r (Updates q epoch n e mine r' has pred next room did) c is = cc
  client_machine v from m r (Asks d number query mine has tail) c is = inl refl
  client_machine v from m r (Acknowledges t epoch n succ) c is = cc
  client_machine v from m r (Shows q epoch transfer none pred) c is = cc
  client_machine v from m r (Turns epoch q) c is = cc
  client_machine v from m r (Follows epoch t last mine has) c is = cc
  client_machine v from m r (Leads epoch) c is = cc
  client_machine v from m r (Ends epoch) c is = cc

module _ {P : Type 0} (plain : Plain P) (t : Account) (s : IsSound plain t) (c y : ℕ) (m : LogMessage) (rest : List LogMessage)
    (link : t.world.links (Client c) (Server y) ≡ m ∷ rest) (exact : HasExactLast (t.world.servers y)) (alive : t.world.failed y ≡ false) where
  abbrev w : LogWorld
  w = t.world

  abbrev old : ServerView (List Entry)
  old = t.world.servers y

  abbrev taken : ServerResult (List Entry)
  taken = server.server_step (log_machine plain) (t.world.servers y) (Client c) m

  abbrev w1 : LogWorld
  w1 = with_view t.world (Client c) y (server.server_step (log_machine plain) (t.world.servers y) (Client c) m).0

  row : IsRow (log_machine plain) old (Client c) m taken
  row = server_case (log_machine plain) old (Client c) m

  stay : (taken.0.pred ≡ old.pred) × (taken.0.succ ≡ old.succ)
  stay = neighbours_stay plain old (Client c) m taken row refl

  machine : (taken.0.machine ≡ old.machine) ⊎ IsSubmitted old taken.0.machine
  machine = client_machine plain old (Client c) m taken row c refl

  -- the message is justified
  pub justified : IsJustified w t.items (Client c) (Server y) m
  justified = s.justified (Client c) (Server y) m (subst (Among m) (sym link) (inl refl))

  same_final_log : (log : Log) (pred : Option Neighbour) → final_log_by w1 y log pred ≡ final_log_by w y log pred
  same_final_log log None = refl
  same_final_log log (Some pred) = refl

  same_first : (pred : Option Neighbour) → first_snapshot_by w1 y pred ≡ first_snapshot_by w y pred
  same_first None = refl
  same_first (Some pred) = refl

  ahead : (x : ℕ) → ComesBefore x y (members w.master) → (log : List Entry) → final_log w1 y ≡ Some log → IsAhead w x log
  ahead x before log is = elim (machine) [
    | inl same ↦ s.ordered x y before log
        (sym (same_final_log old.machine old.pred) ∙ (λ i. final_log_by w1 y (sym same i) (sym stay.0 i))
        ∙ sym (ap (λ (u : ServerView (List Entry)). final_log_by w1 y u.machine u.pred) (at_same y taken.0 w.servers)) ∙ is)
    | inr new ↦ absurd (head_is_first w s.line s.distinct y (log_member w s.blank s.live y alive new.log new.has) new.log new.has new.head x before)
  ]

  grows : (log : List Entry) → log_at w y ≡ Some log → (new : List Entry) × (taken.0.machine ≡ Some new) × IsPrefix log new
  grows log is = elim (machine) [
    | inl same ↦ (log, same ∙ is, prefix_same log)
    | inr new ↦ let e : Some new.log ≡ Some log = sym new.has ∙ is in
        (new.log ++ new.entry ∷ [], new.new, subst (λ l. IsPrefix l (new.log ++ new.entry ∷ [])) (cc e) (prefix_append new.log (new.entry ∷ [])))
  ]

  still_none : is_none old.machine ≡ true → is_none taken.0.machine ≡ true
  still_none h = elim (machine) [
    | inl same ↦ ap is_none same ∙ h
    | inr new ↦ let f : false ≡ true = sym (ap is_none new.has) ∙ h in absurd (cc f)
  ]

  -- the new view is good
  pub good_view : IsGoodView w (Client c) y taken.0
  good_view = record {
    pred = stay.0;
    succ = stay.1;
    grows = grows;
    ahead = ahead;
    blank = λ unused. row_blank plain old (Client c) m taken row refl (s.blank y unused).0;
    fresh = λ is. still_none (left_of (is_none old.machine) (is_none old.pred) is);
    sent = row_sent plain old (Client c) m taken row exact (s.sent y);
    begun = row_begun plain w t.items y old (Client c) m taken row justified (s.begun y);
  }

  now_shows : first_log w1 y ≡ or_else taken.0.machine (first_snapshot_by w y old.pred)
  now_shows =
      ap (λ (u : ServerView (List Entry)). or_else u.machine (first_snapshot_by w1 y u.pred)) (at_same y taken.0 w.servers)
      ∙ ap (λ pred. or_else taken.0.machine (first_snapshot_by w1 y pred)) stay.0 ∙ ap (or_else taken.0.machine) (same_first old.pred)

  -- what the taker shows first only grows
  pub shows : (log : List Entry) → first_log w1 y ≡ Some log → (shown : List Entry) × (first_log w y ≡ Some shown) × IsPrefix shown log
  shows log is = elim (machine) [
    | inl same ↦ (log, ap (λ l. or_else l (first_snapshot_by w y old.pred)) (sym same) ∙ sym now_shows ∙ is, prefix_same log)
    | inr new ↦
        let e : Some (new.log ++ new.entry ∷ []) ≡ Some log = sym (now_shows ∙ ap (λ l. or_else l (first_snapshot_by w y old.pred)) new.new) ∙ is in (
          new.log,
          ap (λ l. or_else l (first_snapshot_by w y old.pred)) new.has,
          subst (IsPrefix new.log) (cc e)
              (prefix_append new.log (new.entry ∷ [])),
        )
  ]

  -- where no query is answered
  module _ (silent : query_items_by plain w (Take (Client c) (Server y)) ≡ []) where
    row_puts : (from : Process) (m' : LogMessage) (r : ServerResult (List Entry)) → IsRow (log_machine plain) old from m' r → from ≡ Client c → m' ≡ m
        → IsJustified w t.items from (Server y) m'
        → IsSound plain (account_with_view plain t (Client c) y r.0)
        → IsSound plain (account_with_puts (account_with_view plain t (Client c) y r.0) y r.1)
    row_puts from m' r (Ignores from' m'') is is_m f sound = sound
    row_puts from m' r (Submits d number update mine r' has head room did) is is_m f sound =
        accepted_puts plain t (Client c) y mine (old.last + 1) (record { client = d; number = number; update = update }) r did
        (ap (λ l. l + 1) (exact ∙ ap length_of has)) (log_member w s.blank s.live y alive mine has) f (λ x k succ. s.successors y x k succ) sound
    row_puts from m' r (Updates q epoch n e mine r' has pred next room did) is is_m f sound = cc
    row_puts from m' r (Asks d number query mine has tail) is is_m f sound =
        let tail_is : tail_log old ≡ Some mine = ap (λ x. if is_none x then old.machine else None) tail ∙ has in
        let front : w.links (Client c) (Server y) ≡ message.Query number query ∷ rest = link ∙ ap (λ x. x ∷ rest) (sym is_m) in
        let answers = ap (query_items_of_front plain (length w.history) (tail_log old) c) front
        ∙ ap (λ l. query_items plain (length w.history) l c number query) tail_is in
        absurd (never (sym answers ∙ silent))
      where
        never : {x : Item} {xs : List Item} → ◌≡◌ {A = List Item} (x ∷ xs) [] → ⊥
        never h = cc h
    row_puts from m' r (Acknowledges x epoch n succ) is is_m f sound = cc
    row_puts from m' r (Shows q epoch transfer none pred) is is_m f sound = cc
    row_puts from m' r (Turns epoch q) is is_m f sound = cc
    row_puts from m' r (Follows epoch x last mine has) is is_m f sound = cc
    row_puts from m' r (Leads epoch) is is_m f sound = cc
    row_puts from m' r (Ends epoch) is is_m f sound = cc

    abbrev popped : LogWorld
    popped = record w { links = without_front w.links (Client c) (Server y) }

    is_account : account_with_puts (account_with_view plain t (Client c) y taken.0) y taken.1
        ≡ account_by plain t (Take (Client c) (Server y)) (does_in (log_machine plain) popped (Server y) (Hear (Client c) m))
    is_account =
        puts_at_once (account_with_view plain t (Client c) y taken.0) y taken.1
        ∙ (λ i.
        let committed : List Entry = committed_after (tail_log (sym (at_same y taken.0 w.servers) i)) t.committed in
        record {
          world = does_in (log_machine plain) popped (Server y) (Hear (Client c) m);
          committed = committed;
          items = t.items ++ (sym silent i ++ new_items plain (length w.history) t.committed committed);
        })

    -- the event, where no query is answered
    pub take_from_client : IsSoundAfter plain t (account_by plain t (Take (Client c) (Server y))
        (does_in (log_machine plain) popped (Server y) (Hear (Client c) m)))
    take_from_client = after_puts plain t (account_with_view plain t (Client c) y taken.0) _ y taken.1 is_account
        (row_puts (Client c) m taken row refl refl justified (view_step_sound plain t s (Client c) refl y taken.0 good_view shows alive))
        (view_step_begins plain t s (Client c) refl y taken.0 good_view shows alive)
