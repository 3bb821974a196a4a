-- The event Take at a tail, of a client's query: it becomes an item, and is answered.
use Rattle.std.specs.Prelude.{is_none}
use Rattle.std.proofs.Common.{◌≡◌, ℕ, ◌≤◌, true, false, List, [], ◌∷◌, ◌++◌, length, take, Option, Some, None, refl}
use Rattle.std.proofs.Common.{sym, ap, ◌∙◌, subst, inl, inr, append-nil, arith}
use Rattle.std.proofs.Math.Seq.{drop-length, take-length}
use Rattle.zcalls.specs.declared.call.Call.TheVariants as call
use Rattle.zcalls.specs.declared.call.Entry.{Entry}
use Rattle.zcalls.specs.declared.call.Query.{Query}
use Rattle.zcalls.specs.declared.reply.Reply.{Reply}
use Rattle.zcalls.specs.Cached.{nothing_cached, Plain}
use Rattle.zcalls.specs.Acts.{after_log, acts_from}
use Rattle.zprotocol.specs.declared.message.Message.TheVariants as message
use Rattle.zprotocol.specs.declared.process.Process.TheVariants.{Server, Client}
use Rattle.zprotocol.specs.server.Machine.{Does}
use Rattle.zprotocol.specs.server.View.{ServerView, Neighbour}
use Rattle.zprotocol.specs.server.Table.{ServerResult, query_row}
use Rattle.zprotocol.specs.server.Table as server
use Rattle.zprotocol.proofs.server_lemmas.Fields.{view_of}
use Rattle.zprotocol.specs.declared.world.event.Event.TheVariants.{Take}
use Rattle.zprotocol.specs.world.History.{HasBegun}
use Rattle.zprotocol.specs.world.Links.{without_front}
use Rattle.zprotocol.specs.world.World.{at}
use Rattle.zprotocol.specs.world.Does.{Hear, server_effect}
use Rattle.zprotocol.specs.world.Events.{did_in, does_in}
use Rattle.zprotocol.specs.world.PlainTree.{service_of}
use Rattle.zlinearizability.specs.legal.Items.{Item, updates_of, Replays, AreBegunInTime, all_at_time, new_items}
use Rattle.zlinearizability.specs.legal.Prefix.{IsPrefix}
use Rattle.zlinearizability.proofs.legal_lemmas.lists.Members.{among_last, among_left, among_mid}
use Rattle.zlinearizability.proofs.legal_lemmas.lists.Distinct.{pairwise_last}
use Rattle.zlinearizability.proofs.legal_lemmas.lists.Prefixes.{prefix_same}
use Rattle.zlinearizability.proofs.legal_lemmas.order.LegalOrders.{in_time_more}
use Rattle.zlinearizability.proofs.legal_lemmas.acts.ActedLogs.{after_items, after_calls, acted_leads, items_lead, replays_more}
use Rattle.zlinearizability.proofs.legal_lemmas.acts.NewItems.{updates_more}
use Rattle.zlinearizability.specs.chain.Flow.{log_machine, LogWorld, LogMessage, Log, first_log}
use Rattle.zlinearizability.specs.chain.Last.{HasExactLast}
use Rattle.zlinearizability.specs.chain.Chain.{IsMember}
use Rattle.zlinearizability.specs.chain.Account.{Account, tail_log, committed_after, query_items_by, query_items_of_front, query_items, account_by}
use Rattle.zlinearizability.specs.chain.Sound.{IsSound, IsSoundAfter, TailHoldsCommitted}
use Rattle.zlinearizability.proofs.chain_lemmas.links.Links.{at_same, at_cases}
use Rattle.zlinearizability.proofs.chain_lemmas.places.Pairs.{log_member}
use Rattle.zlinearizability.proofs.chain_lemmas.steps.Puts.{account_with_put, put_unread, unread_foreign}
use Rattle.zlinearizability.proofs.chain_lemmas.steps.Takes.{with_view, committed_view}
use Rattle.zlinearizability.proofs.chain_lemmas.steps.Views.{IsGoodView, view_sound}
use Rattle.zlinearizability.proofs.chain_lemmas.steps.ServerSteps.{tail_log_is}
use Rattle.zlinearizability.proofs.servers_lemmas.ClientMessages.{good_view, shows, justified}

-- what a tail does with a query
query_by : (does : Does (List Entry)) (machine : Log) (last : ℕ) (sent : List (ℕ × Entry)) (pred succ : Option Neighbour)
    (c number : ℕ) (query : Query) (log : List Entry)
    → machine ≡ Some log → is_none succ ≡ true
    → query_row does (view_of machine last sent pred succ) c number query
    ≡ (view_of machine last sent pred succ, (Client c, message.Answer number (does.ask log query)) ∷ [])
unfolding query_row
query_by does None last sent pred succ c number query log has ends = absurd (cc has)
query_by does (Some mine) last sent pred (Some succ) c number query log has ends = absurd (cc ends)
query_by does (Some mine) last sent pred None c number query log has ends =
    let same : mine ≡ log = cc has in λ i. (view_of (Some mine) last sent pred None, (Client c, message.Answer number (does.ask (same i) query)) ∷ [])

query_taken : (does : Does (List Entry)) (v : ServerView (List Entry)) (c number : ℕ) (query : Query) (log : List Entry)
    → v.machine ≡ Some log → is_none v.succ ≡ true
    → server.server_step does v (Client c) (message.Query number query) ≡ (v, (Client c, message.Answer number (does.ask log query)) ∷ [])
unfolding server.server_step
query_taken does v c number query log has ends = query_by does v.machine v.last v.sent v.pred v.succ c number query log has ends

module _ {P : Type 0} (plain : Plain P) (t : Account) (s : IsSound plain t) (c y number : ℕ) (query : Query) (rest : List LogMessage)
    (link : t.world.links (Client c) (Server y) ≡ message.Query number query ∷ rest) (exact : HasExactLast (t.world.servers y))
    (alive : t.world.failed y ≡ false)
    (log : List Entry) (is_tail : tail_log (t.world.servers y) ≡ Some log) where
  abbrev w : LogWorld
  w = t.world

  abbrev old : ServerView (List Entry)
  old = t.world.servers y

  abbrev m : LogMessage
  m = message.Query number query

  abbrev reply : Reply
  reply = plain.ask (after_log plain log).plain query

  abbrev item : Item
  item = record {
    operation = record { client = c; number = number; call = call.Query query };
    reply = plain.ask
        (after_log plain log).plain query;
    time = length t.world.history;
  }

  abbrev taken : ServerResult (List Entry)
  taken = server.server_step (log_machine plain) (t.world.servers y) (Client c) (message.Query number query)

  tail : (old.machine ≡ Some log) × (is_none old.succ ≡ true)
  tail = tail_log_is old log is_tail

  does : ◌≡◌ {A = ServerResult (List Entry)} taken (old, (Client c, message.Answer number reply) ∷ [])
  does = query_taken (log_machine plain) old c number query log tail.0 tail.1

  -- the tail holds what is committed
  is_committed : log ≡ t.committed
  is_committed = s.tail y log (log_member w s.blank s.live y alive log tail.0) tail.0 tail.1

  good : IsGoodView w (Client c) y old
  good = subst (IsGoodView w (Client c) y) (ap (λ (r : ServerResult (List Entry)). r.0) does) (good_view plain t s c y m rest link exact alive)

  tail_holds : TailHoldsCommitted (with_view w (Client c) y old) t.committed
  tail_holds z l member is ends =
      at_cases (λ u. u.machine ≡ Some l → is_none u.succ ≡ true → l ≡ t.committed) y old w.servers z
      (λ e a b. s.tail y l (subst (IsMember w) e member) a b) (λ f. s.tail z l member) is ends

  -- the query is answered from the tree at the end of the list
  replays : Replays (service_of plain) plain.opening (t.items ++ item ∷ [])
  replays =
      let leads : after_items plain plain.opening t.items ≡ (after_log plain log).plain =
      items_lead plain plain.opening t.items ∙ ap (after_calls plain plain.opening) s.acted
      ∙ acted_leads plain (nothing_cached plain.opening) t.committed
      ∙ ap (λ l. (after_log plain l).plain) (sym is_committed) in
      replays_more plain plain.opening t.items (item ∷ []) s.replays (ap (λ p. plain.ask p query) leads, tt)

  in_time : AreBegunInTime w.history (t.items ++ item ∷ [])
  in_time i a = elim (among_last i t.items item a) [
    | inl b ↦ s.in_time i b
    | inr e ↦ subst (λ j. (j.time ≤ length w.history) × HasBegun (take j.time w.history) j.operation) e
        (omega arith, subst (λ h. HasBegun h item.operation) (sym (take-length w.history)) (justified plain t s c y m rest link exact alive))
  ]

  -- the step of the view
  abbrev asked_account : Account
  asked_account = record { world = with_view t.world (Client c) y (t.world.servers y); committed = t.committed; items = t.items ++ item ∷ [] }

  asked_sound : IsSound plain asked_account
  asked_sound = view_sound plain t s (Client c) refl y old good t.committed (t.items ++ item ∷ [])
      (λ i a. among_left i t.items (item ∷ []) a) (record {
        shown = committed_view w (Client c) y old t.committed
            (subst (λ v. (l : List Entry) → first_log (with_view w (Client c) y v) y ≡ Some l
            → (shown : List Entry) × (first_log w y ≡ Some shown) × IsPrefix shown l)
            (ap (λ (r : ServerResult (List Entry)). r.0) does) (shows plain t s c y m rest link exact alive)) s.committed;
        tail = tail_holds;
        committed_begun = s.committed_begun;
        acted = updates_more t.items (item ∷ []) ∙ append-nil (updates_of t.items) ∙ s.acted;
        replays = replays;
        rising = pairwise_last (λ i j. i.time ≤ j.time) t.items item s.rising (λ i a. (s.in_time i a).0);
        in_time = in_time;
        answered = in_time_more t.items (t.items ++ item ∷ []) (λ i a. among_left i t.items (item ∷ []) a) 0 w.history s.answered;
      })

  -- and the answer
  answered_sound : IsSound plain (account_with_put asked_account y (Client c) (message.Answer number reply))
  answered_sound =
      put_unread plain asked_account y (Client c) (message.Answer number reply) (unread_foreign (message.Answer number reply) tt)
      (item, among_mid item t.items [], (refl, refl, refl)) asked_sound

  abbrev popped : LogWorld
  popped = record t.world { links = without_front t.world.links (Client c) (Server y) }

  same_committed : committed_after (tail_log (at y taken.0 w.servers y)) t.committed ≡ t.committed
  same_committed =
      ap (λ v. committed_after (tail_log v) t.committed) (at_same y taken.0 w.servers ∙ ap (λ (r : ServerResult (List Entry)). r.0) does)
      ∙ ap (λ l. committed_after l t.committed) is_tail ∙ is_committed

  is_asked : query_items_by plain w (Take (Client c) (Server y)) ≡ item ∷ []
  is_asked = ap (query_items_of_front plain (length w.history) (tail_log old) c) link
      ∙ ap (λ l. query_items plain (length w.history) l c number query) is_tail

  nothing_new : new_items plain (length w.history) t.committed (committed_after (tail_log (at y taken.0 w.servers y)) t.committed) ≡ []
  nothing_new =
      ap (new_items plain (length w.history) t.committed) same_committed
      ∙ ap (λ es. all_at_time (length w.history) (acts_from plain.update (after_log plain t.committed) es)) (drop-length t.committed)

  is_account : account_with_put asked_account y (Client c) (message.Answer number reply)
      ≡ account_by plain t (Take (Client c) (Server y)) (does_in (log_machine plain) popped (Server y) (Hear (Client c) m))
  is_account = λ i. record {
    world = did_in popped (Server y) (server_effect (sym does i));
    committed = sym same_committed i;
    items = t.items ++ (sym is_asked i ++ sym nothing_new i);
  }

  -- the event
  pub take_query : IsSoundAfter plain t (account_by plain t (Take (Client c) (Server y))
      (does_in (log_machine plain) popped (Server y) (Hear (Client c) m)))
  take_query = (subst (IsSound plain) is_account answered_sound, subst (IsPrefix t.committed) (sym same_committed) (prefix_same t.committed))
