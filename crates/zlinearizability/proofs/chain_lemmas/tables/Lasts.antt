-- The number of the last entry is the length of the log.
use Rattle.std.proofs.Common.{◌≡◌, ℕ, ◌+◌, Bool, true, false, if◌then◌else◌, nat_lt, ◌==◌, List, [], ◌∷◌, ◌++◌, length}
use Rattle.std.proofs.Common.{length-append, Option, Some, None, refl, sym, ap, subst, ◌∙◌, inl, inr, arith}
use Rattle.zcalls.specs.declared.call.Entry.{Entry}
use Rattle.zcalls.specs.declared.reply.Reply.{Reply}
use Rattle.zcalls.specs.Cached.{Plain}
use Rattle.zcalls.specs.Lists.{Among}
use Rattle.zcalls.proofs.Among.{test}
use Rattle.zprotocol.specs.declared.message.Message.TheVariants as message
use Rattle.zprotocol.specs.declared.process.Process.{Process}
use Rattle.zprotocol.specs.declared.process.Process.TheVariants.{Master, Server, Client}
use Rattle.zprotocol.specs.server.View.{ServerView, Neighbour, Post, spare, opening_server}
use Rattle.zprotocol.specs.server.Table.{ServerResult, ack_posts, answer_posts, forward_post, entries_above, missing_posts, server_step, last_number}
use Rattle.zprotocol.specs.server.support.Cases.{IsAccepted, IsRow, Processes, Forwards, Ignores, Submits, Updates}
use Rattle.zprotocol.specs.server.support.Cases.{Asks, Acknowledges, Shows, Turns, Follows, Leads, Ends}
use Rattle.zprotocol.proofs.server_lemmas.Cases.{server_case}
use Rattle.zprotocol.specs.declared.world.event.Event.{Event}
use Rattle.zprotocol.specs.world.World.{opening_world}
use Rattle.zprotocol.specs.world.Events.{has_failed, run}
use Rattle.zprotocol.specs.world.Keeping.{keeps, run_keeping}
use Rattle.zprotocol.proofs.world_lemmas.Keeping.{run_lets_go}
use Rattle.zlinearizability.specs.chain.Flow.{log_machine, LogWorld, LogMessage, Log, length_of}
use Rattle.zlinearizability.specs.chain.Last.{HasExactLast, IsExact, LastsAreLengths}
use Rattle.zlinearizability.proofs.chain_lemmas.links.Links.{AllPosts, all_none, all_and, all_append, all_map}
use Rattle.zlinearizability.proofs.chain_lemmas.tables.OtherPosts.{IsOrder, IsRequest}
use Rattle.zlinearizability.proofs.chain_lemmas.tables.Everywhere.{keeps_all, run_all}

-- what is put
acks_exact : (pred : Option Neighbour) (n : ℕ) → AllPosts IsExact (ack_posts pred n)
acks_exact None n = all_none IsExact
acks_exact (Some pred) n = all_and IsExact (Server pred.0, message.Ack pred.1 n) [] tt (all_none IsExact)

answers_exact : (e : Entry) (reply : Option Reply) → AllPosts IsExact (answer_posts e reply)
answers_exact e None = all_none IsExact
answers_exact e (Some reply) = all_and IsExact (Client e.client, message.Answer e.number reply) [] tt (all_none IsExact)

module _ {P : Type 0} (plain : Plain P) where
  -- a log with one more entry, which has the next number
  longer : (log : List Entry) (e : Entry) (n last : ℕ) → n ≡ last + 1 → last ≡ length log → n ≡ length (log ++ e ∷ [])
  longer log e n last next is = let l : length (log ++ e ∷ []) ≡ length log + length (e ∷ []) = length-append log (e ∷ []) in omega arith

  accepted_exact : (v : ServerView (List Entry)) (log : List Entry) (n : ℕ) (e : Entry) (r : ServerResult (List Entry))
      → IsAccepted (log_machine plain) v log n e r
      → v.machine ≡ Some log → n ≡ v.last + 1 → HasExactLast v → HasExactLast r.0 × AllPosts IsExact r.1
  accepted_exact v log n e r (Processes ends) has next exact = (
    longer log e n v.last next (exact ∙ ap length_of has),
    all_append IsExact (answer_posts e _) (ack_posts v.pred n) (answers_exact e _) (acks_exact v.pred n),
  )
  accepted_exact v log n e r (Forwards succ is) has next exact =
      (longer log e n v.last next (exact ∙ ap length_of has), all_and IsExact (forward_post succ (n, e)) [] tt (all_none IsExact))

  lacks_exact : (v : ServerView (List Entry)) (log : List Entry) (succ : Neighbour) (last : Option ℕ) → v.last ≡ length log
      → AllPosts IsExact (missing_posts v log succ last)
  lacks_exact v log succ None is = all_and IsExact (Server succ.0, message.Snapshot succ.1 (record { last = v.last; machine = log }))
      [] is (all_none IsExact)
  lacks_exact v log succ (Some n) is = all_map IsExact (forward_post succ) (entries_above n v.sent) (λ x. tt)

  ends_exact : (v : ServerView (List Entry)) (machine : Log)
      → AllPosts IsExact (elim machine as (λ x. List (Post (List Entry))) [ None ↦ [] | Some m ↦ ack_posts v.pred v.last ])
  ends_exact v None = all_none IsExact
  ends_exact v (Some m) = acks_exact v.pred v.last

  row_exact : (v : ServerView (List Entry)) (from : Process) (m : LogMessage) (r : ServerResult (List Entry)) → IsRow (log_machine plain) v from m r
      → HasExactLast v → IsExact m → HasExactLast r.0 × AllPosts IsExact r.1
  row_exact v from m r (Ignores from' m') exact is = (exact, all_none IsExact)
  row_exact v from m r (Submits c number update log r' has head room did) exact is = accepted_exact v log (v.last + 1) _ r did has refl exact
  row_exact v from m r (Updates p epoch n e log r' has pred next room did) exact is = accepted_exact v log n e r did has next exact
  row_exact v from m r (Asks c number query log has tail) exact is =
      (exact, all_and IsExact (Client c, message.Answer number ((log_machine plain).ask log query)) [] tt (all_none IsExact))
  row_exact v from m r (Acknowledges t epoch n succ) exact is = (exact, acks_exact v.pred n)
  row_exact v from m r (Shows p epoch transfer none pred) exact is = (
    is,
    all_and IsExact (Server p, message.Ack epoch transfer.last) ((Master, message.Joined epoch) ∷ []) tt
        (all_and IsExact (Master, message.Joined epoch) [] tt (all_none IsExact)),
  )
  row_exact v from m r (Turns epoch p) exact is = (exact, all_and IsExact (Master, message.Have epoch (last_number v)) [] tt (all_none IsExact))
  row_exact v from m r (Follows epoch t last log has) exact is = (exact, lacks_exact v log (t, epoch) last (exact ∙ ap length_of has))
  row_exact v from m r (Leads epoch) exact is = (exact, all_none IsExact)
  row_exact v from m r (Ends epoch) exact is = (exact, ends_exact v v.machine)

  orders_exact : (m : LogMessage) → IsOrder m → IsExact m
  orders_exact (message.Snapshot epoch transfer) h = absurd h
  orders_exact m h = tt

  requests_exact : (m : LogMessage) → IsRequest m → IsExact m
  requests_exact (message.Snapshot epoch transfer) h = absurd h
  requests_exact m h = tt

  opening_exact : (servers s : ℕ) → HasExactLast (opening_server (log_machine plain) servers s)
  opening_exact servers s = elim (test (s == 0)) [
    | inl t ↦ rw t refl
    | inr f ↦ rw f (elim (test (nat_lt servers s)) [ inl t ↦ rw t refl | inr g ↦ rw g refl ])
  ]

  -- an event preserves that last numbers are the lengths of logs
  pub lasts_keep : (w : LogWorld) (event : Event) → LastsAreLengths w → LastsAreLengths (keeps (log_machine plain) w event)
  lasts_keep w event h =
      let all = keeps_all (log_machine plain) HasExactLast IsExact
      (λ v from m exact is. row_exact v from m (server_step (log_machine plain) v from m) (server_case (log_machine plain) v from m) exact is)
      orders_exact requests_exact tt w event (record { views = h.views; under_way = h.under_way }) in
      record { views = all.views; under_way = all.under_way }

  -- so does every list of events, from the opening
  pub lasts_kept : (servers clients : ℕ) (events : List Event)
      → LastsAreLengths (run_keeping (log_machine plain) (opening_world (log_machine plain) servers clients) events)
  lasts_kept servers clients events =
      let all = run_all (log_machine plain) HasExactLast IsExact
      (λ v from m exact is. row_exact v from m (server_step (log_machine plain) v from m) (server_case (log_machine plain) v from m) exact is)
      orders_exact requests_exact tt (opening_world (log_machine plain) servers clients) events
      (record { views = opening_exact servers; under_way = λ from to m a. absurd a }) in
      record { views = all.views; under_way = all.under_way }

  -- and what is left of failed servers
  left_exact : (b : Bool) (v : ServerView (List Entry)) → HasExactLast v → HasExactLast (if b then spare else v)
  left_exact true v exact = refl
  left_exact false v exact = exact

  link_exact : (b : Bool) (m : LogMessage) (link : List LogMessage) → Among m (if b then [] else link) → Among m link
  link_exact true m link a = absurd a
  link_exact false m link a = a

  pub lasts : (servers clients : ℕ) (events : List Event)
      → LastsAreLengths (run (log_machine plain) (opening_world (log_machine plain) servers clients) events)
  lasts servers clients events =
      let kept = run_keeping (log_machine plain) (opening_world (log_machine plain) servers clients) events in
      let all = lasts_kept servers clients events in
      subst LastsAreLengths (sym (run_lets_go (log_machine plain) servers clients events)) (record {
        views = λ s. left_exact (kept.failed s) (kept.servers s) (all.views s);
        under_way = λ from to m a. all.under_way from to m (link_exact (has_failed kept to) m (kept.links from to) a);
      })
