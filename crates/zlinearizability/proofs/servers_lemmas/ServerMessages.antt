-- The event Take at a server, from another server: what is put after the new view.
use Rattle.std.specs.Prelude.{is_none}
use Rattle.std.proofs.Common.{◌≡◌, ℕ, ◌+◌, false, if◌then◌else◌, List, [], ◌∷◌, ◌++◌, length, Some, None, refl, sym, ap, ◌∙◌, subst, inl, inr}
use Rattle.zcalls.specs.declared.call.Entry.{Entry}
use Rattle.zcalls.specs.declared.reply.Reply.{Reply}
use Rattle.zcalls.specs.Lists.{Among}
use Rattle.zcalls.specs.Cached.{Plain}
use Rattle.zcalls.specs.Operation.{operation_of}
use Rattle.zcalls.specs.Acts.{acts_of}
use Rattle.zcalls.proofs.Among.{among_cases}
use Rattle.zcalls.proofs.ActedLogs.{reply_is_acted}
use Rattle.zprotocol.specs.declared.message.Message.TheVariants as message
use Rattle.zprotocol.specs.declared.process.Process.{Process}
use Rattle.zprotocol.specs.declared.process.Process.TheVariants.{Master, Server}
use Rattle.zprotocol.specs.server.View.{ServerView, Post}
use Rattle.zprotocol.specs.server.Table.{ServerResult, ack_posts, answer_posts}
use Rattle.zprotocol.specs.server.Table as server
use Rattle.zprotocol.specs.server.support.Cases.{IsAccepted, IsRow, Processes, Forwards, Ignores, Submits, Updates}
use Rattle.zprotocol.specs.server.support.Cases.{Asks, Acknowledges, Shows, Turns, Follows, Leads, Ends}
use Rattle.zprotocol.proofs.server_lemmas.Cases.{server_case}
use Rattle.zprotocol.specs.declared.world.event.Event.TheVariants.{Take}
use Rattle.zprotocol.specs.world.History.{HasBegun}
use Rattle.zprotocol.specs.world.Links.{without_front}
use Rattle.zprotocol.specs.world.Does.{Hear}
use Rattle.zprotocol.specs.world.Events.{does_in}
use Rattle.zlinearizability.specs.legal.Items.{Item, IsGiven, new_items}
use Rattle.zlinearizability.proofs.legal_lemmas.acts.NewItems.{update_among}
use Rattle.zlinearizability.specs.chain.Flow.{log_machine, LogWorld, LogMessage, length_of}
use Rattle.zlinearizability.specs.chain.Last.{HasExactLast}
use Rattle.zlinearizability.specs.chain.Chain.{IsMember, IsOpened}
use Rattle.zlinearizability.specs.chain.Messages.{IsJustified}
use Rattle.zlinearizability.specs.chain.Account.{Account, tail_log, committed_after, account_by}
use Rattle.zlinearizability.specs.chain.Sound.{IsSound, IsSoundAfter}
use Rattle.zlinearizability.proofs.chain_lemmas.links.Links.{at_same}
use Rattle.zlinearizability.proofs.chain_lemmas.places.Pairs.{log_member}
use Rattle.zlinearizability.proofs.chain_lemmas.steps.Sends.{put_sent}
use Rattle.zlinearizability.proofs.chain_lemmas.steps.ServerSteps.{account_with_puts, puts_at_once, puts_unread, acks_unread}
use Rattle.zlinearizability.proofs.chain_lemmas.steps.ServerSteps.{answers_unread, account_with_view, view_step_sound}
use Rattle.zlinearizability.proofs.chain_lemmas.steps.ServerSteps.{view_step_begins, after_puts, IsUnreadAndJustified}
use Rattle.zlinearizability.proofs.servers_lemmas.ServerViews.{good_view, good_first_log}

-- the view after an entry was accepted where there is no successor commits the entry
module _ {P : Type 0} (plain : Plain P) where
  -- the reply to a committed entry is that of an item
  pub reply_given : (t : Account) → IsSound plain t → (mine : List Entry) (e : Entry) (reply : Reply) → t.committed ≡ mine ++ e ∷ []
      → ((log_machine plain).apply mine e).1 ≡ Some reply → IsGiven t.items e.client e.number reply
  reply_given t s mine e reply is has =
      let found = reply_is_acted plain mine e reply has in
      let there = subst (Among (found.0, reply)) (sym (s.acted ∙ ap (acts_of plain) is)) found.3 in
      let m = update_among t.items (found.0, reply) there in
      (m.0, m.1, (ap (λ x. x.0.client) m.2 ∙ found.1, ap (λ x. x.0.number) m.2 ∙ found.2, ap (λ x. x.1) m.2))

  -- an accepted entry: its answer and acknowledgement, or its forwarding
  pub accepted_puts : (t : Account) (from : Process) (y : ℕ) (mine : List Entry) (n : ℕ) (e : Entry) (r : ServerResult (List Entry))
      → IsAccepted (log_machine plain) (t.world.servers y) mine n e r → n ≡ length mine + 1
      → IsMember t.world y → HasBegun t.world.history (operation_of e)
      → ((x k : ℕ) → (t.world.servers y).succ ≡ Some (x, k) → IsOpened (account_with_view plain t from y r.0).world x k)
      → IsSound plain (account_with_view plain t from y r.0) → IsSound plain (account_with_puts (account_with_view plain t from y r.0) y r.1)
  accepted_puts t from y mine n e r (Processes ends) next member begun opened s =
      let after : Account = account_with_view plain t from y
      (record (t.world.servers y) { machine = Some ((log_machine plain).apply mine e).0; last = n }) in
      let all : after.committed ≡ mine ++ e ∷ [] = ap (λ x. committed_after (if is_none x then Some (mine ++ e ∷ []) else None) t.committed) ends in
      puts_unread plain after y (answer_posts e ((log_machine plain).apply mine e).1 ++ ack_posts (t.world.servers y).pred n)
      (λ post a. elim (among_cases post (answer_posts e ((log_machine plain).apply mine e).1) (ack_posts (t.world.servers y).pred n) a) [
        | inl b ↦ answers_unread after.world after.items y e ((log_machine plain).apply mine e).1
            (λ reply is. reply_given after s mine e reply all is) post b
        | inr c ↦ acks_unread after.world after.items y (t.world.servers y).pred n post c
      ]) s
  accepted_puts t from y mine n e r (Forwards succ is) next member begun opened s =
      let v : ServerView (List Entry) = record (t.world.servers y) {
        machine = Some (mine ++ e ∷ []);
        last = n;
        sent =
            (t.world.servers y).sent ++ (n, e) ∷ [];
      } in
      put_sent plain (account_with_view plain t from y v) y member (mine ++ e ∷ [])
      (ap (λ (u : ServerView (List Entry)). u.machine) (at_same y v t.world.servers)) succ.0 succ.1 n e (mine, [], refl, next)
      (opened succ.0 succ.1 is) begun s

module _ {P : Type 0} (plain : Plain P) (t : Account) (s : IsSound plain t) (p y : ℕ) (m : LogMessage) (rest : List LogMessage)
    (link : t.world.links (Server p) (Server y) ≡ m ∷ rest) (exact : HasExactLast (t.world.servers y)) (alive : t.world.failed y ≡ false) where
  abbrev w : LogWorld
  w = t.world

  abbrev taken : ServerResult (List Entry)
  taken = server.server_step (log_machine plain) (t.world.servers y) (Server p) m

  row_puts : (from : Process) (m' : LogMessage) (r : ServerResult (List Entry)) → IsRow (log_machine plain) (w.servers y) from m' r → from ≡ Server p
      → IsJustified w t.items from (Server y) m'
      → IsSound plain (account_with_view plain t (Server p) y r.0)
      → IsSound plain (account_with_puts (account_with_view plain t (Server p) y r.0) y r.1)
  row_puts from m' r (Ignores from' m'') is justified sound = sound
  row_puts from m' r (Submits c number update mine r' has head room did) is justified sound = cc
  row_puts from m' r (Updates q epoch n e mine r' has pred next room did) is justified sound =
      accepted_puts plain t (Server p) y mine n e r did (next ∙ ap (λ l. l + 1) (exact ∙ ap length_of has))
      (log_member w s.blank s.live y alive mine has) justified.1
      (λ x k succ. s.successors y x k succ) sound
  row_puts from m' r (Asks c number query mine has tail) is justified sound = cc
  row_puts from m' r (Acknowledges q epoch n succ) is justified sound =
      let v : ServerView (List Entry) = record (w.servers y) { sent = server.entries_above n (w.servers y).sent } in
      let after = account_with_view plain t (Server p) y v in
      puts_unread plain after y (ack_posts (w.servers y).pred n) (λ post a. acks_unread after.world after.items y (w.servers y).pred n post a) sound
  row_puts from m' r (Shows q epoch transfer none pred) is justified sound =
      let v : ServerView (List Entry) = record (w.servers y) { machine = Some transfer.machine; last = transfer.last; sent = [] } in
      let after = account_with_view plain t (Server p) y v in
      puts_unread plain after y ((Server q, message.Ack epoch transfer.last) ∷ (Master, message.Joined epoch) ∷ [])
      (two after.world after.items q epoch transfer.last) sound
    where
      two : (u : LogWorld) (items : List Item) (q epoch last : ℕ) (post : Post (List Entry))
          → Among post ((Server q, message.Ack epoch last) ∷ (Master, message.Joined epoch) ∷ [])
          → IsUnreadAndJustified u items y post
      two u items q epoch last post (inl e) = subst (IsUnreadAndJustified u items y) e (tt, tt)
      two u items q epoch last post (inr (inl e)) = subst (IsUnreadAndJustified u items y) e (tt, tt)
      two u items q epoch last post (inr (inr a)) = absurd a
  row_puts from m' r (Turns epoch q) is justified sound = cc
  row_puts from m' r (Follows epoch x last mine has) is justified sound = cc
  row_puts from m' r (Leads epoch) is justified sound = cc
  row_puts from m' r (Ends epoch) is justified sound = cc

  all_puts : IsSound plain (account_with_puts (account_with_view plain t (Server p) y taken.0) y taken.1)
  all_puts =
      row_puts (Server p) m taken (server_case (log_machine plain) (w.servers y) (Server p) m) refl
      (s.justified (Server p) (Server y) m (subst (Among m) (sym link) (inl refl)))
      (view_step_sound plain t s (Server p) refl y taken.0 (good_view plain t s p y m rest link exact)
      (good_first_log plain t s p y m rest link exact) alive)

  -- the whole step
  abbrev popped : LogWorld
  popped = record w { links = without_front w.links (Server p) (Server y) }

  is_account : account_with_puts (account_with_view plain t (Server p) y taken.0) y taken.1
      ≡ account_by plain t (Take (Server p) (Server y)) (does_in (log_machine plain) popped (Server y) (Hear (Server p) m))
  is_account =
      puts_at_once (account_with_view plain t (Server p) y taken.0) y taken.1
      ∙ (λ i.
      let committed : List Entry = committed_after (tail_log (sym (at_same y taken.0 w.servers) i)) t.committed in
      record {
        world = does_in (log_machine plain) popped (Server y) (Hear (Server p) m);
        committed = committed;
        items = t.items ++ new_items plain (length w.history) t.committed committed;
      })

  -- the event
  pub take_from_server : IsSoundAfter plain t (account_by plain t (Take (Server p) (Server y))
      (does_in (log_machine plain) popped (Server y) (Hear (Server p) m)))
  take_from_server = after_puts plain t (account_with_view plain t (Server p) y taken.0) _ y taken.1 is_account all_puts
      (view_step_begins plain t s (Server p) refl y taken.0 (good_view plain t s p y m rest link exact)
      (good_first_log plain t s p y m rest link exact) alive)
