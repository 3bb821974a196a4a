-- No server but a tail answers.
use mathlib.Core.Bool.{true≢false}
use Rattle.std.proofs.Common.{◌≡◌, refl, sym, ◌∙◌, ℕ, ◌+◌, Bool, true, false, ◌==◌, Option, None, Some, List, [], ◌∷◌, map}
use Rattle.std.specs.Prelude.{if◌then◌else◌}
use Rattle.std.specs.List.{list_any}
use Rattle.zcalls.specs.declared.call.Entry.{Entry}
use Rattle.zcalls.specs.declared.call.Query.{Query}
use Rattle.zcalls.specs.declared.call.Update.{Update}
use Rattle.zprotocol.specs.declared.message.Message.TheVariants as message
use Rattle.zprotocol.specs.declared.process.Process.TheVariants.{Master, Server, Client}
use Rattle.zprotocol.specs.server.Machine.{Does}
use Rattle.zprotocol.specs.server.View.{ServerView, Neighbour, Transfer, Post, is_tail}
use Rattle.zprotocol.specs.server.Table.{ServerResult, no_effect, is_neighbour, has_room, ack_posts, forward_post, entries_above, accept_result, submit_row, query_row, update_row, ack_row, snapshot_row, new_pred_row, new_succ_row, become_head_row, become_tail_row, server_step}
use Rattle.zprotocol.specs.server.Laws.{is_answer, OnlyTailsAnswer}
use Rattle.zprotocol.proofs.server_lemmas.Fields.{view_of}

-- whether a call is answered
abbrev answers_some : {M : Type 0} → List (Post M) → Bool
answers_some posts = list_any (λ post. is_answer post.1) posts

module _ {M : Type 0} (d : Does M) where
  -- where no one is answered there is nothing to show
  nobody : (v : ServerView M) (posts : List (Post M)) → answers_some posts ≡ false → answers_some posts ≡ true → is_tail v ≡ true
  nobody v posts none some = absurd (true≢false (sym some ∙ none))

  -- neither side of a condition answers
  if_quiet : (b : Bool) (x y : ServerResult M) → answers_some x.1 ≡ false → answers_some y.1 ≡ false → answers_some (if b then x else y).1 ≡ false
  if_quiet true x y p q = p
  if_quiet false x y p q = q

  acks_quiet : (pred : Option Neighbour) (n : ℕ) → answers_some {M = M} (ack_posts pred n) ≡ false
  acks_quiet None n = refl
  acks_quiet (Some pred) n = refl

  forwards_quiet : (succ : Neighbour) (sent : List (ℕ × Entry)) → answers_some {M = M} (map (forward_post succ) sent) ≡ false
  forwards_quiet succ [] = refl
  forwards_quiet succ (first ∷ sent) = forwards_quiet succ sent

  -- one row after the other
  submit : (machine : Option M) (last : ℕ) (sent : List (ℕ × Entry)) (pred succ : Option Neighbour) (c number : ℕ) (update : Update)
      → answers_some (submit_row d (view_of machine last sent pred succ) c number update).1 ≡ true → is_tail (view_of machine last sent pred succ) ≡ true
  unfolding submit_row accept_result
  submit None last sent pred succ c number update h = h
  submit (Some m) last sent pred None c number update h = refl
  submit (Some m) last sent (Some pred) (Some succ) c number update h = h
  submit (Some m) last sent None (Some succ) c number update h =
      let v : ServerView M = view_of (Some m) last sent None (Some succ) in
      let entry : Entry = record { client = c; number = number; update = update } in
      sym (if_quiet (has_room v) (accept_result d v m (last + 1) entry) (no_effect v) refl refl) ∙ h

  query : (machine : Option M) (last : ℕ) (sent : List (ℕ × Entry)) (pred succ : Option Neighbour) (c number : ℕ) (q : Query)
      → answers_some (query_row d (view_of machine last sent pred succ) c number q).1 ≡ true → is_tail (view_of machine last sent pred succ) ≡ true
  unfolding query_row
  query None last sent pred succ c number q h = h
  query (Some m) last sent pred None c number q h = refl
  query (Some m) last sent pred (Some succ) c number q h = h

  update : (machine : Option M) (last : ℕ) (sent : List (ℕ × Entry)) (pred succ : Option Neighbour) (p epoch n : ℕ) (entry : Entry)
      → answers_some (update_row d (view_of machine last sent pred succ) p epoch n entry).1 ≡ true → is_tail (view_of machine last sent pred succ) ≡ true
  unfolding update_row accept_result
  update None last sent pred succ p epoch n entry h = h
  update (Some m) last sent pred None p epoch n entry h = refl
  update (Some m) last sent pred (Some succ) p epoch n entry h =
      let v : ServerView M = view_of (Some m) last sent pred (Some succ) in
      let did : ServerResult M = accept_result d v m n entry in
      sym (if_quiet (is_neighbour pred p epoch)
      (if n == last + 1 then if has_room v then did else no_effect v else no_effect v) (no_effect v)
      (if_quiet (n == last + 1) (if has_room v then did else no_effect v) (no_effect v) (if_quiet (has_room v) did (no_effect v) refl refl) refl) refl) ∙ h

  ack : (v : ServerView M) (t epoch n : ℕ) → answers_some (ack_row v t epoch n).1 ≡ false
  unfolding ack_row
  ack v t epoch n = if_quiet (is_neighbour v.succ t epoch) (record v { sent = entries_above n v.sent }, ack_posts v.pred n) (no_effect v) (acks_quiet v.pred n) refl

  snapshot : (machine : Option M) (last : ℕ) (sent : List (ℕ × Entry)) (pred succ : Option Neighbour) (p epoch : ℕ) (transfer : Transfer M)
      → answers_some (snapshot_row (view_of machine last sent pred succ) p epoch transfer).1 ≡ false
  unfolding snapshot_row
  snapshot (Some m) last sent pred succ p epoch transfer = refl
  snapshot None last sent pred succ p epoch transfer =
      if_quiet (is_neighbour pred p epoch)
      (view_of (Some transfer.machine) transfer.last [] pred succ, (Server p, message.Ack epoch transfer.last) ∷ (Master, message.Joined epoch) ∷ []) (no_effect (view_of None last sent pred succ))
      refl refl

  new_pred : (v : ServerView M) (epoch p : ℕ) → answers_some (new_pred_row v epoch p).1 ≡ false
  unfolding new_pred_row
  new_pred v epoch p = refl

  new_succ : (machine : Option M) (last : ℕ) (sent : List (ℕ × Entry)) (pred succ : Option Neighbour) (epoch t : ℕ) (has : Option ℕ)
      → answers_some (new_succ_row (view_of machine last sent pred succ) epoch t has).1 ≡ false
  unfolding new_succ_row
  new_succ None last sent pred succ epoch t has = refl
  new_succ (Some m) last sent pred succ epoch t None = refl
  new_succ (Some m) last sent pred succ epoch t (Some n) = forwards_quiet (t, epoch) (entries_above n sent)

  new_head : (v : ServerView M) → answers_some (become_head_row v).1 ≡ false
  unfolding become_head_row
  new_head v = refl

  new_tail : (machine : Option M) (last : ℕ) (sent : List (ℕ × Entry)) (pred succ : Option Neighbour)
      → answers_some (become_tail_row (view_of machine last sent pred succ)).1 ≡ false
  unfolding become_tail_row
  new_tail None last sent pred succ = refl
  new_tail (Some m) last sent pred succ = acks_quiet pred last

  -- the table
  pub only_tails_answer : OnlyTailsAnswer d
  unfolding server_step
  only_tails_answer v (Client c) (message.Submit number u) h = submit v.machine v.last v.sent v.pred v.succ c number u h
  only_tails_answer v (Client c) (message.Query number q) h = query v.machine v.last v.sent v.pred v.succ c number q h
  only_tails_answer v (Server p) (message.Update epoch n entry) h = update v.machine v.last v.sent v.pred v.succ p epoch n entry h
  only_tails_answer v (Server t) (message.Ack epoch n) h = nobody v (ack_row v t epoch n).1 (ack v t epoch n) h
  only_tails_answer v (Server p) (message.Snapshot epoch transfer) h =
      nobody v (snapshot_row v p epoch transfer).1 (snapshot v.machine v.last v.sent v.pred v.succ p epoch transfer) h
  only_tails_answer v Master (message.NewPred epoch p) h = nobody v (new_pred_row v epoch p).1 (new_pred v epoch p) h
  only_tails_answer v Master (message.NewSucc epoch t has) h =
      nobody v (new_succ_row v epoch t has).1 (new_succ v.machine v.last v.sent v.pred v.succ epoch t has) h
  only_tails_answer v Master (message.BecomeHead epoch) h = nobody v (become_head_row v).1 (new_head v) h
  only_tails_answer v Master (message.BecomeTail epoch) h = nobody v (become_tail_row v).1 (new_tail v.machine v.last v.sent v.pred v.succ) h
  only_tails_answer v from m h = nobody v [] refl h
