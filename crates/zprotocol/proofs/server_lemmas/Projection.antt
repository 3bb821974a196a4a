-- The server table commutes with a map between machines that preserves what they do.
use Rattle.std.proofs.Common.{◌≡◌, refl, sym, ap, ◌∙◌, ℕ, ◌+◌, Bool, true, false, ◌==◌, Option, None, Some, List, [], ◌∷◌, ◌++◌, map}
use Rattle.std.specs.Prelude.{if◌then◌else◌}
use Rattle.zcalls.specs.declared.call.Entry.{Entry}
use Rattle.zcalls.specs.declared.call.Query.{Query}
use Rattle.zcalls.specs.declared.call.Update.{Update}
use Rattle.zcalls.specs.declared.reply.Reply.{Reply}
use Rattle.zprotocol.specs.declared.message.Message.TheVariants as message
use Rattle.zprotocol.specs.declared.process.Process.{Process}
use Rattle.zprotocol.specs.declared.process.Process.TheVariants.{Master, Server, Client}
use Rattle.zprotocol.specs.server.Machine.{Does, after_entries, replay, log_of}
use Rattle.zprotocol.specs.server.View.{ServerView, Neighbour, Transfer, MessageOf}
use Rattle.zprotocol.specs.server.Table.{ServerResult, no_effect, is_neighbour, has_room, ack_posts, answer_posts, forward_post, entries_above, accept_result, submit_row, query_row, update_row, ack_row, snapshot_row, new_pred_row, new_succ_row, become_head_row, become_tail_row, server_step}
use Rattle.zprotocol.specs.server.support.Homomorphism.{IsHomomorphism, message_with, posts_with, view_with, server_result_with}
use Rattle.zprotocol.proofs.server_lemmas.Fields.{view_of}

-- the machine after one more entry
pub after_one_more : {M : Type 0} (does : Does M) (m : M) (log : List Entry) (entry : Entry)
    → after_entries does m (log ++ entry ∷ []) ≡ (does.apply (after_entries does m log) entry).0
after_one_more does m [] entry = refl
after_one_more does m (first ∷ log) entry = after_one_more does (does.apply m first).0 log entry

-- a log answers as the machine after it
pub log_stands_for_machine : {M : Type 0} (does : Does M) → IsHomomorphism (log_of does) does (replay does)
log_stands_for_machine does =
    record {
      start = refl;
      apply = λ log entry i. (sym (after_one_more does does.start log entry) i, (does.apply (replay does log) entry).1);
      ask = λ log query. refl;
    }

module _ {M N : Type 0} {d : Does M} {e : Does N} (h : M → N) (same : IsHomomorphism d e h) where
  -- replies and acknowledgements name no machine
  answers_with : (entry : Entry) (reply : Option Reply) (pred : Option Neighbour) (n : ℕ)
      → posts_with h (answer_posts entry reply ++ ack_posts pred n) ≡ answer_posts entry reply ++ ack_posts pred n
  answers_with entry None None n = refl
  answers_with entry None (Some pred) n = refl
  answers_with entry (Some reply) None n = refl
  answers_with entry (Some reply) (Some pred) n = refl

  acks_with : (pred : Option Neighbour) (n : ℕ) → posts_with h (ack_posts pred n) ≡ ack_posts pred n
  acks_with None n = refl
  acks_with (Some pred) n = refl

  -- nor do forwarded entries
  forwards_with : (succ : Neighbour) (sent : List (ℕ × Entry)) → posts_with h (map (forward_post succ) sent) ≡ map (forward_post succ) sent
  forwards_with succ [] = refl
  forwards_with succ (first ∷ sent) = ap (λ posts. forward_post succ first ∷ posts) (forwards_with succ sent)

  -- a condition is the same on both sides
  if_with : (b : Bool) (x y : ServerResult M) (x' y' : ServerResult N) → x' ≡ server_result_with h x → y' ≡ server_result_with h y
      → (if b then x' else y') ≡ server_result_with h (if b then x else y)
  if_with true x y x' y' p q = p
  if_with false x y x' y' p q = q

  -- a server without successor, after an entry that made this of its machine
  processed : List (ℕ × Entry) → Option Neighbour → ℕ → Entry → N × Option Reply → ServerResult N
  processed sent pred n entry did =
      (record { machine = Some did.0; last = n; sent = sent; pred = pred; succ = None }, answer_posts entry did.1 ++ ack_posts pred n)

  -- the same with one
  forwarded : List (ℕ × Entry) → Option Neighbour → Neighbour → ℕ → Entry → N × Option Reply → ServerResult N
  forwarded sent pred succ n entry did =
      (record { machine = Some did.0; last = n; sent = sent ++ (n, entry) ∷ []; pred = pred; succ = Some succ }, forward_post succ (n, entry) ∷ [])

  -- what is accepted
  accept_with : (machine : Option M) (last : ℕ) (sent : List (ℕ × Entry)) (pred succ : Option Neighbour) (m : M) (n : ℕ) (entry : Entry)
      → accept_result e (view_with h (view_of machine last sent pred succ)) (h m) n entry ≡ server_result_with h (accept_result d (view_of machine last sent pred succ) m n entry)
  unfolding accept_result processed forwarded
  accept_with machine last sent pred None m n entry =
      ap (processed sent pred n entry) (same.apply m entry)
      ∙ (λ i. (record { machine = Some (h (d.apply m entry).0); last = n; sent = sent; pred = pred; succ = None }, sym (answers_with entry (d.apply m entry).1 pred n) i))
  accept_with machine last sent pred (Some succ) m n entry = ap (forwarded sent pred succ n entry) (same.apply m entry)

  -- one row after the other
  submit_with : (machine : Option M) (last : ℕ) (sent : List (ℕ × Entry)) (pred succ : Option Neighbour) (c number : ℕ) (update : Update)
      → submit_row e (view_with h (view_of machine last sent pred succ)) c number update
      ≡ server_result_with h (submit_row d (view_of machine last sent pred succ) c number update)
  unfolding submit_row
  submit_with None last sent pred succ c number update = refl
  submit_with (Some m) last sent (Some pred) succ c number update = refl
  submit_with (Some m) last sent None succ c number update =
      let v : ServerView M = view_of (Some m) last sent None succ in
      let entry : Entry = record { client = c; number = number; update = update } in
      if_with (has_room v) (accept_result d v m (last + 1) entry) (no_effect v) (accept_result e (view_with h v) (h m) (last + 1) entry) (no_effect (view_with h v))
      (accept_with (Some m) last sent None succ m (last + 1) entry) refl

  query_with : (machine : Option M) (last : ℕ) (sent : List (ℕ × Entry)) (pred succ : Option Neighbour) (c number : ℕ) (query : Query)
      → query_row e (view_with h (view_of machine last sent pred succ)) c number query
      ≡ server_result_with h (query_row d (view_of machine last sent pred succ) c number query)
  unfolding query_row
  query_with None last sent pred succ c number query = refl
  query_with (Some m) last sent pred (Some succ) c number query = refl
  query_with (Some m) last sent pred None c number query = λ i. (view_of (Some (h m)) last sent pred None, (Client c, message.Answer number (same.ask m query i)) ∷ [])

  update_with : (machine : Option M) (last : ℕ) (sent : List (ℕ × Entry)) (pred succ : Option Neighbour) (p epoch n : ℕ) (entry : Entry)
      → update_row e (view_with h (view_of machine last sent pred succ)) p epoch n entry
      ≡ server_result_with h (update_row d (view_of machine last sent pred succ) p epoch n entry)
  unfolding update_row
  update_with None last sent pred succ p epoch n entry = refl
  update_with (Some m) last sent pred succ p epoch n entry =
      let v : ServerView M = view_of (Some m) last sent pred succ in
      let w : ServerView N = view_with h v in
      let did : ServerResult M = accept_result d v m n entry in
      let does : ServerResult N = accept_result e w (h m) n entry in
      if_with (is_neighbour pred p epoch)
      (if n == last + 1 then if has_room v then did else no_effect v else no_effect v) (no_effect v)
      (if n == last + 1 then if has_room v then does else no_effect w else no_effect w) (no_effect w)
      (if_with (n == last + 1)
      (if has_room v then did else no_effect v) (no_effect v)
      (if has_room v then does else no_effect w) (no_effect w)
      (if_with (has_room v) did (no_effect v) does (no_effect w) (accept_with (Some m) last sent pred succ m n entry) refl) refl) refl

  ack_with : (v : ServerView M) (t epoch n : ℕ) → ack_row (view_with h v) t epoch n ≡ server_result_with h (ack_row v t epoch n)
  unfolding ack_row
  ack_with v t epoch n =
      let w : ServerView N = view_with h v in
      if_with (is_neighbour v.succ t epoch)
      (record v { sent = entries_above n v.sent }, ack_posts v.pred n) (no_effect v)
      (record w { sent = entries_above n v.sent }, ack_posts v.pred n) (no_effect w)
      (λ i. (record w { sent = entries_above n v.sent }, sym (acks_with v.pred n) i)) refl

  snapshot_with : (machine : Option M) (last : ℕ) (sent : List (ℕ × Entry)) (pred succ : Option Neighbour) (p epoch : ℕ) (transfer : Transfer M)
      → snapshot_row (view_with h (view_of machine last sent pred succ)) p epoch (record { last = transfer.last; machine = h transfer.machine })
      ≡ server_result_with h (snapshot_row (view_of machine last sent pred succ) p epoch transfer)
  unfolding snapshot_row
  snapshot_with (Some m) last sent pred succ p epoch transfer = refl
  snapshot_with None last sent pred succ p epoch transfer =
      let v : ServerView M = view_of None last sent pred succ in
      let w : ServerView N = view_with h v in
      if_with (is_neighbour pred p epoch)
      (view_of (Some transfer.machine) transfer.last [] pred succ, (Server p, message.Ack epoch transfer.last) ∷ (Master, message.Joined epoch) ∷ []) (no_effect v)
      (view_of (Some (h transfer.machine)) transfer.last [] pred succ, (Server p, message.Ack epoch transfer.last) ∷ (Master, message.Joined epoch) ∷ []) (no_effect w)
      refl refl

  new_pred_with : (machine : Option M) (last : ℕ) (sent : List (ℕ × Entry)) (pred succ : Option Neighbour) (epoch p : ℕ)
      → new_pred_row (view_with h (view_of machine last sent pred succ)) epoch p ≡ server_result_with h (new_pred_row (view_of machine last sent pred succ) epoch p)
  unfolding new_pred_row
  new_pred_with None last sent pred succ epoch p = refl
  new_pred_with (Some m) last sent pred succ epoch p = refl

  new_succ_with : (machine : Option M) (last : ℕ) (sent : List (ℕ × Entry)) (pred succ : Option Neighbour) (epoch t : ℕ) (has : Option ℕ)
      → new_succ_row (view_with h (view_of machine last sent pred succ)) epoch t has
      ≡ server_result_with h (new_succ_row (view_of machine last sent pred succ) epoch t has)
  unfolding new_succ_row
  new_succ_with None last sent pred succ epoch t has = refl
  new_succ_with (Some m) last sent pred succ epoch t None = refl
  new_succ_with (Some m) last sent pred succ epoch t (Some n) =
      λ i. (view_of (Some (h m)) last sent pred (Some (t, epoch)), sym (forwards_with (t, epoch) (entries_above n sent)) i)

  new_tail_with : (machine : Option M) (last : ℕ) (sent : List (ℕ × Entry)) (pred succ : Option Neighbour)
      → become_tail_row (view_with h (view_of machine last sent pred succ)) ≡ server_result_with h (become_tail_row (view_of machine last sent pred succ))
  unfolding become_tail_row
  new_tail_with None last sent pred succ = refl
  new_tail_with (Some m) last sent pred succ = λ i. (view_of (Some (h m)) last [] pred None, sym (acks_with pred last) i)

  new_head_with : (v : ServerView M) → become_head_row (view_with h v) ≡ server_result_with h (become_head_row v)
  unfolding become_head_row
  new_head_with v = refl

  -- the table
  pub table_with : (v : ServerView M) (from : Process) (m : MessageOf M)
      → server_step e (view_with h v) from (message_with h m) ≡ server_result_with h (server_step d v from m)
  unfolding server_step
  table_with v (Client c) (message.Submit number update) = submit_with v.machine v.last v.sent v.pred v.succ c number update
  table_with v (Client c) (message.Query number query) = query_with v.machine v.last v.sent v.pred v.succ c number query
  table_with v (Server p) (message.Update epoch n entry) = update_with v.machine v.last v.sent v.pred v.succ p epoch n entry
  table_with v (Server t) (message.Ack epoch n) = ack_with v t epoch n
  table_with v (Server p) (message.Snapshot epoch transfer) = snapshot_with v.machine v.last v.sent v.pred v.succ p epoch transfer
  table_with v Master (message.NewPred epoch p) = new_pred_with v.machine v.last v.sent v.pred v.succ epoch p
  table_with v Master (message.NewSucc epoch t has) = new_succ_with v.machine v.last v.sent v.pred v.succ epoch t has
  table_with v Master (message.BecomeHead epoch) = new_head_with v
  table_with v Master (message.BecomeTail epoch) = new_tail_with v.machine v.last v.sent v.pred v.succ
  table_with v from m = refl
