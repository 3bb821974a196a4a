-- The server table is the rows of its cases.
use Rattle.std.proofs.Common.{◌≡◌, ℕ, ◌+◌, true, false, cond, nat_lt, ◌==◌, List, [], Option, Some, None, refl, sym, ap, ◌∙◌, inl, inr, eqb-true, ltb-true}
use Rattle.zcalls.specs.declared.call.Entry.{Entry}
use Rattle.zcalls.specs.declared.call.Update.{Update}
use Rattle.zcalls.specs.declared.call.Query.{Query}
use Rattle.zcalls.proofs.Among.{test}
use Rattle.zprotocol.specs.declared.limits.TheConstants.{MAX_LOG_NUMBER}
use Rattle.zprotocol.specs.declared.message.Message.TheVariants as message
use Rattle.zprotocol.specs.declared.process.Process.{Process}
use Rattle.zprotocol.specs.declared.process.Process.TheVariants.{Master, Server, Client}
use Rattle.zprotocol.specs.server.Machine.{Does}
use Rattle.zprotocol.specs.server.View.{ServerView, Neighbour, Transfer, MessageOf}
use Rattle.zprotocol.specs.server.Table.{is_neighbour, accept_result, submit_row, query_row, update_row, ack_row, snapshot_row, new_pred_row, new_succ_row, become_head_row, become_tail_row, server_step}
use Rattle.zprotocol.specs.server.support.Cases.{IsAccepted, Processes, Forwards, IsRow, Ignores, Submits, Updates, Asks, Acknowledges, Shows, Turns, Follows, Leads, Ends}
use Rattle.zprotocol.proofs.server_lemmas.Fields.{view_of}

-- a neighbour of that number and epoch
pub neighbour_is : (pred : Option Neighbour) (p epoch : ℕ) → is_neighbour pred p epoch ≡ true → pred ≡ Some (p, epoch)
neighbour_is None p epoch h = cc
neighbour_is (Some pred) p epoch h = elim (test (pred.0 == p)) [
  | inl t ↦
      let here : (pred.1 == epoch) ≡ true = sym (ap (λ b. cond b (pred.1 == epoch) false) t) ∙ h in
      let a : pred.0 ≡ p = eqb-true _ _ t in
      let b : pred.1 ≡ epoch = eqb-true _ _ here in
      λ i. Some (a i, b i)
  | inr f ↦ let here : false ≡ true = sym (ap (λ b. cond b (pred.1 == epoch) false) f) ∙ h in cc
]

module _ {M : Type 0} (does : Does M) where
  accepted : (machine : Option M) (last : ℕ) (sent : List (ℕ × Entry)) (pred succ : Option Neighbour) (m : M) (n : ℕ) (e : Entry)
      → IsAccepted does (view_of machine last sent pred succ) m n e (accept_result does (view_of machine last sent pred succ) m n e)
  unfolding accept_result
  accepted machine last sent pred None m n e = Processes refl
  accepted machine last sent pred (Some succ) m n e = Forwards succ refl

  submit_case : (machine : Option M) (last : ℕ) (sent : List (ℕ × Entry)) (pred succ : Option Neighbour) (c number : ℕ) (update : Update)
      → IsRow does (view_of machine last sent pred succ) (Client c) (message.Submit number update) (submit_row does (view_of machine last sent pred succ) c number update)
  unfolding submit_row
  submit_case None last sent pred succ c number update = Ignores _ _
  submit_case (Some m) last sent (Some pred) succ c number update = Ignores _ _
  submit_case (Some m) last sent None succ c number update =
      let e : Entry = record { client = c; number = number; update = update } in
      elim (test (nat_lt last (MAX_LOG_NUMBER))) [
        | inl t ↦ rw t (Submits c number update m (accept_result does (view_of (Some m) last sent None succ) m (last + 1) e) refl refl (ltb-true _ _ t) (accepted (Some m) last sent None succ m (last + 1) e))
        | inr f ↦ rw f (Ignores (Client c) (message.Submit number update))
      ]

  query_case : (machine : Option M) (last : ℕ) (sent : List (ℕ × Entry)) (pred succ : Option Neighbour) (c number : ℕ) (query : Query)
      → IsRow does (view_of machine last sent pred succ) (Client c) (message.Query number query) (query_row does (view_of machine last sent pred succ) c number query)
  unfolding query_row
  query_case None last sent pred succ c number query = Ignores _ _
  query_case (Some m) last sent pred (Some succ) c number query = Ignores _ _
  query_case (Some m) last sent pred None c number query = Asks c number query m refl refl

  update_case : (machine : Option M) (last : ℕ) (sent : List (ℕ × Entry)) (pred succ : Option Neighbour) (p epoch n : ℕ) (e : Entry)
      → IsRow does (view_of machine last sent pred succ) (Server p) (message.Update epoch n e) (update_row does (view_of machine last sent pred succ) p epoch n e)
  unfolding update_row
  update_case None last sent pred succ p epoch n e = Ignores _ _
  update_case (Some m) last sent pred succ p epoch n e =
      let nothing : IsRow does (view_of (Some m) last sent pred succ) (Server p) (message.Update epoch n e) (view_of (Some m) last sent pred succ, []) = Ignores (Server p) (message.Update epoch n e) in
      elim (test (is_neighbour pred p epoch)) [
        | inl near ↦ rw near (elim (test (n == last + 1)) [
          | inl next ↦ rw next (elim (test (nat_lt last (MAX_LOG_NUMBER))) [
            | inl room ↦ rw room (Updates p epoch n e m (accept_result does (view_of (Some m) last sent pred succ) m n e) refl (neighbour_is pred p epoch near) (eqb-true _ _ next) (ltb-true _ _ room)
                (accepted (Some m) last sent pred succ m n e))
            | inr f ↦ rw f nothing
          ])
          | inr f ↦ rw f nothing
        ])
        | inr f ↦ rw f nothing
      ]

  ack_case : (v : ServerView M) (t epoch n : ℕ) → IsRow does v (Server t) (message.Ack epoch n) (ack_row v t epoch n)
  unfolding ack_row
  ack_case v t epoch n = elim (test (is_neighbour v.succ t epoch)) [
    | inl near ↦ rw near (Acknowledges t epoch n (neighbour_is v.succ t epoch near))
    | inr f ↦ rw f (Ignores (Server t) (message.Ack epoch n))
  ]

  snapshot_case : (machine : Option M) (last : ℕ) (sent : List (ℕ × Entry)) (pred succ : Option Neighbour) (p epoch : ℕ) (transfer : Transfer M)
      → IsRow does (view_of machine last sent pred succ) (Server p) (message.Snapshot epoch transfer) (snapshot_row (view_of machine last sent pred succ) p epoch transfer)
  unfolding snapshot_row
  snapshot_case (Some m) last sent pred succ p epoch transfer = Ignores _ _
  snapshot_case None last sent pred succ p epoch transfer = elim (test (is_neighbour pred p epoch)) [
    | inl near ↦ rw near (Shows p epoch transfer refl (neighbour_is pred p epoch near))
    | inr f ↦ rw f (Ignores (Server p) (message.Snapshot epoch transfer))
  ]

  new_pred_case : (v : ServerView M) (epoch p : ℕ) → IsRow does v Master (message.NewPred epoch p) (new_pred_row v epoch p)
  unfolding new_pred_row
  new_pred_case v epoch p = Turns epoch p

  new_succ_case : (machine : Option M) (last : ℕ) (sent : List (ℕ × Entry)) (pred succ : Option Neighbour) (epoch t : ℕ) (has : Option ℕ)
      → IsRow does (view_of machine last sent pred succ) Master (message.NewSucc epoch t has) (new_succ_row (view_of machine last sent pred succ) epoch t has)
  unfolding new_succ_row
  new_succ_case None last sent pred succ epoch t has = Ignores _ _
  new_succ_case (Some m) last sent pred succ epoch t has = Follows epoch t has m refl

  head_case : (v : ServerView M) (epoch : ℕ) → IsRow does v Master (message.BecomeHead epoch) (become_head_row v)
  unfolding become_head_row
  head_case v epoch = Leads epoch

  tail_case : (v : ServerView M) (epoch : ℕ) → IsRow does v Master (message.BecomeTail epoch) (become_tail_row v)
  unfolding become_tail_row
  tail_case v epoch = Ends epoch

  -- the table is these rows
  pub server_case : (v : ServerView M) (from : Process) (m : MessageOf M) → IsRow does v from m (server_step does v from m)
  unfolding server_step
  server_case v (Client c) (message.Submit number update) = submit_case v.machine v.last v.sent v.pred v.succ c number update
  server_case v (Client c) (message.Query number query) = query_case v.machine v.last v.sent v.pred v.succ c number query
  server_case v (Server p) (message.Update epoch n e) = update_case v.machine v.last v.sent v.pred v.succ p epoch n e
  server_case v (Server t) (message.Ack epoch n) = ack_case v t epoch n
  server_case v (Server p) (message.Snapshot epoch transfer) = snapshot_case v.machine v.last v.sent v.pred v.succ p epoch transfer
  server_case v Master (message.NewPred epoch p) = new_pred_case v epoch p
  server_case v Master (message.NewSucc epoch t last) = new_succ_case v.machine v.last v.sent v.pred v.succ epoch t last
  server_case v Master (message.BecomeHead epoch) = head_case v epoch
  server_case v Master (message.BecomeTail epoch) = tail_case v epoch
  server_case v from m = Ignores from m
