-- An entry that is accepted as the next one: what the machine makes of it, and what is put.
use Rattle.std.proofs.Common.{◌≡◌, ℕ, ◌+◌, ◌<◌, true, nat_lt, is_some, List, [], ◌∷◌, ◌++◌, Option, Some, None, refl, ap, sym, ◌∙◌, arith, inl, inr, append_assoc}
use Rattle.std.proofs.lemmas.Bool.Decides.{nat_tests}
use Rattle.ztree.specs.Tree.{Tree}
use Rattle.zcalls.specs.declared.call.Entry.{Entry}
use Rattle.zcalls.specs.declared.reply.Reply.{Reply}
use Rattle.zcalls.specs.Cached.{CachedState}
use Rattle.zcalls.proofs.Among.{test}
use Rattle.zprotocol.specs.declared.limits.TheConstants.{MAX_LOG_NUMBER}
use Rattle.zprotocol.specs.server.Machine.{cached_tree}
use Rattle.zprotocol.specs.server.Memory.{grows_by}
use Rattle.zprotocol.specs.server.View.{Neighbour, Post}
use Rattle.zprotocol.specs.server.Table.{ack_posts, answer_posts, forward_post, accept_result}
use Rattle.zserver.specs.Server.{TreeView}
use Rattle.zserver.specs.support.Replicas.{applied_result, next_number, accept_row}

-- a number that is the next one
record IsNext (last n : ℕ) : Type 0 where
  pub room : last < MAX_LOG_NUMBER
  pub number : n ≡ last + 1

module _ (last : ℕ) (sent : List (ℕ × Entry)) (pred : Option Neighbour) where
  is_next : (machine : Option (CachedState Tree)) (succ : Option Neighbour) (n : ℕ)
      → next_number (record { machine = machine; last = last; sent = sent; pred = pred; succ = succ }) ≡ Some n → IsNext last n
  unfolding next_number
  is_next None succ n next = let never : ⊥ = cc in absurd never
  is_next (Some m) succ n next = elim (test (nat_lt last MAX_LOG_NUMBER)) [
    | inl less ↦
        let some : ◌≡◌ {A = Option ℕ} (Some (last + 1)) (Some n) = rw less at next in
        record { room = grind (arith, nat_tests); number = cc }
    | inr not_less ↦
        let none : ◌≡◌ {A = Option ℕ} None (Some n) = rw not_less at next in
        let never : ⊥ = cc in
        absurd never
  ]

-- there is room for the next entry
pub next_fits : (v : TreeView) (n : ℕ) → next_number v ≡ Some n → v.last < MAX_LOG_NUMBER
next_fits v n next = (is_next v.last v.sent v.pred v.machine v.succ n next).room

-- an entry changes the machine and its last number alone
pred_stays : (last : ℕ) (sent : List (ℕ × Entry)) (pred succ : Option Neighbour) (entry : Entry) (machine : Option (CachedState Tree))
    → (applied_result (record { machine = machine; last = last; sent = sent; pred = pred; succ = succ }) entry).0.pred ≡ pred
unfolding applied_result
pred_stays last sent pred succ entry None = refl
pred_stays last sent pred succ entry (Some m) = refl

pub applied_pred : (v w : TreeView) (entry : Entry) (reply : Option Reply) → (w, reply) ≡ applied_result v entry → w.pred ≡ v.pred
applied_pred v w entry reply did = ap (λ (r : TreeView × Option Reply). r.0.pred) did ∙ pred_stays v.last v.sent v.pred v.succ entry v.machine

-- messages that are put one list after the other
pub puts_both : (old room mid new front back : List (Post (CachedState Tree))) → room ≡ old → mid ≡ room ++ front → new ≡ mid ++ back → new ≡ old ++ (front ++ back)
puts_both old room mid new front back same first then = then ∙ ap (λ (posts : List (Post (CachedState Tree))). posts ++ back) (first ∙ ap (λ (posts : List (Post (CachedState Tree))). posts ++ front) same) ∙ append_assoc old front back

module _ (last n : ℕ) (sent : List (ℕ × Entry)) (pred : Option Neighbour) (entry : Entry) (w : TreeView) (reply : Option Reply) where
  forwards : (machine : Option (CachedState Tree)) (succ : Option Neighbour)
      → next_number (record { machine = machine; last = last; sent = sent; pred = pred; succ = succ }) ≡ Some n → is_some succ ≡ true
      → (w, reply) ≡ applied_result (record { machine = machine; last = last; sent = sent ++ (n, entry) ∷ []; pred = pred; succ = succ }) entry
      → w ≡ (accept_row (record { machine = machine; last = last; sent = sent; pred = pred; succ = succ }) n entry).0
  unfolding next_number applied_result accept_row accept_result
  forwards None succ next has did = let never : ⊥ = cc in absurd never
  forwards (Some m) None next has did = let never : ⊥ = cc in absurd never
  forwards (Some m) (Some t) next has did =
      let number = (is_next last sent pred (Some m) (Some t) n next).number in
      ap (λ (r : TreeView × Option Reply). r.0) did ∙ ap (λ k. record { machine = Some (cached_tree.apply m entry).0; last = k; sent = sent ++ (n, entry) ∷ []; pred = pred; succ = Some t }) (sym number)

  processes : (machine : Option (CachedState Tree))
      → next_number (record { machine = machine; last = last; sent = sent; pred = pred; succ = None }) ≡ Some n
      → (w, reply) ≡ applied_result (record { machine = machine; last = last; sent = sent; pred = pred; succ = None }) entry
      → (w, answer_posts entry reply ++ ack_posts pred n) ≡ accept_row (record { machine = machine; last = last; sent = sent; pred = pred; succ = None }) n entry
  unfolding next_number applied_result accept_row accept_result
  processes None next did = let never : ⊥ = cc in absurd never
  processes (Some m) next did =
      let number = (is_next last sent pred (Some m) None n next).number in
      ap (λ (r : TreeView × Option Reply). (r.0, answer_posts entry r.1 ++ ack_posts pred n)) did
      ∙ ap (λ k. (record { machine = Some (cached_tree.apply m entry).0; last = k; sent = sent; pred = pred; succ = None }, answer_posts entry (cached_tree.apply m entry).1 ++ ack_posts pred n)) (sym number)

-- a server with a successor stores the entry
pub forward_view : (v v1 w : TreeView) (n : ℕ) (entry applied : Entry) (reply : Option Reply) → next_number v ≡ Some n → is_some v.succ ≡ true
    → v1 ≡ record v { sent = v.sent ++ (n, entry) ∷ [] } → applied ≡ entry → (w, reply) ≡ applied_result v1 applied
    → w ≡ (accept_row v n entry).0
forward_view v v1 w n entry applied reply next has kept same did =
    forwards v.last n v.sent v.pred entry w reply v.machine v.succ next has (did ∙ ap (λ e. applied_result v1 e) same ∙ ap (λ k. applied_result k entry) kept)

-- and its neighbours are unchanged
accepted_stays : (last n : ℕ) (sent : List (ℕ × Entry)) (pred : Option Neighbour) (entry : Entry) (machine : Option (CachedState Tree)) (succ : Option Neighbour)
    → (accept_row (record { machine = machine; last = last; sent = sent; pred = pred; succ = succ }) n entry).0.succ ≡ succ
unfolding accept_row accept_result
accepted_stays last n sent pred entry None succ = refl
accepted_stays last n sent pred entry (Some m) None = refl
accepted_stays last n sent pred entry (Some m) (Some t) = refl

pub accepted_succ : (v : TreeView) (n : ℕ) (entry : Entry) → (accept_row v n entry).0.succ ≡ v.succ
accepted_succ v n entry = accepted_stays v.last n v.sent v.pred entry v.machine v.succ

-- and puts it to that
puts_forward : (last n : ℕ) (sent : List (ℕ × Entry)) (pred : Option Neighbour) (entry : Entry) (old new : List (Post (CachedState Tree)))
    → (machine : Option (CachedState Tree)) (succ : Option Neighbour)
    → next_number (record { machine = machine; last = last; sent = sent; pred = pred; succ = succ }) ≡ Some n → is_some succ ≡ true
    → ((t : Neighbour) → succ ≡ Some t → new ≡ old ++ forward_post t (n, entry) ∷ [])
    → new ≡ old ++ (accept_row (record { machine = machine; last = last; sent = sent; pred = pred; succ = succ }) n entry).1
unfolding next_number accept_row accept_result
puts_forward last n sent pred entry old new None succ next has put = let never : ⊥ = cc in absurd never
puts_forward last n sent pred entry old new (Some m) None next has put = let never : ⊥ = cc in absurd never
puts_forward last n sent pred entry old new (Some m) (Some t) next has put = put t refl

pub forward_puts : (v : TreeView) (n : ℕ) (entry : Entry) (old new : List (Post (CachedState Tree))) → next_number v ≡ Some n → is_some v.succ ≡ true
    → ((t : Neighbour) → v.succ ≡ Some t → new ≡ old ++ forward_post t (n, entry) ∷ []) → new ≡ old ++ (accept_row v n entry).1
forward_puts v n entry old new next has put = puts_forward v.last n v.sent v.pred entry old new v.machine v.succ next has put

-- a server without one answers and acknowledges
pub process_row : (v w : TreeView) (n : ℕ) (entry : Entry) (reply : Option Reply) → next_number v ≡ Some n → v.succ ≡ None
    → (w, reply) ≡ applied_result v entry → (w, answer_posts entry reply ++ ack_posts v.pred n) ≡ accept_row v n entry
process_row v w n entry reply next none did =
    let same : v ≡ record v { succ = None } = ap (λ s. record v { succ = s }) none in
    processes v.last n v.sent v.pred entry w reply v.machine (ap next_number (sym same) ∙ next) (did ∙ ap (λ k. applied_result k entry) same)
    ∙ ap (λ k. accept_row k n entry) (sym same)

-- the next entry makes the log longer
longer : (last n : ℕ) (sent : List (ℕ × Entry)) (pred : Option Neighbour) (entry : Entry) (machine : Option (CachedState Tree)) (succ : Option Neighbour)
    → next_number (record { machine = machine; last = last; sent = sent; pred = pred; succ = succ }) ≡ Some n
    → grows_by (record { machine = machine; last = last; sent = sent; pred = pred; succ = succ }) (accept_row (record { machine = machine; last = last; sent = sent; pred = pred; succ = succ }) n entry) ≡ true
unfolding next_number accept_row accept_result
longer last n sent pred entry None succ next = let never : ⊥ = cc in absurd never
longer last n sent pred entry (Some m) None next =
    let number = (is_next last sent pred (Some m) None n next).number in
    let less : nat_lt last n ≡ true = grind (arith, nat_tests, number) in
    rw less refl
longer last n sent pred entry (Some m) (Some t) next =
    let number = (is_next last sent pred (Some m) (Some t) n next).number in
    let less : nat_lt last n ≡ true = grind (arith, nat_tests, number) in
    rw less refl

pub accept_grows : (v : TreeView) (n : ℕ) (entry : Entry) → next_number v ≡ Some n → grows_by v (accept_row v n entry) ≡ true
accept_grows v n entry next = longer v.last n v.sent v.pred entry v.machine v.succ next
