-- The master does something: it has a new view, and puts at most one order to each server.
use Rattle.std.proofs.Common.{◌≡◌, ◌⊎◌, ℕ, ◌<◌, ◌≤◌, true, false, List, [], ◌∷◌, ◌++◌, Option, Some, None, refl, sym, ap, ◌∙◌, subst, inl, inr, arith}
use Rattle.zcalls.specs.declared.call.Entry.{Entry}
use Rattle.zcalls.specs.Lists.{Among, ComesBefore, NoTwo}
use Rattle.zcalls.specs.Cached.{Plain}
use Rattle.zcalls.proofs.Among.{among_cases}
use Rattle.zprotocol.specs.declared.message.Message.TheVariants as message
use Rattle.zprotocol.specs.declared.process.Process.{Process}
use Rattle.zprotocol.specs.declared.process.Process.TheVariants.{Master, Server}
use Rattle.zprotocol.specs.server.View.{Post, Neighbour}
use Rattle.zprotocol.specs.master.View.{MasterView, members, is_among}
use Rattle.zprotocol.specs.world.Links.{messages_to, put}
use Rattle.zlinearizability.specs.legal.Items.{Item}
use Rattle.zlinearizability.specs.chain.Flow.{LogWorld, LogMessage, Log, or_else, log_at, final_log_by, final_log, first_snapshot_by, first_log}
use Rattle.zlinearizability.specs.chain.Chain.{queue, IsAhead, IsOpened, IsMember, IsUsed, IsPair, place_from, HasNoTailOrder}
use Rattle.zlinearizability.specs.chain.Chain.{HoldsBehind, HasNoTailOrderBehind, IsNewEpoch, HasDistinctEpochs}
use Rattle.zlinearizability.specs.chain.Messages.{IsJustified}
use Rattle.zlinearizability.specs.chain.Account.{Account}
use Rattle.zlinearizability.specs.chain.Sound.{IsSound, OrdersLead}
use Rattle.zlinearizability.proofs.chain_lemmas.links.Links.{put_among}
use Rattle.zlinearizability.proofs.chain_lemmas.places.Pairs.{pair_next}
use Rattle.zlinearizability.proofs.chain_lemmas.links.LaterWorlds.{justified_later}

-- the world then
abbrev pub world_with_move : LogWorld → MasterView → List (Post (List Entry)) → LogWorld
world_with_move w v posts = record w { master = v; links = put w.links Master posts }

-- what is shown of an order that is put to a server
pub record IsGoodPost (w : LogWorld) (v : MasterView) (z : ℕ) (m : LogMessage) : Type 0 where
  pub is_used : is_among z v.used ≡ true
  -- a predecessor is announced in a new epoch
  pub new_epoch : (k p : ℕ) → m ≡ message.NewPred k p → (w.master.epoch < k) × (k ≤ v.epoch)
  -- only the last is ordered to become the tail
  pub is_last : (k : ℕ) → m ≡ message.BecomeTail k → (t : ℕ) → ComesBefore z t (members v) → ⊥

-- what is shown of the new view and the posts
pub record IsGoodMove (w : LogWorld) (items : List Item) (v : MasterView) (posts : List (Post (List Entry))) : Type 0 where
  pub distinct : NoTwo (λ (a b : ℕ). a ≡ b) (members v)
  pub used : (z : ℕ) → Among z (members v) → is_among z v.used ≡ true
  pub used_more : (z : ℕ) → IsUsed w z → is_among z v.used ≡ true
  pub live : (z : ℕ) → is_among z v.used ≡ true → w.failed z ≡ false → Among z (members v)
  pub epoch : w.master.epoch ≤ v.epoch
  pub line : OrdersLead (world_with_move w v posts)
  -- pairs of epochs that were given are old
  pub pairs : (p t k : ℕ) → k ≤ w.master.epoch → place_from None v.chain t ≡ Some (Some (p, k)) → IsPair w p t k
  -- who is in the chain was, or has nothing
  pub ordered : (x y : ℕ) → ComesBefore x y (members v) → ComesBefore x y (members w.master) ⊎ (final_log w y ≡ None)
  pub members_were : (z : ℕ) → Among z (members v) → IsMember w z ⊎ (first_log w z ≡ None)
  pub orders : (z : ℕ) → (messages_to (Server z) posts ≡ []) ⊎ ((m : LogMessage) × (messages_to (Server z) posts ≡ m ∷ []) × IsGoodPost w v z m)
  pub justified : (to : Process) (m : LogMessage) → Among (to, m) posts → IsJustified (world_with_move w v posts) items Master to m

-- epochs stay distinct with one order more
new_later : (old last : ℕ) (m : LogMessage) (more new : List LogMessage) → old ≤ last
    → ((k p : ℕ) → Among (message.NewPred k p) new → old < k)
    → IsNewEpoch old m more → IsNewEpoch last m (more ++ new)
new_later old last (message.NewPred k p) more new low fresh h = (
  (let high : k ≤ old = h.0 in omega arith),
  λ q a. elim (among_cases (message.NewPred k q) more new a) [
    | inl b ↦ h.1 q b
    | inr c ↦ let less : old < k = fresh k q c in let high : k ≤ old = h.0 in omega arith
  ],
)
new_later old last m more new low fresh h = tt

epochs_later : (old last : ℕ) (l new : List LogMessage) → old ≤ last → ((k p : ℕ) → Among (message.NewPred k p) new → old < k)
    → HasDistinctEpochs old l → HasDistinctEpochs last new → HasDistinctEpochs last (l ++ new)
epochs_later old last [] new low fresh h k = k
epochs_later old last (m ∷ l) new low fresh h k = (new_later old last m l new low fresh h.0, epochs_later old last l new low fresh h.1 k)

one_epoch : (last : ℕ) (m : LogMessage) → ((k p : ℕ) → m ≡ message.NewPred k p → k ≤ last) → IsNewEpoch last m []
one_epoch last (message.NewPred k p) h = (h k p refl, λ q a. absurd a)
one_epoch last m h = tt

-- and tail orders stay last
module _ (w w1 : LogWorld) (z last : ℕ) (new : List LogMessage)
    (pairs : (t k : ℕ) → k ≤ last → IsPair w1 z t k → IsPair w z t k × HasNoTailOrder new) where
  -- the epoch of an order of a successor
  abbrev IsGiven : LogMessage → Type 0
  IsGiven m = (k t : ℕ) (n : Option ℕ) → m ≡ message.NewSucc k t n → k ≤ last

  holds_later : (m : LogMessage) (more : List LogMessage) → IsGiven m → HoldsBehind w z m more → HoldsBehind w1 z m (more ++ new)
  holds_later (message.NewSucc k t n) more given h = λ pair epoch a.
      let was = pairs t k (given k t n refl) pair in
      elim (among_cases (message.BecomeTail epoch) more new a) [ inl b ↦ h was.0 epoch b | inr c ↦ was.1 epoch c ]
  holds_later m more given h = tt

  tails_later : (l : List LogMessage) → ((m : LogMessage) → Among m l → IsGiven m) → HasNoTailOrderBehind w z l → HasNoTailOrderBehind w1 z new
      → HasNoTailOrderBehind w1 z (l ++ new)
  tails_later [] given h k = k
  tails_later (m ∷ l) given h k = (holds_later m l (given m (inl refl)) h.0, tails_later l (λ n a. given n (inr a)) h.1 k)

one_holds : (w : LogWorld) (z : ℕ) (m : LogMessage) → HoldsBehind w z m []
one_holds w z (message.NewSucc k t n) = λ pair epoch a. absurd a
one_holds w z m = tt

-- without anything shown there is no log
no_first_log : (log first : Log) → or_else log first ≡ None → log ≡ None
no_first_log None first h = refl
no_first_log (Some log) first h = absurd (cc h)

module _ {P : Type 0} (plain : Plain P) (t : Account) (s : IsSound plain t) (v : MasterView) (posts : List (Post (List Entry)))
    (good : IsGoodMove t.world t.items v posts) where
  abbrev w : LogWorld
  w = t.world

  abbrev w1 : LogWorld
  w1 = world_with_move t.world v posts

  abbrev new : ℕ → List LogMessage
  new z = messages_to (Server z) posts

  -- what is new in a queue is its one order
  new_is : (z : ℕ) (m : LogMessage) → Among m (new z) → IsGoodPost w v z m
  new_is z m a = elim (good.orders z) [
    | inl none ↦ absurd (subst (Among m) none a)
    | inr one ↦ elim (subst (Among m) one.1 a) [ inl e ↦ subst (IsGoodPost w v z) e one.2 | inr f ↦ absurd f ]
  ]

  opened : (z k : ℕ) → IsOpened w z k → IsOpened w1 z k
  opened z k h = (
    (let low : k ≤ w.master.epoch = h.0 in let up = good.epoch in omega arith),
    λ p a. elim (among_cases (message.NewPred k p) (queue w z) (new z) a) [
      | inl b ↦ h.1 p b
      | inr c ↦ let low : k ≤ w.master.epoch = h.0 in let less : w.master.epoch < k = ((new_is z (message.NewPred k p) c).new_epoch k p refl).0
          in omega arith
    ],
  )

  -- nothing changes between servers
  same_final_log_by : (z : ℕ) (log : Log) (pred : Option Neighbour) → final_log_by w1 z log pred ≡ final_log_by w z log pred
  same_final_log_by z log None = refl
  same_final_log_by z log (Some pred) = refl

  same_final_log : (z : ℕ) → final_log w1 z ≡ final_log w z
  same_final_log z = same_final_log_by z (log_at w z) (w.servers z).pred

  same_first : (z : ℕ) (pred : Option Neighbour) → first_snapshot_by w1 z pred ≡ first_snapshot_by w z pred
  same_first z None = refl
  same_first z (Some pred) = refl

  same_first_log : (z : ℕ) → first_log w1 z ≡ first_log w z
  same_first_log z = ap (or_else (log_at w z)) (same_first z (w.servers z).pred)

  no_tail : (x y : ℕ) → ComesBefore x y (members v) → HasNoTailOrder (new x)
  no_tail x y before epoch a = (new_is x (message.BecomeTail epoch) a).is_last epoch refl y before

  ahead : (x y : ℕ) → ComesBefore x y (members v) → (log : List Entry) → IsAhead w x log → IsAhead w1 x log
  ahead x y before log h = record {
    own = h.own;
    holds = h.holds;
    begins = h.begins;
    has_successor = h.has_successor;
    no_tail_order = λ epoch a. elim (among_cases (message.BecomeTail epoch) (queue w x) (new x) a) [
      | inl b ↦ h.no_tail_order epoch b
      | inr c ↦ no_tail x y before epoch c
    ];
  }

  new_blank : (z : ℕ) → (is_among z v.used ≡ true → ⊥) → new z ≡ []
  new_blank z unused = elim (good.orders z) [ inl none ↦ none | inr one ↦ absurd (unused one.2.is_used) ]

  new_epochs : (z : ℕ) → HasDistinctEpochs v.epoch (new z)
  new_epochs z = elim (good.orders z) [
    | inl none ↦ subst (HasDistinctEpochs v.epoch) (sym none) tt
    | inr one ↦ subst (HasDistinctEpochs v.epoch) (sym one.1) (one_epoch v.epoch one.0 (λ k p e. (one.2.new_epoch k p e).1), tt)
  ]

  new_tails : (z : ℕ) → HasNoTailOrderBehind w1 z (new z)
  new_tails z = elim (good.orders z) [
    | inl none ↦ subst (HasNoTailOrderBehind w1 z) (sym none) tt
    | inr one ↦ subst (HasNoTailOrderBehind w1 z) (sym one.1) (one_holds w1 z one.0, tt)
  ]

  given : (z : ℕ) (m : LogMessage) → Among m (queue w z) → (k x : ℕ) (n : Option ℕ) → m ≡ message.NewSucc k x n → k ≤ w.master.epoch
  given z m a k x n e = (s.justified Master (Server z) (message.NewSucc k x n) (subst (λ o. Among o (queue w z)) e a)).0

  shown : (z : ℕ) (log : List Entry) → Among z (members v) → first_log w z ≡ Some log → IsMember w z
  shown z log in_chain is = elim (good.members_were z in_chain) [
    | inl was ↦ was
    | inr none ↦ absurd (let e : ◌≡◌ {A = Log} None (Some log) = sym none ∙ is in cc e)
  ]

  -- all facts hold after the master's step
  pub move_sound : IsSound plain (record t { world = w1 })
  move_sound = record {
    distinct = good.distinct;
    used = good.used;
    blank = λ z unused.
        let was = s.blank z (λ h. unused (good.used_more z h)) in
        (was.0, ap (λ l. l ++ new z) was.1 ∙ new_blank z unused);
    live = good.live;
    line = good.line;
    successors = λ x z k is. opened z k (s.successors x z k is);
    epochs = λ z. epochs_later w.master.epoch v.epoch (queue w z) (new z) good.epoch
        (λ k p a. ((new_is z (message.NewPred k p) a).new_epoch k p refl).0) (s.epochs z) (new_epochs z);
    tail_orders = λ z. tails_later w w1 z w.master.epoch (new z)
        (λ x k low pair. (good.pairs z x k low pair, no_tail z x (pair_next w1 good.distinct z x k pair).before))
        (queue w z) (given z) (s.tail_orders z) (new_tails z);
    ordered = λ x y before log is. elim (good.ordered x y before) [
      | inl was ↦ ahead x y before log (s.ordered x y was log (sym (same_final_log y) ∙ is))
      | inr none ↦ absurd (let e : ◌≡◌ {A = Log} None (Some log) = sym none ∙ sym (same_final_log y) ∙ is in cc e)
    ];
    committed = λ z log in_chain is. let was = sym (same_first_log z) ∙ is in s.committed z log (shown z log in_chain was) was;
    tail = λ z log in_chain is ends. s.tail z log (shown z log in_chain (ap (λ l. or_else l (first_snapshot_by w z (w.servers z).pred)) is)) is ends;
    sent = s.sent;
    begun = s.begun;
    committed_begun = s.committed_begun;
    justified = λ from to m a. elim (put_among w.links Master posts from to m a) [
      | inl old ↦ justified_later w w1 t.items t.items (record { begun = λ o h. h; given = λ i h. h; opened = opened; failed = λ z h. h })
          from to m (s.justified from to m old)
      | inr fresh ↦ subst (λ p. IsJustified w1 t.items p to m) (sym fresh.0) (good.justified to m fresh.1)
    ];
    acted = s.acted;
    replays = s.replays;
    rising = s.rising;
    in_time = s.in_time;
    answered = s.answered;
    once = s.once;
    numbered = s.numbered;
    waits = s.waits;
  }
