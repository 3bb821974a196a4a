-- The master hears Have or Joined, or a message that doesn't count, or orders a member to leave: the chain stays.
use Rattle.std.specs.Prelude.{◌&&◌}
use Rattle.std.specs.List.{range_with_len}
use Rattle.std.proofs.Common.{◌≡◌, ◌⊎◌, ℕ, ◌+◌, ◌≤◌, true, ◌==◌, List, [], ◌∷◌, ◌++◌, map, Option, Some, None, refl}
use Rattle.std.proofs.Common.{sym, ap, subst, inl, inr, append-nil, arith, eqb-true}
use Rattle.zcalls.specs.declared.call.Entry.{Entry}
use Rattle.zcalls.specs.Lists.{Among}
use Rattle.zcalls.specs.Cached.{Plain}
use Rattle.zcalls.proofs.Among.{test, among_cases}
use Rattle.zprotocol.specs.declared.message.Message.TheVariants as message
use Rattle.zprotocol.specs.declared.process.Process.{Process}
use Rattle.zprotocol.specs.declared.process.Process.TheVariants.{Master, Server, Client}
use Rattle.zprotocol.specs.server.View.{Post, Neighbour}
use Rattle.zprotocol.specs.master.View.{MasterView, members, is_among, is_joining, head_of, tail_of}
use Rattle.zprotocol.specs.declared.master.order.Order.TheVariants.{Retire}
use Rattle.zprotocol.specs.master.Table as master
use Rattle.zprotocol.specs.world.Links.{is_same, messages_to}
use Rattle.zlinearizability.specs.chain.Flow.{LogWorld, LogMessage}
use Rattle.zlinearizability.specs.chain.Chain.{queue, IsOpened, IsPast, LeadsTo, is_fresh, turn_of}
use Rattle.zlinearizability.specs.chain.Messages.{IsJustified}
use Rattle.zlinearizability.specs.chain.Account.{Account}
use Rattle.zlinearizability.specs.chain.Sound.{IsSound}
use Rattle.zlinearizability.proofs.chain_lemmas.places.Orders.{unread_order}
use Rattle.zlinearizability.proofs.master_lemmas.chain.Moves.{world_with_move, IsGoodPost, IsGoodMove, move_sound}

-- an order that names no predecessor and that isn't one to become the tail, also one to leave; or a
-- configuration
abbrev pub IsStanding : LogWorld → LogMessage → Type 0
IsStanding w (message.NewSucc k t n) = IsOpened w t k
IsStanding w (message.Config epoch head tail) = Unit {0}
IsStanding w message.Retire = Unit {0}
IsStanding w other = ⊥

standing_turn : (w : LogWorld) (m : LogMessage) → IsStanding w m → turn_of m ≡ None
standing_turn w (message.NewSucc k t n) h = refl
standing_turn w (message.Config epoch head tail) h = refl
standing_turn w message.Retire h = refl
standing_turn w m h = absurd h

not_pred : (w : LogWorld) (k p : ℕ) (m : LogMessage) → m ≡ message.NewPred k p → IsStanding w m → ⊥
not_pred w k p m e h = subst (IsStanding w) e h

not_tail : (w : LogWorld) (k : ℕ) (m : LogMessage) → m ≡ message.BecomeTail k → IsStanding w m → ⊥
not_tail w k m e h = subst (IsStanding w) e h

-- what clients are sent is nothing to servers
pub addressed_clients : (z : ℕ) (m : LogMessage) (cs : List ℕ) → messages_to (Server z) (map (λ c. (Client c, m)) cs) ≡ []
addressed_clients z m [] = refl
addressed_clients z m (c ∷ cs) = addressed_clients z m cs

-- with the messages to clients, servers are sent the same
pub addressed_reported : (z : ℕ) (v : MasterView) (first : List (Post (List Entry))) → messages_to (Server z) (first ++ master.config_posts v)
    ≡ messages_to (Server z) first
addressed_reported z v [] = addressed_clients z (message.Config v.epoch (head_of v) (tail_of v)) (range_with_len 0 v.clients)
addressed_reported z v (post ∷ first) = elim (test (is_same (Server z) post.0)) [
  | inl t ↦ rw t (ap (λ l. post.1 ∷ l) (addressed_reported z v first))
  | inr f ↦ rw f (addressed_reported z v first)
]

-- each is a configuration
pub reported_among : (v : MasterView) (first : List (Post (List Entry))) (post : Post (List Entry)) → Among post (first ++ master.config_posts v)
    → Among post first ⊎ (post.1 ≡ message.Config v.epoch (head_of v) (tail_of v))
reported_among v first post a = elim (among_cases post first (master.config_posts v) a) [
  | inl b ↦ inl b
  | inr c ↦ inr (each (range_with_len 0 v.clients) c)
]
  where
    each : (cs : List ℕ) → Among post (map (λ c. (Client c, message.Config v.epoch (head_of v) (tail_of v))) cs)
        → post.1 ≡ message.Config v.epoch (head_of v) (tail_of v)
    each [] a = absurd a
    each (c ∷ cs) (inl e) = sym (ap (λ (p : Post (List Entry)). p.1) e)
    each (c ∷ cs) (inr b) = each cs b

module _ {P : Type 0} (plain : Plain P) (t : Account) (s : IsSound plain t) (joining retiring : Option ℕ) (e : ℕ)
    (low : t.world.master.epoch ≤ e) (posts : List (Post (List Entry)))
    (standing : (post : Post (List Entry)) → Among post posts → IsStanding t.world post.1)
    (each : (z : ℕ) → (messages_to (Server z) posts ≡ []) ⊎ ((m : LogMessage) × (messages_to (Server z) posts ≡ m ∷ [])
    × (is_among z t.world.master.used ≡ true) × IsStanding t.world m)) where
  abbrev w : LogWorld
  w = t.world

  abbrev v : MasterView
  v = record t.world.master { joining = joining; retiring = retiring; epoch = e }

  good_post : (z : ℕ) (m : LogMessage) → is_among z w.master.used ≡ true → IsStanding w m → IsGoodPost w v z m
  good_post z m used h = record {
    is_used = used;
    new_epoch = λ k p e'. absurd (not_pred w k p m e' h);
    is_last = λ k e'.
        absurd (not_tail w k m e' h);
  }

  opened : (z k : ℕ) → IsOpened w z k → IsOpened (world_with_move w v posts) z k
  opened z k h = (
    (let given : k ≤ w.master.epoch = h.0 in omega arith),
    λ p a. elim (among_cases (message.NewPred k p) (queue w z) (messages_to (Server z) posts) a) [
      | inl b ↦ h.1 p b
      | inr c ↦ elim (each z) [
        | inl none ↦ subst (Among (message.NewPred k p)) none c
        | inr one ↦ elim (subst (Among (message.NewPred k p)) one.1 c) [ inl same ↦ not_pred w k p one.0 same one.3 | inr f ↦ f ]
      ]
    ],
  )

  standing_justified : (to : Process) (m : LogMessage) → IsStanding w m → IsJustified (world_with_move w v posts) t.items Master to m
  standing_justified to (message.NewSucc k x n) h = opened x k h
  standing_justified to (message.Config epoch head tail) h = tt
  standing_justified to message.Retire h = tt
  standing_justified to m h = absurd h

  good_standing : IsGoodMove w t.items v posts
  good_standing = record {
    distinct = s.distinct;
    used = s.used;
    used_more = λ z h. h;
    live = s.live;
    epoch = low;
    line = λ z place is. elim (each z) [
      | inl none ↦ subst (λ l. LeadsTo (IsPast w) (is_fresh w z) (w.servers z).pred (queue w z ++ l) place) (sym none)
          (subst (λ l. LeadsTo (IsPast w) (is_fresh w z) (w.servers z).pred l place) (sym (append-nil (queue w z))) (s.line z place is))
      | inr one ↦ subst (λ l. LeadsTo (IsPast w) (is_fresh w z) (w.servers z).pred (queue w z ++ l) place) (sym one.1)
          (unread_order (IsPast w) (is_fresh w z) (w.servers z).pred (queue w z) place one.0 (standing_turn w one.0 one.3) (s.line z place is))
    ];
    pairs = λ p x k given is. is;
    ordered = λ x y before. inl before;
    members_were = λ z a. inl a;
    orders = λ z. elim (each z) [ inl none ↦ inl none | inr one ↦ inr (one.0, one.1, good_post z one.0 one.2 one.3) ];
    justified = λ to m a. standing_justified to m (standing (to, m) a);
  }

  -- all facts hold where the chain is unchanged
  pub standing_sound : IsSound plain (record t { world = world_with_move t.world v posts })
  standing_sound = move_sound plain t s v posts good_standing

-- who is before another is a member
before_in : (x epoch : ℕ) (chain : List Neighbour) (p : ℕ) → master.before x epoch chain ≡ Some p → Among p (map (λ (m : Neighbour). m.0) chain)
before_in x epoch [] p h = cc h
before_in x epoch (a ∷ []) p h = cc h
before_in x epoch (a ∷ (b ∷ rest)) p h = elim (test (b.0 == x && b.1 == epoch)) [
  | inl t ↦ let is : ◌≡◌ {A = Option ℕ} (Some a.0) (Some p) = rw t at h in inl (cc is)
  | inr f ↦ inr (before_in x epoch (b ∷ rest) p (rw f at h))
]

module _ {P : Type 0} (plain : Plain P) (t : Account) (s : IsSound plain t) where
  abbrev after : MasterView × List (Post (List Entry)) → Account
  after did = record t { world = world_with_move t.world did.0 did.1 }

  -- a message that doesn't count
  pub unheard : IsSound plain (after (t.world.master, []))
  unheard = standing_sound plain t s t.world.master.joining t.world.master.retiring t.world.master.epoch (omega arith)
      [] (λ post a. absurd a) (λ z. inl refl)

  have_by : (x epoch : ℕ) (last : Option ℕ) → IsOpened t.world x epoch → (found : Option ℕ) → master.before x epoch t.world.master.chain ≡ found
      → IsSound plain (after (elim found as (λ y. MasterView × List (Post (List Entry))) [
        | None ↦ (t.world.master, [])
        | Some p ↦ (t.world.master, (Server p, message.NewSucc epoch x last) ∷ [])
      ]))
  have_by x epoch last opened None is = unheard
  have_by x epoch last opened (Some p) is =
      standing_sound plain t s t.world.master.joining t.world.master.retiring t.world.master.epoch (omega arith)
      ((Server p, message.NewSucc epoch x last) ∷ []) one
      (λ z. elim (test (z == p)) [
        | inl same ↦ inr (
          message.NewSucc epoch x last,
          rw same refl,
          subst (λ y. is_among y t.world.master.used ≡ true)
              (sym (eqb-true _ _ same)) (s.used p (before_in x epoch t.world.master.chain p is)),
          opened,
        )
        | inr f ↦ inl (rw f refl)
      ])
    where
      one : (post : Post (List Entry)) → Among post ((Server p, message.NewSucc epoch x last) ∷ []) → IsStanding t.world post.1
      one post (inl e) = subst (λ (q : Post (List Entry)). IsStanding t.world q.1) e opened
      one post (inr b) = absurd b

  -- Have
  pub have_heard : (x epoch : ℕ) (last : Option ℕ) → IsOpened t.world x epoch → IsSound plain (after (master.have_row t.world.master x epoch last))
  unfolding master.have_row
  have_heard x epoch last opened = have_by x epoch last opened (master.before x epoch t.world.master.chain) refl

  abbrev settled : MasterView
  settled = record t.world.master { joining = None; epoch = t.world.master.epoch + 1 }

  -- Joined
  pub joined_heard : (x : ℕ) → IsSound plain (after (master.joined_row t.world.master x))
  unfolding master.joined_row
  joined_heard x = elim (test (is_joining t.world.master x)) [
    | inl joins ↦ rw joins (standing_sound plain t s None t.world.master.retiring (t.world.master.epoch + 1) (omega arith)
        (master.config_posts settled)
        (λ post a. elim (reported_among settled [] post a) [ inl b ↦ absurd b | inr c ↦ subst (IsStanding t.world) (sym c) tt ])
        (λ z. inl (addressed_reported z settled [])))
    | inr f ↦ rw f unheard
  ]

  -- a member is ordered to leave
  pub retire_ordered : (x : ℕ) → Among x (members t.world.master) → IsSound plain (after (master.order_step t.world.master (Retire x)))
  unfolding master.order_step
  retire_ordered x member =
      standing_sound plain t s t.world.master.joining (Some x) t.world.master.epoch (omega arith) ((Server x, message.Retire) ∷ []) one
      (λ z. elim (test (z == x)) [
        | inl same ↦ inr (
          message.Retire,
          rw same refl,
          subst (λ y. is_among y t.world.master.used ≡ true)
              (sym (eqb-true _ _ same)) (s.used x member),
          tt,
        )
        | inr f ↦ inl (rw f refl)
      ])
    where
      one : (post : Post (List Entry)) → Among post ((Server x, message.Retire) ∷ []) → IsStanding t.world post.1
      one post (inl e) = subst (λ (q : Post (List Entry)). IsStanding t.world q.1) e tt
      one post (inr b) = absurd b
