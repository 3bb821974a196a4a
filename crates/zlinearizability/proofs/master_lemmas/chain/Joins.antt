-- A server joins: it is after the last of the chain, and an order says so.
use Rattle.std.specs.Prelude.{◌&&◌, is_none}
use Rattle.std.specs.List.{last_or}
use Rattle.std.proofs.Common.{◌≡◌, ◌⊎◌, ℕ, ◌+◌, true, ◌==◌, List, [], ◌∷◌, ◌++◌, Option, Some, None, refl, sym, ap, ◌∙◌}
use Rattle.std.proofs.Common.{subst, inl, inr, append-nil, arith, eqb-true, eq-eqb}
use Rattle.zcalls.specs.declared.call.Entry.{Entry}
use Rattle.zcalls.specs.Lists.{Among, ComesBefore, NoTwo}
use Rattle.zcalls.specs.Cached.{Plain}
use Rattle.zcalls.proofs.Among.{test}
use Rattle.zprotocol.specs.declared.message.Message.TheVariants as message
use Rattle.zprotocol.specs.declared.process.Process.TheVariants.{Master, Server}
use Rattle.zprotocol.specs.server.View.{ServerView, Post, Neighbour, Transfer, spare}
use Rattle.zprotocol.specs.master.View.{MasterView, members, is_among, with_number}
use Rattle.zprotocol.specs.declared.master.order.Order.TheVariants.{Join}
use Rattle.zprotocol.specs.master.Table as master
use Rattle.zprotocol.specs.world.Links.{messages_to}
use Rattle.zlinearizability.proofs.legal_lemmas.lists.Members.{among_left, among_right, among_last}
use Rattle.zlinearizability.proofs.legal_lemmas.lists.Distinct.{no_two_last}
use Rattle.zlinearizability.proofs.legal_lemmas.lists.Places.{before_last}
use Rattle.zlinearizability.specs.chain.Flow.{LogWorld, LogMessage, or_else, final_log_by, final_log, first_snapshot_by, first_log}
use Rattle.zlinearizability.specs.chain.Chain.{queue, IsPast, IsUsed, Place, place_behind, place_from, LeadsTo, is_fresh}
use Rattle.zlinearizability.specs.chain.Messages.{IsJustified}
use Rattle.zlinearizability.specs.chain.Account.{Account}
use Rattle.zlinearizability.specs.chain.Sound.{IsSound}
use Rattle.zlinearizability.proofs.chain_lemmas.places.Orders.{leads_more, first_order}
use Rattle.zlinearizability.proofs.master_lemmas.chain.Moves.{world_with_move, IsGoodPost, IsGoodMove, move_sound}
use Rattle.zlinearizability.proofs.master_lemmas.chain.StandingChains.{unheard}
use Rattle.zlinearizability.proofs.master_lemmas.chain.MendedChains.{ids_append, place_cases, place_in}
use Rattle.zlinearizability.proofs.master_lemmas.chain.RepairOrders.{one_reported}
use Rattle.zlinearizability.proofs.master_lemmas.chain.UsedNumbers.{used_is, used_stays, used_now}

-- the position of the last
last_place : (before : Option ℕ) (x e z : ℕ) (place : Place) → place_from before ((x, e) ∷ []) z ≡ Some place
    → (x ≡ z) × (place_behind before e ≡ place)
last_place before x e z place h = elim (test (x == z)) [
  | inl t ↦ let is : ◌≡◌ {A = Option Place} (Some (place_behind before e)) (Some place) = rw t at h in (eqb-true _ _ t, cc is)
  | inr f ↦ let is : ◌≡◌ {A = Option Place} None (Some place) = rw f at h in absurd (cc is)
]

module _ {P : Type 0} (plain : Plain P) (t : Account) (s : IsSound plain t) (x : ℕ) (unused : IsUsed t.world x → ⊥)
    (last : ℕ) (is_last : last_or None (members t.world.master) ≡ Some last) where
  abbrev w : LogWorld
  w = t.world

  abbrev e : ℕ
  e = t.world.master.epoch + 1

  abbrev v : MasterView
  v = record t.world.master { chain = t.world.master.chain ++ (x, e) ∷ []; joining = Some x; used = with_number x t.world.master.used; epoch = e }

  abbrev order : LogMessage
  order = message.NewPred e last

  abbrev posts : List (Post (List Entry))
  posts = (Server x, order) ∷ []

  abbrev w1 : LogWorld
  w1 = world_with_move w v posts

  are : members v ≡ members w.master ++ x ∷ []
  are = ids_append w.master.chain ((x, e) ∷ [])

  -- who was a member, and who has joined
  member_cases : (z : ℕ) → Among z (members v) → Among z (members w.master) ⊎ (x ≡ z)
  member_cases z a = among_last z (members w.master) x (subst (Among z) are a)

  new_member : (z : ℕ) → Among z (members w.master) → x ≡ z → ⊥
  new_member z a same = unused (s.used x (subst (λ y. Among y (members w.master)) (sym same) a))

  -- the new one has nothing
  nothing : (z : ℕ) → x ≡ z → w.servers z ≡ spare
  nothing z same = subst (λ y. w.servers y ≡ spare) same (s.blank x unused).0

  no_final_log : (z : ℕ) → x ≡ z → final_log w z ≡ None
  no_final_log z same = ap (λ (u : ServerView (List Entry)). final_log_by w z u.machine u.pred) (nothing z same)

  no_first_log : (z : ℕ) → x ≡ z → first_log w z ≡ None
  no_first_log z same = ap (λ (u : ServerView (List Entry)). or_else u.machine (first_snapshot_by w z u.pred)) (nothing z same)

  past_later : (p : Place) → IsPast w p → IsPast w1 p
  past_later None h = absurd h
  past_later (Some p) h = (
    used_stays x p.0 w.master.used h.0,
    λ a. elim (member_cases p.0 a) [ inl b ↦ h.1 b | inr same ↦ unused (subst (IsUsed w) (sym same) h.0) ],
  )

  -- positions
  places : (z : ℕ) (place : Place) → place_from None v.chain z ≡ Some place → (place_from None w.master.chain z ≡ Some place)
      ⊎ ((x ≡ z) × (Some (last, e) ≡ place))
  places z place is = elim (place_cases None w.master.chain z) [
    | inl h ↦ inl (ap (λ c. place_from None c z) (sym (append-nil w.master.chain)) ∙ h.2 [] ∙ sym (h.2 ((x, e) ∷ [])) ∙ is)
    | inr h ↦
        let new = last_place (last_or None (members w.master)) x e z place (sym (h ((x, e) ∷ [])) ∙ is) in
        inr (new.0, sym (ap (λ b. place_behind b e) is_last) ∙ new.1)
  ]

  reported_is : (z : ℕ) → (messages_to (Server z) posts ≡ []) ⊎ ((z ≡ x) × (messages_to (Server z) posts ≡ order ∷ []))
  reported_is z = one_reported x order z

  line : (z : ℕ) (place : Place) → place_from None v.chain z ≡ Some place
      → LeadsTo (IsPast w1) (is_fresh w z) (w.servers z).pred (queue w z ++ messages_to (Server z) posts) place
  line z place is = elim (places z place is) [
    | inl old ↦ elim (reported_is z) [
      | inl none ↦ subst (λ l. LeadsTo (IsPast w1) (is_fresh w z) (w.servers z).pred (queue w z ++ l) place) (sym none)
          (subst (λ l. LeadsTo (IsPast w1) (is_fresh w z) (w.servers z).pred l place) (sym (append-nil (queue w z)))
          (leads_more (IsPast w) (IsPast w1) (is_fresh w z) (is_fresh w z) (w.servers z).pred (queue w z) place past_later
          (λ h. h) (s.line z place old)))
      | inr one ↦ absurd (new_member z (place_in None w.master.chain z place old) (sym one.0))
    ]
    | inr new ↦
        let there : messages_to (Server z) posts ≡ order ∷ [] = (let same : (z == x) ≡ true = eq-eqb z x (sym new.0) in rw same refl) in
        let view = nothing z new.0 in
        let empty : queue w z ≡ [] = subst (λ y. queue w y ≡ []) new.0 (s.blank x unused).1 in
        subst (λ l. LeadsTo (IsPast w1) (is_fresh w z) (w.servers z).pred (queue w z ++ l) place) (sym there)
        (subst (λ l. LeadsTo (IsPast w1) (is_fresh w z) (w.servers z).pred (l ++ order ∷ []) place) (sym empty)
        (subst (λ (u : ServerView (List Entry)). LeadsTo (IsPast w1) (is_none u.machine && is_none u.pred) u.pred (order ∷ []) place) (sym view)
        (first_order (IsPast w1) None place order (ap (λ p. Some p) new.1))))
  ]

  good_post : (z : ℕ) → z ≡ x → IsGoodPost w v z order
  good_post z same = record {
    is_used = subst (λ y. is_among y v.used ≡ true) (sym same) (used_now x w.master.used);
    new_epoch = λ k p pair. let given : e ≡ k = cc pair in (omega arith, omega arith);
    is_last = λ k not. cc not;
  }

  good_join : IsGoodMove w t.items v posts
  good_join = record {
    distinct = subst (NoTwo (λ (a b : ℕ). a ≡ b)) (sym are) (no_two_last (λ (a b : ℕ). a ≡ b) (members w.master) x
        (λ z a same. new_member z a (sym same)) s.distinct);
    used = λ z a. elim (member_cases z a) [
      | inl b ↦ used_stays x z w.master.used (s.used z b)
      | inr same ↦ subst (λ y. is_among y v.used ≡ true) same (used_now x w.master.used)
    ];
    used_more = λ z h. used_stays x z w.master.used h;
    live = λ z used alive. subst (Among z) (sym are) (elim (used_is x z w.master.used used) [
      | inl old ↦ among_left z (members w.master) (x ∷ []) (s.live z old alive)
      | inr same ↦ subst (λ y. Among y (members w.master ++ x ∷ [])) same (among_right x (members w.master) (x ∷ []) (inl refl))
    ]);
    epoch = omega arith;
    line = line;
    pairs = λ p y k given is. elim (places y (Some (p, k)) is) [
      | inl old ↦ old
      | inr new ↦ absurd (let same : ◌≡◌ {A = Place} (Some (last, e)) (Some (p, k)) = new.1 in
          let pair : ◌≡◌ {A = Neighbour} (last, e) (p, k) = cc same in let later : e ≡ k = ap (λ (n : Neighbour). n.1) pair in omega arith)
    ];
    ordered = λ a b h. elim (before_last a b (members w.master) x (subst (ComesBefore a b) are h))
        [ inl old ↦ inl old | inr same ↦ inr (no_final_log b same) ];
    members_were = λ z a. elim (member_cases z a) [ inl b ↦ inl b | inr same ↦ inr (no_first_log z same) ];
    orders = λ z. elim (reported_is z) [ inl none ↦ inl none | inr one ↦ inr (order, one.1, good_post z one.0) ];
    justified = one_justified;
  }
    where
      one_justified : (to : _) (m : LogMessage) → Among (to, m) posts → IsJustified w1 t.items Master to m
      one_justified to m (inl is) = subst (λ (q : Post (List Entry)). IsJustified w1 t.items Master q.0 q.1) is tt
      one_justified to m (inr a) = absurd a

  -- all facts hold with the new member
  pub join_sound : IsSound plain (record t { world = world_with_move t.world v posts })
  join_sound = move_sound plain t s v posts good_join

module _ {P : Type 0} (plain : Plain P) (t : Account) (s : IsSound plain t) (x : ℕ) (unused : IsUsed t.world x → ⊥) where
  join_by : (last : Option ℕ) → last_or None (members t.world.master) ≡ last
      → (did : MasterView × List (Post (List Entry)))
      → did ≡ elim last as (λ y. MasterView × List (Post (List Entry))) [
        | None ↦ (t.world.master, [])
        | Some p ↦ (
          record t.world.master {
            chain = t.world.master.chain ++ (x, t.world.master.epoch + 1) ∷ [];
            joining = Some x;
            used = with_number x t.world.master.used;
            epoch = t.world.master.epoch + 1;
          },
          (Server x, message.NewPred (t.world.master.epoch + 1) p) ∷ [],
        )
      ]
      → IsSound plain (record t { world = world_with_move t.world did.0 did.1 })
  join_by None is did same = subst (λ (d : MasterView × List (Post (List Entry))). IsSound plain
      (record t { world = world_with_move t.world d.0 d.1 })) (sym same) (unheard plain t s)
  join_by (Some p) is did same = subst (λ (d : MasterView × List (Post (List Entry))). IsSound plain
      (record t { world = world_with_move t.world d.0 d.1 })) (sym same) (join_sound plain t s x unused p is)

  -- where there is a chain, and where there is none
  pub joins_sound : IsSound plain
      (record t {
        world = world_with_move t.world (master.order_step {T = Transfer (List Entry)} t.world.master (Join x)).0
            (master.order_step t.world.master (Join x)).1;
      })
  unfolding master.order_step
  joins_sound = join_by (last_or None (members t.world.master)) refl (master.order_step t.world.master (Join x)) refl
