-- The master hears Gone: from outside the chain, or from a member, which is taken out.
use Rattle.std.specs.List.{last_or}
use Rattle.std.proofs.Common.{◌≡◌, ◌⊎◌, ℕ, ◌+◌, ◌≤◌, true, false, ◌==◌, List, [], ◌∷◌, ◌++◌, Option, Some, None, refl}
use Rattle.std.proofs.Common.{sym, ap, ◌∙◌, subst, inl, inr, append-nil, arith, eqb-true}
use Rattle.zcalls.specs.declared.call.Entry.{Entry}
use Rattle.zcalls.specs.Lists.{Among, ComesBefore, NoTwo}
use Rattle.zcalls.specs.Cached.{Plain}
use Rattle.zcalls.proofs.Among.{test}
use Rattle.zprotocol.specs.declared.message.Message.TheVariants as message
use Rattle.zprotocol.specs.declared.process.Process.TheVariants.{Master, Server}
use Rattle.zprotocol.specs.server.View.{Post, Neighbour, Transfer}
use Rattle.zprotocol.specs.master.View.{MasterView, members, is_among, with_number}
use Rattle.zprotocol.specs.master.Table as master
use Rattle.zprotocol.specs.world.Links.{messages_to}
use Rattle.zlinearizability.proofs.legal_lemmas.lists.Members.{among_left, among_right, among_insert, among_inserted}
use Rattle.zlinearizability.proofs.legal_lemmas.lists.Places.{before_insert}
use Rattle.zlinearizability.proofs.legal_lemmas.lists.Distinct.{no_two_without}
use Rattle.zlinearizability.specs.chain.Flow.{LogWorld, LogMessage}
use Rattle.zlinearizability.specs.chain.Chain.{queue, IsPast, Place, place_behind, place_from, LeadsTo, is_fresh, turn_of}
use Rattle.zlinearizability.specs.chain.Messages.{IsJustified}
use Rattle.zlinearizability.specs.chain.Account.{Account}
use Rattle.zlinearizability.specs.chain.Sound.{IsSound}
use Rattle.zlinearizability.proofs.chain_lemmas.places.Orders.{leads_more, one_more_order, unread_order}
use Rattle.zlinearizability.proofs.chain_lemmas.steps.Opening.{among_tested}
use Rattle.zlinearizability.proofs.master_lemmas.chain.Moves.{world_with_move, IsGoodPost, IsGoodMove, move_sound}
use Rattle.zlinearizability.proofs.master_lemmas.chain.StandingChains.{addressed_reported, reported_among}
use Rattle.zlinearizability.proofs.master_lemmas.chain.MendedChains.{ids, ids_append, Stands, stands, repair, mended_is}
use Rattle.zlinearizability.proofs.master_lemmas.chain.MendedChains.{mended_ids, place_cases, place_in, apart_of, gone_of}
use Rattle.zlinearizability.proofs.master_lemmas.chain.MendedChains.{last_in, nobody_behind}
use Rattle.zlinearizability.proofs.master_lemmas.chain.RepairOrders.{IsReported, Heads, Ends, Turns, reported_one, reported_turned}
use Rattle.zlinearizability.proofs.master_lemmas.chain.RepairOrders.{repair_justified, IsTurned, IsElsewhere, repair_place}
use Rattle.zlinearizability.proofs.master_lemmas.chain.UsedNumbers.{used_is, used_stays}

-- from outside the chain
module _ {P : Type 0} (plain : Plain P) (t : Account) (s : IsSound plain t) (x : ℕ) (gone : t.world.failed x ≡ true) where
  abbrev used_view : MasterView
  used_view = record t.world.master { used = with_number x t.world.master.used }

  past_stays : (p : Place) → IsPast t.world p → IsPast (world_with_move t.world used_view []) p
  past_stays None h = absurd h
  past_stays (Some p) h = (used_stays x p.0 t.world.master.used h.0, h.1)

  good_outside : IsGoodMove t.world t.items used_view []
  good_outside = record {
    distinct = s.distinct;
    used = λ z a. used_stays x z t.world.master.used (s.used z a);
    used_more = λ z h. used_stays x z t.world.master.used h;
    live = λ z used alive. elim (used_is x z t.world.master.used used) [
      | inl old ↦ s.live z old alive
      | inr e ↦ absurd (let failed = subst (λ y. t.world.failed y ≡ true) e gone in cc (failed, alive))
    ];
    epoch = omega arith;
    line = λ z place is. subst (λ l. LeadsTo (IsPast (world_with_move t.world used_view [])) (is_fresh t.world z)
        (t.world.servers z).pred l place) (sym (append-nil (queue t.world z)))
        (leads_more (IsPast t.world) (IsPast (world_with_move t.world used_view [])) (is_fresh t.world z) (is_fresh t.world z)
        (t.world.servers z).pred (queue t.world z) place past_stays (λ h. h) (s.line z place is));
    pairs = λ p y k given is. is;
    ordered = λ a b before. inl before;
    members_were = λ z a. inl a;
    orders = λ z. inl refl;
    justified = λ to m a. absurd a;
  }

  -- its number was used from now on, and nothing else changes
  pub outside_sound : IsSound plain (record t { world = world_with_move t.world used_view [] })
  outside_sound = move_sound plain t s used_view [] good_outside

-- from a member
module _ {P : Type 0} (plain : Plain P) (t : Account) (s : IsSound plain t) (x : ℕ) (gone : t.world.failed x ≡ true)
    (x_in : Among x (members t.world.master)) where
  abbrev w : LogWorld
  w = t.world

  abbrev split : Stands w.master.chain x
  split = stands t.world.master.chain x x_in

  abbrev front : List Neighbour
  front = split.front

  abbrev rest : List Neighbour
  rest = split.rest

  abbrev before : Option ℕ
  before = last_or None (ids split.front)

  abbrev e : ℕ
  e = t.world.master.epoch + 1

  abbrev v : MasterView
  v = master.without_member t.world.master x (front ++ (repair before e rest).0)

  abbrev posts : List (Post (List Entry))
  posts = (repair before e rest).1 ++ master.config_posts v

  abbrev w1 : LogWorld
  w1 = world_with_move w v posts

  were : members w.master ≡ ids front ++ x ∷ ids rest
  were = ap ids split.is ∙ ids_append front ((x, split.epoch) ∷ rest)

  are : members v ≡ ids front ++ ids rest
  are = mended_ids before e front rest

  were_apart : NoTwo (λ (a b : ℕ). a ≡ b) (ids front ++ x ∷ ids rest)
  were_apart = subst (NoTwo (λ (a b : ℕ). a ≡ b)) were s.distinct

  are_apart : NoTwo (λ (a b : ℕ). a ≡ b) (ids front ++ ids rest)
  are_apart = no_two_without (λ (a b : ℕ). a ≡ b) (ids front) x (ids rest) were_apart

  was_member : (z : ℕ) → Among z (ids front ++ ids rest) → Among z (members w.master)
  was_member z a = subst (Among z) (sym were) (among_insert z x (ids front) (ids rest) a)

  -- the one that is gone is past
  past_now : (k : ℕ) → IsPast w1 (Some (x, k))
  past_now k = (s.used x x_in, λ a. gone_of (ids front) (ids rest) x were_apart (subst (Among x) are a))

  past_later : (p : Place) → IsPast w p → IsPast w1 p
  past_later None h = absurd h
  past_later (Some p) h = (h.0, λ a. h.1 (was_member p.0 (subst (Among p.0) are a)))

  -- positions
  places : (z : ℕ) (place : Place) → place_from None v.chain z ≡ Some place
      → ((place_from None w.master.chain z ≡ Some place) × IsElsewhere rest z) ⊎ IsTurned before e rest x z place (place_from None w.master.chain z)
  places z place is = elim (place_cases None front z) [
    | inl h ↦ inl (
      ap (λ c. place_from None c z) split.is ∙ h.2 ((x, split.epoch) ∷ rest) ∙ sym (h.2 (repair before e rest).0) ∙ is,
      λ r more next here. apart_of (ids front) (ids rest) z are_apart h.1 (subst (λ l. Among z (ids l)) (sym next) (inl (sym here))),
    )
    | inr h ↦
        let old : place_from None w.master.chain z ≡ place_from before ((x, split.epoch) ∷ rest) z = ap (λ c. place_from None c z) split.is
        ∙ h ((x, split.epoch) ∷ rest) in
        elim (repair_place before e rest x split.epoch z place other (sym (h (repair before e rest).0) ∙ is)) [
          | inl same ↦ inl (old ∙ same.0, same.1)
          | inr turned ↦ inr (record {
            next = turned.next;
            more = turned.more;
            is = turned.is;
            here = turned.here;
            place_is = turned.place_is;
            was = old ∙ turned.was;
          })
        ]
  ]
    where
      other : (x == z) ≡ false
      other = elim (test (x == z)) [
        | inl same ↦ absurd (gone_of (ids front) (ids rest) x were_apart
            (subst (Among x) are (subst (λ y. Among y (members v)) (sym (eqb-true _ _ same)) (place_in None v.chain z place is))))
        | inr f ↦ f
      ]

  -- which order is sent
  reported_is : (z : ℕ) → (messages_to (Server z) posts ≡ []) ⊎ ((m : LogMessage) × (messages_to (Server z) posts ≡ m ∷ []) × IsReported before e rest z m)
  reported_is z = elim (reported_one before e rest z) [
    | inl none ↦ inl (addressed_reported z v (repair before e rest).1 ∙ none)
    | inr one ↦ inr (one.0, addressed_reported z v (repair before e rest).1 ∙ one.1, one.2)
  ]

  good_reported : (z : ℕ) (m : LogMessage) → IsReported before e rest z m → IsGoodPost w v z m
  good_reported z m (Heads r more is next here order) = record {
    is_used = s.used z (was_member z (among_right z (ids front) (ids rest) (subst (λ l. Among z (ids l)) (sym next) (inl (sym here)))));
    new_epoch = λ k p same. let not : ◌≡◌ {A = LogMessage} (message.BecomeHead e) (message.NewPred k p) = sym order ∙ same in cc not;
    is_last = λ k same. let not : ◌≡◌ {A = LogMessage} (message.BecomeHead e) (message.BecomeTail k) = sym order ∙ same in cc not;
  }
  good_reported z m (Ends p is none here order) = record {
    is_used = elim (last_in None (ids front) p is) [
      | inl not ↦ cc not
      | inr a ↦ s.used z (was_member z (among_left z (ids front) (ids rest) (subst (λ y. Among y (ids front)) (sym here) a)))
    ];
    new_epoch = λ k q same. let not : ◌≡◌ {A = LogMessage} (message.BecomeTail e) (message.NewPred k q) = sym order ∙ same in cc not;
    is_last = λ k same y b.
        let only : ids front ++ ids rest ≡ ids front = ap (λ l. ids front ++ ids l) none ∙ append-nil (ids front) in
        nobody_behind None (ids front) p y is (subst (NoTwo (λ (a b : ℕ). a ≡ b)) only are_apart)
        (subst (λ c. ComesBefore c y (ids front)) here (subst (ComesBefore z y) (are ∙ only) b));
  }
  good_reported z m (Turns p r more is next here order) = record {
    is_used = s.used z (was_member z (among_right z (ids front) (ids rest) (subst (λ l. Among z (ids l)) (sym next) (inl (sym here)))));
    new_epoch = λ k q same.
        let pair : ◌≡◌ {A = LogMessage} (message.NewPred e p) (message.NewPred k q) = sym order ∙ same in
        let given : e ≡ k = cc pair in (omega arith, omega arith);
    is_last = λ k same. let not : ◌≡◌ {A = LogMessage} (message.NewPred e p) (message.BecomeTail k) = sym order ∙ same in cc not;
  }

  -- who is sent no turn
  unread_reported : (z : ℕ) (m : LogMessage) → IsElsewhere rest z → IsReported before e rest z m → turn_of m ≡ None
  unread_reported z m apart (Heads r more is next here order) = absurd (apart r more next here)
  unread_reported z m apart (Ends p is none here order) = ap turn_of order
  unread_reported z m apart (Turns p r more is next here order) = absurd (apart r more next here)

  leads : (z : ℕ) (place : Place) → place_from None w.master.chain z ≡ Some place
      → LeadsTo (IsPast w1) (is_fresh w z) (w.servers z).pred (queue w z) place
  leads z place is = leads_more (IsPast w) (IsPast w1) (is_fresh w z) (is_fresh w z) (w.servers z).pred (queue w z)
      place past_later (λ h. h) (s.line z place is)

  line : (z : ℕ) (place : Place) → place_from None v.chain z ≡ Some place
      → LeadsTo (IsPast w1) (is_fresh w z) (w.servers z).pred (queue w z ++ messages_to (Server z) posts) place
  line z place is = elim (places z place is) [
    | inl old ↦ elim (reported_is z) [
      | inl none ↦ subst (λ l. LeadsTo (IsPast w1) (is_fresh w z) (w.servers z).pred (queue w z ++ l) place) (sym none)
          (subst (λ l. LeadsTo (IsPast w1) (is_fresh w z) (w.servers z).pred l place) (sym (append-nil (queue w z))) (leads z place old.0))
      | inr one ↦ subst (λ l. LeadsTo (IsPast w1) (is_fresh w z) (w.servers z).pred (queue w z ++ l) place) (sym one.1)
          (unread_order (IsPast w1) (is_fresh w z) (w.servers z).pred (queue w z) place one.0 (unread_reported z one.0 old.1 one.2) (leads z place old.0))
    ]
    | inr turned ↦
        let one = reported_turned before e turned.next turned.more z turned.here in
        let there : messages_to (Server z) posts ≡ one.0 ∷ [] =
        addressed_reported z v (repair before e rest).1 ∙ ap (λ l. messages_to (Server z) (repair before e l).1) turned.is ∙ one.1 in
        subst (λ l. LeadsTo (IsPast w1) (is_fresh w z) (w.servers z).pred (queue w z ++ l) place) (sym there)
        (one_more_order (IsPast w1) (is_fresh w z) (w.servers z).pred (queue w z) (Some (x, turned.next.1)) place one.0
        (one.2 ∙ ap (λ p. Some p) turned.place_is)
        (past_now turned.next.1) (leads z (Some (x, turned.next.1)) turned.was))
  ]

  pairs : (p y k : ℕ) → k ≤ w.master.epoch → place_from None v.chain y ≡ Some (Some (p, k)) → place_from None w.master.chain y ≡ Some (Some (p, k))
  pairs p y k given is = elim (places y (Some (p, k)) is) [
    | inl old ↦ old.0
    | inr turned ↦ absurd (new_pair before turned.place_is)
  ]
    where
      new_pair : (b : Option ℕ) → place_behind b e ≡ Some (p, k) → ⊥
      new_pair None same = cc same
      new_pair (Some q) same = let pair : ◌≡◌ {A = Neighbour} (q, e) (p, k) = cc same in let later : e
          ≡ k = ap (λ (n : Neighbour). n.1) pair in omega arith

  good_inside : IsGoodMove w t.items v posts
  good_inside = record {
    distinct = subst (NoTwo (λ (a b : ℕ). a ≡ b)) (sym are) are_apart;
    used = λ z a. s.used z (was_member z (subst (Among z) are a));
    used_more = λ z h. h;
    live = λ z used alive. elim (among_inserted z x (ids front) (ids rest) (subst (Among z) were (s.live z used alive))) [
      | inl same ↦ absurd (let failed = subst (λ y. w.failed y ≡ true) same gone in cc (failed, alive))
      | inr a ↦ subst (Among z) (sym are) a
    ];
    epoch = omega arith;
    line = line;
    pairs = pairs;
    ordered = λ a b h. inl (subst (ComesBefore a b) (sym were) (before_insert a b x (ids front) (ids rest) (subst (ComesBefore a b) are h)));
    members_were = λ z a. inl (was_member z (subst (Among z) are a));
    orders = λ z. elim (reported_is z) [ inl none ↦ inl none | inr one ↦ inr (one.0, one.1, good_reported z one.0 one.2) ];
    justified = λ to m a. elim (reported_among v (repair before e rest).1 (to, m) a) [
      | inl b ↦ repair_justified before e rest w1 t.items (to, m) b
      | inr c ↦ subst (IsJustified w1 t.items Master to) (sym c) tt
    ];
  }

  mended_here : master.mended_chain {T = Transfer (List Entry)} e x w.master.chain ≡ (front ++ (repair before e rest).0, (repair before e rest).1)
  mended_here = ap (master.mended_chain e x) split.is ∙ mended_is e x split.epoch front rest split.first

  -- all facts hold without the member
  pub inside_sound : IsSound plain (record t {
    world = world_with_move t.world
        (master.without_member t.world.master x (master.mended_chain {T = Transfer (List Entry)} (t.world.master.epoch + 1) x t.world.master.chain).0)
        ((master.mended_chain {T = Transfer (List Entry)} (t.world.master.epoch + 1) x t.world.master.chain).1
        ++ master.config_posts (master.without_member t.world.master x (master.mended_chain {T = Transfer (List Entry)}
        (t.world.master.epoch + 1) x t.world.master.chain).0));
  })
  inside_sound = subst (λ (c : List Neighbour × List (Post (List Entry))). IsSound plain (record t {
    world = world_with_move t.world
        (master.without_member t.world.master x c.0)
        (c.1 ++ master.config_posts (master.without_member t.world.master x c.0));
  }))
      (sym mended_here) (move_sound plain t s v posts good_inside)

module _ {P : Type 0} (plain : Plain P) (t : Account) (s : IsSound plain t) where
  -- Gone from anyone
  pub gone_heard : (x : ℕ) → t.world.failed x ≡ true
      → IsSound plain (record t {
        world = world_with_move t.world (master.gone_row {T = Transfer (List Entry)} t.world.master x).0
            (master.gone_row t.world.master x).1;
      })
  unfolding master.gone_row
  gone_heard x gone = elim (test (is_among x (members t.world.master))) [
    | inl member ↦ rw member (inside_sound plain t s x gone (among_tested x (members t.world.master) member))
    | inr f ↦ rw f (outside_sound plain t s x gone)
  ]
