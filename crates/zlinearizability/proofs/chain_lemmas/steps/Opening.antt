-- The opening is sound.
use Rattle.std.specs.Prelude.{is_none}
use Rattle.std.specs.List.{range_with_len}
use Rattle.std.proofs.Common.{◌≡◌, ◌≢◌, ◌⊎◌, ℕ, zero, suc, ◌+◌, ◌-◌, ◌<◌, ◌≤◌, true, false, if◌then◌else◌, nat_lt, ◌==◌}
use Rattle.std.proofs.Common.{List, [], ◌∷◌, map, Option, Some, None, refl, sym, ap, ◌∙◌, subst, inl, inr, arith}
use Rattle.std.proofs.Common.{eqb-true, eq-eqb, le-ltb, ne_eqb}
use Rattle.std.proofs.lemmas.Bool.Decides.{nat_tests}
use Rattle.zcalls.specs.declared.call.Entry.{Entry}
use Rattle.zcalls.specs.Lists.{Among, NoTwo}
use Rattle.zcalls.specs.Cached.{Plain}
use Rattle.zcalls.proofs.Among.{test}
use Rattle.zprotocol.specs.server.View.{ServerView, Neighbour, spare, member}
use Rattle.zprotocol.specs.master.View.{is_among, members}
use Rattle.zprotocol.specs.world.World.{opening_world}
use Rattle.zlinearizability.specs.legal.Prefix.{Pairwise}
use Rattle.zlinearizability.proofs.legal_lemmas.lists.Prefixes.{prefix_nil}
use Rattle.zlinearizability.proofs.legal_lemmas.lists.Places.{of_pairwise}
use Rattle.zlinearizability.specs.chain.Flow.{log_machine, LogWorld, Log, log_at, final_log_by, final_log}
use Rattle.zlinearizability.specs.chain.Chain.{Place, place_behind, place_from, IsBehind, IsOpened}
use Rattle.zlinearizability.specs.chain.Account.{opening_account}
use Rattle.zlinearizability.specs.chain.Sound.{IsSound}

-- numbers in a range
in_range : (a n s : ℕ) → Among s (range_with_len a n) → (a ≤ s) × (s < a + n)
in_range a zero s h = absurd h
in_range a (suc n) s (inl e) = (omega arith, omega arith)
in_range a (suc n) s (inr h) = let more = in_range (a + 1) n s h in let low : a + 1 ≤ s = more.0 in let high : s < (a + 1) + n = more.1
    in (omega arith, omega arith)

range_in : (a n s : ℕ) → a ≤ s → s < a + n → Among s (range_with_len a n)
range_in a zero s low high = absurd (omega arith)
range_in a (suc n) s low high = elim (test (a == s)) [
  | inl t ↦ inl (eqb-true _ _ t)
  | inr f ↦ inr (range_in (a + 1) n s (let apart : a < s = grind (arith, nat_tests, f, low) in omega arith) (omega arith))
]

range_apart : (a n : ℕ) → NoTwo (λ (s t : ℕ). s ≡ t) (range_with_len a n)
range_apart a zero = tt
range_apart a (suc n) = (λ y h same. let is = in_range (a + 1) n y h in let low : a + 1 ≤ y = is.0 in omega arith, range_apart (a + 1) n)

pairwise_range : (R : ℕ → ℕ → Type 0) (a n : ℕ) → ((x y : ℕ) → a ≤ x → x < y → y < a + n → R x y) → Pairwise R (range_with_len a n)
pairwise_range R a zero h = tt
pairwise_range R a (suc n) h = (
  λ y m. let is = in_range (a + 1) n y m in let low : a + 1 ≤ y = is.0 in let high : y < (a + 1) + n = is.1
      in h a y (omega arith) (omega arith) (omega arith),
  pairwise_range R (a + 1) n (λ x y low less high. h x y (omega arith) less (omega arith)),
)

-- membership, as it is tested
pub among_tested : (s : ℕ) (xs : List ℕ) → is_among s xs ≡ true → Among s xs
among_tested s [] h = cc
among_tested s (x ∷ xs) h = elim (test (x == s)) [
  | inl t ↦ inl (eqb-true _ _ t)
  | inr f ↦ inr (among_tested s xs (rw f at h))
]

-- and the other way round
pub tested_among : (s : ℕ) (xs : List ℕ) → Among s xs → is_among s xs ≡ true
tested_among s [] h = absurd h
tested_among s (x ∷ xs) (inl e) = rw (eq-eqb x s e) refl
tested_among s (x ∷ xs) (inr h) = elim (test (x == s)) [ inl t ↦ rw t refl | inr f ↦ rw f (tested_among s xs h) ]

-- the chain that a range makes
abbrev pair : ℕ → Neighbour
pair s = (s, 0)

members_are : (xs : List ℕ) → map (λ (m : Neighbour). m.0) (map pair xs) ≡ xs
members_are [] = refl
members_are (x ∷ xs) = ap (λ l. x ∷ l) (members_are xs)

-- a member's position
places : (before : Option ℕ) (a n s : ℕ) (place : Place) → place_from before (map pair (range_with_len a n)) s ≡ Some place
    → (s < a + n) × ((a ≡ s) × (place_behind before 0 ≡ place) ⊎ (a < s) × (Some (s - 1, 0) ≡ place))
places before a zero s place h = cc
places before a (suc n) s place h = elim (test (a == s)) [
  | inl t ↦
      let same : a ≡ s = eqb-true _ _ t in
      let is : ◌≡◌ {A = Option Place} (Some (place_behind before 0)) (Some place) = rw t at h in
      (omega arith, inl (same, cc is))
  | inr f ↦
      let more = places (Some a) (a + 1) n s place (rw f at h) in
      let high : s < (a + 1) + n = more.0 in (
        omega arith,
        inr (elim (more.1) [
          | inl p ↦ let is : a + 1 ≡ s = p.0 in (omega arith, (let down : s - 1 ≡ a = omega arith in λ i. Some (down i, 0)) ∙ p.1)
          | inr p ↦ let low : a + 1 < s = p.0 in (omega arith, p.1)
        ]),
      )
]

module _ {P : Type 0} (plain : Plain P) (servers clients : ℕ) where
  abbrev w : LogWorld
  w = opening_world (log_machine plain) servers clients

  -- the neighbours of a member
  abbrev pred_of : ℕ → Option Neighbour
  pred_of s = if s == 1 then None else Some (s - 1, 0)

  abbrev succ_of : ℕ → Option Neighbour
  succ_of s = if s == servers then None else Some (s + 1, 0)

  -- a server is a member, or spare
  is_member : (s : ℕ) → 1 ≤ s → s ≤ servers → w.servers s ≡ member (log_machine plain) (pred_of s) (succ_of s)
  is_member s low high =
      let here : (s == 0) ≡ false = ne_eqb s 0 (omega arith) in
      let there : nat_lt servers s ≡ false = le-ltb servers s high in
      rw here (rw there refl)

  is_spare : (s : ℕ) → ((1 ≤ s) → (s ≤ servers) → ⊥) → w.servers s ≡ spare
  is_spare s out = elim (test (s == 0)) [
    | inl t ↦ rw t refl
    | inr f ↦ rw f (elim (test (nat_lt servers s)) [
      | inl t ↦ rw t refl
      | inr g ↦ absurd (out (let up : s ≢ 0 = grind (arith, nat_tests, f) in omega arith) (grind (arith, nat_tests, g)))
    ])
  ]

  -- what holds of members and of spares holds of each
  each_view : (Q : ServerView (List Entry) → Type 0) (s : ℕ) → Q (member (log_machine plain) (pred_of s) (succ_of s)) → Q spare → Q (w.servers s)
  each_view Q s m e = elim (test (s == 0)) [
    | inl t ↦ rw t e
    | inr f ↦ rw f (elim (test (nat_lt servers s)) [ inl t ↦ rw t e | inr g ↦ rw g m ])
  ]

  -- every log is empty
  log_empty : (s : ℕ) (log : List Entry) → log_at w s ≡ Some log → [] ≡ log
  log_empty s log h =
      each_view (λ v. v.machine ≡ Some log → [] ≡ log) s (λ e. let is : ◌≡◌ {A = Log} (Some []) (Some log) = e in cc is)
      (λ e. let is : ◌≡◌ {A = Log} None (Some log) = e in cc) h

  -- of each two members the first is ahead
  final_log_empty : (s : ℕ) → 1 ≤ s → s ≤ servers → final_log w s ≡ Some []
  final_log_empty s low high =
      ap (λ (v : ServerView (List Entry)). final_log_by w s v.machine v.pred) (is_member s low high)
      ∙ (elim (test (s == 1)) [ inl t ↦ rw t refl | inr f ↦ rw f refl ])

  ahead : (x y : ℕ) → 1 ≤ x → x < y → y < 1 + servers → IsBehind w x y
  ahead x y low less high log is =
      let here = is_member x low (omega arith) in
      record {
        own = [];
        holds = ap (λ (v : ServerView (List Entry)). v.machine) here;
        begins = ([], let e : Some [] ≡ Some log = sym (final_log_empty y (omega arith) (omega arith)) ∙ is in cc e);
        has_successor = ap (λ (v : ServerView (List Entry)). is_none v.succ) here
            ∙ (let f : (x == servers) ≡ false = ne_eqb x servers (omega arith) in rw f refl);
        no_tail_order = λ epoch a. absurd a;
      }

  line_opens : (s : ℕ) (place : Place) → place_from None w.master.chain s ≡ Some place → (w.servers s).pred ≡ place
  line_opens s place h =
      let found = places None 1 servers s place h in
      let high : s < 1 + servers = found.0 in
      elim (found.1) [
        | inl p ↦ let one : 1 ≡ s = p.0 in ap (λ (v : ServerView (List Entry)). v.pred) (is_member s (omega arith) (omega arith))
            ∙ (let t : (s == 1) ≡ true = eq-eqb s 1 (sym one) in rw t p.1)
        | inr p ↦ let up : 1 < s = p.0 in ap (λ (v : ServerView (List Entry)). v.pred) (is_member s (omega arith) (omega arith))
            ∙ (let f : (s == 1) ≡ false = ne_eqb s 1 (omega arith) in rw f p.1)
      ]

  -- all facts hold before the first event
  pub opening_sound : IsSound plain (opening_account plain servers clients)
  opening_sound = record {
    distinct = subst (NoTwo (λ (s t : ℕ). s ≡ t)) (sym (members_are (range_with_len 1 servers))) (range_apart 1 servers);
    used = λ s h. tested_among s (range_with_len 1 servers) (subst (λ l. Among s l) (members_are (range_with_len 1 servers)) h);
    blank = λ s not_used.
        (is_spare s (λ low high. not_used (tested_among s (range_with_len 1 servers) (range_in 1 servers s low (omega arith)))), refl);
    live = λ s is_used alive. subst (λ l. Among s l) (sym (members_are (range_with_len 1 servers)))
        (among_tested s (range_with_len 1 servers) is_used);
    line = line_opens;
    successors = λ s t k h. opened s t k h;
    epochs = λ s. tt;
    tail_orders = λ s. tt;
    ordered = of_pairwise (IsBehind w) (members w.master) (subst (Pairwise (IsBehind w)) (sym (members_are (range_with_len 1 servers)))
        (pairwise_range (IsBehind w) 1 servers ahead));
    committed = λ s log h is. prefix_nil log;
    tail = λ s log h is ends. sym (log_empty s log is);
    sent = λ s log n e is a. absurd (nothing_sent s n e a);
    begun = λ s log is e a. absurd (subst (Among e) (sym (log_empty s log is)) a);
    committed_begun = λ e a. absurd a;
    justified = λ from to m a. absurd a;
    acted = refl;
    replays = tt;
    rising = tt;
    in_time = λ i a. absurd a;
    answered = tt;
    once = tt;
    numbered = λ o a. absurd a;
    waits = λ c n call is. cc;
  }
    where
      successor : (s t k : ℕ) → (w.servers s).succ ≡ Some (t, k) → k ≡ 0
      successor s t k h =
          each_view (λ v. v.succ ≡ Some (t, k) → k ≡ 0) s
          (λ e. elim (test (s == servers)) [
            | inl y ↦ let is : ◌≡◌ {A = Option Neighbour} None (Some (t, k)) = rw y at e in cc
            | inr y ↦ let is : ◌≡◌ {A = Option Neighbour} (Some (s + 1, 0)) (Some (t, k)) = rw y at e in
                let p : ◌≡◌ {A = Neighbour} (s + 1, 0) (t, k) = cc is in sym (ap (λ (q : Neighbour). q.1) p)
          ])
          (λ e. let is : ◌≡◌ {A = Option Neighbour} None (Some (t, k)) = e in cc) h

      opened : (s t k : ℕ) → (w.servers s).succ ≡ Some (t, k) → IsOpened w t k
      opened s t k h = let zero_epoch : k ≡ 0 = successor s t k h in (omega arith, λ p a. absurd a)

      nothing_sent : (s n : ℕ) (e : Entry) → Among (n, e) (w.servers s).sent → ⊥
      nothing_sent s n e a = each_view (λ v. Among (n, e) v.sent → ⊥) s (λ b. b) (λ b. b) a
