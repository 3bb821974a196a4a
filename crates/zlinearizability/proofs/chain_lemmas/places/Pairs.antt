-- Members and their predecessors: a member whose predecessor is a member has it in the master's mind too.
use Rattle.std.specs.Prelude.{◌&&◌, is_none}
use Rattle.std.proofs.Common.{◌≡◌, ◌⊎◌, ℕ, false, ◌==◌, List, [], ◌∷◌, ◌++◌, map, Option, Some, None, refl, sym, ap, ◌∙◌, subst, inl, inr, eq-eqb}
use Rattle.zcalls.specs.declared.call.Entry.{Entry}
use Rattle.zcalls.specs.Lists.{Among, ComesBefore, NoTwo}
use Rattle.zcalls.proofs.Among.{test}
use Rattle.zprotocol.specs.server.View.{ServerView, Neighbour}
use Rattle.zprotocol.specs.master.View.{members, is_among}
use Rattle.zlinearizability.proofs.legal_lemmas.lists.Places.{stands_before, before_next}
use Rattle.zlinearizability.specs.chain.Flow.{LogWorld, Log, log_at}
use Rattle.zlinearizability.specs.chain.Chain.{Place, place_behind, place_from, queue, IsPair, IsPast, IsMember, LeadsTo, is_fresh}
use Rattle.zlinearizability.specs.chain.Sound.{OrdersLead, AreDistinct, UnusedAreBlank, LiveAreMembers}
use Rattle.zlinearizability.proofs.chain_lemmas.places.Orders.{settled, place_splits_chain}

-- a server that is alive and has a log is a member
pub log_member : (w : LogWorld) → UnusedAreBlank w → LiveAreMembers w → (s : ℕ) → w.failed s ≡ false → (log : List Entry)
    → log_at w s ≡ Some log → IsMember w s
log_member w blank live s alive log has = elim (test (is_among s w.master.used)) [
  | inl used ↦ live s used alive
  | inr f ↦
      let view = (blank s (λ h. cc (f, h))).0 in
      let none : ◌≡◌ {A = Log} None (Some log) = sym (ap (λ (u : ServerView (List Entry)). u.machine) view) ∙ has in absurd (cc none)
]

-- a member has a position
pub has_place : (before : Option ℕ) (chain : List Neighbour) (s : ℕ) → Among s (map (λ (m : Neighbour). m.0) chain)
    → (place : Place) × (place_from before chain s ≡ Some place)
has_place before [] s h = absurd h
has_place before (t ∷ rest) s h = elim (test (t.0 == s)) [
  | inl e ↦ (place_behind before t.1, rw e refl)
  | inr f ↦ let more = has_place (Some t.0) rest s (there f h) in (more.0, rw f more.1)
]
  where
    there : (t.0 == s) ≡ false → Among s (map (λ (m : Neighbour). m.0) (t ∷ rest)) → Among s (map (λ (m : Neighbour). m.0) rest)
    there f (inl e) = absurd (never (rw e at f))
      where
        never : (s == s) ≡ false → ⊥
        never g = cc (g, eq-eqb s s refl)
    there f (inr a) = a

-- with a predecessor no server is fresh
not_fresh : (w : LogWorld) (s : ℕ) (pred : Neighbour) → (w.servers s).pred ≡ Some pred → is_fresh w s ≡ false
not_fresh w s pred h = elim (test (is_none (log_at w s))) [
  | inl t ↦ ap (λ b. b && is_none (w.servers s).pred) t ∙ ap is_none h
  | inr f ↦ ap (λ b. b && is_none (w.servers s).pred) f
]

-- a member's predecessor, if it is a member, is the one that the master has in mind
pub settled_pred : (w : LogWorld) → OrdersLead w → (p s k : ℕ) → IsMember w p → IsMember w s → (w.servers s).pred ≡ Some (p, k) → IsPair w p s k
settled_pred w line p s k p_in s_in is =
    let place = has_place None w.master.chain s s_in in
    let leads : LeadsTo (IsPast w) false (Some (p, k)) (queue w s) place.0 =
    subst (λ b. LeadsTo (IsPast w) b (Some (p, k)) (queue w s) place.0) (not_fresh w s (p, k) is)
    (subst (λ pred. LeadsTo (IsPast w) (is_fresh w s) pred (queue w s) place.0) is (line s place.0 place.1)) in
    let same = settled (IsPast w) (Some (p, k)) (queue w s) place.0 (λ past. past.1 p_in) leads in
    place.1 ∙ ap (λ x. Some x) (sym same)

-- and is right before it
pub record AreNext (w : LogWorld) (p s : ℕ) : Type 0 where
  pub before : ComesBefore p s (members w.master)
  pub others : (a : ℕ) → ComesBefore a s (members w.master) → (a ≡ p) ⊎ ComesBefore a p (members w.master)

map_split : (front : List Neighbour) (a b : Neighbour) (rest : List Neighbour)
    → map (λ (m : Neighbour). m.0) (front ++ a ∷ b ∷ rest) ≡ map (λ (m : Neighbour). m.0) front ++ a.0 ∷ b.0 ∷ map (λ (m : Neighbour). m.0) rest
map_split [] a b rest = refl
map_split (f ∷ front) a b rest = ap (λ l. f.0 ∷ l) (map_split front a b rest)

-- the members of a pair are adjacent
pub pair_next : (w : LogWorld) → AreDistinct w → (p s k : ℕ) → IsPair w p s k → AreNext w p s
pair_next w apart p s k is =
    let split = place_splits_chain w.master.chain p s k is in
    let front = map (λ (m : Neighbour). m.0) split.front in
    let rest = map (λ (m : Neighbour). m.0) split.rest in
    let same : members w.master ≡ front ++ p ∷ s ∷ rest = ap (map (λ (m : Neighbour). m.0)) split.is
    ∙ map_split split.front (p, split.epoch) (s, k) split.rest in
    record {
      before = subst (ComesBefore p s) (sym same) (stands_before front rest p s);
      others = λ a h. elim (before_next front rest p s (subst (NoTwo (λ (x y : ℕ). x ≡ y)) same apart) a (subst (ComesBefore a s) same h)) [
        | inl e ↦ inl e
        | inr b ↦ inr (subst (ComesBefore a p) (sym same) b)
      ];
    }
