-- A member with a log and without predecessor is the first of the chain.
use Rattle.std.specs.Prelude.{◌&&◌, is_none}
use Rattle.std.proofs.Common.{◌≡◌, ℕ, false, ◌==◌, List, [], ◌∷◌, map, Option, Some, None, sym, ap, ◌∙◌, subst, inl, inr, eqb-true}
use Rattle.zcalls.specs.declared.call.Entry.{Entry}
use Rattle.zcalls.specs.Lists.{ComesBefore, NoTwo}
use Rattle.zcalls.proofs.Among.{test}
use Rattle.zprotocol.specs.server.View.{Neighbour}
use Rattle.zprotocol.specs.master.View.{members}
use Rattle.zlinearizability.proofs.legal_lemmas.lists.Places.{before_second}
use Rattle.zlinearizability.specs.chain.Flow.{LogWorld, log_at}
use Rattle.zlinearizability.specs.chain.Chain.{Place, place_from, queue, IsPast, IsMember, LeadsTo, is_fresh}
use Rattle.zlinearizability.specs.chain.Sound.{OrdersLead, AreDistinct}
use Rattle.zlinearizability.proofs.chain_lemmas.places.Orders.{settled}
use Rattle.zlinearizability.proofs.chain_lemmas.places.Pairs.{has_place}

-- after another no member is first
never_first : (b : ℕ) (chain : List Neighbour) (s : ℕ) → place_from (Some b) chain s ≡ Some None → ⊥
never_first b [] s h = cc h
never_first b (a ∷ chain) s h = elim (test (a.0 == s)) [
  | inl t ↦ let is : ◌≡◌ {A = Option Place} (Some (Some (b, a.1))) (Some None) = rw t at h in absurd (cc is)
  | inr f ↦ never_first a.0 chain s (rw f at h)
]

nobody_before : (chain : List Neighbour) (s : ℕ) → place_from None chain s ≡ Some None
    → NoTwo (λ (x y : ℕ). x ≡ y) (map (λ (m : Neighbour). m.0) chain)
    → (x : ℕ) → ComesBefore x s (map (λ (m : Neighbour). m.0) chain) → ⊥
nobody_before [] s h apart x before = before
nobody_before (a ∷ chain) s h apart x before = elim (test (a.0 == s)) [
  | inl t ↦ again (eqb-true _ _ t) before
  | inr f ↦ never_first a.0 chain s (rw f at h)
]
  where
    again : a.0 ≡ s → ComesBefore x s (map (λ (m : Neighbour). m.0) (a ∷ chain)) → ⊥
    again same (inl p) = apart.0 s p.1 same
    again same (inr p) = apart.0 s (before_second x s (map (λ (m : Neighbour). m.0) chain) p) same

-- a member with a log and without predecessor has no one before it
pub head_is_first : (w : LogWorld) → OrdersLead w → AreDistinct w → (s : ℕ) → IsMember w s → (log : List Entry)
    → log_at w s ≡ Some log → (w.servers s).pred ≡ None
    → (x : ℕ) → ComesBefore x s (members w.master) → ⊥
head_is_first w line apart s member log has head =
    let place = has_place None w.master.chain s member in
    let fresh : is_fresh w s ≡ false = ap (λ l. is_none l && is_none (w.servers s).pred) has in
    let leads : LeadsTo (IsPast w) false None (queue w s) place.0 =
    subst (λ b. LeadsTo (IsPast w) b None (queue w s) place.0) fresh
    (subst (λ pred. LeadsTo (IsPast w) (is_fresh w s) pred (queue w s) place.0) head (line s place.0 place.1)) in
    let same = settled (IsPast w) None (queue w s) place.0 (λ past. past) leads in
    nobody_before w.master.chain s (place.1 ∙ ap (λ x. Some x) (sym same)) apart
