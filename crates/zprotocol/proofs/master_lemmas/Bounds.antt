-- The master's bounds are invariants.
use Rattle.std.proofs.Common.{◌≡◌, ℕ, ◌+◌, ◌≤◌, Bool, true, false, ◌==◌, List, [], ◌∷◌, ◌++◌, Option, Some, None, zero, suc, length, refl, sym, ap, subst, ◌∙◌, inl, inr, arith, length-append}
use mathlib.Core.Bool.{true≢false}
use Rattle.std.specs.Prelude.{◌||◌, not, if◌then◌else◌}
use Rattle.std.proofs.lemmas.List.FromFn.{length-range_with_len, length-map-range_with_len}
use Rattle.std.specs.List.{range_with_len, last_or}
use Rattle.std.proofs.lemmas.Bool.Decides.{nat_tests}
use Rattle.zcalls.proofs.Among.{test}
use Rattle.zprotocol.specs.declared.message.Message.{Message}
use Rattle.zprotocol.specs.declared.message.Message.TheVariants as message
use Rattle.zprotocol.specs.declared.process.Process.{Process}
use Rattle.zprotocol.specs.declared.process.Process.TheVariants.{Server}
use Rattle.zprotocol.specs.server.View.{Neighbour}
use Rattle.zprotocol.specs.master.View.{MasterView, is_among, with_number, members, is_joining}
use Rattle.zprotocol.specs.declared.master.order.Order.{Order}
use Rattle.zprotocol.specs.declared.master.order.Order.TheVariants.{Join, Retire}
use Rattle.zprotocol.specs.declared.master.order_fault.OrderFault.{OrderFault}
use Rattle.zprotocol.specs.declared.master.order_fault.OrderFault.TheVariants.{Used, NotMember}
use Rattle.zprotocol.specs.master.Table.{MasterResult, no_effect, MendedChain, order_fault, order_step, master_step}
use Rattle.zprotocol.specs.master.support.Cases.{IsMended, Only, First, Last, Between, IsMasterRow, Ignores, Reports, Joins, LeavesOutside, Leaves}
use Rattle.zprotocol.specs.master.Laws.{IsRisingFrom, joining_count, IsBounded, OpeningIsBounded}
use Rattle.zprotocol.proofs.master_lemmas.Numbers.{numbers_of, later, among_behind, no_fewer, one_more, still_rising}
use Rattle.zprotocol.proofs.master_lemmas.Cases.{master_case}

-- who is joining is Some
joined_count : (joining : Option ℕ) (s : ℕ) → joining ≡ Some s → joining_count joining ≡ 1
joined_count joining s is = ap joining_count is

-- one that isn't joining any more
fewer_join : (b : Bool) (joining : Option ℕ) → joining_count (if b then None else joining) ≤ joining_count joining
fewer_join true None = omega arith
fewer_join true (Some s) = omega arith
fewer_join false joining = omega arith

module _ {T : Type 0} (epoch s : ℕ) where
  -- a mended chain has one member fewer
  one_fewer : (chain : List Neighbour) (done : MendedChain T) → IsMended epoch s chain done → length done.0 + 1 ≡ length chain
  one_fewer _ _ (Only k) = refl
  one_fewer _ _ (First k t rest) = omega arith
  one_fewer _ _ (Last front p k) = grind (arith, length-append)
  one_fewer _ _ (Between front p k t rest) = grind (arith, length-append)

  -- and keeps all others
  others_stay : (x : ℕ) → (s == x) ≡ false → (chain : List Neighbour) (done : MendedChain T) → IsMended epoch s chain done
      → is_among x (numbers_of chain) ≡ true → is_among x (numbers_of done.0) ≡ true
  others_stay x other _ _ (Only k) among = later (s == x) false other among
  others_stay x other _ _ (First k t rest) among = later (s == x) _ other among
  others_stay x other _ _ (Last front p k) among =
      among_behind x front (p ∷ (s, k) ∷ []) (p ∷ []) (λ h. sym (ap (λ b. (p.0 == x) || (b || false)) other) ∙ h) among
  others_stay x other _ _ (Between front p k t rest) among =
      among_behind x front (p ∷ (s, k) ∷ t ∷ rest) (p ∷ (t.0, epoch) ∷ rest)
      (λ h. sym (ap (λ b. (p.0 == x) || (b || ((t.0 == x) || is_among x (numbers_of rest)))) other) ∙ h) among

-- two numbers of which one isn't the other, and the other isn't the one
turned : (j s x : ℕ) → (j == s) ≡ false → j ≡ x → (s == x) ≡ false
turned j s x other is = grind (arith, nat_tests, other, is)

-- who stays joining, or retiring, where another one has left
stays : (s x : ℕ) (who : Option ℕ) → ◌≡◌ {A = Option ℕ} (if elim who [ None ↦ false | Some j ↦ j == s ] then None else who) (Some x)
    → ◌≡◌ {A = Option ℕ} who (Some x) × ((s == x) ≡ false)
stays s x None is = let none : ⊥ = cc in absurd none
stays s x (Some j) is = elim (test (j == s)) [
  | inl same ↦
      let none : ◌≡◌ {A = Option ℕ} None (Some x) = sym (ap (λ b. if b then None else Some j) same) ∙ is in
      let no_one : ⊥ = cc in absurd no_one
  | inr other ↦
      let here : ◌≡◌ {A = Option ℕ} (Some j) (Some x) = sym (ap (λ b. if b then None else Some j) other) ∙ is in
      let is_one : j ≡ x = cc in
      (here, turned j s x other is_one)
]

module _ {T : Type 0} where
  -- what the master does with a message preserves its bounds
  row_keeps : (v : MasterView) → IsBounded v → (from : Process) (m : Message T) (r : MasterResult T) → IsMasterRow v from m r → IsBounded r.0
  row_keeps v b _ _ _ (Ignores from m) = b
  row_keeps v b _ _ _ (Reports s epoch last p is) = b
  row_keeps v b _ _ _ (Joins s epoch is) = record {
    rising = b.rising;
    enough = b.enough;
    epochs = omega (arith, b.epochs, joined_count v.joining s is);
    joins = λ x none. let no_one : ⊥ = cc in absurd no_one;
    retires = b.retires;
  }
  row_keeps v b _ _ _ (LeavesOutside s out) =
      let more : length v.used ≤ length (with_number s v.used) = no_fewer s v.used in
      record {
        rising = still_rising 0 s v.used (omega arith) b.rising;
        enough = omega (arith, b.enough, more);
        epochs = omega (arith, b.epochs, more);
        joins = b.joins;
        retires = b.retires;
      }
  row_keeps v b _ _ _ (Leaves s chain among mended) =
      let one : length chain.0 + 1 ≡ length v.chain = one_fewer (v.epoch + 1) s v.chain chain mended in
      record {
        rising = b.rising;
        enough = omega (arith, b.enough, one);
        epochs = omega (arith, b.epochs, one, fewer_join (is_joining v s) v.joining);
        joins = λ x is.
            let who = stays s x v.joining is in
            others_stay (v.epoch + 1) s x who.1 v.chain chain mended (b.joins x who.0);
        retires = λ x is.
            let who = stays s x v.retiring is in
            others_stay (v.epoch + 1) s x who.1 v.chain chain mended (b.retires x who.0);
      }

  pub messages_keep : (v : MasterView) (from : Process) (m : Message T) → IsBounded v → IsBounded (master_step v from m).0
  messages_keep v from m b = row_keeps v b from m (master_step v from m) (master_case v from m)

-- the numbers of a range rise
rising_range : (first from count : ℕ) → first ≤ from → IsRisingFrom first (range_with_len from count)
rising_range first from zero low = tt
rising_range first from (suc count) low = (low, rising_range (from + 1) (from + 1) count (omega arith))

-- the opening has the bounds
pub opening_is_bounded : OpeningIsBounded
opening_is_bounded servers clients = record {
  rising = rising_range 0 1 servers (omega arith);
  enough = omega (arith, length-map-range_with_len {X = Neighbour} (λ (s : ℕ). (s, 0)) 1 servers, length-range_with_len 1 servers);
  epochs = omega (arith, length-map-range_with_len {X = Neighbour} (λ (s : ℕ). (s, 0)) 1 servers, length-range_with_len 1 servers);
  joins = λ s none. let no_one : ⊥ = cc in absurd no_one;
  retires = λ s none. let no_one : ⊥ = cc in absurd no_one;
}

-- who isn't refused has a new number
is_new : (used : Bool) (rest : Option OrderFault) → ◌≡◌ {A = Option OrderFault} (if used then Some Used else rest) None → used ≡ false
is_new false rest none = refl
is_new true rest none = let no_one : ⊥ = cc in absurd no_one

-- the last of a chain is a member
last_among : (s epoch : ℕ) (chain : List Neighbour) → is_among s (numbers_of (chain ++ (s, epoch) ∷ [])) ≡ true
last_among s epoch [] = let here : (s == s) ≡ true = grind (arith, nat_tests) in rw here refl
last_among s epoch (t ∷ chain) = rw (last_among s epoch chain) (or_true (t.0 == s))
  where
    or_true : (b : Bool) → (b || true) ≡ true
    or_true true = refl
    or_true false = refl

-- and who was one is still one
longer_among : (x : ℕ) (more : Neighbour) (chain : List Neighbour) → is_among x (numbers_of chain) ≡ true → is_among x (numbers_of (chain ++ more ∷ [])) ≡ true
longer_among x more [] among = absurd (true≢false (sym among))
longer_among x more (t ∷ chain) among = either (t.0 == x) (longer_among x more chain) among
  where
    either : (b : Bool) → (is_among x (numbers_of chain) ≡ true → is_among x (numbers_of (chain ++ more ∷ [])) ≡ true)
        → (b || is_among x (numbers_of chain)) ≡ true → (b || is_among x (numbers_of (chain ++ more ∷ []))) ≡ true
    either true later among = refl
    either false later among = later among

-- who may be ordered to leave is a member
is_member : (member : Bool) (rest : Option OrderFault) → ◌≡◌ {A = Option OrderFault} (if not member then Some NotMember else rest) None → member ≡ true
is_member true rest none = refl
is_member false rest none = let no_one : ⊥ = cc in absurd no_one

module _ (T : Type 0) (v : MasterView) where
  -- a join, by the last member that is found
  join_found : ℕ → Option ℕ → MasterResult T
  join_found s None = no_effect v
  join_found s (Some last) = (
    record v { chain = v.chain ++ (s, v.epoch + 1) ∷ []; joining = Some s; used = with_number s v.used; epoch = v.epoch + 1 },
    (Server s, message.NewPred (v.epoch + 1) last) ∷ [],
  )

  found_keeps : (s : ℕ) → is_among s v.used ≡ false → IsBounded v → (found : Option ℕ) → IsBounded (join_found s found).0
  unfolding join_found
  found_keeps s new b None = b
  found_keeps s new b (Some last) =
      let one : length (with_number s v.used) ≡ length v.used + 1 = one_more s v.used new in
      let longer : length (v.chain ++ (s, v.epoch + 1) ∷ []) ≡ length v.chain + 1 = length-append v.chain ((s, v.epoch + 1) ∷ []) in
      record {
        rising = still_rising 0 s v.used (omega arith) b.rising;
        enough = omega (arith, b.enough, one, longer);
        epochs = omega (arith, b.epochs, one, longer);
        joins = λ x is. let same : s ≡ x = cc in subst (λ y. is_among y (numbers_of (v.chain ++ (s, v.epoch + 1) ∷ [])) ≡ true) same (last_among s (v.epoch + 1) v.chain);
        retires = λ x is. longer_among x (s, v.epoch + 1) v.chain (b.retires x is);
      }

  -- an order preserves the bounds
  pub orders_keep : (order : Order) → order_fault v order ≡ None → IsBounded v → IsBounded (order_step {T = T} v order).0
  unfolding order_fault order_step join_found
  orders_keep (Join s) free b = found_keeps s (is_new (is_among s v.used) _ free) b (last_or None (members v))
  orders_keep (Retire s) free b =
      let among = is_member (is_among s (members v)) _ free in
      record {
        rising = b.rising;
        enough = b.enough;
        epochs = b.epochs;
        joins = b.joins;
        retires = λ x is. let same : s ≡ x = cc in subst (λ y. is_among y (members v) ≡ true) same among;
      }
