-- The rows of the master table, by what was found.
use Rattle.std.specs.Prelude.{is_some, if◌then◌else◌}
use Rattle.std.proofs.Common.{◌≡◌, ℕ, ◌+◌, ◌≤◌, Bool, true, false, ◌==◌, nat_lt, List, [], ◌∷◌, ◌++◌, Option, Some, None, length, zero, suc, refl, sym, ap, ◌∙◌, arith, inl, inr, eq-eqb, eqb-true}
use Rattle.std.proofs.lemmas.Bool.Decides.{nat_tests}
use Rattle.std.specs.List.{last_or}
use Rattle.std.proofs.lemmas.List.FromFn.{length-map-range_with_len, map-range_with_len_more}
use Rattle.zpath.specs.First.{first_that_holds}
use Rattle.zprotocol.specs.declared.master.order.Order.{Order}
use Rattle.zprotocol.specs.declared.master.order.Order.TheVariants.{Join, Retire}
use Rattle.zprotocol.specs.declared.master.order_fault.OrderFault.{OrderFault}
use Rattle.zprotocol.specs.declared.master.order_fault.OrderFault.TheVariants.{Used, NotMember, Joining, Last, Retiring}
use Rattle.zcalls.proofs.Among.{test}
use Rattle.zprotocol.specs.declared.message.Message.TheVariants as message
use Rattle.zprotocol.specs.declared.process.Process.TheVariants.{Server, Client}
use Rattle.zprotocol.specs.server.View.{Neighbour, PostOf}
use Rattle.zprotocol.specs.master.View.{MasterView, is_among, members, is_joining, with_number, head_of, tail_of}
use Rattle.zprotocol.specs.master.Table.{before, without_next, have_row, joined_row, gone_row, own_tests, order_fault, order_step, and_report_clients}
use Rattle.zmaster.specs.support.Mending.{joins, who_stays, IsPlace, mended_at, mended_behind_at, chain_fault}
use Rattle.zmaster.specs.support.Reporting.{config_posts_to}
use Rattle.std.specs.List.{remove}
use Rattle.zmaster.proofs.Mending.{place_among, mended_place}

-- both ways to ask who joins
joins_is : (v : MasterView) (joining : Option ℕ) (s : ℕ) → is_joining (record v { joining = joining }) s ≡ joins joining s
joins_is v None s = refl
joins_is v (Some j) s = refl

module _ {T : Type 0} (v : MasterView) (s : ℕ) where
  pub have_none : (epoch : ℕ) (last : Option ℕ) → before s epoch v.chain ≡ None → have_row {T = T} v s epoch last ≡ (v, [])
  unfolding have_row
  have_none epoch last is = rw (is, have_row) refl

  pub have_some : (epoch : ℕ) (last : Option ℕ) (p : ℕ) → before s epoch v.chain ≡ Some p
      → have_row {T = T} v s epoch last ≡ (v, (Server p, message.NewSucc epoch s last) ∷ [])
  unfolding have_row
  have_some epoch last p is = rw (is, have_row) refl

  pub joined_none : joins v.joining s ≡ false → joined_row {T = T} v s ≡ (v, [])
  unfolding joined_row
  joined_none is = let other : is_joining v s ≡ false = joins_is v v.joining s ∙ is in rw other refl

  pub joined_some : joins v.joining s ≡ true → joined_row {T = T} v s ≡ and_report_clients (record v { joining = None; epoch = v.epoch + 1 }) []
  unfolding joined_row
  joined_some is = let yes : is_joining v s ≡ true = joins_is v v.joining s ∙ is in rw yes refl

  pub gone_outside : is_among s (members v) ≡ false → gone_row {T = T} v s ≡ (record v { used = with_number s v.used }, [])
  unfolding gone_row
  gone_outside is = rw is refl

  pub gone_member : (at : ℕ) → IsPlace s at v.chain
      → gone_row {T = T} v s ≡ and_report_clients (record v {
        chain = (mended_at {T = T} (v.epoch + 1) at (remove v.chain at)).0;
        joining = who_stays v.joining s;
        retiring = who_stays v.retiring s;
        epoch = v.epoch + 1;
      }) (mended_at (v.epoch + 1) at (remove v.chain at)).1
  unfolding gone_row
  gone_member at place =
      let among : is_among s (members v) ≡ true = place_among s at v.chain place in
      rw (among, mended_place {T = T} (v.epoch + 1) s at v.chain place) refl

  pub join_behind : (last : ℕ) → last_or None (members v) ≡ Some last
      → order_step {T = T} v (Join s) ≡ (record v { chain = v.chain ++ (s, v.epoch + 1) ∷ []; joining = Some s; used = with_number s v.used; epoch = v.epoch + 1 }, (Server s, message.NewPred (v.epoch + 1) last) ∷ [])
  unfolding order_step
  join_behind last is = rw (is, order_step) refl

  pub join_nowhere : last_or None (members v) ≡ None → order_step {T = T} v (Join s) ≡ (v, [])
  unfolding order_step
  join_nowhere is = rw (is, order_step) refl

-- at most one message is sent about a mended chain
next_few : (T : Type 0) (epoch p : ℕ) (rest : List Neighbour) → length (without_next {T = T} epoch p rest).1 ≤ 1
next_few T epoch p [] = omega arith
next_few T epoch p (t ∷ rest) = omega arith

behind_few : (T : Type 0) (epoch p at : ℕ) (rest : List Neighbour) → length (mended_behind_at {T = T} epoch p at rest).1 ≤ 1
behind_few T epoch p zero rest = next_few T epoch p rest
behind_few T epoch p (suc at) [] = omega arith
behind_few T epoch p (suc at) (t ∷ rest) = behind_few T epoch t.0 at rest

pub mended_few : (T : Type 0) (epoch at : ℕ) (chain : List Neighbour) → length (mended_at {T = T} epoch at chain).1 ≤ 1
mended_few T epoch zero [] = omega arith
mended_few T epoch zero (t ∷ rest) = omega arith
mended_few T epoch (suc at) [] = omega arith
mended_few T epoch (suc at) (t ∷ rest) = behind_few T epoch t.0 at rest

-- the first test that holds is one of the own ones, or the last
first_behind : (tests : List (Bool × OrderFault)) (last : Bool) (fault : OrderFault) (own : Option OrderFault) → first_that_holds tests ≡ own
    → first_that_holds (tests ++ (last, fault) ∷ []) ≡ (elim own [ None ↦ if last then Some fault else None | Some one ↦ Some one ])
first_behind [] last fault own is = rw (← is) refl
first_behind ((true, one) ∷ tests) last fault own is = rw (← is) refl
first_behind ((false, one) ∷ tests) last fault own is = first_behind tests last fault own is

-- one of the order's own tests holds
pub fault_is_own : (v : MasterView) (order : Order) (fault : OrderFault) → first_that_holds (own_tests v order) ≡ Some fault → order_fault v order ≡ Some fault
unfolding order_fault
fault_is_own v order fault is = first_behind (own_tests v order) (is_some v.retiring) Retiring (Some fault) is

-- or none does, and a member was ordered to leave, or not
pub fault_of_leaving : (v : MasterView) (order : Order) (leaving : Bool) → first_that_holds (own_tests v order) ≡ None
    → is_some v.retiring ≡ leaving → order_fault v order ≡ (if leaving then Some Retiring else None)
unfolding order_fault
fault_of_leaving v order leaving fine is =
    first_behind (own_tests v order) (is_some v.retiring) Retiring None fine ∙ ap (λ b. if b then Some Retiring else None) is

-- why a server can't join: its number was used, or by the chain
faults : (s : ℕ) (chain : List Neighbour) (joining retiring : Option ℕ) (used : List ℕ) (epoch clients : ℕ) → is_among s used ≡ false
    → first_that_holds (own_tests (record { chain = chain; joining = joining; retiring = retiring; used = used; epoch = epoch; clients = clients }) (Join s))
    ≡ chain_fault joining chain
faults s [] None retiring used epoch clients new = rw new refl
faults s [] (Some j) retiring used epoch clients new = rw new refl
faults s (t ∷ []) None retiring used epoch clients new = rw new refl
faults s (t ∷ []) (Some j) retiring used epoch clients new = rw new refl
faults s (t ∷ (u ∷ rest)) None retiring used epoch clients new =
    let some : (length (t ∷ (u ∷ rest)) == 0) ≡ false = grind (arith, nat_tests) in
    rw (new, some) refl
faults s (t ∷ (u ∷ rest)) (Some j) retiring used epoch clients new =
    let long : nat_lt 1 (length (t ∷ (u ∷ rest))) ≡ true = grind (arith, nat_tests) in
    rw (new, long) refl

pub fault_of_chain : (v : MasterView) (s : ℕ) → is_among s v.used ≡ false → first_that_holds (own_tests v (Join s)) ≡ chain_fault v.joining v.chain
fault_of_chain v s new = faults s v.chain v.joining v.retiring v.used v.epoch v.clients new

pub fault_used : (v : MasterView) (s : ℕ) → is_among s v.used ≡ true → first_that_holds (own_tests v (Join s)) ≡ Some Used
fault_used v s old = rw old refl

-- what the first clients are sent
pub config_count : (T : Type 0) (v : MasterView) (count : ℕ) → length (config_posts_to {T = T} v count) ≡ count
config_count T v count = length-map-range_with_len {X = PostOf T} (λ c. (Client c, message.Config v.epoch (head_of v) (tail_of v))) 0 count

pub config_more : (T : Type 0) (v : MasterView) (count : ℕ)
    → config_posts_to {T = T} v (count + 1) ≡ config_posts_to v count ++ (Client count, message.Config v.epoch (head_of v) (tail_of v)) ∷ []
config_more T v count =
    map-range_with_len_more {X = PostOf T} (λ c. (Client c, message.Config v.epoch (head_of v) (tail_of v))) 0 count count (omega arith)

-- who isn't refused has a new number
pub free_is_new : (v : MasterView) (s : ℕ) → order_fault v (Join s) ≡ None → is_among s v.used ≡ false
free_is_new v s free = elim (test (is_among s v.used)) [
  | inl old ↦
      let refused : ◌≡◌ {A = Option OrderFault} (Some Used) None = sym (fault_is_own v (Join s) Used (fault_used v s old)) ∙ free in
      let never : ⊥ = cc in
      absurd never
  | inr new ↦ new
]

-- why a server can't be ordered to leave, by its tests in their order
module _ (v : MasterView) (s : ℕ) where
  pub leave_outside : is_among s (members v) ≡ false → first_that_holds (own_tests v (Retire s)) ≡ Some NotMember
  leave_outside is = rw is refl

  pub leave_in_a_join : is_among s (members v) ≡ true → is_some v.joining ≡ true → first_that_holds (own_tests v (Retire s)) ≡ Some Joining
  leave_in_a_join is joins = rw (is, joins) refl

  pub leave_last : is_among s (members v) ≡ true → is_some v.joining ≡ false → length v.chain ≡ 1 → first_that_holds (own_tests v (Retire s)) ≡ Some Last
  leave_last is joins one = let last : (length v.chain == 1) ≡ true = eq-eqb _ _ one in rw (is, joins, last) refl

  pub leave_freely : is_among s (members v) ≡ true → is_some v.joining ≡ false → (length v.chain ≡ 1 → ⊥) → first_that_holds (own_tests v (Retire s)) ≡ None
  leave_freely is joins more = elim (test (length v.chain == 1)) [
    | inl one ↦ absurd (more (eqb-true _ _ one))
    | inr several ↦ rw (is, joins, several) refl
  ]

-- an order to leave
pub retired : {T : Type 0} (v : MasterView) (s : ℕ) → order_step {T = T} v (Retire s) ≡ (record v { retiring = Some s }, (Server s, message.Retire) ∷ [])
unfolding order_step
retired v s = refl
