-- The numbers of servers are used in order.
use Rattle.std.proofs.Common.{◌≡◌, ℕ, zero, suc, ◌+◌, ◌-◌, ◌<◌, ◌≤◌, Bool, true, false, cond, not, ◌&&◌, ◌==◌, nat_le, nat_lt, is_none, is_some, Option, None, Some, List, [], ◌∷◌, ◌++◌, length, map, get_or, refl, sym, ap, ◌∙◌, arith, length-append, eqb-true}
use Rattle.std.specs.List.{last_or, range_with_len, AllByRecursion}
use Rattle.std.proofs.lemmas.Bool.Decides.{nat_tests}
use mathlib.Core.Bool.{true≢false}
use Rattle.zpath.specs.First.{first_that_holds}
use Rattle.zprotocol.specs.declared.message.Message.{Message}
use Rattle.zprotocol.specs.declared.message.Message.TheVariants as message
use Rattle.zprotocol.specs.declared.process.Process.{Process}
use Rattle.zprotocol.specs.declared.process.Process.TheVariants.{Server}
use Rattle.zprotocol.specs.declared.master.order.Order.TheVariants as order
use Rattle.zprotocol.specs.declared.master.order_fault.OrderFault.{OrderFault}
use Rattle.zprotocol.specs.declared.master.order_fault.OrderFault.TheVariants.{Used, Joining, NoChain, Lost, Retiring}
use Rattle.zprotocol.specs.server.View.{Neighbour}
use Rattle.zprotocol.specs.master.View.{MasterView, members, with_number, is_among}
use Rattle.zprotocol.specs.master.Table.{MasterResult, order_fault, order_step, no_effect, is_another_joining, is_only_member_joining}
use Rattle.zprotocol.specs.master.support.Cases.{IsMasterRow, Ignores, Reports, Joins, LeavesOutside, Leaves}
use Rattle.zprotocol.proofs.master_lemmas.Cases.{master_case}
use Rattle.zmaster_log.specs.declared.entry.LogEntry.{LogEntry}
use Rattle.zmaster_log.specs.declared.entry.LogEntry.TheVariants as log
use Rattle.zmaster_log.specs.Log.{MembershipView, Played, subject_of, message_of, may_join, joins, may_retire, retires, takes, is_live, count_of, is_next, opened, join_played, retire_played, report_played, plays, plays_all, skipped}
use Rattle.zmaster_log.proofs.Flags.{left, right}
use Rattle.zmaster_log.specs.Laws.{HasServers, NumbersAreInOrder}

-- ---- ranges

-- the number after a range makes it longer
number_after : (first count s : ℕ) → first + count ≡ s → with_number s (range_with_len first count) ≡ range_with_len first (suc count)
number_after first zero s is = let here : s ≡ first = omega arith in ap (λ n. n ∷ []) here
number_after first (suc count) s is =
    let other : (first == s) ≡ false = grind (arith, nat_tests, is) in
    let above : nat_lt s first ≡ false = grind (arith, nat_tests, is) in
    rw (other, above) (ap (λ ns. first ∷ ns) (number_after (first + 1) count s (omega arith)))

-- a number of a range is in it
within_by : (first count s : ℕ) (test : Bool) → (first == s) ≡ test → first ≤ s
    → (first + 1 ≤ s → with_number s (range_with_len (first + 1) count) ≡ range_with_len (first + 1) count)
    → with_number s (range_with_len first (suc count)) ≡ range_with_len first (suc count)
within_by first count s true same low rest = rw same refl
within_by first count s false other low rest =
    let above : nat_lt s first ≡ false = grind (arith, nat_tests, low) in
    let later : first + 1 ≤ s = grind (arith, nat_tests, other, low) in
    rw (other, above) (ap (λ ns. first ∷ ns) (rest later))

number_within : (first count s : ℕ) → first ≤ s → s < first + count → with_number s (range_with_len first count) ≡ range_with_len first count
number_within first zero s low high = absurd (omega arith)
number_within first (suc count) s low high =
    within_by first count s (first == s) refl low (λ later. number_within (first + 1) count s later (omega arith))

-- ---- orders

-- the third test of those that don't hold
third : (a b c : Bool) (x y z : OrderFault) (rest : List (Bool × OrderFault))
    → is_none (first_that_holds ((a, x) ∷ (b, y) ∷ (c, z) ∷ rest)) ≡ true → c ≡ false
third true b c x y z rest none = absurd (true≢false (sym none))
third false true c x y z rest none = absurd (true≢false (sym none))
third false false true x y z rest none = absurd (true≢false (sym none))
third false false false x y z rest none = refl

-- a chain that isn't empty has a last member
last_is_some : (found : ℕ) (chain : List Neighbour) → is_none (last_or (Some found) (map (λ (n : Neighbour). n.0) chain)) ≡ false
last_is_some found [] = refl
last_is_some found (n ∷ chain) = last_is_some n.0 chain

has_last : (chain : List Neighbour) → (length chain == 0) ≡ false → is_none (last_or None (map (λ (n : Neighbour). n.0) chain)) ≡ false
has_last [] some = absurd (true≢false some)
has_last (n ∷ chain) some = last_is_some n.0 chain

-- the used numbers are those of the servers with a node
abbrev InOrder : MembershipView → Type 0
InOrder m = m.master.used ≡ range_with_len 1 (length m.nodes)

module _ (T : Type 0) where
  join_uses : (v : MasterView) (s : ℕ) → is_none (order_fault v (order.Join s)) ≡ true → (order_step {T = T} v (order.Join s)).0.used ≡ with_number s v.used
  unfolding order_step order_fault
  join_uses v s allowed = by (last_or None (members v)) (has_last v.chain (third (is_among s v.used) (is_another_joining v) (length v.chain == 0) Used Joining NoChain
      ((is_only_member_joining v (members v), Lost) ∷ (is_some v.retiring, Retiring) ∷ []) allowed))
    where
      by : (last : Option ℕ) → is_none last ≡ false → (elim last as (λ _. MasterResult T) [
        | None ↦ no_effect v
        | Some l ↦ (
          record v { chain = v.chain ++ (s, v.epoch + 1) ∷ []; joining = Some s; used = with_number s v.used; epoch = v.epoch + 1 },
          (Server s, message.NewPred (v.epoch + 1) l) ∷ [],
        )
      ]).0.used ≡ with_number s v.used
      by None none = absurd (true≢false none)
      by (Some l) some = refl

  retire_uses : (v : MasterView) (s : ℕ) → (order_step {T = T} v (order.Retire s)).0.used ≡ v.used
  unfolding order_step
  retire_uses v s = refl

  -- a message of a server whose number is used uses no other number
  row_uses : (v : MasterView) (s : ℕ) → with_number s v.used ≡ v.used → (from : Process) (m : Message T) (r : MasterResult T) → IsMasterRow v from m r
      → from ≡ Server s → r.0.used ≡ v.used
  row_uses v s is _ _ _ (Ignores from m) of = refl
  row_uses v s is _ _ _ (Reports t epoch last p before) of = refl
  row_uses v s is _ _ _ (Joins t epoch joins) of = refl
  row_uses v s is _ _ _ (LeavesOutside t out) of = let same : t ≡ s = cc in rw same is
  row_uses v s is _ _ _ (Leaves t chain among mended) of = refl

  -- ---- entries

  in_order_if : (test : Bool) (m : MembershipView) (did : Played T) → InOrder m → (test ≡ true → InOrder did.0) → InOrder (cond test did (skipped m)).0
  in_order_if true m did is then = then refl
  in_order_if false m did is then = is

  entry_in_order : (m : MembershipView) (entry : LogEntry) → HasServers entry → InOrder m → InOrder (plays {T = T} m entry).0
  unfolding join_played retire_played report_played
  entry_in_order m (log.Opening nodes) of is = is
  entry_in_order m (log.Join s node) of is = in_order_if (may_join m s) m (joins m s node) is (λ test.
      let allowed : is_none (order_fault m.master (order.Join s)) ≡ true = right (s == length m.nodes + 1) (is_none (order_fault m.master (order.Join s))) test in
      let number : s ≡ length m.nodes + 1 = eqb-true s (length m.nodes + 1) (left (s == length m.nodes + 1) (is_none (order_fault m.master (order.Join s))) test) in
      let uses : (order_step {T = T} m.master (order.Join s)).0.used ≡ with_number s m.master.used = join_uses m.master s allowed in
      let longer : suc (length m.nodes) ≡ length (m.nodes ++ node ∷ []) = omega (arith, length-append m.nodes (node ∷ [])) in
      uses ∙ ap (with_number s) is ∙ number_after 1 (length m.nodes) s (omega (arith, number)) ∙ ap (range_with_len 1) longer)
  entry_in_order m (log.Retire s) of is = in_order_if (may_retire m s) m (retires m s) is (λ test. retire_uses m.master s ∙ is)
  entry_in_order m (log.Reported r) of is = in_order_if (is_next m r) m (takes m r) is (λ test.
      let s : ℕ = subject_of r.author r.news in
      let live : is_live m s ≡ true = right (is_live m r.author && count_of m r.author == r.earlier) (is_live m s) test in
      let low : nat_le s (length m.nodes) ≡ true = left (nat_le s (length m.nodes)) (not (get_or m.gone (s - 1) false)) live in
      let few : s ≤ length m.nodes = grind (arith, nat_tests, low) in
      let within : with_number s m.master.used ≡ m.master.used = ap (with_number s) is ∙ number_within 1 (length m.nodes) s (omega (arith, of)) (omega (arith, few)) ∙ sym is in
      row_uses m.master s within _ _ _ (master_case {T = T} m.master (Server s) (message_of r.news)) refl ∙ is)

  all_in_order : (m : MembershipView) (entries : List LogEntry) → AllByRecursion HasServers entries → InOrder m → InOrder (plays_all {T = T} m entries).0
  all_in_order m [] of is = is
  all_in_order m (entry ∷ entries) of is = all_in_order (plays {T = T} m entry).0 entries of.1 (entry_in_order m entry of.0 is)

  pub numbers_are_in_order : NumbersAreInOrder T
  unfolding opened
  numbers_are_in_order nodes entries of = all_in_order (opened nodes) entries of refl
