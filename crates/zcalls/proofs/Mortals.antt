-- What the plain step does to nodes that a tick may remove.
use Rattle.std.proofs.Common.{◌≡◌, ◌⊎◌, inl, inr, ℕ, ◌+◌, ◌<◌, Bool, true, false, cond, not, Option, Some, None, Err, Ok, if◌then◌else◌, refl, sym, ap, ◌∙◌, arith}
use Rattle.std.specs.Prelude.{nat_le}
use Rattle.std.specs.Ordering.{eq_by_cmp}
use Rattle.std.specs.List.{list_any}
use Rattle.std.specs.Option.{option_map_or}
use Rattle.std.specs.FinMap as finite
use Rattle.std.proofs.lemmas.Bool.Decides.{nat_tests}
use Rattle.zpath.specs.Grammar.{path_cmp}
use Rattle.ztree.specs.declared.term.Term.TheVariants.{Unlimited, Timed}
use Rattle.ztree.specs.declared.node.Node.{Node}
use Rattle.ztree.specs.declared.node.Stat.{Stat}
use Rattle.ztree.specs.Tree.{Tree, has_node, with_data}
use Rattle.ztree.specs.Sessions.{without_sessions}
use Rattle.ztree.specs.Stale.{may_end, is_over, is_due, is_stale}
use Rattle.ztree.proofs.Sorted.{paths_total, same_path}
use Rattle.ztree.proofs.Maps.{is_there, get-insert-here}
use Rattle.ztree.proofs.Listed.{lists_stale}
use Rattle.ztree.proofs.Ending.{has_node-all_dropped}
use Rattle.ztree.proofs.LawfulEnd.{due_above}
use Rattle.ztree.proofs.StaleGone.{persistent-all_ended}
use Rattle.zcalls.specs.declared.call.SetData.{SetData as ToSet}
use Rattle.zcalls.specs.declared.call.Update.TheVariants.{SetData, Tick}
use Rattle.zcalls.specs.declared.refusal.Refusal.TheVariants.{BadVersion, Exhausted}
use Rattle.zcalls.specs.declared.reply.Reply.{Reply}
use Rattle.zcalls.specs.declared.reply.Reply.TheVariants as reply
use Rattle.zcalls.specs.Part.{set_step, on_version, has_other_version, with_node_set}
use Rattle.zcalls.specs.Step.{step, change_result, update_result, is_exhausted, after_tick, is_busy, due_next, stale_next}
use Rattle.zcalls.specs.CallRuns.{is_change}
use Rattle.zcalls.specs.TtlLaws.{TickRemovesTheStale, IsPutOff, SetPutsOff, NobodyOwnsTheTimed, TickTakesOneZxid}
use Rattle.zcalls.proofs.Ticks.{counted-nodes}
use Rattle.zcalls.proofs.Taking.{changes_take_one_zxid}
use Rattle.zcalls.proofs.LawfulCalls.{trees_are_lawful}

not_false : true ≡ false → ⊥
not_false e = cc

-- no one owns a node that a tick may remove
nobodys : (n : Node) → (n.term ≡ Unlimited) ⊎ (n.owner ≡ 0) → may_end n.term ≡ true → n.owner ≡ 0
nobodys n (inl none) some = absurd (not_false (sym some ∙ ap may_end none))
nobodys n (inr nobody) some = nobody

pub tick_removes_the_stale : TickRemovesTheStale
unfolding step
tick_removes_the_stale t client path n lawful left found some =
    let ids = due_next t in
    let paths = stale_next t in
    let nobody = nobodys n (lawful.ends path n found) some in
    let stays = persistent-all_ended t ids path (due_above t (t.time + 1) lawful) (n, found, nobody) in
    let among = lists_stale t.nodes (t.time + 1) path ∙ ap (λ (o : Option Node). option_map_or (is_stale t.nodes (t.time + 1) path) o false) found in
    ap (λ (did : Tree × Reply). has_node did.0.nodes path) (ap (λ b. if b then (t, reply.Refused Exhausted) else update_result t client Tick) left)
    ∙ ap (λ nodes. has_node nodes path) (counted-nodes (is_busy ids paths) (after_tick t ids paths))
    ∙ has_node-all_dropped (without_sessions t ids) paths path
    ∙ ap (cond (list_any (eq_by_cmp path_cmp path) paths) false) (is_there (finite.get (without_sessions t ids).nodes path) stays.0 stays.1)
    ∙ ap (λ b. cond b false true) among
    ∙ turned (is_stale t.nodes (t.time + 1) path n)
  where
    turned : (b : Bool) → cond b false true ≡ not b
    turned true = refl
    turned false = refl

module _ (t : Tree) (set : ToSet) (stat : Stat) where
  abbrev written : Node → Node
  written n = with_data set.bytes (t.zxid + 1) t.time n

  not_due : (n : Node) (ttl ticks : ℕ) → n.term ≡ Timed ttl → ticks < ttl → is_due (t.time + ticks) (written n) ≡ false
  not_due n ttl ticks its few =
      let late : nat_le (t.time + ttl) (t.time + ticks) ≡ false = grind (arith, nat_tests) in
      ap (is_over (t.time + ticks) (written n)) its ∙ late

  by_version : (n : Node) (b : Bool) → (change_result t (if b then Err BadVersion else Ok (with_node_set t set.path (written n)))).1 ≡ reply.Set stat → IsPutOff t.time set.path (change_result t (if b then Err BadVersion else Ok (with_node_set t set.path (written n)))).0
  by_version n true e = cc
  by_version n false e = (written n, get-insert-here paths_total same_path t.nodes set.path (written n), λ ttl ticks its few. not_due n ttl ticks its few)

  by_node : (o : Option Node) → (change_result t (on_version set.version o (λ n. with_node_set t set.path (written n)))).1 ≡ reply.Set stat → IsPutOff t.time set.path (change_result t (on_version set.version o (λ n. with_node_set t set.path (written n)))).0
  by_node None e = cc
  by_node (Some n) e = by_version n (has_other_version set.version n) e

  by_number : (client : ℕ) (b : Bool) → (if b then (t, reply.Refused Exhausted) else update_result t client (SetData set)).1 ≡ reply.Set stat → IsPutOff t.time set.path (if b then (t, reply.Refused Exhausted) else update_result t client (SetData set)).0
  unfolding set_step
  by_number client true e = cc
  by_number client false e = by_node (finite.get t.nodes set.path) e

pub set_puts_off : SetPutsOff
unfolding step
set_puts_off t client set stat e = by_number t set stat client (is_exhausted t (SetData set)) e

pub nobody_owns_the_timed : NobodyOwnsTheTimed
nobody_owns_the_timed limits allowed calls path n found some = nobodys n ((trees_are_lawful limits allowed calls).ends path n found) some

ticked : (t : Tree) (client : ℕ) → is_exhausted t Tick ≡ false → (step t client Tick).1 ≡ (update_result t client Tick).1
unfolding step
ticked t client left = ap (λ b. (if b then (t, reply.Refused Exhausted) else update_result t client Tick).1) left

pub tick_takes_one_zxid : TickTakesOneZxid
tick_takes_one_zxid t client left =
    changes_take_one_zxid t client Tick ∙ ap (λ reported. t.zxid + (if is_change reported then 1 else 0)) (ticked t client left)
