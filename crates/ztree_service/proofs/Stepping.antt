-- An update of client 0 with a number above all others acts.
use Rattle.std.proofs.Common.{◌≡◌, ℕ, ◌+◌, ◌≤◌, true, false, nat_lt, Option, None, Some, refl, sym, ap, subst, ◌∙◌, arith}
use Rattle.std.proofs.lemmas.Bool.Decides.{nat_tests}
use Rattle.std.specs.Cmp.{nat_cmp_total}
use Rattle.std.specs.Ordering.{nat_cmp}
use Rattle.std.specs.FinMap.{get, get-empty, insert, nat_cmp-IsAntisymmetric}
use Rattle.ztree.specs.Tree.{Tree}
use Rattle.ztree.proofs.Maps.{get-insert-here, none_some, same_some}
use Rattle.zcalls.specs.declared.call.Entry.{Entry}
use Rattle.zcalls.specs.declared.call.Update.{Update}
use Rattle.zcalls.specs.declared.reply.Reply.{Reply}
use Rattle.zcalls.specs.Cached.{entry_step, last_of}
use Rattle.zcalls.specs.Step.{step}
use Rattle.zops.specs.Machine.{MachineState, MachineView, entry_result}
use Rattle.ztree_service.specs.Machines.{IsBare, machine_of}
use Rattle.ztree_service.specs.support.Tables.{IsReady}

module _ (s : MachineState) (update : Update) (counted : last_of (get s.service.kept 0) ≤ s.applied) where
  abbrev pub entry_of : Entry
  entry_of = record { client = 0; number = s.applied + 1; update = update }

  abbrev did : Tree × Reply
  did = step s.service.plain 0 update

  abbrev pub next_state : MachineState
  next_state = record {
    service = record { plain = did.0; kept = insert s.service.kept 0 (record { number = s.applied + 1; reply = did.1 }) };
    applied = s.applied + 1;
  }

  pub acts : entry_result s entry_of ≡ (next_state, Some did.1)
  unfolding entry_result entry_step
  acts =
      let above : nat_lt (last_of (get s.service.kept 0)) (s.applied + 1) ≡ true = grind (arith, nat_tests, counted) in
      rw above refl

  pub counts : last_of (get next_state.service.kept 0) ≤ next_state.applied
  counts =
      let here = get-insert-here nat_cmp_total nat_cmp-IsAntisymmetric s.service.kept 0 (record { number = s.applied + 1; reply = did.1 }) in
      let last : last_of (get next_state.service.kept 0) ≡ s.applied + 1 = ap last_of here in
      omega (arith, last)

  module _ (client number : ℕ) (first : client ≡ 0) (above : number ≡ s.applied + 1) (new : MachineState) (reported : Option Reply)
      (is : ◌≡◌ {A = MachineState × Option Reply} (new, reported) (entry_result s (record { client = client; number = number; update = update }))) where
    same : ◌≡◌ {A = MachineState × Option Reply} (new, reported) (next_state, Some did.1)
    same = is ∙ (λ i. entry_result s (record { client = first i; number = above i; update = update })) ∙ acts

    state_is : new ≡ next_state
    state_is = ap (λ (p : MachineState × Option Reply). p.0) same

    reported_is : reported ≡ Some did.1
    reported_is = ap (λ (p : MachineState × Option Reply). p.1) same

    pub answers : reported ≡ None → ⊥
    answers none = none_some did.1 (sym none ∙ reported_is)

    pub served : (reply : Reply) → reported ≡ Some reply → ◌≡◌ {A = Tree × Reply} (new.service.plain, reply) (step s.service.plain 0 update)
    served reply some =
        let one = same_some reply did.1 (sym some ∙ reported_is) in
        λ i. ((state_is i).service.plain, one i)

    pub counted_on : last_of (get new.service.kept 0) ≤ new.applied
    counted_on = subst (λ (m : MachineState). last_of (get m.service.kept 0) ≤ m.applied) (sym state_is) counts

-- a machine that did nothing is ready
pub bare_ready : (m : MachineView) → m.is_broken ≡ false → IsBare m → IsReady m
bare_ready m whole bare = record {
  whole = whole;
  counted =
      let none : last_of (get m.state.service.kept 0) ≡ 0 =
      ap (λ (s : MachineState). last_of (get s.service.kept 0)) bare ∙ ap last_of (get-empty nat_cmp 0) in
      omega (arith, none);
}

-- so is one that was made anew
pub anew_ready : (m : MachineView) (t : Tree) → m ≡ record { state = machine_of t; is_broken = false } → IsReady m
anew_ready m t is = subst IsReady (sym is) (bare_ready (record { state = machine_of t; is_broken = false }) refl refl)
