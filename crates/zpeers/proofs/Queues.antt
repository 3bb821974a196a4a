-- The queues of receivers.
use Rattle.std.proofs.Common.{◌≡◌, ◌≢◌, Bool, true, false, List, [], ◌∷◌, ◌++◌, refl, sym, ap, subst, ◌∙◌, append_assoc, append-nil}
use Rattle.std.specs.Prelude.{if◌then◌else◌}
use Rattle.std.specs.List.{flat_map}
use Rattle.std.proofs.lemmas.Grind.{flat_map-append}
use Rattle.zprotocol.specs.declared.process.Process.{Process}
use Rattle.zprotocol.specs.world.Links.{is_same}
use Rattle.zprotocol.proofs.world_lemmas.Processes.{same_process, same_itself}
use Rattle.zpeers.specs.Records.{LinkRecord, records_of}
use Rattle.zpeers.specs.Outgoing.{OutgoingView, left_of, records_for}
use Rattle.zpeers.specs.Laws.{Step, Happens, put_by, messages_put, written_by, records_written, QueuesKeepOrder}
use Rattle.zpeers.specs.Laws.Step.{Put, Write}

module _ (own to : Process) where
  -- one step keeps the order
  step_keeps : (step : Step) (old new : OutgoingView) → Happens own step old new
      → records_for old own to ++ flat_map (records_of own to) (put_by to step) ≡ written_by to step ++ records_for new own to
  step_keeps (Put other m) old new does = by (is_same other to) refl
    where
      by : (b : Bool) → is_same other to ≡ b
          → records_for old own to ++ flat_map (records_of own to) (if is_same other to then m ∷ [] else []) ≡ records_for new own to
      by true is =
          let same : other ≡ to = same_process other to is in
          rw is (ap (λ (l : List LinkRecord). records_for old own to ++ l) (append-nil (records_of own to m))
          ∙ sym (subst (λ (p : Process). records_for new own p ≡ records_for old own p ++ records_of own p m) same does.0))
      by false is =
          let apart : to ≢ other = λ same. (let bad : true ≡ false = sym (same_itself other) ∙ ap (is_same other) (sym same) ∙ is in cc) in
          rw is (append-nil (records_for old own to) ∙ ap (flat_map (left_of own to)) (sym (does.1 to apart)))
  step_keeps (Write other r) old new does = by (is_same other to) refl
    where
      by : (b : Bool) → is_same other to ≡ b
          → records_for old own to ++ [] ≡ (if is_same other to then r ∷ [] else []) ++ records_for new own to
      by true is =
          let same : other ≡ to = same_process other to is in
          rw is (append-nil (records_for old own to)
          ∙ subst (λ (p : Process). records_for old own p ≡ r ∷ records_for new own p) same does.0)
      by false is =
          let apart : to ≢ other = λ same. (let bad : true ≡ false = sym (same_itself other) ∙ ap (is_same other) (sym same) ∙ is in cc) in
          rw is (append-nil (records_for old own to) ∙ ap (flat_map (left_of own to)) (sym (does.1 to apart)))

pub keep_order : QueuesKeepOrder
keep_order own to [] old new all = append-nil (records_for old own to) ∙ ap (λ (o : OutgoingView). records_for o own to) (sym all)
keep_order own to (step ∷ steps) old new all =
    let here = step_keeps own to step old all.0 all.1 in
    let rest = keep_order own to steps all.0 new all.2 in
    let waited = records_for old own to in
    let first = flat_map (records_of own to) (put_by to step) in
    let put = flat_map (records_of own to) (messages_put to steps) in
    let written = records_written to steps in
    ap (λ (l : List LinkRecord). waited ++ l) (flat_map-append (records_of own to) (put_by to step) (messages_put to steps))
    ∙ sym (append_assoc waited first put) ∙ ap (λ (l : List LinkRecord). l ++ put) here
    ∙ append_assoc (written_by to step) (records_for all.0 own to) put ∙ ap (λ (l : List LinkRecord). written_by to step ++ l) rest
    ∙ sym (append_assoc (written_by to step) written (records_for new own to))
