-- What an audit finds of lawful traces.
use Rattle.std.proofs.Common.{◌≡◌, Bool, true, false, true≢false, Result, Ok, Err, refl, sym, ap, ◌∙◌}
use Rattle.std.specs.Prelude.{is_ok}
use Rattle.zprotocol.specs.world.History.{History}
use Rattle.zprotocol.specs.world.PlainTree.{IsExplained}
use Rattle.zprotocol.specs.declared.traces.trace.Traces.{Traces}
use Rattle.zprotocol.specs.traces.Audit.{is_any_cut, IsFound}
use Rattle.zprotocol.specs.traces.Lawful.{AreLawful}
use Rattle.zaudit.specs.declared.faults.AuditFault.{AuditFault}
use Rattle.zaudit.specs.declared.faults.AuditFault.TheVariants.{Cut, Disorder, Mismatch, Memory}
use Rattle.zrace.specs.Races.{IsAuditOf}

-- it speaks against the run
abbrev pub is_against : AuditFault → Bool
is_against Cut = false
is_against Disorder = true
is_against Mismatch = true
is_against Memory = false

abbrev is_answer_against : {X : Type 0} → Result X AuditFault → Bool
is_answer_against (Ok x) = false
is_answer_against (Err fault) = is_against fault

never_by : {X : Type 0} (t : Traces) (b : Bool) → is_any_cut t ≡ b → (fault : AuditFault)
    → (is_any_cut t ≡ false → ∥ AreLawful t ∥₁) → (is_any_cut t ≡ true → ◌≡◌ {A = Result X AuditFault} (Err fault) (Err Cut))
    → (∥ AreLawful t ∥₁ → is_any_cut t ≡ false → fault ≡ Memory) → is_against fault ≡ true → ⊥
never_by t true is fault lawful cut complete doubt = true≢false (sym doubt ∙ ap is_answer_against (cut is))
never_by t false is fault lawful cut complete doubt = true≢false (sym doubt ∙ ap is_against (complete (lawful is) is))

pub never_against : {X : Type 0} (t : Traces) (fault : AuditFault)
    → (is_any_cut t ≡ false → ∥ AreLawful t ∥₁) → (is_any_cut t ≡ true → ◌≡◌ {A = Result X AuditFault} (Err fault) (Err Cut))
    → (∥ AreLawful t ∥₁ → is_any_cut t ≡ false → fault ≡ Memory) → (fault ≡ Disorder → ⊥) × (fault ≡ Mismatch → ⊥)
never_against t fault lawful cut complete =
    let never = never_by t (is_any_cut t) refl fault lawful cut complete in
    (λ e. never (ap is_against e), λ e. never (ap is_against e))

-- the audit of traces that it finds to be a run
pub ok_audit : {X Y : Type 0} (t : Traces) (x : X) (y : Y) (history : History) → IsFound t history → IsExplained history
    → (is_any_cut t ≡ true → ◌≡◌ {A = Result X AuditFault} (Ok x) (Err Cut)) → IsAuditOf {X = Y} t (Ok y)
ok_audit t x y history found explained cut = record {
  found = (history, found, explained);
  cut = λ is. absurd (true≢false (ap is_ok (cut is)));
  whole = λ is. tt;
}

-- the fault of an audit, if it has one
abbrev fault_of : {X : Type 0} → Result X AuditFault → AuditFault
fault_of (Ok x) = Memory
fault_of (Err fault) = fault

-- the audit of traces that are lawful, unless one is cut, where it has a fault
pub err_audit : {X Y : Type 0} (t : Traces) (fault : AuditFault)
    → (is_any_cut t ≡ false → ∥ AreLawful t ∥₁) → (is_any_cut t ≡ true → ◌≡◌ {A = Result X AuditFault} (Err fault) (Err Cut))
    → (∥ AreLawful t ∥₁ → is_any_cut t ≡ false → fault ≡ Memory) → IsAuditOf {X = Y} t (Err fault)
err_audit t fault lawful cut complete = record {
  found = tt;
  cut = λ is. ap Err (ap fault_of (cut is));
  whole = λ is. complete (lawful is) is;
}
