-- What a race writes: this project's profile.
use Rattle.std.specs.Prelude.{ℕ, suc, List, [], ◌∷◌, ◌++◌, Option, None, Some, Result, Ok, Err, codes}
use Rattle.std.specs.Fmt.{decimal}
use Rattle.zaudit.specs.Faults.{fault_name}
use Rattle.zaudit.specs.declared.faults.AuditFault.{AuditFault}
use Rattle.zrace.specs.declared.outcome.Outcome.{Outcome}

-- the line of a node: its version, if a client received one
abbrev pub node_line : ℕ → Option ℕ → List ℕ
node_line node (Some version) = codes "node /n" ++ decimal node ++ codes " version " ++ decimal version ++ 10 ∷ []
node_line node None = codes "node /n" ++ decimal node ++ codes " unanswered" ++ 10 ∷ []

-- the lines of nodes, numbered from this one on
unfoldable pub node_lines : ℕ → List (Option ℕ) → List ℕ
node_lines node [] = []
node_lines node (seen ∷ rest) = node_line node seen ++ node_lines (suc node) rest

-- the line of the audit
abbrev pub audit_line : {X : Type 0} → Result X AuditFault → List ℕ
audit_line (Ok x) = codes "audit ok" ++ 10 ∷ []
audit_line (Err fault) = codes "audit " ++ fault_name fault ++ 10 ∷ []

-- all that a race writes
abbrev pub outcome_text : Outcome → List ℕ
outcome_text outcome = node_lines 0 outcome.versions.items ++ audit_line outcome.audit
