-- What a reader of rows holds.
use Rattle.std.specs.Prelude.{◌≡◌, ℕ, ◌+◌, ◌<◌, Bool, true, List, [], ◌∷◌, length, Option, None, Some, refl}
use Rattle.std.specs.declared.cmp.Ordering.{Ordering}
use Rattle.std.specs.Ordering.{is_lt}
use Rattle.std.specs.Coded.{Coded, code_by, coded×}
use Rattle.ztree.specs.declared.node.Node.{Node}
use Rattle.ztree.specs.Tree.{Path}
use Rattle.zops.specs.Machine.{MachineState}
use Rattle.zops.specs.Restored.{rooted_machine, AllDated, CanBegin}
use Rattle.zops.specs.support.Codes.{coded_machine_state}
use Rattle.zsnapshots.specs.declared.header.Header.{Header}
use Rattle.zsnapshots.specs.contracts.header.Header as header
use Rattle.zsnapshots.specs.States.{ReadingView, sessions_of, nodes_of, replies_of, below_of}

-- how what was read so far is stored
abbrev pub coded_reading : Coded ReadingView
coded_reading =
    code_by (Header × MachineState) (coded× header.the_row.coded coded_machine_state)
    (λ r. (r.header, r.state))
    (λ p. record { header = p.0; state = p.1 }) (λ _. refl)

-- the key of the last entry, if there is one
abbrev pub last_key : {K X : Type 0} → List (K × X) → Option K
last_key [] = None
last_key (e ∷ []) = Some e.0
last_key (e ∷ (f ∷ es)) = last_key (f ∷ es)

-- the key is above the one before it, if there is one
abbrev pub is_above : {K : Type 0} → (K → K → Ordering) → Option K → K → Bool
is_above R None key = true
is_above R (Some before) key = is_lt (R before key)

-- the root is the first node
abbrev pub HasRoot : MachineState → Type 0
HasRoot s = (root : Node) × (rest : List (Path × Node)) × (nodes_of s ≡ ([], root) ∷ rest)

-- the numbers of rows that are still to come, and the last keys
pub record IsReading (h : Header) (s : MachineState) (sessions nodes replies : ℕ)
    (session : Option ℕ) (path : Path) (client : Option ℕ) : Type 0 where
  pub last : s.applied ≡ h.last
  pub time : s.service.plain.time ≡ h.time
  pub zxid : s.service.plain.zxid ≡ h.zxid
  pub limits : s.service.plain.limits ≡ h.limits
  pub dated : AllDated s.service.plain
  pub root : HasRoot s
  pub sessions_left : length (sessions_of s) + sessions ≡ h.sessions
  pub nodes_left : length (below_of s) + nodes ≡ h.nodes
  pub replies_left : length (replies_of s) + replies ≡ h.replies
  pub nodes_wait : 0 < sessions → below_of s ≡ []
  pub replies_wait : 0 < sessions + nodes → replies_of s ≡ []
  pub last_session : session ≡ last_key (sessions_of s)
  pub last_path : Some path ≡ last_key (nodes_of s)
  pub last_client : client ≡ last_key (replies_of s)

-- the root alone was read, after this header
pub record HasBegun (h : Header) (path : Path) (s : MachineState) : Type 0 where
  pub at_root : path ≡ []
  pub node : Node
  pub can : CanBegin node h.time h.zxid h.last h.limits
  pub state : s ≡ rooted_machine node h.time h.zxid h.last h.limits
