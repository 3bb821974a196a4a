-- The rows of a whole state: a header, the root, the sessions by id, the other nodes by path, and
-- the cached replies by client. A state has these rows and no others. The rows are this project's
-- profile.
use Rattle.std.specs.Prelude.{◌≡◌, ℕ, ◌+◌, ◌≤◌, nat_lt, Bool, true, false, List, [], ◌∷◌, ◌++◌, map, length, take, drop, Result, Ok, IfOk, IfErr, if◌then◌else◌}
use Rattle.std.specs.List.{AllByRecursion, flat_map}
use Rattle.std.specs.Ordering.{nat_cmp}
use Rattle.std.specs.declared.cmp.Ordering.{Ordering}
use Rattle.std.specs.declared.cmp.Ordering.TheVariants.{Less}
use Rattle.std.specs.FinMap.{entries, empty}
use Rattle.zcodec.specs.Forms.{Form}
use Rattle.zpath.specs.Grammar.{path_cmp}
use Rattle.ztree.specs.declared.limits.TheConstants.{MAX_CLIENTS}
use Rattle.ztree.specs.declared.node.Node.{Node}
use Rattle.ztree.specs.declared.session.Session.{Session}
use Rattle.ztree.specs.Tree.{Path}
use Rattle.zcalls.specs.Cached.{Cached, nothing_cached}
use Rattle.zops.specs.declared.limits.TheConstants.{MAX_APPLIED}
use Rattle.zops.specs.Machine.{MachineState}
use Rattle.zops.specs.Restored.{IsOfUpdate, CanBegin, CanPutGranted, CanPutNode}
use Rattle.zops.specs.RestoredLaws.{IsSettled}
use Rattle.zwire.specs.declared.fault.FrameFault.TheVariants as frame
use Rattle.zwire.specs.Frames.{IsFaultOf}
use Rattle.zsnapshots.specs.declared.header.Header.{Header}
use Rattle.zsnapshots.specs.declared.fault.RowFault.{RowFault}
use Rattle.zsnapshots.specs.declared.fault.RowFault.TheVariants.{Cut, TooLong, Contents, Unordered, Unlawful, Trailing, Ended, Memory}
use Rattle.zsnapshots.specs.Rows.{header_text, session_text, node_text, reply_text, row}

-- ---- the rows of a state

-- the sessions with their ids, in order
abbrev pub sessions_of : MachineState → List (ℕ × Session)
sessions_of s = entries s.service.plain.sessions

-- the nodes with their paths, in order: the root comes first
abbrev pub nodes_of : MachineState → List (Path × Node)
nodes_of s = entries s.service.plain.nodes

-- the cached replies with their clients, in order
abbrev pub replies_of : MachineState → List (ℕ × Cached)
replies_of s = entries s.service.kept

-- the nodes below the root
abbrev pub below_of : MachineState → List (Path × Node)
below_of s = drop 1 (nodes_of s)

-- the header of a state
abbrev pub head_of : MachineState → Header
head_of s = record {
  last = s.applied;
  time = s.service.plain.time;
  zxid = s.service.plain.zxid;
  limits = s.service.plain.limits;
  sessions = length (sessions_of s);
  nodes = length (below_of s);
  replies = length (replies_of s);
}

-- a row of each kind
pub data StateRow : Type 0 where
  OfHeader : Header → StateRow
  OfSession : ℕ × Session → StateRow
  OfNode : Path × Node → StateRow
  OfReply : ℕ × Cached → StateRow

-- the rows after the header
abbrev pub body_of : MachineState → List StateRow
body_of s =
    map OfNode (take 1 (nodes_of s)) ++ (map OfSession (sessions_of s) ++
    (map OfNode (below_of s) ++ map OfReply (replies_of s)))

-- all of its rows
abbrev pub rows_of : MachineState → List StateRow
rows_of s = OfHeader (head_of s) ∷ body_of s

-- the bytes of a row
abbrev pub spelled : StateRow → List ℕ
spelled (OfHeader h) = (row header_text).spell h
spelled (OfSession e) = (row session_text).spell e
spelled (OfNode e) = (row node_text).spell e
spelled (OfReply e) = (row reply_text).spell e

-- the bytes of all of its rows
abbrev pub text_of : MachineState → List ℕ
text_of s = flat_map spelled (rows_of s)

-- the row has bytes that are read again, and a reply is one to an update
abbrev pub Fits : StateRow → Type 0
Fits (OfHeader h) = (row header_text).Fits h
Fits (OfSession e) = (row session_text).Fits e
Fits (OfNode e) = (row node_text).Fits e
Fits (OfReply e) = (row reply_text).Fits e × IsOfUpdate e.1.reply

-- the state can be read from its bytes: its tree is settled, and each row fits
pub record IsReadable (s : MachineState) : Type 0 where
  pub settled : IsSettled s.service.plain
  pub few : s.applied ≤ MAX_APPLIED
  pub fit : AllByRecursion Fits (rows_of s)

-- ---- writing

-- the tree of a state alone: no reply is cached, and no entry was applied
abbrev pub tree_alone : MachineState → MachineState
tree_alone s = record { service = nothing_cached s.service.plain; applied = 0 }

-- what is written of a state: its tree alone, or all of it
abbrev pub written_of : Bool → MachineState → MachineState
written_of is_alone s = record {
  service = record {
    plain = s.service.plain;
    kept = if is_alone then empty else s.service.kept;
  };
  applied = if is_alone then 0 else s.applied;
}

-- the keys of rows, each kind in its order, and whether the rows are those of a tree alone
pub record KeysView : Type 0 where
  pub is_alone : Bool
  pub sessions : List ℕ
  pub paths : List Path
  pub clients : List ℕ

-- they are the keys of the rows of this state
pub record AreKeysOf (keys : KeysView) (s : MachineState) : Type 0 where
  pub settled : IsSettled s.service.plain
  pub few : s.applied ≤ MAX_APPLIED
  pub sessions : keys.sessions ≡ map (λ e. e.0) (sessions_of s)
  pub paths : keys.paths ≡ map (λ e. e.0) (nodes_of s)
  pub clients : keys.clients ≡ map (λ e. e.0) (replies_of s)
  pub few_clients : length keys.clients ≤ MAX_CLIENTS

-- an item of a list was written at the end of the bytes, and it fits
pub record IsItem {A : Type 0} (kind : A → StateRow) (items : List A) (i : ℕ)
    (before after : List ℕ) : Type 0 where
  pub item : A
  pub next : drop i items ≡ item ∷ drop (i + 1) items
  pub bytes : after ≡ before ++ spelled (kind item)
  pub fits : Fits (kind item)

-- the row with this number was
abbrev pub IsRow : MachineState → ℕ → List ℕ → List ℕ → Type 0
IsRow s = IsItem (λ x. x) (rows_of s)

-- the state that is written, and how many of its rows were written
pub record WritingView : Type 0 where
  pub state : MachineState
  pub written : ℕ

-- this row comes next
abbrev pub IsNext : WritingView → StateRow → Type 0
IsNext w x = drop w.written (rows_of w.state) ≡ x ∷ drop (w.written + 1) (rows_of w.state)

-- the next row was written at the end of the bytes, and it fits
pub record IsWritten (old new : WritingView) (before after : List ℕ) : Type 0 where
  pub x : StateRow
  pub next : IsNext old x
  pub bytes : after ≡ before ++ spelled x
  pub fits : Fits x
  pub view : new ≡ record old { written = old.written + 1 }

-- ---- reading

-- what was read so far: the header, and the state of the other rows
pub record ReadingView : Type 0 where
  pub header : Header
  pub state : MachineState

-- a row of a session comes next
abbrev pub wants_session : ReadingView → Bool
wants_session r = nat_lt (length (sessions_of r.state)) r.header.sessions

-- else a row of a node comes next
abbrev pub wants_node : ReadingView → Bool
wants_node r = nat_lt (length (below_of r.state)) r.header.nodes

-- else a row of a cached reply comes next
abbrev pub wants_reply : ReadingView → Bool
wants_reply r = nat_lt (length (replies_of r.state)) r.header.replies

-- the rows so far
abbrev pub rows_so_far : ReadingView → List StateRow
rows_so_far r = OfHeader r.header ∷ body_of r.state

-- a row of this kind comes next
abbrev pub IsWanted : ReadingView → StateRow → Type 0
IsWanted r (OfHeader h) = ⊥
IsWanted r (OfSession e) = wants_session r ≡ true
IsWanted r (OfNode e) = (wants_session r ≡ false) × (wants_node r ≡ true)
IsWanted r (OfReply e) =
    (wants_session r ≡ false) × ((wants_node r ≡ false) × (wants_reply r ≡ true))

-- one row was read: it comes first in the bytes, and after the rows so far
pub record IsTaken (old new : ReadingView) (bytes rest : List ℕ) : Type 0 where
  pub x : StateRow
  pub wanted : IsWanted old x
  pub fits : Fits x
  pub front : bytes ≡ spelled x ++ rest
  pub rows : rows_so_far new ≡ rows_so_far old ++ x ∷ []

-- the same of the root, after the header
pub record IsRootTaken (header : Header) (new : ReadingView) (bytes rest : List ℕ) : Type 0 where
  pub root : Node
  pub fits : Fits (OfNode ([], root))
  pub front : bytes ≡ spelled (OfNode ([], root)) ++ rest
  pub rows : rows_so_far new ≡ OfHeader header ∷ (OfNode ([], root) ∷ [])

-- The row of a readable state that comes after these rows is taken wherever it comes first, unless
-- memory runs out.
abbrev pub NeverRefuses : {V : Type 0} → List StateRow → (V → List StateRow × List ℕ) →
    Result V RowFault → List ℕ → Type 0
NeverRefuses before of result bytes =
    (s : MachineState) (x : StateRow) (after : List StateRow) (rest : List ℕ) → IsReadable s →
    rows_of s ≡ before ++ x ∷ after → bytes ≡ spelled x ++ rest →
    IfOk result (λ v. of v ≡ (before ++ x ∷ [], rest)) × IfErr result (λ fault. fault ≡ Memory)

-- the key is above those of the rows before
abbrev pub IsAbove : {K X : Type 0} → (K → K → Ordering) → List (K × X) → K → Type 0
IsAbove R before key = AllByRecursion (λ e. R e.0 key ≡ Less) before

-- Which fault it is: that of a row of this form; or the row isn't in order; or no settled state has
-- it here. The first of them that holds is returned.
abbrev pub IsRowFault : {A : Type 0} → Form A → (A → Type 0) → (A → Type 0) → List ℕ →
    RowFault → Type 0
IsRowFault c in_order can bytes Cut = IsFaultOf c bytes frame.Cut
IsRowFault c in_order can bytes TooLong = IsFaultOf c bytes frame.TooLong
IsRowFault c in_order can bytes (Contents fault) = IsFaultOf c bytes (frame.Contents fault)
IsRowFault {A} c in_order can bytes Unordered =
    (x : A) × (rest : List ℕ) × ((row c).read bytes ≡ Ok (x, rest)) × (in_order x → ⊥)
IsRowFault {A} c in_order can bytes Unlawful =
    (x : A) × (rest : List ℕ) × ((row c).read bytes ≡ Ok (x, rest)) × in_order x × (can x → ⊥)
IsRowFault c in_order can bytes Trailing = ⊥
IsRowFault c in_order can bytes Ended = ⊥
IsRowFault c in_order can bytes Memory = Unit {0}

-- the same of the root, after this header
abbrev pub IsRootFault : Header → List ℕ → RowFault → Type 0
IsRootFault h =
    IsRowFault node_text (λ e. e.0 ≡ []) (λ e. CanBegin e.1 h.time h.zxid h.last h.limits)

-- the same of the row that comes next
abbrev pub IsSessionFault : MachineState → List ℕ → RowFault → Type 0
IsSessionFault s =
    IsRowFault session_text (λ e. IsAbove nat_cmp (sessions_of s) e.0)
    (λ e. CanPutGranted s.service.plain e.0 e.1)

abbrev pub IsNodeFault : MachineState → List ℕ → RowFault → Type 0
IsNodeFault s =
    IsRowFault node_text (λ e. IsAbove path_cmp (nodes_of s) e.0)
    (λ e. CanPutNode s.service.plain e.0 e.1)

abbrev pub IsReplyFault : MachineState → List ℕ → RowFault → Type 0
IsReplyFault s =
    IsRowFault reply_text (λ e. IsAbove nat_cmp (replies_of s) e.0)
    (λ e. IsOfUpdate e.1.reply)

-- the first if the test is true, and else the second
abbrev pub either : Bool → Type 0 → Type 0 → Type 0
either true A B = A
either false A B = B

abbrev pub IsNextFault : ReadingView → List ℕ → RowFault → Type 0
IsNextFault r bytes fault =
    either (wants_session r) (IsSessionFault r.state bytes fault)
    (either (wants_node r) (IsNodeFault r.state bytes fault)
    (either (wants_reply r) (IsReplyFault r.state bytes fault) (fault ≡ Ended)))

-- ---- a whole state

-- all rows that the header announces were read
abbrev pub is_done : ReadingView → Bool
is_done r =
    if wants_session r then false else if wants_node r then false else
    if wants_reply r then false else true
