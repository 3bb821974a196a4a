-- The bytes of a state determine it: the header reports how many rows of each kind follow.
use Rattle.std.proofs.Common.{◌≡◌, ℕ, ◌<◌, true, false, List, [], ◌∷◌, ◌++◌, length, map, take, drop, append_assoc}
use Rattle.std.proofs.Common.{append-nil, refl, sym, ap, subst, ◌∙◌, arith}
use Rattle.std.proofs.lemmas.Bool.{le-ltb}
use Rattle.std.proofs.lemmas.List.{append_cancel_left}
use Rattle.std.proofs.lemmas.List.Concat.{flat_map-append}
use Rattle.std.specs.Prelude.{nat_lt, if◌then◌else◌}
use Rattle.std.specs.List.{AllByRecursion, flat_map}
use Rattle.zcodec.specs.Forms.{Form}
use Rattle.zcodec.specs.Laws.{IsForm}
use Rattle.zcodec.proofs.Whole.{one_value}
use Rattle.ztree.specs.declared.node.Node.{Node}
use Rattle.ztree.specs.Tree.{Path}
use Rattle.zops.specs.Machine.{MachineState}
use Rattle.zsnapshots.specs.declared.header.Header.{Header}
use Rattle.zsnapshots.specs.Rows.{header_text, session_text, node_text, reply_text, row}
use Rattle.zsnapshots.specs.States.{StateRow, Fits, spelled, head_of, sessions_of, nodes_of, below_of, replies_of}
use Rattle.zsnapshots.specs.States.{body_of, rows_of, IsReadable, wants_session, wants_node, wants_reply}
use Rattle.zsnapshots.specs.States.StateRow.{OfHeader, OfSession, OfNode, OfReply}
use Rattle.zsnapshots.specs.Laws.{RowsAreDistinct, OneStateInFront, OneStateInFrontOfText, NoneIsMissing}
use Rattle.zsnapshots.proofs.RowForms.{is_header, is_session_text, is_node_text, is_reply_text}
use Rattle.zsnapshots.proofs.Written.{nodes_some}
use Rattle.zsnapshots.proofs.Next.{of_kind, session_in, node_in, reply_in, body-sessions, body-nodes, body-replies, same_header, same_body}
use Rattle.zsnapshots.proofs.Reported.{framed_is}
use Rattle.zsnapshots.proofs.WholeStates.{same_state}

all_behind : {X : Type 0} (P : X → Type 0) (xs ys : List X) → AllByRecursion P (xs ++ ys) → AllByRecursion P ys
all_behind P [] ys all = all
all_behind P (x ∷ xs) ys all = all_behind P xs ys all.1

-- ---- rows of one kind, as many as the header reports

module _ {A : Type 0} (c : Form A) (is : IsForm c) (kind : A → StateRow) (spells : (a : A) → spelled (kind a) ≡ (row c).spell a)
    (fit : (a : A) → Fits (kind a) → (row c).Fits a) where
  one_of_kind : (x y : A) (after behind : List ℕ) → Fits (kind x) → Fits (kind y) → spelled (kind x) ++ after ≡ spelled (kind y) ++ behind
      → (x ≡ y) × (after ≡ behind)
  one_of_kind x y after behind fits also same =
      one_value (row c) (framed_is c is) x y after behind (fit x fits) (fit y also)
      (ap (λ (text : List ℕ). text ++ after) (sym (spells x)) ∙ same ∙ ap (λ (text : List ℕ). text ++ behind) (spells y))

  same_of_kind : (es fs : List A) (xs ys : List StateRow) (after behind : List ℕ) → length es ≡ length fs
      → AllByRecursion Fits (map kind es ++ xs) → AllByRecursion Fits (map kind fs ++ ys) →
      flat_map spelled (map kind es ++ xs) ++ after ≡ flat_map spelled (map kind fs ++ ys) ++ behind
      → (es ≡ fs) × (flat_map spelled xs ++ after ≡ flat_map spelled ys ++ behind)
  same_of_kind [] [] xs ys after behind long fits also same = (refl, same)
  same_of_kind [] (f ∷ fs) xs ys after behind long fits also same = absurd (omega (arith, long))
  same_of_kind (e ∷ es) [] xs ys after behind long fits also same = absurd (omega (arith, long))
  same_of_kind (e ∷ es) (f ∷ fs) xs ys after behind long fits also same =
      let x_rest = flat_map spelled (map kind es ++ xs) in
      let y_rest = flat_map spelled (map kind fs ++ ys) in
      let one = one_of_kind e f (x_rest ++ after) (y_rest ++ behind) fits.0 also.0
      (sym (append_assoc (spelled (kind e)) x_rest after) ∙ same ∙ append_assoc (spelled (kind f)) y_rest behind) in
      let rest = same_of_kind es fs xs ys after behind (omega (arith, long)) fits.1 also.1 one.1 in
      ((λ i. one.0 i ∷ rest.0 i), rest.1)

one_root : (nodes : List (Path × Node)) → 0 < length nodes → length (take 1 nodes) ≡ 1
one_root [] some = absurd (omega (arith, some))
one_root (e ∷ nodes) some = refl

abbrev behind_nodes : MachineState → List StateRow
behind_nodes s = map OfReply (replies_of s)

abbrev behind_sessions : MachineState → List StateRow
behind_sessions s = map OfNode (below_of s) ++ behind_nodes s

abbrev behind_root : MachineState → List StateRow
behind_root s = map OfSession (sessions_of s) ++ behind_sessions s

module _ (s w : MachineState) (after behind : List ℕ) (readable : IsReadable s) (also : IsReadable w)
    (same : flat_map spelled (rows_of s) ++ after ≡ flat_map spelled (rows_of w) ++ behind) where
  headers : (head_of s ≡ head_of w) × (flat_map spelled (body_of s) ++ after ≡ flat_map spelled (body_of w) ++ behind)
  headers =
      one_of_kind header_text is_header OfHeader (λ a. refl) (λ a it. it) (head_of s) (head_of w) _ _ readable.fit.0 also.fit.0
      (sym (append_assoc (spelled (OfHeader (head_of s))) (flat_map spelled (body_of s)) after) ∙ same
      ∙ append_assoc (spelled (OfHeader (head_of w))) (flat_map spelled (body_of w)) behind)

  roots : (take 1 (nodes_of s) ≡ take 1 (nodes_of w)) × (flat_map spelled (behind_root s) ++ after ≡ flat_map spelled (behind_root w) ++ behind)
  roots =
      same_of_kind node_text is_node_text OfNode (λ a. refl) (λ a it. it) (take 1 (nodes_of s)) (take 1 (nodes_of w))
      (behind_root s) (behind_root w) after behind
      (one_root (nodes_of s) (nodes_some s.service.plain readable.settled.lawful)
      ∙ sym (one_root (nodes_of w) (nodes_some w.service.plain also.settled.lawful)))
      readable.fit.1 also.fit.1 headers.1

  fits_behind : (v : MachineState) → IsReadable v → AllByRecursion Fits (behind_root v)
  fits_behind v it = all_behind Fits (map OfNode (take 1 (nodes_of v))) (behind_root v) it.fit.1

  sessions : (sessions_of s ≡ sessions_of w) × (flat_map spelled (behind_sessions s) ++ after ≡ flat_map spelled (behind_sessions w) ++ behind)
  sessions =
      same_of_kind session_text is_session_text OfSession (λ a. refl) (λ a it. it) (sessions_of s) (sessions_of w)
      (behind_sessions s) (behind_sessions w) after behind
      (ap (λ (h : Header). h.sessions) headers.0) (fits_behind s readable) (fits_behind w also) roots.1

  fits_nodes : (v : MachineState) → IsReadable v → AllByRecursion Fits (behind_sessions v)
  fits_nodes v it = all_behind Fits (map OfSession (sessions_of v)) (behind_sessions v) (fits_behind v it)

  nodes : (below_of s ≡ below_of w) × (flat_map spelled (behind_nodes s) ++ after ≡ flat_map spelled (behind_nodes w) ++ behind)
  nodes =
      same_of_kind node_text is_node_text OfNode (λ a. refl) (λ a it. it) (below_of s) (below_of w) (behind_nodes s) (behind_nodes w) after behind
      (ap (λ (h : Header). h.nodes) headers.0) (fits_nodes s readable) (fits_nodes w also) sessions.1

  fits_replies : (v : MachineState) → IsReadable v → AllByRecursion Fits (behind_nodes v ++ [])
  fits_replies v it =
      subst (AllByRecursion Fits) (sym (append-nil (behind_nodes v))) (all_behind Fits (map OfNode (below_of v)) (behind_nodes v) (fits_nodes v it))

  replies : (replies_of s ≡ replies_of w) × (after ≡ behind)
  replies =
      let ends : (v : MachineState) (rest : List ℕ) → flat_map spelled (behind_nodes v ++ []) ++ rest ≡ flat_map spelled (behind_nodes v) ++ rest =
      λ v rest. ap (λ (rows : List StateRow). flat_map spelled rows ++ rest) (append-nil (behind_nodes v)) in
      same_of_kind reply_text is_reply_text OfReply (λ a. refl) (λ a it. it.0) (replies_of s) (replies_of w) [] [] after behind
      (ap (λ (h : Header). h.replies) headers.0) (fits_replies s readable) (fits_replies w also) (ends s after ∙ nodes.1 ∙ sym (ends w behind))

  same_rows : rows_of s ≡ rows_of w
  same_rows = λ i.
      OfHeader (headers.0 i) ∷ (map OfNode (roots.0 i) ++ (map OfSession (sessions.0 i) ++ (map OfNode (nodes.0 i) ++ map OfReply (replies.0 i))))

  one_state : (s ≡ w) × (after ≡ behind)
  one_state = (same_state s w same_rows, replies.1)

pub text_in_front : OneStateInFrontOfText
text_in_front s w rest more readable also same = one_state s w rest more readable also same

-- ---- rows that are each on their own

abbrev joined : List (List ℕ) → List ℕ
joined = flat_map (λ bytes. bytes)

joined-spelled : (rows : List StateRow) → joined (map spelled rows) ≡ flat_map spelled rows
joined-spelled [] = refl
joined-spelled (x ∷ rows) = ap (λ (text : List ℕ). spelled x ++ text) (joined-spelled rows)

joined-behind : (rows : List StateRow) (rest : List (List ℕ)) → joined (map spelled rows ++ rest) ≡ flat_map spelled rows ++ joined rest
joined-behind rows rest =
    flat_map-append (λ bytes. bytes) (map spelled rows) rest ∙ ap (λ (text : List ℕ). text ++ joined rest) (joined-spelled rows)

pub in_front : OneStateInFront
in_front s w rest more readable also same =
    let one = one_state s w (joined rest) (joined more) readable also (sym (joined-behind (rows_of s) rest) ∙ ap joined same
    ∙ joined-behind (rows_of w) more) in
    (one.0, append_cancel_left (map spelled (rows_of s)) rest more (same ∙ ap (λ (v : MachineState). map spelled (rows_of v) ++ more) (sym one.0)))

pub rows_apart : RowsAreDistinct
rows_apart s w readable also same =
    (in_front s w [] [] readable also (ap (λ (rows : List (List ℕ)). rows ++ []) same)).0

-- ---- no row is missing

none_missing : (n m : ℕ) → m ≡ n → nat_lt n m ≡ false
none_missing n m is = le-ltb n m (omega (arith, is))

pub no_row_is_missing : NoneIsMissing
no_row_is_missing s r is =
    let head = same_header s r.header (body_of r.state) is in
    let body = same_body s r.header (body_of r.state) is in
    let sessions : sessions_of s ≡ sessions_of r.state = sym (body-sessions s) ∙ ap (of_kind session_in) body ∙ body-sessions r.state in
    let nodes : nodes_of s ≡ nodes_of r.state = sym (body-nodes s) ∙ ap (of_kind node_in) body ∙ body-nodes r.state in
    let replies : replies_of s ≡ replies_of r.state = sym (body-replies s) ∙ ap (of_kind reply_in) body ∙ body-replies r.state in
    let no_session : wants_session r ≡ false = none_missing (length (sessions_of r.state)) r.header.sessions
    (ap (λ (h : Header). h.sessions) (sym head) ∙ ap length sessions) in
    let no_node : wants_node r ≡ false = none_missing (length (below_of r.state)) r.header.nodes (ap (λ (h : Header). h.nodes) (sym head)
    ∙ ap (λ (es : List (Path × Node)). length (drop 1 es)) nodes) in
    let no_reply : wants_reply r ≡ false = none_missing (length (replies_of r.state)) r.header.replies
    (ap (λ (h : Header). h.replies) (sym head) ∙ ap length replies) in
    λ i. if no_session i then false else if no_node i then false else if no_reply i then false else true
