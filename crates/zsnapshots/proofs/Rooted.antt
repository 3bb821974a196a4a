-- The root, after a header.
use Rattle.std.proofs.Common.{◌≡◌, ℕ, ◌+◌, List, [], ◌∷◌, ◌++◌, length, take, drop, map, Some, None, Result, Ok, Err}
use Rattle.std.proofs.Common.{refl, sym, ap, subst, ◌∙◌, zero-add}
use Rattle.std.specs.Prelude.{IfOk, IfErr}
use Rattle.std.specs.Ordering.{nat_cmp}
use Rattle.std.specs.FinMap as finite
use Rattle.std.specs.FinMap.{put, entries-insert}
use Rattle.zpath.specs.Grammar.{path_cmp}
use Rattle.ztree.specs.declared.node.Node.{Node}
use Rattle.ztree.specs.Tree.{Path}
use Rattle.ztree.proofs.Sorted.{paths_total}
use Rattle.zcalls.proofs.Bounds.{all_insert, no_nodes}
use Rattle.zops.specs.Machine.{MachineState}
use Rattle.zops.specs.Restored.{rooted_machine, CanBegin, IsDated}
use Rattle.zops.proofs.RestoredLaws.{restored}
use Rattle.zsnapshots.specs.declared.header.Header.{Header}
use Rattle.zsnapshots.specs.declared.fault.RowFault.{RowFault}
use Rattle.zsnapshots.specs.declared.fault.RowFault.TheVariants.{Memory}
use Rattle.zsnapshots.specs.Rows.{node_text}
use Rattle.zsnapshots.specs.States.{StateRow, ReadingView, Fits, spelled, sessions_of, nodes_of, replies_of, body_of}
use Rattle.zsnapshots.specs.States.{rows_of, rows_so_far, IsReadable, IsRootTaken, IsRootFault, NeverRefuses}
use Rattle.zsnapshots.specs.States.StateRow.{OfHeader, OfSession, OfNode, OfReply}
use Rattle.zsnapshots.specs.support.Reading.{IsReading, last_key}
use Rattle.zsnapshots.proofs.RowForms.{is_node_text}
use Rattle.zsnapshots.proofs.Keys.{entries-empty}
use Rattle.zsnapshots.proofs.Cached.{view}
use Rattle.zsnapshots.proofs.Next.{same_header, same_body}
use Rattle.zsnapshots.proofs.Reported.{one_row, only_memory, all_at}

module _ (h : Header) (root : Node) where
  abbrev begun : MachineState
  begun = rooted_machine root h.time h.zxid h.last h.limits

  nodes_is : nodes_of begun ≡ ([], root) ∷ []
  nodes_is = entries-insert paths_total finite.empty [] root ∙ ap (put path_cmp [] root) (entries-empty path_cmp)

  sessions_is : sessions_of begun ≡ []
  sessions_is = entries-empty nat_cmp

  replies_is : replies_of begun ≡ []
  replies_is = entries-empty nat_cmp

  pub root_kept : (path : Path) → path ≡ [] → CanBegin root h.time h.zxid h.last h.limits → IsReading h begun h.sessions h.nodes h.replies None path None
  root_kept path is can = record {
    last = refl;
    time = refl;
    zxid = refl;
    limits = refl;
    dated = all_insert (IsDated h.zxid h.time) finite.empty [] root (no_nodes (IsDated h.zxid h.time)) can.dated;
    root = (root, [], nodes_is);
    sessions_left = ap (λ es. length es + h.sessions) sessions_is ∙ zero-add h.sessions;
    nodes_left = ap (λ nodes. length (drop 1 nodes) + h.nodes) nodes_is ∙ zero-add h.nodes;
    replies_left = ap (λ es. length es + h.replies) replies_is ∙ zero-add h.replies;
    nodes_wait = λ more. ap (drop 1) nodes_is;
    replies_wait = λ more. replies_is;
    last_session = sym (ap last_key sessions_is);
    last_path = ap Some is ∙ sym (ap last_key nodes_is);
    last_client = sym (ap last_key replies_is);
  }

  root_body : body_of begun ≡ OfNode ([], root) ∷ []
  root_body = λ i. map OfNode (take 1 (nodes_is i))
      ++ (map OfSession (sessions_is i) ++ (map OfNode (drop 1 (nodes_is i)) ++ map OfReply (replies_is i)))

  pub root_taken : (bytes rest : List ℕ) → Fits (OfNode ([], root)) → bytes ≡ spelled (OfNode ([], root)) ++ rest
      → IsRootTaken h (view h begun) bytes rest
  root_taken bytes rest fits front =
      record { root = root; fits = fits; front = front; rows = ap (λ body. OfHeader h ∷ body) root_body }

-- the root of a readable state is never refused
module _ (h : Header) (w : MachineState) (x : StateRow) (after : List StateRow) (readable : IsReadable w)
    (rows : rows_of w ≡ OfHeader h ∷ (x ∷ after)) where
  own_root : Node
  own_root = (restored w.service.plain readable.settled w.applied readable.few).root

  x_is : x ≡ OfNode ([], own_root)
  unfolding own_root
  x_is =
      let own = restored w.service.plain readable.settled w.applied readable.few in
      let body = same_body w h (x ∷ after) rows in
      let first : List StateRow = map OfNode (take 1 (([], own.root) ∷ own.rows)) in
      let starts : body_of w ≡ OfNode ([], own.root) ∷ (map OfSession (sessions_of w) ++ (map OfNode own.rows ++ map OfReply (replies_of w))) =
      ap (λ nodes. map OfNode (take 1 nodes) ++ (map OfSession (sessions_of w) ++ (map OfNode (drop 1 nodes) ++ map OfReply (replies_of w))))
      own.listed in
      head x (OfNode ([], own.root)) after _ (sym body ∙ starts)
    where
      head : (a b : StateRow) (rest more : List StateRow) → a ∷ rest ≡ b ∷ more → a ≡ b
      head a b rest more is = cc

  able : CanBegin own_root h.time h.zxid h.last h.limits
  unfolding own_root
  able =
      let own = restored w.service.plain readable.settled w.applied readable.few in
      subst (λ (h : Header). CanBegin own.root h.time h.zxid h.last h.limits) (same_header w h (x ∷ after) rows) own.can_begin

  root_outcome : {V : Type 0} (bytes rest : List ℕ) → bytes ≡ spelled x ++ rest → (of : V → List ℕ) (new : V → ReadingView) (r : Result V RowFault) →
      IfOk r (λ v. IsRootTaken h (new v) bytes (of v)) → IfErr r (IsRootFault h bytes) →
      IfOk r (λ v. ◌≡◌ {A = List StateRow × List ℕ} (rows_so_far (new v), of v) ((OfHeader h ∷ []) ++ x ∷ [], rest))
      × IfErr r (λ fault. fault ≡ Memory)
  root_outcome bytes rest front of new (Ok v) taken reported =
      let fits = all_at (OfHeader h ∷ []) x after (rows_of w) readable.fit rows in
      let x_front = front ∙ ap (λ (t : StateRow). spelled t ++ rest) x_is in
      let one = one_row node_text is_node_text ([], taken.root) ([], own_root) (of v) rest bytes taken.fits
      (subst Fits x_is fits) taken.front x_front in
      let same = ap (λ (e : Path × Node). OfNode e) one.0 ∙ sym x_is in
      let new_rows = taken.rows ∙ ap (λ (y : StateRow). OfHeader h ∷ (y ∷ [])) same in
      ((λ i. (new_rows i, one.1 i)), tt)
  root_outcome bytes rest front of new (Err fault) taken reported =
      let fits = all_at (OfHeader h ∷ []) x after (rows_of w) readable.fit rows in
      let x_front = front ∙ ap (λ (t : StateRow). spelled t ++ rest) x_is in
      (tt, only_memory node_text is_node_text _ _ bytes ([], own_root) rest (subst Fits x_is fits) x_front refl able fault reported)

pub root_never_refuses : {V : Type 0} (h : Header) (bytes : List ℕ) (of : V → List ℕ) (new : V → ReadingView) (r : Result V RowFault) →
    IfOk r (λ v. IsRootTaken h (new v) bytes (of v)) → IfErr r (IsRootFault h bytes)
    → NeverRefuses (OfHeader h ∷ []) (λ v. (rows_so_far (new v), of v)) r bytes
root_never_refuses h bytes of new r taken reported w x after rest readable rows front = root_outcome h w x after readable
    rows bytes rest front of new r taken reported
