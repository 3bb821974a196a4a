-- The row of a readable state that comes after the rows before it: of which kind it is, that it is
-- in order, and that it can be put.
use Rattle.std.proofs.Common.{◌≡◌, ℕ, ◌<◌, true, List, [], ◌∷◌, ◌++◌, length, length-append, map, take, drop}
use Rattle.std.proofs.Common.{append_assoc, append-nil, Option, Some, None, refl, sym, ap, subst, ◌∙◌, arith}
use lib.Dec.{T}
use Rattle.std.proofs.lemmas.List.{map-append, length-map, append_cancel_left, nil_from_length, take-append-drop}
use Rattle.std.specs.Prelude.{is_some}
use Rattle.std.specs.Ordering.{nat_cmp}
use Rattle.std.specs.Cmp.{nat_cmp_total}
use Rattle.std.specs.FinMap as finite
use Rattle.std.specs.FinMap.{is_sorted, entries_sorted, nat_cmp-IsAntisymmetric}
use Rattle.zpath.specs.Grammar.{path_cmp}
use Rattle.ztree.specs.declared.node.Node.{Node}
use Rattle.ztree.specs.declared.session.Session.{Session}
use Rattle.ztree.specs.Tree.{Path, has_node}
use Rattle.ztree.proofs.Sorted.{paths_total, same_path}
use Rattle.zcalls.specs.Cached.{Cached}
use Rattle.zstore.proofs.Left.{left_at}
use Rattle.zops.specs.Machine.{MachineState}
use Rattle.zops.specs.Restored.{CanPutGranted, CanPutNode}
use Rattle.zops.proofs.RestoredLaws.{granted_can, bounded_can}
use Rattle.zsnapshots.specs.declared.header.Header.{Header}
use Rattle.zsnapshots.specs.States.{StateRow, head_of, sessions_of, nodes_of, replies_of, below_of, body_of, rows_of, IsReadable, IsAbove}
use Rattle.zsnapshots.specs.States.StateRow.{OfHeader, OfSession, OfNode, OfReply}
use Rattle.zsnapshots.specs.support.Reading.{HasRoot}
use Rattle.zsnapshots.proofs.Keys.{next_above}

-- ---- rows by kind

abbrev pub session_in : StateRow → Option (ℕ × Session)
session_in (OfHeader h) = None
session_in (OfSession e) = Some e
session_in (OfNode e) = None
session_in (OfReply e) = None

abbrev pub node_in : StateRow → Option (Path × Node)
node_in (OfHeader h) = None
node_in (OfSession e) = None
node_in (OfNode e) = Some e
node_in (OfReply e) = None

abbrev pub reply_in : StateRow → Option (ℕ × Cached)
reply_in (OfHeader h) = None
reply_in (OfSession e) = None
reply_in (OfNode e) = None
reply_in (OfReply e) = Some e

module _ {X Y : Type 0} (f : X → Option Y) where
  abbrev put_found : Option Y → List Y → List Y
  put_found None ys = ys
  put_found (Some y) ys = y ∷ ys

  -- the items of a kind
  abbrev pub of_kind : List X → List Y
  of_kind [] = []
  of_kind (x ∷ xs) = put_found (f x) (of_kind xs)

  put_found-append : (o : Option Y) (ys zs : List Y) → put_found o (ys ++ zs) ≡ put_found o ys ++ zs
  put_found-append None ys zs = refl
  put_found-append (Some y) ys zs = refl

  pub of_kind-append : (xs ys : List X) → of_kind (xs ++ ys) ≡ of_kind xs ++ of_kind ys
  of_kind-append [] ys = refl
  of_kind-append (x ∷ xs) ys = ap (put_found (f x)) (of_kind-append xs ys) ∙ put_found-append (f x) (of_kind xs) (of_kind ys)

  all_of : {Z : Type 0} (g : Z → X) (to : Z → Y) → ((z : Z) → f (g z) ≡ Some (to z)) → (zs : List Z) → of_kind (map g zs) ≡ map to zs
  all_of g to is [] = refl
  all_of g to is (z ∷ zs) = (λ i. put_found (is z i) (all_of g to is zs i))

  none_of : {Z : Type 0} (g : Z → X) → ((z : Z) → f (g z) ≡ None) → (zs : List Z) → of_kind (map g zs) ≡ []
  none_of g is [] = refl
  none_of g is (z ∷ zs) = (λ i. put_found (is z i) (none_of g is zs i))

same_map : {X : Type 0} (xs : List X) → map (λ x. x) xs ≡ xs
same_map [] = refl
same_map (x ∷ xs) = ap (λ xs. x ∷ xs) (same_map xs)

-- the rows of a kind are the entries of that kind
pub body-sessions : (s : MachineState) → of_kind session_in (body_of s) ≡ sessions_of s
body-sessions s =
    of_kind-append session_in (map OfNode (take 1 (nodes_of s))) _
    ∙ ap (λ front. front ++ of_kind session_in (map OfSession (sessions_of s) ++ (map OfNode (below_of s) ++ map OfReply (replies_of s))))
    (none_of session_in OfNode (λ e. refl) (take 1 (nodes_of s)))
    ∙ of_kind-append session_in (map OfSession (sessions_of s)) _
    ∙ (λ i. all i ++ rest i)
    ∙ append-nil (sessions_of s)
  where
    all : of_kind session_in (map OfSession (sessions_of s)) ≡ sessions_of s
    all = all_of session_in OfSession (λ e. e) (λ e. refl) (sessions_of s) ∙ same_map (sessions_of s)

    rest : of_kind session_in (map OfNode (below_of s) ++ map OfReply (replies_of s)) ≡ []
    rest = of_kind-append session_in (map OfNode (below_of s)) (map OfReply (replies_of s))
        ∙ (λ i. none_of session_in OfNode (λ e. refl) (below_of s) i ++ none_of session_in OfReply (λ e. refl) (replies_of s) i)

pub body-nodes : (s : MachineState) → of_kind node_in (body_of s) ≡ nodes_of s
body-nodes s =
    of_kind-append node_in (map OfNode (take 1 (nodes_of s))) _
    ∙ (λ i. first i ++ rest i)
    ∙ take-append-drop 1 (nodes_of s)
  where
    first : of_kind node_in (map OfNode (take 1 (nodes_of s))) ≡ take 1 (nodes_of s)
    first = all_of node_in OfNode (λ e. e) (λ e. refl) (take 1 (nodes_of s)) ∙ same_map (take 1 (nodes_of s))

    below : of_kind node_in (map OfNode (below_of s)) ≡ below_of s
    below = all_of node_in OfNode (λ e. e) (λ e. refl) (below_of s) ∙ same_map (below_of s)

    rest : of_kind node_in (map OfSession (sessions_of s) ++ (map OfNode (below_of s) ++ map OfReply (replies_of s))) ≡ below_of s
    rest = of_kind-append node_in (map OfSession (sessions_of s)) _
        ∙ (λ i. none_of node_in OfSession (λ e. refl) (sessions_of s) i ++ of_kind-append node_in (map OfNode (below_of s))
        (map OfReply (replies_of s)) i)
        ∙ (λ i. below i ++ none_of node_in OfReply (λ e. refl) (replies_of s) i)
        ∙ append-nil (below_of s)

pub body-replies : (s : MachineState) → of_kind reply_in (body_of s) ≡ replies_of s
body-replies s =
    of_kind-append reply_in (map OfNode (take 1 (nodes_of s))) _
    ∙ (λ i. none_of reply_in OfNode (λ e. refl) (take 1 (nodes_of s)) i ++ of_kind-append reply_in (map OfSession (sessions_of s))
    (map OfNode (below_of s) ++ map OfReply (replies_of s)) i)
    ∙ (λ i. none_of reply_in OfSession (λ e. refl) (sessions_of s) i ++ of_kind-append reply_in (map OfNode (below_of s))
    (map OfReply (replies_of s)) i)
    ∙ (λ i. none_of reply_in OfNode (λ e. refl) (below_of s) i ++ all i)
  where
    all : of_kind reply_in (map OfReply (replies_of s)) ≡ replies_of s
    all = all_of reply_in OfReply (λ e. e) (λ e. refl) (replies_of s) ∙ same_map (replies_of s)

-- ---- what is left of a state

module _ (w s : MachineState) (more : List StateRow) (body : body_of w ≡ body_of s ++ more) where
  pub sessions_left : sessions_of w ≡ sessions_of s ++ of_kind session_in more
  sessions_left =
      sym (body-sessions w) ∙ ap (of_kind session_in) body ∙ of_kind-append session_in (body_of s) more
      ∙ ap (λ front. front ++ of_kind session_in more) (body-sessions s)

  pub nodes_left : nodes_of w ≡ nodes_of s ++ of_kind node_in more
  nodes_left =
      sym (body-nodes w) ∙ ap (of_kind node_in) body ∙ of_kind-append node_in (body_of s) more
      ∙ ap (λ front. front ++ of_kind node_in more) (body-nodes s)

  pub replies_left : replies_of w ≡ replies_of s ++ of_kind reply_in more
  replies_left =
      sym (body-replies w) ∙ ap (of_kind reply_in) body ∙ of_kind-append reply_in (body_of s) more
      ∙ ap (λ front. front ++ of_kind reply_in more) (body-replies s)

-- the first of these is the first of all
first_of : {Z : Type 0} (g : Z → StateRow) (zs : List Z) (behind after : List StateRow) (x : StateRow) → 0 < length zs
    → map g zs ++ behind ≡ x ∷ after →
    (e : Z) × (more : List Z) × (zs ≡ e ∷ more) × (x ≡ g e)
first_of g [] behind after x some is = absurd (omega (arith, some))
first_of g (e ∷ zs) behind after x some is = (e, zs, refl, let same : g e ≡ x = cc in sym same)

some_left : {Z : Type 0} (all front rest : List Z) → all ≡ front ++ rest → length front < length all → 0 < length rest
some_left all front rest is less = let both = ap length is ∙ length-append front rest in omega (arith, both, less)

none_left : {Z : Type 0} (all front rest : List Z) → all ≡ front ++ rest → length front ≡ length all → rest ≡ []
none_left all front rest is same = let both = ap length is ∙ length-append front rest in nil_from_length rest (omega (arith, both, same))

module _ (w s : MachineState) (x : StateRow) (after : List StateRow) (body : body_of w ≡ body_of s ++ x ∷ after) (root : HasRoot s) where
  same_first : take 1 (nodes_of w) ≡ take 1 (nodes_of s)
  same_first =
      ap (take 1) (nodes_left w s (x ∷ after) body) ∙ ap (λ nodes. take 1 (nodes ++ of_kind node_in (x ∷ after))) root.2 ∙ sym (ap (take 1) root.2)

  below_left : below_of w ≡ below_of s ++ of_kind node_in (x ∷ after)
  below_left =
      ap (drop 1) (nodes_left w s (x ∷ after) body) ∙ ap (λ nodes. drop 1 (nodes ++ of_kind node_in (x ∷ after))) root.2
      ∙ sym (ap (λ nodes. drop 1 nodes ++ of_kind node_in (x ∷ after)) root.2)

  abbrev A : List StateRow
  A = map OfNode (take 1 (nodes_of s))

  abbrev B : List StateRow
  B = map OfSession (sessions_of s)

  abbrev C : List StateRow
  C = map OfNode (below_of s)

  abbrev D : List StateRow
  D = map OfReply (replies_of s)

  behind_sessions : below_of s ≡ [] → replies_of s ≡ [] → map OfSession (of_kind session_in (x ∷ after))
      ++ (map OfNode (below_of w) ++ map OfReply (replies_of w)) ≡ x ∷ after
  behind_sessions none_below none_kept =
      let more = of_kind session_in (x ∷ after) in
      let Z = map OfNode (below_of w) ++ map OfReply (replies_of w) in
      let none : C ++ D ≡ [] = λ i. map OfNode (none_below i) ++ map OfReply (none_kept i) in
      let lhs : body_of w ≡ A ++ (B ++ (map OfSession more ++ Z)) =
      (λ i. map OfNode (same_first i) ++ (map OfSession (sessions_left w s (x ∷ after) body i) ++ Z))
      ∙ ap (λ m. A ++ m) (ap (λ m. m ++ Z) (map-append OfSession (sessions_of s) more) ∙ append_assoc B (map OfSession more) Z) in
      let rhs : body_of s ++ x ∷ after ≡ A ++ (B ++ x ∷ after) =
      append_assoc A (B ++ (C ++ D)) (x ∷ after) ∙ ap (λ m. A ++ m) (append_assoc B (C ++ D) (x ∷ after) ∙ ap (λ m. B ++ (m ++ x ∷ after)) none) in
      append_cancel_left B _ _ (append_cancel_left A _ _ (sym lhs ∙ body ∙ rhs))

  behind_nodes : sessions_of w ≡ sessions_of s → replies_of s ≡ [] → map OfNode (of_kind node_in (x ∷ after)) ++ map OfReply (replies_of w)
      ≡ x ∷ after
  behind_nodes same none_kept =
      let more = of_kind node_in (x ∷ after) in
      let Z = map OfReply (replies_of w) in
      let none : D ≡ [] = ap (map OfReply) none_kept in
      let lhs : body_of w ≡ A ++ (B ++ (C ++ (map OfNode more ++ Z))) =
      (λ i. map OfNode (same_first i) ++ (map OfSession (same i) ++ (map OfNode (below_left i) ++ Z)))
      ∙ ap (λ m. A ++ (B ++ m)) (ap (λ m. m ++ Z) (map-append OfNode (below_of s) more) ∙ append_assoc C (map OfNode more) Z) in
      let rhs : body_of s ++ x ∷ after ≡ A ++ (B ++ (C ++ x ∷ after)) =
      append_assoc A (B ++ (C ++ D)) (x ∷ after)
      ∙ ap (λ m. A ++ m) (append_assoc B (C ++ D) (x ∷ after) ∙ ap (λ m. B ++ m) (append_assoc C D (x ∷ after)
      ∙ ap (λ m. C ++ (m ++ x ∷ after)) none)) in
      append_cancel_left C _ _ (append_cancel_left B _ _ (append_cancel_left A _ _ (sym lhs ∙ body ∙ rhs)))

  behind_replies : sessions_of w ≡ sessions_of s → below_of w ≡ below_of s → map OfReply (of_kind reply_in (x ∷ after)) ≡ x ∷ after
  behind_replies same same_below =
      let more = of_kind reply_in (x ∷ after) in
      let lhs : body_of w ≡ A ++ (B ++ (C ++ (D ++ map OfReply more))) =
      (λ i. map OfNode (same_first i) ++ (map OfSession (same i) ++ (map OfNode (same_below i) ++ map OfReply (replies_left w s (x ∷ after) body i))))
      ∙ ap (λ m. A ++ (B ++ (C ++ m))) (map-append OfReply (replies_of s) more) in
      let rhs : body_of s ++ x ∷ after ≡ A ++ (B ++ (C ++ (D ++ x ∷ after))) =
      append_assoc A (B ++ (C ++ D)) (x ∷ after)
      ∙ ap (λ m. A ++ m) (append_assoc B (C ++ D) (x ∷ after) ∙ ap (λ m. B ++ m) (append_assoc C D (x ∷ after))) in
      append_cancel_left D _ _ (append_cancel_left C _ _ (append_cancel_left B _ _ (append_cancel_left A _ _ (sym lhs ∙ body ∙ rhs))))

  pub same_sessions : length (sessions_of s) ≡ length (sessions_of w) → sessions_of w ≡ sessions_of s
  same_sessions same =
      let is = sessions_left w s (x ∷ after) body in
      is ∙ ap (λ more. sessions_of s ++ more) (none_left (sessions_of w) (sessions_of s) (of_kind session_in (x ∷ after)) is same)
      ∙ append-nil (sessions_of s)

  same_below : length (below_of s) ≡ length (below_of w) → below_of w ≡ below_of s
  same_below same =
      below_left ∙ ap (λ more. below_of s ++ more) (none_left (below_of w) (below_of s) (of_kind node_in (x ∷ after)) below_left same)
      ∙ append-nil (below_of s)

  -- where all sessions and nodes were read, a cached reply is left
  pub more_replies : length (sessions_of s) ≡ length (sessions_of w) → length (below_of s) ≡ length (below_of w)
      → length (replies_of s) < length (replies_of w)
  more_replies same same_nodes =
      let is = ap length (replies_left w s (x ∷ after) body) ∙ length-append (replies_of s) (of_kind reply_in (x ∷ after)) in
      let one = ap length (behind_replies (same_sessions same) (same_below same_nodes)) in
      let mapped = length-map (of_kind reply_in (x ∷ after)) OfReply in
      omega (arith, is, one, mapped)

  -- a session comes next
  pub next_session : below_of s ≡ [] → replies_of s ≡ [] → length (sessions_of s) < length (sessions_of w) →
      (e : ℕ × Session) × (more : List (ℕ × Session)) × (sessions_of w ≡ sessions_of s ++ e ∷ more) × (x ≡ OfSession e)
  next_session none_below none_kept less =
      let is = sessions_left w s (x ∷ after) body in
      let f = first_of OfSession (of_kind session_in (x ∷ after)) _ after x (some_left (sessions_of w) (sessions_of s)
      (of_kind session_in (x ∷ after)) is less) (behind_sessions none_below none_kept) in
      (f.0, f.1, is ∙ ap (λ more. sessions_of s ++ more) f.2, f.3)

  -- a node comes next
  pub next_node : length (sessions_of s) ≡ length (sessions_of w) → replies_of s ≡ [] → length (below_of s) < length (below_of w) →
      (e : Path × Node) × (more : List (Path × Node)) × (nodes_of w ≡ nodes_of s ++ e ∷ more) × (x ≡ OfNode e)
  next_node same none_kept less =
      let f = first_of OfNode (of_kind node_in (x ∷ after)) _ after x
      (some_left (below_of w) (below_of s) (of_kind node_in (x ∷ after)) below_left less) (behind_nodes (same_sessions same) none_kept) in
      (f.0, f.1, nodes_left w s (x ∷ after) body ∙ ap (λ more. nodes_of s ++ more) f.2, f.3)

  -- a cached reply comes next
  pub next_reply : length (sessions_of s) ≡ length (sessions_of w) → length (below_of s) ≡ length (below_of w)
      → length (replies_of s) < length (replies_of w) →
      (e : ℕ × Cached) × (more : List (ℕ × Cached)) × (replies_of w ≡ replies_of s ++ e ∷ more) × (x ≡ OfReply e)
  next_reply same same_nodes less =
      let is = replies_left w s (x ∷ after) body in
      let f = first_of OfReply (of_kind reply_in (x ∷ after)) [] after x (some_left (replies_of w) (replies_of s)
      (of_kind reply_in (x ∷ after)) is less)
      (append-nil (map OfReply (of_kind reply_in (x ∷ after))) ∙ behind_replies (same_sessions same) (same_below same_nodes)) in
      (f.0, f.1, is ∙ ap (λ more. replies_of s ++ more) f.2, f.3)

module _ (w s : MachineState) (readable : IsReadable w) where
  -- it is in order, and can be put
  pub session_next : (e : ℕ × Session) (more : List (ℕ × Session)) → sessions_of w ≡ sessions_of s ++ e ∷ more →
      s.service.plain.time ≡ w.service.plain.time → s.service.plain.zxid ≡ w.service.plain.zxid →
      s.service.plain.limits ≡ w.service.plain.limits →
      IsAbove nat_cmp (sessions_of s) e.0 × CanPutGranted s.service.plain e.0 e.1
  session_next e more is time zxid limits = (
    next_above nat_cmp (sessions_of s) more e (subst (λ es. T (is_sorted nat_cmp es)) is (entries_sorted w.service.plain.sessions)),
    granted_can w.service.plain readable.settled s.service.plain e more time zxid limits
        (left_at nat_cmp_total nat_cmp-IsAntisymmetric w.service.plain.sessions s.service.plain.sessions (e ∷ more) is),
  )

  pub node_next : (e : Path × Node) (more : List (Path × Node)) → nodes_of w ≡ nodes_of s ++ e ∷ more → sessions_of w ≡ sessions_of s → HasRoot s →
      s.service.plain.time ≡ w.service.plain.time → s.service.plain.zxid ≡ w.service.plain.zxid →
      s.service.plain.limits ≡ w.service.plain.limits →
      IsAbove path_cmp (nodes_of s) e.0 × CanPutNode s.service.plain e.0 e.1
  node_next e more is same root time zxid limits =
      let there : has_node s.service.plain.nodes [] ≡ true =
      ap (λ o. is_some o) (finite.get-entries s.service.plain.nodes []) ∙ ap (λ es. is_some (finite.find path_cmp [] es)) root.2 in (
        next_above path_cmp (nodes_of s) more e (subst (λ es. T (is_sorted path_cmp es)) is (entries_sorted w.service.plain.nodes)),
        bounded_can w.service.plain readable.settled s.service.plain e more
            (finite.same_entries_map s.service.plain.sessions w.service.plain.sessions (sym same)) time zxid limits there
            (left_at paths_total same_path w.service.plain.nodes s.service.plain.nodes (e ∷ more) is),
      )

  pub reply_next : (e : ℕ × Cached) (more : List (ℕ × Cached)) → replies_of w ≡ replies_of s ++ e ∷ more → IsAbove nat_cmp (replies_of s) e.0
  reply_next e more is = next_above nat_cmp (replies_of s) more e (subst (λ es. T (is_sorted nat_cmp es)) is (entries_sorted w.service.kept))

-- the rows after the header, and the header
pub same_header : (w : MachineState) (h : Header) (rows : List StateRow) → rows_of w ≡ OfHeader h ∷ rows → head_of w ≡ h
same_header w h rows is = cc

pub same_body : (w : MachineState) (h : Header) (rows : List StateRow) → rows_of w ≡ OfHeader h ∷ rows → body_of w ≡ rows
same_body w h rows is = ap (drop 1) is
