-- One more row of a state comes after the rows before it.
use Rattle.std.proofs.Common.{◌≡◌, ℕ, List, [], ◌∷◌, ◌++◌, take, drop, map, append_assoc, append-nil, sym, ap, ◌∙◌}
use Rattle.std.proofs.lemmas.List.{map-append}
use Rattle.std.specs.Ordering.{nat_cmp}
use Rattle.std.specs.Cmp.{nat_cmp_total}
use Rattle.std.specs.FinMap as finite
use Rattle.zpath.specs.Grammar.{path_cmp}
use Rattle.ztree.specs.declared.node.Node.{Node}
use Rattle.ztree.specs.declared.session.Session.{Session}
use Rattle.ztree.specs.Tree.{Path}
use Rattle.ztree.proofs.Sorted.{paths_total}
use Rattle.zcalls.specs.declared.reply.Reply.{Reply}
use Rattle.zstore.specs.Restored.{with_row, with_session_row}
use Rattle.zops.specs.Machine.{MachineState}
use Rattle.zops.specs.Restored.{with_plain, with_reply}
use Rattle.zsnapshots.specs.Rows.{kept_of}
use Rattle.zsnapshots.specs.States.{StateRow, sessions_of, nodes_of, replies_of, below_of, body_of, IsAbove}
use Rattle.zsnapshots.specs.States.StateRow.{OfSession, OfNode, OfReply}
use Rattle.zsnapshots.specs.support.Reading.{HasRoot}
use Rattle.zsnapshots.proofs.Keys.{entries-insert_above}

module _ {X : Type 0} where
  -- what is put at the end of a list's end is put at the list's end
  push : (front new old : List X) (x : X) → new ≡ old ++ x ∷ [] → front ++ new ≡ (front ++ old) ++ x ∷ []
  push front new old x is = ap (λ more. front ++ more) is ∙ sym (append_assoc front old (x ∷ []))

  -- and where nothing follows
  push_first : (new old none : List X) (x : X) → none ≡ [] → new ≡ old ++ x ∷ [] → new ++ none ≡ (old ++ none) ++ x ∷ []
  push_first new old none x empty is =
      ap (λ more. new ++ more) empty ∙ append-nil new ∙ is
      ∙ ap (λ more. more ++ x ∷ []) (sym (append-nil old) ∙ ap (λ more. old ++ more) (sym empty))

pub body-session : (s : MachineState) (id : ℕ) (x : Session) → IsAbove nat_cmp (sessions_of s) id → below_of s ≡ [] → replies_of s ≡ [] →
    body_of (with_plain s (with_session_row s.service.plain id x)) ≡ body_of s ++ OfSession (id, x) ∷ []
body-session s id x above below replies =
    let it : StateRow = OfSession (id, x) in
    let more = map OfNode (below_of s) ++ map OfReply (replies_of s) in
    let none : more ≡ [] = λ i. map OfNode (below i) ++ map OfReply (replies i) in
    let new = map OfSession (finite.entries (finite.insert s.service.plain.sessions id x)) in
    let old = map OfSession (sessions_of s) in
    let is : new ≡ old ++ it ∷ [] =
    ap (map OfSession) (entries-insert_above nat_cmp_total s.service.plain.sessions id x above)
    ∙ map-append OfSession (sessions_of s) ((id, x) ∷ []) in
    push (map OfNode (take 1 (nodes_of s))) (new ++ more) (old ++ more) it (push_first new old more it none is)

pub nodes-push : (s : MachineState) (path : Path) (n : Node) → IsAbove path_cmp (nodes_of s) path
    → nodes_of (with_plain s (with_row s.service.plain path n)) ≡ nodes_of s ++ (path, n) ∷ []
nodes-push s path n above = entries-insert_above paths_total s.service.plain.nodes path n above

pub body-node : (s : MachineState) (path : Path) (n : Node) → IsAbove path_cmp (nodes_of s) path → HasRoot s → replies_of s ≡ [] →
    body_of (with_plain s (with_row s.service.plain path n)) ≡ body_of s ++ OfNode (path, n) ∷ []
body-node s path n above root replies =
    let it : StateRow = OfNode (path, n) in
    let e : Path × Node = ([], root.0) in
    let none : map OfReply (replies_of s) ≡ [] = ap (map OfReply) replies in
    let all : List (Path × Node) → List StateRow = λ nodes.
    map OfNode (take 1 nodes) ++ (map OfSession (sessions_of s) ++ (map OfNode (drop 1 nodes) ++ map OfReply (replies_of s))) in
    ap all (nodes-push s path n above ∙ ap (λ nodes. nodes ++ (path, n) ∷ []) root.2)
    ∙ push (map OfNode (e ∷ [])) _ _ it
    (push (map OfSession (sessions_of s)) _ _ it
    (push_first (map OfNode (root.1 ++ (path, n) ∷ [])) (map OfNode root.1) (map OfReply (replies_of s)) it none
    (map-append OfNode root.1 ((path, n) ∷ []))))
    ∙ ap (λ nodes. all nodes ++ it ∷ []) (sym root.2)

pub body-reply : (s : MachineState) (client number : ℕ) (reply : Reply) → IsAbove nat_cmp (replies_of s) client →
    body_of (with_reply s client number reply) ≡ body_of s ++ OfReply (client, kept_of number reply) ∷ []
body-reply s client number reply above =
    let it : StateRow = OfReply (client, kept_of number reply) in
    let kept = kept_of number reply in
    push (map OfNode (take 1 (nodes_of s))) _ _ it
    (push (map OfSession (sessions_of s)) _ _ it
    (push (map OfNode (below_of s)) _ _ it
    (ap (map OfReply) (entries-insert_above nat_cmp_total s.service.kept client kept above)
    ∙ map-append OfReply (replies_of s) ((client, kept) ∷ []))))
