-- What a reader stores: each row that is put goes after those before it.
use Rattle.std.proofs.Common.{◌≡◌, ℕ, ◌-◌, ◌<◌, true, false, List, [], ◌∷◌, ◌++◌, length, length-append, drop, Option, Some, sym, ap, ◌∙◌, arith}
use Rattle.std.proofs.lemmas.Bool.{ltb-true, ltb-false}
use Rattle.std.specs.Ordering.{nat_cmp}
use Rattle.std.specs.Cmp.{nat_cmp_total}
use Rattle.zpath.specs.Grammar.{path_cmp}
use Rattle.ztree.specs.declared.node.Node.{Node}
use Rattle.ztree.specs.declared.session.Session.{Session}
use Rattle.ztree.specs.Tree.{Path}
use Rattle.zcalls.specs.declared.reply.Reply.{Reply}
use Rattle.zcalls.proofs.Bounds.{all_insert}
use Rattle.zstore.specs.Restored.{with_row, with_session_row}
use Rattle.zops.specs.Machine.{MachineState}
use Rattle.zops.specs.Restored.{with_plain, with_reply, IsDated}
use Rattle.zsnapshots.specs.declared.header.Header.{Header}
use Rattle.zsnapshots.specs.Rows.{kept_of}
use Rattle.zsnapshots.specs.States.{ReadingView, Fits, spelled, sessions_of, nodes_of, replies_of, below_of}
use Rattle.zsnapshots.specs.States.{wants_session, wants_node, wants_reply, IsAbove, IsTaken}
use Rattle.zsnapshots.specs.States.StateRow.{OfHeader, OfSession, OfNode, OfReply}
use Rattle.zsnapshots.specs.support.Reading.{IsReading, last_key}
use Rattle.zsnapshots.proofs.Keys.{entries-insert_above, last_key-push}
use Rattle.zsnapshots.proofs.Taken.{nodes-push, body-session, body-node, body-reply}

abbrev pub view : Header → MachineState → ReadingView
view h u = record { header = h; state = u }

module _ (h : Header) (u : MachineState) (sessions nodes replies : ℕ) (session : Option ℕ) (path : Path) (client : Option ℕ)
    (is : IsReading h u sessions nodes replies session path client) where
  pub sessions_some : wants_session (view h u) ≡ true → 0 < sessions
  sessions_some wanted =
      let less = ltb-true (length (sessions_of u)) h.sessions wanted in
      let left = is.sessions_left in
      omega (arith, less, left)

  pub sessions_none : wants_session (view h u) ≡ false → sessions ≡ 0
  sessions_none wanted =
      let less = ltb-false (length (sessions_of u)) h.sessions wanted in
      let left = is.sessions_left in
      omega (arith, less, left)

  pub nodes_some : wants_node (view h u) ≡ true → 0 < nodes
  nodes_some wanted =
      let less = ltb-true (length (below_of u)) h.nodes wanted in
      let left = is.nodes_left in
      omega (arith, less, left)

  pub nodes_none : wants_node (view h u) ≡ false → nodes ≡ 0
  nodes_none wanted =
      let less = ltb-false (length (below_of u)) h.nodes wanted in
      let left = is.nodes_left in
      omega (arith, less, left)

  pub replies_some : wants_reply (view h u) ≡ true → 0 < replies
  replies_some wanted =
      let less = ltb-true (length (replies_of u)) h.replies wanted in
      let left = is.replies_left in
      omega (arith, less, left)

  module _ (id : ℕ) (x : Session) (above : IsAbove nat_cmp (sessions_of u) id) (wanted : wants_session (view h u) ≡ true) where
    pub session_kept : IsReading h (with_plain u (with_session_row u.service.plain id x)) (sessions - 1) nodes replies (Some id) path client
    session_kept =
        let some = sessions_some wanted in
        let e = entries-insert_above nat_cmp_total u.service.plain.sessions id x above in
        let long = ap length e ∙ length-append (sessions_of u) ((id, x) ∷ []) in
        let left = is.sessions_left in
        record {
          last = is.last;
          time = is.time;
          zxid = is.zxid;
          limits = is.limits;
          dated = is.dated;
          root = is.root;
          sessions_left = omega (arith, long, left, some);
          nodes_left = is.nodes_left;
          replies_left = is.replies_left;
          nodes_wait = λ more. is.nodes_wait some;
          replies_wait = λ more. is.replies_wait (omega (arith, some));
          last_session = sym (ap last_key e ∙ last_key-push (sessions_of u) (id, x));
          last_path = is.last_path;
          last_client = is.last_client;
        }

    pub session_taken : (bytes rest : List ℕ) → Fits (OfSession (id, x)) → bytes ≡ spelled (OfSession (id, x)) ++ rest →
        IsTaken (view h u) (view h (with_plain u (with_session_row u.service.plain id x))) bytes rest
    session_taken bytes rest fits front =
        let some = sessions_some wanted in
        record {
          x = OfSession (id, x);
          wanted = wanted;
          fits = fits;
          front = front;
          rows = ap (λ body. OfHeader h ∷ body) (body-session u id x above (is.nodes_wait some) (is.replies_wait (omega (arith, some))));
        }

  module _ (p : Path) (n : Node) (above : IsAbove path_cmp (nodes_of u) p) (none : wants_session (view h u) ≡ false)
      (wanted : wants_node (view h u) ≡ true) where
    no_replies : replies_of u ≡ []
    no_replies = let some = nodes_some wanted in is.replies_wait (omega (arith, some))

    pub node_kept : IsDated u.service.plain.zxid u.service.plain.time n
        → IsReading h (with_plain u (with_row u.service.plain p n)) sessions (nodes - 1) replies session p client
    node_kept dated =
        let some = nodes_some wanted in
        let full = sessions_none none in
        let pushed = nodes-push u p n above in
        let all = pushed ∙ ap (λ nodes. nodes ++ (p, n) ∷ []) is.root.2 in
        let new_long = ap (λ nodes. length (drop 1 nodes)) all ∙ length-append is.root.1 ((p, n) ∷ []) in
        let old_long = ap (λ nodes. length (drop 1 nodes)) is.root.2 in
        let left = is.nodes_left in
        record {
          last = is.last;
          time = is.time;
          zxid = is.zxid;
          limits = is.limits;
          dated = all_insert (IsDated u.service.plain.zxid u.service.plain.time) u.service.plain.nodes p n is.dated dated;
          root = (is.root.0, is.root.1 ++ (p, n) ∷ [], all);
          sessions_left = is.sessions_left;
          nodes_left = omega (arith, new_long, old_long, left, some);
          replies_left = is.replies_left;
          nodes_wait = λ more. absurd (omega (arith, more, full));
          replies_wait = λ more. no_replies;
          last_session = is.last_session;
          last_path = sym (ap last_key pushed ∙ last_key-push (nodes_of u) (p, n));
          last_client = is.last_client;
        }

    pub node_taken : (bytes rest : List ℕ) → Fits (OfNode (p, n)) → bytes ≡ spelled (OfNode (p, n)) ++ rest →
        IsTaken (view h u) (view h (with_plain u (with_row u.service.plain p n))) bytes rest
    node_taken bytes rest fits front = record {
      x = OfNode (p, n);
      wanted = (none, wanted);
      fits = fits;
      front = front;
      rows = ap (λ body. OfHeader h ∷ body) (body-node u p n above is.root no_replies);
    }

  module _ (c number : ℕ) (reply : Reply) (above : IsAbove nat_cmp (replies_of u) c) (none : wants_session (view h u) ≡ false)
      (no_node : wants_node (view h u) ≡ false) (wanted : wants_reply (view h u) ≡ true) where
    pub reply_kept : IsReading h (with_reply u c number reply) sessions nodes (replies - 1) session path (Some c)
    reply_kept =
        let some = replies_some wanted in
        let full = sessions_none none in
        let full_nodes = nodes_none no_node in
        let e = entries-insert_above nat_cmp_total u.service.kept c (kept_of number reply) above in
        let long = ap length e ∙ length-append (replies_of u) ((c, kept_of number reply) ∷ []) in
        let left = is.replies_left in
        record {
          last = is.last;
          time = is.time;
          zxid = is.zxid;
          limits = is.limits;
          dated = is.dated;
          root = is.root;
          sessions_left = is.sessions_left;
          nodes_left = is.nodes_left;
          replies_left = omega (arith, long, left, some);
          nodes_wait = λ more. absurd (omega (arith, more, full));
          replies_wait = λ more. absurd (omega (arith, more, full, full_nodes));
          last_session = is.last_session;
          last_path = is.last_path;
          last_client = sym (ap last_key e ∙ last_key-push (replies_of u) (c, kept_of number reply));
        }

    pub reply_taken : (bytes rest : List ℕ) → Fits (OfReply (c, kept_of number reply)) → bytes ≡ spelled (OfReply (c, kept_of number reply)) ++ rest →
        IsTaken (view h u) (view h (with_reply u c number reply)) bytes rest
    reply_taken bytes rest fits front = record {
      x = OfReply (c, kept_of number reply);
      wanted = (none, (no_node, wanted));
      fits = fits;
      front = front;
      rows = ap (λ body. OfHeader h ∷ body) (body-reply u c number reply above);
    }
