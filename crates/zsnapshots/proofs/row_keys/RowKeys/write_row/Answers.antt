use Rattle.std.proofs.Common.{◌≡◌, ◌+◌, ◌-◌, ◌<◌, length, length-drop, ap, ◌∙◌, arith}
use Rattle.std.proofs.lemmas.List.{length-map}
use Rattle.zsnapshots.specs.States.{KeysView, sessions_of, nodes_of, below_of, written_of}
use Rattle.zsnapshots.specs.States.StateRow.{OfSession, OfNode, OfReply}
use Rattle.zsnapshots.proofs.Written.{row_of, header_row, root_place, session_place, node_place, reply_place, nodes_some}
use Rattle.zsnapshots.specs.States.{replies_of}
use Rattle.zsnapshots.proofs.row_keys.RowKeys.write_row.Goals as goal

pub overflow_sub-below : goal.overflow_sub-below
overflow_sub-below c =
    let t = c.args.machine.now.state.service.plain in
    let some = nodes_some t c.requires.keys.settled.lawful in
    let keys = ap (λ (v : KeysView). v.paths) c.self.view_is ∙ c.requires.keys.paths in
    let long = ap length keys ∙ length-map (nodes_of c.args.machine.now.state) (λ e. e.0) in
    omega (arith, c.len-below.ensures, long, some)

pub write_node-requires-clause-within : goal.write_node-requires-clause-within
write_node-requires-clause-within c =
    nodes_some c.args.machine.now.state.service.plain c.requires.keys.settled.lawful

pub returns-then-number-eq0-clause-row : goal.returns-then-number-eq0-clause-row
returns-then-number-eq0-clause-row c = λ yes_more.
    header_row (written_of c.args.self.now.is_alone c.args.machine.now.state) c.args.number c.args.out.now.items
    c.write_header.new.out.items c.if-number-eq0.true c.in_ok-write_header.ensures.ok c.in_ok-write_header.ensures.fits

pub returns-then-number-eq1-clause-row : goal.returns-then-number-eq1-clause-row
returns-then-number-eq1-clause-row c = λ yes_more.
    let s = written_of c.args.self.now.is_alone c.args.machine.now.state in
    row_of s OfNode (nodes_of s) 0 c.args.number c.args.out.now.items c.write_node.new.out.items
    (λ x at. root_place s c.args.number x c.if-number-eq1.true at) c.in_ok-write_node.ensures.ok

pub returns-then-behind-sessions-clause-row : goal.returns-then-behind-sessions-clause-row
returns-then-behind-sessions-clause-row c = λ yes_more.
    let s = written_of c.args.self.now.is_alone c.args.machine.now.state in
    let n = c.args.number in
    let some = nodes_some s.service.plain c.requires.keys.settled.lawful in
    let keys = ap (λ (v : KeysView). v.sessions) c.self.view_is ∙ c.requires.keys.sessions in
    let long_sessions = ap length keys ∙ length-map (sessions_of s) (λ e. e.0) in
    let i = n - 2 in
    let within : i < length (sessions_of s) = omega (arith, c.if-behind-sessions.true, c.len-sessions.ensures, long_sessions) in
    let is : n ≡ i + 2 = omega (arith, c.if-number-eq0.false, c.if-number-eq1.false) in
    row_of s OfSession (sessions_of s) i n c.args.out.now.items c.write_session.new.out.items
    (λ x at. session_place s i n x some within is at) c.in_ok-write_session.ensures.ok

pub returns-then-behind-below-clause-row : goal.returns-then-behind-below-clause-row
returns-then-behind-below-clause-row c = λ yes_more.
    let s = written_of c.args.self.now.is_alone c.args.machine.now.state in
    let n = c.args.number in
    let some = nodes_some s.service.plain c.requires.keys.settled.lawful in
    let session_keys = ap (λ (v : KeysView). v.sessions) c.self.view_is ∙ c.requires.keys.sessions in
    let path_keys = ap (λ (v : KeysView). v.paths) c.self.view_is ∙ c.requires.keys.paths in
    let long_sessions = ap length session_keys ∙ length-map (sessions_of s) (λ e. e.0) in
    let long_paths = ap length path_keys ∙ length-map (nodes_of s) (λ e. e.0) in
    let long_below = length-drop 1 (nodes_of s) in
    let i = n - 2 - c.len-sessions.result in
    let after = c.write_node-then-behind-below.new.out.items in
    let within : i < length (below_of s) = omega (arith, c.if-behind-below.true, c.len-below.ensures, long_paths, long_below) in
    let is : n ≡ length (sessions_of s) + i + 2 =
    omega (arith, c.if-number-eq0.false, c.if-number-eq1.false, c.if-behind-sessions.false, c.len-sessions.ensures, long_sessions) in
    row_of s OfNode (nodes_of s) (i + 1) n c.args.out.now.items after (λ x at. node_place s i n x some within is at)
    c.in_ok-write_node-2.ensures.ok

pub returns-then-behind-replies-clause-row : goal.returns-then-behind-replies-clause-row
returns-then-behind-replies-clause-row c = λ yes_more.
    let s = written_of c.args.self.now.is_alone c.args.machine.now.state in
    let n = c.args.number in
    let some = nodes_some s.service.plain c.requires.keys.settled.lawful in
    let session_keys = ap (λ (v : KeysView). v.sessions) c.self.view_is ∙ c.requires.keys.sessions in
    let path_keys = ap (λ (v : KeysView). v.paths) c.self.view_is ∙ c.requires.keys.paths in
    let long_sessions = ap length session_keys ∙ length-map (sessions_of s) (λ e. e.0) in
    let long_paths = ap length path_keys ∙ length-map (nodes_of s) (λ e. e.0) in
    let long_below = length-drop 1 (nodes_of s) in
    let below = c.len-below.result - 1 in
    let i = n - 2 - c.len-sessions.result - below in
    let is : n ≡ length (sessions_of s) + (length (below_of s) + i) + 2 =
    omega (
      arith,
      c.if-number-eq0.false,
      c.if-number-eq1.false,
      c.if-behind-sessions.false,
      c.if-behind-below.false,
      c.len-sessions.ensures,
      c.len-below.ensures,
      long_sessions,
      long_paths,
      long_below,
      some,
    ) in
    row_of s OfReply (replies_of s) i n c.args.out.now.items c.write_reply.new.out.items
    (λ x at. reply_place s i n x some is at) c.in_ok-write_reply.ensures.ok
