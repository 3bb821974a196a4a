use Rattle.std.proofs.Common.{ap, ◌∙◌, length, arith}
use Rattle.std.proofs.lemmas.List.{length-map}
use Rattle.std.specs.FinMap as finite
use Rattle.zsnapshots.specs.States.{KeysView}
use Rattle.zsnapshots.proofs.Written.{nodes_some}
use Rattle.zsnapshots.proofs.row_keys.RowKeys.write_header.Goals as goal

pub overflow_cast-header : goal.overflow_cast-header
overflow_cast-header c =
    let t = c.args.machine.now.state.service.plain in
    let keys = ap (λ (v : KeysView). v.sessions) c.self.view_is ∙ c.requires.keys.sessions in
    let long = ap length keys ∙ length-map (finite.entries t.sessions) (λ e. e.0) in
    let all = finite.len-entries t.sessions in
    let few = c.requires.keys.settled.lawful.few_sessions in
    let most = c.requires.keys.settled.lawful.allowed.few_sessions in
    omega (arith, c.len.ensures, long, all, few, most)

pub overflow_sub-header : goal.overflow_sub-header
overflow_sub-header c =
    let t = c.args.machine.now.state.service.plain in
    let keys = ap (λ (v : KeysView). v.paths) c.self.view_is ∙ c.requires.keys.paths in
    let long = ap length keys ∙ length-map (finite.entries t.nodes) (λ e. e.0) in
    let some = nodes_some t c.requires.keys.settled.lawful in
    omega (arith, c.len-2.ensures, long, some)

pub overflow_cast-header-2 : goal.overflow_cast-header-2
overflow_cast-header-2 c =
    let t = c.args.machine.now.state.service.plain in
    let keys = ap (λ (v : KeysView). v.paths) c.self.view_is ∙ c.requires.keys.paths in
    let long = ap length keys ∙ length-map (finite.entries t.nodes) (λ e. e.0) in
    let all = finite.len-entries t.nodes in
    let few = c.requires.keys.settled.lawful.few_nodes in
    let most = c.requires.keys.settled.lawful.allowed.few_nodes in
    omega (arith, c.len-2.ensures, long, all, few, most)
