use Rattle.std.proofs.Common.{◌≡◌, None, Some, sym, ap, ◌∙◌}
use Rattle.std.specs.FinMap.{get}
use Rattle.std.specs.Option.{option_map, option_copied}
use Rattle.zconnections.specs.buffers.Streams.{StreamView}
use Rattle.ztree.proofs.Entries.{get-entries}
use Rattle.zconnections.proofs.buffers.table.StreamTable.phase.Goals as goal

pub returns-in_err-stream : goal.returns-in_err-stream
returns-in_err-stream c =
    let k = c.args.connection in
    let none : get c.args.self.now k ≡ None =
    ap (λ m. get m k) (sym c.self.view_is) ∙ get-entries c.self.inside.rows.entries k ∙ sym c.get.ensures.value ∙ ap option_copied c.in_err-stream.was in
    c.from_residual.ensures ∙ sym (ap (option_map (λ (s : StreamView). s.phase)) none)

pub returns : goal.returns
returns c =
    let k = c.args.connection in
    let there : get c.args.self.now k ≡ Some c.in_ok-stream.stream.now =
    ap (λ m. get m k) (sym c.self.view_is) ∙ get-entries c.self.inside.rows.entries k ∙ sym c.get.ensures.value ∙ ap option_copied c.in_ok-stream.was in
    ap (λ (s : StreamView). Some s.phase) c.stream.view_is ∙ sym (ap (option_map (λ (s : StreamView). s.phase)) there)
