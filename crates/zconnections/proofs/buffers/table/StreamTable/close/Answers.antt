use Rattle.std.proofs.Common.{[], ap, ◌∙◌}
use Rattle.zconnections.specs.declared.buffers.phase.Phase.TheVariants.{Closing}
use Rattle.zconnections.specs.buffers.Streams.{with_phase, with_bytes}
use Rattle.zconnections.proofs.buffers_lemmas.Changing.{changed-changed}
use Rattle.zconnections.proofs.buffers.table.StreamTable.close.Goals as goal

pub returns : goal.returns
returns c =
    let k = c.args.connection in
    c.set_phase.ensures ∙ ap (λ m. with_phase m k Closing) (c.swap-2.ensures.rest ∙ ap (with_bytes c.args.self.now k) c.new.ensures.items)
    ∙ changed-changed (λ s. record s { phase = Closing }) (λ s. record s { bytes = [] }) c.args.self.now k
