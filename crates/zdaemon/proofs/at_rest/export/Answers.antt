use Rattle.std.proofs.Common.{subst}
use Rattle.zsnapshots.specs.export.Export.{export_text}
use Rattle.zsnapshots.specs.export.Laws.{HasLines}
use Rattle.zdaemon.proofs.at_rest.export.Goals as goal

pub returns-in-Ok-write_export-clause-exported : goal.returns-in-Ok-write_export-clause-exported
returns-in-Ok-write_export-clause-exported g c =
    let wrote = c.in-Ok-write_export.ensures in
    let read = subst (λ t. HasLines t × g.K.Sink.took c.args.sink.now (export_text t) c.write_export.new.sink) c.in-Ok-machine.ensures.tree (wrote.has_lines, wrote.took) in
    (c.in-Ok.it.found.tree.tree, c.in-Ok.ensures.keeps, read.0, read.1)
