use Rattle.std.proofs.Common.{[], ◌∷◌}
use Rattle.std.proofs.lemmas.Result.{on_ok_weaker}
use Rattle.zwatches.specs.declared.kind.Kind.TheVariants.{EachData}
use Rattle.zwatches.specs.Watches.{place}
use Rattle.zwatches.specs.Events.{above}
use Rattle.zwatches.proofs.Reporting.{adds_both}
use Rattle.zwatches.proofs.firing.report_each.Goals as goal

pub returns : goal.returns
returns c =
    let names = c.args.names.now in
    on_ok_weaker c.report_above.result
    (λ is. adds_both c.args.watches.now c.args.reported.now.items c.report_at.new.reported.items c.report_above.new.reported.items (place names EachData ∷ []) (above names)
    c.in_ok-report_at.ensures is)
    c.report_above.ensures
