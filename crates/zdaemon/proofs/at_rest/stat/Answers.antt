use Rattle.std.proofs.Common.{rules, ◌≡◌, ℕ, List, subst}
use Rattle.zsnapshots.specs.export.Texts.{stat_text}
use Rattle.zdaemon.proofs.at_rest.stat.Goals as goal

pub returns-in-Ok-write_all-clause-reported : goal.returns-in-Ok-write_all-clause-reported
returns-in-Ok-write_all-clause-reported g c =
    let stat = c.in-Ok.found.0 in
    let text : c.as_bytes.result.now ≡ stat_text stat = search rules in
    (stat, c.in-Ok.ensures.stat, subst (λ (bytes : List ℕ). g.K.Sink.took c.args.sink.now bytes c.write_all.new.sink) text c.in-Ok-write_all.ensures.took)
