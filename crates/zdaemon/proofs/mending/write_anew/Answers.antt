use Rattle.std.proofs.Common.{rules, ◌≡◌, Bool, true, sym, subst}
use Rattle.zjournal.specs.file.File.{seen_of, had_failed_of, MayLeaveOf}
use Rattle.zdurable.specs.DurableFront.{disk_of}
use Rattle.zdaemon.specs.Folder.{IsMended}
use Rattle.zdaemon.proofs.mending.write_anew.Goals as goal

pub returns-clause-mended : goal.returns-clause-mended
returns-clause-mended g c =
    let had : had_failed_of (disk_of c.args.kept.now) ≡ true = search rules in
    subst (λ (b : Bool). IsMended (seen_of {R = g.row.R.Denot}) (MayLeaveOf {R = g.row.R.Denot}) b c.args.kept.now c.compact.new.self) (sym had)
    (record {
      taken = c.in_default.ensures.taken;
      measured = c.in_default.ensures.measured;
      keeps = λ servers batches t serving. c.in_default.ensures.kept servers batches t c.requires.0 serving;
    })
