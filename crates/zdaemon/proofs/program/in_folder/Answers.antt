use Rattle.std.proofs.Common.{sym, subst}
use Rattle.zjournal.specs.declared.file.device.FileDevice.{FileDevice}
use Rattle.zjournal.specs.file.File.{seen_of, had_failed_of, MayLeaveOf}
use Rattle.zdurable.specs.declared.kept.DurableFront.{DurableFront}
use Rattle.zdurable.specs.DurableFront.{disk_of}
use Rattle.zdaemon.specs.Folder.{IsGood, IsMended}
use Rattle.zdaemon.proofs.program.in_folder.Goals as goal

pub returns-in-Ok-clause-good : goal.returns-in-Ok-clause-good
returns-in-Ok-clause-good g c =
    subst (λ (kept : DurableFront (FileDevice g.row.R.Denot)). IsGood seen_of MayLeaveOf kept) (sym c.new.ensures.kept) c.in_ok-write_anew-in-Ok.ensures.good

pub returns-in-Ok-clause-begins : goal.returns-in-Ok-clause-begins
returns-in-Ok-clause-begins g c =
    let first = c.in-Ok.opened.kept in
    let serving = c.in-Ok.ensures.serving in record {
      device = c.in_ok-device.device;
      opened = (c.in_ok-device.ensures.mode, c.in_ok-device.ensures.fresh);
      first = first;
      begins = record { opened = serving.0; front = serving.1 };
      mended =
          subst (λ (kept : DurableFront (FileDevice g.row.R.Denot)). IsMended seen_of MayLeaveOf (had_failed_of (disk_of first)) first kept)
          (sym c.new.ensures.kept) c.in_ok-write_anew-in-Ok.ensures.mended;
      long = c.new.ensures.long;
    }
