use Rattle.std.proofs.Common.{◌≡◌, ℕ, List, length, sym, subst, ◌∙◌}
use Rattle.zjournal.specs.Blocks.{blocks}
use Rattle.zjournal.specs.Journal.{Represents, holdings}
use Rattle.zsnapshots.specs.folder.Entries.{ReportsPasswords}
use Rattle.zsnapshots.specs.folder.Faults.{IsReadFault}
use Rattle.zsnapshots.specs.folder.Texts.{IsTextOf}
use Rattle.zdurable.specs.Faults.{IsSuchFile}
use Rattle.zdurable.proofs.Opening.{such_read}
use Rattle.zdurable.proofs.looking.look.Goals as goal

pub returns-in-Ok-read-clause-keeps : goal.returns-in-Ok-read-clause-keeps
returns-in-Ok-read-clause-keeps g c =
    let read = c.in-Ok.ensures.text in
    record {
      batches = read.0;
      stands = subst (λ n. Represents n read.0 (g.D.Device.seen c.args.device.now)) c.number.ensures.same read.1;
      text = subst (IsTextOf c.in-Ok-read.found.tree.tree) (c.deref.ensures.value ∙ read.2) c.in-Ok-read.ensures.found.0;
    }

pub returns-in-Ok-read-clause-look : goal.returns-in-Ok-read-clause-look
returns-in-Ok-read-clause-look g c =
    let read = c.in-Ok.ensures.text in
    let found = subst (λ (text : List ℕ). (is : IsTextOf c.in-Ok-read.found.tree.tree text) × (c.in-Ok-read.found.snapshot ≡ length is.front))
    (c.deref.ensures.value ∙ read.2) c.in-Ok-read.ensures.found in
    record {
      batches = read.0;
      stands = subst (λ n. Represents n read.0 (g.D.Device.seen c.args.device.now)) c.number.ensures.same read.1;
      text = found.0;
      begins = found.1;
    }

pub returns-in-Ok-read-clause-passwords : goal.returns-in-Ok-read-clause-passwords
returns-in-Ok-read-clause-passwords g c =
    let read = c.in-Ok.ensures.text in (
      read.0,
      subst (λ n. Represents n read.0 (g.D.Device.seen c.args.device.now)) c.number.ensures.same read.1,
      subst (λ (text : List ℕ). ReportsPasswords text c.in-Ok-read.found.had_passwords) (c.deref.ensures.value ∙ read.2) c.in-Ok-read.ensures.passwords,
    )

pub returns-clause-fault : goal.returns-clause-fault
returns-clause-fault g c =
    let read = c.in-Ok.ensures.text in
    subst (IsSuchFile c.args.servers (g.D.Device.seen c.args.device.now)) (sym c.from.ensures)
    (such_read c.in-Err-read.fault c.args.servers c.number.result (g.D.Device.seen c.args.device.now)
    c.in-Ok.content.text.items c.number.ensures.same read.0 read.1 read.2
    (subst (λ t. IsReadFault t c.in-Err-read.fault) c.deref.ensures.value c.in-Err-read.ensures.fault))

pub returns-in-Ok-read-clause-end : goal.returns-in-Ok-read-clause-end
returns-in-Ok-read-clause-end g c =
    let read = c.in-Ok.ensures.text in (
      read.0,
      subst (λ n. Represents n read.0 (g.D.Device.seen c.args.device.now)) c.number.ensures.same read.1,
      λ start. subst (λ n. c.in-Ok.content.end ≡ length (blocks (holdings start n read.0))) c.number.ensures.same (read.3 start),
    )
