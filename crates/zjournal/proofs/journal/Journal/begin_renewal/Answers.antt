use Rattle.std.proofs.Common.{refl, [], rules}
use Rattle.zjournal.proofs.Renewals.{not_asked, still_rests, renewal_begun}
use Rattle.zjournal.proofs.journal.Journal.begin_renewal.Goals as goal

pub returns-then-not-self-clause-untouched : goal.returns-then-not-self-clause-untouched
returns-then-not-self-clause-untouched g c servers batches rest =
    not_asked g.D.Device.seen g.D.Device.may_leave g.D.Device.moment g.D.Device.left_since c.args.self.now servers
    batches rest (g.met.D.Device.only_now c.args.self.now.device)

pub returns-in_err-begin_file-clause-rest : goal.returns-in_err-begin_file-clause-rest
returns-in_err-begin_file-clause-rest g c servers batches rest =
    still_rests g.D.Device.seen g.D.Device.may_leave g.D.Device.moment g.D.Device.left_since c.args.self.now servers
    batches rest _ refl refl c.begin_file.ensures.untouched

pub returns-in_err-begin_file-clause-untouched : goal.returns-in_err-begin_file-clause-untouched
returns-in_err-begin_file-clause-untouched g c servers batches rest = c.begin_file.ensures.untouched

pub returns-in_err-begin_file-clause-sound : goal.returns-in_err-begin_file-clause-sound
returns-in_err-begin_file-clause-sound g c is_open =
    let was = c.requires.sound c.if-not-self.false in (
      was.0,
      was.1,
      still_rests g.D.Device.seen g.D.Device.may_leave g.D.Device.moment g.D.Device.left_since c.args.self.now
          was.0 was.1 was.2 _ refl refl c.begin_file.ensures.untouched,
    )

pub returns-clause-begun : goal.returns-clause-begun
returns-clause-begun g c servers batches is_open rest =
    renewal_begun g.D.Device.seen g.D.Device.may_leave g.D.Device.moment g.D.Device.left_since c.args.self.now servers
    batches rest g.D.Device.beside _ refl refl c.begin_file.ensures.untouched
    c.args.start c.requires.sum (search rules) c.first-self.ensures.start c.first-self.ensures.end c.first-self.ensures.sum

pub returns-clause-rest : goal.returns-clause-rest
returns-clause-rest g c servers batches rest =
    still_rests g.D.Device.seen g.D.Device.may_leave g.D.Device.moment g.D.Device.left_since c.args.self.now servers
    batches rest _ refl refl c.begin_file.ensures.untouched

pub returns-clause-untouched : goal.returns-clause-untouched
returns-clause-untouched g c servers batches rest = c.begin_file.ensures.untouched

pub returns-clause-renewing : goal.returns-clause-renewing
returns-clause-renewing g c is_open =
    let was = c.requires.sound c.if-not-self.false in (
      was.0,
      was.1,
      [],
      renewal_begun g.D.Device.seen g.D.Device.may_leave g.D.Device.moment g.D.Device.left_since
          c.args.self.now was.0 was.1 was.2 g.D.Device.beside _ refl refl c.begin_file.ensures.untouched
          c.args.start c.requires.sum c.in_ok-begin_file.ensures.begun
          c.first-self.ensures.start c.first-self.ensures.end c.first-self.ensures.sum,
    )

pub returns-clause-sound : goal.returns-clause-sound
returns-clause-sound g c is_open =
    let was = c.requires.sound c.if-not-self.false in (
      was.0,
      was.1,
      still_rests g.D.Device.seen g.D.Device.may_leave g.D.Device.moment g.D.Device.left_since c.args.self.now
          was.0 was.1 was.2 _ refl refl c.begin_file.ensures.untouched,
    )
