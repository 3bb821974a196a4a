use Rattle.std.proofs.Common.{refl, rules}
use Rattle.zjournal.proofs.Renewals.{not_taken, renewed}
use Rattle.zjournal.proofs.journal.Journal.end_renewal.Goals as goal

pub returns-then-not-self-clause-any_moment : goal.returns-then-not-self-clause-any_moment
returns-then-not-self-clause-any_moment g c servers batches next renewing =
    not_taken g.D.Device.seen g.D.Device.may_leave g.D.Device.moment g.D.Device.left_since g.D.Device.beside
    c.args.self.now servers batches next renewing (g.met.D.Device.only_now c.args.self.now.device)

pub returns-in_err-close_and_take-clause-any_moment : goal.returns-in_err-close_and_take-clause-any_moment
returns-in_err-close_and_take-clause-any_moment g c servers batches next renewing = c.close_and_take.ensures.any_moment

pub returns-in_err-close_and_take-clause-sound : goal.returns-in_err-close_and_take-clause-sound
returns-in_err-close_and_take-clause-sound g c =
    search rules

pub returns-clause-renewed : goal.returns-clause-renewed
returns-clause-renewed g c servers batches next is_open renewing =
    renewed g.D.Device.seen g.D.Device.may_leave g.D.Device.moment g.D.Device.left_since g.D.Device.beside c.args.self.now
    servers batches next renewing _ refl (search rules) (search rules) c.in_ok-close_and_take.ensures.durable

pub returns-clause-any_moment : goal.returns-clause-any_moment
returns-clause-any_moment g c servers batches next renewing = c.close_and_take.ensures.any_moment

pub returns-clause-sound : goal.returns-clause-sound
returns-clause-sound g c is_open =
    let was = c.requires c.if-not-self.false in (
      was.0,
      was.2,
      renewed g.D.Device.seen g.D.Device.may_leave g.D.Device.moment g.D.Device.left_since g.D.Device.beside
          c.args.self.now was.0 was.1 was.2 was.3 _ refl refl c.in_ok-close_and_take.ensures.taken c.in_ok-close_and_take.ensures.durable,
    )
