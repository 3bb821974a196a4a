use Rattle.zjournal.specs.Blocks.{blocks}
use Rattle.zjournal.specs.Journal.{holdings}
use Rattle.zjournal.proofs.Renewals.{not_asked, untouched_call, untouched_keeps}
use Rattle.zjournal.proofs.journal.Journal.split.Goals as goal

pub returns-then-not-self-clause-any_moment : goal.returns-then-not-self-clause-any_moment
returns-then-not-self-clause-any_moment g c servers batches rest =
    untouched_keeps g.D.Device.seen g.D.Device.may_leave g.D.Device.moment g.D.Device.left_since c.args.self.now servers
    batches rest c.args.self.now.device (not_asked g.D.Device.seen g.D.Device.may_leave g.D.Device.moment g.D.Device.left_since
    c.args.self.now servers batches rest (g.met.D.Device.only_now c.args.self.now.device))

pub split-requires-clause-ends : goal.split-requires-clause-ends
split-requires-clause-ends g c =
    let was = c.requires c.if-not-self.false in (blocks (holdings c.args.self.now.place.start was.0 was.1), was.2.file)

pub returns-in_err-split-clause-any_moment : goal.returns-in_err-split-clause-any_moment
returns-in_err-split-clause-any_moment g c servers batches rest =
    untouched_keeps g.D.Device.seen g.D.Device.may_leave g.D.Device.moment g.D.Device.left_since c.args.self.now servers
    batches rest c.split.new.self (untouched_call g.D.Device.seen g.D.Device.may_leave g.D.Device.moment g.D.Device.left_since
    c.args.self.now.device c.split.new.self rest.durable (g.met.D.Device.only_now c.args.self.now.device)
    c.split.ensures.seen c.split.ensures.crash c.split.ensures.time)

pub returns-clause-any_moment : goal.returns-clause-any_moment
returns-clause-any_moment g c servers batches rest =
    untouched_keeps g.D.Device.seen g.D.Device.may_leave g.D.Device.moment g.D.Device.left_since c.args.self.now servers
    batches rest c.split.new.self (untouched_call g.D.Device.seen g.D.Device.may_leave g.D.Device.moment g.D.Device.left_since
    c.args.self.now.device c.split.new.self rest.durable (g.met.D.Device.only_now c.args.self.now.device)
    c.split.ensures.seen c.split.ensures.crash c.split.ensures.time)
