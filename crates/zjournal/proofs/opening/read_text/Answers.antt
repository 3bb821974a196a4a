use Rattle.std.proofs.Common.{◌∙◌, inl, inr, refl, sym, []}
use Rattle.zjournal.proofs.Files.{head_end, keeps, same_end}
use Rattle.zjournal.proofs.Opens.{being_made_of, found_of, only_read, only_left}
use Rattle.std.proofs.lemmas.Result.{err_from_is_err_and}
use Rattle.zjournal.proofs.opening.read_text.Goals as goal

pub returns-in-Unmade-clause-text : goal.returns-in-Unmade-clause-text
returns-in-Unmade-clause-text g c =
    let made = being_made_of c.args.servers c.deref.result.now (g.D.Device.seen c.args.device.now) c.in_ok-look.field-0
    (c.deref.ensures.value ∙ c.in_ok-bytes.ensures.bytes) c.in-Unmade.is c.in_ok-look.ensures.ok in
    ([], inr (made, refl), c.new.ensures.items, λ start. sym (head_end start c.args.servers))

pub returns-clause-text : goal.returns-clause-text
returns-clause-text g c =
    let found = found_of c.args.servers c.deref.result.now (g.D.Device.seen c.args.device.now) c.in_ok-look.field-0 _
    (c.deref.ensures.value ∙ c.in_ok-bytes.ensures.bytes) c.in-Cached.is c.in_ok-look.ensures.ok in (
      found.0,
      inl (keeps c.args.servers found.0 (g.D.Device.seen c.args.device.now) _ found.1),
      found.2,
      λ start. found.1.is_place.end ∙ same_end c.in-Cached.place.start start c.args.servers found.0,
    )

pub returns-in_err-bytes-clause-durable : goal.returns-in_err-bytes-clause-durable
returns-in_err-bytes-clause-durable g c =
    only_left g.D.Device.seen g.D.Device.may_leave g.D.Device.moment g.D.Device.left_since c.args.device.now c.read.new.self
    c.requires.durable c.read.ensures.crash c.read.ensures.seen

pub returns-in_err-bytes-clause-any_moment : goal.returns-in_err-bytes-clause-any_moment
returns-in_err-bytes-clause-any_moment g c =
    only_read g.D.Device.seen g.D.Device.may_leave g.D.Device.moment g.D.Device.left_since c.args.device.now c.read.new.self
    c.requires.durable c.read.ensures.crash
    (g.met.D.Device.only_now c.args.device.now) c.read.ensures.time

pub returns-in_err-look-clause-durable : goal.returns-in_err-look-clause-durable
returns-in_err-look-clause-durable g c =
    only_left g.D.Device.seen g.D.Device.may_leave g.D.Device.moment g.D.Device.left_since c.args.device.now c.read.new.self
    c.requires.durable c.read.ensures.crash c.read.ensures.seen

pub returns-in_err-look-clause-any_moment : goal.returns-in_err-look-clause-any_moment
returns-in_err-look-clause-any_moment g c =
    only_read g.D.Device.seen g.D.Device.may_leave g.D.Device.moment g.D.Device.left_since c.args.device.now c.read.new.self
    c.requires.durable c.read.ensures.crash
    (g.met.D.Device.only_now c.args.device.now) c.read.ensures.time

pub returns-in-Unmade-clause-durable : goal.returns-in-Unmade-clause-durable
returns-in-Unmade-clause-durable g c =
    only_left g.D.Device.seen g.D.Device.may_leave g.D.Device.moment g.D.Device.left_since c.args.device.now c.read.new.self
    c.requires.durable c.read.ensures.crash c.read.ensures.seen

pub returns-in-Unmade-clause-any_moment : goal.returns-in-Unmade-clause-any_moment
returns-in-Unmade-clause-any_moment g c =
    only_read g.D.Device.seen g.D.Device.may_leave g.D.Device.moment g.D.Device.left_since c.args.device.now c.read.new.self
    c.requires.durable c.read.ensures.crash
    (g.met.D.Device.only_now c.args.device.now) c.read.ensures.time

pub returns-clause-durable : goal.returns-clause-durable
returns-clause-durable g c =
    only_left g.D.Device.seen g.D.Device.may_leave g.D.Device.moment g.D.Device.left_since c.args.device.now c.read.new.self
    c.requires.durable c.read.ensures.crash c.read.ensures.seen

pub returns-clause-any_moment : goal.returns-clause-any_moment
returns-clause-any_moment g c =
    only_read g.D.Device.seen g.D.Device.may_leave g.D.Device.moment g.D.Device.left_since c.args.device.now c.read.new.self
    c.requires.durable c.read.ensures.crash
    (g.met.D.Device.only_now c.args.device.now) c.read.ensures.time

pub returns-in_err-look-clause-fault : goal.returns-in_err-look-clause-fault
returns-in_err-look-clause-fault g c =
    let p = err_from_is_err_and c.from_residual-in_err-look.result c.from_residual-in_err-look.ensures.1 in
    rw (p.1, p.2, sym (c.deref.ensures.value ∙ c.in_ok-bytes.ensures.bytes)) c.in_err-look.ensures.err
