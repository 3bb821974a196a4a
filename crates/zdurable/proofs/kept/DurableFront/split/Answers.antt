use Rattle.zdurable.specs.DurableFront.{disk_of}
use Rattle.zdurable.proofs.Renewing.{stays_keeping}
use Rattle.zdurable.proofs.kept.DurableFront.split.Goals as goal

pub returns-then-not-self-clause-any_moment : goal.returns-then-not-self-clause-any_moment
returns-then-not-self-clause-any_moment g c servers batches t serving =
    stays_keeping g.D.Device.seen g.D.Device.may_leave g.D.Device.moment g.D.Device.left_since c.args.self.now.journal
    servers batches serving.rest (g.met.D.Device.only_now (disk_of c.args.self.now))

pub returns-in_err-begun-clause-any_moment : goal.returns-in_err-begun-clause-any_moment
returns-in_err-begun-clause-any_moment g c servers batches t serving = c.begin_part.ensures.any_moment servers batches serving.rest

pub returns-clause-any_moment : goal.returns-clause-any_moment
returns-clause-any_moment g c servers batches t serving = c.begin_part.ensures.any_moment servers batches serving.rest

pub returns-clause-kept : goal.returns-clause-kept
returns-clause-kept g c servers batches t is_open serving = record {
  rest = c.begin_part.ensures.rest servers batches serving.rest;
  takes = c.begin_part.ensures.open serving.takes;
  sound = serving.sound;
  text = serving.text;
  has = serving.has;
}

pub returns-clause-sound : goal.returns-clause-sound
returns-clause-sound g c is_open =
    let was = c.requires c.if-not-self.false in (
      was.0,
      was.1,
      was.2,
      record {
        rest = c.begin_part.ensures.rest was.0 was.1 was.3.rest;
        takes = c.begin_part.ensures.open was.3.takes;
        sound = was.3.sound;
        text = was.3.text;
        has = was.3.has;
      },
    )
