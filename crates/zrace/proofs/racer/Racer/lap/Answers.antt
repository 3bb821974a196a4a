use Rattle.zrace.proofs.Seen.{all_seen_now, all_still_seen}
use Rattle.zrace.proofs.Shown.{all_recorded_now, all_still_recorded}
use Rattle.zrace.proofs.racer.Racer.lap.Goals as goal

pub invariant_of-self : goal.invariant_of-self
invariant_of-self c =
    let racer = c.args.self.now in
    record {
      reported = all_still_seen racer.client c.call_thrice.new.client racer.seen.items c.call_thrice.ensures.same racer.reported;
      recorded = all_still_recorded racer.client c.call_thrice.new.client racer.seen.items c.call_thrice.ensures.goes racer.recorded;
    }

pub invariant_of-self-2 : goal.invariant_of-self-2
invariant_of-self-2 c =
    let racer = c.args.self.now in
    record {
      reported = all_seen_now racer.client c.call_thrice.new.client racer.seen.items c.keep.new.all.items c.args.node c.in-Some.version
          c.call_thrice.ensures.same c.in-Some.ensures.reported c.keep.ensures racer.reported;
      recorded = all_recorded_now racer.client c.call_thrice.new.client racer.seen.items c.keep.new.all.items c.args.node c.in-Some.version
          c.call_thrice.ensures.goes c.in-Some.ensures.recorded c.keep.ensures racer.recorded;
    }
