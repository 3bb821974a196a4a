use Rattle.std.proofs.Common.{◌∙◌}
use Rattle.zthreads.proofs.Onward.{went_both, went_by, went_idle}
use Rattle.zthreads.proofs.rounds.go_round.Goals as goal

-- a link that is empty
pub loop-link-preserved-then-finds_nothing : goal.loop-link-preserved-then-finds_nothing
loop-link-preserved-then-finds_nothing g c =
    let i = c.loop-link.invariant in
    let a = c.loop-link.host.endpoint in
    let b = c.finds_nothing.new.self.endpoint in
    let looked = c.finds_nothing.ensures in
    (went_both c.watch.new.host.endpoint a b i.0 (went_idle a b looked.same looked.idle.books), i.1, looked.same.links ∙ i.2)

-- the run has ended
pub returns-in_err-look-clause-went : goal.returns-in_err-look-clause-went
returns-in_err-look-clause-went g c =
    let start = c.watch.new.host.endpoint in
    let z = c.watch-in-loop-link.new.host.endpoint in
    let looked = c.finds_nothing.ensures in
    went_both c.args.host.now.endpoint start z c.watch.ensures.went
    (went_by start c.loop-link.host.endpoint c.finds_nothing.new.self.endpoint z c.loop-link.invariant.0 looked.same looked.idle.books
    c.watch-in-loop-link.ensures.went)

-- the process is halted
pub loop-link-preserved-in_default : goal.loop-link-preserved-in_default
loop-link-preserved-in_default g c =
    let i = c.loop-link.invariant in
    let looked = c.finds_nothing.ensures in
    let watched = c.watch-in-loop-link in (
      went_by c.watch.new.host.endpoint c.loop-link.host.endpoint c.finds_nothing.new.self.endpoint watched.new.host.endpoint i.0 looked.same looked.idle.books
          watched.ensures.went,
      watched.ensures.seat,
      watched.ensures.went.same.links ∙ looked.same.links ∙ i.2,
    )

pub loop-link-preserved : goal.loop-link-preserved
loop-link-preserved g c =
    let i = c.loop-link.invariant in
    let start = c.watch.new.host.endpoint in
    let looked = c.finds_nothing.ensures in
    let watched = c.watch-in-loop-link in
    let z = watched.new.host.endpoint in
    let received = c.receive-is_busy in (
      went_both start z received.new.host.endpoint
          (went_by start c.loop-link.host.endpoint c.finds_nothing.new.self.endpoint z i.0 looked.same looked.idle.books watched.ensures.went)
          received.ensures.went,
      watched.ensures.seat,
      received.ensures.went.same.links ∙ watched.ensures.went.same.links ∙ looked.same.links ∙ i.2,
    )

pub returns-clause-went : goal.returns-clause-went
returns-clause-went g c =
    went_both c.args.host.now.endpoint c.watch.new.host.endpoint c.loop-link.host.endpoint c.watch.ensures.went c.loop-link.invariant.0
