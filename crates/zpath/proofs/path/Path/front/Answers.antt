use Rattle.zpath.specs.support.Shared.{listed}
use Rattle.zpath.proofs.Shared.{ShowsFront, front_shown, nothing_shown}
use Rattle.zpath.proofs.path.Path.front.Goals as goal
use Rattle.zpath.proofs.path.Path.front.Goals.{in-Some+in_ok-try_clone-in-Some, in_default, in_default-via-in-Some+else-depth-gt0, in_default-via-in_default}

shows_front : (c : goal.Joined-self) → ShowsFront c.args.depth (listed c.match-self.list) c.args.self.now
shows_front c =
    let same = front_shown c.args.depth c.self.inside.depth (listed c.self.inside.list) c.args.self.now c.self.invariant c.self.view_is c.requires in
    elim c.match-self.branch [
      | in-Some+in_ok-try_clone-in-Some w ↦ rw (w.list-is, w.in_ok-try_clone-in-Some.ensures) (rw w.in-Some.is at same)
      | in_default w ↦ (
          elim w.in_default.branch [
            | in_default-via-in-Some+else-depth-gt0 u ↦ rw w.list-is (nothing_shown c.args.depth c.args.self.now (rw c.self.view_is at c.self.invariant.1) u.if-depth-gt0.false)
            | in_default-via-in_default u ↦ rw w.list-is (rw u.in_default.is at same)
          ]
          )
    ]

pub invariant_of-result : goal.invariant_of-result
invariant_of-result c = let shows = shows_front c in (shows.within, shows.is)

pub returns : goal.returns
returns c = (shows_front c).shown
