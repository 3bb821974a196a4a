use Rattle.zpath.specs.support.Shared.{listed}
use Rattle.zpath.proofs.Shared.{shown_but_last}
use Rattle.zpath.proofs.path.Path.parent.Goals as goal

pub returns-clause-front : goal.returns-clause-front
returns-clause-front c =
    rw c.in_ok-front.ensures
    (shown_but_last c.self.inside.depth (listed c.self.inside.list) c.args.self.now c.self.invariant.0 c.self.view_is c.if-self-eq0.false)
