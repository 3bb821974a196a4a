use Rattle.std.specs.Result.{IfOk}
use Rattle.std.specs.Prelude.{Result, Ok, Err}
use Rattle.znodes.proofs.StaleRows.{are-stale, are-stale-paths}
use Rattle.znodes.proofs.nodes.Nodes.stale.Goals as goal

pub stale_in-requires : goal.stale_in-requires
stale_in-requires c = let list = c.self.invariant.mortal tt in (list.0, list.1)

pub returns : goal.returns
returns c =
    let s = c.self.inside in
    ifok-map c.stale_in.result
    (λ found is. are-stale-paths s c.self.invariant.linked c.args.self.now c.self.view_is c.args.tick found.items (are-stale s c.self.invariant.linked c.args.self.now c.self.view_is c.args.tick s.timed c.self.invariant.mortal found.items is)) c.stale_in.ensures
  where
    ifok-map : {A E : Type 0} {P Q : A → Type 0} (r : Result A E) → ((x : A) → P x → Q x) → IfOk r P → IfOk r Q
    ifok-map (Ok x) f p = f x p
    ifok-map (Err e) f p = tt
