use Rattle.std.proofs.Common.{subst}
use Rattle.std.specs.Result.{IfOk}
use Rattle.std.specs.Prelude.{Result, Ok, Err}
use Rattle.znodes.specs.support.Reading.{AreSorted}
use Rattle.znodes.proofs.OwnedPaths.{stale-sorted}
use Rattle.znodes.proofs.nodes.Nodes.stale_paths.Goals as goal

pub returns : goal.returns
returns c =
    let s = c.self.inside in
    ifok-map c.sorted_paths.result
    (λ paths is. stale-sorted s c.self.invariant.linked c.args.self.now c.self.view_is c.args.tick c.in_ok-ids.ids.items c.in_ok-ids.ensures paths.items (subst (λ ids. AreSorted s.slots.items ids paths.items) c.deref.ensures.value is)) c.sorted_paths.ensures
  where
    ifok-map : {A E : Type 0} {P Q : A → Type 0} (r : Result A E) → ((x : A) → P x → Q x) → IfOk r P → IfOk r Q
    ifok-map (Ok x) f p = f x p
    ifok-map (Err e) f p = tt
