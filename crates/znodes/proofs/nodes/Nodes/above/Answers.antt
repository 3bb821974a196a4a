use Rattle.std.proofs.Common.{◌≡◌, Some, IsSome, refl, sym, ap, subst, ◌∙◌}
use Rattle.std.specs.Option.{option_copied}
use Rattle.znodes.specs.declared.row.Row.{Row}
use Rattle.znodes.specs.support.Reading.{live_at}
use Rattle.znodes.proofs.Shown.{if_some, if_none, no_path, path_of-live}
use Rattle.znodes.proofs.Parents.{parent-is, parent-below, parent-none}
use Rattle.znodes.proofs.nodes.Nodes.above.Goals as goal

pub returns-in_err-live-clause-none : goal.returns-in_err-live-clause-none
returns-in_err-live-clause-none c =
    if_none _ c.from_residual.result (λ none path at. absurd (no_path c.self.inside c.self.invariant.linked c.args.self.now c.self.view_is c.args.id (sym c.live.ensures ∙ ap option_copied c.in_err-live.was) path at))

-- the live row
module _ (c : goal.After-result-1) where
  abbrev r : Row
  r = c.in_ok-live.field-0.now

  is : live_at c.self.inside.slots.items c.args.id ≡ Some r
  is = sym c.live.ensures ∙ ap option_copied c.in_ok-live.was

pub returns-clause-above : goal.returns-clause-above
returns-clause-above c =
    if_some _ (r c).parent (parent-is c.self.inside c.self.invariant.linked c.self.invariant.parents c.args.self.now c.self.view_is c.args.id (r c) (is c))

pub returns-clause-live : goal.returns-clause-live
returns-clause-live c =
    if_some _ (r c).parent (λ p e. subst IsSome (sym (path_of-live c.self.inside c.self.invariant.linked c.args.self.now c.self.view_is c.args.id (Some (r c)) (is c))) refl)

pub returns-clause-below_root : goal.returns-clause-below_root
returns-clause-below_root c =
    if_some _ (r c).parent (parent-below c.self.inside c.self.invariant.linked c.self.invariant.parents c.args.self.now c.self.view_is c.args.id (r c) (is c))

pub returns-clause-none : goal.returns-clause-none
returns-clause-none c =
    if_none _ (r c).parent (parent-none c.self.inside c.self.invariant.linked c.self.invariant.parents c.args.self.now c.self.view_is c.args.id (r c) (is c))
