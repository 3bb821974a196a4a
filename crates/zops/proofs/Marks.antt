-- What a part leaves of a mark.
use Rattle.std.proofs.Common.{◌≡◌, ℕ, ◌+◌, ◌-◌, ◌*◌, ◌≤◌, Bool, true, false, cond, Some, None, refl, ap, ◌∙◌, arith}
use Rattle.std.specs.Prelude.{nat_le, is_some, IsSome}
use Rattle.std.proofs.lemmas.Bool.Decides.{nat_tests}
use Rattle.zstore.specs.StoreView.{StoreView, Mark, AtMark, GoesBack, MarksHere, mark_left}
use Rattle.zops.specs.support.Ready.{HasMark, IsAsItWas, KeepsMark}

-- room for more is room for fewer
pub mark_fewer : (parts fewer : ℕ) (m : Mark) (store : StoreView) → fewer ≤ parts → HasMark parts m store → HasMark fewer m store
mark_fewer parts fewer m store l has = let room = has.4 in (has.0, has.1, has.2, has.3, omega (arith, l, room))

-- a part that changed nothing leaves the mark
pub mark_stays : (old new : StoreView) → new.marked ≡ old.marked → KeepsMark old new
mark_stays old new same parts m has = let room = has.4 in (has.0, same ∙ has.1, has.2, has.3, omega (arith, room))

-- and one of at most two steps has room for them
pub mark_steps : (steps : ℕ) (old new : StoreView) → steps ≤ 2 → new.marked ≡ mark_left steps old.marked → KeepsMark old new
mark_steps steps old new few is parts m has = (record n { steps = n.steps - steps }, is ∙ ap (mark_left steps) has.1 ∙ by (nat_le steps n.steps) refl, has.2, has.3, omega (arith, room, few))
  where
    n : Mark
    n = has.0

    room : 2 * (parts + 1) ≤ has.0.steps
    room = has.4

    by : (b : Bool) → nat_le steps n.steps ≡ b → cond b (Some (record n { steps = n.steps - steps })) None ≡ Some (record n { steps = n.steps - steps })
    by true e = refl
    by false e = absurd (grind (arith, nat_tests, room, few))

-- the mark that was set here is still set after all parts
pub mark_after : {steps : ℕ} (parts : ℕ) (old new late : StoreView) (here : MarksHere steps old new) → 2 * parts ≤ steps → ((m : Mark) → HasMark parts m new → HasMark 0 m late) → HasMark 0 here.mark late
mark_after parts old new late here l keeps = let room = here.room in keeps here.mark (here.mark, here.marked, refl, refl, omega (arith, l, room))

pub mark_stands : (m : Mark) (store : StoreView) → HasMark 0 m store → IsSome store.marked
mark_stands m store has = ap is_some has.1

-- who goes back to it has the tree and the Ids of then
pub back_at_mark : {steps : ℕ} (old new late back : StoreView) (here : MarksHere steps old new) → HasMark 0 here.mark late → AtMark late (GoesBack back) → IsAsItWas old back
back_at_mark old new late back here has goes =
    let went = goes has.0 has.1 in
    (went.0 ∙ has.2 ∙ here.tree_here, went.1 ∙ has.3 ∙ here.places_here)
