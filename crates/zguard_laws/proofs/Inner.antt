-- The steps of a front behind a guard are a front's, and the front reads a login as the guard does.
use Rattle.std.proofs.Common.{◌∙◌, [], ◌∷◌, Ok, sym, ap}
use Rattle.zresponses.specs.Naming.{asked_named}
use Rattle.zfront.specs.Requests.{as_named}
use Rattle.zguard_laws.specs.Laws.{EveryGuardedFrontIsAFront, EveryLoginIsAnAuth}
use Rattle.zguard_laws.specs.Runs.{GuardedView}

pub inner_steps : EveryGuardedFrontIsAFront
inner_steps [] old new is = ap (λ (v : GuardedView). v.front) is
inner_steps (step ∷ steps) old new has = (has.0.front, has.1.0, inner_steps steps has.0 new has.2)

pub login_is_auth : EveryLoginIsAnAuth
login_is_auth logins bytes base login =
    let r = login.asked_for in
    ap (as_named base) login.reads
    ∙ ap (λ a. Ok (record r { asked = asked_named base a })) login.is_auth
    ∙ ap (λ a. Ok (record r { asked = a })) (sym login.is_auth)
