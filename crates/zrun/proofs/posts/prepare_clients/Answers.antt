use Rattle.std.proofs.Common.{◌≡◌, ◌+◌, ◌-◌, ◌∷◌, suc, length, reverse, refl, sym, ap, subst, ◌∙◌, length-append, arith}
use Rattle.zprotocol.specs.declared.limits.TheConstants.{MAX_SERVERS}
use Rattle.zthreads.specs.Callers.{caller_endpoint}
use Rattle.zrun.specs.Origins.{client_endpoints}
use Rattle.zrun.specs.Runs.{AreEndpoints, AreTraced}
use Rattle.zrun.specs.Supplies.{HandsOut}
use Rattle.zrun.proofs.Endpoints.{client_process, clients_pushed, hands_more, more_endpoints, more_traced}
use Rattle.zrun.proofs.posts.prepare_clients.Goals as goal

pub loop-done-preserved : goal.loop-done-preserved
loop-done-preserved c =
    let i = c.loop-done.invariant in
    let o = c.args.opening.now in
    let old = c.loop-done.clients.items in
    let done = c.loop-done.done in
    let d = caller_endpoint c.caller-caller.result in
    let grown = c.in_ok-push.ensures.items in
    let seen = clients_pushed c.push.new.self.items old _ grown in
    let before = client_endpoints (reverse old) in
    let lt = c.loop-done-test.true in
    let end = i.3 in
    let number = c.in-Some.ensures.client in
    let k = MAX_SERVERS + 1 + (o.clients - (done + 1)) in
    let here : k ≡ MAX_SERVERS + 1 + c.in-Some.id = omega (arith, number, lt, end) in
    let is = c.caller-caller.ensures.endpoint in
    let all : AreEndpoints o.last o.clients k (d ∷ before) =
    more_endpoints o.last o.clients k d before (is.0 ∙ client_process k c.in-Some.id here, is.1, is.2)
    (let next : MAX_SERVERS + 1 + (o.clients - done) ≡ suc k = omega (arith, lt, end) in subst (λ m. AreEndpoints o.last o.clients m before) next i.5) in
    let handed = hands_more c.args.supply.now c.loop-done.supply c.next.new.self c.in_ok-ends.ends d before i.4
    c.in_ok-ends.ensures.rings c.caller-caller.ensures.ends in
    let less = c.in_ok-ends.ensures.left in
    let was = i.1 in (
      ap length grown ∙ length-append old _ ∙ ap (λ n. n + 1) i.0,
      omega (arith, less, was),
      refl,
      refl,
      subst (λ l. HandsOut c.args.supply.now c.next.new.self l) (sym seen) handed,
      subst (λ l. AreEndpoints o.last o.clients k l) (sym seen) all,
      subst (λ l. AreTraced o.is_traced l) (sym seen) (more_traced o.is_traced d before c.caller-caller.ensures.traced i.6),
    )
