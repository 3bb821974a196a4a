use Rattle.std.proofs.Common.{◌≡◌, ◌<◌, ◌≤◌, ◌+◌, ◌-◌, ◌∷◌, suc, length, refl, sym, ap, subst, ◌∙◌, length-append, arith}
use Rattle.zprotocol.specs.declared.limits.TheConstants.{MAX_SERVERS}
use Rattle.zthreads.specs.Owned.{server_endpoint}
use Rattle.zrun.specs.Posts.{post_endpoints}
use Rattle.zrun.specs.Runs.{AreEndpoints, AreTraced}
use Rattle.zrun.specs.Supplies.{HandsOut}
use Rattle.zrun.proofs.Endpoints.{hands_more, more_endpoints, more_traced, posts_pushed, server_process}
use Rattle.zrun.proofs.posts.prepare_servers.Goals as goal

pub loop-done-preserved : goal.loop-done-preserved
loop-done-preserved c =
    let i = c.loop-done.invariant in
    let o = c.args.opening.now in
    let old = c.loop-done.servers.items in
    let done = c.loop-done.done in
    let d = server_endpoint c.in_ok-member.member in
    let grown = c.in_ok-push.ensures.items in
    let seen = posts_pushed c.push.new.self.items old _ grown in
    let before = post_endpoints old in
    let lt = c.loop-done-test.true in
    let number = c.in-Some.ensures.server in
    let k = 1 + (MAX_SERVERS - (done + 1)) in
    let here : k ≡ c.in-Some.id = omega (arith, number, lt) in
    let first : 0 < c.in-Some.id = omega (arith, number, lt) in
    let few : c.in-Some.id ≤ MAX_SERVERS = omega (arith, number, lt) in
    let is = c.in_ok-member.ensures.endpoint in
    let all : AreEndpoints o.last o.clients k (d ∷ before) =
    more_endpoints o.last o.clients k d before (is.0 ∙ server_process k c.in-Some.id here first few, is.1, is.2)
    (let next : 1 + (MAX_SERVERS - done) ≡ suc k = omega (arith, lt) in subst (λ m. AreEndpoints o.last o.clients m before) next i.4) in
    let handed = hands_more c.args.supply.now c.loop-done.supply c.next.new.self c.in_ok-ends.ends d before i.3
    c.in_ok-ends.ensures.rings c.in_ok-member.ensures.ends in
    let less = c.in_ok-ends.ensures.left in
    let was = i.1 in (
      ap length grown ∙ length-append old _ ∙ ap (λ n. n + 1) i.0,
      omega (arith, less, was),
      refl,
      subst (λ l. HandsOut c.args.supply.now c.next.new.self l) (sym seen) handed,
      subst (λ l. AreEndpoints o.last o.clients k l) (sym seen) all,
      subst (λ l. AreTraced o.is_traced l) (sym seen) (more_traced o.is_traced d before c.in_ok-member.ensures.traced i.5),
    )
