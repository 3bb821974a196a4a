use Rattle.std.proofs.Common.{◌≡◌, ◌+◌, ◌++◌, ◌∷◌, length, sym, subst, arith}
use Rattle.std.specs.declared.vec.Vec.{Vec}
use Rattle.std.specs.declared.alloc.Global.{Global}
use Rattle.zprotocol.specs.declared.limits.TheConstants.{MAX_SERVERS}
use Rattle.zthreads.specs.Owned.{master_endpoint}
use Rattle.zrun.specs.declared.posts.ClientPost.{ClientPost}
use Rattle.zrun.specs.Origins.{client_endpoints}
use Rattle.zrun.specs.Posts.{post_endpoints}
use Rattle.zrun.specs.Openings.{IsRunFrom}
use Rattle.zrun.specs.Runs.{AreEndpoints}
use Rattle.zrun.specs.Supplies.{left}
use Rattle.zrun.proofs.Endpoints.{both_endpoints, both_traced, hands_both, hands_more, is_run, more_endpoints, more_traced, posts_count}
use Rattle.zrun.proofs.Leavings.{number_at}
use Rattle.zrun.proofs.posts.prepare.Goals as goal

pub returns-clause-run : goal.returns-clause-run
returns-clause-run c =
    let o = c.args.opening.now in
    let m = master_endpoint c.master-chief.result in
    let ss = post_endpoints c.in-Ok-prepare_servers.servers.items in
    let cs = client_endpoints c.in-Ok.callers.items in
    let s0 = c.in_ok-supply.supply in
    let s1 = c.prepare_clients.new.supply in
    let s2 = c.prepare_servers.new.supply in
    let s3 = c.next.new.self in
    let all = c.in_ok-supply.ensures.left in
    let after_clients = c.in-Ok.ensures.left in
    let after_servers = c.in-Ok-prepare_servers.ensures.left in
    let after_master = c.in-Ok-next.ensures.left in
    let none : left s3 ≡ 0 = omega (arith, all, after_clients, after_servers, after_master) in
    let handed = hands_more s0 s2 s3 c.in-Ok-next.ends m (ss ++ cs) (hands_both s0 s1 s2 cs ss c.in-Ok.ensures.rings
    c.in-Ok-prepare_servers.ensures.rings)
    c.in-Ok-next.ensures.rings c.master-chief.ensures.ends in
    let count = posts_count c.in-Ok-prepare_servers.servers.items in
    let servers = c.in-Ok-prepare_servers.ensures.servers in
    let next : MAX_SERVERS + 1 ≡ 1 + length ss = omega (arith, count, servers) in
    let endpoints = more_endpoints o.last o.clients 0 m (ss ++ cs) c.master-chief.ensures.endpoint
    (both_endpoints o.last o.clients 1 ss cs c.in-Ok-prepare_servers.ensures.endpoints
    (subst (λ k. AreEndpoints o.last o.clients k cs) next c.in-Ok.ensures.endpoints)) in
    let traced = more_traced o.is_traced m (ss ++ cs) c.master-chief.ensures.traced
    (both_traced o.is_traced ss cs c.in-Ok-prepare_servers.ensures.traced c.in-Ok.ensures.traced) in
    subst (λ (v : Vec ClientPost Global). IsRunFrom o (m ∷ (ss ++ client_endpoints v.items))) (sym c.of-run.ensures)
    (is_run o.last o.clients _ s0 s3 (m ∷ (ss ++ cs)) c.in_ok-supply.ensures.woven none handed endpoints, traced)

pub new-requires-3 : goal.new-requires-3
new-requires-3 c = number_at c.args.opening.now.last c.args.opening.now.clients c.in-Ok.callers.items c.in-Ok.ensures.endpoints
