use Rattle.std.proofs.Common.{◌++◌, ◌∷◌, [], List, length, map, sym, ap, subst, ◌∙◌, append_assoc, length-append, arith}
use Rattle.std.proofs.lemmas.List.{map-append}
use Rattle.zthreads.specs.Owned.{server_endpoint}
use Rattle.zthreads.specs.declared.endpoint.Endpoint.{Endpoint}
use Rattle.zthreads.specs.declared.endpoint.Ending.{Ending}
use Rattle.zrun.specs.Handles.{given_server}
use Rattle.zrun.specs.Runs.{AreLeftBy, IsLeftBy}
use Rattle.zrun.proofs.Leavings.{left_by}
use Rattle.zrun.proofs.Pairs.{pairs_push}
use Rattle.zrun.proofs.joining.join_servers.Goals as goal

pub loop-server-preserved : goal.loop-server-preserved
loop-server-preserved g c =
    let i = c.loop-server.invariant in
    let yielded = c.loop-server.yielded in
    let server = c.in-Some.server in
    let endings = c.loop-server.endings.items in
    let rest = c.next.new.self.rest.items in
    let step = c.in-Some.ensures.steps.0 in
    let e = c.into_ending.result in
    let grown = c.push_reserved.ensures.items in
    let longer = ap length grown ∙ length-append endings (e ∷ []) in
    let shorter = ap length step in
    let room = i.1 in
    let same = c.push_reserved.ensures.capacity in
    let wide = i.2 in
    let left = left_by (given_server server) (server_endpoint c.join.result) e c.join.ensures c.into_ending.ensures.ended
    c.into_ending.ensures.wires c.into_ending.ensures.untraced in
    let all = pairs_push IsLeftBy (map given_server yielded) endings (given_server server) e i.3 left in (
      i.0 ∙ ap (λ l. yielded ++ l) step ∙ sym (append_assoc yielded (server ∷ []) rest),
      omega (arith, longer, shorter, room),
      omega (arith, same, wide),
      subst (λ (w : List Endpoint × List Ending). AreLeftBy w.0 w.1) (λ k. (sym (map-append given_server yielded (server ∷ [])) k, sym grown k)) all,
    )
