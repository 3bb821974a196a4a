use Rattle.std.proofs.Common.{◌≡◌, ◌<◌, ◌≤◌, length, map, sym, ap, subst, ◌∙◌}
use Rattle.std.proofs.lemmas.List.{length-map}
use Rattle.std.proofs.lemmas.Result.{IfOk-weaker}
use Rattle.ztree.specs.declared.limits.TheConstants.{MAX_CLIENTS}
use Rattle.zprotocol.specs.declared.limits.TheConstants.{MAX_SERVERS}
use Rattle.zprotocol.specs.declared.traces.trace.Traces.{Traces}
use Rattle.zthreads.specs.declared.endpoint.Ending.{Ending}
use Rattle.zrun.specs.Left.{AreLeft, by_place, client_trace_of}
use Rattle.zrun.specs.Members.{AreReported}
use Rattle.zrun.specs.Clusters.{client_count, cluster_endpoints}
use Rattle.zrun.proofs.Leavings.{clients_reported, wired_is}
use Rattle.zrun.proofs.Left.{are_left, count_left}
use Rattle.zrun.proofs.cluster.Cluster.join.Goals as goal

pub gather-requires-clause-left : goal.gather-requires-clause-left
gather-requires-clause-left g c =
    let l = c.in_ok-master in
    subst (λ n. AreLeft n (length l.clients.items) (by_place l.master l.servers.items l.clients.items)) (sym c.last-last.ensures)
    (are_left c.args.self l.master l.servers.items l.clients.items l.ensures.servers l.ensures.left)

pub gather-requires-clause-clients : goal.gather-requires-clause-clients
gather-requires-clause-clients g c =
    let s = c.args.self in
    let l = c.in_ok-master in
    subst (λ n. n ≤ MAX_CLIENTS) (sym (count_left s l.master l.servers.items l.clients.items l.ensures.servers l.ensures.left)) s.opening.few

pub gather-requires-clause-wired : goal.gather-requires-clause-wired
gather-requires-clause-wired g c =
    let s = c.args.self in
    let l = c.in_ok-master in
    wired_is s.opening.last s.opening.clients (cluster_endpoints s) l.master l.servers.items l.clients.items s.wired.0 l.ensures.left

pub returns-clause-clients : goal.returns-clause-clients
returns-clause-clients g c =
    let l = c.in_ok-master in
    let cs = l.clients.items in
    IfOk-weaker c.gather.result (λ (t : Traces). t.clients.items ≡ map client_trace_of cs) (λ (t : Traces). length t.clients.items
    ≡ client_count c.args.self)
    (λ t is. ap length is ∙ length-map cs client_trace_of ∙ count_left c.args.self l.master l.servers.items cs l.ensures.servers l.ensures.left)
    c.gather.ensures.clients

pub returns-clause-servers : goal.returns-clause-servers
returns-clause-servers g c =
    let ss = c.in_ok-master.servers.items in
    IfOk-weaker c.gather.result (λ (t : Traces). t.servers.items ≡ map (λ (e : Ending). e.trace) ss)
    (λ (t : Traces). length t.servers.items ≡ MAX_SERVERS)
    (λ t is. ap length is ∙ length-map ss (λ (e : Ending). e.trace) ∙ c.in_ok-master.ensures.servers) c.gather.ensures.servers

pub returns-clause-reported : goal.returns-clause-reported
returns-clause-reported g c =
    let cs = c.in_ok-master.clients.items in
    let given = c.args.clients in
    IfOk-weaker c.gather.result (λ (t : Traces). t.clients.items ≡ map client_trace_of cs)
    (λ (t : Traces). AreReported (client_count c.args.self) t given)
    (λ t is i lt. clients_reported given.run.value.items given.places.items cs given.many given.own c.in_ok-master.ensures.kept t i is
    (subst (λ n. i < n) (sym c.args.self.count ∙ ap length (sym c.requires.own)) lt)) c.gather.ensures.clients
