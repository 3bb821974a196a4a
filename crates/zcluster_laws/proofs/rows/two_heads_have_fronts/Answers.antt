use Rattle.std.proofs.Common.{ℕ, true, List, [], ◌∷◌, refl}
use Rattle.ztree.specs.Tree.{Tree}
use Rattle.zcalls.specs.Cached.{CachedState, nothing_cached}
use Rattle.zprotocol.specs.declared.process.Process.TheVariants.{Master, Server}
use Rattle.zprotocol.specs.declared.world.event.Event.{Event}
use Rattle.zprotocol.specs.declared.world.event.Event.TheVariants.{Take, Fail}
use Rattle.zprotocol.proofs.world_lemmas.Tables.{all_tables}
use Rattle.zlinearizability.specs.Cuts.{Stays}
use Rattle.zheads.specs.Heads.{Heads, HeadEvent, Append, InChain, next}
use Rattle.zwatches.specs.declared.limits.WatchLimits.{WatchLimits}
use Rattle.zresponses.specs.declared.clock.Clock.{Clock}
use Rattle.zconnections.specs.buffers.Inputs.InputView.{Opened}
use Rattle.zfront.specs.Inputs.{opened}
use Rattle.zfront.specs.Restoring.{beginning}
use Rattle.zcluster_laws.specs.Cluster.{Fronted, Handled, Sent, Cluster, BeginsAt, TakesAt, SendsAt, PadsAt, ChainDoes, drained, with_front, fenced, machine, opening_cluster}
use Rattle.zcluster_laws.specs.support.ClusterRows.{quiet}
use Rattle.zcluster_laws.proofs.rows.two_heads_have_fronts.Goals as goal

abbrev all_stay : Stays
all_stay from to = 9

-- a front that begins, and after its first input
abbrev fresh : Tree → WatchLimits → List ℕ → Clock → Fronted
fresh t limits secret times = record { first = t; front = beginning limits t secret times true; sent = []; held = [] }

abbrev asked : Tree → WatchLimits → List ℕ → Clock → ℕ → Fronted
asked t limits secret times c =
    record (fresh t limits secret times) { front = drained (opened c (beginning limits t secret times true)); held = quiet t c ∷ [] }

-- the heads after an event, and a cluster after an event of the chain
abbrev then_heads : Tree → WatchLimits → List ℕ → Clock → HeadEvent → Cluster → Heads (CachedState Tree)
then_heads t limits secret times event c = next (machine t limits secret times) c.heads (all_stay, event)

abbrev after : Tree → WatchLimits → List ℕ → Clock → Event → Cluster → Cluster
after t limits secret times event c = fenced (record c { heads = then_heads t limits secret times (InChain event) c })

event_does : (t : Tree) (limits : WatchLimits) (secret : List ℕ) (times : Clock) (event : Event) (c : Cluster)
    → ChainDoes t limits secret times event c (after t limits secret times event c)
event_does t limits secret times event c = record { heads = then_heads t limits secret times (InChain event) c; happens = (all_stay, refl); is = refl }

pub returns : goal.returns
unfolding all_tables
returns c t limits secret times u padded =
    let p : Fronted = fresh t limits secret times in
    let c0 : Cluster = opening_cluster t limits secret times 2 in
    let c1 : Cluster = with_front 1 p c0 in
    let c2 : Cluster = fenced (with_front 1 (asked t limits secret times 7) (record c1 { visible = Handled (quiet t 7) ∷ [] })) in
    let c3 : Cluster = after t limits secret times (Fail 1) c2 in
    let c4 : Cluster = after t limits secret times (Take (Server 1) Master) c3 in
    let c5 : Cluster = after t limits secret times (Take Master (Server 2)) c4 in
    let c6 : Cluster = with_front 2 p c5 in
    let c7 : Cluster = fenced (with_front 2 (asked t limits secret times 8) (record c6 { visible = Handled (quiet t 7) ∷ Handled (quiet t 8) ∷ [] })) in
    let h8 : Heads (CachedState Tree) = then_heads t limits secret times (Append 2 u) c7 in
    let c8 : Cluster = fenced (record c7 { heads = h8 }) in
    let q : Fronted = asked t limits secret times 8 in
    let c9 : Cluster = with_front 2 (record q { sent = quiet t 8 ∷ []; held = [] })
    (record c8 { visible = Handled (quiet t 7) ∷ Handled (quiet t 8) ∷ Sent (quiet t 8) ∷ [] }) in
    let d1 : BeginsAt t limits secret times 1 c0 c1 = record { m = nothing_cached t; is_head = refl; has_none = refl; is = refl } in
    let d2 : TakesAt t limits secret times 1 (Opened 7) c1 c2 = record { p = p; has = refl; v = opened 7 p.front; does = refl; heads = c1.heads; commits = refl; is = refl } in
    let d3 = event_does t limits secret times (Fail 1) c2 in
    let d4 = event_does t limits secret times (Take (Server 1) Master) c3 in
    let d5 = event_does t limits secret times (Take Master (Server 2)) c4 in
    let d6 : BeginsAt t limits secret times 2 c5 c6 = record { m = nothing_cached t; is_head = refl; has_none = refl; is = refl } in
    let d7 : TakesAt t limits secret times 2 (Opened 8) c6 c7 = record { p = p; has = refl; v = opened 8 p.front; does = refl; heads = c6.heads; commits = refl; is = refl } in
    let d8 : PadsAt t limits secret times 2 u c7 c8 = record { state = nothing_cached t; has = refl; changes_nothing = padded; heads = h8; commits = (refl, h8, (all_stay, refl), refl); is = refl } in
    let d9 : SendsAt t limits secret times 2 c8 c9 = record { p = q; has = refl; b = quiet t 8; more = []; waits = refl; left = refl; is = refl } in (
      c9,
      (c1, d1, (c2, d2, (c3, d3, (c4, d4, (c5, d5, (c6, d6, (c7, d7, (c8, d8, (c9, d9, refl))))))))),
      refl,
    )
