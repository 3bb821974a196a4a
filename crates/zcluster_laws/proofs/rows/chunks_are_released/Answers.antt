use Rattle.std.proofs.Common.{◌≡◌, true, [], ◌∷◌, ◌++◌, refl, subst}
use Rattle.zcalls.specs.declared.call.Call.TheVariants as call
use Rattle.zprotocol.proofs.world_lemmas.Tables.{all_tables}
use Rattle.zcluster_laws.specs.Cluster.{Fronted, Sent, have_left_sent, need, with_front}
use Rattle.zcluster_laws.specs.support.ClusterRows.{alone, appended, reaction, cluster, heads_after}
use Rattle.zcluster_laws.proofs.Worked.{first_is, is_not}
use Rattle.zcluster_laws.proofs.rows.chunks_are_released.Goals as goal

pub returns-clause-waits : goal.returns-clause-waits
unfolding all_tables
returns-clause-waits c t limits secret times u r p new did =
    let b = reaction ((call.Update u, r) ∷ []) 0 1 in
    let same = first_is (record p { held = b ∷ [] }) did.p b did.b [] did.more did.has refl did.waits in
    is_not (subst (λ x. have_left_sent ((heads_after t (appended u)).world.servers 1) (need x) ≡ true) same did.left)

pub returns-clause-released : goal.returns-clause-released
unfolding all_tables
returns-clause-released c t limits secret times u r p =
    let b = reaction ((call.Update u, r) ∷ []) 0 1 in
    let q : Fronted = record p { held = b ∷ [] } in
    let h = heads_after t (alone u) in (
      with_front 1 (record p { sent = p.sent ++ b ∷ []; held = [] }) (with_front 1 q (record { heads = h; fronts = (cluster h).fronts; visible = Sent b ∷ [] })),
      record { p = q; has = refl; b = b; more = []; waits = refl; left = refl; is = refl },
      refl,
    )

pub returns-clause-query : goal.returns-clause-query
unfolding all_tables
returns-clause-query c t limits secret times u q r s p new did =
    let b = reaction ((call.Update u, r) ∷ (call.Query q, s) ∷ []) 0 1 in
    let same = first_is (record p { held = b ∷ [] }) did.p b did.b [] did.more did.has refl did.waits in
    is_not (subst (λ x. have_left_sent ((heads_after t (alone u)).world.servers 1) (need x) ≡ true) same did.left)
