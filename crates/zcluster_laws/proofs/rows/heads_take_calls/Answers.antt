use Rattle.std.proofs.Common.{refl, ap, ◌∙◌}
use Rattle.ztree.specs.Tree.{Tree}
use Rattle.zcalls.specs.Cached.{CachedState}
use Rattle.zprotocol.proofs.world_lemmas.Tables.{all_tables}
use Rattle.zlinearizability.specs.Cuts.{Stays}
use Rattle.zheads.specs.Heads.{Heads, next}
use Rattle.zcluster_laws.specs.Cluster.{machine}
use Rattle.zcluster_laws.specs.support.ClusterRows.{appended, fails, heads_after}
use Rattle.zcluster_laws.proofs.rows.heads_take_calls.Goals as goal

pub returns-clause-update : goal.returns-clause-update
unfolding all_tables
returns-clause-update c t limits secret times u new did = ap (λ (h : Heads (CachedState Tree)). (h.world.servers 1).last) (did.3 ∙ did.2.1)

pub returns-clause-lost : goal.returns-clause-lost
unfolding all_tables
returns-clause-lost c t limits secret times u =
    let old : Heads (CachedState Tree) = heads_after t (appended u) in
    let gone : Stays = λ from to. 0 in (next (machine t limits secret times) old (gone, fails 1), (gone, refl), refl)
