-- All answers of a cluster's fronts are one plain tree's, in real time.
use Rattle.std.proofs.Common.{ℕ, List, [], ◌∷◌, sym, subst}
use Rattle.ztree.specs.Tree.{Tree}
use Rattle.zlinearizability.specs.chain.Account.{Account, opening_account}
use Rattle.zlinearizability.specs.legal.Prefix.{IsPrefix}
use Rattle.zlinearizability.proofs.legal_lemmas.lists.Prefixes.{prefix_same, prefix_of}
use Rattle.zheads.proofs.Fits.{updates, prefix_updates}
use Rattle.zheads.proofs.OneTree.{holds_opening, explained}
use Rattle.zwatches.specs.declared.limits.WatchLimits.{WatchLimits}
use Rattle.zresponses.specs.declared.clock.Clock.{Clock}
use Rattle.zcluster_laws.specs.Cluster.{Cluster, Step, Runs, opening_cluster}
use Rattle.zcluster_laws.specs.Laws.{Explains, EveryClusterIsOneTree}
use Rattle.zcluster_laws.proofs.Stands.{plain, Good}
use Rattle.zcluster_laws.proofs.Steps.{step_good}
use Rattle.zcluster_laws.proofs.Settled.{AreSettled, step_settled}

module _ (t0 : Tree) (limits : WatchLimits) (secret : List ℕ) (times : Clock) where
  -- what holds after steps
  abbrev AllAfter : Account → Cluster → Type 0
  AllAfter t c = (later : Account) × Good t0 c later × AreSettled t0 c × IsPrefix t.committed later.committed

  -- steps in order
  run_good : (steps : List Step) (c new : Cluster) (t : Account) → Good t0 c t → AreSettled t0 c → Runs t0 limits secret times steps c new → AllAfter t new
  run_good [] c new t x y is = (t, subst (λ z. Good t0 z t) (sym is) x, subst (AreSettled t0) (sym is) y, prefix_same t.committed)
  run_good (step ∷ steps) c new t x y (middle, did, rest) =
      let first = step_good t0 limits secret times c t x step middle did in
      let last = run_good steps middle new first.0 first.1 (step_settled t0 limits secret times c t x y step middle did) rest in
      (last.0, last.1, last.2, prefix_of t.committed first.0.committed last.0.committed first.2 last.3)

  opening_good : (servers : ℕ) → Good t0 (opening_cluster t0 limits secret times servers) (opening_account (plain t0) servers 0)
  opening_good servers = record {
    holds = holds_opening (plain t0) servers;
    heads = λ z p has. absurd (cc has);
    fronts = λ z p has. absurd (cc has);
    served = λ b a. absurd a;
    in_time = λ first second before. absurd before;
  }

  opening_settled : (servers : ℕ) → AreSettled t0 (opening_cluster t0 limits secret times servers)
  opening_settled servers = record {
    quiet = λ note a. absurd a;
    noted = λ z p has. absurd (cc has);
    acknowledged = λ b a. absurd a;
  }

  explains : (c : Cluster) (t : Account) → Good t0 c t → AreSettled t0 c → Explains t0 c (updates t.committed)
  explains c t x y = record {
    calls = explained (plain t0) c.heads t x.holds;
    acknowledged = y.acknowledged;
    served = x.served;
    in_time = x.in_time;
  }

pub every_cluster_is_one_tree : EveryClusterIsOneTree
every_cluster_is_one_tree t limits secret times servers steps c runs =
    let start = opening_cluster t limits secret times servers in
    let had = run_good t limits secret times steps start c (opening_account (plain t) servers 0) (opening_good t limits secret times servers)
    (opening_settled t limits secret times servers) runs in (
      updates had.0.committed,
      explains t limits secret times c had.0 had.1 had.2,
      λ more later on.
          let has = run_good t limits secret times more c later had.0 had.1 had.2 on in (
            updates has.0.committed,
            explains t limits secret times later has.0 has.1 has.2,
            prefix_updates had.0.committed has.0.committed has.3,
          ),
    )
