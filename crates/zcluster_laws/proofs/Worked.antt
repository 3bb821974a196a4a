-- Lemmas for the worked clusters.
use Rattle.std.proofs.Common.{◌≡◌, true, false, List, [], ◌∷◌, ◌++◌, length, Option, Some, None, sym, ap, ◌∙◌, arith}
use Rattle.std.specs.FinMap.{get-empty}
use Rattle.std.specs.Ordering.{nat_cmp}
use Rattle.ztree.specs.Tree.{Tree}
use Rattle.zcalls.specs.declared.call.Update.{Update}
use Rattle.zcalls.specs.declared.call.Update.TheVariants.{Ping, Tick}
use Rattle.zcalls.specs.Cached.{CachedState, nothing_cached, entry_by, entry_step}
use Rattle.zcalls.specs.Step.{step}
use Rattle.zprotocol.specs.server.Machine.{plain_from}
use Rattle.zcluster_laws.specs.Cluster.{Reaction, Fronted}

pub is_not : false ≡ true → ⊥
is_not is = cc is

-- the first reaction of a front
pub first_is : (q p : Fronted) (b d : Reaction) (rest more : List Reaction) → ◌≡◌ {A = Option Fronted} (Some q) (Some p) → q.held ≡ b ∷ rest → p.held ≡ d ∷ more → d ≡ b
first_is q p b d rest more same own waits =
    let is : q ≡ p = cc same in
    let both : d ∷ more ≡ b ∷ rest = sym waits ∙ ap (λ (x : Fronted). x.held) (sym is) ∙ own in cc both

-- the first entry of a machine acts
pub first_entry : (t : Tree) (u : Update)
    → (entry_step (plain_from t).update (nothing_cached t) (record { client = 0; number = 1; update = u })).0.plain ≡ (step t 0 u).0
unfolding entry_step
first_entry t u =
    ap (λ k. (entry_by (plain_from t).update (nothing_cached t) (record { client = 0; number = 1; update = u }) k).0.plain) (get-empty nat_cmp 0)

-- a log without entries before
pub at_first : (log front rest : List Update) → log ≡ front ++ rest → 0 ≡ length front → log ≡ rest
at_first log [] rest is none = is
at_first log (u ∷ front) rest is none = absurd (omega arith)

pub updates_differ : (xs ys : List Update) → Tick ∷ xs ≡ Ping 7 ∷ ys → ⊥
updates_differ xs ys is = cc

-- the tree of a machine, if there is one
abbrev pub plain_of : Option (CachedState Tree) → Option Tree
plain_of None = None
plain_of (Some m) = Some m.plain
