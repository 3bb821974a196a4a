-- What a server is that begins with a tree: it has no connections, and its attachments are those of
-- the tree's sessions.
use Rattle.std.proofs.Common.{◌≡◌, ◌∙◌, ℕ, List, Bool, true, sym, arith}
use Rattle.std.specs.FinMap as finite
use Rattle.std.specs.FinMap.{contains_key}
use Rattle.ztree.specs.Tree.{Tree}
use Rattle.zresponses.specs.declared.clock.Clock.{Clock}
use Rattle.zconnections.specs.declared.buffers.phase.Phase.TheVariants.{Speaking}
use Rattle.zwatches.specs.declared.limits.WatchLimits.{WatchLimits}
use Rattle.zprotocol.specs.world.FromTree.{CanStart}
use Rattle.zfront.specs.Front.{FrontView}
use Rattle.zfront.specs.Restoring.{beginning}
use Rattle.zfront_laws.specs.Making.{EverySessionIsRestored}
use Rattle.zfront_laws.specs.Runs.{KeepsFew}
use Rattle.zfront_laws.proofs.Bare.{IsBare, each_sits, is_listed, no_phase, seats_bare}
use Rattle.zfront_laws.proofs.Held.{held-empty}
use Rattle.zfront_laws.proofs.Seated.{Has}
use Rattle.zfront_laws.proofs.Steps.{Fine}

module _ (limits : WatchLimits) (t : Tree) (secret : List ℕ) (times : Clock) (is_kept : Bool) where
  abbrev v : FrontView
  v = beginning limits t secret times is_kept

  pub is_bare : IsBare v.tables
  is_bare = seats_bare limits (finite.keys t.sessions)

  pub is_few : KeepsFew v
  is_few = omega (arith, held-empty)

  -- its sessions are those of the tree
  pub sits : (id : ℕ) → contains_key t.sessions id ≡ true → Has v.tables.attachments id
  sits id lives = each_sits (finite.keys t.sessions) finite.empty id (sym (finite.contains_key-keys t.sessions id) ∙ lives)

  pub lives : (id : ℕ) → Has v.tables.attachments id → contains_key t.sessions id ≡ true
  lives id has = finite.contains_key-keys t.sessions id ∙ is_listed limits (finite.keys t.sessions) id has.0 has.1

  pub is_fine : CanStart t → Fine v
  is_fine can = record { seated = λ c session speaks. absurd (no_phase v.tables is_bare c (Speaking session) speaks); alive = lives; can = can }

pub every_session_is_restored : EverySessionIsRestored
every_session_is_restored limits t secret times is_kept session there =
    let has = sits limits t secret times is_kept session there in
    (has.0, has.1, ((is_bare limits t secret times is_kept).apart session has.0 has.1).free)
