-- Laws of the answers. The statements are the contracts of the functions in `src/laws.rt`.
use Rattle.std.specs.Prelude.{◌≡◌, ℕ, ◌+◌, ◌^◌, ◌<◌, ℤ, pos, int_lt, FitsSigned, Some}
use Rattle.std.specs.Int.{w64}
use Rattle.ztree.specs.Tree.{Tree, Path, stat_at}
use Rattle.ztree.specs.Lawful.{IsLawful}
use Rattle.zcalls.specs.declared.call.Create.{Create}
use Rattle.zcalls.specs.declared.call.Update.TheVariants as act
use Rattle.zcalls.specs.declared.reply.Reply.TheVariants.{Created}
use Rattle.zcalls.specs.Step.{step}
use Rattle.zresponses.specs.declared.clock.Now.{Now}
use Rattle.zresponses.specs.Naming.{named}
use Rattle.zresponses.specs.Stats.{made_stat, told}

-- the last zxid and the tick of a tree
abbrev pub now_of : Tree → Now
now_of t = record { zxid = t.zxid; time = t.time }

-- the tree after a client's create
abbrev pub after_create : Tree → ℕ → Create → Tree
after_create t client create = (step t client (act.Create create)).0

-- The stat returned for a created node is the one that a query directly after the create returns.
abbrev pub MadeNodesHaveThisStat : Type 0
MadeNodesHaveThisStat =
    (t : Tree) (client : ℕ) (create : Create) (path : Path)
    → IsLawful t → (step t client (act.Create create)).1 ≡ Created path
    → stat_at (after_create t client create).nodes path ≡ Some (made_stat (now_of (after_create t client create)) create)

-- A zxid is told with the base added, if 63 bits hold that. One that a client names is before it by
-- the tree's zxids where it is so by those that were told.
pub record ZxidsAreToldFromTheBase : Type 0 where
  pub value : (base zxid : ℕ) → base + zxid < 2 ^ 63 → told base zxid ≡ pos (base + zxid)
  pub order : (base zxid : ℕ) (seen : ℤ) → base + zxid < 2 ^ 63 → FitsSigned w64 seen
      → int_lt (named base seen) (pos zxid) ≡ int_lt seen (told base zxid)
