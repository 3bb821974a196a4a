-- Times to live (TTLs) of znodes. The source is the ZooKeeper Programmer's Guide, "TTL Nodes". Their
-- range is this project's profile.
use Rattle.std.specs.Prelude.{ℕ, ◌<◌, ◌≤◌}
use Rattle.ztree.specs.declared.limits.TheConstants.{MAX_TTL}

-- a valid TTL, in ticks
abbrev pub IsTtl : ℕ → Type 0
IsTtl ticks = (0 < ticks) × (ticks ≤ MAX_TTL)
