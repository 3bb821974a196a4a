-- A front end that begins with a tree that was read.
use Rattle.std.specs.Prelude.{ℕ, ◌-◌, ◌*◌, true, false, List}
use Rattle.ztree.specs.Tree.{Tree}
use Rattle.zrequests.specs.Terms.{Terms}
use Rattle.zresponses.specs.declared.clock.Clock.{Clock}
use Rattle.zwatches.specs.declared.limits.WatchLimits.{WatchLimits}
use Rattle.zfront.specs.Inputs.{ServerView}
use Rattle.zfront.specs.Restoring.{beginning}

-- the clock of a tree that is at this tick now, in milliseconds since 1970, with these terms: so
-- times continue. A time before 1970 is 1970. Its zxids go on, so they have no base
abbrev pub clock_at : Terms → ℕ → ℕ → Clock
clock_at terms now_ms ticks = record { terms = terms; started = now_ms - ticks * terms.tick; base = 0 }

-- a front end that begins with this tree and these limits of watches, and has memory. Its changes
-- wait for a commit until they are taken
abbrev pub restored : WatchLimits → List ℕ → Terms → ℕ → Tree → ServerView
restored limits secret terms now_ms t = record {
  front = beginning limits t secret (clock_at terms now_ms t.time) true;
  is_broken = false;
}
