-- What a server accepts in requests, chosen when it starts. The source is the ZooKeeper
-- Administrator's Guide, "Configuration Parameters" (tickTime, jute.maxbuffer). The limits are this
-- project's.
use Rattle.std.specs.Prelude.{ℕ, ◌<◌, ◌≤◌}
use Rattle.ztree.specs.declared.limits.TheConstants.{MAX_DATA, MOST_DATA}
use Rattle.zcalls.specs.declared.limits.TheConstants.{MAX_PARTS, MOST_PARTS}

-- the terms: the milliseconds of a tick, the greatest size of a node's data, and the most parts of a
-- multi, which are the most looks of a multiRead, too
pub record Terms : Type 0 where
  pub tick : ℕ
  pub bytes : ℕ
  pub parts : ℕ

-- A server can be set to these terms. A multi of one part is always accepted.
pub record AreTerms (terms : Terms) : Type 0 where
  pub few_bytes : terms.bytes ≤ MOST_DATA
  pub some_parts : 0 < terms.parts
  pub few_parts : terms.parts ≤ MOST_PARTS

-- the terms of this project's profile, for this tick
abbrev pub profile : ℕ → Terms
profile tick = record { tick = tick; bytes = MAX_DATA; parts = MAX_PARTS }
