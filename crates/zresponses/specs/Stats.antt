-- The stat in an answer. The source is `Stat` of zookeeper.jute and the ZooKeeper Programmer's
-- Guide, "ZooKeeper Stat Structure". Times are counted in ticks from the service's start and
-- returned in milliseconds, and zxids begin at a base: that is this project's profile.
use Rattle.std.specs.Prelude.{ℕ, ◌+◌, ◌*◌, ◌%◌, ◌^◌, ℤ}
use Rattle.std.specs.Int.{w32, w64, cast_signed}
use Rattle.ztree.specs.Tree.{new_node, stat_with}
use Rattle.ztree.specs.declared.node.Stat.{Stat}
use Rattle.zcalls.specs.declared.call.Create.{Create}
use Rattle.zcalls.specs.Part.{owner_of, term_of}
use Rattle.zjute.specs.declared.stat.StatRecord.{StatRecord as ReportedStat}
use Rattle.zresponses.specs.declared.clock.Clock.{Clock}
use Rattle.zresponses.specs.declared.clock.Now.{Now}

-- a number as an `int` of zookeeper.jute: its low 32 bits, the highest of which is the sign
abbrev pub int_of : ℕ → ℤ
int_of n = cast_signed w32 (n % 2 ^ 32)

-- a number as a `long`: its low 64 bits
abbrev pub long_of : ℕ → ℤ
long_of n = cast_signed w64 (n % 2 ^ 64)

-- a zxid of the tree as clients are told it: with this base added
abbrev pub told : ℕ → ℕ → ℤ
told base zxid = long_of (base + zxid)

-- the time of a tick, in milliseconds since 1970
abbrev pub millis_at : Clock → ℕ → ℕ
millis_at clock ticks = clock.started + ticks * clock.terms.tick

-- the stat for a client. The owner of a container is a mark of the tree, its highest bit, and
-- clients are told none
abbrev pub stat_reported : Clock → Stat → ReportedStat
stat_reported clock s = record {
  czxid = told clock.base s.czxid;
  mzxid = told clock.base s.mzxid;
  ctime = long_of (millis_at clock s.ctime);
  mtime = long_of (millis_at clock s.mtime);
  version = int_of s.version;
  cversion = int_of s.cversion;
  aversion = int_of s.aversion;
  ephemeral_owner = long_of (s.owner % 2 ^ 63);
  data_length = int_of s.length;
  num_children = int_of s.children;
  pzxid = told clock.base s.pzxid;
}

-- the stat of a node that a create has just made
abbrev pub made_stat : Now → Create → Stat
made_stat now create = stat_with (new_node create.bytes (owner_of create.kind.lifetime) (term_of create.kind.lifetime) now.zxid now.time) 0
