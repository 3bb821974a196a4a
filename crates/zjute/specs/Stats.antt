-- The stat of a node (`Stat` of zookeeper.jute).
use Rattle.std.specs.Prelude.{ℤ}
use Rattle.zcodec.specs.Forms.{Form, both}
use Rattle.zjute.specs.declared.stat.StatRecord.{StatRecord}
use Rattle.zjute.specs.Jute.{int, long}
use Rattle.zjute.specs.Shapes.{fields}

-- czxid, mzxid, ctime, mtime
abbrev pub Times : Type 0
Times = ℤ × (ℤ × (ℤ × ℤ))

abbrev pub times : Form Times
times = both long (both long (both long long))

abbrev pub times_of : StatRecord → Times
times_of s = (s.czxid, (s.mzxid, (s.ctime, s.mtime)))

-- version, cversion, aversion
abbrev pub Versions : Type 0
Versions = ℤ × (ℤ × ℤ)

abbrev pub versions : Form Versions
versions = both int (both int int)

abbrev pub versions_of : StatRecord → Versions
versions_of s = (s.version, (s.cversion, s.aversion))

-- ephemeralOwner, dataLength, numChildren, pzxid
abbrev pub Sizes : Type 0
Sizes = ℤ × (ℤ × (ℤ × ℤ))

abbrev pub sizes : Form Sizes
sizes = both long (both int (both int long))

abbrev pub sizes_of : StatRecord → Sizes
sizes_of s = (s.ephemeral_owner, (s.data_length, (s.num_children, s.pzxid)))

abbrev pub stat_of : Times × (Versions × Sizes) → StatRecord
stat_of f = record {
  czxid = f.0.0;
  mzxid = f.0.1.0;
  ctime = f.0.1.1.0;
  mtime = f.0.1.1.1;
  version = f.1.0.0;
  cversion = f.1.0.1.0;
  aversion = f.1.0.1.1;
  ephemeral_owner = f.1.1.0;
  data_length = f.1.1.1.0;
  num_children = f.1.1.1.1.0;
  pzxid = f.1.1.1.1.1;
}

unfoldable pub stat : Form StatRecord
stat = fields (both times (both versions sizes))
    (λ s. (times_of s, (versions_of s, sizes_of s))) stat_of
