-- The rows of the worked examples.
use Rattle.std.specs.Prelude.{ℕ, [], ◌∷◌}
use Rattle.ztree.specs.declared.term.Term.TheVariants.{Timed}
use Rattle.ztree.specs.declared.node.Node.{Node}
use Rattle.ztree.specs.declared.session.Session.{Session}
use Rattle.ztree.specs.Tree.{Path}
use Rattle.zcalls.specs.Cached.{Cached}
use Rattle.zcalls.specs.declared.reply.Reply.TheVariants.{Deleted}
use Rattle.zsnapshots.specs.declared.header.Header.{Header}
use Rattle.zsnapshots.specs.Rows.{kept_of}

-- Entry 5 was the last, at tick 9 and zxid 12. The tree has at most 6 nodes, 7 sessions and a
-- timeout of 8. A session, two nodes and a reply follow.
abbrev pub header : Header
header = record {
  last = 5;
  time = 9;
  zxid = 12;
  limits = record { nodes = 6; sessions = 7; timeout = 8 };
  sessions = 1;
  nodes = 2;
  replies = 1;
}

-- session 3 of client 2
abbrev pub session : ℕ × Session
session = (3, record { client = 2; timeout = 10; deadline = 19 })

-- the node /a, with the numbers from 1 to 11
abbrev pub node : Path × Node
node = (
  (97 ∷ []) ∷ [],
  record {
    bytes = 104 ∷ 105 ∷ [];
    czxid = 1;
    mzxid = 2;
    pzxid = 3;
    ctime = 4;
    mtime = 5;
    version = 6;
    cversion = 7;
    aversion = 8;
    owner = 9;
    seq = 10;
    term = Timed 11;
  },
)

-- call 7 of client 2 was a delete
abbrev pub reply : ℕ × Cached
reply = (2, kept_of 7 Deleted)
