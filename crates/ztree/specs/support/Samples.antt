-- Samples for the worked rows.
use Rattle.std.specs.Prelude.{ℕ, Bool, List, [], ◌∷◌, codes}
use Rattle.std.specs.FinMap as finite
use Rattle.ztree.specs.Limits.{profile}
use Rattle.ztree.specs.Tree.{Tree, Path, with_node}
use Rattle.ztree.specs.declared.term.Term.TheVariants.{Timed, Container}
use Rattle.ztree.specs.declared.node.Node.{Node}
use Rattle.ztree.specs.declared.node.Stat.{Stat}
use Rattle.ztree.specs.declared.session.Session.{Session}

-- two names
abbrev pub a : List ℕ
a = codes "a"

abbrev pub b : List ℕ
b = codes "b"

-- the path of the first, and that of the second beneath it
abbrev pub at_a : Path
at_a = a ∷ []

abbrev pub at_a_b : Path
at_a_b = a ∷ (b ∷ [])

-- a node no two of whose numbers are the same
abbrev pub some_node : Node
some_node =
    record {
      bytes = 7 ∷ 7 ∷ [];
      czxid = 1;
      mzxid = 2;
      pzxid = 3;
      ctime = 4;
      mtime = 5;
      version = 6;
      cversion = 8;
      aversion = 13;
      owner = 9;
      seq = 10;
      term = Timed 12;
    }

-- the same as a container that no one owns: one that had eight changes of its children, and one that never had a child
abbrev pub container : Node
container = record some_node { owner = 0; term = Container }

abbrev pub fresh_container : Node
fresh_container = record container { cversion = 0 }

-- its stat where it has eleven children
abbrev pub some_stat : Stat
some_stat =
    record { czxid = 1; mzxid = 2; pzxid = 3; ctime = 4; mtime = 5; version = 6; cversion = 8; aversion = 13; owner = 9; length = 2; children = 11 }

-- the node after a change of this number made a child beneath it, or took one away; and after it made one that it numbered
abbrev pub after_change : ℕ → Node
after_change z = record some_node { pzxid = z; cversion = 9 }

abbrev pub after_numbered_child : ℕ → Node
after_numbered_child z = record some_node { pzxid = z; cversion = 9; seq = 11 }

-- the node after change 20, at tick 21, wrote the second name's bytes
abbrev pub written_node : Node
written_node = record some_node { bytes = b; mzxid = 20; mtime = 21; version = 7 }

-- a node of these bytes, of owner 9 and with a time to live of 12, made by that change
abbrev pub made_node : Node
made_node =
    record {
      bytes = b;
      czxid = 20;
      mzxid = 20;
      pzxid = 20;
      ctime = 21;
      mtime = 21;
      version = 0;
      cversion = 0;
      aversion = 0;
      owner = 9;
      seq = 0;
      term = Timed 12;
    }

-- a session of client 3 with a timeout of five ticks, opened at tick 4
abbrev pub some_session : Session
some_session = record { client = 3; timeout = 5; deadline = 9 }

-- a tree of the root and one node beneath it, at tick 30 and after change 40
abbrev pub two_nodes : Tree
two_nodes =
    record {
      nodes = finite.insert (finite.insert finite.empty [] some_node) at_a some_node;
      sessions = finite.empty;
      time = 30;
      zxid = 40;
      limits = profile;
    }

-- the same where the next change made a node beneath the second one, of owner 9 and with a time to live of 12: under a name
-- that the call gave, or that its parent numbered
abbrev pub three_nodes : Bool → Tree
three_nodes is_sequential = with_node two_nodes at_a_b b 9 (Timed 12) is_sequential

-- a tree of a container at the root, and of this one beneath it
abbrev pub with_container : Node → Tree
with_container n = record two_nodes { nodes = finite.insert (finite.insert finite.empty [] container) at_a n }
