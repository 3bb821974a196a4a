-- The rows of a snapshot: a header, and then a row for each session, node and cached reply. Each
-- row is a frame of its own, so that a state is written and read row by row.
use Rattle.std.specs.Prelude.{◌≡◌, ◌==◌, ℕ, List, ◌++◌, Result, Ok, Err, IfOk, IfErr, if◌then◌else◌, nat_le}
use Rattle.std.specs.Int.{w32}
use Rattle.zcodec.specs.declared.fault.Fault.{Fault}
use Rattle.zcodec.specs.declared.fault.Fault.TheVariants.{Invalid}
use Rattle.zcodec.specs.Forms.{Form, number, made, both}
use Rattle.zjute.specs.Shapes.{fields}
use Rattle.ztree.specs.declared.limits.TheConstants.{MAX_TTL}
use Rattle.ztree.specs.declared.limits.TreeLimits.{TreeLimits}
use Rattle.ztree.specs.declared.term.Term.{Term}
use Rattle.ztree.specs.declared.term.Term.TheVariants.{Unlimited, Timed, Container}
use Rattle.ztree.specs.Ttls.{IsTtl}
use Rattle.ztree.specs.declared.node.Node.{Node}
use Rattle.ztree.specs.declared.session.Session.{Session}
use Rattle.ztree.specs.Tree.{Path}
use Rattle.zcalls.specs.Cached.{Cached}
use Rattle.zcalls.specs.declared.reply.Reply.{Reply}
use Rattle.zwire.specs.records.Fields.{path, content, long}
use Rattle.zwire.specs.declared.limits.TheConstants.{MAX_FRAME}
use Rattle.zwire.specs.declared.fault.FrameFault.{FrameFault}
use Rattle.zwire.specs.declared.fault.FrameFault.TheVariants.{Memory}
use Rattle.zwire.specs.Fields.{call_number, log_number, client, three, five}
use Rattle.zwire.specs.Replies.{reply}
use Rattle.zwire.specs.Frames.{framed, IsFaultOf}
use Rattle.zsnapshots.specs.declared.limits.TheConstants.{CONTAINER}
use Rattle.zsnapshots.specs.declared.header.Header.{Header}

-- ---- the header

-- the number of the last entry, the clock, and the last zxid
abbrev pub clocks : Form (ℕ × (ℕ × ℕ))
clocks = both log_number (both long long)

abbrev pub clocks_of : Header → ℕ × (ℕ × ℕ)
clocks_of h = (h.last, (h.time, h.zxid))

-- the limits of the tree
abbrev pub limits_of : TreeLimits → ℕ × (ℕ × ℕ)
limits_of l = (l.nodes, (l.sessions, l.timeout))

unfoldable pub limits : Form TreeLimits
limits = fields three limits_of
    (λ f. record { nodes = f.0; sessions = f.1.0; timeout = f.1.1 })

-- how many rows of each kind follow
abbrev pub totals : Form (ℕ × (ℕ × ℕ))
totals = both (number w32) (both (number w32) (number w32))

abbrev pub totals_of : Header → ℕ × (ℕ × ℕ)
totals_of h = (h.sessions, (h.nodes, h.replies))

abbrev pub header_of : (ℕ × (ℕ × ℕ)) × (TreeLimits × (ℕ × (ℕ × ℕ))) → Header
header_of f = record {
  last = f.0.0;
  time = f.0.1.0;
  zxid = f.0.1.1;
  limits = f.1.0;
  sessions = f.1.1.0;
  nodes = f.1.1.1.0;
  replies = f.1.1.1.1;
}

unfoldable pub header_text : Form Header
header_text =
    fields (both clocks (both limits totals)) (λ h. (clocks_of h, (h.limits, totals_of h)))
    header_of

-- ---- nodes

-- czxid, mzxid, pzxid
abbrev pub zxids_of : Node → ℕ × (ℕ × ℕ)
zxids_of n = (n.czxid, (n.mzxid, n.pzxid))

-- ctime, mtime, version, cversion, aversion
abbrev pub counts_of : Node → ℕ × (ℕ × (ℕ × (ℕ × ℕ)))
counts_of n = (n.ctime, (n.mtime, (n.version, (n.cversion, n.aversion))))

-- owner, seq
abbrev pub marks_of : Node → ℕ × ℕ
marks_of n = (n.owner, n.seq)

-- the number of a term: 0 for an unlimited one, the ticks of a TTL, and one number for containers
abbrev pub term_number : Term → ℕ
term_number Unlimited = 0
term_number (Timed ttl) = ttl
term_number Container = CONTAINER

-- the term that has this number
abbrev pub term_from : ℕ → Result Term Fault
term_from n =
    if n == 0 then Ok Unlimited else
    if nat_le n MAX_TTL then Ok (Timed n) else
    if n == CONTAINER then Ok Container else
    Err Invalid

-- the term's TTL, if it has one, is valid
abbrev pub HasValidTtl : Term → Type 0
HasValidTtl Unlimited = Unit {0}
HasValidTtl (Timed ttl) = IsTtl ttl
HasValidTtl Container = Unit {0}

unfoldable pub term : Form Term
term = made long term_number term_from HasValidTtl

abbrev pub node_of :
    (ℕ × (ℕ × ℕ)) × ((ℕ × (ℕ × (ℕ × (ℕ × ℕ)))) × ((ℕ × ℕ) × (Term × List ℕ))) → Node
node_of f = record {
  czxid = f.0.0;
  mzxid = f.0.1.0;
  pzxid = f.0.1.1;
  ctime = f.1.0.0;
  mtime = f.1.0.1.0;
  version = f.1.0.1.1.0;
  cversion = f.1.0.1.1.1.0;
  aversion = f.1.0.1.1.1.1;
  owner = f.1.1.0.0;
  seq = f.1.1.0.1;
  term = f.1.1.1.0;
  bytes = f.1.1.1.1;
}

unfoldable pub node : Form Node
node = fields (both three (both five (both (both long long) (both term content))))
    (λ n. (zxids_of n, (counts_of n, (marks_of n, (n.term, n.bytes))))) node_of

-- a node with its path
unfoldable pub node_text : Form (Path × Node)
node_text = both path node

-- ---- sessions and cached replies

unfoldable pub session : Form Session
session = fields (both client (both long long)) (λ s. (s.client, (s.timeout, s.deadline)))
    (λ f. record { client = f.0; timeout = f.1.0; deadline = f.1.1 })

-- a session with its id
unfoldable pub session_text : Form (ℕ × Session)
session_text = both long session

abbrev pub kept_of : ℕ → Reply → Cached
kept_of number reply = record { number = number; reply = reply }

unfoldable pub kept : Form Cached
kept = fields (both call_number reply) (λ k. (k.number, k.reply))
    (λ f. kept_of f.0 f.1)

-- a cached reply with its client
unfoldable pub reply_text : Form (ℕ × Cached)
reply_text = both client kept

-- ---- rows

-- what is spelled in this form, as a row
abbrev pub row : {A : Type 0} → Form A → Form A
row c = framed MAX_FRAME c

-- What a reader of a row returned. The row that it found is spelled first in the bytes. A row that
-- is spelled there is found, unless memory ran out; else it is the first fault.
pub record IsReadAs {A V : Type 0} (c : Form A) (of : V → A × List ℕ) (result : Result V FrameFault)
    (bytes : List ℕ) : Type 0 where
  pub found : IfOk result (λ v.
      (row c).Fits (of v).0 × (bytes ≡ (row c).spell (of v).0 ++ (of v).1))
  pub only : (x : A) (rest : List ℕ) → (row c).Fits x → bytes ≡ (row c).spell x ++ rest →
      IfOk result (λ v. ((of v).0 ≡ x) × ((of v).1 ≡ rest)) × IfErr result (λ fault. fault ≡ Memory)
  pub fault : IfErr result (IsFaultOf c bytes)
