-- The service's own nodes, `/zookeeper` and below, which can be read and never written. The source
-- is ZooKeeper 3.8 (`DataTree`), where it is a single server without quotas.
use Rattle.std.specs.Prelude.{ℕ, ℤ, pos, negsuc, Bool, ◌||◌, nat_eq, List, [], ◌∷◌, codes, Option, None, Some, if◌then◌else◌}
use Rattle.std.specs.List.{starts_with}
use Rattle.std.specs.Option.{option_map_or}
use Rattle.std.specs.Str.{bytes_eq}
use Rattle.zjute.specs.declared.code.Code.{Code}
use Rattle.zjute.specs.declared.code.Code.TheVariants.{NoNode}
use Rattle.zjute.specs.declared.reply.Body.TheVariants as body
use Rattle.zjute.specs.declared.request.Asked.{Asked}
use Rattle.zjute.specs.declared.request.Asked.TheVariants as asked
use Rattle.zjute.specs.declared.stat.StatRecord.{StatRecord as ReportedStat}
use Rattle.zrequests.specs.declared.limits.TheConstants.{ALL_PERMISSIONS}
use Rattle.zresponses.specs.declared.answer.Answer.{Answer}
use Rattle.zresponses.specs.declared.own.OwnNode.{OwnNode}
use Rattle.zresponses.specs.declared.own.OwnNode.TheVariants.{Service, Config, Quota}
use Rattle.zresponses.specs.Answers.{done, failed, acls_for_all}

-- the path is of the service's own
abbrev pub is_own : List ℕ → Bool
is_own text = bytes_eq text (codes "/zookeeper") || starts_with nat_eq text (codes "/zookeeper/")

-- the node at a path; no other is there
abbrev pub node_at : List ℕ → Option OwnNode
node_at text =
    if bytes_eq text (codes "/zookeeper") then Some Service else
    if bytes_eq text (codes "/zookeeper/config") then Some Config else
    if bytes_eq text (codes "/zookeeper/quota") then Some Quota else
    None

-- a stat whose other numbers are 0
abbrev pub stat_with : ℤ → ℤ → ℤ → ReportedStat
stat_with cversion aversion children = record {
  czxid = pos 0;
  mzxid = pos 0;
  ctime = pos 0;
  mtime = pos 0;
  version = pos 0;
  cversion = cversion;
  aversion = aversion;
  ephemeral_owner = pos 0;
  data_length = pos 0;
  num_children = children;
  pzxid = pos 0;
}

-- the stat of a node
abbrev pub own_stat : OwnNode → ReportedStat
own_stat Service = stat_with (negsuc 1) (pos 0) (pos 2)
own_stat Config = stat_with (pos 0) (negsuc 0) (pos 0)
own_stat Quota = stat_with (pos 0) (pos 0) (pos 0)

-- the names of its children
abbrev pub own_names : OwnNode → List (List ℕ)
own_names Service = codes "config" ∷ codes "quota" ∷ []
own_names Config = []
own_names Quota = []

-- what anyone may do with it, by its ACL
abbrev pub own_perms : OwnNode → ℤ
own_perms Service = ALL_PERMISSIONS
own_perms Config = pos 1
own_perms Quota = ALL_PERMISSIONS

-- the path that a request reads
abbrev pub read_path : Asked → Option (List ℕ)
read_path (asked.Exists look) = look.path
read_path (asked.GetData look) = look.path
read_path (asked.GetChildren look) = look.path
read_path (asked.GetChildren2 look) = look.path
read_path (asked.GetAcl path) = path
read_path other = None

-- the same, if it is of the service's own
abbrev pub own_path : Option (List ℕ) → Option (List ℕ)
own_path None = None
own_path (Some text) = if is_own text then Some text else None

-- the answer to a read of a node; none has data
abbrev pub read_answer : OwnNode → Asked → Answer
read_answer node (asked.GetData look) = done (body.DataStat (Some []) (own_stat node))
read_answer node (asked.GetChildren look) = done (body.Names (own_names node))
read_answer node (asked.GetChildren2 look) = done (body.NamesStat (own_names node) (own_stat node))
read_answer node (asked.GetAcl path) = done (body.AclsStat (acls_for_all (own_perms node)) (own_stat node))
read_answer node other = done (body.Stat (own_stat node))

-- the answer to a read of this path
abbrev pub answer_at : Asked → List ℕ → Answer
answer_at asks text = option_map_or (λ node. read_answer node asks) (node_at text) (failed NoNode)

-- the answer to a request that makes no call: what it reads of these nodes, or else this code
abbrev pub refused_answer : Code → Asked → Answer
refused_answer code asks = option_map_or (answer_at asks) (own_path (read_path asks)) (failed code)
