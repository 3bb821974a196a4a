-- The words of a node, how its program ends, and what a run of it did: this project's own profile.
use Rattle.std.specs.Prelude.{◌≡◌, ◌&&◌, ℕ, Bool, true, false, if◌then◌else◌, List, [], ◌∷◌, codes, Option, None, Some}
use Rattle.std.specs.Str.{bytes_eq}
use Rattle.zarguments.specs.Words.{words_fault_status, words_fault_text}
use Rattle.zarguments.specs.Reporting.{IsReported}
use Rattle.zdevices.specs.Device.{SourceRun, SinkRun}
use Rattle.zmaster_log.specs.Nodes.{is_node_name}
use Rattle.znode.specs.declared.fault.NodeFault.{NodeFault}
use Rattle.znode.specs.declared.fault.NodeFault.TheVariants as node
use Rattle.znode.specs.declared.fault.RunFault.{RunFault}
use Rattle.znode.specs.declared.fault.RunFault.TheVariants.{Words, Node, NoInput, Read, Write}
use Rattle.znode.specs.Node.{NodeView, IsNew, has_ended}
use Rattle.znode.specs.Steps.{Takes}
use Rattle.znode.specs.pipe.Serving.{ServesAll}

-- ---- words

-- after the program's name that of the node, and `--opens` if it may open an empty log
abbrev pub asked_by : List (List ℕ) → Option (List ℕ × Bool)
asked_by (program ∷ name ∷ []) = if is_node_name name then Some (name, false) else None
asked_by (program ∷ name ∷ option ∷ []) =
    if bytes_eq option (codes "--opens") && is_node_name name then Some (name, true) else None
asked_by words = None

-- ---- the end

-- the exit status of a node whose server is gone, and of one that was given what no host gives
abbrev pub ended_status : ℕ
ended_status = 75

abbrev pub input_status : ℕ
input_status = 65

abbrev pub node_status : NodeFault → ℕ
node_status node.Memory = 1
node_status fault = input_status

abbrev pub run_status : RunFault → ℕ
run_status (Words fault) = words_fault_status fault
run_status (Node fault) = node_status fault
run_status NoInput = input_status
run_status Read = 1
run_status Write = 1

-- the line that a program reports
abbrev pub node_text : NodeFault → List ℕ
node_text node.Memory = codes "zk: memory"
node_text node.Entry = codes "zk: an entry of the log is none"
node_text node.Order = codes "zk: an entry of the log isn't the next one"
node_text node.NoServer = codes "zk: a record of a link, and no server"
node_text node.Master = codes "zk: a record of a link from the master"
node_text (node.Peer fault) = codes "zk: a record of a link that no peer sends"
node_text node.TooLong = codes "zk: a message is too long for a frame"

abbrev pub run_text : RunFault → List ℕ
run_text (Words fault) = words_fault_text fault
run_text (Node fault) = node_text fault
run_text NoInput = codes "zk: no input of a host"
run_text Read = codes "zk: read failed"
run_text Write = codes "zk: write failed"

-- ---- a run

-- a new node of that name took all that the source gave, and the sink took its answers
pub record HasRun (ended : Bool) (words : List (List ℕ)) (source : SourceRun) (sink : SinkRun) : Type 0 where
  pub name : List ℕ
  pub opens : Bool
  pub asked : asked_by words ≡ Some (name, opens)
  pub first : NodeView
  pub new : IsNew name opens first
  pub last : NodeView
  pub served : ServesAll Takes has_ended ended source.gave sink.took first last

-- a fault ended the run, and its line was reported
abbrev pub HasFailed : ℕ → SinkRun → Type 0
HasFailed status faults = (fault : RunFault) × (status ≡ run_status fault) × IsReported faults (run_text fault)
