-- Faults of what a node calls, as its own.
use Rattle.std.specs.Prelude.{◌≡◌, ◌⊎◌, ℕ, Option}
use Rattle.zcodec.specs.declared.fault.ReadError.{ReadError}
use Rattle.zcodec.specs.declared.fault.ReadError.TheVariants as reading
use Rattle.zmaster_log.specs.declared.play_fault.PlayFault.{PlayFault}
use Rattle.zmaster_log.specs.declared.play_fault.PlayFault.TheVariants as playing
use Rattle.zwire.specs.declared.fault.WriteError.{WriteError}
use Rattle.zwire.specs.declared.fault.WriteError.TheVariants as writing
use Rattle.zpeers.specs.declared.fault.PeerFault.{PeerFault}
use Rattle.zpeers.specs.declared.fault.PeerFault.TheVariants as peer
use Rattle.zprotocol.specs.declared.process.Process.{Process}
use Rattle.zprotocol.specs.declared.process.Process.TheVariants.{Server}
use Rattle.zpeers.specs.Records.{LinkRecord}
use Rattle.zpeers.specs.Incoming.{ArrivingView, IsPeerFault}
use Rattle.znode.specs.declared.fault.NodeFault.{NodeFault}
use Rattle.znode.specs.declared.fault.NodeFault.TheVariants.{Memory, Entry, Order, Peer, TooLong}

abbrev pub of_reading : ReadError → NodeFault
of_reading reading.Memory = Memory
of_reading (reading.Fault it) = Entry

abbrev pub of_playing : PlayFault → NodeFault
of_playing playing.Memory = Memory
of_playing playing.NotNext = Order
of_playing playing.Full = Order

abbrev pub of_writing : WriteError → NodeFault
of_writing writing.Memory = Memory
of_writing writing.TooLong = TooLong

abbrev pub of_peer : PeerFault → NodeFault
of_peer peer.Memory = Memory
of_peer it = Peer it

-- why a record of a link ends the node: memory ran out, or a server's record is refused
abbrev pub IsLinkFault : ℕ → Process → LinkRecord → Option ArrivingView → PeerFault → Type 0
IsLinkFault own from r loaded it =
    (it ≡ peer.Memory) ⊎ ((s : ℕ) × (from ≡ Server s) × IsPeerFault (Server own) (Server s) r loaded it)
