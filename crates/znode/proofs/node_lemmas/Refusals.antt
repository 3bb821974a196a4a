-- Records of links that are refused.
use Rattle.std.proofs.Common.{◌≡◌, ◌≢◌, ◌⊎◌, inl, inr, ℕ, Option, Some, sym, subst}
use Rattle.zprotocol.specs.declared.process.Process.{Process}
use Rattle.zprotocol.specs.declared.process.Process.TheVariants.{Server, Client}
use Rattle.zpeers.specs.Records.{LinkRecord}
use Rattle.zpeers.specs.declared.fault.PeerFault.{PeerFault}
use Rattle.zpeers.specs.declared.fault.PeerFault.TheVariants as peer
use Rattle.zpeers.specs.Incoming.{ArrivingView, IsPeerFault, arriving_from}
use Rattle.znode.specs.pipe.Inputs.{Link}
use Rattle.znode.specs.Node.{NodeView}
use Rattle.znode.specs.Steps.{IsDropped, IsNodeFault}
use Rattle.znode.specs.support.Faults.{IsLinkFault, of_peer}

server_fault : (v : NodeView) (own s : ℕ) (r : LinkRecord) (it : PeerFault) → v.replica.own ≡ Some own
    → IsPeerFault (Server own) (Server s) r (arriving_from v.incoming (Server s)) it → IsNodeFault v (Link (Server s) r) (of_peer it)
server_fault v own s r peer.Memory is bad = tt
server_fault v own s r peer.TooLong is bad = (own, is, bad)
server_fault v own s r peer.NoTag is bad = (own, is, bad)
server_fault v own s r peer.RowsAwaited is bad = (own, is, bad)
server_fault v own s r peer.NothingLoaded is bad = (own, is, bad)
server_fault v own s r (peer.Contents it) is bad = (own, is, bad)
server_fault v own s r peer.OtherSender is bad = (own, is, bad)
server_fault v own s r peer.OtherReceiver is bad = (own, is, bad)
server_fault v own s r (peer.Row it) is bad = (own, is, bad)
server_fault v own s r peer.NotEmpty is bad = (own, is, bad)
server_fault v own s r peer.Unfinished is bad = (own, is, bad)

-- what a record ends the node with
pub link_fault : (v : NodeView) (own : ℕ) (from : Process) (r : LinkRecord) (it : PeerFault) → v.replica.own ≡ Some own
    → IsLinkFault own from r (arriving_from v.incoming from) it → IsNodeFault v (Link from r) (of_peer it)
link_fault v own from r it is bad = elim bad [
  | inl memory ↦ subst (λ (e : PeerFault). IsNodeFault v (Link from r) (of_peer e)) (sym memory) tt
  | inr server ↦
      let same : IsPeerFault (Server own) (Server server.0) r (arriving_from v.incoming (Server server.0)) it =
      subst (λ (p : Process). IsPeerFault (Server own) (Server server.0) r (arriving_from v.incoming p) it) server.1 server.2 in
      subst (λ (p : Process). IsNodeFault v (Link p r) (of_peer it)) (sym server.1) (server_fault v own server.0 r it is same)
]

-- a refused record of a client is dropped
pub dropped : (own c : ℕ) (from : Process) (r : LinkRecord) (loaded : Option ArrivingView) (it : PeerFault) → it ≢ peer.Memory
    → from ≡ Client c → IsPeerFault (Server own) from r loaded it → IsDropped own from r loaded
dropped own c from r loaded it other is bad =
    subst (λ (p : Process). IsDropped own p r loaded) (sym is)
    (it, other, subst (λ (p : Process). IsPeerFault (Server own) p r loaded it) is bad)

-- any other ends the node
pub ended : (own : ℕ) (from : Process) (r : LinkRecord) (loaded : Option ArrivingView) (it : PeerFault)
    → IsPeerFault (Server own) from r loaded it → (it ≡ peer.Memory) ⊎ ((s : ℕ) × (from ≡ Server s)) → IsLinkFault own from r loaded it
ended own from r loaded it bad why = elim why [
  | inl memory ↦ inl memory
  | inr server ↦ inr (server.0, server.1, subst (λ (p : Process). IsPeerFault (Server own) p r loaded it) server.1 bad)
]
