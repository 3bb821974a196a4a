-- How a node takes a record of a link.
use Rattle.std.proofs.Common.{◌≡◌, ◌≢◌, ℕ, Option, Some, refl, subst}
use Rattle.zprotocol.specs.declared.process.Process.{Process}
use Rattle.zprotocol.specs.declared.process.Process.TheVariants.{Master}
use Rattle.zserver.specs.Server.{TreeMessage}
use Rattle.zpeers.specs.Records.{LinkRecord}
use Rattle.zpeers.specs.Incoming.{IncomingView, OthersArrive, arriving_from}
use Rattle.znode.specs.Node.{NodeView, SeatView}
use Rattle.znode.specs.Server.{Hears}
use Rattle.znode.specs.Steps.{Comes, Receives}

-- a message is whole by it, and the server handles the message
pub receives : (v : NodeView) (own : ℕ) (from : Process) (r : LinkRecord) (came : Option TreeMessage) (m : TreeMessage)
    (incoming : IncomingView) (seat : SeatView) → v.replica.own ≡ Some own → from ≢ Master → came ≡ Some m
    → Comes own from r (arriving_from v.incoming from) (arriving_from incoming from) came → OthersArrive v.incoming incoming from
    → Hears own from m v.seat seat → Receives v from r (record v { incoming = incoming; seat = seat })
receives v own from r came m incoming seat is peer whole comes others hears = record {
  own = own;
  is_own = is;
  peer = peer;
  came = Some m;
  comes = subst (λ (c : Option TreeMessage). Comes own from r (arriving_from v.incoming from) (arriving_from incoming from) c) whole comes;
  others = others;
  heard = hears;
  rest = refl;
}
