-- How a node is stored.
use Rattle.std.specs.Prelude.{ℕ, Bool, List, Option, refl}
use Rattle.std.specs.Coded.{Coded, code_by, coded×, coded_ℕ, coded_bool, coded_list, coded_option}
use Rattle.zactor.specs.Acting.{TreeStanding}
use Rattle.zactor.specs.support.Codes.{coded_standing}
use Rattle.zmaster_log.specs.contracts.replica.MasterReplica as replica
use Rattle.zmaster_log.specs.contracts.entry.News as report
use Rattle.zmaster_log.specs.declared.entry.News.{News}
use Rattle.zmaster_log.specs.Log.{ReplicaView}
use Rattle.zpeers.specs.Incoming.{IncomingView}
use Rattle.zpeers.specs.Outgoing.{OutgoingView}
use Rattle.zpeers.specs.support.Codes.{coded_incoming, coded_outgoing}
use Rattle.znode.specs.declared.status.NodeStatus.{NodeStatus}
use Rattle.znode.specs.contracts.status.NodeStatus as status
use Rattle.znode.specs.Node.{SeatView, NodeView}

abbrev pub coded_seat : Coded SeatView
coded_seat =
    code_by (TreeStanding × (Bool × (List News × OutgoingView)))
    (coded× coded_standing (coded× coded_bool (coded× (coded_list report.the_row.coded) coded_outgoing)))
    (λ s. (s.standing, (s.has_state, (s.reports, s.outgoing))))
    (λ p. record { standing = p.0; has_state = p.1.0; reports = p.1.1.0; outgoing = p.1.1.1 })
    (λ _. refl)

-- what a node knows of the log, and what else it has
abbrev Known : Type 0
Known = Bool × (Option (List ℕ) × (ReplicaView × Option NodeStatus))

abbrev coded_known : Coded Known
coded_known =
    coded× coded_bool (coded× (coded_option (coded_list coded_ℕ))
    (coded× replica.the_row.coded (coded_option status.the_row.coded)))

abbrev pub coded_node : Coded NodeView
coded_node =
    code_by (List ℕ × (Bool × (Known × (IncomingView × SeatView))))
    (coded× (coded_list coded_ℕ) (coded× coded_bool (coded× coded_known (coded× coded_incoming coded_seat))))
    (λ v. (v.name, (v.opens, ((v.is_at_end, (v.asked, (v.replica, v.known))), (v.incoming, v.seat)))))
    (λ p. record {
      name = p.0;
      opens = p.1.0;
      is_at_end = p.1.1.0.0;
      asked = p.1.1.0.1.0;
      replica = p.1.1.0.1.1.0;
      known = p.1.1.0.1.1.1;
      incoming = p.1.1.1.0;
      seat = p.1.1.1.1;
    })
    (λ _. refl)
