-- How what waits, and what arrives, is stored.
use Rattle.std.specs.Prelude.{ℕ, List, Option, refl}
use Rattle.std.specs.Coded.{Coded, code_by, coded×, coded_ℕ, coded_list, coded_option}
use Rattle.zprotocol.specs.contracts.message.Message as message
use Rattle.zserver.specs.contracts.snapshot.Snapshot as snapshot
use Rattle.zserver.specs.Server.{TreeMessage}
use Rattle.zsnapshots.specs.Loading.{LoadingView}
use Rattle.zsnapshots.specs.support.Loading.{coded_loading}
use Rattle.zpeers.specs.Outgoing.{WaitingView, OutgoingView}
use Rattle.zpeers.specs.Incoming.{ArrivingView, IncomingView}

abbrev pub coded_waiting : Coded WaitingView
coded_waiting =
    code_by (TreeMessage × ℕ) (coded× (message.the_row snapshot.the_row).coded coded_ℕ)
    (λ w. (w.message, w.written)) (λ p. record { message = p.0; written = p.1 }) (λ _. refl)

abbrev pub coded_outgoing : Coded OutgoingView
coded_outgoing =
    code_by (List (List WaitingView)) (coded_list (coded_list coded_waiting))
    (λ o. o.queues) (λ queues. record { queues = queues }) (λ _. refl)

abbrev pub coded_arriving : Coded ArrivingView
coded_arriving =
    code_by (ℕ × LoadingView) (coded× coded_ℕ coded_loading)
    (λ a. (a.epoch, a.rows)) (λ p. record { epoch = p.0; rows = p.1 }) (λ _. refl)

abbrev pub coded_incoming : Coded IncomingView
coded_incoming =
    code_by (List (Option ArrivingView)) (coded_list (coded_option coded_arriving))
    (λ i. i.slots) (λ slots. record { slots = slots }) (λ _. refl)
