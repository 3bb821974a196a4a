-- How the values of servers are stored.
use Rattle.std.specs.Prelude.{ℕ, Option, List, refl}
use Rattle.std.specs.Coded.{Coded, code_by, coded×, coded_ℕ, coded_list, coded_option}
use Rattle.ztree.specs.Tree.{Tree}
use Rattle.zcalls.specs.declared.call.Entry.{Entry}
use Rattle.zcalls.specs.contracts.call.Entry as entry
use Rattle.zcalls.specs.Cached.{CachedState}
use Rattle.zops.specs.support.Codes.{coded_service}
use Rattle.zprotocol.specs.server.View.{Transfer, Neighbour}
use Rattle.zserver.specs.declared.stopped.Stopped.{Stopped}
use Rattle.zserver.specs.contracts.stopped.Stopped as stopped
use Rattle.zserver.specs.Server.{ServerState, TreeView}

-- how the payload of a Snapshot is stored
abbrev pub coded_transfer : Coded (Transfer (CachedState Tree))
coded_transfer = code_by (ℕ × CachedState Tree) (coded× coded_ℕ coded_service) (λ t. (t.last, t.machine)) (λ p. record { last = p.0; machine = p.1 }) (λ _. refl)

-- how a view is stored
abbrev pub coded_view : Coded TreeView
coded_view =
    code_by (Option (CachedState Tree) × (ℕ × (List (ℕ × Entry) × (Option Neighbour × Option Neighbour))))
    (coded× (coded_option coded_service) (coded× coded_ℕ (coded× (coded_list (coded× coded_ℕ entry.the_row.coded)) (coded× (coded_option (coded× coded_ℕ coded_ℕ)) (coded_option (coded× coded_ℕ coded_ℕ))))))
    (λ v. (v.machine, (v.last, (v.sent, (v.pred, v.succ)))))
    (λ p. record { machine = p.0; last = p.1.0; sent = p.1.1.0; pred = p.1.1.1.0; succ = p.1.1.1.1 }) (λ _. refl)

-- how a server is stored
abbrev pub coded_server : Coded ServerState
coded_server = code_by (TreeView × Option Stopped) (coded× coded_view (coded_option stopped.the_row.coded)) (λ s. (s.view, s.stopped)) (λ p. record { view = p.0; stopped = p.1 }) (λ _. refl)
