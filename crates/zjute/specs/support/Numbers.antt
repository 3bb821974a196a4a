-- The numbers of codes, events and states, in order.
use Rattle.std.specs.Prelude.{ℤ, pos, List, [], ◌∷◌}
use Rattle.zjute.specs.declared.event.EventKind.{EventKind}
use Rattle.zjute.specs.declared.event.EventKind.TheVariants as event
use Rattle.zjute.specs.declared.event.KeeperState.{KeeperState}
use Rattle.zjute.specs.declared.event.KeeperState.TheVariants as state
use Rattle.zjute.specs.Jute.{neg}

abbrev pub code_numbers : List ℤ
code_numbers =
    pos 0 ∷ neg 1 ∷ neg 2 ∷ neg 3 ∷ neg 4 ∷ neg 5 ∷ neg 6 ∷ neg 7 ∷ neg 8 ∷ neg 12 ∷ neg 13 ∷
    neg 14 ∷ neg 100 ∷ neg 101 ∷ neg 102 ∷ neg 103 ∷ neg 108 ∷ neg 110 ∷ neg 111 ∷ neg 112 ∷
    neg 113 ∷ neg 114 ∷ neg 115 ∷ neg 118 ∷ neg 119 ∷ neg 120 ∷ neg 121 ∷ neg 122 ∷ neg 123 ∷
    neg 124 ∷ neg 125 ∷ neg 127 ∷ []

abbrev pub events : List EventKind
events =
    event.None ∷ event.NodeCreated ∷ event.NodeDeleted ∷ event.NodeDataChanged ∷
    event.NodeChildrenChanged ∷ event.DataWatchRemoved ∷ event.ChildWatchRemoved ∷
    event.PersistentWatchRemoved ∷ []

abbrev pub event_numbers : List ℤ
event_numbers =
    neg 1 ∷ pos 1 ∷ pos 2 ∷ pos 3 ∷ pos 4 ∷ pos 5 ∷ pos 6 ∷ pos 7 ∷ []

abbrev pub states : List KeeperState
states =
    state.Disconnected ∷ state.SyncConnected ∷ state.AuthFailed ∷ state.ConnectedReadOnly ∷
    state.SaslAuthenticated ∷ state.Closed ∷ state.Expired ∷ []

abbrev pub state_numbers : List ℤ
state_numbers =
    pos 0 ∷ pos 3 ∷ pos 4 ∷ pos 5 ∷ pos 6 ∷ pos 7 ∷ neg 112 ∷ []
