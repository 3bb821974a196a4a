-- Setting, checking and removing the watches of a connection. The source is the ZooKeeper
-- Programmer's Guide, "ZooKeeper Watches" and "Remove Watches". The error for a full table is this
-- project's profile.
use Rattle.std.specs.Prelude.{◌≡◌, ℕ, Bool, List, [], ◌∷◌, Option, None, Some, if◌then◌else◌}
use Rattle.std.specs.FinSet.{insert}
use Rattle.ztree.specs.Tree.{Path}
use Rattle.zcalls.specs.Lists.{Among}
use Rattle.zjute.specs.declared.code.Code.{Code}
use Rattle.zjute.specs.declared.code.Code.TheVariants.{SystemError, NoWatcher}
use Rattle.zjute.specs.declared.watch_type.WatchType.{WatchType}
use Rattle.zwatches.specs.declared.kind.Kind.{Kind}
use Rattle.zwatches.specs.Removal.{has_meant, without_meant}
use Rattle.zwatches.specs.Watches.{watch, is_full}
use Rattle.zconnections.specs.Tables.{TablesView, sent}
use Rattle.zconnections.specs.Reporting.{event_frame}
use Rattle.zresponses.specs.declared.effects.wish.Wish.{Wish}
use Rattle.zresponses.specs.declared.effects.wish.Wish.TheVariants.{Waits, Reports, Has, Ends}

-- a watch is set, if there is room for it
abbrev pub waiting : ℕ → Kind → Path → TablesView → TablesView
waiting c kind path t =
    if is_full t.limits t.watches (watch path kind c) then t else record t { watches = insert t.watches (watch path kind c) }

-- the watches of a connection at a path, of this type, are removed
abbrev pub unwatched : ℕ → WatchType → Path → TablesView → TablesView
unwatched c type path t = record t { watches = without_meant t.watches c type path }

-- a wish of a connection is granted: a watch is set, its event is sent, nothing, or watches are
-- removed
abbrev pub granted : ℕ → Wish → TablesView → TablesView
granted c (Waits kind path) t = waiting c kind path t
granted c (Reports event) t = sent c (event_frame event) t
granted c (Has type path) t = t
granted c (Ends type path) t = unwatched c type path t

-- the error, if there is no room for a watch
abbrev pub full_fault : Bool → Option Code
full_fault full = if full then Some SystemError else None

-- the error, if the connection has no such watch
abbrev pub none_fault : Bool → Option Code
none_fault found = if found then None else Some NoWatcher

-- why a wish isn't granted
abbrev pub fault_of : ℕ → Wish → TablesView → Option Code
fault_of c (Waits kind path) t = full_fault (is_full t.limits t.watches (watch path kind c))
fault_of c (Reports event) t = None
fault_of c (Has type path) t = none_fault (has_meant t.watches c type path)
fault_of c (Ends type path) t = none_fault (has_meant t.watches c type path)

-- the error that a wish may get
abbrev pub may_get : Wish → Option Code
may_get (Waits kind path) = Some SystemError
may_get (Reports event) = None
may_get (Has type path) = Some NoWatcher
may_get (Ends type path) = Some NoWatcher

-- the first error, if there is one; else the second
abbrev pub earlier : Option Code → Option Code → Option Code
earlier None later = later
earlier (Some fault) later = Some fault

-- wishes in order
abbrev pub granted_all : ℕ → List Wish → TablesView → TablesView
granted_all c [] t = t
granted_all c (wish ∷ wishes) t = granted_all c wishes (granted c wish t)

-- why the first wish that isn't granted isn't
abbrev pub first_fault : ℕ → List Wish → TablesView → Option Code
first_fault c [] t = None
first_fault c (wish ∷ wishes) t = earlier (fault_of c wish t) (first_fault c wishes (granted c wish t))

-- no error, or one that a wish among these may get
abbrev pub IsFaultOf : List Wish → Option Code → Type 0
IsFaultOf wishes None = Unit {0}
IsFaultOf wishes (Some fault) = (wish : Wish) × Among wish wishes × (may_get wish ≡ Some fault)
