-- The watches that a request checks or removes: those of its own connection, at one path, of one
-- type. The source is ZooKeeper 3.8 (`DataTree.containsWatcher` and `DataTree.removeWatch`).
use Rattle.std.specs.Prelude.{ℕ, Bool, true, false, not, ◌&&◌, ◌==◌}
use Rattle.std.specs.FinSet.{items, retain}
use Rattle.std.specs.List.{list_any}
use Rattle.std.specs.Ordering.{eq_by_cmp}
use Rattle.zpath.specs.Grammar.{path_cmp}
use Rattle.zjute.specs.declared.watch_type.WatchType.{WatchType}
use Rattle.zjute.specs.declared.watch_type.WatchType.TheVariants as type
use Rattle.zwatches.specs.declared.kind.Kind.{Kind}
use Rattle.zwatches.specs.declared.kind.Kind.TheVariants.{Children, EachChildren}
use Rattle.zwatches.specs.declared.watch.Watch.{Watch}
use Rattle.zwatches.specs.Watches.{Path, Watches}

-- a watch of this kind has this type; a recursive watch has no events of children
abbrev pub has_type : WatchType → Kind → Bool
has_type type.Any kind = true
has_type type.Children Children = true
has_type type.Children EachChildren = true
has_type type.Children other = false
has_type type.Data Children = false
has_type type.Data EachChildren = false
has_type type.Data other = true

-- the watch is of this connection, at this path, of this type
abbrev pub is_meant : ℕ → WatchType → Path → Watch → Bool
is_meant connection type path w =
    w.connection == connection && (eq_by_cmp path_cmp w.path path && has_type type w.kind)

-- there is such a watch
abbrev pub has_meant : Watches → ℕ → WatchType → Path → Bool
has_meant table connection type path = list_any (is_meant connection type path) (items table)

-- the watches that remain without these
abbrev pub without_meant : Watches → ℕ → WatchType → Path → Watches
without_meant table connection type path = retain table (λ w. not (is_meant connection type path w))
