-- Watches that a connection adds, checks and removes.
use Rattle.std.proofs.Common.{◌≡◌, ℕ, List, [], ◌∷◌, length, take, drop, Option, Some, None, refl, inl, inr}
use Rattle.std.specs.List.{AllByRecursion}
use Rattle.ztree.specs.Tree.{Tree, Nodes, Path}
use Rattle.zcalls.specs.declared.call.Call.{Call}
use Rattle.zcalls.specs.declared.call.Call.TheVariants.{Update, Query}
use Rattle.zcalls.specs.declared.call.Query.TheVariants.{Exists, GetData, GetChildren}
use Rattle.zcalls.specs.declared.reply.Reply.{Reply}
use Rattle.zjute.specs.declared.request.AddWatch.{AddWatch}
use Rattle.zjute.specs.declared.request.Asked.TheVariants as asked
use Rattle.zjute.specs.declared.request.SetWatches2.{SetWatches2}
use Rattle.zjute.specs.declared.request.WatchesAt.{WatchesAt}
use Rattle.zjute.specs.declared.watch_type.AddMode.{AddMode}
use Rattle.zjute.specs.declared.watch_type.AddMode.TheVariants as mode
use Rattle.zjute.specs.declared.watch_type.WatchType.{WatchType}
use Rattle.zjute.specs.WatchNumbers.{mode_of, type_of}
use Rattle.zrequests.specs.Requests.{watched_in}
use Rattle.zwatches.specs.declared.kind.Kind.TheVariants.{EachData, EachChildren, Recursive}
use Rattle.zresponses.specs.effects.Watching.{granted, granted_all, unwatched, waiting}
use Rattle.zresponses.specs.effects.Wishes.{added, added_by, all_added, all_again, checked_by, each_again, ended_by}
use Rattle.zfront.specs.Front.{with_tables}
use Rattle.zfront_laws.specs.watches.Watching.{Adds, Asking, Dropped, Removes, after, texts_of}
use Rattle.zfront_laws.proofs.watches_lemmas.Again.{set_grants}
use Rattle.zfront_laws.proofs.watches_lemmas.Granting.{Grants, grants_append, grants_both, grants_nothing, grants_set}
use Rattle.zfront_laws.proofs.watches_lemmas.Marks.{unchanged}
use Rattle.zfront_laws.proofs.watches_lemmas.Reaching.{once, shuts}
use Rattle.zfront_laws.proofs.watches_lemmas.Renewing.{AsksEach, AsksOf, FirstAsks}
use Rattle.zfront_laws.proofs.watches_lemmas.Standing.{unwatched_fewer}
use Rattle.zfront_laws.proofs.watches_lemmas.Wishing.{AreOf, taken}

-- a watch that is added may be set anywhere
mode_grants : {Asks : Asking} (c : ℕ) (nodes : Nodes) (m : AddMode) (path : Path) → Adds Asks c m path → Grants Asks (granted_all c (added m path)) nodes
mode_grants c nodes mode.Persistent path adds =
    grants_both (waiting c EachData path) (waiting c EachChildren path) nodes (grants_set c EachData path nodes adds)
    (grants_set c EachChildren path nodes adds)
mode_grants c nodes mode.Recursive path adds = grants_set c Recursive path nodes adds

-- watches are removed
grants_end : {Asks : Asking} (c : ℕ) (nodes : Nodes) (type : WatchType) (path : Path) → Removes Asks c type path → Grants Asks (unwatched c type path) nodes
grants_end c nodes type path removes v s is there =
    once None (with_tables (unwatched c type path v.tables) v) s (Dropped c type path) (after (Dropped c type path) s) (removes, refl) refl
    (shuts None v s (unwatched c type path) there (unwatched_fewer c type path s.tables) (unchanged s.tables.attachments))

module _ {Asks : Asking} (c : ℕ) (nodes : Nodes) where
  -- the watch of a request that adds one
  pub add_grants : (add : AddWatch) → Asks c (asked.AddWatch add) → (calls : List Call) → FirstAsks add.path calls
      → Grants Asks (granted_all c (added_by (mode_of add.mode) calls)) nodes
  add_grants add asks calls named = by (mode_of add.mode) refl calls named
    where
      by : (o : Option AddMode) → mode_of add.mode ≡ o → (calls : List Call) → FirstAsks add.path calls
          → Grants Asks (granted_all c (added_by o calls)) nodes
      by None is calls named = grants_nothing nodes
      by (Some m) is [] named = grants_nothing nodes
      by (Some m) is (Query (Exists path) ∷ calls) named = mode_grants c nodes m path (inl (add, asks, is, named))
      by (Some m) is (Query (GetData path) ∷ calls) named = grants_nothing nodes
      by (Some m) is (Query (GetChildren path) ∷ calls) named = grants_nothing nodes
      by (Some m) is (Update update ∷ calls) named = grants_nothing nodes

  -- those that are removed
  pub end_grants : (at : WatchesAt) → Asks c (asked.RemoveWatches at) → (calls : List Call) → FirstAsks at.path calls
      → Grants Asks (granted_all c (ended_by (type_of at.kind) calls)) nodes
  end_grants at asks calls named = by (type_of at.kind) refl calls named
    where
      by : (o : Option WatchType) → type_of at.kind ≡ o → (calls : List Call) → FirstAsks at.path calls
          → Grants Asks (granted_all c (ended_by o calls)) nodes
      by None is calls named = grants_nothing nodes
      by (Some type) is [] named = grants_nothing nodes
      by (Some type) is (Query (Exists path) ∷ calls) named = grants_end c nodes type path (at, asks, is, named)
      by (Some type) is (Query (GetData path) ∷ calls) named = grants_nothing nodes
      by (Some type) is (Query (GetChildren path) ∷ calls) named = grants_nothing nodes
      by (Some type) is (Update update ∷ calls) named = grants_nothing nodes

  -- those that are checked
  pub check_grants : (o : Option WatchType) (calls : List Call) → Grants Asks (granted_all c (checked_by o calls)) nodes
  check_grants None calls = grants_nothing nodes
  check_grants (Some type) [] = grants_nothing nodes
  check_grants (Some type) (Query (Exists path) ∷ calls) = grants_nothing nodes
  check_grants (Some type) (Query (GetData path) ∷ calls) = grants_nothing nodes
  check_grants (Some type) (Query (GetChildren path) ∷ calls) = grants_nothing nodes
  check_grants (Some type) (Update update ∷ calls) = grants_nothing nodes

-- ---- watches that stay are set again

module _ {Asks : Asking} (c : ℕ) (t : Tree) (all : SetWatches2) (asks : Asks c (asked.SetWatches2 all)) where
  stay_grants : (m : AddMode) (call : Call) → AsksOf (texts_of m all) call → Grants Asks (granted_all c (added_by (Some m) (call ∷ []))) t.nodes
  stay_grants m (Query (Exists path)) named = mode_grants c t.nodes m path (inr (all, asks, named))
  stay_grants m (Query (GetData path)) named = grants_nothing t.nodes
  stay_grants m (Query (GetChildren path)) named = grants_nothing t.nodes
  stay_grants m (Update update) named = grants_nothing t.nodes

  all_stay : (m : AddMode) (calls : List Call) → AllByRecursion (AsksOf (texts_of m all)) calls → Grants Asks (granted_all c (all_added m calls)) t.nodes
  all_stay m [] named = grants_nothing t.nodes
  all_stay m (call ∷ calls) named =
      grants_append (granted c) (granted_all c) (λ u. refl) (λ w ws u. refl) (added_by (Some m) (call ∷ [])) (all_added m calls) t.nodes
      (stay_grants m call named.0) (all_stay m calls named.1)

  pub each_grants : (calls : List Call) (replies : List Reply) → AsksEach all calls → AreOf t calls replies
      → Grants Asks (granted_all c (each_again all calls replies)) t.nodes
  each_grants calls replies named are =
      let count = length (watched_in all.watches) in
      let persistent_count = length all.persistent_watches in
      grants_append (granted c) (granted_all c) (λ u. refl) (λ w ws u. refl) (all_again all.watches (take count calls) (take count replies)) _ t.nodes
      (set_grants c t all.watches (inr (all, asks, refl)) (take count calls) (take count replies) named.of_once (taken count t calls replies are))
      (grants_append (granted c) (granted_all c) (λ u. refl) (λ w ws u. refl)
      (all_added mode.Persistent (take persistent_count (drop count calls)))
      (all_added mode.Recursive (drop persistent_count (drop count calls))) t.nodes
      (all_stay mode.Persistent (take persistent_count (drop count calls)) named.of_persistent)
      (all_stay mode.Recursive (drop persistent_count (drop count calls)) named.of_recursive))
