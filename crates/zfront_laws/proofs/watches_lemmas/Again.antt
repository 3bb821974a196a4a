-- Watches that a connection sets again.
use Rattle.std.proofs.Common.{◌≡◌, ℕ, Bool, true, false, List, [], ◌∷◌, length, take, drop, Option, Some}
use Rattle.std.proofs.Common.{None, refl, sym, ap, subst, inl, inr}
use Rattle.std.specs.Prelude.{int_lt, is_some}
use Rattle.std.specs.FinMap as finite
use Rattle.std.specs.List.{AllByRecursion}
use Rattle.ztree.specs.declared.node.Node.{Node}
use Rattle.ztree.specs.Tree.{Tree, Nodes, Path, stat_of}
use Rattle.zcalls.specs.declared.call.Call.{Call}
use Rattle.zcalls.specs.declared.call.Call.TheVariants.{Update, Query}
use Rattle.zcalls.specs.declared.call.Query.TheVariants as query
use Rattle.zcalls.specs.declared.reply.Reply.{Reply}
use Rattle.zcalls.specs.declared.reply.Reply.TheVariants as reply
use Rattle.zcalls.specs.Step.{query_reply, on_node}
use Rattle.zjute.specs.declared.event.EventKind.{EventKind}
use Rattle.zjute.specs.declared.event.EventKind.TheVariants.{NodeCreated, NodeDeleted, NodeDataChanged, NodeChildrenChanged}
use Rattle.zjute.specs.declared.request.SetWatches.{SetWatches}
use Rattle.zwatches.specs.changes.Events.{event}
use Rattle.zresponses.specs.Stats.{long_of}
use Rattle.zprotocol.specs.world.PlainTree.{serve}
use Rattle.zwatches.specs.declared.kind.Kind.{Kind}
use Rattle.zwatches.specs.declared.kind.Kind.TheVariants.{Data, Missing, Children, EachData, EachChildren, Recursive}
use Rattle.zconnections.specs.Tables.{sent}
use Rattle.zconnections.specs.Reporting.{event_frame}
use Rattle.zresponses.specs.effects.Watching.{granted, granted_all}
use Rattle.zresponses.specs.effects.Wishes.{wish_again, call_again, wishes_again, all_again}
use Rattle.zfront_laws.specs.watches.Watching.{Asking, IsMissed, Missed, Names, Renews}
use Rattle.zfront_laws.proofs.watches_lemmas.Granting.{Grants, grants_append, grants_nothing, grants_set, same_nodes}
use Rattle.zfront_laws.proofs.watches_lemmas.Reaching.{sends_as}
use Rattle.zfront_laws.proofs.watches_lemmas.Renewing.{AsksAgain, AsksOf, list_of}
use Rattle.zfront_laws.proofs.watches_lemmas.Wishing.{AreOf, left, taken}

-- an event that it missed is sent
grants_event : {Asks : Asking} (c : ℕ) (k : EventKind) (path : Path) (set : SetWatches) (nodes : Nodes) → Renews Asks c set
    → IsMissed set nodes k path → Grants Asks (sent c (event_frame (event k path))) nodes
grants_event c k path set nodes renewed missed v s is there =
    sends_as None v s c (event_frame (event k path)) (Missed c (event k path))
    (set, renewed, subst (λ ns. IsMissed set ns k path) (same_nodes v s nodes is there) missed) refl there

module _ {Asks : Asking} (c : ℕ) (t : Tree) (set : SetWatches) (renewed : Renews Asks c set) where
  data_again : (path : Path) (n : Node) → Names set.data_watches path → finite.get t.nodes path ≡ Some n
      → Grants Asks (granted_all c (wish_again Data set.relative_zxid path (reply.Exists (stat_of t.nodes path n)))) t.nodes
  data_again path n named is = by (int_lt set.relative_zxid (long_of n.mzxid)) refl
    where
      by : (b : Bool) → int_lt set.relative_zxid (long_of n.mzxid) ≡ b
          → Grants Asks (granted_all c (wish_again Data set.relative_zxid path (reply.Exists (stat_of t.nodes path n)))) t.nodes
      by true newer = rw newer (grants_event c NodeDataChanged path set t.nodes renewed (named, (n, is, newer)))
      by false old = rw old (grants_set c Data path t.nodes (ap is_some is))

  children_again : (path : Path) (n : Node) → Names set.child_watches path → finite.get t.nodes path ≡ Some n
      → Grants Asks (granted_all c (wish_again Children set.relative_zxid path (reply.Exists (stat_of t.nodes path n)))) t.nodes
  children_again path n named is = by (int_lt set.relative_zxid (long_of n.pzxid)) refl
    where
      by : (b : Bool) → int_lt set.relative_zxid (long_of n.pzxid) ≡ b
          → Grants Asks (granted_all c (wish_again Children set.relative_zxid path (reply.Exists (stat_of t.nodes path n)))) t.nodes
      by true newer = rw newer (grants_event c NodeChildrenChanged path set t.nodes renewed (named, (n, is, newer)))
      by false old = rw old (grants_set c Children path t.nodes (ap is_some is))

  again_grants : (kind : Kind) (path : Path) → Names (list_of kind set) path
      → Grants Asks (granted_all c (wish_again kind set.relative_zxid path (query_reply t (query.Exists path)))) t.nodes
  unfolding query_reply
  again_grants kind path = by kind (finite.get t.nodes path) refl
    where
      by : (kind : Kind) (o : Option Node) → finite.get t.nodes path ≡ o → Names (list_of kind set) path
          → Grants Asks (granted_all c (wish_again kind set.relative_zxid path (on_node o (λ n. reply.Exists (stat_of t.nodes path n))))) t.nodes
      by Data None is named = grants_event c NodeDeleted path set t.nodes renewed (inl named, is)
      by Data (Some n) is named = data_again path n named is
      by Missing None is named = grants_set c Missing path t.nodes (ap is_some is)
      by Missing (Some n) is named = grants_event c NodeCreated path set t.nodes renewed (named, ap is_some is)
      by Children None is named = grants_event c NodeDeleted path set t.nodes renewed (inr named, is)
      by Children (Some n) is named = children_again path n named is
      by EachData o is named = grants_nothing t.nodes
      by EachChildren o is named = grants_nothing t.nodes
      by Recursive o is named = grants_nothing t.nodes

  call_grants : (kind : Kind) (call : Call) → AsksOf (list_of kind set) call
      → Grants Asks (granted_all c (call_again kind set.relative_zxid call (serve t 0 call).1)) t.nodes
  call_grants kind (Query (query.Exists path)) named = again_grants kind path named
  call_grants kind (Query (query.GetData path)) named = grants_nothing t.nodes
  call_grants kind (Query (query.GetChildren path)) named = grants_nothing t.nodes
  call_grants kind (Update update) named = grants_nothing t.nodes

  calls_grant : (kind : Kind) (calls : List Call) (replies : List Reply) → AllByRecursion (AsksOf (list_of kind set)) calls → AreOf t calls replies
      → Grants Asks (granted_all c (wishes_again kind set.relative_zxid calls replies)) t.nodes
  calls_grant kind [] replies named all = grants_nothing t.nodes
  calls_grant kind (call ∷ calls) [] named all = grants_nothing t.nodes
  calls_grant kind (call ∷ calls) (reported ∷ replies) named all =
      grants_append (granted c) (granted_all c) (λ u. refl) (λ w ws u. refl) (call_again kind set.relative_zxid call reported)
      (wishes_again kind set.relative_zxid calls replies) t.nodes
      (subst (λ reported. Grants Asks (granted_all c (call_again kind set.relative_zxid call reported)) t.nodes) (sym all.0) (call_grants kind call named.0))
      (calls_grant kind calls replies named.1 all.1)

  pub set_grants : (calls : List Call) (replies : List Reply) → AsksAgain set calls → AreOf t calls replies
      → Grants Asks (granted_all c (all_again set calls replies)) t.nodes
  set_grants calls replies named all =
      let data_count = length set.data_watches in
      let missing_count = length set.exist_watches in
      let rest = left data_count t calls replies all in
      grants_append (granted c) (granted_all c) (λ u. refl) (λ w ws u. refl)
      (wishes_again Data set.relative_zxid (take data_count calls) (take data_count replies)) _ t.nodes
      (calls_grant Data (take data_count calls) (take data_count replies) named.of_data (taken data_count t calls replies all))
      (grants_append (granted c) (granted_all c) (λ u. refl) (λ w ws u. refl)
      (wishes_again Missing set.relative_zxid (take missing_count (drop data_count calls)) (take missing_count (drop data_count replies)))
      (wishes_again Children set.relative_zxid (drop missing_count (drop data_count calls)) (drop missing_count (drop data_count replies))) t.nodes
      (calls_grant Missing (take missing_count (drop data_count calls)) (take missing_count (drop data_count replies))
      named.of_missing (taken missing_count t (drop data_count calls) (drop data_count replies) rest))
      (calls_grant Children (drop missing_count (drop data_count calls)) (drop missing_count (drop data_count replies))
      named.of_children (left missing_count t (drop data_count calls) (drop data_count replies) rest)))
