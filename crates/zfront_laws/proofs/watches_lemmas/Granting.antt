-- Watches that are set for a connection, and its answer.
use Rattle.std.proofs.Common.{◌≡◌, ◌∙◌, ℕ, Bool, true, false, List, [], ◌∷◌, ◌++◌, Option, Some}
use Rattle.std.proofs.Common.{None, refl, sym, ap, subst, inl, inr}
use mathlib.Core.Bool.{true≢false}
use Rattle.std.specs.Prelude.{◌⊎◌, is_some, ◌&&◌, not, if◌then◌else◌}
use Rattle.std.specs.FinMap as finite
use Rattle.std.specs.FinSet.{contains, insert}
use Rattle.std.specs.Ordering.{eq_by_cmp}
use Rattle.ztree.specs.declared.node.Node.{Node}
use Rattle.ztree.specs.Tree.{Tree, Nodes, Path, children, stat_of}
use Rattle.ztree.proofs.Maps.{tied_same}
use Rattle.zcalls.specs.declared.call.Call.{Call}
use Rattle.zcalls.specs.declared.call.Call.TheVariants.{Update, Query}
use Rattle.zcalls.specs.declared.call.Query.{Query as Question}
use Rattle.zcalls.specs.declared.call.Query.TheVariants as query
use Rattle.zcalls.specs.declared.reply.Reply.{Reply}
use Rattle.zcalls.specs.declared.reply.Reply.TheVariants as reply
use Rattle.zcalls.specs.Step.{query_reply, on_node}
use Rattle.zjute.specs.declared.request.Asked.{Asked}
use Rattle.zjute.specs.declared.request.Look.{Look}
use Rattle.zjute.specs.declared.request.Request.{Request}
use Rattle.zwatches.specs.declared.kind.Kind.{Kind}
use Rattle.zwatches.specs.declared.kind.Kind.TheVariants.{Data, Missing, Children, EachData, EachChildren, Recursive}
use Rattle.zwatches.specs.declared.watch.Watch.{Watch}
use Rattle.zwatches.specs.Watches.{watch, watch_cmp, is_full}
use Rattle.zwatches.proofs.Order.{watches_total, same_watch}
use Rattle.zconnections.specs.Tables.{TablesView}
use Rattle.zresponses.specs.effects.Answering.{answer_unless, granted_and_answered, now_of}
use Rattle.zresponses.specs.effects.Watching.{waiting, granted_all, first_fault}
use Rattle.zresponses.specs.effects.Wishes.{query_wish, first_wish, look_wish, wishes}
use Rattle.zfront.specs.Front.{FrontView, with_tables}
use Rattle.zfront_laws.specs.watches.Watching.{Scene, Asking, MaySet, Set, tree_of, after, IsSameAt, set_now}
use Rattle.zfront_laws.proofs.watches_lemmas.Keeping.{IsRight}
use Rattle.zfront_laws.proofs.watches_lemmas.Owners.{OwnersAre}
use Rattle.zfront_laws.proofs.watches_lemmas.Marks.{Marked}
use Rattle.zfront_laws.proofs.watches_lemmas.Reaching.{At, Reaches, all_reported, once, replies, stays, still}
use Rattle.zfront_laws.proofs.watches_lemmas.Standing.{In, insert_leaves}
use Rattle.zfront_laws.proofs.watches_lemmas.Wishing.{AreOf}

same_itself : (kind : Kind) (path : Path) (nodes : Nodes) → IsSameAt kind path nodes nodes
same_itself Data path nodes = refl
same_itself Missing path nodes = refl
same_itself Children path nodes = refl
same_itself EachData path nodes = refl
same_itself EachChildren path nodes = refl
same_itself Recursive path nodes = λ below under. refl

-- it is right where it may be set
set_right : (Asks : Asking) (c : ℕ) (kind : Kind) (path : Path) (nodes : Nodes) → MaySet Asks c kind path nodes → IsRight kind path nodes
set_right Asks c Data path nodes may = may
set_right Asks c Missing path nodes may = may
set_right Asks c Children path nodes may = may
set_right Asks c EachData path nodes may = tt
set_right Asks c EachChildren path nodes may = tt
set_right Asks c Recursive path nodes may = tt

module _ (s : Scene) (c : ℕ) (kind : Kind) (path : Path) where
  abbrev mine : Watch
  mine = watch path kind c

  abbrev t : TablesView
  t = s.tables

  -- a watch in the table is the one that was set, or was there before
  stood : (w : Watch) → In (waiting c kind path t) w → (eq_by_cmp watch_cmp w mine ≡ true) ⊎ In t w
  stood w = elim (is_full t.limits t.watches mine) as (λ b. In (if b then t else record t { watches = insert t.watches mine }) w
      → (eq_by_cmp watch_cmp w mine ≡ true) ⊎ In t w) [
        | true ↦ λ is. inr is
        | false ↦ λ is. insert_leaves t.watches mine w is
      ]

  -- it was set now, or it was set before
  set_case : (P : Nodes → Type 0) (w : Watch) → (w ≡ mine → P (tree_of s).nodes) → (In t w → P (s.set_at w))
      → In (waiting c kind path t) w → P (set_now mine s w)
  set_case P w now before stands = by (eq_by_cmp watch_cmp w mine) refl (contains t.watches mine) refl
    where
      same : eq_by_cmp watch_cmp w mine ≡ true → w ≡ mine
      same is = tied_same watches_total same_watch w mine is

      other : eq_by_cmp watch_cmp w mine ≡ false → (eq_by_cmp watch_cmp w mine ≡ true) ⊎ In t w → In t w
      other is (inl ties) = absurd (true≢false (sym ties ∙ is))
      other is (inr stood) = stood

      by : (a : Bool) → eq_by_cmp watch_cmp w mine ≡ a → (b : Bool) → contains t.watches mine ≡ b
          → P (if a && not b then (tree_of s).nodes else s.set_at w)
      by true is false none = now (same is)
      by true is true there = before (ap (contains t.watches) (same is) ∙ there)
      by false is b there = before (other is (stood w stands))

  attachments_stay : (waiting c kind path t).attachments ≡ t.attachments
  attachments_stay = elim (is_full t.limits t.watches mine) as (λ b. (if b then t else record t { watches = insert t.watches mine }).attachments ≡ t.attachments) [
    | true ↦ refl
    | false ↦ refl
  ]

  waits : (v : FrontView) → At v s → IsRight kind path (tree_of s).nodes
      → At (with_tables (waiting c kind path v.tables) v) (after (Set c kind path) s)
  waits v there right = record {
    settled = there.settled;
    base = there.base;
    tables = ap (waiting c kind path) there.tables;
    tree = there.tree;
    holds = record {
      right = λ w stands. set_case (λ nodes. IsRight w.kind w.path nodes) w
          (λ same. subst (λ (x : Watch). IsRight x.kind x.path (tree_of s).nodes) (sym same) right)
          (λ stood. there.holds.right w stood) stands;
      seen = λ w stands. set_case (λ nodes. IsSameAt w.kind w.path nodes (tree_of s).nodes) w
          (λ same. same_itself w.kind w.path (tree_of s).nodes)
          (λ stood. there.holds.seen w stood) stands;
      none = tt;
      owners = subst (λ m. OwnersAre (Marked m) (tree_of s).nodes) (sym attachments_stay) there.holds.owners;
    };
  }

-- wishes may be granted where these nodes are, and no call is made
abbrev pub Grants : Asking → (TablesView → TablesView) → Nodes → Type 0
Grants Asks grant nodes = (v : FrontView) (s : Scene) → v.tree.nodes ≡ nodes → At v s → Reaches Asks (with_tables (grant v.tables) v) s []

pub grants_nothing : {Asks : Asking} (nodes : Nodes) → Grants Asks (λ t. t) nodes
grants_nothing nodes v s is there = stays None v s there

pub same_nodes : (v : FrontView) (s : Scene) (nodes : Nodes) → v.tree.nodes ≡ nodes → At v s → nodes ≡ (tree_of s).nodes
same_nodes v s nodes is there = sym (ap (λ (t : Tree). t.nodes) there.tree ∙ is)

pub grants_set : {Asks : Asking} (c : ℕ) (kind : Kind) (path : Path) (nodes : Nodes) → MaySet Asks c kind path nodes → Grants Asks (waiting c kind path) nodes
grants_set {Asks} c kind path nodes may v s is there =
    let here = subst (MaySet Asks c kind path) (same_nodes v s nodes is there) may in
    once None (with_tables (waiting c kind path v.tables) v) s (Set c kind path) (after (Set c kind path) s) (here, refl) refl
    (waits s c kind path v there (set_right Asks c kind path (tree_of s).nodes here))

pub grants_both : {Asks : Asking} (first second : TablesView → TablesView) (nodes : Nodes) → Grants Asks first nodes → Grants Asks second nodes
    → Grants Asks (λ t. second (first t)) nodes
grants_both first second nodes one two v s is there =
    let u = with_tables (first v.tables) v in
    still None None u (with_tables (second (first v.tables)) v) s [] (one v s is there) (λ next here. two u next is here)

-- what is granted after other wishes
module _ {W : Type 0} (one : W → TablesView → TablesView) (all : List W → TablesView → TablesView) (first : (t : TablesView) → all [] t ≡ t)
    (next : (w : W) (ws : List W) (t : TablesView) → all (w ∷ ws) t ≡ all ws (one w t)) where
  appended : (xs ys : List W) (t : TablesView) → all ys (all xs t) ≡ all (xs ++ ys) t
  appended [] ys t = ap (all ys) (first t)
  appended (x ∷ xs) ys t = ap (all ys) (next x xs t) ∙ appended xs ys (one x t) ∙ sym (next x (xs ++ ys) t)

  pub grants_append : {Asks : Asking} (xs ys : List W) (nodes : Nodes) → Grants Asks (all xs) nodes → Grants Asks (all ys) nodes → Grants Asks (all (xs ++ ys)) nodes
  grants_append {Asks} xs ys nodes a b v s is there =
      subst (λ t. Reaches Asks (with_tables t v) s []) (appended xs ys v.tables) (grants_both (all xs) (all ys) nodes a b v s is there)

-- the watch of a query
query_grants : {Asks : Asking} (c : ℕ) (t : Tree) (q : Question) → Grants Asks (granted_all c (query_wish q (query_reply t q))) t.nodes
unfolding query_reply
query_grants {Asks} c t (query.Exists path) = by (finite.get t.nodes path) refl
  where
    by : (o : Option Node) → finite.get t.nodes path ≡ o
        → Grants Asks (granted_all c (query_wish (query.Exists path) (on_node o (λ n. reply.Exists (stat_of t.nodes path n))))) t.nodes
    by None is = grants_set c Missing path t.nodes (ap is_some is)
    by (Some n) is = grants_set c Data path t.nodes (ap is_some is)
query_grants {Asks} c t (query.GetData path) = by (finite.get t.nodes path) refl
  where
    by : (o : Option Node) → finite.get t.nodes path ≡ o
        → Grants Asks (granted_all c (query_wish (query.GetData path) (on_node o (λ n. reply.Data n.bytes (stat_of t.nodes path n))))) t.nodes
    by None is = grants_nothing t.nodes
    by (Some n) is = grants_set c Data path t.nodes (ap is_some is)
query_grants {Asks} c t (query.GetChildren path) = by (finite.get t.nodes path) refl
  where
    by : (o : Option Node) → finite.get t.nodes path ≡ o
        → Grants Asks (granted_all c (query_wish (query.GetChildren path) (on_node o (λ n. reply.Children (children t.nodes path))))) t.nodes
    by None is = grants_nothing t.nodes
    by (Some n) is = grants_set c Children path t.nodes (ap is_some is)

first_grants : {Asks : Asking} (c : ℕ) (t : Tree) (calls : List Call) (replies : List Reply) → AreOf t calls replies
    → Grants Asks (granted_all c (first_wish calls replies)) t.nodes
first_grants c t [] replies all = grants_nothing t.nodes
first_grants c t (Update update ∷ calls) replies all = grants_nothing t.nodes
first_grants c t (Query q ∷ calls) [] all = grants_nothing t.nodes
first_grants {Asks} c t (Query q ∷ calls) (reported ∷ replies) all =
    subst (λ reported. Grants Asks (granted_all c (query_wish q reported)) t.nodes) (sym all.0) (query_grants c t q)

pub look_grants : {Asks : Asking} (c : ℕ) (t : Tree) (look : Look) (calls : List Call) (replies : List Reply) → AreOf t calls replies
    → Grants Asks (granted_all c (look_wish look calls replies)) t.nodes
look_grants {Asks} c t look calls replies all = by look.watch refl
  where
    by : (b : Bool) → look.watch ≡ b → Grants Asks (granted_all c (look_wish look calls replies)) t.nodes
    by true is = rw is (first_grants c t calls replies all)
    by false is = rw is (grants_nothing t.nodes)

-- where none is asked for
pub no_wish_grants : {Asks : Asking} (c : ℕ) (asks : Asked) (calls : List Call) (replies : List Reply) (nodes : Nodes) → wishes asks calls replies ≡ []
    → Grants Asks (granted_all c (wishes asks calls replies)) nodes
no_wish_grants c asks calls replies nodes none = rw none (grants_nothing nodes)

-- the wishes of a request are granted, and it is answered
pub granted_answers : {Asks : Asking} (v : FrontView) (s : Scene) (c : ℕ) (request : Request) (calls : List Call) (reported : List Reply) → At v s
    → Grants Asks (granted_all c (wishes request.asked calls reported)) v.tree.nodes
    → Reaches Asks (with_tables (granted_and_answered v.clock (now_of v.tree) c request calls reported v.tables) v) s []
granted_answers v s c request calls reported there grants =
    let u = with_tables (granted_all c (wishes request.asked calls reported) v.tables) v in
    let answer = answer_unless (first_fault c (wishes request.asked calls reported) v.tables) v.clock (now_of v.tree) request.asked calls reported in
    still None None u (with_tables (granted_and_answered v.clock (now_of v.tree) c request calls reported v.tables) v) s [] (grants v s refl there)
    (λ next here. replies None u next c request.xid answer here (inl (all_reported u next c here)))
