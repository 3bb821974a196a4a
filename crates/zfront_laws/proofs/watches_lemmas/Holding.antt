-- What holds of the watches that are set, of the tree and of its owners; and how calls preserve it.
use Rattle.std.proofs.Common.{◌≡◌, ◌∙◌, ℕ, false, List, Option, Some, None, refl, sym, ap, subst, inl, inr}
use Rattle.std.specs.Prelude.{◌⊎◌}
use Rattle.std.specs.Option.{option_map}
use Rattle.std.specs.FinMap as finite
use Rattle.ztree.specs.declared.node.Node.{Node}
use Rattle.ztree.specs.Tree.{Tree, Path, Nodes}
use Rattle.ztree.proofs.Maps.{none_some, same_some}
use Rattle.zcalls.specs.declared.call.Update.{Update}
use Rattle.zcalls.specs.declared.reply.Reply.{Reply}
use Rattle.zcalls.specs.Step.{step}
use Rattle.zwatches.specs.declared.changes.event.Event.{Event}
use Rattle.zwatches.specs.changes.Events.{events_of}
use Rattle.zwatches.specs.changes.Laws.{but_children, data_at, takes_away}
use Rattle.zwatches.specs.declared.watch.Watch.{Watch}
use Rattle.zconnections.specs.Tables.{TablesView}
use Rattle.zconnections.specs.Reporting.{reported_all}
use Rattle.zconnections.specs.Sweeping.{noted}
use Rattle.zfront.specs.Front.{FrontView}
use Rattle.zfront_laws.specs.watches.Watching.{IsSameAt}
use Rattle.zfront_laws.proofs.watches_lemmas.Taking.{Loses}
use Rattle.zfront_laws.proofs.watches_lemmas.Owners.{OwnersAre}
use Rattle.zfront_laws.proofs.watches_lemmas.Marks.{Known, Marked}
use Rattle.zfront_laws.proofs.watches_lemmas.Standing.{In, Fewer, Unfired, reported_all_leaves, reported_all_attachments}
use Rattle.zfront_laws.proofs.watches_lemmas.Telling.{told_all}
use Rattle.zfront_laws.proofs.watches_lemmas.Keeping.{IsRight, told_right, unfired_stays}
use Rattle.zfront_laws.proofs.watches_lemmas.Owning.{UpdateNames, update_owned}

-- the nodes of which all watches were told: those of now, or those of the front before some calls
abbrev pub nodes_told : Option FrontView → Nodes → Nodes
nodes_told None now = now
nodes_told (Some old) now = old.tree.nodes

-- no watch was set since then
abbrev pub NoneSet : Option FrontView → TablesView → Type 0
NoneSet None tables = Unit {0}
NoneSet (Some old) tables = Fewer old.tables tables

-- Each watch was set where its node was, or wasn't. What it waits for is as in the nodes of which all were told. No watch
-- was set since then. And each owner of a node is known to have made one
pub record Holds (since : Option FrontView) (t : Tree) (set_at : Watch → Nodes) (tables : TablesView) : Type 0 where
  pub right : (w : Watch) → In tables w → IsRight w.kind w.path (set_at w)
  pub seen : (w : Watch) → In tables w → IsSameAt w.kind w.path (set_at w) (nodes_told since t.nodes)
  pub none : NoneSet since tables
  pub owners : OwnersAre (Marked tables.attachments) t.nodes

-- tables that took up an update and its reply
abbrev pub absorbing : Update → Reply → TablesView → TablesView
absorbing u reported tables = reported_all (events_of u reported) (record tables { attachments = noted u reported tables.attachments })

-- what each watch knows once events are told
abbrev pub knowing : Nodes → List Event → (Watch → Nodes) → Watch → Nodes
knowing now es set_at = λ w. told_all now es w (set_at w)

-- after an update that takes nothing away, and its events, all holds again
pub update_holds : (t : Tree) (set_at : Watch → Nodes) (tables : TablesView) (u : Update) → takes_away u ≡ false
    → UpdateNames (Known tables.attachments) u
    → Holds None t set_at tables
    → Holds None (step t 0 u).0 (knowing (step t 0 u).0.nodes (events_of u (step t 0 u).1) set_at) (absorbing u (step t 0 u).1 tables)
update_holds t set_at tables u stays names holds = record {
  right = λ w stands. told_right (step t 0 u).0.nodes es w (set_at w) w.kind refl (holds.right w (left w stands).0);
  seen = λ w stands.
      let was = left w stands in
      unfired_stays t u stays (set_at w) w was.1 (holds.right w was.0) (holds.seen w was.0);
  none = tt;
  owners = subst (λ m. OwnersAre (Marked m) (step t 0 u).0.nodes) (sym (reported_all_attachments es middle))
      (update_owned tables.attachments t u stays holds.owners names);
}
  where
    middle : TablesView
    middle = record tables { attachments = noted u (step t 0 u).1 tables.attachments }

    es : List Event
    es = events_of u (step t 0 u).1

    left : (w : Watch) → In (reported_all es middle) w → In tables w × Unfired w es
    left w stands = reported_all_leaves es middle w stands

-- the nodes are the same
pub still_holds : (t u : Tree) (set_at : Watch → Nodes) (tables : TablesView) → u.nodes ≡ t.nodes → Holds None t set_at tables
    → Holds None u set_at tables
still_holds t u set_at tables nodes holds = record {
  right = holds.right;
  seen = λ w stands. subst (IsSameAt w.kind w.path (set_at w)) (sym nodes) (holds.seen w stands);
  none = tt;
  owners = subst (OwnersAre (Marked tables.attachments)) (sym nodes) holds.owners;
}

-- what a close or a tick took away is still to be told

pub same_owner : (o : Option Node) (n : Node) → Some (but_children n) ≡ option_map but_children o → (m : Node) × (o ≡ Some m) × (m.owner ≡ n.owner)
same_owner None n is = absurd (none_some (but_children n) (sym is))
same_owner (Some m) n is = (m, refl, ap (λ (x : Node). x.owner) (sym (same_some (but_children n) (but_children m) is)))

lost_owner : (Q : ℕ → Type 0) (zxid : ℕ) (a b : Nodes) → ((path : Path) → Loses zxid a b path) → OwnersAre Q a → OwnersAre Q b
lost_owner Q zxid a b loses all path n found = by (loses path).of_data
  where
    here : data_at b path ≡ Some (but_children n)
    here = ap (option_map but_children) found

    by : (data_at b path ≡ data_at a path) ⊎ (data_at b path ≡ None) → Q n.owner
    by (inl still) =
        let was = same_owner (finite.get a path) n (sym here ∙ still) in
        subst Q was.2 (all path was.0 was.1)
    by (inr none) = absurd (none_some (but_children n) (sym none ∙ here))

pub lost_holds : (zxid : ℕ) (old : FrontView) (t u : Tree) (set_at : Watch → Nodes) (tables : TablesView) → t ≡ old.tree → tables ≡ old.tables
    → ((path : Path) → Loses zxid t.nodes u.nodes path) → Holds None t set_at tables → Holds (Some old) u set_at tables
lost_holds zxid old t u set_at tables same is loses holds = record {
  right = holds.right;
  seen = λ w stands. subst (λ (t : Tree). IsSameAt w.kind w.path (set_at w) t.nodes) same (holds.seen w stands);
  none = λ w stands. subst (λ t. In t w) is stands;
  owners = lost_owner (Marked tables.attachments) zxid t.nodes u.nodes loses holds.owners;
}

-- or nothing was taken away
pub none_lost : (old : FrontView) (t : Tree) (set_at : Watch → Nodes) (tables : TablesView) → t.nodes ≡ old.tree.nodes
    → Holds (Some old) t set_at tables → Holds None t set_at tables
none_lost old t set_at tables same holds = record {
  right = holds.right;
  seen = λ w stands. subst (IsSameAt w.kind w.path (set_at w)) (sym same) (holds.seen w stands);
  none = tt;
  owners = holds.owners;
}

-- tables with no watch more, whose sessions keep their marks
still_none : (since : Option FrontView) (old new : TablesView) → Fewer old new → NoneSet since old → NoneSet since new
still_none None old new fewer none = tt
still_none (Some was) old new fewer none = λ w stands. none w (fewer w stands)

pub fewer_holds : (since : Option FrontView) (t : Tree) (set_at : Watch → Nodes) (old new : TablesView) → Fewer old new
    → (OwnersAre (Marked old.attachments) t.nodes → OwnersAre (Marked new.attachments) t.nodes) → Holds since t set_at old → Holds since t set_at new
fewer_holds since t set_at old new fewer owners holds = record {
  right = λ w stands. holds.right w (fewer w stands);
  seen = λ w stands. holds.seen w (fewer w stands);
  none = still_none since old new fewer holds.none;
  owners = owners holds.owners;
}

-- all changes since then are told: what each watch knows is as it is
pub told_holds : (old : FrontView) (t : Tree) (set_at : Watch → Nodes) (tables : TablesView) (es : List Event)
    → ((w : Watch) → In tables w → Unfired w es → IsRight w.kind w.path (set_at w) → IsSameAt w.kind w.path (set_at w) old.tree.nodes
    → IsSameAt w.kind w.path (knowing t.nodes es set_at w) t.nodes)
    → Holds (Some old) t set_at tables → Holds None t (knowing t.nodes es set_at) (reported_all es tables)
told_holds old t set_at tables es settles holds = record {
  right = λ w stands. told_right t.nodes es w (set_at w) w.kind refl (holds.right w (reported_all_leaves es tables w stands).0);
  seen = λ w stands.
      let left = reported_all_leaves es tables w stands in
      settles w left.0 left.1 (holds.right w left.0) (holds.seen w left.0);
  none = tt;
  owners = subst (λ m. OwnersAre (Marked m) t.nodes) (sym (reported_all_attachments es tables)) holds.owners;
}
