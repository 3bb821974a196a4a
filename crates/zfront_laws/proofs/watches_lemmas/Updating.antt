-- A server at a scene, where it makes calls.
use Rattle.std.proofs.Common.{◌≡◌, ◌∙◌, ◌+◌, ◌<◌, ℕ, Bool, true, false, List, [], ◌∷◌, ◌++◌, Some, None, refl, sym, ap, subst, inl, inr, arith}
use Rattle.std.proofs.Math.Bool.{or-true}
use Rattle.std.specs.Prelude.{◌⊎◌, ◌||◌, is_some, map, nat_le, if◌then◌else◌}
use Rattle.std.specs.List.{list_any}
use Rattle.std.specs.FinMap as finite
use Rattle.ztree.specs.Lawful.{IsLawful}
use Rattle.ztree.specs.Tree.{Tree, Nodes, Path, with_next_zxid}
use Rattle.ztree.specs.Sessions.{with_session, without_session, with_renewed_session}
use Rattle.zcalls.specs.Lists.{Among}
use Rattle.zcalls.specs.declared.call.Call.{Call}
use Rattle.zcalls.specs.declared.call.Call.TheVariants.{Update}
use Rattle.zcalls.specs.declared.call.Update.{Update as Act}
use Rattle.zcalls.specs.declared.call.Update.TheVariants as act
use Rattle.zcalls.specs.declared.refusal.Refusal.TheVariants.{SessionGone, Exhausted, TooManySessions}
use Rattle.zcalls.specs.declared.reply.Reply.{Reply}
use Rattle.zcalls.specs.declared.reply.Reply.TheVariants as reply
use Rattle.zcalls.specs.Part.{is_gone}
use Rattle.zcalls.specs.Step.{step, is_exhausted, granted_timeout}
use Rattle.zwatches.specs.declared.changes.event.Event.{Event}
use Rattle.zwatches.specs.changes.Events.{events_of}
use Rattle.zwatches.specs.changes.Laws.{takes_away}
use Rattle.ztree_service.specs.log.Logs.{served, tree_after}
use Rattle.ztree_service.proofs.log_lemmas.Logs.{last_tree}
use Rattle.zwatches.specs.declared.watch.Watch.{Watch}
use Rattle.zwatches.specs.Events.{fires}
use Rattle.zconnections.specs.attachments.Attachments.{AttachmentsView}
use Rattle.zconnections.specs.Tables.{TablesView}
use Rattle.zconnections.specs.Sweeping.{noted, made_one}
use Rattle.zfront.specs.Front.{FrontView, with_tables, asked, ending, replies_to, takes_nodes}
use Rattle.zfront.specs.Ticking.{ping, tick_calls}
use Rattle.zfront_laws.specs.Logs.{done_by}
use Rattle.zfront_laws.specs.watches.Watching.{Scene, Asking, Served, Fired, Moved, tree_of, after, HasChanged, IsSameAt, takes_more}
use Rattle.zfront_laws.proofs.Ending.{EndsAmong}
use Rattle.zfront_laws.proofs.watches_lemmas.Changing.{has_changed}
use Rattle.zfront_laws.proofs.watches_lemmas.Holding.{Holds, absorbing, knowing, update_holds, lost_holds, still_holds}
use Rattle.zfront_laws.proofs.watches_lemmas.Owning.{UpdateNames}
use Rattle.zfront_laws.proofs.watches_lemmas.Marks.{Known, Marked}
use Rattle.zfront_laws.proofs.watches_lemmas.Moving.{attachments_move}
use Rattle.zfront_laws.proofs.watches_lemmas.Owners.{OwnersAre}
use Rattle.zfront_laws.proofs.watches_lemmas.Reaching.{AtIf, At, Reaches, called}
use Rattle.zfront_laws.proofs.watches_lemmas.Scenes.{fired_happens, is_lawful, logged, served_happens, servings, tree_logged}
use Rattle.zfront_laws.proofs.watches_lemmas.Single.{OfMulti}
use Rattle.zfront_laws.proofs.watches_lemmas.Standing.{In}
use Rattle.zfront_laws.proofs.watches_lemmas.Taking.{TakesTo, Owned, Loses, loses_nothing, tick_takes}
use Rattle.zfront_laws.proofs.watches_lemmas.Telling.{AreApart, IsNowhere, told_all_leaves, told_once, untold_nowhere}
use Rattle.zfront_laws.proofs.watches_lemmas.Tidying.{Gone, Lost, owned_there}

-- an update that takes nothing away is reported whole
module _ (v : FrontView) (s : Scene) (u : Act) (there : At v s) where
  abbrev reported : Reply
  reported = (step v.tree 0 u).1

  right : reported ≡ (step (tree_of s) 0 u).1
  right = ap (λ t. (step t 0 u).1) (sym there.tree)

  goes : tree_of (after (Served (Update u) reported) s) ≡ (step (tree_of s) 0 u).0
  goes = last_tree s.log s.start (Update u) reported

  abbrev middle : TablesView
  middle = record s.tables { attachments = noted u reported s.tables.attachments }

  abbrev es : List Event
  es = events_of u reported

  abbrev second : Scene
  second = after (Moved middle) (after (Served (Update u) reported) s)

  lawful : IsLawful (step (tree_of s) 0 u).0
  lawful = subst IsLawful goes (is_lawful (after (Served (Update u) reported) s) there.settled)

  -- what the watch knows after some of the events
  abbrev known : List Event → Watch → Nodes
  known first = knowing (tree_of second).nodes first s.set_at

  changed : (first : List Event) (e : Event) (t : TablesView) (w : Watch) → Among e es → (AreApart es → IsNowhere e.path first) → In s.tables w
      → fires e.kind e.path w ≡ true → HasChanged (record second { set_at = known first; tables = t }) w
  changed first e t w among apart stands fired =
      by (has_changed s there.settled u e w (s.set_at w) (known first w) lawful (subst (λ r. Among e (events_of u r)) right among) fired
      (there.holds.right w stands) (there.holds.seen w stands)
      (told_once (tree_of second).nodes first w (s.set_at w))
      (λ all. told_all_leaves (tree_of second).nodes w e.path first (s.set_at w) (untold_nowhere first w e.path
      (apart (subst (λ r. AreApart (events_of u r)) (sym right) all)))))
    where
      by : (IsSameAt w.kind w.path (known first w) (step (tree_of s) 0 u).0.nodes → ⊥) ⊎ ((takes_more w.kind ≡ true) × OfMulti u)
          → HasChanged (record second { set_at = known first; tables = t }) w
      by (inl differs) = inl (λ same. differs (subst (λ (t : Tree). IsSameAt w.kind w.path (known first w) t.nodes) goes same))
      by (inr (more, (parts, is))) = inr (more, (s.log, parts, reported, ap (λ (v : Act). s.log ++ (Update v, reported) ∷ []) is))

  abbrev last : Scene
  last = record (after (Served (Update u) reported) s) { set_at = known es; tables = absorbing u reported s.tables }

  pub absorbs : {Asks : Asking} → takes_away u ≡ false → UpdateNames (Known s.tables.attachments) u
      → Reaches Asks (with_tables (absorbing u reported v.tables) (asked (Update u ∷ []) v)) s (done_by (Update u ∷ []) v)
  absorbs {Asks} stays names = record {
    happenings = Served (Update u) reported ∷ Moved middle ∷ map (λ e. Fired e) es;
    scene = last;
    happens = (
      right,
      (
        attachments_move s.tables (noted u reported s.tables.attachments),
        fired_happens Asks es second
            (λ first e t among fewer apart.
            inl (inl (s.log, u, reported, refl, among), λ w stands fired. changed first e t w among apart (fewer w stands) fired)),
      ),
    );
    log = refl;
    there = record {
      settled = there.settled;
      base = there.base;
      tables = ap (absorbing u reported) there.tables;
      tree = goes ∙ ap (λ t. (step t 0 u).0) there.tree;
      holds = subst (λ t. Holds None t (knowing t.nodes es s.set_at) last.tables) (sym goes)
          (subst (λ r. Holds None (step (tree_of s) 0 u).0 (knowing (step (tree_of s) 0 u).0.nodes (events_of u r) s.set_at) (absorbing u r s.tables)) (sym right)
          (update_holds (tree_of s) s.set_at s.tables u stays names there.holds));
    };
  }

-- ---- calls that may take something away

owner_made : (m : AttachmentsView) (nodes : Nodes) (id : ℕ) → OwnersAre (Marked m) nodes → Owned nodes id → made_one m id ≡ true
owner_made m nodes id all (above, path, n, found, is) = by (all path n found)
  where
    by : Marked m n.owner → made_one m id ≡ true
    by (inl nobody) = absurd (omega (arith, above, nobody, is))
    by (inr made) = ap (made_one m) (sym is) ∙ made

all_lose : (t u : Tree) (took : Bool) → TakesTo t u took → (path : Path) → Loses u.zxid t.nodes u.nodes path
all_lose t u took (inl same) path = subst (λ nodes. Loses u.zxid t.nodes nodes path) (sym same) (loses_nothing u.zxid t.nodes path)
all_lose t u took (inr (zxid, loses, reason)) path = subst (λ z. Loses z t.nodes u.nodes path) (sym zxid) (loses path)

module _ (calls : List Call) (v : FrontView) (s : Scene) (there : At v s) where
  -- the scene after them
  abbrev pub next : Scene
  next = logged s (done_by calls v)

  pub behind_calls : {Asks : Asking} (w : FrontView) → Reaches Asks w next [] → Reaches Asks w s (done_by calls v)
  behind_calls {Asks} w =
      called w s next (servings calls (replies_to calls v)) (done_by calls v) (served_happens Asks calls v.tree s there.tree) refl

  goes_to : tree_of next ≡ tree_after v.tree calls
  goes_to = tree_logged calls v.tree s there.tree

  -- where the nodes are the same, nothing was taken
  pub nothing_taken : (tree_after v.tree calls).nodes ≡ v.tree.nodes → At (asked calls v) next
  nothing_taken same = record {
    settled = there.settled;
    base = there.base;
    tables = there.tables;
    tree = goes_to;
    holds = still_holds (tree_of s) (tree_of next) s.set_at s.tables
        (ap (λ (t : Tree). t.nodes) goes_to ∙ same ∙ ap (λ (t : Tree). t.nodes) (sym there.tree)) there.holds;
  }

  -- all that they took is still to be told
  pub taken : (took : Bool) → EndsAmong calls v.tree → TakesTo v.tree (tree_after v.tree calls) took
      → AtIf (Some v) (asked calls v) next × Lost v (ending calls v.tree) (asked calls v) took
  taken took told takes = (
    record {
      settled = there.settled;
      base = there.base;
      tables = there.tables;
      tree = goes_to;
      holds = lost_holds (tree_of next).zxid v (tree_of s) (tree_of next) s.set_at s.tables there.tree there.tables loses there.holds;
    },
    lost takes,
  )
    where
      loses : (path : Path) → Loses (tree_of next).zxid (tree_of s).nodes (tree_of next).nodes path
      loses =
          subst (λ (t : Tree). (path : Path) → Loses (tree_of next).zxid t.nodes (tree_of next).nodes path) (sym there.tree)
          (subst (λ (u : Tree). (path : Path) → Loses u.zxid v.tree.nodes u.nodes path) (sym goes_to) (all_lose v.tree (tree_after v.tree calls) took takes))

      lawful : IsLawful v.tree
      lawful = subst IsLawful there.tree (is_lawful s there.settled)

      lives_by : (id owner : ℕ) → 0 < id → owner ≡ id → (owner ≡ 0) ⊎ (finite.contains_key v.tree.sessions owner ≡ true)
          → finite.contains_key v.tree.sessions id ≡ true
      lives_by id owner above is (inl nobody) = absurd (omega (arith, above, nobody, is))
      lives_by id owner above is (inr some) = ap (finite.contains_key v.tree.sessions) (sym is) ∙ some

      lives : (id : ℕ) → Owned v.tree.nodes id → finite.contains_key v.tree.sessions id ≡ true
      lives id (above, path, n, found, is) =
          lives_by id n.owner above is (owned_there v.tree.sessions n.owner (lawful.owners path n found))

      why : (took ≡ true) ⊎ ((id : ℕ) × (finite.get (tree_after v.tree calls).sessions id ≡ None) × Owned v.tree.nodes id)
          → (took ≡ true) ⊎ Gone (ending calls v.tree) (asked calls v)
      why (inl some) = inl some
      why (inr (id, gone, owned)) =
          inr (
            id,
            gone,
            told id (lives id owned) (ap is_some gone),
            ap (λ (t : TablesView). made_one t.attachments id) (sym there.tables)
                ∙ owner_made s.tables.attachments (tree_of s).nodes id there.holds.owners
                (subst (λ (t : Tree). Owned t.nodes id) (sym there.tree) owned),
          )

      lost : TakesTo v.tree (tree_after v.tree calls) took → Lost v (ending calls v.tree) (asked calls v) took
      lost (inl same) = inl same
      lost (inr (zxid, moved, reason)) = inr (all_lose v.tree (tree_after v.tree calls) took takes, why reason)

-- a close leaves the tree, or its reply is Closed
closes_so : (t : Tree) (exhausted gone : Bool) (why other : Reply) (did : Tree × Reply) → did.1 ≡ reply.Closed
    → ((if exhausted then (t, why) else if gone then (t, other) else did).0 ≡ t)
    ⊎ ((if exhausted then (t, why) else if gone then (t, other) else did).1 ≡ reply.Closed)
closes_so t true gone why other did is = inl refl
closes_so t false true why other did is = inl refl
closes_so t false false why other did is = inr is

pub close_does : (t : Tree) (session : ℕ) → ((step t 0 (act.Close session)).0 ≡ t) ⊎ ((step t 0 (act.Close session)).1 ≡ reply.Closed)
unfolding step
close_does t session =
    closes_so t (is_exhausted t (act.Close session)) (is_gone t.sessions 0 session) (reply.Refused Exhausted) (reply.Refused SessionGone)
    (with_next_zxid (without_session t session), reply.Closed) refl

-- a ping leaves the nodes
pings_so : (t : Tree) (id : ℕ) (gone : Bool) (other : Reply) (did : Tree × Reply) → did ≡ (with_renewed_session t id, reply.Pinged)
    → ((if gone then (t, other) else did).0.nodes ≡ t.nodes) × ((if gone then (t, other) else did).0.zxid ≡ t.zxid)
pings_so t id true other did is = (refl, refl)
pings_so t id false other did is = (ap (λ (d : Tree × Reply). d.0.nodes) is, ap (λ (d : Tree × Reply). d.0.zxid) is)

ping_leaves : (t : Tree) (id : ℕ) → ((step t 0 (act.Ping id)).0.nodes ≡ t.nodes) × ((step t 0 (act.Ping id)).0.zxid ≡ t.zxid)
unfolding step
ping_leaves t id = pings_so t id (is_gone t.sessions 0 id) (reply.Refused SessionGone) (with_renewed_session t id, reply.Pinged) refl

-- an open leaves the nodes, and gives the next zxid as the session's id
opens_so : (t : Tree) (exhausted full : Bool) (why other : Reply) (did : Tree × Reply) → did.0.nodes ≡ t.nodes
    → (if exhausted then (t, why) else if full then (t, other) else did).0.nodes ≡ t.nodes
opens_so t true full why other did is = refl
opens_so t false true why other did is = refl
opens_so t false false why other did is = is

pub open_leaves : (t : Tree) (ticks : ℕ) → (step t 0 (act.Open ticks)).0.nodes ≡ t.nodes
unfolding step
open_leaves t ticks =
    opens_so t (is_exhausted t (act.Open ticks)) (nat_le t.limits.sessions (finite.len t.sessions)) (reply.Refused Exhausted)
    (reply.Refused TooManySessions)
    (with_next_zxid (with_session t 0 (granted_timeout t.limits.timeout ticks)), reply.Opened (t.zxid + 1) (granted_timeout t.limits.timeout ticks)) refl

-- ---- what the calls of a tick take away

-- after a call that leaves the nodes
behind_ping : (t u v : Tree) (first : Reply) (rest : List Reply) → u.nodes ≡ t.nodes → u.zxid ≡ t.zxid → TakesTo u v (list_any takes_nodes rest)
    → TakesTo t v (list_any takes_nodes (first ∷ rest))
behind_ping t u v first rest nodes zxid (inl same) = inl (same ∙ nodes)
behind_ping t u v first rest nodes zxid (inr (next, loses, reason)) =
    inr (
      next ∙ ap (λ z. z + 1) zxid,
      λ path. subst (λ z. Loses (z + 1) t.nodes v.nodes path) zxid (subst (λ ns. Loses (u.zxid + 1) ns v.nodes path) nodes (loses path)),
      why reason,
    )
  where
    why : (list_any takes_nodes rest ≡ true) ⊎ ((id : ℕ) × (finite.get v.sessions id ≡ None) × Owned u.nodes id)
        → (list_any takes_nodes (first ∷ rest) ≡ true) ⊎ ((id : ℕ) × (finite.get v.sessions id ≡ None) × Owned t.nodes id)
    why (inl some) = inl (ap (λ b. takes_nodes first || b) some ∙ or-true (takes_nodes first))
    why (inr (id, gone, owned)) = inr (id, gone, subst (λ ns. Owned ns id) nodes owned)

took_first : (t u : Tree) (first : Reply) (rest : List Reply) → TakesTo t u (takes_nodes first) → TakesTo t u (list_any takes_nodes (first ∷ rest))
took_first t u first rest (inl same) = inl same
took_first t u first rest (inr (zxid, loses, inl some)) = inr (zxid, loses, inl (ap (λ b. b || list_any takes_nodes rest) some))
took_first t u first rest (inr (zxid, loses, inr owned)) = inr (zxid, loses, inr owned)

pub tick_taken : (sessions : List ℕ) (t : Tree) → ((calls : List Call) → IsLawful (tree_after t calls))
    → TakesTo t (tree_after t (tick_calls sessions)) (list_any takes_nodes (served t (tick_calls sessions)))
tick_taken [] t lawful = took_first t (step t 0 act.Tick).0 (step t 0 act.Tick).1 [] (tick_takes t (lawful []))
tick_taken (id ∷ sessions) t lawful =
    let u = (step t 0 (act.Ping id)).0 in
    let left = ping_leaves t id in
    behind_ping t u (tree_after u (tick_calls sessions)) (step t 0 (act.Ping id)).1 (served u (tick_calls sessions)) left.0 left.1
    (tick_taken sessions u (λ calls. lawful (ping id ∷ calls)))
