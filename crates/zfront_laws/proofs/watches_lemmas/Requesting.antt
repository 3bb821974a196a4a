-- A server at a scene, where a request is done.
use Rattle.std.proofs.Common.{◌≡◌, ◌∙◌, ℕ, true, false, List, [], ◌∷◌, Option, Some, None, Result, Ok, Err, refl, sym, ap, subst, inl, inr, ◌++◌}
use Rattle.std.specs.Prelude.{◌⊎◌, ◌||◌, if◌then◌else◌}
use Rattle.std.specs.List.{AllByRecursion, list_any}
use Rattle.zcodec.specs.declared.fault.Fault.{Fault}
use Rattle.ztree.specs.Lawful.{IsLawful}
use Rattle.ztree.specs.Tree.{Tree}
use Rattle.zcalls.specs.declared.call.Call.{Call}
use Rattle.zcalls.specs.declared.call.Call.TheVariants.{Update, Query}
use Rattle.zcalls.specs.declared.call.Lifetime.{Lifetime}
use Rattle.zcalls.specs.declared.call.Lifetime.TheVariants.{Persistent, WithTtl, Ephemeral, Container}
use Rattle.zcalls.specs.declared.call.Part.{Part}
use Rattle.zcalls.specs.declared.call.Part.TheVariants as part
use Rattle.zcalls.specs.declared.call.Update.{Update as Act}
use Rattle.zcalls.specs.declared.call.Update.TheVariants as act
use Rattle.zcalls.specs.declared.reply.Reply.{Reply}
use Rattle.zcalls.specs.declared.reply.Reply.TheVariants as reply
use Rattle.zcalls.specs.Part.{owner_of}
use Rattle.zcalls.specs.Step.{step}
use Rattle.zwatches.specs.changes.Laws.{takes_away}
use Rattle.zjute.specs.declared.request.Request.{Request}
use Rattle.zjute.specs.declared.request.Asked.{Asked}
use Rattle.zrequests.specs.Asking.{Meaning}
use Rattle.zrequests.specs.Laws.{CallIsFor, UpdateIsFor, PartIsFor, IsForSession}
use Rattle.zrequests.specs.Requests.{calls_in}
use Rattle.zrequests.specs.declared.fault.Unasked.TheVariants.{Refused, Memory}
use Rattle.zrequests.proofs.SessionCalls.{calls_are_for_their_session}
use Rattle.zresponses.specs.declared.answer.Answer.{Answer}
use Rattle.zresponses.specs.Own.{refused_answer}
use Rattle.ztree_service.specs.log.Logs.{tree_after}
use Rattle.zconnections.specs.buffers.Streams.{phase_of}
use Rattle.zconnections.specs.declared.buffers.phase.Phase.TheVariants.{Speaking}
use Rattle.zconnections.specs.attachments.Attachments.{AttachmentsView, with_changed, touched}
use Rattle.zconnections.specs.Tables.{TablesView, closed, sent}
use Rattle.zresponses.specs.effects.Answering.{answer_unless, granted_and_answered, now_of}
use Rattle.zresponses.specs.effects.Replying.{absorbed_all, replied}
use Rattle.zresponses.specs.effects.Frames.{answer_frame, ends_connection}
use Rattle.zresponses.specs.effects.Watching.{granted_all, first_fault}
use Rattle.zresponses.specs.effects.Wishes.{wishes}
use Rattle.zresponses.specs.Stats.{told}
use Rattle.zfront.specs.Requests.{request_in}
use Rattle.zfront.specs.Front.{FrontView, with_tables, asked, ending, replies_to, may_end, takes_nodes, tidied_if, watched}
use Rattle.zfront.specs.Requests.{touched_by, with_answer, Makes, Tells, Acts, ActsOr, Requests, Serves}
use Rattle.zfront.specs.Walks.{walked}
use Rattle.zfront_laws.specs.Logs.{done_by, meant, request_calls}
use Rattle.zfront_laws.proofs.Seated.{Has}
use Rattle.zfront_laws.specs.watches.Laws.{IsRequest}
use Rattle.zfront_laws.specs.watches.Watching.{Scene, Asking, HasReportedAll, IsClose}
use Rattle.zfront_laws.proofs.Ending.{own_calls_end}
use Rattle.zfront_laws.proofs.watches_lemmas.Doomed.{close_covers}
use Rattle.zfront_laws.proofs.watches_lemmas.Granting.{granted_answers, no_wish_grants}
use Rattle.zfront_laws.proofs.watches_lemmas.Holding.{absorbing}
use Rattle.zfront_laws.proofs.watches_lemmas.Owning.{UpdateNames}
use Rattle.zfront_laws.proofs.watches_lemmas.Marks.{Known, Keeps, unchanged, closed_keeps, touched_keeps}
use Rattle.zfront_laws.proofs.watches_lemmas.Moving.{attachments_move}
use Rattle.zfront_laws.proofs.watches_lemmas.Owners.{PartNames}
use Rattle.zfront_laws.proofs.watches_lemmas.Reaching.{At, AtIf, Reaches, all_reported, becomes, behind, moves, replies, still, closes}
use Rattle.zfront_laws.proofs.watches_lemmas.Renewing.{AsksIf, asks_if}
use Rattle.zfront_laws.proofs.watches_lemmas.Scenes.{is_lawful}
use Rattle.zfront_laws.proofs.Walking.{walks_call_nothing}
use Rattle.zfront_laws.proofs.watches_lemmas.Sorting.{Sorts, sorts}
use Rattle.zfront_laws.proofs.watches_lemmas.Standing.{sent_attachments}
use Rattle.zfront_laws.proofs.watches_lemmas.Taking.{close_takes}
use Rattle.zfront_laws.proofs.watches_lemmas.Tidying.{Gone, Lost, tidies}
use Rattle.zfront_laws.proofs.watches_lemmas.Updating.{absorbs, behind_calls, close_does, next, nothing_taken, taken}
use Rattle.zfront_laws.proofs.watches_lemmas.Watched.{Covers}
use Rattle.zfront_laws.proofs.watches_lemmas.Wished.{wishes_grant}
use Rattle.zfront_laws.proofs.watches_lemmas.Wishing.{AreOf, AreQueries, served_are_of}

-- ---- queries

-- they end no session, and leave the tree and the tables
never_end : (calls : List Call) → AreQueries calls → list_any may_end calls ≡ false
never_end [] all = refl
never_end (Query query ∷ calls) all = never_end calls all.1
never_end (Update update ∷ calls) all = absurd all.0

same_tree : (t : Tree) (calls : List Call) → AreQueries calls → tree_after t calls ≡ t
same_tree t [] all = refl
same_tree t (Query query ∷ calls) all = same_tree t calls all.1
same_tree t (Update update ∷ calls) all = absurd all.0

absorbed_queries : (calls : List Call) (reported : List Reply) (t : TablesView) → AreQueries calls → absorbed_all calls reported t ≡ t
absorbed_queries [] reported t all = refl
absorbed_queries (call ∷ calls) [] t all = refl
absorbed_queries (Query query ∷ calls) (reply ∷ reported) t all = absorbed_queries calls reported t all.1
absorbed_queries (Update update ∷ calls) (reply ∷ reported) t all = absurd all.0

module _ (c : ℕ) (asks : Request) where
  -- queries set watches, and are answered
  makes_queries : {Asks : Asking} (calls : List Call) (old new : FrontView) (s : Scene) → Asks c asks.asked → AsksIf asks.asked calls
      → AreQueries calls → At old s → Makes calls c asks old new → Reaches Asks new s (done_by calls old)
  makes_queries {Asks} calls old new s mine named all there is =
      becomes new (with_answer calls c asks old) s (done_by calls old)
      (is ∙ ap (λ b. tidied_if b reported (ending calls old.tree) (watched calls old) (with_answer calls c asks old)) (never_end calls all))
      (behind_calls calls old s there (with_answer calls c asks old)
      (subst (λ t. Reaches Asks (with_tables (granted_and_answered old.clock (now_of v.tree) c asks calls reported t) v) (next calls old s there) [])
      (sym (absorbed_queries calls reported old.tables all)) granted))
    where
      reported : List Reply
      reported = replies_to calls old

      v : FrontView
      v = asked calls old

      same : v.tree ≡ old.tree
      same = same_tree old.tree calls all

      granted : Reaches Asks (with_tables (granted_and_answered old.clock (now_of v.tree) c asks calls reported old.tables) v) (next calls old s there) []
      granted =
          granted_answers v (next calls old s there) c asks calls reported (nothing_taken calls old s there (ap (λ (t : Tree). t.nodes) same))
          (wishes_grant c v.tree asks.asked calls reported mine named (subst (λ t. AreOf t calls reported) (sym same) (served_are_of old.tree calls all)))

  -- an update, which sets no watch
  module _ (u : Act) (old new : FrontView) (s : Scene) (no_watch : (reported : List Reply) → wishes asks.asked (Update u ∷ []) reported ≡ [])
      (there : At old s) where
    abbrev calls : List Call
    calls = Update u ∷ []

    abbrev reported : Reply
    reported = (step old.tree 0 u).1

    abbrev v : FrontView
    v = asked calls old

    -- it takes nothing away
    updates : {Asks : Asking} → takes_away u ≡ false → UpdateNames (Known s.tables.attachments) u → new ≡ with_answer calls c asks old → Reaches Asks new s (done_by calls old)
    updates stays names is =
        let w = with_tables (absorbing u reported old.tables) v in
        becomes new (with_answer calls c asks old) s (done_by calls old) is
        (still None None w (with_answer calls c asks old) s (done_by calls old) (absorbs old s u there stays names)
        (λ last here.
        granted_answers w last c asks calls (reported ∷ []) here
        (no_wish_grants c asks.asked calls (reported ∷ []) w.tree.nodes (no_watch (reported ∷ [])))))

    -- the answer to one that may take something away
    abbrev answer : Answer
    answer = answer_unless None old.clock (now_of v.tree) asks.asked calls (reported ∷ [])

    abbrev answered : FrontView
    answered = with_tables (replied (told v.clock.base v.tree.zxid) c asks.xid answer old.tables) v

    no_wishes : with_tables (granted_and_answered old.clock (now_of v.tree) c asks calls (reported ∷ []) old.tables) v ≡ answered
    no_wishes =
        ap (λ ws. with_tables (replied (told v.clock.base v.tree.zxid) c asks.xid
        (answer_unless (first_fault c ws old.tables) old.clock (now_of v.tree) asks.asked calls (reported ∷ [])) (granted_all c ws old.tables)) v)
        (no_watch (reported ∷ []))

    -- it is answered, and what it took away is reported
    replied_keeps : (t : TablesView) → Keeps t.attachments (replied (told v.clock.base v.tree.zxid) c asks.xid answer t).attachments
    replied_keeps t =
        let u = sent c (answer_frame (told v.clock.base v.tree.zxid) asks.xid answer) t in
        elim (ends_connection answer.code) as (λ b. Keeps t.attachments (if b then closed c u else u).attachments) [
          | true ↦ subst (λ m. Keeps m (closed c u).attachments) (sent_attachments c (answer_frame (told v.clock.base v.tree.zxid) asks.xid answer) t) (closed_keeps c u)
          | false ↦ subst (Keeps t.attachments) (sym (sent_attachments c (answer_frame (told v.clock.base v.tree.zxid) asks.xid answer) t)) (unchanged t.attachments)
        ]

    abbrev ids : List ℕ
    ids = ending calls old.tree

    ends : {Asks : Asking} → AtIf (Some old) v (next calls old s there) → Lost old ids v (takes_nodes reported) → Covers old v.tree (watched calls old)
        → (HasReportedAll (next calls old s there) c ⊎ IsClose (next calls old s there) c)
        → new ≡ tidied_if true (reported ∷ []) ids (watched calls old) answered → Reaches Asks new s (done_by calls old)
    ends here lost covers may is =
        becomes new (tidied_if true (reported ∷ []) ids (watched calls old) answered) s (done_by calls old) is
        (behind_calls calls old s there (tidied_if true (reported ∷ []) ids (watched calls old) answered)
        (behind (Some old) None answered (tidied_if true (reported ∷ []) ids (watched calls old) answered) (next calls old s there) [] []
        (replies (Some old) v (next calls old s there) c asks.xid answer here may)
        (λ last this. tidies (reported ∷ []) ids old answered (watched calls old) covers last this (still_lost lost))))
      where
        why : (takes_nodes reported ≡ true) ⊎ Gone ids v → (list_any takes_nodes (reported ∷ []) ≡ true) ⊎ Gone ids answered
        why (inl some) = inl (ap (λ b. b || false) some)
        why (inr (id, gone, listed, made)) = inr (id, gone, listed, (replied_keeps old.tables).marks id made)

        still_lost : Lost old ids v (takes_nodes reported) → Lost old ids answered (list_any takes_nodes (reported ∷ []))
        still_lost (inl same) = inl same
        still_lost (inr (loses, reason)) = inr (loses, why reason)

  -- a close
  closes_session : {Asks : Asking} (session : ℕ) (old new : FrontView) (s : Scene) → phase_of old.tables.streams c ≡ Some (Speaking session)
      → ((reported : List Reply) → wishes asks.asked (Update (act.Close session) ∷ []) reported ≡ []) → At old s
      → Makes (Update (act.Close session) ∷ []) c asks old new → Reaches Asks new s (done_by (Update (act.Close session) ∷ []) old)
  closes_session {Asks} session old new s speaks no_watch there is = by (close_does old.tree session)
    where
      u : Act
      u = act.Close session

      then_scene : Scene
      then_scene = next (Update u ∷ []) old s there

      reported : Reply
      reported = (step old.tree 0 u).1

      done : FrontView
      done = answered u old new s no_watch there

      tidied : new ≡ tidied_if true (reported ∷ []) (ending (Update u ∷ []) old.tree) (watched (Update u ∷ []) old) done
      tidied = is ∙ ap (tidied_if true (reported ∷ []) (ending (Update u ∷ []) old.tree) (watched (Update u ∷ []) old)) (no_wishes u old new s no_watch there)

      lawful : IsLawful old.tree
      lawful = subst IsLawful there.tree (is_lawful s there.settled)

      covers : Covers old (tree_after old.tree (Update u ∷ [])) (watched (Update u ∷ []) old)
      covers = close_covers session old lawful

      took : AtIf (Some old) (asked (Update u ∷ []) old) then_scene × Lost old (ending (Update u ∷ []) old.tree) (asked (Update u ∷ []) old) (takes_nodes reported)
      took =
          taken (Update u ∷ []) old s there (takes_nodes reported) (own_calls_end session (Update u ∷ []) (refl, tt) old.tree)
          (close_takes old.tree session lawful)

      by : ((step old.tree 0 u).0 ≡ old.tree) ⊎ ((step old.tree 0 u).1 ≡ reply.Closed) → Reaches Asks new s (done_by (Update u ∷ []) old)
      by (inl same) =
          let here = nothing_taken (Update u ∷ []) old s there (ap (λ (t : Tree). t.nodes) same) in
          ends u old new s no_watch there took.0 took.1 covers (inl (all_reported (asked (Update u ∷ []) old) then_scene c here)) tidied
      by (inr ended) =
          ends u old new s no_watch there took.0 took.1 covers
          (inr (
            s.log,
            session,
            ap (λ r. s.log ++ (Update u, r) ∷ []) ended,
            ap (λ (t : TablesView). phase_of t.streams c) there.tables ∙ speaks,
          )) tidied

  -- an update
  makes_update : {Asks : Asking} (session : ℕ) (u : Act) → UpdateIsFor session u → ((reported : List Reply) → wishes asks.asked (Update u ∷ []) reported ≡ [])
      → (old new : FrontView) (s : Scene) → phase_of old.tables.streams c ≡ Some (Speaking session) → UpdateNames (Known s.tables.attachments) u
      → At old s → Makes (Update u ∷ []) c asks old new → Reaches Asks new s (done_by (Update u ∷ []) old)
  makes_update session (act.Create create) for no_watch old new s speaks names there is =
      updates (act.Create create) old new s no_watch there refl names is
  makes_update session (act.Delete delete) for no_watch old new s speaks names there is =
      updates (act.Delete delete) old new s no_watch there refl names is
  makes_update session (act.SetData set) for no_watch old new s speaks names there is =
      updates (act.SetData set) old new s no_watch there refl names is
  makes_update session (act.SetAcl set) for no_watch old new s speaks names there is =
      updates (act.SetAcl set) old new s no_watch there refl names is
  makes_update session (act.Multi parts) for no_watch old new s speaks names there is =
      updates (act.Multi parts) old new s no_watch there refl names is
  makes_update session (act.Open ticks) for no_watch old new s speaks names there is = absurd for
  makes_update session (act.Ping id) for no_watch old new s speaks names there is = absurd for
  makes_update session (act.Close id) for no_watch old new s speaks names there has =
      closes_session id old new s (speaks ∙ ap (λ n. Some (Speaking n)) (sym for)) no_watch there has
  makes_update session act.Tick for no_watch old new s speaks names there is = absurd for

-- ---- what a request names

lifetime_names : (m : AttachmentsView) (session : ℕ) → Has m session → (lifetime : Lifetime) → IsForSession session lifetime
    → Known m (owner_of lifetime)
lifetime_names m session has Persistent for = inl refl
lifetime_names m session has (WithTtl ttl) for = inl refl
lifetime_names m session has Container for = inl refl
lifetime_names m session has (Ephemeral owner) for = inr (subst (Has m) (sym for) has)

parts_names : (m : AttachmentsView) (session : ℕ) → Has m session → (parts : List Part) → AllByRecursion (PartIsFor session) parts
    → AllByRecursion (PartNames (Known m)) parts
parts_names m session has [] for = tt
parts_names m session has (part.Create create ∷ parts) for = (
  lifetime_names m session has create.kind.lifetime for.0,
  parts_names m session has parts for.1,
)
parts_names m session has (part.Delete delete ∷ parts) for = (tt, parts_names m session has parts for.1)
parts_names m session has (part.SetData set ∷ parts) for = (tt, parts_names m session has parts for.1)
parts_names m session has (part.Check check ∷ parts) for = (tt, parts_names m session has parts for.1)

update_names : (m : AttachmentsView) (session : ℕ) → Has m session → (u : Act) → UpdateIsFor session u → UpdateNames (Known m) u
update_names m session has (act.Create create) for = lifetime_names m session has create.kind.lifetime for
update_names m session has (act.Multi parts) for = parts_names m session has parts for
update_names m session has (act.Delete delete) for = tt
update_names m session has (act.SetData set) for = tt
update_names m session has (act.SetAcl set) for = tt
update_names m session has (act.Open ticks) for = tt
update_names m session has (act.Ping id) for = tt
update_names m session has (act.Close id) for = tt
update_names m session has act.Tick for = tt

-- ---- a request

module _ {Asks : Asking} (c session : ℕ) (asks : Request) (mine : Asks c asks.asked) where
  makes : (made : List Call) → AsksIf asks.asked made → Sorts asks.asked made → AllByRecursion (CallIsFor session) made
      → (old new : FrontView) (s : Scene) → phase_of old.tables.streams c ≡ Some (Speaking session) → Has s.tables.attachments session → At old s
      → Makes made c asks old new → Reaches Asks new s (done_by made old)
  makes made named (inl all) for old new s speaks sits there has = makes_queries c asks made old new s mine named all there has
  makes made named (inr (u, is, no_watch)) for old new s speaks sits there has =
      let own : UpdateIsFor session u = (subst (AllByRecursion (CallIsFor session)) is for).0 in
      subst (λ cs. Reaches Asks new s (done_by cs old)) (sym is)
      (makes_update c asks session u own (λ reported. ap (λ cs. wishes asks.asked cs reported) (sym is) ∙ no_watch reported) old new s speaks
      (update_names s.tables.attachments session sits u own) there
      (subst (λ cs. Makes cs c asks old new) is has))

  tells : (answer : Answer) (old new : FrontView) (s : Scene) → At old s → Tells answer c asks old new → Reaches Asks new s []
  tells answer old new s there is =
      becomes new (with_tables (replied (told old.clock.base old.tree.zxid) c asks.xid answer old.tables) old) s [] is
      (replies None old s c asks.xid answer there (inl (all_reported old s c there)))

  acts : (meaning : Meaning (List Call)) → ((calls : List Call) → meaning ≡ Ok calls
      → AsksIf asks.asked calls × Sorts asks.asked calls × AllByRecursion (CallIsFor session) calls)
      → (old new : FrontView) (s : Scene) → phase_of old.tables.streams c ≡ Some (Speaking session) → Has s.tables.attachments session
      → At old s → Acts meaning c asks old new → Reaches Asks new s (done_by (meant meaning) old)
  acts (Err (Refused code)) each old new s speaks sits there is = tells (refused_answer code asks.asked) old new s there is
  acts (Err Memory) each old new s speaks sits there has = absurd has
  acts (Ok calls) each old new s speaks sits there has =
      let sorted = each calls refl in
      makes calls sorted.0 sorted.1 sorted.2 old new s speaks sits there has

  acts_or : (told : Option Answer) (meaning : Meaning (List Call)) → ((answer : Answer) → told ≡ Some answer → meant meaning ≡ [])
      → ((calls : List Call) → meaning ≡ Ok calls → AsksIf asks.asked calls × Sorts asks.asked calls × AllByRecursion (CallIsFor session) calls)
      → (old new : FrontView) (s : Scene) → phase_of old.tables.streams c ≡ Some (Speaking session) → Has s.tables.attachments session
      → At old s → ActsOr told meaning c asks old new → Reaches Asks new s (done_by (meant meaning) old)
  acts_or (Some answer) meaning nothing each old new s speaks sits there is =
      subst (λ calls. Reaches Asks new s (done_by calls old)) (sym (nothing answer refl)) (tells answer old new s there is)
  acts_or None meaning nothing each old new s speaks sits there has = acts meaning each old new s speaks sits there has

-- a frame of a session
requests : {Asks : Asking} (read : Result Request Fault) (session c : ℕ) (old new : FrontView) (s : Scene)
    → ((asks : Request) → read ≡ Ok asks → Asks c asks.asked) → phase_of old.tables.streams c ≡ Some (Speaking session)
    → Has old.tables.attachments session → At old s → Requests read session c old new → Reaches Asks new s (done_by (request_calls read session old) old)
requests (Err fault) session c old new s mine speaks sits there is =
    becomes new (with_tables (closed c old.tables) old) s [] is (closes None old s c there)
requests (Ok asks) session c old new s mine speaks sits there has =
    let kept = touched_keeps session old.tables.attachments in
    let t : TablesView = record old.tables { attachments = with_changed touched old.tables.attachments session } in
    behind None None (touched_by session old) new s [] (done_by (request_calls (Ok asks) session old) old)
    (moves None old s t there (attachments_move old.tables (with_changed touched old.tables.attachments session)) kept)
    (λ next here.
    acts_or c session asks (mine asks refl) (walked session asks.asked old.tree) (calls_in old.clock.terms session asks.asked)
    (walks_call_nothing old.clock.terms session asks.asked old.tree)
    (λ calls is. (asks_if old.clock.terms session asks.asked calls is, sorts old.clock.terms session asks.asked calls is, calls_are_for_their_session old.clock.terms session asks.asked calls is))
    (touched_by session old) new next speaks
    (subst (λ (u : TablesView). Has u.attachments session) (sym here.tables) (kept.has session sits)) here has)

pub serves : {Asks : Asking} (bytes : List ℕ) (session c : ℕ) (old new : FrontView) (s : Scene)
    → ((asks : Asked) → IsRequest old.clock.base asks bytes → Asks c asks) → phase_of old.tables.streams c ≡ Some (Speaking session)
    → Has old.tables.attachments session → At old s → Serves bytes session c old new
    → Reaches Asks new s (done_by (request_calls (request_in old.clock.base bytes) session old) old)
serves bytes session c old new s mine speaks sits there has =
    requests (request_in old.clock.base bytes) session c old new s (λ asks reads. mine asks.asked (asks, reads, refl)) speaks sits there has
