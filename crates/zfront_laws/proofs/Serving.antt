-- A step at greetings and at requests.
use Rattle.std.proofs.Common.{◌≡◌, ◌≢◌, ◌⊎◌, inl, inr, ◌∙◌, ℕ, ℤ, ◌+◌, ◌≤◌, Bool, true, false, List, [], ◌∷◌, Option, None, Some, Result}
use Rattle.std.proofs.Common.{Ok, Err, refl, sym, ap, subst, arith}
use Rattle.std.specs.List.{AllByRecursion}
use Rattle.std.specs.Prelude.{pos, negsuc, nat_eq, unwrap_or, if◌then◌else◌}
use Rattle.std.specs.Cmp.{nat_cmp_total}
use Rattle.std.specs.FinMap.{get, insert, contains_key, nat_cmp-IsAntisymmetric}
use Rattle.std.specs.Option.{option_map_or}
use Rattle.std.specs.Ordering.{int_eq}
use lib.Pointwise.{pointwise}
use Rattle.ztree.proofs.Maps.{get-inserted, is_there}
use Rattle.ztree.specs.declared.session.Session.{Session}
use Rattle.zcodec.specs.Readers.{whole}
use Rattle.zcodec.specs.declared.fault.Fault.{Fault}
use Rattle.zcalls.specs.declared.call.Call.{Call}
use Rattle.zcalls.specs.declared.reply.Reply.{Reply}
use Rattle.zcalls.specs.declared.reply.Reply.TheVariants.{Opened}
use Rattle.zjute.specs.Connecting.{connect_request}
use Rattle.zjute.specs.declared.connecting.ConnectRequest.{ConnectRequest}
use Rattle.zjute.specs.declared.request.Request.{Request}
use Rattle.zrequests.specs.Asking.{Meaning}
use Rattle.zrequests.specs.Requests.{calls_in}
use Rattle.zrequests.specs.Laws.{CallIsFor}
use Rattle.zrequests.proofs.SessionCalls.{calls_are_for_their_session}
use Rattle.zrequests.specs.Timeouts.{millis_reported, ticks_asked}
use Rattle.zrequests.specs.declared.fault.Unasked.TheVariants.{Refused, Memory}
use Rattle.zresponses.specs.declared.answer.Answer.{Answer}
use Rattle.zresponses.specs.Own.{refused_answer}
use Rattle.zresponses.specs.Stats.{told, long_of}
use Rattle.zpasswords.specs.Passwords.{password_of}
use Rattle.zconnections.specs.buffers.Streams.{held_of}
use Rattle.zconnections.specs.declared.buffers.phase.Phase.TheVariants.{Speaking}
use Rattle.zconnections.specs.declared.attachments.attachment.Attachment.{Attachment}
use Rattle.zconnections.specs.attachments.Attachments.{AttachmentsView, new_attachment, restored_attachment}
use Rattle.zconnections.specs.attachments.Attachments as attachments
use Rattle.zprotocol.specs.world.PlainTree.{serve}
use Rattle.ztree_service.proofs.log_lemmas.Incarnations.{trees_can_start_again}
use Rattle.zconnections.specs.Tables.{TablesView, closed, connection_of, moved, attachment, taken_up, sent}
use Rattle.zresponses.specs.effects.Frames.{response_frame}
use Rattle.zresponses.specs.effects.Greeting.{came_back, given, is_ahead, session_reported, turned_away}
use Rattle.zresponses.specs.effects.Replying.{replied}
use Rattle.zfront.specs.Front.{FrontView, with_tables, asked}
use Rattle.zfront.specs.Greeting.{opening, opened, with_session, returned, greeted_by, greeted}
use Rattle.zfront.specs.Requests.{touched_by, with_answer, Tells, Acts, ActsOr, Requests, Serves, request_in}
use Rattle.zfront.specs.Walks.{walked}
use Rattle.zfront_laws.specs.Logs.{done_by, greeting_calls, meant, request_calls}
use Rattle.zfront_laws.specs.Seats.{IsSeated}
use Rattle.zfront_laws.proofs.Calling.{made, makes}
use Rattle.zfront_laws.proofs.Changes.{replies_to, says, sends}
use Rattle.zfront_laws.proofs.Ending.{own_calls_end}
use Rattle.zfront_laws.proofs.Cached.{closes_kept, touched_kept}
use Rattle.zfront_laws.proofs.Lighter.{Lighter, as_many, carries_lighter, closes, moves, phase_lighter}
use Rattle.zfront_laws.proofs.Rising.{new_id, sessions_last, step_adds}
use Rattle.zfront_laws.proofs.Seated.{Has, connection_in}
use Rattle.zfront_laws.proofs.Seated as seat
use Rattle.zfront_laws.proofs.Steps.{Fine, Goes, below, both, retabled, tables_change}
use Rattle.zfront_laws.proofs.Walking.{walks_call_nothing}
use Rattle.zfront_laws.proofs.Working as working

-- ---- requests

tells : (answer : Answer) (c : ℕ) (r : Request) (old new : FrontView) → Tells answer c r old new → Goes [] [] old new
tells answer c r old new is =
    retabled (replied (told old.clock.base old.tree.zxid) c r.xid answer old.tables) old new is
    (replies_to Lighter carries_lighter (told old.clock.base old.tree.zxid) c r.xid answer old.tables)

acts : (meaning : Meaning (List Call)) (session : ℕ) → ((calls : List Call) → meaning ≡ Ok calls → AllByRecursion (CallIsFor session) calls)
    → (c : ℕ) (r : Request) (old new : FrontView) → Acts meaning c r old new → Goes [] (done_by (meant meaning) old) old new
acts (Err (Refused code)) session for c r old new is = tells (refused_answer code r.asked) c r old new is
acts (Err Memory) session for c r old new is = absurd is
acts (Ok calls) session for c r old new has =
    makes calls (with_answer calls c r old).tables old new (working.answered_by Lighter carries_lighter calls c r old)
    (λ fine. own_calls_end session calls (for calls refl) old.tree) has

acts_or : (walk : Option Answer) (meaning : Meaning (List Call)) → ((answer : Answer) → walk ≡ Some answer → meant meaning ≡ [])
    → (session : ℕ) → ((calls : List Call) → meaning ≡ Ok calls → AllByRecursion (CallIsFor session) calls) → (c : ℕ) (r : Request) (old new : FrontView) → ActsOr walk meaning c r old new → Goes [] (done_by (meant meaning) old) old new
acts_or (Some answer) meaning nothing session for c r old new is =
    subst (λ calls. Goes [] (done_by calls old) old new) (sym (nothing answer refl)) (tells answer c r old new is)
acts_or None meaning nothing session for c r old new has = acts meaning session for c r old new has

requests : (read : Result Request Fault) (session c : ℕ) (old new : FrontView) → Requests read session c old new
    → Goes [] (done_by (request_calls read session old) old) old new
requests (Err fault) session c old new is = retabled (closed c old.tables) old new is (closes c old.tables)
requests (Ok r) session c old new has =
    let middle = touched_by session old in
    both (retabled middle.tables old middle refl (as_many (held_of old.tables.streams), touched_kept session old.tables))
    (acts_or (walked session r.asked old.tree) (calls_in old.clock.terms session r.asked)
    (walks_call_nothing old.clock.terms session r.asked old.tree) session (calls_are_for_their_session old.clock.terms session r.asked) c r middle new has)

pub serves : (bytes : List ℕ) (session c : ℕ) (old new : FrontView) → Serves bytes session c old new
    → Goes [] (done_by (request_calls (request_in old.clock.base bytes) session old) old) old new
serves bytes session c old new has = requests (request_in old.clock.base bytes) session c old new has

-- ---- a client comes back

-- which connection has the seat where an attachment is put
sits : (m n : AttachmentsView) (session : ℕ) (s : Attachment) → ((id : ℕ) → Has n id → Has m id) → (id : ℕ) → Has (insert n session s) id
    → (id ≡ session) ⊎ Has m id
sits m n session s kept id has = by (get-inserted nat_cmp_total nat_cmp-IsAntisymmetric n session s id has.0 has.1)
  where
    by : ((id ≡ session) × (s ≡ has.0)) ⊎ ((id ≢ session) × (get n id ≡ Some has.0)) → (id ≡ session) ⊎ Has m id
    by (inl same) = inl same.0
    by (inr old) = inr (kept id (has.0, old.1))

turns_away : (greeting : ConnectRequest) (c : ℕ) (v : FrontView) → Goes [] [] v (with_tables (turned_away greeting c v.tables) v)
turns_away greeting c v =
    retabled (turned_away greeting c v.tables) v (with_tables (turned_away greeting c v.tables) v) refl (says Lighter carries_lighter c _ v.tables)

takes_up : (session c : ℕ) (v : FrontView) → contains_key v.tree.sessions session ≡ true → Goes [] [] v (with_tables (taken_up session c v.tables) v)
takes_up session c v there = tables_change (taken_up session c t) v
    (λ few. omega (arith, few, moving.0, phase_lighter u.streams c (Speaking session))) seats
  where
    t : TablesView
    t = v.tables

    u : TablesView
    u = moved session t

    moving : Lighter t u
    moving = moves session t

    alive : Fine v → (id : ℕ) → (id ≡ session) ⊎ Has t.attachments id → contains_key v.tree.sessions id ≡ true
    alive fine id (inl is) = ap (contains_key v.tree.sessions) is ∙ there
    alive fine id (inr has) = fine.alive id has

    s : Attachment
    s = attachments.taken_up c (unwrap_or (get u.attachments session) restored_attachment)

    seats : Fine v → Fine (with_tables (taken_up session c t) v)
    seats fine = record {
      seated = seat.takes_up session c t fine.seated;
      alive = λ id has. alive fine id (sits t.attachments u.attachments session s moving.1.1 id has);
      can = fine.can;
    }

comes_back : (greeting : ConnectRequest) (session ticks : ℕ) (c : ℕ) (v : FrontView) → contains_key v.tree.sessions session ≡ true
    → Goes [] [] v (with_tables (came_back v.clock.terms.tick greeting session ticks (password_of v.secret session) c v.tables) v)
comes_back greeting session ticks c v there =
    let password = password_of v.secret session in
    let timeout = millis_reported v.clock.terms.tick ticks in
    let bytes = response_frame greeting timeout (long_of session) password in
    let middle = with_tables (taken_up session c v.tables) v in
    elim (pointwise nat_eq (given greeting) password) as
    (λ b. Goes [] [] v (with_tables (if b then session_reported greeting session timeout password c (taken_up session c v.tables)
    else turned_away greeting c v.tables) v)) [
      | true ↦ both (takes_up session c v there)
          (retabled (sent c bytes middle.tables) middle (with_tables (sent c bytes middle.tables) middle) refl
          (sends Lighter carries_lighter c bytes middle.tables))
      | false ↦ turns_away greeting c v
    ]

returns : (greeting : ConnectRequest) (id : ℤ) (c : ℕ) (v : FrontView) → Goes [] [] v (with_tables (returned greeting id c v) v)
returns greeting (negsuc n) c v = turns_away greeting c v
returns greeting (pos session) c v = by (get v.tree.sessions session) refl
  where
    by : (o : Option Session) → get v.tree.sessions session ≡ o → Goes [] [] v
        (with_tables (option_map_or (λ s. came_back v.clock.terms.tick greeting session s.timeout (password_of v.secret session) c v.tables)
        o (turned_away greeting c v.tables)) v)
    by None is = turns_away greeting c v
    by (Some s) is = comes_back greeting session s.timeout c v (is_there (get v.tree.sessions session) s is)

-- ---- a session is opened

-- a new one, so it has no connection yet
no_attachment : (m : AttachmentsView) (id bound : ℕ) → id ≡ bound + 1 → ((other : ℕ) → Has m other → other ≤ bound) → connection_of m id ≡ None
no_attachment m id bound is low = by (get m id) refl
  where
    by : (o : Option Attachment) → get m id ≡ o → connection_of m id ≡ None
    by None none = ap connection_in none
    by (Some s) there = absurd (omega (arith, is, low id (s, there)))

module _ (greeting : ConnectRequest) (c : ℕ) (v : FrontView) where
  abbrev ticks_wanted : ℕ
  ticks_wanted = ticks_asked v.clock.terms.tick greeting.timeout

  abbrev the_call : Call
  the_call = opening v.clock.terms.tick greeting

  abbrev the_tables : List Reply → TablesView
  the_tables replies = opened v.clock.terms.tick v.secret greeting c replies v.tables

  lasts : (id : ℕ) → Fine v → Has v.tables.attachments id → contains_key (serve v.tree 0 the_call).0.sessions id ≡ true
  lasts id fine has = sessions_last (the_call ∷ []) v.tree id refl (fine.alive id has)

  opens_to : (t : TablesView) → held_of t.streams ≤ held_of v.tables.streams → (Fine v → IsSeated t)
      → ((id : ℕ) → Fine v → Has t.attachments id → contains_key (serve v.tree 0 the_call).0.sessions id ≡ true)
      → Goes [] (done_by (the_call ∷ []) v) v (with_tables t (asked (the_call ∷ []) v))
  opens_to t few seated alive = made (the_call ∷ []) t v few (λ fine. record {
    seated = seated fine;
    alive = λ id has. alive id fine has;
    can = trees_can_start_again v.tree (the_call ∷ []) fine.can;
  })

  shuts : Goes [] (done_by (the_call ∷ []) v) v (with_tables (closed c v.tables) (asked (the_call ∷ []) v))
  shuts =
      let kept = closes_kept c v.tables in
      opens_to (closed c v.tables) (closes c v.tables).0 (λ fine. kept.0 fine.seated) (λ id fine has. lasts id fine (kept.1 id has))

  welcomes : (session ticks : ℕ) → (serve v.tree 0 the_call).1 ≡ Opened session ticks
      → Goes [] (done_by (the_call ∷ []) v) v (with_tables (the_tables (Opened session ticks ∷ [])) (asked (the_call ∷ []) v))
  welcomes session ticks is = opens_to (sent c bytes u) (omega (arith, reporting.0, phase_lighter t.streams c (Speaking session))) seated
      (λ id fine has. alive id fine (sits t.attachments t.attachments session (new_attachment c) (λ n there. there) id (reporting.1.1 id has)))
    where
      t : TablesView
      t = v.tables

      u : TablesView
      u = attachment session c t

      bytes : List ℕ
      bytes = response_frame greeting (millis_reported v.clock.terms.tick ticks) (long_of session) (password_of v.secret session)

      reporting : Lighter u (sent c bytes u)
      reporting = sends Lighter carries_lighter c bytes u

      seated : Fine v → IsSeated (sent c bytes u)
      seated fine =
          reporting.1.0 (seat.opens session c t (no_attachment t.attachments session v.tree.zxid (new_id v.tree ticks_wanted session ticks is).0
          (below v fine)) fine.seated)

      alive : (id : ℕ) → Fine v → (id ≡ session) ⊎ Has t.attachments id → contains_key (serve v.tree 0 the_call).0.sessions id ≡ true
      alive id fine (inl same) =
          ap (contains_key (serve v.tree 0 the_call).0.sessions) same ∙ step_adds v.tree ticks_wanted session ticks is
      alive id fine (inr has) = lasts id fine has

  opens : Goes [] (done_by (the_call ∷ []) v) v (with_session greeting c v)
  opens = by (serve v.tree 0 the_call).1 refl
    where
      by : (reply : Reply) → (serve v.tree 0 the_call).1 ≡ reply
          → Goes [] (done_by (the_call ∷ []) v) v (with_tables (the_tables (reply ∷ [])) (asked (the_call ∷ []) v))
      by (Opened session ticks) is = welcomes session ticks is
      by other is = shuts

-- ---- any greeting

greets_by : (read : Result ConnectRequest Fault) (c : ℕ) (v : FrontView) → Goes [] (done_by (greeting_calls read v) v) v (greeted_by read c v)
greets_by (Err fault) c v = retabled (closed c v.tables) v (with_tables (closed c v.tables) v) refl (closes c v.tables)
greets_by (Ok greeting) c v = by (is_ahead (told v.clock.base v.tree.zxid) greeting) (int_eq greeting.session_id (pos 0))
  where
    by : (ahead is_new : Bool) → Goes [] (done_by (if ahead then [] else if is_new then opening v.clock.terms.tick greeting ∷ [] else []) v) v
        (if ahead then with_tables (closed c v.tables) v else if is_new then with_session greeting c v
        else with_tables (returned greeting greeting.session_id c v) v)
    by true is_new = retabled (closed c v.tables) v (with_tables (closed c v.tables) v) refl (closes c v.tables)
    by false true = opens greeting c v
    by false false = returns greeting greeting.session_id c v

pub greets : (bytes : List ℕ) (c : ℕ) (v : FrontView) → Goes [] (done_by (greeting_calls (whole connect_request bytes) v) v) v (greeted bytes c v)
greets bytes c v = greets_by (whole connect_request bytes) c v
