-- What a server does on one connection where it takes frames of another one, and at each input that
-- isn't about it: it is calm.
use Rattle.std.proofs.Common.{◌≡◌, ◌≢◌, ◌∙◌, ℕ, ◌+◌, Bool, true, false, not, cond, List, [], ◌∷◌, ◌++◌, length, Option}
use Rattle.std.proofs.Common.{None, Some, Result, Ok, Err, refl, sym, ap, eqb}
use Rattle.std.specs.Prelude.{ℤ, pos, negsuc, nat_eq, nat_lt, ◌||◌, if◌then◌else◌, replicate}
use Rattle.std.specs.FinMap as finite
use Rattle.std.specs.Cmp.{nat_cmp_total}
use Rattle.std.specs.FinMap.{nat_cmp-IsAntisymmetric}
use Rattle.std.specs.Ordering.{int_eq}
use Rattle.std.specs.Option.{option_map_or}
use lib.Pointwise.{pointwise}
use Rattle.std.proofs.lemmas.Bool.{eqb-true}
use Rattle.ztree.proofs.Maps.{get-insert-elsewhere, get-remove-elsewhere}
use Rattle.zcodec.specs.Readers.{whole}
use Rattle.zcodec.specs.declared.fault.Fault.{Fault}
use Rattle.zcalls.specs.declared.call.Call.{Call}
use Rattle.zcalls.specs.declared.reply.Reply.{Reply}
use Rattle.zcalls.specs.declared.reply.Reply.TheVariants.{Opened}
use Rattle.zjute.specs.Connecting.{connect_request}
use Rattle.zjute.specs.Frames.{next_of}
use Rattle.zjute.specs.declared.connecting.ConnectRequest.{ConnectRequest}
use Rattle.zjute.specs.declared.request.Request.{Request}
use Rattle.zrequests.specs.Asking.{Meaning}
use Rattle.zrequests.specs.Requests.{calls_in}
use Rattle.zrequests.specs.Timeouts.{millis_reported}
use Rattle.zrequests.specs.declared.fault.Unasked.TheVariants.{Refused, Memory}
use Rattle.zresponses.specs.declared.answer.Answer.{Answer}
use Rattle.zresponses.specs.declared.clock.Clock.{Clock}
use Rattle.zresponses.specs.declared.clock.Now.{Now}
use Rattle.zresponses.specs.Own.{refused_answer}
use Rattle.zresponses.specs.Stats.{told, long_of}
use Rattle.zconnections.specs.declared.buffers.phase.Phase.{Phase}
use Rattle.zconnections.specs.declared.buffers.phase.Phase.TheVariants.{Silent, Speaking, Closing}
use Rattle.zconnections.specs.buffers.Outbox.{ChunkView}
use Rattle.zconnections.specs.buffers.Outbox as outbox
use Rattle.zconnections.specs.buffers.Streams.{StreamRows, StreamView, bytes_of, held_of, phase_of, with_bytes}
use Rattle.zconnections.specs.buffers.Streams as stream
use Rattle.zpasswords.specs.Passwords.{password_of}
use Rattle.zconnections.specs.attachments.Attachments.{touched, touched_ids, with_changed, all_rested}
use Rattle.zconnections.specs.Tables.{TablesView, is_open, closed, sent, attachment, moved, taken_up, ended}
use Rattle.zresponses.specs.effects.Answering.{answered, answer_unless, now_of}
use Rattle.zresponses.specs.effects.Frames.{answer_frame, response_frame, ends_connection}
use Rattle.zresponses.specs.effects.Greeting.{session_reported, welcomed, turned_away, given, came_back, is_ahead}
use Rattle.zresponses.specs.effects.Replying.{absorbed_all, replied}
use Rattle.zresponses.specs.effects.Watching.{granted_all, first_fault}
use Rattle.zresponses.specs.effects.Wishes.{wishes}
use Rattle.zfront.specs.declared.limits.TheConstants.{MAX_KEPT}
use Rattle.zfront.specs.Front.{FrontView, with_tables, asked, replies_to}
use Rattle.zfront.specs.Greeting.{opening, opened, with_session, returned, greeted_by, greeted}
use Rattle.zfront.specs.Inputs as inputs
use Rattle.zfront.specs.Reading.{HandlesIn, Handles, HandlesAll, Reads, is_too_long, kept, keeps, Keeps}
use Rattle.zfront.specs.Reading.{word_asked, ComesBy, ComesBehind, ComesIf, Comes, emptied}
use Rattle.zfront.specs.Requests.{touched_by, with_answer, Makes, Tells, Acts, ActsOr, Requests, request_in}
use Rattle.zfront.specs.Walks.{walked}
use Rattle.zfront.specs.Ticking.{tick_calls, rested, TicksBy, Ticks}
use Rattle.zfront.specs.Words.{said, text_of_word}
use Rattle.zfront_laws.specs.Runs.{KeepsFew}
use Rattle.zfront_laws.proofs.Cached.{changed_alike, rests_alike}
use Rattle.zfront_laws.proofs.Coming as coming
use Rattle.zfront_laws.specs.frames.Laws.{on}
use Rattle.zfront_laws.proofs.frames_lemmas.Views.{changed-elsewhere}
use Rattle.zfront_laws.proofs.frames_lemmas.Free.{free_by, free-attachments, free-attachment-elsewhere, free-seated-elsewhere, free-parted-elsewhere}
use Rattle.zfront_laws.proofs.frames_lemmas.Calm as table
use Rattle.zfront_laws.proofs.frames_lemmas.Calm.{Calm}
use Rattle.zfront_laws.proofs.frames_lemmas.Fronts as front

-- few bytes were stored before, and so the rest is stored now
pub now_kept : (c : ℕ) (came rest : List ℕ) (old middle new : FrontView) → KeepsFew old → Reads came c old rest middle
    → Keeps rest c middle new → new ≡ keeps rest c middle
now_kept c came rest old middle new few reads after =
    coming.keeps_now rest c middle new ((coming.handles_all reads.frames c old middle reads.handles).few few) after

-- other streams, but not that of the connection
module _ (c : ℕ) where
  other_rows : (t : TablesView) (rows : StreamRows) → finite.get rows c ≡ finite.get t.streams c → Calm c t (record t { streams = rows })
  other_rows t rows is =
      table.alike c t (record t { streams = rows }) (ap (λ (o : Option StreamView). (o, on c t.unsent)) is)
      (free_by c t (record t { streams = rows }) is (λ session has. has) (λ w has own. has))

  pub touches : (session : ℕ) (v : FrontView) → Calm c v.tables (touched_by session v).tables
  touches session v =
      table.alike c v.tables (touched_by session v).tables refl
      (free-attachments c v.tables (with_changed touched v.tables.attachments session) (changed_alike touched (λ s. refl) v.tables.attachments session).0)

-- frames of another connection
module _ (c d : ℕ) (other : d ≢ c) where
  reports_answer : (zxid : ℤ) (xid : ℤ) (answer : Answer) (t : TablesView) → Calm c t (replied zxid d xid answer t)
  reports_answer zxid xid answer t =
      let u = sent d (answer_frame zxid xid answer) t in
      let sends = table.sends_elsewhere c d (answer_frame zxid xid answer) t other in
      elim (ends_connection answer.code) as (λ b. Calm c t (if b then closed d u else u)) [
        | true ↦ table.both c t u (closed d u) sends (table.closes c d u)
        | false ↦ sends
      ]

  answers : (clock : Clock) (now : Now) (r : Request) (calls : List Call) (replies : List Reply) (t : TablesView)
      → Calm c t (answered clock now d r calls replies t)
  answers clock now r calls replies t =
      let u = absorbed_all calls replies t in
      let wished = wishes r.asked calls replies in
      let w = granted_all d wished u in
      let answer = answer_unless (first_fault d wished u) clock now r.asked calls replies in
      table.both c t u (replied (told clock.base now.zxid) d r.xid answer w) (table.absorbs_all c calls replies t)
      (table.both c u w (replied (told clock.base now.zxid) d r.xid answer w) (table.grants c d r.asked calls replies u (λ is. absurd (other is)))
      (reports_answer (told clock.base now.zxid) r.xid answer w))

  makes : (calls : List Call) (r : Request) (old new : FrontView) → Makes calls d r old new → Calm c old.tables new.tables
  makes calls r old new has =
      let middle = with_answer calls d r old in
      front.both c old middle new (answers old.clock (now_of (asked calls old).tree) r calls (replies_to calls old) old.tables)
      (front.tidies c calls old middle new has)

  tells : (answer : Answer) (r : Request) (old new : FrontView) → Tells answer d r old new → Calm c old.tables new.tables
  tells answer r old new is =
      front.retabled c (replied (told old.clock.base old.tree.zxid) d r.xid answer old.tables) old new is (reports_answer (told old.clock.base old.tree.zxid) r.xid answer old.tables)

  acts : (meaning : Meaning (List Call)) (r : Request) (old new : FrontView) → Acts meaning d r old new → Calm c old.tables new.tables
  acts (Err (Refused code)) r old new is = tells (refused_answer code r.asked) r old new is
  acts (Err Memory) r old new is = absurd is
  acts (Ok calls) r old new has = makes calls r old new has

  acts_or : (walk : Option Answer) (meaning : Meaning (List Call)) (r : Request) (old new : FrontView) → ActsOr walk meaning d r old new
      → Calm c old.tables new.tables
  acts_or (Some answer) meaning r old new is = tells answer r old new is
  acts_or None meaning r old new has = acts meaning r old new has

  requests : (read : Result Request Fault) (session : ℕ) (old new : FrontView) → Requests read session d old new → Calm c old.tables new.tables
  requests (Err fault) session old new is = front.retabled c (closed d old.tables) old new is (table.closes c d old.tables)
  requests (Ok r) session old new has =
      front.both c old (touched_by session old) new (touches c session old)
      (acts_or (walked session r.asked old.tree) (calls_in old.clock.terms session r.asked) r (touched_by session old) new has)

  -- greetings
  welcomes : (tick : ℕ) (greeting : ConnectRequest) (session ticks : ℕ) (password : List ℕ) (t : TablesView)
      → Calm c t (welcomed tick greeting session ticks password d t)
  welcomes tick greeting session ticks password t =
      let u = attachment session d t in
      let bytes = response_frame greeting (millis_reported tick ticks) (long_of session) password in
      let same = changed-elsewhere (λ s. record s { phase = Speaking session }) t.streams d c (λ is. other (sym is)) in
      table.both c t u (sent d bytes u)
      (table.alike c t u (ap (λ (o : Option StreamView). (o, on c t.unsent)) same) (free-attachment-elsewhere c d session t other))
      (table.sends_elsewhere c d bytes u other)

  turns_away : (greeting : ConnectRequest) (t : TablesView) → Calm c t (turned_away greeting d t)
  turns_away greeting t =
      let bytes = response_frame greeting (pos 0) (pos 0) (replicate 16 0) in
      table.both c t (sent d bytes t) (closed d (sent d bytes t)) (table.sends_elsewhere c d bytes t other) (table.closes c d (sent d bytes t))

  comes_back : (tick : ℕ) (greeting : ConnectRequest) (session ticks : ℕ) (password : List ℕ) (t : TablesView)
      → Calm c t (came_back tick greeting session ticks password d t)
  comes_back tick greeting session ticks password t =
      let u = moved session t in
      let w = taken_up session d t in
      let bytes = response_frame greeting (millis_reported tick ticks) (long_of session) password in
      let same = changed-elsewhere (λ s. record s { phase = Speaking session }) u.streams d c (λ is. other (sym is)) in
      elim (pointwise nat_eq (given greeting) password) as
      (λ b. Calm c t (if b then session_reported greeting session (millis_reported tick ticks) password d (taken_up session d t)
      else turned_away greeting d t)) [
        | true ↦ table.both c t u (sent d bytes w) (table.moves c session t)
            (table.both c u w (sent d bytes w)
            (table.alike c u w (ap (λ (o : Option StreamView). (o, on c u.unsent)) same) (free-seated-elsewhere c d session u other))
            (table.sends_elsewhere c d bytes w other))
        | false ↦ turns_away greeting t
      ]

  returns : (greeting : ConnectRequest) (id : ℤ) (v : FrontView) → Calm c v.tables (returned greeting id d v)
  returns greeting (pos session) v =
      elim (finite.get v.tree.sessions session) as
      (λ o. Calm c v.tables (option_map_or (λ s. came_back v.clock.terms.tick greeting session s.timeout (password_of v.secret session) d v.tables)
      o (turned_away greeting d v.tables))) [
        | None ↦ turns_away greeting v.tables
        | Some s ↦ comes_back v.clock.terms.tick greeting session s.timeout (password_of v.secret session) v.tables
      ]
  returns greeting (negsuc n) v = turns_away greeting v.tables

  opens_by : (tick : ℕ) (secret : List ℕ) (greeting : ConnectRequest) (replies : List Reply) (t : TablesView)
      → Calm c t (opened tick secret greeting d replies t)
  opens_by tick secret greeting [] t = table.closes c d t
  opens_by tick secret greeting (Opened session ticks ∷ replies) t = welcomes tick greeting session ticks (password_of secret session) t
  opens_by tick secret greeting (reported ∷ replies) t = table.closes c d t

  greets_if : (is_new : Bool) (greeting : ConnectRequest) (v : FrontView)
      → Calm c v.tables (if is_new then with_session greeting d v else with_tables (returned greeting greeting.session_id d v) v).tables
  greets_if true greeting v =
      opens_by v.clock.terms.tick v.secret greeting (replies_to (opening v.clock.terms.tick greeting ∷ []) v) v.tables
  greets_if false greeting v = returns greeting greeting.session_id v

  greets_unless : (ahead : Bool) (greeting : ConnectRequest) (v : FrontView)
      → Calm c v.tables (if ahead then with_tables (closed d v.tables) v else if int_eq greeting.session_id (pos 0) then with_session greeting d v
      else with_tables (returned greeting greeting.session_id d v) v).tables
  greets_unless true greeting v = table.closes c d v.tables
  greets_unless false greeting v = greets_if (int_eq greeting.session_id (pos 0)) greeting v

  greets_by : (read : Result ConnectRequest Fault) (v : FrontView) → Calm c v.tables (greeted_by read d v).tables
  greets_by (Err fault) v = table.closes c d v.tables
  greets_by (Ok greeting) v = greets_unless (is_ahead (told v.clock.base v.tree.zxid) greeting) greeting v

  -- frames
  handles_in : (phase : Option Phase) (bytes : List ℕ) (old new : FrontView) → HandlesIn phase bytes d old new → Calm c old.tables new.tables
  handles_in (Some Silent) bytes old new is = front.becomes c old new (greeted bytes d old) is (greets_by (whole connect_request bytes) old)
  handles_in (Some (Speaking session)) bytes old new has = requests (request_in old.clock.base bytes) session old new has
  handles_in (Some Closing) bytes old new is = front.same c old new is
  handles_in None bytes old new is = front.same c old new is

  handles : (bytes : List ℕ) (old new : FrontView) → Handles bytes d old new → Calm c old.tables new.tables
  handles bytes old new has = handles_in (phase_of old.tables.streams d) bytes old new has

  handles_all : (frames : List (List ℕ)) (old new : FrontView) → HandlesAll frames d old new → Calm c old.tables new.tables
  handles_all [] old new is = front.same c old new is
  handles_all (bytes ∷ frames) old new has =
      front.both c old has.1 new (handles bytes old has.1 has.2) (handles_all frames has.1 new has.3)

  -- bytes
  with_rest : (bytes : List ℕ) (t : TablesView) → Calm c t (record t { streams = with_bytes t.streams d bytes })
  with_rest bytes t = other_rows c t (with_bytes t.streams d bytes) (changed-elsewhere (λ s. record s { bytes = bytes })
      t.streams d c (λ is. other (sym is)))

  kept_by : (over : Bool) (rest : List ℕ) (t : TablesView)
      → Calm c t (if over then closed d t else record t { streams = with_bytes t.streams d rest })
  kept_by true rest t = table.closes c d t
  kept_by false rest t = with_rest rest t

  keeps_by : (on_now : Bool) (rest : List ℕ) (v : FrontView) → Calm c v.tables (if on_now then with_tables (kept rest d v.tables) v else v).tables
  keeps_by true rest v = kept_by (is_too_long (next_of rest) || nat_lt MAX_KEPT (held_of v.tables.streams + length rest)) rest v.tables
  keeps_by false rest v = table.same c v.tables

  reads : (came rest : List ℕ) (old middle new : FrontView) → KeepsFew old → Reads came d old rest middle
      → Keeps rest d middle new → Calm c old.tables new.tables
  reads came rest old middle new few has after =
      front.both c old middle new (handles_all has.frames old middle has.handles)
      (front.becomes c middle new (keeps rest d middle) (now_kept d came rest old middle new few has after)
      (keeps_by (is_open middle.tables d) rest middle))

  comes_behind : (came : List ℕ) (old new : FrontView) → KeepsFew old → ComesBehind came d old new → Calm c old.tables new.tables
  comes_behind came old new few has =
      elim (word_asked (phase_of old.tables.streams d) came) as (λ word. ComesBy word came d old new → Calm c old.tables new.tables) [
        | None ↦ λ read. reads came read.0 old read.1 new few read.2 read.3
        | Some word ↦ λ is.
            let u = sent d (text_of_word word old) old.tables in
            front.retabled c (said word d old).tables old new is
            (table.both c old.tables u (closed d u) (table.sends_elsewhere c d (text_of_word word old) old.tables other) (table.closes c d u))
      ] has

  comes_if : (on_now : Bool) (bytes : List ℕ) (old new : FrontView) → KeepsFew old → ComesIf on_now bytes d old new → Calm c old.tables new.tables
  comes_if false bytes old new few is = front.same c old new is
  comes_if true bytes old new few has =
      let came = bytes_of old.tables.streams d ++ bytes in
      front.both c old (emptied d old) new (with_rest [] old.tables)
      (comes_behind came (emptied d old) new ((coming.empties d old).few few) has)

  pub comes_elsewhere : (bytes : List ℕ) (old new : FrontView) → KeepsFew old → Comes bytes d old new → Calm c old.tables new.tables
  comes_elsewhere bytes old new few has = comes_if (is_open old.tables d) bytes old new few has

  -- another connection is opened, or ends
  pub opens_elsewhere : (old new : FrontView) → new ≡ inputs.opened d old → Calm c old.tables new.tables
  opens_elsewhere old new is =
      let rows = finite.insert old.tables.streams d stream.opened in
      front.retabled c (record old.tables { streams = rows }) old new is
      (other_rows c old.tables rows (get-insert-elsewhere nat_cmp_total nat_cmp-IsAntisymmetric old.tables.streams d
      stream.opened c (λ same. other (sym same))))

  on-others : (ps : List ChunkView) → on c (outbox.without ps d) ≡ on c ps
  on-others [] = refl
  on-others (p ∷ ps) = by (eqb p.connection d) refl (eqb p.connection c) refl (on-others ps)
    where
      rest : List ChunkView
      rest = outbox.without ps d

      by : (b : Bool) → eqb p.connection d ≡ b → (e : Bool) → eqb p.connection c ≡ e → on c rest ≡ on c ps
          → on c (cond (not b) (p ∷ rest) rest) ≡ cond e (p ∷ on c ps) (on c ps)
      by true of true own same = absurd (other (sym (eqb-true p.connection d of) ∙ eqb-true p.connection c own))
      by true of false own same = same
      by false of true own same = ap (λ (e : Bool). cond e (p ∷ on c rest) (on c rest)) own ∙ ap (λ qs. p ∷ qs) same
      by false of false own same = ap (λ (e : Bool). cond e (p ∷ on c rest) (on c rest)) own ∙ same

  pub ends_elsewhere : (old new : FrontView) → new ≡ inputs.ended d old → Calm c old.tables new.tables
  ends_elsewhere old new is =
      let t = old.tables in
      let same = get-remove-elsewhere nat_cmp_total nat_cmp-IsAntisymmetric t.streams d c (λ same. other (sym same)) in
      front.retabled c (ended d t) old new is
      (table.alike c t (ended d t)
      (ap (λ (o : Option StreamView). (o, on c (outbox.without t.unsent d))) same
      ∙ ap (λ (ps : List ChunkView). (finite.get t.streams c, ps)) (on-others t.unsent))
      (free-parted-elsewhere c d t (finite.remove t.streams d) (outbox.without t.unsent d) same))

-- a tick
module _ (c : ℕ) where
  ticks_by : (calls : List Call) (old new : FrontView) → TicksBy calls old new → Calm c old.tables new.tables
  ticks_by calls old new has =
      let middle = rested (asked calls old) in
      front.both c old middle new
      (table.alike c old.tables middle.tables refl (free-attachments c old.tables (all_rested old.tables.attachments)
      (rests_alike old.tables.attachments).0))
      (front.tidies c calls old middle new has)

  pub ticks : (old new : FrontView) → Ticks old new → Calm c old.tables new.tables
  ticks old new has = ticks_by (tick_calls (touched_ids old.tables.attachments)) old new has
