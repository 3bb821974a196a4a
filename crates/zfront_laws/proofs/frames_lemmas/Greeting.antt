-- The first frame of a connection is answered as a greeting, or the connection is closed. After it
-- the connection speaks for the session that was reported to it.
use Rattle.std.proofs.Common.{◌≡◌, ◌≢◌, inl, inr, ◌∙◌, ℕ, Bool, true, false, List, [], ◌∷◌, ◌++◌, Option, None, Some}
use Rattle.std.proofs.Common.{Result, Ok, Err, refl, sym, ap, subst, append_assoc, arith}
use Rattle.std.specs.Prelude.{◌||◌, ℤ, pos, negsuc, nat_eq, replicate, zip, if◌then◌else◌}
use Rattle.std.specs.Cmp.{signed_Decides}
use Rattle.std.specs.Cmp.Lexicographic.{bytes_decides}
use lib.Pointwise.{pointwise}
use Rattle.std.proofs.lemmas.List.{append-nil}
use Rattle.std.specs.Ordering.{int_eq}
use Rattle.std.specs.FinMap as finite
use Rattle.std.specs.Option.{option_map, option_map_or}
use Rattle.ztree.proofs.Maps.{none_some}
use Rattle.zcodec.specs.Readers.{whole}
use Rattle.zcodec.specs.declared.fault.Fault.{Fault}
use Rattle.ztree.specs.Tree.{Tree}
use Rattle.ztree.specs.declared.session.Session.{Session}
use Rattle.zcalls.specs.declared.reply.Reply.{Reply}
use Rattle.zcalls.specs.declared.reply.Reply.TheVariants.{Opened}
use Rattle.zjute.specs.Connecting.{connect_request}
use Rattle.zjute.specs.declared.connecting.ConnectRequest.{ConnectRequest}
use Rattle.zrequests.specs.Timeouts.{millis_reported}
use Rattle.zresponses.specs.declared.clock.Clock.{Clock}
use Rattle.zresponses.specs.Stats.{told, long_of}
use Rattle.ztree_service.specs.log.Logs.{Log}
use Rattle.zpasswords.specs.Passwords.{password_of}
use Rattle.zconnections.specs.declared.buffers.phase.Phase.{Phase}
use Rattle.zconnections.specs.declared.buffers.phase.Phase.TheVariants.{Silent, Speaking, Closing}
use Rattle.zconnections.specs.buffers.Streams.{StreamView, StreamRows, phase_of, with_phase}
use Rattle.zconnections.specs.Tables.{TablesView, may_send, is_open, chunk, sent, closed, attachment, seated, moved, taken_up, connection_of}
use Rattle.zresponses.specs.effects.Frames.{response_frame}
use Rattle.zresponses.specs.effects.Greeting.{session_reported, turned_away, given, came_back, is_ahead}
use Rattle.zfront.specs.Front.{FrontView, with_tables, replies_to}
use Rattle.zfront.specs.Greeting.{opening, opened, with_session, returned, greeted_by}
use Rattle.zfront.specs.Reading.{HandlesIn, Handles, HandlesAll}
use Rattle.zfront_laws.specs.Logs.{greeting_calls, frame_calls, done_by, frame_log, frames_log}
use Rattle.zfront_laws.proofs.Coming as coming
use Rattle.zfront_laws.proofs.Steps.{Goes}
use Rattle.zfront_laws.specs.frames.Talk.{Talk, Quiet, Answers, Closes, chunks_of, is_closed, IsWelcome, tree_behind, Greeted}
use Rattle.zfront_laws.specs.frames.Laws.{on}
use Rattle.zfront_laws.proofs.frames_lemmas.Views.{View, view, phase_in, run, followed, closed-followed, chunks-followed}
use Rattle.zfront_laws.proofs.frames_lemmas.Views.{run_chunks, run_closed, run_stream, view-sent, view-closed}
use Rattle.zfront_laws.proofs.frames_lemmas.Views.{view-closed-elsewhere, changed-here}
use Rattle.zfront_laws.proofs.frames_lemmas.Free.{speaks, Free, free-sent, free-closed, free-attachment, free-seated}
use Rattle.zfront_laws.proofs.frames_lemmas.Calm as table
use Rattle.zfront_laws.proofs.frames_lemmas.Calm.{Calm}
use Rattle.zfront_laws.proofs.frames_lemmas.Talking.{answered_as, greeted_both}
use Rattle.zfront_laws.proofs.frames_lemmas.Own as own

same_int : (a b : ℤ) → int_eq a b ≡ true → a ≡ b
same_int a b is = (signed_Decides a b).0 is

-- what was done on an open connection, which is closed then, or in this phase
abbrev pub after : Talk → Phase → Option Phase
after talk phase = if is_closed talk then Some Closing else Some phase

pub record Went (c : ℕ) (talk : Talk) (phase : Phase) (old new : TablesView) : Type 0 where
  pub chunks : on c new.unsent ≡ on c old.unsent ++ chunks_of c talk
  pub leaves : phase_of new.streams c ≡ after talk phase

-- frames, the first of them a greeting, were answered, while the calls of this log were made
abbrev pub Met : Clock → List ℕ → ℕ → List (List ℕ) → Tree → Log → TablesView → TablesView → Type 0
Met clock secret c frames tree log old new =
    (session : ℕ) × (talk : Talk) × Greeted clock secret session tree log frames talk × Went c talk (Speaking session) old new × Free c new

abbrev pub Meeting : ℕ → List (List ℕ) → Log → FrontView → FrontView → Type 0
Meeting c frames log old new = Met old.clock old.secret c frames old.tree log old.tables new.tables

module _ (c : ℕ) where
  -- by all that was done
  pub went : (talk : Talk) (phase : Phase) (old new : TablesView) → is_open old c ≡ true
      → (is_closed talk ≡ false → phase_of old.streams c ≡ Some phase)
      → view c new ≡ run c talk (view c old) → Went c talk phase old new
  went talk phase old new is_on is has = record {
    chunks = ap (λ (w : View). w.1) has ∙ run_chunks c talk (view c old) is_on;
    leaves = by (is_closed talk) refl;
  }
    where
      by : (ends : Bool) → is_closed talk ≡ ends → phase_of new.streams c ≡ (if ends then Some Closing else Some phase)
      by true ends = ap (λ (w : View). phase_in w.0) has ∙ ap phase_in (run_closed c talk (view c old) is_on ends)
      by false still = ap (λ (w : View). phase_in w.0) has ∙ ap phase_in (run_stream c talk (view c old) still) ∙ is still

  went_both : (one two : Talk) (phase last : Phase) (old middle new : TablesView) → is_closed one ≡ false
      → Went c one phase old middle → Went c two last middle new
      → Went c (followed one two) last old new
  went_both one two phase last old middle new still first second = record {
    chunks =
        second.chunks
        ∙ ap (λ ps. ps ++ chunks_of c two) first.chunks
        ∙ append_assoc (on c old.unsent) (chunks_of c one) (chunks_of c two)
        ∙ ap (λ ps. on c old.unsent ++ ps) (sym (chunks-followed c one two still));
    leaves =
        second.leaves
        ∙ ap (λ (b : Bool). if b then Some Closing else Some last)
        (ap (λ (b : Bool). b || is_closed two) (sym still) ∙ sym (closed-followed one two));
  }

  abbrev IsSilent : TablesView → Type 0
  IsSilent t = phase_of t.streams c ≡ Some Silent

  -- the phase of a stream that is there
  phase_there : (rows : StreamRows) (phase : Phase) → phase_of rows c ≡ Some Silent → phase_of (with_phase rows c phase) c ≡ Some phase
  phase_there rows phase silent = ap phase_in (changed-here (λ s. record s { phase = phase }) rows c) ∙ by (finite.get rows c) silent
    where
      by : (o : Option StreamView) → phase_in o ≡ Some Silent
          → phase_in (option_map (λ (s : StreamView). record s { phase = phase }) o) ≡ Some phase
      by None none = absurd (none_some Silent none)
      by (Some s) there = refl

  -- the session's connection is another one
  moved_view : (session : ℕ) (t : TablesView) → IsSilent t → Free c t → view c (moved session t) ≡ view c t
  moved_view session t silent free = by (connection_of t.attachments session) refl
    where
      apart : (d : ℕ) → connection_of t.attachments session ≡ Some d → d ≢ c
      apart d has is =
          let clash : false ≡ true = sym (ap speaks silent) ∙ ap speaks (free.seat session (has ∙ ap (λ x. Some x) is)) in
          absurd (cc clash)

      by : (o : Option ℕ) → connection_of t.attachments session ≡ o → view c (option_map_or (λ d. closed d t) o t) ≡ view c t
      by None has = refl
      by (Some d) has = view-closed-elsewhere c d t (apart d has)

  -- what the tables become, from a tree on
  module _ (clock : Clock) (secret bytes : List ℕ) (tree : Tree) where
    met_closed : (log : Log) (old : TablesView) → IsSilent old → Free c old → Met clock secret c (bytes ∷ []) tree log old (closed c old)
    met_closed log old silent free = (
      0,
      Closes,
      omega arith,
      went Closes (Speaking 0) old (closed c old) (ap may_send silent) (λ still. absurd (cc still)) (view-closed c old),
      free-closed c c old free,
    )

    module _ (greeting : ConnectRequest) (reads : whole connect_request bytes ≡ Ok greeting) where
      -- who is turned away
      met_turned : (old : TablesView) → IsSilent old → Free c old → Met clock secret c (bytes ∷ []) tree [] old (turned_away greeting c old)
      met_turned old silent free =
          let reported = response_frame greeting (pos 0) (pos 0) (replicate 16 0) in
          let u = sent c reported old in (
            0,
            Answers reported Closes,
            (bytes, [], [], [], refl, refl, inr (record { greeting = greeting; reads = reads; frames = refl }, refl, refl)),
            went (Answers reported Closes) (Speaking 0) old (closed c u) (ap may_send silent) (λ still. absurd (cc still))
                (view-closed c u ∙ ap (run c Closes) (view-sent c reported old)),
            free-closed c c u (free-sent c c reported old free),
          )

      -- who is sent a session, which the connection has then
      met_reported : (session : ℕ) (reported : List ℕ) (log : Log) (old u : TablesView)
          → IsWelcome clock secret session bytes reported (tree_behind tree log) log → on c u.unsent ≡ on c old.unsent
          → phase_of u.streams c ≡ Some (Speaking session) → Free c u → Met clock secret c (bytes ∷ []) tree log old (sent c reported u)
      met_reported session reported log old u is same speaking free =
          let is_on : is_open u c ≡ true = ap may_send speaking in
          let here = went (Answers reported Quiet) (Speaking session) u (sent c reported u) is_on (λ still. speaking) (view-sent c reported u) in (
            session,
            Answers reported Quiet,
            (bytes, [], log, [], refl, sym (append-nil log), inl (is, refl)),
            record { chunks = here.chunks ∙ ap (λ ps. ps ++ chunk c reported ∷ []) same; leaves = here.leaves },
            free-sent c c reported u free,
          )

      -- a session was opened, or not
      met_opened : (replies : List Reply) (old : TablesView) → greeting.session_id ≡ pos 0 → IsSilent old → Free c old
          → Met clock secret c (bytes ∷ []) tree (zip (opening clock.terms.tick greeting ∷ []) replies) old
          (opened clock.terms.tick secret greeting c replies old)
      met_opened [] old new silent free = met_closed [] old silent free
      met_opened (Opened session ticks ∷ replies) old new silent free =
          let log = (opening clock.terms.tick greeting, Opened session ticks) ∷ [] in
          let speaking = phase_there old.streams (Speaking session) silent in
          met_reported session (response_frame greeting (millis_reported clock.terms.tick ticks) (long_of session) (password_of secret session)) log
          old (attachment session c old) (record { greeting = greeting; reads = reads; has = inl ([], ticks, new, refl, refl) }) refl speaking
          (free-attachment c session old free silent speaking)
      met_opened (reported ∷ replies) old new silent free =
          met_closed (zip (opening clock.terms.tick greeting ∷ []) (reported ∷ replies)) old silent free

      -- a client comes back
      met_back : (session : ℕ) (sits : Session) (old : TablesView) → greeting.session_id ≡ pos session
          → finite.get tree.sessions session ≡ Some sits → IsSilent old → Free c old
          → Met clock secret c (bytes ∷ []) tree [] old
          (came_back clock.terms.tick greeting session sits.timeout (password_of secret session) c old)
      met_back session sits old asks there silent free =
          let u = moved session old in
          let timeout = millis_reported clock.terms.tick sits.timeout in
          let password = password_of secret session in
          let same = moved_view session old silent free in
          let silent_then : IsSilent u = ap (λ (w : View). phase_in w.0) same ∙ silent in
          let speaking = phase_there u.streams (Speaking session) silent_then in
          elim (pointwise nat_eq (given greeting) password) as
          (λ b. pointwise nat_eq (given greeting) password ≡ b
          → Met clock secret c (bytes ∷ []) tree [] old (if b then session_reported greeting session timeout password c (taken_up session c old)
          else turned_away greeting c old)) [
            | true ↦ λ matches.
                let gives = (bytes_decides (given greeting) password).0 matches in
                met_reported session (response_frame greeting timeout (long_of session) password) [] old (seated session c u)
                (record {
                  greeting = greeting;
                  reads = reads;
                  has = inr (sits, asks, there, gives, ap (λ p. response_frame greeting timeout (long_of session) p) (sym gives));
                })
                (ap (λ (w : View). w.1) same) speaking
                (free-seated c session u ((table.moves c session old free).1) silent_then speaking)
            | false ↦ λ other. met_turned old silent free
          ] refl

  module _ (bytes : List ℕ) where
    module _ (greeting : ConnectRequest) (reads : whole connect_request bytes ≡ Ok greeting) (v : FrontView) (silent : IsSilent v.tables)
        (free : Free c v.tables) where
      met_returned : (id : ℤ) → greeting.session_id ≡ id → Meeting c (bytes ∷ []) [] v (with_tables (returned greeting id c v) v)
      met_returned (pos session) asks = by (finite.get v.tree.sessions session) refl
        where
          password : List ℕ
          password = password_of v.secret session

          by : (o : Option Session) → finite.get v.tree.sessions session ≡ o
              → Met v.clock v.secret c (bytes ∷ []) v.tree [] v.tables
              (option_map_or (λ s. came_back v.clock.terms.tick greeting session s.timeout password c v.tables) o (turned_away greeting c v.tables))
          by None none = met_turned v.clock v.secret bytes v.tree greeting reads v.tables silent free
          by (Some sits) there = met_back v.clock v.secret bytes v.tree greeting reads session sits v.tables asks there silent free
      met_returned (negsuc n) asks = met_turned v.clock v.secret bytes v.tree greeting reads v.tables silent free

      greets_if : (is_new : Bool) → int_eq greeting.session_id (pos 0) ≡ is_new
          → Meeting c (bytes ∷ []) (done_by (if is_new then opening v.clock.terms.tick greeting ∷ [] else []) v) v
          (if is_new then with_session greeting c v else with_tables (returned greeting greeting.session_id c v) v)
      greets_if true fresh =
          met_opened v.clock v.secret bytes v.tree greeting reads (replies_to (opening v.clock.terms.tick greeting ∷ []) v) v.tables
          (same_int greeting.session_id (pos 0) fresh) silent free
      greets_if false fresh = met_returned greeting.session_id refl

      greets_unless : (ahead : Bool) → Meeting c (bytes ∷ [])
          (done_by (if ahead then [] else if int_eq greeting.session_id (pos 0) then opening v.clock.terms.tick greeting ∷ [] else []) v) v
          (if ahead then with_tables (closed c v.tables) v else if int_eq greeting.session_id (pos 0) then with_session greeting c v
          else with_tables (returned greeting greeting.session_id c v) v)
      greets_unless true = met_closed v.clock v.secret bytes v.tree [] v.tables silent free
      greets_unless false = greets_if (int_eq greeting.session_id (pos 0)) refl

    greets_by : (read : Result ConnectRequest Fault) → whole connect_request bytes ≡ read → (v : FrontView) → IsSilent v.tables → Free c v.tables
        → Meeting c (bytes ∷ []) (done_by (greeting_calls read v) v) v (greeted_by read c v)
    greets_by (Err fault) reads v silent free = met_closed v.clock v.secret bytes v.tree [] v.tables silent free
    greets_by (Ok greeting) reads v silent free = greets_unless greeting reads v silent free (is_ahead (told v.clock.base v.tree.zxid) greeting)

    meets : (old new : FrontView) → IsSilent old.tables → Free c old.tables → Handles bytes c old new
        → Meeting c (bytes ∷ []) (frame_log bytes c old) old new
    meets old new silent free handling =
        subst (λ (phase : Option Phase). HandlesIn phase bytes c old new
        → Meeting c (bytes ∷ []) (done_by (frame_calls phase bytes old) old) old new) (sym silent)
        (λ is. subst (λ (v : FrontView). Meeting c (bytes ∷ []) (done_by (greeting_calls (whole connect_request bytes) old) old) old v) (sym is)
        (greets_by (whole connect_request bytes) refl old silent free)) handling

  -- all frames, of which the first one greets
  others : (bytes : List ℕ) (frames : List (List ℕ)) (log : Log) (old middle new : FrontView) → Meeting c (bytes ∷ []) log old middle
      → Goes [] log old middle → (rest : HandlesAll frames c middle new)
      → Meeting c (bytes ∷ frames) (log ++ frames_log frames c middle new rest) old new
  others bytes frames log old middle new met goes rest = by (is_closed met.1) refl
    where
      more : Log
      more = frames_log frames c middle new rest

      by : (ends : Bool) → is_closed met.1 ≡ ends → Meeting c (bytes ∷ frames) (log ++ more) old new
      by true ends =
          let off : is_open middle.tables c ≡ false = ap may_send (met.3.leaves
          ∙ ap (λ (b : Bool). if b then Some Closing else Some (Speaking met.0)) ends) in
          let none = own.none_behind c frames middle new off rest in
          subst (λ (l : Log). Meeting c (bytes ∷ frames) l old new) (sym (ap (λ (m : Log). log ++ m) none.2 ∙ append-nil log))
          (subst (λ (v : FrontView). Meeting c (bytes ∷ frames) log old v) (sym none.1)
          (subst (λ fs. Meeting c (bytes ∷ fs) log old middle) (sym none.0) met))
      by false still =
          let session = met.0 in
          let speaking : phase_of middle.tables.streams c ≡ Some (Speaking session) = met.3.leaves
          ∙ ap (λ (b : Bool). if b then Some Closing else Some (Speaking session)) still in
          let next = own.handles_all c session frames middle new speaking met.4 rest in
          let is_on : is_open middle.tables c ≡ true = ap may_send speaking in (
            session,
            followed met.1 next.0,
            greeted_both old.clock old.secret session old.tree log more bytes [] frames met.1 next.0 met.2
                (answered_as goes.alike.1 goes.alike.0 (sym goes.leads.1) session more frames next.0 next.1)
                (λ ends. let clash : true ≡ false = sym ends ∙ still in absurd (cc clash)),
            went_both met.1 next.0 (Speaking session) (Speaking session) old.tables middle.tables new.tables still met.3
                (went next.0 (Speaking session) middle.tables new.tables is_on (λ on. speaking) next.2),
            next.3,
          )

  pub greets_all : (bytes : List ℕ) (frames : List (List ℕ)) (old new : FrontView) → IsSilent old.tables → Free c old.tables
      → (has : HandlesAll (bytes ∷ frames) c old new) → Meeting c (bytes ∷ frames) (frames_log (bytes ∷ frames) c old new has) old new
  greets_all bytes frames old new silent free handling =
      others bytes frames (frame_log bytes c old) old handling.1 new (meets bytes old handling.1 silent free handling.2)
      (coming.handles bytes c old handling.1 handling.2) handling.3
