-- A server at a scene, where bytes come.
use Rattle.std.proofs.Common.{◌≡◌, ◌∙◌, ◌+◌, ℕ, Bool, true, false, List, [], ◌∷◌, ◌++◌, length, Option, Some, None, refl, sym, ap, subst}
use Rattle.std.proofs.Common.{inl, inr}
use Rattle.std.specs.Prelude.{◌||◌, nat_lt, if◌then◌else◌}
use Rattle.zcalls.specs.Lists.{Among}
use Rattle.zjute.specs.Frames.{next_of}
use Rattle.zjute.specs.declared.request.Asked.{Asked}
use Rattle.zresponses.specs.declared.clock.Clock.{Clock}
use Rattle.zconnections.specs.declared.buffers.phase.Phase.{Phase}
use Rattle.zconnections.specs.declared.buffers.phase.Phase.TheVariants.{Silent, Speaking, Closing}
use Rattle.zconnections.specs.buffers.Streams.{bytes_of, held_of, phase_of, with_bytes}
use Rattle.zconnections.specs.Tables.{TablesView, closed, sent, is_open}
use Rattle.zfront.specs.declared.limits.TheConstants.{MAX_KEPT}
use Rattle.zfront.specs.Front.{FrontView, with_tables}
use Rattle.zfront.specs.Greeting.{greeted}
use Rattle.zfront.specs.Reading.{Cuts, HandlesIn, HandlesAll, is_too_long, kept, keeps, word_asked, ComesBy, ComesIf, Comes, emptied}
use Rattle.zfront.specs.Words.{said, text_of_word}
use Rattle.zfront_laws.specs.Logs.{done_by, frame_calls, frame_log, frames_log, bytes_log, came_log}
use Rattle.zfront_laws.specs.Runs.{KeepsFew}
use Rattle.zfront_laws.proofs.Coming as step
use Rattle.zfront_laws.proofs.Seated.{has_seat}
use Rattle.zfront_laws.proofs.Steps.{Fine}
use Rattle.zfront_laws.specs.watches.Laws.{Arriving, IsRequest, requests_in}
use Rattle.zfront_laws.specs.watches.Watching.{Scene, Asking, Said, after}
use Rattle.zfront_laws.proofs.frames_lemmas.Views.{phase_with}
use Rattle.zfront_laws.proofs.watches_lemmas.Greeting.{greets}
use Rattle.zfront_laws.proofs.watches_lemmas.Marks.{closed_keeps, unchanged}
use Rattle.zfront_laws.proofs.watches_lemmas.Moving.{bytes_move}
use Rattle.zfront_laws.proofs.watches_lemmas.Reaching.{At, Reaches, becomes, behind, once, moves, sends, stays, still, closes, shuts}
use Rattle.zfront_laws.proofs.watches_lemmas.Requesting.{serves}
use Rattle.zfront_laws.proofs.watches_lemmas.Standing.{closed_fewer}

-- nothing happens
unmoved : {Asks : Asking} (old new : FrontView) (s : Scene) → At old s → new ≡ old → Reaches Asks new s []
unmoved old new s there is = becomes new old s [] is (stays None old s there)

-- ---- frames

-- the requests among the later frames are requests among all
request_later : (p : Option Phase) (frame : List ℕ) (frames : List (List ℕ)) → Among frame (requests_in p frames) → Among frame frames
request_later (Some Silent) frame [] among = among
request_later (Some Silent) frame (first ∷ frames) among = inr among
request_later (Some (Speaking session)) frame frames among = among
request_later (Some Closing) frame frames among = among
request_later None frame frames among = among

request_among : (p : Option Phase) (first frame : List ℕ) (frames : List (List ℕ)) → Among frame frames
    → Among frame (requests_in p (first ∷ frames))
request_among (Some Silent) first frame frames among = among
request_among (Some (Speaking session)) first frame frames among = inr among
request_among (Some Closing) first frame frames among = inr among
request_among None first frame frames among = inr among

-- the connection has each request among the frames, where zxids are told from this base
abbrev AsksIn : Asking → ℕ → ℕ → List (List ℕ) → Type 0
AsksIn Asks base c requests = (frame : List ℕ) (asks : Asked) → Among frame requests → IsRequest base asks frame → Asks c asks

handles_in : {Asks : Asking} (phase : Option Phase) (bytes : List ℕ) (frames : List (List ℕ)) (c : ℕ) (old new : FrontView) (s : Scene)
    → AsksIn Asks old.clock.base c (requests_in phase (bytes ∷ frames)) → phase_of old.tables.streams c ≡ phase
    → Fine old → At old s → HandlesIn phase bytes c old new → Reaches Asks new s (done_by (frame_calls phase bytes old) old)
handles_in (Some Silent) bytes frames c old new s mine is fine there same =
    becomes new (greeted bytes c old) s (done_by (frame_calls (Some Silent) bytes old) old) same (greets bytes c old s fine there)
handles_in (Some (Speaking session)) bytes frames c old new s mine is fine there has =
    serves bytes session c old new s (λ asks is. mine bytes asks (inl refl) is) is (has_seat old.tables c session fine.seated is) there has
handles_in (Some Closing) bytes frames c old new s mine is fine there same = unmoved old new s there same
handles_in None bytes frames c old new s mine is fine there same = unmoved old new s there same

handles_all : {Asks : Asking} (frames : List (List ℕ)) (c : ℕ) (old new : FrontView) (s : Scene)
    → AsksIn Asks old.clock.base c (requests_in (phase_of old.tables.streams c) frames) → Fine old → At old s → (has : HandlesAll frames c old new)
    → Reaches Asks new s (frames_log frames c old new has)
handles_all [] c old new s mine fine there is = unmoved old new s there is
handles_all (bytes ∷ frames) c old new s mine fine there has =
    let middle = has.1 in
    let phase = phase_of old.tables.streams c in
    let handled = step.handles bytes c old middle has.2 in
    behind None None middle new s (frame_log bytes c old) (frames_log frames c middle new has.3)
    (handles_in phase bytes frames c old middle s mine refl fine there has.2)
    (λ next here.
    handles_all frames c middle new next
    (λ frame asks among is.
    mine frame asks (request_among phase bytes frame frames (request_later (phase_of middle.tables.streams c) frame frames among))
    (subst (λ (k : Clock). IsRequest k.base asks frame) handled.alike.1 is))
    (handled.seats fine) here has.3)

-- ---- what is stored

rest_moves : {Asks : Asking} (over : Bool) (rest : List ℕ) (c : ℕ) (v : FrontView) (s : Scene) → At v s
    → Reaches Asks (with_tables (if over then closed c v.tables else record v.tables { streams = with_bytes v.tables.streams c rest }) v) s []
rest_moves true rest c v s there = closes None v s c there
rest_moves false rest c v s there =
    let t : TablesView = record v.tables { streams = with_bytes v.tables.streams c rest } in
    moves None v s t there (bytes_move v.tables c rest) (unchanged v.tables.attachments)

keeps_rest : {Asks : Asking} (rest : List ℕ) (c : ℕ) (v : FrontView) (s : Scene) → At v s → Reaches Asks (keeps rest c v) s []
keeps_rest {Asks} rest c v s there = elim (is_open v.tables c) as (λ b. Reaches Asks (if b then with_tables (kept rest c v.tables) v else v) s []) [
  | true ↦ rest_moves (is_too_long (next_of rest) || nat_lt MAX_KEPT (held_of v.tables.streams + length rest)) rest c v s there
  | false ↦ stays None v s there
]

-- ---- bytes

-- a word is answered, and its connection closed
says : {Asks : Asking} (text : List ℕ) (c : ℕ) (v : FrontView) (s : Scene) → phase_of v.tables.streams c ≡ Some Silent → At v s
    → Reaches Asks (with_tables (closed c (sent c text v.tables)) v) s []
says text c v s silent there =
    let t = sent c text s.tables in
    once None (with_tables (closed c (sent c text v.tables)) v) s (Said c text) (after (Said c text) s)
    (ap (λ (u : TablesView). phase_of u.streams c) there.tables ∙ silent, refl) refl
    (shuts None (with_tables (sent c text v.tables) v) (record s { tables = t }) (closed c) (sends None v s c text there)
    (closed_fewer c t) (closed_keeps c t))

-- only a silent connection is asked for a word
asked_silent : (phase : Option Phase) (came : List ℕ) (word : _) → word_asked phase came ≡ Some word → phase ≡ Some Silent
asked_silent (Some Silent) came word is = refl
asked_silent (Some (Speaking session)) came word is = absurd (cc is)
asked_silent (Some Closing) came word is = absurd (cc is)
asked_silent None came word is = absurd (cc is)

-- the connection has each request in these bytes
abbrev AsksOf : Asking → ℕ → ℕ → Option Phase → List ℕ → Type 0
AsksOf Asks base c phase came =
    (frames : List (List ℕ)) (rest : List ℕ) → Cuts came frames rest → AsksIn Asks base c (requests_in phase frames)

comes_by : {Asks : Asking} (word : _) (came : List ℕ) (c : ℕ) (old new : FrontView) (s : Scene)
    → AsksOf Asks old.clock.base c (phase_of old.tables.streams c) came → KeepsFew old → Fine old → At old s
    → word_asked (phase_of old.tables.streams c) came ≡ word
    → (has : ComesBy word came c old new) → Reaches Asks new s (bytes_log word came c old new has)
comes_by (Some word) came c old new s mine few fine there asks is =
    becomes new (said word c old) s [] is (says (text_of_word word old) c old s (asked_silent (phase_of old.tables.streams c) came word asks) there)
comes_by None came c old new s mine few fine there asks has =
    let middle = has.1 in
    let handled = has.2.handles in
    let kept = (step.handles_all has.2.frames c old middle handled).few few in
    still None None middle new s (frames_log has.2.frames c old middle handled)
    (handles_all has.2.frames c old middle s (mine has.2.frames has.0 has.2.cuts) fine there handled)
    (λ next here. becomes new (keeps has.0 c middle) next [] (step.keeps_now has.0 c middle new kept has.3) (keeps_rest has.0 c middle next here))

comes_if : {Asks : Asking} (on : Bool) (bytes : List ℕ) (c : ℕ) (old new : FrontView) (s : Scene)
    → AsksOf Asks old.clock.base c (phase_of old.tables.streams c) (bytes_of old.tables.streams c ++ bytes) → KeepsFew old → Fine old → At old s
    → (has : ComesIf on bytes c old new) → Reaches Asks new s (came_log on bytes c old new has)
comes_if false bytes c old new s mine few fine there is = unmoved old new s there is
comes_if {Asks} true bytes c old new s mine few fine there has =
    let came = bytes_of old.tables.streams c ++ bytes in
    let v = emptied c old in
    let empty = step.empties c old in
    let same = phase_with c old.tables.streams [] in
    behind None None v new s [] (came_log true bytes c old new has)
    (moves None old s v.tables there (bytes_move old.tables c []) (unchanged old.tables.attachments))
    (λ next here.
    comes_by (word_asked (phase_of v.tables.streams c) came) came c v new next (subst (λ phase. AsksOf Asks old.clock.base c phase came) (sym same) mine)
    (empty.few few) (empty.seats fine) here refl has)

pub comes : (bytes : List ℕ) (c : ℕ) (old new : FrontView) (s : Scene) → KeepsFew old → Fine old → At old s
    → (has : Comes bytes c old new) → Reaches (Arriving c bytes s) new s (came_log (is_open old.tables c) bytes c old new has)
comes bytes c old new s few fine there has =
    comes_if (is_open old.tables c) bytes c old new s
    (subst (λ (t : TablesView). AsksOf (Arriving c bytes s) old.clock.base c (phase_of t.streams c) (bytes_of t.streams c ++ bytes)) there.tables
    (λ frames rest cuts frame asks among is. (
      refl,
      frames,
      rest,
      cuts,
      frame,
      among,
      subst (λ base. IsRequest base asks frame) (sym there.base) is,
    )))
    few fine there has
