-- A frame of a connection that speaks for a session is answered there, or the connection is closed.
use Rattle.std.proofs.Common.{◌≡◌, ◌∙◌, ℕ, Bool, true, false, List, [], ◌∷◌, ◌++◌, Option, None, Some}
use Rattle.std.proofs.Common.{Result, Ok, Err, refl, sym, ap, subst, arith}
use Rattle.std.proofs.lemmas.List.{append-nil}
use Rattle.zcodec.specs.declared.fault.Fault.{Fault}
use Rattle.ztree.specs.Tree.{Tree}
use Rattle.zcalls.specs.declared.call.Call.{Call}
use Rattle.zjute.specs.declared.request.Request.{Request}
use Rattle.zrequests.specs.Asking.{Meaning}
use Rattle.zrequests.specs.Requests.{calls_in}
use Rattle.zrequests.specs.declared.fault.Unasked.TheVariants.{Refused, Memory}
use Rattle.zresponses.specs.declared.answer.Answer.{Answer}
use Rattle.zresponses.specs.Own.{refused_answer}
use Rattle.zresponses.specs.declared.clock.Clock.{Clock}
use Rattle.zconnections.specs.declared.buffers.phase.Phase.{Phase}
use Rattle.zconnections.specs.declared.buffers.phase.Phase.TheVariants.{Speaking}
use Rattle.zconnections.specs.buffers.Streams.{phase_of}
use Rattle.ztree_service.specs.log.Logs.{Log, replies_of}
use Rattle.ztree_service.proofs.log_lemmas.Incarnations.{calls_zipped, replies_zipped, leads_by}
use Rattle.zconnections.specs.Tables.{may_send, is_open}
use Rattle.zresponses.specs.effects.Answering.{answer_unless, now_of}
use Rattle.zresponses.specs.effects.Frames.{answer_frame}
use Rattle.zresponses.specs.effects.Replying.{absorbed_all, replied}
use Rattle.zresponses.specs.effects.Watching.{IsFaultOf, granted_all, first_fault}
use Rattle.zresponses.specs.effects.Wishes.{wishes}
use Rattle.zresponses.specs.Stats.{told}
use Rattle.zfront.specs.Front.{FrontView, asked, replies_to}
use Rattle.zfront.specs.Reading.{HandlesIn, Handles, HandlesAll}
use Rattle.zfront.specs.Requests.{touched_by, with_answer, Tells, Acts, ActsOr, Requests, request_in}
use Rattle.zfront.specs.Walks.{walked}
use Rattle.zfront_laws.specs.Logs.{meant, request_calls, frame_calls, done_by, frame_log, frames_log}
use Rattle.zfront_laws.proofs.Coming as coming
use Rattle.zfront_laws.proofs.Walking.{never_walks, walks_call_nothing}
use Rattle.zfront_laws.proofs.Steps.{Goes}
use Rattle.zfront_laws.specs.frames.Talk.{Talk, Quiet, Answers, is_closed, SaysOr, IsAnswer, tree_behind, Answered}
use Rattle.zresponses.proofs.effects_lemmas.Granting.{first_fault_is}
use Rattle.zfront_laws.proofs.frames_lemmas.Views.{view, phase_in, run, followed, run_then, run_ends}
use Rattle.zfront_laws.proofs.frames_lemmas.Free.{speaks, Free}
use Rattle.zfront_laws.proofs.frames_lemmas.Calm as table
use Rattle.zfront_laws.proofs.frames_lemmas.Calm.{IsCalm, same_stream, absorbed_all_streams}
use Rattle.zfront_laws.proofs.frames_lemmas.Fronts as front
use Rattle.zfront_laws.proofs.frames_lemmas.Others.{touches}
use Rattle.zfront_laws.proofs.frames_lemmas.Talking.{answered_as, answered_both, answered_calm, answered_behind}
use Rattle.zfront_laws.proofs.frames_lemmas.Doing.{Serving, behind, calmly, quietly, shuts, replies}

-- one answer
module _ (clock : Clock) (secret : List ℕ) (session : ℕ) (bytes : List ℕ) where
  answers_one : (tree : Tree) (log : Log) (reported : List ℕ) (end : Talk) → IsAnswer clock secret session bytes reported (tree_behind tree log) log
      → IsCalm false end → Answered clock secret session tree log (bytes ∷ []) (Answers reported end)
  answers_one tree log reported end is calm =
      (bytes, [], log, [], refl, sym (append-nil log), is, answered_calm clock secret session false (tree_behind tree log) [] end calm)

  says_so : (r : Request) → request_in clock.base bytes ≡ Ok r → (after tree : Tree) (part : Log) (answer : Answer) (walk : Option Answer)
      (meaning : Meaning (List Call)) → after ≡ tree → walked session r.asked after ≡ walk → calls_in clock.terms session r.asked ≡ meaning
      → SaysOr walk meaning clock (now_of after) r.asked part answer
      → IsAnswer clock secret session bytes (answer_frame (told clock.base after.zxid) r.xid answer) tree part
  says_so r reads after tree part answer walk meaning same walks means says = record {
    asked = r;
    answer = answer;
    before = [];
    part = part;
    reads = reads;
    frames = ap (λ (t : Tree). answer_frame (told clock.base t.zxid) r.xid answer) same;
    stands = refl;
    says =
        subst (λ (t : Tree). SaysOr (walked session r.asked t) (calls_in clock.terms session r.asked) clock (now_of t) r.asked part answer) same
        (subst (λ w. SaysOr w (calls_in clock.terms session r.asked) clock (now_of after) r.asked part answer) (sym walks)
        (subst (λ m. SaysOr walk m clock (now_of after) r.asked part answer) (sym means) says));
  }

module _ (c : ℕ) where
  module _ (session : ℕ) (bytes : List ℕ) where
    module _ (r : Request) where
      -- the calls were answered
      answers_all : (calls : List Call) (v : FrontView) → request_in v.clock.base bytes ≡ Ok r → walked session r.asked v.tree ≡ None → calls_in v.clock.terms session r.asked ≡ Ok calls
          → speaks (phase_of v.tables.streams c) ≡ true → Free c v.tables
          → Serving c session (done_by calls v) (bytes ∷ []) v (with_answer calls c r v)
      answers_all calls v reads walks means speaking free =
          let t = v.tables in
          let reported = replies_to calls v in
          let log = done_by calls v in
          let after = (asked calls v).tree in
          let u = absorbed_all calls reported t in
          let wished = wishes r.asked calls reported in
          let w = granted_all c wished u in
          let fault = first_fault c wished u in
          let answer = answer_unless fault v.clock (now_of after) r.asked calls reported in
          let each : replies_of log ≡ reported = replies_zipped v.tree calls in
          let events = table.both c t u w (table.absorbs_all c calls reported t)
          (table.grants c c r.asked calls reported u (λ is. ap (λ rows. speaks (phase_of rows c)) (absorbed_all_streams calls reported t) ∙ speaking)) free in
          let reported_to = replies c (told v.clock.base after.zxid) r.xid answer w in
          let talk = Answers (answer_frame (told v.clock.base after.zxid) r.xid answer) reported_to.0 in
          let why : IsFaultOf (wishes r.asked calls (replies_of log)) fault =
          subst (λ rs. IsFaultOf (wishes r.asked calls rs) fault) (sym each) (first_fault_is c wished u) in
          let is = says_so v.clock v.secret session bytes r reads after (tree_behind v.tree log) log answer None (Ok calls)
          (sym (leads_by v.tree calls).1) (never_walks session r.asked v.tree after walks) means
          (calls_zipped v.tree calls, (fault, why, ap (λ rs. answer_unless fault v.clock (now_of after) r.asked calls rs) (sym each))) in (
            followed events.0.0 talk,
            answered_behind v.clock v.secret session (speaks (phase_of t.streams c)) v.tree log bytes events.0.0 talk events.0.1
                (answers_one v.clock v.secret session bytes v.tree log (answer_frame (told v.clock.base after.zxid) r.xid answer) reported_to.0 is reported_to.1),
            reported_to.2 ∙ ap (run c talk) events.0.2 ∙ sym (run_then c events.0.0 talk (view c t)),
            reported_to.3 events.1,
          )

      -- an answer without a call
      tells : (answer : Answer) (walk : Option Answer) (meaning : Meaning (List Call)) (old new : FrontView)
          → request_in old.clock.base bytes ≡ Ok r → walked session r.asked old.tree ≡ walk → calls_in old.clock.terms session r.asked ≡ meaning
          → SaysOr walk meaning old.clock (now_of old.tree) r.asked [] answer → Free c old.tables
          → Tells answer c r old new → Serving c session [] (bytes ∷ []) old new
      tells answer walk meaning old new reads walks means says free is =
          let reported = replies c (told old.clock.base old.tree.zxid) r.xid answer old.tables in
          quietly c (λ talk. Answered old.clock old.secret session old.tree [] (bytes ∷ []) talk)
          (Answers (answer_frame (told old.clock.base old.tree.zxid) r.xid answer) reported.0) (replied (told old.clock.base old.tree.zxid) c r.xid answer old.tables) old new
          (answers_one old.clock old.secret session bytes old.tree [] (answer_frame (told old.clock.base old.tree.zxid) r.xid answer) reported.0
          (says_so old.clock old.secret session bytes r reads old.tree old.tree [] answer walk meaning refl walks means says) reported.1)
          is reported.2 (reported.3 free)

      acts : (meaning : Meaning (List Call)) (old new : FrontView) → request_in old.clock.base bytes ≡ Ok r
          → walked session r.asked old.tree ≡ None → calls_in old.clock.terms session r.asked ≡ meaning
          → speaks (phase_of old.tables.streams c) ≡ true → Free c old.tables → Acts meaning c r old new
          → Serving c session (done_by (meant meaning) old) (bytes ∷ []) old new
      acts (Err (Refused code)) old new reads walks means speaking free is =
          tells (refused_answer code r.asked) None (Err (Refused code)) old new reads walks means (refl, refl) free is
      acts (Err Memory) old new reads walks means speaking free is = absurd is
      acts (Ok calls) old new reads walks means speaking free makes =
          let log = done_by calls old in
          let tree = old.tree in
          let middle = with_answer calls c r old in
          let one = answers_all calls old reads walks means speaking free in
          let speaking_then = speaks (phase_of middle.tables.streams c) in
          calmly c (λ talk. Answered old.clock old.secret session tree log (bytes ∷ []) talk)
          (λ talk. Answered old.clock old.secret session tree log (bytes ∷ []) talk) old middle new one
          (λ talk calm.
          subst (λ (l : Log). Answered old.clock old.secret session tree l (bytes ∷ []) (followed one.0 talk)) (append-nil log)
          (answered_both old.clock old.secret session tree log [] (bytes ∷ []) [] one.0 talk one.1
          (answered_calm old.clock old.secret session speaking_then (tree_behind tree log) [] talk calm) (λ ends. refl)))
          (front.tidies c calls old middle new makes)

      acts_or : (walk : Option Answer) (meaning : Meaning (List Call)) (old new : FrontView) → request_in old.clock.base bytes ≡ Ok r
          → walked session r.asked old.tree ≡ walk → calls_in old.clock.terms session r.asked ≡ meaning → speaks (phase_of old.tables.streams c) ≡ true → Free c old.tables
          → ActsOr walk meaning c r old new → Serving c session (done_by (meant meaning) old) (bytes ∷ []) old new
      acts_or (Some answer) meaning old new reads walks means speaking free is =
          subst (λ calls. Serving c session (done_by calls old) (bytes ∷ []) old new)
          (sym (ap meant (sym means) ∙ walks_call_nothing old.clock.terms session r.asked old.tree answer walks))
          (tells answer (Some answer) meaning old new reads walks means (refl, refl) free is)
      acts_or None meaning old new reads walks means speaking free has = acts meaning old new reads walks means speaking free has

    serves_by : (read : Result Request Fault) (old new : FrontView) → request_in old.clock.base bytes ≡ read
        → speaks (phase_of old.tables.streams c) ≡ true → Free c old.tables → Requests read session c old new
        → Serving c session (done_by (request_calls read session old) old) (bytes ∷ []) old new
    serves_by (Err fault) old new reads speaking free is =
        shuts c (λ talk. Answered old.clock old.secret session old.tree [] (bytes ∷ []) talk) (omega arith) old new is free
    serves_by (Ok r) old new reads speaking free acting =
        acts_or r (walked session r.asked old.tree) (calls_in old.clock.terms session r.asked) (touched_by session old) new reads refl refl speaking ((touches c session old free).1) acting

  -- a frame on a connection with a session
  pub handles : (session : ℕ) (bytes : List ℕ) (old new : FrontView) → phase_of old.tables.streams c ≡ Some (Speaking session) → Free c old.tables
      → Handles bytes c old new → Serving c session (frame_log bytes c old) (bytes ∷ []) old new
  handles session bytes old new speaking free handling =
      subst (λ (phase : Option Phase). HandlesIn phase bytes c old new
      → Serving c session (done_by (frame_calls phase bytes old) old) (bytes ∷ []) old new) (sym speaking)
      (λ serving. serves_by session bytes (request_in old.clock.base bytes) old new refl (ap speaks speaking) free serving) handling

  -- frames after one that closed the connection
  pub none_behind : (frames : List (List ℕ)) (old new : FrontView) → is_open old.tables c ≡ false → (has : HandlesAll frames c old new)
      → (frames ≡ []) × (new ≡ old) × (frames_log frames c old new has ≡ [])
  none_behind [] old new shut is = (refl, is, refl)
  none_behind (bytes ∷ frames) old new shut has =
      let clash : true ≡ false = sym has.0 ∙ shut in
      absurd (cc clash)

  -- the first of several frames, and the others
  all_behind : (session : ℕ) (bytes : List ℕ) (frames : List (List ℕ)) (log : Log) (old middle new : FrontView)
      → phase_of old.tables.streams c ≡ Some (Speaking session) → Serving c session log (bytes ∷ []) old middle
      → Goes [] log old middle → (rest : HandlesAll frames c middle new)
      → (phase_of middle.tables.streams c ≡ Some (Speaking session) → Free c middle.tables
      → Serving c session (frames_log frames c middle new rest) frames middle new)
      → Serving c session (log ++ frames_log frames c middle new rest) (bytes ∷ frames) old new
  all_behind session bytes frames log old middle new speaking first goes rest others = by (is_closed first.0) refl
    where
      more : Log
      more = frames_log frames c middle new rest

      by : (ends : Bool) → is_closed first.0 ≡ ends → Serving c session (log ++ more) (bytes ∷ frames) old new
      by true ends =
          let shut : is_open middle.tables c ≡ false = ap (λ w. may_send (phase_in w.0)) first.2 ∙ run_ends c first.0 (view c old.tables) ends in
          let none = none_behind frames middle new shut rest in
          subst (λ (l : Log). Serving c session l (bytes ∷ frames) old new) (sym (ap (λ (m : Log). log ++ m) none.2 ∙ append-nil log))
          (subst (λ (v : FrontView). Serving c session log (bytes ∷ frames) old v) (sym none.1)
          (subst (λ fs. Serving c session log (bytes ∷ fs) old middle) (sym none.0) first))
      by false still =
          let same = same_stream c old.tables middle.tables first.0 still first.2 in
          behind c (λ talk. Answered old.clock old.secret session old.tree log (bytes ∷ []) talk)
          (λ talk. Answered middle.clock middle.secret session middle.tree more frames talk)
          (λ talk. Answered old.clock old.secret session old.tree (log ++ more) (bytes ∷ frames) talk) old middle new first
          (λ talk has.
          answered_both old.clock old.secret session old.tree log more (bytes ∷ []) frames first.0 talk first.1
          (answered_as goes.alike.1 goes.alike.0 (sym goes.leads.1) session more frames talk has)
          (λ ends. let clash : true ≡ false = sym ends ∙ still in absurd (cc clash)))
          (others (ap phase_in same ∙ speaking) first.3)

  pub handles_all : (session : ℕ) (frames : List (List ℕ)) (old new : FrontView)
      → phase_of old.tables.streams c ≡ Some (Speaking session) → Free c old.tables → (has : HandlesAll frames c old new)
      → Serving c session (frames_log frames c old new has) frames old new
  handles_all session [] old new speaking free is =
      quietly c (λ talk. Answered old.clock old.secret session old.tree [] [] talk) Quiet old.tables old new refl is refl free
  handles_all session (bytes ∷ frames) old new speaking free handling =
      all_behind session bytes frames (frame_log bytes c old) old handling.1 new speaking
      (handles session bytes old handling.1 speaking free handling.2) (coming.handles bytes c old handling.1 handling.2) handling.3
      (λ speaking free. handles_all session frames handling.1 new speaking free handling.3)
