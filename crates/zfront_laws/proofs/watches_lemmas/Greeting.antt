-- A server at a scene, where a connection greets.
use Rattle.std.proofs.Common.{◌≡◌, ◌≢◌, ◌∙◌, ◌+◌, ◌≤◌, ℕ, Bool, true, false, List, [], ◌∷◌, Some, None, Result}
use Rattle.std.proofs.Common.{Ok, Err, refl, sym, ap, inl, inr, arith}
use Rattle.std.specs.Prelude.{ℤ, pos, negsuc, nat_eq, replicate, if◌then◌else◌}
use lib.Pointwise.{pointwise}
use Rattle.std.specs.Cmp.{nat_cmp_total}
use Rattle.std.specs.FinMap as finite
use Rattle.std.specs.FinMap.{nat_cmp-IsAntisymmetric}
use Rattle.std.specs.Option.{option_map_or}
use Rattle.std.specs.Ordering.{int_eq}
use Rattle.zcodec.specs.Readers.{whole}
use Rattle.zcodec.specs.declared.fault.Fault.{Fault}
use Rattle.ztree.proofs.Maps.{get-insert-elsewhere}
use Rattle.zcalls.specs.declared.call.Call.{Call}
use Rattle.zcalls.specs.declared.call.Update.TheVariants as act
use Rattle.zcalls.specs.declared.reply.Reply.{Reply}
use Rattle.zcalls.specs.declared.reply.Reply.TheVariants.{Opened}
use Rattle.zcalls.specs.Step.{step}
use Rattle.zjute.specs.Connecting.{connect_request}
use Rattle.zjute.specs.declared.connecting.ConnectRequest.{ConnectRequest}
use Rattle.zrequests.specs.Timeouts.{millis_reported, ticks_asked}
use Rattle.zresponses.specs.Stats.{long_of}
use Rattle.zpasswords.specs.Passwords.{password_of}
use Rattle.zconnections.specs.declared.attachments.attachment.Attachment.{Attachment}
use Rattle.zconnections.specs.attachments.Attachments.{AttachmentsView, new_attachment}
use Rattle.zconnections.specs.Tables.{closed, moved, sent, attachment, taken_up}
use Rattle.zconnections.specs.Sweeping.{made_one}
use Rattle.zresponses.specs.effects.Frames.{response_frame}
use Rattle.zresponses.specs.effects.Greeting.{session_reported, turned_away, given, came_back, is_ahead}
use Rattle.zresponses.specs.Stats.{told}
use Rattle.zfront.specs.Front.{FrontView, with_tables, asked}
use Rattle.zfront.specs.Greeting.{opening, opened, with_session, returned, greeted_by, greeted}
use Rattle.zfront_laws.specs.Logs.{done_by, greeting_calls}
use Rattle.zfront_laws.proofs.Rising.{step_opens}
use Rattle.zfront_laws.proofs.Seated.{Has}
use Rattle.zfront_laws.proofs.Steps.{Fine, below}
use Rattle.zfront_laws.specs.watches.Watching.{Scene, Asking, Greeted}
use Rattle.zfront_laws.proofs.watches_lemmas.Marks.{Marked, made_there, marked_in, seated_keeps}
use Rattle.zfront_laws.proofs.watches_lemmas.Moving.{speaks_moves}
use Rattle.zfront_laws.proofs.watches_lemmas.Reaching.{At, Reaches, moves, moves_if, sends_as, still, closes}
use Rattle.zfront_laws.proofs.watches_lemmas.Tidying.{moves_away}
use Rattle.zfront_laws.proofs.watches_lemmas.Updating.{behind_calls, next, nothing_taken, open_leaves}

-- the answer to a greeting
greets_with : {Asks : Asking} (v : FrontView) (s : Scene) (c : ℕ) (greeting : ConnectRequest) (timeout session : ℤ) (password : List ℕ) → At v s
    → Reaches Asks (with_tables (sent c (response_frame greeting timeout session password) v.tables) v) s []
greets_with v s c greeting timeout session password there =
    sends_as None v s c (response_frame greeting timeout session password) (Greeted c greeting timeout session password) tt refl there

-- ---- a session that opens

-- it was not there, so the others keep their marks
module _ (m : AttachmentsView) (session : ℕ) (new : Attachment) (fresh : Has m session → ⊥) where
  apart : (id : ℕ) → Has m id → id ≢ session
  apart id has same = fresh (has.0, ap (finite.get m) (sym same) ∙ has.1)

  mark_stays : (id : ℕ) → made_one m id ≡ true → made_one (finite.insert m session new) id ≡ true
  mark_stays id is =
      let there = made_there m id is in
      marked_in (finite.insert m session new) id there.0 (get-insert-elsewhere nat_cmp_total nat_cmp-IsAntisymmetric m
      session new id (apart id there) ∙ there.1)
      ∙ sym (marked_in m id there.0 there.1) ∙ is

  marks_stay : (id : ℕ) → Marked m id → Marked (finite.insert m session new) id
  marks_stay id (inl nobody) = inl nobody
  marks_stay id (inr is) = inr (mark_stays id is)

too_new : (id zxid : ℕ) → id ≡ zxid + 1 → id ≤ zxid → ⊥
too_new id zxid is below = absurd (omega (arith, is, below))

module _ (greeting : ConnectRequest) (c : ℕ) (old : FrontView) (s : Scene) (fine : Fine old) (there : At old s) where
  abbrev ticks : ℕ
  ticks = ticks_asked old.clock.terms.tick greeting.timeout

  abbrev calls : List Call
  calls = opening old.clock.terms.tick greeting ∷ []

  abbrev v : FrontView
  v = asked calls old

  -- the scene after the call
  abbrev then_scene : Scene
  then_scene = next calls old s there

  here : At v then_scene
  here = nothing_taken calls old s there (open_leaves old.tree ticks)

  abbrev done : Reply → FrontView
  done reported = with_tables (opened v.clock.terms.tick v.secret greeting c (reported ∷ []) v.tables) v

  welcomes : {Asks : Asking} (session granted : ℕ) → session ≡ old.tree.zxid + 1 → Reaches Asks (done (Opened session granted)) then_scene []
  welcomes session granted is =
      let fresh : Has v.tables.attachments session → ⊥ = λ has. too_new session old.tree.zxid is (below old fine session has) in
      let password = password_of v.secret session in
      let t = attachment session c v.tables in
      still None None (with_tables t v) (done (Opened session granted)) then_scene []
      (moves_if None v then_scene t here (speaks_moves v.tables c session (finite.insert v.tables.attachments session (new_attachment c)))
      (λ all path n found. marks_stay v.tables.attachments session (new_attachment c) fresh n.owner (all path n found)))
      (λ last this. greets_with (with_tables t v) last c greeting (millis_reported v.clock.terms.tick granted) (long_of session) password this)

  opens_with : {Asks : Asking} (reported : Reply) → ((session granted : ℕ) → reported ≡ Opened session granted → session ≡ old.tree.zxid + 1)
      → Reaches Asks (done reported) then_scene []
  opens_with (Opened session granted) new = welcomes session granted (new session granted refl)
  opens_with other new = closes None v then_scene c here

  opens : {Asks : Asking} → Reaches Asks (with_session greeting c old) s (done_by calls old)
  opens =
      behind_calls calls old s there (with_session greeting c old)
      (opens_with (step old.tree 0 (act.Open ticks)).1 (λ session granted is. (step_opens old.tree ticks session granted is).0))

-- ---- a session that is taken up

turns_away : {Asks : Asking} (greeting : ConnectRequest) (c : ℕ) (v : FrontView) (s : Scene) → At v s → Reaches Asks (with_tables (turned_away greeting c v.tables) v) s []
turns_away greeting c v s there =
    let t = sent c (response_frame greeting (pos 0) (pos 0) (replicate 16 0)) v.tables in
    still None None (with_tables t v) (with_tables (closed c t) v) s [] (greets_with v s c greeting (pos 0) (pos 0) (replicate 16 0) there)
    (λ next here. closes None (with_tables t v) next c here)

comes_back : {Asks : Asking} (greeting : ConnectRequest) (session granted : ℕ) (password : List ℕ) (c : ℕ) (v : FrontView) (s : Scene) → At v s
    → Reaches Asks (with_tables (came_back v.clock.terms.tick greeting session granted password c v.tables) v) s []
comes_back {Asks} greeting session granted password c v s there =
    elim (pointwise nat_eq (given greeting) password) as (λ b. Reaches Asks (with_tables (
    if b
    then session_reported greeting session (millis_reported v.clock.terms.tick granted) password c (taken_up session c v.tables)
    else turned_away greeting c v.tables
    ) v) s []) [
      | true ↦
          let u = moved session v.tables in
          let t = taken_up session c v.tables in
          let done = with_tables (session_reported greeting session (millis_reported v.clock.terms.tick granted) password c t) v in
          still None None (with_tables u v) done s [] (moves_away None session v s there)
          (λ next here.
          still None None (with_tables t v) done next [] (moves None (with_tables u v) next t here
          (speaks_moves u c session t.attachments) (seated_keeps session c v.tables))
          (λ last this. greets_with (with_tables t v) last c greeting (millis_reported v.clock.terms.tick granted) (long_of session) password this))
      | false ↦ turns_away greeting c v s there
    ]

returns : {Asks : Asking} (greeting : ConnectRequest) (id : ℤ) (c : ℕ) (v : FrontView) (s : Scene) → At v s → Reaches Asks (with_tables (returned greeting id c v) v) s []
returns {Asks} greeting (pos session) c v s there =
    elim (finite.get v.tree.sessions session) as (λ o. Reaches Asks (with_tables (
    option_map_or (λ row. came_back v.clock.terms.tick greeting session row.timeout (password_of v.secret session) c v.tables) o
    (turned_away greeting c v.tables)
    ) v) s []) [
      | None ↦ turns_away greeting c v s there
      | Some row ↦ comes_back greeting session row.timeout (password_of v.secret session) c v s there
    ]
returns greeting (negsuc n) c v s there = turns_away greeting c v s there

-- ---- a greeting

greets_if : {Asks : Asking} (ahead is_new : Bool) (greeting : ConnectRequest) (c : ℕ) (v : FrontView) (s : Scene) → Fine v → At v s
    → Reaches Asks (
    if ahead then with_tables (closed c v.tables) v else
    if is_new then with_session greeting c v else
    with_tables (returned greeting greeting.session_id c v) v
    ) s (done_by (if ahead then [] else if is_new then opening v.clock.terms.tick greeting ∷ [] else []) v)
greets_if true is_new greeting c v s fine there = closes None v s c there
greets_if false true greeting c v s fine there = opens greeting c v s fine there
greets_if false false greeting c v s fine there = returns greeting greeting.session_id c v s there

greets_by : {Asks : Asking} (read : Result ConnectRequest Fault) (c : ℕ) (v : FrontView) (s : Scene) → Fine v → At v s
    → Reaches Asks (greeted_by read c v) s (done_by (greeting_calls read v) v)
greets_by (Err fault) c v s fine there = closes None v s c there
greets_by (Ok greeting) c v s fine there = greets_if (is_ahead (told v.clock.base v.tree.zxid) greeting) (int_eq greeting.session_id (pos 0)) greeting c v s fine there

pub greets : {Asks : Asking} (bytes : List ℕ) (c : ℕ) (v : FrontView) (s : Scene) → Fine v → At v s
    → Reaches Asks (greeted bytes c v) s (done_by (greeting_calls (whole connect_request bytes) v) v)
greets bytes c v s fine there = greets_by (whole connect_request bytes) c v s fine there
