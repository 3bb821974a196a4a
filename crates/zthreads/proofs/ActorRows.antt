-- An event of any process, from what its definition did with an input.
use Rattle.std.proofs.Common.{◌≡◌, ◌<◌, ℕ, Bool, true, false, not, List, [], ◌∷◌, Option, Some, None, is_some, is_none, if◌then◌else◌, refl}
use Rattle.std.proofs.Common.{sym, ap, ◌∙◌}
use Rattle.std.specs.Prelude.{option_to_list}
use Rattle.std.specs.Option.{option_map}
use mathlib.Core.Bool.{true≢false}
use Rattle.zcalls.specs.declared.reply.Reply.{Reply}
use Rattle.zprotocol.specs.Places.{is_server}
use Rattle.zprotocol.specs.declared.process.Process.{Process}
use Rattle.zprotocol.specs.declared.process.Process.TheVariants.{Master, Server, Client}
use Rattle.zprotocol.specs.declared.master.order.Order.{Order}
use Rattle.zprotocol.specs.server.Machine.{cached_tree}
use Rattle.zprotocol.specs.master.Order.{server_of}
use Rattle.zprotocol.specs.master.View.{MasterView}
use Rattle.zprotocol.specs.master.Table.{order_fault}
use Rattle.zprotocol.specs.client.View.{ClientView}
use Rattle.zprotocol.specs.client.Table.{client_step}
use Rattle.zserver.specs.Server.{TreeMessage, TreeOut, TreeView}
use Rattle.zprotocol.proofs.world_lemmas.Tests.{both}
use Rattle.zprotocol.specs.world.History.{History}
use Rattle.zprotocol.specs.world.Does.{AtMaster, AtServer, AtClient, Out, accepts, answer_reported, last_post}
use Rattle.zprotocol.specs.declared.traces.trace.Act.{Act}
use Rattle.zprotocol.specs.declared.traces.stamp.TheConstants.{MAX_STAMP}
use Rattle.zprotocol.specs.declared.traces.trace.Act.TheVariants.{Ordered}
use Rattle.zprotocol.specs.traces.Deeds.{IsStamped, refuses, row_of, stamp_of, taken_from}
use Rattle.zactor.specs.declared.input.Input.{Input}
use Rattle.zactor.specs.declared.input.Input.TheVariants.{Hear, Begin, Retry, Obey, Stop}
use Rattle.zprotocol.specs.declared.world.history.CallEvent.TheVariants as call_event
use Rattle.zactor.specs.declared.done.Done.{Done}
use Rattle.zactor.specs.declared.done.Done.TheVariants.{Acted, Unheard, Stopped, Left, Began, Answered}
use Rattle.zactor.specs.Acting.{can_come, can_stand, effect_of, HasActed, is_end, put_by, read, reply_in, reported_by, TreeEffect}
use Rattle.zthreads.specs.declared.endpoint.Endpoint.{Endpoint}
use Rattle.zthreads.specs.Endpoints.{IsEvent, pending, Stands, StandsAfter, StandsBeside, took_from, TreePost, TreeStanding, TreeTaken}
use Rattle.zthreads.specs.Hosting.{act_noted, after_of, before_of, note_of, only, reported_noted, took_of, unsent}
use Rattle.zthreads.specs.Steps.{answer_event}
use Rattle.zthreads.proofs.CallerRows.{reported}

pub never : {A : Type 0} → false ≡ true → A
never e = absurd (true≢false (sym e))

-- the row of the trace is what the definition does
abbrev HasRow : Process → TreeStanding → Input → Done → ℕ → Type 0
HasRow me old input done stamp =
    row_of cached_tree me old (act_noted (note_of me input) done) (option_map (λ x. x.1) (took_of input stamp)) ≡ Some (effect_of me old input done)

not_true : (b : Bool) → not b ≡ true → b ≡ false
not_true false e = refl
not_true true e = never e

none_refused : {A : Type 0} (o : Option A) → is_none o ≡ true → is_some o ≡ false
none_refused None e = refl
none_refused (Some x) e = never e

master_row : (v : MasterView) (input : Input) (done : Done) (stamp : ℕ) → can_come (AtMaster v) input done ≡ true
    → accepts Master (read input done) (AtMaster v) ≡ true → HasRow Master (AtMaster v) input done stamp
master_row v (Hear from m) Acted stamp comes accepted = refl
master_row v (Obey order) Acted stamp comes accepted =
    let fine = both (is_server (server_of order)) (is_none (order_fault v order)) accepted in
    rw (none_refused (order_fault v order) fine.1, fine.0) refl
master_row v input done stamp comes accepted = never comes

server_row : (s : ℕ) (v : TreeView) (input : Input) (done : Done) (stamp : ℕ) → can_come (AtServer v) input done ≡ true
    → HasRow (Server s) (AtServer v) input done stamp
server_row s v (Hear from m) Acted stamp comes = rw (not_true _ comes) refl
server_row s v (Hear from m) Unheard stamp comes = rw comes refl
server_row s v (Hear from m) Stopped stamp comes = rw comes refl
server_row s v (Hear Master m) Left stamp comes = rw comes refl
server_row s v (Hear (Server t) m) Left stamp comes = never comes
server_row s v (Hear (Client c) m) Left stamp comes = never comes
server_row s v Stop Stopped stamp comes = refl
server_row s v input done stamp comes = never comes

client_row : (c : ℕ) (v : ClientView) (input : Input) (done : Done) (stamp : ℕ) → can_come (AtClient v) input done ≡ true
    → accepts (Client c) (read input done) (AtClient v) ≡ true → HasRow (Client c) (AtClient v) input done stamp
client_row c v (Hear from m) Acted stamp comes accepted = refl
client_row c v (Hear from m) (Answered number) stamp comes accepted = refl
client_row c v (Begin call) (Began number) stamp comes accepted = rw accepted refl
client_row c v Retry Acted stamp comes accepted = rw accepted refl
client_row c v input done stamp comes accepted = never comes

row : (me : Process) (old : TreeStanding) (input : Input) (done : Done) (stamp : ℕ) → can_stand me old ≡ true → can_come old input done ≡ true
    → accepts me (read input done) old ≡ true → HasRow me old input done stamp
row Master (AtMaster v) input done stamp fits comes accepted = master_row v input done stamp comes accepted
row (Server s) (AtServer v) input done stamp fits comes accepted = server_row s v input done stamp comes
row (Client c) (AtClient v) input done stamp fits comes accepted = client_row c v input done stamp comes accepted
row (Server s) Out input done stamp fits comes accepted = never comes
row me old input done stamp fits comes accepted = never fits

-- what it received is what it took from the channel of the sender
took_it : (me : Process) (old : TreeStanding) (input : Input) (done : Done) (stamp : ℕ) (p : Process) → can_come old input done ≡ true
    → taken_from p (act_noted (note_of me input) done) (option_map (λ x. x.1) (took_of input stamp)) ≡ took_from p (took_of input stamp)
took_it me (AtServer v) (Hear Master m) Left stamp p comes = refl
took_it me (AtServer v) (Hear (Server t) m) Left stamp p comes = never comes
took_it me (AtServer v) (Hear (Client c) m) Left stamp p comes = never comes
took_it me (AtMaster v) (Hear from m) Left stamp p comes = never comes
took_it me (AtClient v) (Hear from m) Left stamp p comes = never comes
took_it me Out (Hear from m) Left stamp p comes = never comes
took_it me old (Hear from m) Acted stamp p comes = refl
took_it me old (Hear from m) Unheard stamp p comes = refl
took_it me old (Hear from m) Stopped stamp p comes = refl
took_it me old (Hear from m) (Began number) stamp p comes = refl
took_it me old (Hear from m) (Answered number) stamp p comes = refl
took_it me old (Begin call) done stamp p comes = refl
took_it me old Retry done stamp p comes = refl
took_it me old (Obey order) done stamp p comes = refl
took_it me old Stop done stamp p comes = refl

abbrev effect : TreeStanding → List TreePost → History → Option TreeEffect
effect left posts reported = Some (record { left = left; posts = posts; reported = reported })

module _ (me : Process) (last : ℕ) (old new : TreeStanding) (input : Input) (before after : TreeOut) (done : Done)
    (fits : can_stand me old ≡ true) (acts : HasActed me old new input before after done) where
  -- the event of its trace
  pub event : (stamp next : ℕ) → IsStamped me last (stamp_of (option_map (λ x. x.1) (took_of input stamp))) next
      → IsEvent me last old (took_of input stamp) (act_noted (note_of me input) done) next new (effect_of me old input done).posts
      (reported_by me input done)
  event stamp next at =
      let e : TreeEffect = effect_of me old input done in
      let r = row me old input done stamp fits acts.comes acts.accepted in
      let left : effect e.left e.posts e.reported ≡ effect new e.posts e.reported = ap (λ (s : TreeStanding). effect s e.posts e.reported) (sym acts.left) in
      let seen : effect new e.posts e.reported ≡ effect new e.posts (reported_by me input done) = ap (λ (h : History). effect new e.posts h) acts.reported in
      record { row = r ∙ left ∙ seen; from = λ p. took_it me old input done stamp p acts.comes; at = at }

-- an event that received the message of the input, or nothing
pub stands_by : (a b : Endpoint) (act : Act) (next : ℕ) (seen : History) → StandsAfter a b act next seen → StandsBeside a b act next seen
    → (input : Input) (stamp : ℕ) (s s' : TreeStanding) (posts : List TreePost)
    → (next < MAX_STAMP → IsEvent a.me a.stamp s (took_of input stamp) act next s' posts seen)
    → (t : TreeTaken) → Stands a s (before_of input stamp t) [] → Stands b s' (after_of input t) posts
stands_by a b act next seen after beside (Hear from m) stamp s s' posts event t h = after s s' (Some (from, (stamp, m))) posts h event
stands_by a b act next seen after beside (Begin call) stamp s s' posts event t h = beside s s' t posts h event
stands_by a b act next seen after beside Retry stamp s s' posts event t h = beside s s' t posts h event
stands_by a b act next seen after beside (Obey order) stamp s s' posts event t h = beside s s' t posts h event
stands_by a b act next seen after beside Stop stamp s s' posts event t h = beside s s' t posts h event

-- what was sent, and isn't on its channels yet
pub posts_left : (b : Endpoint) (done : Done) (posts : List TreePost) → pending b ≡ put_by done posts → (is_end done ≡ true → posts ≡ last_post)
    → posts ≡ unsent b done
posts_left b Acted posts puts owed = sym puts
posts_left b Unheard posts puts owed = sym puts
posts_left b Stopped posts puts owed = owed refl
posts_left b Left posts puts owed = owed refl
posts_left b (Began number) posts puts owed = sym puts
posts_left b (Answered number) posts puts owed = sym puts

no_cons : {A : Type 0} {x : A} {xs : List A} → x ∷ xs ≡ [] → ⊥
no_cons e = cc e

none_seen : {A B : Type 0} (f : A → B) (o : Option A) → is_some o ≡ true → [] ≡ option_to_list (option_map f o) → ⊥
none_seen f (Some x) some e = no_cons (sym e)
none_seen f None some e = never some

-- what was noted before is what the caller sees
answered : (c number : ℕ) (from : Process) (m : TreeMessage) (o : Option (ℕ × Reply)) → is_some (reply_in m) ≡ true
    → option_to_list (if is_some (option_map (λ g. g.1) o) then answer_event c m else None) ≡ answer_reported c o
    → answer_reported c o ≡ reported_by (Client c) (Hear from m) (Answered number)
    → option_to_list (reported_noted (Client c) (note_of (Client c) (Hear from m)) (Answered number))
    ≡ reported_by (Client c) (Hear from m) (Answered number)
answered c number from m (Some given) some noted reported = noted ∙ reported
answered c number from m None some noted reported =
    absurd (none_seen (λ (r : Reply). call_event.Answer c number r) (reply_in m) some reported)

-- the same of any process and input
pub seen_as_noted : (me : Process) (old : TreeStanding) (input : Input) (done : Done) → can_stand me old ≡ true → can_come old input done ≡ true
    → (effect_of me old input done).reported ≡ reported_by me input done
    → option_to_list (reported_noted me (note_of me input) done) ≡ reported_by me input done
seen_as_noted (Client c) (AtClient v) (Hear from m) (Answered number) fits comes seen =
    answered c number from m (client_step v from m).2 comes (reported v c from m) seen
seen_as_noted (Client c) (AtClient v) (Hear from m) done fits comes seen = refl
seen_as_noted (Client c) (AtClient v) (Begin call) (Answered number) fits comes seen = never comes
seen_as_noted (Client c) (AtClient v) (Begin call) done fits comes seen = refl
seen_as_noted (Client c) (AtClient v) Retry (Answered number) fits comes seen = never comes
seen_as_noted (Client c) (AtClient v) Retry done fits comes seen = refl
seen_as_noted (Client c) (AtClient v) (Obey order) (Answered number) fits comes seen = never comes
seen_as_noted (Client c) (AtClient v) (Obey order) done fits comes seen = refl
seen_as_noted (Client c) (AtClient v) Stop (Answered number) fits comes seen = never comes
seen_as_noted (Client c) (AtClient v) Stop done fits comes seen = refl
seen_as_noted (Client c) old input done fits comes seen = never fits
seen_as_noted Master old (Hear from m) (Answered number) fits comes seen = refl
seen_as_noted Master old (Hear from m) done fits comes seen = refl
seen_as_noted Master old (Begin call) done fits comes seen = refl
seen_as_noted Master old Retry done fits comes seen = refl
seen_as_noted Master old (Obey order) done fits comes seen = refl
seen_as_noted Master old Stop done fits comes seen = refl
seen_as_noted (Server s) old (Hear from m) (Answered number) fits comes seen = refl
seen_as_noted (Server s) old (Hear from m) done fits comes seen = refl
seen_as_noted (Server s) old (Begin call) done fits comes seen = refl
seen_as_noted (Server s) old Retry done fits comes seen = refl
seen_as_noted (Server s) old (Obey order) done fits comes seen = refl
seen_as_noted (Server s) old Stop done fits comes seen = refl

-- of a process that had nothing to send, what it put waits to be sent
pub acted_there : (me : Process) (old new : TreeStanding) (input : Input) (before after : TreeOut) (done : Done) (b : Endpoint)
    → HasActed me old new input before after done → pending b ≡ put_by done (effect_of me old input done).posts
    → HasActed me old new input (only []) (only (pending b)) done
acted_there me old new input before after done b acts puts =
    record { comes = acts.comes; accepted = acts.accepted; left = acts.left; stands = acts.stands; puts = puts; owed = acts.owed; reported = acts.reported }

-- the master refuses an order
pub master_refuses : (me : Process) (last : ℕ) (s : TreeStanding) (order : Order) (next : ℕ) → refuses me s order ≡ true → IsStamped me last 0 next
    → IsEvent me last s None (Ordered order) next s [] []
master_refuses me last s order next is at = record { row = rw is refl; from = λ p. refl; at = at }
