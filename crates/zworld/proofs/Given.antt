-- Inputs from outside that were given to a process, as events.
use Rattle.std.proofs.Common.{◌≡◌, ℕ, Bool, true, false, None, Some, [], ◌∷◌, refl, sym, subst}
use Rattle.std.specs.Prelude.{◌&&◌}
use mathlib.Core.Bool.{true≢false}
use Rattle.zcalls.specs.declared.call.Call.{Call}
use Rattle.zprotocol.specs.declared.process.Process.TheVariants.{Master, Server, Client}
use Rattle.zprotocol.specs.declared.master.order.Order.{Order}
use Rattle.zprotocol.specs.Places.{is_server}
use Rattle.zactor.specs.Acting.{TreeStanding, can_stand, has_stopped, refusal_of}
use Rattle.zactor.specs.declared.act_fault.ActFault.{ActFault}
use Rattle.zactor.specs.declared.act_fault.ActFault.TheVariants.{Refused, Memory}
use Rattle.zactor.specs.declared.done.Done.{Done}
use Rattle.zactor.specs.declared.done.Done.TheVariants as done
use Rattle.zactor.specs.declared.input.Input.TheVariants as input
use Rattle.zactor.specs.declared.refusal.Refusal.{Refusal}
use Rattle.zprotocol.specs.declared.world.event.Event.TheVariants as event
use Rattle.zprotocol.specs.declared.world.history.CallEvent.TheVariants as call_event
use Rattle.zprotocol.specs.world.Does.{AtMaster, AtServer, AtClient, Out}
use Rattle.zprotocol.specs.world.Events.{is_enabled}
use Rattle.zworld.specs.declared.did.Did.TheVariants as became
use Rattle.zworld.specs.declared.did.IdleCause.TheVariants as cause
use Rattle.zworld.specs.Held.{Held, standing_at, kept_world}
use Rattle.zworld.specs.support.Giving.{begun_number, IsGiven, IsNotGiven}
use Rattle.zworld.specs.support.Stepped.{HasStepped}
use Rattle.zworld.proofs.Steps.{can_fail, idle_stepped, done_stepped, is_one}

fails_second : (b : Bool) → (b && false) ≡ false
fails_second true = refl
fails_second false = refl

-- a call began
pub begun : (old new : Held) (c : ℕ) (call : Call) (end : Done) (number : ℕ) → Some number ≡ begun_number end
    → is_enabled (kept_world old []) (event.Begin c call) ≡ true
    → IsGiven old new (Client c) (input.Begin call) end
    → HasStepped old new (event.Begin c call) became.Done (call_event.Begin c number call ∷ [])
begun old new c call (done.Began n) number is on given =
    let same : n ≡ number = cc is in
    subst (λ (m : ℕ). HasStepped old new (event.Begin c call) became.Done (call_event.Begin c m call ∷ [])) same
    (done_stepped old new (event.Begin c call) (call_event.Begin c n call ∷ []) on given.leads)
begun old new c call done.Acted number is on given = absurd (true≢false (sym given.comes))
begun old new c call done.Unheard number is on given = absurd (true≢false (sym given.comes))
begun old new c call done.Stopped number is on given = absurd (true≢false (sym given.comes))
begun old new c call done.Left number is on given = absurd (true≢false (sym given.comes))
begun old new c call (done.Answered n) number is on given = absurd (true≢false (sym given.comes))

-- nothing else becomes of one that can begin
pub only_begun : (old new : Held) (c : ℕ) (call : Call) (end : Done) → None ≡ begun_number end → IsGiven old new (Client c) (input.Begin call) end → ⊥
only_begun old new c call (done.Began number) none given = cc none
only_begun old new c call done.Acted none given = true≢false (sym given.comes)
only_begun old new c call done.Unheard none given = true≢false (sym given.comes)
only_begun old new c call done.Stopped none given = true≢false (sym given.comes)
only_begun old new c call done.Left none given = true≢false (sym given.comes)
only_begun old new c call (done.Answered number) none given = true≢false (sym given.comes)

-- a call was sent once more
pub retried : (old new : Held) (c : ℕ) (end : Done) → IsGiven old new (Client c) input.Retry end → HasStepped old new (event.Retry c) became.Done []
retried old new c done.Acted given = done_stepped old new (event.Retry c) [] given.accepted given.leads
retried old new c done.Unheard given = absurd (true≢false (sym given.comes))
retried old new c done.Stopped given = absurd (true≢false (sym given.comes))
retried old new c done.Left given = absurd (true≢false (sym given.comes))
retried old new c (done.Began number) given = absurd (true≢false (sym given.comes))
retried old new c (done.Answered number) given = absurd (true≢false (sym given.comes))

-- a server failed, or had failed
pub failed : (old new : Held) (s : ℕ) (end : Done) → IsGiven old new (Server s) input.Stop end → HasStepped old new (event.Fail s) became.Done []
failed old new s done.Stopped given =
    done_stepped old new (event.Fail s) [] (can_fail old s (is_one s given.inside) given.lives) given.leads
failed old new s done.Acted given = absurd (true≢false (sym given.comes))
failed old new s done.Unheard given = absurd (true≢false (sym given.comes))
failed old new s done.Left given = absurd (true≢false (sym given.comes))
failed old new s (done.Began number) given = absurd (true≢false (sym given.comes))
failed old new s (done.Answered number) given = absurd (true≢false (sym given.comes))

pub not_failed : (held : Held) (s : ℕ) (why : Refusal) → can_stand (Server s) (standing_at held.actors (Server s)) ≡ true
    → refusal_of (standing_at held.actors (Server s)) input.Stop ≡ Some why → HasStepped held held (event.Fail s) (became.Idle cause.Nothing) []
not_failed held s why can refused =
    idle_stepped held (event.Fail s) cause.Nothing (rw (gone (standing_at held.actors (Server s)) can refused) (fails_second (is_server s))) refl
  where
    gone : (standing : TreeStanding) → can_stand (Server s) standing ≡ true → refusal_of standing input.Stop ≡ Some why → has_stopped standing ≡ true
    gone (AtMaster v) can is = cc
    gone (AtServer v) can is = cc
    gone (AtClient v) can is = cc
    gone Out can is = refl

-- so it isn't given that it stop only where it has failed
pub still_failed : (old new : Held) (s : ℕ) (fault : ActFault) → IsNotGiven old new (Server s) input.Stop fault
    → HasStepped old new (event.Fail s) (became.Idle cause.Nothing) []
still_failed old new s (Refused why) not =
    subst (λ (h : Held). HasStepped old h (event.Fail s) (became.Idle cause.Nothing) []) (sym not.2) (not_failed old s why not.0 not.1)
still_failed old new s Memory not = absurd (not.1 refl)

-- the master obeyed an order
pub obeyed : (old new : Held) (order : Order) (end : Done) → IsGiven old new Master (input.Obey order) end
    → HasStepped old new (event.Order order) became.Done []
obeyed old new order done.Acted given = done_stepped old new (event.Order order) [] given.accepted given.leads
obeyed old new order done.Unheard given = absurd (true≢false (sym given.comes))
obeyed old new order done.Stopped given = absurd (true≢false (sym given.comes))
obeyed old new order done.Left given = absurd (true≢false (sym given.comes))
obeyed old new order (done.Began number) given = absurd (true≢false (sym given.comes))
obeyed old new order (done.Answered number) given = absurd (true≢false (sym given.comes))
