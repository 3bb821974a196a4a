-- The record of a client through its calls.
use Rattle.std.proofs.Common.{◌≡◌, ◌≢◌, ◌+◌, ◌++◌, ◌∷◌, [], ℕ, zero, suc, Bool, true, false, true≢false, Option, None, Some}
use Rattle.std.proofs.Common.{if◌then◌else◌, inl, is_some, nat_lt, refl, sym, ap, subst, ◌∙◌, ⊎_elim, append-nil, append_assoc, eqb-true}
use Rattle.std.specs.Prelude.{Result, Ok, Err, IfOk, IfErr}
use Rattle.std.specs.Option.{option_map}
use Rattle.ztree.proofs.Maps.{same_some}
use Rattle.zcalls.specs.Lists.{Among}
use Rattle.zcalls.specs.declared.call.Call.{Call}
use Rattle.zcalls.specs.declared.reply.Reply.{Reply}
use Rattle.zprotocol.specs.declared.message.Message.{Message}
use Rattle.zprotocol.specs.declared.message.Message.TheVariants as message
use Rattle.zprotocol.specs.declared.process.Process.{Process}
use Rattle.zprotocol.specs.declared.process.Process.TheVariants.{Master, Server}
use Rattle.zprotocol.specs.client.View.{ClientView}
use Rattle.zprotocol.specs.client.Table.{answer_row, begin_step, client_step, ClientResult, config_row, is_waiting_for, no_effect, outstanding_posts}
use Rattle.zprotocol.specs.declared.traces.trace.Act.{Act}
use Rattle.zprotocol.specs.declared.world.history.CallEvent.TheVariants as call_event
use Rattle.zprotocol.specs.world.Does.{answer_reported}
use Rattle.zprotocol.specs.world.History.{History}
use Rattle.zprotocol.proofs.world_lemmas.Among.{among_first, among_second}
use Rattle.zthreads.specs.Endpoints.{is_cut_of, IsEntered, SameBooks, seen_of}
use Rattle.zthreads.specs.declared.caller.Caller.{Caller}
use Rattle.zthreads.specs.Callers.{Began, caller_endpoint, caller_id, caller_view, Turned}
use Rattle.zrun.specs.declared.client.Client.{Client}
use Rattle.zrun.specs.declared.faults.Unanswered.{Unanswered}
use Rattle.zrun.specs.declared.faults.Unanswered.TheVariants.{Busy, Exhausted, Memory, NoAnswer}
use Rattle.zrun.specs.declared.patience.Patience.{Patience}
use Rattle.zrun.specs.Asked.{AskedInVain, AskedUntil, CalledPatientlyInVain, CalledPatientlyUntil, InsistedInVain, InsistedUntil, SentAgain}
use Rattle.zrun.specs.Clients.{BeganNothing, client_endpoint, TurnedInVain, TurnedUntil}
use Rattle.zrace.specs.Shown.{Continues, ShowsCall, ShowsReply}

no_some : {A : Type 0} (x : A) → Some x ≡ None → ⊥
no_some x e = true≢false (ap is_some e)

-- the table of a client that waits for a reply
module _ (T : Type 0) (v : ClientView) where
  -- a message that brings no reply leaves the call outstanding
  abbrev Stays : ClientResult T → Type 0
  Stays r = None ≡ option_map (λ (g : ℕ × Reply). g.1) r.2 → r.0.outstanding ≡ v.outstanding

  stays_by : (b : Bool) (x y : ClientResult T) → Stays x → Stays y → Stays (if b then x else y)
  stays_by true x y p q = p
  stays_by false x y p q = q

  answer_stays : (number : ℕ) (reply : Reply) → Stays (answer_row v number reply)
  unfolding answer_row
  answer_stays number reply =
      stays_by (is_waiting_for v number) (record v { outstanding = None }, [], Some (number, reply)) (no_effect v)
      (λ e. absurd (no_some reply (sym e))) (λ e. refl)

  config_stays : (epoch : ℕ) (head tail : Option ℕ) → Stays (config_row v epoch head tail)
  unfolding config_row
  config_stays epoch head tail =
      let w : ClientView = record v { epoch = epoch; head = head; tail = tail } in
      stays_by (nat_lt v.epoch epoch) (w, outstanding_posts w, None) (no_effect v) (λ e. refl) (λ e. refl)

  step_stays : (from : Process) (m : Message T) → Stays (client_step v from m)
  unfolding client_step
  step_stays (Server s) (message.Answer number reply) = answer_stays number reply
  step_stays Master (message.Config epoch head tail) = config_stays epoch head tail
  step_stays from m = λ e. refl

  -- a reply that is returned is that of the outstanding call
  abbrev Numbered : ℕ → Reply → ClientResult T → Type 0
  Numbered number given r = Some given ≡ option_map (λ (g : ℕ × Reply). g.1) r.2 → r.2 ≡ Some (number, given)

  numbered_by : (n number : ℕ) (call : Call) (given reply : Reply) (b : Bool) → v.outstanding ≡ Some (n, call) → is_waiting_for v number ≡ b
      → Numbered n given (if b then (record v { outstanding = None }, [], Some (number, reply)) else no_effect v)
  numbered_by n number call given reply true out is e =
      let same : n ≡ number = eqb-true n number (sym (ap (λ o. is_waiting_for (record v { outstanding = o }) number) out) ∙ is) in
      let so : given ≡ reply = same_some given reply e in
      λ k. Some (sym same k, sym so k)
  numbered_by n number call given reply false out is e = absurd (no_some given e)

  answer_numbered : (n number : ℕ) (call : Call) (given reply : Reply) → v.outstanding ≡ Some (n, call) → Numbered n given (answer_row v number reply)
  unfolding answer_row
  answer_numbered n number call given reply out = numbered_by n number call given reply (is_waiting_for v number) out refl

  none_by : (n : ℕ) (given : Reply) (b : Bool) (x y : ClientResult T) → x.2 ≡ None → y.2 ≡ None → Numbered n given (if b then x else y)
  none_by n given true x y p q e = absurd (no_some given (e ∙ ap (λ o. option_map (λ (g : ℕ × Reply). g.1) o) p))
  none_by n given false x y p q e = absurd (no_some given (e ∙ ap (λ o. option_map (λ (g : ℕ × Reply). g.1) o) q))

  config_numbered : (n : ℕ) (given : Reply) (epoch : ℕ) (head tail : Option ℕ) → Numbered n given (config_row v epoch head tail)
  unfolding config_row
  config_numbered n given epoch head tail =
      let w : ClientView = record v { epoch = epoch; head = head; tail = tail } in
      none_by n given (nat_lt v.epoch epoch) (w, outstanding_posts w, None) (no_effect v) refl refl

  step_numbered : (n : ℕ) (call : Call) (given : Reply) (from : Process) (m : Message T) → v.outstanding ≡ Some (n, call)
      → Numbered n given (client_step v from m)
  unfolding client_step
  step_numbered n call given (Server s) (message.Answer number reply) out = answer_numbered n number call given reply out
  step_numbered n call given Master (message.Config epoch head tail) out = config_numbered n given epoch head tail
  step_numbered n call given from m out = λ e. absurd (no_some given e)

  begun : (call : Call) → (begin_step {T = T} v call).0.outstanding ≡ Some (v.number + 1, call)
  unfolding begin_step
  begun call = refl

-- it waits for the reply to the call with this number
abbrev IsWaiting : ℕ → Caller → Type 0
IsWaiting number a = (call : Call) × ((caller_view a).outstanding ≡ Some (number, call))

waits_same : (a b : Caller) (n : ℕ) → caller_view b ≡ caller_view a → IsWaiting n a → IsWaiting n b
waits_same a b n same waits = (waits.0, ap (λ (v : ClientView). v.outstanding) same ∙ waits.1)

waits_begun : (a b : Caller) (call : Call) (number : ℕ) → Began a b call number → IsWaiting number b
waits_begun a b call number began = (
  call,
  ap (λ (v : ClientView). v.outstanding) began.0.view ∙ begun _ (caller_view a) call
      ∙ ap (λ n. Some (n, call)) (sym began.0.numbered),
)

waits_on : (a b : Caller) (n : ℕ) → Turned a b None → IsWaiting n a → IsWaiting n b
waits_on a b n took waits =
    ⊎_elim (λ idle. waits_same a b n idle.1 waits)
    (λ heard. (
      waits.0,
      ap (λ (v : ClientView). v.outstanding) heard.2.view
          ∙ step_stays _ (caller_view a) heard.0 heard.1.1 heard.2.given ∙ waits.1,
    )) took

waits_in_vain : (turns : ℕ) (a b : Caller) (n : ℕ) → TurnedInVain turns a b → IsWaiting n a → IsWaiting n b
waits_in_vain zero a b n same waits = subst (λ x. IsWaiting n x) (sym same) waits
waits_in_vain (suc turns) a b n took waits = waits_on took.0 b n took.2 (waits_in_vain turns a took.0 n took.1 waits)

waits_sent : (a b : Caller) (n : ℕ) → SentAgain a b → IsWaiting n a → IsWaiting n b
waits_sent a b n again waits =
    ⊎_elim (λ retried. waits_same a b n retried.0.view waits) (λ same. waits_same a b n same.1 waits) again

waits_insisted : (turns retries : ℕ) (a b : Caller) (n : ℕ) → InsistedInVain turns retries a b → IsWaiting n a → IsWaiting n b
waits_insisted turns zero a b n same waits = subst (λ x. IsWaiting n x) (sym same) waits
waits_insisted turns (suc retries) a b n took waits =
    waits_in_vain turns took.1 b n took.4 (waits_sent took.0 took.1 n took.3 (waits_insisted turns retries a took.0 n took.2 waits))

-- a record is continued
abbrev Goes : Caller → Caller → Type 0
Goes a b =
    is_cut_of (caller_endpoint b) ≡ false
    → (is_cut_of (caller_endpoint a) ≡ false) × (rest : History) × (seen_of (caller_endpoint b) ≡ seen_of (caller_endpoint a) ++ rest)

goes_self : (a : Caller) → Goes a a
goes_self a whole = (whole, [], sym (append-nil (seen_of (caller_endpoint a))))

goes_back : (a b : Caller) → b ≡ a → Goes a b
goes_back a b same = subst (λ x. Goes a x) (sym same) (goes_self a)

goes_same : (a b : Caller) → SameBooks (caller_endpoint a) (caller_endpoint b) → Goes a b
goes_same a b books whole = (sym books.is_cut ∙ whole, [], books.reported ∙ sym (append-nil (seen_of (caller_endpoint a))))

goes_entered : (a b : Caller) (stamp : ℕ) (act : Act) (reported : History) → IsEntered (caller_endpoint a) (caller_endpoint b) stamp act reported
    → Goes a b
goes_entered a b stamp act reported entered whole = let e = entered whole in (e.whole, reported, e.seen)

goes_both : (a b c : Caller) → Goes a b → Goes b c → Goes a c
goes_both a b c one two whole =
    let second = two whole in
    let first = one second.0 in (
      first.0,
      first.1 ++ second.1,
      second.2 ∙ ap (λ l. l ++ second.1) first.2 ∙ append_assoc (seen_of (caller_endpoint a)) first.1 second.1,
    )

goes_turned : (a b : Caller) (reply : Option Reply) → Turned a b reply → Goes a b
goes_turned a b reply took = ⊎_elim (λ idle. goes_same a b idle.0) (λ heard. goes_entered a b _ _ _ heard.2.entered) took

goes_in_vain : (n : ℕ) (a b : Caller) → TurnedInVain n a b → Goes a b
goes_in_vain zero a b same = goes_back a b same
goes_in_vain (suc n) a b took = goes_both a took.0 b (goes_in_vain n a took.0 took.1) (goes_turned took.0 b None took.2)

goes_until : (turns : ℕ) (a b : Caller) (reply : Reply) → TurnedUntil turns a b reply → Goes a b
goes_until turns a b reply took = goes_both a took.2 b (goes_in_vain took.0 a took.2 took.3) (goes_turned took.2 b (Some reply) took.4)

goes_sent : (a b : Caller) → SentAgain a b → Goes a b
goes_sent a b again = ⊎_elim (λ retried. goes_entered a b _ _ _ retried.0.entered) (λ same. goes_same a b same.0) again

goes_insisted : (turns retries : ℕ) (a b : Caller) → InsistedInVain turns retries a b → Goes a b
goes_insisted turns zero a b same = goes_back a b same
goes_insisted turns (suc retries) a b took =
    goes_both a took.1 b (goes_both a took.0 took.1 (goes_insisted turns retries a took.0 took.2) (goes_sent took.0 took.1 took.3))
    (goes_in_vain turns took.1 b took.4)

goes_insisted_until : (patience : Patience) (a b : Caller) (reply : Reply) → InsistedUntil patience a b reply → Goes a b
goes_insisted_until patience a b reply took =
    goes_both a took.3 b (goes_both a took.2 took.3 (goes_insisted patience.turns took.0 a took.2 took.4) (goes_sent took.2 took.3 took.5))
    (goes_until patience.turns took.3 b reply took.6)

goes_asked : (patience : Patience) (a b : Caller) (reply : Reply) → AskedUntil patience a b reply → Goes a b
goes_asked patience a b reply took =
    ⊎_elim (λ soon. goes_until patience.turns a b reply soon)
    (λ late. goes_both a late.0 b (goes_in_vain patience.turns a late.0 late.1) (goes_insisted_until patience late.0 b reply late.2)) took

goes_asked_in_vain : (patience : Patience) (a b : Caller) → AskedInVain patience a b → Goes a b
goes_asked_in_vain patience a b took =
    goes_both a took.0 b (goes_in_vain patience.turns a took.0 took.1) (goes_insisted patience.turns patience.retries took.0 b took.2)

goes_began : (a b : Caller) (call : Call) (number : ℕ) → Began a b call number → Goes a b
goes_began a b call number began = goes_entered a b _ _ _ began.0.entered

-- a call that isn't invoked changes no record
goes_refused : (a b : Client) (fault : Unanswered) → fault ≢ NoAnswer → BeganNothing a b fault → Continues a b
goes_refused a b fault other nothing = let r = nothing other in goes_same a.caller b.caller r.1.0

-- a call continues the record, whatever becomes of it
pub call_goes : (patience : Patience) (call : Call) (a b : Client) (r : Result Reply Unanswered) → IfOk r (CalledPatientlyUntil patience call a b)
    → IfErr r (CalledPatientlyInVain patience call a b) → IfErr r (BeganNothing a b) → Continues a b
call_goes patience call a b (Ok reply) until vain nothing =
    goes_both a.caller until.0 b.caller (goes_began a.caller until.0 call until.1 until.2) (goes_asked patience until.0 b.caller reply until.3)
call_goes patience call a b (Err NoAnswer) until vain nothing =
    let took = vain refl in
    goes_both a.caller took.0 b.caller (goes_began a.caller took.0 call took.1 took.2) (goes_asked_in_vain patience took.0 b.caller took.3)
call_goes patience call a b (Err Busy) until vain nothing = goes_refused a b Busy (λ e. absurd (cc e)) nothing
call_goes patience call a b (Err Memory) until vain nothing = goes_refused a b Memory (λ e. absurd (cc e)) nothing
call_goes patience call a b (Err Exhausted) until vain nothing = goes_refused a b Exhausted (λ e. absurd (cc e)) nothing

pub continues_self : (a : Client) → Continues a a
continues_self a = goes_self a.caller

pub continues_back : (a b : Client) → b.caller ≡ a.caller → Continues a b
continues_back a b same = goes_back a.caller b.caller same

pub continues_both : (a b c : Client) → Continues a b → Continues b c → Continues a c
continues_both a b c one two = goes_both a.caller b.caller c.caller one two

-- the reply is recorded
reply_shown : (a b : Caller) (n : ℕ) (reply : Reply) → Turned a b (Some reply) → IsWaiting n a → is_cut_of (caller_endpoint b) ≡ false
    → ShowsReply (seen_of (caller_endpoint b)) n reply
reply_shown a b n reply took waits whole =
    ⊎_elim (λ idle. absurd (no_some reply idle.2))
    (λ heard.
    let is = step_numbered _ (caller_view a) n waits.0 reply heard.0 heard.1.1 waits.1 heard.2.given in
    let e = heard.2.entered whole in
    let old = seen_of (caller_endpoint a) in (
      caller_id a,
      subst (λ (l : History). Among (call_event.Answer (caller_id a) n reply) l)
          (sym (e.seen ∙ ap (λ o. old ++ answer_reported (caller_id a) o) is))
          (among_second (call_event.Answer (caller_id a) n reply) old (call_event.Answer (caller_id a) n reply ∷ []) (inl refl)),
    )) took

until_shown : (turns : ℕ) (a b : Caller) (n : ℕ) (reply : Reply) → TurnedUntil turns a b reply → IsWaiting n a
    → is_cut_of (caller_endpoint b) ≡ false → ShowsReply (seen_of (caller_endpoint b)) n reply
until_shown turns a b n reply took waits whole =
    reply_shown took.2 b n reply took.4 (waits_in_vain took.0 a took.2 n took.3 waits) whole

insisted_shown : (patience : Patience) (a b : Caller) (n : ℕ) (reply : Reply) → InsistedUntil patience a b reply → IsWaiting n a
    → is_cut_of (caller_endpoint b) ≡ false → ShowsReply (seen_of (caller_endpoint b)) n reply
insisted_shown patience a b n reply took waits whole =
    until_shown patience.turns took.3 b n reply took.6
    (waits_sent took.2 took.3 n took.5 (waits_insisted patience.turns took.0 a took.2 n took.4 waits)) whole

asked_shown : (patience : Patience) (a b : Caller) (n : ℕ) (reply : Reply) → AskedUntil patience a b reply → IsWaiting n a
    → is_cut_of (caller_endpoint b) ≡ false → ShowsReply (seen_of (caller_endpoint b)) n reply
asked_shown patience a b n reply took waits whole =
    ⊎_elim (λ soon. until_shown patience.turns a b n reply soon waits whole)
    (λ late. insisted_shown patience late.0 b n reply late.2 (waits_in_vain patience.turns a late.0 n late.1 waits) whole) took

-- so is the call
begun_shown : (a b : Caller) (call : Call) (number : ℕ) → Began a b call number → is_cut_of (caller_endpoint b) ≡ false
    → ShowsCall (seen_of (caller_endpoint b)) number call
begun_shown a b call number began whole =
    let e = began.0.entered whole in
    let one = call_event.Begin (caller_id a) number call in (
      caller_id a,
      subst (λ (l : History). Among one l) (sym e.seen) (among_second one (seen_of (caller_endpoint a)) (one ∷ []) (inl refl)),
    )

-- of a call with a reply both are recorded
pub call_shown : (patience : Patience) (call : Call) (a b : Client) (reply : Reply) → CalledPatientlyUntil patience call a b reply
    → is_cut_of (client_endpoint b) ≡ false
    → (number : ℕ) × ShowsCall (seen_of (client_endpoint b)) number call × ShowsReply (seen_of (client_endpoint b)) number reply
call_shown patience call a b reply took whole =
    let goes = goes_asked patience took.0 b.caller reply took.3 whole in
    let shown = begun_shown a.caller took.0 call took.1 took.2 goes.0 in
    let one = call_event.Begin shown.0 took.1 call in (
      took.1,
      (
        shown.0,
        subst (λ (l : History). Among one l) (sym goes.2) (among_first one (seen_of (caller_endpoint took.0)) goes.1 shown.1),
      ),
      asked_shown patience took.0 b.caller took.1 reply took.3 (waits_begun a.caller took.0 call took.1 took.2) whole,
    )
