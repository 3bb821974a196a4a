-- A process stays at its endpoint. An event is seen from where the endpoint was before it was made ready.
use Rattle.std.proofs.Common.{◌≡◌, ◌<◌, ℕ, ◌+◌, length, Bool, true, [], List, None, Some, if◌then◌else◌, refl, sym, ap, subst, ◌∙◌}
use Rattle.std.proofs.Common.{max}
use Rattle.std.proofs.Math.Nat.{zero-max}
use Rattle.std.specs.Prelude.{Result, Ok, Err, IfErr, OnOk}
use mathlib.Core.Bool.{true≢false}
use Rattle.zprotocol.specs.declared.process.Process.{Process}
use Rattle.zprotocol.specs.declared.process.Process.TheVariants.{Master, Server, Client}
use Rattle.zprotocol.specs.world.Does.{last_post}
use Rattle.zprotocol.specs.declared.traces.stamp.TheConstants.{MAX_STAMP}
use Rattle.zprotocol.specs.declared.traces.trace.TraceEvent.{TraceEvent}
use Rattle.zprotocol.specs.traces.Deeds.{IsStamped}
use Rattle.zprotocol.specs.traces.Stamps.{next_stamp}
use Rattle.zactor.specs.declared.input.Input.{Input}
use Rattle.zactor.specs.declared.input.Input.TheVariants.{Hear, Begin, Retry, Obey, Stop}
use Rattle.zactor.specs.declared.act_fault.ActFault.{ActFault}
use Rattle.zactor.specs.declared.done.Done.{Done}
use Rattle.zactor.specs.declared.handed.Handed.{Handed}
use Rattle.zactor.specs.declared.done.Done.TheVariants as outcome
use Rattle.zactor.specs.declared.done.Done.TheVariants.{Unheard, Stopped, Left, Began, Answered}
use Rattle.zactor.specs.Acting.{can_stand, HasActed, is_end, message_of, put_by, reported_by}
use Rattle.zthreads.specs.declared.limits.TheConstants.{MAX_EVENTS}
use Rattle.zthreads.specs.declared.endpoint.Endpoint.{Endpoint}
use Rattle.zthreads.specs.Endpoints.{IsEntered, pending, process_of, SameBooks, SameEndpoint, stamp_of_endpoint, Stands}
use Rattle.zthreads.specs.Endpoints.{TreePost, TreeStanding, TreeTaken}
use Rattle.zthreads.specs.Hosting.{act_noted, after_of, before_of, Did, DidNot, GoesTo, IsHosted, LearnsNothing, note_of, only, took_of, unsent}
use Rattle.zthreads.specs.declared.host.Host.{Host}
use Rattle.zthreads.specs.Hosts.{Acted, DidIdle, Gave, host_stamp, Received}
use Rattle.zthreads.proofs.Wires.{same_books}
use Rattle.zthreads.proofs.Books.{behind_message, behind_own}
use Rattle.zthreads.proofs.Entered.{entered_too}
use Rattle.zthreads.proofs.Pending.{is_next}

-- at first a process has learnt nothing
pub learns_nothing : (p : Process) (n : ℕ) → n ≡ 0 → LearnsNothing p n
learns_nothing p n is other = is

-- of the same process the same holds
module _ (a b : Endpoint) (same : SameEndpoint a b) where
  pub fits_still : (s : TreeStanding) → can_stand (process_of a) s ≡ true → can_stand (process_of b) s ≡ true
  fits_still s fits = subst (λ (p : Process). can_stand p s ≡ true) (sym same.me) fits

  pub learns_still : (n : ℕ) → LearnsNothing (process_of a) n → LearnsNothing (process_of b) n
  learns_still n reported = subst (λ (p : Process). LearnsNothing p n) (sym same.me) reported

module _ (a b : Endpoint) (s s' : TreeStanding) (learnt : ℕ) (t u : TreeTaken) (same : SameEndpoint a b) (is : IsHosted a s learnt t) where
  -- it has that standing now
  pub hosted_at : can_stand (process_of b) s' ≡ true → Stands b s' u (pending b) → IsHosted b s' learnt u
  hosted_at fits at = record { fits = fits; at = at; reported = learns_still a b same learnt is.reported }

-- its standing is unchanged
pub hosted_still : (a b : Endpoint) (s : TreeStanding) (learnt : ℕ) (t u : TreeTaken) → SameEndpoint a b → IsHosted a s learnt t → Stands b s u (pending b)
    → IsHosted b s learnt u
hosted_still a b s learnt t u same is at =
    hosted_at a b s s learnt t u same is (fits_still a b same s is.fits) at

module _ (a z b : Endpoint) (same : SameEndpoint a z) (books : SameBooks a z) (s s' : TreeStanding) (input : Input) (next : ℕ) (done : Done) where
  pub did_before : Did z s b s' input next done → Did a s b s' input next done
  did_before d = record {
    acted = subst (λ (p : Process). HasActed p s s' input (only []) (only (pending b)) done) same.me d.acted;
    entered = entered_too a z b books _ _
        (subst (λ (p : Process). IsEntered z b (stamp_of_endpoint b) (act_noted (note_of p input) done) (reported_by p input done)) same.me d.entered);
    stamp = d.stamp;
    whole = λ goes room few early. d.whole goes (books.room room) (subst (λ (l : List TraceEvent). length l < MAX_EVENTS) (sym books.trace) few) early
        ∙ books.is_cut;
    unlost = λ goes early. d.unlost goes early ∙ books.lost;
  }

-- an event comes after all that the process knew
pub stamped_heard : (p : Process) (own learnt stamp next : ℕ) → LearnsNothing p learnt → next ≡ next_stamp (max own (max learnt stamp))
    → next < MAX_STAMP → IsStamped p own stamp next
stamped_heard (Client c) own learnt stamp next reported is early = behind_message next own learnt stamp is early
stamped_heard Master own learnt stamp next reported is early =
    is_next next (max own (max learnt stamp)) is early ∙ ap (λ n. max own (max n stamp) + 1) (reported refl) ∙ ap (λ n. max own n + 1) (zero-max stamp)
stamped_heard (Server s) own learnt stamp next reported is early =
    is_next next (max own (max learnt stamp)) is early ∙ ap (λ n. max own (max n stamp) + 1) (reported refl) ∙ ap (λ n. max own n + 1) (zero-max stamp)

pub stamped_given : (p : Process) (own learnt next : ℕ) → LearnsNothing p learnt → next ≡ next_stamp (max own learnt) → next < MAX_STAMP
    → IsStamped p own 0 next
stamped_given (Client c) own learnt next reported is early = behind_own next own learnt is early
stamped_given Master own learnt next reported is early = is_next next (max own learnt) is early ∙ ap (λ n. max own n + 1) (reported refl)
stamped_given (Server s) own learnt next reported is early = is_next next (max own learnt) is early ∙ ap (λ n. max own n + 1) (reported refl)

-- what comes from outside is no message
no_some : {A : Type 0} {x : A} → Some x ≡ None → ⊥
no_some e = cc e

pub none_taken : (input : Input) (stamp : ℕ) → message_of input ≡ None → took_of input stamp ≡ None
none_taken (Hear from m) stamp is = absurd (no_some is)
none_taken (Begin call) stamp is = refl
none_taken Retry stamp is = refl
none_taken (Obey order) stamp is = refl
none_taken Stop stamp is = refl

pub same_before : (input : Input) (stamp : ℕ) (t : TreeTaken) → message_of input ≡ None → before_of input stamp t ≡ t
same_before (Hear from m) stamp t is = absurd (no_some is)
same_before (Begin call) stamp t is = refl
same_before Retry stamp t is = refl
same_before (Obey order) stamp t is = refl
same_before Stop stamp t is = refl

pub same_after : (input : Input) (t : TreeTaken) → message_of input ≡ None → after_of input t ≡ t
same_after (Hear from m) t is = absurd (no_some is)
same_after (Begin call) t is = refl
same_after Retry t is = refl
same_after (Obey order) t is = refl
same_after Stop t is = refl

-- a process that stops has put nothing
pub end_puts : (done : Done) (posts : List TreePost) → is_end done ≡ true → put_by done posts ≡ []
end_puts Stopped posts is = refl
end_puts Left posts is = refl
end_puts outcome.Acted posts is = absurd (true≢false (sym is))
end_puts Unheard posts is = absurd (true≢false (sym is))
end_puts (Began number) posts is = absurd (true≢false (sym is))
end_puts (Answered number) posts is = absurd (true≢false (sym is))

pub unsent_as : (b : Endpoint) (done : Done) (end : Bool) → is_end done ≡ end → unsent b done ≡ if end then last_post else pending b
unsent_as b done end is = ap (λ (x : Bool). if x then last_post else pending b) is

-- where nothing was received, the message that is stored stays
pub stands_given : (a b : Endpoint) (s s' : TreeStanding) (input : Input) (stamp : ℕ) (t : TreeTaken) (r : Result Done ActFault) → message_of input ≡ None
    → OnOk r (GoesTo a s b s' input stamp (pending b)) → IfErr r (DidNot a s b s' input) → Stands a s t [] → Stands b s' t (pending b)
stands_given a b s s' input stamp t (Ok done) is goes undone at =
    subst (λ (u : TreeTaken). Stands b s' u (pending b)) (same_after input t is)
    (goes t (subst (λ (u : TreeTaken). Stands a s u []) (sym (same_before input stamp t is)) at))
stands_given a b s s' input stamp t (Err fault) is goes undone at =
    subst (λ (w : List TreePost). Stands b s' t w) (sym undone.none)
    (subst (λ (x : TreeStanding). Stands b x t []) (sym undone.kept) (undone.keeps s t [] at))

-- what is idle twice is idle
pub idle_both : (a b c : Host) → DidIdle a b → DidIdle b c → DidIdle a c
idle_both a b c x y = record { books = same_books a.endpoint b.endpoint c.endpoint x.books y.books; stands = y.stands ∙ x.stands; learnt = y.learnt ∙ x.learnt }

-- what a process did is seen from where it was idle before
module _ (a z b : Host) (idle : DidIdle a z) (same : SameEndpoint a.endpoint z.endpoint) (done : Done) where
  acted_before : (input : Input) (next known : ℕ) → next ≡ known → Acted z b input next done → Acted a b input known done
  acted_before input next known is acted =
      let early = did_before a.endpoint z.endpoint b.endpoint same idle.books z.actor b.actor input next done acted.did in
      record {
        did = subst (λ (n : ℕ). Did a.endpoint a.actor b.endpoint b.actor input n done) is
            (subst (λ (s : TreeStanding). Did a.endpoint s b.endpoint b.actor input next done) idle.stands early);
        learnt = acted.learnt ∙ idle.learnt;
      }

  pub received_before : (before after : Handed) → Received z b before after done → Received a b before after done
  received_before before after (from, m, acted, handed) = (
    from,
    m,
    acted_before (Hear from m.1) (next_stamp (max z.endpoint.stamp (max z.learnt m.0))) (next_stamp (max a.endpoint.stamp (max a.learnt m.0)))
        (ap (λ n. next_stamp (max n (max z.learnt m.0))) idle.books.stamp ∙ ap (λ n. next_stamp (max a.endpoint.stamp (max n m.0))) idle.learnt) acted,
    handed,
  )

  pub gave_before : (input : Input) → Gave z b input done → Gave a b input done
  gave_before input acted =
      acted_before input (next_stamp (host_stamp z)) (next_stamp (host_stamp a))
      (ap (λ n. next_stamp (max n z.learnt)) idle.books.stamp ∙ ap (λ n. next_stamp (max a.endpoint.stamp n)) idle.learnt) acted
