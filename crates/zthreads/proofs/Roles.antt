-- The standing of the master, and what a client did, from what the definition did with its input.
use Rattle.std.proofs.Common.{◌≡◌, ℕ, true, false, [], ◌∷◌, Option, Some, None, is_some, refl, sym, ap, subst, ◌∙◌}
use Rattle.std.specs.Prelude.{Ok, option_to_list}
use Rattle.std.specs.Option.{option_map}
use Rattle.zcalls.specs.declared.call.Call.{Call}
use Rattle.zcalls.specs.declared.reply.Reply.{Reply}
use Rattle.zprotocol.specs.declared.process.Process.{Process}
use Rattle.zprotocol.specs.declared.process.Process.TheVariants.{Master, Client}
use Rattle.zprotocol.specs.client.Table as client
use Rattle.zprotocol.specs.client.Table.{client_step}
use Rattle.zprotocol.specs.declared.world.history.CallEvent.TheVariants as call_event
use Rattle.zprotocol.specs.declared.world.outcome.Outcome.TheVariants as outcome
use Rattle.zprotocol.specs.world.History.{History}
use Rattle.zprotocol.specs.world.Does.{AtMaster, AtServer, AtClient, Out, answer_reported}
use Rattle.zprotocol.specs.declared.traces.trace.Act.TheVariants as act
use Rattle.zactor.specs.declared.input.Input.{Input}
use Rattle.zactor.specs.declared.input.Input.TheVariants.{Hear, Begin}
use Rattle.zserver.specs.Server.{TreeMessage}
use Rattle.zactor.specs.declared.handed.Handed.TheVariants.{Nothing}
use Rattle.zactor.specs.declared.done.Done.{Done}
use Rattle.zactor.specs.declared.done.Done.TheVariants.{Acted, Unheard, Stopped, Left, Began, Answered}
use Rattle.zactor.specs.Acting.{can_stand, handed_by, HasActed, reply_handed, reply_in, reported_by, with_reply}
use Rattle.zthreads.specs.declared.endpoint.Endpoint.{Endpoint}
use Rattle.zthreads.specs.Endpoints.{IsAt, IsEntered, pending, process_of, stamp_of_endpoint, Stands, TreeStamped, TreeStanding, TreeTaken}
use Rattle.zthreads.specs.Hosting.{act_noted, ActsAt, EntersDone, IsHosted, note_of, only}
use Rattle.zthreads.specs.Standings.{client_known, master_known, reply_heard}
use Rattle.zthreads.specs.Steps.{Begins, Heard}
use Rattle.zthreads.proofs.ActorRows.{never}
use Rattle.zthreads.proofs.CallerRows.{begin_number}
use Rattle.zthreads.proofs.Results.{none_if}

-- a process of that number, which was given this input
abbrev ActsAs : Process → TreeStanding → Endpoint → TreeStanding → Input → Done → Type 0
ActsAs p s b s' input done = HasActed p s s' input (only []) (only (pending b)) done

abbrev EntersAs : Process → Endpoint → Endpoint → Input → Done → Type 0
EntersAs p a b input done = IsEntered a b (stamp_of_endpoint b) (act_noted (note_of p input) done) (reported_by p input done)

-- the standing of the master
at_master : (s : TreeStanding) → can_stand Master s ≡ true → s ≡ AtMaster (master_known s)
at_master (AtMaster v) fits = refl
at_master (AtClient v) fits = never fits
at_master (AtServer v) fits = never fits
at_master Out fits = never fits

-- the master has the standing of its view, where it holds no message
pub master_stood : (d : Endpoint) (s : TreeStanding) (learnt : ℕ) (front : TreeTaken) → process_of d ≡ Master → IsHosted d s learnt front
    → is_some front ≡ false
    → IsAt d (AtMaster (master_known s))
master_stood d s learnt front is h none =
    subst (λ (x : TreeStanding). Stands d x None (pending d)) (at_master s (subst (λ (p : Process). can_stand p s ≡ true) is h.fits))
    (subst (λ (t : TreeTaken). Stands d s t (pending d)) (none_if front none) h.at)

-- where a client is
at_client : (c : ℕ) (s : TreeStanding) → can_stand (Client c) s ≡ true → s ≡ AtClient (client_known s)
at_client c (AtClient v) fits = refl
at_client c (AtMaster v) fits = never fits
at_client c (AtServer v) fits = never fits
at_client c Out fits = never fits

pub client_stood : (c : ℕ) (d : Endpoint) (s : TreeStanding) (learnt : ℕ) (front : TreeTaken) → process_of d ≡ Client c
    → IsHosted d s learnt front → s ≡ AtClient (client_known s)
client_stood c d s learnt front is h = at_client c s (subst (λ (p : Process). can_stand p s ≡ true) is h.fits)

-- what a client hands out is what callers see
no_answer : (c : ℕ) (o : Option (ℕ × Reply)) → answer_reported c o ≡ [] → None ≡ option_map (λ g. g.1) o
no_answer c None e = refl
no_answer c (Some g) e = absurd (cc e)

one_answer : (c number : ℕ) (brought : Option Reply) (o : Option (ℕ × Reply)) → is_some brought ≡ true
    → answer_reported c o ≡ option_to_list (option_map (λ r. call_event.Answer c number r) brought)
    → brought ≡ option_map (λ g. g.1) o
one_answer c number None o some e = never some
one_answer c number (Some reply) None some e = absurd (cc e)
one_answer c number (Some reply) (Some g) some e = let same : reply ≡ g.1 = cc e in ap (λ (r : Reply). Some r) same

-- what it hands over is that reply
handed_over : (brought : Option Reply) → reply_handed (with_reply brought Nothing) ≡ brought
handed_over (Some reply) = refl
handed_over None = refl

pub reply_in_place : (from : Process) (m : TreeMessage) (done : Done) → reply_handed (handed_by (Hear from m) (Ok done) Nothing) ≡ reply_heard m done
reply_in_place from m (Answered number) = handed_over (reply_in m)
reply_in_place from m (Began number) = refl
reply_in_place from m Acted = refl
reply_in_place from m Unheard = refl
reply_in_place from m Stopped = refl
reply_in_place from m Left = refl

module _ (c : ℕ) (a b : Endpoint) where
  hears : (s s' : TreeStanding) (from : Process) (m : TreeStamped) (done : Done) → can_stand (Client c) s ≡ true
      → ActsAs (Client c) s b s' (Hear from m.1) done → EntersAs (Client c) a b (Hear from m.1) done
      → Heard c a (client_known s) b (client_known s') from m (reply_heard m.1 done)
  hears (AtClient v) s' from m Acted fits acts entered =
      record {
        view = ap client_known acts.left;
        given = no_answer c (client_step v from m.1).2 acts.reported;
        posts = acts.puts;
        entered = subst (λ (l : History). IsEntered a b (stamp_of_endpoint b) (act.Took from outcome.Acted) l) (sym acts.reported) entered;
      }
  hears (AtClient v) s' from m (Answered number) fits acts entered =
      record {
        view = ap client_known acts.left;
        given = one_answer c number (reply_in m.1) (client_step v from m.1).2 acts.comes acts.reported;
        posts = acts.puts;
        entered = subst (λ (l : History). IsEntered a b (stamp_of_endpoint b) (act.Took from outcome.Acted) l) (sym acts.reported) entered;
      }
  hears (AtClient v) s' from m Unheard fits acts entered = never acts.comes
  hears (AtClient v) s' from m Stopped fits acts entered = never acts.comes
  hears (AtClient v) s' from m Left fits acts entered = never acts.comes
  hears (AtClient v) s' from m (Began number) fits acts entered = never acts.comes
  hears (AtMaster v) s' from m done fits acts entered = never fits
  hears (AtServer v) s' from m done fits acts entered = never fits
  hears Out s' from m done fits acts entered = never fits

  begins : (s s' : TreeStanding) (call : Call) (number : ℕ) → can_stand (Client c) s ≡ true
      → ActsAs (Client c) s b s' (Begin call) (Began number) → EntersAs (Client c) a b (Begin call) (Began number)
      → Begins c a (client_known s) b (client_known s') call number
  begins (AtClient v) s' call number fits acts entered =
      let same : (client.begin_step v call).0.number ≡ number = cc acts.reported in
      record { numbered = sym same ∙ begin_number v call; view = ap client_known acts.left; posts = acts.puts; entered = entered }
  begins (AtMaster v) s' call number fits acts entered = never fits
  begins (AtServer v) s' call number fits acts entered = never fits
  begins Out s' call number fits acts entered = never fits

-- of an endpoint that is a client's
module _ (c : ℕ) (a b : Endpoint) (s s' : TreeStanding) (is : process_of a ≡ Client c) (fits : can_stand (process_of a) s ≡ true) where
  fits_client : can_stand (Client c) s ≡ true
  fits_client = subst (λ (p : Process). can_stand p s ≡ true) is fits

  pub client_hears : (from : Process) (m : TreeStamped) (done : Done) → ActsAt a s b s' (Hear from m.1) done → EntersDone a b (Hear from m.1) done
      → Heard c a (client_known s) b (client_known s') from m (reply_heard m.1 done)
  client_hears from m done acts entered =
      hears c a b s s' from m done fits_client (subst (λ (p : Process). ActsAs p s b s' (Hear from m.1) done) is acts)
      (subst (λ (p : Process). EntersAs p a b (Hear from m.1) done) is entered)

  pub client_begins_call : (call : Call) (number : ℕ) → ActsAt a s b s' (Begin call) (Began number) → EntersDone a b (Begin call) (Began number)
      → Begins c a (client_known s) b (client_known s') call number
  client_begins_call call number acts entered =
      begins c a b s s' call number fits_client (subst (λ (p : Process). ActsAs p s b s' (Begin call) (Began number)) is acts)
      (subst (λ (p : Process). EntersAs p a b (Begin call) (Began number)) is entered)
