-- The events of clients: a call is sent again, and a message is taken.
use Rattle.std.proofs.Common.{◌≡◌, ℕ, ◌≤◌, Bool, true, false, if◌then◌else◌, nat_lt, ◌==◌, List, [], ◌∷◌, ◌++◌, length}
use Rattle.std.proofs.Common.{Option, Some, None, refl, sym, ap, ◌∙◌, subst, inl, inr, eqb-true, eq-eqb, arith}
use Rattle.zcalls.specs.declared.call.Call.{Call}
use Rattle.zcalls.specs.declared.call.Entry.{Entry}
use Rattle.zcalls.specs.declared.reply.Reply.{Reply}
use Rattle.zcalls.specs.Lists.{Among}
use Rattle.zcalls.specs.Operation.{Operation}
use Rattle.zcalls.specs.Cached.{Plain}
use Rattle.zcalls.proofs.Among.{test}
use Rattle.zprotocol.specs.declared.message.Message.TheVariants as message
use Rattle.zprotocol.specs.declared.process.Process.{Process}
use Rattle.zprotocol.specs.declared.process.Process.TheVariants.{Master, Server, Client}
use Rattle.zprotocol.specs.server.View.{Transfer, Post}
use Rattle.zprotocol.specs.client.View.{ClientView}
use Rattle.zprotocol.specs.client.Table as client
use Rattle.zprotocol.specs.declared.world.history.CallEvent.{CallEvent}
use Rattle.zprotocol.specs.declared.world.history.CallEvent.TheVariants.{Begin, Answer}
use Rattle.zprotocol.specs.world.History.{History, HasBegun}
use Rattle.zprotocol.specs.world.Does.{client_effect}
use Rattle.zprotocol.specs.world.Events.{did_in}
use Rattle.zlinearizability.specs.legal.Items.{IsGiven, IsSameEvent}
use Rattle.zlinearizability.proofs.legal_lemmas.lists.Members.{among_left, among_last}
use Rattle.zlinearizability.proofs.legal_lemmas.lists.Distinct.{no_two_last}
use Rattle.zlinearizability.specs.chain.Flow.{LogMessage}
use Rattle.zlinearizability.specs.chain.Messages.{IsJustified}
use Rattle.zlinearizability.specs.chain.Account.{Account}
use Rattle.zlinearizability.specs.chain.Sound.{IsSound}
use Rattle.zlinearizability.proofs.chain_lemmas.links.Links.{at_cases}
use Rattle.zlinearizability.proofs.clients_lemmas.ClientSteps.{with_client, AreGoodCalls, client_sound, in_time_later, answered_later, send_justified}

-- A client whose number and outstanding call stay sends the call again.
module _ {P : Type 0} (plain : Plain P) (t : Account) (s : IsSound plain t) (c : ℕ) (view : ClientView)
    (number : view.number ≡ (t.world.clients c).number) (outstanding : view.outstanding ≡ (t.world.clients c).outstanding) where
  again_calls : (posts : List (Post (List Entry))) → AreGoodCalls t.world t.items (with_client t.world c view posts t.world.history)
  again_calls posts = record {
    more = λ o a. a;
    in_time = s.in_time;
    answered = s.answered;
    once = s.once;
    numbered = λ o a. at_cases (λ (v : ClientView). o.number ≤ v.number) c view t.world.clients o.client
        (λ e. let low : o.number ≤ (t.world.clients c).number = subst (λ d. o.number ≤ (t.world.clients d).number) e (s.numbered o a)
        in omega (arith, number))
        (λ f. s.numbered o a);
    waits = λ d m of is. at_cases (λ (v : ClientView). v.outstanding ≡ Some (m, of)
        → HasBegun t.world.history (record { client = d; number = m; call = of }) × ((r : Reply) → Among (Answer d m r) t.world.history → ⊥))
        c view t.world.clients d
        (λ e is'. s.waits d m of (ap (λ x. (t.world.clients x).outstanding) e ∙ sym outstanding ∙ is')) (λ f is'. s.waits d m of is') is;
  }

  -- all facts hold after it
  pub again_sound : IsSound plain (record t { world = with_client t.world c view (client.outstanding_posts view) t.world.history })
  again_sound = client_sound plain t s c view (client.outstanding_posts view) t.world.history (again_calls (client.outstanding_posts view))
      (send_justified (with_client t.world c view (client.outstanding_posts view) t.world.history) t.items c view
      (λ n of is. (s.waits c n of (sym outstanding ∙ is)).0))

-- The answer to the outstanding call is taken.
module _ {P : Type 0} (plain : Plain P) (t : Account) (s : IsSound plain t) (c n : ℕ) (of : Call) (r : Reply)
    (waits : (t.world.clients c).outstanding ≡ Some (n, of)) (given : IsGiven t.items c n r) where
  abbrev view : ClientView
  view = record (t.world.clients c) { outstanding = None }

  abbrev ended : History
  ended = t.world.history ++ Answer c n r ∷ []

  begun_old : (o : Operation) → HasBegun ended o → HasBegun t.world.history o
  begun_old o a = elim (among_last _ t.world.history _ a) [ inl b ↦ b | inr e ↦ absurd (cc e) ]

  fresh : (x : CallEvent) → Among x t.world.history → IsSameEvent x (Answer c n r) → ⊥
  fresh (Begin d m other) a same = same
  fresh (Answer d m r') a same = (s.waits c n of waits).1 r' (subst (λ x. Among (Answer x n r') t.world.history) same.0
      (subst (λ x. Among (Answer d x r') t.world.history) same.1 a))

  answer_calls : (posts : List (Post (List Entry))) → AreGoodCalls t.world t.items (with_client t.world c view posts ended)
  answer_calls posts = record {
    more = λ o a. among_left _ t.world.history _ a;
    in_time = in_time_later t.world.history (Answer c n r) t.items s.in_time;
    answered = answered_later t.items 0 t.world.history (Answer c n r) s.answered
        (λ k is. let low : given.0.time ≤ length t.world.history = (s.in_time given.0 given.1).0 in (given.0, given.1, given.2, omega (arith, is)));
    once = no_two_last IsSameEvent t.world.history (Answer c n r) fresh s.once;
    numbered = λ o a. at_cases (λ (v : ClientView). o.number ≤ v.number) c view t.world.clients o.client
        (λ e. subst (λ d. o.number ≤ (t.world.clients d).number) e (s.numbered o (begun_old o a))) (λ f. s.numbered o (begun_old o a));
    waits = λ d m of' is. at_cases (λ (v : ClientView). v.outstanding ≡ Some (m, of')
        → HasBegun ended (record { client = d; number = m; call = of' }) × ((r' : Reply) → Among (Answer d m r') ended → ⊥)) c view t.world.clients d
        (λ e is'. absurd (let h : ◌≡◌ {A = Option (ℕ × Call)} None (Some (m, of')) = is' in cc h))
        (λ f is'. let was = s.waits d m of' is' in (
          among_left _ t.world.history _ was.0,
          λ r' a. elim (among_last _ t.world.history _ a) [
            | inl b ↦ was.1 r' b
            | inr e ↦ let same : c ≡ d = cc e in let t : (d == c) ≡ true = eq-eqb d c (sym same) in cc (f, t)
          ],
        )) is;
  }

  -- all facts hold after it
  pub answer_sound : IsSound plain (record t { world = with_client t.world c view [] ended })
  answer_sound = client_sound plain t s c view [] ended (answer_calls []) (λ post a. absurd a)

-- what a client does with a message
module _ {P : Type 0} (plain : Plain P) (t : Account) (s : IsSound plain t) (c : ℕ) where
  abbrev after : client.ClientResult (Transfer (List Entry)) → Account
  after did = record t { world = did_in t.world (Client c) (client_effect c did) }

  unchanged : IsSound plain (after (client.no_effect (t.world.clients c)))
  unchanged = client_sound plain t s c (t.world.clients c) [] t.world.history (again_calls plain t s c (t.world.clients c) refl refl [])
      (λ post a. absurd a)

  answer_by : (number : ℕ) (reply : Reply) → IsGiven t.items c number reply → (o : Option (ℕ × Call)) → (t.world.clients c).outstanding ≡ o
      → IsSound plain (after (if elim o as (λ x. Bool) [ None ↦ false | Some waits ↦ waits.0 == number ]
      then (record (t.world.clients c) { outstanding = None }, [], Some (number, reply)) else client.no_effect (t.world.clients c)))
  answer_by number reply given None is = unchanged
  answer_by number reply given (Some waits) is = elim (test (waits.0 == number)) [
    | inl e ↦ rw e (let same : waits.0 ≡ number = eqb-true _ _ e in
        answer_sound plain t s c number waits.1 reply (is ∙ (λ i. Some (same i, waits.1))) given)
    | inr f ↦ rw f unchanged
  ]

  answer_taken : (number : ℕ) (reply : Reply) → IsGiven t.items c number reply
      → IsSound plain (after (client.answer_row (t.world.clients c) number reply))
  unfolding client.answer_row
  answer_taken number reply given = answer_by number reply given (t.world.clients c).outstanding refl

  config_taken : (epoch : ℕ) (head tail : Option ℕ) → IsSound plain (after (client.config_row (t.world.clients c) epoch head tail))
  unfolding client.config_row
  config_taken epoch head tail = elim (test (nat_lt (t.world.clients c).epoch epoch)) [
    | inl e ↦ rw e (again_sound plain t s c (record (t.world.clients c) { epoch = epoch; head = head; tail = tail }) refl refl)
    | inr f ↦ rw f unchanged
  ]

  -- all that a client may hear
  pub message_taken : (from : Process) (m : LogMessage) → IsJustified t.world t.items from (Client c) m
      → IsSound plain (after (client.client_step (t.world.clients c) from m))
  unfolding client.client_step
  message_taken (Server p) (message.Answer number reply) justified = answer_taken number reply justified
  message_taken Master (message.Config epoch head tail) justified = config_taken epoch head tail
  message_taken from m justified = unchanged
