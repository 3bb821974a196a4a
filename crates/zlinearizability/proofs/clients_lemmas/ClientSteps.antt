-- A client does something: it has a new view, puts requests of calls that began, and the history
-- continues.
use Rattle.std.proofs.Common.{◌≡◌, ◌⊎◌, ℕ, zero, suc, ◌+◌, ◌≤◌, true, ◌==◌, List, [], ◌∷◌, ◌++◌, length, length-append}
use Rattle.std.proofs.Common.{take, Option, Some, None, refl, sym, ap, subst, inl, inr, eq-eqb, arith}
use Rattle.zcalls.specs.declared.call.Call.{Call}
use Rattle.zcalls.specs.declared.call.Call.TheVariants as call
use Rattle.zcalls.specs.declared.call.Entry.{Entry}
use Rattle.zcalls.specs.declared.reply.Reply.{Reply}
use Rattle.zcalls.specs.Lists.{Among}
use Rattle.zcalls.specs.Operation.{Operation}
use Rattle.zcalls.specs.Cached.{Plain}
use Rattle.zprotocol.specs.declared.message.Message.TheVariants as message
use Rattle.zprotocol.specs.declared.process.Process.TheVariants.{Server, Client}
use Rattle.zprotocol.specs.server.View.{Transfer, Post}
use Rattle.zprotocol.specs.client.View.{ClientView}
use Rattle.zprotocol.specs.client.Table as client
use Rattle.zprotocol.specs.declared.world.history.CallEvent.{CallEvent}
use Rattle.zprotocol.specs.declared.world.history.CallEvent.TheVariants.{Begin, Answer}
use Rattle.zprotocol.specs.world.History.{History, HasBegun}
use Rattle.zprotocol.specs.world.Links.{put}
use Rattle.zprotocol.specs.world.World.{at}
use Rattle.zlinearizability.specs.legal.Items.{Item, IsAnsweredBy, AreBegunInTime, AreAnsweredInTime, IsSameEvent, EventsDiffer, AreNumbered}
use Rattle.zlinearizability.proofs.legal_lemmas.lists.Members.{among_left, among_right, among_last, among_take}
use Rattle.zlinearizability.proofs.legal_lemmas.lists.Distinct.{no_two_last}
use Rattle.zlinearizability.proofs.legal_lemmas.order.LegalOrders.{given}
use Rattle.zlinearizability.specs.chain.Flow.{LogWorld, LogMessage}
use Rattle.zlinearizability.specs.chain.Chain.{IsAhead}
use Rattle.zlinearizability.specs.chain.Messages.{IsJustified}
use Rattle.zlinearizability.specs.chain.Account.{Account}
use Rattle.zlinearizability.specs.chain.Sound.{IsSound, WaitsAreOpen}
use Rattle.zlinearizability.proofs.chain_lemmas.links.Links.{put_among, at_cases}
use Rattle.zlinearizability.proofs.chain_lemmas.links.LaterWorlds.{justified_later}

-- the world after a client has a new view, put messages, and the history is this
abbrev pub with_client : LogWorld → ℕ → ClientView → List (Post (List Entry)) → History → LogWorld
with_client w c view posts history = record w { clients = at c view w.clients; links = put w.links (Client c) posts; history = history }

-- what is shown of the history then
pub record AreGoodCalls (w : LogWorld) (items : List Item) (later : LogWorld) : Type 0 where
  pub more : (o : Operation) → HasBegun w.history o → HasBegun later.history o
  pub in_time : AreBegunInTime later.history items
  pub answered : AreAnsweredInTime items 0 later.history
  pub once : EventsDiffer later.history
  pub numbered : AreNumbered later.clients later.history
  pub waits : WaitsAreOpen later

module _ {P : Type 0} (plain : Plain P) (t : Account) (s : IsSound plain t) (c : ℕ) (view : ClientView) (posts : List
    (Post (List Entry))) (history : History) where
  abbrev w : LogWorld
  w = t.world

  abbrev later : LogWorld
  later = with_client t.world c view posts history

  ahead_later : (x : ℕ) (log : List Entry) → IsAhead w x log → IsAhead later x log
  ahead_later x log h = record { own = h.own; holds = h.holds; begins = h.begins; has_successor = h.has_successor; no_tail_order = h.no_tail_order }

  -- all facts hold after a client's step
  pub client_sound : AreGoodCalls w t.items later
      → ((post : Post (List Entry)) → Among post posts → IsJustified later t.items (Client c) post.0 post.1)
      → IsSound plain (record t { world = later })
  client_sound calls new = record {
    distinct = s.distinct;
    used = s.used;
    blank = s.blank;
    live = s.live;
    line = s.line;
    successors = s.successors;
    epochs = s.epochs;
    tail_orders = s.tail_orders;
    ordered = λ x y before log is. ahead_later x log (s.ordered x y before log is);
    committed = s.committed;
    tail = s.tail;
    sent = s.sent;
    begun = λ x log is e a. calls.more _ (s.begun x log is e a);
    committed_begun = λ e a. calls.more _ (s.committed_begun e a);
    justified = λ from to m a. elim (put_among w.links (Client c) posts from to m a) [
      | inl old ↦ justified_later w later t.items t.items
          (record { begun = calls.more; given = λ i b. b; opened = λ z k h. h; failed = λ z h. h }) from to m (s.justified from to m old)
      | inr put ↦ subst (λ p. IsJustified later t.items p to m) (sym put.0) (new (to, m) put.1)
    ];
    acted = s.acted;
    replays = s.replays;
    rising = s.rising;
    in_time = calls.in_time;
    answered = calls.answered;
    once = calls.once;
    numbered = calls.numbered;
    waits = calls.waits;
  }

-- a history with one more event
among_take_more : (n : ℕ) (h : History) (e x : CallEvent) → Among x (take n h) → Among x (take n (h ++ e ∷ []))
among_take_more zero h e x a = absurd a
among_take_more (suc n) [] e x a = absurd a
among_take_more (suc n) (y ∷ h) e x (inl f) = inl f
among_take_more (suc n) (y ∷ h) e x (inr a) = inr (among_take_more n h e x a)

-- items stay later than the beginnings of their calls
pub in_time_later : (h : History) (e : CallEvent) (items : List Item) → AreBegunInTime h items → AreBegunInTime (h ++ e ∷ []) items
in_time_later h e items in_time i a =
    let old = in_time i a in
    let low : i.time ≤ length h = old.0 in
    let long : length (h ++ e ∷ []) ≡ length h + length (e ∷ []) = length-append h (e ∷ []) in
    (omega arith, among_take_more i.time h e (Begin i.operation.client i.operation.number i.operation.call) old.1)

-- answers stay in time, where the new event is
pub answered_later : (items : List Item) (k : ℕ) (h : History) (e : CallEvent) → AreAnsweredInTime items k h
    → ((n : ℕ) → length h + k ≡ n → IsAnsweredBy items n e) → AreAnsweredInTime items k (h ++ e ∷ [])
answered_later items k [] e h last = (last k (omega arith), tt)
answered_later items k (x ∷ more) e h last = (h.0, answered_later items (k + 1) more e h.1 (λ n is. last n (omega (arith, is))))

-- the number of an event's call
answered_call : {P : Type 0} (plain : Plain P) (t : Account) → IsSound plain t → (c n : ℕ) (r : Reply)
    → Among (Answer c n r) t.world.history → n ≤ (t.world.clients c).number
answered_call plain t s c n r a =
    let m = given t.items 0 t.world.history s.answered c n r a in
    let begun = among_take m.0.time t.world.history _ (s.in_time m.0 m.1).1 in
    let low : m.0.operation.number ≤ (t.world.clients m.0.operation.client).number = s.numbered m.0.operation begun in
    let number : m.0.operation.number ≡ n = m.2.1 in
    subst (λ d. n ≤ (t.world.clients d).number) m.2.0 (omega arith)

-- A call begins.
module _ {P : Type 0} (plain : Plain P) (t : Account) (s : IsSound plain t) (c : ℕ) (new : Call) where
  abbrev old : ClientView
  old = t.world.clients c

  abbrev n : ℕ
  n = (t.world.clients c).number + 1

  abbrev view : ClientView
  view = record (t.world.clients c) { number = (t.world.clients c).number + 1; outstanding = Some ((t.world.clients c).number + 1, new) }

  abbrev begun : History
  begun = t.world.history ++ Begin c ((t.world.clients c).number + 1) new ∷ []

  -- no event is of the new number
  fresh : (x : CallEvent) → Among x t.world.history → IsSameEvent x (Begin c n new) → ⊥
  fresh (Begin d m other) a same =
      let low : m ≤ (t.world.clients d).number = s.numbered (record { client = d; number = m; call = other }) a in
      let mine : m ≤ (t.world.clients c).number = subst (λ e. m ≤ (t.world.clients e).number) same.0 low in
      let is : m ≡ (t.world.clients c).number + 1 = same.1 in
      omega arith
  fresh (Answer d m r) a same = same

  begun_last : (o : Operation) → HasBegun begun o → HasBegun t.world.history o ⊎ ((c ≡ o.client) × (n ≡ o.number) × (new ≡ o.call))
  begun_last o a = elim (among_last _ t.world.history _ a) [ inl b ↦ inl b | inr e ↦ inr (cc e, cc e, cc e) ]

  answer_old : (d m : ℕ) (r : Reply) → Among (Answer d m r) begun → Among (Answer d m r) t.world.history
  answer_old d m r a = elim (among_last _ t.world.history _ a) [ inl b ↦ b | inr e ↦ absurd (cc e) ]

  -- the calls of the history after a beginning
  pub begin_calls : (posts : List (Post (List Entry))) → AreGoodCalls t.world t.items (with_client t.world c view posts begun)
  begin_calls posts = record {
    more = λ o a. among_left _ t.world.history _ a;
    in_time = in_time_later t.world.history (Begin c n new) t.items s.in_time;
    answered = answered_later t.items 0 t.world.history (Begin c n new) s.answered (λ k is. tt);
    once = no_two_last IsSameEvent t.world.history (Begin c n new) fresh s.once;
    numbered = λ o a. elim (begun_last o a) [
      | inl b ↦ at_cases (λ (v : ClientView). o.number ≤ v.number) c view t.world.clients o.client
          (λ e. let low : o.number ≤ (t.world.clients c).number = subst (λ d. o.number ≤ (t.world.clients d).number) e
          (s.numbered o b) in omega arith)
          (λ f. s.numbered o b)
      | inr p ↦ at_cases (λ (v : ClientView). o.number ≤ v.number) c view t.world.clients o.client
          (λ e. let is : n ≡ o.number = p.1 in omega arith)
          (λ f. absurd (let t : (o.client == c) ≡ true = eq-eqb o.client c (sym p.0) in cc (f, t)))
    ];
    waits = λ d m call is. at_cases (λ (v : ClientView). v.outstanding ≡ Some (m, call)
        → HasBegun begun (record { client = d; number = m; call = call }) × ((r : Reply) → Among (Answer d m r) begun → ⊥)) c view t.world.clients d
        (λ e is'. let pair : ◌≡◌ {A = ℕ × Call} (n, new) (m, call) = cc is' in (
          among_right _ t.world.history _ (inl (λ i. Begin (sym e i) (pair i).0 (pair i).1)),
          λ r a. let low : m ≤ (t.world.clients d).number = answered_call plain t s d m r (answer_old d m r a) in
              let mine : m ≤ (t.world.clients c).number = subst (λ x. m ≤ (t.world.clients x).number) e low in
              let is_n : n ≡ m = ap (λ (x : ℕ × Call). x.0) pair in omega arith,
        ))
        (λ f is'. let was = s.waits d m call is' in (among_left _ t.world.history _ was.0, λ r a. was.1 r (answer_old d m r a))) is;
  }

-- requests of a call that began
module _ (w : LogWorld) (items : List Item) (c : ℕ) where
  to_justified : (server : Option ℕ) (m : LogMessage) → ((s : ℕ) → IsJustified w items (Client c) (Server s) m)
      → (post : Post (List Entry)) → Among post (client.to_server server m)
      → IsJustified w items (Client c) post.0 post.1
  to_justified None m h post a = absurd a
  to_justified (Some s) m h post (inl e) = subst (λ (q : Post (List Entry)). IsJustified w items (Client c) q.0 q.1) e (h s)
  to_justified (Some s) m h post (inr a) = absurd a

  sent_justified : (head tail : Option ℕ) (number : ℕ) (of : Call) → HasBegun w.history (record { client = c; number = number; call = of })
      → (post : Post (List Entry)) → Among post (client.call_posts head tail number of) → IsJustified w items (Client c) post.0 post.1
  sent_justified head tail number (call.Update update) h post a = to_justified head (message.Submit number update) (λ s. h) post a
  sent_justified head tail number (call.Query query) h post a = to_justified tail (message.Query number query) (λ s. h) post a

  -- what a client sends is justified where its call has begun
  pub send_justified : (v : ClientView) → ((n : ℕ) (of : Call) → v.outstanding ≡ Some (n, of)
      → HasBegun w.history (record { client = c; number = n; call = of }))
      → (post : Post (List Entry)) → Among post (client.outstanding_posts v) → IsJustified w items (Client c) post.0 post.1
  send_justified v h post a = by v.outstanding h a
    where
      by : (o : Option (ℕ × Call)) → ((n : ℕ) (of : Call) → o ≡ Some (n, of) → HasBegun w.history (record { client = c; number = n; call = of }))
          → Among post (elim o as (λ x. List (Post (List Entry))) [ None ↦ [] | Some waits ↦ client.call_posts v.head v.tail waits.0 waits.1 ])
          → IsJustified w items (Client c) post.0 post.1
      by None h a = absurd a
      by (Some waits) h a = sent_justified v.head v.tail waits.0 waits.1 (h waits.0 waits.1 refl) post a

-- the event Begin
pub begin_sound : {P : Type 0} (plain : Plain P) (t : Account) → IsSound plain t → (c : ℕ) (new : Call)
    → IsSound plain (record t {
      world = with_client t.world c (client.begin_step {T = Transfer (List Entry)} (t.world.clients c) new).0
          (client.begin_step (t.world.clients c) new).1
          (t.world.history ++ Begin c (client.begin_step {T = Transfer (List Entry)} (t.world.clients c) new).0.number new ∷ []);
    })
unfolding client.begin_step
begin_sound plain t s c new =
    let v = view plain t s c new in
    let h = begun plain t s c new in
    let calls = begin_calls plain t s c new (client.outstanding_posts v) in
    client_sound plain t s c v (client.outstanding_posts v) h calls
    (send_justified (with_client t.world c v (client.outstanding_posts v) h) t.items c v
    (λ n of is. let pair : ◌≡◌ {A = ℕ × Call} ((t.world.clients c).number + 1, new) (n, of) = cc is in
    among_right _ t.world.history _ (inl (λ i. Begin c (pair i).0 (pair i).1))))
