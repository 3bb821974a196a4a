-- An update at a head, in the log world: it is the only call of a fresh client, whose request is
-- taken at once.
use Rattle.std.specs.Prelude.{◌&&◌, not, if◌then◌else◌}
use Rattle.std.proofs.Common.{◌≡◌, ℕ, ◌+◌, ◌<◌, ◌≤◌, Bool, true, false, nat_lt, ◌==◌, List, [], ◌∷◌, ◌++◌, drop, length, Option, Some, None, refl, ap, ◌∙◌, subst, inl, inr, arith, eq-eqb, length-append, append-nil}
use Rattle.zcalls.specs.declared.call.Call.{Call}
use Rattle.zcalls.specs.declared.call.Call.TheVariants as call
use Rattle.zcalls.specs.declared.call.Entry.{Entry}
use Rattle.zcalls.specs.declared.call.Update.{Update}
use Rattle.zcalls.specs.declared.reply.Reply.{Reply}
use Rattle.zcalls.specs.Cached.{Plain}
use Rattle.zcalls.specs.Lists.{Among}
use Rattle.zcalls.specs.Operation.{Operation}
use Rattle.zprotocol.specs.declared.limits.TheConstants.{MAX_LOG_NUMBER}
use Rattle.zprotocol.specs.declared.message.Message.TheVariants as message
use Rattle.zprotocol.specs.declared.process.Process.{Process}
use Rattle.zprotocol.specs.declared.process.Process.TheVariants.{Master, Server, Client}
use Rattle.zprotocol.specs.declared.world.event.Event.{Event}
use Rattle.zprotocol.specs.declared.world.event.Event.TheVariants.{Take}
use Rattle.zprotocol.specs.declared.world.history.CallEvent.TheVariants.{Begin, Answer}
use Rattle.zprotocol.specs.server.View.{ServerView, Neighbour, Transfer, Post}
use Rattle.zprotocol.specs.server.Table as server
use Rattle.zprotocol.proofs.server_lemmas.Fields.{view_of}
use Rattle.zprotocol.specs.client.View.{ClientView}
use Rattle.zprotocol.specs.client.Table as client
use Rattle.zprotocol.specs.world.History.{HasBegun}
use Rattle.zprotocol.specs.world.Links.{messages_to, put, without_front}
use Rattle.zprotocol.specs.world.World.{at}
use Rattle.zprotocol.specs.world.Does.{server_effect}
use Rattle.zprotocol.specs.world.Events.{front_is, is_enabled, did_in, front_step}
use Rattle.zlinearizability.specs.chain.Flow.{log_machine, LogWorld, LogMessage, Log}
use Rattle.zlinearizability.specs.chain.Last.{LastsAreLengths, IsExact}
use Rattle.zlinearizability.specs.chain.Account.{Account, next_account}
use Rattle.zlinearizability.specs.chain.Sound.{IsSound}
use Rattle.zlinearizability.proofs.legal_lemmas.lists.Members.{among_last}
use Rattle.zlinearizability.proofs.chain_lemmas.links.Links.{put_among, at_cases, at_same}
use Rattle.zlinearizability.proofs.chain_lemmas.links.LaterWorlds.{justified_later}
use Rattle.zlinearizability.proofs.clients_lemmas.ClientSteps.{with_client, begin_sound}
use Rattle.zlinearizability.proofs.Runs.{next_world}
use Rattle.zheads.proofs.Known.{IsKnownMessage}
use Rattle.zheads.proofs.KnownSteps.{IsKnown}
use Rattle.zheads.proofs.Represents.{keeps_does}
use Rattle.zheads.proofs.Holds.{IsFresh, IsSilent}

-- a client that knows this head, and has made no call
abbrev pub front_client : ℕ → ClientView
front_client s = record { number = 0; outstanding = None; epoch = 0; head = Some s; tail = None }

-- the fresh client of a run
abbrev pub fresh_client : Account → ℕ
fresh_client t = length t.world.history

abbrev prepared : Account → ℕ → Account
prepared t s = record t { world = record t.world { clients = at (fresh_client t) (front_client s) t.world.clients } }

abbrev pub request : ℕ → Update → List (Post (List Entry))
request s u = (Server s, message.Submit 1 u) ∷ []

-- its call has begun
abbrev pub called : Account → ℕ → Update → Account
called t s u =
    record t {
      world = record t.world {
        clients = at (fresh_client t) (record (front_client s) { number = 1; outstanding = Some (1, call.Update u) })
            (at (fresh_client t) (front_client s) t.world.clients);
        links = put t.world.links (Client (fresh_client t)) (request s u);
        history = t.world.history ++ Begin (fresh_client t) 1 (call.Update u) ∷ [];
      };
    }

-- the request is taken
abbrev pub appended : {P : Type 0} → Plain P → Account → ℕ → Update → Account
appended plain t s u = next_account plain (called t s u) (Take (Client (fresh_client t)) (Server s))

abbrev pub entry_of_call : Account → Update → Entry
entry_of_call t u = record { client = fresh_client t; number = 1; update = u }

module _ {P : Type 0} (plain : Plain P) (t : Account) (s : ℕ) (u : Update) (fresh : IsFresh t.world.history) (silent : IsSilent t.world) where
  abbrev c : ℕ
  c = fresh_client t

  -- the client's number isn't used
  not_begun : (o : Operation) → HasBegun t.world.history o → o.client ≡ c → ⊥
  not_begun o begun same = let low : o.client < c = fresh o begun in omega arith

  prepared_sound : IsSound plain t → IsSound plain (prepared t s)
  prepared_sound x = record {
    distinct = x.distinct;
    used = x.used;
    blank = x.blank;
    live = x.live;
    line = x.line;
    successors = x.successors;
    epochs = x.epochs;
    tail_orders = x.tail_orders;
    ordered = λ a b before log is. let h = x.ordered a b before log is in
        record { own = h.own; holds = h.holds; begins = h.begins; has_successor = h.has_successor; no_tail_order = h.no_tail_order };
    committed = x.committed;
    tail = x.tail;
    sent = x.sent;
    begun = x.begun;
    committed_begun = x.committed_begun;
    justified = λ p q m a. justified_later t.world (prepared t s).world t.items t.items
        (record { begun = λ o h. h; given = λ i h. h; opened = λ z k h. h; failed = λ z h. h }) p q m (x.justified p q m a);
    acted = x.acted;
    replays = x.replays;
    rising = x.rising;
    in_time = x.in_time;
    answered = x.answered;
    once = x.once;
    numbered = λ o begun. at_cases (λ v. o.number ≤ v.number) c (front_client s) t.world.clients o.client
        (λ e. absurd (not_begun o begun e)) (λ f. x.numbered o begun);
    waits = λ d n b is. at_cases
        (λ v. v.outstanding ≡ Some (n, b) → HasBegun t.world.history (record { client = d; number = n; call = b })
        × ((reply : Reply) → Among (Answer d n reply) t.world.history → ⊥)) c (front_client s) t.world.clients d
        (λ e none. absurd (let no : ◌≡◌ {A = Option (ℕ × Call)} None (Some (n, b)) = none in cc no)) (λ f has. x.waits d n b has) is;
  }

  abbrev begun_by : ClientView → Account
  begun_by v =
      record (prepared t s) {
        world = with_client (prepared t s).world c (client.begin_step {T = Transfer (List Entry)} v (call.Update u)).0
            (client.begin_step v (call.Update u)).1
            (t.world.history ++ Begin c (client.begin_step {T = Transfer (List Entry)} v (call.Update u)).0.number (call.Update u) ∷ []);
      }

  pub called_sound : IsSound plain t → IsSound plain (called t s u)
  unfolding client.begin_step
  called_sound x = subst (λ v. IsSound plain (begun_by v)) (at_same c (front_client s) t.world.clients)
      (begin_sound plain (prepared t s) (prepared_sound x) c (call.Update u))

  -- what is in flight was, or is the request
  in_flight : (p q : Process) (m : LogMessage) → Among m ((called t s u).world.links p q)
      → (Q : LogMessage → Type 0) → (Among m (t.world.links p q) → Q m) → Q (message.Submit 1 u) → Q m
  in_flight p q m a Q old new = elim (put_among t.world.links (Client c) (request s u) p q m a) [
    | inl b ↦ old b
    | inr b ↦ elim b.1 [
      | inl e ↦ subst (λ (post : Post (List Entry)). Q post.1) e new
      | inr none ↦ absurd none
    ]
  ]

  pub called_exact : LastsAreLengths t.world → LastsAreLengths (called t s u).world
  called_exact h = record { views = h.views; under_way = λ p q m a. in_flight p q m a IsExact (h.under_way p q m) tt }

  pub called_known : (IsMade : ℕ → Update → Type 0) → IsKnown IsMade t → IsKnown IsMade (called t s u)
  called_known IsMade k = record {
    views = k.views;
    in_flight = λ p q m a. in_flight p q m a (IsKnownMessage IsMade (length t.committed)) (k.in_flight p q m) tt;
    committed = k.committed;
  }

  -- the only message of the client is its request
  pub link_is : (called t s u).world.links (Client c) (Server s) ≡ message.Submit 1 u ∷ []
  link_is =
      ap (λ b. if b then t.world.links (Client c) (Server s) ++ messages_to (Server s) (request s u) else t.world.links (Client c) (Server s)) (eq-eqb c c refl)
      ∙ ap (λ l. l ++ messages_to (Server s) (request s u)) (silent c (Server s))
      ∙ ap (λ b. if b then message.Submit 1 u ∷ [] else []) (eq-eqb s s refl)

  -- the world without it
  abbrev pub taken : LogWorld
  taken = record (called t s u).world { links = without_front (called t s u).world.links (Client c) (Server s) }

  quiet_if : (b e : Bool) (l : List LogMessage) (m : LogMessage) → l ≡ []
      → (if b && e then drop 1 (if b then l ++ (if e then m ∷ [] else []) else l) else if b then l ++ (if e then m ∷ [] else []) else l) ≡ []
  quiet_if true true l m is = ap (λ k. drop 1 (k ++ m ∷ [])) is
  quiet_if true false l m is = append-nil l ∙ is
  quiet_if false e l m is = is

  pub taken_silent : IsSilent taken
  taken_silent d Master = quiet_if (d == c) false (t.world.links (Client d) Master) (message.Submit 1 u) (silent d Master)
  taken_silent d (Server y) = quiet_if (d == c) (y == s) (t.world.links (Client d) (Server y)) (message.Submit 1 u) (silent d (Server y))
  taken_silent d (Client e) = quiet_if (d == c) false (t.world.links (Client d) (Client e)) (message.Submit 1 u) (silent d (Client e))

  pub taken_fresh : IsFresh taken.history
  taken_fresh o begun =
      let size : length taken.history ≡ length t.world.history + length (Begin c 1 (call.Update u) ∷ []) = length-append t.world.history _ in
      elim (among_last (Begin o.client o.number o.call) t.world.history (Begin c 1 (call.Update u)) begun) [
        | inl old ↦ let low : o.client < length t.world.history = fresh o old in omega arith
        | inr e ↦ let same : c ≡ o.client = one_client c 1 o.client o.number (call.Update u) o.call e in omega arith
      ]
    where
      one_client : (d n e k : ℕ) (a b : Call) → Begin d n a ≡ Begin e k b → d ≡ e
      one_client d n e k a b is = cc

  -- the world after it
  pub world_is : t.world.failed s ≡ false
      → (appended plain t s u).world
      ≡ did_in taken (Server s) (server_effect (server.server_step (log_machine plain) (t.world.servers s) (Client c) (message.Submit 1 u)))
  world_is live =
      let event : Event = Take (Client c) (Server s) in
      let w = (called t s u).world in
      let enabled : is_enabled w event ≡ true = λ i. front_is (λ m. true) (link_is i) && not (live i) in
      next_world plain (called t s u) event ∙ keeps_does (log_machine plain) w event enabled
      ∙ ap (λ l. front_step (log_machine plain) w (Client c) (Server s) l) link_is

-- what an update makes of a head's log
accepted_log : {P : Type 0} (plain : Plain P) (v : ServerView (List Entry)) (log : List Entry) (n : ℕ) (e : Entry)
    → (server.accept_result (log_machine plain) v log n e).0.machine ≡ Some (log ++ e ∷ [])
unfolding server.accept_result
accepted_log plain v log n e = by v.succ
  where
    by : (succ : Option Neighbour) → (server.accept_result (log_machine plain) (view_of v.machine v.last v.sent v.pred succ) log n e).0.machine
        ≡ Some (log ++ e ∷ [])
    by None = refl
    by (Some succ) = refl

submitted_log : {P : Type 0} (plain : Plain P) (own : Log) (last : ℕ) (sent : List (ℕ × Entry)) (pred succ : Option Neighbour) (c : ℕ) (u : Update)
    (log : List Entry) → own ≡ Some log → pred ≡ None → nat_lt last MAX_LOG_NUMBER ≡ true
    → (server.submit_row (log_machine plain) (view_of own last sent pred succ) c 1 u).0.machine
    ≡ Some (log ++ record { client = c; number = 1; update = u } ∷ [])
unfolding server.submit_row
submitted_log plain None last sent pred succ c u log has head room = absurd (let no : ◌≡◌ {A = Log} None (Some log) = has in cc no)
submitted_log plain (Some own) last sent (Some pred) succ c u log has head room =
    absurd (let no : ◌≡◌ {A = Option Neighbour} (Some pred) None = head in cc no)
submitted_log plain (Some own) last sent None succ c u log has head room =
    let e : Entry = record { client = c; number = 1; update = u } in
    let v : ServerView (List Entry) = view_of (Some own) last sent None succ in
    let same : own ≡ log = (let is : ◌≡◌ {A = Log} (Some own) (Some log) = has in cc is) in
    ap (λ b. (if b then server.accept_result (log_machine plain) v own (last + 1) e else server.no_effect v).0.machine) room
    ∙ accepted_log plain v own (last + 1) e ∙ ap (λ l. Some (l ++ e ∷ [])) same

pub appended_log : {P : Type 0} (plain : Plain P) (v : ServerView (List Entry)) (c : ℕ) (u : Update) (log : List Entry) → v.machine ≡ Some log → v.pred ≡ None
    → nat_lt v.last MAX_LOG_NUMBER ≡ true
    → (server.server_step (log_machine plain) v (Client c) (message.Submit 1 u)).0.machine ≡ Some (log ++ record { client = c; number = 1; update = u } ∷ [])
unfolding server.server_step
appended_log plain v c u log has head room = submitted_log plain v.machine v.last v.sent v.pred v.succ c u log has head room
