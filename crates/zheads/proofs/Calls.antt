-- A call at a head: what holds of the heads still does.
use Rattle.std.specs.Prelude.{is_none, if◌then◌else◌}
use Rattle.std.proofs.Common.{◌≡◌, ℕ, ◌+◌, ◌≤◌, Bool, true, false, List, [], ◌∷◌, ◌++◌, map, length, Option, Some, None, refl, sym, ap, ◌∙◌, subst, inl, inr, arith, append-nil}
use Rattle.std.proofs.lemmas.List.{map-append}
use Rattle.zcalls.specs.declared.call.Call.TheVariants as call
use Rattle.zcalls.specs.declared.call.Entry.{Entry}
use Rattle.zcalls.specs.declared.call.Query.{Query}
use Rattle.zcalls.specs.declared.call.Update.{Update}
use Rattle.zcalls.specs.Cached.{Plain, CachedState}
use Rattle.zcalls.specs.Lists.{Among, ComesBefore}
use Rattle.zprotocol.specs.declared.message.Message.TheVariants as message
use Rattle.zprotocol.specs.declared.process.Process.{Process}
use Rattle.zprotocol.specs.declared.process.Process.TheVariants.{Master, Server, Client}
use Rattle.zprotocol.specs.declared.world.event.Event.{Event}
use Rattle.zprotocol.specs.declared.world.event.Event.TheVariants.{Take}
use Rattle.zprotocol.specs.server.Machine.{Does, machine_of}
use Rattle.zprotocol.specs.server.View.{ServerView, Neighbour}
use Rattle.zprotocol.specs.server.Table as server
use Rattle.zprotocol.specs.world.World.{World}
use Rattle.zprotocol.specs.world.Does.{Hear, server_effect}
use Rattle.zprotocol.specs.world.Events.{did_in, does_in, let_go}
use Rattle.zprotocol.proofs.world_lemmas.Orders.{Stand, stand}
use Rattle.zlinearizability.specs.legal.Prefix.{IsPrefix}
use Rattle.zlinearizability.specs.chain.Flow.{log_machine, LogWorld, LogMessage, Log, log_at, length_of, or_else, first_snapshot_by}
use Rattle.zlinearizability.specs.chain.Account.{Account}
use Rattle.zlinearizability.proofs.legal_lemmas.lists.Members.{among_left, among_mid, among_last}
use Rattle.zlinearizability.proofs.chain_lemmas.links.Links.{at_same}
use Rattle.zlinearizability.proofs.chain_lemmas.places.Pairs.{log_member}
use Rattle.zlinearizability.proofs.Runs.{each_event, lasts_next}
use Rattle.zheads.specs.Heads.{Note, Seen, Begun, Acknowledged, Heads, head_machine, update_input, update_note, query_note, begun}
use Rattle.zheads.specs.OneLog.{Fits, IsNoLater}
use Rattle.zheads.proofs.KnownSteps.{IsKnown, known_more, take_known, prefix_length}
use Rattle.zheads.proofs.Shown.{IsInside, machine_after, shown_machine, shown_view, shown, IsShown, submit_shown}
use Rattle.zheads.proofs.Represents.{Represents, is_out, let_go_shown, server_did}
use Rattle.zheads.proofs.Fits.{updates, prefix_updates, updates_length, fits_more, place_in, state_is, reply_is}
use Rattle.zheads.proofs.Quiet.{IsQuiet, quiet_server}
use Rattle.zheads.proofs.Holds.{MadeIn, IsFresh, IsNoted, Holds, HoldsAfter, noted_grown}
use Rattle.zheads.proofs.Appended.{fresh_client, called, appended, entry_of_call, called_sound, called_exact, called_known, link_is, taken, taken_silent, taken_fresh, world_is, appended_log}

-- a head, by its own view
head_by : {M : Type 0} (out : Bool) (pred : Option Neighbour) (own : Option M) (m : M)
    → (if out then None else if is_none pred then own else None) ≡ Some m → (out ≡ false) × (pred ≡ None) × (own ≡ Some m)
head_by {M} true pred own m is = absurd (let no : ◌≡◌ {A = Option M} None (Some m) = is in cc no)
head_by false None own m is = (refl, refl, is)
head_by {M} false (Some pred) own m is = absurd (let no : ◌≡◌ {A = Option M} None (Some m) = is in cc no)

-- more is seen
among_more : {A : Type 0} (x y : A) (xs : List A) → Among x xs → Among x (xs ++ y ∷ [])
among_more x y xs a = among_left x xs (y ∷ []) a

pub made_more : (seen more : List Seen) (n : ℕ) (u : Update) → MadeIn seen n u → MadeIn (seen ++ more) n u
made_more seen more n u (note, a, is, at) = (note, among_left (Begun note) seen more a, is, at)

pub begun_is_not_acknowledged : (a b : Note) → Begun a ≡ Acknowledged b → ⊥
begun_is_not_acknowledged a b is = cc

module _ {P : Type 0} (plain : Plain P) where
  abbrev own : Does (CachedState P)
  own = machine_of plain

  -- a head's log
  record IsHead (w : World (CachedState P)) (v : LogWorld) (s : ℕ) (m : CachedState P) : Type 0 where
    pub live : v.failed s ≡ false
    pub view : w.servers s ≡ shown_view own (v.servers s)
    pub log : List Entry
    pub has : (v.servers s).machine ≡ Some log
    pub state : machine_after own log ≡ m
    pub head : (v.servers s).pred ≡ None
    pub last : (w.servers s).last ≡ length log

  log_by : (l : Log) (m : CachedState P) → shown_machine own l ≡ Some m → (log : List Entry) × (l ≡ Some log) × (machine_after own log ≡ m)
  log_by None m is = absurd (let no : ◌≡◌ {A = Option (CachedState P)} None (Some m) = is in cc no)
  log_by (Some log) m is = (log, refl, (let same : ◌≡◌ {A = Option (CachedState P)} (Some (machine_after own log)) (Some m) = is in cc same))

  is_head : (h : Heads (CachedState P)) (t : Account) → Holds plain h t → (s : ℕ) (m : CachedState P) → head_machine h.world s ≡ Some m
      → IsHead h.world t.world s m
  is_head h t x s m is =
      let facts = head_by (h.world.failed s) (h.world.servers s).pred (h.world.servers s).machine m is in
      let live : t.world.failed s ≡ false = sym (x.shows.failed s) ∙ facts.0 in
      let view = x.shows.servers s live in
      let found = log_by (t.world.servers s).machine m (sym (ap (λ (z : ServerView (CachedState P)). z.machine) view) ∙ facts.2) in
      record {
        live = live;
        view = view;
        log = found.0;
        has = found.1;
        state = found.2;
        head = sym (ap (λ (z : ServerView (CachedState P)). z.pred) view) ∙ facts.1;
        last = ap (λ (z : ServerView (CachedState P)). z.last) view ∙ x.exact.views s ∙ ap length_of found.1;
      }

  -- its log has all that is committed
  pub has_committed : (h : Heads (CachedState P)) (t : Account) → Holds plain h t → (s : ℕ) (log : List Entry) → t.world.failed s ≡ false
      → log_at t.world s ≡ Some log → IsPrefix t.committed log
  has_committed h t x s log live has =
      x.sound.committed s log (log_member t.world x.sound.blank x.sound.live s live log has)
      (ap (λ l. or_else l (first_snapshot_by t.world s (t.world.servers s).pred)) has)

  -- a call begins after what was acknowledged
  in_time_more : (h : Heads (CachedState P)) (t : Account) → Holds plain h t → (note : Note)
      → ((place : ℕ) → place ≤ length t.committed → IsNoLater place note.place note.call)
      → (first second : Note) → ComesBefore (Acknowledged first) (Begun second) (h.seen ++ Begun note ∷ [])
      → IsNoLater first.place second.place second.call
  in_time_more h t x note later first second before = elim (stand (Acknowledged first) (Begun second) h.seen (Begun note ∷ []) before) [
    | Stand.InFirst b ↦ x.in_time first second b
    | Stand.InEach a b ↦ elim b [
      | inl is ↦
          let same : note ≡ second = cc is in
          let size : length (updates t.committed) ≡ length t.committed = updates_length t.committed in
          let low : first.place ≤ length (updates t.committed) = place_in plain (updates t.committed) first (x.done first a) in
          subst (λ (n : Note). IsNoLater first.place n.place n.call) same (later first.place (omega arith))
      | inr none ↦ absurd none
    ]
    | Stand.InSecond b ↦ elim b [ inl p ↦ absurd p.1 | inr none ↦ absurd none ]
  ]

  done_more : (h : Heads (CachedState P)) (t later : Account) → Holds plain h t → (note : Note) → IsPrefix t.committed later.committed
      → (other : Note) → Among (Acknowledged other) (h.seen ++ Begun note ∷ []) → Fits plain (updates later.committed) other
  done_more h t later x note begins other a = elim (among_last (Acknowledged other) h.seen (Begun note) a) [
    | inl old ↦ fits_more plain (updates t.committed) (updates later.committed) other (prefix_updates t.committed later.committed begins) (x.done other old)
    | inr is ↦ absurd (begun_is_not_acknowledged note other is)
  ]

  -- a query at a head
  pub holds_look : (h : Heads (CachedState P)) (t : Account) → Holds plain h t → (s : ℕ) (m : CachedState P) (q : Query) → head_machine h.world s ≡ Some m
      → Holds plain (begun (query_note own s (h.world.servers s) m q) h) t
  holds_look h t x s m q is =
      let f = is_head h t x s m is in
      let note : Note = query_note own s (h.world.servers s) m q in
      let last : (h.world.servers s).last ≡ length f.log = f.last in
      let begins = has_committed h t x s f.log f.live f.has in
      let long : length t.committed ≤ length f.log = prefix_length t.committed f.log begins in
      let new : IsNoted plain t.world note = (
        f.log,
        f.has,
        (
          updates f.log,
          [],
          sym (append-nil (updates f.log)),
          last ∙ sym (updates_length f.log),
          (λ i. Some (plain.ask (sym f.state i).plain q)) ∙ ap (λ p. Some (plain.ask p q)) (state_is plain f.log),
        ),
        omega arith,
      ) in
      record {
        shows = x.shows;
        exact = x.exact;
        sound = x.sound;
        known = known_more (MadeIn h.seen) (MadeIn (h.seen ++ Begun note ∷ [])) t (made_more h.seen (Begun note ∷ [])) x.known;
        fresh = x.fresh;
        silent = x.silent;
        waiting = λ other a. elim (among_last other h.waiting note a)
            [ inl old ↦ x.waiting other old | inr same ↦ subst (IsNoted plain t.world) same new ];
        done = done_more h t t x note ([], sym (append-nil t.committed));
        in_time = in_time_more h t x note (λ place low. omega arith);
      }

  appended_shown : (v : ServerView (List Entry)) (c : ℕ) (u : Update) → v.last ≡ length_of v.machine
      → IsShown own (server.server_step own (shown_view own v) (Client 0) (message.Submit (v.last + 1) u))
      (server.server_step (log_machine plain) v (Client c) (message.Submit 1 u))
  unfolding server.server_step
  appended_shown v c u exact = submit_shown own plain v.machine v.last v.sent v.pred v.succ c u exact

  -- an update at a head
  module _ (h : Heads (CachedState P)) (t : Account) (x : Holds plain h t) (s : ℕ) (m : CachedState P) (u : Update)
      (is : head_machine h.world s ≡ Some m) (room : server.has_room (h.world.servers s) ≡ true) where
    abbrev note : Note
    note = update_note own s (h.world.servers s) m u

    abbrev seen : List Seen
    seen = h.seen ++ Begun note ∷ []

    abbrev c : ℕ
    c = fresh_client t

    abbrev e : Entry
    e = entry_of_call t u

    abbrev later : Account
    later = appended plain t s u

    abbrev gone_on : LogWorld
    gone_on = taken plain t s u x.fresh x.silent

    facts : IsHead h.world t.world s m
    facts = is_head h t x s m is

    world : later.world ≡ does_in (log_machine plain) gone_on (Server s) (Hear (Client c) (message.Submit 1 u))
    world = world_is plain t s u x.fresh x.silent facts.live

    quiet : IsQuiet gone_on later.world
    quiet = subst (IsQuiet gone_on) (sym world) (quiet_server plain gone_on (Client c) s (message.Submit 1 u))

    base : Represents own plain h.world gone_on
    base = record {
      master = x.shows.master;
      failed = x.shows.failed;
      servers = x.shows.servers;
      links = links;
      requests = x.shows.requests;
      idle = x.shows.idle;
      alone = x.shows.alone;
    }
      where
        links : (p q : Process) → IsInside p → IsInside q → is_out t.world.failed q ≡ false → h.world.links p q ≡ map (shown own) (gone_on.links p q)
        links Master q i j live = x.shows.links Master q i j live
        links (Server y) q i j live = x.shows.links (Server y) q i j live
        links (Client d) q i j live = absurd i

    shows : Represents own plain (let_go (does_in own h.world (Server s) (update_input (h.world.servers s) u))) later.world
    shows =
        let log : server.ServerResult (List Entry) = server.server_step (log_machine plain) (t.world.servers s) (Client c) (message.Submit 1 u) in
        let did : server.ServerResult (CachedState P) =
        server.server_step own (h.world.servers s) (Client 0) (message.Submit ((h.world.servers s).last + 1) u) in
        let same : IsShown own did log =
        subst (λ (z : ServerView (CachedState P)). IsShown own (server.server_step own z (Client 0) (message.Submit (z.last + 1) u)) log) (sym facts.view)
        (appended_shown (t.world.servers s) c u (x.exact.views s)) in
        subst (Represents own plain (let_go (did_in h.world (Server s) (server_effect did)))) (sym world)
        (let_go_shown own plain (did_in h.world (Server s) (server_effect did)) (did_in gone_on (Server s) (server_effect log))
        (server_did own plain h.world gone_on base s did log same))

    submitted : (m : LogMessage) → Among m ((called t s u).world.links (Client c) (Server s)) → (d number : ℕ) (v : Update) → Client c ≡ Client d
        → m ≡ message.Submit number v → MadeIn seen ((t.world.servers s).last + 1) v
    submitted k a d number v same is_submit =
        let b : Among k (message.Submit 1 u ∷ []) = subst (Among k) (link_is plain t s u x.fresh x.silent) a in
        let asked : message.Submit 1 u ≡ k = elim b [ inl y ↦ y | inr none ↦ absurd none ] in
        let both : message.Submit 1 u ≡ message.Submit number v = asked ∙ is_submit in
        let update : u ≡ v = cc both in
        (note, among_mid (Begun note) h.seen [], ap call.Update update, ap (λ (z : ServerView (CachedState P)). z.last + 1) facts.view)

    new : IsNoted plain later.world note
    new =
        let log = facts.log in
        let last : (h.world.servers s).last ≡ length log = facts.last in
        let view : server.has_room (t.world.servers s) ≡ true = sym (ap (λ (z : ServerView (CachedState P)). server.has_room z) facts.view) ∙ room in
        let did : server.ServerResult (List Entry) = server.server_step (log_machine plain) (t.world.servers s) (Client c) (message.Submit 1 u) in (
          log ++ e ∷ [],
          ap (λ (w : LogWorld). log_at w s) world ∙ ap (λ (z : ServerView (List Entry)). z.machine) (at_same s did.0 gone_on.servers)
              ∙ appended_log plain (t.world.servers s) c u log facts.has facts.head view,
          (
            updates log,
            ([], map-append (λ (d : Entry). d.update) log (e ∷ []), ap (λ n. n + 1) (last ∙ sym (updates_length log))),
            (λ i. (own.apply (sym facts.state i) (record { client = 0; number = last i + 1; update = u })).1) ∙ reply_is plain log e,
          ),
          omega arith,
        )

    pub holds_append : HoldsAfter plain t
        (begun note (record h { world = let_go (does_in own h.world (Server s) (update_input (h.world.servers s) u)) })) later
    holds_append =
        let start = called t s u in
        let event : Event = Take (Client c) (Server s) in
        let exact = called_exact plain t s u x.fresh x.silent x.exact in
        let sound = called_sound plain t s u x.fresh x.silent x.sound in
        let known : IsKnown (MadeIn seen) start = called_known plain t s u x.fresh x.silent (MadeIn seen)
        (known_more (MadeIn h.seen) (MadeIn seen) t (made_more h.seen (Begun note ∷ [])) x.known) in
        let step = each_event plain event start exact sound in
        let last : (h.world.servers s).last ≡ length facts.log = facts.last in
        let long : length t.committed ≤ length facts.log =
        prefix_length t.committed facts.log (has_committed h t x s facts.log facts.live facts.has) in (
          record {
            shows = shows;
            exact = lasts_next plain start event exact;
            sound = step.0;
            known = take_known plain (MadeIn seen) start exact sound known (Client c) s submitted;
            fresh = subst IsFresh (sym quiet.history) (taken_fresh plain t s u x.fresh x.silent);
            silent = quiet.silent (taken_silent plain t s u x.fresh x.silent);
            waiting = λ other a. elim (among_last other h.waiting note a) [
              | inl old ↦ noted_grown plain gone_on later.world quiet other (x.waiting other old)
              | inr same ↦ subst (IsNoted plain later.world) same new
            ];
            done = done_more h t later x note step.1;
            in_time = in_time_more h t x note (λ place low. omega arith);
          },
          step.1,
        )
