-- What holds of the heads of a chain beside a log world: it is shown, it is sound, what left Sent is
-- committed, and each call fits the log of its head.
use Rattle.std.proofs.Common.{◌≡◌, ℕ, ◌<◌, ◌≤◌, Bool, true, false, List, [], length, take, Some, sym, ap, ◌∙◌, subst}
use Rattle.std.specs.Prelude.{◌&&◌, if◌then◌else◌}
use Rattle.zcalls.specs.declared.call.Call.TheVariants as call
use Rattle.zcalls.specs.declared.call.Entry.{Entry}
use Rattle.zcalls.specs.declared.call.Update.{Update}
use Rattle.zcalls.specs.Cached.{Plain, CachedState}
use Rattle.zcalls.specs.Lists.{Among, ComesBefore}
use Rattle.zcalls.specs.Operation.{Operation}
use Rattle.zprotocol.specs.declared.process.Process.{Process}
use Rattle.zprotocol.specs.declared.process.Process.TheVariants.{Master, Server, Client}
use Rattle.zprotocol.specs.declared.world.event.Event.{Event}
use Rattle.zprotocol.specs.declared.world.event.Event.TheVariants.{Begin, Retry, Take, Ignore, Fail, Order}
use Rattle.zprotocol.specs.server.Machine.{Does, machine_of}
use Rattle.zprotocol.specs.world.History.{History, HasBegun}
use Rattle.zprotocol.specs.world.Events.{happens}
use Rattle.zprotocol.specs.world.Keeping.{keeps}
use Rattle.zlinearizability.specs.legal.Prefix.{IsPrefix}
use Rattle.zlinearizability.specs.chain.Flow.{log_machine, LogWorld, log_at}
use Rattle.zlinearizability.specs.chain.Last.{LastsAreLengths}
use Rattle.zlinearizability.specs.chain.Account.{Account, next_account}
use Rattle.zlinearizability.specs.chain.Sound.{IsSound}
use Rattle.zlinearizability.specs.Cuts.{Stays, cut}
use Rattle.zlinearizability.proofs.legal_lemmas.lists.Prefixes.{prefix_same}
use Rattle.zlinearizability.proofs.chain_lemmas.steps.Cuts.{cut_sound, cut_lasts}
use Rattle.zlinearizability.proofs.Runs.{each_event, next_world, lasts_next}
use Rattle.zheads.specs.Heads.{Note, Seen, Begun, Acknowledged, Heads}
use Rattle.zheads.specs.OneLog.{Fits, IsNoLater}
use Rattle.zheads.proofs.KnownSteps.{IsKnown, known_cut, take_known, hear_known, fail_known, order_known, ignore_known}
use Rattle.zheads.proofs.Shown.{IsInside}
use Rattle.zheads.proofs.Represents.{Represents}
use Rattle.zheads.proofs.Unseen.{begin_event, retry_event, no_request, no_loss, client_event, lost_event}
use Rattle.zheads.proofs.Mirrored.{take_event, fail_event, order_event, ignore_event, cut_shown, take_none}
use Rattle.zheads.proofs.Fits.{updates, prefix_updates, fits_more}
use Rattle.zheads.proofs.Quiet.{IsQuiet, take_quiet, fail_quiet, order_quiet, ignore_quiet}

-- a head was called with this update, at this place
abbrev pub MadeIn : List Seen → ℕ → Update → Type 0
MadeIn seen n u = (note : Note) × Among (Begun note) seen × (note.call ≡ call.Update u) × (note.place ≡ n)

-- each of the history's clients has a number below its length
abbrev pub IsFresh : History → Type 0
IsFresh history = (o : Operation) → HasBegun history o → o.client < length history

abbrev pub IsSilent : LogWorld → Type 0
IsSilent w = (c : ℕ) (to : Process) → w.links (Client c) to ≡ []

-- events in which clients have no part
abbrev pub is_inside : Process → Bool
is_inside (Client c) = false
is_inside p = true

abbrev pub is_mirrored : Event → Bool
is_mirrored (Begin c call) = false
is_mirrored (Retry c) = false
is_mirrored (Take from to) = is_inside from && is_inside to
is_mirrored (Ignore from to) = is_inside from && is_inside to
is_mirrored event = true

module _ {P : Type 0} (plain : Plain P) where
  abbrev pub machine : Does (CachedState P)
  machine = machine_of plain

  -- a call fits the log of its head
  abbrev pub IsNoted : LogWorld → Note → Type 0
  IsNoted w note = (log : List Entry) × (log_at w note.server ≡ Some log) × Fits plain (updates log) note × (note.place ≤ note.need)

  pub record Holds (h : Heads (CachedState P)) (t : Account) : Type 0 where
    pub shows : Represents machine plain h.world t.world
    pub exact : LastsAreLengths t.world
    pub sound : IsSound plain t
    pub known : IsKnown (MadeIn h.seen) t
    pub fresh : IsFresh t.world.history
    pub silent : IsSilent t.world
    pub waiting : (note : Note) → Among note h.waiting → IsNoted t.world note
    pub done : (note : Note) → Among (Acknowledged note) h.seen → Fits plain (updates t.committed) note
    pub in_time : (first second : Note) → ComesBefore (Acknowledged first) (Begun second) h.seen
        → IsNoLater first.place second.place second.call

  pub noted_grown : (v w : LogWorld) → IsQuiet v w → (note : Note) → IsNoted v note → IsNoted w note
  noted_grown v w quiet note (log, has, fits, le) =
      let g = quiet.grown note.server log has in
      (g.0, g.1, fits_more plain (updates log) (updates g.0) note (prefix_updates log g.0 g.2) fits, le)

  -- channels lose their ends
  abbrev pub cut_heads : Heads (CachedState P) → Stays → Heads (CachedState P)
  cut_heads h stays = record h { world = cut stays h.world }

  abbrev pub cut_account : Account → Stays → Account
  cut_account t stays = record t { world = cut stays t.world }

  pub holds_cut : (h : Heads (CachedState P)) (t : Account) → Holds h t → (stays : Stays) → Holds (cut_heads h stays) (cut_account t stays)
  holds_cut h t x stays = record {
    shows = cut_shown machine plain h.world t.world x.shows stays;
    exact = cut_lasts t.world stays x.exact;
    sound = cut_sound plain t x.sound stays;
    known = known_cut (MadeIn h.seen) t stays x.known;
    fresh = x.fresh;
    silent = λ c to. ap (take (stays (Client c) to)) (x.silent c to) ∙ take_none (stays (Client c) to);
    waiting = x.waiting;
    done = x.done;
    in_time = x.in_time;
  }

  -- an event of the chain, in the log world
  abbrev pub mirrored : Account → Event → Account
  mirrored t event = if is_mirrored event then next_account plain t event else t

  -- what holds after an event, where more may be committed
  abbrev pub HoldsAfter : Account → Heads (CachedState P) → Account → Type 0
  HoldsAfter t h later = Holds h later × IsPrefix t.committed later.committed

  module _ (h : Heads (CachedState P)) (t : Account) (x : Holds h t) where
    abbrev after : Event → Heads (CachedState P)
    after event = record h { world = happens machine h.world event }

    -- an event that the log world doesn't have
    others : (event : Event) → Represents machine plain (happens machine h.world event) t.world → HoldsAfter t (after event) t
    others event shows = (
      record {
        shows = shows;
        exact = x.exact;
        sound = x.sound;
        known = x.known;
        fresh = x.fresh;
        silent = x.silent;
        waiting = x.waiting;
        done = x.done;
        in_time = x.in_time;
      },
      prefix_same t.committed,
    )

    -- one that it has
    both : (event : Event) → Represents machine plain (happens machine h.world event) (keeps (log_machine plain) t.world event)
        → IsKnown (MadeIn h.seen) (next_account plain t event) → IsQuiet t.world (keeps (log_machine plain) t.world event)
        → HoldsAfter t (after event) (next_account plain t event)
    both event shows known quiet_kept =
        let later = next_account plain t event in
        let world = next_world plain t event in
        let step = each_event plain event t x.exact x.sound in
        let quiet : IsQuiet t.world later.world = subst (IsQuiet t.world) (sym world) quiet_kept in (
          record {
            shows = subst (Represents machine plain (happens machine h.world event)) (sym world) shows;
            exact = lasts_next plain t event x.exact;
            sound = step.0;
            known = known;
            fresh = subst IsFresh (sym quiet.history) x.fresh;
            silent = quiet.silent x.silent;
            waiting = λ note a. noted_grown t.world later.world quiet note (x.waiting note a);
            done = λ note a. fits_more plain (updates t.committed) (updates later.committed) note
                (prefix_updates t.committed later.committed step.1) (x.done note a);
            in_time = x.in_time;
          },
          step.1,
        )

    lost : (from to : Process) → IsInside from → IsInside to → HoldsAfter t (after (Ignore from to)) (next_account plain t (Ignore from to))
    lost from to i j = both (Ignore from to) (ignore_event machine plain h.world t.world x.shows from to i j)
        (ignore_known plain (MadeIn h.seen) t x.known from to) (ignore_quiet plain t.world from to)

    -- any event of the chain
    pub holds_event : (event : Event) → HoldsAfter t (after event) (mirrored t event)
    holds_event (Begin c b) = others (Begin c b) (begin_event machine plain h.world t.world x.shows c b)
    holds_event (Retry c) = others (Retry c) (retry_event machine plain h.world t.world x.shows c)
    holds_event (Take (Client c) to) = others (Take (Client c) to) (no_request machine plain h.world t.world x.shows c to)
    holds_event (Take Master (Client c)) = others (Take Master (Client c)) (client_event machine plain h.world t.world x.shows Master c)
    holds_event (Take (Server s) (Client c)) = others (Take (Server s) (Client c)) (client_event machine plain h.world t.world x.shows (Server s) c)
    holds_event (Take Master Master) = both (Take Master Master)
        (take_event machine plain h.world t.world x.shows x.exact.views Master Master tt tt)
        (hear_known plain (MadeIn h.seen) t x.known Master) (take_quiet plain t.world Master Master tt)
    holds_event (Take (Server p) Master) = both (Take (Server p) Master)
        (take_event machine plain h.world t.world x.shows x.exact.views (Server p) Master tt tt)
        (hear_known plain (MadeIn h.seen) t x.known (Server p)) (take_quiet plain t.world (Server p) Master tt)
    holds_event (Take Master (Server y)) = both (Take Master (Server y))
        (take_event machine plain h.world t.world x.shows x.exact.views Master (Server y) tt tt)
        (take_known plain (MadeIn h.seen) t x.exact x.sound x.known Master y (λ m a c number u is same. absurd (cc is)))
        (take_quiet plain t.world Master (Server y) tt)
    holds_event (Take (Server p) (Server y)) = both (Take (Server p) (Server y))
        (take_event machine plain h.world t.world x.shows x.exact.views (Server p) (Server y) tt tt)
        (take_known plain (MadeIn h.seen) t x.exact x.sound x.known (Server p) y (λ m a c number u is same. absurd (cc is)))
        (take_quiet plain t.world (Server p) (Server y) tt)
    holds_event (Ignore (Client c) to) = others (Ignore (Client c) to) (no_loss machine plain h.world t.world x.shows c to)
    holds_event (Ignore Master (Client c)) = others (Ignore Master (Client c)) (lost_event machine plain h.world t.world x.shows Master c)
    holds_event (Ignore (Server s) (Client c)) = others (Ignore (Server s) (Client c)) (lost_event machine plain h.world t.world x.shows (Server s) c)
    holds_event (Ignore Master Master) = lost Master Master tt tt
    holds_event (Ignore Master (Server y)) = lost Master (Server y) tt tt
    holds_event (Ignore (Server p) Master) = lost (Server p) Master tt tt
    holds_event (Ignore (Server p) (Server y)) = lost (Server p) (Server y) tt tt
    holds_event (Fail s) = both (Fail s) (fail_event machine plain h.world t.world x.shows s) (fail_known plain (MadeIn h.seen) t x.known s)
        (fail_quiet plain t.world s)
    holds_event (Order order) = both (Order order) (order_event machine plain h.world t.world x.shows order)
        (order_known plain (MadeIn h.seen) t x.known order) (order_quiet plain t.world order)
