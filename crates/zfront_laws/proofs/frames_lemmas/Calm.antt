-- What the tables' changes do on one connection, where they answer no frame of it: events are reported
-- while it speaks, or it is closed.
use Rattle.std.proofs.Common.{◌≡◌, ◌≢◌, ◌⊎◌, inl, inr, ◌∙◌, ℕ, Bool, true, false, ◌||◌, cond, List, [], ◌∷◌, map}
use Rattle.std.proofs.Common.{Option, None, Some, refl, sym, ap, subst, eqb}
use Rattle.std.specs.Prelude.{if◌then◌else◌, is_some}
use Rattle.std.specs.Cmp.{nat_cmp_total}
use Rattle.std.specs.List.{list_any}
use Rattle.std.specs.Ordering.{nat_cmp, eq_by_cmp}
use Rattle.std.specs.FinMap as finite
use Rattle.std.specs.FinMap.{find, from_entries, get-from_entries, contains_key-keys}
use Rattle.std.specs.FinSet.{FinSet, contains, contains-items, insert, items}
use Rattle.std.specs.Option.{option_map_or}
use Rattle.std.proofs.lemmas.Bool.{eqb-true, eq-eqb}
use Rattle.ztree.proofs.Maps.{tied}
use Rattle.std.specs.FinMap.{nat_cmp-IsAntisymmetric}
use Rattle.zcalls.specs.declared.call.Call.{Call}
use Rattle.zcalls.specs.declared.call.Call.TheVariants.{Update, Query}
use Rattle.zcalls.specs.declared.reply.Reply.{Reply}
use Rattle.zjute.specs.declared.request.Asked.{Asked}
use Rattle.zwatches.specs.declared.changes.event.Event.{Event}
use Rattle.zwatches.specs.changes.Events.{events_of}
use Rattle.zconnections.specs.buffers.Streams.{phase_of}
use Rattle.zwatches.specs.Watches.{watch, is_full}
use Rattle.zwatches.specs.Events as watches
use Rattle.zwatches.specs.declared.kind.Kind.{Kind}
use Rattle.zwatches.proofs.Worked.{reports_who_waits}
use Rattle.ztree.specs.Tree.{Path}
use Rattle.zconnections.specs.Tables.{TablesView, is_open, chunk, with_chunk, sent, closed, connection_of, moved}
use Rattle.zconnections.specs.Reporting.{event_frame, sent_on, unwatched, in_order, reported, reported_all}
use Rattle.zconnections.specs.Sweeping.{noted, swept, swept_all}
use Rattle.zresponses.specs.effects.Replying.{absorbed, absorbed_all}
use Rattle.zresponses.specs.effects.Watching.{granted_all, waiting}
use Rattle.zresponses.specs.effects.Watching.{unwatched as dropped}
use Rattle.zresponses.specs.effects.Wishes.{wishes}
use Rattle.zfront_laws.proofs.Seated.{same_number}
use Rattle.zfront_laws.proofs.Cached.{noted_alike}
use Rattle.zresponses.proofs.effects_lemmas.Granting.{grants_all}
use Rattle.zfront_laws.specs.frames.Talk.{Talk, Quiet, Reports, Answers, Closes, is_closed}
use Rattle.zfront_laws.proofs.frames_lemmas.Views.{View, view, phase_in, run, followed, run_then, run_stream, view-sent}
use Rattle.zfront_laws.proofs.frames_lemmas.Views.{view-sent-elsewhere, view-closed, view-closed-elsewhere}
use Rattle.zfront_laws.proofs.frames_lemmas.Free.{speaks, Free, free-unwatched, free-dropped, free-waiting, free-closed, free-sent, free-attachments, free-forgotten}

-- no answer; and events, if it speaks
abbrev pub IsCalm : Bool → Talk → Type 0
IsCalm speaking Quiet = Unit {0}
IsCalm speaking (Reports event talk) = (speaking ≡ true) × IsCalm speaking talk
IsCalm speaking (Answers bytes talk) = ⊥
IsCalm speaking Closes = Unit {0}

abbrev pub Talked : ℕ → Bool → TablesView → TablesView → Type 0
Talked c speaking old new = (talk : Talk) × IsCalm speaking talk × (view c new ≡ run c talk (view c old))

abbrev pub Calm : ℕ → TablesView → TablesView → Type 0
Calm c old new = Free c old → Talked c (speaks (phase_of old.streams c)) old new × Free c new

calm-followed : (speaking : Bool) (a b : Talk) → IsCalm speaking a → (is_closed a ≡ false → IsCalm speaking b) → IsCalm speaking (followed a b)
calm-followed speaking Quiet b one two = two refl
calm-followed speaking (Reports event a) b one two = (one.0, calm-followed speaking a b one.1 two)
calm-followed speaking (Answers bytes a) b one two = absurd one
calm-followed speaking Closes b one two = tt

talked_both : (c : ℕ) (speaking : Bool) (old middle new : TablesView) (one : Talked c speaking old middle)
    → (is_closed one.0 ≡ false → (two : Talk) × IsCalm speaking two × (view c new ≡ run c two (view c middle)))
    → (is_closed one.0 ≡ true → (two : Talk) × (view c new ≡ run c two (view c middle))) → Talked c speaking old new
talked_both c speaking old middle new one is_on shut = by (is_closed one.0) refl
  where
    by : (b : Bool) → is_closed one.0 ≡ b → Talked c speaking old new
    by true is =
        let two = shut is in (
          followed one.0 two.0,
          calm-followed speaking one.0 two.0 one.1 (λ still. let clash : true ≡ false = sym is ∙ still in absurd (cc clash)),
          two.1 ∙ ap (run c two.0) one.2 ∙ sym (run_then c one.0 two.0 (view c old)),
        )
    by false is =
        let two = is_on is in (
          followed one.0 two.0,
          calm-followed speaking one.0 two.0 one.1 (λ still. two.1),
          two.2 ∙ ap (run c two.0) one.2 ∙ sym (run_then c one.0 two.0 (view c old)),
        )

-- a talk that isn't closed leaves the stream
pub same_stream : (c : ℕ) (old new : TablesView) (talk : Talk) → is_closed talk ≡ false → view c new ≡ run c talk (view c old)
    → finite.get new.streams c ≡ finite.get old.streams c
same_stream c old new talk still is = ap (λ (w : View). w.0) is ∙ run_stream c talk (view c old) still

-- what is sent and reported leaves the streams
sent_streams : (d : ℕ) (bytes : List ℕ) (t : TablesView) → (sent d bytes t).streams ≡ t.streams
sent_streams d bytes t = elim (is_open t d) as (λ b. (if b then with_chunk (chunk d bytes) t else t).streams ≡ t.streams) [
  | true ↦ refl
  | false ↦ refl
]

sent_on_streams : (ds bytes : List ℕ) (t : TablesView) → (sent_on ds bytes t).streams ≡ t.streams
sent_on_streams [] bytes t = refl
sent_on_streams (d ∷ ds) bytes t = sent_on_streams ds bytes (sent d bytes t) ∙ sent_streams d bytes t

reported_all_streams : (es : List Event) (t : TablesView) → (reported_all es t).streams ≡ t.streams
reported_all_streams [] t = refl
reported_all_streams (e ∷ es) t =
    reported_all_streams es (reported e t) ∙ sent_on_streams (in_order (watches.reported t.watches e.kind e.path)) (event_frame e) (unwatched e t)

absorbed_streams : (call : Call) (reply : Reply) (t : TablesView) → (absorbed call reply t).streams ≡ t.streams
absorbed_streams (Update update) reply t = reported_all_streams (events_of update reply) (record t { attachments = noted update reply t.attachments })
absorbed_streams (Query query) reply t = refl

pub absorbed_all_streams : (calls : List Call) (replies : List Reply) (t : TablesView) → (absorbed_all calls replies t).streams ≡ t.streams
absorbed_all_streams [] replies t = refl
absorbed_all_streams (call ∷ calls) [] t = refl
absorbed_all_streams (call ∷ calls) (reply ∷ replies) t =
    absorbed_all_streams calls replies (absorbed call reply t) ∙ absorbed_streams call reply t

module _ (c : ℕ) where
  pub same : (t : TablesView) → Calm c t t
  same t free = ((Quiet, tt, refl), free)

  -- nothing is different of the connection
  pub alike : (old new : TablesView) → view c new ≡ view c old → (Free c old → Free c new) → Calm c old new
  alike old new is keeps free = ((Quiet, tt, is), keeps free)

  pub both : (old middle new : TablesView) → Calm c old middle → Calm c middle new → Calm c old new
  both old middle new one two free =
      let first = one free in
      let next = two first.1 in (
        talked_both c (speaks (phase_of old.streams c)) old middle new first.0
            (λ still. (
              next.0.0,
              subst (λ o. IsCalm (speaks (phase_in o)) next.0.0) (same_stream c old middle first.0.0 still first.0.2) next.0.1,
              next.0.2,
            ))
            (λ ends. (next.0.0, next.0.2)),
        next.1,
      )

  -- ---- close and send

  pub closes : (d : ℕ) (t : TablesView) → Calm c t (closed d t)
  closes d t free = (near (same_number d c), free-closed c d t free)
    where
      near : (d ≡ c) ⊎ (d ≢ c) → Talked c (speaks (phase_of t.streams c)) t (closed d t)
      near (inl same) = (Closes, tt, ap (λ x. view c (closed x t)) same ∙ view-closed c t)
      near (inr other) = (Quiet, tt, view-closed-elsewhere c d t other)

  pub sends_elsewhere : (d : ℕ) (bytes : List ℕ) (t : TablesView) → d ≢ c → Calm c t (sent d bytes t)
  sends_elsewhere d bytes t other = alike t (sent d bytes t) (view-sent-elsewhere c d bytes t other) (free-sent c d bytes t)

  -- an event
  event_talk : (speaking : Bool) (e : Event) (d : ℕ) (t : TablesView) → (d ≡ c → speaking ≡ true) → (d ≡ c) ⊎ (d ≢ c)
      → Talked c speaking t (sent d (event_frame e) t)
  event_talk speaking e d t own (inl same) = (
    Reports e Quiet,
    (own same, tt),
    ap (λ x. view c (sent x (event_frame e) t)) same
        ∙ view-sent c (event_frame e) t,
  )
  event_talk speaking e d t own (inr other) = (Quiet, tt, view-sent-elsewhere c d (event_frame e) t other)

  event_sent : (e : Event) (d : ℕ) (t : TablesView) → (d ≡ c → speaks (phase_of t.streams c) ≡ true) → Calm c t (sent d (event_frame e) t)
  event_sent e d t own free = (event_talk (speaks (phase_of t.streams c)) e d t own (same_number d c), free-sent c d (event_frame e) t free)

  among : (d : ℕ) (ds : List ℕ) → d ≡ c → list_any (λ x. eqb x c) (d ∷ ds) ≡ true
  among d ds is = ap (λ b. b || list_any (λ x. eqb x c) ds) (eq-eqb d c is)

  or_true : (a b : Bool) → b ≡ true → (a || b) ≡ true
  or_true true b is = refl
  or_true false b is = is

  sent_on_talk : (speaking : Bool) (e : Event) (ds : List ℕ) (t : TablesView) → (list_any (λ x. eqb x c) ds ≡ true → speaking ≡ true)
      → Talked c speaking t (sent_on ds (event_frame e) t)
  sent_on_talk speaking e [] t own = (Quiet, tt, refl)
  sent_on_talk speaking e (d ∷ ds) t own =
      let first = event_talk speaking e d t (λ is. own (among d ds is)) (same_number d c) in
      let rest = sent_on_talk speaking e ds (sent d (event_frame e) t) (λ there. own (or_true (eqb d c) (list_any (λ x. eqb x c) ds) there)) in
      talked_both c speaking t (sent d (event_frame e) t) (sent_on ds (event_frame e) (sent d (event_frame e) t)) first
      (λ still. rest) (λ ends. (rest.0, rest.2))

  free_sent_on : (ds bytes : List ℕ) (t : TablesView) → Free c t → Free c (sent_on ds bytes t)
  free_sent_on [] bytes t free = free
  free_sent_on (d ∷ ds) bytes t free = free_sent_on ds bytes (sent d bytes t) (free-sent c d bytes t free)

  -- who is notified has a watch
  listed_by : (x : ℕ) (b : Bool) (rest : Option (Unit {0})) → is_some (cond b (Some tt) rest) ≡ (b || is_some rest)
  listed_by x true rest = refl
  listed_by x false rest = refl

  marked_there : (xs : List ℕ) → is_some (find nat_cmp c (map (λ x. (x, tt {0})) xs)) ≡ list_any (eq_by_cmp nat_cmp c) xs
  marked_there [] = refl
  marked_there (x ∷ xs) =
      listed_by x (eq_by_cmp nat_cmp c x) (find nat_cmp c (map (λ x. (x, tt {0})) xs)) ∙ ap (λ b. eq_by_cmp nat_cmp c x || b) (marked_there xs)

  tied_any : (xs : List ℕ) → list_any (λ x. eqb x c) xs ≡ true → list_any (eq_by_cmp nat_cmp c) xs ≡ true
  tied_any [] none = absurd (cc none)
  tied_any (x ∷ xs) there = by (eqb x c) refl there (tied_any xs)
    where
      by : (b : Bool) → eqb x c ≡ b → (b || list_any (λ x. eqb x c) xs) ≡ true
          → (list_any (λ x. eqb x c) xs ≡ true → list_any (eq_by_cmp nat_cmp c) xs ≡ true)
          → (eq_by_cmp nat_cmp c x || list_any (eq_by_cmp nat_cmp c) xs) ≡ true
      by true is _ others =
          ap (λ b. b || list_any (eq_by_cmp nat_cmp c) xs)
          (ap (eq_by_cmp nat_cmp c) (eqb-true x c is) ∙ tied nat_cmp_total nat_cmp-IsAntisymmetric c)
      by false is more others = or_true (eq_by_cmp nat_cmp c x) (list_any (eq_by_cmp nat_cmp c) xs) (others more)

  ordered_there : (set : FinSet nat_cmp) → list_any (λ x. eqb x c) (in_order set) ≡ true → contains set c ≡ true
  ordered_there set there =
      let marks = map (λ x. (x, tt {0})) (items set) in
      contains-items set c
      ∙ sym (marked_there (items set))
      ∙ ap is_some (sym (get-from_entries nat_cmp_total marks c))
      ∙ contains_key-keys (from_entries {R = nat_cmp} marks) c
      ∙ tied_any (in_order set) there

  reports : (e : Event) (t : TablesView) → Calm c t (reported e t)
  reports e t free = (
    sent_on_talk (speaks (phase_of t.streams c)) e (in_order (watches.reported t.watches e.kind e.path)) (unwatched e t)
        (λ there.
        let fired = (reports_who_waits t.watches e.kind e.path c).0 (ordered_there (watches.reported t.watches e.kind e.path) there) in
        free.watch fired.0 fired.1.0 fired.1.2),
    free_sent_on (in_order (watches.reported t.watches e.kind e.path)) (event_frame e) (unwatched e t) (free-unwatched c e t free),
  )

  pub reports_all : (es : List Event) (t : TablesView) → Calm c t (reported_all es t)
  reports_all [] t = same t
  reports_all (e ∷ es) t = both t (reported e t) (reported_all es (reported e t)) (reports e t) (reports_all es (reported e t))

  -- ---- calls that were answered

  absorbs : (call : Call) (reply : Reply) (t : TablesView) → Calm c t (absorbed call reply t)
  absorbs (Update update) reply t =
      let u = record t { attachments = noted update reply t.attachments } in
      both t u (reported_all (events_of update reply) u)
      (alike t u refl (free-attachments c t (noted update reply t.attachments) (noted_alike update reply t.attachments).0))
      (reports_all (events_of update reply) u)
  absorbs (Query query) reply t = same t

  pub absorbs_all : (calls : List Call) (replies : List Reply) (t : TablesView) → Calm c t (absorbed_all calls replies t)
  absorbs_all [] replies t = same t
  absorbs_all (call ∷ calls) [] t = same t
  absorbs_all (call ∷ calls) (reply ∷ replies) t =
      both t (absorbed call reply t) (absorbed_all calls replies (absorbed call reply t)) (absorbs call reply t)
      (absorbs_all calls replies (absorbed call reply t))

  -- ---- sessions that are gone

  pub moves : (session : ℕ) (t : TablesView) → Calm c t (moved session t)
  moves session t = elim (connection_of t.attachments session) as (λ o. Calm c t (option_map_or (λ d. closed d t) o t)) [
    | None ↦ same t
    | Some d ↦ closes d t
  ]

  sweeps : (session : ℕ) (t : TablesView) → Calm c t (swept session t)
  sweeps session t = both t (moved session t) (swept session t) (moves session t)
      (alike (moved session t) (swept session t) refl (free-forgotten c session (moved session t)))

  pub sweeps_all : (sessions : List ℕ) (t : TablesView) → Calm c t (swept_all sessions t)
  sweeps_all [] t = same t
  sweeps_all (session ∷ sessions) t =
      both t (swept session t) (swept_all sessions (swept session t)) (sweeps session t) (sweeps_all sessions (swept session t))

  -- ---- watches that are asked for, by a connection that speaks where it is this one

  abbrev Granting : ℕ → TablesView → TablesView → Type 0
  Granting d t u = (d ≡ c → speaks (phase_of t.streams c) ≡ true) → Calm c t u × (u.streams ≡ t.streams)

  granting_both : (d : ℕ) (t u w : TablesView) → Granting d t u → Granting d u w → Granting d t w
  granting_both d t u w one two own =
      let first = one own in
      let next = two (λ is. ap (λ rows. speaks (phase_of rows c)) first.1 ∙ own is) in
      (both t u w first.0 next.0, next.1 ∙ first.1)

  waits : (d : ℕ) (kind : Kind) (path : Path) (t : TablesView) → Granting d t (waiting d kind path t)
  waits d kind path t own =
      let u = record t { watches = insert t.watches (watch path kind d) } in
      elim (is_full t.limits t.watches (watch path kind d)) as (λ b. Calm c t (if b then t else u) × ((if b then t else u).streams ≡ t.streams)) [
        | true ↦ (same t, refl)
        | false ↦ (alike t u refl (free-waiting c d kind path t own), refl)
      ]

  pub grants : (d : ℕ) (asks : Asked) (calls : List Call) (replies : List Reply) (t : TablesView) → (d ≡ c → speaks (phase_of t.streams c) ≡ true)
      → Calm c t (granted_all d (wishes asks calls replies) t)
  grants d asks calls replies t own =
      (grants_all (Granting d) (λ u none. (same u, refl)) (granting_both d) d (waits d)
      (λ e u mine. (event_sent e d u mine, sent_streams d (event_frame e) u))
      (λ type path u mine. (alike u (dropped d type path u) refl (free-dropped c d type path u), refl))
      (wishes asks calls replies) t own).0
