-- What the tables have of one connection: its stream, and its chunks that are to be sent.
use Rattle.std.proofs.Common.{◌≡◌, ◌≢◌, ◌∙◌, ℕ, Bool, true, false, cond, List, [], ◌∷◌, ◌++◌, Option, None, Some, refl, sym, ap, append_assoc}
use Rattle.std.specs.Prelude.{if◌then◌else◌, nat_eq, ◌||◌}
use Rattle.std.specs.Option.{option_map, option_map_or}
use Rattle.std.specs.Cmp.{nat_cmp_total}
use Rattle.std.specs.FinMap.{get, insert, nat_cmp-IsAntisymmetric}
use Rattle.std.proofs.lemmas.Bool.{eq-eqb, ne_eqb}
use Rattle.std.proofs.lemmas.List.{append-nil}
use Rattle.std.proofs.lemmas.List.Elements.{filter-append}
use Rattle.ztree.proofs.Maps.{get-insert-here, get-insert-elsewhere}
use Rattle.zconnections.specs.declared.buffers.phase.Phase.{Phase}
use Rattle.zconnections.specs.declared.buffers.phase.Phase.TheVariants.{Closing}
use Rattle.zconnections.specs.buffers.Outbox.{ChunkView}
use Rattle.zconnections.specs.buffers.Streams.{StreamView, StreamRows, changed, empty_in, phase_of, with_bytes}
use Rattle.zconnections.specs.Tables.{TablesView, may_send, is_open, chunk, last_chunk, with_chunk, sent, closing, closed}
use Rattle.zconnections.specs.Reporting.{event_frame}
use Rattle.zfront_laws.specs.frames.Talk.{Talk, Quiet, Reports, Answers, Closes, chunks_of, is_closed}
use Rattle.zfront_laws.specs.frames.Laws.{on}

-- a stream, if there is one, and the chunks
abbrev pub View : Type 0
View = Option StreamView × List ChunkView

abbrev pub phase_in : Option StreamView → Option Phase
phase_in o = option_map (λ s. s.phase) o

abbrev pub view : ℕ → TablesView → View
view c t = (get t.streams c, on c t.unsent)

abbrev pub sends : View → Bool
sends w = may_send (phase_in w.0)

-- bytes are sent, the connection is closed, and all that is done on it
abbrev pub added : ℕ → List ℕ → View → View
added c bytes w = if sends w then (w.0, w.1 ++ chunk c bytes ∷ []) else w

abbrev pub shut : ℕ → View → View
shut c w = if sends w then (Some (empty_in Closing), w.1 ++ last_chunk c ∷ []) else w

abbrev pub run : ℕ → Talk → View → View
run c Quiet w = w
run c (Reports event talk) w = run c talk (added c (event_frame event) w)
run c (Answers bytes talk) w = run c talk (added c bytes w)
run c Closes w = shut c w

-- ---- one talk after another

abbrev pub followed : Talk → Talk → Talk
followed Quiet next = next
followed (Reports event talk) next = Reports event (followed talk next)
followed (Answers bytes talk) next = Answers bytes (followed talk next)
followed Closes next = Closes

pub closed-followed : (a b : Talk) → is_closed (followed a b) ≡ (is_closed a || is_closed b)
closed-followed Quiet b = refl
closed-followed (Reports event a) b = closed-followed a b
closed-followed (Answers bytes a) b = closed-followed a b
closed-followed Closes b = refl

pub chunks-followed : (c : ℕ) (a b : Talk) → is_closed a ≡ false → chunks_of c (followed a b) ≡ chunks_of c a ++ chunks_of c b
chunks-followed c Quiet b still = refl
chunks-followed c (Reports event a) b still = ap (λ ps. chunk c (event_frame event) ∷ ps) (chunks-followed c a b still)
chunks-followed c (Answers bytes a) b still = ap (λ ps. chunk c bytes ∷ ps) (chunks-followed c a b still)
chunks-followed c Closes b still = absurd (cc still)

-- ---- a connection that isn't open

added_not : (c : ℕ) (bytes : List ℕ) (w : View) → sends w ≡ false → added c bytes w ≡ w
added_not c bytes w off = ap (λ (b : Bool). if b then (w.0, w.1 ++ chunk c bytes ∷ []) else w) off

shut_not : (c : ℕ) (w : View) → sends w ≡ false → shut c w ≡ w
shut_not c w off = ap (λ (b : Bool). if b then (Some (empty_in Closing), w.1 ++ last_chunk c ∷ []) else w) off

pub run_not : (c : ℕ) (talk : Talk) (w : View) → sends w ≡ false → run c talk w ≡ w
run_not c Quiet w off = refl
run_not c (Reports event talk) w off = ap (run c talk) (added_not c (event_frame event) w off) ∙ run_not c talk w off
run_not c (Answers bytes talk) w off = ap (run c talk) (added_not c bytes w off) ∙ run_not c talk w off
run_not c Closes w off = shut_not c w off

shut_ends : (c : ℕ) (w : View) → sends (shut c w) ≡ false
shut_ends c w = by (sends w) refl
  where
    by : (b : Bool) → sends w ≡ b → sends (if b then (Some (empty_in Closing), w.1 ++ last_chunk c ∷ []) else w) ≡ false
    by true is = refl
    by false is = is

-- ---- one that is

added_open : (c : ℕ) (bytes : List ℕ) (w : View) → sends w ≡ true → added c bytes w ≡ (w.0, w.1 ++ chunk c bytes ∷ [])
added_open c bytes w is_on = ap (λ (b : Bool). if b then (w.0, w.1 ++ chunk c bytes ∷ []) else w) is_on

pub shut_open : (c : ℕ) (w : View) → sends w ≡ true → shut c w ≡ (Some (empty_in Closing), w.1 ++ last_chunk c ∷ [])
shut_open c w is_on = ap (λ (b : Bool). if b then (Some (empty_in Closing), w.1 ++ last_chunk c ∷ []) else w) is_on

added_stream : (c : ℕ) (bytes : List ℕ) (w : View) → (added c bytes w).0 ≡ w.0
added_stream c bytes w = elim (sends w) as (λ b. (if b then (w.0, w.1 ++ chunk c bytes ∷ []) else w).0 ≡ w.0) [
  | true ↦ refl
  | false ↦ refl
]

pub run_then : (c : ℕ) (a b : Talk) (w : View) → run c (followed a b) w ≡ run c b (run c a w)
run_then c Quiet b w = refl
run_then c (Reports event a) b w = run_then c a b (added c (event_frame event) w)
run_then c (Answers bytes a) b w = run_then c a b (added c bytes w)
run_then c Closes b w = sym (run_not c b (shut c w) (shut_ends c w))

-- what isn't closed has its stream unchanged
pub run_stream : (c : ℕ) (talk : Talk) (w : View) → is_closed talk ≡ false → (run c talk w).0 ≡ w.0
run_stream c Quiet w still = refl
run_stream c (Reports event talk) w still = run_stream c talk (added c (event_frame event) w) still ∙ added_stream c (event_frame event) w
run_stream c (Answers bytes talk) w still = run_stream c talk (added c bytes w) still ∙ added_stream c bytes w
run_stream c Closes w still = absurd (cc still)

-- and what is closed sends nothing more
pub run_ends : (c : ℕ) (talk : Talk) (w : View) → is_closed talk ≡ true → sends (run c talk w) ≡ false
run_ends c Quiet w ends = absurd (cc ends)
run_ends c (Reports event talk) w ends = run_ends c talk (added c (event_frame event) w) ends
run_ends c (Answers bytes talk) w ends = run_ends c talk (added c bytes w) ends
run_ends c Closes w ends = shut_ends c w

-- the chunks of a talk on an open connection
module _ (c : ℕ) where
  step_chunks : (talk : Talk) (bytes : List ℕ) (w : View) → sends w ≡ true
      → (sends (added c bytes w) ≡ true → (run c talk (added c bytes w)).1 ≡ (added c bytes w).1 ++ chunks_of c talk)
      → (run c talk (added c bytes w)).1 ≡ w.1 ++ chunk c bytes ∷ chunks_of c talk
  step_chunks talk bytes w is_on more =
      more (ap sends (added_open c bytes w is_on) ∙ is_on) ∙ ap (λ (x : View). x.1 ++ chunks_of c talk) (added_open c bytes w is_on)
      ∙ append_assoc w.1 (chunk c bytes ∷ []) (chunks_of c talk)

  pub run_chunks : (talk : Talk) (w : View) → sends w ≡ true → (run c talk w).1 ≡ w.1 ++ chunks_of c talk
  run_chunks Quiet w is_on = sym (append-nil w.1)
  run_chunks (Reports event talk) w is_on = step_chunks talk (event_frame event) w is_on (run_chunks talk (added c (event_frame event) w))
  run_chunks (Answers bytes talk) w is_on = step_chunks talk bytes w is_on (run_chunks talk (added c bytes w))
  run_chunks Closes w is_on = ap (λ (x : View). x.1) (shut_open c w is_on)

  pub run_closed : (talk : Talk) (w : View) → sends w ≡ true → is_closed talk ≡ true → (run c talk w).0 ≡ Some (empty_in Closing)
  run_closed Quiet w is_on ends = absurd (cc ends)
  run_closed (Reports event talk) w is_on ends =
      run_closed talk (added c (event_frame event) w) (ap sends (added_open c (event_frame event) w is_on) ∙ is_on) ends
  run_closed (Answers bytes talk) w is_on ends = run_closed talk (added c bytes w) (ap sends (added_open c bytes w is_on) ∙ is_on) ends
  run_closed Closes w is_on ends = ap (λ (x : View). x.0) (shut_open c w is_on)

-- ---- chunks of one connection

pub on-both : (c : ℕ) (ps qs : List ChunkView) → on c (ps ++ qs) ≡ on c ps ++ on c qs
on-both c ps qs = filter-append (λ (p : ChunkView). nat_eq p.connection c) ps qs

on-own : (c : ℕ) (p : ChunkView) → p.connection ≡ c → on c (p ∷ []) ≡ p ∷ []
on-own c p is = ap (λ (b : Bool). cond b (p ∷ []) []) (eq-eqb p.connection c is)

on-other : (c : ℕ) (p : ChunkView) → p.connection ≢ c → on c (p ∷ []) ≡ []
on-other c p other = ap (λ (b : Bool). cond b (p ∷ []) []) (ne_eqb p.connection c other)

on-with : (c : ℕ) (ps : List ChunkView) (p : ChunkView) → p.connection ≡ c → on c (ps ++ p ∷ []) ≡ on c ps ++ p ∷ []
on-with c ps p is = on-both c ps (p ∷ []) ∙ ap (λ qs. on c ps ++ qs) (on-own c p is)

on-without : (c : ℕ) (ps : List ChunkView) (p : ChunkView) → p.connection ≢ c → on c (ps ++ p ∷ []) ≡ on c ps
on-without c ps p other = on-both c ps (p ∷ []) ∙ ap (λ qs. on c ps ++ qs) (on-other c p other) ∙ append-nil (on c ps)

-- ---- streams

module _ (to : StreamView → StreamView) (rows : StreamRows) (c : ℕ) where
  pub changed-elsewhere : (d : ℕ) → d ≢ c → get (changed to rows c) d ≡ get rows d
  changed-elsewhere d other = elim (get rows c) as (λ o. get (option_map_or (λ s. insert rows c (to s)) o rows) d ≡ get rows d) [
    | None ↦ refl
    | Some s ↦ get-insert-elsewhere nat_cmp_total nat_cmp-IsAntisymmetric rows c (to s) d other
  ]

  pub changed-here : get (changed to rows c) c ≡ option_map to (get rows c)
  changed-here = by (get rows c) refl
    where
      by : (o : Option StreamView) → get rows c ≡ o → get (option_map_or (λ s. insert rows c (to s)) o rows) c ≡ option_map to o
      by None is = is
      by (Some s) is = get-insert-here nat_cmp_total nat_cmp-IsAntisymmetric rows c (to s)

-- other bytes leave the phase
pub phase_with : (c : ℕ) (rows : StreamRows) (bytes : List ℕ) → phase_of (with_bytes rows c bytes) c ≡ phase_of rows c
phase_with c rows bytes = ap phase_in (changed-here (λ s. record s { bytes = bytes }) rows c) ∙ by (get rows c)
  where
    by : (o : Option StreamView) → phase_in (option_map (λ (s : StreamView). record s { bytes = bytes }) o) ≡ phase_in o
    by None = refl
    by (Some s) = refl

-- ---- what is sent and closed, seen of one connection

pub view-sent : (c : ℕ) (bytes : List ℕ) (t : TablesView) → view c (sent c bytes t) ≡ added c bytes (view c t)
view-sent c bytes t =
    elim (is_open t c) as (λ b. view c (if b then with_chunk (chunk c bytes) t else t)
    ≡ (if b then (get t.streams c, on c t.unsent ++ chunk c bytes ∷ []) else view c t)) [
      | true ↦ ap (λ (ps : List ChunkView). (get t.streams c, ps)) (on-with c t.unsent (chunk c bytes) refl)
      | false ↦ refl
    ]

pub view-sent-elsewhere : (c d : ℕ) (bytes : List ℕ) (t : TablesView) → d ≢ c → view c (sent d bytes t) ≡ view c t
view-sent-elsewhere c d bytes t other =
    elim (is_open t d) as (λ b. view c (if b then with_chunk (chunk d bytes) t else t) ≡ view c t) [
      | true ↦ ap (λ (ps : List ChunkView). (get t.streams c, ps)) (on-without c t.unsent (chunk d bytes) other)
      | false ↦ refl
    ]

there_closed : (o : Option StreamView) → may_send (phase_in o) ≡ true → option_map (λ s. empty_in Closing) o ≡ Some (empty_in Closing)
there_closed None never = absurd (cc never)
there_closed (Some s) is = refl

pub view-closed : (c : ℕ) (t : TablesView) → view c (closed c t) ≡ shut c (view c t)
view-closed c t = by (is_open t c) refl
  where
    by : (b : Bool) → is_open t c ≡ b
        → view c (if b then closing c t else t) ≡ (if b then (Some (empty_in Closing), on c t.unsent ++ last_chunk c ∷ []) else view c t)
    by true is =
        ap (λ (o : Option StreamView). (o, on c (t.unsent ++ last_chunk c ∷ []))) (changed-here (λ s. empty_in Closing) t.streams c
        ∙ there_closed (get t.streams c) is)
        ∙ ap (λ (ps : List ChunkView). (Some (empty_in Closing), ps)) (on-with c t.unsent (last_chunk c) refl)
    by false is = refl

pub view-closed-elsewhere : (c d : ℕ) (t : TablesView) → d ≢ c → view c (closed d t) ≡ view c t
view-closed-elsewhere c d t other =
    elim (is_open t d) as (λ b. view c (if b then closing d t else t) ≡ view c t) [
      | true ↦ ap (λ (o : Option StreamView). (o, on c (t.unsent ++ last_chunk d ∷ [])))
          (changed-elsewhere (λ s. empty_in Closing) t.streams d c (λ is. other (sym is)))
          ∙ ap (λ (ps : List ChunkView). (get t.streams c, ps)) (on-without c t.unsent (last_chunk d) other)
      | false ↦ refl
    ]
