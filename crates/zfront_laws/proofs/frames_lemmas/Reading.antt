-- What came on a connection, and what was sent on it, as an invariant of its inputs.
use Rattle.std.proofs.Common.{◌≡◌, ◌⊎◌, inl, inr, ◌∙◌, ℕ, Bool, true, false, List, [], ◌∷◌, ◌++◌, Option, None, Some}
use Rattle.std.proofs.Common.{refl, sym, ap, subst, append_assoc, arith}
use Rattle.std.specs.Prelude.{◌||◌, if◌then◌else◌}
use Rattle.std.specs.FinMap as finite
use Rattle.std.specs.Option.{option_map_or}
use Rattle.std.proofs.lemmas.List.{append-nil}
use Rattle.ztree.specs.Tree.{Tree}
use Rattle.zjute.specs.Frames.{IsEnd}
use Rattle.zconnections.specs.declared.buffers.phase.Phase.{Phase}
use Rattle.zconnections.specs.declared.buffers.phase.Phase.TheVariants.{Silent, Speaking, Closing}
use Rattle.zconnections.specs.buffers.Outbox.{ChunkView}
use Rattle.zconnections.specs.buffers.Streams.{StreamView, phase_of}
use Rattle.zresponses.specs.declared.clock.Clock.{Clock}
use Rattle.ztree_service.specs.log.Logs.{Log}
use Rattle.zconnections.specs.Tables.{TablesView, may_send}
use Rattle.zfront.specs.Reading.{Cuts, keeps}
use Rattle.zfront.specs.Words.{word_in}
use Rattle.zfront_laws.specs.frames.Talk.{Talk, Quiet, Reports, Answers, Closes, chunks_of, is_closed, tree_behind, Answered, Greeted, IsTalk}
use Rattle.zfront_laws.specs.frames.Laws.{on}
use Rattle.zfront_laws.proofs.frames_lemmas.Views.{View, view, phase_in, run, followed, closed-followed, chunks-followed, run_not}
use Rattle.zfront_laws.proofs.frames_lemmas.Views.{run_chunks, run_closed, run_stream, shut_open}
use Rattle.zfront_laws.proofs.frames_lemmas.Free.{speaks}
use Rattle.zfront_laws.proofs.frames_lemmas.Calm.{IsCalm}
use Rattle.zfront_laws.proofs.frames_lemmas.Talking.{answered_calm, greeted_both, talk_wider, unworded}
use Rattle.zfront_laws.proofs.frames_lemmas.Greeting.{went}

-- of a connection that is there: what came on it, and what went
abbrev pub Holds : Clock → List ℕ → Tree → ℕ → List ℕ → List ChunkView → Log → Option Phase → List ℕ → Type 0
Holds clock secret start c came went log None bytes = ⊥
Holds clock secret start c came went log (Some Silent) bytes = (came ≡ bytes) × IsEnd bytes × (word_in came ≡ None) × (went ≡ [])
Holds clock secret start c came went log (Some (Speaking session)) bytes =
    (first : List ℕ) × (frames : List (List ℕ)) × (talk : Talk) × Cuts came (first ∷ frames) bytes × IsEnd bytes × (word_in came ≡ None)
    × Greeted clock secret session start log (first ∷ frames) talk × (is_closed talk ≡ false) × (went ≡ chunks_of c talk)
Holds clock secret start c came went log (Some Closing) bytes =
    (frames : List (List ℕ)) × (rest : List ℕ) × (talk : Talk) × Cuts came frames rest × IsTalk clock secret start came log frames talk
    × (is_closed talk ≡ true) × (went ≡ chunks_of c talk)

abbrev pub bytes_in : Option StreamView → List ℕ
bytes_in o = option_map_or (λ s. s.bytes) o []

abbrev pub HoldsAt : Clock → List ℕ → Tree → ℕ → List ℕ → List ChunkView → Log → View → Type 0
HoldsAt clock secret start c came taken log w = Holds clock secret start c came (taken ++ w.1) log (phase_in w.0) (bytes_in w.0)

pair : (w : View) (stream : Option StreamView) (chunks : List ChunkView) → w.0 ≡ stream → w.1 ≡ chunks → w ≡ (stream, chunks)
pair w stream chunks one two = ap (λ o. (o, w.1)) one ∙ ap (λ ps. (stream, ps)) two

-- ---- what was read and answered, before the rest is stored

-- how far the connection is
abbrev pub Stands : ℕ → List (List ℕ) → Talk → Option Phase → Type 0
Stands session frames talk phase =
    ((is_closed talk ≡ true) × (phase ≡ Some Closing))
    ⊎ (((is_closed talk ≡ false) × (phase ≡ Some (Speaking session)) × ((first : List ℕ) × (more : List (List ℕ)) × (frames ≡ first ∷ more)))
    ⊎ ((phase ≡ Some Silent) × (frames ≡ []) × (talk ≡ Quiet)))

pub record Heard (clock : Clock) (secret : List ℕ) (start : Tree) (c : ℕ) (came : List ℕ) (went : List ChunkView) (log : Log) (rest : List ℕ) (phase : Option Phase) : Type 0 where
  pub session : ℕ
  pub frames : List (List ℕ)
  pub talk : Talk
  pub cuts : Cuts came frames rest
  pub word : word_in came ≡ None
  pub greeted : Greeted clock secret session start log frames talk
  pub chunks : went ≡ chunks_of c talk
  pub stands : Stands session frames talk phase

-- the rest is stored: it begins with no whole frame
pub heard_holds : (clock : Clock) (secret : List ℕ) (start : Tree) (c : ℕ) (came : List ℕ) (went : List ChunkView) (log : Log) (rest bytes : List ℕ) (phase : Option Phase)
    → Heard clock secret start c came went log rest phase
    → (may_send phase ≡ true → (bytes ≡ rest) × IsEnd rest) → Holds clock secret start c came went log phase bytes
heard_holds clock secret start c came went log rest bytes phase h keeps = by h.stands
  where
    by : Stands h.session h.frames h.talk phase → Holds clock secret start c came went log phase bytes
    by (inl shut) =
        subst (λ p. Holds clock secret start c came went log p bytes) (sym shut.1)
        (h.frames, rest, h.talk, h.cuts, unworded clock secret start came log h.frames h.talk h.word (h.session, h.greeted), shut.0, h.chunks)
    by (inr (inl is_on)) =
        let keep = keeps (ap may_send is_on.1) in
        subst (λ p. Holds clock secret start c came went log p bytes) (sym is_on.1) (
          is_on.2.0,
          is_on.2.1,
          h.talk,
          subst (λ fs. Cuts came fs bytes) is_on.2.2 (subst (Cuts came h.frames) (sym keep.0) h.cuts),
          subst IsEnd (sym keep.0) keep.1,
          h.word,
          subst (λ fs. Greeted clock secret h.session start log fs h.talk) is_on.2.2 h.greeted,
          is_on.0,
          h.chunks,
        )
    by (inr (inr silent)) =
        let keep = keeps (ap may_send silent.0) in
        subst (λ p. Holds clock secret start c came went log p bytes) (sym silent.0) (
          subst (λ fs. Cuts came fs rest) silent.1 h.cuts ∙ sym keep.0,
          subst IsEnd (sym keep.0) keep.1,
          h.word,
          h.chunks ∙ ap (chunks_of c) silent.2,
        )

-- and a connection that is closed after it
pub heard_closed : (clock : Clock) (secret : List ℕ) (start : Tree) (c : ℕ) (came : List ℕ) (went next : List ChunkView) (log : Log) (rest : List ℕ) (phase : Option Phase)
    → Heard clock secret start c came went log rest phase
    → may_send phase ≡ true → next ≡ went ++ chunks_of c Closes → Heard clock secret start c came next log rest (Some Closing)
heard_closed clock secret start c came went next log rest phase h is_on is = by h.stands
  where
    by : Stands h.session h.frames h.talk phase → Heard clock secret start c came next log rest (Some Closing)
    by (inl shut) =
        let clash : true ≡ false = sym is_on ∙ ap may_send shut.1 in
        absurd (cc clash)
    by (inr (inl speaking)) =
        let reported = subst (λ fs. Greeted clock secret h.session start log fs h.talk) speaking.2.2 h.greeted in record {
          session = h.session;
          frames = speaking.2.0 ∷ (speaking.2.1 ++ []);
          talk = followed h.talk Closes;
          cuts = subst (λ fs. Cuts came fs rest) (speaking.2.2 ∙ ap (λ fs. speaking.2.0 ∷ fs) (sym (append-nil speaking.2.1))) h.cuts;
          word = h.word;
          greeted = subst (λ l. Greeted clock secret h.session start l (speaking.2.0 ∷ (speaking.2.1 ++ [])) (followed h.talk Closes)) (append-nil log)
              (greeted_both clock secret h.session start log [] speaking.2.0 speaking.2.1 [] h.talk Closes reported (omega arith) (λ ends. refl));
          chunks = is ∙ ap (λ ps. ps ++ chunks_of c Closes) h.chunks ∙ sym (chunks-followed c h.talk Closes speaking.0);
          stands = inl (closed-followed h.talk Closes ∙ ap (λ b. b || true) speaking.0, refl);
        }
    by (inr (inr silent)) = record {
      session = h.session;
      frames = [];
      talk = Closes;
      cuts = subst (λ fs. Cuts came fs rest) silent.1 h.cuts;
      word = h.word;
      greeted = omega arith;
      chunks = is ∙ ap (λ ps. ps ++ chunks_of c Closes) (h.chunks ∙ ap (chunks_of c) silent.2);
      stands = inl (refl, refl);
    }

-- frames of a session, after those before
module _ (clock : Clock) (secret : List ℕ) (start : Tree) (c : ℕ) (came all : List ℕ) (before went : List ChunkView) (log more : Log) (session : ℕ) (bytes rest : List ℕ)
    (next : List (List ℕ)) (talk : Talk)
    (new : Option Phase) where
  pub heard_more : Holds clock secret start c came before log (Some (Speaking session)) bytes → ((first : List ℕ) (frames : List (List ℕ))
      → Cuts came (first ∷ frames) bytes → Cuts all (first ∷ (frames ++ next)) rest × (word_in all ≡ word_in came))
      → Answered clock secret session (tree_behind start log) more next talk → went ≡ before ++ chunks_of c talk
      → new ≡ (if is_closed talk then Some Closing else Some (Speaking session))
      → Heard clock secret start c all went (log ++ more) rest new
  heard_more has cut answered chunks leaves =
      let first = has.0 in
      let frames = has.1 in
      let reported = has.2 in
      let cuts = cut first frames has.3 in
      let closed_as : is_closed (followed reported talk) ≡ is_closed talk = closed-followed reported talk ∙ ap (λ b. b || is_closed talk) has.7 in record {
        session = session;
        frames = first ∷ (frames ++ next);
        talk = followed reported talk;
        cuts = cuts.0;
        word = cuts.1 ∙ has.5;
        greeted = greeted_both clock secret session start log more first frames next reported talk has.6 answered
            (λ ends. let clash : true ≡ false = sym ends ∙ has.7 in absurd (cc clash));
        chunks = chunks ∙ ap (λ ps. ps ++ chunks_of c talk) has.8 ∙ sym (chunks-followed c reported talk has.7);
        stands = by (is_closed talk) refl reported closed_as leaves first (frames ++ next);
      }
    where
      by : (ends : Bool) → is_closed talk ≡ ends → (reported : Talk) → is_closed (followed reported talk) ≡ is_closed talk
          → new ≡ (if is_closed talk then Some Closing else Some (Speaking session))
          → (first : List ℕ) (frames : List (List ℕ)) → Stands session (first ∷ frames) (followed reported talk) new
      by true ends reported same leaves first frames = inl (
        same ∙ ends,
        leaves
            ∙ ap (λ (b : Bool). if b then Some Closing else Some (Speaking session)) ends,
      )
      by false still reported same leaves first frames =
          inr (inl (same ∙ still, leaves ∙ ap (λ (b : Bool). if b then Some Closing else Some (Speaking session)) still, (first, frames, refl)))

-- ---- where no frame of it is taken

module _ (clock : Clock) (secret : List ℕ) (start : Tree) (c : ℕ) (came : List ℕ) (taken : List ChunkView) (log more : Log) where
  holds_as : (w x : View) → w ≡ x → HoldsAt clock secret start c came taken (log ++ more) x → HoldsAt clock secret start c came taken (log ++ more) w
  holds_as w x is has = subst (HoldsAt clock secret start c came taken (log ++ more)) (sym is) has

  silent_calm : (s : StreamView) (ps : List ChunkView) (talk : Talk) → s.phase ≡ Silent → IsCalm false talk
      → Holds clock secret start c came (taken ++ ps) log (Some Silent) s.bytes → HoldsAt clock secret start c came taken (log ++ more) (run c talk (Some s, ps))
  silent_calm s ps Quiet is calm has = subst (λ p. Holds clock secret start c came (taken ++ ps) (log ++ more) (Some p) s.bytes) (sym is) has
  silent_calm s ps (Reports event talk) is calm has = absurd (cc calm.0)
  silent_calm s ps (Answers reported talk) is calm has = absurd calm
  silent_calm s ps Closes is calm has =
      holds_as (run c Closes (Some s, ps)) _ (shut_open c (Some s, ps) (ap (λ p. may_send (Some p)) is)) (
        [],
        came,
        Closes,
        refl,
        unworded clock secret start came (log ++ more) [] Closes has.2 (0, omega arith),
        refl,
        sym (append_assoc taken ps (chunks_of c Closes)) ∙ ap (λ xs. xs ++ chunks_of c Closes) has.3,
      )

  speaking_calm : (s : StreamView) (ps : List ChunkView) (session : ℕ) (talk : Talk) → s.phase ≡ Speaking session → IsCalm true talk
      → Holds clock secret start c came (taken ++ ps) log (Some (Speaking session)) s.bytes → HoldsAt clock secret start c came taken (log ++ more) (run c talk (Some s, ps))
  speaking_calm s ps session talk is calm has = by (is_closed talk) refl
    where
      is_on : may_send (Some s.phase) ≡ true
      is_on = ap (λ p. may_send (Some p)) is

      heard : (phase : Option Phase) → phase ≡ (if is_closed talk then Some Closing else Some (Speaking session))
          → Heard clock secret start c came (taken ++ (ps ++ chunks_of c talk)) (log ++ more) s.bytes phase
      heard phase leaves =
          heard_more clock secret start c came came (taken ++ ps) (taken ++ (ps ++ chunks_of c talk)) log more session s.bytes s.bytes [] talk phase has
          (λ first frames cuts. (subst (λ fs. Cuts came (first ∷ fs) s.bytes) (sym (append-nil frames)) cuts, refl))
          (answered_calm clock secret session true (tree_behind start log) more talk calm) (sym (append_assoc taken ps (chunks_of c talk))) leaves

      by : (ends : Bool) → is_closed talk ≡ ends → HoldsAt clock secret start c came taken (log ++ more) (run c talk (Some s, ps))
      by true ends =
          holds_as (run c talk (Some s, ps)) _ (pair (run c talk (Some s, ps)) _ _ (run_closed c talk (Some s, ps) is_on ends)
          (run_chunks c talk (Some s, ps) is_on))
          (heard_holds clock secret start c came (taken ++ (ps ++ chunks_of c talk)) (log ++ more) s.bytes [] (Some Closing)
          (heard (Some Closing) (ap (λ (b : Bool). if b then Some Closing else Some (Speaking session)) (sym ends))) (λ never. absurd (cc never)))
      by false still =
          holds_as (run c talk (Some s, ps)) _ (pair (run c talk (Some s, ps)) _ _ (run_stream c talk (Some s, ps) still)
          (run_chunks c talk (Some s, ps) is_on))
          (heard_holds clock secret start c came (taken ++ (ps ++ chunks_of c talk)) (log ++ more) s.bytes s.bytes (Some s.phase)
          (heard (Some s.phase) (ap (λ p. Some p) is ∙ ap (λ (b : Bool). if b then Some Closing else Some (Speaking session)) (sym still)))
          (λ on. (refl, has.4)))

  stream_calm : (s : StreamView) (ps : List ChunkView) (talk : Talk) (phase : Phase) → s.phase ≡ phase
      → IsCalm (speaks (Some s.phase)) talk → HoldsAt clock secret start c came taken log (Some s, ps)
      → HoldsAt clock secret start c came taken (log ++ more) (run c talk (Some s, ps))
  stream_calm s ps talk Silent is calm has =
      silent_calm s ps talk is (subst (λ p. IsCalm (speaks (Some p)) talk) is calm)
      (subst (λ p. Holds clock secret start c came (taken ++ ps) log (Some p) s.bytes) is has)
  stream_calm s ps talk (Speaking session) is calm has =
      speaking_calm s ps session talk is (subst (λ p. IsCalm (speaks (Some p)) talk) is calm)
      (subst (λ p. Holds clock secret start c came (taken ++ ps) log (Some p) s.bytes) is has)
  stream_calm s ps talk Closing is calm has =
      let shut : Holds clock secret start c came (taken ++ ps) log (Some Closing) s.bytes = subst (λ p. Holds clock secret start c came (taken ++ ps) log (Some p) s.bytes) is has in
      holds_as (run c talk (Some s, ps)) (Some s, ps) (run_not c talk (Some s, ps) (ap (λ p. may_send (Some p)) is))
      (subst (λ p. Holds clock secret start c came (taken ++ ps) (log ++ more) (Some p) s.bytes) (sym is)
      (shut.0, shut.1, shut.2, shut.3, talk_wider clock secret start came log more shut.0 shut.2 shut.4, shut.5, shut.6))

  view_calm : (o : Option StreamView) (ps : List ChunkView) (talk : Talk) → IsCalm (speaks (phase_in o)) talk → HoldsAt clock secret start c came taken log (o, ps)
      → HoldsAt clock secret start c came taken (log ++ more) (run c talk (o, ps))
  view_calm None ps talk calm has = absurd has
  view_calm (Some s) ps talk calm has = stream_calm s ps talk s.phase refl calm has

  pub holds_calm : (old new : TablesView) (talk : Talk) → IsCalm (speaks (phase_of old.streams c)) talk → view c new ≡ run c talk (view c old)
      → HoldsAt clock secret start c came taken log (view c old) → HoldsAt clock secret start c came taken (log ++ more) (view c new)
  holds_calm old new talk calm is has =
      holds_as (view c new) (run c talk (view c old)) is (view_calm (finite.get old.streams c) (on c old.unsent) talk calm has)
