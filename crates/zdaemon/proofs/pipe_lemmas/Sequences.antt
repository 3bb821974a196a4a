-- Messages and chunks, one after the other.
use Rattle.std.proofs.Common.{◌≡◌, ℕ, List, [], ◌∷◌, ◌++◌, refl, sym, ap, subst, ◌∙◌, append_assoc}
use Rattle.std.specs.List.{AllByRecursion}
use Rattle.std.proofs.lemmas.List.{append-nil}
use Rattle.std.proofs.lemmas.List.Concat.{flat_map-append, flat_map-cons}
use Rattle.zdevices.specs.Device.{TookBeginning}
use Rattle.zconnections.specs.buffers.Inputs.{InputView}
use Rattle.zconnections.specs.buffers.Outbox.{ChunkView}
use Rattle.zdaemon.specs.pipe.Messages.{MessageView, message}
use Rattle.zdaemon.specs.pipe.Outputs.{OutputView, Chunk, End, output}
use Rattle.zdaemon.specs.pipe.Serving.{Reports, IsReporting, ReportsSome, Does, Serves, answer_of, messages_text, outputs_text, chunks_text}

-- joined bytes were taken
abbrev pub Joins : (List ℕ → Type 0) → (List ℕ → Type 0) → (List ℕ → Type 0) → Type 0
Joins first then both = (a b : List ℕ) → first a → then b → both (a ++ b)

-- ---- chunks

pub reports_more : {V : Type 0} (reported : V → ChunkView → V → Type 0) (chunks : List ChunkView) (old middle new : V) (p : ChunkView)
    → Reports reported chunks old middle → reported middle p new → Reports reported (chunks ++ p ∷ []) old new
reports_more {V} reported [] old middle new p are one = (new, subst (λ (v : V). reported v p new) are one, refl)
reports_more reported (q ∷ chunks) old middle new p are one = (are.0, are.1, reports_more reported chunks are.0 middle new p are.2 one)

pub chunks-more : (chunks : List ChunkView) (p : ChunkView) → chunks_text (chunks ++ p ∷ []) ≡ chunks_text chunks ++ output.spell (Chunk p)
chunks-more chunks p =
    flat_map-append (λ (q : ChunkView). output.spell (Chunk q)) chunks (p ∷ [])
    ∙ ap (λ (t : List ℕ). chunks_text chunks ++ t) (flat_map-cons (λ (q : ChunkView). output.spell (Chunk q)) p []
    ∙ append-nil (output.spell (Chunk p)))

pub reporting_begins : {V : Type 0} (reported : V → ChunkView → V → Type 0) (takes : List ℕ → Type 0) (first : V) (out : List ℕ)
    → out ≡ [] → takes [] → IsReporting reported takes first first out
reporting_begins reported takes first out fresh nothing = record { chunks = []; reports = refl; front = []; took_it = nothing; text = fresh }

-- one more chunk is put
pub reporting_more : {V : Type 0} (reported : V → ChunkView → V → Type 0) (takes : List ℕ → Type 0)
    (first middle new : V) (out more : List ℕ) (p : ChunkView)
    → IsReporting reported takes first middle out → reported middle p new → more ≡ out ++ output.spell (Chunk p) → IsReporting reported takes first new more
reporting_more reported takes first middle new out more p is one same = record {
  chunks = is.chunks ++ p ∷ [];
  reports = reports_more reported is.chunks first middle new p is.reports one;
  front = is.front;
  took_it = is.took_it;
  text = ap (λ (t : List ℕ). is.front ++ t) same
      ∙ sym (append_assoc is.front out (output.spell (Chunk p)))
      ∙ ap (λ (t : List ℕ). t ++ output.spell (Chunk p)) is.text
      ∙ sym (chunks-more is.chunks p);
}

-- what waits is written
pub reporting_written : {V : Type 0} (reported : V → ChunkView → V → Type 0) (takes sends both : List ℕ → Type 0) (first now : V) (out left : List ℕ)
    → Joins takes sends both
    → IsReporting reported takes first now out → sends out → left ≡ [] → IsReporting reported both first now left
reporting_written reported takes sends both first now out left joins is wrote none = record {
  chunks = is.chunks;
  reports = is.reports;
  front = is.front ++ out;
  took_it = joins is.front out is.took_it wrote;
  text = ap (λ (t : List ℕ). (is.front ++ out) ++ t) none ∙ append-nil (is.front ++ out) ∙ is.text;
}

-- it ended, and what waits is lost
pub reporting_fails : {V : Type 0} (reported : V → ChunkView → V → Type 0) (takes : List ℕ → Type 0) (first now : V) (out : List ℕ)
    → IsReporting reported takes first now out → ReportsSome reported takes first
reporting_fails reported takes first now out is = record {
  chunks = is.chunks;
  last = now;
  reports = is.reports;
  front = is.front;
  took_it = is.took_it;
  is_front = (out, sym is.text);
}

pub reporting_stops : {V : Type 0} (reported : V → ChunkView → V → Type 0) (takes sends both : List ℕ → Type 0) (first now : V) (out : List ℕ)
    → Joins takes sends both
    → IsReporting reported takes first now out → TookBeginning sends out → ReportsSome reported both first
reporting_stops reported takes sends both first now out joins is began = record {
  chunks = is.chunks;
  last = now;
  reports = is.reports;
  front = is.front ++ began.0;
  took_it = joins is.front began.0 is.took_it began.2;
  is_front = (
    began.1.0,
    sym is.text ∙ ap (λ (t : List ℕ). is.front ++ t) began.1.1 ∙ sym (append_assoc is.front began.0 began.1.0),
  );
}

-- the bytes of an answer
pub answer-text : (chunks : List ChunkView) → outputs_text (answer_of chunks) ≡ chunks_text chunks ++ output.spell End
answer-text [] = flat_map-cons output.spell End [] ∙ append-nil (output.spell End)
answer-text (p ∷ chunks) =
    flat_map-cons output.spell (Chunk p) (answer_of chunks)
    ∙ ap (λ (t : List ℕ). output.spell (Chunk p) ++ t) (answer-text chunks)
    ∙ sym (append_assoc (output.spell (Chunk p)) (chunks_text chunks) (output.spell End))
    ∙ ap (λ (t : List ℕ). t ++ output.spell End) (sym (flat_map-cons (λ (q : ChunkView). output.spell (Chunk q)) p chunks))

-- ---- messages

pub messages-both : (a b : List MessageView) → messages_text (a ++ b) ≡ messages_text a ++ messages_text b
messages-both a b = flat_map-append message.spell a b

pub outputs-both : (a b : List OutputView) → outputs_text (a ++ b) ≡ outputs_text a ++ outputs_text b
outputs-both a b = flat_map-append output.spell a b

pub fit_both : (a b : List MessageView) → AllByRecursion message.Fits a → AllByRecursion message.Fits b → AllByRecursion message.Fits (a ++ b)
fit_both [] b fit also = also
fit_both (x ∷ a) b fit also = (fit.0, fit_both a b fit.1 also)

module _ {V : Type 0} (took : V → InputView → V → Type 0) (kept : V → V → Type 0) (reported : V → ChunkView → V → Type 0) (has_reported : V → Type 0) where
  pub serves_both : (a b : List MessageView) (x y : List OutputView) (old middle new : V)
      → Serves took kept reported has_reported a x old middle → Serves took kept reported has_reported b y middle new
      → Serves took kept reported has_reported (a ++ b) (x ++ y) old new
  serves_both [] b x y old middle new are rest =
      subst (λ (v : V). Serves took kept reported has_reported b (x ++ y) v new) are.0
      (subst (λ (l : List OutputView). Serves took kept reported has_reported b (l ++ y) middle new) (sym are.1) rest)
  serves_both (it ∷ a) b x y old middle new are rest = (
    are.0,
    are.1,
    are.2 ++ y,
    are.3,
    serves_both a b are.2 y are.1 middle new are.4 rest,
    ap (λ (l : List OutputView). l ++ y) are.5 ∙ append_assoc are.0 are.2 y,
  )

  pub serves_one : (it : MessageView) (outputs : List OutputView) (old new : V) → Does took kept reported has_reported it outputs old new
      → Serves took kept reported has_reported (it ∷ []) outputs old new
  serves_one it outputs old new does = (outputs, new, [], does, (refl, refl), sym (append-nil outputs))
