-- What a service received and sent, between two of its states.
use Rattle.std.specs.Prelude.{◌≡◌, ◌⊎◌, ℕ, List, [], ◌∷◌, ◌++◌}
use Rattle.std.specs.List.{flat_map, AllByRecursion}
use Rattle.zdevices.specs.Device.{IsBeginning}
use Rattle.zconnections.specs.buffers.Outbox.{ChunkView}
use Rattle.zconnections.specs.buffers.Inputs.{InputView}
use Rattle.zdaemon.specs.pipe.Messages.{MessageView, Input, Keep, message}
use Rattle.zdaemon.specs.pipe.Outputs.{OutputView, Chunk, End, output}

-- the bytes of messages, and of what is sent
abbrev pub messages_text : List MessageView → List ℕ
messages_text messages = flat_map message.spell messages

abbrev pub outputs_text : List OutputView → List ℕ
outputs_text outputs = flat_map output.spell outputs

-- the answer to a demand: chunks, and an end
abbrev pub answer_of : List ChunkView → List OutputView
answer_of [] = End ∷ []
answer_of (chunk ∷ chunks) = Chunk chunk ∷ answer_of chunks

-- the bytes of chunks
abbrev pub chunks_text : List ChunkView → List ℕ
chunks_text chunks = flat_map (λ p. output.spell (Chunk p)) chunks

-- chunks are sent, in order
abbrev pub Reports : {V : Type 0} → (V → ChunkView → V → Type 0) → List ChunkView → V → V → Type 0
Reports reported [] old new = new ≡ old
Reports {V} reported (chunk ∷ chunks) old new = (middle : V) × reported old chunk middle × Reports reported chunks middle new

-- chunks were sent. The sink took a prefix of their bytes, and the rest waits
pub record IsReporting {V : Type 0} (reported : V → ChunkView → V → Type 0) (takes : List ℕ → Type 0) (old new : V) (waits : List ℕ) : Type 0 where
  pub chunks : List ChunkView
  pub reports : Reports reported chunks old new
  pub front : List ℕ
  pub took_it : takes front
  pub text : front ++ waits ≡ chunks_text chunks

-- and where the rest is lost
pub record ReportsSome {V : Type 0} (reported : V → ChunkView → V → Type 0) (takes : List ℕ → Type 0) (old : V) : Type 0 where
  pub chunks : List ChunkView
  pub last : V
  pub reports : Reports reported chunks old last
  pub front : List ℕ
  pub took_it : takes front
  pub is_front : IsBeginning front (chunks_text chunks)

module _ {V : Type 0} (kept : V → V → Type 0) (reported : V → ChunkView → V → Type 0) where
  -- nothing is sent for a demand yet; or all is committed, and some chunks are sent
  abbrev pub BeginsToAnswer : List OutputView → V → Type 0
  BeginsToAnswer outputs old =
      (outputs ≡ [])
      ⊎ ((chunks : List ChunkView) × (middle last : V) × kept old middle × Reports reported chunks middle last
      × (outputs ≡ answer_of chunks))

  -- and the sink took a prefix of that
  pub record SendsSome (takes : List ℕ → Type 0) (old : V) : Type 0 where
    pub outputs : List OutputView
    pub begins : BeginsToAnswer outputs old
    pub front : List ℕ
    pub is_front : IsBeginning front (outputs_text outputs)
    pub took_it : takes front

module _ {V : Type 0} (kept : V → V → Type 0) (reported : V → ChunkView → V → Type 0) (has_reported : V → Type 0) where
  -- all is committed; then chunks are sent, and none is left
  abbrev pub Answers : List ChunkView → V → V → Type 0
  Answers chunks old new = (middle : V) × kept old middle × Reports reported chunks middle new × has_reported new

module _ {V : Type 0} (took : V → InputView → V → Type 0) (kept : V → V → Type 0) (reported : V → ChunkView → V → Type 0) (has_reported : V → Type 0) where
  -- this is done at a message, and this is sent for it
  abbrev pub Does : MessageView → List OutputView → V → V → Type 0
  Does Keep outputs old new = (chunks : List ChunkView) × Answers kept reported has_reported chunks old new × (outputs ≡ answer_of chunks)
  Does (Input input) outputs old new = took old input new × (outputs ≡ [])

  -- and that goes to the sink
  pub record Sends (message : MessageView) (takes : List ℕ → Type 0) (old new : V) : Type 0 where
    pub outputs : List OutputView
    pub does : Does message outputs old new
    pub took_them : takes (outputs_text outputs)

  -- messages are taken, in order
  abbrev pub Serves : List MessageView → List OutputView → V → V → Type 0
  Serves [] outputs old new = (new ≡ old) × (outputs ≡ [])
  Serves (it ∷ messages) outputs old new =
      (first : List OutputView) × (middle : V) × (more : List OutputView)
      × Does it first old middle × Serves messages more middle new × (outputs ≡ first ++ more)

  -- the bytes are those of messages, with a rest that isn't a whole message. They were taken, and
  -- what was sent for them went to the sink
  pub record ServesFront (takes : List ℕ → Type 0) (bytes rest : List ℕ) (old new : V) : Type 0 where
    pub messages : List MessageView
    pub outputs : List OutputView
    pub serves : Serves messages outputs old new
    pub fit : AllByRecursion message.Fits messages
    pub split : bytes ≡ messages_text messages ++ rest
    pub took_them : takes (outputs_text outputs)

  -- The same of all bytes that a source gave, after some messages of its own.
  pub record ServesAll (first : List MessageView) (gave takes : List ℕ → Type 0) (old new : V) : Type 0 where
    pub messages : List MessageView
    pub outputs : List OutputView
    pub serves : Serves (first ++ messages) outputs old new
    pub fit : AllByRecursion message.Fits messages
    pub rest : List ℕ
    pub gave_them : gave (messages_text messages ++ rest)
    pub took_them : takes (outputs_text outputs)

  -- It ended early. Some messages were taken. The sink took a prefix of what was sent for them, and
  -- of the answer begun after them.
  pub record ServesSome (takes : List ℕ → Type 0) (old : V) : Type 0 where
    pub messages : List MessageView
    pub outputs : List OutputView
    pub last : V
    pub serves : Serves messages outputs old last
    pub more : List OutputView
    pub begins : BeginsToAnswer kept reported more last
    pub front : List ℕ
    pub is_front : IsBeginning front (outputs_text (outputs ++ more))
    pub took_it : takes front
