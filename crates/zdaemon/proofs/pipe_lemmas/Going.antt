-- How far a service is.
use Rattle.std.proofs.Common.{◌≡◌, inl, inr, ℕ, List, [], ◌∷◌, ◌++◌, Result, Ok, Err, OnErr, OnOk, refl, sym, ap, subst, ◌∙◌, append_assoc}
use Rattle.std.specs.List.{AllByRecursion}
use Rattle.std.proofs.lemmas.List.{append-nil}
use Rattle.zdevices.specs.Device.{TookBeginning}
use Rattle.zconnections.specs.buffers.Inputs.{InputView}
use Rattle.zconnections.specs.buffers.Outbox.{ChunkView}
use Rattle.zdaemon.specs.pipe.Messages.{MessageView, Keep, message}
use Rattle.zdaemon.specs.pipe.Outputs.{OutputView, End, output}
use Rattle.zdaemon.specs.pipe.Serving.{IsReporting, ReportsSome, Serves, Sends, SendsSome, ServesFront, ServesAll, ServesSome}
use Rattle.zdaemon.specs.pipe.Serving.{answer_of, messages_text, outputs_text, chunks_text}
use Rattle.zdaemon.proofs.pipe_lemmas.Sequences.{Joins, answer-text, messages-both, outputs-both, fit_both, serves_both, serves_one}

-- ---- an answer

-- the bytes of an answer, as they were put
pub answer-put : (front out put : List ℕ) (chunks : List ChunkView) → front ++ out ≡ chunks_text chunks
    → put ≡ out ++ output.spell End → outputs_text (answer_of chunks) ≡ front ++ put
answer-put front out put chunks same then =
    answer-text chunks
    ∙ ap (λ (t : List ℕ). t ++ output.spell End) (sym same)
    ∙ append_assoc front out (output.spell End)
    ∙ ap (λ (t : List ℕ). front ++ t) (sym then)

module _ {V : Type 0} (kept : V → V → Type 0) (reported : V → ChunkView → V → Type 0) where
  pub sends_none : (takes : List ℕ → Type 0) (old : V) → takes [] → SendsSome kept reported takes old
  sends_none takes old nothing = record { outputs = []; begins = inl refl; front = []; is_front = ([], refl); took_it = nothing }

  -- chunks were reported, and no end
  pub sends_some : (takes : List ℕ → Type 0) (old middle : V) → kept old middle → ReportsSome reported takes middle → SendsSome kept reported takes old
  sends_some takes old middle keeps some = record {
    outputs = answer_of some.chunks;
    begins = inr (some.chunks, middle, some.last, keeps, some.reports, refl);
    front = some.front;
    is_front = (
      some.is_front.0 ++ output.spell End,
      answer-text some.chunks
          ∙ ap (λ (t : List ℕ). t ++ output.spell End) some.is_front.1
          ∙ append_assoc some.front some.is_front.0 (output.spell End),
    );
    took_it = some.took_it;
  }

  -- the end failed
  pub sends_most : (takes sends both : List ℕ → Type 0) (old middle now : V) (out put : List ℕ) → Joins takes sends both
      → kept old middle → IsReporting reported takes middle now out
      → put ≡ out ++ output.spell End → TookBeginning sends put → SendsSome kept reported both old
  sends_most takes sends both old middle now out put joins keeps is same began = record {
    outputs = answer_of is.chunks;
    begins = inr (is.chunks, middle, now, keeps, is.reports, refl);
    front = is.front ++ began.0;
    is_front = (
      began.1.0,
      answer-put is.front out put is.chunks is.text same
          ∙ ap (λ (t : List ℕ). is.front ++ t) began.1.1
          ∙ sym (append_assoc is.front began.0 began.1.0),
    );
    took_it = joins is.front began.0 is.took_it began.2;
  }

pub on_err : {A E : Type 0} (r : Result A E) (P : Type 0) → P → OnErr r P
on_err (Ok x) P p = tt
on_err (Err e) P p = p

pub on_ok : {A E : Type 0} (r : Result A E) (P Q : Type 0) → (P → Q) → OnOk r P → OnOk r Q
on_ok (Ok x) P Q then p = then p
on_ok (Err e) P Q then p = tt

-- ---- messages

module _ {V : Type 0} (took : V → InputView → V → Type 0) (kept : V → V → Type 0) (reported : V → ChunkView → V → Type 0) (has_reported : V → Type 0) where
  -- the whole answer went to the sink
  pub sends_all : (takes sends both : List ℕ → Type 0) (old middle now : V) (out put : List ℕ) → Joins takes sends both
      → kept old middle → IsReporting reported takes middle now out → has_reported now
      → put ≡ out ++ output.spell End → sends put → Sends took kept reported has_reported Keep both old now
  sends_all takes sends both old middle now out put joins keeps is none same wrote = record {
    outputs = answer_of is.chunks;
    does = (is.chunks, (middle, keeps, is.reports, none), refl);
    took_them = subst both (sym (answer-put is.front out put is.chunks is.text same)) (joins is.front put is.took_it wrote);
  }

  pub front_begins : (takes : List ℕ → Type 0) (bytes : List ℕ) (old : V) → takes [] → ServesFront took kept reported has_reported takes bytes bytes old old
  front_begins takes bytes old nothing = record { messages = []; outputs = []; serves = (refl, refl); fit = tt; split = refl; took_them = nothing }

  -- one more message
  pub front_more : (takes sends both : List ℕ → Type 0) (bytes rest more : List ℕ) (it : MessageView) (old middle new : V) → Joins takes sends both
      → ServesFront took kept reported has_reported takes bytes rest old middle → message.Fits it → rest ≡ message.spell it ++ more
      → Sends took kept reported has_reported it sends middle new
      → ServesFront took kept reported has_reported both bytes more old new
  front_more takes sends both bytes rest more it old middle new joins front fits same one = record {
    messages = front.messages ++ it ∷ [];
    outputs = front.outputs ++ one.outputs;
    serves = serves_both took kept reported has_reported front.messages (it ∷ []) front.outputs one.outputs old middle new
        front.serves (serves_one took kept reported has_reported it one.outputs middle new one.does);
    fit = fit_both front.messages (it ∷ []) front.fit (fits, tt);
    split = front.split
        ∙ ap (λ (t : List ℕ). messages_text front.messages ++ t) same
        ∙ sym (append_assoc (messages_text front.messages) (message.spell it) more)
        ∙ ap (λ (t : List ℕ). (messages_text front.messages ++ t) ++ more) (sym (append-nil (message.spell it)))
        ∙ ap (λ (t : List ℕ). t ++ more) (sym (messages-both front.messages (it ∷ [])));
    took_them = subst both (sym (outputs-both front.outputs one.outputs))
        (joins (outputs_text front.outputs) (outputs_text one.outputs) front.took_them one.took_them);
  }

  pub front_fails : (takes : List ℕ → Type 0) (bytes rest : List ℕ) (old middle : V)
      → ServesFront took kept reported has_reported takes bytes rest old middle → ServesSome took kept reported has_reported takes old
  front_fails takes bytes rest old middle front = record {
    messages = front.messages;
    outputs = front.outputs;
    last = middle;
    serves = front.serves;
    more = [];
    begins = inl refl;
    front = outputs_text front.outputs;
    is_front = ([], ap outputs_text (append-nil front.outputs) ∙ sym (append-nil (outputs_text front.outputs)));
    took_it = front.took_them;
  }

  -- a prefix of an answer after messages that were taken
  some_behind : (takes sends both : List ℕ → Type 0) (messages : List MessageView) (outputs : List OutputView) (old middle : V) → Joins takes sends both
      → Serves took kept reported has_reported messages outputs old middle → takes (outputs_text outputs) → SendsSome kept reported sends middle
      → ServesSome took kept reported has_reported both old
  some_behind takes sends both messages outputs old middle joins serves took_them some = record {
    messages = messages;
    outputs = outputs;
    last = middle;
    serves = serves;
    more = some.outputs;
    begins = some.begins;
    front = outputs_text outputs ++ some.front;
    is_front = (
      some.is_front.0,
      outputs-both outputs some.outputs ∙ ap (λ (t : List ℕ). outputs_text outputs ++ t) some.is_front.1
          ∙ sym (append_assoc (outputs_text outputs) some.front some.is_front.0),
    );
    took_it = joins (outputs_text outputs) some.front took_them some.took_it;
  }

  pub front_stops : (takes sends both : List ℕ → Type 0) (bytes rest : List ℕ) (old middle : V) → Joins takes sends both
      → ServesFront took kept reported has_reported takes bytes rest old middle → SendsSome kept reported sends middle
      → ServesSome took kept reported has_reported both old
  front_stops takes sends both bytes rest old middle joins front some = some_behind takes sends both front.messages
      front.outputs old middle joins front.serves front.took_them some

  -- ---- all that a source gives

  pub record IsGoing (gave takes : List ℕ → Type 0) (begun : List ℕ) (old now : V) : Type 0 where
    pub messages : List MessageView
    pub outputs : List OutputView
    pub serves : Serves took kept reported has_reported messages outputs old now
    pub fit : AllByRecursion message.Fits messages
    pub gave_them : gave (messages_text messages ++ begun)
    pub took_them : takes (outputs_text outputs)

  pub all_begins : (gave takes : List ℕ → Type 0) (begun : List ℕ) (old : V) → begun ≡ [] → gave [] → takes [] → IsGoing gave takes begun old old
  all_begins gave takes begun old fresh nothing none = record {
    messages = [];
    outputs = [];
    serves = (refl, refl);
    fit =
        tt;
    gave_them = subst gave (sym fresh) nothing;
    took_them = none;
  }

  -- a block more
  pub going_on : (gave gives given takes sends both : List ℕ → Type 0) (begun chunk bytes rest : List ℕ) (old middle new : V)
      → Joins gave gives given → Joins takes sends both
      → IsGoing gave takes begun old middle → gives chunk → bytes ≡ begun ++ chunk
      → ServesFront took kept reported has_reported sends bytes rest middle new → IsGoing given both rest old new
  going_on gave gives given takes sends both begun chunk bytes rest old middle new gave_both took_both so_far gave_it same front = record {
    messages = so_far.messages ++ front.messages;
    outputs = so_far.outputs ++ front.outputs;
    serves = serves_both took kept reported has_reported so_far.messages front.messages so_far.outputs front.outputs old middle new so_far.serves front.serves;
    fit = fit_both so_far.messages front.messages so_far.fit front.fit;
    gave_them =
        let all : (messages_text so_far.messages ++ begun) ++ chunk ≡ messages_text (so_far.messages ++ front.messages) ++ rest =
        append_assoc (messages_text so_far.messages) begun chunk
        ∙ ap (λ (t : List ℕ). messages_text so_far.messages ++ t) (sym same ∙ front.split)
        ∙ sym (append_assoc (messages_text so_far.messages) (messages_text front.messages) rest)
        ∙ ap (λ (t : List ℕ). t ++ rest) (sym (messages-both so_far.messages front.messages)) in
        subst given all (gave_both (messages_text so_far.messages ++ begun) chunk so_far.gave_them gave_it);
    took_them = subst both (sym (outputs-both so_far.outputs front.outputs)) (took_both (outputs_text so_far.outputs)
        (outputs_text front.outputs) so_far.took_them front.took_them);
  }

  pub going_ends : (gave gives given takes : List ℕ → Type 0) (begun : List ℕ) (old now : V) → Joins gave gives given
      → IsGoing gave takes begun old now → gives []
      → ServesAll took kept reported has_reported [] given takes old now
  going_ends gave gives given takes begun old now gave_both so_far nothing = record {
    messages = so_far.messages;
    outputs = so_far.outputs;
    serves = so_far.serves;
    fit = so_far.fit;
    rest = begun;
    gave_them = subst given (append-nil (messages_text so_far.messages ++ begun))
        (gave_both (messages_text so_far.messages ++ begun) [] so_far.gave_them nothing);
    took_them = so_far.took_them;
  }

  pub going_fails : (gave takes : List ℕ → Type 0) (begun : List ℕ) (old now : V) → IsGoing gave takes begun old now
      → ServesSome took kept reported has_reported takes old
  going_fails gave takes begun old now so_far = record {
    messages = so_far.messages;
    outputs = so_far.outputs;
    last = now;
    serves = so_far.serves;
    more = [];
    begins = inl refl;
    front = outputs_text so_far.outputs;
    is_front = ([], ap outputs_text (append-nil so_far.outputs) ∙ sym (append-nil (outputs_text so_far.outputs)));
    took_it = so_far.took_them;
  }

  -- it ended earlier, after these messages
  pub some_later : (takes sends both : List ℕ → Type 0) (messages : List MessageView) (outputs : List OutputView) (old middle : V)
      → Joins takes sends both
      → Serves took kept reported has_reported messages outputs old middle → takes (outputs_text outputs)
      → ServesSome took kept reported has_reported sends middle → ServesSome took kept reported has_reported both old
  some_later takes sends both messages outputs old middle joins serves took_them some = record {
    messages = messages ++ some.messages;
    outputs = outputs ++ some.outputs;
    last = some.last;
    serves = serves_both took kept reported has_reported messages some.messages outputs some.outputs old middle some.last serves some.serves;
    more = some.more;
    begins = some.begins;
    front = outputs_text outputs ++ some.front;
    is_front = (
      some.is_front.0,
      ap outputs_text (append_assoc outputs some.outputs some.more)
          ∙ outputs-both outputs (some.outputs ++ some.more)
          ∙ ap (λ (t : List ℕ). outputs_text outputs ++ t) some.is_front.1
          ∙ sym (append_assoc (outputs_text outputs) some.front some.is_front.0),
    );
    took_it = joins (outputs_text outputs) some.front took_them some.took_it;
  }

  pub going_stops : (gave takes sends both : List ℕ → Type 0) (begun : List ℕ) (old middle : V) → Joins takes sends both
      → IsGoing gave takes begun old middle
      → ServesSome took kept reported has_reported sends middle → ServesSome took kept reported has_reported both old
  going_stops gave takes sends both begun old middle joins so_far some = some_later takes sends both so_far.messages
      so_far.outputs old middle joins so_far.serves so_far.took_them some

  -- ---- after the first answer

  pub all_behind : (gave takes sends both : List ℕ → Type 0) (old middle new : V) → Joins takes sends both
      → Sends took kept reported has_reported Keep takes old middle
      → ServesAll took kept reported has_reported [] gave sends middle new → ServesAll took kept reported has_reported (Keep ∷ []) gave both old new
  all_behind gave takes sends both old middle new joins first all = record {
    messages = all.messages;
    outputs = first.outputs ++ all.outputs;
    serves = serves_both took kept reported has_reported (Keep ∷ []) all.messages first.outputs all.outputs old middle new
        (serves_one took kept reported has_reported Keep first.outputs old middle first.does) all.serves;
    fit = all.fit;
    rest = all.rest;
    gave_them = all.gave_them;
    took_them = subst both (sym (outputs-both first.outputs all.outputs))
        (joins (outputs_text first.outputs) (outputs_text all.outputs) first.took_them all.took_them);
  }

  pub some_after : (takes sends both : List ℕ → Type 0) (old middle : V) → Joins takes sends both
      → Sends took kept reported has_reported Keep takes old middle
      → ServesSome took kept reported has_reported sends middle → ServesSome took kept reported has_reported both old
  some_after takes sends both old middle joins first some =
      some_later takes sends both (Keep ∷ []) first.outputs old middle joins (serves_one took kept reported has_reported Keep
      first.outputs old middle first.does) first.took_them some

  pub some_first : (takes : List ℕ → Type 0) (old : V) → SendsSome kept reported takes old → ServesSome took kept reported has_reported takes old
  some_first takes old some = record {
    messages = [];
    outputs = [];
    last = old;
    serves = (refl, refl);
    more = some.outputs;
    begins = some.begins;
    front = some.front;
    is_front = some.is_front;
    took_it = some.took_it;
  }
