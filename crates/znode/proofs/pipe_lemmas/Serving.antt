-- How far the loop over inputs is.
use Rattle.std.proofs.Common.{◌≡◌, inl, inr, Bool, true, false, ℕ, List, [], ◌∷◌, ◌++◌, refl, sym, ap, subst, ◌∙◌, append_assoc}
use Rattle.std.specs.List.{AllByRecursion}
use Rattle.std.proofs.lemmas.List.{append-nil}
use Rattle.std.proofs.lemmas.List.Concat.{flat_map-append}
use Rattle.zdevices.specs.Device.{TookBeginning}
use Rattle.znode.specs.pipe.Inputs.{InputView, Turn, input}
use Rattle.znode.specs.pipe.Outputs.{OutputView, output}
use Rattle.znode.specs.pipe.Serving.{Serves, ServesSome, GoesOn, ServesFront, ServesAll, inputs_text, outputs_text}
use Rattle.znode.specs.support.Serving.{SendsFor, Part, SendsPart, IsGoing}

-- joined bytes were taken
abbrev pub Joins : (List ℕ → Type 0) → (List ℕ → Type 0) → (List ℕ → Type 0) → Type 0
Joins first then both = (a b : List ℕ) → first a → then b → both (a ++ b)

inputs-both : (a b : List InputView) → inputs_text (a ++ b) ≡ inputs_text a ++ inputs_text b
inputs-both a b = flat_map-append input.spell a b

outputs-both : (a b : List OutputView) → outputs_text (a ++ b) ≡ outputs_text a ++ outputs_text b
outputs-both a b = flat_map-append output.spell a b

fit_both : (a b : List InputView) → AllByRecursion input.Fits a → AllByRecursion input.Fits b → AllByRecursion input.Fits (a ++ b)
fit_both [] b fit also = also
fit_both (x ∷ a) b fit also = (fit.0, fit_both a b fit.1 also)

module _ {V : Type 0} (takes : V → InputView → List OutputView → V → Type 0) where
  pub serves_both : (a b : List InputView) (x y : List OutputView) (old middle new : V)
      → Serves takes a x old middle → Serves takes b y middle new → Serves takes (a ++ b) (x ++ y) old new
  serves_both [] b x y old middle new are rest =
      subst (λ (v : V). Serves takes b (x ++ y) v new) are.0
      (subst (λ (l : List OutputView). Serves takes b (l ++ y) middle new) (sym are.1) rest)
  serves_both (it ∷ a) b x y old middle new are rest = (
    are.0,
    are.1,
    are.2 ++ y,
    are.3,
    serves_both a b are.2 y are.1 middle new are.4 rest,
    ap (λ (l : List OutputView). l ++ y) are.5 ∙ append_assoc are.0 are.2 y,
  )

  pub serves_one : (it : InputView) (outputs : List OutputView) (old new : V) → takes old it outputs new
      → Serves takes (it ∷ []) outputs old new
  serves_one it outputs old new one = (outputs, new, [], one, (refl, refl), sym (append-nil outputs))

  -- nothing is sent
  pub some_none : (sends : List ℕ → Type 0) (old : V) → sends [] → ServesSome takes sends old
  some_none sends old nothing = record {
    inputs = [];
    outputs = [];
    last = old;
    serves = (refl, refl);
    front = [];
    is_front = ([], refl);
    sent_it = nothing;
  }

  -- all outputs are sent
  some_all : (sends : List ℕ → Type 0) (inputs : List InputView) (outputs : List OutputView) (old now : V)
      → Serves takes inputs outputs old now → sends (outputs_text outputs) → ServesSome takes sends old
  some_all sends inputs outputs old now serves sent_them = record {
    inputs = inputs;
    outputs = outputs;
    last = now;
    serves = serves;
    front = outputs_text outputs;
    is_front = ([], sym (append-nil (outputs_text outputs)));
    sent_it = sent_them;
  }

  -- and some of those of a further input
  some_part : (first then both : List ℕ → Type 0) (inputs : List InputView) (outputs : List OutputView) (it : InputView) (old now : V)
      → Joins first then both → Serves takes inputs outputs old now → first (outputs_text outputs) → Part takes it then now
      → ServesSome takes both old
  some_part first then both inputs outputs it old now joins serves sent_them part = record {
    inputs = inputs ++ it ∷ [];
    outputs = outputs ++ part.outputs;
    last = part.last;
    serves = serves_both inputs (it ∷ []) outputs part.outputs old now part.last serves
        (serves_one it part.outputs now part.last part.taken);
    front = outputs_text outputs ++ part.front;
    is_front = (
      part.is_front.0,
      outputs-both outputs part.outputs ∙ ap (λ (t : List ℕ). outputs_text outputs ++ t) part.is_front.1
          ∙ sym (append_assoc (outputs_text outputs) part.front part.is_front.0),
    );
    sent_it = joins (outputs_text outputs) part.front sent_them part.sent_it;
  }

  pub some_after : (first then both : List ℕ → Type 0) (inputs : List InputView) (outputs : List OutputView) (it : InputView) (old now : V)
      → Joins first then both → Serves takes inputs outputs old now → first (outputs_text outputs) → SendsPart takes it then now
      → ServesSome takes both old
  some_after first then both inputs outputs it old now joins serves sent_them (inl nothing) =
      some_all both inputs outputs old now serves
      (subst both (append-nil (outputs_text outputs)) (joins (outputs_text outputs) [] sent_them nothing))
  some_after first then both inputs outputs it old now joins serves sent_them (inr part) =
      some_part first then both inputs outputs it old now joins serves sent_them part

  -- the sink failed at what an input led to
  pub part_sent : (sends : List ℕ → Type 0) (it : InputView) (old last : V) (outputs : List OutputView) (before after text : List ℕ)
      → takes old it outputs last → before ≡ [] → after ≡ before ++ outputs_text outputs → text ≡ after → TookBeginning sends text
      → SendsPart takes it sends old
  part_sent sends it old last outputs before after text taken none put same began =
      let all : text ≡ outputs_text outputs = same ∙ put ∙ ap (λ (t : List ℕ). t ++ outputs_text outputs) none in
      inr (record {
        outputs = outputs;
        last = last;
        taken = taken;
        front = began.0;
        is_front = (began.1.0, sym all ∙ began.1.1);
        sent_it = began.2;
      })

  -- it ended early after inputs that were taken
  pub some_behind : (first then both : List ℕ → Type 0) (inputs : List InputView) (outputs : List OutputView) (old now : V)
      → Joins first then both → Serves takes inputs outputs old now → first (outputs_text outputs) → ServesSome takes then now
      → ServesSome takes both old
  some_behind first then both inputs outputs old now joins serves sent_them some = record {
    inputs = inputs ++ some.inputs;
    outputs = outputs ++ some.outputs;
    last = some.last;
    serves = serves_both inputs some.inputs outputs some.outputs old now some.last serves some.serves;
    front = outputs_text outputs ++ some.front;
    is_front = (
      some.is_front.0,
      outputs-both outputs some.outputs ∙ ap (λ (t : List ℕ). outputs_text outputs ++ t) some.is_front.1
          ∙ sym (append_assoc (outputs_text outputs) some.front some.is_front.0),
    );
    sent_it = joins (outputs_text outputs) some.front sent_them some.sent_it;
  }

module _ {V : Type 0} (takes : V → InputView → List OutputView → V → Type 0) (has_ended : V → Bool) where
  -- inputs that are taken by a node that goes on are taken
  taken_all : (inputs : List InputView) (outputs : List OutputView) (old new : V)
      → Serves (GoesOn takes has_ended) inputs outputs old new → Serves takes inputs outputs old new
  taken_all [] outputs old new are = are
  taken_all (it ∷ inputs) outputs old new are =
      (are.0, are.1, are.2, are.3.1, taken_all inputs are.2 are.1 new are.4, are.5)

  pub front_begins : (sends : List ℕ → Type 0) (bytes : List ℕ) (old : V) → sends [] → ServesFront takes has_ended sends bytes bytes old old
  front_begins sends bytes old nothing = record { inputs = []; outputs = []; serves = (refl, refl); fit = tt; split = refl; sent_them = nothing }

  -- one more input
  pub front_more : (first then both : List ℕ → Type 0) (bytes rest more : List ℕ) (it : InputView) (old middle new : V) → Joins first then both
      → ServesFront takes has_ended first bytes rest old middle → has_ended middle ≡ false → input.Fits it → rest ≡ input.spell it ++ more
      → SendsFor takes it then middle new
      → ServesFront takes has_ended both bytes more old new
  front_more first then both bytes rest more it old middle new joins front goes fits same one = record {
    inputs = front.inputs ++ it ∷ [];
    outputs = front.outputs ++ one.outputs;
    serves = serves_both (GoesOn takes has_ended) front.inputs (it ∷ []) front.outputs one.outputs old middle new
        front.serves (serves_one (GoesOn takes has_ended) it one.outputs middle new (goes, one.taken));
    fit = fit_both front.inputs (it ∷ []) front.fit (fits, tt);
    split = front.split
        ∙ ap (λ (t : List ℕ). inputs_text front.inputs ++ t) same
        ∙ sym (append_assoc (inputs_text front.inputs) (input.spell it) more)
        ∙ ap (λ (t : List ℕ). (inputs_text front.inputs ++ t) ++ more) (sym (append-nil (input.spell it)))
        ∙ ap (λ (t : List ℕ). t ++ more) (sym (inputs-both front.inputs (it ∷ [])));
    sent_them = subst both (sym (outputs-both front.outputs one.outputs))
        (joins (outputs_text front.outputs) (outputs_text one.outputs) front.sent_them one.sent_them);
  }

  pub front_fails : (sends : List ℕ → Type 0) (bytes rest : List ℕ) (old middle : V)
      → ServesFront takes has_ended sends bytes rest old middle → ServesSome takes sends old
  front_fails sends bytes rest old middle front =
      some_all takes sends front.inputs front.outputs old middle
      (taken_all front.inputs front.outputs old middle front.serves) front.sent_them

  pub front_stops : (first then both : List ℕ → Type 0) (bytes rest : List ℕ) (it : InputView) (old middle : V) → Joins first then both
      → ServesFront takes has_ended first bytes rest old middle → SendsPart takes it then middle
      → ServesSome takes both old
  front_stops first then both bytes rest it old middle joins front part =
      some_after takes first then both front.inputs front.outputs it old middle joins
      (taken_all front.inputs front.outputs old middle front.serves) front.sent_them part

  -- ---- all that a source gives

  pub all_begins : (gave sends : List ℕ → Type 0) (begun : List ℕ) (old : V) → begun ≡ [] → gave [] → sends [] → IsGoing takes has_ended gave sends begun old old
  all_begins gave sends begun old fresh nothing none = record {
    inputs = [];
    outputs = [];
    serves = (refl, refl);
    fit = tt;
    gave_them = subst gave (sym fresh) nothing;
    sent_them = none;
  }

  -- a block more
  pub going_on : (gave gives given first then both : List ℕ → Type 0) (begun chunk bytes rest : List ℕ) (old middle new : V)
      → Joins gave gives given → Joins first then both
      → IsGoing takes has_ended gave first begun old middle → gives chunk → bytes ≡ begun ++ chunk
      → ServesFront takes has_ended then bytes rest middle new → IsGoing takes has_ended given both rest old new
  going_on gave gives given first then both begun chunk bytes rest old middle new gave_both sent_both so_far gave_it same front = record {
    inputs = so_far.inputs ++ front.inputs;
    outputs = so_far.outputs ++ front.outputs;
    serves = serves_both (GoesOn takes has_ended) so_far.inputs front.inputs so_far.outputs front.outputs old middle new so_far.serves front.serves;
    fit = fit_both so_far.inputs front.inputs so_far.fit front.fit;
    gave_them =
        let all : (inputs_text so_far.inputs ++ begun) ++ chunk ≡ inputs_text (so_far.inputs ++ front.inputs) ++ rest =
        append_assoc (inputs_text so_far.inputs) begun chunk
        ∙ ap (λ (t : List ℕ). inputs_text so_far.inputs ++ t) (sym same ∙ front.split)
        ∙ sym (append_assoc (inputs_text so_far.inputs) (inputs_text front.inputs) rest)
        ∙ ap (λ (t : List ℕ). t ++ rest) (sym (inputs-both so_far.inputs front.inputs)) in
        subst given all (gave_both (inputs_text so_far.inputs ++ begun) chunk so_far.gave_them gave_it);
    sent_them = subst both (sym (outputs-both so_far.outputs front.outputs)) (sent_both (outputs_text so_far.outputs)
        (outputs_text front.outputs) so_far.sent_them front.sent_them);
  }

  -- the source has ended
  pub going_last : (gave gives given sends : List ℕ → Type 0) (begun : List ℕ) (old now : V) → Joins gave gives given
      → IsGoing takes has_ended gave sends begun old now → gives [] → IsGoing takes has_ended given sends begun old now
  going_last gave gives given sends begun old now gave_both so_far nothing = record {
    inputs = so_far.inputs;
    outputs = so_far.outputs;
    serves = so_far.serves;
    fit = so_far.fit;
    gave_them = subst given (append-nil (inputs_text so_far.inputs ++ begun))
        (gave_both (inputs_text so_far.inputs ++ begun) [] so_far.gave_them nothing);
    sent_them = so_far.sent_them;
  }

  pub going_fails : (gave sends : List ℕ → Type 0) (begun : List ℕ) (old now : V) → IsGoing takes has_ended gave sends begun old now
      → ServesSome takes sends old
  going_fails gave sends begun old now so_far =
      some_all takes sends so_far.inputs so_far.outputs old now
      (taken_all so_far.inputs so_far.outputs old now so_far.serves) so_far.sent_them

  -- it ended early within a block
  pub going_stops : (gave first then both : List ℕ → Type 0) (begun : List ℕ) (old now : V) → Joins first then both
      → IsGoing takes has_ended gave first begun old now → ServesSome takes then now → ServesSome takes both old
  going_stops gave first then both begun old now joins so_far some =
      some_behind takes first then both so_far.inputs so_far.outputs old now joins
      (taken_all so_far.inputs so_far.outputs old now so_far.serves) so_far.sent_them some

  -- ---- the end

  -- the source has ended, and the node has not
  pub all_ends : (gave sends : List ℕ → Type 0) (begun : List ℕ) (old now : V)
      → IsGoing takes has_ended gave sends begun old now → has_ended now ≡ false
      → ServesAll takes has_ended false gave sends old now
  all_ends gave sends begun old now so_far goes = record {
    inputs = so_far.inputs;
    outputs = so_far.outputs;
    middle = now;
    serves = so_far.serves;
    last = [];
    ends = (goes, refl, refl);
    fit = so_far.fit;
    rest = begun;
    gave_them = so_far.gave_them;
    sent_them = subst (λ (l : List OutputView). sends (outputs_text l)) (sym (append-nil so_far.outputs)) so_far.sent_them;
  }

  -- the node has ended, and answers once more
  pub all_answers : (gave first then both : List ℕ → Type 0) (begun : List ℕ) (old now new : V) → Joins first then both
      → IsGoing takes has_ended gave first begun old now → has_ended now ≡ true → SendsFor takes Turn then now new
      → ServesAll takes has_ended true gave both old new
  all_answers gave first then both begun old now new joins so_far ended one = record {
    inputs = so_far.inputs;
    outputs = so_far.outputs;
    middle = now;
    serves = so_far.serves;
    last = one.outputs;
    ends = (ended, one.taken);
    fit = so_far.fit;
    rest = begun;
    gave_them = so_far.gave_them;
    sent_them = subst both (sym (outputs-both so_far.outputs one.outputs))
        (joins (outputs_text so_far.outputs) (outputs_text one.outputs) so_far.sent_them one.sent_them);
  }

  pub answer_fails : (gave first then both : List ℕ → Type 0) (begun : List ℕ) (old now : V) → Joins first then both
      → IsGoing takes has_ended gave first begun old now → SendsPart takes Turn then now → ServesSome takes both old
  answer_fails gave first then both begun old now joins so_far part =
      some_after takes first then both so_far.inputs so_far.outputs Turn old now joins
      (taken_all so_far.inputs so_far.outputs old now so_far.serves) so_far.sent_them part
