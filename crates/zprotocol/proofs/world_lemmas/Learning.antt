-- Outcomes are learnt as events are done.
use Rattle.std.proofs.Common.{◌≡◌, zero, suc, Bool, true, false, if◌then◌else◌, [], ◌∷◌, refl, sym, ap, ◌∙◌}
use Rattle.std.proofs.lemmas.List.{append_assoc}
use Rattle.zprotocol.specs.server.Machine.{Does}
use Rattle.zprotocol.specs.world.Events.{happens}
use Rattle.zprotocol.specs.world.Reading.{read, read_all}
use Rattle.zprotocol.specs.world.Settle.{with_event, with_tries, passes, next_outcome}
use Rattle.zprotocol.specs.world.support.Learning.{is_done, DoneIsLearnt, IdleIsPassed, PassBegins, PassesEnd, ReadingIsLearnt}

-- a choice that is made
chosen : {A : Type 0} (b : Bool) (x y : A) → b ≡ true → (if b then x else y) ≡ x
chosen true x y is = refl
chosen false x y is = let none : ⊥ = cc in absurd none

unchosen : {A : Type 0} (b : Bool) (x y : A) → b ≡ false → (if b then x else y) ≡ y
unchosen false x y is = refl
unchosen true x y is = let none : ⊥ = cc in absurd none

module _ {M : Type 0} (machine : Does M) where
  pub done_is_learnt : DoneIsLearnt machine
  done_is_learnt whole from learnt s event outcome done goes rest =
      ap whole (append_assoc learnt (outcome ∷ []) rest) ∙ goes (outcome ∷ rest)
      ∙ ap from (chosen (is_done s event) (with_event machine (record s { outcomes = outcome ∷ rest }) (read machine s.world event outcome))
      (record s { outcomes = outcome ∷ rest }) done)

  pub idle_is_passed : IdleIsPassed machine
  idle_is_passed whole from learnt s event idle goes rest =
      goes rest ∙ ap from (unchosen (is_done s event) (with_event machine (record s { outcomes = rest })
      (read machine s.world event (next_outcome rest))) (record s { outcomes = rest }) idle)

  pub pass_begins : PassBegins machine
  pass_begins whole from learnt s deliveries more not_over goes rest =
      goes rest ∙ ap (λ b. from (elim b [
        | true ↦ record s { outcomes = rest }
        | false ↦ passes machine deliveries more
            (with_tries machine (record s { outcomes = rest }) deliveries)
      ])) not_over

  pub passes_end : PassesEnd machine
  passes_end whole from learnt s deliveries zero over goes rest = goes rest
  passes_end whole from learnt s deliveries (suc more) over goes rest =
      goes rest ∙ ap (λ b. from (elim b [
        | true ↦ record s { outcomes = rest }
        | false ↦ passes machine deliveries more
            (with_tries machine (record s { outcomes = rest }) deliveries)
      ])) over

  pub reading_is_learnt : ReadingIsLearnt machine
  reading_is_learnt whole learnt readings w event events outcome goes rest =
      ap whole (append_assoc learnt (outcome ∷ []) rest) ∙ goes (outcome ∷ rest)
      ∙ sym (append_assoc readings (read machine w event outcome ∷ [])
      (read_all machine (happens machine w (read machine w event outcome)) events rest))
