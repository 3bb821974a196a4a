-- What holds of all processes holds once one has another standing.
use Rattle.std.proofs.Common.{◌≡◌, ◌<◌, true, false, if◌then◌else◌, List, length, set, sym, ap, ◌∙◌, inl, inr}
use Rattle.std.specs.Prelude.{◌||◌}
use mathlib.Core.Bool.{true≢false}
use Rattle.zcalls.proofs.Among.{test}
use Rattle.zprotocol.specs.declared.limits.TheConstants.{PROCESSES}
use Rattle.zprotocol.specs.declared.process.Process.{Process}
use Rattle.zprotocol.specs.Places.{place_of}
use Rattle.zactor.specs.Acting.{TreeStanding, can_stand, has_stopped}
use Rattle.zworld.specs.links.Places.{has_notice, Notes}
use Rattle.zprotocol.specs.world.Links.{is_same}
use Rattle.zprotocol.proofs.world_lemmas.Processes.{same_process}
use Rattle.zworld.specs.Held.{HeldChannels, standing_at}
use Rattle.zworld.specs.support.Posting.{HasEnded}
use Rattle.zworld.proofs.Standing.{standing_set}

module _ (actors : List TreeStanding) (process : Process) (new : TreeStanding) (inside : place_of process < length actors)
    (all : length actors ≡ PROCESSES)
    (lived : has_stopped (standing_at actors process) ≡ false) where
  abbrev later : List TreeStanding
  later = set actors (place_of process) new

  -- each has a standing that it can have
  pub stand_then : can_stand process new ≡ true → ((p : Process) → can_stand p (standing_at actors p) ≡ true)
      → (q : Process) → can_stand q (standing_at later q) ≡ true
  stand_then can stand q =
      ap (can_stand q) (standing_set actors process q new inside all) ∙ elim (test (is_same q process)) [
        | inl same ↦
            ap (λ b. can_stand q (if b then new else standing_at actors q)) same
            ∙ ap (λ p. can_stand p new) (same_process q process same) ∙ can
        | inr other ↦ ap (λ b. can_stand q (if b then new else standing_at actors q)) other ∙ stand q
      ]

  -- one that had stopped is another, and is unchanged
  stopped_then : (q : Process) → has_stopped (standing_at actors q) ≡ true → has_stopped (standing_at later q) ≡ true
  stopped_then q gone =
      ap has_stopped (standing_set actors process q new inside all) ∙ elim (test (is_same q process)) [
        | inl same ↦ absurd (true≢false (sym gone ∙ ap (λ p. has_stopped (standing_at actors p)) (same_process q process same) ∙ lived))
        | inr other ↦ ap (λ b. has_stopped (if b then new else standing_at actors q)) other ∙ gone
      ]

  module _ (old links : HeldChannels) (noted : (p : Process) → has_notice old p ≡ true → has_stopped (standing_at actors p) ≡ true) where
    -- who has sent its failure notice has stopped: where none was sent
    pub noted_then : Notes links (has_notice old) → (q : Process) → has_notice links q ≡ true → has_stopped (standing_at later q) ≡ true
    noted_then notes q is = stopped_then q (noted q (sym (notes q) ∙ is))

    -- and where the process sent its own
    pub noted_end : has_stopped new ≡ true → HasEnded old links process → (q : Process) → has_notice links q ≡ true
        → has_stopped (standing_at later q) ≡ true
    noted_end out ended q is = elim (test (is_same q process)) [
      | inl same ↦
          ap has_stopped (standing_set actors process q new inside all ∙ ap (λ b. if b then new else standing_at actors q) same) ∙ out
      | inr other ↦ stopped_then q (noted q (ap (λ b. b || has_notice old q) (sym other) ∙ ended.notices q is))
    ]
