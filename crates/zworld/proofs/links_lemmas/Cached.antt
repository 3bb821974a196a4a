-- The messages on the channels that are stored, and what calls make of them.
use Rattle.std.proofs.Common.{◌≡◌, ℕ, ◌<◌, false, if◌then◌else◌, [], ◌∷◌, ◌++◌, refl, sym, ap, ◌∙◌, inl, inr}
use Rattle.std.specs.Prelude.{◌==◌, ◌&&◌}
use Rattle.std.specs.List.{AllByRecursion}
use Rattle.zcalls.proofs.Among.{test}
use Rattle.zprotocol.specs.declared.limits.TheConstants.{PROCESSES}
use Rattle.zprotocol.specs.declared.process.Process.{Process}
use Rattle.zprotocol.specs.Places.{place_of}
use Rattle.zprotocol.specs.world.Links.{is_same}
use Rattle.zprotocol.proofs.world_lemmas.Processes.{same_process}
use Rattle.zprotocol.proofs.world_lemmas.Tests.{both}
use Rattle.zworld.specs.links.Places.{Channel, Sent, messages, is_between, messages_at, sent_of, with_link}
use Rattle.zworld.specs.links.support.Order.{Holds, IsAround}
use Rattle.zworld.proofs.links_lemmas.Order.{before_elsewhere, behind_elsewhere, places_between}
use Rattle.zworld.proofs.links_lemmas.Places.{by_place}
use Rattle.zworld.proofs.links_lemmas.Sorted.{each}

module _ {T : Type 0} where
  -- a channel that isn't among those of a list, or of their first
  pub not_among : (channels : Sent T) (from to : ℕ) → AllByRecursion (λ c. is_between c from to ≡ false) channels → messages_at channels from to ≡ []
  not_among [] from to none = refl
  not_among (c ∷ cs) from to none = rw none.0 (not_among cs from to none.1)

  pub behind_others : (front back : Sent T) (from to : ℕ) → AllByRecursion (λ c. is_between c from to ≡ false) front
      → messages_at (front ++ back) from to ≡ messages_at back from to
  behind_others [] back from to none = refl
  behind_others (c ∷ front) back from to none = rw none.0 (behind_others front back from to none.1)

  -- one more channel, seen by the others
  others_with : (front back : Sent T) (c : Channel T) (from to : ℕ) → is_between c from to ≡ false
      → messages_at (front ++ c ∷ back) from to ≡ messages_at (front ++ back) from to
  others_with [] back c from to other = rw other refl
  others_with (d ∷ front) back c from to other =
      ap (λ queue. if is_between d from to then messages d else queue) (others_with front back c from to other)

  module _ (front back : Sent T) (from to : ℕ) (around : IsAround front back from to) where
    -- what is between these positions, and nothing
    here_with : (c : Channel T) → c.from ≡ from → c.to ≡ to → messages_at (front ++ c ∷ back) from to ≡ messages c
    here_with c is there =
        behind_others front (c ∷ back) from to (each (λ d behind. behind_elsewhere d from to behind) front around.behind)
        ∙ ap (λ b. if b then messages c else messages_at back from to) (places_between c from to is there)

    here_without : messages_at (front ++ back) from to ≡ []
    here_without =
        behind_others front back from to (each (λ d behind. behind_elsewhere d from to behind) front around.behind)
        ∙ not_among back from to (each (λ d before. before_elsewhere d from to before) back around.before)

  -- all channels, by those that are stored
  module _ (from to : Process) (f t : ℕ) (is : f ≡ place_of from) (js : t ≡ place_of to) (few : f < PROCESSES) (short : t < PROCESSES)
      (front back : Sent T) (around : IsAround front back f t) where
    -- one channel has these messages, and the others are as without it
    pub links_with : (c : Channel T) → c.from ≡ f → c.to ≡ t → Holds (front ++ c ∷ back) (with_link (sent_of (front ++ back)) from to (messages c))
    unfolding sent_of
    links_with c here there p q = elim (test (is_same p from && is_same q to)) [
      | inl same ↦
          let tests = both (is_same p from) (is_same q to) same in
          rw same (ap (λ x. messages_at (front ++ c ∷ back) (place_of x) (place_of q)) (same_process p from tests.0)
          ∙ ap (λ x. messages_at (front ++ c ∷ back) (place_of from) (place_of x)) (same_process q to tests.1)
          ∙ ap (λ n. messages_at (front ++ c ∷ back) n (place_of to)) (sym is) ∙ ap (λ n. messages_at (front ++ c ∷ back) f n) (sym js)
          ∙ here_with front back f t around c here there)
      | inr other ↦
          let elsewhere : is_between c (place_of p) (place_of q) ≡ false =
          ap (λ n. (n == place_of p) && (c.to == place_of q)) here ∙ ap (λ n. (f == place_of p) && (n == place_of q)) there
          ∙ ap (λ b. b && (t == place_of q)) (by_place p from f is few) ∙ ap (λ b. is_same p from && b) (by_place q to t js short) ∙ other in
          rw other (others_with front back c (place_of p) (place_of q) elsewhere)
    ]

    -- or it has none
    pub links_without : Holds (front ++ back) (with_link (sent_of (front ++ back)) from to [])
    unfolding sent_of
    links_without p q = elim (test (is_same p from && is_same q to)) [
      | inl same ↦
          let tests = both (is_same p from) (is_same q to) same in
          rw same (ap (λ x. messages_at (front ++ back) (place_of x) (place_of q)) (same_process p from tests.0)
          ∙ ap (λ x. messages_at (front ++ back) (place_of from) (place_of x)) (same_process q to tests.1)
          ∙ ap (λ n. messages_at (front ++ back) n (place_of to)) (sym is) ∙ ap (λ n. messages_at (front ++ back) f n) (sym js)
          ∙ here_without front back f t around)
      | inr other ↦ rw other refl
    ]
