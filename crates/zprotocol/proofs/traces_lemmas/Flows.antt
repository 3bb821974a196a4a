-- A link, and what is still to come of it: what it holds and what will be put on it, against what will be taken of it.
use Rattle.std.proofs.Common.{◌≡◌, ◌<◌, ◌≤◌, ℕ, List, [], ◌∷◌, ◌++◌, map, refl, sym, ap, ◌∙◌, append_assoc, arith}
use Rattle.std.proofs.lemmas.List.{map-append}
use Rattle.zprotocol.specs.declared.process.Process.{Process}
use Rattle.zprotocol.specs.server.Machine.{Does}
use Rattle.zprotocol.specs.server.View.{MessageOf}
use Rattle.zprotocol.specs.world.Links.{messages_to}
use Rattle.zprotocol.specs.traces.Deeds.{Stamped, Deed, GoesBy, stamp_of, stamped, puts}
use Rattle.zprotocol.specs.world.Does.{Standing}
use Rattle.zprotocol.proofs.traces_lemmas.Deeds.{rises}

-- messages without their stamps
abbrev pub bare : {M : Type 0} → List (Stamped M) → List (MessageOf M)
bare {M} ms = map (λ (m : Stamped M). m.1) ms

-- what the link holds and what will be put begins with what will be taken
abbrev pub Flows : {M : Type 0} → List (MessageOf M) → List (Stamped M) → List (Stamped M) → Type 0
Flows {M} link future awaited = (held more : List (Stamped M)) × (bare held ≡ link) × (held ++ future ≡ awaited ++ more)

module _ {M : Type 0} where
  bare_stamped : (stamp : ℕ) (ms : List (MessageOf M)) → bare (stamped stamp ms) ≡ ms
  bare_stamped stamp [] = refl
  bare_stamped stamp (m ∷ ms) = ap (λ l. m ∷ l) (bare_stamped stamp ms)

  -- where nothing will be taken
  pub flows_out : (link : List (MessageOf M)) (future : List (Stamped M)) → Flows link future []
  flows_out link future = (stamped 0 link, stamped 0 link ++ future, bare_stamped 0 link, refl)

  -- messages are put
  pub flows_put : (link : List (MessageOf M)) (stamp : ℕ) (ms : List (MessageOf M)) (future awaited : List (Stamped M))
      → Flows link (stamped stamp ms ++ future) awaited → Flows (link ++ ms) future awaited
  flows_put link stamp ms future awaited (held, more, is, runs) = (
    held ++ stamped stamp ms,
    more,
    map-append (λ (m : Stamped M). m.1) held (stamped stamp ms) ∙ ap (λ l. l ++ bare (stamped stamp ms)) is
        ∙ ap (λ l. link ++ l) (bare_stamped stamp ms),
    append_assoc held (stamped stamp ms) future ∙ runs,
  )

  -- a message that is still to be put isn't taken: so the front is there
  pub flows_take : (link : List (MessageOf M)) (future : List (Stamped M)) (m : Stamped M) (awaited : List (Stamped M))
      → Flows link future (m ∷ awaited)
      → ((others : List (Stamped M)) → future ≡ m ∷ others → ⊥) → (more : List (MessageOf M)) × (link ≡ m.1 ∷ more) × Flows more future awaited
  flows_take link future m awaited ([], more, is, runs) late = absurd (late (awaited ++ more) runs)
  flows_take link future m awaited (x ∷ held, more, is, runs) late =
      let first : x ≡ m = cc runs in
      let rest : held ++ future ≡ awaited ++ more = cc runs in
      (bare held, sym is ∙ ap (λ (y : Stamped M). y.1 ∷ bare held) first, (held, more, refl, rest))

  module _ (machine : Does M) (q : Process) where
    -- what is still to be put has stamps of events that are still to come
    pub puts_late : (standing : Standing M) (last : ℕ) (deeds : List (Deed M)) (to : Process) (m : Stamped M) (others : List (Stamped M))
        → GoesBy machine q standing last deeds
        → puts to deeds ≡ m ∷ others → last < m.0
    puts_late standing last [] to m others goes is = absurd (cc is)
    puts_late standing last (d ∷ deeds) to m others goes is =
        by (messages_to to d.posts) is (puts_late d.left d.event.stamp deeds to m others goes.2)
        (rises q last (stamp_of d.took) d.event.stamp goes.1).0
      where
        by : (ms : List (MessageOf M)) → stamped d.event.stamp ms ++ puts to deeds ≡ m ∷ others
            → (puts to deeds ≡ m ∷ others → d.event.stamp < m.0) → last < d.event.stamp → last < m.0
        by [] is later up = omega (arith, later is, up)
        by (x ∷ ms) is later up =
            let same : ◌≡◌ {A = Stamped M} (d.event.stamp, x) m = cc is in
            omega (arith, ap (λ (y : Stamped M). y.0) same, up)

    pub puts_from_front : (standing : Standing M) (last : ℕ) (d : Deed M) (deeds : List (Deed M)) (to : Process)
        (m : Stamped M) (others : List (Stamped M))
        → GoesBy machine q standing last (d ∷ deeds) → puts to (d ∷ deeds) ≡ m ∷ others → d.event.stamp ≤ m.0
    puts_from_front standing last d deeds to m others goes is = by (messages_to to d.posts) is
      where
        by : (ms : List (MessageOf M)) → stamped d.event.stamp ms ++ puts to deeds ≡ m ∷ others → d.event.stamp ≤ m.0
        by [] is = omega (arith, puts_late d.left d.event.stamp deeds to m others goes.2 is)
        by (x ∷ ms) is =
            let same : ◌≡◌ {A = Stamped M} (d.event.stamp, x) m = cc is in
            omega (arith, ap (λ (y : Stamped M). y.0) same)
