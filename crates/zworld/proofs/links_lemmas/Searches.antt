-- Between which positions nothing is in flight.
use Rattle.std.proofs.Common.{◌≡◌, ℕ, suc, ◌<◌, true, [], ◌∷◌, refl, sym, ap, subst, ◌∙◌, arith, inl, inr}
use Rattle.std.proofs.Common.{length, get_or, take, drop, take-append-drop, length-take-le, get_or-take}
use mathlib.Core.Bool.{true≢false}
use Rattle.std.proofs.lemmas.List.Elements.{All-from_recursion}
use Rattle.std.proofs.lemmas.List.Folds.{list_any_at}
use Rattle.std.specs.Prelude.{◌||◌}
use Rattle.std.specs.List.{AllByRecursion, list_any}
use Rattle.zcalls.proofs.Among.{test}
use Rattle.zprotocol.specs.declared.process.Process.{Process}
use Rattle.zprotocol.specs.Places.{place_of}
use Rattle.zworld.specs.declared.links.turn.Turn.{Turn}
use Rattle.zworld.specs.links.Places.{Channel, Sent, is_between, messages_at, sent_of, holds, Between, Precedes, Reaches}
use Rattle.zworld.specs.links.support.Order.{IsFrom, IsCountFrom}
use Rattle.zworld.proofs.links_lemmas.Cached.{not_among, behind_others}
use Rattle.zworld.proofs.links_lemmas.Order.{before_elsewhere, behind_elsewhere, places_between}
use Rattle.zworld.proofs.links_lemmas.Sorted.{each}

-- positions before a turn come before a later one
pub before_later : (from to sooner_from sooner_to later_from later_to : ℕ) → Precedes from to sooner_from sooner_to
    → Reaches sooner_from sooner_to later_from later_to → Precedes from to later_from later_to
before_later from to sooner_from sooner_to later_from later_to before later = (
  omega (arith, before.0, later.0),
  λ back. omega (arith, before.1 (omega (arith, later.0, back)), later.1 (omega (arith, before.0, back))),
)

module _ {T : Type 0} where
  -- a channel on which something was sent holds something
  held_among : (channels : Sent T) (from to : ℕ) → list_any (λ c. is_between c from to) channels ≡ true → holds (messages_at channels from to) ≡ true
  held_among [] from to some = absurd (true≢false (sym some))
  held_among (c ∷ cs) from to some = elim (test (is_between c from to)) [
    | inl here ↦ rw here refl
    | inr other ↦ rw other (held_among cs from to (ap (λ b. b || list_any (λ (d : Channel T). is_between d from to) cs) (sym other) ∙ some))
  ]

  module _ (channels : Sent T) (from to count : ℕ) (searched : IsCountFrom channels from to count) where
    -- the one that a search found: the last of those that it counted
    pub found_from : (c : Channel T) (n : ℕ) → suc n ≡ count → c ≡ get_or channels n c → IsFrom c from to
    found_from c n is read =
        subst (λ (d : Channel T). IsFrom d from to) (get_or-take count channels n c (omega (arith, is)) ∙ sym read)
        (All-from_recursion (λ (d : Channel T). IsFrom d from to) (take count channels) searched.counted n c
        (omega (arith, is, length-take-le count channels searched.within)))

    -- where it found none there are none
    pub none_from : count ≡ 0 → (f t : ℕ) → AllByRecursion (λ other. IsFrom other f t) (take count channels)
    none_from none f t = subst (λ m. AllByRecursion (λ other. IsFrom other f t) (take m channels)) (sym none) tt

    -- where those that it counted are from a turn on, nothing is on the channels before it
    module _ (end : Turn) (others : AllByRecursion (λ other. IsFrom other end.sender end.receiver) (take count channels)) where
      empty_until : (f t : ℕ) → Reaches from to f t → Precedes f t end.sender end.receiver → messages_at channels f t ≡ []
      empty_until f t reaches before =
          ap (λ cs. messages_at cs f t) (sym (take-append-drop count channels))
          ∙ behind_others (take count channels) (drop count channels) f t
          (each (λ c is. behind_elsewhere c f t (before_later f t end.sender end.receiver c.from c.to before is)) (take count channels) others)
          ∙ not_among (drop count channels) f t
          (each (λ c is. before_elsewhere c f t (before_later c.from c.to from to f t is reaches)) (drop count channels) searched.before)

      -- the same, of processes
      pub turns_until : Between from to end (λ p q. sent_of channels p q ≡ [])
      unfolding sent_of
      turns_until p q few reaches before = empty_until (place_of p) (place_of q) reaches before

  -- what was found holds something
  pub turn_there : (channels : Sent T) (p q : Process) (count : ℕ) (c : Channel T) → count < length channels → c ≡ get_or channels count c
      → c.from ≡ place_of p → c.to ≡ place_of q → holds (sent_of channels p q) ≡ true
  unfolding sent_of
  turn_there channels p q count c within read here there =
      held_among channels (place_of p) (place_of q) (list_any_at (λ (d : Channel T). is_between d (place_of p) (place_of q)) channels count c within
      (ap (λ (d : Channel T). is_between d (place_of p) (place_of q)) (sym read) ∙ places_between c (place_of p) (place_of q) here there))
