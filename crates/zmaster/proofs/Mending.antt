-- A chain that is mended at a position is the table's.
use Rattle.std.proofs.Common.{◌≡◌, ℕ, ◌+◌, ◌<◌, Bool, true, false, ◌==◌, nat_lt, List, [], ◌∷◌, Option, Some, None, length, zero, suc, refl, sym, ap, ◌∙◌, arith, get_or, inl, inr, map}
use Rattle.std.specs.Prelude.{slice_set, cond, is_some}
use Rattle.std.specs.List.{position, position_or_len, remove, refill}
use Rattle.std.proofs.lemmas.List.Quantifiers.{position-Some}
use Rattle.std.proofs.lemmas.Bool.Decides.{nat_tests}
use Rattle.zcalls.proofs.Among.{test}
use Rattle.zprotocol.specs.declared.message.Message.TheVariants as message
use Rattle.zprotocol.specs.declared.process.Process.TheVariants.{Server}
use Rattle.zprotocol.specs.server.View.{Neighbour}
use Rattle.zprotocol.specs.master.View.{is_among}
use Rattle.zprotocol.specs.master.Table.{MendedChain, mended_chain, mended_chain_behind}
use Rattle.zmaster.specs.support.Mending.{IsPlace, mended_at, mended_behind_at}

-- the numbers of a chain
abbrev numbers_of : List Neighbour → List ℕ
numbers_of chain = map (λ member. member.0) chain

-- the position that is found
to_place : (s at : ℕ) (chain : List Neighbour) (d : Neighbour) → at < length chain → ((get_or chain at d).0 == s) ≡ true
    → ((k : ℕ) → k < at → ((get_or chain k d).0 == s) ≡ false) → IsPlace s at chain
to_place s at [] d within here none = absurd (omega arith)
to_place s zero (t ∷ rest) d within here none = here
to_place s (suc at) (t ∷ rest) d within here none = (none 0 (omega arith), to_place s at rest d (omega arith) here (λ k low. none (suc k) (omega arith)))

pub place_found : (s : ℕ) (chain : List Neighbour) (at : ℕ) → position (λ (member : Neighbour). member.0 == s) chain ≡ Some at → IsPlace s at chain
place_found s chain at found =
    let is = position-Some (λ (member : Neighbour). member.0 == s) chain at (0, 0) found in
    to_place s at chain (0, 0) is.0 is.1 is.2

-- a position is within the chain
pub place_within : (s at : ℕ) (chain : List Neighbour) → IsPlace s at chain → at < length chain
place_within s at [] place = absurd place
place_within s zero (t ∷ rest) place = omega arith
place_within s (suc at) (t ∷ rest) place = omega (arith, place_within s at rest place.1)

-- and its server is a member
pub place_among : (s at : ℕ) (chain : List Neighbour) → IsPlace s at chain → is_among s (numbers_of chain) ≡ true
place_among s at [] place = absurd place
place_among s zero (t ∷ rest) place = rw place refl
place_among s (suc at) (t ∷ rest) place = rw place.0 (place_among s at rest place.1)

module _ {T : Type 0} (epoch s : ℕ) where
  -- the chain after p
  behind_place : (p at : ℕ) (chain : List Neighbour) → IsPlace s at chain
      → mended_chain_behind {T = T} epoch s p chain ≡ mended_behind_at epoch p at (remove chain at)
  behind_place p at [] place = absurd place
  behind_place p zero (t ∷ rest) place = rw place refl
  behind_place p (suc at) (t ∷ rest) place = rw place.0 (ap (λ (m : MendedChain T). (t ∷ m.0, m.1)) (behind_place t.0 at rest place.1))

  -- the whole chain
  pub mended_place : (at : ℕ) (chain : List Neighbour) → IsPlace s at chain
      → mended_chain {T = T} epoch s chain ≡ mended_at epoch at (remove chain at)
  mended_place at [] place = absurd place
  mended_place zero (t ∷ rest) place = rw place refl
  mended_place (suc at) (t ∷ rest) place = rw place.0 (ap (λ (m : MendedChain T). (t ∷ m.0, m.1)) (behind_place t.0 at rest place.1))

module _ {T : Type 0} (epoch : ℕ) where
  -- the last has gone: the one before it is the tail
  behind_end : (p : Neighbour) (at : ℕ) (rest : List Neighbour) (before : Neighbour) → at ≡ length rest → before ≡ get_or (p ∷ rest) at before
      → mended_behind_at {T = T} epoch p.0 at rest ≡ (rest, (Server before.0, message.BecomeTail epoch) ∷ [])
  behind_end p zero [] before end is = rw is refl
  behind_end p zero (t ∷ rest) before end is = absurd (omega arith)
  behind_end p (suc at) [] before end is = absurd (omega arith)
  behind_end p (suc at) (t ∷ rest) before end is = ap (λ (m : MendedChain T). (t ∷ m.0, m.1)) (behind_end t at rest before (omega arith) is)

  pub mended_end : (at place : ℕ) (members : List Neighbour) (before : Neighbour) → place + 1 ≡ at → at ≡ length members → before ≡ get_or members place before
      → mended_at {T = T} epoch at members ≡ (members, (Server before.0, message.BecomeTail epoch) ∷ [])
  mended_end zero place members before follows end is = absurd (omega arith)
  mended_end (suc at) place [] before follows end is = absurd (omega arith)
  mended_end (suc at) place (t ∷ rest) before follows end is =
      let same : place ≡ at = omega arith in
      ap (λ (m : MendedChain T). (t ∷ m.0, m.1)) (behind_end t at rest before (omega arith) (is ∙ ap (λ k. get_or (t ∷ rest) k before) same))

  -- one between two others has gone: the next one is a pair with the one before
  behind_between : (p : Neighbour) (at : ℕ) (rest : List Neighbour) (before next : Neighbour) → at < length rest
      → before ≡ get_or (p ∷ rest) at before → next ≡ get_or rest at next
      → mended_behind_at {T = T} epoch p.0 at rest ≡ (slice_set rest at (next.0, epoch), (Server next.0, message.NewPred epoch before.0) ∷ [])
  behind_between p at [] before next within is stands = absurd (omega arith)
  behind_between p zero (t ∷ rest) before next within is stands = rw (is, stands) refl
  behind_between p (suc at) (t ∷ rest) before next within is stands =
      ap (λ (m : MendedChain T). (t ∷ m.0, m.1)) (behind_between t at rest before next (omega arith) is stands)

  pub mended_between : (at place : ℕ) (members : List Neighbour) (before next : Neighbour) → place + 1 ≡ at → at < length members
      → before ≡ get_or members place before → next ≡ get_or members at next
      → mended_at {T = T} epoch at members ≡ (slice_set members at (next.0, epoch), (Server next.0, message.NewPred epoch before.0) ∷ [])
  mended_between zero place members before next follows within is stands = absurd (omega arith)
  mended_between (suc at) place [] before next follows within is stands = absurd (omega arith)
  mended_between (suc at) place (t ∷ rest) before next follows within is stands =
      let same : place ≡ at = omega arith in
      ap (λ (m : MendedChain T). (t ∷ m.0, m.1))
      (behind_between t at rest before next (omega arith) (is ∙ ap (λ k. get_or (t ∷ rest) k before) same) stands)

-- a list that is written in whole
pub refilled : (members written : List Neighbour) → length written ≡ length members → refill (length members) members written ≡ written
refilled [] [] same = refl
refilled [] (w ∷ written) same = absurd (omega arith)
refilled (m ∷ members) [] same = absurd (omega arith)
refilled (m ∷ members) (w ∷ written) same = ap (λ (ws : List Neighbour). w ∷ ws) (refilled members written (omega arith))

-- a position that isn't found: the server is no member
missing : (s : ℕ) (chain : List Neighbour) → nat_lt (position_or_len (λ (member : Neighbour). member.0 == s) chain) (length chain) ≡ false
    → is_among s (numbers_of chain) ≡ false
missing s [] none = refl
missing s (t ∷ rest) none = elim (test (t.0 == s)) [
  | inl here ↦ let found = rw here at none in let never : ⊥ = grind (arith, nat_tests, found) in absurd never
  | inr other ↦ let more = rw other at none in rw other (missing s rest (grind (arith, nat_tests, more)))
]

cond_none : (b : Bool) (x : ℕ) → ◌≡◌ {A = Option ℕ} (cond b (Some x) None) None → b ≡ false
cond_none true x is = let never : ⊥ = cc in absurd never
cond_none false x is = refl

pub place_missing : (s : ℕ) (chain : List Neighbour) → ◌≡◌ {A = Option ℕ} (position (λ (member : Neighbour). member.0 == s) chain) None
    → is_among s (numbers_of chain) ≡ false
place_missing s chain none = missing s chain (cond_none _ _ none)

-- a position is found where the server is a member
pub found_is_member : (s : ℕ) (chain : List Neighbour) (found : Option ℕ) → found ≡ position (λ (member : Neighbour). member.0 == s) chain
    → is_among s (numbers_of chain) ≡ is_some found
found_is_member s chain None is = place_missing s chain (sym is)
found_is_member s chain (Some at) is = place_among s at chain (place_found s chain at (sym is))
