-- The master table is the rows of its cases.
use Rattle.std.proofs.Common.{◌≡◌, ℕ, ◌+◌, true, ◌==◌, List, [], ◌∷◌, ◌++◌, Option, Some, None, refl, sym, ap, subst, inl, inr, eqb-true}
use Rattle.std.proofs.lemmas.List.{append_assoc}
use mathlib.Core.Bool.{true≢false}
use Rattle.zcalls.proofs.Among.{test}
use Rattle.zprotocol.specs.declared.message.Message.{Message}
use Rattle.zprotocol.specs.declared.message.Message.TheVariants as message
use Rattle.zprotocol.specs.declared.process.Process.{Process}
use Rattle.zprotocol.specs.declared.process.Process.TheVariants.{Server}
use Rattle.zprotocol.specs.server.View.{Neighbour}
use Rattle.zprotocol.specs.master.View.{MasterView, is_among, members, is_joining}
use Rattle.zprotocol.specs.master.Table.{before, MendedChain, mended_chain, mended_chain_behind, without_next, without_first, have_row, joined_row, gone_row, master_step}
use Rattle.zprotocol.proofs.master_lemmas.Numbers.{numbers_of, later}
use Rattle.zprotocol.specs.master.support.Cases.{IsMended, Only, First, Last, Between, IsMasterRow, Ignores, Reports, Joins, LeavesOutside, Leaves}

module _ {T : Type 0} (epoch s : ℕ) where
  -- what is left after p, and which orders are sent
  abbrev next : ℕ → List Neighbour → MendedChain T
  next p rest = without_next epoch p rest

  abbrev behind : ℕ → List Neighbour → MendedChain T
  behind p rest = mended_chain_behind epoch s p rest

  -- a chain that is mended after its front
  abbrev IsMendedTo : List Neighbour → List Neighbour → MendedChain T → Type 0
  IsMendedTo chain front done = IsMended epoch s chain (front ++ done.0, done.1)

  -- who is after p has failed
  next_case : (front : List Neighbour) (p : Neighbour) (k : ℕ) (rest : List Neighbour)
      → IsMended epoch s (front ++ p ∷ (s, k) ∷ rest) (front ++ p ∷ (next p.0 rest).0, (next p.0 rest).1)
  next_case front p k [] = Last front p k
  next_case front p k (t ∷ rest) = Between front p k t rest

  -- the chain after p, where s is in it
  behind_case : (p : Neighbour) (chain : List Neighbour) → is_among s (numbers_of chain) ≡ true → (front : List Neighbour)
      → IsMended epoch s (front ++ p ∷ chain) (front ++ p ∷ (behind p.0 chain).0, (behind p.0 chain).1)
  behind_case p [] among front = absurd (true≢false (sym among))
  behind_case p (t ∷ rest) among front = elim (test (t.0 == s)) [
    | inl here ↦
        let is : s ≡ t.0 = sym (eqb-true _ _ here) in
        let did : MendedChain T = next p.0 rest in
        rw here (subst (λ x. IsMended epoch s (front ++ p ∷ (x, t.1) ∷ rest) (front ++ p ∷ did.0, did.1)) is (next_case front p t.1 rest))
    | inr not ↦
        let did : MendedChain T = behind t.0 rest in
        let there : IsMended epoch s ((front ++ p ∷ []) ++ t ∷ rest) ((front ++ p ∷ []) ++ t ∷ did.0, did.1) =
        behind_case t rest (later (t.0 == s) _ not among) (front ++ p ∷ []) in
        let here : IsMended epoch s (front ++ p ∷ t ∷ rest) ((front ++ p ∷ []) ++ t ∷ did.0, did.1) =
        subst (λ xs. IsMended epoch s xs ((front ++ p ∷ []) ++ t ∷ did.0, did.1)) (append_assoc front (p ∷ []) (t ∷ rest)) there in
        rw not (subst (λ (xs : List Neighbour). IsMended epoch s (front ++ p ∷ t ∷ rest) (xs, did.1)) (append_assoc front (p ∷ []) (t ∷ did.0)) here)
  ]

  -- a chain with s in it
  mended_case : (chain : List Neighbour) → is_among s (numbers_of chain) ≡ true → IsMended {T = T} epoch s chain (mended_chain epoch s chain)
  mended_case [] among = absurd (true≢false (sym among))
  mended_case (t ∷ rest) among = elim (test (t.0 == s)) [
    | inl here ↦
        let is : s ≡ t.0 = sym (eqb-true _ _ here) in
        rw here (subst (λ x. IsMended {T = T} epoch s ((x, t.1) ∷ rest) (without_first epoch rest)) is (first_case t.1 rest))
    | inr not ↦ rw not (behind_case t rest (later (t.0 == s) _ not among) [])
  ]
    where
      first_case : (k : ℕ) (rest : List Neighbour) → IsMended {T = T} epoch s ((s, k) ∷ rest) (without_first epoch rest)
      first_case k [] = Only k
      first_case k (t ∷ rest) = First k t rest

-- the server that is joining
is_the_joining : (v : MasterView) (joining : Option ℕ) (s : ℕ) → is_joining (record v { joining = joining }) s ≡ true → joining ≡ Some s
is_the_joining v None s is = absurd (true≢false (sym is))
is_the_joining v (Some joining) s is = ap Some (eqb-true _ _ is)

module _ {T : Type 0} (v : MasterView) where
  -- Have, by the member that is found before its sender
  found : (s epoch : ℕ) (last : Option ℕ) (p : Option ℕ) → before s epoch v.chain ≡ p → IsMasterRow {T = T} v (Server s) (message.Have epoch last) (have_row v s epoch last)
  unfolding have_row
  found s epoch last None is = rw (is, have_row) (Ignores (Server s) (message.Have epoch last))
  found s epoch last (Some p) is = rw (is, have_row) (Reports s epoch last p is)

  joined : (s epoch : ℕ) → IsMasterRow {T = T} v (Server s) (message.Joined epoch) (joined_row v s)
  unfolding joined_row
  joined s epoch = elim (test (is_joining v s)) [
    | inl is ↦ rw is (Joins s epoch (is_the_joining v v.joining s is))
    | inr not ↦ rw not (Ignores (Server s) (message.Joined epoch))
  ]

  gone : (s : ℕ) → IsMasterRow {T = T} v (Server s) message.Gone (gone_row v s)
  unfolding gone_row
  gone s = elim (test (is_among s (members v))) [
    | inl among ↦ rw among (Leaves s (mended_chain (v.epoch + 1) s v.chain) among (mended_case (v.epoch + 1) s v.chain among))
    | inr not ↦ rw not (LeavesOutside s not)
  ]

  -- the table is these rows
  pub master_case : (from : Process) (m : Message T) → IsMasterRow v from m (master_step v from m)
  unfolding master_step
  master_case (Server s) (message.Have epoch last) = found s epoch last (before s epoch v.chain) refl
  master_case (Server s) (message.Joined epoch) = joined s epoch
  master_case (Server s) message.Gone = gone s
  master_case from m = Ignores from m
