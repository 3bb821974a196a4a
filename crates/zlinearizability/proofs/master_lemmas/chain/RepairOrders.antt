-- Which orders servers are sent when a member is taken out of the chain, and who has another
-- position then. Lists and messages only.
use Rattle.std.proofs.Common.{◌≡◌, ◌⊎◌, ℕ, true, false, ◌==◌, List, [], ◌∷◌, Option, Some, None, refl, sym, ap, ◌∙◌}
use Rattle.std.proofs.Common.{subst, inl, inr, eqb-true, eq-eqb}
use Rattle.zcalls.specs.declared.call.Entry.{Entry}
use Rattle.zcalls.specs.Lists.{Among}
use Rattle.zcalls.proofs.Among.{test}
use Rattle.zprotocol.specs.declared.message.Message.TheVariants as message
use Rattle.zprotocol.specs.declared.process.Process.TheVariants.{Master, Server}
use Rattle.zprotocol.specs.server.View.{Post, Neighbour}
use Rattle.zprotocol.specs.world.Links.{messages_to}
use Rattle.zlinearizability.specs.chain.Flow.{LogWorld, LogMessage}
use Rattle.zlinearizability.specs.chain.Chain.{Place, place_behind, place_from, turn_of}
use Rattle.zlinearizability.specs.chain.Messages.{IsJustified}
use Rattle.zlinearizability.proofs.master_lemmas.chain.MendedChains.{repair}

-- which order a server is sent
pub data IsReported (before : Option ℕ) (e : ℕ) (rest : List Neighbour) (z : ℕ) (m : LogMessage) : Type 0 where
  Heads : (r : Neighbour) (more : List Neighbour) → before ≡ None → rest ≡ r ∷ more → z ≡ r.0 → m ≡ message.BecomeHead e → IsReported before e rest z m
  Ends : (p : ℕ) → before ≡ Some p → rest ≡ [] → z ≡ p → m ≡ message.BecomeTail e → IsReported before e rest z m
  Turns : (p : ℕ) (r : Neighbour) (more : List Neighbour) → before ≡ Some p → rest ≡ r ∷ more → z ≡ r.0 → m ≡ message.NewPred e p
      → IsReported before e rest z m

-- a server is sent one order, or none
pub one_reported : (y : ℕ) (o : LogMessage) (z : ℕ) → (messages_to (Server z) ((Server y, o) ∷ []) ≡ [])
    ⊎ ((z ≡ y) × (messages_to (Server z) ((Server y, o) ∷ []) ≡ o ∷ []))
one_reported y o z = elim (test (z == y)) [ inl t ↦ inr (eqb-true _ _ t, rw t refl) | inr f ↦ inl (rw f refl) ]

-- so of a repair
pub reported_one : (before : Option ℕ) (e : ℕ) (rest : List Neighbour) (z : ℕ)
    → (messages_to (Server z) (repair before e rest).1 ≡ [])
    ⊎ ((m : LogMessage) × (messages_to (Server z) (repair before e rest).1 ≡ m ∷ []) × IsReported before e rest z m)
reported_one None e [] z = inl refl
reported_one None e (r ∷ more) z = elim (one_reported r.0 (message.BecomeHead e) z)
    [ inl n ↦ inl n | inr o ↦ inr (message.BecomeHead e, o.1, Heads r more refl refl o.0 refl) ]
reported_one (Some p) e [] z = elim (one_reported p (message.BecomeTail e) z)
    [ inl n ↦ inl n | inr o ↦ inr (message.BecomeTail e, o.1, Ends p refl refl o.0 refl) ]
reported_one (Some p) e (r ∷ more) z = elim (one_reported r.0 (message.NewPred e p) z)
    [ inl n ↦ inl n | inr o ↦ inr (message.NewPred e p, o.1, Turns p r more refl refl o.0 refl) ]

-- the next one is sent its new position
pub reported_turned : (before : Option ℕ) (e : ℕ) (r : Neighbour) (more : List Neighbour) (z : ℕ) → z ≡ r.0
    → (m : LogMessage) × (messages_to (Server z) (repair before e (r ∷ more)).1 ≡ m ∷ []) × (turn_of m ≡ Some (place_behind before e))
reported_turned None e r more z is = let t : (z == r.0) ≡ true = eq-eqb z r.0 is in (message.BecomeHead e, rw t refl, refl)
reported_turned (Some p) e r more z is = let t : (z == r.0) ≡ true = eq-eqb z r.0 is in (message.NewPred e p, rw t refl, refl)

-- all of it is justified
pub repair_justified : (before : Option ℕ) (e : ℕ) (rest : List Neighbour) (w : LogWorld) (items : List _) (post : Post (List Entry))
    → Among post (repair before e rest).1 → IsJustified w items Master post.0 post.1
repair_justified None e [] w items post a = absurd a
repair_justified None e (r ∷ more) w items post (inl is) = subst (λ (q : Post (List Entry)). IsJustified w items Master q.0 q.1) is tt
repair_justified None e (r ∷ more) w items post (inr a) = absurd a
repair_justified (Some p) e [] w items post (inl is) = subst (λ (q : Post (List Entry)). IsJustified w items Master q.0 q.1) is tt
repair_justified (Some p) e [] w items post (inr a) = absurd a
repair_justified (Some p) e (r ∷ more) w items post (inl is) = subst (λ (q : Post (List Entry)). IsJustified w items Master q.0 q.1) is tt
repair_justified (Some p) e (r ∷ more) w items post (inr a) = absurd a

-- who was right after the one that is gone, and has another position now
pub record IsTurned (before : Option ℕ) (e : ℕ) (rest : List Neighbour) (x z : ℕ) (place : Place) (old : Option Place) : Type 0 where
  pub next : Neighbour
  pub more : List Neighbour
  pub is : rest ≡ next ∷ more
  pub here : z ≡ next.0
  pub place_is : place_behind before e ≡ place
  pub was : old ≡ Some (Some (x, next.1))

-- who isn't there
abbrev pub IsElsewhere : List Neighbour → ℕ → Type 0
IsElsewhere rest z = (r : Neighbour) (more : List Neighbour) → rest ≡ r ∷ more → z ≡ r.0 → ⊥

elsewhere : (r : Neighbour) (more : List Neighbour) (z : ℕ) → (r.0 == z) ≡ false → IsElsewhere (r ∷ more) z
elsewhere r more z f q others e is =
    let heads : r ≡ q = cc e in let t : (r.0 == z) ≡ true = eq-eqb r.0 z (ap (λ (n : Neighbour). n.0) heads ∙ sym is) in cc (f, t)

-- a position after the repair is old, or that of who is turned
pub repair_place : (before : Option ℕ) (e : ℕ) (rest : List Neighbour) (x k z : ℕ) (place : Place) → (x == z) ≡ false
    → place_from before (repair before e rest).0 z ≡ Some place
    → ((place_from before ((x, k) ∷ rest) z ≡ Some place) × IsElsewhere rest z) ⊎ IsTurned before e rest x z place
    (place_from before ((x, k) ∷ rest) z)
repair_place None e [] x k z place f h = absurd (cc h)
repair_place (Some p) e [] x k z place f h = absurd (cc h)
repair_place None e (r ∷ more) x k z place f h = elim (test (r.0 == z)) [
  | inl t ↦
      let is : ◌≡◌ {A = Option Place} (Some None) (Some place) = rw t at h in
      inr (record { next = r; more = more; is = refl; here = sym (eqb-true _ _ t); place_is = cc is; was = rw f (rw t refl) })
  | inr g ↦ inl (rw f (rw g (rw g at h)), elsewhere r more z g)
]
repair_place (Some p) e (r ∷ more) x k z place f h = elim (test (r.0 == z)) [
  | inl t ↦
      let is : ◌≡◌ {A = Option Place} (Some (Some (p, e))) (Some place) = rw t at h in
      inr (record { next = r; more = more; is = refl; here = sym (eqb-true _ _ t); place_is = cc is; was = rw f (rw t refl) })
  | inr g ↦ inl (rw f (rw g (rw g at h)), elsewhere r more z g)
]
