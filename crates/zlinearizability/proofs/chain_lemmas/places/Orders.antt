-- Orders that lead from one predecessor to another, and positions in the chain.
use Rattle.std.proofs.Common.{◌≡◌, ◌⊎◌, ℕ, Bool, true, false, cond, ◌==◌, List, [], ◌∷◌, ◌++◌, Option, Some, None, refl}
use Rattle.std.proofs.Common.{sym, ap, ◌∙◌, subst, inl, inr, eqb-true}
use Rattle.zcalls.proofs.Among.{test}
use Rattle.zprotocol.specs.server.View.{Neighbour}
use Rattle.zlinearizability.specs.chain.Flow.{LogMessage}
use Rattle.zlinearizability.specs.chain.Chain.{Place, turn_of, LeadsTo, place_behind, place_from}

-- a server whose predecessor isn't past leads nowhere else
settled_by : (Past : Place → Type 0) (pred target : Place) (more : List LogMessage) → (Past pred → ⊥)
    → (LeadsTo Past false pred more target → pred ≡ target)
    → (turn : Option Place)
    → (elim turn as (λ t. Type 0) [
      | None ↦ LeadsTo Past false pred more target
      | Some new ↦ ((false ≡ true) ⊎ Past pred)
          × LeadsTo Past false new more target
    ]) → pred ≡ target
settled_by Past pred target more here rest None h = rest h
settled_by Past pred target more here rest (Some new) h = elim (h.0) [ inl e ↦ cc | inr past ↦ absurd (here past) ]

-- so orders lead it where it is
pub settled : (Past : Place → Type 0) (pred : Place) (orders : List LogMessage) (target : Place) → (Past pred → ⊥)
    → LeadsTo Past false pred orders target → pred ≡ target
settled Past pred [] target here h = h
settled Past pred (m ∷ more) target here h = settled_by Past pred target more here (settled Past pred more target here) (turn_of m) h

-- one more order, where the predecessor that they led to is past
on_by : (Past : Place → Type 0) (fresh : Bool) (pred target new : Place) (more : List LogMessage) (m : LogMessage)
    → (LeadsTo Past fresh pred more target → LeadsTo Past fresh pred (more ++ m ∷ []) new)
    → ((next : Place) → LeadsTo Past false next more target → LeadsTo Past false next (more ++ m ∷ []) new)
    → (turn : Option Place)
    → (elim turn as (λ t. Type 0) [
      | None ↦ LeadsTo Past fresh pred more target
      | Some next ↦ ((fresh ≡ true) ⊎ Past pred)
          × LeadsTo Past false next more target
    ])
    → (elim turn as (λ t. Type 0) [
      | None ↦ LeadsTo Past fresh pred (more ++ m ∷ []) new
      | Some next ↦ ((fresh ≡ true) ⊎ Past pred)
          × LeadsTo Past false next (more ++ m ∷ []) new
    ])
on_by Past fresh pred target new more m stay go None h = stay h
on_by Past fresh pred target new more m stay go (Some next) h = (h.0, go next h.1)

last_by : (Past : Place → Type 0) (fresh : Bool) (pred new : Place) (turn : Option Place) → turn ≡ Some new → ((fresh ≡ true) ⊎ Past pred)
    → (elim turn as (λ t. Type 0) [ None ↦ pred ≡ new | Some next ↦ ((fresh ≡ true) ⊎ Past pred) × (next ≡ new) ])
last_by Past fresh pred new None e past = cc
last_by Past fresh pred new (Some next) e past = (past, cc e)

-- orders that led to a predecessor that is past lead, with one more, to the one that it names
pub one_more_order : (Past : Place → Type 0) (fresh : Bool) (pred : Place) (orders : List LogMessage) (target new : Place) (m : LogMessage)
    → turn_of m ≡ Some new → Past target → LeadsTo Past fresh pred orders target → LeadsTo Past fresh pred (orders ++ m ∷ []) new
one_more_order Past fresh pred [] target new m turn past h = last_by Past fresh pred new (turn_of m) turn (inr (subst Past (sym h) past))
one_more_order Past fresh pred (o ∷ orders) target new m turn past h =
    on_by Past fresh pred target new orders m (one_more_order Past fresh pred orders target new m turn past)
    (λ next. one_more_order Past false next orders target new m turn past) (turn_of o) h

-- the first order, to a server that is fresh
pub first_order : (Past : Place → Type 0) (pred new : Place) (m : LogMessage) → turn_of m ≡ Some new → LeadsTo Past true pred (m ∷ []) new
first_order Past pred new m turn = last_by Past true pred new (turn_of m) turn (inl refl)

-- an order that names no predecessor
pub unread_order : (Past : Place → Type 0) (fresh : Bool) (pred : Place) (orders : List LogMessage) (target : Place) (m : LogMessage)
    → turn_of m ≡ None → LeadsTo Past fresh pred orders target → LeadsTo Past fresh pred (orders ++ m ∷ []) target
unread_order Past fresh pred [] target m turn h = unread (turn_of m) turn
  where
    unread : (t : Option Place) → t ≡ None
        → (elim t as (λ t. Type 0) [ None ↦ pred ≡ target | Some next ↦ ((fresh ≡ true) ⊎ Past pred) × (next ≡ target) ])
    unread None e = h
    unread (Some next) e = cc
unread_order Past fresh pred (o ∷ orders) target m turn h =
    on_by Past fresh pred target target orders m (unread_order Past fresh pred orders target m turn)
    (λ next. unread_order Past false next orders target m turn) (turn_of o) h

-- more is past, or more is fresh
more_by : (Past Later : Place → Type 0) (fresh later : Bool) (pred target : Place) (more : List LogMessage)
    → ((p : Place) → Past p → Later p) → (fresh ≡ true → later ≡ true)
    → (LeadsTo Past fresh pred more target → LeadsTo Later later pred more target)
    → ((next : Place) → LeadsTo Past false next more target → LeadsTo Later false next more target)
    → (turn : Option Place)
    → (elim turn as (λ t. Type 0) [
      | None ↦ LeadsTo Past fresh pred more target
      | Some next ↦ ((fresh ≡ true) ⊎ Past pred)
          × LeadsTo Past false next more target
    ])
    → (elim turn as (λ t. Type 0) [
      | None ↦ LeadsTo Later later pred more target
      | Some next ↦ ((later ≡ true) ⊎ Later pred)
          × LeadsTo Later false next more target
    ])
more_by Past Later fresh later pred target more past is stay go None h = stay h
more_by Past Later fresh later pred target more past is stay go (Some next) h =
    (elim (h.0) [ inl e ↦ inl (is e) | inr p ↦ inr (past pred p) ], go next h.1)

-- orders lead on where more is past, or more is fresh
pub leads_more : (Past Later : Place → Type 0) (fresh later : Bool) (pred : Place) (orders : List LogMessage) (target : Place)
    → ((p : Place) → Past p → Later p) → (fresh ≡ true → later ≡ true) → LeadsTo Past fresh pred orders target
    → LeadsTo Later later pred orders target
leads_more Past Later fresh later pred [] target past is h = h
leads_more Past Later fresh later pred (m ∷ more) target past is h =
    more_by Past Later fresh later pred target more past is (leads_more Past Later fresh later pred more target past is)
    (λ next. leads_more Past Later false false next more target past (λ e. e)) (turn_of m) h

-- p is right before t in this chain, as a pair of this epoch
pub record StandsBefore (chain : List Neighbour) (p t k : ℕ) : Type 0 where
  pub front : List Neighbour
  pub epoch : ℕ
  pub rest : List Neighbour
  pub is : chain ≡ front ++ (p, epoch) ∷ (t, k) ∷ rest

-- the position of a server determines its neighbour
place_splits : (b : Neighbour) (chain : List Neighbour) (p t k : ℕ) → place_from (Some b.0) chain t ≡ Some (Some (p, k))
    → StandsBefore (b ∷ chain) p t k
place_splits b [] p t k h = cc
place_splits b (a ∷ chain) p t k h = elim (test (a.0 == t)) [
  | inl e ↦
      let is : ◌≡◌ {A = Option Place} (Some (Some (b.0, a.1))) (Some (Some (p, k))) = sym
      (ap (λ c. cond c (Some (Some (b.0, a.1))) (place_from (Some a.0) chain t)) e) ∙ h in
      let pair : ◌≡◌ {A = Neighbour} (b.0, a.1) (p, k) = cc is in
      let same : a.0 ≡ t = eqb-true _ _ e in
      record { front = []; epoch = b.1; rest = chain; is = λ i. ((pair i).0, b.1) ∷ (same i, (pair i).1) ∷ chain }
  | inr f ↦
      let more = place_splits a chain p t k (sym (ap (λ c. cond c (Some (place_behind (Some b.0) a.1)) (place_from (Some a.0) chain t)) f) ∙ h) in
      record { front = b ∷ more.front; epoch = more.epoch; rest = more.rest; is = ap (λ l. b ∷ l) more.is }
]

-- a server with a predecessor at its position is right after it
pub place_splits_chain : (chain : List Neighbour) (p t k : ℕ) → place_from None chain t ≡ Some (Some (p, k)) → StandsBefore chain p t k
place_splits_chain [] p t k h = cc
place_splits_chain (a ∷ chain) p t k h = elim (test (a.0 == t)) [
  | inl e ↦ let is : ◌≡◌ {A = Option Place} (Some None) (Some (Some (p, k))) = sym
      (ap (λ c. cond c (Some None) (place_from (Some a.0) chain t)) e) ∙ h in cc
  | inr f ↦ place_splits a chain p t k (sym (ap (λ c. cond c (Some None) (place_from (Some a.0) chain t)) f) ∙ h)
]
