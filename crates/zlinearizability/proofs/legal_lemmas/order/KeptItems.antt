-- A part of the items: all updates, and some queries.
use Rattle.std.specs.List.{AllByRecursion}
use Rattle.std.proofs.Common.{◌≡◌, ◌<◌, ◌≤◌, List, [], ◌∷◌, ◌++◌, refl, sym, ap, ◌∙◌, subst, inl, inr, true, false, map, arith}
use Rattle.zcalls.specs.declared.call.Call.{Call}
use Rattle.zcalls.specs.declared.call.Call.TheVariants.{Update, Query}
use Rattle.zcalls.specs.Lists.{Among, ComesBefore}
use Rattle.zcalls.specs.Operation.{Operation}
use Rattle.zcalls.specs.Cached.{Plain}
use Rattle.zcalls.proofs.Among.{test}
use Rattle.zprotocol.specs.world.LegalOrder.{Service, operation_step, replies_from, states_from}
use Rattle.zprotocol.specs.world.PlainTree.{service_of, call_step}
use Rattle.zlinearizability.specs.legal.Items.{Item, is_update, updates_of, Replays, TimesRise}

-- some queries of a list are left out
pub data Keeps : List Item → List Item → Type 0 where
  None : Keeps [] []
  Keep : (i : Item) (is kept : List Item) → Keeps is kept → Keeps (i ∷ is) (i ∷ kept)
  Skip : (i : Item) (is kept : List Item) → is_update i.operation.call ≡ false → Keeps is kept → Keeps (i ∷ is) kept

-- what is retained is of the list
pub kept_among : (is kept : List Item) → Keeps is kept → (i : Item) → Among i kept → Among i is
kept_among is kept None i a = absurd a
kept_among is kept (Keep j js kept' more) i (inl e) = inl e
kept_among is kept (Keep j js kept' more) i (inr a) = inr (kept_among js kept' more i a)
kept_among is kept (Skip j js kept' query more) i a = inr (kept_among js kept' more i a)

-- one more is retained: it was already, or it is put between
pub data KeepsOne (is kept : List Item) (i : Item) : Type 0 where
  Already : Among i kept → KeepsOne is kept i
  Put : (before after : List Item) → kept ≡ before ++ after → is_update i.operation.call ≡ false → Keeps is (before ++ i ∷ after) → KeepsOne is kept i

-- an item of the list can be retained too
pub keep_one : (is kept : List Item) → Keeps is kept → (i : Item) → Among i is → KeepsOne is kept i
keep_one is kept None i a = absurd a
keep_one is kept (Keep j js kept' more) i (inl e) = Already (inl e)
keep_one is kept (Keep j js kept' more) i (inr a) = elim (keep_one js kept' more i a) [
  | Already b ↦ Already (inr b)
  | Put before after e query more' ↦ Put (j ∷ before) after (ap (λ l. j ∷ l) e) query (Keep j js (before ++ i ∷ after) more')
]
keep_one is kept (Skip j js kept' query more) i (inl e) =
    Put [] kept' refl (subst (λ k. is_update k.operation.call ≡ false) e query) (subst (λ k. Keeps (j ∷ js) (k ∷ kept')) e (Keep j js kept' more))
keep_one is kept (Skip j js kept' query more) i (inr a) = elim (keep_one js kept' more i a) [
  | Already b ↦ Already b
  | Put before after e asks more' ↦ Put before after e asks (Skip j js (before ++ i ∷ after) query more')
]

-- at first the updates alone are retained
pub record KeepsUpdates (is : List Item) : Type 0 where
  pub kept : List Item
  pub keeps : Keeps is kept
  pub updates : updates_of is ≡ map (λ i. (i.operation, i.reply)) kept
  pub only : (i : Item) → Among i kept → is_update i.operation.call ≡ true

-- each list has the part of its updates alone
pub keep_updates : (is : List Item) → KeepsUpdates is
keep_updates [] = record { kept = []; keeps = None; updates = refl; only = λ i a. absurd a }
keep_updates (i ∷ is) =
    let more = keep_updates is in
    elim (test (is_update i.operation.call)) [
      | inl t ↦ record {
        kept = i ∷ more.kept;
        keeps = Keep i is more.kept more.keeps;
        updates = rw t (ap (λ l. (i.operation, i.reply) ∷ l) more.updates);
        only = λ j a. elim a [ inl e ↦ subst (λ k. is_update k.operation.call ≡ true) e t | inr b ↦ more.only j b ];
      }
      | inr f ↦ record {
        kept = more.kept;
        keeps = Skip i is more.kept f more.keeps;
        updates = rw f more.updates;
        only = more.only;
      }
    ]

-- what is retained replays, as a query leaves the state
module _ {P : Type 0} (plain : Plain P) where
  query_leaves : (p : P) (o : Operation) (call : Call) → is_update call ≡ false → (call_step plain p o.client call).0 ≡ p
  query_leaves p o (Update u) f = cc
  query_leaves p o (Query q) f = refl

  -- what is retained replays
  pub kept_replays : (is kept : List Item) → Keeps is kept → (p : P) → Replays (service_of plain) p is → Replays (service_of plain) p kept
  kept_replays is kept None p h = tt
  kept_replays is kept (Keep i is' kept' more) p h = (h.0, kept_replays is' kept' more (operation_step (service_of plain) p i.operation).0 h.1)
  kept_replays is kept (Skip i is' kept' query more) p h =
      kept_replays is' kept' more p (subst (λ q. Replays (service_of plain) q is') (query_leaves p i.operation i.operation.call query) h.1)

-- and is in time
pub kept_rises : (is kept : List Item) → Keeps is kept → TimesRise is → TimesRise kept
kept_rises is kept None h = tt
kept_rises is kept (Keep i is' kept' more) h = (λ j a. h.0 j (kept_among is' kept' more j a), kept_rises is' kept' more h.1)
kept_rises is kept (Skip i is' kept' query more) h = kept_rises is' kept' more h.1

-- of two in time, the earlier is first
pub earlier_is_first : (is : List Item) → TimesRise is → (i j : Item) → Among i is → Among j is → i.time < j.time → ComesBefore i j is
earlier_is_first [] rise i j a b l = absurd a
earlier_is_first (k ∷ is) rise i j (inl e) (inl f) l = let same : i.time ≡ j.time = ap (λ m. m.time) (sym e ∙ f) in absurd (omega arith)
earlier_is_first (k ∷ is) rise i j (inl e) (inr b) l = inl (e, b)
earlier_is_first (k ∷ is) rise i j (inr a) (inl f) l =
    let le : k.time ≤ i.time = rise.0 i a in let same : k.time ≡ j.time = ap (λ m. m.time) f in absurd (omega arith)
earlier_is_first (k ∷ is) rise i j (inr a) (inr b) l = inr (earlier_is_first is rise.1 i j a b l)

-- a replay's replies
pub replayed : {P : Type 0} (service : Service P) (p : P) (is : List Item) → Replays service p is → (i : Item) → Among i is
    → Among (i.operation, i.reply) (replies_from service p (map (λ k. k.operation) is))
replayed service p [] h i a = absurd a
replayed service p (k ∷ is) h i (inl e) = inl (λ t. ((e t).operation, (h.0 ∙ ap (λ m. m.reply) e) t))
replayed service p (k ∷ is) h i (inr a) = inr (replayed service (operation_step service p k.operation).0 is h.1 i a)

-- and its states
pub states_lawful : {P : Type 0} (Lawful : P → Type 0) (service : Service P)
    → ((p : P) (o : Operation) → Lawful p → Lawful (operation_step service p o).0)
    → (p : P) (os : List Operation) → Lawful p → AllByRecursion Lawful (states_from service p os)
states_lawful Lawful service keeps p [] h = (h, tt)
states_lawful Lawful service keeps p (o ∷ os) h = (h, states_lawful Lawful service keeps (operation_step service p o).0 os (keeps p o h))

-- the calls of what is retained
pub operation_among : (is : List Item) (o : Operation) → Among o (map (λ i. i.operation) is) → (i : Item) × Among i is × (i.operation ≡ o)
operation_among [] o a = absurd a
operation_among (i ∷ is) o (inl e) = (i, inl refl, e)
operation_among (i ∷ is) o (inr a) = let m = operation_among is o a in (m.0, inr m.1, m.2)

-- calls are in the order of their items
pub operations_before : (is : List Item) (i j : Item) → ComesBefore i j is → ComesBefore i.operation j.operation (map (λ k. k.operation) is)
operations_before [] i j h = absurd h
operations_before (k ∷ is) i j (inl p) = inl (ap (λ m. m.operation) p.0, among_map is j p.1)
  where
    among_map : (is : List Item) (j : Item) → Among j is → Among j.operation (map (λ k. k.operation) is)
    among_map [] j a = absurd a
    among_map (l ∷ is) j (inl e) = inl (ap (λ m. m.operation) e)
    among_map (l ∷ is) j (inr a) = inr (among_map is j a)
operations_before (k ∷ is) i j (inr h) = inr (operations_before is i j h)
