-- What is in a list of Ids, and how many different ones there can be.
use Rattle.std.proofs.Common.{◌≡◌, ◌⊎◌, inl, inr, ℕ, ◌-◌, ◌<◌, ◌≤◌, zero, suc, true, cond, [], ◌∷◌, ◌++◌, length, Option, Some, None, IsSome, is_some, refl, sym, ap, ◌∙◌, arith}
use mathlib.Core.Path.{subst}
use Rattle.std.specs.FinMap as finite
use Rattle.std.specs.FinMap.{get, remove, len-remove, empty_of_len, get-empty}
use Rattle.zslots.specs.declared.id.Id.{Id}
use Rattle.zslots.specs.SlotsView.{Items}
use Rattle.zslots.specs.Ids.{Ids, id_cmp, IsIn, NotIn, NoTwo, first_of, last_or}
use Rattle.zslots.proofs.Maps.{id_cmp_total, get-remove-elsewhere}
use Rattle.zslots.proofs.Surgery.{NoneIn}

pub never_both : (q : Id) (ids : Ids) → IsIn q ids → NotIn q ids → ⊥
never_both q [] has free = has
never_both q (id ∷ ids) (inl is) free = free.0 is
never_both q (id ∷ ids) (inr has) free = never_both q ids has free.1

pub NotIn-from : (q : Id) (ids : Ids) → (IsIn q ids → ⊥) → NotIn q ids
NotIn-from q [] never = tt
NotIn-from q (id ∷ ids) never = (λ e. never (inl e), NotIn-from q ids (λ has. never (inr has)))

pub NoneIn-from : (at : Option Id) (ids : Ids) → ((q : Id) → Some q ≡ at → IsIn q ids → ⊥) → NoneIn at ids
NoneIn-from None ids never = tt
NoneIn-from (Some q) ids never = NotIn-from q ids (never q refl)

pub IsIn-front : (q : Id) (front back : Ids) → IsIn q front → IsIn q (front ++ back)
IsIn-front q [] back has = absurd has
IsIn-front q (id ∷ front) back (inl is) = inl is
IsIn-front q (id ∷ front) back (inr has) = inr (IsIn-front q front back has)

pub IsIn-back : (q : Id) (front back : Ids) → IsIn q back → IsIn q (front ++ back)
IsIn-back q [] back has = has
IsIn-back q (id ∷ front) back has = inr (IsIn-back q front back has)

pub IsIn-parts : (q : Id) (front back : Ids) → IsIn q (front ++ back) → IsIn q front ⊎ IsIn q back
IsIn-parts q [] back has = inr has
IsIn-parts q (id ∷ front) back (inl is) = inl (inl is)
IsIn-parts q (id ∷ front) back (inr has) = by (IsIn-parts q front back has)
  where
    by : IsIn q front ⊎ IsIn q back → ((q ≡ id) ⊎ IsIn q front) ⊎ IsIn q back
    by (inl has) = inl (inr has)
    by (inr has) = inr has

-- the position of an Id of a list
pub IsIn-split : (q : Id) (ids : Ids) → IsIn q ids → (front : Ids) × (back : Ids) × (ids ≡ front ++ q ∷ back)
IsIn-split q [] has = absurd has
IsIn-split q (id ∷ ids) (inl is) = ([], ids, ap (λ i. i ∷ ids) (sym is))
IsIn-split q (id ∷ ids) (inr has) =
    let there = IsIn-split q ids has in
    (id ∷ there.0, there.1, ap (λ more. id ∷ more) there.2)

-- the ends of a list are in it
pub first-IsIn : (ids : Ids) (q : Id) → Some q ≡ first_of ids → IsIn q ids
first-IsIn [] q is = cc
first-IsIn (id ∷ ids) q is = inl (cc)

last-or_before : (before : Option Id) (ids : Ids) (q : Id) → Some q ≡ last_or before ids → (Some q ≡ before) ⊎ IsIn q ids
last-or_before before [] q is = inl is
last-or_before before (id ∷ ids) q is = by (last-or_before (Some id) ids q is)
  where
    by : (Some q ≡ Some id) ⊎ IsIn q ids → (Some q ≡ before) ⊎ ((q ≡ id) ⊎ IsIn q ids)
    by (inl e) = inr (inl (cc))
    by (inr has) = inr (inr has)

pub last-IsIn : (ids : Ids) (q : Id) → Some q ≡ last_or None ids → IsIn q ids
last-IsIn ids q is = by (last-or_before None ids q is)
  where
    by : (Some q ≡ None) ⊎ IsIn q ids → IsIn q ids
    by (inl e) = cc
    by (inr has) = has

module _ {T : Type 0} where
  there_some : (m : Items T) (q : Id) → IsSome (get m q) → 0 < finite.len m
  there_some m q has = by (finite.len m) refl
    where
      by : (n : ℕ) → finite.len m ≡ n → 0 < n
      by zero e = let bad = subst (λ k. IsSome (get k q)) (empty_of_len m e) has in
          let none : IsSome {T = T} None = subst IsSome (get-empty id_cmp q) bad in
          cc
      by (suc n) e = omega arith

  is_there : (o : Option T) → IsSome o → is_some o ≡ true
  is_there (Some x) has = refl
  is_there None has = cc

  -- different Ids of a map are no more than it has
  pub length-within : (m : Items T) (ids : Ids) → NoTwo ids → ((q : Id) → IsIn q ids → IsSome (get m q)) → length ids ≤ finite.len m
  length-within m [] no_two has = omega arith
  length-within m (id ∷ ids) no_two has =
      let here = has id (inl refl) in
      let fewer : finite.len (remove m id) ≡ finite.len m - 1 =
      len-remove id_cmp_total m id ∙ ap (λ t. cond t (finite.len m - 1) (finite.len m)) (is_there _ here) in
      let rest = length-within (remove m id) ids no_two.1 (λ q i. subst IsSome (sym (get-remove-elsewhere m id q (λ e. never_both q ids i (subst (λ p. NotIn p ids) (sym e) no_two.0)))) (has q (inr i))) in
      omega (arith, fewer, rest, there_some m id here)
