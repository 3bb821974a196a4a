-- A walk along a list, from its first Id to the end.
use Rattle.std.proofs.Common.{◌≡◌, ℕ, zero, suc, ◌≤◌, [], ◌∷◌, ◌++◌, length, Option, Some, None, refl, sym, ap, ◌∙◌, arith, length-append, append_assoc, append-nil}
use mathlib.Core.Path.{subst}
use Rattle.std.specs.Option.{option_map_or}
use Rattle.zslots.specs.declared.id.Id.{Id}
use Rattle.zslots.specs.declared.linked.Links.{Links}
use Rattle.zslots.specs.declared.list.List.{List as IdList}
use Rattle.zslots.specs.SlotsView.{Items}
use Rattle.zslots.specs.Ids.{Ids, IsIn, first_of}
use Rattle.zslots.specs.Links.{links_at, no_links}
use Rattle.zslots.specs.Chains.{Chain}
use Rattle.zslots.specs.Lists.{IsList}
use Rattle.zslots.specs.support.Walk.{walk, IsWalk}
use Rattle.zslots.proofs.Surgery.{chain-rest, chain-first}
use Rattle.zslots.proofs.ListMoves.{list-first, list-one}
use Rattle.zslots.proofs.Members.{first-IsIn, IsIn-back}

module _ {T : Type 0} (links : T → Links) where
  pub walk-none : (n : ℕ) (m : Items T) → walk links n m None ≡ []
  walk-none zero m = refl
  walk-none (suc n) m = refl

  -- a walk with steps enough goes through the chain
  pub walk-whole : (m : Items T) (before first : Option Id) (ids : Ids) (n : ℕ) → Chain links m before first ids → length ids ≤ n → walk links n m first ≡ ids
  walk-whole m before first [] n ch short = ap (walk links n m) ch ∙ walk-none n m
  walk-whole m before first (id ∷ ids) zero ch short = absurd (omega arith)
  walk-whole m before first (id ∷ ids) (suc n) ch short =
      ap (walk links (suc n) m) ch.0
      ∙ ap (λ next. id ∷ walk links n m next) (ap (λ o. (option_map_or links o no_links).next) ch.2)
      ∙ ap (λ more. id ∷ more) (walk-whole m (Some id) (links ch.1).next ids n ch.4 (omega arith))

module _ {L : ℕ} {T : Type 0} (links : T → Links) where
  -- a walk begins at the list's first, with all Ids before it
  pub walk-starts : (m : Items T) (list : IdList L) (ids : Ids) → IsList links m list ids → IsWalk links m list [] list.first × (walk links list.len m list.first ≡ ids)
  walk-starts m list ids is =
      let all = walk-whole links m None list.first ids list.len is.chain (omega (arith, is.count)) in (
        record { whole = subst (IsList links m list) (sym all) is; place = list-first links m list ids is ∙ ap first_of (sym all) },
        all,
      )

  -- it continues to the next
  pub walk-step : (m : Items T) (list : IdList L) (passed : Ids) (id : Id) → IsWalk links m list passed (Some id) → IsWalk links m list (passed ++ id ∷ []) (links_at links m id).next × (walk links list.len m (Some id) ≡ id ∷ walk links list.len m (links_at links m id).next)
  walk-step m list passed id is = by (walk links list.len m (Some id)) refl is.place is.whole
    where
      next : Option Id
      next = (links_at links m id).next

      by : (left : Ids) → walk links list.len m (Some id) ≡ left → Some id ≡ first_of left → IsList links m list (passed ++ left) → IsWalk links m list (passed ++ id ∷ []) next × (walk links list.len m (Some id) ≡ id ∷ walk links list.len m next)
      by [] left begins whole = cc
      by (i ∷ more) left begins whole =
          let same : id ≡ i = cc in
          let rest = (chain-rest links m None list.first passed (i ∷ more) whole.chain).1 in
          let goes : next ≡ (links rest.1).next = ap (λ k. (links_at links m k).next) same ∙ ap (λ o. (option_map_or links o no_links).next) rest.2 in
          let short : length more ≤ list.len = omega (arith, whole.count, length-append passed (i ∷ more)) in
          let after : walk links list.len m next ≡ more =
          ap (walk links list.len m) goes ∙ walk-whole links m (Some i) (links rest.1).next more list.len rest.4 short in
          let list_is : (passed ++ id ∷ []) ++ walk links list.len m next ≡ passed ++ i ∷ more =
          ap (λ left. (passed ++ id ∷ []) ++ left) after ∙ append_assoc passed (id ∷ []) more ∙ ap (λ k. passed ++ k ∷ more) same in (
            record {
              whole = subst (IsList links m list) (sym list_is) whole;
              place = goes ∙ chain-first links m (Some i) (links rest.1).next more rest.4 ∙ ap first_of (sym after);
            },
            left ∙ ap (λ k. k ∷ more) (sym same) ∙ ap (λ left. id ∷ left) (sym after),
          )

  -- and ends with all passed
  pub walk-ends : (m : Items T) (list : IdList L) (passed : Ids) → IsWalk links m list passed None → IsList links m list passed
  walk-ends m list passed is =
      subst (IsList links m list) (ap (λ left. passed ++ left) (walk-none links list.len m) ∙ append-nil passed) is.whole

  -- its position is in the list
  pub walk-IsIn : (m : Items T) (list : IdList L) (ids passed : Ids) (id : Id) → IsList links m list ids → IsWalk links m list passed (Some id) → IsIn id ids
  walk-IsIn m list ids passed id is at =
      subst (IsIn id) (list-one links m list _ ids at.whole is) (IsIn-back id passed _ (first-IsIn _ id at.place))
