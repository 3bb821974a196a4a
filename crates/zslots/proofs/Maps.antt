-- What a map under Ids finds at an Id and elsewhere, after an insert or a remove there.
use Rattle.std.proofs.Common.{◌≡◌, ◌≢◌, ◌⊎◌, inl, inr, ℕ, true, false, cond, List, Option, Some, None, is_some, refl, sym, ap, ◌∙◌}
use Rattle.std.specs.declared.cmp.Ordering.{Ordering}
use Rattle.std.specs.declared.cmp.Ordering.TheVariants.{Less, Equal, Greater}
use Rattle.std.specs.Ordering.{is_eq, eq_by_cmp}
use Rattle.std.specs.Cmp.{IsTotalOrder, tied_itself, on_total}
use Rattle.std.specs.Cmp.Lexicographic.{nat_list_cmp_total}
use Rattle.std.specs.FinMap as finite
use Rattle.std.specs.FinMap.{IsAntisymmetric, slice_cmp-IsAntisymmetric, nat_cmp-IsAntisymmetric, get-insert, get-remove, same_map}
use Rattle.std.specs.Prelude.{slice_index_or}
use Rattle.zslots.specs.declared.id.Id.{Id}
use Rattle.zslots.specs.SlotsView.{Items}
use Rattle.zslots.specs.Ids.{id_cmp, id_key}

pub id_cmp_total : IsTotalOrder id_cmp
id_cmp_total = on_total id_key nat_list_cmp_total

abbrev number_at : ℕ → List ℕ → ℕ
number_at k xs = slice_index_or xs k 0

pub id_cmp_same : IsAntisymmetric id_cmp
id_cmp_same x y e =
    let keys = slice_cmp-IsAntisymmetric nat_cmp-IsAntisymmetric (id_key x) (id_key y) e in
    let high : x.generation.high ≡ y.generation.high = ap (number_at 0) keys in
    let low : x.generation.low ≡ y.generation.low = ap (number_at 1) keys in
    let index : x.index ≡ y.index = ap (number_at 2) keys in
    λ i. record { generation = record { high = high i; low = low i }; index = index i }

pub same_or_other : (p q : Id) → (p ≡ q) ⊎ (p ≢ q)
same_or_other p q = by (id_cmp p q) refl
  where
    by : (r : Ordering) → id_cmp p q ≡ r → (p ≡ q) ⊎ (p ≢ q)
    by Less e = inr (λ f. let bad : Less ≡ Equal = sym e ∙ ap (id_cmp p) (sym f) ∙ tied_itself id_cmp_total p in cc)
    by Equal e = inl (id_cmp_same p q e)
    by Greater e = inr (λ f. let bad : Greater ≡ Equal = sym e ∙ ap (id_cmp p) (sym f) ∙ tied_itself id_cmp_total p in cc)

tied : (k : Id) → eq_by_cmp id_cmp k k ≡ true
tied k = ap is_eq (tied_itself id_cmp_total k)

pub not_tied : (p q : Id) → p ≢ q → eq_by_cmp id_cmp p q ≡ false
not_tied p q other = by (id_cmp p q) refl
  where
    by : (r : Ordering) → id_cmp p q ≡ r → is_eq r ≡ false
    by Less e = refl
    by Equal e = absurd (other (id_cmp_same p q e))
    by Greater e = refl

pub is_none : {A : Type 0} (o : Option A) → is_some o ≡ false → o ≡ None
is_none None e = refl
is_none (Some x) e = cc

module _ {T : Type 0} where
  pub get-insert-here : (m : Items T) (k : Id) (v : T) → finite.get (finite.insert m k v) k ≡ Some v
  get-insert-here m k v = get-insert id_cmp_total m k v k ∙ ap (λ t. cond t (Some v) (finite.get m k)) (tied k)

  pub get-insert-elsewhere : (m : Items T) (k : Id) (v : T) (q : Id) → q ≢ k → finite.get (finite.insert m k v) q ≡ finite.get m q
  get-insert-elsewhere m k v q other = get-insert id_cmp_total m k v q ∙ ap (λ t. cond t (Some v) (finite.get m q)) (not_tied q k other)

  pub get-remove-here : (m : Items T) (k : Id) → finite.get (finite.remove m k) k ≡ None
  get-remove-here m k = get-remove id_cmp_total m k k ∙ ap (λ t. cond t None (finite.get m k)) (tied k)

  pub get-remove-elsewhere : (m : Items T) (k q : Id) → q ≢ k → finite.get (finite.remove m k) q ≡ finite.get m q
  get-remove-elsewhere m k q other = get-remove id_cmp_total m k q ∙ ap (λ t. cond t None (finite.get m q)) (not_tied q k other)

  -- two maps that find alike are equal
  pub same_items : (m n : Items T) → ((q : Id) → finite.get m q ≡ finite.get n q) → m ≡ n
  same_items m n alike = same_map id_cmp_total id_cmp_same m n alike

  -- a map with what is found at k put there again is the map
  pub insert-same : (m : Items T) (k : Id) (v : T) → finite.get m k ≡ Some v → finite.insert m k v ≡ m
  insert-same m k v e = same_items _ _ (λ q. by q (same_or_other q k))
    where
      by : (q : Id) → (q ≡ k) ⊎ (q ≢ k) → finite.get (finite.insert m k v) q ≡ finite.get m q
      by q (inl is) = ap (finite.get (finite.insert m k v)) is ∙ get-insert-here m k v ∙ sym e ∙ ap (finite.get m) (sym is)
      by q (inr other) = get-insert-elsewhere m k v q other

  -- of two inserts at k the second is seen
  pub insert-twice : (m : Items T) (k : Id) (u v : T) → finite.insert (finite.insert m k u) k v ≡ finite.insert m k v
  insert-twice m k u v = same_items _ _ (λ q. by q (same_or_other q k))
    where
      by : (q : Id) → (q ≡ k) ⊎ (q ≢ k) → finite.get (finite.insert (finite.insert m k u) k v) q ≡ finite.get (finite.insert m k v) q
      by q (inl is) = ap (finite.get (finite.insert (finite.insert m k u) k v)) is ∙ get-insert-here _ k v ∙ sym (get-insert-here m k v) ∙ ap (finite.get (finite.insert m k v)) (sym is)
      by q (inr other) = get-insert-elsewhere _ k v q other ∙ get-insert-elsewhere m k u q other ∙ sym (get-insert-elsewhere m k v q other)

  -- a remove of what isn't there is nothing
  pub remove-absent : (m : Items T) (k : Id) → finite.contains_key m k ≡ false → finite.remove m k ≡ m
  remove-absent m k e = same_items _ _ (λ q. by q (same_or_other q k))
    where
      by : (q : Id) → (q ≡ k) ⊎ (q ≢ k) → finite.get (finite.remove m k) q ≡ finite.get m q
      by q (inl is) = ap (finite.get (finite.remove m k)) is ∙ get-remove-here m k ∙ sym (is_none _ e) ∙ ap (finite.get m) (sym is)
      by q (inr other) = get-remove-elsewhere m k q other
