-- Maps after a change, and after what takes it back.
use Rattle.std.proofs.Common.{◌≡◌, ◌≢◌, ◌⊎◌, inl, inr, Some, None, sym, ap, ◌∙◌}
use Rattle.std.specs.declared.cmp.Ordering.{Ordering}
use Rattle.std.specs.Cmp.{IsTotalOrder}
use Rattle.std.specs.FinMap as finite
use Rattle.std.specs.FinMap.{FinMap, IsAntisymmetric, same_map}
use Rattle.ztree.proofs.Maps.{same_or_other, get-insert-here, get-insert-elsewhere, get-remove-here, get-remove-elsewhere}

module _ {K X : Type 0} {R : K → K → Ordering} (o : IsTotalOrder R) (same : IsAntisymmetric R) where
  -- what was inserted and is removed
  pub remove-insert : (m : FinMap R X) (k : K) (v : X) → finite.get m k ≡ None →
      finite.remove (finite.insert m k v) k ≡ m
  remove-insert m k v none = same_map o same _ _ (λ q. by q (same_or_other o same q k))
    where
      by : (q : K) → (q ≡ k) ⊎ (q ≢ k) →
          finite.get (finite.remove (finite.insert m k v) k) q ≡ finite.get m q
      by q (inl is) = ap (finite.get (finite.remove (finite.insert m k v) k)) is
          ∙ get-remove-here o same _ k ∙ sym none ∙ ap (finite.get m) (sym is)
      by q (inr other) = get-remove-elsewhere o same _ k q other
          ∙ get-insert-elsewhere o same m k v q other

  -- what was removed and is put back
  pub insert-remove : (m : FinMap R X) (k : K) (v : X) → finite.get m k ≡ Some v →
      finite.insert (finite.remove m k) k v ≡ m
  insert-remove m k v here = same_map o same _ _ (λ q. by q (same_or_other o same q k))
    where
      by : (q : K) → (q ≡ k) ⊎ (q ≢ k) →
          finite.get (finite.insert (finite.remove m k) k v) q ≡ finite.get m q
      by q (inl is) = ap (finite.get (finite.insert (finite.remove m k) k v)) is
          ∙ get-insert-here o same _ k v ∙ sym here ∙ ap (finite.get m) (sym is)
      by q (inr other) = get-insert-elsewhere o same _ k v q other
          ∙ get-remove-elsewhere o same m k q other

  -- what was written over and is written back
  pub insert-insert : (m : FinMap R X) (k : K) (u v : X) → finite.get m k ≡ Some v →
      finite.insert (finite.insert m k u) k v ≡ m
  insert-insert m k u v here = same_map o same _ _ (λ q. by q (same_or_other o same q k))
    where
      by : (q : K) → (q ≡ k) ⊎ (q ≢ k) →
          finite.get (finite.insert (finite.insert m k u) k v) q ≡ finite.get m q
      by q (inl is) = ap (finite.get (finite.insert (finite.insert m k u) k v)) is
          ∙ get-insert-here o same _ k v ∙ sym here ∙ ap (finite.get m) (sym is)
      by q (inr other) = get-insert-elsewhere o same _ k v q other
          ∙ get-insert-elsewhere o same m k u q other
