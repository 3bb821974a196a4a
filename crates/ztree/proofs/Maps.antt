-- What a map finds at a key and elsewhere, after an insert or a remove there; and what a filter over its entries says.
use Rattle.std.proofs.Common.{◌≡◌, ◌≢◌, ◌⊎◌, inl, inr, ℕ, ◌<◌, ◌≤◌, ◌+◌, ◌-◌, Bool, true, false, cond, List, [], ◌∷◌, Option, Some, None, IsSome, refl, sym, ap, ◌∙◌, arith}
use Rattle.std.specs.declared.cmp.Ordering.{Ordering}
use Rattle.std.specs.declared.cmp.Ordering.TheVariants.{Less, Equal, Greater}
use Rattle.std.specs.Ordering.{is_eq, eq_by_cmp}
use Rattle.std.specs.Prelude.{is_some}
use Rattle.std.specs.List.{filter_map, cons_option}
use Rattle.std.specs.Cmp.{IsTotalOrder, tied_itself}
use Rattle.std.specs.FinMap as finite
use Rattle.std.specs.FinMap.{FinMap, IsAntisymmetric, get-insert, get-remove, len-insert, len-remove, get-entries}
use Rattle.std.specs.FinMap.{find, is_sorted, entries_sorted}
use Rattle.std.specs.FinMap.Entries.{below_all}
use lib.Dec.{T}
use Rattle.ztree.proofs.Sorted.{both_parts, is_less}

pub same_some : {A : Type 0} (x y : A) → Some x ≡ Some y → x ≡ y
same_some x y e = cc

pub none_some : {A : Type 0} (x : A) → None ≡ Some x → ⊥
none_some x e = cc

pub has_some : {A : Type 0} (o : Option A) → is_some o ≡ true → (x : A) × (o ≡ Some x)
has_some (Some x) e = (x, refl)
has_some None e = cc

pub not_none : {A : Type 0} (o : Option A) → IsSome o → o ≡ None → ⊥
not_none (Some x) some e = cc
not_none None some e = cc

pub is_there : {A : Type 0} (o : Option A) (x : A) → o ≡ Some x → is_some o ≡ true
is_there o x e = ap is_some e

module _ {K : Type 0} {R : K → K → Ordering} (o : IsTotalOrder R) (same : IsAntisymmetric R) where
  pub same_or_other : (p q : K) → (p ≡ q) ⊎ (p ≢ q)
  same_or_other p q = by (R p q) refl
    where
      by : (r : Ordering) → R p q ≡ r → (p ≡ q) ⊎ (p ≢ q)
      by Less e = inr (λ f. let bad : Less ≡ Equal = sym e ∙ ap (R p) (sym f) ∙ tied_itself o p in cc)
      by Equal e = inl (same p q e)
      by Greater e = inr (λ f. let bad : Greater ≡ Equal = sym e ∙ ap (R p) (sym f) ∙ tied_itself o p in cc)

  pub tied_same : (p q : K) → eq_by_cmp R p q ≡ true → p ≡ q
  tied_same p q e = by (R p q) refl e
    where
      by : (r : Ordering) → R p q ≡ r → is_eq r ≡ true → p ≡ q
      by Less is tie = cc
      by Equal is tie = same p q is
      by Greater is tie = cc

  pub tied : (k : K) → eq_by_cmp R k k ≡ true
  tied k = ap is_eq (tied_itself o k)

  pub not_tied : (p q : K) → p ≢ q → eq_by_cmp R p q ≡ false
  not_tied p q other = by (R p q) refl
    where
      by : (r : Ordering) → R p q ≡ r → is_eq r ≡ false
      by Less e = refl
      by Equal e = absurd (other (same p q e))
      by Greater e = refl

module _ {K X : Type 0} {R : K → K → Ordering} (o : IsTotalOrder R) (same : IsAntisymmetric R) where
  pub get-insert-here : (m : FinMap R X) (k : K) (v : X) → finite.get (finite.insert m k v) k ≡ Some v
  get-insert-here m k v = get-insert o m k v k ∙ ap (λ t. cond t (Some v) (finite.get m k)) (tied o same k)

  pub get-insert-elsewhere : (m : FinMap R X) (k : K) (v : X) (q : K) → q ≢ k → finite.get (finite.insert m k v) q ≡ finite.get m q
  get-insert-elsewhere m k v q other = get-insert o m k v q ∙ ap (λ t. cond t (Some v) (finite.get m q)) (not_tied o same q k other)

  pub get-remove-here : (m : FinMap R X) (k : K) → finite.get (finite.remove m k) k ≡ None
  get-remove-here m k = get-remove o m k k ∙ ap (λ t. cond t None (finite.get m k)) (tied o same k)

  pub get-remove-elsewhere : (m : FinMap R X) (k q : K) → q ≢ k → finite.get (finite.remove m k) q ≡ finite.get m q
  get-remove-elsewhere m k q other = get-remove o m k q ∙ ap (λ t. cond t None (finite.get m q)) (not_tied o same q k other)

  -- what is found after a remove was there, under another key
  pub get-removed : (m : FinMap R X) (k q : K) (x : X) → finite.get (finite.remove m k) q ≡ Some x → (q ≢ k) × (finite.get m q ≡ Some x)
  get-removed m k q x e = by (same_or_other o same q k)
    where
      by : (q ≡ k) ⊎ (q ≢ k) → (q ≢ k) × (finite.get m q ≡ Some x)
      by (inl is) = absurd (none_some x (sym (get-remove-here m k) ∙ ap (finite.get (finite.remove m k)) (sym is) ∙ e))
      by (inr other) = (other, sym (get-remove-elsewhere m k q other) ∙ e)

  -- what is found after an insert is the new value, or was there
  pub get-inserted : (m : FinMap R X) (k : K) (v : X) (q : K) (x : X) → finite.get (finite.insert m k v) q ≡ Some x → ((q ≡ k) × (v ≡ x)) ⊎ ((q ≢ k) × (finite.get m q ≡ Some x))
  get-inserted m k v q x e = by (same_or_other o same q k)
    where
      by : (q ≡ k) ⊎ (q ≢ k) → ((q ≡ k) × (v ≡ x)) ⊎ ((q ≢ k) × (finite.get m q ≡ Some x))
      by (inl is) = inl (is, same_some v x (sym (get-insert-here m k v) ∙ ap (finite.get (finite.insert m k v)) (sym is) ∙ e))
      by (inr other) = inr (other, sym (get-insert-elsewhere m k v q other) ∙ e)

  -- an insert adds at most one entry, a remove adds none
  pub len-insert-most : (m : FinMap R X) (k : K) (v : X) (n : ℕ) → finite.len m < n → finite.len (finite.insert m k v) ≤ n
  len-insert-most m k v n l = rw (len-insert o m k v) (by (is_some (finite.get m k)))
    where
      by : (t : Bool) → cond t (finite.len m) (finite.len m + 1) ≤ n
      by true = omega arith
      by false = omega arith

  pub len-insert-there : (m : FinMap R X) (k : K) (v x : X) (n : ℕ) → finite.get m k ≡ Some x → finite.len m ≤ n → finite.len (finite.insert m k v) ≤ n
  len-insert-there m k v x n e l = rw (len-insert o m k v, e) l

  pub len-remove-most : (m : FinMap R X) (k : K) (n : ℕ) → finite.len m ≤ n → finite.len (finite.remove m k) ≤ n
  len-remove-most m k n l = rw (len-remove o m k) (by (is_some (finite.get m k)))
    where
      by : (t : Bool) → cond t (finite.len m - 1) (finite.len m) ≤ n
      by true = omega arith
      by false = omega arith

  -- a filter that gives nothing of all entries gives nothing of one that is found
  none_of_first : {Y : Type 0} (h : K × X → Option Y) (f : K × X) (es : List (K × X)) (q : K) (x : X) → ((filter_map h es ≡ []) → find R q es ≡ Some x → h (q, x) ≡ None) → (g : Option Y) → h f ≡ g → cons_option g (filter_map h es) ≡ [] → (r : Ordering) → R q f.0 ≡ r → cond (is_eq r) (Some f.1) (find R q es) ≡ Some x → h (q, x) ≡ None
  none_of_first h f es q x further (Some y) gives none r is found = cc
  none_of_first h f es q x further None gives none Equal is found =
      let key : q ≡ f.0 = same q f.0 is in
      let value : f.1 ≡ x = same_some f.1 x found in
      ap h (λ i. (key i, sym value i)) ∙ gives
  none_of_first h f es q x further None gives none Less is found = further none found
  none_of_first h f es q x further None gives none Greater is found = further none found

  none_of_found : {Y : Type 0} (h : K × X → Option Y) (es : List (K × X)) (q : K) (x : X) → filter_map h es ≡ [] → find R q es ≡ Some x → h (q, x) ≡ None
  none_of_found h [] q x none e = absurd (none_some x e)
  none_of_found h (f ∷ es) q x none e = none_of_first h f es q x (none_of_found h es q x) (h f) refl none (R q f.0) refl e

  pub none_of_entries : {Y : Type 0} (h : K × X → Option Y) (m : FinMap R X) (q : K) (x : X) → filter_map h (finite.entries m) ≡ [] → finite.get m q ≡ Some x → h (q, x) ≡ None
  none_of_entries h m q x none e = none_of_found h (finite.entries m) q x none (sym (get-entries m q) ∙ e)

  -- a key below all keys is not among them
  pub not_among : (q : K) (es : List (K × X)) → T (below_all R q es) → find R q es ≡ None
  not_among q [] h = refl
  not_among q (e ∷ es) h =
      let parts = both_parts _ (below_all R q es) h in
      rw (is_less _ parts.0) (not_among q es parts.1)

  -- what is found after a first entry is found with it
  pub found_behind : (e : K × X) (es : List (K × X)) → T (below_all R e.0 es) → (q : K) (x : X) → find R q es ≡ Some x → find R q (e ∷ es) ≡ Some x
  found_behind e es low q x found = by (R q e.0) refl
    where
      by : (r : Ordering) → R q e.0 ≡ r → cond (is_eq r) (Some e.1) (find R q es) ≡ Some x
      by Less is = found
      by Greater is = found
      by Equal is = absurd (none_some x (sym (not_among e.0 es low) ∙ ap (λ k. find R k es) (sym (same q e.0 is)) ∙ found))

  none_of_all : {Y : Type 0} (h : K × X → Option Y) (es : List (K × X)) → T (is_sorted R es) → ((q : K) (x : X) → find R q es ≡ Some x → h (q, x) ≡ None) → filter_map h es ≡ []
  none_of_all h [] s none = refl
  none_of_all h (e ∷ es) s none =
      let parts = both_parts (below_all R e.0 es) (is_sorted R es) s in
      rw (none e.0 e.1 (rw (tied_itself o e.0) refl)) (none_of_all h es parts.1 (λ q x found. none q x (found_behind e es parts.0 q x found)))

  -- a filter that gives nothing of what is found gives nothing of all entries
  pub none_of_map : {Y : Type 0} (h : K × X → Option Y) (m : FinMap R X) → ((q : K) (x : X) → finite.get m q ≡ Some x → h (q, x) ≡ None) → filter_map h (finite.entries m) ≡ []
  none_of_map h m none = none_of_all h (finite.entries m) (entries_sorted m) (λ q x found. none q x (get-entries m q ∙ found))
