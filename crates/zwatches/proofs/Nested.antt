-- Tables under two keys: whether one of all that rows hold passes a test, by a look-up of the first key.
use Rattle.std.proofs.Common.{◌≡◌, Bool, true, false, cond, ◌&&◌, ◌||◌, List, [], ◌∷◌, map, Option, Some, None, refl, ap, ◌∙◌}
use Rattle.std.proofs.Math.Bool.{or-false}
use Rattle.std.specs.declared.cmp.Ordering.{Ordering}
use Rattle.std.specs.declared.cmp.Ordering.TheVariants.{Less, Equal}
use Rattle.std.specs.Cmp.{Equal-is}
use Rattle.std.specs.List.{AllByRecursion, list_any}
use Rattle.std.specs.List.Sorted.{IsStrictlySortedBy}
use Rattle.std.specs.Map.{lookup, keys_of}
use Rattle.std.specs.BTreeMap.{is_at}
use Rattle.std.proofs.lemmas.List.Folds.{list_any-append}
use Rattle.zwatches.specs.support.Nested.{held, one_of}

none_passes : (b : Bool) → false ≡ (b && false)
none_passes true = refl
none_passes false = refl

both_pass : (a b c : Bool) → ((a && b) || (a && c)) ≡ (a && (b || c))
both_pass true b c = refl
both_pass false b c = refl

module _ {K V X W : Type 0} (cmp : K → K → Ordering) (elements : V → List X) (make : K → X → W) (query : K → Ordering)
    (alike : (x y : K) → query x ≡ Equal → query y ≡ cmp x y) (test : W → Bool) (passes : X → Bool)
    (same : (k : K) (x : X) → test (make k x) ≡ (is_at query k && passes x)) where
  row_any : (k : K) (xs : List X) → list_any test (map (make k) xs) ≡ (is_at query k && list_any passes xs)
  row_any k [] = none_passes (is_at query k)
  row_any k (x ∷ xs) =
      ap (λ b. test (make k x) || b) (row_any k xs)
      ∙ ap (λ b. b || (is_at query k && list_any passes xs)) (same k x)
      ∙ both_pass (is_at query k) (passes x) (list_any passes xs)

  none_after : (k : K) (rows : List (K × V)) → is_at query k ≡ true → AllByRecursion (λ l. cmp k l ≡ Less) (keys_of rows) → lookup (is_at query) rows ≡ None
  none_after k [] at below = refl
  none_after k (row ∷ rows) at below =
      let less : query row.0 ≡ Less = alike k row.0 ((Equal-is (query k)).0 at) ∙ below.0 in
      rw less (none_after k rows at below.1)

  pub held_any : (rows : List (K × V)) → IsStrictlySortedBy cmp (keys_of rows)
      → list_any test (held rows elements make) ≡ one_of (lookup (is_at query) rows) elements passes
  unfolding IsStrictlySortedBy
  held_any [] sorted = refl
  held_any (row ∷ rows) sorted =
      list_any-append test (map (make row.0) (elements row.1)) (held rows elements make)
      ∙ ap (λ b. b || list_any test (held rows elements make)) (row_any row.0 (elements row.1))
      ∙ by (is_at query row.0) refl (held_any rows sorted.1)
    where
      by : (b : Bool) → is_at query row.0 ≡ b → list_any test (held rows elements make) ≡ one_of (lookup (is_at query) rows) elements passes
          → ((b && list_any passes (elements row.1)) || list_any test (held rows elements make))
          ≡ one_of (cond b (Some row.1) (lookup (is_at query) rows)) elements passes
      by true at rest =
          ap (λ b. list_any passes (elements row.1) || b)
          (rest ∙ ap (λ (found : Option V). one_of found elements passes) (none_after row.0 rows at sorted.0))
          ∙ or-false (list_any passes (elements row.1))
      by false at rest = rest
