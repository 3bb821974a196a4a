-- The paths of each connection, after a change of one connection's.
use Rattle.std.proofs.Common.{◌≡◌, ℕ, Bool, true, false, cond, not, ◌&&◌, ◌||◌, List, Option, refl, sym, ap, ◌∙◌}
use Rattle.std.specs.Ordering.{eq_by_cmp, nat_cmp}
use Rattle.std.specs.Cmp.{Equal-is, eq_by_cmp_equiv, nat_cmp_total}
use Rattle.std.specs.FinMap.{nat_cmp-IsAntisymmetric}
use Rattle.std.specs.Map.{lookup}
use Rattle.std.specs.BTreeMap.{is_at}
use Rattle.std.specs.BTreeSet.{BTreeSet, keys}
use Rattle.zpath.specs.Grammar.{path_cmp}
use Rattle.zwatches.specs.Watches.{Path}
use Rattle.zwatches.specs.support.Nested.{has_path, one_of}
use Rattle.zwatches.proofs.Order.{paths_total}

abbrev Rows : Type 0
Rows = List (ℕ × BTreeSet Path)

module _ (old new : Rows) (k : ℕ) (found : Option (BTreeSet Path))
    (differ : (q : ℕ) → lookup (is_at (nat_cmp q)) new ≡ cond (is_at (nat_cmp k) q) found (lookup (is_at (nat_cmp q)) old)) where
  -- the paths of the connection are those found, and others' are as they were
  after : (c : ℕ) (path : Path) → has_path new c path ≡ cond (eq_by_cmp nat_cmp c k) (one_of found keys (eq_by_cmp path_cmp path)) (has_path old c path)
  after c path =
      ap (λ (o : Option (BTreeSet Path)). one_of o keys (eq_by_cmp path_cmp path))
      (differ c ∙ ap (λ b. cond b found (lookup (is_at (nat_cmp c)) old)) ((eq_by_cmp_equiv nat_cmp_total).symm k c))
      ∙ by (eq_by_cmp nat_cmp c k)
    where
      by : (b : Bool) → one_of (cond b found (lookup (is_at (nat_cmp c)) old)) keys (eq_by_cmp path_cmp path)
          ≡ cond b (one_of found keys (eq_by_cmp path_cmp path)) (has_path old c path)
      by true = refl
      by false = refl

  number_same : (c : ℕ) → eq_by_cmp nat_cmp c k ≡ true → c ≡ k
  number_same c e = nat_cmp-IsAntisymmetric c k ((Equal-is (nat_cmp c k)).0 e)

  -- a path more
  pub path_added : (at : Path) → ((q : Path) → one_of found keys (eq_by_cmp path_cmp q) ≡ cond (is_at (path_cmp at) q) true (has_path old k q))
      → (c : ℕ) (q : Path) → has_path new c q ≡ ((eq_by_cmp nat_cmp c k && eq_by_cmp path_cmp q at) || has_path old c q)
  path_added at more c q = after c q ∙ by (eq_by_cmp nat_cmp c k) refl
    where
      either : (b d : Bool) → cond b true d ≡ (b || d)
      either true d = refl
      either false d = refl

      by : (b : Bool) → eq_by_cmp nat_cmp c k ≡ b → cond b (one_of found keys (eq_by_cmp path_cmp q)) (has_path old c q) ≡ ((b && eq_by_cmp path_cmp q at) || has_path old c q)
      by true e =
          more q
          ∙ either (is_at (path_cmp at) q) (has_path old k q)
          ∙ (λ i. (eq_by_cmp_equiv paths_total).symm at q i || has_path old (sym (number_same c e) i) q)
      by false e = refl

  -- a path less
  pub path_removed : (at : Path) → ((q : Path) → one_of found keys (eq_by_cmp path_cmp q) ≡ cond (is_at (path_cmp at) q) false (has_path old k q))
      → (c : ℕ) (q : Path) → has_path new c q ≡ (not (eq_by_cmp nat_cmp c k && eq_by_cmp path_cmp q at) && has_path old c q)
  path_removed at less c q = after c q ∙ by (eq_by_cmp nat_cmp c k) refl
    where
      both : (b d : Bool) → cond b false d ≡ (not b && d)
      both true d = refl
      both false d = refl

      by : (b : Bool) → eq_by_cmp nat_cmp c k ≡ b → cond b (one_of found keys (eq_by_cmp path_cmp q)) (has_path old c q) ≡ (not (b && eq_by_cmp path_cmp q at) && has_path old c q)
      by true e =
          less q
          ∙ both (is_at (path_cmp at) q) (has_path old k q)
          ∙ (λ i. not ((eq_by_cmp_equiv paths_total).symm at q i) && has_path old (sym (number_same c e) i) q)
      by false e = refl
