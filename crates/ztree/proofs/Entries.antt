-- On the map that the entries of a table make, under keys that are numbers.
use Rattle.std.proofs.Common.{◌≡◌, ℕ, cond, List, [], ◌∷◌, length, Option, Some, None, refl, sym, ap, ◌∙◌, arith}
use Rattle.std.specs.declared.cmp.Ordering.TheVariants.{Less}
use Rattle.std.specs.Ordering.{nat_cmp}
use Rattle.std.specs.Cmp.{nat_cmp_total, eq_by_cmp_equiv}
use Rattle.std.specs.List.{AllByRecursion}
use Rattle.std.specs.List.Sorted.{IsStrictlySortedBy}
use Rattle.std.specs.Map.{lookup, keys_of}
use Rattle.std.specs.BTreeMap.{is_at}
use Rattle.std.specs.FinMap.{empty, len-empty, len-entries, get, insert, remove, entries, from_entries, find, get-from_entries, get-insert, get-remove, entries-insert, same_map, nat_cmp-IsAntisymmetric}
use Rattle.std.specs.FinMap.Entries.{put}

no_items : {A : Type 0} (xs : List A) → length xs ≡ 0 → xs ≡ []
no_items [] none = refl
no_items (x ∷ xs) none = absurd (omega (arith, none))

module _ {X : Type 0} where
  -- the value at a key is what a look-up in the entries finds
  pub find-lookup : (es : List (ℕ × X)) (q : ℕ) → find nat_cmp q es ≡ lookup (is_at (nat_cmp q)) es
  find-lookup [] q = refl
  find-lookup (e ∷ es) q = ap (cond (is_at (nat_cmp q) e.0) (Some e.1)) (find-lookup es q)

  pub get-entries : (es : List (ℕ × X)) (q : ℕ) → get (from_entries {R = nat_cmp} es) q ≡ lookup (is_at (nat_cmp q)) es
  get-entries es q = get-from_entries nat_cmp_total es q ∙ find-lookup es q

  -- entries that differ at one key make maps that differ there
  differing : (es fs : List (ℕ × X)) (k : ℕ) (w : Option X)
      → ((q : ℕ) → lookup (is_at (nat_cmp q)) fs ≡ cond (is_at (nat_cmp k) q) w (lookup (is_at (nat_cmp q)) es))
      → (q : ℕ) → get (from_entries {R = nat_cmp} fs) q ≡ cond (is_at (nat_cmp q) k) w (get (from_entries {R = nat_cmp} es) q)
  differing es fs k w h q =
      get-entries fs q ∙ h q ∙ ap (λ b. cond b w (lookup (is_at (nat_cmp q)) es)) ((eq_by_cmp_equiv nat_cmp_total).symm k q)
      ∙ ap (cond (is_at (nat_cmp q) k) w) (sym (get-entries es q))

  pub insert-entries : (es fs : List (ℕ × X)) (k : ℕ) (v : X)
      → ((q : ℕ) → lookup (is_at (nat_cmp q)) fs ≡ cond (is_at (nat_cmp k) q) (Some v) (lookup (is_at (nat_cmp q)) es))
      → from_entries {R = nat_cmp} fs ≡ insert (from_entries es) k v
  insert-entries es fs k v h =
      same_map nat_cmp_total nat_cmp-IsAntisymmetric _ _ (λ q. differing es fs k (Some v) h q ∙ sym (get-insert nat_cmp_total (from_entries es) k v q))

  pub remove-entries : (es fs : List (ℕ × X)) (k : ℕ)
      → ((q : ℕ) → lookup (is_at (nat_cmp q)) fs ≡ cond (is_at (nat_cmp k) q) None (lookup (is_at (nat_cmp q)) es))
      → from_entries {R = nat_cmp} fs ≡ remove (from_entries es) k
  remove-entries es fs k h =
      same_map nat_cmp_total nat_cmp-IsAntisymmetric _ _ (λ q. differing es fs k None h q ∙ sym (get-remove nat_cmp_total (from_entries es) k q))

  -- the empty map has no entries
  pub no_entries : entries (empty {X = X} {R = nat_cmp}) ≡ []
  no_entries = no_items _ (sym (len-entries empty) ∙ len-empty nat_cmp X)

  -- an entry below all others is put in front of them
  put-first : (k : ℕ) (v : X) (es : List (ℕ × X)) → AllByRecursion (λ q. nat_cmp k q ≡ Less) (keys_of es) → put nat_cmp k v es ≡ (k, v) ∷ es
  put-first k v [] below = refl
  put-first k v (e ∷ es) below = rw below.0 refl

  -- entries in the order of keys are those of the map that they make
  pub entries-rising : (es : List (ℕ × X)) → IsStrictlySortedBy nat_cmp (keys_of es) → entries (from_entries {R = nat_cmp} es) ≡ es
  unfolding IsStrictlySortedBy
  entries-rising [] rise = no_entries
  entries-rising (e ∷ es) rise =
      entries-insert nat_cmp_total (from_entries es) e.0 e.1 ∙ ap (put nat_cmp e.0 e.1) (entries-rising es rise.1) ∙ put-first e.0 e.1 es rise.0
