-- What a count that is kept says once it has changed, and how many watches of a connection there are.
use Rattle.std.proofs.Common.{◌≡◌, ◌≢◌, ◌⊎◌, inl, inr, ℕ, zero, suc, ◌+◌, ◌-◌, ◌<◌, Bool, true, false, cond, eqb, not, ◌&&◌, ◌||◌, List, Option, None, Some, IsSome, unwrap_or, refl, sym, ap, ◌∙◌, arith}
use mathlib.Core.Bool.{true≢false}
use Rattle.std.specs.Ordering.{nat_cmp, eq_by_cmp}
use Rattle.std.specs.Option.{option_map_or}
use Rattle.std.specs.Cmp.{Equal-is, eq_by_cmp_equiv, nat_cmp_total}
use Rattle.std.specs.Map.{lookup}
use Rattle.std.specs.BTreeMap.{is_at}
use Rattle.std.specs.FinMap.{from_entries, get, get-empty, get-remove, insert, remove, nat_cmp-IsAntisymmetric}
use Rattle.std.specs.FinMap as finite
use Rattle.std.specs.FinSet as sets
use Rattle.std.specs.FinSet.{contains, len, contains-empty, contains-insert, contains-remove, empty_of_len, same_set}
use Rattle.std.proofs.lemmas.Bool.{and_parts, eqb-true}
use Rattle.std.proofs.lemmas.Bool.Decides.{eqb_tells}
use Rattle.ztree.proofs.Entries.{get-entries, insert-entries}
use Rattle.ztree.proofs.Maps.{get-insert-here, get-insert-elsewhere, not_tied, tied}
use Rattle.zjute.specs.declared.watch_type.WatchType.{WatchType}
use Rattle.zwatches.specs.declared.watch.Watch.{Watch}
use Rattle.zwatches.specs.Watches.{Path, Watches, share, watch_cmp}
use Rattle.zwatches.specs.Removal.{is_meant}
use Rattle.zwatches.specs.support.Shares.{AreCounted, Counts, changed_by, counted}
use Rattle.zwatches.proofs.Order.{watches_total, same_watch}
use Rattle.zwatches.proofs.Kept.{len-more, len-none}

-- a write of a number that the table has at the connection, and none
pub changed-entries : (change : ℕ → ℕ) (es fs : List (ℕ × ℕ)) (k v : ℕ) → lookup (is_at (nat_cmp k)) es ≡ Some v
    → (IsSome (lookup (is_at (nat_cmp k)) es) → (q : ℕ) → lookup (is_at (nat_cmp q)) fs ≡ cond (is_at (nat_cmp k) q) (Some (change v)) (lookup (is_at (nat_cmp q)) es))
    → from_entries fs ≡ changed_by change (from_entries es) k
changed-entries change es fs k v there written =
    let m = from_entries {R = nat_cmp} es in
    insert-entries es fs k (change v) (written (rw there refl))
    ∙ sym (ap (λ o. option_map_or (λ n. insert m k (change n)) o m) (get-entries es k ∙ there))

pub unchanged-entries : (change : ℕ → ℕ) (es fs : List (ℕ × ℕ)) (k : ℕ) → lookup (is_at (nat_cmp k)) es ≡ None → fs ≡ es
    → from_entries fs ≡ changed_by change (from_entries es) k
unchanged-entries change es fs k none same =
    let m = from_entries {R = nat_cmp} es in
    ap from_entries same ∙ sym (ap (λ o. option_map_or (λ n. insert m k (change n)) o m) (get-entries es k ∙ none))

-- ---- the number of a connection

module _ (m : Counts) (k q : ℕ) where
  -- a number is written, or removed
  put : (n : ℕ) → counted (insert m k n) q ≡ cond (eqb k q) n (counted m q)
  put n = by (eqb_tells k q)
    where
      by : ((eqb k q ≡ true) × (k ≡ q)) ⊎ ((eqb k q ≡ false) × (k ≢ q)) → counted (insert m k n) q ≡ cond (eqb k q) n (counted m q)
      by (inl is) =
          ap (λ (j : ℕ). counted (insert m k n) j) (sym is.1)
          ∙ ap (λ o. unwrap_or o 0) (get-insert-here nat_cmp_total nat_cmp-IsAntisymmetric m k n)
          ∙ sym (ap (λ b. cond b n (counted m q)) is.0)
      by (inr is) =
          ap (λ o. unwrap_or o 0) (get-insert-elsewhere nat_cmp_total nat_cmp-IsAntisymmetric m k n q (λ e. is.1 (sym e)))
          ∙ sym (ap (λ b. cond b n (counted m q)) is.0)

  pub counted-forgot : counted (remove m k) q ≡ cond (eqb k q) 0 (counted m q)
  counted-forgot = ap (λ o. unwrap_or o 0) (get-remove nat_cmp_total m k q) ∙ by (eqb_tells k q)
    where
      by : ((eqb k q ≡ true) × (k ≡ q)) ⊎ ((eqb k q ≡ false) × (k ≢ q))
          → unwrap_or (cond (eq_by_cmp nat_cmp q k) None (get m q)) 0 ≡ cond (eqb k q) 0 (counted m q)
      by (inl is) =
          let here : eq_by_cmp nat_cmp q k ≡ true = ap (eq_by_cmp nat_cmp q) is.1 ∙ tied nat_cmp_total nat_cmp-IsAntisymmetric q in
          rw (is.0, here) refl
      by (inr is) =
          let other : eq_by_cmp nat_cmp q k ≡ false = not_tied nat_cmp_total nat_cmp-IsAntisymmetric q k (λ e. is.1 (sym e)) in
          rw (is.0, other) refl

  -- one more is counted
  pub counted-raised : counted (insert m k (counted m k + 1)) q ≡ counted m q + cond (eqb k q) 1 0
  counted-raised = put (counted m k + 1) ∙ by (eqb_tells k q)
    where
      by : ((eqb k q ≡ true) × (k ≡ q)) ⊎ ((eqb k q ≡ false) × (k ≢ q))
          → cond (eqb k q) (counted m k + 1) (counted m q) ≡ counted m q + cond (eqb k q) 1 0
      by (inl is) = rw is.0 (ap (λ (j : ℕ). counted m j + 1) is.1)
      by (inr is) = rw is.0 (omega arith)

  -- some are counted no more
  pub counted-lowered : (g : ℕ) → counted (changed_by (λ n. n - g) m k) q ≡ counted m q - cond (eqb k q) g 0
  counted-lowered g = by (get m k) refl
    where
      less : (n : ℕ) → get m k ≡ Some n → ((eqb k q ≡ true) × (k ≡ q)) ⊎ ((eqb k q ≡ false) × (k ≢ q))
          → cond (eqb k q) (n - g) (counted m q) ≡ counted m q - cond (eqb k q) g 0
      less n is (inl here) = rw here.0 (ap (λ (j : ℕ). j - g) (sym (ap (λ o. unwrap_or o 0) is) ∙ ap (counted m) here.1))
      less n is (inr other) = rw other.0 (omega arith)

      same : get m k ≡ None → ((eqb k q ≡ true) × (k ≡ q)) ⊎ ((eqb k q ≡ false) × (k ≢ q)) → counted m q ≡ counted m q - cond (eqb k q) g 0
      same is (inl here) =
          let none : counted m q ≡ 0 = ap (counted m) (sym here.1) ∙ ap (λ o. unwrap_or o 0) is in
          rw (here.0, none) (omega arith)
      same is (inr other) = rw other.0 (omega arith)

      by : (o : Option ℕ) → get m k ≡ o → counted (option_map_or (λ n. insert m k (n - g)) o m) q ≡ counted m q - cond (eqb k q) g 0
      by None is = same is (eqb_tells k q)
      by (Some n) is = put (n - g) ∙ less n is (eqb_tells k q)

-- ---- the watches of a table

abbrev one : ℕ → Watch → ℕ
one c w = cond (eqb w.connection c) 1 0

watch_same : (q w : Watch) → eq_by_cmp watch_cmp q w ≡ true → q ≡ w
watch_same q w e = same_watch q w ((Equal-is (watch_cmp q w)).0 e)

-- what was removed isn't there, and can be put back
pub not_left : (table : Watches) (w : Watch) → contains (sets.remove table w) w ≡ false
not_left table w =
    contains-remove watches_total table w w
    ∙ ap (λ b. not b && contains table w) ((eq_by_cmp_equiv watches_total).refl w)

pub put_back : (table : Watches) (w : Watch) → contains table w ≡ true → sets.insert (sets.remove table w) w ≡ table
put_back table w there = same_set watches_total same_watch _ _ (λ q.
    contains-insert watches_total (sets.remove table w) w q
    ∙ ap (λ b. eq_by_cmp watch_cmp q w || b) (contains-remove watches_total table w q)
    ∙ by q (eq_by_cmp watch_cmp q w) refl)
  where
    by : (q : Watch) (b : Bool) → eq_by_cmp watch_cmp q w ≡ b → (b || (not b && contains table q)) ≡ contains table q
    by q true e = sym (ap (contains table) (watch_same q w e) ∙ there)
    by q false e = refl

-- one that isn't there is removed in vain
pub removed_none : (table : Watches) (w : Watch) → contains table w ≡ false → sets.remove table w ≡ table
removed_none table w absent = same_set watches_total same_watch _ _ (λ q.
    contains-remove watches_total table w q ∙ by q (eq_by_cmp watch_cmp q w) refl)
  where
    by : (q : Watch) (b : Bool) → eq_by_cmp watch_cmp q w ≡ b → (not b && contains table q) ≡ contains table q
    by q true e = sym (ap (contains table) (watch_same q w e) ∙ absent)
    by q false e = refl

-- a table that has a watch isn't empty
pub some_len : (table : Watches) (w : Watch) → contains table w ≡ true → 0 < len table
some_len table w there = by (len table) refl
  where
    by : (n : ℕ) → len table ≡ n → 0 < n
    by zero none = absurd (true≢false (sym there ∙ ap (λ (t : Watches). contains t w) (empty_of_len table none) ∙ contains-empty watch_cmp w))
    by (suc n) e = omega arith

-- no watches are counted where nothing is
pub none_counted : AreCounted finite.empty sets.empty
none_counted c = ap (λ o. unwrap_or o 0) (get-empty nat_cmp c) ∙ sym (len-none (λ w. eqb w.connection c))

-- a watch is put in, and is counted; or it is counted, and counted no more
pub counted_more : (m : Counts) (table : Watches) (w : Watch) → contains table w ≡ false → AreCounted m table
    → AreCounted (insert m w.connection (counted m w.connection + 1)) (sets.insert table w)
counted_more m table w absent counts c =
    counted-raised m w.connection c
    ∙ ap (λ n. n + one c w) (counts c)
    ∙ sym (len-more (λ v. eqb v.connection c) table w absent)

pub counted_again : (m : Counts) (table : Watches) (k : ℕ) → AreCounted m table
    → AreCounted (changed_by (λ n. n - 1) (insert m k (counted m k + 1)) k) table
counted_again m table k counts c =
    counted-lowered (insert m k (counted m k + 1)) k c 1
    ∙ ap (λ n. n - cond (eqb k c) 1 0) (counted-raised m k c)
    ∙ omega arith
    ∙ counts c

-- a watch is removed, and counted no more
pub counted_less : (m : Counts) (table : Watches) (w : Watch) → contains table w ≡ true → AreCounted m table
    → AreCounted (changed_by (λ n. n - 1) m w.connection) (sets.remove table w)
counted_less m table w there counts c =
    let less = sets.remove table w in
    let all : share table c ≡ share less c + one c w =
    ap (λ (t : Watches). share t c) (sym (put_back table w there)) ∙ len-more (λ v. eqb v.connection c) less w (not_left table w) in
    counted-lowered m w.connection c 1
    ∙ ap (λ n. n - one c w) (counts c ∙ all)
    ∙ omega arith

-- a connection that has none needs no count
pub counted_none : (m : Counts) (table : Watches) (k : ℕ) → share table k ≡ 0 → AreCounted m table → AreCounted (remove m k) table
counted_none m table k none counts c = counted-forgot m k c ∙ by (eqb_tells k c)
  where
    by : ((eqb k c ≡ true) × (k ≡ c)) ⊎ ((eqb k c ≡ false) × (k ≢ c)) → cond (eqb k c) 0 (counted m c) ≡ share table c
    by (inl here) = ap (λ b. cond b 0 (counted m c)) here.0 ∙ sym none ∙ ap (share table) here.1
    by (inr other) = ap (λ b. cond b 0 (counted m c)) other.0 ∙ counts c

-- a watch that a request means is of its connection
pub meant_own : (connection : ℕ) (type : WatchType) (path : Path) (w : Watch) → is_meant connection type path w ≡ true → w.connection ≡ connection
meant_own connection type path w is = eqb-true w.connection connection (and_parts _ _ is).0
