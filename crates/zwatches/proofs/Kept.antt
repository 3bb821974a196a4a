-- How many of a table's watches pass a test.
use Rattle.std.proofs.Common.{◌≡◌, ℕ, ◌+◌, ◌≤◌, Bool, true, false, cond, not, ◌&&◌, ◌||◌, eqb, leb, List, [], ◌∷◌, refl, sym, ap, subst, ◌∙◌, arith}
use Rattle.std.specs.List.{filter, list_any}
use Rattle.std.specs.Ordering.{eq_by_cmp}
use Rattle.std.specs.Cmp.{Equal-is}
use Rattle.std.specs.FinSet.{contains, empty, from_list, insert, items, len, retain, contains-empty, contains-from_list, contains-insert, contains-items, contains-retain, len-empty, len-insert, same_set}
use Rattle.zwatches.specs.declared.watch.Watch.{Watch}
use Rattle.zwatches.specs.declared.limits.WatchLimits.{WatchLimits}
use Rattle.zwatches.specs.Watches.{Watches, is_full, share, watch_cmp}
use Rattle.zwatches.proofs.Order.{watches_total, same_watch}
use Rattle.zwatches.proofs.Sets.{from_list-filter, insert_again}

-- ---- tables that grow by one watch after the other

tied : (x y : Watch) → eq_by_cmp watch_cmp x y ≡ true → x ≡ y
tied x y e = same_watch x y ((Equal-is (watch_cmp x y)).0 e)

pub of_items : (table : Watches) → table ≡ from_list (items table)
of_items table = same_set watches_total same_watch _ _ (λ q. contains-items table q ∙ sym (contains-from_list watches_total (items table) q))

-- what holds of the empty table, and of a table with one watch more, holds of all
module _ (P : Watches → Type 0) (none : P empty) (more : (table : Watches) (w : Watch) → contains table w ≡ false → P table → P (insert table w)) where
  step : (table : Watches) (w : Watch) → P table → P (insert table w)
  step table w is = by (contains table w) refl
    where
      by : (b : Bool) → contains table w ≡ b → P (insert table w)
      by true there = subst P (sym (insert_again watches_total same_watch table w there)) is
      by false there = more table w there is

  listed : (ws : List Watch) → P (from_list ws)
  listed [] = none
  listed (w ∷ ws) = step (from_list ws) w (listed ws)

  pub by_watches : (table : Watches) → P table
  by_watches table = subst P (sym (of_items table)) (listed (items table))

-- ---- how many pass a test

pub contains-kept : (table : Watches) (p : Watch → Bool) (q : Watch) → contains (retain table p) q ≡ (contains table q && p q)
contains-kept table p q = contains-retain table p q (λ x e. ap p (sym (same_watch q x e)))

and_none : (b : Bool) → (b && false) ≡ false
and_none true = refl
and_none false = refl

retain-empty : (p : Watch → Bool) → retain (empty {R = watch_cmp}) p ≡ empty
retain-empty p = same_set watches_total same_watch _ _ (λ q.
    contains-kept empty p q ∙ ap (λ b. b && p q) (contains-empty watch_cmp q) ∙ sym (contains-empty watch_cmp q))

module _ (p : Watch → Bool) where
  pub retain-insert : (table : Watches) (w : Watch) → retain (insert table w) p ≡ cond (p w) (insert (retain table p) w) (retain table p)
  retain-insert table w = by (p w) refl
    where
      with_it : p w ≡ true → (q : Watch) → ((eq_by_cmp watch_cmp q w || contains table q) && p q) ≡ (eq_by_cmp watch_cmp q w || (contains table q && p q))
      with_it passes q = here (eq_by_cmp watch_cmp q w) refl
        where
          here : (b : Bool) → eq_by_cmp watch_cmp q w ≡ b → ((b || contains table q) && p q) ≡ (b || (contains table q && p q))
          here true tie = ap p (tied q w tie) ∙ passes
          here false tie = refl

      without_it : p w ≡ false → (q : Watch) → ((eq_by_cmp watch_cmp q w || contains table q) && p q) ≡ (contains table q && p q)
      without_it fails q = here (eq_by_cmp watch_cmp q w) refl
        where
          here : (b : Bool) → eq_by_cmp watch_cmp q w ≡ b → ((b || contains table q) && p q) ≡ (contains table q && p q)
          here true tie =
              let none : p q ≡ false = ap p (tied q w tie) ∙ fails in
              none ∙ sym (ap (λ b. contains table q && b) none ∙ and_none (contains table q))
          here false tie = refl

      by : (b : Bool) → p w ≡ b → retain (insert table w) p ≡ cond b (insert (retain table p) w) (retain table p)
      by true passes = same_set watches_total same_watch _ _ (λ q.
          contains-kept (insert table w) p q
          ∙ ap (λ b. b && p q) (contains-insert watches_total table w q)
          ∙ with_it passes q
          ∙ sym (contains-insert watches_total (retain table p) w q ∙ ap (λ b. eq_by_cmp watch_cmp q w || b) (contains-kept table p q)))
      by false fails = same_set watches_total same_watch _ _ (λ q.
          contains-kept (insert table w) p q
          ∙ ap (λ b. b && p q) (contains-insert watches_total table w q)
          ∙ without_it fails q
          ∙ sym (contains-kept table p q))

  -- one more watch is one more that passes, if it does
  pub len-more : (table : Watches) (w : Watch) → contains table w ≡ false → len (retain (insert table w) p) ≡ len (retain table p) + cond (p w) 1 0
  len-more table w absent = ap len (retain-insert table w) ∙ by (p w) refl
    where
      by : (b : Bool) → p w ≡ b → len (cond b (insert (retain table p) w) (retain table p)) ≡ len (retain table p) + cond b 1 0
      by true passes =
          len-insert watches_total (retain table p) w
          ∙ ap (λ b. cond b (len (retain table p)) (len (retain table p) + 1)) (contains-kept table p w ∙ ap (λ b. b && p w) absent)
      by false fails = omega arith

  pub len-none : len (retain (empty {R = watch_cmp}) p) ≡ 0
  len-none = ap len (retain-empty p) ∙ len-empty watch_cmp

-- one more watch
pub len-one_more : (table : Watches) (w : Watch) → contains table w ≡ false → len (insert table w) ≡ len table + 1
len-one_more table w absent = len-insert watches_total table w ∙ ap (λ b. cond b (len table) (len table + 1)) absent

-- no more pass a test than there are
pub len-retain-le : (p : Watch → Bool) (table : Watches) → len (retain table p) ≤ len table
len-retain-le p = by_watches (λ table. len (retain table p) ≤ len table)
    (omega (arith, len-none p))
    (λ table w absent so_far. small (p w) (len-more p table w absent) (len-one_more table w absent) so_far)
  where
    small : {more all some : ℕ} {before : ℕ} (b : Bool) → some ≡ before + cond b 1 0 → all ≡ more + 1 → before ≤ more → some ≤ all
    small true one two le = omega (arith, one, two, le)
    small false one two le = omega (arith, one, two, le)

-- two tests, in either order
pub retain-swapped : (p q : Watch → Bool) (table : Watches) → retain (retain table p) q ≡ retain (retain table q) p
retain-swapped p q table = same_set watches_total same_watch _ _ (λ w.
    contains-kept (retain table p) q w
    ∙ ap (λ b. b && q w) (contains-kept table p w)
    ∙ swapped (contains table w) (p w) (q w)
    ∙ sym (contains-kept (retain table q) p w ∙ ap (λ b. b && p w) (contains-kept table q w)))
  where
    swapped : (a b c : Bool) → ((a && b) && c) ≡ ((a && c) && b)
    swapped true true true = refl
    swapped true true false = refl
    swapped true false true = refl
    swapped true false false = refl
    swapped false b c = refl

-- a test of which the other is a part says nothing more
pub retain-all : (p q : Watch → Bool) → ((w : Watch) → q w ≡ true → p w ≡ true) → (table : Watches) → retain (retain table p) q ≡ retain table q
retain-all p q part table = same_set watches_total same_watch _ _ (λ w.
    contains-kept (retain table p) q w
    ∙ ap (λ b. b && q w) (contains-kept table p w)
    ∙ by w (q w) refl (contains table w)
    ∙ sym (contains-kept table q w))
  where
    by : (w : Watch) (b : Bool) → q w ≡ b → (a : Bool) → ((a && p w) && b) ≡ (a && b)
    by w true is true = ap (λ b. b && true) (part w is)
    by w true is false = refl
    by w false is true = and_none (p w)
    by w false is false = refl

-- ---- tables of worked examples

-- how many rows differ
abbrev pub distinct : List Watch → ℕ
distinct [] = 0
distinct (w ∷ ws) = cond (list_any (eq_by_cmp watch_cmp w) ws) (distinct ws) (distinct ws + 1)

len_here : (rows : List Watch) → len (from_list {R = watch_cmp} rows) ≡ distinct rows
len_here [] = len-empty watch_cmp
len_here (w ∷ ws) =
    len-insert watches_total (from_list ws) w
    ∙ (λ i. cond (contains-from_list watches_total ws w i) (len_here ws i) (len_here ws i + 1))

pub share_here : (rows : List Watch) (c : ℕ) → share (from_list rows) c ≡ distinct (filter (λ w. eqb w.connection c) rows)
share_here rows c = ap len (sym (from_list-filter watches_total same_watch (λ w. eqb w.connection c) rows)) ∙ len_here (filter (λ w. eqb w.connection c) rows)

pub full_here : (limits : WatchLimits) (rows : List Watch) (w : Watch) → is_full limits (from_list rows) w
    ≡ (not (list_any (eq_by_cmp watch_cmp w) rows) && (leb limits.most (distinct rows) || leb limits.each (distinct (filter (λ v. eqb v.connection w.connection) rows))))
full_here limits rows w = λ i. not (contains-from_list watches_total rows w i) && (leb limits.most (len_here rows i) || leb limits.each (share_here rows w.connection i))
