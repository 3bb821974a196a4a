-- The laws of the limits.
use Rattle.std.proofs.Common.{◌≡◌, ◌≢◌, ◌⊎◌, inl, inr, ℕ, ◌+◌, ◌*◌, ◌<◌, ◌≤◌, Bool, true, false, cond, eqb, leb, not, ◌&&◌, ◌||◌, List, [], ◌∷◌, length, refl, sym, ap, subst, ◌∙◌, arith}
use Rattle.std.specs.Ordering.{eq_by_cmp}
use Rattle.std.specs.FinSet.{contains, contains-insert, empty, insert, len, len-empty, retain}
use Rattle.std.specs.List.{sum_by}
use Rattle.std.proofs.lemmas.Bool.{eq-eqb, eqb-true, leb-false, lt-leb, ne_eqb}
use Rattle.std.proofs.lemmas.Bool.Decides.{eqb_tells}
use Rattle.std.proofs.lemmas.List.Sums.{sum_by-cons, sum_by-le-sum_by}
use Rattle.ztree.proofs.Maps.{tied}
use Rattle.zcalls.specs.Lists.{Among}
use Rattle.zwatches.specs.declared.limits.WatchLimits.{WatchLimits}
use Rattle.zwatches.specs.declared.watch.Watch.{Watch}
use Rattle.zwatches.specs.Watches.{Watches, is_full, share, watch_cmp}
use Rattle.zwatches.specs.Events.{ends}
use Rattle.zwatches.specs.Removal.{is_meant}
use Rattle.zwatches.specs.Limits.{AreOf, IsWithin, KeepsLimits, LimitsAreKept, SharesAreApart, SharesLast, with_watch}
use Rattle.zwatches.proofs.Counts.{meant_own}
use Rattle.zwatches.proofs.Kept.{by_watches, len-more, len-none, len-one_more, len-retain-le, retain-all, retain-insert, retain-swapped}
use Rattle.zwatches.proofs.Order.{watches_total, same_watch}
use Rattle.zwatches.proofs.Sets.{insert_again, or_true}

-- the watches of a connection
abbrev mine : ℕ → Watch → Bool
mine c w = eqb w.connection c

-- ---- limits are kept

module _ (limits : WatchLimits) where
  begins : IsWithin limits empty
  begins = record {
    all = omega (arith, len-empty watch_cmp);
    shares = λ c. omega (arith, len-none (mine c));
  }

  -- whatever is removed
  kept_within : (table : Watches) (p : Watch → Bool) → IsWithin limits table → IsWithin limits (retain table p)
  kept_within table p is = record {
    all = omega (arith, is.all, len-retain-le p table);
    shares = λ c. omega (arith, is.shares c, len-retain-le p (retain table (mine c)), ap len (retain-swapped p (mine c) table));
  }

  not_or : (a b : Bool) → (a || b) ≡ false → (a ≡ false) × (b ≡ false)
  not_or true b e = absurd cc
  not_or false b e = (refl, e)

  -- one watch more
  module _ (table : Watches) (w : Watch) (is : IsWithin limits table) where
    put : contains table w ≡ false → (leb limits.most (len table) || leb limits.each (share table w.connection)) ≡ false → IsWithin limits (insert table w)
    put absent room =
        let few : len table < limits.most = leb-false limits.most (len table) (not_or (leb limits.most (len table)) (leb limits.each (share table w.connection)) room).0 in
        let own : share table w.connection < limits.each = leb-false limits.each (share table w.connection) (not_or (leb limits.most (len table)) (leb limits.each (share table w.connection)) room).1 in
        record {
          all = omega (arith, few, len-one_more table w absent);
          shares = λ c. by c (eqb_tells w.connection c) own;
        }
      where
        by : (c : ℕ) → ((eqb w.connection c ≡ true) × (w.connection ≡ c)) ⊎ ((eqb w.connection c ≡ false) × (w.connection ≢ c))
            → share table w.connection < limits.each → share (insert table w) c ≤ limits.each
        by c (inl here) own =
            let more : share (insert table w) c ≡ share table c + 1 = len-more (mine c) table w absent ∙ ap (λ b. share table c + cond b 1 0) here.0 in
            let same : share table w.connection ≡ share table c = ap (share table) here.1 in
            omega (arith, more, own, same)
        by c (inr other) own =
            let more : share (insert table w) c ≡ share table c + 0 = len-more (mine c) table w absent ∙ ap (λ b. share table c + cond b 1 0) other.0 in
            omega (arith, more, is.shares c)

    sets_within : IsWithin limits (with_watch limits table w)
    sets_within = by (contains table w) refl (leb limits.most (len table) || leb limits.each (share table w.connection)) refl
      where
        by : (there : Bool) → contains table w ≡ there → (full : Bool) → (leb limits.most (len table) || leb limits.each (share table w.connection)) ≡ full
            → IsWithin limits (cond (not there && full) table (insert table w))
        by true there full e = subst (IsWithin limits) (sym (insert_again watches_total same_watch table w there)) is
        by false absent true e = is
        by false absent false e = put absent e

  keeps_limits : KeepsLimits limits
  keeps_limits = record {
    begins = begins;
    sets = λ table w is. sets_within table w is;
    fires = λ table event path is. kept_within table (λ w. not (ends event path w)) is;
    removes = λ table c type path is. kept_within table (λ w. not (is_meant c type path w)) is;
    forgets = λ table c is. kept_within table (λ w. not (eqb w.connection c)) is;
  }

pub limits_are_kept : LimitsAreKept
limits_are_kept limits = keeps_limits limits

-- ---- shares are apart

grown : (table : Watches) (w : Watch) → contains table w ≡ false → (c : ℕ) → share table c ≤ share (insert table w) c
grown table w absent c = omega (arith, len-more (mine c) table w absent)

-- one watch more of one of these connections
sum-more : (table : Watches) (w : Watch) → contains table w ≡ false → (cs : List ℕ) → Among w.connection cs
    → sum_by (share table) cs + 1 ≤ sum_by (share (insert table w)) cs
sum-more table w absent [] there = absurd there
sum-more table w absent (c ∷ cs) there = by there (sum-more table w absent cs)
  where
    by : (c ≡ w.connection) ⊎ Among w.connection cs → (Among w.connection cs → sum_by (share table) cs + 1 ≤ sum_by (share (insert table w)) cs)
        → sum_by (share table) (c ∷ cs) + 1 ≤ sum_by (share (insert table w)) (c ∷ cs)
    by (inl here) rest =
        let one = len-more (mine c) table w absent ∙ ap (λ b. share table c + cond b 1 0) (eq-eqb w.connection c (sym here)) in
        let others = sum_by-le-sum_by (share table) (share (insert table w)) cs (grown table w absent) in
        omega (arith, one, others, sum_by-cons (share table) c cs, sum_by-cons (share (insert table w)) c cs)
    by (inr later) rest =
        omega (arith, rest later, grown table w absent c, sum_by-cons (share table) c cs, sum_by-cons (share (insert table w)) c cs)

-- all watches are those of the connections that have some
len-shares : (cs : List ℕ) (table : Watches) → AreOf cs table → len table ≤ sum_by (share table) cs
len-shares cs = by_watches (λ table. AreOf cs table → len table ≤ sum_by (share table) cs)
    (λ of. omega (arith, len-empty watch_cmp))
    (λ table w absent so_far of.
    let there = contains-insert watches_total table w w ∙ ap (λ b. b || contains table w) (tied watches_total same_watch w) in
    let before = so_far (λ v in_it. of v (contains-insert watches_total table w v ∙ ap (λ b. eq_by_cmp watch_cmp v w || b) in_it ∙ or_true (eq_by_cmp watch_cmp v w))) in
    omega (arith, before, len-one_more table w absent, sum-more table w absent cs (of w there)))

sum-within : (limits : WatchLimits) (table : Watches) → IsWithin limits table → (cs : List ℕ) → sum_by (share table) cs ≤ length cs * limits.each
sum-within limits table is [] = omega arith
sum-within limits table is (c ∷ cs) = omega (arith, sum-within limits table is cs, is.shares c, sum_by-cons (share table) c cs)

pub shares_are_apart : SharesAreApart
shares_are_apart limits table w others is of room = by (leb limits.each (share table w.connection)) refl
  where
    by : (own : Bool) → leb limits.each (share table w.connection) ≡ own
        → (not (contains table w) && (leb limits.most (len table) || own)) ≡ (not (contains table w) && own)
    by true full = ap (λ b. not (contains table w) && b) (or_true (leb limits.most (len table)))
    by false few =
        let less = leb-false limits.each (share table w.connection) few in
        let all = len-shares (w.connection ∷ others) table of in
        let rest = sum-within limits table is others in
        ap (λ b. not (contains table w) && (b || false))
        (lt-leb limits.most (len table) (omega (arith, less, all, rest, room, sum_by-cons (share table) w.connection others)))

-- ---- shares last

module _ (table : Watches) (c other : ℕ) (differ : other ≢ c) where
  not_other : (w : Watch) → eqb w.connection c ≡ true → w.connection ≢ other
  not_other w own e = differ (sym e ∙ eqb-true w.connection c own)

  put_by : (w : Watch) → w.connection ≡ other → share (insert table w) c ≡ share table c
  put_by w of =
      ap len (retain-insert (mine c) table w ∙ ap (λ b. cond b (insert (retain table (mine c)) w) (retain table (mine c))) (ne_eqb w.connection c (λ e. differ (sym of ∙ e))))

  left_by : (test : Watch → Bool) → ((w : Watch) → test w ≡ true → w.connection ≡ other) → share (retain table (λ w. not (test w))) c ≡ share table c
  left_by test own = ap len (retain-all (λ w. not (test w)) (mine c) (λ w of. by w of (test w) refl) table)
    where
      by : (w : Watch) → eqb w.connection c ≡ true → (b : Bool) → test w ≡ b → not b ≡ true
      by w of true is = absurd (not_other w of (own w is))
      by w of false is = refl

pub shares_last : SharesLast
shares_last limits table c other differ = record {
  sets = λ w of. by (is_full limits table w) w of;
  removes = λ type path. left_by table c other differ (is_meant other type path) (meant_own other type path);
  forgets = left_by table c other differ (λ w. eqb w.connection other) (λ w is. eqb-true w.connection other is);
}
  where
    by : (full : Bool) (w : Watch) → w.connection ≡ other → share (cond full table (insert table w)) c ≡ share table c
    by true w of = refl
    by false w of = put_by table c other differ w of
