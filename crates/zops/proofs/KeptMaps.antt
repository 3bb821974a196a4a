-- On the map that the positions of cached replies make.
use Rattle.std.proofs.Common.{◌≡◌, ◌≢◌, ◌⊎◌, inl, inr, ℕ, zero, suc, ◌+◌, ◌<◌, ◌≤◌, Bool, true, false, cond, ◌&&◌, ◌==◌, List, [], ◌∷◌, ◌++◌, length, map, take, length-take-le, Option, Some, None, Result, Ok, Err, refl, sym, ap, subst, ◌∙◌, arith, zero-add, get_or, set, replicate, get_or-set_same, get_or-set_other}
use Rattle.std.specs.Prelude.{IfOk}
use lib.Dec.{T}
use Rattle.std.specs.declared.cmp.Ordering.TheVariants.{Less, Equal, Greater}
use Rattle.std.specs.Ordering.{nat_cmp, is_eq, is_lt}
use Rattle.std.proofs.lemmas.Bool.{lt-ltb}
use Rattle.std.proofs.lemmas.List.{map-append, take_more, nil_from_length}
use Rattle.std.specs.Cmp.{nat_cmp_total, tied_itself}
use Rattle.std.specs.FinMap as finite
use Rattle.std.specs.FinMap.{get, insert, find, put, get-from_entries, entries-insert, len-entries, len-empty, nat_cmp-IsAntisymmetric, same_map}
use Rattle.std.specs.FinMap.Entries.{below_all}
use Rattle.ztree.proofs.Sorted.{both_parts, is_less}
use Rattle.ztree.proofs.Maps.{same_or_other, not_tied, get-insert-here, get-insert-elsewhere}
use Rattle.zcalls.specs.Cached.{Cached}
use Rattle.zops.specs.support.Places.{entries_from, clients_from, replies_in}

other_number : (n q : ℕ) → q ≢ n → is_eq (nat_cmp q n) ≡ false
other_number n q other = not_tied nat_cmp_total nat_cmp-IsAntisymmetric q n other

-- positions from a number on have nothing under a smaller one
find-below : (n : ℕ) (places : List (Option Cached)) (q : ℕ) → q < n → find nat_cmp q (entries_from n places) ≡ None
find-below n [] q below = refl
find-below n (None ∷ places) q below = find-below (n + 1) places q (omega arith)
find-below n (Some kept ∷ places) q below =
    ap (λ b. cond b (Some kept) (find nat_cmp q (entries_from (n + 1) places))) (other_number n q (λ e. absurd (omega (arith, e, below))))
    ∙ find-below (n + 1) places q (omega arith)

find-place : (n : ℕ) (places : List (Option Cached)) (at : ℕ) → find nat_cmp (n + at) (entries_from n places) ≡ get_or places at None
find-place n [] at = refl
find-place n (None ∷ places) zero = find-below (n + 1) places (n + zero) (omega arith)
find-place n (Some kept ∷ places) zero =
    let here : n + zero ≡ n = omega arith in
    ap (λ q. find nat_cmp q (entries_from n (Some kept ∷ places))) here
    ∙ ap (λ r. cond (is_eq r) (Some kept) (find nat_cmp n (entries_from (n + 1) places))) (tied_itself nat_cmp_total n)
find-place n (None ∷ places) (suc at) =
    let shift : n + suc at ≡ n + 1 + at = omega arith in
    ap (λ q. find nat_cmp q (entries_from (n + 1) places)) shift ∙ find-place (n + 1) places at
find-place n (Some kept ∷ places) (suc at) =
    let shift : n + suc at ≡ n + 1 + at = omega arith in
    ap (λ b. cond b (Some kept) (find nat_cmp (n + suc at) (entries_from (n + 1) places))) (other_number n (n + suc at) (λ e. absurd (omega (arith, e))))
    ∙ ap (λ q. find nat_cmp q (entries_from (n + 1) places)) shift ∙ find-place (n + 1) places at

-- what is cached for a client is what its position has
pub get-replies : (places : List (Option Cached)) (client : ℕ) → get (replies_in places) client ≡ get_or places client None
get-replies places client =
    get-from_entries nat_cmp_total (entries_from 0 places) client
    ∙ ap (λ q. find nat_cmp q (entries_from 0 places)) (sym (zero-add client))
    ∙ find-place 0 places client

-- a position that is written stores a reply, in place of the one that was there
pub replies-set : (places : List (Option Cached)) (client : ℕ) (kept : Cached) → client < length places → replies_in (set places client (Some kept)) ≡ insert (replies_in places) client kept
replies-set places client kept within =
    same_map nat_cmp_total nat_cmp-IsAntisymmetric _ _ (λ q. get-replies (set places client (Some kept)) q ∙ by q (same_or_other nat_cmp_total nat_cmp-IsAntisymmetric q client))
  where
    by : (q : ℕ) → (q ≡ client) ⊎ (q ≢ client) → get_or (set places client (Some kept)) q None ≡ get (insert (replies_in places) client kept) q
    by q (inl same) =
        ap (λ k. get_or (set places client (Some kept)) k None) same
        ∙ get_or-set_same places client (Some kept) None within
        ∙ sym (ap (get (insert (replies_in places) client kept)) same ∙ get-insert-here nat_cmp_total nat_cmp-IsAntisymmetric (replies_in places) client kept)
    by q (inr other) =
        get_or-set_other places client q (Some kept) None other
        ∙ sym (get-insert-elsewhere nat_cmp_total nat_cmp-IsAntisymmetric (replies_in places) client kept q other ∙ get-replies places q)

entries-none : (n count : ℕ) → entries_from n (replicate count None) ≡ []
entries-none n zero = refl
entries-none n (suc count) = entries-none (n + 1) count

-- where no position has a reply, none is cached
pub replies-none : (count : ℕ) → replies_in (replicate count None) ≡ finite.empty
replies-none count = ap (λ es. finite.from_entries {R = nat_cmp} es) (entries-none 0 count)

-- ---- the clients in order

-- positions from a number on have clients above a smaller one
below-places : (k n : ℕ) (places : List (Option Cached)) → k < n → T (below_all nat_cmp k (entries_from n places))
below-places k n [] less = tt
below-places k n (None ∷ places) less = below-places k (n + 1) places (omega (arith, less))
below-places k n (Some kept ∷ places) less =
    both_tests (is_lt (nat_cmp k n)) (below_all nat_cmp k (entries_from (n + 1) places))
    (less_than k n less) (below-places k (n + 1) places (omega (arith, less)))
  where
    less_than : (k n : ℕ) → k < n → T (is_lt (nat_cmp k n))
    less_than k n less = subst (λ b. T (is_lt (cond b Less (cond (k == n) Equal Greater)))) (sym (lt-ltb k n less)) tt

    both_tests : (a b : Bool) → T a → T b → T (a && b)
    both_tests true b x y = y
    both_tests false b x y = absurd x

put_below : (k : ℕ) (v : Cached) (es : List (ℕ × Cached)) → T (below_all nat_cmp k es) → put nat_cmp k v es ≡ (k, v) ∷ es
put_below k v [] low = refl
put_below k v (e ∷ es) low = rw (is_less _ (both_parts (is_lt (nat_cmp k e.0)) (below_all nat_cmp k es) low).0) refl

entries-empty : finite.entries (finite.empty {X = Cached} {R = nat_cmp}) ≡ []
entries-empty = nil_from_length _ (sym (len-entries (finite.empty {X = Cached} {R = nat_cmp})) ∙ len-empty nat_cmp Cached)

entries-places : (n : ℕ) (places : List (Option Cached)) → finite.entries (finite.from_entries {R = nat_cmp} (entries_from n places)) ≡ entries_from n places
entries-places n [] = entries-empty
entries-places n (None ∷ places) = entries-places (n + 1) places
entries-places n (Some kept ∷ places) =
    entries-insert nat_cmp_total (finite.from_entries (entries_from (n + 1) places)) n kept
    ∙ ap (put nat_cmp n kept) (entries-places (n + 1) places)
    ∙ put_below n kept (entries_from (n + 1) places) (below-places n (n + 1) places (omega arith))

pub keys-replies : (places : List (Option Cached)) → finite.keys (replies_in places) ≡ clients_from 0 places
keys-replies places = ap (map (λ (e : ℕ × Cached). e.0)) (entries-places 0 places)

-- one more position
entries-append : (n : ℕ) (places more : List (Option Cached)) → entries_from n (places ++ more) ≡ entries_from n places ++ entries_from (n + length places) more
entries-append n [] more = ap (λ (k : ℕ). entries_from k more) (let same : n ≡ n + 0 = omega arith in same)
entries-append n (None ∷ places) more = entries-append (n + 1) places more ∙ ap (λ (k : ℕ). entries_from (n + 1) places ++ entries_from k more) (further n places)
  where
    further : (n : ℕ) (places : List (Option Cached)) → n + 1 + length places ≡ n + suc (length places)
    further n places = omega arith
entries-append n (Some kept ∷ places) more =
    ap (λ es. (n, kept) ∷ es) (entries-append (n + 1) places more ∙ ap (λ (k : ℕ). entries_from (n + 1) places ++ entries_from k more) (further n places))
  where
    further : (n : ℕ) (places : List (Option Cached)) → n + 1 + length places ≡ n + suc (length places)
    further n places = omega arith

pub clients-more : (places : List (Option Cached)) (i : ℕ) (d : Option Cached) → i < length places →
    clients_from 0 (take (i + 1) places) ≡ clients_from 0 (take i places) ++ clients_from i (get_or places i d ∷ [])
clients-more places i d within =
    let one = get_or places i d ∷ [] in
    let number : 0 + length (take i places) ≡ i = zero-add (length (take i places)) ∙ length-take-le i places (omega (arith, within)) in
    ap (clients_from 0) (take_more places i d within)
    ∙ ap (map (λ (e : ℕ × Cached). e.0)) (entries-append 0 (take i places) one ∙ ap (λ (k : ℕ). entries_from 0 (take i places) ++ entries_from k one) number)
    ∙ map-append (λ (e : ℕ × Cached). e.0) (entries_from 0 (take i places)) (entries_from i one)

pub length-clients : (n : ℕ) (places : List (Option Cached)) → length (clients_from n places) ≤ length places
length-clients n [] = omega arith
length-clients n (None ∷ places) = let few = length-clients (n + 1) places in omega (arith, few)
length-clients n (Some kept ∷ places) = let few = length-clients (n + 1) places in omega (arith, few)

-- what holds of what was listed
pub if_ok : {A E : Type 0} (P Q : A → Type 0) (r : Result A E) → ((x : A) → P x → Q x) → IfOk r P → IfOk r Q
if_ok P Q (Ok x) more is = more x is
if_ok P Q (Err e) more is = tt
