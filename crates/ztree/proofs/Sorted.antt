-- Rows in the order of their keys: what is at a position, and what an edit there makes of the map.
use Rattle.std.proofs.Common.{◌≡◌, ℕ, zero, suc, Bool, true, false, not, cond, ◌&&◌, List, [], ◌∷◌, ◌++◌, take, drop, get_or, set, Option, Some, None, refl, sym, ap, subst, ◌∙◌}
use lib.Dec.{T}
use Rattle.std.specs.declared.cmp.Ordering.{Ordering}
use Rattle.std.specs.declared.cmp.Ordering.TheVariants.{Less, Equal, Greater}
use Rattle.std.specs.Ordering.{is_lt, is_eq, eq_by_cmp}
use Rattle.std.specs.Cmp.{IsTotalOrder, tied_itself, alike_right, eq_by_cmp_equiv}
use Rattle.std.specs.FinMap as finite
use Rattle.std.specs.FinMap.{FinMap, find, put, is_sorted, entries_sorted, insert, from_sorted, entries-from_sorted, entries-insert, get-from_sorted, get-remove, same_entries_map, same_map}
use Rattle.std.specs.List.{remove}
use Rattle.std.specs.Cmp.Lexicographic.{lists_total, nat_list_cmp_total}
use Rattle.std.specs.FinMap.{IsAntisymmetric, slice_cmp-IsAntisymmetric, nat_cmp-IsAntisymmetric}
use Rattle.zpath.specs.Grammar.{path_cmp}
use Rattle.std.specs.FinMap.Entries.{below_all, where_key, is_sorted-put, is_sorted-where_key, find-where_key}

pub both_parts : (a b : Bool) → T (a && b) → T a × T b
both_parts true b h = (tt, h)
both_parts false b h = absurd h

pub is_less : (r : Ordering) → T (is_lt r) → r ≡ Less
is_less Less h = refl
is_less Equal h = absurd h
is_less Greater h = absurd h

pub paths_total : IsTotalOrder path_cmp
paths_total = lists_total nat_list_cmp_total

pub same_path : IsAntisymmetric path_cmp
same_path = slice_cmp-IsAntisymmetric (slice_cmp-IsAntisymmetric nat_cmp-IsAntisymmetric)

-- the test for keys that aren't q
abbrev pub other_than : {K : Type 0} → (K → K → Ordering) → K → K → Bool
other_than R q x = not (eq_by_cmp R q x)

module _ {K X : Type 0} (R : K → K → Ordering) where
  -- the key is that of the row at the position, and it is above those before it
  abbrev pub At : K → List (K × X) → ℕ → Type 0
  At q [] i = ⊥
  At q (e ∷ es) zero = e.0 ≡ q
  At q (e ∷ es) (suc i) = (R q e.0 ≡ Greater) × At q es i

  -- the key would go to the position
  abbrev pub Gap : K → List (K × X) → ℕ → Type 0
  Gap q [] zero = Unit {0}
  Gap q [] (suc i) = ⊥
  Gap q (e ∷ es) zero = R q e.0 ≡ Less
  Gap q (e ∷ es) (suc i) = (R q e.0 ≡ Greater) × Gap q es i

  module _ (o : IsTotalOrder R) where
    -- a key below all keys is not found
    pub find_below : (q k : K) (es : List (K × X)) → R q k ≡ Less → T (below_all R k es) → find R q es ≡ None
    find_below q k [] l h = refl
    find_below q k (e ∷ es) l h =
        let parts = both_parts (is_lt (R k e.0)) (below_all R k es) h in
        let lt = o.trans q k e.0 l (is_less _ parts.0) in
        rw lt (find_below q k es l parts.1)

    pub find_gap : (q : K) (es : List (K × X)) (i : ℕ) → T (is_sorted R es) → Gap q es i → find R q es ≡ None
    find_gap q [] i s g = refl
    find_gap q (e ∷ es) zero s g = rw g (find_below q e.0 es g (both_parts (below_all R e.0 es) (is_sorted R es) s).0)
    find_gap q (e ∷ es) (suc i) s g = rw g.0 (find_gap q es i (both_parts (below_all R e.0 es) (is_sorted R es) s).1 g.1)

    pub insert_gap : (q : K) (v : X) (es : List (K × X)) (i : ℕ) → Gap q es i → take i es ++ (q, v) ∷ drop i es ≡ put R q v es
    insert_gap q v [] zero g = refl
    insert_gap q v [] (suc i) g = absurd g
    insert_gap q v (e ∷ es) zero g = rw g refl
    insert_gap q v (e ∷ es) (suc i) g = rw g.0 (ap (λ t. e ∷ t) (insert_gap q v es i g.1))

    pub find_at : (q : K) (es : List (K × X)) (i : ℕ) (d : K × X) → At q es i → find R q es ≡ Some (get_or es i d).1
    find_at q [] i d a = absurd a
    find_at q (e ∷ es) zero d a = rw (a, tied_itself o q) refl
    find_at q (e ∷ es) (suc i) d a = rw a.0 (find_at q es i d a.1)

    pub found_at : (q : K) (es : List (K × X)) (i : ℕ) → At q es i → find R q es ≡ None → ⊥
    found_at q [] i a none = a
    found_at q (e ∷ es) zero a none = let found = rw (a, tied_itself o q) at none in cc
    found_at q (e ∷ es) (suc i) a none = found_at q es i a.1 (rw a.0 at none)

    pub set_at : (q : K) (v : X) (es : List (K × X)) (i : ℕ) → At q es i → set es i (q, v) ≡ put R q v es
    set_at q v [] i a = absurd a
    set_at q v (e ∷ es) zero a = rw (a, tied_itself o q) refl
    set_at q v (e ∷ es) (suc i) a = rw a.0 (ap (λ t. e ∷ t) (set_at q v es i a.1))

    -- rows that are those of an insert make the map of the insert, and stay in order
    pub put_sorted : (q : K) (v : X) (es fs : List (K × X)) → T (is_sorted R es) → fs ≡ put R q v es → T (is_sorted R fs)
    put_sorted q v es fs s e = subst (λ rows. T (is_sorted R rows)) (sym e) (is_sorted-put R o q v es s)

    pub from_sorted-put : (q : K) (v : X) (es fs : List (K × X)) → T (is_sorted R es) → fs ≡ put R q v es → from_sorted {R = R} fs ≡ insert (from_sorted es) q v
    from_sorted-put q v es fs s e = same_entries_map _ _ (
        entries-from_sorted R fs (put_sorted q v es fs s e) ∙ e ∙ ap (put R q v) (sym (entries-from_sorted R es s)) ∙ sym (entries-insert o (from_sorted es) q v)
        )

    -- keys above q aren't q
    pub all_others : (q k : K) (es : List (K × X)) → k ≡ q → T (below_all R k es) → where_key R (other_than R q) es ≡ es
    all_others q k [] e h = refl
    all_others q k (x ∷ es) e h =
        let parts = both_parts (is_lt (R k x.0)) (below_all R k es) h in
        let low : R q x.0 ≡ Less = ap (λ y. R y x.0) (sym e) ∙ is_less _ parts.0 in
        rw low (ap (λ t. x ∷ t) (all_others q k es e parts.1))

    -- the rows without the one at a key's position are those with other keys
    pub remove_at : (q : K) (es : List (K × X)) (i : ℕ) → T (is_sorted R es) → At q es i → remove es i ≡ where_key R (other_than R q) es
    remove_at q [] i s a = absurd a
    remove_at q (e ∷ es) zero s a = rw (a, tied_itself o q) (sym (all_others q e.0 es a (both_parts (below_all R e.0 es) (is_sorted R es) s).0))
    remove_at q (e ∷ es) (suc i) s a = rw a.0 (ap (λ t. e ∷ t) (remove_at q es i (both_parts (below_all R e.0 es) (is_sorted R es) s).1 a.1))

    -- and they make the map without the key
    pub others_sorted : (q : K) (es fs : List (K × X)) → T (is_sorted R es) → fs ≡ where_key R (other_than R q) es → T (is_sorted R fs)
    others_sorted q es fs s e = subst (λ rows. T (is_sorted R rows)) (sym e) (is_sorted-where_key R (other_than R q) es s)

    turned : (b : Bool) (x y : Option X) → cond (not b) x y ≡ cond b y x
    turned true x y = refl
    turned false x y = refl

    pub from_sorted-others : IsAntisymmetric R → (q : K) (es fs : List (K × X)) → T (is_sorted R es) → fs ≡ where_key R (other_than R q) es → from_sorted {R = R} fs ≡ finite.remove (from_sorted es) q
    from_sorted-others same q es fs s e = same_map o same _ _ (λ k.
        get-from_sorted R fs k (others_sorted q es fs s e) ∙ ap (find R k) e
        ∙ find-where_key R (other_than R q) k (λ x t. ap (λ r. not (is_eq r)) (sym (alike_right o k x q t))) es
        ∙ turned (eq_by_cmp R q k) _ _
        ∙ ap (λ b. cond b None (find R k es)) ((eq_by_cmp_equiv o).symm q k)
        ∙ sym (get-remove o (from_sorted es) q k ∙ ap (λ v. cond (eq_by_cmp R k q) None v) (get-from_sorted R es k s)))

    -- a map without a key has the entries with other keys
    pub entries-remove : IsAntisymmetric R → (m : FinMap R X) (q : K) → finite.entries (finite.remove m q) ≡ where_key R (other_than R q) (finite.entries m)
    entries-remove same m q =
        let es = finite.entries m in
        let fs = where_key R (other_than R q) es in
        let itself : from_sorted {R = R} es ≡ m = same_entries_map _ _ (entries-from_sorted R es (entries_sorted m)) in
        ap (λ (n : FinMap R X). finite.entries (finite.remove n q)) (sym itself)
        ∙ ap finite.entries (sym (from_sorted-others same q es fs (entries_sorted m) refl))
        ∙ entries-from_sorted R fs (others_sorted q es fs (entries_sorted m) refl)
