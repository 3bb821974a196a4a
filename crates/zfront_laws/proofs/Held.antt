-- How many bytes the streams hold, where one of them is changed.
use Rattle.std.proofs.Common.{◌≡◌, ◌∙◌, ℕ, ◌+◌, ◌≤◌, Bool, true, false, cond, T, List, [], ◌∷◌, length, Option, None}
use Rattle.std.proofs.Common.{Some, refl, sym, ap, subst, arith}
use Rattle.std.specs.declared.cmp.Ordering.{Ordering}
use Rattle.std.specs.declared.cmp.Ordering.TheVariants.{Less, Equal, Greater}
use Rattle.std.specs.Cmp.{nat_cmp_total}
use Rattle.std.specs.FinMap.{entries, entries_sorted, entries-insert, empty, get, get-entries, insert, len-empty}
use Rattle.std.specs.FinMap.{len-entries, remove, nat_cmp-IsAntisymmetric}
use Rattle.std.specs.FinMap.Entries.{by_order, find, is_sorted, put, where_key}
use Rattle.std.specs.Map.{values_of}
use Rattle.std.specs.Option.{option_map_or}
use Rattle.std.specs.Ordering.{is_eq, nat_cmp}
use Rattle.std.proofs.lemmas.List.Sums.{sum_by-cons}
use Rattle.ztree.proofs.Sorted.{both_parts, entries-remove, find_below, other_than}
use Rattle.zconnections.specs.buffers.Streams.{StreamView, StreamRows, changed, held_of}
use Rattle.zconnections.specs.buffers.support.Entries.{size_of, size_of_all}

abbrev Rows : Type 0
Rows = List (ℕ × StreamView)

one_more : (e : ℕ × StreamView) (es : Rows) → size_of_all (e ∷ es) ≡ size_of e.1 + size_of_all es
one_more e es = sum_by-cons size_of e.1 (values_of es)

some_is : (s t : StreamView) → Some s ≡ Some t → s ≡ t
some_is s t is = ap (λ o. option_map_or (λ x. x) o s) is

-- an entry that takes the place of another one
placed_by : (r : Ordering) (k : ℕ) (v s : StreamView) (e : ℕ × StreamView) (es : Rows) → (r ≡ Less → find nat_cmp k es ≡ None)
    → (find nat_cmp k es ≡ Some s → size_of_all (put nat_cmp k v es) + size_of s ≡ size_of_all es + size_of v)
    → cond (is_eq r) (Some e.1) (find nat_cmp k es) ≡ Some s
    → size_of_all (by_order r ((k, v) ∷ e ∷ es) ((e.0, v) ∷ es) (e ∷ put nat_cmp k v es)) + size_of s ≡ size_of_all (e ∷ es) + size_of v
placed_by Less k v s e es none more found =
    let no : None ≡ Some s = sym (none refl) ∙ found in
    absurd (cc no)
placed_by Equal k v s e es none more found =
    let same = ap size_of (some_is e.1 s found) in
    omega (arith, same, one_more (e.0, v) es, one_more e es)
placed_by Greater k v s e es none more found = omega (arith, more found, one_more e es, one_more e (put nat_cmp k v es))

placed : (k : ℕ) (v s : StreamView) (es : Rows) → T (is_sorted nat_cmp es) → find nat_cmp k es ≡ Some s
    → size_of_all (put nat_cmp k v es) + size_of s ≡ size_of_all es + size_of v
placed k v s [] sorted found = absurd (cc found)
placed k v s (e ∷ es) sorted found =
    placed_by (nat_cmp k e.0) k v s e es (λ less. find_below nat_cmp nat_cmp_total k e.0 es less ((both_parts _ _ sorted).0))
    (placed k v s es ((both_parts _ _ sorted).1)) found

-- an entry that is new
new_by : (r : Ordering) (k : ℕ) (v : StreamView) (e : ℕ × StreamView) (es : Rows)
    → (find nat_cmp k es ≡ None → size_of_all (put nat_cmp k v es) ≡ size_of_all es + size_of v)
    → cond (is_eq r) (Some e.1) (find nat_cmp k es) ≡ None
    → size_of_all (by_order r ((k, v) ∷ e ∷ es) ((e.0, v) ∷ es) (e ∷ put nat_cmp k v es)) ≡ size_of_all (e ∷ es) + size_of v
new_by Less k v e es more none = omega (arith, one_more (k, v) (e ∷ es))
new_by Equal k v e es more none = absurd (cc none)
new_by Greater k v e es more none = omega (arith, more none, one_more e es, one_more e (put nat_cmp k v es))

new_entry : (k : ℕ) (v : StreamView) (es : Rows) → find nat_cmp k es ≡ None → size_of_all (put nat_cmp k v es) ≡ size_of_all es + size_of v
new_entry k v [] none = omega (arith, one_more (k, v) [])
new_entry k v (e ∷ es) none = new_by (nat_cmp k e.0) k v e es (new_entry k v es) none

-- so it is for the streams
module _ (rows : StreamRows) (c : ℕ) where
  insert_there : (s v : StreamView) → get rows c ≡ Some s → held_of (insert rows c v) + size_of s ≡ held_of rows + size_of v
  insert_there s v there =
      subst (λ es. size_of_all es + size_of s ≡ held_of rows + size_of v) (sym (entries-insert nat_cmp_total rows c v))
      (placed c v s (entries rows) (entries_sorted rows) (sym (get-entries rows c) ∙ there))

  insert_new : (v : StreamView) → get rows c ≡ None → held_of (insert rows c v) ≡ held_of rows + size_of v
  insert_new v none = ap size_of_all (entries-insert nat_cmp_total rows c v) ∙ new_entry c v (entries rows) (sym (get-entries rows c) ∙ none)

  pub held-insert : (v : StreamView) → held_of (insert rows c v) ≤ held_of rows + size_of v
  held-insert v = each (get rows c) refl
    where
      each : (o : Option StreamView) → get rows c ≡ o → held_of (insert rows c v) ≤ held_of rows + size_of v
      each None is = omega (arith, insert_new v is)
      each (Some s) is = omega (arith, insert_there s v is)

  -- where a stream grows by at most this number
  pub held-changed : (to : StreamView → StreamView) (n : ℕ) → ((s : StreamView) → size_of (to s) ≤ size_of s + n)
      → held_of (changed to rows c) ≤ held_of rows + n
  held-changed to n grows = each (get rows c) refl
    where
      each : (o : Option StreamView) → get rows c ≡ o → held_of (option_map_or (λ s. insert rows c (to s)) o rows) ≤ held_of rows + n
      each None is = omega arith
      each (Some s) is = omega (arith, grows s, insert_there s (to s) is)

-- entries that are left
kept_by : (b : Bool) (p : ℕ → Bool) (e : ℕ × StreamView) (es : Rows) → size_of_all (where_key nat_cmp p es) ≤ size_of_all es
    → size_of_all (cond b (e ∷ where_key nat_cmp p es) (where_key nat_cmp p es)) ≤ size_of_all (e ∷ es)
kept_by true p e es few = omega (arith, few, one_more e es, one_more e (where_key nat_cmp p es))
kept_by false p e es few = omega (arith, few, one_more e es)

kept_entries : (p : ℕ → Bool) (es : Rows) → size_of_all (where_key nat_cmp p es) ≤ size_of_all es
kept_entries p [] = omega arith
kept_entries p (e ∷ es) = kept_by (p e.0) p e es (kept_entries p es)

-- a stream is gone
pub held-remove : (rows : StreamRows) (c : ℕ) → held_of (remove rows c) ≤ held_of rows
held-remove rows c =
    subst (λ es. size_of_all es ≤ held_of rows) (sym (entries-remove nat_cmp nat_cmp_total nat_cmp-IsAntisymmetric rows c))
    (kept_entries (other_than nat_cmp c) (entries rows))

-- no streams hold no bytes
no_rows : (es : Rows) → length es ≡ 0 → size_of_all es ≡ 0
no_rows [] none = refl
no_rows (e ∷ es) none = absurd (omega (arith, none))

pub held-empty : held_of empty ≡ 0
held-empty = no_rows (entries empty) (sym (len-entries empty) ∙ len-empty nat_cmp StreamView)
