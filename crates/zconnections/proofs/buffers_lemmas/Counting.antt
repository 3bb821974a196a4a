-- On the count of the bytes that the entries of a table hold.
use Rattle.std.proofs.Common.{◌≡◌, ℕ, ◌+◌, ◌-◌, ◌^◌, ◌%◌, ◌<◌, List, Some, None, sym, ap, ◌∙◌, arith, unwrap_or}
use Rattle.std.specs.Ordering.{nat_cmp}
use Rattle.std.specs.Cmp.{nat_cmp_total}
use Rattle.std.specs.List.Sorted.{IsStrictlySortedBy}
use Rattle.std.specs.Map.{lookup, keys_of, remove_entry, set_value}
use Rattle.std.specs.Option.{option_map}
use Rattle.std.specs.BTreeMap.{is_at, insert_entry}
use Rattle.std.proofs.lemmas.Map.Entries.{sum_by-remove_entry, sum_by-set_value, sum_by-insert_entry}
use Rattle.std.specs.FinMap.{from_entries}
use Rattle.zconnections.specs.buffers.Streams.{StreamView, held_of}
use Rattle.zconnections.specs.buffers.support.Entries.{IsCounted, size_of, size_of_all}
use Rattle.ztree.proofs.Entries.{entries-rising}

-- a wrapped count without some
less_wrapped : (held all left x : ℕ) → held ≡ all % 2 ^ 64 → left + x ≡ all → x < 2 ^ 64 → (held + (2 ^ 64 - x)) % 2 ^ 64 ≡ left % 2 ^ 64
less_wrapped held all left x is split small = omega (arith, is, split, small)

-- and with more
more_wrapped : (held all y : ℕ) → held ≡ all % 2 ^ 64 → (held + y) % 2 ^ 64 ≡ (all + y) % 2 ^ 64
more_wrapped held all y is = omega (arith, is)

module _ (es fs : List (ℕ × StreamView)) (k held : ℕ) (counted : IsCounted es held) (order : IsStrictlySortedBy nat_cmp (keys_of fs)) where
  -- where a stream of these bytes was taken out
  pub less-removed : (x : ℕ) → fs ≡ remove_entry (is_at (nat_cmp k)) es → unwrap_or (option_map size_of (lookup (is_at (nat_cmp k)) es)) 0 ≡ x
      → x < 2 ^ 64 → IsCounted fs ((held + (2 ^ 64 - x)) % 2 ^ 64)
  less-removed x is size small =
      let sum = sum_by-remove_entry size_of (is_at (nat_cmp k)) es in
      let split : size_of_all fs + x ≡ size_of_all es = (λ i. size_of_all (is i) + sym size i) ∙ sum in
      record { order = order; count = less_wrapped held (size_of_all es) (size_of_all fs) x counted.count split small }

  -- where one without bytes was inserted
  pub less-inserted : (v : StreamView) (x : ℕ) → fs ≡ insert_entry nat_cmp es k v → size_of v ≡ 0
      → unwrap_or (option_map size_of (lookup (is_at (nat_cmp k)) es)) 0 ≡ x → x < 2 ^ 64 → IsCounted fs ((held + (2 ^ 64 - x)) % 2 ^ 64)
  less-inserted v x is none size small =
      let nothing_more : (n : ℕ) → n + size_of v ≡ n = λ n. omega (arith, none) in
      let sum = sum_by-insert_entry size_of nat_cmp_total es k v counted.order in
      let split : size_of_all fs + x ≡ size_of_all es = (λ i. size_of_all (is i) + sym size i) ∙ sum ∙ nothing_more (size_of_all es) in
      record { order = order; count = less_wrapped held (size_of_all es) (size_of_all fs) x counted.count split small }

  -- and where there was no other
  pub same-inserted : (v : StreamView) → fs ≡ insert_entry nat_cmp es k v → size_of v ≡ 0 → lookup (is_at (nat_cmp k)) es ≡ None → IsCounted fs held
  same-inserted v is none absent =
      let sum = sum_by-insert_entry size_of nat_cmp_total es k v counted.order in
      let nothing : unwrap_or (option_map size_of (lookup (is_at (nat_cmp k)) es)) 0 ≡ 0 = ap (λ o. unwrap_or (option_map size_of o) 0) absent in
      let here : size_of_all fs ≡ size_of_all (insert_entry nat_cmp es k v) = ap size_of_all is in
      let same : size_of_all fs ≡ size_of_all es = omega (arith, sum, nothing, here, none) in
      record { order = order; count = counted.count ∙ ap (λ n. n % 2 ^ 64) (sym same) }

  -- where one was changed
  pub changed-counted : (v w : StreamView) (x y : ℕ) → lookup (is_at (nat_cmp k)) es ≡ Some v → fs ≡ set_value (is_at (nat_cmp k)) es w
      → size_of v ≡ x → size_of w ≡ y → x < 2 ^ 64 → IsCounted fs (((held + (2 ^ 64 - x)) % 2 ^ 64 + y) % 2 ^ 64)
  changed-counted v w x y there is old new small =
      let sum = sum_by-set_value size_of (is_at (nat_cmp k)) es v w there in
      let here : size_of_all fs ≡ size_of_all (set_value (is_at (nat_cmp k)) es w) = ap size_of_all is in
      let part : size_of_all fs + x ≡ size_of_all es + y = omega (arith, sum, here, old, new) in
      record { order = order; count = both (size_of_all es) (size_of_all fs) counted.count part }
    where
      both : (all left : ℕ) → held ≡ all % 2 ^ 64 → left + x ≡ all + y → ((held + (2 ^ 64 - x)) % 2 ^ 64 + y) % 2 ^ 64 ≡ left % 2 ^ 64
      both all left is sum = omega (arith, is, sum, small)

  -- and where its size stayed
  pub same-changed : (v w : StreamView) → lookup (is_at (nat_cmp k)) es ≡ Some v → fs ≡ set_value (is_at (nat_cmp k)) es w
      → size_of w ≡ size_of v → IsCounted fs held
  same-changed v w there is same =
      let sum = sum_by-set_value size_of (is_at (nat_cmp k)) es v w there in
      let here : size_of_all fs ≡ size_of_all (set_value (is_at (nat_cmp k)) es w) = ap size_of_all is in
      let all : size_of_all fs ≡ size_of_all es = omega (arith, sum, here, same) in
      record { order = order; count = counted.count ∙ ap (λ n. n % 2 ^ 64) (sym all) }

-- the bytes of the entries are those of the map that they make
pub held-rising : (es : List (ℕ × StreamView)) → IsStrictlySortedBy nat_cmp (keys_of es) → held_of (from_entries es) ≡ size_of_all es
held-rising es order = ap size_of_all (entries-rising es order)
