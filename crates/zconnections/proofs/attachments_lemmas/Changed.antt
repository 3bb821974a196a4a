-- On the map that the entries of a table make, where a value is written or all are.
use Rattle.std.proofs.Common.{◌≡◌, ℕ, refl, cond, List, map, Some, None, IsSome, length, sym, ap, ◌∙◌}
use Rattle.std.specs.Ordering.{nat_cmp}
use Rattle.std.specs.Option.{option_map, option_map_or}
use Rattle.std.specs.List.Sorted.{IsStrictlySortedBy}
use Rattle.std.specs.Map.{lookup, keys_of}
use Rattle.std.specs.BTreeMap.{is_at}
use Rattle.std.proofs.lemmas.Map.Made.{lookup-map_values}
use Rattle.std.specs.FinMap.{get-entries as map-entries, insert, len, len-entries, entries, from_entries}
use Rattle.zconnections.specs.declared.attachments.attachment.Attachment.{Attachment}
use Rattle.zconnections.specs.attachments.Laws.{EachRests}
use Rattle.zconnections.specs.attachments.Attachments.{all_rested, rested, with_changed}
use Rattle.ztree.proofs.Entries.{find-lookup, get-entries, insert-entries, entries-rising}

-- a write of a value that the table has at the id
pub changed-entries : (change : Attachment → Attachment) (es fs : List (ℕ × Attachment)) (k : ℕ) (v : Attachment)
    → lookup (is_at (nat_cmp k)) es ≡ Some v
    → (IsSome (lookup (is_at (nat_cmp k)) es) → (q : ℕ) → lookup (is_at (nat_cmp q)) fs ≡ cond (is_at (nat_cmp k) q) (Some (change v)) (lookup (is_at (nat_cmp q)) es))
    → from_entries fs ≡ with_changed change (from_entries es) k
changed-entries change es fs k v there written =
    let m = from_entries {R = nat_cmp} es in
    insert-entries es fs k (change v) (written (rw there refl))
    ∙ sym (ap (λ o. option_map_or (λ s. insert m k (change s)) o m) (get-entries es k ∙ there))

-- no write, where the table has no value at the id
pub unchanged-entries : (change : Attachment → Attachment) (es fs : List (ℕ × Attachment)) (k : ℕ)
    → lookup (is_at (nat_cmp k)) es ≡ None → fs ≡ es → from_entries fs ≡ with_changed change (from_entries es) k
unchanged-entries change es fs k none same =
    let m = from_entries {R = nat_cmp} es in
    ap from_entries same ∙ sym (ap (λ o. option_map_or (λ s. insert m k (change s)) o m) (get-entries es k ∙ none))

-- a write of all values
pub rested-entries : (es fs : List (ℕ × Attachment)) → IsStrictlySortedBy nat_cmp (keys_of es)
    → fs ≡ map (λ e. (e.0, rested e.1)) es → from_entries {R = nat_cmp} fs ≡ all_rested (from_entries es)
rested-entries es fs rise all = ap from_entries (all ∙ ap (map (λ e. (e.0, rested e.1))) (sym (entries-rising es rise)))

-- as many as entries
pub count-entries : (es : List (ℕ × Attachment)) → IsStrictlySortedBy nat_cmp (keys_of es) → length es ≡ len (from_entries {R = nat_cmp} es)
count-entries es rise = ap length (sym (entries-rising es rise)) ∙ sym (len-entries (from_entries es))

-- a value that is written is found by a look-up in the table as it was
pub each_rests : EachRests
each_rests m id =
    let es = entries m in
    get-entries (map (λ e. (e.0, rested e.1)) es) id ∙ lookup-map_values rested (is_at (nat_cmp id)) es
    ∙ ap (option_map rested) (sym (find-lookup es id) ∙ sym (map-entries m id))
