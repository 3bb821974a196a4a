-- What the map of the slots' items finds, and how it changes with one slot.
use Rattle.std.proofs.Common.{◌≡◌, ◌≢◌, ◌⊎◌, inl, inr, ℕ, zero, suc, ◌+◌, ◌<◌, Bool, true, false, cond, List, [], ◌∷◌, Option, Some, None, refl, sym, ap, ◌∙◌, arith, get_or, tests, zero-add, is_some, IsSome, count_by}
use Rattle.std.proofs.lemmas.Bool.{cases_eq}
use Rattle.std.specs.Ordering.{eq_by_cmp, is_eq}
use Rattle.std.specs.Cmp.{tied_itself}
use Rattle.std.specs.FinMap as finite
use Rattle.std.specs.FinMap.{find, get-from_entries, len-empty, len-insert}
use Rattle.std.specs.Prelude.{◌==◌, ◌&&◌, if◌then◌else◌}
use Rattle.slab.specs.Slab.{Slab, Updates, get, with_value, slab_len}
use Rattle.slab.proofs.SlabLemmas.{Updates-with_value, ContainsKey-within}
use Rattle.std.proofs.lemmas.List.Sums.{sum_by-set, sum_by-cons}
use Rattle.zslots.specs.declared.generation.Generation.{Generation}
use Rattle.zslots.specs.declared.id.Id.{Id}
use Rattle.zslots.specs.Generations.{is_same}
use Rattle.zslots.specs.declared.slots.Slot.{Slot}
use Rattle.zslots.specs.Fields.{entries_from, items_of}
use Rattle.zslots.specs.Ids.{id_cmp}
use Rattle.zslots.proofs.Maps.{id_cmp_total, same_or_other, not_tied, get-insert-here, get-insert-elsewhere, get-remove-here, get-remove-elsewhere, same_items}

abbrev pub id_at : ℕ → Generation → Id
id_at index generation = record { index = index; generation = generation }

same_number : (n m : ℕ) → n ≡ m → (n == m) ≡ true
same_number n m e = grind (arith, tests)

-- two generations are the same or not
pub cases_generation : (g h : Generation) → (g ≡ h) ⊎ (g ≢ h)
cases_generation g h = by (cases_eq g.high h.high) (cases_eq g.low h.low)
  where
    by : (g.high ≡ h.high) ⊎ (g.high ≢ h.high) → (g.low ≡ h.low) ⊎ (g.low ≢ h.low) → (g ≡ h) ⊎ (g ≢ h)
    by (inl high) (inl low) = inl (λ i. record { high = high i; low = low i })
    by (inr other) low = inr (λ e. other (ap (λ (k : Generation). k.high) e))
    by (inl high) (inr other) = inr (λ e. other (ap (λ (k : Generation). k.low) e))

pub same_generation : (g h : Generation) → g ≡ h → is_same g h ≡ true
same_generation g h e =
    rw (same_number g.high h.high (ap (λ (k : Generation). k.high) e)) (same_number g.low h.low (ap (λ (k : Generation). k.low) e))

equal_number : (n m : ℕ) → (n == m) ≡ true → n ≡ m
equal_number n m e = grind (arith, tests)

pub other_generation : (g h : Generation) → g ≢ h → is_same g h ≡ false
other_generation g h other = by (g.high == h.high) refl (g.low == h.low) refl
  where
    by : (a : Bool) → (g.high == h.high) ≡ a → (b : Bool) → (g.low == h.low) ≡ b → is_same g h ≡ false
    by true high true low = absurd (other (λ i. record { high = equal_number g.high h.high high i; low = equal_number g.low h.low low i }))
    by false high b low = ap (λ a. a && (g.low == h.low)) high
    by true high false low = ap (λ a. a && (g.low == h.low)) high ∙ low

pub some_same : {A : Type 0} (x y : A) → Some x ≡ Some y → x ≡ y
some_same x y e = cc

none_some : {A B : Type 0} (x : A) → None ≡ Some x → B
none_some x e = cc

-- an option that is there is some value
pub has_some : {A : Type 0} (o : Option A) → is_some o ≡ true → (x : A) × (o ≡ Some x)
has_some (Some x) e = (x, refl)
has_some None e = cc

pub some_there : {A : Type 0} (o : Option A) → IsSome o → (x : A) × (o ≡ Some x)
some_there (Some x) e = (x, refl)
some_there None e = cc

module _ {T : Type 0} where
  -- the item of a slot, where it has this generation
  abbrev pub item_at : Option (Slot T) → Generation → Option T
  item_at None generation = None
  item_at (Some s) generation = if is_same s.generation generation then Some s.item else None

  -- slots from an index on have no item under a smaller one
  find-below : (k : ℕ) (slots : List (Option (Slot T))) (id : Id) → id.index < k → find id_cmp id (entries_from k slots) ≡ None
  find-below k [] id below = refl
  find-below k (None ∷ slots) id below = find-below (k + 1) slots id (omega arith)
  find-below k (Some s ∷ slots) id below =
      let other : id ≢ id_at k s.generation = λ e. let same : id.index ≡ k = ap (λ (i : Id). i.index) e in absurd (omega arith) in
      ap (λ t. cond t (Some s.item) (find id_cmp id (entries_from (k + 1) slots))) (not_tied id _ other) ∙ find-below (k + 1) slots id (omega arith)

  -- the map has an item for each slot with one
  pub len-entries_from : (k : ℕ) (slots : List (Option (Slot T))) → finite.len (finite.from_entries {R = id_cmp} (entries_from k slots)) ≡ count_by is_some slots
  len-entries_from k [] = len-empty id_cmp T
  len-entries_from k (None ∷ slots) = let more = len-entries_from (k + 1) slots in omega (arith, more)
  len-entries_from k (Some s ∷ slots) =
      let rest = finite.from_entries {R = id_cmp} (entries_from (k + 1) slots) in
      let free = get-from_entries id_cmp_total (entries_from (k + 1) slots) (id_at k s.generation) ∙ find-below (k + 1) slots (id_at k s.generation) (omega arith) in
      let counted : finite.len (finite.insert rest (id_at k s.generation) s.item) ≡ finite.len rest + 1 =
      len-insert id_cmp_total rest (id_at k s.generation) s.item ∙ ap (λ o. cond (is_some o) (finite.len rest) (finite.len rest + 1)) free in
      let one : count_by is_some (Some s ∷ slots) ≡ 1 + count_by is_some slots = sum_by-cons (λ o. cond (is_some o) 1 0) (Some s) slots in
      counted ∙ omega (arith, len-entries_from (k + 1) slots, one)

  pub find-entries : (k : ℕ) (slots : List (Option (Slot T))) (at : ℕ) (generation : Generation) → find id_cmp (id_at (k + at) generation) (entries_from k slots) ≡ item_at (get_or slots at None) generation
  find-entries k [] at generation = refl
  find-entries k (None ∷ slots) zero generation = find-below (k + 1) slots _ (omega arith)
  find-entries k (Some s ∷ slots) zero generation = by (cases_generation s.generation generation)
    where
      here : k + zero ≡ k
      here = omega arith

      later : List (Id × T)
      later = entries_from (k + 1) slots

      by : (s.generation ≡ generation) ⊎ (s.generation ≢ generation) → find id_cmp (id_at (k + zero) generation) (entries_from k (Some s ∷ slots)) ≡ item_at (Some s) generation
      by (inl is) =
          let same : id_at (k + zero) generation ≡ id_at k s.generation = λ i. record { index = here i; generation = sym is i } in
          ap (λ (q : Id). cond (eq_by_cmp id_cmp q (id_at k s.generation)) (Some s.item) (find id_cmp q later)) same
          ∙ ap (λ t. cond t (Some s.item) (find id_cmp (id_at k s.generation) later)) (ap is_eq (tied_itself id_cmp_total (id_at k s.generation)))
          ∙ ap (λ t. cond t (Some s.item) None) (sym (same_generation s.generation generation is))
      by (inr differs) =
          let other : id_at (k + zero) generation ≢ id_at k s.generation = λ e. differs (sym (ap (λ (i : Id). i.generation) e)) in
          ap (λ t. cond t (Some s.item) (find id_cmp (id_at (k + zero) generation) later)) (not_tied _ _ other)
          ∙ find-below (k + 1) slots _ (omega arith)
          ∙ ap (λ t. cond t (Some s.item) None) (sym (other_generation s.generation generation differs))
  find-entries k (None ∷ slots) (suc at) generation =
      let shift : k + suc at ≡ k + 1 + at = omega arith in
      ap (λ i. find id_cmp (id_at i generation) (entries_from (k + 1) slots)) shift ∙ find-entries (k + 1) slots at generation
  find-entries k (Some s ∷ slots) (suc at) generation =
      let shift : k + suc at ≡ k + 1 + at = omega arith in
      let other : id_at (k + suc at) generation ≢ id_at k s.generation = λ e. let same : k + suc at ≡ k = ap (λ (i : Id). i.index) e in absurd (omega arith) in
      ap (λ t. cond t (Some s.item) (find id_cmp (id_at (k + suc at) generation) (entries_from (k + 1) slots))) (not_tied _ _ other)
      ∙ ap (λ i. find id_cmp (id_at i generation) (entries_from (k + 1) slots)) shift ∙ find-entries (k + 1) slots at generation

  -- what the map finds is what the slot has
  pub get-items : (slots : List (Option (Slot T))) (id : Id) → finite.get (items_of slots) id ≡ item_at (get_or slots id.index None) id.generation
  get-items slots id = get-from_entries id_cmp_total (entries_from 0 slots) id ∙ ap (λ i. find id_cmp (id_at i id.generation) (entries_from 0 slots)) (sym (zero-add id.index)) ∙ find-entries 0 slots id.index id.generation

  -- a slot that is filled is an insert, where it was empty or had the same generation
  pub items-filled : (old new : Slab (Slot T)) (key : ℕ) (s : Slot T) → Updates old new key (Some s) → ((g : Generation) → g ≢ s.generation → item_at (get old key) g ≡ None) → items_of new.slots ≡ finite.insert (items_of old.slots) (id_at key s.generation) s.item
  items-filled old new key s updates free = same_items _ _ (λ q. by q (same_or_other q (id_at key s.generation)))
    where
      elsewhere : (q : Id) → q ≢ id_at key s.generation → (q.index ≡ key) ⊎ (q.index ≢ key) → item_at (get new q.index) q.generation ≡ item_at (get old q.index) q.generation
      elsewhere q other (inr differs) = ap (λ o. item_at o q.generation) (updates.others q.index differs)
      elsewhere q other (inl is) =
          let differs : q.generation ≢ s.generation = λ e. other (λ i. record { index = is i; generation = e i }) in
          ap (λ k. item_at (get new k) q.generation) is
          ∙ ap (λ o. item_at o q.generation) updates.changed
          ∙ ap (λ t. cond t (Some s.item) None) (other_generation s.generation q.generation (λ e. differs (sym e)))
          ∙ sym (free q.generation differs)
          ∙ ap (λ k. item_at (get old k) q.generation) (sym is)

      by : (q : Id) → (q ≡ id_at key s.generation) ⊎ (q ≢ id_at key s.generation) → finite.get (items_of new.slots) q ≡ finite.get (finite.insert (items_of old.slots) (id_at key s.generation) s.item) q
      by q (inl is) =
          ap (finite.get (items_of new.slots)) is
          ∙ get-items new.slots (id_at key s.generation)
          ∙ ap (λ o. item_at o s.generation) updates.changed
          ∙ ap (λ t. cond t (Some s.item) None) (same_generation s.generation s.generation refl)
          ∙ sym (ap (finite.get (finite.insert (items_of old.slots) (id_at key s.generation) s.item)) is ∙ get-insert-here _ _ _)
      by q (inr other) =
          get-items new.slots q
          ∙ elsewhere q other (cases_eq q.index key)
          ∙ sym (get-items old.slots q)
          ∙ sym (get-insert-elsewhere _ _ _ q other)

  -- a slot that is emptied is a remove
  pub items-emptied : (old new : Slab (Slot T)) (key : ℕ) (s : Slot T) → get old key ≡ Some s → Updates old new key None → items_of new.slots ≡ finite.remove (items_of old.slots) (id_at key s.generation)
  items-emptied old new key s was updates = same_items _ _ (λ q. by q (same_or_other q (id_at key s.generation)))
    where
      elsewhere : (q : Id) → q ≢ id_at key s.generation → (q.index ≡ key) ⊎ (q.index ≢ key) → item_at (get new q.index) q.generation ≡ item_at (get old q.index) q.generation
      elsewhere q other (inr differs) = ap (λ o. item_at o q.generation) (updates.others q.index differs)
      elsewhere q other (inl is) =
          let differs : q.generation ≢ s.generation = λ e. other (λ i. record { index = is i; generation = e i }) in
          ap (λ k. item_at (get new k) q.generation) is
          ∙ ap (λ o. item_at o q.generation) updates.changed
          ∙ ap (λ t. cond t (Some s.item) None) (sym (other_generation s.generation q.generation (λ e. differs (sym e))))
          ∙ ap (λ o. item_at o q.generation) (sym was)
          ∙ ap (λ k. item_at (get old k) q.generation) (sym is)

      by : (q : Id) → (q ≡ id_at key s.generation) ⊎ (q ≢ id_at key s.generation) → finite.get (items_of new.slots) q ≡ finite.get (finite.remove (items_of old.slots) (id_at key s.generation)) q
      by q (inl is) =
          ap (finite.get (items_of new.slots)) is
          ∙ get-items new.slots (id_at key s.generation)
          ∙ ap (λ o. item_at o s.generation) updates.changed
          ∙ sym (ap (finite.get (finite.remove (items_of old.slots) (id_at key s.generation))) is ∙ get-remove-here _ _)
      by q (inr other) =
          get-items new.slots q
          ∙ elsewhere q other (cases_eq q.index key)
          ∙ sym (get-items old.slots q)
          ∙ sym (get-remove-elsewhere _ _ q other)

  -- a slot that was filled and emptied again is nothing
  pub items-undone : (old mid new : Slab (Slot T)) (key : ℕ) (s : Slot T) → get old key ≡ None → Updates old mid key (Some s) → Updates mid new key None → items_of new.slots ≡ items_of old.slots
  items-undone old mid new key s vacant filled emptied =
      same_items _ _ (λ q. get-items new.slots q ∙ ap (λ o. item_at o q.generation) (alike q.index (cases_eq q.index key)) ∙ sym (get-items old.slots q))
    where
      alike : (k : ℕ) → (k ≡ key) ⊎ (k ≢ key) → get new k ≡ get old k
      alike k (inl is) = ap (get new) is ∙ emptied.changed ∙ sym vacant ∙ ap (get old) (sym is)
      alike k (inr differs) = emptied.others k differs ∙ filled.others k differs

  -- where a slot has an item, the map finds it under its generation alone
  pub get-slot : (slots : List (Option (Slot T))) (id : Id) (s : Slot T) → get_or slots id.index None ≡ Some s → finite.get (items_of slots) id ≡ cond (is_same s.generation id.generation) (Some s.item) None
  get-slot slots id s has = get-items slots id ∙ ap (λ o. item_at o id.generation) has

  pub get-empty_slot : (slots : List (Option (Slot T))) (id : Id) → get_or slots id.index None ≡ None → finite.get (items_of slots) id ≡ None
  get-empty_slot slots id none = get-items slots id ∙ ap (λ o. item_at o id.generation) none

  item_at-some : (o : Option (Slot T)) (g : Generation) (x : T) → item_at o g ≡ Some x → (s : Slot T) × (o ≡ Some s) × (s.generation ≡ g) × (s.item ≡ x)
  item_at-some None g x e = cc
  item_at-some (Some s) g x e = by (cases_generation s.generation g)
    where
      by : (s.generation ≡ g) ⊎ (s.generation ≢ g) → (t : Slot T) × (Some s ≡ Some t) × (t.generation ≡ g) × (t.item ≡ x)
      by (inl is) = let test = same_generation s.generation g is in (s, refl, is, some_same s.item x (ap (λ t. cond t (Some s.item) None) (sym test) ∙ e))
      by (inr other) = let test = other_generation s.generation g other in none_some x (ap (λ t. cond t (Some s.item) None) (sym test) ∙ e)

  -- an item that is found is in the slot of its index
  pub slot_found : (slots : List (Option (Slot T))) (id : Id) (x : T) → finite.get (items_of slots) id ≡ Some x → (s : Slot T) × (get_or slots id.index None ≡ Some s) × (s.generation ≡ id.generation) × (s.item ≡ x)
  slot_found slots id x e = item_at-some _ id.generation x (sym (get-items slots id) ∙ e)

  -- a slot's item written in place is an insert
  pub items-written : (s : Slab (Slot T)) (id : Id) (x : Slot T) (w : T) → get s id.index ≡ Some x → x.generation ≡ id.generation → items_of (with_value s id.index (record { generation = x.generation; item = w })).slots ≡ finite.insert (items_of s.slots) id w
  items-written s id x w has is =
      let y : Slot T = record { generation = x.generation; item = w } in
      items-filled s (with_value s id.index y) id.index y (Updates-with_value s id.index y (rw has))
      (λ g other. ap (λ o. item_at o g) has ∙ ap (λ t. cond t (Some x.item) None) (other_generation x.generation g (λ e. other (sym e))))
      ∙ ap (λ g. finite.insert (items_of s.slots) (id_at id.index g) w) is

  -- the write of an item leaves their number
  pub len-written : (s : Slab (Slot T)) (at : ℕ) (x y : Slot T) → get s at ≡ Some x → slab_len (with_value s at y) ≡ slab_len s
  len-written s at x y has =
      let within = ContainsKey-within s at (rw has) in
      let counted = sum_by-set (λ o. cond (is_some o) 1 0) s.slots at (Some y) None within in
      omega (arith, rw has at counted)
