-- What is found in a map of what a function gives of another map's values.
use Rattle.std.proofs.Common.{◌+◌, length, arith, is_some, IsSome, ◌≡◌, Bool, true, false, ◌&&◌, cond, List, [], ◌∷◌, Option, Some, None, refl, sym, ap, ◌∙◌}
use lib.Dec.{T}
use Rattle.std.specs.declared.cmp.Ordering.{Ordering}
use Rattle.std.specs.declared.cmp.Ordering.TheVariants.{Less, Equal, Greater}
use Rattle.std.specs.Ordering.{is_lt, is_eq}
use Rattle.std.specs.Cmp.{IsTotalOrder, tied_itself}
use Rattle.std.specs.Option.{option_map, option_and_then}
use Rattle.std.specs.List.{filter_map, cons_option}
use Rattle.std.specs.FinMap as finite
use Rattle.std.specs.FinMap.{len-empty, len-insert, len-entries, FinMap, find, is_sorted, get, get-from_entries, get-entries, entries, entries_sorted}
use Rattle.std.specs.FinMap.Entries.{below_all, find_tied}
use Rattle.zslots.specs.MapValues.{map_values}

both_parts : (a b : Bool) → T (a && b) → T a × T b
both_parts true b h = (tt, h)
both_parts false b h = absurd h

is_less : (r : Ordering) → T (is_lt r) → r ≡ Less
is_less Less h = refl
is_less Equal h = absurd h
is_less Greater h = absurd h

module _ {K X Y : Type 0} {R : K → K → Ordering} (o : IsTotalOrder R) (f : X → Option Y) where
  -- what one entry becomes
  abbrev kept : K × X → Option (K × Y)
  kept e = option_map (λ y. (e.0, y)) (f e.1)

  not_among : (q : K) (es : List (K × X)) → T (below_all R q es) → find R q es ≡ None
  not_among q [] h = refl
  not_among q (e ∷ es) h =
      let parts = both_parts _ (below_all R q es) h in
      rw (is_less _ parts.0) (not_among q es parts.1)

  -- the first entry's key ties with q, or it doesn't
  find-first : (q : K) (e : K × X) (es : List (K × X)) → (t : Bool) → is_eq (R q e.0) ≡ t → (t ≡ true → find R q es ≡ None) → find R q (filter_map kept es) ≡ option_and_then f (find R q es) → (y : Option Y) → f e.1 ≡ y → find R q (cons_option (option_map (λ y. (e.0, y)) y) (filter_map kept es)) ≡ option_and_then f (cond t (Some e.1) (find R q es))
  find-first q e es true tie none more (Some y) is = rw tie (sym is)
  find-first q e es true tie none more None is = more ∙ ap (option_and_then f) (none refl) ∙ sym is
  find-first q e es false tie none more (Some y) is = rw tie more
  find-first q e es false tie none more None is = more

  find-kept : (q : K) (es : List (K × X)) → T (is_sorted R es) → find R q (filter_map kept es) ≡ option_and_then f (find R q es)
  find-kept q [] s = refl
  find-kept q (e ∷ es) s =
      let parts = both_parts (below_all R e.0 es) (is_sorted R es) s in
      find-first q e es (is_eq (R q e.0)) refl (λ tie. tied (R q e.0) refl tie (not_among e.0 es parts.0)) (find-kept q es parts.1) (f e.1) refl
    where
      tied : (r : Ordering) → R q e.0 ≡ r → is_eq r ≡ true → find R e.0 es ≡ None → find R q es ≡ None
      tied Less is tie none = cc
      tied Equal is tie none = sym (find_tied R o q e.0 is es) ∙ none
      tied Greater is tie none = cc

  pub get-map_values : (m : FinMap R X) (q : K) → get (map_values f m) q ≡ option_and_then f (get m q)
  get-map_values m q =
      get-from_entries o (filter_map kept (entries m)) q ∙ find-kept q (entries m) (entries_sorted m)
      ∙ ap (option_and_then f) (sym (get-entries m q))

  -- what is found after a first entry is found with it
  found_behind : (e : K × X) (es : List (K × X)) → T (below_all R e.0 es) → (q : K) (x : X) → find R q es ≡ Some x → find R q (e ∷ es) ≡ Some x
  found_behind e es low q x found = by (R q e.0) refl
    where
      by : (r : Ordering) → R q e.0 ≡ r → cond (is_eq r) (Some e.1) (find R q es) ≡ Some x
      by Less is = found
      by Greater is = found
      by Equal is = let none : None ≡ Some x = sym (not_among e.0 es low) ∙ find_tied R o q e.0 is es ∙ found in cc

  len-first : (e : K × X) (es : List (K × X)) → T (below_all R e.0 es) → T (is_sorted R es) → finite.len (finite.from_entries {R = R} (filter_map kept es)) ≡ length es → (y : Option Y) → f e.1 ≡ y → IsSome y → finite.len (finite.from_entries {R = R} (cons_option (option_map (λ y. (e.0, y)) y) (filter_map kept es))) ≡ length (e ∷ es)
  len-first e es low s more None is some = cc
  len-first e es low s more (Some y) is some =
      let rest = finite.from_entries {R = R} (filter_map kept es) in
      let free = get-from_entries o (filter_map kept es) e.0 ∙ find-kept e.0 es s ∙ ap (option_and_then f) (not_among e.0 es low) in
      let counted : finite.len (finite.insert rest e.0 y) ≡ finite.len rest + 1 =
      len-insert o rest e.0 y ∙ ap (λ t. cond (is_some t) (finite.len rest) (finite.len rest + 1)) free in
      counted ∙ omega (arith, more)

  len-kept : (es : List (K × X)) → T (is_sorted R es) → ((q : K) (x : X) → find R q es ≡ Some x → IsSome (f x)) → finite.len (finite.from_entries {R = R} (filter_map kept es)) ≡ length es
  len-kept [] s all = len-empty R Y
  len-kept (e ∷ es) s all =
      let parts = both_parts (below_all R e.0 es) (is_sorted R es) s in
      let more = len-kept es parts.1 (λ q x found. all q x (found_behind e es parts.0 q x found)) in
      len-first e es parts.0 parts.1 more (f e.1) refl (all e.0 e.1 (ap (λ r. cond (is_eq r) (Some e.1) (find R e.0 es)) (tied_itself o e.0)))

  -- a map of what a function gives that gives something of each value has as many entries
  pub len-map_values : (m : FinMap R X) → ((q : K) (x : X) → get m q ≡ Some x → IsSome (f x)) → finite.len (map_values f m) ≡ finite.len m
  len-map_values m all = len-kept (entries m) (entries_sorted m) (λ q x found. all q x (get-entries m q ∙ found)) ∙ sym (len-entries m)
