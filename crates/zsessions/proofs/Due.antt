-- What is due: the rows of one bucket that a tick reaches, in the order of their sessions' ids.
use Rattle.std.proofs.Common.{◌≡◌, ◌≢◌, inl, inr, ℕ, ◌<◌, ◌≤◌, Bool, true, false, cond, List, [], ◌∷◌, Option, Some, None, refl, sym, ap, ◌∙◌, arith, tests, nat_le}
use lib.Dec.{T}
use mathlib.Core.Path.{subst}
use Rattle.std.specs.declared.cmp.Ordering.{Ordering}
use Rattle.std.specs.declared.cmp.Ordering.TheVariants.{Less, Equal, Greater}
use Rattle.std.specs.Ordering.{nat_cmp, is_eq, is_lt}
use Rattle.std.specs.Cmp.{nat_cmp_total, tied_itself, ranked}
use Rattle.std.specs.Option.{option_map, option_and_then}
use Rattle.std.specs.List.{filter_map, cons_option}
use Rattle.std.specs.List.Sorted.{IsPermutation, IsSorted}
use Rattle.std.specs.FinMap.{get, find, is_sorted, entries, entries_sorted, get-entries}
use Rattle.std.specs.FinMap.Entries.{below_all}
use Rattle.ztree.proofs.Sorted.{both_parts, is_less}
use Rattle.ztree.specs.Sessions.{due_sessions}
use Rattle.ztree.specs.declared.session.Session.{Session}
use Rattle.zslots.specs.declared.id.Id.{Id}
use Rattle.zslots.specs.Ids.{Ids, IsIn, NotIn, NoTwo}
use Rattle.zslots.specs.Families.{key_at}
use Rattle.zslots.proofs.Items.{some_same}
use Rattle.zslots.proofs.Members.{never_both}
use Rattle.zsessions.specs.Deadlines.{NoneLate}
use Rattle.zsessions.specs.declared.row.SessionRow.{SessionRow}
use Rattle.zsessions.specs.support.Rows.{Rows, Buckets, IdEntries, IsTable, bucket_number, number_of, number_at, session_at, id_at, sessions_of, due_at}
use Rattle.zsessions.proofs.Read.{get-sessions, key_there}
use Rattle.zsessions.proofs.Rising.{AtLeast, Rises, count, count-here, count-other, rises-sorted, same-rising, count-permutation}

-- the id of a session that a tick reaches
abbrev due_of : ℕ → ℕ × Session → Option ℕ
due_of tick e = cond (nat_le e.1.deadline tick) (Some e.0) None

due_above : (tick n : ℕ) (es : List (ℕ × Session)) → T (below_all nat_cmp n es) → AtLeast n (filter_map (due_of tick) es)
due_above tick n [] low = tt
due_above tick n (e ∷ es) low =
    let parts = both_parts (is_lt (nat_cmp n e.0)) (below_all nat_cmp n es) low in
    by (nat_le e.1.deadline tick) (ranked n e.0 Less (sym (is_less _ parts.0))) (due_above tick n es parts.1)
  where
    by : (b : Bool) → n < e.0 → AtLeast n (filter_map (due_of tick) es) → AtLeast n (cons_option (cond b (Some e.0) None) (filter_map (due_of tick) es))
    by true less more = (omega arith, more)
    by false less more = more

due_rises : (tick : ℕ) (es : List (ℕ × Session)) → T (is_sorted nat_cmp es) → Rises (filter_map (due_of tick) es)
due_rises tick [] sorted = tt
due_rises tick (e ∷ es) sorted =
    let parts = both_parts (below_all nat_cmp e.0 es) (is_sorted nat_cmp es) sorted in
    by (nat_le e.1.deadline tick) (due_above tick e.0 es parts.0) (due_rises tick es parts.1)
  where
    by : (b : Bool) → AtLeast e.0 (filter_map (due_of tick) es) → Rises (filter_map (due_of tick) es) → Rises (cons_option (cond b (Some e.0) None) (filter_map (due_of tick) es))
    by true all more = (all, more)
    by false all more = more

-- an entry's id occurs once, if it is due, and what isn't found doesn't
one_more : (tick n : ℕ) (e : ℕ × Session) (xs : List ℕ) → e.0 ≢ n → (b : Bool) → count n (cons_option (cond b (Some e.0) None) xs) ≡ count n xs
one_more tick n e xs other true = count-other n e.0 xs other
one_more tick n e xs other false = refl

not_key : (n k : ℕ) (r : Ordering) → nat_cmp n k ≡ r → is_eq r ≡ false → k ≢ n
not_key n k r is no_tie e =
    let tie : nat_cmp n k ≡ Equal = ap (nat_cmp n) e ∙ tied_itself nat_cmp_total n in
    let both : true ≡ false = ap is_eq (sym tie ∙ is) ∙ no_tie in
    cc

count-absent : (tick n : ℕ) (es : List (ℕ × Session)) → find nat_cmp n es ≡ None → count n (filter_map (due_of tick) es) ≡ 0
count-absent tick n [] none = refl
count-absent tick n (e ∷ es) none = by (nat_cmp n e.0) refl none (count-absent tick n es)
  where
    by : (r : Ordering) → nat_cmp n e.0 ≡ r → cond (is_eq r) (Some e.1) (find nat_cmp n es) ≡ None → (find nat_cmp n es ≡ None → count n (filter_map (due_of tick) es) ≡ 0) → count n (filter_map (due_of tick) (e ∷ es)) ≡ 0
    by Less is none more = one_more tick n e _ (not_key n e.0 Less is refl) (nat_le e.1.deadline tick) ∙ more none
    by Equal is none more = cc
    by Greater is none more = one_more tick n e _ (not_key n e.0 Greater is refl) (nat_le e.1.deadline tick) ∙ more none

above-none : (n : ℕ) (es : List (ℕ × Session)) → T (below_all nat_cmp n es) → find nat_cmp n es ≡ None
above-none n [] low = refl
above-none n (e ∷ es) low =
    let parts = both_parts (is_lt (nat_cmp n e.0)) (below_all nat_cmp n es) low in
    ap (λ r. cond (is_eq r) (Some e.1) (find nat_cmp n es)) (is_less _ parts.0) ∙ above-none n es parts.1

count-present : (tick n : ℕ) (s : Session) (es : List (ℕ × Session)) → T (is_sorted nat_cmp es) → find nat_cmp n es ≡ Some s → count n (filter_map (due_of tick) es) ≡ cond (nat_le s.deadline tick) 1 0
count-present tick n s [] sorted found = cc
count-present tick n s (e ∷ es) sorted found =
    let parts = both_parts (below_all nat_cmp e.0 es) (is_sorted nat_cmp es) sorted in
    by parts.0 (nat_cmp n e.0) refl found (count-present tick n s es parts.1)
  where
    here : (b : Bool) → n ≡ e.0 → count n (filter_map (due_of tick) es) ≡ 0 → count n (cons_option (cond b (Some e.0) None) (filter_map (due_of tick) es)) ≡ cond b 1 0
    here true is none =
        let once = ap (λ k. count n (k ∷ filter_map (due_of tick) es)) (sym is) ∙ count-here n (filter_map (due_of tick) es) in
        omega (arith, once, none)
    here false is none = none

    by : T (below_all nat_cmp e.0 es) → (r : Ordering) → nat_cmp n e.0 ≡ r → cond (is_eq r) (Some e.1) (find nat_cmp n es) ≡ Some s → (find nat_cmp n es ≡ Some s → count n (filter_map (due_of tick) es) ≡ cond (nat_le s.deadline tick) 1 0) → count n (filter_map (due_of tick) (e ∷ es)) ≡ cond (nat_le s.deadline tick) 1 0
    by low Less is found more = one_more tick n e _ (not_key n e.0 Less is refl) (nat_le e.1.deadline tick) ∙ more found
    by low Greater is found more = one_more tick n e _ (not_key n e.0 Greater is refl) (nat_le e.1.deadline tick) ∙ more found
    by low Equal is found more =
        let same : n ≡ e.0 = ranked n e.0 Equal (sym is) in
        here (nat_le e.1.deadline tick) same (count-absent tick n es (ap (λ k. find nat_cmp k es) same ∙ above-none e.0 es low))
        ∙ ap (λ (x : Session). cond (nat_le x.deadline tick) 1 0) (some_same e.1 s found)

-- how often a number occurs among what a function gives of different Ids
module _ (g : Id → Option ℕ) (n : ℕ) where
  step : (o : Option ℕ) (xs : List ℕ) → o ≢ Some n → count n (cons_option o xs) ≡ count n xs
  step None xs other = refl
  step (Some x) xs other = count-other n x xs (λ e. other (ap Some e))

  count-none : (ids : Ids) → ((q : Id) → IsIn q ids → g q ≢ Some n) → count n (filter_map g ids) ≡ 0
  count-none [] none = refl
  count-none (id ∷ ids) none =
      step (g id) (filter_map g ids) (none id (inl refl)) ∙ count-none ids (λ q has. none q (inr has))

  count-one : (ids : Ids) (id : Id) → NoTwo ids → IsIn id ids → g id ≡ Some n → ((q : Id) → g q ≡ Some n → q ≡ id) → count n (filter_map g ids) ≡ 1
  count-one [] id no_two has gives alone = absurd has
  count-one (i ∷ ids) id no_two (inl is) gives alone =
      let rest = count-none ids (λ q has e. never_both q ids has (subst (λ k. NotIn k ids) (sym is ∙ sym (alone q e)) no_two.0)) in
      let first = ap (λ o. count n (cons_option o (filter_map g ids))) (ap g (sym is) ∙ gives) ∙ count-here n (filter_map g ids) in
      omega (arith, first, rest)
  count-one (i ∷ ids) id no_two (inr has) gives alone =
      step (g i) (filter_map g ids) (λ e. never_both id ids has (subst (λ k. NotIn k ids) (alone i e) no_two.0))
      ∙ count-one ids id no_two.1 has gives alone

module _ (ids : IdEntries) (rows : Rows) (buckets : Buckets) (tick : ℕ) (is : IsTable ids rows buckets) (late : NoneLate (sessions_of ids rows) tick) where
  sessions-found : (n : ℕ) → find nat_cmp n (entries (sessions_of ids rows)) ≡ option_and_then (session_at rows) (id_at ids n)
  sessions-found n = sym (get-entries (sessions_of ids rows) n) ∙ get-sessions ids rows n

  -- what is due of a row is its session's id
  due-number : (id : Id) (n : ℕ) → due_at rows tick id ≡ Some n → number_at rows id ≡ Some n
  due-number id n = by (get rows id)
    where
      at : (row : SessionRow) (b : Bool) → cond b (Some row.id) None ≡ Some n → Some row.id ≡ Some n
      at row true e = e
      at row false e = cc

      by : (o : Option SessionRow) → option_and_then (λ row. cond (nat_le row.session.deadline tick) (Some row.id) None) o ≡ Some n → option_map (λ row. row.id) o ≡ Some n
      by None e = cc
      by (Some row) e = at row (nat_le row.session.deadline tick) e

  alone : (n : ℕ) (id q : Id) → id_at ids n ≡ Some id → due_at rows tick q ≡ Some n → q ≡ id
  alone n id q under e = some_same q id (sym (is.found q n (due-number q n e)) ∙ under)

  module _ (walked : Ids) (no_two : NoTwo walked) (members : (id : Id) → key_at number_of rows id ≡ Some (bucket_number tick) → IsIn id walked) where
    abbrev found : List ℕ
    found = filter_map (due_at rows tick) walked

    count-row : (n : ℕ) (id : Id) (row : SessionRow) → id_at ids n ≡ Some id → get rows id ≡ Some row → row.id ≡ n → (b : Bool) → nat_le row.session.deadline tick ≡ b → count n found ≡ cond b 1 0
    count-row n id row under has number true due =
        let gives : due_at rows tick id ≡ Some n = ap (option_and_then (λ (row : SessionRow). cond (nat_le row.session.deadline tick) (Some row.id) None)) has ∙ ap (λ b. cond b (Some row.id) None) due ∙ ap Some number in
        let session = get-sessions ids rows n ∙ ap (option_and_then (session_at rows)) under ∙ ap (option_map (λ (row : SessionRow). row.session)) has in
        let early : tick ≤ row.session.deadline = late n row.session session in
        let same : row.session.deadline ≡ tick = grind (arith, tests) in
        count-one (due_at rows tick) n walked id no_two (members id (key_there rows id row has ∙ ap (λ d. Some (bucket_number d)) same)) gives (λ q. alone n id q under)
    count-row n id row under has number false later =
        let gives_none : due_at rows tick id ≡ None = ap (option_and_then (λ (row : SessionRow). cond (nat_le row.session.deadline tick) (Some row.id) None)) has ∙ ap (λ b. cond b (Some row.id) None) later in
        count-none (due_at rows tick) n walked (λ q i e. let both : None ≡ Some n = sym gives_none ∙ ap (due_at rows tick) (sym (alone n id q under e)) ∙ e in cc)

    counts : (n : ℕ) → count n found ≡ count n (due_sessions (sessions_of ids rows) tick)
    counts n = by (id_at ids n) refl
      where
        es : List (ℕ × Session)
        es = entries (sessions_of ids rows)

        at : (id : Id) → id_at ids n ≡ Some id → (o : Option SessionRow) → get rows id ≡ o → option_map (λ (row : SessionRow). row.id) o ≡ Some n → count n found ≡ count n (filter_map (due_of tick) es)
        at id under None has named = cc
        at id under (Some row) has named =
            count-row n id row under has (some_same row.id n named) (nat_le row.session.deadline tick) refl
            ∙ sym (count-present tick n row.session es (entries_sorted (sessions_of ids rows)) (sessions-found n ∙ ap (option_and_then (session_at rows)) under ∙ ap (option_map (λ (row : SessionRow). row.session)) has))

        by : (o : Option Id) → id_at ids n ≡ o → count n found ≡ count n (filter_map (due_of tick) es)
        by None none =
            count-none (due_at rows tick) n walked (λ q i e. let both : None ≡ Some q = sym none ∙ is.found q n (due-number q n e) in cc)
            ∙ sym (count-absent tick n es (sessions-found n ∙ ap (option_and_then (session_at rows)) none))
        by (Some id) under = at id under (get rows id) refl (is.named n id under)

    -- what was found in the bucket, in order, is what is due
    pub due-sorted : (sorted : List ℕ) → IsPermutation found sorted → IsSorted nat_cmp sorted → sorted ≡ due_sessions (sessions_of ids rows) tick
    due-sorted sorted moved up =
        same-rising sorted (due_sessions (sessions_of ids rows) tick) (rises-sorted sorted up) (due_rises tick (entries (sessions_of ids rows)) (entries_sorted (sessions_of ids rows)))
        (λ n. count-permutation n found sorted moved ∙ counts n)
