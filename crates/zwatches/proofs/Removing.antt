-- The watches that a request means, by their kinds, and those of a connection, by its paths.
use Rattle.std.proofs.Common.{◌≡◌, ◌≢◌, ◌⊎◌, inl, inr, ℕ, Bool, true, false, eqb, not, ◌&&◌, ◌||◌, refl, sym, ap, ◌∙◌}
use mathlib.Core.Bool.{true≢false}
use Rattle.std.specs.declared.cmp.Ordering.{Ordering}
use Rattle.std.specs.declared.cmp.Ordering.TheVariants.{Less, Equal, Greater}
use Rattle.std.specs.Ordering.{eq_by_cmp, is_eq, nat_cmp, ordering_then}
use Rattle.std.specs.Cmp.{Equal-is, both_ways, eq_by_cmp_equiv, nat_cmp_total}
use Rattle.std.specs.FinMap.{nat_cmp-IsAntisymmetric}
use Rattle.std.specs.FinSet.{contains, items, remove, retain, contains-items, contains-remove, same_set}
use Rattle.std.proofs.lemmas.Bool.Decides.{eqb_tells}
use Rattle.std.proofs.lemmas.List.Folds.{Any-from_list_any, list_any-from_Any}
use Rattle.std.proofs.lemmas.Map.Views.{Contains-from_any, list_any-from_Contains}
use Rattle.ztree.proofs.Maps.{not_tied, tied}
use Rattle.zpath.specs.Grammar.{path_cmp}
use Rattle.zjute.specs.declared.watch_type.WatchType.{WatchType}
use Rattle.zwatches.specs.declared.kind.Kind.{Kind}
use Rattle.zwatches.specs.declared.kind.Kind.TheVariants.{Data, Missing, Children, EachData, EachChildren, Recursive}
use Rattle.zwatches.specs.declared.watch.Watch.{Watch}
use Rattle.zwatches.specs.Watches.{Path, Watches, kind_number, watch, watch_cmp}
use Rattle.zwatches.specs.Removal.{has_meant, has_type, is_meant, without_meant}
use Rattle.zwatches.specs.support.Nested.{is_of, slot_of}
use Rattle.zwatches.proofs.ByPath.{watch_is}
use Rattle.zwatches.proofs.Order.{kind_same, watches_total, same_watch}
use Rattle.zwatches.proofs.Worked.{both_true, contains-kept}

-- two numbers are one, by either test
pub number_is : (a b : ℕ) → eq_by_cmp nat_cmp a b ≡ eqb a b
number_is a b = by (eqb_tells a b)
  where
    by : ((eqb a b ≡ true) × (a ≡ b)) ⊎ ((eqb a b ≡ false) × (a ≢ b)) → eq_by_cmp nat_cmp a b ≡ eqb a b
    by (inl here) = ap (eq_by_cmp nat_cmp a) (sym here.1) ∙ tied nat_cmp_total nat_cmp-IsAntisymmetric a ∙ sym here.0
    by (inr other) = not_tied nat_cmp_total nat_cmp-IsAntisymmetric a b other.1 ∙ sym other.0

kind_is : (kind : Kind) (w : Watch) → is_of kind (slot_of w) ≡ true → w.kind ≡ kind
kind_is kind w e = kind_same w.kind kind (nat_cmp-IsAntisymmetric (kind_number w.kind) (kind_number kind) ((Equal-is (nat_cmp (kind_number w.kind) (kind_number kind))).0 e))

-- a watch is a connection's of a kind at a path
kind_at : (w : Watch) (path : Path) (kind : Kind) (c : ℕ)
    → eq_by_cmp watch_cmp w (watch path kind c) ≡ (eq_by_cmp path_cmp w.path path && (is_of kind (slot_of w) && eqb w.connection c))
kind_at w path kind c =
    watch_is w path (record { kind = kind; connection = c })
    ∙ ap (λ b. eq_by_cmp path_cmp w.path path && b)
    (two (nat_cmp (kind_number w.kind) (kind_number kind)) (nat_cmp w.connection c) ∙ ap (λ b. is_of kind (slot_of w) && b) (number_is w.connection c))
  where
    two : (a b : Ordering) → is_eq (ordering_then a b) ≡ (is_eq a && is_eq b)
    two Less b = refl
    two Equal b = refl
    two Greater b = refl

-- the watch isn't meant, or isn't of this kind
abbrev one : Bool → Kind → Kind → Bool
one m kind k = not (m && is_eq (nat_cmp (kind_number k) (kind_number kind)))

module _ (c : ℕ) (type : WatchType) (path : Path) where
  -- the watch that is meant of a kind that has the type
  abbrev pub means : Kind → Watch → Bool
  means kind w = is_meant c type path w && is_of kind (slot_of w)

  typed : (kind : Kind) (w : Watch) → has_type type kind ≡ true → eq_by_cmp watch_cmp w (watch path kind c) ≡ means kind w
  typed kind w has = kind_at w path kind c ∙ by (is_of kind (slot_of w)) refl
    where
      by : (b : Bool) → is_of kind (slot_of w) ≡ b
          → (eq_by_cmp path_cmp w.path path && (b && eqb w.connection c)) ≡ ((eqb w.connection c && (eq_by_cmp path_cmp w.path path && has_type type w.kind)) && b)
      by true e = here (eq_by_cmp path_cmp w.path path) (eqb w.connection c) (has_type type w.kind) (ap (has_type type) (kind_is kind w e) ∙ has)
        where
          here : (p q t : Bool) → t ≡ true → (p && q) ≡ ((q && (p && t)) && true)
          here true true true is = refl
          here true true false is = absurd (true≢false (sym is))
          here true false t is = refl
          here false true t is = refl
          here false false t is = refl
      by false e = here (eq_by_cmp path_cmp w.path path) (eqb w.connection c) (has_type type w.kind)
        where
          here : (p q t : Bool) → (p && false) ≡ ((q && (p && t)) && false)
          here true true true = refl
          here true true false = refl
          here true false t = refl
          here false true t = refl
          here false false t = refl

  untyped : (kind : Kind) (w : Watch) → has_type type kind ≡ false → means kind w ≡ false
  untyped kind w lacks = by (is_of kind (slot_of w)) refl
    where
      by : (b : Bool) → is_of kind (slot_of w) ≡ b → ((eqb w.connection c && (eq_by_cmp path_cmp w.path path && has_type type w.kind)) && b) ≡ false
      by true e = here (eqb w.connection c) (eq_by_cmp path_cmp w.path path) (has_type type w.kind) (ap (has_type type) (kind_is kind w e) ∙ lacks)
        where
          here : (q p t : Bool) → t ≡ false → ((q && (p && t)) && true) ≡ false
          here true true true is = absurd (true≢false is)
          here true true false is = refl
          here true false t is = refl
          here false p t is = refl
      by false e = here (is_meant c type path w)
        where
          here : (b : Bool) → (b && false) ≡ false
          here true = refl
          here false = refl

  -- ---- removed, of one kind after the other

  abbrev pub rest : Kind → Watches → Watches
  rest kind table = retain table (λ w. not (means kind w))

  pub removed_kind : (kind : Kind) (table now : Watches) → has_type type kind ≡ true → now ≡ remove table (watch path kind c)
      → now ≡ retain table (λ w. not (is_meant c type path w && is_of kind (slot_of w)))
  removed_kind kind table now has is = is ∙ same_set watches_total same_watch _ _ (λ q.
      contains-remove watches_total table (watch path kind c) q
      ∙ ap (λ b. not b && contains table q) (typed kind q has)
      ∙ swapped (not (means kind q)) (contains table q)
      ∙ sym (contains-kept table (λ w. not (means kind w)) q))
    where
      swapped : (a b : Bool) → (a && b) ≡ (b && a)
      swapped true true = refl
      swapped true false = refl
      swapped false true = refl
      swapped false false = refl

  pub kept_kind : (kind : Kind) (table : Watches) → has_type type kind ≡ false
      → table ≡ retain table (λ w. not (is_meant c type path w && is_of kind (slot_of w)))
  kept_kind kind table lacks = same_set watches_total same_watch _ _ (λ q.
      and_true (contains table q)
      ∙ ap (λ b. contains table q && not b) (sym (untyped kind q lacks))
      ∙ sym (contains-kept table (λ w. not (means kind w)) q))
    where
      and_true : (b : Bool) → b ≡ (b && true)
      and_true true = refl
      and_true false = refl

  -- without all six kinds no meant watch is left
  pub removed_all : (table : Watches)
      → rest Recursive (rest EachChildren (rest EachData (rest Children (rest Missing (rest Data table))))) ≡ without_meant table c type path
  removed_all table = same_set watches_total same_watch _ _ (λ q.
      contains-kept (rest EachChildren (rest EachData (rest Children (rest Missing (rest Data table))))) (λ w. not (means Recursive w)) q
      ∙ ap (λ b. b && not (means Recursive q)) (contains-kept (rest EachData (rest Children (rest Missing (rest Data table)))) (λ w. not (means EachChildren w)) q
      ∙ ap (λ b. b && not (means EachChildren q)) (contains-kept (rest Children (rest Missing (rest Data table))) (λ w. not (means EachData w)) q
      ∙ ap (λ b. b && not (means EachData q)) (contains-kept (rest Missing (rest Data table)) (λ w. not (means Children w)) q
      ∙ ap (λ b. b && not (means Children q)) (contains-kept (rest Data table) (λ w. not (means Missing w)) q
      ∙ ap (λ b. b && not (means Missing q)) (contains-kept table (λ w. not (means Data w)) q)))))
      ∙ by (contains table q) (is_meant c type path q) q.kind
      ∙ sym (contains-kept table (λ w. not (is_meant c type path w)) q))
    where
      by : (a m : Bool) (k : Kind)
          → ((((((a && one m Data k) && one m Missing k) && one m Children k) && one m EachData k) && one m EachChildren k) && one m Recursive k) ≡ (a && not m)
      by false m k = refl
      by true false k = refl
      by true true Data = refl
      by true true Missing = refl
      by true true Children = refl
      by true true EachData = refl
      by true true EachChildren = refl
      by true true Recursive = refl

  -- ---- whether one is there

  abbrev has_one : Watches → Kind → Bool
  has_one table kind = has_type type kind && contains table (watch path kind c)

  pub meant_there : (table : Watches)
      → (has_one table Data || (has_one table Missing || (has_one table Children || (has_one table EachData || (has_one table EachChildren || has_one table Recursive)))))
      ≡ has_meant table c type path
  meant_there table = both_ways _ _ (λ one. there one) back
    where
      watch_same : (q w : Watch) → eq_by_cmp watch_cmp q w ≡ true → q ≡ w
      watch_same q w e = same_watch q w ((Equal-is (watch_cmp q w)).0 e)

      -- each of the six is meant
      is_one : (kind : Kind) → has_one table kind ≡ true → has_meant table c type path ≡ true
      is_one kind one =
          let both = both_true (has_type type kind) (contains table (watch path kind c)) one in
          let w = watch path kind c in
          let meant : is_meant c type path w ≡ true =
          (both_true (is_meant c type path w) (is_of kind (slot_of w)) (sym (typed kind w both.0) ∙ (eq_by_cmp_equiv watches_total).refl w)).0 in
          let at = Contains-from_any watch_same w (items table) (sym (contains-items table w) ∙ both.1) in
          list_any-from_Any (is_meant c type path) (items table) (at.0, w, at.1, at.2, meant)

      there : (has_one table Data || (has_one table Missing || (has_one table Children || (has_one table EachData || (has_one table EachChildren || has_one table Recursive))))) ≡ true
          → has_meant table c type path ≡ true
      there one = first (has_one table Data) refl one
        where
          sixth : (b : Bool) → has_one table Recursive ≡ b → b ≡ true → has_meant table c type path ≡ true
          sixth b e one = is_one Recursive (e ∙ one)

          fifth : (b : Bool) → has_one table EachChildren ≡ b → (b || has_one table Recursive) ≡ true → has_meant table c type path ≡ true
          fifth true e one = is_one EachChildren e
          fifth false e one = sixth (has_one table Recursive) refl one

          fourth : (b : Bool) → has_one table EachData ≡ b → (b || (has_one table EachChildren || has_one table Recursive)) ≡ true → has_meant table c type path ≡ true
          fourth true e one = is_one EachData e
          fourth false e one = fifth (has_one table EachChildren) refl one

          third : (b : Bool) → has_one table Children ≡ b → (b || (has_one table EachData || (has_one table EachChildren || has_one table Recursive))) ≡ true
              → has_meant table c type path ≡ true
          third true e one = is_one Children e
          third false e one = fourth (has_one table EachData) refl one

          second : (b : Bool) → has_one table Missing ≡ b
              → (b || (has_one table Children || (has_one table EachData || (has_one table EachChildren || has_one table Recursive)))) ≡ true
              → has_meant table c type path ≡ true
          second true e one = is_one Missing e
          second false e one = third (has_one table Children) refl one

          first : (b : Bool) → has_one table Data ≡ b
              → (b || (has_one table Missing || (has_one table Children || (has_one table EachData || (has_one table EachChildren || has_one table Recursive))))) ≡ true
              → has_meant table c type path ≡ true
          first true e one = is_one Data e
          first false e one = second (has_one table Missing) refl one

      -- a meant watch is one of the six
      back : has_meant table c type path ≡ true
          → (has_one table Data || (has_one table Missing || (has_one table Children || (has_one table EachData || (has_one table EachChildren || has_one table Recursive))))) ≡ true
      back some =
          let found = Any-from_list_any (is_meant c type path) (items table) some in
          let w = found.1 in
          let own = both_true (eqb w.connection c) (eq_by_cmp path_cmp w.path path && has_type type w.kind) found.4 in
          let at = both_true (eq_by_cmp path_cmp w.path path) (has_type type w.kind) own.1 in
          let is_there : contains table w ≡ true =
          contains-items table w ∙ list_any-from_Contains (eq_by_cmp_equiv watches_total) w (items table) (found.0, found.2, found.3) in
          let same : w ≡ watch path w.kind c =
          watch_same w (watch path w.kind c) (kind_at w path w.kind c ∙ (λ i. at.0 i && ((eq_by_cmp_equiv nat_cmp_total).refl (kind_number w.kind) i && own.0 i))) in
          pick w.kind (λ i. at.1 i && (ap (contains table) (sym same) ∙ is_there) i)
        where
          or_one : (a b : Bool) → b ≡ true → (a || b) ≡ true
          or_one true b is = refl
          or_one false b is = is

          pick : (kind : Kind) → has_one table kind ≡ true
              → (has_one table Data || (has_one table Missing || (has_one table Children || (has_one table EachData || (has_one table EachChildren || has_one table Recursive))))) ≡ true
          pick Data one = ap (λ b. b || (has_one table Missing || (has_one table Children || (has_one table EachData || (has_one table EachChildren || has_one table Recursive))))) one
          pick Missing one = or_one (has_one table Data) _ (ap (λ b. b || (has_one table Children || (has_one table EachData || (has_one table EachChildren || has_one table Recursive)))) one)
          pick Children one =
              or_one (has_one table Data) _ (or_one (has_one table Missing) _
              (ap (λ b. b || (has_one table EachData || (has_one table EachChildren || has_one table Recursive))) one))
          pick EachData one =
              or_one (has_one table Data) _ (or_one (has_one table Missing) _ (or_one (has_one table Children) _
              (ap (λ b. b || (has_one table EachChildren || has_one table Recursive)) one)))
          pick EachChildren one =
              or_one (has_one table Data) _ (or_one (has_one table Missing) _ (or_one (has_one table Children) _ (or_one (has_one table EachData) _
              (ap (λ b. b || has_one table Recursive) one))))
          pick Recursive one =
              or_one (has_one table Data) _ (or_one (has_one table Missing) _ (or_one (has_one table Children) _ (or_one (has_one table EachData) _
              (or_one (has_one table EachChildren) _ one))))

-- one of six, however they are grouped
pub one_of_six : (a b c d e f : Bool) → (((((a || b) || c) || d) || e) || f) ≡ (a || (b || (c || (d || (e || f)))))
one_of_six true b c d e f = refl
one_of_six false true c d e f = refl
one_of_six false false true d e f = refl
one_of_six false false false true e f = refl
one_of_six false false false false e f = refl
