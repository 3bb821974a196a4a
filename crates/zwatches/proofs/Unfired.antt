-- The table once watches have fired.
use Rattle.std.proofs.Common.{◌≡◌, ℕ, ◌+◌, ◌<◌, Bool, true, false, not, ◌&&◌, ◌||◌, List, [], ◌∷◌, length, take, get_or, refl, sym, ap, ◌∙◌}
use Rattle.std.specs.declared.cmp.Ordering.{Ordering}
use Rattle.std.specs.declared.cmp.Ordering.TheVariants.{Less, Equal, Greater}
use Rattle.std.specs.Ordering.{eq_by_cmp, is_eq, nat_cmp, ordering_then}
use Rattle.std.specs.Cmp.{eq_by_cmp_equiv, nat_cmp_total}
use Rattle.std.specs.List.{list_any}
use Rattle.std.specs.FinSet.{FinSet, contains, remove, retain, contains-from_list, contains-remove, same_set}
use Rattle.std.proofs.lemmas.List.Folds.{list_any_more}
use Rattle.zjute.specs.declared.event.EventKind.{EventKind}
use Rattle.zwatches.specs.declared.kind.Kind.{Kind}
use Rattle.zwatches.specs.declared.watch.Watch.{Watch}
use Rattle.zwatches.specs.Watches.{Path, Place, Watches, fires_once, place, place_cmp, place_of, watch, watch_cmp}
use Rattle.zwatches.specs.Events.{Lists, ends, fires, is_at, reported, unfired}
use Rattle.zwatches.specs.support.Groups.{among, is_left, once_at}
use Rattle.zwatches.proofs.Order.{watches_total, same_watch}
use Rattle.zwatches.proofs.Reporting.{ends_is}
use Rattle.zwatches.proofs.Worked.{both_true, contains-kept, reports_who_waits}

-- ---- one connection after the other

parts : (a b : Ordering) → is_eq (ordering_then a b) ≡ (is_eq a && is_eq b)
parts Less b = refl
parts Equal b = refl
parts Greater b = refl

-- a watch is a connection's at a position
pub one_is : (w : Watch) (path : Path) (kind : Kind) (c : ℕ) → eq_by_cmp watch_cmp w (watch path kind c) ≡ (is_at (place path kind) w && eq_by_cmp nat_cmp c w.connection)
one_is w path kind c =
    parts (place_cmp (place_of w) (place path kind)) (nat_cmp w.connection c)
    ∙ ap (λ b. is_at (place path kind) w && b) ((eq_by_cmp_equiv nat_cmp_total).symm w.connection c)

-- nobody's watches are removed
pub none_left : (table : Watches) (places : List Place) → table ≡ retain table (is_left [] places)
none_left table places = same_set watches_total same_watch _ _ (λ q.
    by (contains table q) (list_any (λ at. is_at at q) places) ∙ sym (contains-kept table (is_left [] places) q))
  where
    by : (a b : Bool) → a ≡ (a && not (b && false))
    by true true = refl
    by true false = refl
    by false b = refl

-- those of one connection more
pub one_less : (table now : Watches) (connections : List ℕ) (i c : ℕ) (path : Path) (kind : Kind) → i < length connections → c ≡ get_or connections i 0
    → now ≡ retain table (is_left (take i connections) (place path kind ∷ []))
    → remove now (watch path kind c) ≡ retain table (is_left (take (i + 1) connections) (place path kind ∷ []))
one_less table now connections i c path kind within here is = same_set watches_total same_watch _ _ (λ q.
    contains-remove watches_total now (watch path kind c) q
    ∙ (λ j. not (one_is q path kind c j) && (ap (λ (t : Watches). contains t q) is ∙ contains-kept table (is_left (take i connections) (place path kind ∷ [])) q) j)
    ∙ by (contains table q) (is_at (place path kind) q) (eq_by_cmp nat_cmp c q.connection) (among (take i connections) q.connection)
    ∙ ap (λ b. contains table q && not ((is_at (place path kind) q || false) && b)) (sym (more q.connection))
    ∙ sym (contains-kept table (is_left (take (i + 1) connections) (place path kind ∷ [])) q))
  where
    more : (q : ℕ) → among (take (i + 1) connections) q ≡ (among (take i connections) q || eq_by_cmp nat_cmp c q)
    more q =
        list_any_more (eq_by_cmp nat_cmp q) connections i 0 within
        ∙ ap (λ (k : ℕ). among (take i connections) q || eq_by_cmp nat_cmp q k) (sym here)
        ∙ ap (λ b. among (take i connections) q || b) ((eq_by_cmp_equiv nat_cmp_total).symm q c)

    by : (there at own listed : Bool) → (not (at && own) && (there && not ((at || false) && listed))) ≡ (there && not ((at || false) && (listed || own)))
    by true true true true = refl
    by true true true false = refl
    by true true false true = refl
    by true true false false = refl
    by true false own listed = refl
    by false true true listed = refl
    by false true false listed = refl
    by false false own listed = refl

-- ---- at one position after the other

pub left_both : (table one two : Watches) (connections : List ℕ) (first second : Place) → one ≡ retain table (is_left connections (first ∷ []))
    → two ≡ retain one (is_left connections (second ∷ [])) → two ≡ retain table (is_left connections (first ∷ second ∷ []))
left_both table one two connections first second is then_is = same_set watches_total same_watch _ _ (λ q.
    ap (λ (t : Watches). contains t q) then_is
    ∙ contains-kept one (is_left connections (second ∷ [])) q
    ∙ ap (λ b. b && is_left connections (second ∷ []) q) (ap (λ (t : Watches). contains t q) is ∙ contains-kept table (is_left connections (first ∷ [])) q)
    ∙ by (contains table q) (is_at first q) (is_at second q) (among connections q.connection)
    ∙ sym (contains-kept table (is_left connections (first ∷ second ∷ [])) q))
  where
    by : (there a b listed : Bool) → ((there && not ((a || false) && listed)) && not ((b || false) && listed)) ≡ (there && not ((a || (b || false)) && listed))
    by true true true true = refl
    by true true true false = refl
    by true true false true = refl
    by true true false false = refl
    by true false b listed = refl
    by false a b listed = refl

pub left_nowhere : (table : Watches) (connections : List ℕ) → table ≡ retain table (is_left connections [])
left_nowhere table connections = same_set watches_total same_watch _ _ (λ q.
    by (contains table q) ∙ sym (contains-kept table (is_left connections []) q))
  where
    by : (a : Bool) → a ≡ (a && true)
    by true = refl
    by false = refl

-- ---- so of all whom an event notifies

pub unfired_is : (table now : Watches) (connections : List ℕ) (event : EventKind) (path : Path) → Lists connections (reported table event path)
    → now ≡ retain table (is_left connections (once_at event path)) → now ≡ unfired table event path
unfired_is table now connections event path lists is = same_set watches_total same_watch _ _ (λ q.
    ap (λ (t : Watches). contains t q) is
    ∙ contains-kept table (is_left connections (once_at event path)) q
    ∙ ap (λ b. contains table q && not (b && among connections q.connection)) (sym (ends_is event path q))
    ∙ by q (contains table q) (ends event path q) refl refl
    ∙ sym (contains-kept table (λ w. not (ends event path w)) q))
  where
    listed : (q : Watch) → contains table q ≡ true → ends event path q ≡ true → among connections q.connection ≡ true
    listed q there ending =
        sym (contains-from_list nat_cmp_total connections q.connection)
        ∙ ap (λ (s : FinSet nat_cmp). contains s q.connection) lists.same
        ∙ (reports_who_waits table event path q.connection).1 (q, (there, (both_true (fires event path q) (fires_once q.kind) ending).0, refl))

    by : (q : Watch) (there ending : Bool) → contains table q ≡ there → ends event path q ≡ ending
        → (there && not (ending && among connections q.connection)) ≡ (there && not ending)
    by q true true is_there is_ending = ap not (listed q is_there is_ending)
    by q true false is_there is_ending = refl
    by q false ending is_there is_ending = refl
