-- The path of a sequential node.
use Rattle.std.proofs.Common.{◌≡◌, ◌≢◌, ℕ, ◌≤◌, ◌+◌, Bool, true, false, cond, ltb, ◌||◌, List, [], ◌∷◌, ◌++◌, length, codes, Some, None, refl, sym, ap, ◌∙◌, arith}
use Rattle.std.specs.List.{list_any, AllByRecursion}
use Rattle.std.proofs.lemmas.List.{same_from_push}
use Rattle.std.proofs.lemmas.List.Folds.{list_any-append}
use Rattle.zpath.specs.declared.fault.PathFault.{PathFault}
use Rattle.zpath.specs.declared.fault.PathFault.TheVariants.{NameTooLong, PathTooLong}
use Rattle.zpath.specs.declared.limits.TheConstants.{COUNTER_DIGITS, MAX_NAME_LEN, MAX_TEXT_LEN}
use Rattle.zpath.specs.Grammar.{IsName, IsPath, is_long, is_reserved, text_of}
use Rattle.zpath.specs.Numbered.{digits, numbered_path, numbered_tests, numbered_fault, is_over}
use Rattle.zpath.specs.Laws.{NumbersAreDistinct, RefusesWhatIsOver}
use Rattle.zpath.proofs.NameTests.{tests_from_names, at_most}
use Rattle.zpath.proofs.Family.{all_front, all_more, all_last, length-text_of-child, child_depth}
use Rattle.zpath.proofs.First.{no_test_holds}
use Rattle.zpath.proofs.Digits.{length-numbered_name, bytes_eq-longer, IsName-numbered, digits_injective}

-- the digits come after the last name
pub numbered_last : (front : List (List ℕ)) (last : List ℕ) (counter : ℕ) → numbered_path (front ++ last ∷ []) counter ≡ front ++ (last ++ digits COUNTER_DIGITS counter) ∷ []
numbered_last [] last counter = refl
numbered_last (first ∷ []) last counter = refl
numbered_last (first ∷ next ∷ front) last counter = ap (λ path. first ∷ path) (numbered_last (next ∷ front) last counter)

-- how long the text becomes
length-text_of-numbered : (front : List (List ℕ)) (last : List ℕ) (counter : ℕ) → length (text_of (numbered_path (front ++ last ∷ []) counter)) ≡ length (text_of (front ++ last ∷ [])) + COUNTER_DIGITS
length-text_of-numbered front last counter =
    ap (λ path. length (text_of path)) (numbered_last front last counter)
    ∙ omega (
      arith,
      length-text_of-child front (last ++ digits COUNTER_DIGITS counter),
      length-text_of-child front last,
      length-numbered_name last counter,
    )

-- only the last name can have become too long
is_long-numbered : (front : List (List ℕ)) (last : List ℕ) (counter : ℕ) → AllByRecursion IsName front → list_any is_long (numbered_path (front ++ last ∷ []) counter) ≡ ltb MAX_NAME_LEN (length last + COUNTER_DIGITS)
is_long-numbered front last counter are =
    ap (list_any is_long) (numbered_last front last counter)
    ∙ list_any-append is_long front ((last ++ digits COUNTER_DIGITS counter) ∷ [])
    ∙ rw ((tests_from_names front are).short, length-numbered_name last counter) (or_nothing (ltb MAX_NAME_LEN (length last + COUNTER_DIGITS)))
  where
    or_nothing : (test : Bool) → (false || (test || false)) ≡ test
    or_nothing true = refl
    or_nothing false = refl

-- the fault by the lengths before
pub numbered_fault-lengths :
    (front : List (List ℕ)) (last : List ℕ) → IsPath (front ++ last ∷ []) → (counter : ℕ) →
    numbered_fault (front ++ last ∷ []) counter ≡ cond (ltb MAX_NAME_LEN (length last + COUNTER_DIGITS)) (Some NameTooLong) (cond (ltb MAX_TEXT_LEN (length (text_of (front ++ last ∷ [])) + COUNTER_DIGITS)) (Some PathTooLong) None)
unfolding numbered_fault
numbered_fault-lengths front last is counter =
    rw (is_long-numbered front last counter (all_front front (last ∷ []) is.names), length-text_of-numbered front last counter) refl

-- a last name whose digits fit
pub last_fits : (front : List (List ℕ)) (last : List ℕ) (counter : ℕ) → IsPath (front ++ last ∷ []) → numbered_fault (front ++ last ∷ []) counter ≡ None → length last + COUNTER_DIGITS ≤ MAX_NAME_LEN
unfolding numbered_fault
last_fits front last counter is none =
    let off = no_test_holds (numbered_tests (front ++ last ∷ []) counter) none in
    at_most MAX_NAME_LEN _ (sym (is_long-numbered front last counter (all_front front (last ∷ []) is.names)) ∙ off.0)

-- a path with a counter's digits is a path, where nothing speaks against it
pub IsPath-numbered : (front : List (List ℕ)) (last : List ℕ) (counter : ℕ) → IsPath (front ++ last ∷ []) → numbered_fault (front ++ last ∷ []) counter ≡ None → IsPath (front ++ (last ++ digits COUNTER_DIGITS counter) ∷ [])
unfolding numbered_fault
IsPath-numbered front last counter is none =
    let off = no_test_holds (numbered_tests (front ++ last ∷ []) counter) none in
    let name = IsName-numbered last counter (all_last front last is.names) (last_fits front last counter is none) in
    record {
      names = all_more front _ (all_front front (last ∷ []) is.names) name;
      short = rw (← numbered_last front last counter) (at_most MAX_TEXT_LEN _ off.1.0);
      shallow = let shallow = is.shallow in omega (arith, child_depth front last, child_depth front (last ++ digits COUNTER_DIGITS counter));
      unreserved = still_free front is.unreserved;
    }
  where
    still_free : (front : List (List ℕ)) → is_reserved (front ++ last ∷ []) ≡ false → is_reserved (front ++ (last ++ digits COUNTER_DIGITS counter) ∷ []) ≡ false
    still_free [] free = bytes_eq-longer (last ++ digits COUNTER_DIGITS counter) (codes "zookeeper") (omega (arith, length-numbered_name last counter))
    still_free (first ∷ front) free = free

-- a path without such a fault is not over its limits, and one with a fault is
pub is_over-fits : (path : List (List ℕ)) (counter : ℕ) → numbered_fault path counter ≡ None → is_over (numbered_path path counter) ≡ false
unfolding numbered_fault
is_over-fits path counter none =
    let off = no_test_holds (numbered_tests path counter) none in
    rw (off.0, off.1.0) refl

pub is_over-fault : (path : List (List ℕ)) (counter : ℕ) (fault : PathFault) → numbered_fault path counter ≡ Some fault → is_over (numbered_path path counter) ≡ true
unfolding numbered_fault
is_over-fault path counter fault some = either (list_any is_long (numbered_path path counter)) (ltb MAX_TEXT_LEN (length (text_of (numbered_path path counter)))) some
  where
    either : (name text : Bool) → cond name (Some NameTooLong) (cond text (Some PathTooLong) None) ≡ Some fault → (name || text) ≡ true
    either true text some = refl
    either false true some = refl
    either false false some = cc

-- and one that is over no limit has no such fault
is_over-none : (path : List (List ℕ)) (counter : ℕ) → is_over (numbered_path path counter) ≡ false → numbered_fault path counter ≡ None
unfolding numbered_fault
is_over-none path counter fits = neither (list_any is_long (numbered_path path counter)) (ltb MAX_TEXT_LEN (length (text_of (numbered_path path counter)))) fits
  where
    neither : (name text : Bool) → (name || text) ≡ false → cond name (Some NameTooLong) (cond text (Some PathTooLong) None) ≡ None
    neither true text fits = cc
    neither false true fits = cc
    neither false false fits = refl

pub refuses_what_is_over : RefusesWhatIsOver
refuses_what_is_over path counter = (is_over-fits path counter, is_over-none path counter)

-- a path below the root has a last name
last_name : (path : List (List ℕ)) → path ≢ [] → (front : List (List ℕ)) × (last : List ℕ) × (path ≡ front ++ last ∷ [])
last_name [] below = absurd (below refl)
last_name (name ∷ []) below = ([], name, refl)
last_name (name ∷ next ∷ path) below =
    let more = last_name (next ∷ path) (λ same. cc) in
    (name ∷ more.0, more.1, ap (λ names. name ∷ names) more.2)

pub numbers_are_distinct : NumbersAreDistinct
numbers_are_distinct left right a b left_below right_below small_a small_b same =
    let left_split = last_name left left_below in
    let right_split = last_name right right_below in
    let spread = λ (path : List (List ℕ)) (front : List (List ℕ)) (last : List ℕ) (counter : ℕ) (split : path ≡ front ++ last ∷ []).
    ap (λ names. numbered_path names counter) split ∙ numbered_last front last counter in
    let ends = same_from_push left_split.0 right_split.0 (left_split.1 ++ digits COUNTER_DIGITS a) (right_split.1 ++ digits COUNTER_DIGITS b) (
    sym (spread left left_split.0 left_split.1 a left_split.2) ∙ same ∙ spread right right_split.0 right_split.1 b right_split.2
    ) in
    digits_injective COUNTER_DIGITS left_split.1 right_split.1 a b small_a small_b ends.1
