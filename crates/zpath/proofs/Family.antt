-- The front of a path, and a path with one more name.
use Rattle.std.proofs.Common.{◌≡◌, ℕ, ◌<◌, ◌≤◌, ◌+◌, List, [], ◌∷◌, ◌++◌, length, get_or, take, drop, None, refl, sym, ap, ◌∙◌, arith, lit≤, length-append, take-append-drop, append-nil, add-one}
use Rattle.std.proofs.lemmas.Grind.{flat_map-append}
use Rattle.std.proofs.Math.Seq.{take-suc}
use Rattle.std.proofs.lemmas.List.Sums.{sum_by-cons, sum_by_push}
use Rattle.std.specs.List.{flat_map, AllByRecursion, sum_by}
use Rattle.zpath.specs.declared.limits.TheConstants.{MAX_TEXT_LEN, MAX_DEPTH}
use Rattle.zpath.specs.Grammar.{IsName, segment_of, text_of, IsPath}
use Rattle.zpath.specs.Faults.{child_tests, child_fault}
use Rattle.zpath.proofs.First.{no_test_holds}
use Rattle.zpath.proofs.NameTests.{at_most}

pub all_front : (front : List (List ℕ)) (back : List (List ℕ)) → AllByRecursion IsName (front ++ back) → AllByRecursion IsName front
all_front [] back are = tt
all_front (name ∷ front) back are = (are.0, all_front front back are.1)

pub all_more : (front : List (List ℕ)) (name : List ℕ) → AllByRecursion IsName front → IsName name → AllByRecursion IsName (front ++ name ∷ [])
all_more [] name are is = (is, tt)
all_more (first ∷ front) name are is = (are.0, all_more front name are.1 is)

pub all_last : (front : List (List ℕ)) (name : List ℕ) → AllByRecursion IsName (front ++ name ∷ []) → IsName name
all_last [] name are = are.0
all_last (first ∷ front) name are = all_last front name are.1

-- the front of a path is a path
pub IsPath-front : (front back : List (List ℕ)) → IsPath (front ++ back) → IsPath front
IsPath-front [] back is = record { names = tt; short = lit≤ tt; shallow = lit≤ tt; unreserved = refl }
IsPath-front (first ∷ front) back is =
    let text = ap length (flat_map-append segment_of (first ∷ front) back) in
    let more = length-append (flat_map segment_of (first ∷ front)) (flat_map segment_of back) in
    record {
      names = all_front (first ∷ front) back is.names;
      short = let short = is.short in omega arith;
      shallow = let shallow = is.shallow in omega (arith, length-append (first ∷ front) back);
      unreserved = is.unreserved;
    }

-- so are its first names
pub IsPath-take : (depth : ℕ) (path : List (List ℕ)) → IsPath path → IsPath (take depth path)
IsPath-take depth path is = IsPath-front (take depth path) (drop depth path) (rw (take-append-drop depth path) is)

-- a path with one more name is a path, where nothing speaks against it
pub IsPath-child : (path : List (List ℕ)) (name : List ℕ) → IsPath path → IsName name → child_fault path name ≡ None → IsPath (path ++ name ∷ [])
unfolding child_fault
IsPath-child path name is is_name none =
    let off = no_test_holds (child_tests path name) none in
    record {
      names = all_more path name is.names is_name;
      short = at_most MAX_TEXT_LEN _ off.0;
      shallow = at_most MAX_DEPTH _ off.1.0;
      unreserved = off.1.1.0;
    }

-- how long the segments of names are together
length-segments : (names : List (List ℕ)) → length (flat_map segment_of names) ≡ sum_by (λ name. length name + 1) names
length-segments [] = refl
length-segments (name ∷ names) =
    omega (arith, length-append name (flat_map segment_of names), length-segments names, sum_by-cons (λ (name : List ℕ). length name + 1) name names)

-- the segments of one name more
pub segments-next : (names : List (List ℕ)) (i : ℕ) (name : List ℕ) → i < length names → name ≡ get_or names i name → flat_map segment_of (take i names) ++ segment_of name ≡ flat_map segment_of (take (i + 1) names)
segments-next names i name inside is =
    rw (add-one, take-suc names i name inside, ← is)
    (sym (flat_map-append segment_of (take i names) (name ∷ []) ∙ ap (λ more. flat_map segment_of (take i names) ++ more) (append-nil (segment_of name))))

-- the segments of a path are no longer than its text may be
pub segments_fit : (path : List (List ℕ)) → IsPath path → sum_by (λ name. length name + 1) path ≤ MAX_TEXT_LEN
segments_fit [] is = lit≤ tt
segments_fit (name ∷ names) is = rw (← length-segments (name ∷ names)) is.short

-- how long the text of a path with one more name is
pub length-text_of-child : (path : List (List ℕ)) (name : List ℕ) → length (text_of (path ++ name ∷ [])) ≡ sum_by (λ name. length name + 1) path + length name + 1
length-text_of-child path name =
    ap length (text_of-child path name)
    ∙ length-segments (path ++ name ∷ [])
    ∙ sum_by_push (λ name. length name + 1) path name
    ∙ omega arith
  where
    text_of-child : (path : List (List ℕ)) (name : List ℕ) → text_of (path ++ name ∷ []) ≡ flat_map segment_of (path ++ name ∷ [])
    text_of-child [] name = refl
    text_of-child (first ∷ path) name = refl

-- how many names a path with one more name has
pub child_depth : (path : List (List ℕ)) (name : List ℕ) → length (path ++ name ∷ []) ≡ length path + 1
child_depth path name = length-append path (name ∷ [])
