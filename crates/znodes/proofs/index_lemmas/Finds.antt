-- What the map of an index finds: what a look-up of the entries does.
use Rattle.std.proofs.Common.{◌≡◌, ℕ, suc, ◌+◌, Bool, true, false, cond, List, [], ◌∷◌, length, Some, None, is_some, nat_eq, refl, sym, ap, ◌∙◌, arith}
use Rattle.std.specs.Ordering.{eq_by_cmp}
use Rattle.std.specs.Cmp.{IsTotalOrder}
use Rattle.std.specs.Cmp.Lexicographic.{pointwise, pointwise_decides, bytes_decides, nat_list_cmp_total, texts_ties, lists_total, lists_ties}
use Rattle.std.specs.List.{AllByRecursion, IsDistinct}
use Rattle.std.specs.Map.{keys_of, lookup}
use Rattle.std.specs.FinMap.{IsAntisymmetric, slice_cmp-IsAntisymmetric, nat_cmp-IsAntisymmetric, find, get, len, get-from_entries, len-empty, len-insert}
use Rattle.zpath.specs.Grammar.{name_cmp, path_cmp}
use Rattle.zslots.specs.declared.id.Id.{Id}
use Rattle.znodes.specs.index.Fields.{Entry, ids_of}

abbrev pub Path : Type 0
Path = List (List ℕ)

-- as keys are compared
abbrev pub same_names : Path → Path → Bool
same_names = pointwise (pointwise nat_eq)

pub path_cmp_total : IsTotalOrder path_cmp
path_cmp_total = lists_total nat_list_cmp_total

pub path_cmp_same : IsAntisymmetric path_cmp
path_cmp_same = slice_cmp-IsAntisymmetric (slice_cmp-IsAntisymmetric nat_cmp-IsAntisymmetric)

pub names_decide :
    (p q : Path) → (same_names p q ≡ true → p ≡ q) × (p ≡ q → same_names p q ≡ true)
names_decide = pointwise_decides bytes_decides

-- paths tie exactly if their names are the same
pub tied-names : (p q : Path) → eq_by_cmp path_cmp p q ≡ same_names p q
tied-names p q = sym (lists_ties name_cmp texts_ties p q)

find-rows :
    (es : List Entry) (q : Path) → find path_cmp q es ≡ lookup (same_names q) es
find-rows [] q = refl
find-rows (e ∷ es) q =
    ap (λ b. cond b (Some e.1) (find path_cmp q es)) (tied-names q e.0)
    ∙ ap (cond (same_names q e.0) (Some e.1)) (find-rows es q)

pub get-ids : (es : List Entry) (q : Path) → get (ids_of es) q ≡ lookup (same_names q) es
get-ids es q = get-from_entries path_cmp_total es q ∙ find-rows es q

absent :
    (es : List Entry) (key : Path) →
    AllByRecursion (λ other. same_names key other ≡ false) (keys_of es) →
    lookup (same_names key) es ≡ None
absent [] key apart = refl
absent (e ∷ es) key apart =
    ap (λ b. cond b (Some e.1) (lookup (same_names key) es)) apart.0 ∙ absent es key apart.1

one_more : (n m : ℕ) → n ≡ m → n + 1 ≡ suc m
one_more n m e = omega arith

-- where no two keys have the same names, there are as many paths as entries
pub len-ids :
    (es : List Entry) → IsDistinct same_names (keys_of es) → len (ids_of es) ≡ length es
unfolding IsDistinct
len-ids [] apart = len-empty path_cmp Id
len-ids (e ∷ es) apart =
    len-insert path_cmp_total (ids_of es) e.0 e.1
    ∙ ap (λ o. cond (is_some o) (len (ids_of es)) (len (ids_of es) + 1))
    (get-ids es e.0 ∙ absent es e.0 apart.0)
    ∙ one_more _ _ (len-ids es apart.1)
