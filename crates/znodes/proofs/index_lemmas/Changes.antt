-- How the map of an index changes with its entries.
use Rattle.std.proofs.Common.{◌≡◌, Bool, true, false, cond, List, [], ◌∷◌, Option, Some, None, refl, sym, ap, ◌∙◌}
use mathlib.Core.Path.{subst}
use Rattle.std.specs.Ordering.{eq_by_cmp}
use Rattle.std.specs.Cmp.Lexicographic.{nat_list_eq_equiv, lists_equiv}
use Rattle.std.specs.List.{AllZip}
use Rattle.std.specs.Map.{lookup, KeepsOthers}
use Rattle.std.specs.FinMap as finite
use Rattle.std.specs.FinMap.{get, from_entries, get-insert, get-remove, same_map}
use Rattle.zpath.specs.Grammar.{path_cmp}
use Rattle.zslots.specs.declared.id.Id.{Id}
use Rattle.znodes.specs.index.Fields.{Entry, ids_of}
use Rattle.znodes.specs.index.IndexView.{IdsByPath}
use Rattle.znodes.proofs.index_lemmas.Finds.{Path, same_names, path_cmp_total, path_cmp_same, names_decide, tied-names, get-ids}

same_ids : (m n : IdsByPath) → ((q : Path) → get m q ≡ get n q) → m ≡ n
same_ids m n alike = same_map path_cmp_total path_cmp_same m n alike

-- what is found has a key with these names
key_at :
    (es : List Entry) (q : Path) (id : Id) → lookup (same_names q) es ≡ Some id →
    (key : Path) × (key ≡ q)
key_at [] q id e = cc
key_at (f ∷ es) q id e = by (same_names q f.0) refl (key_at es q id)
  where
    by :
        (b : Bool) → same_names q f.0 ≡ b →
        (lookup (same_names q) es ≡ Some id → (key : Path) × (key ≡ q)) →
        (key : Path) × (key ≡ q)
    by true t more = (f.0, sym ((names_decide q f.0).0 t))
    by false t more = more (sym (ap (λ b. cond b (Some f.1) (lookup (same_names q) es)) t) ∙ e)

-- entries in which each key finds the same in both
abbrev pub FindsSame : List Entry → List Entry → Type 0
FindsSame es fs =
    (key : Path) → lookup (same_names key) fs ≡ lookup (same_names key) es

-- where each key finds the same, so does any path
finds_same :
    (es fs : List Entry) → FindsSame es fs → (q : Path) →
    lookup (same_names q) fs ≡ lookup (same_names q) es
finds_same es fs same q = by (lookup (same_names q) es) (lookup (same_names q) fs) refl refl
  where
    at_key : (key : Path) → key ≡ q → lookup (same_names q) fs ≡ lookup (same_names q) es
    at_key key is = subst (λ p. lookup (same_names p) fs ≡ lookup (same_names p) es) is (same key)

    by :
        (o t : Option Id) → lookup (same_names q) es ≡ o → lookup (same_names q) fs ≡ t →
        lookup (same_names q) fs ≡ lookup (same_names q) es
    by None None e f = f ∙ sym e
    by (Some id) t e f = let k = key_at es q id e in at_key k.0 k.1
    by None (Some id) e f = let k = key_at fs q id f in at_key k.0 k.1

pub ids-reordered : (es fs : List Entry) → FindsSame es fs → ids_of fs ≡ ids_of es
ids-reordered es fs same =
    same_ids _ _ (λ q. get-ids fs q ∙ finds_same es fs same q ∙ sym (get-ids es q))

-- the names p find this in the new entries, and other names what they found in the old
pub record IsChange (p : Path) (w : Option Id) (es fs : List Entry) : Type 0 where
  pub here : lookup (same_names p) fs ≡ w
  pub elsewhere : KeepsOthers same_names (same_names p) es fs

module _ (p : Path) (w : Option Id) (es fs : List Entry) (change : IsChange p w es fs) where
  other_names :
      (q : Path) → same_names q p ≡ false → lookup (same_names q) fs ≡ lookup (same_names q) es
  unfolding KeepsOthers
  other_names q differs =
      change.elsewhere (same_names q)
      (λ x y. (lists_equiv nat_list_eq_equiv).congr q x y)
      (λ key same. ap (same_names q) (sym ((names_decide p key).0 same)) ∙ differs)

  finds : (q : Path) → lookup (same_names q) fs ≡ cond (same_names q p) w (lookup (same_names q) es)
  finds q = by (same_names q p) refl
    where
      by :
          (b : Bool) → same_names q p ≡ b →
          lookup (same_names q) fs ≡ cond (same_names q p) w (lookup (same_names q) es)
      by true t =
          ap (λ n. lookup (same_names n) fs) ((names_decide q p).0 t) ∙ change.here
          ∙ sym (ap (λ b. cond b w (lookup (same_names q) es)) t)
      by false t = other_names q t ∙ sym (ap (λ b. cond b w (lookup (same_names q) es)) t)

  gets : (q : Path) → get (ids_of fs) q ≡ cond (eq_by_cmp path_cmp q p) w (get (ids_of es) q)
  gets q =
      get-ids fs q ∙ finds q
      ∙ ap (λ o. cond (same_names q p) w o) (sym (get-ids es q))
      ∙ ap (λ b. cond b w (get (ids_of es) q)) (sym (tied-names q p))

pub ids-inserted :
    (p : Path) (id : Id) (es fs : List Entry) → IsChange p (Some id) es fs →
    ids_of fs ≡ finite.insert (ids_of es) p id
ids-inserted p id es fs change =
    same_ids _ _ (λ q.
    gets p (Some id) es fs change q ∙ sym (get-insert path_cmp_total (ids_of es) p id q))

pub ids-removed :
    (p : Path) (es fs : List Entry) → IsChange p None es fs →
    ids_of fs ≡ finite.remove (ids_of es) p
ids-removed p es fs change =
    same_ids _ _ (λ q.
    gets p None es fs change q ∙ sym (get-remove path_cmp_total (ids_of es) p q))

-- as the clones of keys and of Ids say it
abbrev pub IsEntryClone : Entry → Entry → Type 0
IsEntryClone entry copy = (copy.0 ≡ entry.0) × (copy.1 ≡ entry.1)

rows-cloned : (es fs : List Entry) → AllZip IsEntryClone es fs → fs ≡ es
rows-cloned [] [] copies = refl
rows-cloned [] (f ∷ fs) copies = absurd copies
rows-cloned (e ∷ es) [] copies = absurd copies
rows-cloned (e ∷ es) (f ∷ fs) copies = λ i. (copies.0.0 i, copies.0.1 i) ∷ rows-cloned es fs copies.1 i

pub ids-cloned : (es fs : List Entry) → AllZip IsEntryClone es fs → ids_of fs ≡ ids_of es
ids-cloned es fs copies = ap from_entries (rows-cloned es fs copies)
