-- In whose lists a row is: what the keys of a row say, and what gives a row its keys.
use Rattle.std.proofs.Common.{◌≡◌, ◌≢◌, ℕ, ◌<◌, Bool, true, false, cond, [], ◌∷◌, ◌++◌, Option, Some, None, refl, sym, ap, ◌∙◌, arith}
use Rattle.std.specs.Prelude.{◌==◌, IfNone, IfSome}
use Rattle.std.specs.Borrow.{Bor}
use Rattle.std.specs.Option.{option_map_or, option_copied}
use Rattle.ztree.specs.Tree.{Name, Path, parent_of}
use Rattle.ztree.proofs.Maps.{none_some, same_some}
use Rattle.ztree.proofs.Nodes.{parent_of-front}
use Rattle.znodes.specs.declared.row.Row.{Row}
use Rattle.znodes.specs.support.Rows.{Key, is_live, above, parent_key, owner_key}
use Rattle.znodes.specs.support.OwnerLists.{somebody}
use Rattle.znodes.specs.support.Reading.{last_name}
use Rattle.znodes.proofs.OwnerMaps.{is_somebody}

pub last_name-appended : (front : Path) (n : Name) → last_name (front ++ n ∷ []) ≡ Some n
last_name-appended [] n = refl
last_name-appended (a ∷ []) n = refl
last_name-appended (a ∷ (b ∷ front)) n = last_name-appended (b ∷ front) n

-- the last name as `Path::name` hands it out
pub last_name-read : (path : Path) (o : Option (Bor Name)) → IfNone o (path ≡ []) → IfSome o (λ (n : Bor Name). (front : Path) × (path ≡ front ++ n.now ∷ [])) → option_copied o ≡ last_name path
last_name-read path None root last = ap last_name (sym root)
last_name-read path (Some n) root last = sym (ap last_name last.1 ∙ last_name-appended last.0 n.now)

-- a live row has no key, and a row with no key is live
pub live-no_key : (r : Row) → is_live r ≡ true → r.key ≡ None
live-no_key r = by r.key
  where
    by : (k : Option Key) → option_map_or (λ _. false) k true ≡ true → k ≡ None
    by None e = refl
    by (Some k) e = cc

pub no_key-live : (r : Row) → r.key ≡ None → is_live r ≡ true
no_key-live r e = ap (λ k. option_map_or (λ _. false) k true) e

above-appended : (front : Path) (n : Name) → above (front ++ n ∷ []) ≡ Some front
above-appended [] n = refl
above-appended (a ∷ front) n = ap Some (parent_of-front (a ∷ front) n)

-- a path below the root is the one above it with one more name
pub one_more : (q : Path) → q ≢ [] → (n : Name) × (q ≡ parent_of q ++ n ∷ [])
one_more [] below = absurd (below refl)
one_more (n ∷ []) below = (n, refl)
one_more (n ∷ (m ∷ q)) below = let rest = one_more (m ∷ q) (λ f. cc) in (rest.0, ap (λ p. n ∷ p) rest.1)

-- what is in the list of a path has that path and one more name
pub parent_key-parts : (r : Row) (p : Path) → parent_key r ≡ Some p → (n : Name) × (r.key ≡ None) × (r.path ≡ p ++ n ∷ [])
parent_key-parts r p = by (is_live r) refl r.path refl
  where
    by : (b : Bool) → is_live r ≡ b → (path : Path) → r.path ≡ path → cond b (above path) None ≡ Some p → (n : Name) × (r.key ≡ None) × (r.path ≡ p ++ n ∷ [])
    by false live path is e = absurd (none_some p e)
    by true live [] is e = absurd (none_some p e)
    by true live (a ∷ path) is e = let q = one_more (a ∷ path) (λ f. cc) in (q.0, live-no_key r live, is ∙ q.1 ∙ ap (λ t. t ++ q.0 ∷ []) (same_some _ _ e))

pub parent_key-live : (r : Row) (p : Path) (n : Name) → r.key ≡ None → r.path ≡ p ++ n ∷ [] → parent_key r ≡ Some p
parent_key-live r p n live is = ap (λ b. cond b (above r.path) None) (no_key-live r live) ∙ ap above is ∙ above-appended p n

pub owner_key-parts : (r : Row) (owner : ℕ) → owner_key r ≡ Some owner → (r.key ≡ None) × (r.node.owner ≡ owner)
owner_key-parts r owner = by (is_live r) refl (r.node.owner == 0)
  where
    by : (b : Bool) → is_live r ≡ b → (nobody : Bool) → cond b (cond nobody None (Some r.node.owner)) None ≡ Some owner → (r.key ≡ None) × (r.node.owner ≡ owner)
    by false live nobody e = absurd (none_some owner e)
    by true live true e = absurd (none_some owner e)
    by true live false e = (live-no_key r live, same_some _ _ e)

pub owner_key-live : (r : Row) (owner : ℕ) → 0 < owner → r.key ≡ None → r.node.owner ≡ owner → owner_key r ≡ Some owner
owner_key-live r owner some live is =
    ap (λ b. cond b (somebody r.node.owner) None) (no_key-live r live)
    ∙ is_somebody r.node.owner (λ nobody. absurd (omega arith)) ∙ ap Some is
