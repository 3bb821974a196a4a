-- The positions of the recursive watches above a path, one after the other.
use Rattle.std.proofs.Common.{◌≡◌, ℕ, zero, suc, ◌+◌, ◌<◌, ◌≤◌, Bool, true, false, ◌||◌, List, [], ◌∷◌, length, map, take, drop, refl, sym, ap, ◌∙◌, add-one, arith}
use Rattle.std.specs.List.{list_any}
use Rattle.std.specs.FinSet.{contains}
use Rattle.std.proofs.Math.Bool.{or-false}
use Rattle.std.proofs.lemmas.List.{drop-map}
use Rattle.zwatches.specs.declared.kind.Kind.TheVariants.{Recursive}
use Rattle.zwatches.specs.declared.watch.Watch.{Watch}
use Rattle.zwatches.specs.Watches.{Path, Watches, place, watch}
use Rattle.zwatches.specs.Events.{above, from_root, is_at}
use Rattle.zwatches.specs.support.Groups.{found_by, waits_at}

root_step : (path : Path) (i : ℕ) → i < length path → drop i (from_root path) ≡ take i path ∷ drop (suc i) (from_root path)
root_step [] i less = absurd (omega (arith, less))
root_step (name ∷ path) zero less = refl
root_step (name ∷ path) (suc i) less =
    drop-map (λ p. name ∷ p) i (from_root path)
    ∙ ap (map (λ p. name ∷ p)) (root_step path i (omega (arith, less)))
    ∙ ap (λ more. (name ∷ take i path) ∷ more) (sym (drop-map (λ p. name ∷ p) (suc i) (from_root path)))

root_last : (path : Path) → drop (length path) (from_root path) ≡ path ∷ []
root_last [] = refl
root_last (name ∷ path) = drop-map (λ p. name ∷ p) (length path) (from_root path) ∙ ap (map (λ p. name ∷ p)) (root_last path)

-- the next position is that of the path's first names
above_step : (path : Path) (i : ℕ) → i < length path → drop i (above path) ≡ place (take i path) Recursive ∷ drop (i + 1) (above path)
above_step path i less =
    drop-map (λ p. place p Recursive) i (from_root path)
    ∙ ap (map (λ p. place p Recursive)) (root_step path i less)
    ∙ ap (λ more. place (take i path) Recursive ∷ more) (sym (drop-map (λ p. place p Recursive) (suc i) (from_root path)))
    ∙ ap (λ n. place (take i path) Recursive ∷ drop n (above path)) (sym (add-one i))

-- and the last one is its own
above_last : (path : Path) (i : ℕ) → length path ≤ i → i ≤ length path → drop i (above path) ≡ place path Recursive ∷ []
above_last path i end within =
    let same : i ≡ length path = omega (arith, end, within) in
    ap (λ n. drop n (above path)) same
    ∙ drop-map (λ p. place p Recursive) (length path) (from_root path)
    ∙ ap (map (λ p. place p Recursive)) (root_last path)

-- ---- whether one of them has a row

pub found_more : (rows : List Watch) (path : Path) (i : ℕ) → i < length path → (b : Bool) → b ≡ list_any (is_at (place (take i path) Recursive)) rows
    → found_by rows (drop i (above path)) ≡ (b || found_by rows (drop (i + 1) (above path)))
found_more rows path i less b is =
    ap (found_by rows) (above_step path i less) ∙ ap (λ b. b || found_by rows (drop (i + 1) (above path))) (sym is)

pub found_last : (rows : List Watch) (path : Path) (i : ℕ) → length path ≤ i → i ≤ length path → (b : Bool) → b ≡ list_any (is_at (place path Recursive)) rows
    → b ≡ found_by rows (drop i (above path))
found_last rows path i end within b is =
    is ∙ sym (or-false (list_any (is_at (place path Recursive)) rows)) ∙ ap (found_by rows) (sym (above_last path i end within))

-- ---- who waits at them

pub waits_more : (table : Watches) (path : Path) (i : ℕ) → i < length path → (q : ℕ) (old new all : Bool)
    → new ≡ (old || waits_at table (place (take i path) Recursive ∷ []) q)
    → (old || waits_at table (drop i (above path)) q) ≡ all → (new || waits_at table (drop (i + 1) (above path)) q) ≡ all
waits_more table path i less q old new all is so_far =
    ap (λ b. b || waits_at table (drop (i + 1) (above path)) q) is
    ∙ joined old (contains table (watch (take i path) Recursive q)) (waits_at table (drop (i + 1) (above path)) q)
    ∙ ap (λ places. old || waits_at table places q) (sym (above_step path i less))
    ∙ so_far
  where
    joined : (a b c : Bool) → ((a || (b || false)) || c) ≡ (a || (b || c))
    joined true b c = refl
    joined false true c = refl
    joined false false c = refl

pub waits_last : (table : Watches) (path : Path) (i : ℕ) → length path ≤ i → i ≤ length path → (q : ℕ) (old new all : Bool)
    → new ≡ (old || waits_at table (place path Recursive ∷ []) q)
    → (old || waits_at table (drop i (above path)) q) ≡ all → new ≡ all
waits_last table path i end within q old new all is so_far =
    is ∙ ap (λ places. old || waits_at table places q) (sym (above_last path i end within)) ∙ so_far
