-- A path and its parent, and that no path is over a limit.
use Rattle.std.proofs.Common.{◌≡◌, ◌≢◌, ℕ, ◌≤◌, ◌<◌, Bool, true, false, [], ◌∷◌, ◌++◌, length, refl, ap, ◌∙◌, arith}
use Rattle.std.specs.Prelude.{nat_le, nat_lt, ◌==◌, if◌then◌else◌}
use Rattle.std.specs.List.{list_any, AllByRecursion}
use Rattle.std.proofs.lemmas.Bool.Decides.{nat_tests}
use Rattle.zpath.specs.Grammar.{IsName, IsPath, is_long, text_of}
use Rattle.zpath.specs.Numbered.{numbered_path, is_over}
use Rattle.ztree.specs.Tree.{Path, Name, Nodes, parent_of}
use Rattle.ztree.proofs.Nodes.{parent_of-front}
use Rattle.zcalls.specs.declared.call.Kind.{Kind}
use Rattle.zcalls.specs.Part.{is_root, made_path, counter_at}

pub record IsBelow (path above : Path) : Type 0 where
  pub root : is_root path ≡ false
  pub parent : parent_of path ≡ above

is_root-front : (above : Path) (name : Name) → is_root (above ++ name ∷ []) ≡ false
is_root-front [] name = refl
is_root-front (n ∷ above) name = refl

pub below : (path above : Path) (name : Name) → path ≡ above ++ name ∷ [] → IsBelow path above
below path above name e = record { root = ap is_root e ∙ is_root-front above name; parent = ap parent_of e ∙ parent_of-front above name }

no_long_name : (path : Path) → AllByRecursion IsName path → list_any is_long path ≡ false
no_long_name [] h = refl
no_long_name (n ∷ path) h =
    let short : is_long n ≡ false = let l = h.0.short in grind (arith, nat_tests) in
    rw short (no_long_name path h.1)

pub is_over-path : (path : Path) → IsPath path → is_over path ≡ false
is_over-path path h =
    let short : nat_lt 1024 (length (text_of path)) ≡ false = let l = h.short in grind (arith, nat_tests) in
    rw (no_long_name path h.names, short) refl

pub at_least : (m n : ℕ) → m ≤ n → nat_le m n ≡ true
at_least m n h = grind (arith, nat_tests)

pub less_than : (m n : ℕ) → n < m → nat_le m n ≡ false
less_than m n h = grind (arith, nat_tests)

-- a counter's digits change the last name alone
pub parent_of-numbered : (path : Path) (counter : ℕ) → parent_of (numbered_path path counter) ≡ parent_of path
parent_of-numbered [] counter = refl
parent_of-numbered (n ∷ []) counter = refl
parent_of-numbered (n ∷ m ∷ []) counter = refl
parent_of-numbered (n ∷ m ∷ k ∷ path) counter = ap (λ p. n ∷ p) (parent_of-numbered (m ∷ k ∷ path) counter)

pub numbered-below_root : (path : Path) (counter : ℕ) → path ≢ [] → numbered_path path counter ≢ []
numbered-below_root [] counter below e = below refl
numbered-below_root (n ∷ []) counter below e = cc
numbered-below_root (n ∷ m ∷ path) counter below e = cc

pub parent_of-made : (nodes : Nodes) (kind : Kind) (path : Path) → parent_of (made_path nodes kind path) ≡ parent_of path
parent_of-made nodes kind path = by kind.is_sequential
  where
    by : (b : Bool) → parent_of (if b then numbered_path path (counter_at nodes (parent_of path)) else path) ≡ parent_of path
    by true = parent_of-numbered path (counter_at nodes (parent_of path))
    by false = refl

pub made-below_root : (nodes : Nodes) (kind : Kind) (path : Path) → path ≢ [] → made_path nodes kind path ≢ []
made-below_root nodes kind path below = by kind.is_sequential
  where
    by : (b : Bool) → (if b then numbered_path path (counter_at nodes (parent_of path)) else path) ≢ []
    by true = numbered-below_root path (counter_at nodes (parent_of path)) below
    by false = below

pub not_root : (path : Path) → is_root path ≡ false → path ≢ []
not_root [] h e = cc
not_root (n ∷ path) h e = cc

pub is_root-no_names : (path : Path) → is_root path ≡ (length path == 0)
is_root-no_names [] = refl
is_root-no_names (n ∷ path) = grind (arith, nat_tests)
