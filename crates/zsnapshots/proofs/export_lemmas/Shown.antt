-- What of a node an export is about: its owner, its data and its term; and what changes of a tree do to it.
use Rattle.std.proofs.Common.{◌≡◌, ◌≢◌, ◌⊎◌, inl, inr, ℕ, ◌+◌, ◌≤◌, Bool, true, false, cond, List, Option, Some, None, eqb, refl, sym, ap, ◌∙◌, arith}
use Rattle.std.specs.Prelude.{is_some}
use Rattle.std.specs.Option.{option_map, option_map_or}
use Rattle.std.specs.FinMap as finite
use Rattle.std.proofs.lemmas.Bool.Decides.{nat_tests}
use Rattle.ztree.specs.declared.node.Node.{Node}
use Rattle.ztree.specs.Tree.{Nodes, Path, with_change_at}
use Rattle.ztree.proofs.Maps.{get-insert-elsewhere, get-insert-here, len-insert-there, same_or_other, same_some}
use Rattle.ztree.proofs.Sorted.{paths_total, same_path}
use Rattle.zcalls.specs.Part.{is_owned}
use Rattle.zsnapshots.specs.export.Laws.{Said, said_if, said_of}

abbrev pub Shown : Type 0
Shown = ℕ × Said

abbrev pub shown_of : Node → Shown
shown_of n = (n.owner, said_of n)

abbrev pub shown : Option Node → Option Shown
shown found = option_map shown_of found

-- what is there of it in the tree that the lines make
abbrev pub kept : Option Node → Option Shown
kept None = None
kept (Some n) = cond (is_owned n) None (Some (0, said_of n))

-- the second map has of the first what lines can say
abbrev pub Mirrors : Nodes → Nodes → Type 0
Mirrors nodes made = (q : Path) → shown (finite.get made q) ≡ kept (finite.get nodes q)

-- ---- what is shown

pub not_shown : (o : Option Node) → shown o ≡ None → o ≡ None
not_shown None e = refl
not_shown (Some n) e = cc

pub unowned : (n : Node) → n.owner ≡ 0 → is_owned n ≡ false
unowned n e = rw e refl

pub owner_none : (n : Node) → is_owned n ≡ false → n.owner ≡ 0
owner_none n e = grind (arith, nat_tests)

-- a node that is exported is there, and has no owner
pub kept_there : (o : Option Node) (n : Node) → n.owner ≡ 0 → shown o ≡ kept (Some n) → (m : Node) × (o ≡ Some m)
kept_there None n nobodys e =
    let is : ◌≡◌ {A = Option Shown} None (Some (0, said_of n)) = e ∙ ap (λ b. cond b None (Some (0, said_of n))) (unowned n nobodys) in
    cc
kept_there (Some m) n nobodys e = (m, refl)

-- no node of the second map has an owner
pub made_unowned : (o : Option Node) (found : Option Node) (m : Node) → shown o ≡ kept found → o ≡ Some m → m.owner ≡ 0
made_unowned o None m e is =
    let clash : ◌≡◌ {A = Option Shown} (Some (shown_of m)) None = sym (ap shown is) ∙ e in
    cc
made_unowned o (Some n) m e is = by (is_owned n) (sym (ap shown is) ∙ e)
  where
    by : (b : Bool) → ◌≡◌ {A = Option Shown} (Some (shown_of m)) (cond b None (Some (0, said_of n))) → m.owner ≡ 0
    by true same = cc
    by false same =
        let both : ◌≡◌ {A = Shown} (shown_of m) (0, said_of n) = cc in
        ap (λ (s : Shown). s.0) both

-- so both say the same
pub same_said : (made found : Option Node) → shown made ≡ kept found → said_if made ≡ said_if found
same_said None None e = refl
same_said None (Some n) e = by (is_owned n) e
  where
    by : (b : Bool) → ◌≡◌ {A = Option Shown} None (cond b None (Some (0, said_of n))) → ◌≡◌ {A = Option Said} None (cond b None (Some (said_of n)))
    by true same = refl
    by false same = cc
same_said (Some m) None e = cc
same_said (Some m) (Some n) e = by (is_owned n) e
  where
    by : (b : Bool) → ◌≡◌ {A = Option Shown} (Some (shown_of m)) (cond b None (Some (0, said_of n))) → said_if (Some m)
        ≡ cond b None (Some (said_of n))
    by true same = cc
    by false same =
        let both : ◌≡◌ {A = Shown} (shown_of m) (0, said_of n) = cc in
        let nobodys = ap (λ (s : Shown). s.0) both in
        let said = ap (λ (s : Shown). s.1) both in
        ap (λ b. cond b None (Some (said_of m))) (unowned m nobodys) ∙ ap Some said

-- ---- changes

-- a change that leaves what is shown of a node
abbrev pub Keeps : (Node → Node) → Type 0
Keeps f = (n : Node) → shown_of (f n) ≡ shown_of n

pub shown-changed : (nodes : Nodes) (p : Path) (f : Node → Node) → Keeps f → (q : Path)
    → shown (finite.get (with_change_at nodes p f) q) ≡ shown (finite.get nodes q)
shown-changed nodes p f keeps q = by (finite.get nodes p) refl
  where
    at : (n : Node) → finite.get nodes p ≡ Some n → (q ≡ p) ⊎ (q ≢ p) → shown (finite.get (finite.insert nodes p (f n)) q)
        ≡ shown (finite.get nodes q)
    at n is (inl same) =
        ap (λ k. shown (finite.get (finite.insert nodes p (f n)) k)) same ∙ ap shown (get-insert-here paths_total same_path nodes p (f n))
        ∙ ap Some (keeps n) ∙ sym (ap (λ k. shown (finite.get nodes k)) same ∙ ap shown is)
    at n is (inr other) = ap shown (get-insert-elsewhere paths_total same_path nodes p (f n) q other)

    by : (o : Option Node) → finite.get nodes p ≡ o → shown (finite.get (option_map_or (λ n. finite.insert nodes p (f n)) o nodes) q)
        ≡ shown (finite.get nodes q)
    by None is = refl
    by (Some n) is = at n is (same_or_other paths_total same_path q p)

pub len-changed : (nodes : Nodes) (p : Path) (f : Node → Node) (most : ℕ) → finite.len nodes ≤ most → finite.len (with_change_at nodes p f) ≤ most
len-changed nodes p f most few = by (finite.get nodes p) refl
  where
    by : (o : Option Node) → finite.get nodes p ≡ o → finite.len (option_map_or (λ n. finite.insert nodes p (f n)) o nodes) ≤ most
    by None is = few
    by (Some n) is = len-insert-there paths_total same_path nodes p (f n) n most is few

-- ---- one node more

-- the next node is one that a session owns: the second map stays
pub mirrors_owned : (nodes made : Nodes) (p : Path) (n : Node) → is_owned n ≡ true → finite.get nodes p ≡ None
    → Mirrors nodes made → Mirrors (finite.insert nodes p n) made
mirrors_owned nodes made p n owned free mirrors q = by (same_or_other paths_total same_path q p)
  where
    by : (q ≡ p) ⊎ (q ≢ p) → shown (finite.get made q) ≡ kept (finite.get (finite.insert nodes p n) q)
    by (inl same) =
        mirrors q ∙ ap kept (ap (finite.get nodes) same ∙ free)
        ∙ sym (ap kept (ap (finite.get (finite.insert nodes p n)) same ∙ get-insert-here paths_total same_path nodes p n)
        ∙ ap (λ b. cond b None (Some (0, said_of n))) owned)
    by (inr other) = mirrors q ∙ sym (ap kept (get-insert-elsewhere paths_total same_path nodes p n q other))

-- the next node has no owner: the second map has one of which the same is shown
pub mirrors_more : (nodes made : Nodes) (p : Path) (n m : Node) → is_owned n ≡ false → shown_of m ≡ (0, said_of n)
    → Mirrors nodes made → Mirrors (finite.insert nodes p n) (finite.insert made p m)
mirrors_more nodes made p n m nobodys same_node mirrors q = by (same_or_other paths_total same_path q p)
  where
    by : (q ≡ p) ⊎ (q ≢ p) → shown (finite.get (finite.insert made p m) q) ≡ kept (finite.get (finite.insert nodes p n) q)
    by (inl same) =
        ap shown (ap (finite.get (finite.insert made p m)) same ∙ get-insert-here paths_total same_path made p m) ∙ ap Some same_node
        ∙ sym (ap kept (ap (finite.get (finite.insert nodes p n)) same ∙ get-insert-here paths_total same_path nodes p n)
        ∙ ap (λ b. cond b None (Some (0, said_of n))) nobodys)
    by (inr other) =
        ap shown (get-insert-elsewhere paths_total same_path made p m q other) ∙ mirrors q
        ∙ sym (ap kept (get-insert-elsewhere paths_total same_path nodes p n q other))
