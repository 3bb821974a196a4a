-- Lists that are gone through side by side end with the shorter one.
use Rattle.std.proofs.Common.{◌≡◌, ℕ, ◌≤◌, Bool, true, false, List, [], ◌∷◌, length, drop, refl, inl, inr, arith, ℤ}
use Rattle.std.specs.Prelude.{◌⊎◌, min, nat_le}
use Rattle.std.proofs.lemmas.Bool.Decides.{nat_tests}
use Rattle.std.proofs.lemmas.List.{drop_all}
use Rattle.ztree.specs.Tree.{Path}
use Rattle.zcalls.specs.declared.call.Call.{Call}
use Rattle.zcalls.specs.declared.reply.Reply.{Reply}
use Rattle.zwatches.specs.declared.kind.Kind.{Kind}
use Rattle.zresponses.specs.effects.Wishes.{wishes_again}
use Rattle.zresponses.specs.effects.Looking.{seen}
use Rattle.zresponses.specs.effects.Replying.{absorbed_all}
use Rattle.zconnections.specs.Tables.{TablesView}

-- after the end of the shorter list, one of them has ended
pub one_ended : {A B : Type 0} (xs : List A) (ys : List B) (i : ℕ) → min (length xs) (length ys) ≤ i → (drop i xs ≡ []) ⊎ (drop i ys ≡ [])
one_ended {A} {B} xs ys i end = by (nat_le (length xs) i) refl
  where
    by : (test : Bool) → nat_le (length xs) i ≡ test → (drop i xs ≡ []) ⊎ (drop i ys ≡ [])
    by true e = let all : length xs ≤ i = grind (arith, nat_tests) in inl (drop_all i xs all)
    by false e = let all : length ys ≤ i = grind (arith, nat_tests) in inr (drop_all i ys all)

no_replies_again : (kind : Kind) (seen : ℤ) (calls : List Call) → wishes_again kind seen calls [] ≡ []
no_replies_again kind seen [] = refl
no_replies_again kind seen (call ∷ calls) = refl

-- no watches are set again after the last call or reply
pub none_again : (kind : Kind) (seen : ℤ) (calls : List Call) (replies : List Reply) (i : ℕ) → min (length calls) (length replies) ≤ i
    → wishes_again kind seen (drop i calls) (drop i replies) ≡ []
none_again kind seen calls replies i end =
    elim (one_ended calls replies i end) [
      | inl e ↦ rw e refl
      | inr e ↦ rw e (no_replies_again kind seen (drop i calls))
    ]

no_replies_seen : (zxid : ℕ) (paths : List Path) → seen zxid paths [] ≡ []
no_replies_seen zxid [] = refl
no_replies_seen zxid (path ∷ paths) = refl

-- nothing is seen after the last path or reply
pub none_seen : (zxid : ℕ) (paths : List Path) (replies : List Reply) (i : ℕ) → min (length paths) (length replies) ≤ i
    → seen zxid (drop i paths) (drop i replies) ≡ []
none_seen zxid paths replies i end =
    elim (one_ended paths replies i end) [
      | inl e ↦ rw e refl
      | inr e ↦ rw e (no_replies_seen zxid (drop i paths))
    ]

no_replies_absorbed : (calls : List Call) (t : TablesView) → absorbed_all calls [] t ≡ t
no_replies_absorbed [] t = refl
no_replies_absorbed (call ∷ calls) t = refl

-- no call was answered after the last call or reply
pub none_absorbed : (calls : List Call) (replies : List Reply) (t : TablesView) (i : ℕ) → min (length calls) (length replies) ≤ i
    → absorbed_all (drop i calls) (drop i replies) t ≡ t
none_absorbed calls replies t i end =
    elim (one_ended calls replies i end) [
      | inl e ↦ rw e refl
      | inr e ↦ rw e (no_replies_absorbed (drop i calls) t)
    ]
