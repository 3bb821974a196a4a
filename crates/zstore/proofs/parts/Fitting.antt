-- What is found of all sessions: that the tree fits within limits, and is lawful within them.
use Rattle.std.proofs.Common.{◌≡◌, ℕ, ◌≤◌, cond, List, [], ◌∷◌, Some, refl, sym, subst, ◌∙◌}
use Rattle.std.specs.declared.cmp.Ordering.{Ordering}
use Rattle.std.specs.declared.cmp.Ordering.TheVariants.{Less, Equal, Greater}
use Rattle.std.specs.Ordering.{is_eq, nat_cmp}
use Rattle.std.specs.List.{AllByRecursion}
use Rattle.std.specs.Map.{keys_of}
use Rattle.std.specs.FinMap.{find, keys, entries, get-entries, nat_cmp-IsAntisymmetric}
use Rattle.ztree.specs.declared.limits.TreeLimits.{TreeLimits}
use Rattle.ztree.specs.Tree.{Tree, Sessions}
use Rattle.ztree.specs.Lawful.{AllSessions, IsLawful}
use Rattle.ztree.proofs.Maps.{none_some}
use Rattle.zstore.specs.Restored.{FitsWithin, with_limits}
use Rattle.zstore.specs.support.Timeouts.{HasTimeoutWithin}

-- what holds of all keys holds of one that is found
all_found : {X : Type 0} (P : ℕ → Type 0) (es : List (ℕ × X)) → AllByRecursion P (keys_of es) → (id : ℕ) (x : X) → find nat_cmp id es ≡ Some x → P id
all_found P [] all id x found = absurd (none_some x found)
all_found P (e ∷ es) all id x found = by (nat_cmp id e.0) refl (all_found P es all.1 id x) found
  where
    by : (r : Ordering) → nat_cmp id e.0 ≡ r → (find nat_cmp id es ≡ Some x → P id) → cond (is_eq r) (Some e.1) (find nat_cmp id es) ≡ Some x → P id
    by Less is further e = further e
    by Greater is further e = further e
    by Equal is further e = subst P (sym (nat_cmp-IsAntisymmetric id _ is)) all.0

-- where each session's timeout is within the limit, all are
pub all_within : (sessions : Sessions) (most : ℕ) → AllByRecursion (HasTimeoutWithin sessions most) (keys sessions) → AllSessions (λ id s. s.timeout ≤ most) sessions
all_within sessions most all id s found =
    all_found (HasTimeoutWithin sessions most) (entries sessions) all id s (sym (get-entries sessions id) ∙ found) s found

-- a lawful tree within other limits
pub lawful_within : (t : Tree) (limits : TreeLimits) → IsLawful t → FitsWithin t limits → IsLawful (with_limits t limits)
lawful_within t limits lawful fits =
    record {
      root = lawful.root;
      root_stays = lawful.root_stays;
      parents = lawful.parents;
      owners = lawful.owners;
      ends = lawful.ends;
      ids = lawful.ids;
      deadlines = lawful.deadlines;
      few_nodes = fits.nodes;
      few_sessions = fits.sessions;
      allowed = fits.allowed;
    }
