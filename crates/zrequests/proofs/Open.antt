-- The open ACL, as a list of at least one entry.
use Rattle.std.proofs.Common.{◌≡◌, Bool, false, eqb, List, [], ◌∷◌, length, Some, refl, sym, ◌∙◌}
use Rattle.std.specs.List.{list_all}
use mathlib.Core.Bool.{true≢false}
use Rattle.zjute.specs.declared.acl.Acl.{Acl}
use Rattle.zrequests.specs.Asking.{has_open_acl, is_open}

-- where there is an entry, each is to be open
pub open_list : (acls : List Acl) (none : Bool) → none ≡ eqb (length acls) 0 → none ≡ false → list_all is_open acls ≡ has_open_acl (Some acls)
open_list [] none is some = absurd (true≢false (sym is ∙ some))
open_list (acl ∷ acls) none is some = refl
