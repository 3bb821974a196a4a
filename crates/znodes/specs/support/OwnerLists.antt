-- The lists of the owners, by the owners' numbers.
use Rattle.std.specs.Prelude.{ℕ, Option, None, Some, if◌then◌else◌, ◌==◌, refl}
use Rattle.std.specs.Coded.{Coded, code_by, coded×, coded_ℕ, coded_option}
use Rattle.std.specs.Option.{option_and_then}
use Rattle.std.specs.Ordering.{nat_cmp}
use Rattle.std.specs.FinMap as finite
use Rattle.std.specs.FinMap.{FinMap, get}
use Rattle.zslots.specs.declared.id.Id.{Id}
use Rattle.zslots.specs.declared.list.List.{List as IdList}
use Rattle.zslots.specs.Ids.{coded_id}

-- the lists of the owners
abbrev pub OwnerLists : Type 0
OwnerLists = FinMap nat_cmp (IdList 1)

-- who owns a node, if anyone does
abbrev pub somebody : ℕ → Option ℕ
somebody owner = if owner == 0 then None else Some owner

-- an owner's list; there is none for no owner
abbrev pub list_of : OwnerLists → ℕ → Option (IdList 1)
list_of owners owner = option_and_then (get owners) (somebody owner)

-- how a list's own two fields are stored
abbrev coded_head : Coded (IdList 1)
coded_head =
    code_by (Option Id × ℕ) (coded× (coded_option coded_id) coded_ℕ)
    (λ l. (l.first, l.len)) (λ p. record { first = p.0; len = p.1 }) (λ _. refl)

-- how they are stored
abbrev pub coded_owners : Coded OwnerLists
coded_owners = finite.code coded_ℕ coded_head
