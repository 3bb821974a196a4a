-- What a contract sees of a `Slots`.
use Rattle.std.specs.Prelude.{◌≡◌, ◌<◌, ◌≤◌, ◌+◌, ℕ, None, IsSome, refl}
use Rattle.std.specs.Coded.{Coded, code_by, coded×, coded_ℕ}
use Rattle.std.specs.FinMap as finite
use Rattle.std.specs.FinMap.{FinMap, get, insert}
use Rattle.zslots.specs.declared.limits.TheConstants.{MAX_SLOTS}
use Rattle.zslots.specs.declared.id.Id.{Id}
use Rattle.zslots.specs.Generations.{generation_number}
use Rattle.zslots.specs.Ids.{id_cmp, coded_id}

-- items by Id
abbrev pub Items : Type 0 → Type 0
Items T = FinMap id_cmp T

-- the items, the number of Ids given out, and how many more items fit without allocating
pub record SlotsView (T : Type 0) : Type 0 where
  pub items : Items T
  pub given : ℕ
  pub room : ℕ

-- how the view is encoded
abbrev pub coded_view : {T : Type 0} → Coded T → Coded (SlotsView T)
coded_view {T} code =
    code_by (Items T × (ℕ × ℕ)) (coded× (finite.code coded_id code) (coded× coded_ℕ coded_ℕ))
    (λ s. (s.items, (s.given, s.room)))
    (λ p. record { items = p.0; given = p.1.0; room = p.1.1 }) (λ _. refl)

module _ {T : Type 0} where
  -- no items, and no Id given out
  abbrev pub empty_slots : SlotsView T
  empty_slots = record { items = finite.empty; given = 0; room = 0 }

  -- the Id was never given out before, and names nothing
  abbrev pub IsNew : SlotsView T → Id → Type 0
  IsNew s id = (generation_number id.generation ≡ s.given) × (get s.items id ≡ None)

  -- there are enough indexes for every item that fits without allocating
  abbrev pub HasIndexes : SlotsView T → Type 0
  HasIndexes s = finite.len s.items + s.room ≤ MAX_SLOTS

  -- each Id that names an item has been given out
  abbrev pub NamesGivenIds : SlotsView T → Type 0
  NamesGivenIds s = (id : Id) → IsSome (get s.items id) → generation_number id.generation < s.given

  -- the view with other items
  abbrev pub with_items : SlotsView T → Items T → SlotsView T
  with_items s m = record s { items = m }

  -- the view with this item under the Id
  abbrev pub with_item : SlotsView T → Id → T → SlotsView T
  with_item s id item = with_items s (insert s.items id item)
