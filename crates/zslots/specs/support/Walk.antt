-- The Ids of a list, computed: what a view may show where a list is part of it.
use Rattle.std.specs.Prelude.{◌≡◌, ℕ, zero, suc, [], ◌∷◌, ◌++◌, Option, Some, None}
use Rattle.zslots.specs.declared.id.Id.{Id}
use Rattle.zslots.specs.declared.linked.Links.{Links}
use Rattle.zslots.specs.Ids.{Ids, first_of}
use Rattle.zslots.specs.SlotsView.{Items}
use Rattle.zslots.specs.Links.{links_at}
use Rattle.zslots.specs.declared.list.List.{List as IdList}
use Rattle.zslots.specs.Lists.{IsList}

-- that many Ids, each the next of the one before
abbrev pub walk : {T : Type 0} → (T → Links) → ℕ → Items T → Option Id → Ids
walk links zero m first = []
walk links (suc n) m None = []
walk links (suc n) m (Some id) = id ∷ walk links n m (links_at links m id).next

-- a walk along the list has passed these Ids, and is at this one or at the end
pub record IsWalk {L : ℕ} {T : Type 0} (links : T → Links) (m : Items T) (list : IdList L)
    (passed : Ids) (at : Option Id) : Type 0 where
  pub whole : IsList links m list (passed ++ walk links list.len m at)
  pub place : at ≡ first_of (walk links list.len m at)
