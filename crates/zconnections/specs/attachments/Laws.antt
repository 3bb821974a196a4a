-- Laws of all attachments. The functions of `src/laws.rt` promise them.
use Rattle.std.specs.Prelude.{◌≡◌, ℕ, option_map}
use Rattle.std.specs.FinMap.{get}
use Rattle.zconnections.specs.attachments.Attachments.{AttachmentsView, all_rested, rested}

-- `rest` leaves each session attached as it was; what was requested since the last is before it
abbrev pub EachRests : Type 0
EachRests = (m : AttachmentsView) (id : ℕ) → get (all_rested m) id ≡ option_map rested (get m id)
