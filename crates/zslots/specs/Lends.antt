-- The value of a `Slots` after a returned `&mut` to one of its items ends.
use Rattle.std.specs.Prelude.{Option}
use Rattle.std.specs.Borrow.{Lends, LendsIf, Fml, RattleType, MutBor}
use Rattle.zslots.specs.declared.id.Id.{Id}
use Rattle.zslots.specs.SlotsView.{SlotsView, with_item}
use Rattle.zslots.specs.contracts.slots.Slots.{the_row}

module _ (T : RattleType) (s : MutBor (SlotsView T.Denot)) (id : Id) where
  -- when the borrow r ends, the Id names the last value written through r
  abbrev pub lends_item : MutBor T.Denot → Fml
  lends_item r = Lends (the_row T) T s r (with_item s.now id)

  -- the same where r is a reference; for `None` nothing changes
  abbrev pub lends_get : Option (MutBor T.Denot) → Fml
  lends_get r = LendsIf (the_row T) T s r (with_item s.now id) s.now
