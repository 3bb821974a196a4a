use Rattle.std.proofs.Common.{sym, ap, ◌∙◌}
use Rattle.std.specs.FinMap as finite
use Rattle.zslots.proofs.Items.{len-entries_from}
use Rattle.zslots.proofs.slots.Slots.len.Goals as goal

pub returns : goal.returns
returns g c = c.len.ensures ∙ sym (len-entries_from 0 c.self.inside.slab.slots) ∙ ap (λ h. finite.len h.items) c.self.view_is
