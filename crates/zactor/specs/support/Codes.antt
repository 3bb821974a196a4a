-- How the standing of a process is stored.
use mathlib.Core.Logic.{inl, inr}
use Rattle.std.specs.Prelude.{◌≡◌, ◌⊎◌, refl}
use Rattle.std.specs.Coded.{Coded, code_by, coded⊎}
use base.Stored.{coded_unit}
use Rattle.zprotocol.specs.client.View.{ClientView}
use Rattle.zprotocol.specs.master.View.{MasterView}
use Rattle.zclient.specs.contracts.client_core.ClientCore as client
use Rattle.zmaster.specs.contracts.master.Master as master
use Rattle.zserver.specs.support.Codes.{coded_view}
use Rattle.zserver.specs.Server.{TreeView}
use Rattle.zprotocol.specs.world.Does.{AtMaster, AtServer, AtClient, Out}
use Rattle.zactor.specs.Acting.{TreeStanding}

-- the one view that it is
abbrev Views : Type 0
Views = MasterView ⊎ (TreeView ⊎ (ClientView ⊎ Unit {0}))

abbrev split : TreeStanding → Views
split (AtMaster v) = inl v
split (AtServer v) = inr (inl v)
split (AtClient v) = inr (inr (inl v))
split Out = inr (inr (inr tt))

abbrev join : Views → TreeStanding
join (inl v) = AtMaster v
join (inr (inl v)) = AtServer v
join (inr (inr (inl v))) = AtClient v
join (inr (inr (inr none))) = Out

pub join-split : (standing : TreeStanding) → join (split standing) ≡ standing
join-split (AtMaster v) = refl
join-split (AtServer v) = refl
join-split (AtClient v) = refl
join-split Out = refl

-- how the standing of a process is stored
abbrev pub coded_standing : Coded TreeStanding
coded_standing =
    code_by Views (coded⊎ master.the_row.coded (coded⊎ coded_view (coded⊎ client.the_row.coded coded_unit))) split join join-split
