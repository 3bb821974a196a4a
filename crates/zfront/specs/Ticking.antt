-- The effect of a tick: sessions that sent a request since the last tick but one are renewed, then
-- time advances. The source is the ZooKeeper Programmer's Guide, "ZooKeeper Sessions".
use Rattle.std.specs.Prelude.{◌≡◌, ℕ, List, [], ◌∷◌, ◌++◌, map}
use Rattle.zcalls.specs.declared.call.Call.{Call}
use Rattle.zcalls.specs.declared.call.Call.TheVariants.{Update}
use Rattle.zcalls.specs.declared.call.Update.TheVariants.{Ping, Tick}
use Rattle.zconnections.specs.attachments.Attachments.{all_rested, touched_ids}
use Rattle.zfront.specs.Front.{FrontView, with_tables, asked, tidied_of}

-- the call that renews a session
abbrev pub ping : ℕ → Call
ping session = Update (Ping session)

-- the calls of a tick
abbrev pub tick_calls : List ℕ → List Call
tick_calls sessions = map ping sessions ++ Update Tick ∷ []

-- for each session, a request since the last tick is one before it
abbrev pub rested : FrontView → FrontView
rested v = with_tables (record v.tables { attachments = all_rested v.tables.attachments }) v

-- a tick that makes these calls
abbrev pub TicksBy : List Call → FrontView → FrontView → Type 0
TicksBy calls old new = new ≡ tidied_of calls old (rested (asked calls old))

-- a tick
abbrev pub Ticks : FrontView → FrontView → Type 0
Ticks old new = TicksBy (tick_calls (touched_ids old.tables.attachments)) old new
