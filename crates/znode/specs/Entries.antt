-- What an entry of the log does to a node, and which entry the node wants to be the next one.
use Rattle.std.specs.Prelude.{◌≡◌, ℕ, ◌==◌, Bool, true, false, not, ◌&&◌, is_none, nat_le, if◌then◌else◌, List, [], ◌∷◌, Option, None, Some, Ok, drop}
use Rattle.std.specs.Str.{bytes_eq}
use Rattle.zcodec.specs.Readers.{whole}
use Rattle.zprotocol.specs.declared.process.Process.TheVariants.{Master}
use Rattle.zprotocol.specs.declared.master.order.Order.TheVariants as order
use Rattle.zprotocol.specs.Places.{is_server}
use Rattle.zprotocol.specs.server.Machine.{cached_tree}
use Rattle.zprotocol.specs.server.View.{opening_server}
use Rattle.zprotocol.specs.world.Does.{AtServer}
use Rattle.zserver.specs.Server.{TreeMessage}
use Rattle.zmaster_log.specs.declared.limits.TheConstants.{MAX_ENTRIES}
use Rattle.zmaster_log.specs.declared.entry.LogEntry.{LogEntry}
use Rattle.zmaster_log.specs.declared.entry.LogEntry.TheVariants as log
use Rattle.zmaster_log.specs.declared.entry.News.{News}
use Rattle.zmaster_log.specs.declared.entry.News.TheVariants as news
use Rattle.zmaster_log.specs.Bytes.{entry}
use Rattle.zmaster_log.specs.Log.{State, after_entry, entry_played, fault_of, has_live, next_of, order_for, reports_of}
use Rattle.zpeers.specs.Records.{TreeTransfer}
use Rattle.znode.specs.Node.{NodeView, SeatView}
use Rattle.znode.specs.Server.{HearsAny}

-- ---- an entry of the log

-- the node has asked for these bytes to be appended as the next entry
abbrev pub has_asked : Option (List ℕ) → List ℕ → Bool
has_asked None bytes = false
has_asked (Some asked) bytes = bytes_eq asked bytes

-- The number of the node's server, once the entry that the node asked for is in the log. It gets
-- one by the first such entry.
abbrev pub own_by : Option ℕ → LogEntry → Option ℕ
own_by (Some s) e = Some s
own_by None (log.Opening names) = Some 1
own_by None (log.Join s name) = Some s
own_by None (log.Retire s) = None
own_by None (log.Reported r) = None

-- The server then. By an opening it is the only one of a chain, and by a join one without state.
-- Each later entry that the node asked for is the first of its reports.
abbrev pub seat_by : Option ℕ → LogEntry → SeatView → SeatView
seat_by (Some s) e seat = record seat { reports = drop 1 seat.reports }
seat_by None (log.Opening names) seat =
    record seat { standing = AtServer (opening_server cached_tree 1 1); has_state = true }
seat_by None (log.Join s name) seat = seat
seat_by None (log.Retire s) seat = seat
seat_by None (log.Reported r) seat = seat

-- the number and the server just before an entry is played
abbrev pub own_at : NodeView → List ℕ → LogEntry → Option ℕ
own_at v bytes e = if has_asked v.asked bytes then own_by v.replica.own e else v.replica.own

abbrev pub seat_at : NodeView → List ℕ → LogEntry → SeatView
seat_at v bytes e = if has_asked v.asked bytes then seat_by v.replica.own e v.seat else v.seat

-- a report that a server is gone which isn't live by the log: it would be skipped
abbrev pub is_idle : State → News → Bool
is_idle state (news.Have epoch last) = false
is_idle state (news.Joined epoch) = false
is_idle state (news.Gone s) = not (has_live state s)

-- the reports without the first ones, as long as these are idle
abbrev pub without_idle : State → List News → List News
without_idle state [] = []
without_idle state (n ∷ reports) = if is_idle state n then without_idle state reports else n ∷ reports

-- the order of an entry for the node's server, which the server handles if there is one
abbrev pub HearsOrder : Option ℕ → Option TreeMessage → SeatView → SeatView → Type 0
HearsOrder None o old new = new ≡ old
HearsOrder (Some s) o old new = HearsAny s Master o old new

-- The node plays the entry: the replica does, and the server handles the order that it has for it.
-- If the node had asked for this entry, it is its own.
pub record Plays (v : NodeView) (index : ℕ) (bytes : List ℕ) (w : NodeView) : Type 0 where
  pub it : LogEntry
  pub read : whole entry bytes ≡ Ok it
  pub next : index ≡ v.replica.played
  pub replica : w.replica ≡ after_entry (record v.replica { own = own_at v bytes it }) (entry_played {T = TreeTransfer} v.replica.state it).0
  pub middle : SeatView
  pub order : HearsOrder (own_at v bytes it) (order_for (own_at v bytes it) (entry_played v.replica.state it).1)
      (seat_at v bytes it) middle
  pub seat : w.seat ≡ record middle { reports = without_idle w.replica.state middle.reports }
  pub rest : w ≡ record v { replica = w.replica; seat = w.seat; asked = None; is_at_end = false }

-- ---- the entry that the node wants

-- it opens the log, if the log is empty and the node may open it
abbrev pub wanted_opening : NodeView → Option LogEntry
wanted_opening v =
    if v.opens && v.replica.played == 0 then Some (log.Opening (v.name ∷ [])) else None

-- or the next server joins on this node, if the master allows it
abbrev pub wanted_join : NodeView → ℕ → Option LogEntry
wanted_join v s =
    if is_none (fault_of v.replica.state (order.Join s)) then Some (log.Join s v.name) else None

abbrev pub wanted_number : NodeView → Option LogEntry
wanted_number v =
    let s = next_of v.replica.state in
    if is_server s then wanted_join v s else wanted_opening v

abbrev pub first_of : List News → Option News
first_of [] = None
first_of (n ∷ reports) = Some n

-- its first report, under the number of those that are in the log
abbrev pub wanted_report : State → ℕ → Option News → Option LogEntry
wanted_report state s None = None
wanted_report state s (Some n) =
    let earlier = reports_of state s in
    if nat_le earlier MAX_ENTRIES
    then Some (log.Reported (record { author = s; earlier = earlier; news = n }))
    else None

-- the entry that the node wants as the next one
abbrev pub wanted_by : Option ℕ → NodeView → Option LogEntry
wanted_by None v = wanted_number v
wanted_by (Some s) v = wanted_report v.replica.state s (first_of v.seat.reports)

abbrev pub wanted : NodeView → Option LogEntry
wanted v = wanted_by v.replica.own v
