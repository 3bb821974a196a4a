-- Logs for the worked examples.
use Rattle.std.specs.Prelude.{ℕ, List, [], ◌∷◌, None}
use Rattle.zmaster_log.specs.declared.entry.LogEntry.{LogEntry}
use Rattle.zmaster_log.specs.declared.entry.LogEntry.TheVariants as log
use Rattle.zmaster_log.specs.declared.entry.News.{News}
use Rattle.zmaster_log.specs.declared.entry.News.TheVariants as news
use Rattle.zmaster_log.specs.Log.{MembershipView, Played, opened, plays}

-- the nodes a, b and c
abbrev pub a : List ℕ
a = 97 ∷ []

abbrev pub b : List ℕ
b = 98 ∷ []

abbrev pub c : List ℕ
c = 99 ∷ []

-- what an entry does, where snapshots have no state
abbrev pub did : MembershipView → LogEntry → Played (Unit {0})
did m entry = plays m entry

-- a report of a server, which has appended this many before
abbrev pub says : ℕ → ℕ → News → LogEntry
says author earlier report = log.Reported (record { author = author; earlier = earlier; news = report })

-- servers 1 and 2, on a and b
abbrev pub two : MembershipView
two = opened (a ∷ b ∷ [])

-- server 3 joins on c
abbrev pub growing : MembershipView
growing = (did two (log.Join 3 c)).0

-- it has reported that it has no state, and then that it has received it
abbrev pub asked : MembershipView
asked = (did growing (says 3 0 (news.Have 1 None))).0

abbrev pub three : MembershipView
three = (did asked (says 3 1 (news.Joined 1))).0

-- server 2 has reported that server 1 is gone
abbrev pub without_1 : MembershipView
without_1 = (did three (says 2 0 (news.Gone 1))).0
