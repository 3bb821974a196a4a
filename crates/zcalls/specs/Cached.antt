-- The entry step: an update acts once, however often its client sends it, since the last reply to
-- each client is cached. It works over any sequential state and step, and knows nothing of trees.
-- The source is van Renesse and Schneider, "Chain Replication for Supporting High Throughput and
-- Availability" (OSDI 2004), section 2. There, a client can't distinguish a lost request from a
-- lost reply, and sends the request again. Numbering a client's calls from 1 on, and caching one
-- reply per client, are this project's profile.
use Rattle.std.specs.Prelude.{ℕ, List, [], ◌∷◌, Option, None, Some, if◌then◌else◌, nat_lt, ◌==◌}
use Rattle.std.specs.Ordering.{nat_cmp}
use Rattle.std.specs.FinMap as finite
use Rattle.std.specs.FinMap.{FinMap, get, insert}
use Rattle.zcalls.specs.declared.call.Entry.{Entry}
use Rattle.zcalls.specs.declared.call.Update.{Update}
use Rattle.zcalls.specs.declared.call.Query.{Query}
use Rattle.zcalls.specs.declared.reply.Reply.{Reply}

-- a cached reply, with the number of the client's last call that acted
pub record Cached : Type 0 where
  pub number : ℕ
  pub reply : Reply

-- a sequential state, with the cached reply of each client that has one
pub record CachedState (P : Type 0) : Type 0 where
  pub plain : P
  pub kept : FinMap nat_cmp Cached

-- what a client's update does to a sequential state, and its reply
abbrev pub PlainStep : Type 0 → Type 0
PlainStep P = P → ℕ → Update → P × Reply

-- a sequential service: its initial state, the effect and reply of an update of a client, and the
-- reply to a query
pub record Plain (P : Type 0) : Type 0 where
  pub opening : P
  pub update : PlainStep P
  pub ask : P → Query → Reply

-- a sequential state without cached replies
abbrev pub nothing_cached : {P : Type 0} → P → CachedState P
nothing_cached p = record { plain = p; kept = finite.empty }

-- the number of a client's last call that acted, or 0 if none did
abbrev pub last_of : Option Cached → ℕ
last_of None = 0
last_of (Some kept) = kept.number

-- the cached reply, if it belongs to the call of this number
abbrev pub cached_reply : ℕ → Option Cached → Option Reply
cached_reply number None = None
cached_reply number (Some kept) = if number == kept.number then Some kept.reply else None

-- an entry that acts: the sequential step does its update, and its number and reply are cached
abbrev pub act_result : {P : Type 0} → PlainStep P → CachedState P → Entry → CachedState P × Option Reply
act_result step s entry =
    let did = step s.plain entry.client entry.update in
    (record { plain = did.0; kept = insert s.kept entry.client (record { number = entry.number; reply = did.1 }) }, Some did.1)

-- An entry, given what is cached for its client. A number above the client's last one acts. A
-- repeated number returns the cached reply; any other returns nothing. What doesn't act changes
-- nothing.
abbrev pub entry_by : {P : Type 0} → PlainStep P → CachedState P → Entry → Option Cached → CachedState P × Option Reply
entry_by step s entry kept =
    if nat_lt (last_of kept) entry.number then act_result step s entry else (s, cached_reply entry.number kept)

-- the entry step
unfoldable pub entry_step : {P : Type 0} → PlainStep P → CachedState P → Entry → CachedState P × Option Reply
entry_step step s entry = entry_by step s entry (get s.kept entry.client)

-- the state after these entries, one after the other, each by this step
abbrev pub after_entries : {S : Type 0} → (S → Entry → S × Option Reply) → S → List Entry → S
after_entries apply s [] = s
after_entries apply s (entry ∷ entries) = after_entries apply (apply s entry).0 entries
