-- What a client names, as the tree has it: zxids without the base of those that it was told, and no
-- watches of the service's own nodes, which never fire. The source is `SetWatches` of
-- zookeeper.jute; the base is this project's profile.
use Rattle.std.specs.Prelude.{ℕ, ℤ, ◌-ℤ◌, not, List}
use Rattle.std.specs.List.{filter}
use Rattle.std.specs.Int.{w64, saturate_signed}
use Rattle.zjute.specs.declared.request.Asked.{Asked}
use Rattle.zjute.specs.declared.request.Asked.TheVariants as asked
use Rattle.zjute.specs.declared.request.Request.{Request}
use Rattle.zjute.specs.declared.request.SetWatches.{SetWatches}
use Rattle.zresponses.specs.Own.{is_own}
use Rattle.zresponses.specs.Stats.{long_of}

-- a zxid that a client names, without this base; as far as 64 bits go
abbrev pub named : ℕ → ℤ → ℤ
named base zxid = saturate_signed w64 (zxid -ℤ long_of base)

-- the paths that aren't of the service's own
abbrev pub others : List (List ℕ) → List (List ℕ)
others paths = filter (λ path. not (is_own path)) paths

-- re-registered watches, with the zxid that the client has seen
abbrev pub set_named : ℕ → SetWatches → SetWatches
set_named base set = record {
  relative_zxid = named base set.relative_zxid;
  data_watches = others set.data_watches;
  exist_watches = others set.exist_watches;
  child_watches = others set.child_watches;
}

-- only they name a zxid, or have watches that were set by a read
abbrev pub asked_named : ℕ → Asked → Asked
asked_named base (asked.SetWatches set) = asked.SetWatches (set_named base set)
asked_named base (asked.SetWatches2 all) = asked.SetWatches2 (record all { watches = set_named base all.watches })
asked_named base other = other

-- the same of a request
abbrev pub request_named : ℕ → Request → Request
request_named base r = record r { asked = asked_named base r.asked }
