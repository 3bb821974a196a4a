-- What the worked rows of the entry step speak of: a plain step that counts, and some entries.
use Rattle.std.specs.Prelude.{ℕ, ◌+◌, Option, Some, []}
use Rattle.std.specs.FinMap.{insert}
use Rattle.zcalls.specs.declared.call.Entry.{Entry}
use Rattle.zcalls.specs.declared.call.Expected.TheVariants.{Any}
use Rattle.zcalls.specs.declared.call.Lifetime.TheVariants.{Persistent}
use Rattle.zcalls.specs.Part.{sequential}
use Rattle.zcalls.specs.declared.call.Update.TheVariants.{Create, Delete}
use Rattle.zcalls.specs.declared.refusal.Refusal.TheVariants.{NoNode}
use Rattle.zcalls.specs.declared.reply.Reply.{Reply}
use Rattle.zcalls.specs.declared.reply.Reply.TheVariants as reply
use Rattle.zcalls.specs.Cached.{CachedState, PlainStep, nothing_cached, entry_step}

-- a reply with a number
abbrev pub number_reply : ℕ → Reply
number_reply n = reply.MultiRefused n NoNode

-- a plain step that counts: a create is answered with how many there were, itself among them; all else is refused
abbrev pub counting : PlainStep ℕ
counting n client (Create create) = (n + 1, number_reply (n + 1))
counting n client other = (n, reply.Refused NoNode)

-- what is answered to the create of this number, and to what is refused
abbrev pub reported : ℕ → Option Reply
reported n = Some (number_reply n)

abbrev pub reported_no : Option Reply
reported_no = Some (reply.Refused NoNode)

-- a client's create of this number
abbrev pub creates : ℕ → ℕ → Entry
creates client number = record { client = client; number = number; update = Create (record { path = []; kind = sequential Persistent; bytes = [] }) }

-- a client's delete of this number
abbrev pub deletes : ℕ → ℕ → Entry
deletes client number = record { client = client; number = number; update = Delete (record { path = []; version = Any }) }

-- the state of that many creates where this reply is cached for a client's call too
abbrev pub keeping : CachedState ℕ → ℕ → ℕ → ℕ → Reply → CachedState ℕ
keeping s creates client number reply = record { plain = creates; kept = insert s.kept client (record { number = number; reply = reply }) }

-- what the counting step does at one entry
abbrev pub after : CachedState ℕ → Entry → CachedState ℕ × Option Reply
after s e = entry_step counting s e

-- seven creates, and no reply is cached; a client's call 3 acted last, as the seventh create; and
-- this call of a client acted then, as the eighth
abbrev pub seven : CachedState ℕ
seven = nothing_cached 7

abbrev pub third_kept : CachedState ℕ
third_kept = keeping seven 7 1 3 (number_reply 7)

abbrev pub with_eighth : CachedState ℕ → ℕ → ℕ → CachedState ℕ
with_eighth s client number = keeping s 8 client number (number_reply 8)

-- one create, and no reply is cached; a client's call 1 acted then, as the second create; and its
-- call 2 was refused
abbrev pub one : CachedState ℕ
one = nothing_cached 1

abbrev pub created : CachedState ℕ
created = keeping one 2 1 1 (number_reply 2)

abbrev pub refused : CachedState ℕ
refused = keeping created 2 1 2 (reply.Refused NoNode)
