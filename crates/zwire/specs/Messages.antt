-- Forms of messages: a tag for each kind, and then its fields in order.
use Rattle.std.specs.Prelude.{ℕ, List, Option, Result}
use Rattle.std.specs.Int.{w8}
use Rattle.zcodec.specs.declared.fault.Fault.{Fault}
use Rattle.zcodec.specs.Forms.{Form, number, both, empty}
use Rattle.zcodec.specs.Choices.{option}
use Rattle.zjute.specs.Shapes.{Spelled, behind, read_as, by_tag, fields}
use Rattle.zcalls.specs.declared.call.Entry.{Entry}
use Rattle.zcalls.specs.declared.call.Query.{Query}
use Rattle.zcalls.specs.declared.call.Update.{Update}
use Rattle.zcalls.specs.declared.reply.Reply.{Reply}
use Rattle.zprotocol.specs.declared.message.Message.{Message}
use Rattle.zprotocol.specs.declared.message.Message.TheVariants as message
use Rattle.zwire.specs.records.Sums.{at_tag, no_tag}
use Rattle.zwire.specs.records.Calls.{update}
use Rattle.zwire.specs.records.Records.{server}
use Rattle.zwire.specs.Fields.{call_number, log_number, epoch, client}
use Rattle.zwire.specs.Replies.{query, reply}

-- ---- what messages have

-- a log entry
unfoldable pub entry : Form Entry
entry = fields (both client (both call_number update)) (λ e. (e.client, (e.number, e.update)))
    (λ f. record { client = f.0; number = f.1.0; update = f.1.1 })

-- a log number, or none
unfoldable pub last : Form (Option ℕ)
last = option log_number

-- a server, or none
unfoldable pub end : Form (Option ℕ)
end = option server

abbrev pub submitted : Form (ℕ × Update)
submitted = both call_number update

abbrev pub asked : Form (ℕ × Query)
asked = both call_number query

abbrev pub answered : Form (ℕ × Reply)
answered = both call_number reply

abbrev pub forwarded : Form (ℕ × (ℕ × Entry))
forwarded = both epoch (both log_number entry)

abbrev pub acknowledged : Form (ℕ × ℕ)
acknowledged = both epoch log_number

abbrev pub predecessor : Form (ℕ × ℕ)
predecessor = both epoch server

abbrev pub held : Form (ℕ × Option ℕ)
held = both epoch last

abbrev pub successor : Form (ℕ × (ℕ × Option ℕ))
successor = both epoch (both server last)

-- head and tail
abbrev pub ends : Form (ℕ × (Option ℕ × Option ℕ))
ends = both epoch (both end end)

-- ---- messages

-- a message whose state, if it is a snapshot, is elsewhere
abbrev pub Bare : Type 0
Bare = Message (Unit {0})

-- the message without its state
abbrev pub bare : {T : Type 0} → Message T → Bare
bare (message.Submit number update) = message.Submit number update
bare (message.Query number query) = message.Query number query
bare (message.Answer number reply) = message.Answer number reply
bare (message.Update epoch number entry) = message.Update epoch number entry
bare (message.Ack epoch number) = message.Ack epoch number
bare (message.Snapshot epoch state) = message.Snapshot epoch tt
bare (message.NewPred epoch server) = message.NewPred epoch server
bare (message.Have epoch last) = message.Have epoch last
bare (message.NewSucc epoch server last) = message.NewSucc epoch server last
bare (message.BecomeHead epoch) = message.BecomeHead epoch
bare (message.BecomeTail epoch) = message.BecomeTail epoch
bare message.Retire = message.Retire
bare (message.Joined epoch) = message.Joined epoch
bare message.Gone = message.Gone
bare (message.Config epoch head tail) = message.Config epoch head tail

-- after the tags of what is sent to and from the master
unfoldable pub order_at : ℕ → List ℕ → Result (Bare × List ℕ) Fault
order_at =
    at_tag 6 (read_as predecessor (λ m. message.NewPred m.0 m.1))
    (at_tag 7 (read_as held (λ m. message.Have m.0 m.1))
    (at_tag 8 (read_as successor (λ m. message.NewSucc m.0 m.1.0 m.1.1))
    (at_tag 9 (read_as epoch (λ n. message.BecomeHead n))
    (at_tag 10 (read_as epoch (λ n. message.BecomeTail n))
    (at_tag 11 (read_as empty (λ _. message.Retire))
    (at_tag 12 (read_as epoch (λ n. message.Joined n))
    (at_tag 13 (read_as empty (λ _. message.Gone))
    (at_tag 14 (read_as ends (λ m. message.Config m.0 m.1.0 m.1.1)) no_tag))))))))

-- after any tag
unfoldable pub message_at : ℕ → List ℕ → Result (Bare × List ℕ) Fault
message_at =
    at_tag 0 (read_as submitted (λ m. message.Submit m.0 m.1))
    (at_tag 1 (read_as asked (λ m. message.Query m.0 m.1))
    (at_tag 2 (read_as answered (λ m. message.Answer m.0 m.1))
    (at_tag 3 (read_as forwarded (λ m. message.Update m.0 m.1.0 m.1.1))
    (at_tag 4 (read_as acknowledged (λ m. message.Ack m.0 m.1))
    (at_tag 5 (read_as epoch (λ n. message.Snapshot n tt)) order_at)))))

abbrev pub message_spelled : Bare → Spelled ℕ
message_spelled (message.Submit number update) = behind 0 submitted (number, update)
message_spelled (message.Query number query) = behind 1 asked (number, query)
message_spelled (message.Answer number reply) = behind 2 answered (number, reply)
message_spelled (message.Update epoch number entry) = behind 3 forwarded (epoch, (number, entry))
message_spelled (message.Ack epoch number) = behind 4 acknowledged (epoch, number)
message_spelled (message.Snapshot n state) = behind 5 epoch n
message_spelled (message.NewPred epoch server) = behind 6 predecessor (epoch, server)
message_spelled (message.Have epoch last) = behind 7 held (epoch, last)
message_spelled (message.NewSucc epoch server last) = behind 8 successor (epoch, (server, last))
message_spelled (message.BecomeHead n) = behind 9 epoch n
message_spelled (message.BecomeTail n) = behind 10 epoch n
message_spelled message.Retire = behind 11 empty tt
message_spelled (message.Joined n) = behind 12 epoch n
message_spelled message.Gone = behind 13 empty tt
message_spelled (message.Config epoch head tail) = behind 14 ends (epoch, (head, tail))

unfoldable pub any_message : Form Bare
any_message = by_tag (number w8) message_at message_spelled
