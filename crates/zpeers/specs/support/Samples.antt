-- Processes, messages and records for the worked examples.
use Rattle.std.specs.Prelude.{List, [], ◌∷◌, ℕ, map}
use Rattle.zprotocol.specs.declared.message.Message.TheVariants as message
use Rattle.zprotocol.specs.declared.process.Process.TheVariants.{Master, Server}
use Rattle.zserver.specs.Server.{TreeMessage}
use Rattle.zsnapshots.specs.Loading.{nothing_loaded}
use Rattle.zpeers.specs.Records.{LinkRecord, frame_record}
use Rattle.zpeers.specs.Outgoing.{OutgoingView}
use Rattle.zpeers.specs.Incoming.{ArrivingView}

-- a message without a state
abbrev pub retire : TreeMessage
retire = message.Retire

-- from the master to server 2
abbrev pub order : LinkRecord
order = frame_record Master (Server 2) retire

-- a state of epoch 3 is being loaded, and no row came yet
abbrev pub begun : ArrivingView
begun = record { epoch = 3; rows = nothing_loaded }

-- the tags of records
abbrev pub tags : List LinkRecord → List ℕ
tags rs = map (λ r. r.tag) rs

-- two messages wait for server 1
abbrev pub gone : TreeMessage
gone = message.Gone

abbrev pub waiting : OutgoingView
waiting = record {
  queues = [] ∷ (record { message = retire; written = 0 } ∷ record { message = gone; written = 0 } ∷ []) ∷ [];
}
