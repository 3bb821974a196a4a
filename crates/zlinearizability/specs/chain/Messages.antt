-- What holds of each message in flight.
use Rattle.std.specs.Prelude.{◌≡◌, true, List}
use Rattle.zcalls.specs.declared.call.Call.TheVariants as call
use Rattle.zcalls.specs.Operation.{operation_of}
use Rattle.zprotocol.specs.declared.message.Message.TheVariants as message
use Rattle.zprotocol.specs.declared.process.Process.{Process}
use Rattle.zprotocol.specs.declared.process.Process.TheVariants.{Master, Server, Client}
use Rattle.zprotocol.specs.world.History.{HasBegun}
use Rattle.zlinearizability.specs.legal.Items.{Item, IsGiven, AllBegun}
use Rattle.zlinearizability.specs.chain.Flow.{LogWorld, LogMessage}
use Rattle.zlinearizability.specs.chain.Chain.{IsOpened}

-- A request is a call that was invoked, and an answer is that of an item. A message of an epoch is
-- in flight only once its receiver has received that epoch. An order or a report of an epoch is in
-- flight only once the server that it is about has. Entries and whole logs are of calls that were
-- invoked. A server that is reported as gone has failed
abbrev pub IsJustified : LogWorld → List Item → Process → Process → LogMessage → Type 0
IsJustified w items (Client c) to (message.Submit number update) =
    HasBegun w.history (record { client = c; number = number; call = call.Update update })
IsJustified w items (Client c) to (message.Query number query) =
    HasBegun w.history (record { client = c; number = number; call = call.Query query })
IsJustified w items (Server s) (Client c) (message.Answer number reply) = IsGiven items c number reply
IsJustified w items (Server s) (Server t) (message.Update epoch n entry) = IsOpened w t epoch × HasBegun w.history (operation_of entry)
IsJustified w items (Server s) (Server t) (message.Snapshot epoch transfer) = IsOpened w t epoch × AllBegun w.history transfer.machine
IsJustified w items (Server s) Master (message.Have epoch last) = IsOpened w s epoch
IsJustified w items (Server s) Master message.Gone = w.failed s ≡ true
IsJustified w items Master to (message.NewSucc epoch t last) = IsOpened w t epoch
IsJustified w items from to other = Unit {0}
