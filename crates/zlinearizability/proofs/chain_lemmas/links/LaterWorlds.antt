-- A message that is justified stays so: the history and the items grow, servers fail, and epochs are only opened.
use Rattle.std.proofs.Common.{◌≡◌, ℕ, true, List}
use Rattle.zcalls.specs.Lists.{Among}
use Rattle.zcalls.specs.Operation.{Operation, operation_of}
use Rattle.zprotocol.specs.declared.message.Message.TheVariants as message
use Rattle.zprotocol.specs.declared.process.Process.{Process}
use Rattle.zprotocol.specs.declared.process.Process.TheVariants.{Master, Server, Client}
use Rattle.zprotocol.specs.world.History.{HasBegun}
use Rattle.zlinearizability.specs.legal.Items.{Item}
use Rattle.zlinearizability.specs.chain.Flow.{LogWorld, LogMessage}
use Rattle.zlinearizability.specs.chain.Chain.{IsOpened}
use Rattle.zlinearizability.specs.chain.Messages.{IsJustified}

-- what a later world has of an earlier one
pub record GoesOn (w later : LogWorld) (items more : List Item) : Type 0 where
  pub begun : (o : Operation) → HasBegun w.history o → HasBegun later.history o
  pub given : (i : Item) → Among i items → Among i more
  pub opened : (t k : ℕ) → IsOpened w t k → IsOpened later t k
  pub failed : (s : ℕ) → w.failed s ≡ true → later.failed s ≡ true

-- what justifies a message is there later too
pub justified_later : (w later : LogWorld) (items more : List Item) → GoesOn w later items more → (from to : Process) (m : LogMessage)
    → IsJustified w items from to m → IsJustified later more from to m
justified_later w later items more on (Client c) to (message.Submit number update) h = on.begun _ h
justified_later w later items more on (Client c) to (message.Query number query) h = on.begun _ h
justified_later w later items more on (Server s) (Client c) (message.Answer number reply) h = (h.0, on.given h.0 h.1, h.2)
justified_later w later items more on (Server s) (Server t) (message.Update epoch n entry) h =
    (on.opened t epoch h.0, on.begun (operation_of entry) h.1)
justified_later w later items more on (Server s) (Server t) (message.Snapshot epoch transfer) h =
    (on.opened t epoch h.0, λ e a. on.begun (operation_of e) (h.1 e a))
justified_later w later items more on (Server s) Master (message.Have epoch last) h = on.opened s epoch h
justified_later w later items more on (Server s) Master message.Gone h = on.failed s h
justified_later w later items more on Master to (message.NewSucc epoch t last) h = on.opened t epoch h
justified_later w later items more on from to m h = tt
