-- Worked examples of the legal order, over a service that counts: a history with its order, and
-- orders that don't explain it. Client 1 creates and is answered; then client 2 asks for the count
-- and is answered. Meanwhile client 3 creates and client 4 asks, and neither is answered. Client
-- 3's create acted, since client 2's count includes it.
use Rattle.std.specs.Prelude.{ℕ, ◌≤◌, List, [], ◌∷◌}
use Rattle.ztree.specs.Tree.{opening_tree}
use Rattle.zcalls.specs.declared.call.Call.TheVariants as call
use Rattle.zcalls.specs.declared.call.Query.{Query}
use Rattle.zcalls.specs.declared.call.Update.{Update}
use Rattle.zcalls.specs.declared.reply.Reply.{Reply}
use Rattle.zcalls.specs.Step.{step, query_reply}
use Rattle.zprotocol.specs.declared.world.history.CallEvent.TheVariants.{Begin, Answer}
use Rattle.zcalls.specs.Operation.{Operation}
use Rattle.zprotocol.specs.world.History.{History}
use Rattle.zprotocol.specs.world.LegalOrder.{IsLegalOrder}
use Rattle.zprotocol.specs.world.support.Counter.{counter, create, exists, name_reply, count_reply}
use Rattle.zprotocol.specs.world.support.RunRows.{seen, two_updates}

-- the four calls
abbrev pub first_create : Operation
first_create = record { client = 1; number = 1; call = create }

abbrev pub lost_create : Operation
lost_create = record { client = 3; number = 1; call = create }

abbrev pub lost_exists : Operation
lost_exists = record { client = 4; number = 1; call = exists }

abbrev pub last_exists : Operation
last_exists = record { client = 2; number = 1; call = exists }

-- a call that no client invoked
abbrev pub strange_create : Operation
strange_create = record { client = 5; number = 1; call = create }

-- the history, with the count that client 2 receives
abbrev pub history_with : ℕ → History
history_with count =
    Begin 1 1 create
    ∷ Begin 3 1 create
    ∷ Begin 4 1 exists
    ∷ Answer 1 1 (name_reply 0)
    ∷ Begin 2 1 exists
    ∷ Answer 2 1 (count_reply count)
    ∷ []

-- the order explains the history in which client 2 receives this count, and no state of its replay
-- is above the bound
abbrev pub Explains : ℕ → ℕ → List Operation → Type 0
Explains bound count order = IsLegalOrder (λ state. state ≤ bound) counter (history_with count) order

-- the order that explains it
abbrev pub true_order : List Operation
true_order = first_create ∷ lost_create ∷ last_exists ∷ []

-- the calls of the run in which two clients' updates go down the chain, and are answered in the
-- other order
abbrev pub first_down : Operation
first_down = record { client = 0; number = 1; call = create }

abbrev pub second_down : Operation
second_down = record { client = 1; number = 1; call = create }

-- the order explains the history of that run
abbrev pub ExplainsTheRun : List Operation → Type 0
ExplainsTheRun order = IsLegalOrder (λ state. Unit {0}) counter (seen 3 two_updates) order

-- a query of the initial tree is asked and answered
abbrev pub query_is_first : Query → History
query_is_first query = Begin 1 1 (call.Query query) ∷ Answer 1 1 (query_reply opening_tree query) ∷ []

-- an update is done and answered, and then a query is answered from the tree after it
abbrev pub update_is_first : Update → Query → History
update_is_first update query =
    Begin 1 1 (call.Update update)
    ∷ Answer 1 1 (step opening_tree 1 update).1
    ∷ Begin 1 2 (call.Query query)
    ∷ Answer 1 2 (query_reply (step opening_tree 1 update).0 query)
    ∷ []

-- a query is asked, and answered with this reply
abbrev pub query_of : Query → Reply → History
query_of query reply = Begin 1 1 (call.Query query) ∷ Answer 1 1 reply ∷ []
