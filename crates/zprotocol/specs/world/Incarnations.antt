-- Two incarnations of a service, one after the other. The second begins with the state that the
-- first one left. Its clients begin anew, and count their calls from 1 on again.
use Rattle.std.specs.Prelude.{◌≡◌, ℕ, ◌+◌, ◌<◌, ◌≤◌, List, [], ◌∷◌, ◌++◌, map}
use Rattle.ztree.specs.Tree.{Tree}
use Rattle.ztree.specs.Lawful.{IsLawful}
use Rattle.zcalls.specs.Operation.{Operation}
use Rattle.zprotocol.specs.server.Machine.{plain_from}
use Rattle.zprotocol.specs.declared.world.history.CallEvent.{CallEvent}
use Rattle.zprotocol.specs.declared.world.history.CallEvent.TheVariants.{Begin, Answer}
use Rattle.zprotocol.specs.world.History.{History, HasBegun}
use Rattle.zprotocol.specs.world.LegalOrder.{Service, operation_step, IsLegalOrder}
use Rattle.zprotocol.specs.world.PlainTree.{service_of}

-- the state that operations leave, one after the other
abbrev pub state_after : {P : Type 0} → Service P → P → List Operation → P
state_after service p [] = p
state_after service p (o ∷ os) = state_after service (operation_step service p o).0 os

-- the events of calls that are numbered on from a number
abbrev pub later_event : ℕ → CallEvent → CallEvent
later_event last (Begin client number call) = Begin client (last + number) call
later_event last (Answer client number reply) = Answer client (last + number) reply

abbrev pub later_history : ℕ → History → History
later_history last history = map (later_event last) history

-- and these calls
abbrev pub later_operation : ℕ → Operation → Operation
later_operation last o = record o { number = last + o.number }

abbrev pub later_order : ℕ → List Operation → List Operation
later_order last order = map (later_operation last) order

-- the calls that were invoked have numbers from 1 on
abbrev pub CountsFromOne : History → Type 0
CountsFromOne history = (o : Operation) → HasBegun history o → 0 < o.number

-- they have numbers up to this one
abbrev pub CountsUpTo : ℕ → History → Type 0
CountsUpTo last history = (o : Operation) → HasBegun history o → o.number ≤ last

-- One incarnation is linearizable from a tree on, and leaves a tree. Another is linearizable from
-- that tree on. Then both together are linearizable from the first tree on, where the clients of
-- the second continue to count. The order is that of the first, and then that of the second
abbrev pub TwoIncarnationsAreOne : Type 0
TwoIncarnationsAreOne =
    (t u : Tree) (first second : History) (before after : List Operation) (last : ℕ)
    → IsLegalOrder IsLawful (service_of (plain_from t)) first before → CountsUpTo last first
    → u ≡ state_after (service_of (plain_from t)) t before
    → IsLegalOrder IsLawful (service_of (plain_from u)) second after → CountsFromOne second
    → IsLegalOrder IsLawful (service_of (plain_from t)) (first ++ later_history last second) (before ++ later_order last after)

-- it leaves the tree that the second one leaves
abbrev pub TheSecondIncarnationLeavesTheTree : Type 0
TheSecondIncarnationLeavesTheTree =
    (t u : Tree) (before after : List Operation) (last : ℕ) → u ≡ state_after (service_of (plain_from t)) t before
    → state_after (service_of (plain_from t)) t (before ++ later_order last after) ≡ state_after (service_of (plain_from u)) u after
