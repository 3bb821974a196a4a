-- What it means that an event preserves the soundness of a run.
use Rattle.zcalls.specs.Cached.{Plain}
use Rattle.zcalls.specs.PlainTree.{plain_tree}
use Rattle.zprotocol.specs.declared.world.event.Event.{Event}
use Rattle.zlinearizability.specs.chain.Last.{LastsAreLengths}
use Rattle.zlinearizability.specs.chain.Account.{Account, next_account}
use Rattle.zlinearizability.specs.chain.Sound.{IsSound, IsSoundAfter}

-- the event preserves soundness, and what is committed remains so
abbrev pub KeepsSound : Event → Type 0
KeepsSound event = (t : Account) → LastsAreLengths t.world → IsSound plain_tree t → IsSoundAfter plain_tree t (next_account plain_tree t event)

-- the same over any plain service
abbrev pub KeepsSoundOver : {P : Type 0} → Plain P → Event → Type 0
KeepsSoundOver plain event = (t : Account) → LastsAreLengths t.world → IsSound plain t → IsSoundAfter plain t (next_account plain t event)
