-- A request is a walk, which makes no call, or it is none, whatever the tree is.
use Rattle.std.proofs.Common.{◌≡◌, ℕ, [], Option, Ok, inl, inr, refl, sym, ap, ◌∙◌}
use Rattle.std.specs.Prelude.{◌⊎◌, None, Some}
use Rattle.ztree.specs.Tree.{Tree}
use Rattle.zjute.specs.declared.request.Asked.{Asked}
use Rattle.zjute.specs.declared.request.Asked.TheVariants as asked
use Rattle.zrequests.specs.Terms.{Terms}
use Rattle.zrequests.specs.Requests.{calls_in}
use Rattle.zresponses.specs.declared.answer.Answer.{Answer}
use Rattle.zfront.specs.Walks.{walked}
use Rattle.zfront_laws.specs.Logs.{meant}

abbrev IsWalk : ℕ → Asked → Type 0
IsWalk session asks =
    ((terms : Terms) → calls_in terms session asks ≡ Ok []) × ((t : Tree) → (answer : Answer) × (walked session asks t ≡ Some answer))

walks : (session : ℕ) (asks : Asked) → ((t : Tree) → walked session asks t ≡ None) ⊎ IsWalk session asks
walks session (asked.Create it) = inl (λ t. refl)
walks session (asked.Delete it) = inl (λ t. refl)
walks session (asked.Exists it) = inl (λ t. refl)
walks session (asked.GetData it) = inl (λ t. refl)
walks session (asked.SetData it) = inl (λ t. refl)
walks session (asked.GetAcl it) = inl (λ t. refl)
walks session (asked.SetAcl it) = inl (λ t. refl)
walks session (asked.GetChildren it) = inl (λ t. refl)
walks session (asked.Sync it) = inl (λ t. refl)
walks session asked.Ping = inl (λ t. refl)
walks session (asked.GetChildren2 it) = inl (λ t. refl)
walks session (asked.Check it) = inl (λ t. refl)
walks session (asked.Multi it) = inl (λ t. refl)
walks session (asked.Create2 it) = inl (λ t. refl)
walks session (asked.CheckWatches it) = inl (λ t. refl)
walks session (asked.RemoveWatches it) = inl (λ t. refl)
walks session (asked.CreateContainer it) = inl (λ t. refl)
walks session (asked.CreateTtl it) = inl (λ t. refl)
walks session (asked.MultiRead it) = inl (λ t. refl)
walks session (asked.Auth it) = inl (λ t. refl)
walks session (asked.SetWatches it) = inl (λ t. refl)
walks session (asked.Sasl it) = inl (λ t. refl)
walks session (asked.GetEphemerals it) = inr ((λ terms. refl), (λ t. (_, refl)))
walks session (asked.GetAllChildrenNumber it) = inr ((λ terms. refl), (λ t. (_, refl)))
walks session (asked.SetWatches2 it) = inl (λ t. refl)
walks session (asked.AddWatch it) = inl (λ t. refl)
walks session asked.WhoAmI = inl (λ t. refl)
walks session asked.CloseSession = inl (λ t. refl)
walks session (asked.Other number bytes) = inl (λ t. refl)

abbrev nothing : Option Answer
nothing = None

apart : {P : Type 0} (answer : Answer) → nothing ≡ Some answer → P
apart answer e = absurd cc

-- a walk makes no call
pub walks_call_nothing : (terms : Terms) (session : ℕ) (asks : Asked) (t : Tree) (answer : Answer) → walked session asks t ≡ Some answer
    → meant (calls_in terms session asks) ≡ []
walks_call_nothing terms session asks t answer is = at (walks session asks)
  where
    at : ((t : Tree) → walked session asks t ≡ None) ⊎ IsWalk session asks → meant (calls_in terms session asks) ≡ []
    at (inl none) = apart answer (sym (none t) ∙ is)
    at (inr walk) = ap meant (walk.0 terms)

-- what is no walk of one tree is none of another
pub never_walks : (session : ℕ) (asks : Asked) (t u : Tree) → walked session asks t ≡ None → walked session asks u ≡ None
never_walks session asks t u is = at (walks session asks)
  where
    at : ((t : Tree) → walked session asks t ≡ None) ⊎ IsWalk session asks → walked session asks u ≡ None
    at (inl none) = none u
    at (inr walk) = let there = walk.1 t in apart there.0 (sym is ∙ there.1)
