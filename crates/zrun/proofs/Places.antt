-- The clients of a run at the positions of their numbers.
use Rattle.std.proofs.Common.{◌≡◌, ◌≢◌, ◌<◌, ⊎_elim, ℕ, zero, suc, Option, None, Some, set, List, [], ◌∷◌, ◌++◌, length}
use Rattle.std.proofs.Common.{map, refl, sym, ap, subst, ◌∙◌, arith}
use Rattle.std.specs.Prelude.{IfSome}
use Rattle.std.proofs.lemmas.List.{length-map}
use mathlib.Core.Option.{some, some-injective, some-ne-none}
use lib.ListN.{get_elem?}
use Rattle.zthreads.specs.Callers.{caller_endpoint, caller_id}
use Rattle.zthreads.specs.declared.endpoint.Endpoint.{Endpoint}
use Rattle.zthreads.specs.Endpoints.{Each}
use Rattle.zchannels.proofs.Said.{within}
use Rattle.atomic_table.proofs.Lists.{at_set}
use Rattle.zrun.proofs.Elements.{element_map, element_right}
use Rattle.zrun.specs.declared.posts.ClientPost.{ClientPost}
use Rattle.zrun.specs.Origins.{client_endpoints, endpoint_wiring, IsOneOf, Run}
use Rattle.zrun.specs.declared.client.Client as client
use Rattle.zrun.specs.Clients.{AreIn, BelongsTo, client_wiring, number_of}

-- one more is at its position
pub each_push : {X : Type 0} (P : ℕ → X → Type 0) (xs : List X) (x : X) → Each P xs → P (length xs) x → Each P (xs ++ x ∷ [])
each_push P [] x all one zero y at = subst (λ z. P 0 z) (some-injective x y at) one
each_push P [] x all one (suc i) y at = absurd (some-ne-none y (sym at))
each_push P (z ∷ xs) x all one zero y at = all 0 y at
each_push P (z ∷ xs) x all one (suc i) y at = each_push (λ j. P (suc j)) xs x (λ j w here. all (suc j) w here) one i y at

-- who is next, where each is at the position of its number
module _ (run yielded rest : Run) (p : ClientPost) (numbers : Each (λ i q. caller_id q.caller ≡ i) run) (all : run ≡ yielded ++ (p ∷ rest)) where
  at_next : get_elem? run (length yielded) ≡ some p
  at_next = ap (λ l. get_elem? l (length yielded)) all ∙ element_right yielded (p ∷ rest) (length yielded) 0 (omega arith)

  pub next_number : caller_id p.caller ≡ length yielded
  next_number = numbers (length yielded) p at_next

  pub next_one : IsOneOf run (caller_id p.caller) (endpoint_wiring (caller_endpoint p.caller))
  next_one =
      let endpoint_of : ClientPost → Endpoint = λ q. caller_endpoint q.caller in
      ap (λ m. get_elem? (map endpoint_wiring (client_endpoints run)) m) next_number
      ∙ element_map endpoint_wiring (client_endpoints run) (length yielded) (endpoint_of p) (element_map endpoint_of run (length yielded) p at_next)

-- what is true of whatever is there
pub if_there : {X : Type 0} (o : Option X) (P : X → Type 0) → ((x : X) → o ≡ Some x → P x) → IfSome o P
if_there None P each = tt
if_there (Some x) P each = each x refl

-- what is put at a position
module _ (run : Run) (places : List (Option client.Client)) (own : AreIn run places) where
  pub in_set : (i : ℕ) (x : Option client.Client) → ((c : client.Client) → x ≡ Some c → BelongsTo run c × (number_of c ≡ i))
      → AreIn run (set places i x)
  in_set i x mine j y at =
      ⊎_elim
      (λ (here : (j ≡ i) × (x ≡ y)). λ c is. let m = mine c (here.1 ∙ is) in (m.0, m.1 ∙ sym here.0))
      (λ (there : (j ≢ i) × (get_elem? places j ≡ some y)). own j y there.1)
      (at_set places i j x y at)

-- a client of a run has a position in it
pub has_place : (run : Run) (c : client.Client) → BelongsTo run c → number_of c < length run
has_place run c belongs =
    let endpoint_of : ClientPost → Endpoint = λ q. caller_endpoint q.caller in
    subst (λ n. number_of c < n) (length-map (client_endpoints run) endpoint_wiring ∙ length-map run endpoint_of)
    (within (map endpoint_wiring (client_endpoints run)) (number_of c) (client_wiring c) belongs)
