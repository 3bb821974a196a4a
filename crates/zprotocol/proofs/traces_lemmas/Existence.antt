-- Every traces have a merge: of the events that are left the one that comes first, until none is left.
use Rattle.std.proofs.Common.{◌≡◌, ◌<◌, ◌≤◌, ℕ, zero, suc, ◌+◌, List, [], ◌∷◌, ◌++◌, Option, Some, None, length, get_or}
use Rattle.std.proofs.Common.{set, replicate, ◌∙◌, subst, arith}
use Rattle.std.proofs.lemmas.List.{length-replicate, length-set}
use Rattle.zprotocol.specs.declared.traces.trace.Traces.{Traces}
use Rattle.zprotocol.specs.traces.Traces.{Step, trace_of, Merges, IsMerge}
use Rattle.zprotocol.specs.traces.support.Places.{place_count, process_at, head_at, chosen, rest_of, unread, IsLeast}
use Rattle.zprotocol.proofs.traces_lemmas.Merging.{merges_left, merges_more}
use Rattle.zprotocol.proofs.traces_lemmas.Places.{least_more, all_read, next_front, next_is_first, rest_moves, unread_less, nothing_read}

abbrev HasMerge : Traces → Type 0
HasMerge t = (steps : List Step) × IsMerge t steps

-- of the positions below n, the one whose next event comes first
least_below : (t : Traces) (read : List ℕ) (n : ℕ) → (best : Option (ℕ × ℕ)) × IsLeast t read n best
least_below t read zero = (None, λ j lt. absurd (omega (arith, lt)))
least_below t read (suc n) =
    let below = least_below t read n in
    let best = chosen below.0 n (head_at t read n) in
    let next : n + 1 ≡ suc n = omega arith in
    (best, subst (λ k. IsLeast t read k best) next (least_more t read n below.0 below.1))

-- one event more is merged, and fewer are left; or none is left
merges_on : (t : Traces) (read : List ℕ) (steps : List Step) → length read ≡ place_count t → Merges (trace_of t) steps (rest_of t read)
    → (best : Option (ℕ × ℕ)) → IsLeast t read (place_count t) best
    → ((after : List ℕ) (more : List Step) → length after ≡ place_count t → Merges (trace_of t) more (rest_of t after)
    → unread t after (place_count t) < unread t read (place_count t) → HasMerge t)
    → HasMerge t
merges_on t read steps long merge None least goes_on = (
  steps,
  merges_left (trace_of t) steps (rest_of t read) (λ p. [])
      merge (all_read t read least),
)
merges_on t read steps long merge (Some best) least goes_on =
    let (e, more, front, stamp) = next_front t read best least in
    let there : best.0 < length read = omega (arith, least.0, long) in
    let after : List ℕ = set read best.0 (get_or read best.0 0 + 1) in
    goes_on after (steps ++ record { process = process_at t best.0; event = e } ∷ []) (length-set read best.0 (get_or read best.0 0 + 1) ∙ long)
    (merges_more (trace_of t) steps (rest_of t read) (rest_of t after) (process_at t best.0) e more merge front
    (next_is_first t read best e least stamp)
    (rest_moves t read best.0 e more there front))
    (unread_less t read best.0 e more there front (place_count t) least.0)

-- so until all are
merges_to_the_end : (t : Traces) (fuel : ℕ) (read : List ℕ) (steps : List Step) → length read ≡ place_count t
    → Merges (trace_of t) steps (rest_of t read)
    → unread t read (place_count t) ≤ fuel → HasMerge t
merges_to_the_end t zero read steps long merge few =
    let first = least_below t read (place_count t) in
    merges_on t read steps long merge first.0 first.1 (λ after more l m less. absurd (omega (arith, less, few)))
merges_to_the_end t (suc fuel) read steps long merge few =
    let first = least_below t read (place_count t) in
    merges_on t read steps long merge first.0 first.1 (λ after more l m less. merges_to_the_end t fuel after more l m (omega (arith, less, few)))

pub has_a_merge : (t : Traces) → (steps : List Step) × IsMerge t steps
has_a_merge t =
    let read : List ℕ = replicate (place_count t) 0 in
    merges_to_the_end t (unread t read (place_count t)) read [] (length-replicate {A = ℕ} (place_count t) 0)
    (nothing_read t (place_count t)) (omega arith)
