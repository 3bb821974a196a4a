-- What the processes of a cluster left, all together.
use Rattle.std.proofs.Common.{◌≡◌, ◌<◌, ◌+◌, ◌-◌, ◌||◌, Bool, true, false, true≢false, ℕ, zero, suc, Option, None, Some, IsSome, List}
use Rattle.std.proofs.Common.{[], ◌∷◌, ⊎_elim, get_or, is_some, length, map, refl, sym, ap, subst, ◌∙◌, arith}
use Rattle.std.specs.List.{list_any}
use Rattle.std.proofs.lemmas.List.{length-append, length-map}
use mathlib.Core.Logic.{∥∥₁_map}
use mathlib.Core.Option.{some, some-injective}
use lib.ListN.{get_elem?}
use Rattle.ztree.proofs.Maps.{same_some}
use Rattle.zprotocol.specs.declared.limits.TheConstants.{MAX_SERVERS}
use Rattle.zprotocol.specs.declared.process.Process.{Process}
use Rattle.zprotocol.specs.declared.process.Process.TheVariants.{Client}
use Rattle.zprotocol.specs.Places.{process_at}
use Rattle.zchannels.proofs.Said.{within}
use Rattle.zthreads.specs.declared.endpoint.Endpoint.{Endpoint}
use Rattle.zthreads.specs.declared.endpoint.Ending.{Ending}
use Rattle.zthreads.specs.Endpoints.{Each, IsEndpointOf, Self, self_of, TreeDeed}
use Rattle.zthreads.specs.Endings.{AccountsAtEnd, HasEnded, HasEndedBy}
use Rattle.zthreads.proofs.Endings.{neither, same_self_of}
use Rattle.zthreads.specs.Callers.{caller_endpoint}
use Rattle.zrun.specs.Gone.{Went}
use Rattle.zrun.specs.Left.{AreLeft, AreLinked, by_place, is_left_lost, self_at}
use Rattle.zrun.specs.declared.client.Client as client
use Rattle.zrun.specs.declared.clients.Clients.{Clients}
use Rattle.zrun.specs.declared.cluster.Cluster.{Cluster}
use Rattle.zrun.specs.declared.posts.ClientPost.{ClientPost}
use Rattle.zrun.specs.declared.untraced.Untraced.{Untraced}
use Rattle.zrun.specs.Clients.{AccountsFor, AreIn, client_endpoint, IsLeftIn}
use Rattle.zrun.specs.Clusters.{cluster_endpoints, cluster_run}
use Rattle.zrun.specs.Handles.{given_server}
use Rattle.zrun.specs.Members.{clients_run}
use Rattle.zrun.specs.Origins.{client_endpoints}
use Rattle.zrun.specs.Runs.{AreLeftBy, AreTraced, IsLeftBy, Pairs}
use Rattle.zrun.specs.Untraced.{RanLawfully}
use Rattle.zrun.proofs.Elements.{element, element_map, element_right}
use Rattle.zrun.proofs.Endpoints.{client_process}
use Rattle.zrun.proofs.Leavings.{all_there, bare_each, left_is, lost_of_all, same_made, self_is, wires_each}
use Rattle.zrun.proofs.Pairs.{pairs_at, pairs_count}
use Rattle.zrun.proofs.Whole.{below, gone}

-- if the process of that index is a client that is there, the steps account for it
abbrev IsAccounted : List (Option client.Client) → ℕ → List TreeDeed → Type 0
IsAccounted places i deeds =
    (k : ℕ) (c : client.Client) → i ≡ MAX_SERVERS + 1 + k → get_elem? places k ≡ some (Some c) → AccountsFor c deeds

-- who is at a position is found there
there_at : (places : List (Option client.Client)) (i : ℕ) (c : client.Client) → get_or places i None ≡ Some c
    → get_elem? places i ≡ some (Some c)
there_at [] i c at = absurd (true≢false (ap is_some (sym at)))
there_at (p ∷ places) zero c at = ap some at
there_at (p ∷ places) (suc i) c at = there_at places i c at

-- where a client's ending is
module _ (m : Ending) (ss cs : List Ending) (servers : length ss ≡ MAX_SERVERS) where
  client_at_end : (i k : ℕ) (e : Ending) → i ≡ MAX_SERVERS + 1 + k → get_elem? (by_place m ss cs) i ≡ some e → get_elem? cs k ≡ some e
  client_at_end i k e is at =
      let next : i ≡ suc (MAX_SERVERS + k) = omega (arith, is) in
      sym (element_right ss cs (MAX_SERVERS + k) k (omega (arith, servers)))
      ∙ subst (λ j. get_elem? (by_place m ss cs) j ≡ some e) next at

  client_there : (k : ℕ) (e : Ending) → get_elem? cs k ≡ some e → get_elem? (by_place m ss cs) (MAX_SERVERS + 1 + k) ≡ some e
  client_there k e at =
      let next : suc (MAX_SERVERS + k) ≡ MAX_SERVERS + 1 + k = omega arith in
      subst (λ j. get_elem? (by_place m ss cs) j ≡ some e) next
      (element_right ss cs (MAX_SERVERS + k) k (omega (arith, servers)) ∙ at)

module _ (s : Cluster) (m : Ending) (ss cs : List Ending) (servers : length ss ≡ MAX_SERVERS) (all : AreLeftBy
    (cluster_endpoints s) (by_place m ss cs)) where
  -- as many clients as it has
  pub count_left : length cs ≡ s.opening.clients
  count_left =
      let ds = map given_server s.servers.items in
      let es = client_endpoints s.run.value.items in
      let both = pairs_count IsLeftBy (cluster_endpoints s) (by_place m ss cs) all in
      let left = length-append ss cs in
      let went = length-append ds es in
      let many = length-map s.servers.items given_server in
      let run = length-map s.run.value.items (λ (p : ClientPost). caller_endpoint p.caller) in
      let all_servers = s.all in
      let count = s.count in
      omega (arith, both, left, went, many, run, servers, all_servers, count)

  -- each left what the process of its position leaves
  pub are_left : AreLeft s.opening.last (length cs) (by_place m ss cs)
  are_left i e at =
      let here : 0 + i ≡ i = omega arith in
      subst (λ (w : ℕ × ℕ). HasEnded (self_at s.opening.last w.0 w.1) e) (λ k. (sym count_left k, here k))
      (left_is s.opening.last s.opening.clients 0 (cluster_endpoints s) (by_place m ss cs) s.wired.0.each all i e at)

  -- the endpoint of a client's position
  endpoint_there : (i : ℕ) (p : ClientPost) → get_elem? s.run.value.items i ≡ some p
      → IsEndpointOf (process_at (MAX_SERVERS + 1 + i)) s.opening.last s.opening.clients (caller_endpoint p.caller)
  endpoint_there i p at =
      let f : ClientPost → Endpoint = λ q. caller_endpoint q.caller in
      let many = length-map s.servers.items given_server in
      let all_servers = s.all in
      let here : 0 + suc (MAX_SERVERS + i) ≡ MAX_SERVERS + 1 + i = omega arith in
      let found = element_right (map given_server s.servers.items) (client_endpoints s.run.value.items) (MAX_SERVERS + i) i
      (omega (arith, many, all_servers)) ∙ element_map f s.run.value.items i p at in
      subst (λ k. IsEndpointOf (process_at k) s.opening.last s.opening.clients (f p)) here
      (s.wired.0.each (suc (MAX_SERVERS + i)) (f p) found)

  module _ (places : List (Option client.Client)) (many : length places ≡ length s.run.value.items)
      (own : AreIn s.run.value.items places) (left : Pairs IsLeftIn places cs) where
    -- a client's ending is that of the client that was handed in
    ended_at : (i k : ℕ) (place : Option client.Client) (e : Ending) → i ≡ MAX_SERVERS + 1 + k → get_elem? places k ≡ some place
        → IsLeftIn place e → HasEndedBy (self_at s.opening.last (length cs) i) e (IsAccounted places i)
    ended_at i k None e is there gone lost = absurd (true≢false (sym gone.1 ∙ lost))
    ended_at i k (Some c) e is there ended lost =
        let p = element s.run.value.items k (subst (λ n. k < n) many (within places k (Some c) there)) in
        let made = same_made s.run.value.items places cs many own left k p.0 c p.1 there in
        let who : self_of (client_endpoint c) ≡ self_at s.opening.last (length cs) i =
        same_self_of (caller_endpoint p.0.caller) (client_endpoint c) made
        ∙ self_is s.opening.last s.opening.clients (MAX_SERVERS + 1 + k) (caller_endpoint p.0.caller) (endpoint_there k p.0 p.1)
        ∙ (λ j. self_at s.opening.last (sym count_left j) (sym is j)) in
        ∥∥₁_map (ended.0 lost) (λ x. (
          x.0,
          subst (λ (w : Self). AccountsAtEnd w e x.0) who x.1,
          λ k' c' is' there'.
              let at : k ≡ k' = omega (arith, is, is') in
              let same : Some c ≡ Some c' = some-injective (Some c) (Some c') (sym there ∙ subst (λ n. get_elem? places n ≡ some (Some c')) (sym at) there') in
              subst (λ (y : client.Client). AccountsFor y x.0) (same_some c c' same) x.2,
        ))

    -- each process ended by steps that account for it, if it is a client
    each_ended : Each (λ i e. HasEndedBy (self_at s.opening.last (length cs) i) e (IsAccounted places i)) (by_place m ss cs)
    each_ended i e at =
        ⊎_elim
        (λ lt lost. ∥∥₁_map (are_left i e at lost) (λ x. (x.0, x.1, λ k c is there. absurd (omega (arith, is, lt)))))
        (λ ge.
        let k = i - (MAX_SERVERS + 1) in
        let is : i ≡ MAX_SERVERS + 1 + k = omega (arith, ge) in
        let one : get_elem? cs k ≡ some e = client_at_end m ss cs servers i k e is at in
        let place = element places k (subst (λ n. k < n) (pairs_count IsLeftIn places cs left) (within cs k e one)) in
        ended_at i k place.0 e is place.1 (pairs_at IsLeftIn places cs k place.0 e left place.1 one))
        (below i (MAX_SERVERS + 1))

-- where something is known, nothing is lost
kept_if : (lost known : Bool) → (lost ≡ true → known ≡ false) → known ≡ true → lost ≡ false
kept_if true known never is = absurd (true≢false (sym is ∙ never refl))
kept_if false known never is = refl

module _ (m : Ending) (ss cs : List Ending) (known : Bool) (never : is_left_lost m ss cs ≡ true → known ≡ false) (is : known ≡ true) where
  kept : is_left_lost m ss cs ≡ false
  kept = kept_if (is_left_lost m ss cs) known never is

  pub ran : (u : Untraced) (given : Clients) → clients_run given ≡ cluster_run u.cluster → length ss ≡ MAX_SERVERS
      → AreLeftBy (cluster_endpoints u.cluster) (by_place m ss cs) → Pairs IsLeftIn given.places.items cs
      → AreLinked (by_place m ss cs) → ∥ RanLawfully u given ∥₁
  ran u given own servers all left linked =
      let s = u.cluster in
      let ds = cluster_endpoints s in
      let es = by_place m ss cs in
      let none = lost_of_all m ss cs ∙ kept in
      let untraced : AreTraced false ds = subst (λ b. AreTraced b ds) u.untraced s.wired.1 in
      let places = given.places.items in
      let all_in : AreIn s.run.value.items places = subst (λ r. AreIn r places) own given.own in
      let many : length places ≡ length s.run.value.items = given.many ∙ ap length own in
      ∥∥₁_map (gone s.opening.last m ss cs (λ i e d. IsAccounted places i d) linked kept
      (each_ended s m ss cs servers all places many all_in left))
      (λ went. (
        es,
        went.0,
        wires_each ds es none all,
        bare_each ds es untraced none all,
        subst (λ n. Went s.opening.last n es went.0) (count_left s m ss cs servers all) went.1,
        λ i c at.
            let there = there_at places i c at in
            let e = element cs i (subst (λ n. i < n) (sym (pairs_count IsLeftIn places cs left)) (within places i (Some c) there)) in
            let who : Client i ≡ process_at (MAX_SERVERS + 1 + i) = client_process (MAX_SERVERS + 1 + i) i refl in
            subst (λ (p : Process). AccountsFor c (went.0 p)) (sym who)
            (went.2 (MAX_SERVERS + 1 + i) e.0 (client_there m ss cs servers i e.0 e.1) i c refl there),
      ))

  pub all_here : (places : List (Option client.Client)) → Pairs IsLeftIn places cs → (i : ℕ) → i < length places → IsSome (get_or places i None)
  all_here places left =
      let lost : List Ending → Bool = λ es. list_any (λ (e : Ending). e.is_lost) es in
      let rest = neither m.is_lost (lost ss || lost cs) kept in
      all_there places cs left (neither (lost ss) (lost cs) rest.1).1
