-- What endpoints left.
use Rattle.std.proofs.Common.{◌≡◌, ◌<◌, ◌+◌, ◌||◌, inl, inr, ℕ, zero, suc, Bool, Option, None, Some, IsSome, false}
use Rattle.std.proofs.Common.{true≢false, List, [], ◌∷◌, length, map, get_or, refl, sym, ap, subst, ◌∙◌, arith}
use Rattle.std.specs.List.{list_any}
use Rattle.std.proofs.lemmas.List.Folds.{list_any-append}
use Rattle.std.proofs.lemmas.List.{length-map}
use Rattle.zprotocol.specs.declared.limits.TheConstants.{MAX_SERVERS}
use mathlib.Core.Option.{some, some-injective, some-ne-none}
use lib.ListN.{get_elem?}
use Rattle.zprotocol.specs.declared.process.Process.TheVariants.{Client}
use Rattle.zprotocol.specs.declared.traces.trace.ClientTrace.{ClientTrace}
use Rattle.zprotocol.specs.declared.traces.trace.Traces.{Traces}
use Rattle.zprotocol.specs.Places.{process_at}
use Rattle.zchannels.specs.Rings.{Ring, ring_of_rx, ring_of_tx}
use Rattle.zchannels.specs.Woven.{IsWoven}
use Rattle.zchannels.proofs.Said.{within}
use Rattle.zthreads.specs.declared.endpoint.Endpoint.{Endpoint}
use Rattle.zthreads.specs.declared.endpoint.Ending.{Ending}
use Rattle.zthreads.specs.Endpoints.{Each, IsEndpointOf, SameEndpoint, Self, self_of}
use Rattle.zthreads.specs.Endings.{HasEnded, LeavesNothing, SameWires}
use Rattle.zthreads.proofs.Endings.{has_ended, neither, same_self_of}
use Rattle.zrun.specs.Left.{AreWired, by_place, client_trace_of, is_left_cut, is_left_lost, self_at}
use Rattle.zrun.proofs.Elements.{element, element_map, element_or}
use Rattle.zrun.proofs.Stands.{client_at, same_at}
use Rattle.zrun.specs.declared.client.Client as client
use Rattle.zthreads.specs.Callers.{caller_endpoint, caller_id}
use Rattle.zrun.specs.declared.posts.ClientPost.{ClientPost}
use Rattle.zrun.specs.Origins.{client_endpoints, endpoint_wiring, Run}
use Rattle.zrun.specs.Clients.{AccountsFor, AreIn, client_endpoint, client_wiring, IsLeftIn}
use Rattle.zrun.specs.Members.{IsReported}
use Rattle.zrun.specs.Runs.{AreEndpoints, AreLeftBy, AreTraced, in_rings_of, IsLeftBy, IsRun, out_rings_of, Pairs}
use Rattle.zrun.proofs.Endpoints.{first_endpoint, other_endpoints}
use Rattle.zrun.proofs.Still.{wired_alike}
use Rattle.zrun.proofs.Pairs.{pairs_at, pairs_count, pairs_from}

-- what is at a position, by its element
pub element_is : {X : Type 0} (xs : List X) (i : ℕ) (x none : X) → get_elem? xs i ≡ some x → get_or xs i none ≡ x
element_is [] i x none at = absurd (some-ne-none x (sym at))
element_is (y ∷ xs) zero x none at = some-injective y x at
element_is (y ∷ xs) (suc i) x none at = element_is xs i x none at

-- what is left of an endpoint that was handed back is left by the endpoint that went
pub left_by : (a b : Endpoint) (e : Ending) → SameEndpoint a b → HasEnded (self_of b) e → SameWires b e → (b.is_traced ≡ false → LeavesNothing e)
    → IsLeftBy a e
left_by a b e same ended wires bare =
    inr (
      subst (λ (w : Self). HasEnded w e) (same_self_of a b same) ended,
      (wires.0 ∙ same.ins, wires.1 ∙ same.outs),
      λ untraced. bare (same.traced ∙ untraced),
    )

-- who has the endpoint of a position
pub self_is : (last n i : ℕ) (d : Endpoint) → IsEndpointOf (process_at i) last n d → self_of d ≡ self_at last n i
self_is last n i d is = rw (is.0, is.1, is.2) refl

ended_by : (last n i : ℕ) (d : Endpoint) (e : Ending) → IsEndpointOf (process_at i) last n d → IsLeftBy d e → HasEnded (self_at last n i) e
ended_by last n i d e is (inl lost) kept = absurd (true≢false (sym lost ∙ kept))
ended_by last n i d e is (inr left) kept = subst (λ (w : Self). HasEnded w e) (self_is last n i d is) left.0 kept

pub left_is : (last n k : ℕ) (ds : List Endpoint) (es : List Ending) → AreEndpoints last n k ds → AreLeftBy ds es
    → Each (λ i e. HasEnded (self_at last n (k + i)) e) es
left_is last n k [] [] each all i e at = absurd (some-ne-none e (sym at))
left_is last n k [] (x ∷ es) each all i e at = absurd all
left_is last n k (d ∷ ds) [] each all i e at = absurd all
left_is last n k (d ∷ ds) (x ∷ es) each all zero e at =
    let here : k ≡ k + 0 = omega arith in
    subst (λ (w : ℕ × Ending). HasEnded (self_at last n w.0) w.1) (λ j. (here j, some-injective x e at j))
    (ended_by last n k d x (first_endpoint last n k d ds each) all.0)
left_is last n k (d ∷ ds) (x ∷ es) each all (suc i) e at =
    let there : suc k + i ≡ k + suc i = omega arith in
    subst (λ m. HasEnded (self_at last n m) e) there (left_is last n (suc k) ds es (other_endpoints last n k d ds each) all.1 i e at)

-- what isn't lost has the links of the endpoints
wires_by : (d : Endpoint) (e : Ending) → e.is_lost ≡ false → IsLeftBy d e → SameWires d e
wires_by d e kept (inl lost) = absurd (true≢false (sym lost ∙ kept))
wires_by d e kept (inr left) = left.1

abbrev pub lost_in : List Ending → Bool
lost_in es = list_any (λ (e : Ending). e.is_lost) es

same_wires : (ds : List Endpoint) (es : List Ending) → lost_in es ≡ false → AreLeftBy ds es
    → (map out_rings_of ds ≡ map (λ (e : Ending). map ring_of_tx e.outs.items) es)
    × (map in_rings_of ds ≡ map (λ (e : Ending). map ring_of_rx e.ins.items) es)
same_wires [] [] kept all = (refl, refl)
same_wires [] (e ∷ es) kept all = absurd all
same_wires (d ∷ ds) [] kept all = absurd all
same_wires (d ∷ ds) (e ∷ es) kept all =
    let two = neither e.is_lost (lost_in es) kept in
    let rest = same_wires ds es two.1 all.1 in
    let wires = wires_by d e two.0 all.0 in
    ((λ k. sym wires.1 k ∷ rest.0 k), (λ k. sym wires.0 k ∷ rest.1 k))

-- the same, one by one
pub wires_each : (ds : List Endpoint) (es : List Ending) → lost_in es ≡ false → AreLeftBy ds es → Pairs SameWires ds es
wires_each [] [] kept all = tt
wires_each [] (e ∷ es) kept all = absurd all
wires_each (d ∷ ds) [] kept all = absurd all
wires_each (d ∷ ds) (e ∷ es) kept all =
    let two = neither e.is_lost (lost_in es) kept in (wires_by d e two.0 all.0, wires_each ds es two.1 all.1)

-- what isn't lost is without a trace, where the endpoints have none
bare_by : (d : Endpoint) (e : Ending) → d.is_traced ≡ false → e.is_lost ≡ false → IsLeftBy d e → LeavesNothing e
bare_by d e untraced kept (inl lost) = absurd (true≢false (sym lost ∙ kept))
bare_by d e untraced kept (inr left) = left.2 untraced

pub bare_each : (ds : List Endpoint) (es : List Ending) → AreTraced false ds → lost_in es ≡ false → AreLeftBy ds es → Each (λ i e. LeavesNothing e) es
bare_each [] [] untraced kept all i e at = absurd (some-ne-none e (sym at))
bare_each [] (x ∷ es) untraced kept all i e at = absurd all
bare_each (d ∷ ds) [] untraced kept all i e at = absurd all
bare_each (d ∷ ds) (x ∷ es) untraced kept all zero e at =
    let two = neither x.is_lost (lost_in es) kept in
    subst LeavesNothing (some-injective x e at) (bare_by d x (untraced 0 d refl) two.0 all.0)
bare_each (d ∷ ds) (x ∷ es) untraced kept all (suc i) e at =
    let two = neither x.is_lost (lost_in es) kept in
    bare_each ds es (λ j y there. untraced (suc j) y there) two.1 all.1 i e at

-- none is lost where none is cut
none_lost : (es : List Ending) → list_any (λ (e : Ending). e.trace.is_cut) es ≡ false → lost_in es ≡ false
none_lost [] uncut = refl
none_lost (e ∷ es) uncut =
    let two = neither e.trace.is_cut (list_any (λ (e : Ending). e.trace.is_cut) es) uncut in
    rw (e.kept two.0) (none_lost es two.1)

-- what is lost of all processes is what is lost of one of them
pub lost_of_all : (m : Ending) (ss cs : List Ending) → lost_in (by_place m ss cs) ≡ is_left_lost m ss cs
lost_of_all m ss cs = ap (λ b. m.is_lost || b) (list_any-append (λ (e : Ending). e.is_lost) ss cs)

wired_kept : (last n : ℕ) (ds : List Endpoint) (es : List Ending) → IsRun last n ds → AreLeftBy ds es → lost_in es ≡ false → AreWired es
wired_kept last n ds es is all kept =
    let same = same_wires ds es kept all in
    subst (λ (w : ℕ × List (List Ring) × List (List Ring)). IsWoven w.0 w.1 w.2)
    (λ k. (sym (pairs_count IsLeftBy ds es all) k, same.0 k, same.1 k)) is.wired

pub wired_is : (last n : ℕ) (ds : List Endpoint) (m : Ending) (ss cs : List Ending) → IsRun last n ds → AreLeftBy ds (by_place m ss cs)
    → is_left_cut m ss cs ≡ false → AreWired (by_place m ss cs)
wired_is last n ds m ss cs is all uncut =
    let test : Ending → Bool = λ e. e.trace.is_cut in
    let none : list_any test (by_place m ss cs) ≡ false = ap (λ b. m.trace.is_cut || b) (list_any-append test ss cs) ∙ uncut in
    wired_kept last n ds (by_place m ss cs) is all (none_lost (by_place m ss cs) none)

pub wired_unlost : (last n : ℕ) (ds : List Endpoint) (m : Ending) (ss cs : List Ending) → IsRun last n ds → AreLeftBy ds (by_place m ss cs)
    → is_left_lost m ss cs ≡ false → AreWired (by_place m ss cs)
wired_unlost last n ds m ss cs is all kept = wired_kept last n ds (by_place m ss cs) is all (lost_of_all m ss cs ∙ kept)

same_number : (i c : ℕ) → Client c ≡ process_at (MAX_SERVERS + 1 + i) → c ≡ i
same_number i c at = let here = client_at (MAX_SERVERS + 1 + i) c (same_at (Client c) (MAX_SERVERS + 1 + i) at) in omega (arith, here)

-- a client's number is its position among those of its run
pub number_at : (last n : ℕ) (run : Run) → AreEndpoints last n (MAX_SERVERS + 1) (client_endpoints run) → Each (λ i p. caller_id p.caller ≡ i) run
number_at last n run each i p at =
    let endpoint_of : ClientPost → Endpoint = λ p. caller_endpoint p.caller in
    same_number i (caller_id p.caller) (sym p.caller.is_client ∙ (each i (endpoint_of p) (element_map endpoint_of run i p at)).0)

module _ (run : Run) (places : List (Option client.Client)) (es : List Ending) (many : length places ≡ length run)
    (own : AreIn run places) (left : Pairs IsLeftIn places es) where
  abbrev endpoint_of : ClientPost → Endpoint
  endpoint_of p = caller_endpoint p.caller

  long : length es ≡ length run
  long = pairs_count IsLeftIn places es left ∙ many

  -- a client is who was made at its position
  pub same_made : (i : ℕ) (p : ClientPost) (c : client.Client) → get_elem? run i ≡ some p → get_elem? places i ≡ some (Some c)
      → SameEndpoint (endpoint_of p) (client_endpoint c)
  same_made i p c at there =
      let is = own i (Some c) there c refl in
      let made = element_map endpoint_wiring (client_endpoints run) i (endpoint_of p) (element_map endpoint_of run i p at) in
      let one = subst (λ m. get_elem? (map endpoint_wiring (client_endpoints run)) m ≡ some (client_wiring c)) is.1 is.0 in
      wired_alike (endpoint_of p) (client_endpoint c) (some-injective (client_wiring c) (endpoint_wiring (endpoint_of p)) (sym one ∙ made))

  -- what is left at a position is left by the client that was made there, or is lost
  left_at : (i : ℕ) (p : ClientPost) (place : Option client.Client) (e : Ending) → get_elem? run i ≡ some p → get_elem? places i ≡ some place
      → IsLeftIn place e → IsLeftBy (endpoint_of p) e
  left_at i p None e at there gone = inl gone.1
  left_at i p (Some c) e at there ended =
      left_by (endpoint_of p) (client_endpoint c) e (same_made i p c at there)
      (has_ended (self_of (client_endpoint c)) e (AccountsFor c) ended.0) ended.1 ended.4

  pub clients_left : AreLeftBy (client_endpoints run) es
  clients_left = pairs_from IsLeftBy (client_endpoints run) es (long ∙ sym (length-map run endpoint_of)) (λ i d e at at'.
      let lt = within es i e at' in
      let was = element run i (subst (λ n. i < n) long lt) in
      let place = element places i (subst (λ n. i < n) (long ∙ sym many) lt) in
      let same : endpoint_of was.0 ≡ d = some-injective (endpoint_of was.0) d (sym (element_map endpoint_of run i was.0 was.1) ∙ at) in
      subst (λ x. IsLeftBy x e) same (left_at i was.0 place.0 e was.1 place.1 (pairs_at IsLeftIn places es i place.0 e left place.1 at')))

  reported_of : (t : Traces) (i : ℕ) (place : Option client.Client) (e : Ending) → t.clients.items ≡ map client_trace_of es
      → get_elem? es i ≡ some e → IsLeftIn place e → IsReported t i place
  reported_of t i None e is at gone =
      ap (λ l. get_or (map (λ (x : ClientTrace). x.trace.is_cut) l) i false) is
      ∙ element_or (λ (x : ClientTrace). x.trace.is_cut) (map client_trace_of es) i (client_trace_of e) false
      (element_map client_trace_of es i e at) ∙ gone.0
  reported_of t i (Some c) e is at ended =
      let there = element_map client_trace_of es i e at in (
        ap (λ l. get_or (map (λ (x : ClientTrace). x.trace.events.items) l) i []) is
            ∙ element_or (λ (x : ClientTrace). x.trace.events.items) (map client_trace_of es) i (client_trace_of e) [] there ∙ ended.2,
        ap (λ l. get_or (map (λ (x : ClientTrace). x.«record».items) l) i []) is
            ∙ element_or (λ (x : ClientTrace). x.«record».items) (map client_trace_of es) i (client_trace_of e) [] there ∙ ended.3,
        λ cut. ap (λ l. get_or (map (λ (x : ClientTrace). x.trace.is_cut) l) i false) is
            ∙ element_or (λ (x : ClientTrace). x.trace.is_cut) (map client_trace_of es) i (client_trace_of e) false there ∙ ended.5 cut,
      )

  -- what each client left is in the traces
  pub clients_reported : (t : Traces) (i : ℕ) → t.clients.items ≡ map client_trace_of es → i < length run → IsReported t i (get_or places i None)
  clients_reported t i is lt =
      let e = element es i (subst (λ n. i < n) (sym long) lt) in
      let place = element places i (subst (λ n. i < n) (sym many) lt) in
      subst (λ x. IsReported t i x) (sym (element_is places i place.0 None place.1))
      (reported_of t i place.0 e.0 is e.1 (pairs_at IsLeftIn places es i place.0 e.0 left place.1 e.1))

-- where nothing is lost, all clients are there
is_there : (place : Option client.Client) (e : Ending) → IsLeftIn place e → e.is_lost ≡ false → IsSome place
is_there None e gone kept = absurd (true≢false (sym gone.1 ∙ kept))
is_there (Some c) e left kept = refl

pub all_there : (places : List (Option client.Client)) (es : List Ending) → Pairs IsLeftIn places es → lost_in es ≡ false
    → (i : ℕ) → i < length places → IsSome (get_or places i None)
all_there [] es left kept i lt = absurd (omega (arith, lt))
all_there (p ∷ places) [] left kept i lt = absurd left
all_there (p ∷ places) (e ∷ es) left kept zero lt =
    is_there p e left.0 (neither e.is_lost (lost_in es) kept).0
all_there (p ∷ places) (e ∷ es) left kept (suc i) lt =
    all_there places es left.1 (neither e.is_lost (lost_in es) kept).1 i (omega (arith, lt))
