-- The endpoints of a run, one after the other, and the links that they were handed.
use Rattle.std.proofs.Common.{◌≡◌, ◌<◌, ◌≤◌, ◌+◌, ℕ, zero, suc, Bool, List, [], ◌∷◌, ◌++◌, length, map, reverse, refl}
use Rattle.std.proofs.Common.{sym, ap, subst, ◌∙◌, append-nil, append_assoc, arith}
use Rattle.std.proofs.lemmas.List.{length-map, length-reverse, map-append, nil_from_length, reverse-append}
use Rattle.zprotocol.specs.declared.limits.TheConstants.{MAX_SERVERS}
use mathlib.Core.Option.{some-injective, some-ne-none}
use Rattle.zprotocol.specs.declared.process.Process.TheVariants.{Server, Client}
use Rattle.zprotocol.proofs.world_lemmas.Processes.{same_process}
use Rattle.zprotocol.specs.Places.{process_at}
use Rattle.zrun.proofs.Elements.{element_right}
use Rattle.zrun.proofs.Stands.{client_here, server_here}
use Rattle.zthreads.specs.Owned.{server_endpoint}
use Rattle.zthreads.specs.Callers.{caller_endpoint}
use Rattle.zrun.specs.declared.posts.ClientPost.{ClientPost}
use Rattle.zrun.specs.declared.posts.ServerPost.{ServerPost}
use Rattle.zrun.specs.Origins.{client_endpoints, Run}
use Rattle.zrun.specs.Posts.{post_endpoints}
use Rattle.zchannels.specs.Rings.{Ring}
use Rattle.zchannels.specs.Woven.{in_rings, IsWoven, out_rings}
use Rattle.zthreads.specs.declared.endpoint.Endpoint.{Endpoint}
use Rattle.zthreads.specs.Endpoints.{IsEndpointOf}
use Rattle.zrun.specs.declared.opening.Ends.{Ends}
use Rattle.zrun.specs.declared.supply.Supply.{Supply}
use Rattle.zrun.specs.Openings.{HasEnds, in_rings_in, out_rings_in}
use Rattle.zrun.specs.Runs.{AreEndpoints, AreTraced, in_rings_of, IsRun, out_rings_of}
use Rattle.zrun.specs.Supplies.{HandsEnds, HandsOut, in_rings_left, left, out_rings_left}

pub reverse_push : {X : Type 0} (xs : List X) (x : X) → reverse (xs ++ x ∷ []) ≡ x ∷ reverse xs
reverse_push xs x = reverse-append xs (x ∷ [])

-- who is at the position of a client, and at that of a server
pub client_process : (i c : ℕ) → i ≡ MAX_SERVERS + 1 + c → Client c ≡ process_at i
client_process i c at = same_process (Client c) (process_at i) (client_here i c at)

pub server_process : (i s : ℕ) → i ≡ s → 0 < s → s ≤ MAX_SERVERS → Server s ≡ process_at i
server_process i s at first few = same_process (Server s) (process_at s) (server_here s first few) ∙ ap process_at (sym at)

-- the endpoints of what was put after others, and is seen from the end
pub clients_pushed : (new old : Run) (c : ClientPost) → new ≡ old ++ c ∷ []
    → client_endpoints (reverse new) ≡ caller_endpoint c.caller ∷ client_endpoints (reverse old)
clients_pushed new old c grown = ap (λ l. client_endpoints (reverse l)) grown ∙ ap client_endpoints (reverse_push old c)

pub posts_pushed : (new old : List ServerPost) (p : ServerPost) → new ≡ old ++ p ∷ [] → post_endpoints new ≡ server_endpoint p.member ∷ post_endpoints old
posts_pushed new old p grown = ap post_endpoints grown ∙ ap (λ l. map (λ (q : ServerPost). server_endpoint q.member) l) (reverse_push old p)

pub posts_count : (posts : List ServerPost) → length (post_endpoints posts) ≡ length posts
posts_count posts = length-map (reverse posts) (λ (p : ServerPost). server_endpoint p.member) ∙ length-reverse posts

module _ (last n : ℕ) where
  pub no_endpoints : (k : ℕ) → AreEndpoints last n k []
  no_endpoints k i d at = absurd (some-ne-none d (sym at))

  pub more_endpoints : (k : ℕ) (d : Endpoint) (ds : List Endpoint) → IsEndpointOf (process_at k) last n d → AreEndpoints last n (suc k) ds → AreEndpoints last n k (d ∷ ds)
  more_endpoints k d ds first rest zero e at =
      let here : k ≡ k + 0 = omega arith in
      subst (λ (w : ℕ × Endpoint). IsEndpointOf (process_at w.0) last n w.1) (λ j. (here j, some-injective d e at j)) first
  more_endpoints k d ds first rest (suc i) e at =
      let there : suc k + i ≡ k + suc i = omega arith in
      subst (λ m. IsEndpointOf (process_at m) last n e) there (rest i e at)

  -- the first of them, and the others
  pub first_endpoint : (k : ℕ) (d : Endpoint) (ds : List Endpoint) → AreEndpoints last n k (d ∷ ds) → IsEndpointOf (process_at k) last n d
  first_endpoint k d ds all = let here : k + 0 ≡ k = omega arith in subst (λ m. IsEndpointOf (process_at m) last n d) here (all 0 d refl)

  pub other_endpoints : (k : ℕ) (d : Endpoint) (ds : List Endpoint) → AreEndpoints last n k (d ∷ ds) → AreEndpoints last n (suc k) ds
  other_endpoints k d ds all i e at =
      let there : k + suc i ≡ suc k + i = omega arith in subst (λ m. IsEndpointOf (process_at m) last n e) there (all (suc i) e at)

  pub both_endpoints : (k : ℕ) (ds es : List Endpoint) → AreEndpoints last n k ds → AreEndpoints last n (k + length ds) es → AreEndpoints last n k (ds ++ es)
  both_endpoints k [] es one two = let here : k + 0 ≡ k = omega arith in subst (λ m. AreEndpoints last n m es) here two
  both_endpoints k (d ∷ ds) es one two =
      let there : k + suc (length ds) ≡ suc k + length ds = omega arith in
      more_endpoints k d (ds ++ es) (first_endpoint k d ds one) (both_endpoints (suc k) ds es (other_endpoints k d ds one)
      (subst (λ m. AreEndpoints last n m es) there two))

-- one traced as the others
pub more_traced : (t : Bool) (d : Endpoint) (ds : List Endpoint) → d.is_traced ≡ t → AreTraced t ds → AreTraced t (d ∷ ds)
more_traced t d ds first rest zero e at = subst (λ (x : Endpoint). x.is_traced ≡ t) (some-injective d e at) first
more_traced t d ds first rest (suc i) e at = rest i e at

pub both_traced : (t : Bool) (ds es : List Endpoint) → AreTraced t ds → AreTraced t es → AreTraced t (ds ++ es)
both_traced t [] es one two = two
both_traced t (d ∷ ds) es one two = more_traced t d (ds ++ es) (one 0 d refl) (both_traced t ds es (λ i e at. one (suc i) e at) two)

pub hands_none : (a : Supply) → HandsOut a a []
hands_none a = (sym (append-nil (out_rings_left a)), sym (append-nil (in_rings_left a)))

module _ {X Y : Type 0} (f : Y → X) where
  one_before : (a b c : List X) (r : X) (d : Y) (ds : List Y) → a ≡ b ++ map f ds → b ≡ c ++ r ∷ [] → f d ≡ r → a ≡ c ++ map f (d ∷ ds)
  one_before a b c r d ds was more is =
      was ∙ ap (λ l. l ++ map f ds) more ∙ append_assoc c (r ∷ []) (map f ds) ∙ ap (λ x. c ++ (x ∷ map f ds)) (sym is)

  some_before : (a b c : List X) (ds es : List Y) → a ≡ b ++ map f ds → b ≡ c ++ map f es → a ≡ c ++ map f (es ++ ds)
  some_before a b c ds es was more =
      was ∙ ap (λ l. l ++ map f ds) more ∙ append_assoc c (map f es) (map f ds) ∙ ap (λ l. c ++ l) (sym (map-append f es ds))

-- one more was handed out
pub hands_more : (a b c : Supply) (e : Ends) (d : Endpoint) (ds : List Endpoint) → HandsOut a b ds → HandsEnds b c e → HasEnds e d → HandsOut a c (d ∷ ds)
hands_more a b c e d ds was more has = (
  one_before out_rings_of (out_rings_left a) (out_rings_left b) (out_rings_left c) (out_rings_in e) d ds was.0 more.0 has.0,
  one_before in_rings_of (in_rings_left a) (in_rings_left b) (in_rings_left c) (in_rings_in e) d ds was.1 more.1 has.1,
)

pub hands_both : (a b c : Supply) (ds es : List Endpoint) → HandsOut a b ds → HandsOut b c es → HandsOut a c (es ++ ds)
hands_both a b c ds es was more = (
  some_before out_rings_of (out_rings_left a) (out_rings_left b) (out_rings_left c) ds es was.0 more.0,
  some_before in_rings_of (in_rings_left a) (in_rings_left b) (in_rings_left c) ds es was.1 more.1,
)

-- all that was woven was handed out
pub is_run : (last n count : ℕ) (a b : Supply) (ds : List Endpoint) → IsWoven count (out_rings_left a) (in_rings_left a) → left b ≡ 0
    → HandsOut a b ds → AreEndpoints last n 0 ds → IsRun last n ds
is_run last n count a b ds woven none all each =
    let no_outs : b.outs.items ≡ [] = nil_from_length b.outs.items none in
    let no_ins : b.ins.items ≡ [] = nil_from_length b.ins.items (b.pairs ∙ none) in
    let outs : out_rings_left a ≡ map out_rings_of ds = all.0 ∙ ap (λ l. out_rings l ++ map out_rings_of ds) no_outs in
    let ins : in_rings_left a ≡ map in_rings_of ds = all.1 ∙ ap (λ l. in_rings l ++ map in_rings_of ds) no_ins in
    let long : count ≡ length ds = sym woven.rows ∙ ap length outs ∙ length-map ds out_rings_of in
    record {
      each = each;
      wired = subst (λ (w : ℕ × List (List Ring) × List (List Ring)). IsWoven w.0 w.1 w.2) (λ k. (long k, outs k, ins k)) woven;
    }

-- the endpoints after others
pub later_endpoints : (last n k : ℕ) (ds es : List Endpoint) → AreEndpoints last n k (ds ++ es) → AreEndpoints last n (k + length ds) es
later_endpoints last n k ds es all i e at =
    let there : k + (length ds + i) ≡ k + length ds + i = omega arith in
    subst (λ m. IsEndpointOf (process_at m) last n e) there (all (length ds + i) e (element_right ds es (length ds + i) i refl ∙ at))
