-- What was left, where the links report it: where none of it is lost, all went by their tables;
-- where none of it is cut, it makes lawful traces.
use Rattle.std.proofs.Common.{◌≡◌, ◌<◌, ◌≤◌, ◌+◌, ◌||◌, ◌⊎◌, inl, inr, ⊎_elim, ℕ, zero, suc, Bool, false, true≢false}
use Rattle.std.proofs.Common.{List, [], ◌∷◌, ◌++◌, length, map, get_or, refl, sym, ap, subst, ◌∙◌, arith}
use mathlib.Core.Logic.{∥∥₁_map}
use mathlib.Core.Option.{some, some-injective}
use lib.ListN.{get_elem?}
use Rattle.std.proofs.lemmas.List.{get_or_past, length-append, length-map, map-append}
use Rattle.std.proofs.lemmas.Simd.{map-map}
use Rattle.std.specs.List.{list_any}
use Rattle.std.specs.declared.alloc.Global.{Global}
use Rattle.std.specs.declared.vec.Vec.{Vec}
use Rattle.zprotocol.specs.declared.limits.TheConstants.{MAX_SERVERS}
use Rattle.zprotocol.specs.declared.process.Process.{Process}
use Rattle.zprotocol.specs.declared.process.Process.TheVariants.{Master, Server, Client}
use Rattle.zprotocol.specs.declared.traces.trace.Trace.{Trace}
use Rattle.zprotocol.specs.declared.traces.trace.ClientTrace.{ClientTrace}
use Rattle.zprotocol.specs.declared.traces.trace.Traces.{Traces}
use Rattle.zprotocol.specs.traces.Traces.{client_count, record_of, trace_of}
use Rattle.zprotocol.specs.traces.Lawful.{AreLawful, Begins}
use Rattle.zprotocol.specs.Places.{process_at}
use Rattle.zchannels.specs.declared.rings.Tx.{Tx}
use Rattle.zchannels.specs.declared.rings.Rx.{Rx}
use Rattle.zchannels.specs.Rings.{put_of, Ring, ring_of_rx, ring_of_tx, taken_of}
use Rattle.zchannels.specs.Woven.{in_rings, IsWoven, out_rings}
use Rattle.zchannels.specs.Reported.{AreReported, in_lists, out_lists}
use Rattle.zchannels.proofs.Said.{within}
use Rattle.zthreads.specs.declared.endpoint.Ending.{Ending}
use Rattle.zthreads.specs.Endpoints.{Each, IsOutside, TreeDeed, TreeStamped}
use Rattle.zthreads.specs.Endings.{AccountsAtEnd, HasEndedBy}
use Rattle.zthreads.proofs.Endings.{neither}
use Rattle.zrun.specs.Left.{AreLeft, AreLinked, AreWired, by_place, client_trace_of, is_left_cut, is_left_lost, self_at}
use Rattle.zrun.specs.Gone.{Went}
use Rattle.zrun.proofs.Accounts.{accounted, Reports, went}
use Rattle.zrun.proofs.Elements.{choose, chosen_weaker, element_left, element_map, element_or, element_right}
use Rattle.zrun.proofs.Stands.{client_at, client_here, master_at, same_at, server_at, server_here}

-- what was stored of all, one after the other
pub kept_all : {X : Type 0} (f : Ending → X) (m : Ending) (ss cs : List Ending) (a b c d : List X)
    → a ≡ [] → b ≡ a ++ f m ∷ [] → c ≡ b ++ map f ss → d ≡ c ++ map f cs → d ≡ map f (by_place m ss cs)
kept_all f m ss cs a b c d none one servers clients =
    clients
    ∙ ap (λ l. l ++ map f cs) (servers ∙ ap (λ l. l ++ map f ss) (one ∙ ap (λ l. l ++ f m ∷ []) none))
    ∙ ap (λ l. f m ∷ l) (sym (map-append f ss cs))

-- no element of two lists passes a test
none_passes : {X : Type 0} (test : X → Bool) (xs : List X) → list_any test xs ≡ false → Each (λ i x. test x ≡ false) xs
none_passes test (x ∷ xs) none zero y at = subst (λ z. test z ≡ false) (some-injective x y at) (neither (test x) (list_any test xs) none).0
none_passes test (x ∷ xs) none (suc i) y at = none_passes test xs (neither (test x) (list_any test xs) none).1 i y at
none_passes test [] none i y at = absurd (let lt = within [] i y at in omega (arith, lt))

any_both : {X : Type 0} (test : X → Bool) (xs ys : List X) → list_any test xs ≡ false → list_any test ys ≡ false → list_any test (xs ++ ys) ≡ false
any_both test [] ys p q = q
any_both test (x ∷ xs) ys p q = let two = neither (test x) (list_any test xs) p in rw two.0 (any_both test xs ys two.1 q)

pub any_map : {X Y : Type 0} (test : Y → Bool) (f : X → Y) (xs : List X) → list_any test (map f xs) ≡ list_any (λ x. test (f x)) xs
any_map test f [] = refl
any_map test f (x ∷ xs) = ap (λ b. test (f x) || b) (any_map test f xs)

-- what the links of what was left report
module _ (es : List Ending) (wired : AreWired es) (outs : List (Vec (Tx TreeStamped) Global)) (ins : List (Vec (Rx TreeStamped) Global))
    (puts : outs ≡ map (λ (e : Ending). e.outs) es) (takes : ins ≡ map (λ (e : Ending). e.ins) es)
    (reports : AreReported (out_lists outs) (in_lists ins)) where
  links : (i j : ℕ) (a b : Ending) (tx : Tx TreeStamped) (rx : Rx TreeStamped)
      → get_elem? es i ≡ some a → get_elem? a.outs.items j ≡ some tx
      → get_elem? es j ≡ some b → get_elem? b.ins.items i ≡ some rx
      → Begins (taken_of rx) (put_of tx)
  links i j a b tx rx at_a at_tx at_b at_rx =
      reports i j (map put_of a.outs.items) (map taken_of b.ins.items) (put_of tx) (taken_of rx)
      (subst (λ l. get_elem? (out_lists l) i ≡ some (map put_of a.outs.items)) (sym puts)
      (element_map (λ (row : Vec (Tx TreeStamped) Global). map put_of row.items) (map (λ (e : Ending). e.outs) es) i
      a.outs (element_map (λ (e : Ending). e.outs) es i a at_a)))
      (element_map put_of a.outs.items j tx at_tx)
      (subst (λ l. get_elem? (in_lists l) j ≡ some (map taken_of b.ins.items)) (sym takes)
      (element_map (λ (column : Vec (Rx TreeStamped) Global). map taken_of column.items) (map (λ (e : Ending). e.ins) es)
      j b.ins (element_map (λ (e : Ending). e.ins) es j b at_b)))
      (element_map taken_of b.ins.items i rx at_rx)

  pub are_linked : AreLinked es
  are_linked =
      record {
        ins = λ i e at.
            sym (length-map e.ins.items ring_of_rx)
            ∙ wired.each_column i (map ring_of_rx e.ins.items) (element_map (λ (e : Ending). map ring_of_rx e.ins.items) es i e at);
        outs = λ i e at.
            sym (length-map e.outs.items ring_of_tx)
            ∙ wired.each_row i (map ring_of_tx e.outs.items) (element_map (λ (e : Ending). map ring_of_tx e.outs.items) es i e at);
        links = links;
      }

-- a test that no element of all processes passes
none_of_all : (test : Ending → Bool) (m : Ending) (ss cs : List Ending) → (test m || (list_any test ss || list_any test cs)) ≡ false
    → Each (λ i e. test e ≡ false) (by_place m ss cs)
none_of_all test m ss cs none =
    let first = neither (test m) (list_any test ss || list_any test cs) none in
    let rest = neither (list_any test ss) (list_any test cs) first.1 in
    let nowhere : list_any test (by_place m ss cs) ≡ false = rw first.0 (any_both test ss cs rest.0 rest.1) in
    none_passes test (by_place m ss cs) nowhere

-- where nothing is lost, all processes went by their tables, by steps of which this holds too
pub gone : (last : ℕ) (m : Ending) (ss cs : List Ending) (P : ℕ → Ending → List TreeDeed → Type 0) → AreLinked (by_place m ss cs)
    → is_left_lost m ss cs ≡ false → Each (λ i e. HasEndedBy (self_at last (length cs) i) e (P i e)) (by_place m ss cs)
    → ∥ ((deeds : Process → List TreeDeed) × Went last (length cs) (by_place m ss cs) deeds
    × ((i : ℕ) (e : Ending) → get_elem? (by_place m ss cs) i ≡ some e → P i e (deeds (process_at i)))) ∥₁
gone last m ss cs P linked kept left =
    let es = by_place m ss cs in
    let Q : ℕ → Ending → List TreeDeed → Type 0 = λ i e d. AccountsAtEnd (self_at last (length cs) i) e d in
    let both : ℕ → Ending → List TreeDeed → Type 0 = λ i e d. Q i e d × P i e d in
    ∥∥₁_map (choose both es
    (λ i e at. ∥∥₁_map (left i e at (none_of_all (λ (e : Ending). e.is_lost) m ss cs kept i e at)) (λ x. (x.0, (x.1, x.2)))))
    (λ ds. went last (length cs) es ds.0 linked (chosen_weaker both Q es ds.0 ds.1 (λ i e d two. two.0)) P
    (chosen_weaker both P es ds.0 ds.1 (λ i e d two. two.1)))

-- a number is below a bound, or not
pub below : (i n : ℕ) → (i < n) ⊎ (n ≤ i)
below i zero = inr (omega arith)
below zero (suc n) = inl (omega arith)
below (suc i) (suc n) = ⊎_elim (λ h. inl (omega (arith, h))) (λ h. inr (omega (arith, h))) (below i n)

module _ (last : ℕ) (m : Ending) (ss cs : List Ending) (t : Traces) (all_servers : length ss ≡ MAX_SERVERS)
    (end : t.last ≡ last) (chief : t.master.events ≡ m.trace.events)
    (servers : t.servers.items ≡ map (λ (e : Ending). e.trace) ss) (clients : t.clients.items ≡ map client_trace_of cs) where
  abbrev es : List Ending
  es = by_place m ss cs

  many : length es ≡ MAX_SERVERS + 1 + length cs
  many = let two = length-append ss cs in omega (arith, two, all_servers)

  -- where a server's ending is, and a client's
  server_place : (k : ℕ) (e : Ending) → k < MAX_SERVERS → get_elem? es (suc k) ≡ some e → get_elem? ss k ≡ some e
  server_place k e lt at = sym (element_left ss cs k (omega (arith, lt, all_servers))) ∙ at

  client_place : (c i : ℕ) (e : Ending) → i ≡ MAX_SERVERS + 1 + c → get_elem? es i ≡ some e → get_elem? cs c ≡ some e
  client_place c i e is at =
      let next : i ≡ suc (MAX_SERVERS + c) = omega (arith, is) in
      sym (element_right ss cs (MAX_SERVERS + c) c (omega (arith, all_servers))) ∙ subst (λ k. get_elem? es k ≡ some e) next at

  events : (p : Process) (i : ℕ) (e : Ending) → p ≡ process_at i → get_elem? es i ≡ some e → trace_of t p ≡ e.trace.events.items
  events Master i e is at =
      let here = some-injective m e (subst (λ k. get_elem? es k ≡ some e) (master_at i (same_at Master i is)) at) in
      ap (λ v. v.items) chief ∙ ap (λ (x : Ending). x.trace.events.items) here
  events (Server zero) i e is at =
      let where_it_is = server_at i 0 (same_at (Server 0) i is)
      in absurd (let none = where_it_is.0 in let some_server = where_it_is.1 in omega (arith, none, some_server))
  events (Server (suc k)) i e is at =
      let spot = server_at i (suc k) (same_at (Server (suc k)) i is) in
      let here = spot.0 in
      let few = spot.2 in
      let there = server_place k e (omega (arith, here, few)) (subst (λ j. get_elem? es j ≡ some e) here at) in
      ap (λ l. get_or (map (λ (trace : Trace). trace.events.items) l) k []) servers
      ∙ element_or (λ (trace : Trace). trace.events.items) (map (λ (x : Ending). x.trace) ss) k e.trace []
      (element_map (λ (x : Ending). x.trace) ss k e there)
  events (Client c) i e is at =
      let there = client_place c i e (client_at i c (same_at (Client c) i is)) at in
      ap (λ l. get_or (map (λ (client : ClientTrace). client.trace.events.items) l) c []) clients
      ∙ element_or (λ (client : ClientTrace). client.trace.events.items) (map client_trace_of cs) c (client_trace_of e)
      [] (element_map client_trace_of cs c e there)

  reported : (c i : ℕ) (e : Ending) → Client c ≡ process_at i → get_elem? es i ≡ some e → record_of t c ≡ e.seen.items
  reported c i e is at =
      let there = client_place c i e (client_at i c (same_at (Client c) i is)) at in
      ap (λ l. get_or (map (λ (client : ClientTrace). client.«record».items) l) c []) clients
      ∙ element_or (λ (client : ClientTrace). client.«record».items) (map client_trace_of cs) c (client_trace_of e) []
      (element_map client_trace_of cs c e there)

  server_count : length t.servers.items ≡ MAX_SERVERS
  server_count = ap length servers ∙ length-map ss (λ (e : Ending). e.trace) ∙ all_servers

  count : client_count t ≡ length cs
  count = ap length clients ∙ length-map cs client_trace_of

  -- beyond the last client there is none
  none_beyond : {A : Type 0} (f : ClientTrace → List A) (c : ℕ) → IsOutside (Client c) (length es) → get_or (map f t.clients.items) c [] ≡ []
  none_beyond f c out =
      ⊎_elim
      (λ lt. absurd (true≢false (sym (client_here (MAX_SERVERS + 1 + c) c refl) ∙ out (MAX_SERVERS + 1 + c) (omega (arith, lt, many)))))
      (λ ge. get_or_past (map f t.clients.items) c [] (let long = length-map t.clients.items f in omega (arith, ge, long, count)))
      (below c (length cs))

  no_events : (p : Process) → IsOutside p (length es) → trace_of t p ≡ []
  no_events Master out = absurd (true≢false (out 0 (omega (arith, many))))
  no_events (Server zero) out = refl
  no_events (Server (suc k)) out =
      ⊎_elim
      (λ lt. absurd (true≢false (sym (server_here (suc k) (omega arith) (omega (arith, lt))) ∙ out (suc k) (omega (arith, lt, many)))))
      (λ ge. get_or_past (map (λ (trace : Trace). trace.events.items) t.servers.items) k []
      (let long = length-map t.servers.items (λ (trace : Trace). trace.events.items) in omega (arith, ge, long, server_count)))
      (below k MAX_SERVERS)
  no_events (Client c) out = none_beyond (λ (client : ClientTrace). client.trace.events.items) c out

  pub lawful : AreLinked es → AreLeft last (length cs) es → is_left_cut m ss cs ≡ false → ∥ AreLawful t ∥₁
  lawful linked left uncut =
      let whole = none_of_all (λ (e : Ending). e.trace.is_cut) m ss cs uncut in
      let reports : Reports last (length cs) t es = record {
        end = end;
        count = count;
        events = events;
        no_events = no_events;
        reported = reported;
        none_reported = none_beyond (λ (client : ClientTrace). client.«record».items);
        whole = whole;
      } in
      ∥∥₁_map (choose (λ i e d. AccountsAtEnd (self_at last (length cs) i) e d) es (λ i e at. left i e at (e.kept (whole i e at))))
      (λ ds. accounted last (length cs) es ds.0 linked ds.1 t reports)

-- ends that were stored are wired as they were
pub wired_lists : (es : List Ending) (outs : List (Vec (Tx TreeStamped) Global)) (ins : List (Vec (Rx TreeStamped) Global))
    → outs ≡ map (λ (e : Ending). e.outs) es → ins ≡ map (λ (e : Ending). e.ins) es → AreWired es
    → IsWoven (length outs) (out_rings outs) (in_rings ins)
wired_lists es outs ins puts takes wired =
    let rows = ap out_rings puts ∙ map-map (λ (row : Vec (Tx TreeStamped) Global). map ring_of_tx row.items) (λ (e : Ending). e.outs) es in
    let columns = ap in_rings takes ∙ map-map (λ (column : Vec (Rx TreeStamped) Global). map ring_of_rx column.items) (λ (e : Ending). e.ins) es in
    let long = ap length puts ∙ length-map es (λ (e : Ending). e.outs) in
    subst (λ (w : ℕ × List (List Ring) × List (List Ring)). IsWoven w.0 w.1 w.2) (λ k. (sym long k, sym rows k, sym columns k)) wired
