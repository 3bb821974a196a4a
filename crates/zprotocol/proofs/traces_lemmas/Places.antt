-- The traces by position: which one has the next event, and what is left when it is read.
use Rattle.std.proofs.Common.{◌≡◌, ◌⊎◌, ◌<◌, ◌≤◌, ℕ, zero, suc, ◌+◌, ◌-◌, Bool, true, false, ◌==◌, nat_lt, nat_le, List}
use Rattle.std.proofs.Common.{[], ◌∷◌, ◌++◌, Option, Some, None, length, get_or, drop, set, map, replicate, refl, sym}
use Rattle.std.proofs.Common.{ap, ◌∙◌, subst, inl, inr, eqb-true, arith}
use Rattle.std.specs.Prelude.{◌&&◌, ◌||◌}
use Rattle.std.proofs.Math.Nat.{eq-or-lt_of_le}
use Rattle.std.proofs.Math.Seq.{drop-nil}
use Rattle.std.proofs.lemmas.List.{get_or_past, get_or-set_same, get_or-set_other, get_or-replicate, length-map, length-replicate}
use Rattle.std.proofs.lemmas.Bool.Decides.{nat_tests}
use Rattle.ztree.specs.Tree.{Tree}
use Rattle.zcalls.specs.Cached.{CachedState}
use Rattle.zcalls.proofs.Among.{test}
use Rattle.ztree.specs.declared.limits.TheConstants.{MAX_CLIENTS}
use Rattle.zprotocol.specs.declared.limits.TheConstants.{MAX_SERVERS}
use Rattle.zprotocol.specs.declared.process.Process.{Process}
use Rattle.zprotocol.specs.declared.process.Process.TheVariants.{Master, Server, Client}
use Rattle.zprotocol.specs.server.Machine.{cached_tree}
use Rattle.zprotocol.specs.Places.{place_of}
use Rattle.zprotocol.proofs.Places.{place_of-server, place_of-client}
use Rattle.zprotocol.specs.world.Links.{is_same}
use Rattle.zprotocol.specs.world.World.{World}
use Rattle.zprotocol.specs.declared.traces.trace.Trace.{Trace}
use Rattle.zprotocol.specs.declared.traces.trace.ClientTrace.{ClientTrace}
use Rattle.zprotocol.specs.declared.traces.trace.TraceEvent.{TraceEvent}
use Rattle.zprotocol.specs.declared.traces.trace.Traces.{Traces}
use Rattle.zprotocol.specs.traces.Traces.{trace_of, record_of, event_of, Step, comes_before, at_process, Merges, BeginsMerge}
use Rattle.zprotocol.specs.traces.Traces.{is_step_in_place, step_happens, are_in_place}
use Rattle.zprotocol.specs.traces.Audit.{opening_of}
use Rattle.zprotocol.specs.traces.support.Places.{place_count, process_at, index_of, rest_of, stamp_at_front, head_at, chosen}
use Rattle.zprotocol.specs.traces.support.Places.{IsLeast, unread, HasReplayed, IsAllRead, IsReplayFault}
use Rattle.zprotocol.proofs.world_lemmas.Processes.{same_process, same_itself}
use Rattle.zprotocol.proofs.traces_lemmas.Merging.{merges_more, replayed_place, replayed_world}

split_last : (j n : ℕ) → j < n + 1 → (j ≡ n) ⊎ (j < n)
split_last j n lt = eq-or-lt_of_le {n = j} {m = n} (omega (arith, lt))

-- one position more
module _ (t : Traces) (read : List ℕ) (n : ℕ) where
  same_stamp : (j s s' : ℕ) → head_at t read n ≡ Some s → j ≡ n → head_at t read j ≡ Some s' → s' ≡ s
  same_stamp j s s' is e has =
      let both : ◌≡◌ {A = Option ℕ} (Some s') (Some s) = sym has ∙ ap (λ i. head_at t read i) e ∙ is in
      cc both

  least_by : (best : Option (ℕ × ℕ)) (h : Option ℕ) → head_at t read n ≡ h → IsLeast t read n best → IsLeast t read (n + 1) (chosen best n h)
  least_by None None is least =
      λ j lt. elim (split_last j n lt) [ inl e ↦ subst (λ i. head_at t read i ≡ None) (sym e) is | inr l ↦ least j l ]
  least_by None (Some s) is least = (
    omega arith,
    is,
    λ j s' lt has. elim (split_last j n lt) [
      | inl e ↦ inr (same_stamp j s s' is e has, omega (arith, e))
      | inr l ↦
          let both : ◌≡◌ {A = Option ℕ} None (Some s') = sym (least j l) ∙ has in
          absurd (cc both)
    ],
  )
  least_by (Some best) None is least = (
    omega (arith, least.0),
    least.1,
    λ j s' lt has. elim (split_last j n lt) [
      | inl e ↦
          let both : ◌≡◌ {A = Option ℕ} None (Some s') = sym is ∙ ap (λ i. head_at t read i) (sym e) ∙ has in
          absurd (cc both)
      | inr l ↦ least.2 j s' l has
    ],
  )
  least_by (Some best) (Some s) is least = elim (test (nat_lt s best.1)) [
    | inl y ↦
        let under : s < best.1 = grind (arith, nat_tests, y) in
        let result : IsLeast t read (n + 1) (Some (n, s)) = (
          omega arith,
          is,
          λ j s' lt has. elim (split_last j n lt) [
            | inl e ↦ inr (same_stamp j s s' is e has, omega (arith, e))
            | inr l ↦ elim (least.2 j s' l has) [ inl above ↦ inl (omega (arith, above, under)) | inr tie ↦ inl (omega (arith, tie.0, under)) ]
          ],
        ) in
        rw y result
    | inr f ↦
        let over : best.1 ≤ s = grind (arith, nat_tests, f) in
        let result : IsLeast t read (n + 1) (Some best) = (
          omega (arith, least.0),
          least.1,
          λ j s' lt has. elim (split_last j n lt) [
            | inl e ↦
                let same = same_stamp j s s' is e has in
                elim (eq-or-lt_of_le {n = best.1} {m = s} over) [
                  | inl tie ↦ inr (same ∙ sym tie, omega (arith, least.0, e))
                  | inr up ↦ inl (omega (arith, up, same))
                ]
            | inr l ↦ least.2 j s' l has
          ],
        ) in
        rw f result
  ]

pub least_more : (t : Traces) (read : List ℕ) (n : ℕ) (best : Option (ℕ × ℕ)) → IsLeast t read n best
    → IsLeast t read (n + 1) (chosen best n (head_at t read n))
least_more t read n best least = least_by t read n best (head_at t read n) refl least

-- a position, and its process
module _ (t : Traces) where
  abbrev servers : ℕ
  servers = length t.servers.items

  index_at : (j : ℕ) → index_of t (process_at t j) ≡ j
  index_at j = elim (test (j == 0)) [
    | inl z ↦ rw z (sym (eqb-true j 0 z))
    | inr p ↦ rw p (elim (test (nat_le j servers)) [
      | inl y ↦ rw y refl
      | inr f ↦ rw f (grind (arith, nat_tests, f))
    ])
  ]

  -- in the order of positions, too, the master is first, then the servers, then the clients
  pub where_at : (j : ℕ) → j < place_count t
      → ((j ≤ servers) × (place_of (process_at t j) ≡ j)) ⊎ ((servers < j) × (place_of (process_at t j) + servers ≡ MAX_SERVERS + j))
  where_at j inside = elim (test (j == 0)) [
    | inl z ↦ inl (let none : j ≡ 0 = eqb-true j 0 z in omega (arith, none), rw z (sym (eqb-true j 0 z)))
    | inr p ↦ elim (test (nat_le j servers)) [
      | inl y ↦
          let few : j ≤ servers = grind (arith, nat_tests, y) in
          let some : 0 < j = grind (arith, nat_tests, p) in
          inl (few, rw (p, y) (place_of-server j some (omega (arith, few, t.few_servers))))
      | inr f ↦
          let above : servers < j = grind (arith, nat_tests, f) in
          let number = j - (1 + servers) in
          let few : number < MAX_CLIENTS = omega (arith, above, inside, t.few_clients) in
          let place = place_of-client number few in
          inr (above, rw (p, f) (omega (arith, above, place)))
    ]
  ]

  places_rise : (i j : ℕ) → j < place_count t → i ≤ j → place_of (process_at t i) ≤ place_of (process_at t j)
  places_rise i j inside le = elim (where_at i (omega (arith, le, inside))) [
    | inl x ↦ elim (where_at j inside) [ inl y ↦ omega (arith, x.1, y.1, le) | inr y ↦ omega (arith, x.0, x.1, y.0, y.1, le, t.few_servers) ]
    | inr x ↦ elim (where_at j inside) [ inl y ↦ omega (arith, x.0, y.0, le) | inr y ↦ omega (arith, x.1, y.1, le) ]
  ]

  server_place : (n : ℕ) → n < servers → process_at t (suc n) ≡ Server (suc n)
  server_place n lt =
      let positive : (suc n == 0) ≡ false = grind (arith, nat_tests) in
      let small : nat_le (suc n) servers ≡ true = grind (arith, nat_tests, lt) in
      rw (positive, small) refl

  client_place : (c : ℕ) → process_at t (1 + servers + c) ≡ Client c
  client_place c =
      let positive : (1 + servers + c == 0) ≡ false = grind (arith, nat_tests) in
      let large : nat_le (1 + servers + c) servers ≡ false = grind (arith, nat_tests) in
      rw (positive, large) (ap Client (omega arith))

  -- who has a trace has a position
  pub placed : (q : Process) → (trace_of t q ≡ []) ⊎ ((j : ℕ) × (j < place_count t) × (process_at t j ≡ q))
  placed Master = inr (0, omega arith, refl)
  placed (Server zero) = inl refl
  placed (Server (suc n)) = elim (test (nat_lt n servers)) [
    | inl y ↦
        let lt : n < servers = grind (arith, nat_tests, y) in
        inr (suc n, omega (arith, lt), server_place n lt)
    | inr f ↦
        let past : servers ≤ n = grind (arith, nat_tests, f) in
        inl (get_or_past (map (λ (trace : Trace). trace.events.items) t.servers.items) n []
        (omega (arith, past, length-map t.servers.items (λ (trace : Trace). trace.events.items))))
  ]
  placed (Client c) = elim (test (nat_lt c (length t.clients.items))) [
    | inl y ↦
        let lt : c < length t.clients.items = grind (arith, nat_tests, y) in
        inr (1 + servers + c, omega (arith, lt), client_place c)
    | inr f ↦
        let past : length t.clients.items ≤ c = grind (arith, nat_tests, f) in
        inl (get_or_past (map (λ (client : ClientTrace). client.trace.events.items) t.clients.items) c []
        (omega (arith, past, length-map t.clients.items (λ (client : ClientTrace). client.trace.events.items))))
  ]

  -- what the code reads at a position
  pub trace_at_server : (j : ℕ) → (j == 0) ≡ false → nat_le j servers ≡ true → trace_of t (process_at t j)
      ≡ get_or (map (λ (trace : Trace). trace.events.items) t.servers.items) (j - 1) []
  trace_at_server zero p y = absurd (cc p)
  trace_at_server (suc n) p y = rw (p, y) (ap (λ i. get_or (map (λ (trace : Trace). trace.events.items) t.servers.items) i []) (omega arith))

  pub trace_at_client : (j : ℕ) → (j == 0) ≡ false → nat_le j servers ≡ false
      → trace_of t (process_at t j) ≡ get_or (map (λ (client : ClientTrace). client.trace.events.items) t.clients.items) (j - (1 + servers)) []
  trace_at_client j p f = rw (p, f) refl

  module _ (read : List ℕ) where
    pub head_is : (j : ℕ) → head_at t read j ≡ stamp_at_front (rest_of t read (process_at t j))
    head_is j = ap (λ i. stamp_at_front (drop (get_or read i 0) (trace_of t (process_at t j)))) (sym (index_at j))

    front_of : (l : List TraceEvent) (s : ℕ) → stamp_at_front l ≡ Some s → (e : TraceEvent) × (more : List TraceEvent)
        × (l ≡ e ∷ more) × (e.stamp ≡ s)
    front_of [] s is = absurd (cc is)
    front_of (e ∷ more) s is = (e, more, refl, cc is)

    no_front : (l : List TraceEvent) → stamp_at_front l ≡ None → l ≡ []
    no_front [] is = refl
    no_front (e ∷ more) is = absurd (cc is)

    nothing_of : (q : Process) → trace_of t q ≡ [] → rest_of t read q ≡ []
    nothing_of q none = ap (λ l. drop (get_or read (index_of t q) 0) l) none ∙ drop-nil (get_or read (index_of t q) 0)

    -- where no position has an event left, none is left
    pub all_read : IsLeast t read (place_count t) None → IsAllRead t read
    all_read least q = elim (placed q) [
      | inl none ↦ nothing_of q none
      | inr j ↦ subst (λ z. rest_of t read z ≡ []) j.2 (no_front (rest_of t read (process_at t j.0)) (sym (head_is j.0) ∙ least j.0 j.1))
    ]

    -- the next event
    pub next_front : (best : ℕ × ℕ) → IsLeast t read (place_count t) (Some best)
        → (e : TraceEvent) × (more : List TraceEvent) × (rest_of t read (process_at t best.0) ≡ e ∷ more) × (e.stamp ≡ best.1)
    next_front best least = front_of (rest_of t read (process_at t best.0)) best.1 (sym (head_is best.0) ∙ least.1)

    neither : (x y z : Bool) → x ≡ false → z ≡ false → (x || (y && z)) ≡ false
    neither x true z a b = rw (a, b) refl
    neither x false z a b = rw a refl

    pub next_is_first : (best : ℕ × ℕ) (e : TraceEvent) → IsLeast t read (place_count t) (Some best) → e.stamp ≡ best.1
        → (q : Process) (e' : TraceEvent) (others : List TraceEvent) → rest_of t read q ≡ e' ∷ others
        → comes_before (record { process = q; event = e' }) (record { process = process_at t best.0; event = e }) ≡ false
    next_is_first best e least stamp q e' others is = elim (placed q) [
      | inl none ↦
          let both : ◌≡◌ {A = List TraceEvent} [] (e' ∷ others) = sym (nothing_of q none) ∙ is in
          absurd (cc both)
      | inr j ↦ subst (λ z. comes_before (record { process = z; event = e' }) (record { process = process_at t best.0; event = e }) ≡ false) j.2
          (at j.0 j.1 (least.2 j.0 e'.stamp j.1 (head_is j.0 ∙ ap (λ z. stamp_at_front (rest_of t read z)) j.2 ∙ ap stamp_at_front is)))
    ]
      where
        at : (j : ℕ) → j < place_count t → (best.1 < e'.stamp) ⊎ ((e'.stamp ≡ best.1) × (best.0 ≤ j))
            → comes_before (record { process = process_at t j; event = e' }) (record { process = process_at t best.0; event = e }) ≡ false
        at j inside (inl above) =
            let later : nat_lt e'.stamp e.stamp ≡ false = grind (arith, nat_tests, above, stamp) in
            let other : (e'.stamp == e.stamp) ≡ false = grind (arith, nat_tests, above, stamp) in
            rw (later, other) refl
        at j inside (inr tie) =
            let later : nat_lt e'.stamp e.stamp ≡ false = grind (arith, nat_tests, tie.0, stamp) in
            let up = places_rise best.0 j inside tie.1 in
            let behind : nat_lt (place_of (process_at t j)) (place_of (process_at t best.0)) ≡ false = grind (arith, nat_tests, up) in
            neither (nat_lt e'.stamp e.stamp) (e'.stamp == e.stamp) _ later behind

    -- a front that is there
    drop_next : (k : ℕ) (l : List TraceEvent) (e : TraceEvent) (more : List TraceEvent) → drop k l ≡ e ∷ more
        → (drop (k + 1) l ≡ more) × (k < length l)
    drop_next zero [] e more is = absurd (cc is)
    drop_next (suc k) [] e more is = absurd (cc is)
    drop_next zero (x ∷ l) e more is = (cc is, omega arith)
    drop_next (suc k) (x ∷ l) e more is =
        let below = drop_next k l e more is in
        let same : suc (k + 1) ≡ suc k + 1 = omega arith in
        (subst (λ n. drop n (x ∷ l) ≡ more) same below.0, omega (arith, below.1))

    module _ (b : ℕ) (e : TraceEvent) (more : List TraceEvent) (there : b < length read) (front : rest_of t read (process_at t b) ≡ e ∷ more) where
      abbrev after : List ℕ
      after = set read b (get_or read b 0 + 1)

      own_front : drop (get_or read b 0) (trace_of t (process_at t b)) ≡ e ∷ more
      own_front = ap (λ i. drop (get_or read i 0) (trace_of t (process_at t b))) (sym (index_at b)) ∙ front

      pub is_unread : get_or read b 0 < length (trace_of t (process_at t b))
      is_unread = (drop_next (get_or read b 0) (trace_of t (process_at t b)) e more own_front).1

      -- the event that is read
      front_at : (k : ℕ) (l : List TraceEvent) (d : TraceEvent) → drop k l ≡ e ∷ more → get_or l k d ≡ e
      front_at zero [] d is = absurd (cc is)
      front_at (suc k) [] d is = absurd (cc is)
      front_at zero (x ∷ l) d is = cc is
      front_at (suc k) (x ∷ l) d is = front_at k l d is

      pub front_is : (d : TraceEvent) → get_or (trace_of t (process_at t b)) (get_or read b 0) d ≡ e
      front_is d = front_at (get_or read b 0) (trace_of t (process_at t b)) d own_front

      -- what is left, once it is read
      pub rest_moves : (q : Process) → at_process (process_at t b) more (rest_of t read) q ≡ rest_of t after q
      rest_moves q = elim (test (is_same q (process_at t b))) [
        | inl y ↦
            let own : rest_of t after (process_at t b) ≡ more =
            ap (λ i. drop (get_or after i 0) (trace_of t (process_at t b))) (index_at b)
            ∙ ap (λ k. drop k (trace_of t (process_at t b))) (get_or-set_same read b (get_or read b 0 + 1) 0 there)
            ∙ (drop_next (get_or read b 0) (trace_of t (process_at t b)) e more own_front).0 in
            rw y (subst (λ z. more ≡ rest_of t after z) (sym (same_process q (process_at t b) y)) (sym own))
        | inr f ↦ rw f (elim (placed q) [
          | inl none ↦ nothing_of q none ∙ sym (ap (λ l. drop (get_or after (index_of t q) 0) l) none ∙ drop-nil (get_or after (index_of t q) 0))
          | inr j ↦ other q f j.0 j.2
        ])
      ]
        where
          other : (q : Process) → is_same q (process_at t b) ≡ false → (j : ℕ) → process_at t j ≡ q → rest_of t read q ≡ rest_of t after q
          other q f j is =
              let index : index_of t q ≡ j = ap (index_of t) (sym is) ∙ index_at j in
              let apart : j ≡ b → ⊥ =
              λ same.
              let own : is_same q (process_at t b) ≡ true = ap (λ z. is_same z (process_at t b)) (sym is ∙ ap (process_at t) same)
              ∙ same_itself (process_at t b) in
              absurd (cc (own, f)) in
              ap (λ k. drop k (trace_of t q))
              (sym (get_or-set_other read b (index_of t q) (get_or read b 0 + 1) 0 (λ same. apart (sym index ∙ same))))

      -- and fewer are left
      unread_stays : (n : ℕ) → n ≤ b → unread t after n ≡ unread t read n
      unread_stays zero le = refl
      unread_stays (suc n) le =
          let apart : n ≡ b → ⊥ = λ same. absurd (omega (arith, same, le)) in
          ap (λ k. (length (trace_of t (process_at t n)) - k) + unread t after n) (get_or-set_other read b n (get_or read b 0 + 1) 0 apart)
          ∙ ap (λ k. (length (trace_of t (process_at t n)) - get_or read n 0) + k) (unread_stays n (omega (arith, le)))

      pub unread_less : (n : ℕ) → b < n → unread t after n < unread t read n
      unread_less zero lt = absurd (omega (arith, lt))
      unread_less (suc n) lt = elim (eq-or-lt_of_le {n = b} {m = n} (omega (arith, lt))) [
        | inl same ↦ own same
        | inr under ↦
            let apart : n ≡ b → ⊥ = λ same. absurd (omega (arith, same, under)) in
            let one = get_or-set_other read b n (get_or read b 0 + 1) 0 apart in
            let others = unread_less n under in
            subst (λ k. (length (trace_of t (process_at t n)) - k) + unread t after n < (length (trace_of t (process_at t n)) - get_or read n 0)
            + unread t read n) (sym one) (omega (arith, others))
      ]
        where
          own : b ≡ n → unread t after (suc n) < unread t read (suc n)
          own same =
              let stays = unread_stays n (omega (arith, same)) in
              let one : get_or after n 0 ≡ get_or read n 0 + 1 = subst (λ i. get_or after i 0 ≡ get_or read i 0 + 1)
              same (get_or-set_same read b (get_or read b 0 + 1) 0 there) in
              let some : get_or read n 0 < length (trace_of t (process_at t n)) = subst
              (λ i. get_or read i 0 < length (trace_of t (process_at t i))) same is_unread in
              omega (arith, stays, one, some)

  -- nothing was read yet
  pub nothing_read : (n : ℕ) (q : Process) → trace_of t q ≡ rest_of t (replicate n 0) q
  nothing_read n q = sym (ap (λ k. drop k (trace_of t q)) (zeros (index_of t q)))
    where
      zeros : (i : ℕ) → ◌≡◌ {A = ℕ} (get_or (replicate n 0) i 0) 0
      zeros i = elim (test (nat_lt i n)) [
        | inl y ↦ get_or-replicate n i 0 0 (grind (arith, nat_tests, y))
        | inr f ↦ get_or_past (replicate n 0) i 0 (grind (arith, nat_tests, f, length-replicate {A = ℕ} n 0))
      ]

-- one event more is replayed
module _ (t : Traces) (read : List ℕ) (w : World (CachedState Tree)) (best : ℕ × ℕ) (e : TraceEvent) (more : List TraceEvent)
    (replayed : HasReplayed t read w) (least : IsLeast t read (place_count t) (Some best)) (there : best.0 < length read)
    (front : rest_of t read (process_at t best.0) ≡ e ∷ more) (stamp : e.stamp ≡ best.1) where
  abbrev next_step : Step
  next_step = record { process = process_at t best.0; event = e }

  merge_more : Merges (trace_of t) (replayed.0 ++ next_step ∷ []) (rest_of t (set read best.0 (get_or read best.0 0 + 1)))
  merge_more =
      merges_more (trace_of t) replayed.0 (rest_of t read) (rest_of t (set read best.0 (get_or read best.0 0 + 1)))
      (process_at t best.0) e more replayed.1 front
      (next_is_first t read best e least stamp) (rest_moves t read best.0 e more there front)

  pub replayed_more : (after : World (CachedState Tree)) → is_step_in_place w (event_of (process_at t best.0) e.act) ≡ true
      → step_happens cached_tree w (event_of (process_at t best.0) e.act) ≡ after
      → HasReplayed t (set read best.0 (get_or read best.0 0 + 1)) after
  replayed_more after place leads = (
    replayed.0 ++ next_step ∷ [],
    merge_more,
    replayed_place cached_tree (opening_of t) replayed.0 next_step w replayed.2 replayed.3 ∙ place,
    replayed_world cached_tree (opening_of t) replayed.0 next_step w replayed.2 replayed.3 after leads,
  )

  pub replayed_fault : is_step_in_place w (event_of (process_at t best.0) e.act) ≡ false
      → (steps : List Step) × BeginsMerge t steps × (are_in_place cached_tree (opening_of t) steps ≡ false)
  replayed_fault place = (
    replayed.0 ++ next_step ∷ [],
    (rest_of t (set read best.0 (get_or read best.0 0 + 1)), merge_more),
    replayed_place cached_tree (opening_of t) replayed.0 next_step w replayed.2 replayed.3 ∙ place,
  )

-- the element of a list of readings
map_at : {A B : Type 0} (f : A → B) (xs : List A) (i : ℕ) (d : A) (e : B) → i < length xs → get_or (map f xs) i e ≡ f (get_or xs i d)
map_at f [] i d e lt = absurd (omega (arith, lt))
map_at f (x ∷ xs) zero d e lt = refl
map_at f (x ∷ xs) (suc i) d e lt = map_at f xs i d e (omega (arith, lt))

-- the trace of a server, as it is read
pub server_events : (t : Traces) (j : ℕ) (x : Trace) → 0 < j → j ≤ length t.servers.items → x ≡ get_or t.servers.items (j - 1) x
    → x.events.items ≡ trace_of t (process_at t j)
server_events t j x some small is =
    let positive : (j == 0) ≡ false = grind (arith, nat_tests, some) in
    let few : nat_le j (length t.servers.items) ≡ true = grind (arith, nat_tests, small) in
    let under : j - 1 < length t.servers.items = omega (arith, some, small) in
    ap (λ (y : Trace). y.events.items) is
    ∙ sym (map_at (λ (trace : Trace). trace.events.items) t.servers.items (j - 1) x [] under)
    ∙ sym (trace_at_server t j positive few)

-- a test of all positions is one of all traces
pub each_trace : (t : Traces) (f : List TraceEvent → Bool) → f [] ≡ true → ((j : ℕ) → j < place_count t → f (trace_of t (process_at t j)) ≡ true)
    → (p : Process) → f (trace_of t p) ≡ true
each_trace t f none all p = elim (placed t p) [
  | inl empty ↦ ap f empty ∙ none
  | inr j ↦ subst (λ q. f (trace_of t q) ≡ true) j.2 (all j.0 j.1)
]

-- the next event, as it is read
module _ (t : Traces) (read : List ℕ) (w : World (CachedState Tree)) (best : ℕ × ℕ) (x : TraceEvent)
    (replayed : HasReplayed t read w) (least : IsLeast t read (place_count t) (Some best)) (there : best.0 < length read)
    (is : x ≡ get_or (trace_of t (process_at t best.0)) (get_or read best.0 0) x) where
  next_event : (more : List TraceEvent) × (rest_of t read (process_at t best.0) ≡ x ∷ more) × (x.stamp ≡ best.1)
  next_event =
      let (e, more, front, stamp) = next_front t read best least in
      let same : e ≡ x = sym (front_is t read best.0 e more there front x) ∙ sym is in
      (more, subst (λ y. rest_of t read (process_at t best.0) ≡ y ∷ more) same front, subst (λ (y : TraceEvent). y.stamp ≡ best.1) same stamp)

  pub code_replays : (p : Process) (after : World (CachedState Tree)) → p ≡ process_at t best.0 → is_step_in_place w (event_of p x.act) ≡ true
      → step_happens cached_tree w (event_of p x.act) ≡ after → HasReplayed t (set read best.0 (get_or read best.0 0 + 1)) after
  code_replays p after same place leads =
      replayed_more t read w best x next_event.0 replayed least there next_event.1 next_event.2 after
      (subst (λ q. is_step_in_place w (event_of q x.act) ≡ true) same place)
      (subst (λ q. step_happens cached_tree w (event_of q x.act) ≡ after) same leads)

  pub code_refuses : (p : Process) → p ≡ process_at t best.0 → is_step_in_place w (event_of p x.act) ≡ false → IsReplayFault t
  code_refuses p same place =
      replayed_fault t read w best x next_event.0 replayed least there next_event.1 next_event.2
      (subst (λ q. is_step_in_place w (event_of q x.act) ≡ false) same place)

  pub code_reads : unread t (set read best.0 (get_or read best.0 0 + 1)) (place_count t) < unread t read (place_count t)
  code_reads = unread_less t read best.0 x next_event.0 there next_event.1 (place_count t) least.0

-- nothing was replayed yet
pub replayed_nothing : (t : Traces) (n : ℕ) (w : World (CachedState Tree)) → opening_of t ≡ w → HasReplayed t (replicate n 0) w
replayed_nothing t n w is = ([], nothing_read t n, refl, is)

-- a client's record, as it is read
pub client_record : (t : Traces) (c : ℕ) (x : ClientTrace) → c < length t.clients.items → x ≡ get_or t.clients.items c x
    → x.record.items ≡ record_of t c
client_record t c x lt is =
    ap (λ (y : ClientTrace). y.record.items) is
    ∙ sym (map_at (λ (client : ClientTrace). client.record.items) t.clients.items c x [] lt)
