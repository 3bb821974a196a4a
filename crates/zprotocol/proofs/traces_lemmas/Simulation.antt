-- Along the merge of lawful traces each event is at its position. In the world that the events
-- before it lead to, every process is where its own deeds left it. Every link holds what was put
-- there and not yet taken. The message that the next event takes was put by an event with a smaller
-- stamp, so by an earlier one.
use Rattle.std.proofs.Common.{◌≡◌, ◌<◌, ◌≤◌, ℕ, Bool, true, false, cond, ◌==◌, nat_lt, List, [], ◌∷◌, ◌++◌, Option}
use Rattle.std.proofs.Common.{Some, None, drop, refl, sym, ap, ◌∙◌, subst, inl, inr, eqb-true, eq-eqb, arith}
use Rattle.std.proofs.Common.{append_assoc}
use Rattle.std.specs.Prelude.{◌&&◌, ◌||◌, if◌then◌else◌}
use Rattle.std.proofs.lemmas.List.{append-nil}
use Rattle.std.proofs.lemmas.List.Elements.{filter-append}
use Rattle.std.proofs.lemmas.Bool.Decides.{nat_tests}
use Rattle.zcalls.specs.declared.reply.Reply.{Reply}
use Rattle.zcalls.proofs.Among.{test}
use Rattle.zprotocol.specs.declared.process.Process.{Process}
use Rattle.zprotocol.specs.declared.process.Process.TheVariants.{Master, Server, Client}
use Rattle.zprotocol.specs.server.Machine.{Does}
use Rattle.zprotocol.specs.server.View.{Transfer, MessageOf, Post}
use Rattle.zprotocol.specs.server.Table.{is_retirement, server_step}
use Rattle.zprotocol.specs.declared.world.event.Event.{Event}
use Rattle.zprotocol.specs.declared.world.outcome.Outcome.TheVariants.{Acted}
use Rattle.zprotocol.specs.client.Table as client
use Rattle.zprotocol.specs.declared.world.history.CallEvent.TheVariants as call_event
use Rattle.zprotocol.specs.world.History.{History}
use Rattle.zprotocol.specs.world.Links.{is_same, messages_to, without_front}
use Rattle.zprotocol.specs.world.World.{World, opening_world}
use Rattle.zprotocol.specs.world.Does as given
use Rattle.zprotocol.specs.world.Does.{Standing, AtMaster, AtServer, AtClient, Input, Hear, Obey, Stop, answer_reported, server_effect, stop_effect, does}
use Rattle.zprotocol.specs.world.Events.{has_failed, run}
use Rattle.zprotocol.specs.declared.traces.trace.Act.{Act}
use Rattle.zprotocol.specs.declared.traces.trace.Act.TheVariants.{Took, Began, Retried, Ordered, Left, Halted}
use Rattle.zprotocol.specs.declared.traces.trace.TraceEvent.{TraceEvent}
use Rattle.zprotocol.specs.declared.traces.trace.Traces.{Traces}
use Rattle.zprotocol.specs.traces.Deeds.{Stamped, standing_in, Row, Deed, stamp_of, GoesBy, trace_by, taken_from, takes, stamped, puts, reported_by}
use Rattle.zprotocol.specs.traces.Traces.{event_of, Step, comes_before, at_process, Merges, IsMerge, BeginsMerge}
use Rattle.zprotocol.specs.traces.Traces.{is_step_in_place, step_happens, are_in_place, event_list, events_of, client_of}
use Rattle.zprotocol.specs.traces.Traces.{reported_of, trace_of, record_of, client_count, stamps_rise_from, stamps_rise}
use Rattle.zprotocol.specs.traces.Lawful.{AccountFor}
use Rattle.zprotocol.proofs.traces_lemmas.Deeds.{rises, no_delivery, row_has, out_ends}
use Rattle.zprotocol.proofs.traces_lemmas.Flows.{Flows, flows_out, flows_put, flows_take, puts_from_front}
use Rattle.zprotocol.proofs.world_lemmas.Processes.{same_process, same_itself}
use Rattle.zprotocol.proofs.traces_lemmas.Effects.{fronts, Arrives, HappensIn, out_of}
use Rattle.zprotocol.proofs.traces_lemmas.Rows.{row_happens}

swapped : (c d : ℕ) → (d == c) ≡ (c == d)
swapped c d = elim (test (d == c)) [
  | inl t ↦ t ∙ sym (eq-eqb c d (sym (eqb-true d c t)))
  | inr f ↦ elim (test (c == d)) [ inl t ↦ absurd (cc (f, eq-eqb d c (sym (eqb-true c d t)))) | inr g ↦ f ∙ sym g ]
]

nothing : (b : Bool) → ◌≡◌ {A = History} [] (cond b [] [])
nothing true = refl
nothing false = refl

answer_of : (c d : ℕ) (reply : Option (ℕ × Reply)) → reported_of c (answer_reported d reply) ≡ (if c == d then answer_reported d reply else [])
answer_of c d None = nothing (c == d)
answer_of c d (Some reply) = ap (λ b. cond b (call_event.Answer d reply.0 reply.1 ∷ []) []) (swapped c d)

-- neither of two tests
first_false : (a b : Bool) → (a || b) ≡ false → a ≡ false
first_false true b h = absurd (cc h)
first_false false b h = refl

module _ {M : Type 0} (machine : Does M) where
  -- a world, and what is left to do of all deeds. Each process continues from its standing. Each
  -- link holds, with what is still to be put on it, what is still to be taken
  pub record Follows (w : World M) (last : Process → ℕ) (rest : Process → List (Deed M)) : Type 0 where
    pub goes : (p : Process) → GoesBy machine p (standing_in w p) (last p) (rest p)
    pub links : (from to : Process) → Flows (w.links from to) (puts to (rest from)) (takes from (rest to))

  -- the next deed, by stamp
  module _ (w : World M) (last : Process → ℕ) (rest : Process → List (Deed M)) (f : Follows w last rest)
      (p : Process) (left : Standing M) (posts : List (Post M)) (reported : History) (stamp : ℕ) (deeds : List (Deed M))
      (goes_on : GoesBy machine p left stamp deeds)
      (put_then : (y : Process) → puts y (rest p) ≡ stamped stamp (messages_to y posts) ++ puts y deeds)
      (next : (q : Process) (e : Deed M) (others : List (Deed M)) → rest q ≡ e ∷ others → nat_lt e.event.stamp stamp ≡ false) where
    -- what is taken isn't still to be put
    not_late : (from : Process) (m : Stamped M) (others : List (Stamped M)) → m.0 < stamp → puts p (rest from) ≡ m ∷ others → ⊥
    not_late from m others early is = by (rest from) refl (f.goes from) is
      where
        by : (more : List (Deed M)) → rest from ≡ more → GoesBy machine from (standing_in w from) (last from) more → puts p more ≡ m ∷ others → ⊥
        by [] same goes is = absurd (cc is)
        by (e ∷ more) same goes is =
            let up : e.event.stamp ≤ m.0 = puts_from_front machine from (standing_in w from) (last from) e more p m others goes is in
            let before : nat_lt e.event.stamp stamp ≡ false = next from e more same in
            grind (arith, nat_tests, up, before, early)

    -- the links into the process, once it took what it takes
    abbrev OwnFlow : Act → Type 0
    OwnFlow act = (x : Process) → Flows (fronts w.links act p x p) (puts p (rest x)) (takes x deeds)

    -- the message that it takes from a link is there
    took_there : (from : Process) (m : Stamped M) → m.0 < stamp
        → ((x : Process) → takes x (rest p) ≡ taken_from x (Took from Acted) (Some m) ++ takes x deeds)
        → Arrives w p (Took from Acted) (Some m) × OwnFlow (Took from Acted)
    took_there from m early taken = ((front.0, front.1), own)
      where
        takes_front : takes from (rest p) ≡ m ∷ takes from deeds
        takes_front = taken from ∙ ap (λ b. (cond b (m ∷ []) []) ++ takes from deeds) (same_itself from)

        front : (more : List (MessageOf M)) × (w.links from p ≡ m.1 ∷ more) × Flows more (puts p (rest from)) (takes from deeds)
        front =
            flows_take (w.links from p) (puts p (rest from)) m (takes from deeds)
            (subst (λ l. Flows (w.links from p) (puts p (rest from)) l) takes_front (f.links from p))
            (λ others is. not_late from m others early is)

        popped : without_front w.links from p from p ≡ front.0
        popped = rw (same_itself from, same_itself p) (ap (drop 1) front.1)

        own : OwnFlow (Took from Acted)
        own x = elim (test (is_same x from)) [
          | inl t ↦ subst (λ z. Flows (without_front w.links from p z p) (puts p (rest z)) (takes z deeds)) (sym (same_process x from t))
              (subst (λ link. Flows link (puts p (rest from)) (takes from deeds)) (sym popped) front.2)
          | inr n ↦
              let stays : without_front w.links from p x p ≡ w.links x p = rw n refl in
              let none : takes x (rest p) ≡ takes x deeds = taken x ∙ ap (λ b. (cond b (m ∷ []) []) ++ takes x deeds) n in
              subst (λ link. Flows link (puts p (rest x)) (takes x deeds)) (sym stays)
              (subst (λ l. Flows (w.links x p) (puts p (rest x)) l) none (f.links x p))
        ]

    -- what it takes is there
    there : (act : Act) (took : Option (Stamped M)) → Row machine p (standing_in w p) act took left posts reported → stamp_of took < stamp
        → ((x : Process) → takes x (rest p) ≡ taken_from x act took ++ takes x deeds) → Arrives w p act took × OwnFlow act
    there (Took from outcome) (Some m) row early taken = took_there from m early taken
    there Left (Some m) row early taken = took_there Master m early taken
    there Left None row early taken = absurd (cc row)
    there (Took from outcome) None row early taken = absurd (cc (sym (no_delivery machine p (standing_in w p) from outcome) ∙ row))
    there (Began call) took row early taken = (tt, λ x. subst (λ l. Flows (w.links x p) (puts p (rest x)) l) (taken x) (f.links x p))
    there Retried took row early taken = (tt, λ x. subst (λ l. Flows (w.links x p) (puts p (rest x)) l) (taken x) (f.links x p))
    there (Ordered order) took row early taken = (tt, λ x. subst (λ l. Flows (w.links x p) (puts p (rest x)) l) (taken x) (f.links x p))
    there Halted took row early taken = (tt, λ x. subst (λ l. Flows (w.links x p) (puts p (rest x)) l) (taken x) (f.links x p))

    -- what it puts is put
    flow_put : (x y : Process) (link : List (MessageOf M)) (awaited : List (Stamped M)) → Flows link (puts y (rest x)) awaited
        → Flows (if is_same x p then link ++ messages_to y posts else link) (puts y (at_process p deeds rest x)) awaited
    flow_put x y link awaited flow = elim (test (is_same x p)) [
      | inl t ↦ rw t (flows_put link stamp (messages_to y posts) (puts y deeds) awaited
          (subst (λ l. Flows link l awaited) (ap (λ z. puts y (rest z)) (same_process x p t) ∙ put_then y) flow))
      | inr n ↦ rw n flow
    ]

    -- then the world after it is followed by what is left
    follows : (act : Act) (after : World M) → HappensIn w p act left posts reported after → OwnFlow act
        → Follows after (at_process p stamp last) (at_process p deeds rest)
    follows act after did own = record { goes = goes; links = links }
      where
        goes : (q : Process) → GoesBy machine q (standing_in after q) (at_process p stamp last q) (at_process p deeds rest q)
        goes q = subst (λ s. GoesBy machine q s (at_process p stamp last q) (at_process p deeds rest q)) (sym (did.stands q))
            (elim (test (is_same q p)) [
              | inl t ↦ rw t (subst (λ z. GoesBy machine z left stamp deeds) (sym (same_process q p t)) goes_on)
              | inr n ↦ rw n (f.goes q)
            ])

        into : (x : Process) → Flows (after.links x p) (puts p (at_process p deeds rest x)) (takes x deeds)
        into x = elim did.own [
          | inl out ↦
              let none : deeds ≡ [] = out_ends machine p stamp deeds (subst (λ s. GoesBy machine p s stamp deeds) out goes_on) in
              subst (λ l. Flows (after.links x p) (puts p (at_process p deeds rest x)) (takes x l)) (sym none)
              (flows_out (after.links x p) (puts p (at_process p deeds rest x)))
          | inr is ↦ subst (λ link. Flows link (puts p (at_process p deeds rest x)) (takes x deeds)) (sym (is x))
              (flow_put x p (fronts w.links act p x p) (takes x deeds) (own x))
        ]

        -- into another process; one that has failed takes nothing more
        elsewhere : (x y : Process) → is_same y p ≡ false → (failed : Bool) → has_failed w y ≡ failed
            → Flows (after.links x y) (puts y (at_process p deeds rest x)) (takes x (rest y))
        elsewhere x y n false alive =
            subst (λ link. Flows link (puts y (at_process p deeds rest x)) (takes x (rest y))) (sym (did.others x y n alive))
            (flow_put x y (w.links x y) (takes x (rest y)) (f.links x y))
        elsewhere x y n true gone =
            let none : rest y ≡ [] = out_ends machine y (last y) (rest y)
            (subst (λ s. GoesBy machine y s (last y) (rest y)) (out_of w y gone) (f.goes y)) in
            subst (λ l. Flows (after.links x y) (puts y (at_process p deeds rest x)) (takes x l)) (sym none)
            (flows_out (after.links x y) (puts y (at_process p deeds rest x)))

        links : (x y : Process) → Flows (after.links x y) (puts y (at_process p deeds rest x)) (takes x (at_process p deeds rest y))
        links x y = elim (test (is_same y p)) [
          | inl t ↦
              let awaited : at_process p deeds rest y ≡ deeds = ap (λ b. cond b deeds (rest y)) t in
              subst (λ l. Flows (after.links x y) (puts y (at_process p deeds rest x)) (takes x l)) (sym awaited)
              (subst (λ z. Flows (after.links x z) (puts z (at_process p deeds rest x)) (takes x deeds)) (sym (same_process y p t)) (into x))
          | inr n ↦
              let awaited : at_process p deeds rest y ≡ rest y = ap (λ b. cond b deeds (rest y)) n in
              subst (λ l. Flows (after.links x y) (puts y (at_process p deeds rest x)) (takes x l)) (sym awaited)
              (elsewhere x y n (has_failed w y) refl)
        ]

  -- the next deed is at its position, and leads to a world that is followed by what is left
  pub record GoesOn (w : World M) (last : Process → ℕ) (rest : Process → List (Deed M)) (p : Process) (d : Deed M) (deeds : List (Deed M))
      : Type 0 where
    pub in_place : is_step_in_place w (event_of p d.event.act) ≡ true
    pub follows : Follows (step_happens machine w (event_of p d.event.act)) (at_process p d.event.stamp last) (at_process p deeds rest)
    pub history : (step_happens machine w (event_of p d.event.act)).history ≡ w.history ++ d.reported

  goes_on : (w : World M) (last : Process → ℕ) (rest : Process → List (Deed M)) (p : Process) (d : Deed M) (deeds : List (Deed M))
      → Follows w last rest → rest p ≡ d ∷ deeds
      → ((q : Process) (e : Deed M) (others : List (Deed M)) → rest q ≡ e ∷ others → nat_lt e.event.stamp d.event.stamp ≡ false)
      → GoesOn w last rest p d deeds
  goes_on w last rest p d deeds f is next =
      let goes : GoesBy machine p (standing_in w p) (last p) (d ∷ deeds) = subst (λ l. GoesBy machine p (standing_in w p) (last p) l) is (f.goes p) in
      let put_then : (y : Process) → puts y (rest p) ≡ stamped d.event.stamp (messages_to y d.posts) ++ puts y deeds = λ y. ap (puts y) is in
      let taken : (x : Process) → takes x (rest p) ≡ taken_from x d.event.act d.took ++ takes x deeds = λ x. ap (takes x) is in
      let early = (rises p (last p) (stamp_of d.took) d.event.stamp goes.1).1 in
      let came = there w last rest f p d.left d.posts d.reported d.event.stamp deeds goes.2 put_then next d.event.act d.took goes.0 early taken in
      let row = row_happens machine w p d.event.act d.took d.left d.posts d.reported goes.0 came.0 in
      record {
        in_place = row.in_place;
        follows = follows w last rest f p d.left d.posts d.reported d.event.stamp deeds goes.2 put_then next d.event.act _ row.happens came.1;
        history = row.happens.history;
      }

  -- a caller sees only the events of its own client
  abbrev IsOwn : ℕ → Process → History → Type 0
  IsOwn c p reported = reported_of c reported ≡ (if is_same (Client c) p then reported else [])

  does_reported : (c : ℕ) (p : Process) (input : Input M) (standing : Standing M) → IsOwn c p (does machine p input standing).reported
  does_reported c Master (Hear from m) (AtMaster v) = refl
  does_reported c Master (Obey order) (AtMaster v) = refl
  does_reported c Master input standing = refl
  does_reported c (Server s) Stop (AtServer v) = refl
  does_reported c (Server s) (Hear from m) (AtServer v) = by (is_retirement from m)
    where
      by : (b : Bool) → reported_of c (if b then stop_effect else server_effect (server_step machine v from m)).reported ≡ []
      by true = refl
      by false = refl
  does_reported c (Server s) input standing = refl
  does_reported c (Client d) (Hear from m) (AtClient v) = answer_of c d (client.client_step v from m).2
  does_reported c (Client d) (given.Begin call) (AtClient v) = ap
      (λ b. cond b (call_event.Begin d (client.begin_step {T = Transfer M} v call).0.number call ∷ []) []) (swapped c d)
  does_reported c (Client d) given.Retry (AtClient v) = nothing (c == d)
  does_reported c (Client d) input standing = nothing (c == d)

  row_reported : (c : ℕ) (p : Process) (standing : Standing M) (act : Act) (took : Option (Stamped M)) (left : Standing M)
      (posts : List (Post M)) (reported : History)
      → Row machine p standing act took left posts reported → IsOwn c p reported
  row_reported c p standing act took left posts reported row =
      row_has machine p standing (λ did. IsOwn c p did.reported) (λ input is. does_reported c p input standing) (λ from m is. nothing (is_same (Client c) p))
      (λ order is. nothing (is_same (Client c) p)) (record { left = left; posts = posts; reported = reported }) act took row

  -- a run of one event and more
  run_step : (w : World M) (e : Option Event) (events : List Event) → run machine w (event_list e ++ events)
      ≡ run machine (step_happens machine w e) events
  run_step w None events = refl
  run_step w (Some e) events = refl

  -- what holds of the steps of a merge, from a world that is followed by the deeds
  pub record IsRun (w : World M) (rest : Process → List (Deed M)) (steps : List Step) (end : Process → List TraceEvent) : Type 0 where
    pub in_place : are_in_place machine w steps ≡ true
    -- where no event is left
    pub reported : ((p : Process) → end p ≡ []) → (c : ℕ) → reported_of c (run machine w (events_of steps)).history
        ≡ reported_of c w.history ++ reported_by (rest (Client c))

  -- no trace is left, no deed is
  no_trace : (deeds : List (Deed M)) → trace_by deeds ≡ [] → deeds ≡ []
  no_trace [] is = refl
  no_trace (d ∷ deeds) is = absurd (cc is)

  both_true : (a b : Bool) → a ≡ true → b ≡ true → (a && b) ≡ true
  both_true a b x y = rw (x, y) refl

  -- one step, where the run of the others is known
  step_runs : (p : Process) (e : TraceEvent) (steps : List Step) (w : World M) (last : Process → ℕ) (rest : Process
      → List (Deed M)) (traces : Process → List TraceEvent)
      (more : List TraceEvent) (d : Deed M) (deeds : List (Deed M)) (end : Process → List TraceEvent)
      → Follows w last rest → ((q : Process) → traces q ≡ trace_by (rest q))
      → ((q : Process) (e' : TraceEvent) (others : List TraceEvent) → traces q ≡ e' ∷ others
      → comes_before (record { process = q; event = e' }) (record { process = p; event = e }) ≡ false)
      → rest p ≡ d ∷ deeds → d.event ≡ e → trace_by deeds ≡ more
      → ((v : World M) (last : Process → ℕ) (rest : Process → List (Deed M)) → Follows v last rest
      → ((q : Process) → at_process p more traces q ≡ trace_by (rest q)) → IsRun v rest steps end)
      → IsRun w rest (record { process = p; event = e } ∷ steps) end
  step_runs p e steps w last rest traces more d deeds end f traced next front same traced_more ih =
      let g : GoesOn w last rest p d deeds = goes_on w last rest p d deeds f front (λ q e' others is.
      first_false (nat_lt e'.event.stamp d.event.stamp) _
      (subst (λ (ev : TraceEvent). comes_before (record { process = q; event = e'.event }) (record { process = p; event = ev }) ≡ false) (sym same)
      (next q e'.event (trace_by others) (traced q ∙ ap trace_by is)))) in
      let after : World M = step_happens machine w (event_of p d.event.act) in
      let left : Process → List (Deed M) = at_process p deeds rest in
      let traced_left : (q : Process) → at_process p more traces q ≡ trace_by (left q) =
      λ q. elim (test (is_same q p)) [ inl t ↦ rw t (sym traced_more) | inr n ↦ rw n (traced q) ] in
      let r : IsRun after left steps end = ih after (at_process p d.event.stamp last) left g.follows traced_left in
      subst (λ (ev : TraceEvent). IsRun w rest (record { process = p; event = ev } ∷ steps) end) same (record {
        in_place = both_true _ _ g.in_place r.in_place;
        reported = λ none c.
            ap (λ (v : World M). reported_of c v.history) (run_step w (event_of p d.event.act) (events_of steps))
            ∙ r.reported none c
            ∙ ap (λ h. reported_of c h ++ reported_by (left (Client c))) g.history
            ∙ ap (λ h. h ++ reported_by (left (Client c))) (filter-append (λ e. client_of e == c) w.history d.reported)
            ∙ append_assoc (reported_of c w.history) (reported_of c d.reported) (reported_by (left (Client c)))
            ∙ ap (λ h. reported_of c w.history ++ h) (reported c);
      })
    where
      left_then : Process → List (Deed M)
      left_then = at_process p deeds rest

      row : GoesBy machine p (standing_in w p) (last p) (d ∷ deeds)
      row = subst (λ l. GoesBy machine p (standing_in w p) (last p) l) front (f.goes p)

      reported : (c : ℕ) → reported_of c d.reported ++ reported_by (left_then (Client c)) ≡ reported_by (rest (Client c))
      reported c =
          ap (λ h. h ++ reported_by (left_then (Client c))) (row_reported c p (standing_in w p) d.event.act d.took d.left d.posts d.reported row.0)
          ∙ elim (test (is_same (Client c) p)) [
            | inl t ↦ rw t (sym (ap (λ z. reported_by (rest z)) (same_process (Client c) p t) ∙ ap reported_by front))
            | inr n ↦ rw n refl
          ]

  pub merge_runs : (steps : List Step) (w : World M) (last : Process → ℕ) (rest : Process → List (Deed M)) (traces end : Process → List TraceEvent)
      → Follows w last rest → ((p : Process) → traces p ≡ trace_by (rest p)) → Merges traces steps end → IsRun w rest steps end
  merge_runs [] w last rest traces end f traced merge = record {
    in_place = refl;
    reported = λ none c.
        sym (append-nil (reported_of c w.history))
        ∙ ap (λ l. reported_of c w.history ++ reported_by l)
        (sym (no_trace (rest (Client c)) (sym (traced (Client c)) ∙ merge (Client c) ∙ none (Client c))));
  }
  merge_runs (step ∷ steps) w last rest traces end f traced merge =
      by (rest step.process) refl (sym (traced step.process) ∙ merge.1)
      (λ v last rest f traced. merge_runs steps v last rest (at_process step.process merge.0 traces) end f traced merge.3)
    where
      by : (deeds : List (Deed M)) → rest step.process ≡ deeds → trace_by deeds ≡ step.event ∷ merge.0
          → ((v : World M) (last : Process → ℕ) (rest : Process → List (Deed M)) → Follows v last rest
          → ((q : Process) → at_process step.process merge.0 traces q ≡ trace_by (rest q)) → IsRun v rest steps end)
          → IsRun w rest (step ∷ steps) end
      by [] front is ih = absurd (cc is)
      by (d ∷ deeds) front is ih =
          let same : d.event ≡ step.event = cc is in
          let others : trace_by deeds ≡ merge.0 = cc is in
          step_runs step.process step.event steps w last rest traces merge.0 d deeds end f traced merge.2 front same others ih

  -- lawful traces are followed from the opening
  abbrev opening_of : Traces → World M
  opening_of t = opening_world machine t.last (client_count t)

  runs : (t : Traces) (deeds : Process → List (Deed M)) (steps : List Step) (end : Process → List TraceEvent)
      → AccountFor machine t deeds → Merges (trace_of t) steps end
      → IsRun (opening_of t) deeds steps end
  runs t deeds steps end account merge =
      let f : Follows (opening_of t) (λ p. 0) deeds = record {
        goes = account.goes;
        links = λ from to. ([], (account.linked from to).0, refl, (account.linked from to).1);
      } in
      merge_runs steps (opening_of t) (λ p. 0) deeds (trace_of t) end f (λ p. sym (account.traced p)) merge

  -- each event of their merge is at its position, as far as one goes
  pub lawful_in_place : (t : Traces) (deeds : Process → List (Deed M)) (steps : List Step) → AccountFor machine t deeds → BeginsMerge t steps
      → are_in_place machine (opening_of t) steps ≡ true
  lawful_in_place t deeds steps account merge = (runs t deeds steps merge.0 account merge.1).in_place

  -- and the run of all has in its history, of each client, what its record does
  pub lawful_reported : (t : Traces) (deeds : Process → List (Deed M)) (steps : List Step) → AccountFor machine t deeds → IsMerge t steps
      → (c : ℕ) → reported_of c (run machine (opening_of t) (events_of steps)).history ≡ record_of t c
  lawful_reported t deeds steps account merge c = (runs t deeds steps (λ p. []) account merge).reported (λ p. refl) c ∙ account.recorded c

  -- and their stamps rise
  stamps_rise_by : (p : Process) (standing : Standing M) (last : ℕ) (deeds : List (Deed M)) → GoesBy machine p standing last deeds
      → stamps_rise_from last (trace_by deeds) ≡ true
  stamps_rise_by p standing last [] goes = refl
  stamps_rise_by p standing last (d ∷ deeds) goes =
      let up = (rises p last (stamp_of d.took) d.event.stamp goes.1).0 in
      let above : nat_lt last d.event.stamp ≡ true = grind (arith, nat_tests, up) in
      both_true _ _ above (stamps_rise_by p d.left d.event.stamp deeds goes.2)

  pub lawful_stamps_rise : (t : Traces) (deeds : Process → List (Deed M)) → AccountFor machine t deeds → (p : Process)
      → stamps_rise (trace_of t p) ≡ true
  lawful_stamps_rise t deeds account p =
      subst (λ l. stamps_rise l ≡ true) (account.traced p)
      (first_too (trace_by (deeds p)) (stamps_rise_by p (standing_in (opening_world machine t.last (client_count t)) p) 0 (deeds p) (account.goes p)))
    where
      first_too : (l : List TraceEvent) → stamps_rise_from 0 l ≡ true → stamps_rise l ≡ true
      first_too [] h = refl
      first_too (e ∷ more) h = right (nat_lt 0 e.stamp) (stamps_rise_from e.stamp more) h
        where
          right : (a b : Bool) → (a && b) ≡ true → b ≡ true
          right true b h = h
          right false b h = absurd (cc h)
