-- What the processes left accounts for what they did, and for the traces of the run.
use Rattle.std.proofs.Common.{◌≡◌, ◌<◌, ℕ, true, false, true≢false, List, [], ◌++◌, length, get_or, refl, sym, ap}
use Rattle.std.proofs.Common.{subst, ◌∙◌, append-nil, append_assoc}
use mathlib.Core.Option.{some}
use lib.ListN.{get_elem?}
use Rattle.zprotocol.specs.server.Machine.{cached_tree}
use Rattle.zprotocol.specs.declared.process.Process.{Process}
use Rattle.zprotocol.specs.declared.process.Process.TheVariants.{Client}
use Rattle.zprotocol.specs.world.World.{opening_world}
use Rattle.zprotocol.specs.declared.traces.trace.Traces.{Traces}
use Rattle.zprotocol.specs.traces.Traces.{client_count, record_of, trace_of}
use Rattle.zprotocol.specs.traces.Deeds.{GoesBy, puts, standing_in, takes, reported_by, trace_by}
use Rattle.zprotocol.specs.traces.Lawful.{AreLawful, Begins}
use Rattle.zprotocol.specs.Places.{process_at}
use Rattle.zchannels.specs.Rings.{taken_of}
use Rattle.zthreads.specs.declared.endpoint.Ending.{Ending}
use Rattle.zthreads.specs.Endpoints.{IsOutside, opening_of, TreeDeed}
use Rattle.zthreads.specs.Endings.{AccountsAtEnd}
use Rattle.zchannels.proofs.Said.{within}
use Rattle.zrun.specs.Left.{AreLinked, self_at}
use Rattle.zrun.specs.Gone.{Went}
use Rattle.zrun.proofs.Elements.{Chosen, chosen_at, element}
use Rattle.zrun.proofs.Stands.{find, Found, Inside, one_place, Outside, same_at}

-- the traces, none of which is cut, report what was left
pub record Reports (last n : ℕ) (t : Traces) (es : List Ending) : Type 0 where
  pub end : t.last ≡ last
  pub count : client_count t ≡ n
  pub events : (p : Process) (i : ℕ) (e : Ending) → p ≡ process_at i → get_elem? es i ≡ some e → trace_of t p ≡ e.trace.events.items
  pub no_events : (p : Process) → IsOutside p (length es) → trace_of t p ≡ []
  pub reported : (c i : ℕ) (e : Ending) → Client c ≡ process_at i → get_elem? es i ≡ some e → record_of t c ≡ e.seen.items
  pub none_reported : (c : ℕ) → IsOutside (Client c) (length es) → record_of t c ≡ []
  pub whole : (i : ℕ) (e : Ending) → get_elem? es i ≡ some e → e.trace.is_cut ≡ false

pub begins_so : {A : Type 0} (a b c : List A) → Begins a b → Begins b c → Begins a c
begins_so a b c x y = (x.0 ++ y.0, y.1 ∙ ap (λ l. l ++ y.0) x.1 ∙ append_assoc a x.0 y.0)

module _ (last n : ℕ) (es : List Ending) (ds : List (List TreeDeed)) (g : AreLinked es)
    (all : Chosen (λ i e d. AccountsAtEnd (self_at last n i) e d) es ds) where
  mine : (i : ℕ) (e : Ending) → get_elem? es i ≡ some e → AccountsAtEnd (self_at last n i) e (get_or ds i [])
  mine i e at = chosen_at (λ i e d. AccountsAtEnd (self_at last n i) e d) es ds all i e [] at

  abbrev deeds_in : (p : Process) → Found p (length es) → List TreeDeed
  deeds_in p (Inside i lt at) = get_or ds i []
  deeds_in p (Outside out) = []

  goes : (p : Process) (f : Found p (length es)) → GoesBy cached_tree p (opening_of last n p) 0 (deeds_in p f)
  goes p (Inside i lt at) =
      let e = element es i lt in
      let went : GoesBy cached_tree (process_at i) (opening_of last n (process_at i)) 0 (get_or ds i []) = (mine i e.0 e.1).goes in
      subst (λ (q : Process). GoesBy cached_tree q (opening_of last n q) 0 (get_or ds i [])) (sym at) went
  goes p (Outside out) = tt

  linked : (from to : Process) (f : Found from (length es)) (h : Found to (length es))
      → Begins (takes from (deeds_in to h)) (puts to (deeds_in from f))
  linked from to f (Outside out) = (puts to (deeds_in from f), refl)
  linked from to (Outside out) (Inside j lt at) =
      let e = element es j lt in
      let none = (mine j e.0 e.1).others from (subst (λ m. IsOutside from m) (sym (g.ins j e.0 e.1)) out) in
      ([], sym (append-nil (takes from (get_or ds j [])) ∙ none))
  linked from to (Inside i lt at) (Inside j lt' at') =
      let a = element es i lt in
      let b = element es j lt' in
      let tx = element a.0.outs.items j (subst (λ m. j < m) (sym (g.outs i a.0 a.1)) lt') in
      let rx = element b.0.ins.items i (subst (λ m. i < m) (sym (g.ins j b.0 b.1)) lt) in
      let taken = (mine j b.0 b.1).taken i rx.0 rx.1 in
      let reported = g.links i j a.0 b.0 tx.0 rx.0 a.1 tx.1 b.1 rx.1 in
      let put = (mine i a.0 a.1).put j tx.0 tx.1 in
      let so : Begins (takes (process_at i) (get_or ds j [])) (puts (process_at j) (get_or ds i [])) =
      begins_so _ (taken_of rx.0) _ taken (subst (λ l. Begins (taken_of rx.0) l) put reported) in
      subst (λ (q : Process × Process). Begins (takes q.0 (get_or ds j [])) (puts q.1 (get_or ds i []))) (λ k. (sym at k, sym at' k)) so

  left : (i : ℕ) (e : Ending) → get_elem? es i ≡ some e → (f : Found (process_at i) (length es))
      → AccountsAtEnd (self_at last n i) e (deeds_in (process_at i) f)
  left i e at (Inside j lt is) = subst (λ k. AccountsAtEnd (self_at last n i) e (get_or ds k [])) (one_place i j is) (mine i e at)
  left i e at (Outside out) = absurd (true≢false (sym (same_at (process_at i) i refl) ∙ out i (within es i e at)))

  -- what else holds of the steps of each
  also : (P : ℕ → Ending → List TreeDeed → Type 0) → Chosen P es ds → (i : ℕ) (e : Ending) → get_elem? es i ≡ some e
      → (f : Found (process_at i) (length es)) → P i e (deeds_in (process_at i) f)
  also P held i e at (Inside j lt is) =
      subst (λ k. P i e (get_or ds k [])) (one_place i j is) (chosen_at P es ds held i e [] at)
  also P held i e at (Outside out) = absurd (true≢false (sym (same_at (process_at i) i refl) ∙ out i (within es i e at)))

  pub went : (P : ℕ → Ending → List TreeDeed → Type 0) → Chosen P es ds
      → (deeds : Process → List TreeDeed) × Went last n es deeds
      × ((i : ℕ) (e : Ending) → get_elem? es i ≡ some e → P i e (deeds (process_at i)))
  went P held =
      let there : (p : Process) → Found p (length es) = λ p. find p (length es) in (
        λ p. deeds_in p (there p),
        record {
          goes = λ p. goes p (there p);
          linked = λ from to. linked from to (there from) (there to);
          left = λ i e at. left i e at (there (process_at i));
        },
        λ i e at. also P held i e at (there (process_at i)),
      )

  module _ (t : Traces) (h : Reports last n t es) where
    went_on : (p : Process) (f : Found p (length es))
        → GoesBy cached_tree p (standing_in (opening_world cached_tree t.last (client_count t)) p) 0 (deeds_in p f)
    unfolding opening_of
    went_on p f =
        subst (λ (w : ℕ × ℕ). GoesBy cached_tree p (standing_in (opening_world cached_tree w.0 w.1) p) 0 (deeds_in p f))
        (λ k. (sym h.end k, sym h.count k)) (goes p f)

    traced : (p : Process) (f : Found p (length es)) → trace_by (deeds_in p f) ≡ trace_of t p
    traced p (Inside i lt at) =
        let e = element es i lt in (mine i e.0 e.1).traced (h.whole i e.0 e.1) ∙ sym (h.events p i e.0 at e.1)
    traced p (Outside out) = sym (h.no_events p out)

    recorded : (c : ℕ) (f : Found (Client c) (length es)) → reported_by (deeds_in (Client c) f) ≡ record_of t c
    recorded c (Inside i lt at) =
        let e = element es i lt in (mine i e.0 e.1).reported (h.whole i e.0 e.1) ∙ sym (h.reported c i e.0 at e.1)
    recorded c (Outside out) = sym (h.none_reported c out)

    pub accounted : AreLawful t
    accounted =
        let there : (p : Process) → Found p (length es) = λ p. find p (length es) in (
          λ p. deeds_in p (there p),
          record {
            goes = λ p. went_on p (there p);
            traced = λ p. traced p (there p);
            linked = λ from to. linked from to (there from) (there to);
            recorded = λ c. recorded c (there (Client c));
          },
        )
