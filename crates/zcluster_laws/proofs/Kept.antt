-- A note that waits still waits after an event of the heads, or it is acknowledged then. What was
-- acknowledged stays so, and no note waits whose entry has left Sent.
use Rattle.std.specs.Prelude.{not, if◌then◌else◌, filter}
use Rattle.std.proofs.Common.{◌≡◌, ◌⊎◌, Bool, true, false, List, [], ◌∷◌, map, Option, Some, None, ap, ◌∙◌, subst, inl, inr}
use Rattle.zcalls.specs.Lists.{Among}
use Rattle.zcalls.proofs.Among.{test}
use Rattle.zprotocol.specs.declared.process.Process.TheVariants.{Server}
use Rattle.zprotocol.specs.server.Machine.{Does}
use Rattle.zprotocol.specs.server.Table as server
use Rattle.zprotocol.specs.world.Events.{does_in, let_go}
use Rattle.zprotocol.proofs.world_lemmas.Among.{among_map}
use Rattle.zlinearizability.specs.Cuts.{Stays, cut}
use Rattle.zlinearizability.proofs.legal_lemmas.lists.Members.{among_left, among_right}
use Rattle.zlinearizability.proofs.legal_lemmas.lists.Tests.{not_true}
use Rattle.zheads.specs.Heads.{Note, Begun, Acknowledged, Heads, HeadEvent, Append, Look, InChain, head_machine, update_input, update_note, query_note, begun, is_acknowledged, acknowledge, acts, next}

-- what a filter keeps
filtered : (keeps : Note → Bool) (notes : List Note) (note : Note) → Among note notes → keeps note ≡ true → Among note (filter keeps notes)
filtered keeps [] note a is = absurd a
filtered keeps (n ∷ notes) note (inl e) is = rw (ap keeps e ∙ is) (inl e)
filtered keeps (n ∷ notes) note (inr a) is = elim (test (keeps n)) [
  | inl t ↦ rw t (inr (filtered keeps notes note a is))
  | inr f ↦ rw f (filtered keeps notes note a is)
]

passed : (keeps : Note → Bool) (notes : List Note) (note : Note) → Among note (filter keeps notes) → keeps note ≡ true
passed keeps [] note a = absurd a
passed keeps (n ∷ notes) note a = elim (test (keeps n)) [
  | inl t ↦ elim (subst (Among note) (ap (λ b. if b then n ∷ filter keeps notes else filter keeps notes) t) a) [
    | inl e ↦ subst (λ y. keeps y ≡ true) e t
    | inr b ↦ passed keeps notes note b
  ]
  | inr f ↦ passed keeps notes note (subst (Among note) (ap (λ b. if b then n ∷ filter keeps notes else filter keeps notes) f) a)
]

module _ {M : Type 0} (own : Does M) where
  -- a call has begun
  abbrev pub IsKept : Heads M → Note → Type 0
  IsKept h note = Among note h.waiting ⊎ Among (Acknowledged note) h.seen

  -- no note waits whose entry has left Sent
  abbrev pub IsQuiet : Heads M → Type 0
  IsQuiet h = (note : Note) → Among note h.waiting → is_acknowledged h.world note ≡ false

  pub kept_then : (h : Heads M) (note : Note) → IsKept h note → IsKept (acknowledge h) note
  kept_then h note (inl a) = elim (test (is_acknowledged h.world note)) [
    | inl t ↦ inr (among_right (Acknowledged note) h.seen (map Acknowledged (filter (is_acknowledged h.world) h.waiting))
        (among_map Acknowledged note (filter (is_acknowledged h.world) h.waiting) (filtered (is_acknowledged h.world) h.waiting note a t)))
    | inr f ↦ inl (filtered (λ n. not (is_acknowledged h.world n)) h.waiting note a (ap not f))
  ]
  kept_then h note (inr a) = inr (among_left (Acknowledged note) h.seen (map Acknowledged (filter (is_acknowledged h.world) h.waiting)) a)

  begun_keeps : (h : Heads M) (one note : Note) → IsKept h note → IsKept (begun one h) note
  begun_keeps h one note (inl a) = inl (among_left note h.waiting (one ∷ []) a)
  begun_keeps h one note (inr a) = inr (among_left (Acknowledged note) h.seen (Begun one ∷ []) a)

  -- an event, after which a note is kept as it was
  module _ (h : Heads M) (stays : Stays) (Q : Heads M → Type 0) (same : (w : _) → Q (record h { world = w }))
      (more : (w : _) (one : Note) → Q (begun one (record h { world = w }))) where
    by_event : (event : HeadEvent) → Q (acts own (record h { world = cut stays h.world }) event)
    by_event (Append s u) = by (head_machine h.world s) (server.has_room (h.world.servers s))
      where
        by : (found : Option M) (room : Bool)
            → Q (elim found as (λ f. Heads M) [
              | None ↦ record h { world = cut stays h.world }
              | Some m ↦ if room then begun (update_note own s (h.world.servers s) m u) (record h { world = let_go (does_in own (cut stays h.world) (Server s) (update_input (h.world.servers s) u)) }) else record h { world = cut stays h.world }
            ])
        by None room = same (cut stays h.world)
        by (Some m) true = more (let_go (does_in own (cut stays h.world) (Server s) (update_input (h.world.servers s) u))) (update_note own s (h.world.servers s) m u)
        by (Some m) false = same (cut stays h.world)
    by_event (Look s q) = by (head_machine h.world s)
      where
        by : (found : Option M)
            → Q (elim found as (λ f. Heads M) [
              | None ↦ record h { world = cut stays h.world }
              | Some m ↦ begun (query_note own s (h.world.servers s) m q) (record h { world = cut stays h.world })
            ])
        by None = same (cut stays h.world)
        by (Some m) = more (cut stays h.world) (query_note own s (h.world.servers s) m q)
    by_event (InChain event) = same _

  pub kept_next : (h : Heads M) (step : Stays × HeadEvent) (note : Note) → IsKept h note → IsKept (next own h step) note
  kept_next h (stays, event) note kept =
      kept_then (acts own (record h { world = cut stays h.world }) event) note
      (by_event h stays (λ y. IsKept y note) (λ w. kept) (λ w one. begun_keeps (record h { world = w }) one note kept) event)

  -- what was acknowledged stays so
  pub seen_next : (h : Heads M) (step : Stays × HeadEvent) (note : Note) → Among (Acknowledged note) h.seen → Among (Acknowledged note) (next own h step).seen
  seen_next h (stays, event) note a =
      let after = acts own (record h { world = cut stays h.world }) event in
      among_left (Acknowledged note) after.seen (map Acknowledged (filter (is_acknowledged after.world) after.waiting))
      (by_event h stays (λ y. Among (Acknowledged note) y.seen) (λ w. a) (λ w one. among_left (Acknowledged note) h.seen (Begun one ∷ []) a) event)

  pub quiet_next : (h : Heads M) (step : Stays × HeadEvent) → IsQuiet (next own h step)
  quiet_next h (stays, event) note a =
      let after = acts own (record h { world = cut stays h.world }) event in
      not_true (is_acknowledged after.world note) (passed (λ n. not (is_acknowledged after.world n)) after.waiting note a)
