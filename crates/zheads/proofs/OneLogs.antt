-- A log that explains what callers saw of two heads, and logs that explain nothing.
use Rattle.std.proofs.Common.{◌≡◌, ℕ, ◌+◌, List, [], ◌∷◌, ◌++◌, inl, inr, refl, sym, ap, ◌∙◌, subst, Some, length, arith}
use Rattle.zcalls.specs.declared.call.Call.TheVariants as call
use Rattle.zcalls.specs.declared.call.Update.{Update}
use Rattle.zcalls.specs.Lists.{Among, ComesBefore}
use Rattle.zprotocol.specs.world.support.Counter.{create_update, name_reply}
use Rattle.zheads.specs.Heads.{Note, Begun, Acknowledged}
use Rattle.zheads.specs.OneLog.{IsEntryAfter, state_of, Fits, IsNoLater}
use Rattle.zheads.specs.support.HeadRows.{counting, Explains, made, saw, emptied, misnamed, empty_update, done, one_after_the_other, two_creates}

-- nothing is in an empty log
in_nothing : (n : ℕ) (before : List Update) (u : Update) → IsEntryAfter [] n before u → ⊥
in_nothing n [] u (after, e, p) = cc
in_nothing n (b ∷ before) u (after, e, p) = cc

pub missing : Explains (done (made 1 0)) [] → ⊥
missing x = let f = x.fits (made 1 0) (inr (inl refl)) in in_nothing 1 f.0 create_update f.1

-- only nothing is before the first
before_first : (before : List Update) → 1 ≡ length before + 1 → before ≡ []
before_first [] p = refl
before_first (b ∷ before) p = absurd (omega arith)

names_differ : Some (name_reply 1) ≡ Some (name_reply 0) → ⊥
names_differ e = cc

pub reply : Explains (done misnamed) (create_update ∷ []) → ⊥
reply x =
    let f = x.fits misnamed (inr (inl refl)) in
    names_differ (f.2 ∙ ap (λ before. Some (counting.update (state_of counting before) 0 create_update).1) (before_first f.0 f.1.2))

pub invented : Explains [] (create_update ∷ []) → ⊥
invented x = (x.made 1 [] create_update ([], refl, refl)).1

-- an update is the first of the log
firsts : (log before : List Update) (u : Update) → IsEntryAfter log 1 before u → (after : List Update) × (log ≡ u ∷ after)
firsts log [] u (after, e, p) = (after, e)
firsts log (b ∷ before) u (after, e, p) = absurd (omega arith)

updates_differ : (xs ys : List Update) → create_update ∷ xs ≡ empty_update ∷ ys → ⊥
updates_differ xs ys e = cc

pub two_logs : (log : List Update)
    → Explains (Begun (made 1 0) ∷ Begun (emptied 2 0) ∷ Acknowledged (made 1 0) ∷ Acknowledged (emptied 2 0) ∷ []) log → ⊥
two_logs log x =
    let f = x.fits (made 1 0) (inr (inr (inl refl))) in
    let g = x.fits (emptied 2 0) (inr (inr (inr (inl refl)))) in
    let one = firsts log f.0 create_update f.1 in
    let two = firsts log g.0 empty_update g.1 in
    updates_differ one.0 two.0 (sym one.1 ∙ two.1)

pub stale_query : (log : List Update) → Explains (one_after_the_other (made 1 0) (saw 2 0)) log → ⊥
stale_query log x =
    let late = x.in_time (made 1 0) (saw 2 0) (inr (inl (refl, inl refl))) in omega arith

pub stale_update : (log : List Update) → Explains (one_after_the_other (saw 1 1) (made 2 0)) log → ⊥
stale_update log x =
    let late = x.in_time (saw 1 1) (made 2 0) (inr (inl (refl, inl refl))) in omega arith

-- two heads, one after the other
begun_is_not : (a b : Note) → Begun a ≡ Acknowledged b → ⊥
begun_is_not a b e = cc

one_note : (a b : Note) → Acknowledged a ≡ Acknowledged b → a ≡ b
one_note a b e = cc

no_entry : (before after : List Update) (u : Update) → [] ≡ before ++ u ∷ after → ⊥
no_entry [] after u e = cc
no_entry (b ∷ before) after u e = cc

two_fit : (note : Note) → Among (Acknowledged note) (one_after_the_other (made 1 0) (made 2 1)) → Fits counting two_creates note
two_fit note (inl e) = absurd (begun_is_not (made 1 0) note e)
two_fit note (inr (inl e)) = subst (Fits counting two_creates) (one_note (made 1 0) note e) ([], (create_update ∷ [], refl, refl), refl)
two_fit note (inr (inr (inl e))) = absurd (begun_is_not (made 2 1) note e)
two_fit note (inr (inr (inr (inl e)))) = subst (Fits counting two_creates) (one_note (made 2 1) note e) (create_update ∷ [], ([], refl, refl), refl)
two_fit note (inr (inr (inr (inr none)))) = absurd none

later_is : (second : Note) → Among (Begun second) (done (made 2 1)) → made 2 1 ≡ second
later_is second (inl e) = cc e
later_is second (inr (inl e)) = absurd (begun_is_not second (made 2 1) (sym e))
later_is second (inr (inr none)) = absurd none

one_then_two : IsNoLater (made 1 0).place (made 2 1).place (made 2 1).call
one_then_two = omega arith

two_in_time : (first second : Note) → ComesBefore (Acknowledged first) (Begun second) (one_after_the_other (made 1 0) (made 2 1))
    → IsNoLater first.place second.place second.call
two_in_time first second (inl p) = absurd (begun_is_not (made 1 0) first p.0)
two_in_time first second (inr (inl (e, later))) =
    subst (λ (a : Note). IsNoLater a.place second.place second.call) (one_note (made 1 0) first e)
    (subst (λ (b : Note). IsNoLater (made 1 0).place b.place b.call) (later_is second later) one_then_two)
two_in_time first second (inr (inr (inl p))) = absurd (begun_is_not (made 2 1) first p.0)
two_in_time first second (inr (inr (inr (inl p)))) = absurd p.1
two_in_time first second (inr (inr (inr (inr none)))) = absurd none

two_made : (n : ℕ) (before : List Update) (u : Update) → IsEntryAfter two_creates n before u
    → (note : Note) × Among (Begun note) (one_after_the_other (made 1 0) (made 2 1)) × (note.call ≡ call.Update u) × (note.place ≡ n)
two_made n [] u (after, is, at) =
    let same : create_update ≡ u = cc is in (made 1 0, inl refl, ap call.Update same, sym at)
two_made n (b ∷ []) u (after, is, at) =
    let same : create_update ≡ u = cc is in (made 2 1, inr (inr (inl refl)), ap call.Update same, sym at)
two_made n (b ∷ (c ∷ before)) u (after, is, at) =
    let tails : [] ≡ before ++ u ∷ after = cc is in absurd (no_entry before after u tails)

pub explained : Explains (one_after_the_other (made 1 0) (made 2 1)) two_creates
explained = record { fits = two_fit; in_time = two_in_time; made = two_made }
