-- A new part begins, in four calls. A crash leaves what it might have left before them.
use Rattle.std.proofs.Common.{◌≡◌, inl, sym, subst, Bool, true, List, ℕ, ◌∷◌, length, arith}
use Rattle.zjournal.specs.declared.file.mode.SyncMode.{SyncMode}
use Rattle.zjournal.specs.Device.{Elapses}
use Rattle.zjournal.specs.file.Events.{Event, part_begun, part_settled, part_named, part_kept, MayLeave}
use Rattle.zjournal.specs.file.Moments.{LeftSince, left_now}
use Rattle.zjournal.proofs.Moments.{elapses_both}
use Rattle.zjournal.proofs.file_lemmas.Named.{one_more}

-- more calls, and nothing else that a crash may leave
pub record Still (events more : List Event) : Type 0 where
  pub leaves : (c : List ℕ) → MayLeave more c → MayLeave events c
  pub time : Elapses (length events) (length more) (LeftSince events) (LeftSince more) (MayLeave more)

still_none : (events : List Event) → Still events events
still_none events = record {
  leaves = λ c may. may;
  time = record { later = omega arith; nothing_else = λ t c le left. inl left; keeps = λ t c le past. past };
}

still_more : (events mid : List Event) (e : Event) → Still events mid → ((c : List ℕ) → MayLeave (e ∷ mid) c → MayLeave mid c) → Still events (e ∷ mid)
still_more events mid e so_far same = record {
  leaves = λ c may. so_far.leaves c (same c may);
  time =
      elapses_both (length events) (length mid) (length (e ∷ mid)) (LeftSince events) (LeftSince mid) (LeftSince (e ∷ mid)) (MayLeave mid) (MayLeave (e ∷ mid))
      so_far.time (one_more mid e) (λ t c may. inl (left_now events t c (so_far.leaves c may)));
}

module _ (events : List Event) where
  begun : (ok : Bool) → Still events (part_begun ok ∷ events)
  begun ok = still_more events events (part_begun ok) (still_none events) (λ c may. may)

  settled : (mode : SyncMode) (ok : Bool) → Still events (part_settled mode ok ∷ part_begun true ∷ events)
  settled mode ok = still_more events (part_begun true ∷ events) (part_settled mode ok) (begun true) (λ c may. may)

  named : (mode : SyncMode) (ok : Bool) → Still events (part_named ok ∷ part_settled mode true ∷ part_begun true ∷ events)
  named mode ok = still_more events (part_settled mode true ∷ part_begun true ∷ events) (part_named ok) (settled mode true) (λ c may. may)

  kept : (mode last : SyncMode) (ok : Bool) → Still events (part_kept last ok ∷ part_named true ∷ part_settled mode true ∷ part_begun true ∷ events)
  kept mode last ok = still_more events (part_named true ∷ part_settled mode true ∷ part_begun true ∷ events) (part_kept last ok) (named mode true) (λ c may. may)

  -- where the record is one of these
  pub begun_still : (ok : Bool) (first : List Event) → first ≡ part_begun ok ∷ events → Still events first
  begun_still ok first is = subst (Still events) (sym is) (begun ok)

  module _ (first : List Event) (first_is : first ≡ part_begun true ∷ events) (mode : SyncMode) where
    pub settled_still : (ok : Bool) (second : List Event) → second ≡ part_settled mode ok ∷ first → Still events second
    settled_still ok second is = subst (Still events) (sym is) (subst (λ (l : List Event). Still events (part_settled mode ok ∷ l)) (sym first_is) (settled mode ok))

    module _ (second : List Event) (second_is : second ≡ part_settled mode true ∷ first) where
      both : (P : List Event → Type 0) → P (part_settled mode true ∷ part_begun true ∷ events) → P second
      both P p = subst P (sym second_is) (subst (λ (l : List Event). P (part_settled mode true ∷ l)) (sym first_is) p)

      pub named_still : (ok : Bool) (third : List Event) → third ≡ part_named ok ∷ second → Still events third
      named_still ok third is = subst (Still events) (sym is) (both (λ (l : List Event). Still events (part_named ok ∷ l)) (named mode ok))

      pub kept_still : (last : SyncMode) (ok : Bool) (third fourth : List Event) → third ≡ part_named true ∷ second → fourth ≡ part_kept last ok ∷ third → Still events fourth
      kept_still last ok third fourth third_is is =
          subst (Still events) (sym is)
          (subst (λ (l : List Event). Still events (part_kept last ok ∷ l)) (sym third_is)
          (both (λ (l : List Event). Still events (part_kept last ok ∷ part_named true ∷ l)) (kept mode last ok)))
