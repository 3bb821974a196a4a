-- A new file takes the place of the old one, in three calls.
use Rattle.std.proofs.Common.{◌||◌, ◌≡◌, inl, inr, ⊎_elim, sym, ◌∙◌, ap, subst, Bool, true, false, not, ◌&&◌, ℕ, List, ◌∷◌, length, arith}
use Rattle.zjournal.specs.declared.file.mode.SyncMode.{SyncMode}
use Rattle.zjournal.specs.Device.{Elapses, IsEither}
use Rattle.zjournal.proofs.Moments.{elapses_both}
use Rattle.zjournal.specs.file.Events.{Event, IsLeftOf, replay, keeps_name, settled, named, folder_synced, MayLeave}
use Rattle.zjournal.specs.file.Moments.{LeftSince, left_now}
use Rattle.zjournal.proofs.file_lemmas.Seen.{seen_may, kept_only}

-- one call more
pub one_more : (earlier : List Event) (e : Event) → Elapses (length earlier) (length (e ∷ earlier)) (LeftSince earlier) (LeftSince (e ∷ earlier)) (MayLeave (e ∷ earlier))
one_more earlier e = record {
  later = omega arith;
  nothing_else = λ t c le left. ⊎_elim (λ may. inr may) (λ before. inl before.1) left;
  keeps = λ t c le past. inr (le, past);
}

left_whole : (whole : Bool) (bytes c : List ℕ) → whole ≡ true → IsLeftOf whole bytes c → c ≡ bytes
left_whole true bytes c is left = left
left_whole false bytes c is left = absurd (cc is)

whole_is : (begun failed : Bool) → begun ≡ true → failed ≡ false → (true && begun && not failed) ≡ true
whole_is begun failed is sound = ap (λ (b : Bool). true && b && not failed) is ∙ ap (λ (b : Bool). true && true && not b) sound

module _ (events : List Event) where
  abbrev Runs : List Event → Type 0
  Runs more = Elapses (length events) (length more) (LeftSince events) (LeftSince more) (MayLeave more)

module _ (mode : SyncMode) (events : List Event) (sound : (replay events).has_failed ≡ false) (begun : (replay events).is_begun ≡ true) where
  -- the file has the name, and its bytes are on the disk
  pub named_leaves : (ok : Bool) (c : List ℕ) → MayLeave (named ok ∷ settled mode true ∷ events) c → IsEither (MayLeave events) (replay events).beside c
  named_leaves ok c left =
      ⊎_elim (λ same. inl (subst (λ (l : List ℕ). MayLeave events l) (sym same) left.1))
      (λ whole. inr (left_whole (true && (replay events).is_begun && not (replay events).has_failed) (replay events).beside c (whole_is (replay events).is_begun (replay events).has_failed begun sound) whole))
      left.2

  -- the name is on the disk, too
  pub folder_leaves : (c : List ℕ) → MayLeave (folder_synced mode true ∷ named true ∷ settled mode true ∷ events) c → c ≡ (replay events).beside
  folder_leaves c left =
      let m = replay (named true ∷ settled mode true ∷ events) in
      kept_only (keeps_name true m) m c keeps left
    where
      keeps : keeps_name true (replay (named true ∷ settled mode true ∷ events)) ≡ true
      keeps =
          ap (λ (b : Bool). true && not ((b || not true) || not true) && (true && (replay events).is_begun && not b)) sound
          ∙ ap (λ (b : Bool). true && not ((false || not true) || not true) && (true && b && not false)) begun

  pub folder_either : (ok : Bool) (c : List ℕ) → MayLeave (folder_synced mode ok ∷ named true ∷ settled mode true ∷ events) c → IsEither (MayLeave events) (replay events).beside c
  folder_either true c left = inr (folder_leaves c left)
  folder_either false c left = named_leaves true c left

  two_notes : (ok : Bool) → Elapses (length events) (length (named ok ∷ settled mode true ∷ events)) (LeftSince events) (LeftSince (named ok ∷ settled mode true ∷ events)) (MayLeave (named ok ∷ settled mode true ∷ events))
  two_notes ok =
      elapses_both (length events) (length (settled mode true ∷ events)) (length (named ok ∷ settled mode true ∷ events)) (LeftSince events) (LeftSince (settled mode true ∷ events)) (LeftSince (named ok ∷ settled mode true ∷ events))
      (MayLeave (settled mode true ∷ events)) (MayLeave (named ok ∷ settled mode true ∷ events))
      (one_more events (settled mode true)) (one_more (settled mode true ∷ events) (named ok)) (λ t c may. inl (left_now events t c may))

  three_notes : (ok : Bool) → Elapses (length events) (length (folder_synced mode ok ∷ named true ∷ settled mode true ∷ events)) (LeftSince events) (LeftSince (folder_synced mode ok ∷ named true ∷ settled mode true ∷ events)) (MayLeave (folder_synced mode ok ∷ named true ∷ settled mode true ∷ events))
  three_notes ok =
      let mid = named true ∷ settled mode true ∷ events in
      let all = folder_synced mode ok ∷ mid in
      elapses_both (length events) (length mid) (length all) (LeftSince events) (LeftSince mid) (LeftSince all) (MayLeave mid) (MayLeave all)
      (two_notes true) (one_more mid (folder_synced mode ok))
      (λ t c may. ⊎_elim (λ before. inl (left_now events t c before)) (λ is. inr (subst (λ (l : List ℕ). MayLeave all l) (sym is) (seen_may all))) (named_leaves true c may))

  -- where the record is one of these
  pub one_time : (ok : Bool) (more : List Event) → more ≡ settled mode ok ∷ events → Elapses (length events) (length more) (LeftSince events) (LeftSince more) (MayLeave more)
  one_time ok more is = subst (Runs events) (sym is) (one_more events (settled mode ok))

  pub two_time : (ok : Bool) (more : List Event) → more ≡ named ok ∷ settled mode true ∷ events → Elapses (length events) (length more) (LeftSince events) (LeftSince more) (MayLeave more)
  two_time ok more is = subst (Runs events) (sym is) (two_notes ok)

  pub three_time : (ok : Bool) (more : List Event) → more ≡ folder_synced mode ok ∷ named true ∷ settled mode true ∷ events → Elapses (length events) (length more) (LeftSince events) (LeftSince more) (MayLeave more)
  three_time ok more is = subst (Runs events) (sym is) (three_notes ok)

  pub one_either : (ok : Bool) (more : List Event) → more ≡ settled mode ok ∷ events → (c : List ℕ) → MayLeave more c → IsEither (MayLeave events) (replay events).beside c
  one_either ok more is c left = inl (subst (λ (l : List Event). MayLeave l c) is left)

  pub two_either : (ok : Bool) (more : List Event) → more ≡ named ok ∷ settled mode true ∷ events → (c : List ℕ) → MayLeave more c → IsEither (MayLeave events) (replay events).beside c
  two_either ok more is c left = named_leaves ok c (subst (λ (l : List Event). MayLeave l c) is left)

  pub three_either : (ok : Bool) (more : List Event) → more ≡ folder_synced mode ok ∷ named true ∷ settled mode true ∷ events → (c : List ℕ) → MayLeave more c → IsEither (MayLeave events) (replay events).beside c
  three_either ok more is c left = folder_either ok c (subst (λ (l : List Event). MayLeave l c) is left)

  pub taken_only : (more : List Event) → more ≡ folder_synced mode true ∷ named true ∷ settled mode true ∷ events → (c : List ℕ) → MayLeave more c → c ≡ (replay events).beside
  taken_only more is c left = folder_leaves c (subst (λ (l : List Event). MayLeave l c) is left)
