-- One more moment joins those that a file in memory has had.
use Rattle.std.proofs.Common.{◌≡◌, ◌⊎◌, inl, inr, ⊎_elim, ℕ, zero, suc, ◌≤◌, List, [], ◌∷◌, ◌++◌, length, drop, refl}
use Rattle.std.proofs.Common.{sym, ◌∙◌, subst, arith, length-append}
use Rattle.zjournal.specs.declared.moment.Moment.{Moment}
use Rattle.zjournal.specs.Device.{Elapses, Follows}
use Rattle.zjournal.proofs.Moments.{elapses_both}
use Rattle.zjournal.specs.Past.{CanBe, HadBeen, IsCopy, Since}

keeps : (past : List Moment) (v : Moment) (c : List ℕ) → HadBeen past c → HadBeen (past ++ v ∷ []) c
keeps [] v c had = absurd had
keeps (p ∷ past) v c (inl here) = inl here
keeps (p ∷ past) v c (inr there) = inr (keeps past v c there)

adds : (past : List Moment) (v : Moment) (c : List ℕ) → HadBeen (past ++ v ∷ []) c → HadBeen past c ⊎ CanBe v c
adds [] v c (inl here) = inr here
adds [] v c (inr none) = absurd none
adds (p ∷ past) v c (inl here) = inl (inl here)
adds (p ∷ past) v c (inr there) = ⊎_elim (λ had. inl (inr had)) (λ new. inr new) (adds past v c there)

newest : (past : List Moment) (v : Moment) (c : List ℕ) → CanBe v c → HadBeen (past ++ v ∷ []) c
newest [] v c is = inl is
newest (p ∷ past) v c is = inr (newest past v c is)

drop_push : (t : ℕ) (past : List Moment) (v : Moment) → t ≤ length past → drop t (past ++ v ∷ []) ≡ drop t past ++ v ∷ []
drop_push zero past v le = refl
drop_push (suc t) [] v le = absurd (omega arith)
drop_push (suc t) (p ∷ past) v le = drop_push t past v (omega arith)

-- copies can be the same
pub copy_can : (v old : Moment) (c : List ℕ) → IsCopy v old → CanBe v c → CanBe old c
copy_can v old c is (inl disk) = inl (disk ∙ is.0)
copy_can v old c is (inr seen) = inr (seen ∙ is.1)

can_copy : (v old : Moment) (c : List ℕ) → IsCopy v old → CanBe old c → CanBe v c
can_copy v old c is (inl disk) = inl (disk ∙ sym is.0)
can_copy v old c is (inr seen) = inr (seen ∙ sym is.1)

elapses_push : (past : List Moment) (v old new : Moment) → IsCopy v old
    → Elapses (length past) (length (past ++ v ∷ [])) (Since past old) (Since (past ++ v ∷ []) new) (CanBe new)
elapses_push past v old new is = record {
  later = omega (arith, length-append past (v ∷ []));
  nothing_else = λ t c le left. ⊎_elim (λ now. inr now)
      (λ had. inl (was t c (adds (drop t past) v c (subst (λ (l : List Moment). HadBeen l c) (drop_push t past v le) had)))) left;
  keeps = λ t c le left. inr (subst (λ (l : List Moment). HadBeen l c) (sym (drop_push t past v le))
      (⊎_elim (λ now. newest (drop t past) v c (can_copy v old c is now)) (keeps (drop t past) v c) left));
}
  where
    was : (t : ℕ) (c : List ℕ) → HadBeen (drop t past) c ⊎ CanBe v c → Since past old t c
    was t c (inl had) = inr had
    was t c (inr new) = inl (copy_can v old c is new)

pub elapses_to : (past later : List Moment) (v old new : Moment) → IsCopy v old → later ≡ past ++ v ∷ []
    → Elapses (length past) (length later) (Since past old) (Since later new) (CanBe new)
elapses_to past later v old new is same =
    subst (λ (l : List Moment). Elapses (length past) (length l) (Since past old) (Since l new) (CanBe new)) (sym same)
    (elapses_push past v old new is)

-- each outcome follows from the one of its kind
pub follows_each : (step : List ℕ → List ℕ → Type 0) (old new : Moment) → step old.disk.items new.disk.items
    → step old.seen.items new.seen.items → Follows step (CanBe old) (CanBe new)
follows_each step old new disk seen c (inl is) = (old.disk.items, inl refl, subst (step old.disk.items) (sym is) disk)
follows_each step old new disk seen c (inr is) = (old.seen.items, inr refl, subst (step old.seen.items) (sym is) seen)

-- a new file that is on the disk has taken the name, and a crash may leave it or the old one
pub taken_either : (old mid new : Moment) (before disk seen : List ℕ) → IsCopy mid old → disk ≡ seen → seen ≡ before
    → (new.disk.items ≡ mid.disk.items) ⊎ (new.disk.items ≡ disk) → new.seen.items ≡ seen
    → (c : List ℕ) → CanBe new c → CanBe old c ⊎ (c ≡ before)
taken_either old mid new before disk seen copy whole same (inl stays) now c (inl is) = inl (inl (is ∙ stays ∙ copy.0))
taken_either old mid new before disk seen copy whole same (inr next) now c (inl is) = inr (is ∙ next ∙ whole ∙ same)
taken_either old mid new before disk seen copy whole same is_disk now c (inr is) = inr (is ∙ now ∙ same)

-- and the other runs of its three steps
module _ (past after_sync after_name after_all : List Moment) (old mid new last : Moment) where
  pub sync_and_name : Elapses (length past) (length after_sync) (Since past old) (Since after_sync mid) (CanBe mid)
      → IsCopy mid old → Elapses (length after_sync) (length after_name) (Since after_sync mid) (Since after_name new) (CanBe new)
      → Elapses (length past) (length after_name) (Since past old) (Since after_name new) (CanBe new)
  sync_and_name first copy second =
      elapses_both (length past) (length after_sync) (length after_name) (Since past old) (Since after_sync mid)
      (Since after_name new) (CanBe mid) (CanBe new)
      first second (λ t c may. inl (inl (copy_can mid old c copy may)))

  pub all_three : (before : List ℕ) → Elapses (length past) (length after_name) (Since past old) (Since after_name new) (CanBe new)
      → ((c : List ℕ) → CanBe new c → CanBe old c ⊎ (c ≡ before)) → last.seen.items ≡ before
      → Elapses (length after_name) (length after_all) (Since after_name new) (Since after_all last) (CanBe last)
      → Elapses (length past) (length after_all) (Since past old) (Since after_all last) (CanBe last)
  all_three before first either seen second =
      elapses_both (length past) (length after_name) (length after_all) (Since past old) (Since after_name new)
      (Since after_all last) (CanBe new) (CanBe last)
      first second (λ t c may. ⊎_elim (λ was. inl (inl was)) (λ is. inr (inr (is ∙ sym seen))) (either c may))
