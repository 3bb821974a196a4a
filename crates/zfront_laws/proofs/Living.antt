-- After a sweep each session that has an attachment is one of the tree.
use Rattle.std.proofs.Common.{◌≡◌, ◌∙◌, ℕ, Bool, true, false, List, [], ◌∷◌, refl, sym, ap}
use Rattle.std.specs.Prelude.{not, ◌||◌}
use Rattle.std.specs.Cmp.{nat_cmp_total}
use Rattle.std.specs.FinMap.{contains_key, nat_cmp-IsAntisymmetric}
use Rattle.std.specs.List.{filter, list_any}
use Rattle.std.specs.Ordering.{eq_by_cmp, nat_cmp}
use Rattle.ztree.proofs.Maps.{tied_same, get-removed}
use Rattle.ztree.specs.Tree.{Sessions}
use Rattle.zconnections.specs.Sweeping.{is_gone, swept, swept_all}
use Rattle.zconnections.specs.Tables.{TablesView, moved}
use Rattle.zfront_laws.proofs.Changes.{sweeps_all}
use Rattle.zfront_laws.proofs.Lighter.{Lighter, carries_lighter}
use Rattle.zfront_laws.proofs.Seated.{Has}

-- who was swept has no attachment

sweeps_away : (ids : List ℕ) (t : TablesView) (id : ℕ) → list_any (eq_by_cmp nat_cmp id) ids ≡ true → Has (swept_all ids t).attachments id → ⊥
sweeps_away [] t id is has = cc
sweeps_away (session ∷ ids) t id is has = by (λ some. sweeps_away ids (swept session t) id some has) (eq_by_cmp nat_cmp id session) refl is
  where
    by : (list_any (eq_by_cmp nat_cmp id) ids ≡ true → ⊥) → (b : Bool) → eq_by_cmp nat_cmp id session ≡ b
        → b || list_any (eq_by_cmp nat_cmp id) ids ≡ true → ⊥
    by later true same some =
        let kept = (sweeps_all Lighter carries_lighter ids (swept session t)).1.1 id has in
        (get-removed nat_cmp_total nat_cmp-IsAntisymmetric (moved session t).attachments session id kept.0 kept.1).0
        (tied_same nat_cmp_total nat_cmp-IsAntisymmetric id session same)
    by later false other some = later some

-- a key that passes a test is among those that do
among : (test : ℕ → Bool) (id : ℕ) → test id ≡ true → (ids : List ℕ) → list_any (eq_by_cmp nat_cmp id) ids ≡ true
    → list_any (eq_by_cmp nat_cmp id) (filter test ids) ≡ true
among test id passes [] is = is
among test id passes (first ∷ ids) is = by (among test id passes ids) (eq_by_cmp nat_cmp id first) refl (test first) refl is
  where
    by : (list_any (eq_by_cmp nat_cmp id) ids ≡ true → list_any (eq_by_cmp nat_cmp id) (filter test ids) ≡ true)
        → (same : Bool) → eq_by_cmp nat_cmp id first ≡ same → (b : Bool) → test first ≡ b → same || list_any (eq_by_cmp nat_cmp id) ids ≡ true
        → list_any (eq_by_cmp nat_cmp id) (filter test (first ∷ ids)) ≡ true
    by later true are true taken some = rw (taken, are) refl
    by later true are false left some =
        let clash : true ≡ false = sym passes ∙ ap test (tied_same nat_cmp_total nat_cmp-IsAntisymmetric id first are) ∙ left in
        absurd (cc clash)
    by later false are true taken some = rw (taken, are) (later some)
    by later false are false left some = rw left (later some)

-- so after a sweep of those that may be gone each attachment is of a session of the tree
pub swept_lives : (sessions : Sessions) (ids : List ℕ) (t : TablesView) (id : ℕ) → Has (swept_all (filter (is_gone sessions) ids) t).attachments id
    → (contains_key sessions id ≡ false → list_any (eq_by_cmp nat_cmp id) ids ≡ true) → contains_key sessions id ≡ true
swept_lives sessions ids t id has listed = by (contains_key sessions id) refl
  where
    by : (b : Bool) → contains_key sessions id ≡ b → contains_key sessions id ≡ true
    by true is = is
    by false is = absurd (sweeps_away (filter (is_gone sessions) ids) t id (among (is_gone sessions) id (ap not is) ids (listed is)) has)
