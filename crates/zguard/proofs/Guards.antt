-- What bytes do to a guard, by the standing of their connection.
use Rattle.std.proofs.Common.{◌≡◌, ℕ, List, [], Option, Some, None, ◌⊎◌, inl, inr, refl, sym, ap, ◌∙◌}
use Rattle.std.specs.Cmp.{nat_cmp_total}
use Rattle.std.specs.FinMap.{get, insert, nat_cmp-IsAntisymmetric, same_map}
use Rattle.std.proofs.lemmas.Bool.{cases_eq}
use Rattle.ztree.proofs.Maps.{get-insert-elsewhere, get-insert-here}
use Rattle.std.specs.Option.{option_map, option_map_or}
use Rattle.zguard.specs.declared.visitor.Standing.{Standing}
use Rattle.zguard.specs.declared.visitor.Standing.TheVariants as at
use Rattle.zguard.specs.Guarding.{CameView, GuardView, HeardView, VisitorRows, VisitorView, answered, bytes_at, came, heard, heard_in, standing_at, with_heard_view}
use Rattle.zguard.proofs.Changing.{changed-changed, changed-there}

-- a connection with this standing
pub record IsThere (rows : VisitorRows) (c : ℕ) (s : Standing) : Type 0 where
  pub visitor : VisitorView
  pub there : get rows c ≡ Some visitor
  pub stands : visitor.standing ≡ s

some_is : (a b : Standing) → Some a ≡ Some b → a ≡ b
some_is a b e = cc e

none_is : (s : Standing) → None ≡ Some s → ⊥
none_is s e = cc e

pub standing_there : (rows : VisitorRows) (c : ℕ) (s : Standing) → standing_at rows c ≡ Some s → IsThere rows c s
standing_there rows c s stands = by (get rows c) refl stands
  where
    by : (o : Option VisitorView) → get rows c ≡ o → option_map (λ (v : VisitorView). v.standing) o ≡ Some s → IsThere rows c s
    by None is e = absurd (none_is s e)
    by (Some v) is e = record { visitor = v; there = is; stands = some_is v.standing s e }

-- what came of bytes of a connection that is there
came_there : (c : ℕ) (bytes : List ℕ) (g : GuardView) (v : VisitorView) → get g.visitors c ≡ Some v
    → (came c bytes g).guard ≡ with_heard_view c (heard g.logins v bytes) g
came_there c bytes g v there =
    ap (λ o. (option_map_or {U = CameView} (λ v. let h = heard g.logins v bytes in record { passed = h.passed; guard = with_heard_view c h g }) o
    (record { passed = []; guard = g })).guard) there

came_absent : (c : ℕ) (bytes : List ℕ) (g : GuardView) → get g.visitors c ≡ None → (came c bytes g).guard ≡ g
came_absent c bytes g none =
    ap (λ o. (option_map_or {U = CameView} (λ v. let h = heard g.logins v bytes in record { passed = h.passed; guard = with_heard_view c h g }) o
    (record { passed = []; guard = g })).guard) none

-- a connection is stored as it is
stored_again : (rows : VisitorRows) (c : ℕ) (v : VisitorView) → get rows c ≡ Some v → insert rows c v ≡ rows
stored_again rows c v there = same_map nat_cmp_total nat_cmp-IsAntisymmetric _ _ each
  where
    by : (q : ℕ) → (q ≡ c) ⊎ (q ≡ c → ⊥) → get (insert rows c v) q ≡ get rows q
    by q (inl is) =
        ap (get (insert rows c v)) is ∙ get-insert-here nat_cmp_total nat_cmp-IsAntisymmetric rows c v ∙ sym there ∙ ap (get rows) (sym is)
    by q (inr other) = get-insert-elsewhere nat_cmp_total nat_cmp-IsAntisymmetric rows c v q other

    each : (q : ℕ) → get (insert rows c v) q ≡ get rows q
    each q = by q (cases_eq q c)

-- one that is heard, and stays as it was
kept : (c : ℕ) (g : GuardView) (v : VisitorView) (h : HeardView) → get g.visitors c ≡ Some v → record { standing = h.standing; bytes = h.bytes } ≡ v
    → g ≡ with_heard_view c h g
kept c g v h there same =
    ap (λ rows. record g { visitors = rows })
    (sym (changed-there (λ w. record { standing = h.standing; bytes = h.bytes }) g.visitors c v there
    ∙ ap (λ w. insert g.visitors c w) same ∙ stored_again g.visitors c v there))

pub admitted_stays : (c : ℕ) (bytes : List ℕ) (g : GuardView) → standing_at g.visitors c ≡ Some at.Admitted → g ≡ (came c bytes g).guard
admitted_stays c bytes g stands =
    let is = standing_there g.visitors c at.Admitted stands in
    let v = is.visitor in
    let h = heard_in at.Admitted g.logins v.bytes bytes in
    kept c g v h is.there (ap (λ s. record { standing = s; bytes = v.bytes }) (sym is.stands))
    ∙ ap (λ s. with_heard_view c (heard_in s g.logins v.bytes bytes) g) (sym is.stands)
    ∙ sym (came_there c bytes g v is.there)

pub refused_stays : (c : ℕ) (bytes : List ℕ) (g : GuardView) → standing_at g.visitors c ≡ Some at.Refused → g ≡ (came c bytes g).guard
refused_stays c bytes g stands =
    let is = standing_there g.visitors c at.Refused stands in
    let v = is.visitor in
    let h = heard_in at.Refused g.logins v.bytes bytes in
    kept c g v h is.there (ap (λ s. record { standing = s; bytes = v.bytes }) (sym is.stands))
    ∙ ap (λ s. with_heard_view c (heard_in s g.logins v.bytes bytes) g) (sym is.stands)
    ∙ sym (came_there c bytes g v is.there)

pub absent_stays : (c : ℕ) (bytes : List ℕ) (g : GuardView) → standing_at g.visitors c ≡ None → g ≡ (came c bytes g).guard
absent_stays c bytes g none = by (get g.visitors c) refl none
  where
    by : (o : Option VisitorView) → get g.visitors c ≡ o → option_map (λ (v : VisitorView). v.standing) o ≡ None → g ≡ (came c bytes g).guard
    by None is e = sym (came_absent c bytes g is)
    by (Some v) is e = absurd (none_is v.standing (sym e))

-- what was heard of its bytes, which were taken, is stored
pub stored : (c : ℕ) (bytes : List ℕ) (g : GuardView) (s : Standing) (h : HeardView) → standing_at g.visitors c ≡ Some s
    → h ≡ heard_in s g.logins (bytes_at g.visitors c) bytes → with_heard_view c h (answered c g) ≡ (came c bytes g).guard
stored c bytes g s h stands same =
    let is = standing_there g.visitors c s stands in
    let v = is.visitor in
    let own : bytes_at g.visitors c ≡ v.bytes = ap (λ o. option_map_or (λ (w : VisitorView). w.bytes) o []) is.there in
    ap (λ rows. record g { visitors = rows })
    (changed-changed (λ w. record { standing = h.standing; bytes = h.bytes }) (λ w. record w { bytes = [] }) g.visitors c)
    ∙ ap (λ k. with_heard_view c k g) (same ∙ ap (λ xs. heard_in s g.logins xs bytes) own ∙ ap (λ t. heard_in t g.logins v.bytes bytes) (sym is.stands))
    ∙ sym (came_there c bytes g v is.there)
