-- What a guard knows of each connection, step by step: what came on it, and what passed of that.
use Rattle.std.proofs.Common.{◌≡◌, ◌≢◌, ◌⊎◌, inl, inr, ◌∙◌, ℕ, Bool, true, false, List, [], ◌++◌, Option, None, Some, refl, sym, ap, subst}
use Rattle.std.specs.Prelude.{if◌then◌else◌}
use Rattle.std.proofs.lemmas.Bool.{and_parts, eq-eqb, ne_eqb}
use Rattle.std.specs.Cmp.{nat_cmp_total}
use Rattle.std.specs.FinMap.{get, insert, nat_cmp-IsAntisymmetric}
use Rattle.std.specs.Option.{option_map, option_map_or}
use Rattle.ztree.proofs.Maps.{get-insert-elsewhere, get-insert-here, get-remove-elsewhere, get-remove-here}
use Rattle.zconnections.specs.buffers.Inputs.InputView.{Opened, Came, Ended, Tick}
use Rattle.zconnections.specs.buffers.Outbox.{ChunkView, first_of}
use Rattle.zfront_laws.specs.Given.{since_step}
use Rattle.zfront_laws.specs.Runs.{Step, Takes, Sent, Took}
use Rattle.zfront_laws.proofs.Seated.{same_number}
use Rattle.zguard.specs.declared.visitor.Standing.{Standing}
use Rattle.zguard.specs.declared.visitor.Standing.TheVariants as at
use Rattle.zguard.specs.Guarding.{CameView, GuardView, HeardView, VisitorRows, VisitorView, answered, came, heard, is_refused, new_visitor, refuses, with_heard_view}
use Rattle.zguard.specs.Guarding as guard
use Rattle.zguard.proofs.Changing.{changed-there}
use Rattle.zguard.proofs.Pieces.{Stands, stands_more}
use Rattle.zguard_laws.specs.Inputs.{after_chunk, ends_refused}
use Rattle.zguard_laws.specs.Runs.{GuardedView, after_step, passed_step}

-- nothing, since the connection isn't there; or what came since it was opened, and what passed
abbrev pub Known : List (List ℕ) → Option (List ℕ) → Option (List ℕ) → Option VisitorView → Type 0
Known logins since passed None = (since ≡ None) × (passed ≡ None)
Known logins since passed (Some v) =
    (came : List ℕ) × (went : List ℕ) × (since ≡ Some came) × (passed ≡ Some went) × Stands logins v.standing came went v.bytes

-- bytes that come on a connection that is there, and on one that isn't
pub came_there : (c : ℕ) (bytes : List ℕ) (g : GuardView) (v : VisitorView) → get g.visitors c ≡ Some v
    → came c bytes g ≡ record { passed = (heard g.logins v bytes).passed; guard = with_heard_view c (heard g.logins v bytes) g }
came_there c bytes g v there =
    ap (λ o. option_map_or {U = CameView} (λ v. let h = heard g.logins v bytes in record { passed = h.passed; guard = with_heard_view c h g }) o
    (record { passed = []; guard = g })) there

pub came_absent : (c : ℕ) (bytes : List ℕ) (g : GuardView) → get g.visitors c ≡ None → came c bytes g ≡ record { passed = []; guard = g }
came_absent c bytes g none =
    ap (λ o. option_map_or {U = CameView} (λ v. let h = heard g.logins v bytes in record { passed = h.passed; guard = with_heard_view c h g }) o
    (record { passed = []; guard = g })) none

-- a visitor that is changed, and the others
changed_here : (to : VisitorView → VisitorView) (rows : VisitorRows) (c : ℕ) (v : VisitorView) → get rows c ≡ Some v
    → get (guard.changed to rows c) c ≡ Some (to v)
changed_here to rows c v there =
    ap (λ m. get m c) (changed-there to rows c v there) ∙ get-insert-here nat_cmp_total nat_cmp-IsAntisymmetric rows c (to v)

changed_elsewhere : (to : VisitorView → VisitorView) (rows : VisitorRows) (c d : ℕ) → c ≢ d → get (guard.changed to rows d) c ≡ get rows c
changed_elsewhere to rows c d other = by (get rows d)
  where
    by : (o : Option VisitorView) → get (option_map_or (λ v. insert rows d (to v)) o rows) c ≡ get rows c
    by None = refl
    by (Some v) = get-insert-elsewhere nat_cmp_total nat_cmp-IsAntisymmetric rows d (to v) c other

-- ---- what bytes leave

-- the logins stay
came_logins : (c : ℕ) (bytes : List ℕ) (g : GuardView) → (came c bytes g).guard.logins ≡ g.logins
came_logins c bytes g = by (get g.visitors c)
  where
    by : (o : Option VisitorView)
        → (option_map_or {U = CameView} (λ v. let h = heard g.logins v bytes in record { passed = h.passed; guard = with_heard_view c h g }) o
        (record { passed = []; guard = g })).guard.logins ≡ g.logins
    by None = refl
    by (Some v) = refl

came_elsewhere : (c d : ℕ) (bytes : List ℕ) (g : GuardView) → c ≢ d → get (came d bytes g).guard.visitors c ≡ get g.visitors c
came_elsewhere c d bytes g other = by (get g.visitors d)
  where
    by : (o : Option VisitorView)
        → get (option_map_or {U = CameView} (λ v. let h = heard g.logins v bytes in record { passed = h.passed; guard = with_heard_view d h g }) o
        (record { passed = []; guard = g })).guard.visitors c ≡ get g.visitors c
    by None = refl
    by (Some v) =
        let h = heard g.logins v bytes in
        changed_elsewhere (λ w. record { standing = h.standing; bytes = h.bytes }) g.visitors c d other

module _ (c : ℕ) (since passed : Option (List ℕ)) (g : GuardView) (known : Known g.logins since passed (get g.visitors c)) where
  -- after a step of the guard
  abbrev KnownAfter : Step → GuardView → Type 0
  KnownAfter step after = Known g.logins (since_step c step since) (since_step c (passed_step g step) passed) (get after.visitors c)

  same_row : (step : Step) (after : GuardView) → since_step c step since ≡ since → since_step c (passed_step g step) passed ≡ passed
      → get after.visitors c ≡ get g.visitors c → KnownAfter step after
  same_row step after is went row =
      subst (λ x. Known g.logins x (since_step c (passed_step g step) passed) (get after.visitors c)) (sym is)
      (subst (λ x. Known g.logins since x (get after.visitors c)) (sym went) (subst (λ o. Known g.logins since passed o) (sym row) known))

  opens : (d : ℕ) → (c ≡ d) ⊎ (c ≢ d) → KnownAfter (Takes (Opened d)) (guard.opened d g)
  opens d (inl same) =
      let there = ap (get (insert g.visitors d new_visitor)) same ∙ get-insert-here nat_cmp_total nat_cmp-IsAntisymmetric g.visitors d new_visitor in
      subst (λ o. Known g.logins (since_step c (Takes (Opened d)) since) (since_step c (Takes (Opened d)) passed) o) (sym there)
      (rw (eq-eqb d c (sym same)) ([], [], refl, refl, (refl, refl)))
  opens d (inr other) =
      let away = ne_eqb d c (λ same. other (sym same)) in
      same_row (Takes (Opened d)) (guard.opened d g) (rw away refl) (rw away refl)
      (get-insert-elsewhere nat_cmp_total nat_cmp-IsAntisymmetric g.visitors d new_visitor c other)

  ends : (d : ℕ) → (c ≡ d) ⊎ (c ≢ d) → KnownAfter (Takes (Ended d)) (guard.ended d g)
  ends d (inl same) =
      let none = ap (get (guard.ended d g).visitors) same ∙ get-remove-here nat_cmp_total nat_cmp-IsAntisymmetric g.visitors d in
      subst (λ o. Known g.logins (since_step c (Takes (Ended d)) since) (since_step c (Takes (Ended d)) passed) o) (sym none)
      (rw (eq-eqb d c (sym same)) (refl, refl))
  ends d (inr other) =
      let away = ne_eqb d c (λ same. other (sym same)) in
      same_row (Takes (Ended d)) (guard.ended d g) (rw away refl) (rw away refl)
      (get-remove-elsewhere nat_cmp_total nat_cmp-IsAntisymmetric g.visitors d c other)

  comes_here : (bytes : List ℕ) (o : Option VisitorView) → get g.visitors c ≡ o → Known g.logins since passed o
      → Known g.logins (option_map (λ came. came ++ bytes) since) (option_map (λ went. went ++ (came c bytes g).passed) passed)
      (get (came c bytes g).guard.visitors c)
  comes_here bytes None none knows =
      let is = came_absent c bytes g none in
      subst (λ o. Known g.logins (option_map (λ came. came ++ bytes) since) (option_map (λ went. went ++ (came c bytes g).passed) passed) o)
      (sym (ap (λ (k : CameView). get k.guard.visitors c) is ∙ none))
      (ap (option_map (λ came. came ++ bytes)) knows.0, ap (option_map (λ went. went ++ (came c bytes g).passed)) knows.1)
  comes_here bytes (Some v) there knows =
      let h = heard g.logins v bytes in
      let is = came_there c bytes g v there in
      subst (λ o. Known g.logins (option_map (λ came. came ++ bytes) since) (option_map (λ went. went ++ (came c bytes g).passed) passed) o)
      (sym (ap (λ (k : CameView). get k.guard.visitors c) is
      ∙ changed_here (λ w. record { standing = h.standing; bytes = h.bytes }) g.visitors c v there)) (
        knows.0 ++ bytes,
        knows.1 ++ h.passed,
        ap (option_map (λ came. came ++ bytes)) knows.2,
        ap (option_map (λ went. went ++ (came c bytes g).passed)) knows.3 ∙ ap (λ (k : CameView). Some (knows.1 ++ k.passed)) is,
        stands_more g.logins v.standing knows.0 knows.1 v.bytes bytes knows.4,
      )

  comes : (d : ℕ) (bytes : List ℕ) → (c ≡ d) ⊎ (c ≢ d) → KnownAfter (Takes (Came d bytes)) (came d bytes g).guard
  comes d bytes (inl same) =
      subst (λ e. KnownAfter (Takes (Came e bytes)) (came e bytes g).guard) same
      (rw (eq-eqb c c refl) (comes_here bytes (get g.visitors c) refl known))
  comes d bytes (inr other) =
      let away = ne_eqb d c (λ same. other (sym same)) in
      same_row (Takes (Came d bytes)) (came d bytes g).guard (rw away refl) (rw away refl) (came_elsewhere c d bytes g other)

  -- ---- the close of a connection

  none_refused : is_refused None ≡ true → ⊥
  none_refused is = cc is

  refused_by : (s : Standing) → is_refused (Some s) ≡ true → s ≡ at.Refused
  refused_by at.Silent is = absurd (cc is)
  refused_by at.Stranger is = absurd (cc is)
  refused_by at.Admitted is = absurd (cc is)
  refused_by at.Refused is = refl

  answers_here : (o : Option VisitorView) → get g.visitors c ≡ o → is_refused (option_map (λ (v : VisitorView). v.standing) o) ≡ true
      → Known g.logins since passed o → Known g.logins since passed (get (answered c g).visitors c)
  answers_here None none is knows = absurd (none_refused is)
  answers_here (Some v) there is knows =
      let refused = refused_by v.standing is in
      subst (λ o. Known g.logins since passed o) (sym (changed_here (λ w. record w { bytes = [] }) g.visitors c v there)) (
        knows.0,
        knows.1,
        knows.2,
        knows.3,
        subst (λ s. Stands g.logins s knows.0 knows.1 []) (sym refused)
            (subst (λ s. Stands g.logins s knows.0 knows.1 v.bytes) refused knows.4),
      )

  answers : (d : ℕ) → (c ≡ d) ⊎ (c ≢ d) → refuses g d ≡ true → Known g.logins since passed (get (answered d g).visitors c)
  answers d (inl same) refused =
      subst (λ e. Known g.logins since passed (get (answered e g).visitors c)) same
      (answers_here (get g.visitors c) refl (ap (refuses g) same ∙ refused) known)
  answers d (inr other) refused =
      subst (λ o. Known g.logins since passed o) (sym (changed_elsewhere (λ w. record w { bytes = [] }) g.visitors c d other)) known

  sends : (chunk : ChunkView) → Known g.logins since passed (get (after_chunk g chunk).visitors c)
  sends chunk = by (ends_refused g chunk) refl
    where
      by : (b : Bool) → ends_refused g chunk ≡ b → Known g.logins since passed (get (if b then answered chunk.connection g else g).visitors c)
      by true is = answers chunk.connection (same_number c chunk.connection) (and_parts _ _ is).1
      by false is = known

-- ---- any step

sent_logins : (g : GuardView) (chunk : ChunkView) → (after_chunk g chunk).logins ≡ g.logins
sent_logins g chunk = by (ends_refused g chunk)
  where
    by : (b : Bool) → (if b then answered chunk.connection g else g).logins ≡ g.logins
    by true = refl
    by false = refl

pub logins_stay : (step : Step) (old : GuardedView) → (after_step step old).logins ≡ old.guard.logins
logins_stay (Takes (Opened d)) old = refl
logins_stay (Takes (Came d bytes)) old = came_logins d bytes old.guard
logins_stay (Takes (Ended d)) old = refl
logins_stay (Takes Tick) old = refl
logins_stay Sent old = by (first_of old.front.tables.unsent)
  where
    by : (o : Option ChunkView) → (option_map_or (λ chunk. after_chunk old.guard chunk) o old.guard).logins ≡ old.guard.logins
    by None = refl
    by (Some chunk) = sent_logins old.guard chunk
logins_stay Took old = refl

pub known_on : (c : ℕ) (since passed : Option (List ℕ)) (step : Step) (old : GuardedView)
    → Known old.guard.logins since passed (get old.guard.visitors c)
    → Known old.guard.logins (since_step c step since) (since_step c (passed_step old.guard step) passed) (get (after_step step old).visitors c)
known_on c since passed (Takes (Opened d)) old known = opens c since passed old.guard known d (same_number c d)
known_on c since passed (Takes (Came d bytes)) old known = comes c since passed old.guard known d bytes (same_number c d)
known_on c since passed (Takes (Ended d)) old known = ends c since passed old.guard known d (same_number c d)
known_on c since passed (Takes Tick) old known = known
known_on c since passed Sent old known = by (first_of old.front.tables.unsent)
  where
    by : (o : Option ChunkView)
        → Known old.guard.logins since passed (get (option_map_or (λ chunk. after_chunk old.guard chunk) o old.guard).visitors c)
    by None = known
    by (Some chunk) = sends c since passed old.guard known chunk
known_on c since passed Took old known = known
