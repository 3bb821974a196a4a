-- Tables without connections, in which each session has an attachment that is marked.
use Rattle.std.proofs.Common.{◌≡◌, ◌≢◌, ◌⊎◌, inl, inr, ◌∙◌, ℕ, Bool, true, false, List, [], ◌∷◌, Option, None, Some, refl, sym, ap, subst}
use Rattle.std.specs.Prelude.{◌||◌}
use Rattle.std.specs.Cmp.{nat_cmp_total}
use Rattle.std.specs.FinMap as finite
use Rattle.std.specs.FinMap.{get, insert, nat_cmp-IsAntisymmetric}
use Rattle.std.specs.FinSet as sets
use Rattle.std.specs.List.{list_any}
use Rattle.std.specs.Option.{option_map}
use Rattle.std.specs.Ordering.{eq_by_cmp, nat_cmp}
use Rattle.ztree.proofs.Maps.{get-insert-here, get-insert-elsewhere, get-inserted, none_some, tied, tied_same}
use Rattle.zconnections.specs.declared.buffers.phase.Phase.{Phase}
use Rattle.zconnections.specs.buffers.Streams.{StreamRows, StreamView, phase_of}
use Rattle.zconnections.specs.declared.attachments.attachment.Attachment.{Attachment}
use Rattle.zconnections.specs.attachments.Attachments.{AttachmentsView, restored_attachment}
use Rattle.zconnections.specs.Tables.{TablesView, connection_of}
use Rattle.zwatches.specs.declared.limits.WatchLimits.{WatchLimits}
use Rattle.zfront.specs.Restoring.{no_tables, seated, tables_of}
use Rattle.zfront_laws.proofs.Seated.{Has, connection_in, same_number}

-- it has no connection, and may have made an ephemeral node
pub record IsApart (s : Attachment) : Type 0 where
  pub free : s.connection ≡ None
  pub marked : s.made_ephemeral ≡ true

pub record IsBare (t : TablesView) : Type 0 where
  pub streams : t.streams ≡ finite.empty
  pub watches : t.watches ≡ sets.empty
  pub unsent : t.unsent ≡ []
  pub apart : (id : ℕ) (s : Attachment) → get t.attachments id ≡ Some s → IsApart s

-- no connection is in a phase, and no session has a connection
pub no_phase : (t : TablesView) → IsBare t → (c : ℕ) (p : Phase) → phase_of t.streams c ≡ Some p → ⊥
no_phase t bare c p has =
    none_some p (
    sym (ap (option_map (λ (s : StreamView). s.phase)) (finite.get-empty nat_cmp c))
    ∙ ap (λ (rows : StreamRows). phase_of rows c) (sym bare.streams) ∙ has
    )

pub unseated : (t : TablesView) → IsBare t → (session : ℕ) → connection_of t.attachments session ≡ None
unseated t bare session = each (get t.attachments session) refl
  where
    each : (o : Option Attachment) → get t.attachments session ≡ o → connection_in o ≡ None
    each None found = refl
    each (Some s) found = (bare.apart session s found).free

-- ---- the attachments of sessions

-- a number is one of these
abbrev Listed : ℕ → List ℕ → Type 0
Listed id sessions = list_any (eq_by_cmp nat_cmp id) sessions ≡ true

first_listed : (session : ℕ) (sessions : List ℕ) → Listed session (session ∷ sessions)
first_listed session sessions = rw (tied nat_cmp_total nat_cmp-IsAntisymmetric session) refl

later_listed : (id session : ℕ) (sessions : List ℕ) → Listed id sessions → Listed id (session ∷ sessions)
later_listed id session sessions is = behind (eq_by_cmp nat_cmp id session)
  where
    behind : (b : Bool) → b || list_any (eq_by_cmp nat_cmp id) sessions ≡ true
    behind true = refl
    behind false = is

-- what holds of each attachment before, and of each session, holds of each attachment after them
each_seat : (P : ℕ → Attachment → Type 0) (sessions : List ℕ) (m : AttachmentsView) → ((id : ℕ) (s : Attachment) → get m id ≡ Some s → P id s)
    → ((id : ℕ) → Listed id sessions → P id restored_attachment) → (id : ℕ) (s : Attachment) → get (seated sessions m) id ≡ Some s → P id s
each_seat P [] m before at id s there = before id s there
each_seat P (session ∷ sessions) m before at id s there = each_seat P sessions (insert m session restored_attachment) put
    (λ other listed. at other (later_listed other session sessions listed)) id s there
  where
    by : (q : ℕ) (x : Attachment) → ((q ≡ session) × (restored_attachment ≡ x)) ⊎ ((q ≢ session) × (get m q ≡ Some x)) → P q x
    by q x (inl is) = subst (λ (n : ℕ). P n x) (sym is.0) (subst (P session) is.1 (at session (first_listed session sessions)))
    by q x (inr was) = before q x was.1

    put : (q : ℕ) (x : Attachment) → get (insert m session restored_attachment) q ≡ Some x → P q x
    put q x is = by q x (get-inserted nat_cmp_total nat_cmp-IsAntisymmetric m session restored_attachment q x is)

-- who has an attachment still has one
keeps_one : (sessions : List ℕ) (m : AttachmentsView) (id : ℕ) → Has m id → Has (seated sessions m) id
keeps_one [] m id has = has
keeps_one (session ∷ sessions) m id has = keeps_one sessions (insert m session restored_attachment) id (by (same_number id session))
  where
    by : (id ≡ session) ⊎ (id ≢ session) → Has (insert m session restored_attachment) id
    by (inl is) = (
      restored_attachment,
      ap (get (insert m session restored_attachment)) is ∙ get-insert-here nat_cmp_total nat_cmp-IsAntisymmetric m session restored_attachment,
    )
    by (inr other) = (has.0, get-insert-elsewhere nat_cmp_total nat_cmp-IsAntisymmetric m session restored_attachment id other ∙ has.1)

-- and each of these sessions has one
pub each_sits : (sessions : List ℕ) (m : AttachmentsView) (id : ℕ) → list_any (eq_by_cmp nat_cmp id) sessions ≡ true → Has (seated sessions m) id
each_sits [] m id is = absurd (cc is)
each_sits (session ∷ sessions) m id is = by (each_sits sessions (insert m session restored_attachment) id) (eq_by_cmp nat_cmp id session) refl is
  where
    by : (Listed id sessions → Has (seated sessions (insert m session restored_attachment)) id) → (b : Bool) → eq_by_cmp nat_cmp id session ≡ b
        → b || list_any (eq_by_cmp nat_cmp id) sessions ≡ true → Has (seated sessions (insert m session restored_attachment)) id
    by later true same any =
        let here = tied_same nat_cmp_total nat_cmp-IsAntisymmetric id session same in
        keeps_one sessions (insert m session restored_attachment) id (
          restored_attachment,
          ap (get (insert m session restored_attachment)) here
              ∙ get-insert-here nat_cmp_total nat_cmp-IsAntisymmetric m session restored_attachment,
        )
    by later false same any = later any

nobody_sits : {P : Type 0} (limits : WatchLimits) (id : ℕ) (s : Attachment) → get (no_tables limits).attachments id ≡ Some s → P
nobody_sits limits id s there = absurd (none_some s (sym (finite.get-empty nat_cmp id) ∙ there))

-- with no attachments before, no other session has one
pub is_listed : (limits : WatchLimits) (sessions : List ℕ) (id : ℕ) (s : Attachment) → get (tables_of limits sessions).attachments id ≡ Some s
    → list_any (eq_by_cmp nat_cmp id) sessions ≡ true
is_listed limits sessions = each_seat (λ id s. Listed id sessions) sessions finite.empty (λ id s there. nobody_sits limits id s there) (λ id listed. listed)

pub seats_bare : (limits : WatchLimits) (sessions : List ℕ) → IsBare (tables_of limits sessions)
seats_bare limits sessions = record {
  streams = refl;
  watches = refl;
  unsent = refl;
  apart = each_seat (λ id s. IsApart s) sessions finite.empty (λ id s there. nobody_sits limits id s there)
      (λ id listed. record { free = refl; marked = refl });
}
