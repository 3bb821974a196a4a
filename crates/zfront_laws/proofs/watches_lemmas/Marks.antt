-- Which sessions are known to have made an ephemeral node, and which are there.
use Rattle.std.proofs.Common.{◌≡◌, ◌≢◌, ◌∙◌, ℕ, Bool, true, false, List, [], ◌∷◌, Option, Some, None, refl, sym, ap, inl, inr}
use Rattle.std.proofs.Math.Bool.{or-true}
use mathlib.Core.Bool.{true≢false}
use Rattle.std.specs.Prelude.{◌⊎◌, ◌||◌, not, is_some, unwrap_or, if◌then◌else◌}
use Rattle.std.specs.List.{AllByRecursion, list_any, filter}
use Rattle.std.specs.Option.{option_map, option_map_or}
use Rattle.std.specs.Ordering.{eq_by_cmp, nat_cmp}
use Rattle.std.specs.Cmp.{nat_cmp_total}
use Rattle.std.specs.FinMap as finite
use Rattle.std.specs.FinMap.{nat_cmp-IsAntisymmetric}
use Rattle.ztree.specs.Tree.{Sessions}
use Rattle.ztree.proofs.Maps.{get-insert-here, get-insert-elsewhere, get-remove-elsewhere, tied_same}
use Rattle.zcalls.specs.declared.call.Lifetime.{Lifetime}
use Rattle.zcalls.specs.declared.call.Lifetime.TheVariants.{Persistent, WithTtl, Ephemeral, Container}
use Rattle.zcalls.specs.declared.call.Part.{Part}
use Rattle.zcalls.specs.declared.call.Part.TheVariants as part
use Rattle.zcalls.specs.Part.{owner_of}
use Rattle.zconnections.specs.declared.attachments.attachment.Attachment.{Attachment}
use Rattle.zconnections.specs.attachments.Attachments.{AttachmentsView, with_changed, with_ephemeral, left, touched, rested, restored_attachment, all_rested}
use Rattle.zconnections.specs.attachments.Attachments as seats
use Rattle.zconnections.proofs.attachments_lemmas.Changed.{each_rests}
use Rattle.zconnections.specs.Tables.{TablesView, is_open, session_in, without_seat, closing, closed, moved, taken_up}
use Rattle.zconnections.specs.Sweeping.{owner_in, made_by, made_by_parts, is_gone, made_one, some_made_one}
use Rattle.zconnections.specs.buffers.Streams.{phase_of}
use Rattle.zfront_laws.proofs.Seated.{Has, same_number, seat_here, seat_elsewhere}
use Rattle.zfront_laws.proofs.watches_lemmas.Owners.{PartNames}

-- no one, or a session that is there
abbrev pub Known : AttachmentsView → ℕ → Type 0
Known m id = (id ≡ 0) ⊎ Has m id

-- no one, or a session that made an ephemeral node
abbrev pub Marked : AttachmentsView → ℕ → Type 0
Marked m id = (id ≡ 0) ⊎ (made_one m id ≡ true)

-- sessions stay, and so does what they made
pub record Keeps (m n : AttachmentsView) : Type 0 where
  pub has : (id : ℕ) → Has m id → Has n id
  pub marks : (id : ℕ) → made_one m id ≡ true → made_one n id ≡ true

pub unchanged : (m : AttachmentsView) → Keeps m m
unchanged m = record { has = λ id there. there; marks = λ id is. is }

pub keeps : (a b c : AttachmentsView) → Keeps a b → Keeps b c → Keeps a c
keeps a b c one two = record { has = λ id there. two.has id (one.has id there); marks = λ id is. two.marks id (one.marks id is) }

pub known : (m n : AttachmentsView) → Keeps m n → (id : ℕ) → Known m id → Known n id
known m n kept id (inl nobody) = inl nobody
known m n kept id (inr has) = inr (kept.has id has)

pub marked : (m n : AttachmentsView) → Keeps m n → (id : ℕ) → Marked m id → Marked n id
marked m n kept id (inl nobody) = inl nobody
marked m n kept id (inr made) = inr (kept.marks id made)

-- a mark is of a session that is there
pub made_there : (m : AttachmentsView) (id : ℕ) → made_one m id ≡ true → Has m id
made_there m id is = by (finite.get m id) refl
  where
    by : (o : Option Attachment) → finite.get m id ≡ o → Has m id
    by None none = absurd (cc (sym (ap (λ o. option_map_or (λ (s : Attachment). s.made_ephemeral) o false) none) ∙ is))
    by (Some s) there = (s, there)

pub marked_in : (m : AttachmentsView) (id : ℕ) (s : Attachment) → finite.get m id ≡ Some s → made_one m id ≡ s.made_ephemeral
marked_in m id s there = ap (λ o. option_map_or (λ (s : Attachment). s.made_ephemeral) o false) there

-- an attachment is changed
module _ (to : Attachment → Attachment) (keeps_mark : (s : Attachment) → s.made_ephemeral ≡ true → (to s).made_ephemeral ≡ true)
    (m : AttachmentsView) (key : ℕ) where
  pub changed : Keeps m (with_changed to m key)
  changed = record {
    has = λ id there. near id (same_number id key) there;
    marks = λ id is. let there = made_there m id is in still id there.0 there.1 (sym (marked_in m id there.0 there.1) ∙ is) (same_number id key);
  }
    where
      near : (id : ℕ) → (id ≡ key) ⊎ (id ≢ key) → Has m id → Has (with_changed to m key) id
      near id (inl same) has =
          (to has.0, ap (finite.get (with_changed to m key)) same ∙ seat_here to m key has.0 (ap (finite.get m) (sym same) ∙ has.1))
      near id (inr apart) has = (has.0, seat_elsewhere to m key id apart ∙ has.1)

      still : (id : ℕ) (s : Attachment) → finite.get m id ≡ Some s → s.made_ephemeral ≡ true → (id ≡ key) ⊎ (id ≢ key)
          → made_one (with_changed to m key) id ≡ true
      still id s there is (inl same) =
          marked_in (with_changed to m key) id (to s) (ap (finite.get (with_changed to m key)) same
          ∙ seat_here to m key s (ap (finite.get m) (sym same) ∙ there))
          ∙ keeps_mark s is
      still id s there is (inr apart) =
          marked_in (with_changed to m key) id s (seat_elsewhere to m key id apart ∙ there) ∙ is

pub without_seat_keeps : (o : Option ℕ) (t : TablesView) → Keeps t.attachments (without_seat o t)
without_seat_keeps None t = unchanged t.attachments
without_seat_keeps (Some mine) t = changed left (λ s is. is) t.attachments mine

pub closed_keeps : (c : ℕ) (t : TablesView) → Keeps t.attachments (closed c t).attachments
closed_keeps c t = elim (is_open t c) as (λ b. Keeps t.attachments (if b then closing c t else t).attachments) [
  | true ↦ without_seat_keeps (session_in (phase_of t.streams c)) t
  | false ↦ unchanged t.attachments
]

-- an attachment is put, in the place of one or beside the others
module _ (m : AttachmentsView) (key : ℕ) (s : Attachment) (keeps_mark : made_one m key ≡ true → s.made_ephemeral ≡ true) where
  put_keeps : Keeps m (finite.insert m key s)
  put_keeps = record { has = λ id there. near id (same_number id key) there; marks = λ id is. still id (same_number id key) is }
    where
      here : finite.get (finite.insert m key s) key ≡ Some s
      here = get-insert-here nat_cmp_total nat_cmp-IsAntisymmetric m key s

      near : (id : ℕ) → (id ≡ key) ⊎ (id ≢ key) → Has m id → Has (finite.insert m key s) id
      near id (inl same) has = (s, ap (finite.get (finite.insert m key s)) same ∙ here)
      near id (inr apart) has = (has.0, get-insert-elsewhere nat_cmp_total nat_cmp-IsAntisymmetric m key s id apart ∙ has.1)

      still : (id : ℕ) → (id ≡ key) ⊎ (id ≢ key) → made_one m id ≡ true → made_one (finite.insert m key s) id ≡ true
      still id (inl same) is =
          marked_in (finite.insert m key s) id s (ap (finite.get (finite.insert m key s)) same ∙ here) ∙ keeps_mark (ap (made_one m) (sym same) ∙ is)
      still id (inr apart) is =
          ap (λ o. option_map_or (λ (s : Attachment). s.made_ephemeral) o false)
          (get-insert-elsewhere nat_cmp_total nat_cmp-IsAntisymmetric m key s id apart)
          ∙ is

-- a session that is taken up counts as one that made a node, where it isn't known
taken_mark : (o : Option Attachment) → option_map_or (λ (s : Attachment). s.made_ephemeral) o false ≡ true
    → (unwrap_or o restored_attachment).made_ephemeral ≡ true
taken_mark None is = refl
taken_mark (Some s) is = is

pub seated_keeps : (session c : ℕ) (t : TablesView) → Keeps (moved session t).attachments (taken_up session c t).attachments
seated_keeps session c t =
    let m = (moved session t).attachments in
    put_keeps m session (seats.taken_up c (unwrap_or (finite.get m session) restored_attachment)) (taken_mark (finite.get m session))

pub touched_keeps : (session : ℕ) (m : AttachmentsView) → Keeps m (with_changed touched m session)
touched_keeps session m = changed touched (λ s is. is) m session

pub rested_keeps : (m : AttachmentsView) → Keeps m (all_rested m)
rested_keeps m = record {
  has = λ id there. (rested there.0, each_rests m id ∙ ap (option_map rested) there.1);
  marks = λ id is.
      let there = made_there m id is in
      marked_in (all_rested m) id (rested there.0) (each_rests m id ∙ ap (option_map rested) there.1) ∙ sym (marked_in m id there.0 there.1) ∙ is;
}

-- a node of a lifetime is made
pub made_keeps : (lifetime : Lifetime) (m : AttachmentsView) → Keeps m (made_by lifetime m)
made_keeps lifetime m = elim (owner_in lifetime) as (λ o. Keeps m (option_map_or (λ session. with_changed with_ephemeral m session) o m)) [
  | None ↦ unchanged m
  | Some session ↦ changed with_ephemeral (λ s is. refl) m session
]

here_marked : (m : AttachmentsView) (session : ℕ) → Known m session → Marked (with_changed with_ephemeral m session) session
here_marked m session (inl nobody) = inl nobody
here_marked m session (inr has) =
    inr (marked_in (with_changed with_ephemeral m session) session (with_ephemeral has.0) (seat_here with_ephemeral m session has.0 has.1))

pub made_marked : (lifetime : Lifetime) (m : AttachmentsView) → Known m (owner_of lifetime) → Marked (made_by lifetime m) (owner_of lifetime)
made_marked Persistent m mine = inl refl
made_marked (WithTtl ttl) m mine = inl refl
made_marked Container m mine = inl refl
made_marked (Ephemeral session) m mine = here_marked m session mine

pub parts_keep : (parts : List Part) (m : AttachmentsView) → Keeps m (made_by_parts parts m)
parts_keep [] m = unchanged m
parts_keep (part.Create create ∷ parts) m =
    keeps m (made_by create.kind.lifetime m) (made_by_parts parts (made_by create.kind.lifetime m)) (made_keeps create.kind.lifetime m)
    (parts_keep parts (made_by create.kind.lifetime m))
parts_keep (part.Delete delete ∷ parts) m = parts_keep parts m
parts_keep (part.SetData set ∷ parts) m = parts_keep parts m
parts_keep (part.Check check ∷ parts) m = parts_keep parts m

part_known : (m n : AttachmentsView) → Keeps m n → (p : Part) → PartNames (Known m) p → PartNames (Known n) p
part_known m n kept (part.Create create) names = known m n kept (owner_of create.kind.lifetime) names
part_known m n kept (part.Delete delete) names = tt
part_known m n kept (part.SetData set) names = tt
part_known m n kept (part.Check check) names = tt

pub parts_known : (m n : AttachmentsView) → Keeps m n → (parts : List Part) → AllByRecursion (PartNames (Known m)) parts
    → AllByRecursion (PartNames (Known n)) parts
parts_known m n kept [] names = tt
parts_known m n kept (p ∷ parts) names = (part_known m n kept p names.0, parts_known m n kept parts names.1)

pub parts_marked : (parts : List Part) (m : AttachmentsView) → AllByRecursion (PartNames (Known m)) parts
    → AllByRecursion (PartNames (Marked (made_by_parts parts m))) parts
parts_marked [] m names = tt
parts_marked (part.Create create ∷ parts) m names =
    let next = made_by create.kind.lifetime m in (
      marked next (made_by_parts parts next) (parts_keep parts next) (owner_of create.kind.lifetime) (made_marked create.kind.lifetime m names.0),
      parts_marked parts next (parts_known m next (made_keeps create.kind.lifetime m) parts names.1),
    )
parts_marked (part.Delete delete ∷ parts) m names = (tt, parts_marked parts m names.1)
parts_marked (part.SetData set ∷ parts) m names = (tt, parts_marked parts m names.1)
parts_marked (part.Check check ∷ parts) m names = (tt, parts_marked parts m names.1)

-- a session is forgotten: the others keep their marks
pub removed_mark : (m : AttachmentsView) (session id : ℕ) → id ≢ session → made_one (finite.remove m session) id ≡ made_one m id
removed_mark m session id apart =
    ap (λ o. option_map_or (λ (s : Attachment). s.made_ephemeral) o false)
    (get-remove-elsewhere nat_cmp_total nat_cmp-IsAntisymmetric m session id apart)

pub apart_from : (sessions : Sessions) (id session : ℕ) → finite.contains_key sessions id ≡ true → is_gone sessions session ≡ true → id ≢ session
apart_from sessions id session there is same =
    true≢false (sym is ∙ ap not (ap (finite.contains_key sessions) (sym same) ∙ there))

-- those that are gone
all_kept : (test : ℕ → Bool) (ids : List ℕ) → AllByRecursion (λ id. test id ≡ true) (filter test ids)
all_kept test [] = tt
all_kept test (id ∷ ids) = by (test id) refl (all_kept test ids)
  where
    by : (b : Bool) → test id ≡ b → AllByRecursion (λ id. test id ≡ true) (filter test ids)
        → AllByRecursion (λ id. test id ≡ true) (if b then id ∷ filter test ids else filter test ids)
    by true is rest = (is, rest)
    by false is rest = rest

pub all_gone : (sessions : Sessions) (ids : List ℕ) → AllByRecursion (λ id. is_gone sessions id ≡ true) (filter (is_gone sessions) ids)
all_gone sessions ids = all_kept (is_gone sessions) ids

-- one of them made an ephemeral node
any_more : (p : ℕ → Bool) (first : ℕ) (ids : List ℕ) (b : Bool) → list_any p ids ≡ true → list_any p (if b then first ∷ ids else ids) ≡ true
any_more p first ids true is = ap (λ b. p first || b) is ∙ or-true (p first)
any_more p first ids false is = is

any_kept : (test p : ℕ → Bool) (id : ℕ) (ids : List ℕ) → test id ≡ true → p id ≡ true → list_any (eq_by_cmp nat_cmp id) ids ≡ true
    → list_any p (filter test ids) ≡ true
any_kept test p id [] passes has among = cc
any_kept test p id (first ∷ ids) passes has among =
    by (eq_by_cmp nat_cmp id first) refl (test first) refl (λ rest. any_kept test p id ids passes has rest)
  where
    by : (tie : Bool) → eq_by_cmp nat_cmp id first ≡ tie → (b : Bool) → test first ≡ b
        → (list_any (eq_by_cmp nat_cmp id) ids ≡ true → list_any p (filter test ids) ≡ true)
        → list_any p (if b then first ∷ filter test ids else filter test ids) ≡ true
    by true ties true is rest = ap (λ b. b || list_any p (filter test ids))
        (ap p (sym (tied_same nat_cmp_total nat_cmp-IsAntisymmetric id first ties)) ∙ has)
    by true ties false is rest = absurd (true≢false (sym passes ∙ ap test (tied_same nat_cmp_total nat_cmp-IsAntisymmetric id first ties) ∙ is))
    by false ties b is rest = any_more p first (filter test ids) b (rest (sym (ap (λ b. b || list_any (eq_by_cmp nat_cmp id) ids) ties) ∙ among))

pub gone_made : (sessions : Sessions) (ids : List ℕ) (m : AttachmentsView) (id : ℕ) → finite.get sessions id ≡ None
    → list_any (eq_by_cmp nat_cmp id) ids ≡ true → made_one m id ≡ true → some_made_one m (filter (is_gone sessions) ids) ≡ true
gone_made sessions ids m id none listed is = any_kept (is_gone sessions) (made_one m) id ids (ap (λ o. not (is_some o)) none) is listed
