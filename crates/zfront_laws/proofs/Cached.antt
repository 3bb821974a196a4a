-- Tables whose seats are preserved, and that have no session more.
use Rattle.std.proofs.Common.{◌≡◌, ◌≢◌, ◌⊎◌, inl, inr, ◌∙◌, ℕ, Bool, true, false, List, [], ◌∷◌, Option, None, Some, refl, sym, ap}
use Rattle.std.specs.Prelude.{if◌then◌else◌}
use Rattle.std.specs.Cmp.{nat_cmp_total}
use Rattle.std.specs.FinMap.{get, insert, nat_cmp-IsAntisymmetric}
use Rattle.std.specs.Option.{option_map, option_map_or}
use Rattle.ztree.proofs.Maps.{get-insert-here, get-insert-elsewhere, get-removed}
use Rattle.zcalls.specs.declared.call.Lifetime.{Lifetime}
use Rattle.zcalls.specs.declared.call.Part.{Part}
use Rattle.zcalls.specs.declared.call.Part.TheVariants as part
use Rattle.zcalls.specs.declared.call.Update.{Update}
use Rattle.zcalls.specs.declared.call.Update.TheVariants as act
use Rattle.zcalls.specs.declared.reply.Reply.{Reply}
use Rattle.zcalls.specs.declared.reply.Reply.TheVariants as reply
use Rattle.zconnections.specs.declared.buffers.phase.Phase.{Phase}
use Rattle.zconnections.specs.declared.buffers.phase.Phase.TheVariants.{Silent, Speaking}
use Rattle.zconnections.specs.buffers.Streams.{StreamView, with_bytes, opened, phase_of}
use Rattle.zconnections.specs.declared.attachments.attachment.Attachment.{Attachment}
use Rattle.zconnections.specs.attachments.Attachments.{AttachmentsView, all_rested, left, rested, touched, with_changed, with_ephemeral}
use Rattle.zconnections.proofs.attachments_lemmas.Changed.{each_rests}
use Rattle.zconnections.specs.Tables.{TablesView, is_open, session_in, without_seat, closing, closed, ended, connection_of, moved}
use Rattle.zconnections.specs.Sweeping.{owner_in, made_by, made_by_parts, noted, swept}
use Rattle.zfront_laws.specs.Seats.{IsSeated}
use Rattle.zfront_laws.proofs.Seated.{Has, connection_in, same_number, phase_elsewhere, phase_here, seat_elsewhere}
use Rattle.zfront_laws.proofs.Seated.{seat_here, closes, ends, sweeps}

abbrev pub Cached : TablesView → TablesView → Type 0
Cached old new = (IsSeated old → IsSeated new) × ((id : ℕ) → Has new.attachments id → Has old.attachments id)

pub unchanged : (t : TablesView) → Cached t t
unchanged t = (λ seated. seated, λ id has. has)

pub kept_both : (old middle new : TablesView) → Cached old middle → Cached middle new → Cached old new
kept_both old middle new one two = (λ seated. two.0 (one.0 seated), λ id has. one.1 id (two.1 id has))

-- an attachment that is changed is no new one
changed_ids : (to : Attachment → Attachment) (m : AttachmentsView) (key id : ℕ) → Has (with_changed to m key) id → Has m id
changed_ids to m key id has = each (get m key) refl has
  where
    near : (s : Attachment) → get m key ≡ Some s → (id ≡ key) ⊎ (id ≢ key) → Has (insert m key (to s)) id → Has m id
    near s is (inl same) there = (s, ap (get m) same ∙ is)
    near s is (inr apart) there = (there.0, sym (get-insert-elsewhere nat_cmp_total nat_cmp-IsAntisymmetric m key (to s) id apart) ∙ there.1)

    each : (o : Option Attachment) → get m key ≡ o → Has (option_map_or (λ s. insert m key (to s)) o m) id → Has m id
    each None is there = there
    each (Some s) is there = near s is (same_number id key) there

closed_ids : (c : ℕ) (t : TablesView) (id : ℕ) → Has (closed c t).attachments id → Has t.attachments id
closed_ids c t id has = each (is_open t c) has
  where
    of : (o : Option ℕ) → Has (without_seat o t) id → Has t.attachments id
    of None there = there
    of (Some mine) there = changed_ids left t.attachments mine id there

    each : (b : Bool) → Has (if b then closing c t else t).attachments id → Has t.attachments id
    each true there = of (session_in (phase_of t.streams c)) there
    each false there = there

ended_ids : (c : ℕ) (t : TablesView) (id : ℕ) → Has (ended c t).attachments id → Has t.attachments id
ended_ids c t id has = of (session_in (phase_of t.streams c)) has
  where
    of : (o : Option ℕ) → Has (without_seat o t) id → Has t.attachments id
    of None there = there
    of (Some mine) there = changed_ids left t.attachments mine id there

pub closes_kept : (c : ℕ) (t : TablesView) → Cached t (closed c t)
closes_kept c t = (closes c t, closed_ids c t)

pub ends_kept : (c : ℕ) (t : TablesView) → Cached t (ended c t)
ends_kept c t = (ends c t, ended_ids c t)

moved_ids : (session : ℕ) (t : TablesView) (id : ℕ) → Has (moved session t).attachments id → Has t.attachments id
moved_ids session t id has = each (connection_of t.attachments session) has
  where
    each : (o : Option ℕ) → Has (option_map_or (λ c. closed c t) o t).attachments id → Has t.attachments id
    each None there = there
    each (Some c) there = closed_ids c t id there

pub sweeps_kept : (session : ℕ) (t : TablesView) → Cached t (swept session t)
sweeps_kept session t = (
  sweeps session t,
  λ id has.
      moved_ids session t id (has.0, (get-removed nat_cmp_total nat_cmp-IsAntisymmetric (moved session t).attachments session id has.0 has.1).1),
)

-- streams with other bytes, and one more that is silent
pub bytes_kept : (c : ℕ) (bytes : List ℕ) (t : TablesView) → Cached t (record t { streams = with_bytes t.streams c bytes })
bytes_kept c bytes t = (λ seated d session speaks. seated d session (spoke d session speaks), λ id has. has)
  where
    here : (d session : ℕ) → d ≡ c → phase_of (with_bytes t.streams c bytes) d ≡ Some (Speaking session)
        → phase_of t.streams d ≡ Some (Speaking session)
    here d session same has =
        let row = phase_here (λ s. record s { bytes = bytes }) t.streams c (Speaking session)
        (ap (phase_of (with_bytes t.streams c bytes)) (sym same) ∙ has) in
        ap (phase_of t.streams) same ∙ ap (option_map (λ (s : StreamView). s.phase)) row.1 ∙ ap (λ p. Some p) row.2

    near : (d session : ℕ) → (d ≡ c) ⊎ (d ≢ c) → phase_of (with_bytes t.streams c bytes) d ≡ Some (Speaking session)
        → phase_of t.streams d ≡ Some (Speaking session)
    near d session (inl same) has = here d session same has
    near d session (inr other) has = sym (phase_elsewhere (λ s. record s { bytes = bytes }) t.streams c d other) ∙ has

    spoke : (d session : ℕ) → phase_of (with_bytes t.streams c bytes) d ≡ Some (Speaking session) → phase_of t.streams d ≡ Some (Speaking session)
    spoke d session has = near d session (same_number d c) has

silent_phase : (session : ℕ) → Some Silent ≡ Some (Speaking session) → ⊥
silent_phase session is = cc

pub opens_kept : (c : ℕ) (t : TablesView) → Cached t (record t { streams = insert t.streams c opened })
opens_kept c t = (λ seated d session speaks. seated d session (near d session (same_number d c) speaks), λ id has. has)
  where
    phase : Option StreamView → Option Phase
    phase o = option_map (λ s. s.phase) o

    near : (d session : ℕ) → (d ≡ c) ⊎ (d ≢ c) → phase_of (insert t.streams c opened) d ≡ Some (Speaking session)
        → phase_of t.streams d ≡ Some (Speaking session)
    near d session (inl same) has =
        absurd (silent_phase session (
        sym (ap phase (get-insert-here nat_cmp_total nat_cmp-IsAntisymmetric t.streams c opened))
        ∙ ap (phase_of (insert t.streams c opened)) (sym same) ∙ has
        ))
    near d session (inr other) has =
        sym (ap phase (get-insert-elsewhere nat_cmp_total nat_cmp-IsAntisymmetric t.streams c opened d other)) ∙ has

-- attachments with the same connections
abbrev pub Alike : AttachmentsView → AttachmentsView → Type 0
Alike m n = ((id : ℕ) → connection_of n id ≡ connection_of m id) × ((id : ℕ) → Has n id → Has m id)

alike_kept : (t : TablesView) (m : AttachmentsView) → Alike t.attachments m → Cached t (record t { attachments = m })
alike_kept t m alike = (λ seated d session speaks. alike.0 session ∙ seated d session speaks, alike.1)

pub changed_alike : (to : Attachment → Attachment) → ((s : Attachment) → (to s).connection ≡ s.connection) → (m : AttachmentsView) (key : ℕ)
    → Alike m (with_changed to m key)
changed_alike to keeps m key = (λ id. near id (same_number id key), changed_ids to m key)
  where
    there : (o : Option Attachment) → get m key ≡ o → connection_of (with_changed to m key) key ≡ connection_of m key
    there None is = ap (λ o. connection_of (option_map_or (λ s. insert m key (to s)) o m) key) is
    there (Some s) is = ap connection_in (seat_here to m key s is) ∙ keeps s ∙ sym (ap connection_in is)

    near : (id : ℕ) → (id ≡ key) ⊎ (id ≢ key) → connection_of (with_changed to m key) id ≡ connection_of m id
    near id (inl same) = ap (connection_of (with_changed to m key)) same ∙ there (get m key) refl ∙ ap (connection_of m) (sym same)
    near id (inr apart) = ap connection_in (seat_elsewhere to m key id apart)

pub touched_kept : (session : ℕ) (t : TablesView) → Cached t (record t { attachments = with_changed touched t.attachments session })
touched_kept session t = alike_kept t (with_changed touched t.attachments session) (changed_alike touched (λ s. refl) t.attachments session)

both_alike : (a b c : AttachmentsView) → Alike a b → Alike b c → Alike a c
both_alike a b c one two = (λ id. two.0 id ∙ one.0 id, λ id has. one.1 id (two.1 id has))

made_alike : (l : Lifetime) (m : AttachmentsView) → Alike m (made_by l m)
made_alike l m = elim (owner_in l) as (λ o. Alike m (option_map_or (λ session. with_changed with_ephemeral m session) o m)) [
  | None ↦ (λ id. refl, λ id has. has)
  | Some session ↦ changed_alike with_ephemeral (λ s. refl) m session
]

parts_alike : (parts : List Part) (m : AttachmentsView) → Alike m (made_by_parts parts m)
parts_alike [] m = (λ id. refl, λ id has. has)
parts_alike (part.Create create ∷ parts) m =
    both_alike m (made_by create.kind.lifetime m) (made_by_parts parts (made_by create.kind.lifetime m))
    (made_alike create.kind.lifetime m) (parts_alike parts (made_by create.kind.lifetime m))
parts_alike (other ∷ parts) m = parts_alike parts m

pub noted_alike : (update : Update) (reported : Reply) (m : AttachmentsView) → Alike m (noted update reported m)
noted_alike (act.Create create) (reply.Created path) m = made_alike create.kind.lifetime m
noted_alike (act.Multi parts) (reply.Multi replies) m = parts_alike parts m
noted_alike update reported m = (λ id. refl, λ id has. has)

pub noted_kept : (update : Update) (reported : Reply) (t : TablesView) → Cached t (record t { attachments = noted update reported t.attachments })
noted_kept update reported t = alike_kept t (noted update reported t.attachments) (noted_alike update reported t.attachments)

pub rests_alike : (m : AttachmentsView) → Alike m (all_rested m)
rests_alike m = (λ id. ap connection_in (each_rests m id) ∙ same (get m id), λ id has. there id (get m id) refl (sym (each_rests m id) ∙ has.1))
  where
    same : (o : Option Attachment) → connection_in (option_map rested o) ≡ connection_in o
    same None = refl
    same (Some s) = refl

    there : {s : Attachment} (id : ℕ) (o : Option Attachment) → get m id ≡ o → option_map rested (get m id) ≡ Some s → Has m id
    there id None is has = absurd (cc (sym (ap (option_map rested) is) ∙ has))
    there id (Some s) is has = (s, is)

pub rests_kept : (t : TablesView) → Cached t (record t { attachments = all_rested t.attachments })
rests_kept t = alike_kept t (all_rested t.attachments) (rests_alike t.attachments)
