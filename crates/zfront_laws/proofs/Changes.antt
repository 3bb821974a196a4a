-- What a server does to its tables is made of single changes. What each of these carries, from the
-- tables before it to those after it, is carried by what is reported, swept and answered.
use Rattle.std.proofs.Common.{ℕ, true, false, List, [], ◌∷◌}
use Rattle.std.specs.Prelude.{ℤ, if◌then◌else◌}
use Rattle.zcalls.specs.declared.call.Call.{Call}
use Rattle.zcalls.specs.declared.call.Call.TheVariants.{Update, Query}
use Rattle.zcalls.specs.declared.call.Update.{Update as Act}
use Rattle.zcalls.specs.declared.reply.Reply.{Reply}
use Rattle.zwatches.specs.declared.changes.event.Event.{Event}
use Rattle.zwatches.specs.changes.Events.{events_of}
use Rattle.zresponses.specs.declared.answer.Answer.{Answer}
use Rattle.zconnections.specs.buffers.Outbox.{ChunkView}
use Rattle.zconnections.specs.attachments.Attachments.{all_rested, touched, with_changed}
use Rattle.zwatches.specs.Events as watch
use Rattle.zwatches.specs.Watches.{Watches}
use Rattle.zconnections.specs.Tables.{TablesView, is_open, chunk, with_chunk, sent, closed}
use Rattle.zconnections.specs.Reporting.{event_frame, sent_on, unwatched, in_order, reported, reported_all}
use Rattle.zconnections.specs.Sweeping.{noted, swept_all, swept}
use Rattle.zresponses.specs.effects.Frames.{answer_frame, ends_connection}
use Rattle.zresponses.specs.effects.Replying.{absorbed, absorbed_all, replied}

-- each single change carries it
pub record Carries (R : TablesView → TablesView → Type 0) : Type 0 where
  pub none : (t : TablesView) → R t t
  pub both : (t u v : TablesView) → R t u → R u v → R t v
  pub closes : (c : ℕ) (t : TablesView) → R t (closed c t)
  pub chunk : (p : ChunkView) (t : TablesView) → R t (with_chunk p t)
  pub watches : (w : Watches) (t : TablesView) → R t (record t { watches = w })
  pub notes : (update : Act) (reported : Reply) (t : TablesView) → R t (record t { attachments = noted update reported t.attachments })
  pub touches : (session : ℕ) (t : TablesView) → R t (record t { attachments = with_changed touched t.attachments session })
  pub rests : (t : TablesView) → R t (record t { attachments = all_rested t.attachments })
  pub sweeps : (session : ℕ) (t : TablesView) → R t (swept session t)

module _ (R : TablesView → TablesView → Type 0) (carry : Carries R) where
  pub sends : (c : ℕ) (bytes : List ℕ) (t : TablesView) → R t (sent c bytes t)
  sends c bytes t = elim (is_open t c) as (λ b. R t (if b then with_chunk (chunk c bytes) t else t)) [
    | true ↦ carry.chunk (chunk c bytes) t
    | false ↦ carry.none t
  ]

  pub says : (c : ℕ) (bytes : List ℕ) (t : TablesView) → R t (closed c (sent c bytes t))
  says c bytes t = carry.both t (sent c bytes t) (closed c (sent c bytes t)) (sends c bytes t) (carry.closes c (sent c bytes t))

  sends_on : (cs bytes : List ℕ) (t : TablesView) → R t (sent_on cs bytes t)
  sends_on [] bytes t = carry.none t
  sends_on (c ∷ cs) bytes t = carry.both t (sent c bytes t) (sent_on cs bytes (sent c bytes t)) (sends c bytes t) (sends_on cs bytes (sent c bytes t))

  reports : (e : Event) (t : TablesView) → R t (reported e t)
  reports e t =
      carry.both t (unwatched e t) (reported e t) (carry.watches (watch.unfired t.watches e.kind e.path) t)
      (sends_on (in_order (watch.reported t.watches e.kind e.path)) (event_frame e) (unwatched e t))

  pub reports_all : (es : List Event) (t : TablesView) → R t (reported_all es t)
  reports_all [] t = carry.none t
  reports_all (e ∷ es) t = carry.both t (reported e t) (reported_all es (reported e t)) (reports e t) (reports_all es (reported e t))

  pub absorbs : (call : Call) (reply : Reply) (t : TablesView) → R t (absorbed call reply t)
  absorbs (Update update) reply t =
      let u = record t { attachments = noted update reply t.attachments } in
      carry.both t u (reported_all (events_of update reply) u) (carry.notes update reply t) (reports_all (events_of update reply) u)
  absorbs (Query query) reply t = carry.none t

  pub absorbs_all : (calls : List Call) (replies : List Reply) (t : TablesView) → R t (absorbed_all calls replies t)
  absorbs_all [] replies t = carry.none t
  absorbs_all (call ∷ calls) [] t = carry.none t
  absorbs_all (call ∷ calls) (reply ∷ replies) t =
      carry.both t (absorbed call reply t) (absorbed_all calls replies (absorbed call reply t)) (absorbs call reply t)
      (absorbs_all calls replies (absorbed call reply t))

  pub replies_to : (zxid : ℤ) (c : ℕ) (xid : ℤ) (answer : Answer) (t : TablesView) → R t (replied zxid c xid answer t)
  replies_to zxid c xid answer t =
      elim (ends_connection answer.code) as (λ b. R t (if b then closed c (sent c (answer_frame zxid xid answer) t)
      else sent c (answer_frame zxid xid answer) t)) [
        | true ↦ says c (answer_frame zxid xid answer) t
        | false ↦ sends c (answer_frame zxid xid answer) t
      ]

  pub sweeps_all : (sessions : List ℕ) (t : TablesView) → R t (swept_all sessions t)
  sweeps_all [] t = carry.none t
  sweeps_all (session ∷ sessions) t =
      carry.both t (swept session t) (swept_all sessions (swept session t)) (carry.sweeps session t) (sweeps_all sessions (swept session t))
