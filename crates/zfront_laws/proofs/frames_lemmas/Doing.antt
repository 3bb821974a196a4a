-- What is done on one connection while calls are made, and one thing after another.
use Rattle.std.proofs.Common.{◌≡◌, ◌∙◌, ℕ, true, false, List, sym, ap, subst}
use Rattle.std.specs.Prelude.{ℤ, if◌then◌else◌}
use Rattle.zresponses.specs.declared.answer.Answer.{Answer}
use Rattle.ztree_service.specs.log.Logs.{Log}
use Rattle.zconnections.specs.buffers.Streams.{phase_of}
use Rattle.zconnections.specs.Tables.{TablesView, sent, closed}
use Rattle.zresponses.specs.effects.Frames.{answer_frame, ends_connection}
use Rattle.zresponses.specs.effects.Replying.{replied}
use Rattle.zfront.specs.Front.{FrontView, with_tables}
use Rattle.zfront_laws.specs.frames.Talk.{Talk, Quiet, Answers, Closes, Answered}
use Rattle.zfront_laws.proofs.frames_lemmas.Views.{view, run, followed, run_then, view-sent, view-closed}
use Rattle.zfront_laws.proofs.frames_lemmas.Free.{speaks, Free, free-sent, free-closed}
use Rattle.zfront_laws.proofs.frames_lemmas.Calm.{IsCalm, Calm}

-- what was done on a connection
abbrev pub Done : ℕ → (Talk → Type 0) → FrontView → FrontView → Type 0
Done c Is old new = (talk : Talk) × Is talk × (view c new.tables ≡ run c talk (view c old.tables)) × Free c new.tables

-- frames of a session, each answered
abbrev pub Serving : ℕ → ℕ → Log → List (List ℕ) → FrontView → FrontView → Type 0
Serving c session log frames old new = Done c (λ talk. Answered old.clock old.secret session old.tree log frames talk) old new

module _ (c : ℕ) where
  -- one thing after another
  pub behind : (One Two Both : Talk → Type 0) (old middle new : FrontView) (one : Done c One old middle)
      → ((talk : Talk) → Two talk → Both (followed one.0 talk)) → Done c Two middle new → Done c Both old new
  behind One Two Both old middle new one join two = (
    followed one.0 two.0,
    join two.0 two.1,
    two.2 ∙ ap (run c two.0) one.2 ∙ sym (run_then c one.0 two.0 (view c old.tables)),
    two.3,
  )

  -- what answers nothing, after one that answers
  pub calmly : (One Both : Talk → Type 0) (old middle new : FrontView) (one : Done c One old middle)
      → ((talk : Talk) → IsCalm (speaks (phase_of middle.tables.streams c)) talk → Both (followed one.0 talk))
      → Calm c middle.tables new.tables → Done c Both old new
  calmly One Both old middle new one join calm =
      let next = calm one.3 in
      behind One (λ talk. IsCalm (speaks (phase_of middle.tables.streams c)) talk) Both old middle new one join
      (next.0.0, next.0.1, next.0.2, next.1)

  -- the tables alone are others
  pub quietly : (Is : Talk → Type 0) (talk : Talk) (t : TablesView) (old new : FrontView) → Is talk → new ≡ with_tables t old
      → view c t ≡ run c talk (view c old.tables) → Free c t → Done c Is old new
  quietly Is talk t old new it is seen free = subst (λ (v : FrontView). Done c Is old v) (sym is) (talk, it, seen, free)

  -- the connection is closed
  pub shuts : (Is : Talk → Type 0) → Is Closes → (old new : FrontView) → new ≡ with_tables (closed c old.tables) old → Free c old.tables
      → Done c Is old new
  shuts Is it old new is free =
      quietly Is Closes (closed c old.tables) old new it is (view-closed c old.tables) (free-closed c c old.tables free)

-- an answer, and the close after it where its code ends the connection
pub replies : (c : ℕ) (zxid xid : ℤ) (answer : Answer) (t : TablesView)
    → (end : Talk) × IsCalm false end × (view c (replied zxid c xid answer t) ≡ run c (Answers (answer_frame zxid xid answer) end) (view c t))
    × (Free c t → Free c (replied zxid c xid answer t))
replies c zxid xid answer t =
    let bytes = answer_frame zxid xid answer in
    let u = sent c bytes t in
    elim (ends_connection answer.code) as (λ b. (end : Talk) × IsCalm false end × (view c (if b then closed c u else u)
    ≡ run c (Answers bytes end) (view c t))
    × (Free c t → Free c (if b then closed c u else u))) [
      | true ↦ (Closes, tt, view-closed c u ∙ ap (run c Closes) (view-sent c bytes t), λ free. free-closed c c u (free-sent c c bytes t free))
      | false ↦ (Quiet, tt, view-sent c bytes t, λ free. free-sent c c bytes t free)
    ]
