-- What frames of a connection do: the first may be a greeting, and no other gives a session.
use Rattle.std.proofs.Common.{◌≡◌, ◌⊎◌, inl, inr, ◌∙◌, ℕ, List, [], ◌∷◌, Option, None, Some, refl, sym, subst}
use Rattle.zconnections.specs.declared.buffers.phase.Phase.{Phase}
use Rattle.zconnections.specs.declared.buffers.phase.Phase.TheVariants.{Silent, Speaking, Closing}
use Rattle.zconnections.specs.buffers.Streams.{phase_of}
use Rattle.zconnections.specs.Tables.{TablesView}
use Rattle.zfront.specs.Front.{FrontView}
use Rattle.zfront.specs.Reading.{HandlesIn, HandlesAll}
use Rattle.zfront_laws.proofs.Working as working
use Rattle.zfront_laws.proofs.Greeted.{Becomes, NotSilent, greets, silent_on, speaks_on}
use Rattle.zfront_laws.proofs.Quiet.{Quiet, carries_quiet, stays_both, was_in}

-- who isn't silent isn't afterwards
stays_loud : (c : ℕ) (t u : TablesView) → Quiet t u → NotSilent c t → NotSilent c u
stays_loud c t u calm loud is = loud (was_in t.streams u.streams c Silent (calm c) silent_on is)

-- ---- a frame of a connection that isn't silent gives nothing

serves_in : (phase : Option Phase) (bytes : List ℕ) (c : ℕ) (old new : FrontView) → (phase ≡ Some Silent → ⊥)
    → HandlesIn phase bytes c old new → Quiet old.tables new.tables
serves_in (Some Silent) bytes c old new loud has = absurd (loud refl)
serves_in (Some (Speaking session)) bytes c old new loud has = working.serves Quiet carries_quiet bytes session c old new has
serves_in (Some Closing) bytes c old new loud is = working.same Quiet carries_quiet old new is
serves_in None bytes c old new loud is = working.same Quiet carries_quiet old new is

serves_all : (frames : List (List ℕ)) (c : ℕ) (old new : FrontView) → NotSilent c old.tables → HandlesAll frames c old new
    → Quiet old.tables new.tables
serves_all [] c old new loud is = working.same Quiet carries_quiet old new is
serves_all (bytes ∷ frames) c old new loud has =
    let first = serves_in (phase_of old.tables.streams c) bytes c old has.1 loud has.2 in
    carries_quiet.both old.tables has.1.tables new.tables first
    (serves_all frames c has.1 new (stays_loud c old.tables has.1.tables first loud) has.3)

-- ---- the first frame

becomes_more : (frame : List ℕ) (c : ℕ) (old : FrontView) (t u : TablesView) → Quiet t u → Becomes frame c old t → Becomes frame c old u
becomes_more frame c old t u still has = record {
  others = λ d away. stays_both old.tables.streams t.streams u.streams d (has.others d away) (still d);
  heard = stays_loud c t u still has.heard;
  gains = λ session speaks. has.gains session (was_in t.streams u.streams c (Speaking session) (still c) (speaks_on session) speaks);
}

-- the first of the frames is a greeting
pub record IsGreeted (frames : List (List ℕ)) (c : ℕ) (old new : FrontView) : Type 0 where
  pub frame : List ℕ
  pub rest : List (List ℕ)
  pub first : frames ≡ frame ∷ rest
  pub silent : phase_of old.tables.streams c ≡ Some Silent
  pub becomes : Becomes frame c old new.tables

-- or they give nothing
abbrev pub FramesGive : List (List ℕ) → ℕ → FrontView → FrontView → Type 0
FramesGive frames c old new =
    (Quiet old.tables new.tables × (((frames ≡ []) × (new ≡ old)) ⊎ NotSilent c new.tables)) ⊎ IsGreeted frames c old new

-- frames after a first one that gave nothing
behind : (frame : List ℕ) (frames : List (List ℕ)) (c : ℕ) (old middle new : FrontView) → NotSilent c old.tables → Quiet old.tables middle.tables
    → HandlesAll frames c middle new → FramesGive (frame ∷ frames) c old new
behind frame frames c old middle new loud calm has =
    let loud_then = stays_loud c old.tables middle.tables calm loud in
    let still = serves_all frames c middle new loud_then has in
    inl (carries_quiet.both old.tables middle.tables new.tables calm still, inr (stays_loud c middle.tables new.tables still loud_then))

first_in : (phase : Option Phase) (frame : List ℕ) (frames : List (List ℕ)) (c : ℕ) (old middle new : FrontView)
    → phase_of old.tables.streams c ≡ phase → HandlesIn phase frame c old middle → HandlesAll frames c middle new
    → FramesGive (frame ∷ frames) c old new
first_in (Some Silent) frame frames c old middle new silent is more =
    let done = subst (λ (v : FrontView). Becomes frame c old v.tables) (sym is) (greets frame c old) in
    inr (record {
      frame = frame;
      rest = frames;
      first = refl;
      silent = silent;
      becomes = becomes_more frame c old middle.tables new.tables (serves_all frames c middle new done.heard more) done;
    })
first_in (Some (Speaking session)) frame frames c old middle new is has more =
    behind frame frames c old middle new (λ silent. absurd (cc (sym is ∙ silent)))
    (working.serves Quiet carries_quiet frame session c old middle has) more
first_in (Some Closing) frame frames c old middle new is has more =
    behind frame frames c old middle new (λ silent. absurd (cc (sym is ∙ silent))) (working.same Quiet carries_quiet old middle has) more
first_in None frame frames c old middle new is has more =
    behind frame frames c old middle new (λ silent. absurd (cc (sym is ∙ silent))) (working.same Quiet carries_quiet old middle has) more

pub frames_give : (frames : List (List ℕ)) (c : ℕ) (old new : FrontView) → HandlesAll frames c old new → FramesGive frames c old new
frames_give [] c old new is = inl (working.same Quiet carries_quiet old new is, inl (refl, is))
frames_give (frame ∷ frames) c old new has = first_in (phase_of old.tables.streams c) frame frames c old has.1 new refl has.2 has.3
