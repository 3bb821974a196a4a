-- What was brought about of the effect of a line is the line, done.
use Rattle.std.proofs.Common.{◌≡◌, ℕ, Bool, List, [], ◌∷◌, ◌++◌, None, refl, sym, ap, subst, ◌∙◌, inl, inr, append_assoc}
use Rattle.std.specs.Prelude.{Ok, Err, String, string_bytes}
use Rattle.std.specs.List.{flat_map}
use Rattle.zprotocol.specs.declared.world.outcome.Outcome.{Outcome}
use Rattle.zprotocol.specs.world.History.{History}
use Rattle.zscript_text.specs.declared.line.Line.{Line}
use Rattle.zscript_text.specs.declared.request.LineFault.{LineFault}
use Rattle.zscript_text.specs.declared.request.LineFault.TheVariants.{Memory}
use Rattle.zscript_text.specs.Request.{Read, IsUnread}
use Rattle.zscript_text.specs.Line.{line_of}
use Rattle.zscript_text.specs.Texts.{Writes}
use Rattle.zworld.specs.Held.{Held, world_of}
use Rattle.zworld.specs.Steps.{WorldView, world_in}
use Rattle.zscript.specs.Line.{ServiceWorld, forgotten, script_state, LineEffect, line_fault_text, line_effect}
use Rattle.zscript.specs.Line.{read_effect, effect_of, taken_text, answer, after}
use Rattle.zscript.specs.Done.{IsLineDone, world_between}
use Rattle.zscript.specs.support.Effects.{MayReport, IsEffectDone, IsEffectDoneBy}

-- one text after another
pub writes_more : {A : Type 0} (old mid new : String A) (first more : List ℕ) → Writes old mid first → Writes mid new more
    → Writes old new (first ++ more)
writes_more old mid new first more before after = after ∙ ap (λ text. text ++ more) before ∙ append_assoc (string_bytes old) first more

-- a line, done; its outcomes are those of its effect
abbrev line_reported : (old new : Held) (history : History) (line : List ℕ) (wrote writes : List ℕ → Type 0)
    → ((text : List ℕ) → wrote text → writes (text ++ 10 ∷ []))
    → IsEffectDone (world_of old []) (world_of new history) (λ s. effect_of s line) wrote
    → IsLineDone (world_between old) line (world_between new) writes
unfolding answer after
line_reported old new history line wrote writes ends done =
    let taken = flat_map (taken_text done.own) history in
    let effect : List Outcome → LineEffect = λ later. effect_of (script_state (world_of old []) (done.reported ++ later)) line in
    let reported : (later : List Outcome) → (effect later).did.world.history ≡ history =
    λ later. ap (λ (w : ServiceWorld). w.history) (done.leads later).led in
    record {
      reported = done.reported;
      text = taken ++ done.result ++ 10 ∷ [];
      written = ends (taken ++ done.result) done.written;
      left = λ later.
          ap (λ (w : ServiceWorld). script_state (forgotten w) (effect later).did.outcomes) (done.leads later).led
          ∙ ap (λ outcomes. script_state (world_between new) outcomes) (done.leads later).left;
      answered = λ later.
          ap (λ own. flat_map (taken_text own) (effect later).did.world.history ++ (effect later).result ++ 10 ∷ []) (done.leads later).owned
          ∙ ap (λ history. flat_map (taken_text done.own) history ++ (effect later).result ++ 10 ∷ []) (reported later)
          ∙ ap (λ result. taken ++ result ++ 10 ∷ []) (done.leads later).answered;
    }

-- a line, done on a world that had reported nothing since
pub line_done : (strict : Bool) (old new : WorldView) (line : List ℕ) (wrote writes : List ℕ → Type 0)
    → ((text : List ℕ) → wrote text → writes (text ++ 10 ∷ []))
    → old.history ≡ [] → IsEffectDoneBy strict (world_in old) (world_in new) (λ s. effect_of s line) wrote
    → (done : IsLineDone (world_between old.held) line (world_between new.held) writes) × MayReport strict done.reported
unfolding line_reported
line_done strict old new line wrote writes ends none done =
    let bare = subst (λ (before : History). IsEffectDoneBy strict (world_of old.held before) (world_in new) (λ s. effect_of s line) wrote)
    none done in
    (line_reported old.held new.held new.history line wrote writes ends bare.0, bare.1)

-- what was read of a line
pub read_done : (strict : Bool) (v w : ServiceWorld) (line : List ℕ) (asked : Line) (writes : List ℕ → Type 0) → line_of line ≡ Ok asked
    → IsEffectDoneBy strict v w (λ s. line_effect s asked) writes → IsEffectDoneBy strict v w (λ s. effect_of s line) writes
unfolding effect_of
read_done strict v w line asked writes is done =
    subst (λ (read : Read Line). IsEffectDoneBy strict v w (λ s. read_effect s read) writes) (sym is) done

-- a line that asks for nothing
unread_done : (strict : Bool) (v : ServiceWorld) (line : List ℕ) (fault : LineFault) (writes : List ℕ → Type 0)
    → v.history ≡ [] → line_of line ≡ Err fault
    → writes (line_fault_text fault) → IsEffectDoneBy strict v v (λ s. effect_of s line) writes
unfolding effect_of
unread_done strict v line fault writes none is written =
    subst (λ (read : Read Line). IsEffectDoneBy strict v v (λ s. read_effect s read) writes) (sym is) (
      record {
        reported = [];
        own = None;
        result = line_fault_text fault;
        leads = λ later. record { led = refl; left = refl; owned = refl; answered = refl };
        written = subst (λ (h : History). writes (flat_map (taken_text None) h ++ line_fault_text fault)) (sym none) written;
      },
      λ strictly. tt,
    )

pub fault_done : (strict : Bool) (v : ServiceWorld) (line : List ℕ) (fault : LineFault) (writes : List ℕ → Type 0)
    → v.history ≡ [] → IsUnread (line_of line) fault
    → (fault ≡ Memory → ⊥) × writes (line_fault_text fault) → IsEffectDoneBy strict v v (λ s. effect_of s line) writes
fault_done strict v line fault writes none (inl memory) written = absurd (written.0 memory)
fault_done strict v line fault writes none (inr is) written = unread_done strict v line fault writes none is written.1
