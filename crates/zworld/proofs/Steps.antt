-- Events that happened, and events that didn't.
use Rattle.std.proofs.Common.{◌≡◌, ◌<◌, ℕ, inl, inr, arith, true, false, if◌then◌else◌, [], ◌++◌, refl, sym, ap, subst, ◌∙◌, append-nil}
use Rattle.std.specs.Prelude.{◌&&◌, not}
use mathlib.Core.Bool.{true≢false}
use Rattle.ztree.specs.Tree.{Tree}
use Rattle.zcalls.specs.Cached.{CachedState}
use Rattle.zcalls.proofs.Among.{test}
use Rattle.zprotocol.specs.declared.limits.TheConstants.{PROCESSES}
use Rattle.zprotocol.specs.Places.{is_server, place_of}
use Rattle.zprotocol.specs.declared.process.Process.TheVariants.{Master, Server, Client}
use Rattle.zprotocol.specs.server.Machine.{cached_tree}
use Rattle.zprotocol.specs.declared.world.event.Event.{Event}
use Rattle.zprotocol.specs.declared.world.event.Event.TheVariants.{Begin, Retry, Take, Ignore, Fail, Order}
use Rattle.zprotocol.specs.declared.world.outcome.Outcome.{Outcome}
use Rattle.zprotocol.specs.declared.world.outcome.Outcome.TheVariants.{Acted, Stopped, Unheard}
use Rattle.zprotocol.specs.world.History.{History}
use Rattle.zprotocol.specs.world.World.{World}
use Rattle.zprotocol.specs.world.Events.{is_enabled, let_go, happens, acts}
use Rattle.zprotocol.specs.world.Reading.{is_fitting, read, reading_by}
use Rattle.zprotocol.specs.world.support.Alike.{IsAlike}
use Rattle.zprotocol.proofs.world_lemmas.Alike.{alike_itself, alike_let_go, alike_back}
use Rattle.zworld.specs.declared.did.Did.{Did}
use Rattle.zworld.specs.declared.did.Did.TheVariants as did
use Rattle.zworld.specs.declared.did.IdleCause.{IdleCause}
use Rattle.zactor.specs.Acting.{has_stopped}
use Rattle.zworld.specs.Held.{Held, standing_at, kept_world}
use Rattle.zworld.specs.Did.{IsCause}
use Rattle.zworld.specs.support.Stepped.{HasStepped}

-- a server that has a position has a server's number
pub is_one : (s : ℕ) → place_of (Server s) < PROCESSES → is_server s ≡ true
is_one s inside = elim (test (is_server s)) [
  | inl is ↦ is
  | inr not ↦ let never : PROCESSES < PROCESSES = rw not at inside in absurd (omega (arith, never))
]

-- and can fail, if it hasn't stopped
pub can_fail : (held : Held) (s : ℕ) → is_server s ≡ true → has_stopped (standing_at held.actors (Server s)) ≡ false
    → is_enabled (kept_world held []) (Fail s) ≡ true
can_fail held s one lives = ap (λ b. b && not (has_stopped (standing_at held.actors (Server s)))) one ∙ ap not lives

-- what is enabled doesn't hang on the history
pub enabled_anyway : (held : Held) (history : History) (event : Event)
    → is_enabled (kept_world held history) event ≡ is_enabled (kept_world held []) event
enabled_anyway held history (Begin c call) = refl
enabled_anyway held history (Retry c) = refl
enabled_anyway held history (Take from to) = refl
enabled_anyway held history (Ignore from to) = refl
enabled_anyway held history (Fail s) = refl
enabled_anyway held history (Order order) = refl

-- an event at which the taker acted reads as itself
pub read_acted : (w : World (CachedState Tree)) (event : Event) → read cached_tree w event Acted ≡ event
read_acted w (Begin c call) = refl
read_acted w (Retry c) = refl
read_acted w (Take from Master) = refl
read_acted w (Take from (Server s)) = refl
read_acted w (Take from (Client c)) = refl
read_acted w (Ignore from to) = refl
read_acted w (Fail s) = refl
read_acted w (Order order) = refl

-- what outcomes an event can have doesn't hang on the history either
pub fitting_anyway : (held : Held) (history : History) (event : Event) (outcome : Outcome)
    → is_fitting cached_tree (kept_world held history) event outcome ≡ is_fitting cached_tree (kept_world held []) event outcome
fitting_anyway held history event Acted = refl
fitting_anyway held history (Begin c call) Stopped = refl
fitting_anyway held history (Retry c) Stopped = refl
fitting_anyway held history (Take from Master) Stopped = refl
fitting_anyway held history (Take from (Server s)) Stopped = refl
fitting_anyway held history (Take from (Client c)) Stopped = refl
fitting_anyway held history (Ignore from to) Stopped = refl
fitting_anyway held history (Fail s) Stopped = refl
fitting_anyway held history (Order order) Stopped = refl
fitting_anyway held history (Begin c call) Unheard = refl
fitting_anyway held history (Retry c) Unheard = refl
fitting_anyway held history (Take from Master) Unheard = refl
fitting_anyway held history (Take from (Server s)) Unheard = refl
fitting_anyway held history (Take from (Client c)) Unheard = refl
fitting_anyway held history (Ignore from to) Unheard = refl
fitting_anyway held history (Fail s) Unheard = refl
fitting_anyway held history (Order order) Unheard = refl

-- nor does how it reads
pub read_anyway : (held : Held) (history : History) (event : Event) (outcome : Outcome)
    → read cached_tree (kept_world held history) event outcome ≡ read cached_tree (kept_world held []) event outcome
read_anyway held history event outcome =
    ap (λ b. if b then reading_by event outcome else event) (fitting_anyway held history event outcome)

-- an event that isn't enabled, or is
pub happens_not : (w : World (CachedState Tree)) (event : Event) → is_enabled w event ≡ false → happens cached_tree w event ≡ w
happens_not w event off = ap (λ b. if b then let_go (acts cached_tree w event) else w) off

pub happens_so : (w : World (CachedState Tree)) (event : Event) → is_enabled w event ≡ true
    → happens cached_tree w event ≡ let_go (acts cached_tree w event)
happens_so w event on = ap (λ b. if b then let_go (acts cached_tree w event) else w) on

-- what let go is alike to what the other is alike to
pub gone_too : (v w : World (CachedState Tree)) → IsAlike v w → IsAlike (let_go v) w
gone_too v w alike = subst (λ u. IsAlike u w) (sym (alike_let_go v w alike)) (alike_back w)

-- an event that isn't enabled
pub idle_stepped : (held : Held) (event : Event) (why : IdleCause) → is_enabled (kept_world held []) event ≡ false → IsCause held event why
    → HasStepped held held event (did.Idle why) []
idle_stepped held event why off caused = record {
  idle = ap not (sym off);
  same = λ idle. refl;
  caused = λ other is. subst (λ c. IsCause held event c) (same_cause why other is) caused;
  fits = refl;
  leads = λ history.
      subst (λ e. IsAlike (happens cached_tree (kept_world held history) e) (kept_world held (history ++ [])))
      (sym (read_acted (kept_world held []) event))
      (subst (λ w. IsAlike w (kept_world held (history ++ [])))
      (sym (happens_not (kept_world held history) event (enabled_anyway held history event ∙ off)))
      (subst (λ h. IsAlike (kept_world held history) (kept_world held h)) (sym (append-nil history)) (alike_itself (kept_world held history))));
}
  where
    same_cause : (a b : IdleCause) → did.Idle a ≡ did.Idle b → a ≡ b
    same_cause a b is = ap (λ (d : Did). elim d [ did.Done ↦ a | did.Idle c ↦ c | did.Unheard ↦ a | did.Stopped ↦ a ]) is

-- an event that happened
pub done_stepped : (old new : Held) (event : Event) (reported : History) → is_enabled (kept_world old []) event ≡ true
    → ((history : History) → IsAlike (acts cached_tree (kept_world old history) event) (kept_world new (history ++ reported)))
    → HasStepped old new event did.Done reported
done_stepped old new event reported on alike = record {
  idle = ap not (sym on);
  same = λ idle. absurd (true≢false (sym idle));
  caused = λ why is. let never : ⊥ = cc in absurd never;
  fits = refl;
  leads = λ history.
      subst (λ e. IsAlike (happens cached_tree (kept_world old history) e) (kept_world new (history ++ reported)))
      (sym (read_acted (kept_world old []) event))
      (subst (λ w. IsAlike w (kept_world new (history ++ reported)))
      (sym (happens_so (kept_world old history) event (enabled_anyway old history event ∙ on)))
      (gone_too _ _ (alike history)));
}
