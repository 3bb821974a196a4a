-- From what the processes say of settling to what the world says.
use Rattle.std.proofs.Common.{◌≡◌, ℕ, Bool, false, List, [], ◌++◌, inl, inr, refl, sym, ap, subst, ◌∙◌, append_assoc}
use Rattle.std.specs.List.{list_any}
use Rattle.ztree.specs.Tree.{Tree}
use Rattle.zcalls.specs.Cached.{CachedState}
use Rattle.zprotocol.specs.server.Machine.{cached_tree}
use Rattle.zprotocol.specs.declared.world.event.Event.TheVariants.{Take}
use Rattle.zprotocol.specs.declared.world.settled.Settled.{Settled}
use Rattle.zprotocol.specs.declared.world.settled.Settled.TheVariants.{Quiet}
use Rattle.zprotocol.specs.world.History.{History}
use Rattle.zprotocol.specs.world.World.{World}
use Rattle.zprotocol.specs.declared.world.outcome.Outcome.{Outcome}
use Rattle.zprotocol.specs.world.Events.{is_enabled, let_go}
use Rattle.zprotocol.specs.world.Keeping.{run_keeping}
use Rattle.zprotocol.specs.world.Settle.{deliveries, settle}
use Rattle.zprotocol.proofs.world_lemmas.Keeping.{keeping_runs, let_go_twice}
use Rattle.zprotocol.proofs.world_lemmas.Settling.{settling_is_a_run, quiet_has_nothing_to_take}
use Rattle.zprotocol.proofs.world_lemmas.Visited.{after_within_from, links_are_visited_from, none_passes}
use Rattle.zworld.specs.Held.{Held, kept_world, world_of}
use Rattle.zworld.specs.Steps.{IsAtRest}
use Rattle.zworld.specs.support.Settled.{HasSettledBy}
use Rattle.zworld.specs.support.Stepped.{Settles}
use Rattle.zworld.specs.support.Past.{HasPast}
use Rattle.zworld.proofs.Going.{goes_on, stands_later, leads_on, enabled_of}

-- settling continues after any past
settles_behind : (strict : Bool) (past : History) (old new : Held) (limit : ℕ) (before after : History) (settled : Settled)
    → Settles strict old new limit before after settled
    → Settles strict old new limit (past ++ before) (past ++ after) settled
settles_behind strict past old new limit before after settled (learnt, reported, is, settles, acted) =
    (learnt, reported, ap (λ xs. past ++ xs) is ∙ sym (append_assoc past before reported), settles, acted)

-- what settling leads to has let go of what failed servers held
settled_gone : (held : Held) (history : History) (limit : ℕ) (outcomes : List Outcome)
    → let s = settle cached_tree (world_of held history) limit outcomes in let_go s.world ≡ s.world
settled_gone held history limit outcomes =
    let kept = kept_world held history in
    let s = settle cached_tree (let_go kept) limit outcomes in
    let ran : s.world ≡ let_go (run_keeping cached_tree kept s.events) = settling_is_a_run cached_tree (let_go kept) limit outcomes
    ∙ keeping_runs cached_tree kept s.events in
    ap let_go ran ∙ let_go_twice (run_keeping cached_tree kept s.events) ∙ sym ran

-- the processes settled as the world of the definition does
pub settled_as_defined : (strict : Bool) (old new : Held) (limit : ℕ) (before after : History) (settled : Settled)
    → Settles strict old new limit before after settled
    → HasSettledBy strict (world_of old before) limit settled (world_of new after)
settled_as_defined strict old new limit before after settled (learnt, reported, is, settles, acted) = (
  learnt,
  acted,
  λ later. (
    settles.ended before later,
    settles.left before later,
    leads_on (settle cached_tree (world_of old before) limit (learnt ++ later)).world new (before ++ reported)
        (settled_gone old before limit (learnt ++ later)) (settles.leads before later)
        ∙ ap (world_of new) (sym is),
  ),
)

-- and the past continues
pub past_settles : (strict : Bool) (restored forgotten : Bool) (old new : Held) (limit : ℕ) (before after : History) (settled : Settled)
    → HasPast restored forgotten false old before
    → Settles strict old new limit before after settled → HasPast restored forgotten false new after
past_settles strict restored forgotten old new limit before after settled had settles =
    let v = world_of old (had.past ++ before) in
    let (learnt, acted, ends) =
    settled_as_defined strict old new limit (had.past ++ before) (had.past ++ after) settled
    (settles_behind strict had.past old new limit before after settled settles) in
    goes_on restored forgotten old new before after (settle cached_tree v limit (learnt ++ [])).events had
    (sym (settling_is_a_run cached_tree v limit (learnt ++ [])) ∙ (ends []).2)

-- where settling ended quiet, no message can be taken
pub quiet_is_rest : (strict : Bool) (restored forgotten : Bool) (old new : Held) (limit : ℕ) (before after : History)
    → HasPast restored forgotten false old before
    → Settles strict old new limit before after Quiet → IsAtRest (world_of new after)
quiet_is_rest strict restored forgotten old new limit before after had settles from to =
    let v = world_of old (had.past ++ before) in
    let w = world_of new (had.past ++ after) in
    let (learnt, acted, ends) =
    settled_as_defined strict old new limit (had.past ++ before) (had.past ++ after)
    Quiet (settles_behind strict had.past old new limit before after Quiet settles) in
    let (ended, taken, leads) = ends [] in
    let done = settle cached_tree v limit (learnt ++ []) in
    let ran = sym (settling_is_a_run cached_tree v limit (learnt ++ [])) ∙ leads in
    let here = stands_later restored forgotten old new before (had.past ++ after) done.events had ran in
    let counted : (kept_world old []).master.clients ≡ had.clients =
    ap (λ (u : World (CachedState Tree)). u.master.clients) (sym (had.stands refl))
    ∙ (after_within_from had.tree had.servers had.clients had.events had.opens).counted in
    let none : list_any (is_enabled done.world) (deliveries had.clients) ≡ false =
    subst (λ n. list_any (is_enabled done.world) (deliveries n) ≡ false) counted
    (quiet_has_nothing_to_take cached_tree v limit (learnt ++ []) (sym ended)) in
    let rest : is_enabled w (Take from to) ≡ false =
    elim (links_are_visited_from had.tree had.servers had.clients (had.events ++ done.events) from to had.opens) [
      | inl empty ↦
          sym (ap (λ u. is_enabled u (Take from to)) here) ∙ rw empty refl
      | inr among ↦
          sym (ap (λ u. is_enabled u (Take from to)) leads)
          ∙ none_passes (is_enabled done.world) (Take from to) (deliveries had.clients) among none
    ] in
    enabled_of new after (Take from to) ∙ sym (enabled_of new (had.past ++ after) (Take from to)) ∙ rest
