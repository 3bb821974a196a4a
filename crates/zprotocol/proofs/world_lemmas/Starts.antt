-- Events and runs don't hang on where the machines started.
use Rattle.std.proofs.Common.{◌≡◌, refl, ap, ◌∙◌, if◌then◌else◌, List, [], ◌∷◌}
use Rattle.zcalls.specs.Cached.{nothing_cached}
use Rattle.zprotocol.specs.declared.process.Process.{Process}
use Rattle.zprotocol.specs.declared.process.Process.TheVariants.{Master, Server, Client}
use Rattle.zprotocol.specs.server.Machine.{Does, cached_tree}
use Rattle.zprotocol.specs.server.View.{MessageOf}
use Rattle.zprotocol.specs.server.Table.{is_retirement}
use Rattle.zprotocol.proofs.server_lemmas.Starts.{same_table}
use Rattle.zprotocol.specs.declared.world.event.Event.{Event}
use Rattle.zprotocol.specs.declared.world.event.Event.TheVariants.{Begin, Retry, Take, Ignore, Fail, Order}
use Rattle.zprotocol.specs.world.Links.{without_front}
use Rattle.zprotocol.specs.world.World.{World}
use Rattle.zprotocol.specs.world.Does.{Hear, server_effect, stop_effect}
use Rattle.zprotocol.specs.world.Events.{is_enabled, did_in, does_in, front_step, acts, let_go, happens, run}
use Rattle.zprotocol.specs.world.FromTree.{EventsForgetTheStart, RunsForgetTheStart}

module _ {M : Type 0} (does : Does M) (start : M) where
  -- the machine that starts elsewhere
  abbrev other : Does M
  other = record does { start = start }

  same_step : (w : World M) (from to : Process) (m : MessageOf M) → does_in other w to (Hear from m) ≡ does_in does w to (Hear from m)
  same_step w from Master m = refl
  same_step w from (Server s) m =
      ap (λ did. did_in w (Server s) (if is_retirement from m then stop_effect else server_effect did)) (same_table does start (w.servers s) from m)
  same_step w from (Client c) m = refl

  same_front : (w : World M) (from to : Process) (link : List (MessageOf M)) → front_step other w from to link ≡ front_step does w from to link
  same_front w from to [] = refl
  same_front w from to (m ∷ more) = same_step (record w { links = without_front w.links from to }) from to m

  same_acts : (w : World M) (event : Event) → acts other w event ≡ acts does w event
  same_acts w (Begin c call) = refl
  same_acts w (Retry c) = refl
  same_acts w (Take from to) = same_front w from to (w.links from to)
  same_acts w (Ignore from to) = refl
  same_acts w (Fail s) = refl
  same_acts w (Order order) = refl

  pub same_happens : (w : World M) (event : Event) → happens other w event ≡ happens does w event
  same_happens w event = ap (λ u. if is_enabled w event then let_go u else w) (same_acts w event)

  pub same_run : (w : World M) (events : List Event) → run other w events ≡ run does w events
  same_run w [] = refl
  same_run w (event ∷ events) = ap (λ u. run other u events) (same_happens w event) ∙ same_run (happens does w event) events

-- so of trees
pub events_forget_the_start : EventsForgetTheStart
events_forget_the_start t w event = same_happens cached_tree (nothing_cached t) w event

pub runs_forget_the_start : RunsForgetTheStart
runs_forget_the_start t w events = same_run cached_tree (nothing_cached t) w events
