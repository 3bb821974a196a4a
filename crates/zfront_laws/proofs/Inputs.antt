-- A step at any input, and steps one after the other. What holds of all of them holds from a
-- beginning on.
use Rattle.std.proofs.Common.{◌∙◌, true, List, [], ◌∷◌, refl}
use Rattle.zconnections.specs.buffers.Inputs.{InputView}
use Rattle.zconnections.specs.buffers.Inputs.InputView.{Opened, Came, Ended, Tick}
use Rattle.zconnections.specs.buffers.Streams.{held_of}
use Rattle.zconnections.specs.buffers.Streams as streams
use Rattle.zconnections.specs.attachments.Attachments.{touched_ids}
use Rattle.ztree_service.proofs.log_lemmas.Incarnations.{leads_more}
use Rattle.zconnections.specs.Tables as tables
use Rattle.zfront.specs.Front.{FrontView, asked}
use Rattle.zfront.specs.Inputs as inputs
use Rattle.zfront.specs.Inputs.{without_first}
use Rattle.zfront.specs.Restoring.{beginning}
use Rattle.zfront.specs.Ticking.{tick_calls, rested, Ticks}
use Rattle.zfront_laws.specs.Given.{WhoSpeaksIsAlive}
use Rattle.zfront_laws.specs.Laws.{EveryStepGoesOn, EveryRunGoesOn, EveryFrontKeepsFew, EveryFrontIsItsTrees, EveryFrontIsOneTree, StaysAsItBegan}
use Rattle.zfront_laws.specs.Logs.{done_by, input_log, step_log, run_log}
use Rattle.zfront_laws.specs.Making.{took_at, took_in, EveryStepMakesMore, EveryChangeIsMade}
use Rattle.zfront_laws.specs.Runs.{Step, Takes, Sent, Took, KeepsFew, Does, Runs}
use Rattle.zfront_laws.specs.Seats.{EveryFrontIsSeated}
use Rattle.zfront_laws.proofs.Calling.{makes}
use Rattle.zfront_laws.proofs.Coming.{comes, empties, handles_all}
use Rattle.zfront_laws.proofs.Ending.{tick_calls_end}
use Rattle.zfront_laws.proofs.Held.{held-insert, held-remove}
use Rattle.zfront_laws.proofs.Cached.{ends_kept, opens_kept, rests_kept}
use Rattle.zfront_laws.proofs.Lighter.{as_many, none_more, unmoved}
use Rattle.zfront_laws.proofs.Restored.{is_few, is_fine}
use Rattle.zfront_laws.proofs.Seated.{has_seat}
use Rattle.zfront_laws.proofs.Steps.{Goes, both, retabled, same, takes}

ticks : (old new : FrontView) → Ticks old new → Goes [] (done_by (tick_calls (touched_ids old.tables.attachments)) old) old new
ticks old new has =
    let calls = tick_calls (touched_ids old.tables.attachments) in
    makes calls (rested (asked calls old)).tables old new (as_many (held_of old.tables.streams), rests_kept old.tables)
    (λ fine. tick_calls_end (touched_ids old.tables.attachments) old.tree fine.can) has

takes_input : (input : InputView) (old new : FrontView) → KeepsFew old → (does : inputs.Does input old new)
    → Goes [] (input_log input old new does) old new
takes_input (Opened c) old new few is =
    retabled (inputs.opened c old).tables old new is (none_more _ _ (held-insert old.tables.streams c streams.opened), opens_kept c old.tables)
takes_input (Came c bytes) old new few has = comes bytes c old new few has
takes_input (Ended c) old new few is =
    retabled (tables.ended c old.tables) old new is (held-remove old.tables.streams c, ends_kept c old.tables)
takes_input Tick old new few has = ticks old new has

-- any step
pub goes : (step : Step) (old new : FrontView) → KeepsFew old → (does : Does step old new)
    → Goes (took_at step old) (step_log step old new does) old new
goes (Takes input) old new few does = takes_input input old new few does
goes Sent old new few is = retabled (without_first old).tables old new is (unmoved old.tables)
goes Took old new few is = takes old new is

-- and steps, one after the other
pub run_goes : (steps : List Step) (old new : FrontView) → KeepsFew old → (runs : Runs steps old new)
    → Goes (took_in steps old new runs) (run_log steps old new runs) old new
run_goes [] old new few is = same old new is
run_goes (step ∷ steps) old new few runs =
    let first = goes step old runs.0 few runs.1 in
    both first (run_goes steps runs.0 new (first.few few) runs.2)

-- ---- laws of steps

pub every_step_goes_on : EveryStepGoesOn
every_step_goes_on step old new few does =
    let done = goes step old new few does in
    (done.leads, done.few few)

pub every_run_goes_on : EveryRunGoesOn
every_run_goes_on steps old new few runs =
    let done = run_goes steps old new few runs in
    (done.leads, done.few few)

pub stays_as_it_began : StaysAsItBegan
stays_as_it_began steps old new few runs = (run_goes steps old new few runs).alike

pub every_step_makes_more : EveryStepMakesMore
every_step_makes_more step old new few kept does =
    let done = goes step old new few does in
    (done.made kept, done.alike.2 ∙ kept)

-- ---- laws from a beginning on

pub every_front_keeps_few : EveryFrontKeepsFew
every_front_keeps_few limits t secret times is_kept steps v runs =
    let few = is_few limits t secret times is_kept in
    (run_goes steps (beginning limits t secret times is_kept) v few runs).few few

pub every_front_is_its_trees : EveryFrontIsItsTrees
every_front_is_its_trees limits t secret times is_kept steps v runs =
    (run_goes steps (beginning limits t secret times is_kept) v (is_few limits t secret times is_kept) runs).leads

pub every_front_is_one_tree : EveryFrontIsOneTree
every_front_is_one_tree limits t secret times is_kept start before steps v left runs =
    leads_more start t v.tree before (run_log steps (beginning limits t secret times is_kept) v runs) left
    (every_front_is_its_trees limits t secret times is_kept steps v runs)

pub every_change_is_made : EveryChangeIsMade
every_change_is_made limits t secret times steps v runs =
    (run_goes steps (beginning limits t secret times true) v (is_few limits t secret times true) runs).made refl

pub every_front_is_seated : EveryFrontIsSeated
every_front_is_seated limits t secret times is_kept steps v can runs =
    ((run_goes steps (beginning limits t secret times is_kept) v (is_few limits t secret times is_kept) runs).seats (is_fine limits t secret times is_kept can)).seated

pub who_speaks_is_alive : WhoSpeaksIsAlive
who_speaks_is_alive limits t secret times is_kept at c d session can stands speaks =
    let ran = run_goes stands.steps (beginning limits t secret times is_kept) stands.stood (is_few limits t secret times is_kept) stands.ran in
    let stood = (empties c stands.stood).seats (ran.seats (is_fine limits t secret times is_kept can)) in
    let fine = (handles_all stands.frames c _ at stands.handled).seats stood in
    fine.alive session (has_seat at.tables d session fine.seated speaks)
