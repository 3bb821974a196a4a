-- From what the processes do to what the world says, and how a past continues.
use Rattle.std.proofs.Common.{◌≡◌, ℕ, Bool, true, false, not, List, [], ◌∷◌, ◌++◌, refl, sym, ap, ◌∙◌, subst, true≢false, append_assoc}
use Rattle.std.proofs.lemmas.List.{append-nil}
use Rattle.std.specs.Prelude.{Result, Ok, Err, IfOk, OnErr, is_err}
use Rattle.ztree.specs.Tree.{Tree, opening_tree}
use Rattle.zalloc.specs.declared.memory.Memory.{Memory}
use Rattle.zcalls.specs.Cached.{CachedState}
use Rattle.zprotocol.specs.server.Machine.{Does, cached_tree, cached_tree_from}
use Rattle.zprotocol.specs.declared.world.event.Event.{Event}
use Rattle.zprotocol.specs.declared.world.event.Event.TheVariants.{Begin, Retry, Take, Ignore, Fail, Order}
use Rattle.zprotocol.specs.declared.world.outcome.Outcome.TheVariants.{Acted}
use Rattle.zprotocol.specs.world.History.{History}
use Rattle.zprotocol.specs.world.World.{World, opening_world}
use Rattle.zprotocol.specs.Places.{is_server}
use Rattle.zprotocol.specs.world.Events.{is_enabled, let_go, happens, run}
use Rattle.zprotocol.specs.world.Reading.{read}
use Rattle.zprotocol.specs.world.support.Alike.{IsAlike}
use Rattle.zprotocol.specs.world.PlainTree.{IsExplained}
use Rattle.zprotocol.specs.world.FromTree.{CanStart, IsExplainedFrom, opening_world_from, world_after_from}
use Rattle.zprotocol.proofs.world_lemmas.FirstCallsFrom.{opening_can_start}
use Rattle.zprotocol.proofs.world_lemmas.Starts.{runs_forget_the_start}
use Rattle.zprotocol.proofs.world_lemmas.Alike.{have_the_same_enabled, outcomes_alike, stay_alike, alike_back, alike_let_go, alike_through, read_alike}
use Rattle.zprotocol.proofs.world_lemmas.Keeping.{happened_lets_go, opening_let_go}
use Rattle.zlinearizability.proofs.Headline.{every_history_from_is_explained}
use Rattle.zworld.specs.declared.did.Did.{Did}
use Rattle.zworld.specs.declared.did.Did.TheVariants as deed
use Rattle.zworld.specs.Held.{Held, kept_world, world_of}
use Rattle.zworld.specs.Did.{outcome_of, is_idle}
use Rattle.zworld.specs.Steps.{WorldView, IsExplainedFromStart, HasHappened, HasRun, HasBegunToRun, can_want_memory}
use Rattle.zworld.specs.support.Stepped.{HasStepped, GoesBy}
use Rattle.zworld.specs.support.Past.{HasPast, LeadRead}
use Rattle.zworld.proofs.Steps.{enabled_anyway, fitting_anyway, read_anyway, read_acted, happens_not}

-- what leads to what is held leads to its world
pub leads_on : (v : World (CachedState Tree)) (held : Held) (history : History) → let_go v ≡ v → IsAlike v (kept_world held history)
    → v ≡ world_of held history
leads_on v held history gone alike = sym gone ∙ alike_let_go v (kept_world held history) alike

-- an event of the processes is one of the world, from any history
pub happened : (old new : Held) (before after : History) (event : Event) (did : Did) → GoesBy old new event before after did
    → HasHappened (world_of old before) event did (world_of new after)
happened old new before after event did (reported, is, stepped) =
    let kept = kept_world old before in
    let from : IsAlike (world_of old before) kept = alike_back kept in
    let reads : read cached_tree (world_of old before) event (outcome_of did) ≡ read cached_tree (kept_world old []) event (outcome_of did) =
    read_alike cached_tree (world_of old before) kept event (outcome_of did) from ∙ read_anyway old before event (outcome_of did) in
    let next = happens cached_tree (world_of old before) (read cached_tree (kept_world old []) event (outcome_of did)) in
    let alike : IsAlike next (kept_world new (before ++ reported)) =
    alike_through _ _ _ (stay_alike cached_tree (world_of old before) kept (read cached_tree (kept_world old []) event (outcome_of did) ∷ []) from)
    (stepped.leads before) in
    record {
      idle = stepped.idle ∙ ap not (sym (have_the_same_enabled cached_tree (world_of old before) kept event from ∙ enabled_anyway old before event));
      fits = outcomes_alike cached_tree (world_of old before) kept event (outcome_of did) from ∙ fitting_anyway old before event (outcome_of did)
          ∙ stepped.fits;
      leads =
          ap (happens cached_tree (world_of old before)) reads
          ∙ leads_on next new (before ++ reported) (happened_lets_go cached_tree kept (read cached_tree (kept_world old []) event (outcome_of did))) alike
          ∙ ap (world_of new) (sym is);
    }

-- what is enabled in the world is in what is held
pub enabled_of : (held : Held) (history : History) (event : Event) → is_enabled (world_of held history) event ≡ is_enabled (kept_world held []) event
enabled_of held history event =
    have_the_same_enabled cached_tree (world_of held history) (kept_world held history) event (alike_back (kept_world held history))
    ∙ enabled_anyway held history event

-- it continues after any past
pub behind : (past : History) (old new : Held) (before after : History) (event : Event) (did : Did) → GoesBy old new event before after did
    → GoesBy old new event (past ++ before) (past ++ after) did
behind past old new before after event did (reported, is, stepped) = (reported, ap (λ xs. past ++ xs) is ∙ sym (append_assoc past before reported), stepped)

-- a run of events and more is a run of both
run_both : (machine : Does (CachedState Tree)) (v : World (CachedState Tree)) (events more : List Event)
    → run machine v (events ++ more) ≡ run machine (run machine v events) more
run_both machine v [] more = refl
run_both machine v (event ∷ events) more = run_both machine (happens machine v event) events more

-- whatever tree the machines began with
pub after_both : (t : Tree) (servers clients : ℕ) (events more : List Event)
    → world_after_from t servers clients (events ++ more) ≡ run cached_tree (world_after_from t servers clients events) more
after_both t servers clients events more =
    run_both (cached_tree_from t) (opening_world_from t servers clients) events more
    ∙ runs_forget_the_start t (world_after_from t servers clients events) more

-- where a run leads from the end of a past
pub stands_later : (restored forgotten : Bool) (held next : Held) (history later : History) (events : List Event)
    (had : HasPast restored forgotten false held history)
    → run cached_tree (world_of held (had.past ++ history)) events ≡ world_of next later
    → world_after_from had.tree had.servers had.clients (had.events ++ events) ≡ world_of next later
stands_later restored forgotten held next history later events had leads =
    after_both had.tree had.servers had.clients had.events events ∙ ap (λ w. run cached_tree w events) (had.stands refl) ∙ leads

-- the past continues with it
pub goes_on : (restored forgotten : Bool) (held next : Held) (history later : History) (events : List Event)
    (had : HasPast restored forgotten false held history)
    → run cached_tree (world_of held (had.past ++ history)) events ≡ world_of next (had.past ++ later) → HasPast restored forgotten false next later
goes_on restored forgotten held next history later events had leads =
    let stands = stands_later restored forgotten held next history (had.past ++ later) events had leads in
    record {
      tree = had.tree;
      can_start = had.can_start;
      initial = had.initial;
      lasting = had.lasting;
      servers = had.servers;
      clients = had.clients;
      events = had.events ++ events;
      past = had.past;
      opens = had.opens;
      whole = had.whole;
      reported = ap (λ (w : World (CachedState Tree)). w.history) stands;
      stands = λ _. stands;
    }

-- so it does with an event
pub past_goes_on : (restored forgotten : Bool) (old new : Held) (before after : History) (event : Event) (did : Did)
    → HasPast restored forgotten false old before
    → GoesBy old new event before after did → HasPast restored forgotten false new after
past_goes_on restored forgotten old new before after event did had goes =
    goes_on restored forgotten old new before after (read cached_tree (world_of old (had.past ++ before)) event (outcome_of did) ∷ []) had
    (happened old new (had.past ++ before) (had.past ++ after) event did (behind had.past old new before after event did goes)).leads

-- where memory is refused, the history is still that of the past
pub past_stays : (restored forgotten is_broken : Bool) (held next : Held) (history later : History)
    → HasPast restored forgotten is_broken held history → later ≡ history
    → HasPast restored forgotten true next later
past_stays restored forgotten is_broken held next history later had same =
    record {
      tree = had.tree;
      can_start = had.can_start;
      initial = had.initial;
      lasting = had.lasting;
      servers = had.servers;
      clients = had.clients;
      events = had.events;
      past = had.past;
      opens = had.opens;
      whole = had.whole;
      reported = had.reported ∙ ap (λ xs. had.past ++ xs) (sym same);
      stands = λ broken. absurd (true≢false broken);
    }

-- an initial world holds nothing that is let go of
pub opens_as : (machine : Does (CachedState Tree)) (held : Held) (servers clients : ℕ) → kept_world held [] ≡ opening_world machine servers clients
    → world_of held [] ≡ opening_world machine servers clients
opens_as machine held servers clients is = ap let_go is ∙ opening_let_go machine servers clients

-- an initial world has a past without events, whatever tree it begins with
pub past_begins_with : (t : Tree) → CanStart t → (restored forgotten : Bool) (held : Held) (history : History) (servers clients : ℕ)
    → (restored ≡ false → t ≡ opening_tree) → (forgotten ≡ false → restored ≡ false) → is_server servers ≡ true → history ≡ []
    → world_of held [] ≡ opening_world_from t servers clients → HasPast restored forgotten false held history
past_begins_with t can restored forgotten held history servers clients initial lasting opens none opening =
    record {
      tree = t;
      can_start = can;
      initial = initial;
      lasting = lasting;
      servers = servers;
      clients = clients;
      events = [];
      past = [];
      opens = opens;
      whole = λ whole. refl;
      reported = sym none;
      stands = λ _. sym opening ∙ ap (world_of held) (sym none);
    }

-- so has the world that begins with the initial tree
pub past_begins : (held : Held) (history : History) (servers clients : ℕ) → is_server servers ≡ true → history ≡ []
    → world_of held [] ≡ opening_world cached_tree servers clients → HasPast false false false held history
past_begins held history servers clients opens none opening =
    past_begins_with opening_tree opening_can_start false false held history servers clients (λ _. refl) (λ _. refl) opens none opening

-- a history that is forgotten is of the past
pub past_is_longer : (restored forgotten is_broken : Bool) (held : Held) (history later : History)
    → HasPast restored forgotten is_broken held history → later ≡ []
    → HasPast restored true is_broken held later
past_is_longer restored forgotten is_broken held history later had none =
    let all : had.past ++ history ≡ (had.past ++ history) ++ later = sym (append-nil (had.past ++ history))
    ∙ ap (λ xs. (had.past ++ history) ++ xs) (sym none) in
    record {
      tree = had.tree;
      can_start = had.can_start;
      initial = had.initial;
      lasting = λ whole. absurd (true≢false whole);
      servers = had.servers;
      clients = had.clients;
      events = had.events;
      past = had.past ++ history;
      opens = had.opens;
      whole = λ whole. absurd (true≢false whole);
      reported = had.reported ∙ all;
      stands = λ sound. had.stands sound ∙ ap (world_of held) all;
    }

-- the past and the history are explained
past_from : (w : WorldView) (had : HasPast w.is_restored w.has_forgotten w.is_broken w.held w.history)
    → IsExplainedFrom had.tree (had.past ++ w.history)
past_from w had =
    subst (IsExplainedFrom had.tree) had.reported (every_history_from_is_explained had.tree had.can_start had.servers had.clients had.events)

-- from the initial tree, where the world wasn't restored
past_from_initial : (w : WorldView) (had : HasPast w.is_restored w.has_forgotten w.is_broken w.held w.history)
    → w.is_restored ≡ false → IsExplained (had.past ++ w.history)
past_from_initial w had began = subst (λ t. IsExplainedFrom t (had.past ++ w.history)) (had.initial began) (past_from w had)

pub past_is_explained : (w : WorldView) → HasPast w.is_restored w.has_forgotten w.is_broken w.held w.history → IsExplainedFromStart w
past_is_explained w had =
    (λ began. (had.past, had.whole, past_from_initial w had began), (had.tree, had.past, had.can_start, past_from w had))

-- where nothing was forgotten, the history is
pub whole_is_explained : (w : WorldView) → HasPast w.is_restored w.has_forgotten w.is_broken w.held w.history
    → w.has_forgotten ≡ false → IsExplained w.history
whole_is_explained w had whole =
    subst (λ past. IsExplained (past ++ w.history)) (had.whole whole) (past_from_initial w had (had.lasting whole))

-- one more event
pub lead_more : (v u w : World (CachedState Tree)) (events : List Event) (event : Event) (did : Did) → LeadRead v events u → HasHappened u event did w
    → LeadRead v (events ++ event ∷ []) w
lead_more v u w [] event did is has = (
  outcome_of did,
  subst (λ x. happens cached_tree x (read cached_tree x event (outcome_of did)) ≡ w)
      (sym is) has.leads,
)
lead_more v u w (first ∷ events) event did (outcome, more) has =
    (outcome, lead_more (happens cached_tree v (read cached_tree v first outcome)) u w events event did more has)

-- events that lead to a world one after the other are read so
pub has_run : (v w : World (CachedState Tree)) (events : List Event) → LeadRead v events w → HasRun v events w
has_run v w [] is = ([], ([], refl), is)
has_run v w (event ∷ events) (outcome, more) =
    let rest = has_run (happens cached_tree v (read cached_tree v event outcome)) w events more in
    (read cached_tree v event outcome ∷ rest.0, (outcome ∷ rest.1.0, ap (λ es. read cached_tree v event outcome ∷ es) rest.1.1), rest.2)

-- so are those of which some were done
pub has_begun_to_run : (v w : World (CachedState Tree)) (events front back : List Event) (history : History) → LeadRead v front w
    → events ≡ front ++ back
    → history ≡ w.history → HasBegunToRun v events history
has_begun_to_run v w events front back history leads cut same =
    let ran = has_run v w front leads in
    (front, back, cut, ran.0, ran.1, ap (λ (x : World (CachedState Tree)). x.history) ran.2 ∙ sym same)

-- the past after a call, where memory was refused or not
pub past_after : {A : Type 0} (r : Result A Memory) (Goes : A → Type 0) (restored forgotten : Bool) (old new : Held) (before after : History)
    → HasPast restored forgotten false old before → ((x : A) → Goes x → HasPast restored forgotten false new after)
    → IfOk r Goes → OnErr r (after ≡ before)
    → HasPast restored forgotten (is_err r) new after
past_after (Ok x) Goes restored forgotten old new before after had goes_on goes stays = goes_on x goes
past_after (Err memory) Goes restored forgotten old new before after had goes_on goes stays = past_stays restored
    forgotten false old new before after had stays

-- so after an event
pub past_after_step : (r : Result Did Memory) (restored forgotten : Bool) (old new : Held) (before after : History) (event : Event)
    → HasPast restored forgotten false old before
    → IfOk r (GoesBy old new event before after) → OnErr r (after ≡ before) → HasPast restored forgotten (is_err r) new after
past_after_step r restored forgotten old new before after event had goes stays =
    past_after r (GoesBy old new event before after) restored forgotten old new before after had
    (λ did goes. past_goes_on restored forgotten old new before after event did had goes) goes stays

acted_idle : (became : Did) → is_idle became ≡ true → outcome_of became ≡ Acted
acted_idle (deed.Idle cause) idle = refl
acted_idle deed.Done idle = absurd (true≢false (sym idle))
acted_idle deed.Unheard idle = absurd (true≢false (sym idle))
acted_idle deed.Stopped idle = absurd (true≢false (sym idle))

-- an event that isn't enabled reports nothing
reports_nothing : (held next : Held) (event : Event) (became : Did) (reported : History) → HasStepped held next event became reported
    → is_enabled (kept_world held []) event ≡ false → reported ≡ []
reports_nothing held next event became reported stepped off =
    let w = kept_world held [] in
    let acted = acted_idle became (stepped.idle ∙ ap not off) in
    let reads : read cached_tree w event (outcome_of became) ≡ event = ap (read cached_tree w event) acted ∙ read_acted w event in
    ap (λ (x : World (CachedState Tree)). x.history) (stepped.leads []).rest
    ∙ ap (λ (x : World (CachedState Tree)). x.history) (ap (happens cached_tree w) reads ∙ happens_not w event off)

-- an idle event leaves the processes and the history
unchanged : (old new : Held) (before after : History) (event : Event) (became : Did) → GoesBy old new event before after became
    → is_idle became ≡ true
    → (new ≡ old) × (after ≡ before)
unchanged old new before after event became (reported, is, stepped) idle =
    let none = reports_nothing old new event became reported stepped (not-true _ (sym stepped.idle ∙ idle)) in
    (stepped.same idle, is ∙ ap (λ xs. before ++ xs) none ∙ append-nil before)
  where
    not-true : (b : Bool) → not b ≡ true → b ≡ false
    not-true false is = refl
    not-true true is = absurd (true≢false (sym is))

-- so it leaves the world
pub same_world : (r : Result Did Memory) (old new : Held) (before after : History) (event : Event) (restored forgotten is_broken : Bool)
    → is_broken ≡ is_err r
    → IfOk r (GoesBy old new event before after)
    → IfOk r (λ did. is_idle did ≡ true
    → ◌≡◌ {A = WorldView} (record { held = new; history = after; has_forgotten = forgotten; is_restored = restored; is_broken = is_broken })
    (record { held = old; history = before; has_forgotten = forgotten; is_restored = restored; is_broken = false }))
same_world (Ok did) old new before after event restored forgotten is_broken is goes =
    λ idle. let same = unchanged old new before after event did goes idle in rw (same.0, same.1, is) refl
same_world (Err memory) old new before after event restored forgotten is_broken is goes = tt

-- whether an event can want memory doesn't hang on the history
pub can_anyway : (held : Held) (history : History) (event : Event) → can_want_memory (world_of held history) event
    ≡ can_want_memory (kept_world held []) event
can_anyway held history (Fail s) = refl
can_anyway held history (Ignore from to) = refl
can_anyway held history (Begin c call) = enabled_of held history (Begin c call)
can_anyway held history (Retry c) = enabled_of held history (Retry c)
can_anyway held history (Take from to) = enabled_of held history (Take from to)
can_anyway held history (Order order) = enabled_of held history (Order order)

-- so nor does what is said of an event that was refused
pub needed_anyway : (r : Result Did Memory) (held : Held) (history : History) (event : Event)
    → OnErr r (can_want_memory (kept_world held []) event ≡ true) → OnErr r (can_want_memory (world_of held history) event ≡ true)
needed_anyway (Ok did) held history event needed = tt
needed_anyway (Err memory) held history event needed = can_anyway held history event ∙ needed
