-- A settling continues where the processes do: ways from one point to another, and events that are
-- tried.
use Rattle.std.proofs.Common.{◌≡◌, ℕ, ◌-◌, ◌<◌, ◌+◌, zero, suc, Bool, true, false, not, if◌then◌else◌, nat_lt, List, []}
use Rattle.std.proofs.Common.{◌∷◌, ◌++◌, length, take, drop, get_or, refl, sym, ap, subst, ◌∙◌, append-nil}
use Rattle.std.proofs.Common.{append_assoc, lt-ltb, arith}
use Rattle.std.specs.Prelude.{◌&&◌, ◌||◌}
use Rattle.std.specs.List.{list_any}
use Rattle.std.proofs.Math.Seq.{take-suc}
use Rattle.std.proofs.lemmas.List.FromFn.{map-range_with_len_more}
use Rattle.std.proofs.lemmas.List.{map-append, take-append-drop}
use Rattle.std.proofs.lemmas.Grind.{flat_map-append}
use mathlib.Core.Bool.{true≢false}
use Rattle.zprotocol.specs.declared.process.Process.{Process}
use Rattle.zprotocol.specs.server.Machine.{cached_tree}
use Rattle.zprotocol.specs.declared.world.event.Event.{Event}
use Rattle.zprotocol.specs.declared.world.event.Event.TheVariants.{Retry, Take}
use Rattle.zprotocol.specs.declared.world.outcome.Outcome.{Outcome}
use Rattle.zprotocol.specs.declared.world.outcome.Outcome.TheVariants.{Acted}
use Rattle.zprotocol.specs.world.History.{History}
use Rattle.zprotocol.specs.world.Events.{is_enabled, happens}
use Rattle.zprotocol.specs.world.Reading.{read, is_fitting}
use Rattle.zprotocol.specs.world.Settle.{retry_events, with_event, with_try, with_tries, opening_settling, next_outcome}
use Rattle.zprotocol.specs.world.support.Alike.{IsAlike}
use Rattle.zprotocol.proofs.world_lemmas.Alike.{have_the_same_enabled, stay_alike, alike_itself, alike_through, read_alike}
use Rattle.zprotocol.proofs.world_lemmas.Settling.{none_is_done, none_may_be_done}
use Rattle.zworld.specs.declared.did.Did.{Did}
use Rattle.zworld.specs.declared.did.Did.TheVariants as became
use Rattle.zworld.specs.Held.{Held, kept_world}
use Rattle.zworld.specs.Did.{is_idle, is_short, outcome_of}
use Rattle.zworld.specs.Steps.{AreActed}
use Rattle.zworld.specs.support.Stepped.{HasStepped}
use Rattle.zworld.specs.support.Settling.{TreeSettling, StandsAt, Point, GoesOn, Does, Tries, GoOn, takes_from, takes}
use Rattle.zworld.proofs.Steps.{enabled_anyway, read_anyway, read_acted, happens_not}

-- the same settling, where the history is unchanged
still : (p : Point) (history : History) (outcomes : List Outcome) (s : TreeSettling) → StandsAt p.held history p.left outcomes s
    → StandsAt p.held (history ++ []) p.left outcomes s
still p history outcomes s stands = subst (λ h. StandsAt p.held h p.left outcomes s) (sym (append-nil history)) stands

-- outcomes of which no server ran out of memory, and more of them
acted_more : (reported more : List Outcome) → AreActed reported → AreActed more → AreActed (reported ++ more)
acted_more [] more first rest = rest
acted_more (outcome ∷ reported) more first rest = (first.0, acted_more reported more first.1 rest)

-- no server ran out of memory at an event
pub acted_at : (did : Did) → is_short did ≡ false → outcome_of did ≡ Acted
acted_at (became.Idle cause) whole = refl
acted_at became.Done whole = refl
acted_at became.Unheard whole = absurd (true≢false whole)
acted_at became.Stopped whole = absurd (true≢false whole)

-- tries of events and of more
tries_both : (s : TreeSettling) (events more : List Event) → with_tries cached_tree s (events ++ more)
    ≡ with_tries cached_tree (with_tries cached_tree s events) more
tries_both s [] more = refl
tries_both s (event ∷ events) more = tries_both (with_try cached_tree s event) events more

-- one more of a list
taken_more : {X : Type 0} (xs : List X) (i : ℕ) (x : X) → i < length xs → x ≡ get_or xs i x → take (i + 1) xs ≡ take i xs ++ x ∷ []
taken_more xs i x inside is =
    let next : i + 1 ≡ suc i = omega arith in
    ap (λ n. take n xs) next ∙ take-suc xs i x inside ∙ ap (λ y. take i xs ++ y ∷ []) (sym is)

-- ways, strict or not
module _ (strict : Bool) where
  -- a point where nothing was done yet
  pub goes_nowhere : (whole : TreeSettling → TreeSettling) (p : Point) → GoesOn strict whole whole p p
  goes_nowhere whole p = ([], [], sym (append-nil p.seen), λ history outcomes s stands. (s, still p history outcomes s stands, refl), λ strictly. tt)

  -- one way after another
  pub goes_on_with : (whole middle last : TreeSettling → TreeSettling) (a b c : Point) → GoesOn strict whole middle a b
      → GoesOn strict middle last b c → GoesOn strict whole last a c
  goes_on_with whole middle last a b c (reported, given, more, leads, acted) (reported_next, given_next, more_next, leads_next, acted_next) = (
    reported ++ reported_next,
    given ++ given_next,
    more_next ∙ ap (λ xs. xs ++ given_next) more ∙ append_assoc a.seen given given_next,
    λ history outcomes s stands.
        let first = leads history (reported_next ++ outcomes) s (subst (λ os. StandsAt a.held history a.left os s)
        (append_assoc reported reported_next outcomes) stands) in
        let second = leads_next (history ++ given) outcomes first.0 first.1 in
        let both : (history ++ given) ++ given_next ≡ history ++ (given ++ given_next) = append_assoc history given given_next in
        (second.0, subst (λ h. StandsAt c.held h c.left outcomes second.0) both second.1, first.2 ∙ second.2),
    λ strictly. acted_more reported reported_next (acted strictly) (acted_next strictly),
  )

  -- a way that is the first of a longer one
  pub under : (whole done rest : TreeSettling → TreeSettling) (a b : Point) → ((s : TreeSettling) → whole s ≡ rest (done s))
      → Does strict done a b → GoesOn strict whole rest a b
  under whole done rest a b is (reported, given, more, leads, acted) = (
    reported,
    given,
    more,
    λ history outcomes s stands. let after = leads history outcomes s stands in (after.0, after.1, is s ∙ ap rest after.2),
    acted,
  )

  tries_then : (events more : List Event) (a b c : Point) → Tries strict events a b → Tries strict more b c → Tries strict (events ++ more) a c
  tries_then events more a b c first second =
      goes_on_with (λ s. with_tries cached_tree s (events ++ more)) (λ s. with_tries cached_tree s more) (λ s. s) a b c
      (under (λ s. with_tries cached_tree s (events ++ more)) (λ s. with_tries cached_tree s events) (λ s. with_tries cached_tree s more)
      a b (λ s. tries_both s events more) first) second

  -- so tries of deliveries to one more process, from one more process, and of one more retry
  pub one_more_receiver : (receivers : List Process) (i : ℕ) (from to : Process) (a b c : Point) → i < length receivers → to ≡ get_or receivers i to
      → Tries strict (takes_from (take i receivers) from) a b → Tries strict (Take from to ∷ []) b c
      → Tries strict (takes_from (take (i + 1) receivers) from) a c
  one_more_receiver receivers i from to a b c inside is first second =
      subst (λ es. Tries strict es a c)
      (sym (ap (λ ps. takes_from ps from) (taken_more receivers i to inside is) ∙ map-append (λ p. Take from p) (take i receivers) (to ∷ [])))
      (tries_then (takes_from (take i receivers) from) (Take from to ∷ []) a b c first second)

  pub one_more_sender : (receivers senders : List Process) (i : ℕ) (from : Process) (a b c : Point) → i < length senders
      → from ≡ get_or senders i from
      → Tries strict (takes receivers (take i senders)) a b → Tries strict (takes_from receivers from) b c
      → Tries strict (takes receivers (take (i + 1) senders)) a c
  one_more_sender receivers senders i from a b c inside is first second =
      let both : takes receivers (take (i + 1) senders) ≡ takes receivers (take i senders) ++ takes_from receivers from =
      ap (takes receivers) (taken_more senders i from inside is) ∙ flat_map-append (takes_from receivers) (take i senders) (from ∷ [])
      ∙ ap (λ es. takes receivers (take i senders) ++ es) (append-nil (takes_from receivers from)) in
      subst (λ es. Tries strict es a c) (sym both) (tries_then (takes receivers (take i senders)) (takes_from receivers from) a b c first second)

  pub one_more_retry : (n client : ℕ) (a b c : Point) → client ≡ n → Tries strict (retry_events n) a b
      → Tries strict (Retry client ∷ []) b c → Tries strict (retry_events (n + 1)) a c
  one_more_retry n client a b c is first second =
      let both : retry_events (n + 1) ≡ retry_events n ++ Retry client ∷ [] =
      map-range_with_len_more Retry 0 n n (omega arith) ∙ ap (λ m. retry_events n ++ Retry m ∷ []) (sym is) in
      subst (λ es. Tries strict es a c) (sym both) (tries_then (retry_events n) (Retry client ∷ []) a b c first second)

  -- tries that change no settling
  tries_nothing : (events : List Event) (p : Point)
      → ((history : History) (outcomes : List Outcome) (s : TreeSettling) → StandsAt p.held history p.left outcomes s
      → with_tries cached_tree s events ≡ s) → Tries strict events p p
  tries_nothing events p nothing = (
    [],
    [],
    sym (append-nil p.seen),
    λ history outcomes s stands. (s, still p history outcomes s stands, nothing history outcomes s stands),
    λ strictly. tt,
  )

  -- where no more may be done, nothing is
  pub spent_tries : (events : List Event) (p : Point) → p.left ≡ 0 → Tries strict events p p
  spent_tries events p none = tries_nothing events p (λ history outcomes s stands. none_may_be_done cached_tree s events (stands.remaining ∙ none))

  -- so where no more may be done, the rest of a pass does nothing: neither the receivers after that
  -- many, nor the senders
  spent_rest : (events more all : List Event) (a b : Point) → events ++ more ≡ all → b.left ≡ 0 → Tries strict events a b → Tries strict all a b
  spent_rest events more all a b is none tries = subst (λ es. Tries strict es a b) is (tries_then events more a b b tries (spent_tries more b none))

  pub spent_receivers : (receivers : List Process) (i : ℕ) (from : Process) (a b : Point) → b.left ≡ 0
      → Tries strict (takes_from (take i receivers) from) a b → Tries strict (takes_from receivers from) a b
  spent_receivers receivers i from a b none tries =
      spent_rest (takes_from (take i receivers) from) (takes_from (drop i receivers) from) (takes_from receivers from) a b
      (sym (map-append (λ to. Take from to) (take i receivers) (drop i receivers)) ∙ ap (λ ps. takes_from ps from) (take-append-drop i receivers))
      none tries

  pub spent_senders : (receivers senders : List Process) (i : ℕ) (a b : Point) → b.left ≡ 0
      → Tries strict (takes receivers (take i senders)) a b → Tries strict (takes receivers senders) a b
  spent_senders receivers senders i a b none tries =
      spent_rest (takes receivers (take i senders)) (takes receivers (drop i senders)) (takes receivers senders) a b
      (sym (flat_map-append (takes_from receivers) (take i senders) (drop i senders)) ∙ ap (takes receivers) (take-append-drop i senders))
      none tries

  -- nor do the clients after that many
  pub spent_retries : (n k : ℕ) (a b : Point) → b.left ≡ 0 → Tries strict (retry_events n) a b → Tries strict (retry_events (n + k)) a b
  spent_retries n zero a b none tries = subst (λ m. Tries strict (retry_events m) a b) (let same : n ≡ n + 0 = omega arith in same) tries
  spent_retries n (suc k) a b none tries =
      let next : (n + k) + 1 ≡ n + suc k = omega arith in
      subst (λ m. Tries strict (retry_events m) a b) next
      (one_more_retry (n + k) (n + k) a b b refl (spent_retries n k a b none tries) (spent_tries (Retry (n + k) ∷ []) b none))

  -- from a process that has put nothing, nothing is taken
  pub silent_tries : (from : Process) (receivers : List Process) (p : Point) → ((to : Process) → (kept_world p.held []).links from to ≡ [])
      → Tries strict (takes_from receivers from) p p
  silent_tries from receivers p silent =
      tries_nothing (takes_from receivers from) p (λ history outcomes s stands.
      none_is_done cached_tree s (takes_from receivers from) (none_taken receivers s (λ to.
      have_the_same_enabled cached_tree s.world (kept_world p.held history) (Take from to) stands.alike ∙ rw (silent to) refl)))
    where
      none_taken : (receivers : List Process) (s : TreeSettling) → ((to : Process) → is_enabled s.world (Take from to) ≡ false)
          → list_any (is_enabled s.world) (takes_from receivers from) ≡ false
      none_taken [] s none = refl
      none_taken (to ∷ receivers) s none = ap (λ b. b || list_any (is_enabled s.world) (takes_from receivers from)) (none to)
          ∙ none_taken receivers s none

  -- nor from a link on which nothing is
  pub empty_try : (from to : Process) (p : Point) → (kept_world p.held []).links from to ≡ [] → Tries strict (Take from to ∷ []) p p
  empty_try from to p empty =
      tries_nothing (Take from to ∷ []) p (λ history outcomes s stands.
      let off : is_enabled (kept_world p.held history) (Take from to) ≡ false = rw empty refl in
      none_is_done cached_tree s (Take from to ∷ []) (ap (λ b. b || false)
      (have_the_same_enabled cached_tree s.world (kept_world p.held history) (Take from to) stands.alike ∙ off)))

  -- an event that was tried
  module _ (old new : Held) (event : Event) (did : Did) (given : History) (stepped : HasStepped old new event did given) where
    -- where it is enabled
    enabled_at : (history : History) (more : ℕ) (outcomes : List Outcome) (s : TreeSettling) → StandsAt old history more outcomes s
        → is_enabled s.world event ≡ not (is_idle did)
    enabled_at history more outcomes s stands =
        have_the_same_enabled cached_tree s.world (kept_world old history) event stands.alike ∙ enabled_anyway old history event
        ∙ twice_not (is_enabled (kept_world old []) event) ∙ ap not (sym stepped.idle)
      where
        twice_not : (b : Bool) → b ≡ not (not b)
        twice_not true = refl
        twice_not false = refl

    -- an idle one
    idle_acted : is_idle did ≡ true → outcome_of did ≡ Acted
    idle_acted idle = of_did did idle
      where
        of_did : (d : Did) → is_idle d ≡ true → outcome_of d ≡ Acted
        of_did (became.Idle cause) idle = refl
        of_did became.Done idle = refl
        of_did became.Unheard idle = absurd (true≢false (sym idle))
        of_did became.Stopped idle = absurd (true≢false (sym idle))

    stays : is_idle did ≡ true → (history : History) → IsAlike (kept_world old history) (kept_world new (history ++ given))
    stays idle history =
        let later = kept_world new (history ++ given) in
        let off : is_enabled (kept_world old history) event ≡ false =
        enabled_at history 0 [] (opening_settling (kept_world old history) 0 [])
        (record { alike = alike_itself (kept_world old history); remaining = refl; coming = refl }) ∙ ap not idle in
        let reads : read cached_tree (kept_world old []) event (outcome_of did)
        ≡ event = ap (read cached_tree (kept_world old []) event) (idle_acted idle) ∙ read_acted (kept_world old []) event in
        subst (λ w. IsAlike w later) (happens_not (kept_world old history) event off)
        (subst (λ e. IsAlike (happens cached_tree (kept_world old history) e) later) reads (stepped.leads history))

    -- and one that was done
    goes : (history : History) (more : ℕ) (outcomes : List Outcome) (s : TreeSettling) → is_idle did ≡ false → 0 < more
        → StandsAt old history more (outcome_of did ∷ outcomes) s
        → (t : TreeSettling) × StandsAt new (history ++ given) (more - 1) outcomes t × (with_try cached_tree s event ≡ t)
    goes history more outcomes s active some stands =
        let outcome = outcome_of did in
        let now = kept_world old history in
        let on : is_enabled s.world event ≡ true = enabled_at history more (outcome ∷ outcomes) s stands ∙ ap not active in
        let may : nat_lt 0 s.left ≡ true = ap (nat_lt 0) stands.remaining ∙ lt-ltb 0 more some in
        let reads : read cached_tree s.world event outcome ≡ read cached_tree (kept_world old []) event outcome = read_alike
        cached_tree s.world now event outcome stands.alike ∙ read_anyway old history event outcome in
        let next : TreeSettling = with_event cached_tree s (read cached_tree s.world event outcome) in (
          next,
          record {
            alike = alike_through _ _ _ (stay_alike cached_tree s.world now (read cached_tree s.world event outcome ∷ []) stands.alike)
                (subst (λ e. IsAlike (happens cached_tree now e) (kept_world new (history ++ given))) (sym reads) (stepped.leads history));
            remaining = ap (λ n. n - 1) stands.remaining;
            coming = ap (drop 1) stands.coming;
          },
          ap (λ b. if b && is_enabled s.world event then with_event cached_tree s (read cached_tree s.world event (next_outcome s.outcomes)) else s) may
              ∙ ap (λ b. if b then with_event cached_tree s (read cached_tree s.world event (next_outcome s.outcomes)) else s) on
              ∙ ap (λ os. with_event cached_tree s (read cached_tree s.world event (next_outcome os))) stands.coming,
        )

    pub stepped_tries : (left after : ℕ) (before seen : History) → 0 < left → after ≡ (if is_idle did then left else left - 1)
        → seen ≡ before ++ given → (strict ≡ true → outcome_of did ≡ Acted)
        → Tries strict (event ∷ []) (record { held = old; left = left; seen = before }) (record { held = new; left = after; seen = seen })
    stepped_tries left after before seen some is more acted = by_idle (is_idle did) refl
      where
        by_idle : (idle : Bool) → is_idle did ≡ idle → Tries strict (event ∷ []) (record { held = old; left = left; seen = before })
            (record { held = new; left = after; seen = seen })
        by_idle true idle =
            let same : after ≡ left = is ∙ ap (λ b. if b then left else left - 1) idle in (
              [],
              given,
              more,
              λ history outcomes s stands. (
                s,
                record {
                  alike = alike_through _ _ _ stands.alike (stays idle history);
                  remaining = stands.remaining ∙ sym same;
                  coming = stands.coming;
                },
                none_is_done cached_tree s (event ∷ []) (ap (λ b. b || false) (enabled_at history left outcomes s stands ∙ ap not idle)),
              ),
              λ strictly. tt,
            )
        by_idle false active =
            let less : after ≡ left - 1 = is ∙ ap (λ b. if b then left else left - 1) active in (
              outcome_of did ∷ [],
              given,
              more,
              λ history outcomes s stands.
                  let next = goes history left outcomes s active some stands in
                  (next.0, subst (λ n. StandsAt new (history ++ given) n outcomes next.0) (sym less) next.1, next.2),
              λ strictly. (acted strictly, tt),
            )

-- where it is strict, an event continues only where no server ran out of memory
pub acted_where : (strict : Bool) (did : Did) → strict ≡ true → (strict && is_short did) ≡ false → outcome_of did ≡ Acted
acted_where true did strictly whole = acted_at did whole
acted_where false did strictly whole = absurd (true≢false (sym strictly))

-- strict tries are tries
pub strict_tries : (strict : Bool) (events : List Event) (a b : Point) → Tries true events a b → Tries strict events a b
strict_tries strict events a b (reported, given, more, leads, acted) = (reported, given, more, leads, λ strictly. acted refl)

-- no server takes part where a client sends its call once more
pub retried_acted : (held : Held) (client : ℕ) (did : Did) → is_fitting cached_tree (kept_world held []) (Retry client) (outcome_of did) ≡ true
    → outcome_of did ≡ Acted
retried_acted held client (became.Idle cause) fits = refl
retried_acted held client became.Done fits = refl
retried_acted held client became.Unheard fits = absurd (true≢false (sym fits))
retried_acted held client became.Stopped fits = absurd (true≢false (sym fits))

-- what was added is added to what was there before
pub both_added : (old mid new : History) → GoOn mid old → GoOn new mid → GoOn new old
both_added old mid new (given, first) (next, second) = (given ++ next, second ∙ ap (λ xs. xs ++ next) first ∙ append_assoc old given next)
