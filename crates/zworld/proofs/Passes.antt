-- Passes over all links, and settling as a whole.
use Rattle.std.proofs.Common.{◌≡◌, ℕ, ◌-◌, ◌<◌, ◌≤◌, ◌+◌, suc, Bool, true, false}
use Rattle.std.proofs.Common.{not, if◌then◌else◌, List, [], ◌++◌, refl, sym, ap, subst, ◌∙◌, arith}
use Rattle.std.specs.Prelude.{◌==◌, ◌||◌}
use Rattle.std.specs.List.{list_any}
use Rattle.std.proofs.lemmas.Bool.Decides.{nat_tests}
use mathlib.Core.Bool.{true≢false}
use Rattle.zprotocol.specs.server.Machine.{cached_tree}
use Rattle.zprotocol.specs.declared.world.event.Event.{Event}
use Rattle.zprotocol.specs.declared.world.outcome.Outcome.{Outcome}
use Rattle.zprotocol.specs.declared.world.settled.Settled.{Settled}
use Rattle.zprotocol.specs.declared.world.settled.Settled.TheVariants.{Quiet, Limit}
use Rattle.zprotocol.specs.world.History.{History}
use Rattle.zprotocol.specs.world.Events.{is_enabled}
use Rattle.zprotocol.specs.world.Settle.{deliveries, retry_events, with_tries, is_over, passes, opening_settling, settling_end}
use Rattle.zprotocol.specs.world.support.Alike.{IsAlike}
use Rattle.zprotocol.proofs.world_lemmas.Alike.{alike_back}
use Rattle.zprotocol.proofs.world_lemmas.Settling.{pass_takes, over_does_nothing, passes_twice}
use Rattle.zworld.specs.Held.{Held, kept_world, world_of}
use Rattle.zworld.specs.support.Stepped.{Settles}
use Rattle.zworld.specs.support.Settling.{TreeSettling, StandsAt, Point, GoesOn, Does, Tries}
use Rattle.zworld.proofs.Tries.{goes_nowhere, goes_on_with, under}

-- strict or not
module _ (strict : Bool) where
  -- passes
  module _ (events : List Event) (more : ℕ) (a b : Point) where
    -- the state of a settling before a pass, and after it
    abbrev Stood : TreeSettling → TreeSettling → Type 0
    Stood s t = (s.left ≡ a.left) × (t.left ≡ b.left) × (with_tries cached_tree s events ≡ t)

    -- a further pass
    further : (s : TreeSettling) → is_over s events ≡ false
        → passes cached_tree events (suc more) s ≡ passes cached_tree events more (with_tries cached_tree s events)
    further s over = ap (λ o. elim o [ true ↦ s | false ↦ passes cached_tree events more (with_tries cached_tree s events) ]) over

    no_further : (s : TreeSettling) → is_over s events ≡ true → passes cached_tree events (suc more) s ≡ s
    no_further s over = ap (λ o. elim o [ true ↦ s | false ↦ passes cached_tree events more (with_tries cached_tree s events) ]) over

    -- one that did something
    moved_on : (s t : TreeSettling) → Stood s t → (b.left ≡ a.left → ⊥) → passes cached_tree events (suc more) s ≡ passes cached_tree events more t
    moved_on s t (here, there, is) moved = by_over (is_over s events) refl
      where
        by_over : (over : Bool) → is_over s events ≡ over → passes cached_tree events (suc more) s ≡ passes cached_tree events more t
        by_over false over = further s over ∙ ap (passes cached_tree events more) is
        by_over true over = absurd (moved (sym there ∙ ap (λ (u : TreeSettling). u.left) (sym is ∙ over_does_nothing cached_tree s events over) ∙ here))

    pub pass_goes_on : (b.left ≡ a.left → ⊥) → Tries strict events a b
        → GoesOn strict (passes cached_tree events (suc more)) (passes cached_tree events more) a b
    pass_goes_on moved (reported, given, adds, leads, acted) = (
      reported,
      given,
      adds,
      λ history outcomes s stands.
          let after = leads history outcomes s stands in
          (after.0, after.1, moved_on s after.0 (stands.remaining, after.1.remaining, after.2) moved),
      acted,
    )

    -- one that did nothing is the last
    ended_there : (s t : TreeSettling) → Stood s t → b.left ≡ a.left → passes cached_tree events (suc more) s ≡ t
    ended_there s t (here, there, is) same = by_over (is_over s events) refl
      where
        by_over : (over : Bool) → is_over s events ≡ over → passes cached_tree events (suc more) s ≡ t
        by_over true over = no_further s over ∙ sym (over_does_nothing cached_tree s events over) ∙ is
        by_over false over =
            let both = neither (s.left == 0) (list_any (is_enabled s.world) events) over in
            let some : 0 < s.left = grind (arith, nat_tests, both.0) in
            let fell = pass_takes cached_tree s events some both.1 in
            let stayed : (with_tries cached_tree s events).left ≡ s.left = ap (λ (u : TreeSettling). u.left) is ∙ there ∙ same ∙ sym here in
            absurd (omega (arith, fell, stayed))
          where
            neither : (x y : Bool) → (x || not y) ≡ false → (x ≡ false) × (y ≡ true)
            neither false true e = (refl, refl)
            neither false false e = absurd (true≢false e)
            neither true y e = absurd (true≢false e)

    pub pass_ends : b.left ≡ a.left → Tries strict events a b → Does strict (passes cached_tree events (suc more)) a b
    pass_ends same (reported, given, adds, leads, acted) = (
      reported,
      given,
      adds,
      λ history outcomes s stands.
          let after = leads history outcomes s stands in
          (after.0, after.1, ended_there s after.0 (stands.remaining, after.1.remaining, after.2) same),
      acted,
    )

  -- passes in turn: the next one, the last one, and all
  pub next_pass : (events : List Event) (limit k : ℕ) (a b c : Point) → k < limit
      → GoesOn strict (passes cached_tree events limit) (passes cached_tree events (limit - k)) a b
      → (c.left ≡ b.left → ⊥) → Tries strict events b c
      → GoesOn strict (passes cached_tree events limit) (passes cached_tree events (limit - (k + 1))) a c
  next_pass events limit k a b c below first moved done =
      let more = limit - (k + 1) in
      let now : limit - k ≡ suc more = omega (arith, below) in
      goes_on_with strict (passes cached_tree events limit) (passes cached_tree events (limit - k)) (passes cached_tree events more) a b c first
      (subst (λ n. GoesOn strict (passes cached_tree events n) (passes cached_tree events more) b c) (sym now) (pass_goes_on events more b c moved done))

  pub last_pass : (events : List Event) (limit k : ℕ) (a b c : Point) → k < limit
      → GoesOn strict (passes cached_tree events limit) (passes cached_tree events (limit - k)) a b
      → c.left ≡ b.left → Tries strict events b c → Does strict (passes cached_tree events limit) a c
  last_pass events limit k a b c below first same done =
      let more = limit - (k + 1) in
      let now : limit - k ≡ suc more = omega (arith, below) in
      goes_on_with strict (passes cached_tree events limit) (passes cached_tree events (limit - k)) (λ s. s) a b c first
      (subst (λ n. Does strict (passes cached_tree events n) b c) (sym now) (pass_ends events more b c same done))

  pub all_passes : (events : List Event) (limit k : ℕ) (a b : Point) → limit ≤ k
      → GoesOn strict (passes cached_tree events limit) (passes cached_tree events (limit - k)) a b
      → Does strict (passes cached_tree events limit) a b
  all_passes events limit k a b past first =
      let none : limit - k ≡ 0 = omega (arith, past) in
      subst (λ n. GoesOn strict (passes cached_tree events limit) (passes cached_tree events n) a b) none first

  pub first_pass : (events : List Event) (limit : ℕ) (a : Point)
      → GoesOn strict (passes cached_tree events limit) (passes cached_tree events (limit - 0)) a a
  first_pass events limit a =
      let all : limit - 0 ≡ limit = omega arith in
      subst (λ n. GoesOn strict (passes cached_tree events limit) (passes cached_tree events n) a a) (sym all)
      (goes_nowhere strict (passes cached_tree events limit) a)

  -- all of settling
  module _ (old new : Held) (limit left : ℕ) (seen all : History) where
    -- the whole, where there are that many clients
    abbrev whole : ℕ → TreeSettling → TreeSettling
    whole clients s =
        passes cached_tree (deliveries clients) limit (with_tries cached_tree (passes cached_tree (deliveries clients) limit s) (retry_events clients))

    -- what it says of the processes
    has_settled : (settled : Settled) → settled ≡ (if left == 0 then Limit else Quiet)
        → Does strict (whole (kept_world old []).master.clients) (record { held = old; left = limit; seen = seen })
        (record { held = new; left = left; seen = all })
        → Settles strict old new limit seen all settled
    has_settled settled is (reported, given, more, leads, acted) =
        let opening : History → List Outcome → TreeSettling = λ history rest. opening_settling (world_of old history) limit (reported ++ rest) in
        let opens : (history : History) (rest : List Outcome) → StandsAt old history limit (reported ++ rest) (opening history rest) =
        λ history rest. record { alike = alike_back (kept_world old history); remaining = refl; coming = refl } in (
          reported,
          given,
          more,
          record {
            ended = λ history rest. let end = leads history rest (opening history rest) (opens history rest) in
                is ∙ ap (λ n. if n == 0 then Limit else Quiet) (sym end.1.remaining) ∙ ap settling_end (sym end.2);
            left = λ history rest. let end = leads history rest (opening history rest) (opens history rest) in
                ap (λ (t : TreeSettling). t.outcomes) end.2 ∙ end.1.coming;
            leads = λ history rest. let end = leads history rest (opening history rest) (opens history rest) in
                subst (λ (t : TreeSettling). IsAlike t.world (kept_world new (history ++ given))) (sym end.2) end.1.alike;
          },
          acted,
        )

    pub settles : (clients first second : ℕ) (mid later : Held) (some : History) (settled : Settled)
        → clients ≡ (kept_world old []).master.clients → settled ≡ (if left == 0 then Limit else Quiet)
        → Does strict (passes cached_tree (deliveries clients) limit) (record { held = old; left = limit; seen = seen })
        (record { held = mid; left = first; seen = some })
        → Tries strict (retry_events clients) (record { held = mid; left = first; seen = some }) (record { held = later; left = second; seen = some })
        → Does strict (passes cached_tree (deliveries clients) limit) (record { held = later; left = second; seen = some })
        (record { held = new; left = left; seen = all })
        → Settles strict old new limit seen all settled
    settles clients first second mid later some settled known is passed asked passed_again =
        let goes : TreeSettling → TreeSettling = passes cached_tree (deliveries clients) limit in
        let asks : TreeSettling → TreeSettling = λ s. with_tries cached_tree s (retry_events clients) in
        let a : Point = record { held = old; left = limit; seen = seen } in
        let b : Point = record { held = mid; left = first; seen = some } in
        let c : Point = record { held = later; left = second; seen = some } in
        let d : Point = record { held = new; left = left; seen = all } in
        let last = goes_on_with strict (λ s. goes (asks s)) goes (λ s. s) b c d
        (under strict (λ s. goes (asks s)) asks goes b c (λ s. refl) asked) passed_again in
        let done = goes_on_with strict (whole clients) (λ s. goes (asks s)) (λ s. s) a b d
        (under strict (whole clients) goes (λ s. goes (asks s)) a b (λ s. refl) passed) last in
        has_settled settled is (subst (λ n. Does strict (whole n) a d) known done)

    -- where nothing is sent once more, the passes are all
    pub settles_at_once : (clients : ℕ) (settled : Settled) → clients ≡ (kept_world old []).master.clients
        → settled ≡ (if left == 0 then Limit else Quiet)
        → ((history : History) (outcomes : List Outcome) (t : TreeSettling) → StandsAt new history left outcomes t
        → with_tries cached_tree t (retry_events clients) ≡ t)
        → Does strict (passes cached_tree (deliveries clients) limit) (record { held = old; left = limit; seen = seen })
        (record { held = new; left = left; seen = all })
        → Settles strict old new limit seen all settled
    settles_at_once clients settled known is asks (reported, given, more, leads, acted) =
        let goes : TreeSettling → TreeSettling = passes cached_tree (deliveries clients) limit in
        has_settled settled is (subst (λ n. Does strict (whole n) (record { held = old; left = limit; seen = seen })
        (record { held = new; left = left; seen = all })) known (
          reported,
          given,
          more,
          λ history outcomes s stands.
              let after = leads history outcomes s stands in
              let few : s.left ≤ limit = omega (arith, stands.remaining) in (
                after.0,
                after.1,
                ap (λ t. goes (with_tries cached_tree t (retry_events clients))) after.2
                    ∙ ap goes (asks (history ++ given) outcomes after.0 after.1) ∙ ap goes (sym after.2)
                    ∙ passes_twice cached_tree (deliveries clients) limit limit s few ∙ after.2,
              ),
          acted,
        ))
