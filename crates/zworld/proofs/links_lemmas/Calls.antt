-- What calls make of the channels that are stored.
use Rattle.std.proofs.Common.{◌≡◌, ℕ, suc, ◌<◌, Bool, true, false, if◌then◌else◌, List, [], ◌∷◌, ◌++◌, refl, sym, ap, subst, ◌∙◌, inl, inr}
use Rattle.std.proofs.Common.{get_or, take, drop, set, filter, insert, remove, eqb-true, take-append-drop, get_or-set_same}
use Rattle.std.proofs.lemmas.List.{set_split, set-get_or}
use Rattle.std.specs.Prelude.{◌==◌, ◌&&◌}
use Rattle.zcalls.proofs.Among.{test}
use Rattle.zprotocol.specs.declared.limits.TheConstants.{PROCESSES}
use Rattle.zprotocol.specs.declared.message.Message.{Message}
use Rattle.zprotocol.specs.declared.process.Process.{Process}
use Rattle.zprotocol.specs.Places.{place_of}
use Rattle.zprotocol.specs.world.Links.{is_same}
use Rattle.zprotocol.proofs.world_lemmas.Processes.{same_itself}
use Rattle.zworld.specs.links.Places.{Queues, Channel, Sent, messages, is_between, messages_at, sent_of}
use Rattle.zworld.specs.links.Places.{with_link, with_last, without_first, without_receiver}
use Rattle.zworld.specs.links.support.Order.{Holds, AreSorted, IsFound, IsGap, longer, is_for_others}
use Rattle.zworld.proofs.links_lemmas.Cached.{links_with, links_without}
use Rattle.zworld.proofs.links_lemmas.Noted.{fails_second}
use Rattle.zworld.proofs.links_lemmas.Places.{by_place}
use Rattle.zworld.proofs.links_lemmas.Sorted.{around_item, removed_set, sorted_at}

module _ {T : Type 0} where
  -- channels of which one was written twice, and that one
  overwritten : (links : Queues T) (old new : Sent T) (from to : Process) (before after : List (Message T))
      → Holds old (with_link links from to before) → Holds new (with_link links from to after) → Holds new (with_link (sent_of old) from to after)
  overwritten links old new from to before after was now p q = now p q ∙ either (is_same p from && is_same q to) (sent_of old p q) (was p q)
    where
      either : (b : Bool) (queue : List (Message T)) → queue ≡ (if b then before else links p q)
          → (if b then after else links p q) ≡ (if b then after else queue)
      either true queue is = refl
      either false queue is = sym is

  written : (links : Queues T) (channels : Sent T) (from to : Process) (queue : List (Message T)) → Holds channels (with_link links from to queue)
      → sent_of channels from to ≡ queue
  written links channels from to queue is = is from to ∙ rw (same_itself from, same_itself to) refl

  -- the positions of a channel's ends, and what a search among the channels found: they are those
  -- that are seen
  module _ {channels seen : Sent T} (same : seen ≡ channels) (from to : Process) {f t at : ℕ}
      (is : f ≡ place_of from) (js : t ≡ place_of to) (few : f < PROCESSES) (short : t < PROCESSES) where
    -- a queue
    module _ (searched : IsFound seen f t at) {queue : Channel T} (read : queue ≡ get_or channels at queue) where
      found : IsFound channels f t at
      found = subst (λ cs. IsFound cs f t at) same searched

      abbrev rest : Queues T
      rest = sent_of (take at channels ++ drop (suc at) channels)

      with_queue : (new : Channel T) → new.from ≡ queue.from → new.to ≡ queue.to
          → Holds (take at channels ++ new ∷ drop (suc at) channels) (with_link rest from to (messages new))
      with_queue new here there =
          let places = found.places queue read in
          links_with from to f t is js few short (take at channels) (drop (suc at) channels) found.around new (here ∙ places.0) (there ∙ places.1)

      was_there : Holds channels (with_link rest from to (messages queue))
      was_there =
          subst (λ cs. Holds cs (with_link rest from to (messages queue))) (sym (around_item channels at queue found.within read))
          (with_queue queue refl refl)

      pub front_there : sent_of channels from to ≡ messages queue
      front_there = written rest channels from to (messages queue) was_there

      -- which is written
      module _ (new : Channel T) (here : new.from ≡ queue.from) (there : new.to ≡ queue.to) where
        replaced : (wanted : List (Message T)) → messages new ≡ wanted → Holds (set channels at new) (with_link (sent_of channels) from to wanted)
        replaced wanted so =
            subst (λ ms. Holds (set channels at new) (with_link (sent_of channels) from to ms)) so
            (overwritten rest channels (set channels at new) from to (messages queue) (messages new) was_there
            (subst (λ cs. Holds cs (with_link rest from to (messages new))) (sym (set_split channels at new found.within))
            (with_queue new here there)))

        pub put_there : (m : Message T) → new ≡ longer queue m → Holds (set channels at new) (with_last (sent_of channels) from to m)
        put_there m so =
            replaced (sent_of channels from to ++ m ∷ []) (ap (λ c. messages c) so ∙ ap (λ ms. ms ++ m ∷ []) (sym front_there))

        pub next_there : queue.others ≡ messages new → Holds (set channels at new) (without_first (sent_of channels) from to)
        next_there so = replaced (drop 1 (sent_of channels from to)) (sym so ∙ ap (λ ms. drop 1 ms) (sym front_there))

        pub sorted_there : AreSorted (set channels at new)
        sorted_there =
            let places = found.places queue read in
            subst (λ cs. AreSorted cs) (sym (set_split channels at new found.within))
            (sorted_at (take at channels) (drop (suc at) channels) f t new found.around (here ∙ places.0) (there ∙ places.1))

      -- or is as it was
      pub same_there : (new : Channel T) → new ≡ queue → Holds (set channels at new) (sent_of channels)
      same_there new so p q = ap (λ cs. sent_of cs p q) (ap (λ c. set channels at c) (so ∙ read) ∙ set-get_or channels at queue)

      -- or is removed
      module _ (new : Channel T) {left : Sent T} (removed : left ≡ remove (set channels at new) at) where
        pub gone_sorted : AreSorted left
        gone_sorted = subst (λ cs. AreSorted cs) (sym (removed ∙ removed_set channels at new)) found.around.sorted

        pub gone_there : queue.others ≡ [] → Holds left (without_first (sent_of channels) from to)
        gone_there only =
            subst (λ cs. Holds cs (without_first (sent_of channels) from to)) (sym (removed ∙ removed_set channels at new))
            (subst (λ ms. Holds (remove channels at) (with_link (sent_of channels) from to ms)) (sym only ∙ ap (λ ms. drop 1 ms) (sym front_there))
            (overwritten rest channels (remove channels at) from to (messages queue) [] was_there
            (links_without from to f t is js few short (take at channels) (drop (suc at) channels) found.around)))

        -- that was the queue
        pub taken_there : new ≡ queue → (c : Channel T) → c ≡ get_or (set channels at new) at c → c ≡ queue
        taken_there so c taken = taken ∙ get_or-set_same channels at new c found.within ∙ so

    -- no queue
    module _ (searched : IsGap seen f t at) where
      gap : IsGap channels f t at
      gap = subst (λ cs. IsGap cs f t at) same searched

      abbrev all : Queues T
      all = sent_of (take at channels ++ drop at channels)

      was_none : Holds channels (with_link all from to [])
      was_none =
          subst (λ cs. Holds cs (with_link all from to [])) (take-append-drop at channels)
          (links_without from to f t is js few short (take at channels) (drop at channels) gap.around)

      pub none_there : sent_of channels from to ≡ []
      none_there = written all channels from to [] was_none

      -- one is inserted
      module _ {queue : Channel T} {m : Message T} (made : queue ≡ record { from = f; to = t; front = m; others = [] }) where
        pub put_first : Holds (insert channels at queue) (with_last (sent_of channels) from to m)
        put_first =
            subst (λ ms. Holds (insert channels at queue) (with_link (sent_of channels) from to (ms ++ m ∷ []))) (sym none_there)
            (subst (λ c. Holds (insert channels at c) (with_link (sent_of channels) from to (m ∷ []))) (sym made)
            (overwritten all channels (insert channels at (record { from = f; to = t; front = m; others = [] })) from to [] (m ∷ []) was_none
            (links_with from to f t is js few short (take at channels) (drop at channels) gap.around
            (record { from = f; to = t; front = m; others = [] }) refl refl)))

        pub first_sorted : AreSorted (insert channels at queue)
        first_sorted =
            subst (λ c. AreSorted (insert channels at c)) (sym made)
            (sorted_at (take at channels) (drop at channels) f t (record { from = f; to = t; front = m; others = [] }) gap.around refl refl)

  -- the channels to other receivers
  left_messages : (channels : Sent T) (to i j : ℕ)
      → messages_at (filter (is_for_others to) channels) i j ≡ (if to == j then [] else messages_at channels i j)
  left_messages [] to i j = none (to == j)
    where
      none : (b : Bool) → ◌≡◌ {A = List (Message T)} [] (if b then [] else [])
      none true = refl
      none false = refl
  left_messages (c ∷ cs) to i j = elim (test (c.to == to)) [
    | inl gone ↦ rw gone (left_messages cs to i j ∙ elim (test (to == j)) [
      | inl here ↦ rw here refl
      | inr other ↦ rw (other, fails_second (c.from == i) (ap (λ n. n == j) (eqb-true c.to to gone) ∙ other)) refl
    ])
    | inr stays ↦ rw stays (elim (test (to == j)) [
      | inl here ↦
          let far : (c.to == j) ≡ false = ap (λ n. c.to == n) (sym (eqb-true to j here)) ∙ stays in
          rw (here, fails_second (c.from == i) far) (left_messages cs to i j ∙ ap (λ b. if b then [] else messages_at cs i j) here)
      | inr other ↦
          rw other (ap (λ queue. if is_between c i j then messages c else queue)
          (left_messages cs to i j ∙ ap (λ b. if b then [] else messages_at cs i j) other))
    ])
  ]

  pub cleared : (channels : Sent T) (to : Process) (t : ℕ) → t ≡ place_of to → t < PROCESSES
      → Holds (filter (is_for_others t) channels) (without_receiver (sent_of channels) to)
  unfolding sent_of
  cleared channels to t is small p q =
      left_messages channels t (place_of p) (place_of q)
      ∙ ap (λ b. if b then [] else messages_at channels (place_of p) (place_of q)) (by_place q to t is small)
