-- Failure notices after what was sent: what calls make of the channels as they are stored.
use Rattle.std.proofs.Common.{◌≡◌, Bool, true, false, if◌then◌else◌, List, [], ◌∷◌, ◌++◌, drop, refl, sym, ap, subst, ◌∙◌, inl, inr, append-nil}
use Rattle.std.specs.Prelude.{◌&&◌, ◌||◌, not}
use Rattle.zcalls.proofs.Among.{test}
use Rattle.zprotocol.specs.declared.message.Message.{Message}
use Rattle.zprotocol.specs.declared.message.Message.TheVariants.{Gone}
use Rattle.zprotocol.specs.declared.process.Process.{Process}
use Rattle.zprotocol.specs.declared.process.Process.TheVariants.{Master}
use Rattle.zprotocol.specs.world.Links.{is_same}
use Rattle.zprotocol.proofs.world_lemmas.Processes.{same_process}
use Rattle.zprotocol.proofs.world_lemmas.Tests.{both}
use Rattle.zworld.specs.links.Places.{Sent, Channels, sent_of, is_noted, notice_of, links_of, has_notice}
use Rattle.zworld.specs.links.Places.{with_last, without_first, without_receiver, Keeps, Notes, notices_left, holds}
use Rattle.zworld.specs.links.support.Order.{Holds}

-- tests of which one fails
pub fails_second : (a : Bool) {b : Bool} → b ≡ false → (a && b) ≡ false
fails_second true fails = fails
fails_second false fails = refl

-- and one that passes
pub passes_second : (a : Bool) {b : Bool} → b ≡ true → (a && b) ≡ a
passes_second true passes = passes
passes_second false passes = refl

module _ {X : Type 0} where
  -- a list with one item more holds something
  holds_last : (xs : List X) (x : X) → holds (xs ++ x ∷ []) ≡ true
  holds_last [] x = refl
  holds_last (y ∷ xs) x = refl

  pub holds_more : (xs ys : List X) → holds xs ≡ true → holds (xs ++ ys) ≡ true
  holds_more [] ys some = cc
  holds_more (x ∷ xs) ys some = refl

  -- the front of a list with more after it
  drop_first : (xs ys : List X) → holds xs ≡ true → drop 1 (xs ++ ys) ≡ drop 1 xs ++ ys
  drop_first [] ys some = cc
  drop_first (x ∷ xs) ys some = refl

module _ {T : Type 0} where
  -- channels with these notices
  abbrev kept : Sent T → List Bool → Channels T
  kept sent noted = record { sent = sent; noted = noted }

  abbrev notices : List Bool → Process → Process → List (Message T)
  notices noted from to = notice_of noted from to

  -- who has sent no notice
  none_of : (noted : List Bool) (from to : Process) → is_noted noted from ≡ false → notices noted from to ≡ []
  none_of noted from to none = rw none refl

  -- no one but the master receives one
  none_to : (noted : List Bool) (from to : Process) → is_same to Master ≡ false → notices noted from to ≡ []
  none_to noted from to other = ap (λ b. if b then Gone ∷ [] else []) (fails_second (is_noted noted from) other)

  -- notices that are alike
  alike : (noted left : List Bool) (from to : Process) → is_noted left from ≡ is_noted noted from → notices left from to ≡ notices noted from to
  alike noted left from to is = ap (λ b. if b && is_same to Master then Gone ∷ [] else []) is

  -- channels without any are those on which messages were sent
  pub sent_alone : (sent : Sent T) (noted : List Bool) (from to : Process) → (is_noted noted from && is_same to Master) ≡ false
      → links_of (kept sent noted) from to ≡ sent_of sent from to
  unfolding links_of
  sent_alone sent noted from to none =
      ap (λ b. sent_of sent from to ++ (if b then Gone ∷ [] else [])) none ∙ append-nil (sent_of sent from to)

  pub notice_alone : (sent : Sent T) (noted : List Bool) (from to : Process) → sent_of sent from to ≡ []
      → (is_noted noted from && is_same to Master) ≡ true
      → links_of (kept sent noted) from to ≡ Gone ∷ []
  unfolding links_of
  notice_alone sent noted from to nothing some = rw (nothing, some) refl

  -- a notice that is stored is on its channel
  pub left_over : (channels : Channels T) → Notes channels (notices_left channels (links_of channels))
  unfolding links_of
  left_over channels p = elim (test (has_notice channels p)) [
    | inl is ↦ rw is (sym (holds_last (sent_of channels.sent p Master) Gone))
    | inr none ↦ rw none refl
  ]

  notice_holds : (channels : Channels T) (from to : Process) → (has_notice channels from && is_same to Master) ≡ true
      → holds (links_of channels from to) ≡ true
  unfolding links_of
  notice_holds channels from to is = rw is (holds_last (sent_of channels.sent from to) Gone)

  -- and so is what was sent
  sent_holds : (channels : Channels T) (from to : Process) → holds (sent_of channels.sent from to) ≡ true → holds (links_of channels from to) ≡ true
  unfolding links_of
  sent_holds channels from to some = holds_more (sent_of channels.sent from to) (notices channels.noted from to) some

  -- a message is sent by who has sent no notice
  pub sent_last : (sent new : Sent T) (noted : List Bool) (from to : Process) (m : Message T) → is_noted noted from ≡ false
      → Holds new (with_last (sent_of sent) from to m) → Keeps (kept new noted) (with_last (links_of (kept sent noted)) from to m)
  unfolding links_of
  sent_last sent new noted from to m none is p q = elim (test (is_same p from && is_same q to)) [
    | inl same ↦
        let tests = both (is_same p from) (is_same q to) same in
        let quiet : notices noted p q ≡ [] = none_of noted p q (ap (is_noted noted) (same_process p from tests.0) ∙ none) in
        let was : links_of (kept sent noted) from to ≡ sent_of sent from to =
        sent_alone sent noted from to (ap (λ b. b && is_same to Master) none) in
        rw same (ap (λ ms. sent_of new p q ++ ms) quiet ∙ append-nil (sent_of new p q) ∙ is p q
        ∙ ap (λ b. if b then sent_of sent from to ++ m ∷ [] else sent_of sent p q) same ∙ ap (λ ms. ms ++ m ∷ []) (sym was))
    | inr other ↦
        rw other (ap (λ ms. ms ++ notices noted p q) (is p q ∙ ap (λ b. if b then sent_of sent from to ++ m ∷ [] else sent_of sent p q) other))
  ]

  -- the front of what was sent is taken
  pub sent_first : (sent new : Sent T) (noted : List Bool) (from to : Process) → holds (sent_of sent from to) ≡ true
      → Holds new (without_first (sent_of sent) from to) → Keeps (kept new noted) (without_first (links_of (kept sent noted)) from to)
  unfolding links_of
  sent_first sent new noted from to some is p q = elim (test (is_same p from && is_same q to)) [
    | inl same ↦
        let tests = both (is_same p from) (is_same q to) same in
        let here : notices noted p q ≡ notices noted from to =
        ap (λ x. notices noted x q) (same_process p from tests.0) ∙ ap (λ x. notices noted from x) (same_process q to tests.1) in
        rw same (ap (λ ms. sent_of new p q ++ ms) here
        ∙ ap (λ ms. ms ++ notices noted from to) (is p q ∙ ap (λ b. if b then drop 1 (sent_of sent from to) else sent_of sent p q) same)
        ∙ sym (drop_first (sent_of sent from to) (notices noted from to) some))
    | inr other ↦
        rw other (ap (λ ms. ms ++ notices noted p q) (is p q ∙ ap (λ b. if b then drop 1 (sent_of sent from to) else sent_of sent p q) other))
  ]

  -- there is none to take
  pub first_of_none : (channels : Channels T) (from to : Process) → links_of channels from to ≡ []
      → Keeps channels (without_first (links_of channels) from to)
  first_of_none channels from to none p q = elim (test (is_same p from && is_same q to)) [
    | inl same ↦
        let tests = both (is_same p from) (is_same q to) same in
        rw same (ap (λ x. links_of channels x q) (same_process p from tests.0) ∙ ap (λ x. links_of channels from x) (same_process q to tests.1)
        ∙ none ∙ ap (λ ms. drop 1 ms) (sym none))
    | inr other ↦ rw other refl
  ]

  -- a notice is taken
  module _ (sent : Sent T) (noted left : List Bool) (from to : Process)
      (nothing : sent_of sent from to ≡ []) (some : (is_noted noted from && is_same to Master) ≡ true)
      (took : (p : Process) → is_noted left p ≡ (is_noted noted p && not (is_same p from && is_same to Master))) where
    took_it : (p : Process) → is_same p from ≡ true → is_noted left p ≡ false
    took_it p same =
        let tests = both (is_noted noted from) (is_same to Master) some in
        took p ∙ fails_second (is_noted noted p) (rw (same, tests.1) refl)

    left_alone : (p : Process) → is_same p from ≡ false → is_noted left p ≡ is_noted noted p
    left_alone p other = took p ∙ passes_second (is_noted noted p) (rw other refl)

    pub notice_first : Keeps (kept sent left) (without_first (links_of (kept sent noted)) from to)
    unfolding links_of
    notice_first p q = elim (test (is_same p from)) [
      | inl same ↦ elim (test (is_same q to)) [
        | inl here ↦
            let there : sent_of sent p q ≡ [] =
            ap (λ x. sent_of sent x q) (same_process p from same) ∙ ap (λ x. sent_of sent from x) (same_process q to here) ∙ nothing in
            rw (same, here) (ap (λ ms. ms ++ notices left p q) there ∙ none_of left p q (took_it p same)
            ∙ ap (λ ms. drop 1 ms) (sym (notice_alone sent noted from to nothing some)))
        | inr other ↦
            let tests = both (is_noted noted from) (is_same to Master) some in
            let elsewhere : is_same q Master ≡ false = ap (is_same q) (sym (same_process to Master tests.1)) ∙ other in
            rw (same, other) (ap (λ ms. sent_of sent p q ++ ms) (none_to left p q elsewhere ∙ sym (none_to noted p q elsewhere)))
      ]
      | inr other ↦ rw other (ap (λ ms. sent_of sent p q ++ ms) (alike noted left p q (left_alone p other)))
    ]

    pub notice_out : Notes (kept sent left) (notices_left (kept sent noted) (links_of (kept sent left)))
    notice_out p = elim (test (is_same p from)) [
      | inl same ↦
          let tests = both (is_noted noted from) (is_same to Master) some in
          let empty : links_of (kept sent left) p Master ≡ [] =
          sent_alone sent left p Master (rw (took_it p same) refl)
          ∙ ap (λ x. sent_of sent x Master) (same_process p from same)
          ∙ ap (λ x. sent_of sent from x) (sym (same_process to Master tests.1)) ∙ nothing in
          took_it p same ∙ sym (fails_second (is_noted noted p) (ap holds empty))
      | inr other ↦
          left_over (kept sent left) p ∙ ap (λ b. b && holds (links_of (kept sent left) p Master)) (left_alone p other)
    ]

  -- all messages to a process are dropped
  module _ (sent new : Sent T) (noted left : List Bool) (to : Process) (are : Holds new (without_receiver (sent_of sent) to))
      (dropped : (p : Process) → is_noted left p ≡ (is_noted noted p && not (is_same to Master))) where
    dropped_all : is_same to Master ≡ true → (p : Process) → is_noted left p ≡ false
    dropped_all master p = dropped p ∙ fails_second (is_noted noted p) (rw master refl)

    dropped_none : is_same to Master ≡ false → (p : Process) → is_noted left p ≡ is_noted noted p
    dropped_none other p = dropped p ∙ passes_second (is_noted noted p) (rw other refl)

    pub all_cleared : Keeps (kept new left) (without_receiver (links_of (kept sent noted)) to)
    unfolding links_of
    all_cleared p q = elim (test (is_same q to)) [
      | inl here ↦
          let none : sent_of new p q ≡ [] = are p q ∙ rw here refl in
          rw here (ap (λ ms. ms ++ notices left p q) none ∙ elim (test (is_same to Master)) [
            | inl master ↦ none_of left p q (dropped_all master p)
            | inr other ↦ none_to left p q (ap (λ x. is_same x Master) (same_process q to here) ∙ other)
          ])
      | inr other ↦
          let as_before : sent_of new p q ≡ sent_of sent p q = are p q ∙ rw other refl in
          rw other (ap (λ ms. ms ++ notices left p q) as_before ∙ ap (λ ms. sent_of sent p q ++ ms) (elim (test (is_same to Master)) [
            | inl master ↦
                let elsewhere : is_same q Master ≡ false = ap (is_same q) (sym (same_process to Master master)) ∙ other in
                none_to left p q elsewhere ∙ sym (none_to noted p q elsewhere)
            | inr stays ↦ alike noted left p q (dropped_none stays p)
          ]))
    ]

    pub notices_cleared : Notes (kept new left) (notices_left (kept sent noted) (links_of (kept new left)))
    notices_cleared p = elim (test (is_same to Master)) [
      | inl master ↦
          let empty : links_of (kept new left) p Master ≡ [] = all_cleared p Master ∙ rw (same_process to Master master) refl in
          dropped_all master p ∙ sym (fails_second (is_noted noted p) (ap holds empty))
      | inr other ↦
          left_over (kept new left) p ∙ ap (λ b. b && holds (links_of (kept new left) p Master)) (dropped_none other p)
    ]

  -- a server sends its notice
  pub notice_last : (sent : Sent T) (noted more : List Bool) (server : Process) → is_noted noted server ≡ false → is_noted more server ≡ true
      → ((p : Process) → is_noted more p ≡ (is_same p server || is_noted noted p))
      → Keeps (kept sent more) (with_last (links_of (kept sent noted)) server Master Gone)
  unfolding links_of
  notice_last sent noted more server none some adds p q = elim (test (is_same p server)) [
    | inl same ↦ elim (test (is_same q Master)) [
      | inl here ↦
          let was : links_of (kept sent noted) server Master ≡ sent_of sent server Master = sent_alone sent noted server Master (rw none refl) in
          let is : is_noted more p ≡ true = ap (is_noted more) (same_process p server same) ∙ some in
          rw (same, here) (rw is refl ∙ ap (λ x. sent_of sent x q ++ Gone ∷ []) (same_process p server same)
          ∙ ap (λ x. sent_of sent server x ++ Gone ∷ []) (same_process q Master here) ∙ ap (λ ms. ms ++ Gone ∷ []) (sym was))
      | inr other ↦
          rw (same, other) (ap (λ b. sent_of sent p q ++ (if b then Gone ∷ [] else []))
          (fails_second (is_noted more p) refl ∙ sym (fails_second (is_noted noted p) refl)))
    ]
    | inr other ↦ rw other (ap (λ ms. sent_of sent p q ++ ms) (alike noted more p q (adds p ∙ rw other refl)))
  ]

  -- the same of channels that are seen
  module _ {sent : Sent T} {noted : List Bool} {view : Channels T} (shown : kept sent noted ≡ view) where
    seen_notice : (p : Process) → is_noted noted p ≡ has_notice view p
    seen_notice p = ap (λ v. has_notice v p) shown

    pub put_seen : (new : Sent T) (from to : Process) (m : Message T) → has_notice view from ≡ false
        → Holds new (with_last (sent_of sent) from to m) → Keeps (kept new noted) (with_last (links_of view) from to m)
    put_seen new from to m none is =
        subst (λ v. Keeps (kept new noted) (with_last (links_of v) from to m)) shown (sent_last sent new noted from to m (seen_notice from ∙ none) is)

    pub notice_seen : (more : List Bool) (server : Process) → has_notice view server ≡ false → is_noted more server ≡ true
        → ((p : Process) → is_noted more p ≡ (is_same p server || is_noted noted p))
        → Keeps (kept sent more) (with_last (links_of view) server Master Gone)
    notice_seen more server none some adds =
        subst (λ v. Keeps (kept sent more) (with_last (links_of v) server Master Gone)) shown
        (notice_last sent noted more server (seen_notice server ∙ none) some adds)

    pub held_seen : (from to : Process) → holds (sent_of sent from to) ≡ true → holds (links_of view from to) ≡ true
    held_seen from to some = ap (λ v. holds (links_of v from to)) (sym shown) ∙ sent_holds (kept sent noted) from to some

    pub noticed_seen : (from to : Process) → (is_noted noted from && is_same to Master) ≡ true → holds (links_of view from to) ≡ true
    noticed_seen from to some = ap (λ v. holds (links_of v from to)) (sym shown) ∙ notice_holds (kept sent noted) from to some

    -- what is taken, where something was sent
    module _ (from to : Process) (front : Message T) (rest : List (Message T)) (was : sent_of sent from to ≡ front ∷ rest) where
      pub next_seen : (new : Sent T) → Holds new (without_first (sent_of sent) from to)
          → Keeps (kept new noted) (without_first (links_of view) from to)
      next_seen new is =
          subst (λ v. Keeps (kept new noted) (without_first (links_of v) from to)) shown (sent_first sent new noted from to (ap holds was) is)

      pub front_seen : links_of view from to ≡ front ∷ rest ++ notices noted from to
      unfolding links_of
      front_seen = ap (λ v. links_of v from to) (sym shown) ∙ ap (λ ms. ms ++ notices noted from to) was

      pub left_seen : (new : Sent T) → Notes (kept new noted) (notices_left view (links_of (kept new noted)))
      left_seen new p = left_over (kept new noted) p ∙ ap (λ b. b && holds (links_of (kept new noted) p Master)) (seen_notice p)

    -- and where nothing was
    module _ (from to : Process) (nothing : sent_of sent from to ≡ []) where
      pub empty_seen : (is_noted noted from && is_same to Master) ≡ false → links_of view from to ≡ []
      empty_seen none = ap (λ v. links_of v from to) (sym shown) ∙ sent_alone sent noted from to none ∙ nothing

      pub gone_seen : (is_noted noted from && is_same to Master) ≡ true → links_of view from to ≡ Gone ∷ []
      gone_seen some = ap (λ v. links_of v from to) (sym shown) ∙ notice_alone sent noted from to nothing some

      module _ (left : List Bool) (some : (is_noted noted from && is_same to Master) ≡ true)
          (took : (p : Process) → is_noted left p ≡ (is_noted noted p && not (is_same p from && is_same to Master))) where
        pub took_seen : Keeps (kept sent left) (without_first (links_of view) from to)
        took_seen =
            subst (λ v. Keeps (kept sent left) (without_first (links_of v) from to)) shown (notice_first sent noted left from to nothing some took)

        pub took_left : Notes (kept sent left) (notices_left view (links_of (kept sent left)))
        took_left p =
            notice_out sent noted left from to nothing some took p ∙ ap (λ b. b && holds (links_of (kept sent left) p Master)) (seen_notice p)

    -- all is dropped that is for a process
    module _ (new : Sent T) (left : List Bool) (to : Process) (are : Holds new (without_receiver (sent_of sent) to))
        (dropped : (p : Process) → is_noted left p ≡ (is_noted noted p && not (is_same to Master))) where
      pub cleared_seen : Keeps (kept new left) (without_receiver (links_of view) to)
      cleared_seen = subst (λ v. Keeps (kept new left) (without_receiver (links_of v) to)) shown (all_cleared sent new noted left to are dropped)

      pub cleared_left : Notes (kept new left) (notices_left view (links_of (kept new left)))
      cleared_left p =
          notices_cleared sent new noted left to are dropped p ∙ ap (λ b. b && holds (links_of (kept new left) p Master)) (seen_notice p)
