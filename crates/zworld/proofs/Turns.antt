-- A pass, channel by channel: those with nothing in flight are passed by.
use Rattle.std.proofs.Common.{Bool, ◌≡◌, ℕ, ◌+◌, ◌-◌, ◌*◌, ◌<◌, ◌≤◌, [], ◌∷◌, length, take, inl, inr, sym, subst, arith, eqb-true}
use Rattle.std.proofs.lemmas.List.{take_all}
use Rattle.std.proofs.lemmas.Bool.Decides.{nat_tests}
use Rattle.std.specs.Prelude.{◌==◌}
use Rattle.zcalls.proofs.Among.{test}
use Rattle.ztree.specs.declared.limits.TheConstants.{MAX_CLIENTS}
use Rattle.zprotocol.specs.declared.limits.TheConstants.{MAX_SERVERS, PROCESSES}
use Rattle.zprotocol.specs.declared.process.Process.{Process}
use Rattle.zprotocol.specs.Places.{place_of, process_at}
use Rattle.zprotocol.proofs.Places.{place_of-process_at}
use Rattle.zworld.specs.declared.links.turn.Turn.{Turn}
use Rattle.zworld.specs.links.Places.{Between, Reaches}
use Rattle.zprotocol.specs.declared.world.event.Event.TheVariants.{Take}
use Rattle.zprotocol.specs.world.Settle.{deliveries, processes}
use Rattle.zworld.specs.Held.{kept_world}
use Rattle.zworld.specs.support.Settling.{Point, Tries, takes, takes_from}
use Rattle.zworld.proofs.Skips.{length-processes, listed, past, receivers_to, senders_to}
use Rattle.zworld.proofs.Tries.{goes_nowhere, one_more_receiver, one_more_sender, spent_receivers, spent_senders}

-- after a turn less is to come
pub shorter : (from to : ℕ) (turn : Turn) → from < PROCESSES → to < PROCESSES → turn.sender ≤ PROCESSES → turn.receiver < PROCESSES
    → Reaches from (to + 1) turn.sender turn.receiver
    → (PROCESSES - turn.sender) * PROCESSES + (PROCESSES - turn.receiver) < (PROCESSES - from) * PROCESSES + (PROCESSES - to)
shorter from to turn small short few bounded ahead = elim (test (turn.sender == from)) [
  | inl same ↦
      let is : turn.sender ≡ from = eqb-true turn.sender from same in
      omega (arith, is, ahead.1 (omega (arith, is)), short)
  | inr other ↦
      let later : from < turn.sender = grind (arith, nat_tests, other, ahead.0) in
      omega (arith, later, small, short, few, bounded)
]

module _ (strict : Bool) (clients : ℕ) where
  -- that many take part
  abbrev pub taking_part : ℕ
  taking_part = MAX_SERVERS + 1 + clients

  -- the channels before these positions had their turn
  abbrev pub HadTurns : (from to : ℕ) → Point → Point → Type 0
  HadTurns from to a b =
      (p : Point) × Tries strict (takes (processes clients) (take from (processes clients))) a p
      × Tries strict (takes_from (take to (processes clients)) (process_at from)) p b

  -- those before this turn had theirs; or all had, where the sender takes no part
  abbrev pub CameTo : Turn → Point → Point → Type 0
  CameTo turn a b =
      (turn.sender < taking_part → HadTurns turn.sender turn.receiver a b) × (taking_part ≤ turn.sender → Tries strict (deliveries clients) a b)

  -- at first none had
  pub none_had : (a : Point) → HadTurns 0 0 a a
  none_had a = (a, goes_nowhere strict (λ s. s) a, goes_nowhere strict (λ s. s) a)

  module _ (from to : ℕ) (a b : Point) (had : HadTurns from to a b) where
    -- one more has its turn
    pub one_more_turn : (p q : Process) (c : Point) → p ≡ process_at from → q ≡ process_at to → to < taking_part
        → Tries strict (Take p q ∷ []) b c → HadTurns from (to + 1) a c
    one_more_turn p q c is there small taken = (
      had.0,
      had.1,
      one_more_receiver strict (processes clients) to (process_at from) (process_at to) had.0 b c
          (omega (arith, small, length-processes clients)) (listed clients to small) had.2
          (subst (λ r. Tries strict (Take (process_at from) r ∷ []) b c) there (subst (λ r. Tries strict (Take r q ∷ []) b c) is taken)),
    )

    -- a receiver that takes no part has none
    pub no_turn : taking_part ≤ to → HadTurns from (to + 1) a b
    no_turn large = (
      had.0,
      had.1,
      subst (λ ps. Tries strict (takes_from ps (process_at from)) had.0 b)
          (sym (past (processes clients) to (omega (arith, large, length-processes clients)))) had.2,
    )

    module _ (small : from < taking_part) where
      inside : from < length (processes clients)
      inside = omega (arith, small, length-processes clients)

      -- where no more may be done, all had theirs
      pub spent_turns : b.left ≡ 0 → Tries strict (deliveries clients) a b
      spent_turns none =
          spent_senders strict (processes clients) (processes clients) (from + 1) a b none
          (one_more_sender strict (processes clients) (processes clients) from (process_at from) a had.0 b inside (listed clients from small) had.1
          (spent_receivers strict (processes clients) to (process_at from) had.0 b none had.2))

      -- and those that are passed by
      module _ (few : clients ≤ MAX_CLIENTS) (turn : Turn) (short : turn.sender ≤ PROCESSES) (bounded : turn.receiver < PROCESSES)
          (ahead : Reaches from to turn.sender turn.receiver)
          (empty : Between from to turn (λ p q. (kept_world b.held []).links p q ≡ [])) where
        inner : from < PROCESSES
        inner = omega (arith, small, few)

        here : place_of (process_at from) ≡ from
        here = place_of-process_at from inner

        -- of the same sender
        in_row : turn.sender ≡ from → HadTurns turn.sender turn.receiver a b
        in_row same =
            subst (λ n. HadTurns n turn.receiver a b) (sym same) (
              had.0,
              had.1,
              receivers_to strict clients b (process_at from) had.0 to turn.receiver (ahead.1 (omega (arith, same))) (omega (arith, bounded))
                  (λ q behind before. empty (process_at from) q (omega (arith, here, inner))
                  (omega (arith, here), λ _. behind) (omega (arith, here, same), λ _. before)) had.2,
            )

        module _ (later : from < turn.sender) (least : to ≤ PROCESSES) where
          -- of all receivers
          whole_row : Tries strict (takes_from (processes clients) (process_at from)) had.0 b
          whole_row =
              subst (λ ps. Tries strict (takes_from ps (process_at from)) had.0 b)
              (take_all PROCESSES (processes clients) (omega (arith, few, length-processes clients)))
              (receivers_to strict clients b (process_at from) had.0 to PROCESSES least (omega arith)
              (λ q behind before. empty (process_at from) q (omega (arith, here, inner))
              (omega (arith, here), λ _. behind) (omega (arith, here, later), λ back. absurd (omega (arith, here, later, back)))) had.2)

          -- and of later senders
          rows : Tries strict (takes (processes clients) (take turn.sender (processes clients))) a b
          rows =
              senders_to strict clients b a (from + 1) turn.sender (omega (arith, later)) short
              (λ p behind before q. empty p q (omega (arith, before, short))
              (omega (arith, behind), λ back. absurd (omega (arith, behind, back))) (omega (arith, before), λ back. absurd (omega (arith, before, back))))
              (one_more_sender strict (processes clients) (processes clients) from (process_at from) a had.0 b inside (listed clients from small) had.1
              whole_row)

          new_row : turn.sender < taking_part → HadTurns turn.sender turn.receiver a b
          new_row more =
              let there : place_of (process_at turn.sender) ≡ turn.sender = place_of-process_at turn.sender (omega (arith, more, few)) in (
                b,
                rows,
                receivers_to strict clients b (process_at turn.sender) b 0 turn.receiver (omega arith) (omega (arith, bounded))
                    (λ q behind before. empty (process_at turn.sender) q (omega (arith, there, more, few))
                    (omega (arith, there, later), λ back. absurd (omega (arith, there, later, back))) (omega (arith, there), λ _. before))
                    (goes_nowhere strict (λ s. s) b),
              )

          all_had : taking_part ≤ turn.sender → Tries strict (deliveries clients) a b
          all_had end =
              subst (λ ps. Tries strict (takes (processes clients) ps) a b)
              (take_all turn.sender (processes clients) (omega (arith, end, length-processes clients))) rows

        pub comes_to : to ≤ PROCESSES → CameTo turn a b
        comes_to least = elim (test (turn.sender == from)) [
          | inl same ↦
              let is : turn.sender ≡ from = eqb-true turn.sender from same in
              (λ _. in_row is, λ end. absurd (omega (arith, end, is, small)))
          | inr other ↦
              let later : from < turn.sender = grind (arith, nat_tests, other, ahead.0) in
              (new_row later least, all_had later least)
        ]
