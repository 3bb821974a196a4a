-- Messages with a state and without.
use Rattle.std.proofs.Common.{◌≡◌, ℕ, Bool, true, false, [], refl, sym, ap, subst, ◌∙◌, inl, inr}
use Rattle.std.specs.Prelude.{◌⊎◌}
use Rattle.zprotocol.specs.declared.message.Message.TheVariants as message
use Rattle.zserver.specs.Server.{TreeMessage}
use Rattle.zwire.specs.Messages.{Bare, bare}
use Rattle.zpeers.specs.Records.{TreeTransfer, after_frame}
use Rattle.zpeers.specs.Incoming.{HasNoState}

-- the message whose frame has this, if it has no state
abbrev pub with_no_state : Bare → TreeMessage
with_no_state (message.Submit number update) = message.Submit number update
with_no_state (message.Query number query) = message.Query number query
with_no_state (message.Answer number reply) = message.Answer number reply
with_no_state (message.Update epoch number entry) = message.Update epoch number entry
with_no_state (message.Ack epoch number) = message.Ack epoch number
with_no_state (message.Snapshot epoch state) = message.Gone
with_no_state (message.NewPred epoch server) = message.NewPred epoch server
with_no_state (message.Have epoch last) = message.Have epoch last
with_no_state (message.NewSucc epoch server last) = message.NewSucc epoch server last
with_no_state (message.BecomeHead epoch) = message.BecomeHead epoch
with_no_state (message.BecomeTail epoch) = message.BecomeTail epoch
with_no_state message.Retire = message.Retire
with_no_state (message.Joined epoch) = message.Joined epoch
with_no_state message.Gone = message.Gone
with_no_state (message.Config epoch head tail) = message.Config epoch head tail

-- the frame begins a state
abbrev pub begins : Bare → Bool
begins (message.Snapshot epoch state) = true
begins m = false

-- the epoch of a snapshot
abbrev pub epoch_of : Bare → ℕ
epoch_of (message.Snapshot epoch state) = epoch
epoch_of m = 0

-- a message is one record
pub record IsAlone (m : TreeMessage) : Type 0 where
  pub none : HasNoState m
  pub alone : after_frame m ≡ []
  pub back : with_no_state (bare m) ≡ m
  pub whole : begins (bare m) ≡ false

abbrev IsSnapshot : TreeMessage → Type 0
IsSnapshot m = (epoch : ℕ) × (t : TreeTransfer) × (m ≡ message.Snapshot epoch t)

-- a message is a snapshot, or one record
pub kinds : (m : TreeMessage) → IsSnapshot m ⊎ IsAlone m
kinds (message.Submit number update) = inr (record { none = tt; alone = refl; back = refl; whole = refl })
kinds (message.Query number query) = inr (record { none = tt; alone = refl; back = refl; whole = refl })
kinds (message.Answer number reply) = inr (record { none = tt; alone = refl; back = refl; whole = refl })
kinds (message.Update epoch number entry) = inr (record { none = tt; alone = refl; back = refl; whole = refl })
kinds (message.Ack epoch number) = inr (record { none = tt; alone = refl; back = refl; whole = refl })
kinds (message.Snapshot epoch t) = inl (epoch, t, refl)
kinds (message.NewPred epoch server) = inr (record { none = tt; alone = refl; back = refl; whole = refl })
kinds (message.Have epoch last) = inr (record { none = tt; alone = refl; back = refl; whole = refl })
kinds (message.NewSucc epoch server last) = inr (record { none = tt; alone = refl; back = refl; whole = refl })
kinds (message.BecomeHead epoch) = inr (record { none = tt; alone = refl; back = refl; whole = refl })
kinds (message.BecomeTail epoch) = inr (record { none = tt; alone = refl; back = refl; whole = refl })
kinds message.Retire = inr (record { none = tt; alone = refl; back = refl; whole = refl })
kinds (message.Joined epoch) = inr (record { none = tt; alone = refl; back = refl; whole = refl })
kinds message.Gone = inr (record { none = tt; alone = refl; back = refl; whole = refl })
kinds (message.Config epoch head tail) = inr (record { none = tt; alone = refl; back = refl; whole = refl })

pub is_alone : (m : TreeMessage) → HasNoState m → IsAlone m
is_alone m none = elim (kinds m) [
  | inl is ↦ absurd (by m none is)
  | inr alone ↦ alone
]
  where
    by : (m : TreeMessage) → HasNoState m → IsSnapshot m → ⊥
    by m none is = subst HasNoState is.2 none

-- two messages without a state whose frames have the same are one
pub one_message : (m n : TreeMessage) → HasNoState m → HasNoState n → bare m ≡ bare n → m ≡ n
one_message m n no_m no_n same =
    sym (is_alone m no_m).back ∙ ap with_no_state same ∙ (is_alone n no_n).back
