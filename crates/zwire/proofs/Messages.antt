-- Messages are forms.
use Rattle.std.proofs.Common.{◌≡◌, List, ◌++◌, ℕ, Ok, refl}
use Rattle.std.specs.Int.{w8}
use Rattle.zcodec.specs.Forms.{number, both, empty}
use Rattle.zcodec.specs.Laws.{IsForm}
use Rattle.zcodec.proofs.Numbers.{is_u8, is_empty}
use Rattle.zcodec.proofs.Parts.{is_both, is_record}
use Rattle.zcodec.proofs.Choices.{is_option}
use Rattle.zjute.proofs.Before.{Anything, before, is_form}
use Rattle.zjute.proofs.Tags.{again_as, is_by_tag}
use Rattle.zprotocol.specs.declared.message.Message.TheVariants as message
use Rattle.zwire.specs.records.Calls.{update}
use Rattle.zwire.specs.records.Records.{server}
use Rattle.zwire.proofs.records_lemmas.Sums.{Takes, none_take, one_takes}
use Rattle.zwire.proofs.records_lemmas.Records.{is_server}
use Rattle.zwire.proofs.records_lemmas.Calls.{is_update}
use Rattle.zwire.specs.Fields.{call_number, log_number, epoch, client}
use Rattle.zwire.specs.Replies.{query, reply}
use Rattle.zwire.specs.Messages.{entry, last, end, submitted, asked, answered, forwarded, acknowledged, predecessor}
use Rattle.zwire.specs.Messages.{held, successor, ends, Bare, order_at, message_at, message_spelled, any_message}
use Rattle.zwire.proofs.Fields.{is_call_number, is_log_number, is_epoch, is_client}
use Rattle.zwire.proofs.Replies.{is_query, is_reply}

-- ---- what messages have

pub is_entry : IsForm entry
unfolding entry
is_entry = is_record _ _ _ (is_both client _ is_client (is_both call_number update is_call_number is_update)) (λ f. refl) (λ e. refl)

is_last : IsForm last
unfolding last
is_last = is_option log_number is_log_number

is_end : IsForm end
unfolding end
is_end = is_option server is_server

is_submitted : IsForm submitted
is_submitted = is_both call_number update is_call_number is_update

is_asked : IsForm asked
is_asked = is_both call_number query is_call_number is_query

is_answered : IsForm answered
is_answered = is_both call_number reply is_call_number is_reply

is_forwarded : IsForm forwarded
is_forwarded = is_both epoch (both log_number entry) is_epoch (is_both log_number entry is_log_number is_entry)

is_acknowledged : IsForm acknowledged
is_acknowledged = is_both epoch log_number is_epoch is_log_number

is_predecessor : IsForm predecessor
is_predecessor = is_both epoch server is_epoch is_server

is_held : IsForm held
is_held = is_both epoch last is_epoch is_last

is_successor : IsForm successor
is_successor = is_both epoch (both server last) is_epoch (is_both server last is_server is_last)

are_ends : IsForm ends
are_ends = is_both epoch (both end end) is_epoch (is_both end end is_end is_end)

-- ---- messages

message_again : (m : Bare) (rest : List ℕ) → Anything rest → (message_spelled m).fits
    → message_at (message_spelled m).tag ((message_spelled m).text ++ rest) ≡ Ok (m, rest)
unfolding message_at order_at
message_again (message.Submit n u) rest any fits = again_as Anything submitted (λ m. message.Submit m.0 m.1)
    (before Anything submitted is_submitted) (n, u) rest any fits
message_again (message.Query n q) rest any fits = again_as Anything asked (λ m. message.Query m.0 m.1)
    (before Anything asked is_asked) (n, q) rest any fits
message_again (message.Answer n r) rest any fits = again_as Anything answered (λ m. message.Answer m.0 m.1)
    (before Anything answered is_answered) (n, r) rest any fits
message_again (message.Update e n entry) rest any fits = again_as Anything forwarded (λ m. message.Update m.0 m.1.0 m.1.1)
    (before Anything forwarded is_forwarded) (e, (n, entry)) rest any fits
message_again (message.Ack e n) rest any fits = again_as Anything acknowledged (λ m. message.Ack m.0 m.1)
    (before Anything acknowledged is_acknowledged) (e, n) rest any fits
message_again (message.Snapshot e tt) rest any fits = again_as Anything epoch (λ n. message.Snapshot n tt)
    (before Anything epoch is_epoch) e rest any fits
message_again (message.NewPred e s) rest any fits = again_as Anything predecessor (λ m. message.NewPred m.0 m.1)
    (before Anything predecessor is_predecessor) (e, s) rest any fits
message_again (message.Have e l) rest any fits = again_as Anything held (λ m. message.Have m.0 m.1) (before Anything held is_held)
    (e, l) rest any fits
message_again (message.NewSucc e s l) rest any fits = again_as Anything successor (λ m. message.NewSucc m.0 m.1.0 m.1.1)
    (before Anything successor is_successor) (e, (s, l)) rest any fits
message_again (message.BecomeHead e) rest any fits = again_as Anything epoch (λ n. message.BecomeHead n)
    (before Anything epoch is_epoch) e rest any fits
message_again (message.BecomeTail e) rest any fits = again_as Anything epoch (λ n. message.BecomeTail n)
    (before Anything epoch is_epoch) e rest any fits
message_again message.Retire rest any fits = refl
message_again (message.Joined e) rest any fits = again_as Anything epoch (λ n. message.Joined n) (before Anything epoch is_epoch) e rest any fits
message_again message.Gone rest any fits = refl
message_again (message.Config e h t) rest any fits = again_as Anything ends (λ m. message.Config m.0 m.1.0 m.1.1)
    (before Anything ends are_ends) (e, (h, t)) rest any fits

are_orders : Takes message_spelled order_at
unfolding order_at
are_orders =
    one_takes message_spelled 6 predecessor (λ m. message.NewPred m.0 m.1) _ is_predecessor (λ x. refl) (λ x. refl) (λ x fits. fits)
    (one_takes message_spelled 7 held (λ m. message.Have m.0 m.1) _ is_held (λ x. refl) (λ x. refl) (λ x fits. fits)
    (one_takes message_spelled 8 successor (λ m. message.NewSucc m.0 m.1.0 m.1.1) _ is_successor (λ x. refl) (λ x. refl) (λ x fits. fits)
    (one_takes message_spelled 9 epoch (λ n. message.BecomeHead n) _ is_epoch (λ x. refl) (λ x. refl) (λ x fits. fits)
    (one_takes message_spelled 10 epoch (λ n. message.BecomeTail n) _ is_epoch (λ x. refl) (λ x. refl) (λ x fits. fits)
    (one_takes message_spelled 11 empty (λ _. message.Retire) _ is_empty (λ x. refl) (λ x. refl) (λ x fits. fits)
    (one_takes message_spelled 12 epoch (λ n. message.Joined n) _ is_epoch (λ x. refl) (λ x. refl) (λ x fits. fits)
    (one_takes message_spelled 13 empty (λ _. message.Gone) _ is_empty (λ x. refl) (λ x. refl) (λ x fits. fits)
    (one_takes message_spelled 14 ends (λ m. message.Config m.0 m.1.0 m.1.1) _ are_ends (λ x. refl) (λ x. refl) (λ x fits. fits)
    (none_take message_spelled)))))))))

pub is_message : IsForm any_message
unfolding any_message message_at
is_message = is_form any_message (is_by_tag Anything (number w8) message_at message_spelled is_u8
    (one_takes message_spelled 0 submitted (λ m. message.Submit m.0 m.1) _ is_submitted (λ x. refl) (λ x. refl) (λ x fits. fits)
    (one_takes message_spelled 1 asked (λ m. message.Query m.0 m.1) _ is_asked (λ x. refl) (λ x. refl) (λ x fits. fits)
    (one_takes message_spelled 2 answered (λ m. message.Answer m.0 m.1) _ is_answered (λ x. refl) (λ x. refl) (λ x fits. fits)
    (one_takes message_spelled 3 forwarded (λ m. message.Update m.0 m.1.0 m.1.1) _ is_forwarded (λ x. refl) (λ x. refl) (λ x fits. fits)
    (one_takes message_spelled 4 acknowledged (λ m. message.Ack m.0 m.1) _ is_acknowledged (λ x. refl) (λ x. refl) (λ x fits. fits)
    (one_takes message_spelled 5 epoch (λ n. message.Snapshot n tt) _ is_epoch (λ x. refl) (λ x. refl) (λ x fits. fits)
    are_orders))))))
    message_again)
