-- Records are forms.
use Rattle.std.proofs.Common.{◌≡◌, ℕ, List, ◌++◌, Ok, refl, arith}
use Rattle.std.specs.Int.{w8}
use Rattle.zcodec.specs.Forms.{number}
use Rattle.zcodec.specs.Laws.{IsForm}
use Rattle.zcodec.proofs.Numbers.{is_u8, is_exactly}
use Rattle.zcodec.proofs.Choices.{is_sized}
use Rattle.zjute.proofs.Before.{Anything, before, is_form}
use Rattle.zjute.proofs.Tags.{again_as, is_by_tag}
use Rattle.zprotocol.specs.declared.limits.TheConstants.{MAX_SERVERS}
use Rattle.zwire.specs.declared.records.limits.TheConstants.{MAX_ROW_BYTES}
use Rattle.zwire.specs.declared.records.record.Record.{Record}
use Rattle.zwire.specs.declared.records.record.Record.TheVariants.{Password, Update, Fail, Join, Retire, Row}
use Rattle.zwire.specs.records.Calls.{update}
use Rattle.zwire.specs.records.Records.{password, server, row, logged_at, logged_spelled, logged}
use Rattle.zwire.proofs.records_lemmas.Sums.{none_take, one_takes}
use Rattle.zwire.proofs.records_lemmas.Fields.{is_up_to}
use Rattle.zwire.proofs.records_lemmas.Calls.{is_update}

pub is_password : IsForm password
unfolding password
is_password = is_exactly 16

pub is_server : IsForm server
unfolding server
is_server = is_up_to w8 MAX_SERVERS is_u8 (omega arith)

pub is_row : IsForm row
unfolding row
is_row = is_sized MAX_ROW_BYTES (omega arith)

logged_again : (r : Record) (rest : List ℕ) → Anything rest → (logged_spelled r).fits → logged_at (logged_spelled r).tag ((logged_spelled r).text ++ rest) ≡ Ok (r, rest)
unfolding logged_at
logged_again (Password bytes) rest any fits = again_as Anything password (λ bytes. Password bytes) (before Anything password is_password) bytes rest any fits
logged_again (Update change) rest any fits = again_as Anything update (λ change. Update change) (before Anything update is_update) change rest any fits
logged_again (Fail id) rest any fits = again_as Anything server (λ id. Fail id) (before Anything server is_server) id rest any fits
logged_again (Join id) rest any fits = again_as Anything server (λ id. Join id) (before Anything server is_server) id rest any fits
logged_again (Retire id) rest any fits = again_as Anything server (λ id. Retire id) (before Anything server is_server) id rest any fits
logged_again (Row bytes) rest any fits = again_as Anything row (λ bytes. Row bytes) (before Anything row is_row) bytes rest any fits

pub is_logged : IsForm logged
unfolding logged logged_at
is_logged = is_form logged (is_by_tag Anything (number w8) logged_at logged_spelled is_u8
    (one_takes logged_spelled 0 password (λ bytes. Password bytes) _ is_password (λ x. refl) (λ x. refl) (λ x fits. fits)
    (one_takes logged_spelled 1 update (λ change. Update change) _ is_update (λ x. refl) (λ x. refl) (λ x fits. fits)
    (one_takes logged_spelled 2 server (λ id. Fail id) _ is_server (λ x. refl) (λ x. refl) (λ x fits. fits)
    (one_takes logged_spelled 3 server (λ id. Join id) _ is_server (λ x. refl) (λ x. refl) (λ x fits. fits)
    (one_takes logged_spelled 4 server (λ id. Retire id) _ is_server (λ x. refl) (λ x. refl) (λ x fits. fits)
    (one_takes logged_spelled 5 row (λ bytes. Row bytes) _ is_row (λ x. refl) (λ x. refl) (λ x fits. fits)
    (none_take logged_spelled)))))))
    logged_again)
