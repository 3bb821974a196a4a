-- What all bytes of a frame are read as is spelled so, and what fits is read again.
use Rattle.std.proofs.Common.{◌≡◌, ℕ, ℤ, List, ◌++◌, Option, Some, None, Result, Ok, Err, refl, sym, ap, subst, ◌∙◌}
use Rattle.std.specs.Prelude.{IfOk, unwrap_or}
use Rattle.zcodec.specs.declared.fault.ReadError.{ReadError}
use Rattle.zcodec.specs.Forms.{both, empty}
use Rattle.zcodec.specs.Laws.{IsBytes, IsForm}
use Rattle.zcodec.specs.Readers.{Gives, whole}
use Rattle.zcodec.proofs.Bytes.{done, ok_is}
use Rattle.zcodec.proofs.Numbers.{is_empty}
use Rattle.zcodec.proofs.Parts.{is_made}
use Rattle.zjute.specs.declared.op.Op.{Op}
use Rattle.zjute.specs.declared.op.Op.TheVariants as op
use Rattle.zjute.specs.declared.request.Asked.{Asked}
use Rattle.zjute.specs.declared.request.Asked.TheVariants as asks
use Rattle.zjute.specs.declared.request.Request.{Request}
use Rattle.zjute.specs.Jute.{int, buffer, text, left}
use Rattle.zjute.specs.Shapes.{with_number}
use Rattle.zjute.specs.Requests.{create, create_ttl, at_version, look, set_data, set_acl, watches_at, add_watch, auth, set_watches, set_watches_2}
use Rattle.zjute.specs.Parts.{parts, looks}
use Rattle.zjute.specs.Asking.{op_number, ops, op_of, FitsOp, op_form, asked_at, asked_spelled, asked, request}
use Rattle.zjute.specs.Laws.{RequestsAreDistinct}
use Rattle.zjute.proofs.Signed.{is_int}
use Rattle.zjute.proofs.Numbered.{has_number}
use Rattle.zjute.proofs.Before.{IsFormBefore, Nothing, before, left_last, both_before, fields_before, last_takes, last_again}
use Rattle.zjute.proofs.Tags.{TakesAt, takes_as, again_as, is_by_tag}
use Rattle.zjute.proofs.Records.{is_buffer, is_text, is_create, is_create_ttl, is_at_version, is_look, is_set_data, is_set_acl, is_watches_at, is_add_watch, is_auth, is_set_watches, is_set_watches_2}
use Rattle.zjute.proofs.Headers.{is_parts, is_looks}

op_reports : (n : ℤ) → op_number (op_of n) ≡ n
unfolding op_of
op_reports n = by (with_number op_number ops n) refl
  where
    by : (found : Option Op) → with_number op_number ops n ≡ found → op_number (unwrap_or found (op.Other n)) ≡ n
    by None none = refl
    by (Some k) has = has_number op_number ops n k has

is_op : IsForm op_form
is_op = is_made int op_number (λ n. Ok (op_of n)) FitsOp is_int
    (λ n o fits e.
    let is = op_reports n in
    subst (λ (o : Op). (op_number o ≡ n) × FitsOp o) (ok_is (op_of n) o e) (is, (subst int.Fits (sym is) fits, ap op_of is)))
    (λ o fits. (ap done fits.1, fits.0))

takes : (o : Op) (bytes : List ℕ) (y : Asked × List ℕ) → IsBytes bytes → asked_at o bytes ≡ Ok y → TakesAt asked_spelled o bytes y
unfolding asked_at
takes op.Create bytes y are e = takes_as Nothing asked_spelled op.Create create (λ x. asks.Create x) (before Nothing create is_create) (λ x. refl) (λ x. refl) (λ x fits. fits) bytes y are e
takes op.Delete bytes y are e = takes_as Nothing asked_spelled op.Delete at_version (λ x. asks.Delete x) (before Nothing at_version is_at_version) (λ x. refl) (λ x. refl) (λ x fits. fits) bytes y are e
takes op.Exists bytes y are e = takes_as Nothing asked_spelled op.Exists look (λ x. asks.Exists x) (before Nothing look is_look) (λ x. refl) (λ x. refl) (λ x fits. fits) bytes y are e
takes op.GetData bytes y are e = takes_as Nothing asked_spelled op.GetData look (λ x. asks.GetData x) (before Nothing look is_look) (λ x. refl) (λ x. refl) (λ x fits. fits) bytes y are e
takes op.SetData bytes y are e = takes_as Nothing asked_spelled op.SetData set_data (λ x. asks.SetData x) (before Nothing set_data is_set_data) (λ x. refl) (λ x. refl) (λ x fits. fits) bytes y are e
takes op.GetAcl bytes y are e = takes_as Nothing asked_spelled op.GetAcl buffer (λ x. asks.GetAcl x) (before Nothing buffer is_buffer) (λ x. refl) (λ x. refl) (λ x fits. fits) bytes y are e
takes op.SetAcl bytes y are e = takes_as Nothing asked_spelled op.SetAcl set_acl (λ x. asks.SetAcl x) (before Nothing set_acl is_set_acl) (λ x. refl) (λ x. refl) (λ x fits. fits) bytes y are e
takes op.GetChildren bytes y are e = takes_as Nothing asked_spelled op.GetChildren look (λ x. asks.GetChildren x) (before Nothing look is_look) (λ x. refl) (λ x. refl) (λ x fits. fits) bytes y are e
takes op.Sync bytes y are e = takes_as Nothing asked_spelled op.Sync buffer (λ x. asks.Sync x) (before Nothing buffer is_buffer) (λ x. refl) (λ x. refl) (λ x fits. fits) bytes y are e
takes op.Ping bytes y are e = takes_as Nothing asked_spelled op.Ping empty (λ _. asks.Ping) (before Nothing empty is_empty) (λ x. refl) (λ x. refl) (λ x fits. fits) bytes y are e
takes op.GetChildren2 bytes y are e = takes_as Nothing asked_spelled op.GetChildren2 look (λ x. asks.GetChildren2 x) (before Nothing look is_look) (λ x. refl) (λ x. refl) (λ x fits. fits) bytes y are e
takes op.Check bytes y are e = takes_as Nothing asked_spelled op.Check at_version (λ x. asks.Check x) (before Nothing at_version is_at_version) (λ x. refl) (λ x. refl) (λ x fits. fits) bytes y are e
takes op.Multi bytes y are e = takes_as Nothing asked_spelled op.Multi parts (λ x. asks.Multi x) (before Nothing parts is_parts) (λ x. refl) (λ x. refl) (λ x fits. fits) bytes y are e
takes op.Create2 bytes y are e = takes_as Nothing asked_spelled op.Create2 create (λ x. asks.Create2 x) (before Nothing create is_create) (λ x. refl) (λ x. refl) (λ x fits. fits) bytes y are e
takes op.CheckWatches bytes y are e = takes_as Nothing asked_spelled op.CheckWatches watches_at (λ x. asks.CheckWatches x) (before Nothing watches_at is_watches_at) (λ x. refl) (λ x. refl) (λ x fits. fits) bytes y are e
takes op.RemoveWatches bytes y are e = takes_as Nothing asked_spelled op.RemoveWatches watches_at (λ x. asks.RemoveWatches x) (before Nothing watches_at is_watches_at) (λ x. refl) (λ x. refl) (λ x fits. fits) bytes y are e
takes op.CreateContainer bytes y are e = takes_as Nothing asked_spelled op.CreateContainer create (λ x. asks.CreateContainer x) (before Nothing create is_create) (λ x. refl) (λ x. refl) (λ x fits. fits) bytes y are e
takes op.CreateTtl bytes y are e = takes_as Nothing asked_spelled op.CreateTtl create_ttl (λ x. asks.CreateTtl x) (before Nothing create_ttl is_create_ttl) (λ x. refl) (λ x. refl) (λ x fits. fits) bytes y are e
takes op.MultiRead bytes y are e = takes_as Nothing asked_spelled op.MultiRead looks (λ x. asks.MultiRead x) (before Nothing looks is_looks) (λ x. refl) (λ x. refl) (λ x fits. fits) bytes y are e
takes op.Auth bytes y are e = takes_as Nothing asked_spelled op.Auth auth (λ x. asks.Auth x) (before Nothing auth is_auth) (λ x. refl) (λ x. refl) (λ x fits. fits) bytes y are e
takes op.SetWatches bytes y are e = takes_as Nothing asked_spelled op.SetWatches set_watches (λ x. asks.SetWatches x) (before Nothing set_watches is_set_watches) (λ x. refl) (λ x. refl) (λ x fits. fits) bytes y are e
takes op.SetWatches2 bytes y are e = takes_as Nothing asked_spelled op.SetWatches2 set_watches_2 (λ x. asks.SetWatches2 x) (before Nothing set_watches_2 is_set_watches_2) (λ x. refl) (λ x. refl) (λ x fits. fits) bytes y are e
takes op.Sasl bytes y are e = takes_as Nothing asked_spelled op.Sasl text (λ x. asks.Sasl x) (before Nothing text is_text) (λ x. refl) (λ x. refl) (λ x fits. fits) bytes y are e
takes op.GetEphemerals bytes y are e = takes_as Nothing asked_spelled op.GetEphemerals buffer (λ x. asks.GetEphemerals x) (before Nothing buffer is_buffer) (λ x. refl) (λ x. refl) (λ x fits. fits) bytes y are e
takes op.GetAllChildrenNumber bytes y are e = takes_as Nothing asked_spelled op.GetAllChildrenNumber buffer (λ x. asks.GetAllChildrenNumber x) (before Nothing buffer is_buffer) (λ x. refl) (λ x. refl) (λ x fits. fits) bytes y are e
takes op.AddWatch bytes y are e = takes_as Nothing asked_spelled op.AddWatch add_watch (λ x. asks.AddWatch x) (before Nothing add_watch is_add_watch) (λ x. refl) (λ x. refl) (λ x fits. fits) bytes y are e
takes op.WhoAmI bytes y are e = takes_as Nothing asked_spelled op.WhoAmI empty (λ _. asks.WhoAmI) (before Nothing empty is_empty) (λ x. refl) (λ x. refl) (λ x fits. fits) bytes y are e
takes op.CloseSession bytes y are e = takes_as Nothing asked_spelled op.CloseSession empty (λ _. asks.CloseSession) (before Nothing empty is_empty) (λ x. refl) (λ x. refl) (λ x fits. fits) bytes y are e
takes (op.Other n) bytes y are e = takes_as Nothing asked_spelled (op.Other n) left (λ x. asks.Other n x) left_last (λ x. refl) (λ x. refl) (λ x fits. fits) bytes y are e

again : (a : Asked) (rest : List ℕ) → Nothing rest → (asked_spelled a).fits → asked_at (asked_spelled a).tag ((asked_spelled a).text ++ rest) ≡ Ok (a, rest)
unfolding asked_at
again (asks.Create x) rest ends fits = again_as Nothing create (λ x. asks.Create x) (before Nothing create is_create) x rest ends fits
again (asks.Delete x) rest ends fits = again_as Nothing at_version (λ x. asks.Delete x) (before Nothing at_version is_at_version) x rest ends fits
again (asks.Exists x) rest ends fits = again_as Nothing look (λ x. asks.Exists x) (before Nothing look is_look) x rest ends fits
again (asks.GetData x) rest ends fits = again_as Nothing look (λ x. asks.GetData x) (before Nothing look is_look) x rest ends fits
again (asks.SetData x) rest ends fits = again_as Nothing set_data (λ x. asks.SetData x) (before Nothing set_data is_set_data) x rest ends fits
again (asks.GetAcl x) rest ends fits = again_as Nothing buffer (λ x. asks.GetAcl x) (before Nothing buffer is_buffer) x rest ends fits
again (asks.SetAcl x) rest ends fits = again_as Nothing set_acl (λ x. asks.SetAcl x) (before Nothing set_acl is_set_acl) x rest ends fits
again (asks.GetChildren x) rest ends fits = again_as Nothing look (λ x. asks.GetChildren x) (before Nothing look is_look) x rest ends fits
again (asks.Sync x) rest ends fits = again_as Nothing buffer (λ x. asks.Sync x) (before Nothing buffer is_buffer) x rest ends fits
again asks.Ping rest ends fits = refl
again (asks.GetChildren2 x) rest ends fits = again_as Nothing look (λ x. asks.GetChildren2 x) (before Nothing look is_look) x rest ends fits
again (asks.Check x) rest ends fits = again_as Nothing at_version (λ x. asks.Check x) (before Nothing at_version is_at_version) x rest ends fits
again (asks.Multi x) rest ends fits = again_as Nothing parts (λ x. asks.Multi x) (before Nothing parts is_parts) x rest ends fits
again (asks.Create2 x) rest ends fits = again_as Nothing create (λ x. asks.Create2 x) (before Nothing create is_create) x rest ends fits
again (asks.CheckWatches x) rest ends fits = again_as Nothing watches_at (λ x. asks.CheckWatches x) (before Nothing watches_at is_watches_at) x rest ends fits
again (asks.RemoveWatches x) rest ends fits = again_as Nothing watches_at (λ x. asks.RemoveWatches x) (before Nothing watches_at is_watches_at) x rest ends fits
again (asks.CreateContainer x) rest ends fits = again_as Nothing create (λ x. asks.CreateContainer x) (before Nothing create is_create) x rest ends fits
again (asks.CreateTtl x) rest ends fits = again_as Nothing create_ttl (λ x. asks.CreateTtl x) (before Nothing create_ttl is_create_ttl) x rest ends fits
again (asks.MultiRead x) rest ends fits = again_as Nothing looks (λ x. asks.MultiRead x) (before Nothing looks is_looks) x rest ends fits
again (asks.Auth x) rest ends fits = again_as Nothing auth (λ x. asks.Auth x) (before Nothing auth is_auth) x rest ends fits
again (asks.SetWatches x) rest ends fits = again_as Nothing set_watches (λ x. asks.SetWatches x) (before Nothing set_watches is_set_watches) x rest ends fits
again (asks.SetWatches2 x) rest ends fits = again_as Nothing set_watches_2 (λ x. asks.SetWatches2 x) (before Nothing set_watches_2 is_set_watches_2) x rest ends fits
again (asks.Sasl x) rest ends fits = again_as Nothing text (λ x. asks.Sasl x) (before Nothing text is_text) x rest ends fits
again (asks.GetEphemerals x) rest ends fits = again_as Nothing buffer (λ x. asks.GetEphemerals x) (before Nothing buffer is_buffer) x rest ends fits
again (asks.GetAllChildrenNumber x) rest ends fits = again_as Nothing buffer (λ x. asks.GetAllChildrenNumber x) (before Nothing buffer is_buffer) x rest ends fits
again (asks.AddWatch x) rest ends fits = again_as Nothing add_watch (λ x. asks.AddWatch x) (before Nothing add_watch is_add_watch) x rest ends fits
again asks.WhoAmI rest ends fits = refl
again asks.CloseSession rest ends fits = refl
again (asks.Other n x) rest ends fits = again_as Nothing left (λ x. asks.Other n x) left_last x rest ends fits

asked_is : IsFormBefore Nothing asked
unfolding asked
asked_is = is_by_tag Nothing op_form asked_at asked_spelled is_op takes again

pub request_is : IsFormBefore Nothing request
unfolding request
request_is = fields_before Nothing (both int asked) (λ r. (r.xid, r.asked)) (λ f. record { xid = f.0; asked = f.1 })
    (both_before Nothing int asked is_int asked_is) (λ f. refl) (λ r. refl)

pub request_found : (bytes : List ℕ) (r : Result Request ReadError) → IsBytes bytes → Gives (λ r. r) r (whole request bytes) → IfOk r (λ r. request.Fits r × (bytes ≡ request.spell r))
request_found bytes (Ok r) are given = let t = last_takes request request_is bytes r are given in (t.1, t.0)
request_found bytes (Err e) are given = tt

pub request_again : (r : Request) → request.Fits r → whole request (request.spell r) ≡ Ok r
request_again r fits = last_again request request_is r fits

pub requests_apart : RequestsAreDistinct
requests_apart x y fits also same = ok_is x y (sym (request_again x fits) ∙ ap (whole request) same ∙ request_again y also)
