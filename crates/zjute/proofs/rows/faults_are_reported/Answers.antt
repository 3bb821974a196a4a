use Rattle.std.proofs.Common.{refl}
use Rattle.zjute.specs.Asking.{request, asked, asked_at, op_of, middle_ops, late_ops, last_ops}
use Rattle.zjute.specs.Requests.{create, create_ttl, at_version, look, set_data, set_acl, watches_at, add_watch, auth, set_watches, set_watches_2, acl, acls_or_null}
use Rattle.zjute.specs.Parts.{parts, looks, part_or_end, look_or_end, part_header, look_header}
use Rattle.zjute.specs.Jute.{int, long, buffer, text, texts, left}
use Rattle.zcodec.specs.Forms.{number_at}
use Rattle.zjute.proofs.rows.faults_are_reported.Goals as goal

pub returns : goal.returns
unfolding request asked create create_ttl at_version look set_data set_acl watches_at add_watch auth set_watches set_watches_2 acl parts looks part_or_end look_or_end part_header look_header asked_at op_of middle_ops late_ops last_ops int long buffer text texts left acls_or_null number_at
returns c =
    record {
      cut = refl;
      cut_text = refl;
      long_text = refl;
      null_text = refl;
      null_token = refl;
      empty_text = refl;
      flag = refl;
      more = refl;
      no_end = refl;
      odd_part = refl;
    }
