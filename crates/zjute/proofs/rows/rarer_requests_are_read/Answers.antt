use Rattle.std.proofs.Common.{refl}
use Rattle.zjute.specs.Asking.{request, asked, asked_at, op_of, middle_ops, late_ops, last_ops}
use Rattle.zjute.specs.Requests.{create, create_ttl, at_version, look, set_data, set_acl, watches_at, add_watch, auth, set_watches, set_watches_2, acl, acls_or_null}
use Rattle.zjute.specs.Parts.{parts, looks, part_or_end, look_or_end, part_header, look_header}
use Rattle.zjute.specs.Jute.{int, long, buffer, text, texts, left}
use Rattle.zcodec.specs.Forms.{number_at}
use Rattle.zjute.proofs.rows.rarer_requests_are_read.Goals as goal

pub returns : goal.returns
unfolding request asked create create_ttl at_version look set_data set_acl watches_at add_watch auth set_watches set_watches_2 acl parts looks part_or_end look_or_end part_header look_header asked_at op_of middle_ops late_ops last_ops int long buffer text texts left acls_or_null number_at
returns c =
    record {
      check = refl;
      check_watches = refl;
      remove_watches = refl;
      create_ttl = refl;
      create_container = refl;
      multi_read = refl;
      set_watches = refl;
      set_watches_2 = refl;
      add_watch = refl;
      container = refl;
      sasl = refl;
      get_ephemerals = refl;
      get_all_children_number = refl;
      who_am_i = refl;
    }
