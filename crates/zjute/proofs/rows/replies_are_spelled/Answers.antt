use Rattle.std.proofs.Common.{refl}
use Rattle.zjute.specs.Replies.{reply_text}
use Rattle.zjute.specs.Events.{event_text}
use Rattle.zjute.specs.Stats.{stat}
use Rattle.zjute.specs.Requests.{acl, acls}
use Rattle.zjute.specs.Jute.{int, long, buffer, text, texts}
use Rattle.zjute.proofs.rows.replies_are_spelled.Goals as goal

pub returns : goal.returns
unfolding reply_text event_text stat acl acls int long buffer text texts
returns c =
    record {
      created = refl;
      refused = refl;
      reported_data = refl;
      reported_null = refl;
      reported_names = refl;
      reported_acl = refl;
      watched = refl;
      counted = refl;
      named = refl;
      no_token = refl;
      multi_done = refl;
      multi_refused = refl;
      multi_kinds = refl;
      event = refl;
      stat = refl;
    }
