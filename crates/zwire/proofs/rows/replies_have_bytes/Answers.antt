use Rattle.std.proofs.Common.{refl}
use Rattle.zwire.specs.records.Fields.{path, content}
use Rattle.zwire.specs.Fields.{stat, refusal, name}
use Rattle.zwire.specs.Replies.{part_reply, replies, names, reply}
use Rattle.zwire.proofs.rows.replies_have_bytes.Goals as goal

pub returns : goal.returns
unfolding reply replies names part_reply stat refusal name path content
returns c = record {
  created = refl;
  deleted = refl;
  set = refl;
  multi = refl;
  created_part = refl;
  opened = refl;
  pinged =
      refl;
  closed = refl;
  ticked = refl;
  content = refl;
  exists = refl;
  children = refl;
  refused = refl;
  multi_refused = refl;
}
