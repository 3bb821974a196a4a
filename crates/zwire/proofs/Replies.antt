-- Queries and replies are forms.
use Rattle.std.proofs.Common.{◌≡◌, List, ◌++◌, ℕ, Ok, refl}
use Rattle.std.specs.Int.{w8}
use Rattle.zcodec.specs.Forms.{number, both, empty}
use Rattle.zcodec.specs.Laws.{IsForm}
use Rattle.zcodec.proofs.Numbers.{is_u8, is_u64, is_empty}
use Rattle.zcodec.proofs.Parts.{is_both}
use Rattle.zjute.proofs.Before.{Anything, before, is_form}
use Rattle.zjute.proofs.Tags.{again_as, is_by_tag}
use Rattle.zcalls.specs.declared.call.Query.{Query}
use Rattle.zcalls.specs.declared.call.Query.TheVariants as ask
use Rattle.zcalls.specs.declared.reply.PartReply.{PartReply}
use Rattle.zcalls.specs.declared.reply.PartReply.TheVariants as part
use Rattle.zcalls.specs.declared.reply.Reply.{Reply}
use Rattle.zcalls.specs.declared.reply.Reply.TheVariants as reported
use Rattle.zwire.specs.records.Fields.{path, content, long}
use Rattle.zwire.proofs.records_lemmas.Sums.{Takes, none_take, one_takes}
use Rattle.zwire.proofs.records_lemmas.Fields.{is_path, is_content}
use Rattle.zwire.specs.Fields.{stat, refusal, name}
use Rattle.zwire.specs.Replies.{query_at, query_spelled, query, part_reply_at, part_reply_spelled, part_reply, replies}
use Rattle.zwire.specs.Replies.{names, opened, ticked, data_stat, refused_part, other_reply_at, reply_at, reply_spelled}
use Rattle.zwire.specs.Replies.{reply}
use Rattle.zwire.proofs.Fields.{is_stat, is_refusal, is_counted}
use Rattle.zwire.proofs.Names.{is_name}

-- ---- queries

query_again : (q : Query) (rest : List ℕ) → Anything rest → (query_spelled q).fits
    → query_at (query_spelled q).tag ((query_spelled q).text ++ rest) ≡ Ok (q, rest)
unfolding query_at
query_again (ask.GetData p) rest any fits = again_as Anything path (λ p. ask.GetData p) (before Anything path is_path) p rest any fits
query_again (ask.Exists p) rest any fits = again_as Anything path (λ p. ask.Exists p) (before Anything path is_path) p rest any fits
query_again (ask.GetChildren p) rest any fits = again_as Anything path (λ p. ask.GetChildren p) (before Anything path is_path) p rest any fits

pub is_query : IsForm query
unfolding query query_at
is_query = is_form query (is_by_tag Anything (number w8) query_at query_spelled is_u8
    (one_takes query_spelled 0 path (λ p. ask.GetData p) _ is_path (λ x. refl) (λ x. refl) (λ x fits. fits)
    (one_takes query_spelled 1 path (λ p. ask.Exists p) _ is_path (λ x. refl) (λ x. refl) (λ x fits. fits)
    (one_takes query_spelled 2 path (λ p. ask.GetChildren p) _ is_path (λ x. refl) (λ x. refl) (λ x fits. fits)
    (none_take query_spelled))))
    query_again)

-- ---- the replies to the parts of a multi

part_reply_again : (r : PartReply) (rest : List ℕ) → Anything rest → (part_reply_spelled r).fits
    → part_reply_at (part_reply_spelled r).tag ((part_reply_spelled r).text ++ rest) ≡ Ok (r, rest)
unfolding part_reply_at
part_reply_again (part.Created p) rest any fits = again_as Anything path (λ p. part.Created p) (before Anything path is_path) p rest any fits
part_reply_again part.Deleted rest any fits = refl
part_reply_again (part.Set s) rest any fits = again_as Anything stat (λ s. part.Set s) (before Anything stat is_stat) s rest any fits
part_reply_again part.Checked rest any fits = refl

pub is_part_reply : IsForm part_reply
unfolding part_reply part_reply_at
is_part_reply = is_form part_reply (is_by_tag Anything (number w8) part_reply_at part_reply_spelled is_u8
    (one_takes part_reply_spelled 0 path (λ p. part.Created p) _ is_path (λ x. refl) (λ x. refl) (λ x fits. fits)
    (one_takes part_reply_spelled 1 empty (λ _. part.Deleted) _ is_empty (λ x. refl) (λ x. refl) (λ x fits. fits)
    (one_takes part_reply_spelled 2 stat (λ s. part.Set s) _ is_stat (λ x. refl) (λ x. refl) (λ x fits. fits)
    (one_takes part_reply_spelled 3 empty (λ _. part.Checked) _ is_empty (λ x. refl) (λ x. refl) (λ x fits. fits)
    (none_take part_reply_spelled)))))
    part_reply_again)

pub is_replies : IsForm replies
unfolding replies
is_replies = is_counted part_reply is_part_reply

pub is_names : IsForm names
unfolding names
is_names = is_counted name is_name

-- ---- replies

is_opened : IsForm opened
is_opened = is_both long long is_u64 is_u64

is_ticked : IsForm ticked
is_ticked = is_both long (both long long) is_u64 is_opened

is_data_stat : IsForm data_stat
is_data_stat = is_both content stat is_content is_stat

is_refused_part : IsForm refused_part
is_refused_part = is_both long refusal is_u64 is_refusal

reply_again : (r : Reply) (rest : List ℕ) → Anything rest → (reply_spelled r).fits
    → reply_at (reply_spelled r).tag ((reply_spelled r).text ++ rest) ≡ Ok (r, rest)
unfolding reply_at other_reply_at
reply_again (reported.Created p) rest any fits = again_as Anything path (λ p. reported.Created p) (before Anything path is_path) p rest any fits
reply_again reported.Deleted rest any fits = refl
reply_again (reported.Set s) rest any fits = again_as Anything stat (λ s. reported.Set s) (before Anything stat is_stat) s rest any fits
reply_again (reported.Multi rs) rest any fits = again_as Anything replies (λ rs. reported.Multi rs) (before Anything replies is_replies) rs rest any fits
reply_again (reported.Opened id timeout) rest any fits = again_as Anything opened (λ o. reported.Opened o.0 o.1)
    (before Anything opened is_opened) (id, timeout) rest any fits
reply_again reported.Pinged rest any fits = refl
reply_again reported.Closed rest any fits = refl
reply_again (reported.Ticked tick ended removed) rest any fits = again_as Anything ticked (λ t. reported.Ticked t.0 t.1.0 t.1.1)
    (before Anything ticked is_ticked) (tick, (ended, removed)) rest any fits
reply_again (reported.Data bytes s) rest any fits = again_as Anything data_stat (λ d. reported.Data d.0 d.1)
    (before Anything data_stat is_data_stat) (bytes, s) rest any fits
reply_again (reported.Exists s) rest any fits = again_as Anything stat (λ s. reported.Exists s) (before Anything stat is_stat) s rest any fits
reply_again (reported.Children ns) rest any fits = again_as Anything names (λ ns. reported.Children ns) (before Anything names is_names) ns rest any fits
reply_again (reported.Refused r) rest any fits = again_as Anything refusal (λ r. reported.Refused r) (before Anything refusal is_refusal) r rest any fits
reply_again (reported.MultiRefused n r) rest any fits = again_as Anything refused_part (λ r. reported.MultiRefused r.0 r.1)
    (before Anything refused_part is_refused_part) (n, r) rest any fits

others_take : Takes reply_spelled other_reply_at
unfolding other_reply_at
others_take =
    one_takes reply_spelled 8 data_stat (λ d. reported.Data d.0 d.1) _ is_data_stat (λ x. refl) (λ x. refl) (λ x fits. fits)
    (one_takes reply_spelled 9 stat (λ s. reported.Exists s) _ is_stat (λ x. refl) (λ x. refl) (λ x fits. fits)
    (one_takes reply_spelled 10 names (λ ns. reported.Children ns) _ is_names (λ x. refl) (λ x. refl) (λ x fits. fits)
    (one_takes reply_spelled 11 refusal (λ r. reported.Refused r) _ is_refusal (λ x. refl) (λ x. refl) (λ x fits. fits)
    (one_takes reply_spelled 12 refused_part (λ r. reported.MultiRefused r.0 r.1) _ is_refused_part (λ x. refl) (λ x. refl) (λ x fits. fits)
    (none_take reply_spelled)))))

pub is_reply : IsForm reply
unfolding reply reply_at
is_reply = is_form reply (is_by_tag Anything (number w8) reply_at reply_spelled is_u8
    (one_takes reply_spelled 0 path (λ p. reported.Created p) _ is_path (λ x. refl) (λ x. refl) (λ x fits. fits)
    (one_takes reply_spelled 1 empty (λ _. reported.Deleted) _ is_empty (λ x. refl) (λ x. refl) (λ x fits. fits)
    (one_takes reply_spelled 2 stat (λ s. reported.Set s) _ is_stat (λ x. refl) (λ x. refl) (λ x fits. fits)
    (one_takes reply_spelled 3 replies (λ rs. reported.Multi rs) _ is_replies (λ x. refl) (λ x. refl) (λ x fits. fits)
    (one_takes reply_spelled 4 opened (λ o. reported.Opened o.0 o.1) _ is_opened (λ x. refl) (λ x. refl) (λ x fits. fits)
    (one_takes reply_spelled 5 empty (λ _. reported.Pinged) _ is_empty (λ x. refl) (λ x. refl) (λ x fits. fits)
    (one_takes reply_spelled 6 empty (λ _. reported.Closed) _ is_empty (λ x. refl) (λ x. refl) (λ x fits. fits)
    (one_takes reply_spelled 7 ticked (λ t. reported.Ticked t.0 t.1.0 t.1.1) _ is_ticked (λ x. refl) (λ x. refl) (λ x fits. fits)
    others_take))))))))
    reply_again)
