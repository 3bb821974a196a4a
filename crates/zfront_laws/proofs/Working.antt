-- What single changes of the tables carry is carried by all that becomes of requests and of ticks.
use Rattle.std.proofs.Common.{◌≡◌, ℕ, Bool, true, false, List, Option, Result, Ok, Err, sym, subst}
use Rattle.std.specs.Prelude.{None, Some}
use Rattle.std.specs.List.{list_any}
use Rattle.zcodec.specs.declared.fault.Fault.{Fault}
use Rattle.ztree.specs.Tree.{Path}
use Rattle.zcalls.specs.declared.call.Call.{Call}
use Rattle.zcalls.specs.declared.reply.Reply.{Reply}
use Rattle.zjute.specs.declared.request.Request.{Request}
use Rattle.zrequests.specs.Asking.{Meaning}
use Rattle.zrequests.specs.Requests.{calls_in}
use Rattle.zrequests.specs.declared.fault.Unasked.TheVariants.{Refused, Memory}
use Rattle.zresponses.specs.declared.answer.Answer.{Answer}
use Rattle.zresponses.specs.Own.{refused_answer}
use Rattle.zconnections.specs.attachments.Attachments.{touched_ids}
use Rattle.zconnections.specs.Tables.{TablesView, closed}
use Rattle.zresponses.specs.effects.Answering.{now_of}
use Rattle.zresponses.specs.effects.Looking.{seen}
use Rattle.zresponses.specs.effects.Replying.{replied}
use Rattle.zresponses.specs.Stats.{told}
use Rattle.zfront.specs.Front.{FrontView, with_tables, asked, replies_to, gone_from, swept, may_end, took_unnamed, looks, looked_if, watched}
use Rattle.zfront.specs.Front.{ending, tidied_if, tidied_of}
use Rattle.zfront.specs.Requests.{touched_by, with_answer, Tells, Acts, ActsOr, Requests, Serves, request_in}
use Rattle.zfront.specs.Ticking.{rested, tick_calls, Ticks}
use Rattle.zfront.specs.Walks.{walked}
use Rattle.zfront_laws.proofs.Changes.{Carries, replies_to as reported, sweeps_all, reports_all}
use Rattle.zfront_laws.proofs.Wishes.{answers}

module _ (R : TablesView → TablesView → Type 0) (carry : Carries R) where
  -- from one server to another
  abbrev pub From : FrontView → FrontView → Type 0
  From old new = R old.tables new.tables

  pub becomes : (old like new : FrontView) → new ≡ like → R old.tables like.tables → From old new
  becomes old like new is has = subst (λ (v : FrontView). R old.tables v.tables) (sym is) has

  pub same : (old new : FrontView) → new ≡ old → From old new
  same old new is = becomes old old new is (carry.none old.tables)

  joins : (old middle new : FrontView) → From old middle → From middle new → From old new
  joins old middle new one two = carry.both old.tables middle.tables new.tables one two

  looks_if : (must : Bool) (paths : List Path) (v : FrontView) → From v (looked_if must paths v)
  looks_if false paths v = carry.none v.tables
  looks_if true paths v = reports_all R carry (seen v.tree.zxid paths (looks v.tree paths)) v.tables

  tidies_if : (ends : Bool) (replies : List Reply) (ids : List ℕ) (paths : List Path) (v : FrontView) → From v (tidied_if ends replies ids paths v)
  tidies_if false replies ids paths v = carry.none v.tables
  tidies_if true replies ids paths v =
      joins v (swept ids v) (looked_if (took_unnamed replies ids v) paths (swept ids v)) (sweeps_all R carry (gone_from ids v) v.tables)
      (looks_if (took_unnamed replies ids v) paths (swept ids v))

  pub tidies : (calls : List Call) (was v new : FrontView) → new ≡ tidied_of calls was v → From v new
  tidies calls was v new is =
      becomes v (tidied_of calls was v) new is
      (tidies_if (list_any may_end calls) (replies_to calls was) (ending calls was.tree) (watched calls was) v)

  -- requests
  pub answered_by : (calls : List Call) (c : ℕ) (r : Request) (v : FrontView) → From v (with_answer calls c r v)
  answered_by calls c r v = answers R carry v.clock (now_of (asked calls v).tree) c r calls (replies_to calls v) v.tables

  tells : (answer : Answer) (c : ℕ) (r : Request) (old new : FrontView) → Tells answer c r old new → From old new
  tells answer c r old new is =
      becomes old (with_tables (replied (told old.clock.base old.tree.zxid) c r.xid answer old.tables) old) new is
      (reported R carry (told old.clock.base old.tree.zxid) c r.xid answer old.tables)

  acts : (meaning : Meaning (List Call)) (c : ℕ) (r : Request) (old new : FrontView) → Acts meaning c r old new → From old new
  acts (Err (Refused code)) c r old new is = tells (refused_answer code r.asked) c r old new is
  acts (Err Memory) c r old new is = absurd is
  acts (Ok calls) c r old new has =
      joins old (with_answer calls c r old) new (answered_by calls c r old) (tidies calls old (with_answer calls c r old) new has)

  acts_or : (walk : Option Answer) (meaning : Meaning (List Call)) (c : ℕ) (r : Request) (old new : FrontView) → ActsOr walk meaning c r old new
      → From old new
  acts_or (Some answer) meaning c r old new is = tells answer c r old new is
  acts_or None meaning c r old new has = acts meaning c r old new has

  requests : (read : Result Request Fault) (session c : ℕ) (old new : FrontView) → Requests read session c old new → From old new
  requests (Err fault) session c old new is = becomes old (with_tables (closed c old.tables) old) new is (carry.closes c old.tables)
  requests (Ok r) session c old new has =
      joins old (touched_by session old) new (carry.touches session old.tables)
      (acts_or (walked session r.asked old.tree) (calls_in old.clock.terms session r.asked) c r (touched_by session old) new has)

  pub serves : (bytes : List ℕ) (session c : ℕ) (old new : FrontView) → Serves bytes session c old new → From old new
  serves bytes session c old new has = requests (request_in old.clock.base bytes) session c old new has

  -- ticks
  pub ticks : (old new : FrontView) → Ticks old new → From old new
  ticks old new has =
      let calls = tick_calls (touched_ids old.tables.attachments) in
      joins old (rested (asked calls old)) new (carry.rests old.tables) (tidies calls old (rested (asked calls old)) new has)
