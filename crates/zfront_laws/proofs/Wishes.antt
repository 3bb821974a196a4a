-- The watches that a request asks for are granted: what single changes carry is carried where a
-- request is answered.
use Rattle.std.proofs.Common.{◌≡◌, ℕ, Bool, true, false, List, refl}
use Rattle.std.specs.FinSet.{insert}
use Rattle.ztree.specs.Tree.{Path}
use Rattle.zcalls.specs.declared.call.Call.{Call}
use Rattle.zcalls.specs.declared.reply.Reply.{Reply}
use Rattle.zjute.specs.declared.request.Request.{Request}
use Rattle.zwatches.specs.Removal.{without_meant}
use Rattle.zwatches.specs.declared.kind.Kind.{Kind}
use Rattle.zwatches.specs.Watches.{is_full, watch}
use Rattle.zresponses.specs.declared.clock.Clock.{Clock}
use Rattle.zresponses.specs.declared.clock.Now.{Now}
use Rattle.zconnections.specs.Tables.{TablesView}
use Rattle.zconnections.specs.Reporting.{event_frame}
use Rattle.zresponses.specs.effects.Answering.{answered, answer_unless}
use Rattle.zresponses.specs.effects.Replying.{absorbed_all, replied}
use Rattle.zresponses.specs.effects.Watching.{waiting, granted_all, first_fault}
use Rattle.zresponses.specs.effects.Wishes.{wishes}
use Rattle.zresponses.proofs.effects_lemmas.Granting.{grants_all}
use Rattle.zresponses.specs.Stats.{told}
use Rattle.zfront_laws.proofs.Changes.{Carries, absorbs_all, replies_to, sends}

module _ (R : TablesView → TablesView → Type 0) (carry : Carries R) where
  waits : (c : ℕ) (kind : Kind) (path : Path) (t : TablesView) → R t (waiting c kind path t)
  waits c kind path t = by (is_full t.limits t.watches (watch path kind c)) refl
    where
      by : (b : Bool) → is_full t.limits t.watches (watch path kind c) ≡ b → R t (waiting c kind path t)
      by true is = rw is (carry.none t)
      by false is = rw is (carry.watches (insert t.watches (watch path kind c)) t)

  -- a request is answered
  pub answers : (clock : Clock) (now : Now) (c : ℕ) (request : Request) (calls : List Call) (replies : List Reply) (t : TablesView)
      → R t (answered clock now c request calls replies t)
  answers clock now c request calls replies t =
      let absorbing = absorbed_all calls replies t in
      let wanted = wishes request.asked calls replies in
      let granting = granted_all c wanted absorbing in
      let answer = answer_unless (first_fault c wanted absorbing) clock now request.asked calls replies in
      carry.both t absorbing (replied (told clock.base now.zxid) c request.xid answer granting) (absorbs_all R carry calls replies t)
      (carry.both absorbing granting (replied (told clock.base now.zxid) c request.xid answer granting)
      (grants_all R carry.none carry.both c (waits c) (λ e u. sends R carry c (event_frame e) u) (λ type path u. carry.watches (without_meant u.watches c type path) u) wanted absorbing)
      (replies_to R carry (told clock.base now.zxid) c request.xid answer granting))
