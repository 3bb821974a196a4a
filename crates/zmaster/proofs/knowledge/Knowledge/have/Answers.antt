use Rattle.std.proofs.Common.{◌≡◌, ap, sym, ◌∙◌, refl, Option, None, Some, List, ℕ}
use Rattle.zprotocol.specs.server.View.{Neighbour}
use Rattle.zprotocol.specs.master.View.{MasterView}
use Rattle.zprotocol.specs.master.Table.{before}
use Rattle.zprotocol.proofs.Posts.{put_none, put_one}
use Rattle.zmaster.proofs.Rows.{have_none, have_some}
use Rattle.zmaster.proofs.knowledge.Knowledge.have.Goals as goal

pub returns-in-Some-clause-same : goal.returns-in-Some-clause-same
returns-in-Some-clause-same g c =
    let is : before c.args.server c.args.epoch c.args.self.now.chain ≡ Some c.in-Some.before =
    ap (λ (xs : List Neighbour). before c.args.server c.args.epoch xs) (sym (c.deref.ensures.0 ∙ ap (λ (v : MasterView). v.chain) c.self.view_is)) ∙ sym c.member_before.ensures ∙ c.in-Some.is in
    rw (have_some c.args.self.now c.args.server c.args.epoch c.args.last c.in-Some.before is) refl

pub returns-in-Some-clause-puts : goal.returns-in-Some-clause-puts
returns-in-Some-clause-puts g c =
    let is : before c.args.server c.args.epoch c.args.self.now.chain ≡ Some c.in-Some.before =
    ap (λ (xs : List Neighbour). before c.args.server c.args.epoch xs) (sym (c.deref.ensures.0 ∙ ap (λ (v : MasterView). v.chain) c.self.view_is)) ∙ sym c.member_before.ensures ∙ c.in-Some.is in
    rw (have_some c.args.self.now c.args.server c.args.epoch c.args.last c.in-Some.before is) (put_one _ _ _ _ c.put_reserved.ensures.put c.put_reserved.ensures.room)

pub returns-in_default-clause-same : goal.returns-in_default-clause-same
returns-in_default-clause-same g c =
    let is : ◌≡◌ {A = Option ℕ} (before c.args.server c.args.epoch c.args.self.now.chain) None =
    ap (λ (xs : List Neighbour). before c.args.server c.args.epoch xs) (sym (c.deref.ensures.0 ∙ ap (λ (v : MasterView). v.chain) c.self.view_is)) ∙ sym c.member_before.ensures ∙ c.in_default.is in
    rw (have_none c.args.self.now c.args.server c.args.epoch c.args.last is) refl

pub returns-in_default-clause-puts : goal.returns-in_default-clause-puts
returns-in_default-clause-puts g c =
    let is : ◌≡◌ {A = Option ℕ} (before c.args.server c.args.epoch c.args.self.now.chain) None =
    ap (λ (xs : List Neighbour). before c.args.server c.args.epoch xs) (sym (c.deref.ensures.0 ∙ ap (λ (v : MasterView). v.chain) c.self.view_is)) ∙ sym c.member_before.ensures ∙ c.in_default.is in
    rw (have_none c.args.self.now c.args.server c.args.epoch c.args.last is) (put_none _)
