use Rattle.std.proofs.Common.{[], ◌∷◌, sym, subst, ◌∙◌}
use Rattle.zprotocol.specs.declared.message.Message.TheVariants as message
use Rattle.zprotocol.specs.declared.process.Process.TheVariants.{Master}
use Rattle.znode.specs.Node.{SeatView}
use Rattle.znode.specs.Server.{ArePut, Hears}
use Rattle.znode.proofs.node_lemmas.Hearing.{has_done, hears_on, hears_last, hears_nothing}
use Rattle.znode.proofs.node_lemmas.Results.{on_ok}
use Rattle.znode.proofs.seat.Seat.hear.Goals as goal

pub returns-in_default : goal.returns-in_default
returns-in_default c =
    subst (λ (s : SeatView). Hears c.args.own c.args.from c.args.message c.args.self.now s) (sym c.in_default.ensures.same)
    (hears_nothing c.args.own c.args.from c.args.message c.args.self.now c.in_default.ensures.stopped)

pub returns-then-is_end : goal.returns-then-is_end
returns-then-is_end c =
    let own = c.args.own in
    let st = c.act.new.self.standing in
    let posts = c.act.new.out.posts in
    let h = has_done own c.args.from c.args.message c.args.self.now.standing st c.new-out.result c.act.new.out c.in-Some.done
    c.act.ensures.server c.new-out.ensures c.in-Some.ensures.acted in
    let put = subst (λ (s : SeatView). ArePut own posts s c.put_all.new.self) c.act.ensures.rest c.in_ok-put_all.ensures in
    on_ok c.report.result (ArePut own ((Master, message.Gone) ∷ []) c.put_all.new.self c.report.new.self)
    (Hears own c.args.from c.args.message c.args.self.now c.report.new.self)
    (λ last. hears_last own c.args.from c.args.message c.args.self.now c.put_all.new.self c.report.new.self st posts c.in-Some.done h
    (sym c.is_end.ensures ∙ c.if-is_end.true) put last)
    c.report.ensures

pub returns : goal.returns
returns c =
    let own = c.args.own in
    let st = c.act.new.self.standing in
    let posts = c.act.new.out.posts in
    let h = has_done own c.args.from c.args.message c.args.self.now.standing st c.new-out.result c.act.new.out c.in-Some.done
    c.act.ensures.server c.new-out.ensures c.in-Some.ensures.acted in
    let put = subst (λ (s : SeatView). ArePut own posts s c.put_all.new.self) c.act.ensures.rest c.in_ok-put_all.ensures in
    hears_on own c.args.from c.args.message c.args.self.now c.put_all.new.self st posts c.in-Some.done h
    (sym c.is_end.ensures ∙ c.if-is_end.false) put
