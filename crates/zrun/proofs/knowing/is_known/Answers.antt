use Rattle.std.proofs.Common.{rules, ◌≡◌, ◌||◌, Bool, false, sym, subst}
use Rattle.zthreads.specs.declared.endpoint.Ending.{Ending}
use Rattle.zrun.specs.Left.{by_place, is_left_lost}
use Rattle.zrun.proofs.Whole.{are_linked, kept_all, wired_lists}
use Rattle.zrun.proofs.knowing.is_known.Goals as goal

pub are_reported-requires : goal.are_reported-requires
are_reported-requires c =
    let m = c.args.master in
    let ss = c.args.servers.items in
    let cs = c.args.clients.items in
    let outs = kept_all (λ (e : Ending). e.outs) m ss cs c.new-outs.result.items c.keep.new.mesh.outs.items
    c.keep_servers.new.mesh.outs.items c.keep_clients.new.mesh.outs.items
    c.new-outs.ensures.items c.in-Ok.ensures.outs c.in-Ok-keep_servers.ensures.outs c.in-Ok-keep_clients.ensures.outs in
    let ins = kept_all (λ (e : Ending). e.ins) m ss cs c.new-ins.result.items c.keep.new.mesh.ins.items
    c.keep_servers.new.mesh.ins.items c.keep_clients.new.mesh.ins.items
    c.new-ins.ensures.items c.in-Ok.ensures.ins c.in-Ok-keep_servers.ensures.ins c.in-Ok-keep_clients.ensures.ins in
    let kept : is_left_lost m ss cs ≡ false =
    subst (λ (b : Bool × Bool). (m.is_lost || (b.0 || b.1)) ≡ false) (λ k. (c.is_any_lost.ensures k, c.is_any_lost-2.ensures k))
    c.if-master-is_any_lost.false in
    wired_lists (by_place m ss cs) c.keep_clients.new.mesh.outs.items c.keep_clients.new.mesh.ins.items outs ins (c.requires kept)

pub returns-clause-linked : goal.returns-clause-linked
returns-clause-linked c is =
    let m = c.args.master in
    let ss = c.args.servers.items in
    let cs = c.args.clients.items in
    let outs = kept_all (λ (e : Ending). e.outs) m ss cs c.new-outs.result.items c.keep.new.mesh.outs.items
    c.keep_servers.new.mesh.outs.items c.keep_clients.new.mesh.outs.items
    c.new-outs.ensures.items c.in-Ok.ensures.outs c.in-Ok-keep_servers.ensures.outs c.in-Ok-keep_clients.ensures.outs in
    let ins = kept_all (λ (e : Ending). e.ins) m ss cs c.new-ins.result.items c.keep.new.mesh.ins.items
    c.keep_servers.new.mesh.ins.items c.keep_clients.new.mesh.ins.items
    c.new-ins.ensures.items c.in-Ok.ensures.ins c.in-Ok-keep_servers.ensures.ins c.in-Ok-keep_clients.ensures.ins in
    let kept : is_left_lost m ss cs ≡ false =
    subst (λ (b : Bool × Bool). (m.is_lost || (b.0 || b.1)) ≡ false) (λ k. (c.is_any_lost.ensures k, c.is_any_lost-2.ensures k))
    c.if-master-is_any_lost.false in
    are_linked (by_place m ss cs) (c.requires kept) c.keep_clients.new.mesh.outs.items c.keep_clients.new.mesh.ins.items
    outs ins (c.are_reported.ensures is)

pub returns-clause-lost : goal.returns-clause-lost
returns-clause-lost c = search rules
