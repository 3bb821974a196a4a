use Rattle.std.proofs.Common.{◌≡◌, ◌||◌, Bool, true, false, true≢false, refl, sym, ap, subst, ◌∙◌}
use Rattle.std.specs.List.{list_any}
use Rattle.zprotocol.specs.declared.traces.trace.Trace.{Trace}
use Rattle.zprotocol.specs.declared.traces.trace.ClientTrace.{ClientTrace}
use Rattle.zthreads.specs.declared.endpoint.Ending.{Ending}
use Rattle.zthreads.proofs.Endings.{neither}
use Rattle.zrun.specs.Left.{by_place, client_trace_of, is_left_cut}
use Rattle.zrun.proofs.Whole.{any_map, are_linked, kept_all, lawful, wired_lists}
use Rattle.zrun.proofs.gathering.gather.Goals as goal
use Rattle.zrun.proofs.gathering.gather.Goals.{then-is_cut, else-is_cut, then-not-is_reported, else-not-is_reported}

pub are_reported-is_reported-requires : goal.are_reported-is_reported-requires
are_reported-is_reported-requires c =
    let m = c.args.master in
    let ss = c.args.servers.items in
    let cs = c.args.clients.items in
    let outs = kept_all (λ (e : Ending). e.outs) m ss cs c.new-outs.result.items c.keep.new.mesh.outs.items
    c.keep_servers.new.mesh.outs.items c.keep_clients.new.mesh.outs.items
    c.new-outs.ensures.items c.in-Ok.ensures.outs c.in-Ok-keep_servers.ensures.outs c.in-Ok-keep_clients.ensures.outs in
    let ins = kept_all (λ (e : Ending). e.ins) m ss cs c.new-ins.result.items c.keep.new.mesh.ins.items
    c.keep_servers.new.mesh.ins.items c.keep_clients.new.mesh.ins.items
    c.new-ins.ensures.items c.in-Ok.ensures.ins c.in-Ok-keep_servers.ensures.ins c.in-Ok-keep_clients.ensures.ins in
    let uncut : is_left_cut m ss cs ≡ false =
    subst (λ (b : Bool × Bool). (m.trace.is_cut || (b.0 || b.1)) ≡ false) (λ k. (c.is_any_cut.ensures k, c.is_any_cut-2.ensures k))
    c.if-is_cut.false in
    wired_lists (by_place m ss cs) c.keep_clients.new.mesh.outs.items c.keep_clients.new.mesh.ins.items outs ins (c.requires.wired uncut)

pub returns-clause-lawful : goal.returns-clause-lawful
returns-clause-lawful c whole =
    let m = c.args.master in
    let ss = c.args.servers.items in
    let cs = c.args.clients.items in
    let outs = kept_all (λ (e : Ending). e.outs) m ss cs c.new-outs.result.items c.keep.new.mesh.outs.items
    c.keep_servers.new.mesh.outs.items c.keep_clients.new.mesh.outs.items
    c.new-outs.ensures.items c.in-Ok.ensures.outs c.in-Ok-keep_servers.ensures.outs c.in-Ok-keep_clients.ensures.outs in
    let ins = kept_all (λ (e : Ending). e.ins) m ss cs c.new-ins.result.items c.keep.new.mesh.ins.items
    c.keep_servers.new.mesh.ins.items c.keep_clients.new.mesh.ins.items
    c.new-ins.ensures.items c.in-Ok.ensures.ins c.in-Ok-keep_servers.ensures.ins c.in-Ok-keep_clients.ensures.ins in
    let test : Ending → Bool = λ e. e.trace.is_cut in
    let first = neither c.if-not-is_reported.trace.is_cut
    (list_any (λ (trace : Trace). trace.is_cut) c.in-Ok-keep_servers.servers.items
    || list_any (λ (client : ClientTrace). client.trace.is_cut) c.in-Ok-keep_clients.clients.items) whole in
    let rest = neither (list_any (λ (trace : Trace). trace.is_cut) c.in-Ok-keep_servers.servers.items)
    (list_any (λ (client : ClientTrace). client.trace.is_cut) c.in-Ok-keep_clients.clients.items) first.1 in
    let in_servers : list_any test ss ≡ false =
    sym (any_map (λ (trace : Trace). trace.is_cut) (λ (e : Ending). e.trace) ss)
    ∙ ap (λ l. list_any (λ (trace : Trace). trace.is_cut) l) (sym c.in-Ok-keep_servers.ensures.traces) ∙ rest.0 in
    let in_clients : list_any test cs ≡ false =
    sym (any_map (λ (client : ClientTrace). client.trace.is_cut) client_trace_of cs)
    ∙ ap (λ l. list_any (λ (client : ClientTrace). client.trace.is_cut) l) (sym c.in-Ok-keep_clients.ensures.traces) ∙ rest.1 in
    elim c.if-not-is_reported.branch [
      | then-not-is_reported w ↦ absurd (true≢false (ap (λ (t : Trace). t.is_cut) (sym w.trace-is) ∙ first.0))
      | else-not-is_reported w ↦
          let kept : c.if-not-is_reported.trace ≡ m.trace = w.trace-is ∙ ap (λ (k : ClientTrace). k.trace) c.in-Ok.ensures.trace in
          let in_master : m.trace.is_cut ≡ false = ap (λ (t : Trace). t.is_cut) (sym kept) ∙ first.0 in
          let uncut : is_left_cut m ss cs ≡ false =
          subst (λ (b : Bool × Bool × Bool). (b.0 || (b.1 || b.2)) ≡ false) (λ k. (sym in_master k, sym in_servers k, sym in_clients k)) refl in
          let flags : (m.trace.is_cut || (c.is_any_cut.result || c.is_any_cut-2.result)) ≡ false =
          subst (λ (b : Bool × Bool). (m.trace.is_cut || (b.0 || b.1)) ≡ false) (λ k. (sym c.is_any_cut.ensures k, sym c.is_any_cut-2.ensures k))
          uncut in
          elim c.if-is_cut.branch [
            | then-is_cut v ↦ absurd (true≢false (sym v.if-is_cut.true ∙ flags))
            | else-is_cut v ↦
                let reported : v.are_reported-is_reported.result ≡ true = sym v.is_reported-is ∙ w.if-not-is_reported.false in
                lawful c.args.last m ss cs
                record {
                  last = c.args.last;
                  master = c.if-not-is_reported.trace;
                  servers = c.in-Ok-keep_servers.servers;
                  clients = c.in-Ok-keep_clients.clients;
                  few_servers = c.result-1.given.0;
                  few_clients = c.result-1.given.1.0;
                }
                c.requires.servers refl (ap (λ (t : Trace). t.events) kept) c.in-Ok-keep_servers.ensures.traces c.in-Ok-keep_clients.ensures.traces
                (are_linked (by_place m ss cs) (c.requires.wired uncut) c.keep_clients.new.mesh.outs.items
                c.keep_clients.new.mesh.ins.items outs ins (v.are_reported-is_reported.ensures reported))
                c.requires.left uncut
          ]
    ]
