use Rattle.std.proofs.Common.{◌≡◌, [], length, Some, sym, ◌∙◌}
use Rattle.std.specs.Prelude.{All}
use Rattle.std.specs.declared.alloc.Global.{Global}
use Rattle.std.specs.declared.vec.Vec.{Vec}
use Rattle.std.proofs.lemmas.List.Elements.{All-pop}
use Rattle.zchannels.specs.declared.rings.Tx.{Tx}
use Rattle.zchannels.specs.declared.rings.Rx.{Rx}
use Rattle.zchannels.specs.Rings.{put_of, taken_of}
use Rattle.zthreads.specs.Endpoints.{TreeStamped}
use Rattle.zrun.proofs.Openings.{all_each}
use Rattle.zrun.proofs.supply.Supply.next.Goals as goal

pub returns-clause-fresh : goal.returns-clause-fresh
returns-clause-fresh c =
    let t = c.args.self.now in
    let outs = c.in-Some.outs in
    let ins = c.in-Some-pop.ins in
    let out_is = c.in-Some.ensures.items in
    let in_is = c.in-Some-pop.ensures.items in
    let blank_out = (All-pop (λ (row : Vec (Tx TreeStamped) Global). All (λ tx. put_of tx ≡ []) row.items) t.outs.items
    c.pop.new.self.items (Some outs) out_is t.blank_outs).1 in
    let blank_in = (All-pop (λ (row : Vec (Rx TreeStamped) Global). All (λ rx. taken_of rx ≡ []) row.items) t.ins.items
    c.pop-2.new.self.items (Some ins) in_is t.blank_ins).1 in
    let wide_out = (All-pop (λ (row : Vec (Tx TreeStamped) Global). length row.items ≡ t.width) t.outs.items
    c.pop.new.self.items (Some outs) out_is t.wide_outs).1 in
    let wide_in = (All-pop (λ (row : Vec (Rx TreeStamped) Global). length row.items ≡ t.width) t.ins.items c.pop-2.new.self.items
    (Some ins) in_is t.wide_ins).1 in (
      wide_in ∙ sym wide_out,
      all_each (λ rx. taken_of rx ≡ []) ins.items blank_in,
      all_each (λ tx. put_of tx ≡ []) outs.items blank_out,
    )
