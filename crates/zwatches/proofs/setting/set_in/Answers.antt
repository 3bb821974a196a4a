use Rattle.std.proofs.Common.{◌≡◌, ◌<◌, false, refl, sym, ap, ◌∙◌, arith}
use Rattle.std.specs.FinSet.{contains, len}
use Rattle.std.proofs.lemmas.Bool.{lt-leb}
use Rattle.zwatches.specs.Watches.{Path, share, watch}
use Rattle.zwatches.proofs.Order.{watches_total, same_watch}
use Rattle.zwatches.proofs.Sets.{insert_again}
use Rattle.zwatches.proofs.setting.set_in.Goals as goal

pub returns-then-contains-clause-ok : goal.returns-then-contains-clause-ok
returns-then-contains-clause-ok c =
    let table = c.args.watches.now in
    sym (insert_again watches_total same_watch table (watch c.args.path.now c.args.kind c.args.connection)
    (ap (λ (p : Path). contains table (watch p c.args.kind c.args.connection)) (sym c.names.ensures.names) ∙ sym c.contains.ensures ∙ c.if-contains.true))

pub returns : goal.returns
returns c =
    let table = c.args.watches.now in
    let absent : contains table (watch c.args.path.now c.args.kind c.args.connection) ≡ false =
    ap (λ (p : Path). contains table (watch p c.args.kind c.args.connection)) (sym c.names.ensures.names) ∙ sym c.contains.ensures ∙ c.if-contains.false in
    let few : len table < c.args.limits.most = omega (arith, c.count.ensures, c.if-count-limits.false) in
    let own : share table c.args.connection < c.args.limits.each = omega (arith, c.share.ensures, c.if-share-limits.false) in
    record {
      found = c.in_ok-put.ensures.found;
      ok = c.in_ok-put.ensures.ok;
      err = tt;
      room = rw (absent, lt-leb _ _ few, lt-leb _ _ own) refl;
      fault = tt;
      again = λ there. refl;
    }
