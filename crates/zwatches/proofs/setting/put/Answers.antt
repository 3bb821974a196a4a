use Rattle.std.proofs.Common.{◌≡◌, sym, ap, subst, ◌∙◌}
use Rattle.std.specs.FinSet.{insert}
use Rattle.zwatches.specs.Watches.{Path, Watches, watch}
use Rattle.zwatches.specs.support.Nested.{AreFound, watch_at}
use Rattle.zwatches.proofs.Found.{watch_found, when_ok}
use Rattle.zwatches.proofs.setting.put.Goals as goal

pub returns : goal.returns
returns c =
    let table = c.args.watches.now in
    let s = c.args.slot in
    let rows = c.add.new.self.paths.entries in
    let done : c.insert.new.self ≡ insert table (watch_at c.names.result.now s) =
    when_ok c.insert.result c.insert.ensures.ok (sym c.is_err.ensures.value ∙ c.if-is_err.false) in
    record {
      found =
          subst (λ (t : Watches). AreFound rows t)
          (sym (done ∙ ap (λ (p : Path). insert table (watch p s.kind s.connection)) (c.names.ensures.names ∙ sym c.requires.copied)))
          (watch_found c.args.paths.now.paths.entries rows table s.kind s.connection c.args.copy c.in_ok-add.ensures.ok c.requires.found);
      ok = done ∙ ap (λ (p : Path). insert table (watch p s.kind s.connection)) c.names.ensures.names;
      err = tt;
    }
