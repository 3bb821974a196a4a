use Rattle.std.proofs.Common.{◌≡◌, ◌-◌, ◌++◌, length, take, min, sym, ap, ◌∙◌, arith}
use Rattle.std.proofs.lemmas.Bool.Decides.{nat_tests}
use Rattle.zscript.specs.declared.limits.TheConstants.{KEPT}
use Rattle.zscript.specs.support.PlayerView.{PlayerView}
use Rattle.zscript.proofs.Cached.{kept-none, kept-room}
use Rattle.zscript.proofs.player.Player.keep.Goals as goal

pub returns-then-is_empty-clause-line : goal.returns-then-is_empty-clause-line
returns-then-is_empty-clause-line c =
    let line : c.self.inside.line.items ≡ c.args.self.now.line = ap (λ (p : PlayerView). p.line) c.self.view_is in
    let none : length c.args.part.now ≡ 0 = grind (arith, nat_tests) in
    kept-none c.args.self.now.line c.args.part.now (omega (arith, ap length line)) none

pub returns-clause-line : goal.returns-clause-line
returns-clause-line c =
    let line : c.self.inside.line.items ≡ c.args.self.now.line = ap (λ (p : PlayerView). p.line) c.self.view_is in
    let count : c.min.result ≡ min (length c.args.part.now) (KEPT - length c.args.self.now.line) = omega (arith, ap length line) in
    c.in_ok-extend_from_slice.ensures.items
    ∙ (λ i. line i ++ take (count i) c.args.part.now)
    ∙ sym (kept-room c.args.self.now.line c.args.part.now (omega (arith, ap length line)))
