use Rattle.std.proofs.Common.{◌≡◌, false, subst}
use mathlib.Core.Bool.{true≢false}
use Rattle.zprotocol.specs.declared.process.Process.{Process}
use Rattle.zthreads.specs.Hosting.{is_client}
use Rattle.zthreads.proofs.host.Host.learn.Goals as goal

pub invariant_of-self : goal.invariant_of-self
invariant_of-self c =
    let t = c.args.self.now.hosted in
    record {
      hosted =
          record { fits = t.fits; at = t.at; reported = λ other. absurd (true≢false (subst (λ (p : Process). is_client p ≡ false) c.requires.1 other)) };
    }
