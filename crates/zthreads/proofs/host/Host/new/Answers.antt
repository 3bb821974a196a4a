use Rattle.zthreads.specs.Endpoints.{process_of}
use Rattle.zthreads.proofs.Hosted.{learns_nothing}
use Rattle.zthreads.proofs.host.Host.new.Goals as goal

pub invariant_of-result : goal.invariant_of-result
invariant_of-result c =
    record {
      hosted =
          record { fits = c.requires.fits; at = c.requires.at; reported = learns_nothing (process_of c.args.endpoint) c.zero.result c.zero.ensures };
    }
