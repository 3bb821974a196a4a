use Rattle.zthreads.specs.Endpoints.{self_of}
use Rattle.zthreads.specs.Hosts.{AccountsForHost}
use Rattle.zthreads.proofs.Endings.{ends_by, has_ended}
use Rattle.zthreads.proofs.host.Host.into_ending.Goals as goal

pub returns-clause-steps : goal.returns-clause-steps
returns-clause-steps c =
    let h = c.args.self in
    let end = c.into_ending in
    ends_by h.endpoint end.result h.actor h.front end.ensures.lost end.ensures.ended h.hosted.at

pub returns-clause-ended : goal.returns-clause-ended
returns-clause-ended c =
    let h = c.args.self in
    let end = c.into_ending in
    has_ended (self_of h.endpoint) end.result (AccountsForHost h)
    (ends_by h.endpoint end.result h.actor h.front end.ensures.lost end.ensures.ended h.hosted.at)
