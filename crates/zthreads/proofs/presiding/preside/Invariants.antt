use Rattle.std.proofs.Common.{None, []}
use Rattle.zchannels.specs.HaltSeats.{IsSeatOf}
use Rattle.zchannels.specs.Console.{IsSameInbox, said, taken_of}
use Rattle.zchannels.specs.Outcomes.{AreSaid}
use Rattle.zthreads.specs.Endpoints.{SameEndpoint}
use Rattle.zthreads.specs.Acts.{HasFollowed}
use Rattle.zthreads.specs.Outcomes.{unfollowed, unsaid}
use Rattle.zthreads.specs.Said.{spoken, WereSaid}
use Rattle.zthreads.proofs.presiding.preside.Given as goal

abbrev pub invariant-loop : goal.invariant-loop
invariant-loop g l =
    SameEndpoint l.fn.chief.host.endpoint l.chief.host.endpoint × IsSeatOf l.halt l.seat × IsSameInbox l.fn.inbox l.inbox
    × (HasFollowed l.fn.chief.host.endpoint (taken_of l.fn.inbox) None → HasFollowed l.chief.host.endpoint (taken_of l.inbox) (unfollowed l.owed))
    × (AreSaid l.fn.inbox [] → AreSaid l.inbox (unsaid l.owed))
    × (HasFollowed l.fn.chief.host.endpoint (taken_of l.fn.inbox) None → AreSaid l.fn.inbox [] → WereSaid l.fn.chief.host.endpoint [] (said l.fn.inbox)
    → WereSaid l.chief.host.endpoint [] (spoken (said l.inbox) l.owed))
