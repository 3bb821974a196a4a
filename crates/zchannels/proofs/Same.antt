-- An end after more calls.
use Rattle.std.proofs.Common.{◌∙◌}
use Rattle.zchannels.specs.declared.console.Inbox.{Inbox}
use Rattle.zchannels.specs.Console.{IsSameInbox}

pub same_inbox : (a b c : Inbox) → IsSameInbox a b → IsSameInbox b c → IsSameInbox a c
same_inbox a b c first second = (second.0 ∙ first.0, second.1 ∙ first.1)
