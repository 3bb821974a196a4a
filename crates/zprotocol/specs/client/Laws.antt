-- Laws of the client table: it doesn't look at any machine.
use Rattle.std.specs.Prelude.{◌≡◌, List}
use Rattle.zcalls.specs.declared.call.Call.{Call}
use Rattle.zcalls.specs.declared.call.Entry.{Entry}
use Rattle.zprotocol.specs.declared.process.Process.{Process}
use Rattle.zprotocol.specs.server.Machine.{Does, replay}
use Rattle.zprotocol.specs.server.View.{Transfer, MessageOf}
use Rattle.zprotocol.specs.server.support.Homomorphism.{message_with, posts_with}
use Rattle.zprotocol.specs.client.View.{ClientView}
use Rattle.zprotocol.specs.client.Table.{ClientResult, begin_step, client_step, retry_posts}

-- the same view and reply, with the machines in the outgoing messages mapped
abbrev pub client_result_with : {M N : Type 0} → (M → N) → ClientResult (Transfer M) → ClientResult (Transfer N)
client_result_with h taken = (taken.0, posts_with h taken.1, taken.2)

-- A client does the same with a message whether the machines in messages are logs, or the states
-- that those logs lead to.
abbrev pub TableKeepsLogs : {M : Type 0} → Does M → Type 0
TableKeepsLogs does =
    (v : ClientView) (from : Process) (m : MessageOf (List Entry))
    → client_step v from (message_with (replay does) m) ≡ client_result_with (replay does) (client_step v from m)

-- the same holds of a call
abbrev pub CallKeepsLogs : {M : Type 0} → Does M → Type 0
CallKeepsLogs does = (v : ClientView) (c : Call) → begin_step v c ≡ ((begin_step {T = Transfer (List Entry)} v c).0, posts_with (replay does) (begin_step v c).1)

-- the same holds of a retry
abbrev pub RetryKeepsLogs : {M : Type 0} → Does M → Type 0
RetryKeepsLogs does = (v : ClientView) → retry_posts v ≡ posts_with (replay does) (retry_posts v)
