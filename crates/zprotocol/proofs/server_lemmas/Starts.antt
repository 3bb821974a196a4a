-- What a server does with a message doesn't hang on where its machine starts.
use Rattle.std.proofs.Common.{◌≡◌, refl}
use Rattle.zprotocol.specs.declared.message.Message.TheVariants as message
use Rattle.zprotocol.specs.declared.process.Process.{Process}
use Rattle.zprotocol.specs.declared.process.Process.TheVariants.{Server, Client}
use Rattle.zprotocol.specs.server.Machine.{Does}
use Rattle.zprotocol.specs.server.View.{ServerView, MessageOf}
use Rattle.zprotocol.specs.server.Table.{accept_result, submit_row, query_row, update_row, server_step}

-- another start, and the same table
pub same_table : {M : Type 0} (does : Does M) (start : M) (v : ServerView M) (from : Process) (m : MessageOf M)
    → server_step (record does { start = start }) v from m ≡ server_step does v from m
unfolding server_step submit_row query_row update_row accept_result
same_table does start v (Client c) (message.Submit number update) = refl
same_table does start v (Client c) (message.Query number query) = refl
same_table does start v (Server p) (message.Update epoch n entry) = refl
same_table does start v from m = refl
