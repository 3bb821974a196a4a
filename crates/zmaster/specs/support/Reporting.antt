-- The configuration messages to the first clients, of those to all.
use Rattle.std.specs.Prelude.{ℕ, List, map}
use Rattle.std.specs.List.{range_with_len}
use Rattle.zprotocol.specs.declared.message.Message.TheVariants as message
use Rattle.zprotocol.specs.declared.process.Process.TheVariants.{Client}
use Rattle.zprotocol.specs.server.View.{PostOf}
use Rattle.zprotocol.specs.master.View.{MasterView, head_of, tail_of}

-- the epoch, the head and the tail, sent to the first n clients, by number
abbrev pub config_posts_to : {T : Type 0} → MasterView → ℕ → List (PostOf T)
config_posts_to v count = map (λ c. (Client c, message.Config v.epoch (head_of v) (tail_of v))) (range_with_len 0 count)
