-- Laws of the server table, over all views and messages.
use Rattle.std.specs.Prelude.{◌≡◌, ℕ, Bool, true, false, Option}
use Rattle.std.specs.List.{list_any}
use Rattle.ztree.specs.Tree.{Tree}
use Rattle.zcalls.specs.declared.call.Entry.{Entry}
use Rattle.zcalls.specs.declared.call.Update.{Update}
use Rattle.zcalls.specs.declared.reply.Reply.{Reply}
use Rattle.zcalls.specs.Cached.{CachedState, nothing_cached}
use Rattle.zprotocol.specs.declared.message.Message.TheVariants as message
use Rattle.zprotocol.specs.declared.process.Process.{Process}
use Rattle.zprotocol.specs.server.Machine.{Does, cached_tree, cached_tree_from}
use Rattle.zprotocol.specs.server.View.{ServerView, MessageOf, is_tail}
use Rattle.zprotocol.specs.server.Table.{server_step}

-- the message is the reply to a call
abbrev pub is_answer : {M : Type 0} → MessageOf M → Bool
is_answer (message.Answer number reply) = true
is_answer m = false

-- only a tail sends replies, whatever message it handles
abbrev pub OnlyTailsAnswer : {M : Type 0} → Does M → Type 0
OnlyTailsAnswer {M} does =
    (v : ServerView M) (from : Process) (m : MessageOf M)
    → list_any (λ post. is_answer post.1) (server_step does v from m).1 ≡ true → is_tail v ≡ true

-- a client's first call as an entry
abbrev pub first_entry : ℕ → Update → Entry
first_entry client update = record { client = client; number = 1; update = update }

-- the tree and the reply after a client's first update, where no reply is cached
abbrev pub first_step : Tree → ℕ → Update → Tree × Option Reply
first_step t client update =
    let did = cached_tree.apply (nothing_cached t) (first_entry client update) in
    (did.0.plain, did.1)

-- what a server does with a message is the same whatever tree its machine began with
abbrev pub TableForgetsTheStart : Type 0
TableForgetsTheStart =
    (t : Tree) (v : ServerView (CachedState Tree)) (from : Process) (m : MessageOf (CachedState Tree))
    → server_step (cached_tree_from t) v from m ≡ server_step cached_tree v from m
