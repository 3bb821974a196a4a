-- Messages that are put one after another.
use Rattle.std.proofs.Common.{◌≡◌, ◌+◌, List, [], ◌∷◌, ◌++◌, refl, ap, ◌∙◌, arith, append_assoc, length-append}
use Rattle.zprotocol.specs.declared.message.Message.{Message}
use Rattle.zprotocol.specs.declared.process.Process.{Process}
use Rattle.zprotocol.specs.server.View.{PostOf}
use Rattle.zprotocol.specs.Posts.{OutView, PutsInRoom}

module _ {T : Type 0} where
  -- nothing is put
  pub put_none : (old : OutView T) → PutsInRoom old old []
  put_none old = record { puts = append_nil old.posts; room = omega arith }
    where
      append_nil : (posts : List (PostOf T)) → posts ≡ posts ++ []
      append_nil [] = refl
      append_nil (post ∷ posts) = ap (λ ps. post ∷ ps) (append_nil posts)

  -- one message is put
  pub put_one : (old new : OutView T) (receiver : Process) (m : Message T) → new.posts ≡ old.posts ++ (receiver, m) ∷ [] → new.room + 1 ≡ old.room
      → PutsInRoom old new ((receiver, m) ∷ [])
  put_one old new receiver m put room = record { puts = put; room = room }

  -- what is put, and then more
  pub put_more : (old mid new : OutView T) (ps qs : List (PostOf T)) → PutsInRoom old mid ps → PutsInRoom mid new qs → PutsInRoom old new (ps ++ qs)
  put_more old mid new ps qs first then = record {
    puts = then.puts ∙ ap (λ (posts : List (PostOf T)). posts ++ qs) first.puts ∙ append_assoc old.posts ps qs;
    room = omega (arith, first.room, then.room, length-append ps qs);
  }
