-- Outgoing messages.
use Rattle.std.specs.Prelude.{◌≡◌, ℕ, ◌+◌, List, ◌++◌, length}
use Rattle.zprotocol.specs.server.View.{PostOf}

-- the outgoing messages, each with its receiver, and how many more fit without allocating
pub record OutView (T : Type 0) : Type 0 where
  pub posts : List (PostOf T)
  pub room : ℕ

-- these messages were appended to the outgoing ones
abbrev pub Puts : {T : Type 0} → OutView T → OutView T → List (PostOf T) → Type 0
Puts old new posts = new.posts ≡ old.posts ++ posts

-- these messages were appended, and each used one of the reserved slots
pub record PutsInRoom {T : Type 0} (old new : OutView T) (posts : List (PostOf T)) : Type 0 where
  pub puts : Puts old new posts
  pub room : new.room + length posts ≡ old.room
