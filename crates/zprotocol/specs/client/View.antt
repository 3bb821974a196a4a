-- The view of a client: its state, apart from how it is stored. A client has at most one
-- outstanding call.
use Rattle.std.specs.Prelude.{ℕ, Option, None, Some, if◌then◌else◌, nat_lt}
use Rattle.zcalls.specs.declared.call.Call.{Call}

-- The state of a client: the number of its last call, and the outstanding call with its number.
-- Then the epoch, head and tail of the chain, as the master last reported them.
pub record ClientView : Type 0 where
  pub number : ℕ
  pub outstanding : Option (ℕ × Call)
  pub epoch : ℕ
  pub head : Option ℕ
  pub tail : Option ℕ

-- The initial view of client `c`: no call yet, and the chain of servers 1 to `servers`. A number
-- that isn't below `clients` has a view without head and tail.
abbrev pub opening_client : ℕ → ℕ → ℕ → ClientView
opening_client servers clients c =
    let is_one = nat_lt c clients in
    record {
      number = 0;
      outstanding = None;
      epoch = 0;
      head = if is_one then Some 1 else None;
      tail = if is_one then Some servers else None;
    }
