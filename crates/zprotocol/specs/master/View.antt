-- The view of the master: its state, apart from how it is stored.
use Rattle.std.specs.Prelude.{ℕ, Bool, false, not, Option, None, Some, List, [], ◌∷◌, ◌==◌, nat_lt, if◌then◌else◌, map, filter}
use Rattle.std.specs.List.{list_any, range_with_len, last_or}
use Rattle.zprotocol.specs.server.View.{Neighbour}

-- The state of the master: the chain from the head down, each member with the epoch of its pair
-- with its predecessor. Then the member without state, and the member that was ordered to leave,
-- until its Gone arrives. Then the server numbers ever used, in rising order; the last epoch given;
-- and the number of clients, which are numbered from 0.
pub record MasterView : Type 0 where
  pub chain : List Neighbour
  pub joining : Option ℕ
  pub retiring : Option ℕ
  pub used : List ℕ
  pub epoch : ℕ
  pub clients : ℕ

-- the initial view: the chain of servers 1 to `servers`, with epoch 0 for all pairs
abbrev pub opening_master : ℕ → ℕ → MasterView
opening_master servers clients =
    record {
      chain = map (λ s. (s, 0)) (range_with_len 1 servers);
      joining = None;
      retiring = None;
      used = range_with_len 1 servers;
      epoch = 0;
      clients = clients;
    }

-- the number is in the list
abbrev pub is_among : ℕ → List ℕ → Bool
is_among s numbers = list_any (λ number. number == s) numbers

-- a rising list with this number inserted, once
abbrev pub with_number : ℕ → List ℕ → List ℕ
with_number s [] = s ∷ []
with_number s (number ∷ numbers) =
    if number == s then number ∷ numbers else
    if nat_lt s number then s ∷ number ∷ numbers else
    number ∷ with_number s numbers

-- the members of the chain, from the head down
abbrev pub members : MasterView → List ℕ
members v = map (λ member. member.0) v.chain

-- this member has no state yet
abbrev pub is_joining : MasterView → ℕ → Bool
is_joining v s = elim v.joining [ None ↦ false | Some joining ↦ joining == s ]

-- this member was ordered to leave
abbrev pub is_retiring : MasterView → ℕ → Bool
is_retiring v s = elim v.retiring [ None ↦ false | Some retiring ↦ retiring == s ]

-- the first of a list, if any
abbrev pub first_of : List ℕ → Option ℕ
first_of [] = None
first_of (s ∷ rest) = Some s

-- the head in the configuration sent to clients: the first member of the chain
abbrev pub head_of : MasterView → Option ℕ
head_of v = first_of (members v)

-- the tail in the configuration sent to clients: the last member that isn't joining; if there is
-- none, the first member
abbrev pub tail_of : MasterView → Option ℕ
tail_of v = last_or (head_of v) (filter (λ s. not (is_joining v s)) (members v))
