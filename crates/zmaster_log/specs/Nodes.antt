-- Nodes: the machines that servers run on, by name.
use Rattle.std.specs.Prelude.{◌≡◌, ℕ, Bool, true, ◌&&◌, ◌||◌, not, ◌==◌, nat_le, List, length}
use Rattle.std.specs.List.{list_any}
use Rattle.zmaster_log.specs.declared.limits.TheConstants.{MAX_NODE_NAME}

-- a lower-case letter, a digit or a hyphen
abbrev pub is_name_byte : ℕ → Bool
is_name_byte byte =
    (nat_le 97 byte && nat_le byte 122) || (nat_le 48 byte && nat_le byte 57) || byte == 45

-- some byte isn't one of these
abbrev pub has_bad_byte : List ℕ → Bool
has_bad_byte bytes = list_any (λ byte. not (is_name_byte byte)) bytes

-- 1 to `MAX_NODE_NAME` of these
abbrev pub is_node_name : List ℕ → Bool
is_node_name bytes = not (length bytes == 0) && nat_le (length bytes) MAX_NODE_NAME && not (has_bad_byte bytes)

-- the bytes are the name of a node
abbrev pub IsNodeName : List ℕ → Type 0
IsNodeName bytes = is_node_name bytes ≡ true
