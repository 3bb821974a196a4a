-- How many servers a script may have.
use Rattle.std.specs.Prelude.{ℕ, ◌≤◌}
use Rattle.zprotocol.specs.declared.limits.TheConstants.{MAX_SERVERS}

-- A count of servers that a script may have.
abbrev pub IsServers : ℕ → Type 0
IsServers count = (1 ≤ count) × (count ≤ MAX_SERVERS)
