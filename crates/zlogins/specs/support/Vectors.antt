-- Logins that other programs compute: Python's hashlib and base64.
use Rattle.std.specs.Prelude.{ℕ, List, codes}

-- the logins of `ann:secret` and of `bob:word`
abbrev pub ann : List ℕ
ann = codes "ann:7RJfAeIvrl4zdj6sS2fXrQHDvHM="

abbrev pub bob : List ℕ
bob = codes "bob:HJOLKaCJkAQC5uYhylpA+72TQjU="
