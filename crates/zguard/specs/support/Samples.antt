-- Samples for the worked examples.
use Rattle.std.specs.Prelude.{ℕ, List, [], ◌∷◌, ◌++◌, codes}

-- a connect request, of which the guard reads the length alone
abbrev pub greeting : List ℕ
greeting = 1 ∷ 2 ∷ 3 ∷ []

abbrev pub greeting_frame : List ℕ
greeting_frame = 0 ∷ 0 ∷ 0 ∷ 3 ∷ greeting

-- the login of `ann:secret`
abbrev pub ann : List ℕ
ann = codes "ann:7RJfAeIvrl4zdj6sS2fXrQHDvHM="

-- an auth under the xid -4, with the scheme `digest` and these ten bytes
abbrev pub auth_with : List ℕ → List ℕ
auth_with given =
    255 ∷ 255 ∷ 255 ∷ 252 ∷ 0 ∷ 0 ∷ 0 ∷ 100 ∷ 0 ∷ 0 ∷ 0 ∷ 0 ∷ 0 ∷ 0 ∷ 0 ∷ 6
    ∷ codes "digest" ++ 0 ∷ 0 ∷ 0 ∷ 10 ∷ given

abbrev pub auth_frame_with : List ℕ → List ℕ
auth_frame_with given = 0 ∷ 0 ∷ 0 ∷ 36 ∷ auth_with given

-- a ping, under the xid -2
abbrev pub ping : List ℕ
ping = 255 ∷ 255 ∷ 255 ∷ 254 ∷ 0 ∷ 0 ∷ 0 ∷ 11 ∷ []

abbrev pub ping_frame : List ℕ
ping_frame = 0 ∷ 0 ∷ 0 ∷ 8 ∷ ping

-- the answer to the request with this xid: a header with zxid 0 and this code
abbrev pub answer_with : List ℕ → List ℕ → List ℕ
answer_with xid code = 0 ∷ 0 ∷ 0 ∷ 16 ∷ xid ++ 0 ∷ 0 ∷ 0 ∷ 0 ∷ 0 ∷ 0 ∷ 0 ∷ 0 ∷ code
