-- Laws of the guard, of whatever bytes come on a connection, in whatever pieces.
use Rattle.std.specs.Prelude.{◌≡◌, ◌≢◌, ◌⊎◌, ℕ, true, List, [], ◌∷◌, ◌++◌, Ok}
use Rattle.std.specs.List.{concat}
use Rattle.zcodec.specs.Readers.{whole}
use Rattle.zjute.specs.Asking.{request}
use Rattle.zjute.specs.Frames.{Whole, TooLong, next_of}
use Rattle.zjute.specs.declared.request.Asked.TheVariants as asked
use Rattle.zjute.specs.declared.request.Auth.{Auth}
use Rattle.zjute.specs.declared.request.Request.{Request}
use Rattle.zguard.specs.declared.visitor.Standing.TheVariants.{Admitted}
use Rattle.zguard.specs.Judging.{gives_login}
use Rattle.zguard.specs.Guarding.{HeardView, VisitorView, before_rest, heard, new_visitor, no_frame}

-- the frame is an auth of the scheme `digest`, with the `user:password` of one of these logins
pub record IsLogin (logins : List (List ℕ)) (bytes : List ℕ) : Type 0 where
  pub asked_for : Request
  pub auth : Auth
  pub reads : whole request bytes ≡ Ok asked_for
  pub is_auth : asked_for.asked ≡ asked.Auth auth
  pub gives : gives_login logins auth ≡ true

-- bytes gave a login: the second of their frames is one
pub record GaveLogin (logins : List (List ℕ)) (came : List ℕ) : Type 0 where
  pub greeting : List ℕ
  pub more : List ℕ
  pub login : List ℕ
  pub rest : List ℕ
  pub first : next_of came ≡ Whole greeting more
  pub second : next_of more ≡ Whole login rest
  pub is_login : IsLogin logins login

-- the connection after more bytes
abbrev pub visitor_of : HeardView → VisitorView
visitor_of h = record { standing = h.standing; bytes = h.bytes }

-- the connection after bytes that came in these pieces, and all that passed of them
abbrev pub after_all : List (List ℕ) → VisitorView → List (List ℕ) → VisitorView
after_all logins v [] = v
after_all logins v (piece ∷ pieces) = after_all logins (visitor_of (heard logins v piece)) pieces

abbrev pub passed_all : List (List ℕ) → VisitorView → List (List ℕ) → List ℕ
passed_all logins v [] = []
passed_all logins v (piece ∷ pieces) =
    let h = heard logins v piece in
    h.passed ++ passed_all logins (visitor_of h) pieces

-- a connection is admitted only if it gave a login
abbrev pub WhoIsAdmittedGaveALogin : Type 0
WhoIsAdmittedGaveALogin =
    (logins pieces : List (List ℕ)) → (after_all logins new_visitor pieces).standing ≡ Admitted
    → GaveLogin logins (concat pieces)

-- and then all passed
abbrev pub AllPassesOfTheAdmitted : Type 0
AllPassesOfTheAdmitted =
    (logins pieces : List (List ℕ)) → (after_all logins new_visitor pieces).standing ≡ Admitted
    → passed_all logins new_visitor pieces ≡ concat pieces

-- what passes of a stranger: nothing, its first frame, or bytes that begin with no frame. A length
-- that no frame has may follow
abbrev pub IsOfStranger : List ℕ → List ℕ → Type 0
IsOfStranger came passed =
    (end : List ℕ) × ((end ≡ []) ⊎ (end ≡ no_frame))
    × ((passed ≡ end) ⊎ ((greeting more : List ℕ) × (next_of came ≡ Whole greeting more) × (passed ≡ before_rest came more ++ end)))

abbrev pub StrangersPassTheirFirstFrame : Type 0
StrangersPassTheirFirstFrame =
    (logins pieces : List (List ℕ)) → (after_all logins new_visitor pieces).standing ≢ Admitted
    → IsOfStranger (concat pieces) (passed_all logins new_visitor pieces)
    ⊎ (next_of (passed_all logins new_visitor pieces) ≡ TooLong)
