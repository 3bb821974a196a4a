-- The guard before a server for ZooKeeper's clients: what passes of the bytes of each connection,
-- and what is sent before it is closed. The source is the ZooKeeper Administrator's Guide
-- (`enforce.auth.enabled`). The limit on stored bytes is this project's profile.
use Rattle.std.specs.Prelude.{ℕ, ◌-◌, Bool, true, false, nat_lt, List, [], ◌++◌, length, take, replicate, Option, Some, if◌then◌else◌}
use Rattle.std.specs.FinMap.{FinMap, empty, get, insert, remove}
use Rattle.std.specs.Option.{option_map, option_map_or}
use Rattle.std.specs.Ordering.{nat_cmp}
use Rattle.zjute.specs.Frames.{Front, Whole, Partial, TooLong, next_of}
use Rattle.zguard.specs.declared.heard.Heard.{Heard}
use Rattle.zguard.specs.declared.limits.TheConstants.{MAX_KEPT}
use Rattle.zguard.specs.declared.passed.Passed.{Passed}
use Rattle.zguard.specs.declared.passed.Passed.TheVariants as code
use Rattle.zguard.specs.declared.visitor.Standing.{Standing}
use Rattle.zguard.specs.declared.visitor.Standing.TheVariants.{Silent, Stranger, Admitted, Refused}
use Rattle.zguard.specs.Judging.{VerdictView, Waits, Admits, Refuses, judged}

-- a connection: its standing, and bytes. They are those of a frame that isn't whole yet, or the
-- answer to be sent before its close
pub record VisitorView : Type 0 where
  pub standing : Standing
  pub bytes : List ℕ

-- the connections, each under its number
abbrev pub VisitorRows : Type 0
VisitorRows = FinMap nat_cmp VisitorView

-- the logins, and the connections
pub record GuardView : Type 0 where
  pub logins : List (List ℕ)
  pub visitors : VisitorRows

-- a guard without connections
abbrev pub guard_of : List (List ℕ) → GuardView
guard_of logins = record { logins = logins; visitors = empty }

-- a connection of which nothing came yet
abbrev pub new_visitor : VisitorView
new_visitor = record { standing = Silent; bytes = [] }

-- ---- the connections

abbrev pub standing_at : VisitorRows → ℕ → Option Standing
standing_at rows c = option_map (λ v. v.standing) (get rows c)

-- the bytes of a connection; none if there is no such one
abbrev pub bytes_at : VisitorRows → ℕ → List ℕ
bytes_at rows c = option_map_or (λ v. v.bytes) (get rows c) []

-- the connections with one changed, if it is there
abbrev pub changed : (VisitorView → VisitorView) → VisitorRows → ℕ → VisitorRows
changed to rows c = option_map_or (λ v. insert rows c (to v)) (get rows c) rows

abbrev pub without_bytes : VisitorRows → ℕ → VisitorRows
without_bytes rows c = changed (λ v. record v { bytes = [] }) rows c

abbrev pub with_visitor : VisitorRows → ℕ → Standing → List ℕ → VisitorRows
with_visitor rows c standing bytes = changed (λ v. record { standing = standing; bytes = bytes }) rows c

-- ---- bytes of one connection

-- what passes, and the connection after it
pub record HeardView : Type 0 where
  pub passed : List ℕ
  pub standing : Standing
  pub bytes : List ℕ

-- the same of the code, without its address in memory
abbrev pub heard_of : Heard → HeardView
heard_of heard = record { passed = heard.passed.items; standing = heard.standing; bytes = heard.bytes.items }

-- a length that no frame has: the server closes a connection on which it comes
abbrev pub no_frame : List ℕ
no_frame = replicate 4 255

-- the server closes the connection after these bytes, and this answer is sent before that
abbrev pub refused : List ℕ → List ℕ → HeardView
refused passed answer = record { passed = passed ++ no_frame; standing = Refused; bytes = answer }

-- bytes behind the connect request, by their verdict: from the frame that gives a login on all
-- passes
abbrev pub heard_by : VerdictView → List ℕ → List ℕ → HeardView
heard_by Waits passed came = record { passed = passed; standing = Stranger; bytes = came }
heard_by Admits passed came = record { passed = passed ++ came; standing = Admitted; bytes = [] }
heard_by (Refuses answer) passed came = refused passed answer

abbrev pub stranger_heard : List (List ℕ) → List ℕ → List ℕ → HeardView
stranger_heard logins passed came = heard_by (judged logins came) passed came

-- the first frame as it came: what came before the rest
abbrev pub before_rest : List ℕ → List ℕ → List ℕ
before_rest came rest = take (length came - length rest) came

-- the first bytes: the connect request passes. Bytes that begin with no frame pass as they are, and
-- nothing after them: the server answers a four letter word, or closes the connection
abbrev pub front_heard : List (List ℕ) → List ℕ → Front → HeardView
front_heard logins came (Whole greeting more) = stranger_heard logins (before_rest came more) more
front_heard logins came Partial =
    if nat_lt MAX_KEPT (length came) then refused [] [] else record { passed = []; standing = Silent; bytes = came }
front_heard logins came TooLong = record { passed = came; standing = Refused; bytes = [] }

abbrev pub greeting_heard : List (List ℕ) → List ℕ → HeardView
greeting_heard logins came = front_heard logins came (next_of came)

-- bytes of a connection with this standing and these bytes before them
abbrev pub heard_in : Standing → List (List ℕ) → List ℕ → List ℕ → HeardView
heard_in Silent logins before bytes = greeting_heard logins (before ++ bytes)
heard_in Stranger logins before bytes = stranger_heard logins [] (before ++ bytes)
heard_in Admitted logins before bytes = record { passed = bytes; standing = Admitted; bytes = before }
heard_in Refused logins before bytes = record { passed = []; standing = Refused; bytes = before }

abbrev pub heard : List (List ℕ) → VisitorView → List ℕ → HeardView
heard logins v bytes = heard_in v.standing logins v.bytes bytes

-- ---- the guard

-- a connection was opened, or ended
abbrev pub opened : ℕ → GuardView → GuardView
opened c g = record g { visitors = insert g.visitors c new_visitor }

abbrev pub ended : ℕ → GuardView → GuardView
ended c g = record g { visitors = remove g.visitors c }

-- what passes, and the guard after it
pub record CameView : Type 0 where
  pub passed : List ℕ
  pub guard : GuardView

abbrev pub with_heard_view : ℕ → HeardView → GuardView → GuardView
with_heard_view c h g = record g { visitors = with_visitor g.visitors c h.standing h.bytes }

-- the same of the code
abbrev pub with_heard : ℕ → Heard → GuardView → GuardView
with_heard c h g = with_heard_view c (heard_of h) g

-- bytes came on a connection; they are dropped unless it is there
abbrev pub came : ℕ → List ℕ → GuardView → CameView
came c bytes g =
    option_map_or (λ v. let h = heard g.logins v bytes in record { passed = h.passed; guard = with_heard_view c h g })
    (get g.visitors c) (record { passed = []; guard = g })

-- the bytes of a connection that weren't judged yet, and those that came
abbrev pub unread : ℕ → List ℕ → GuardView → List ℕ
unread c bytes g = bytes_at g.visitors c ++ bytes

-- the code's result, as the bytes that pass of those that came
abbrev pub bytes_passed : List ℕ → Passed → List ℕ
bytes_passed bytes code.All = bytes
bytes_passed bytes (code.These passed) = passed.items

-- ---- the close of a connection

abbrev pub is_refused : Option Standing → Bool
is_refused (Some Refused) = true
is_refused other = false

-- its close has an answer before it, which may be none
abbrev pub refuses : GuardView → ℕ → Bool
refuses g c = is_refused (standing_at g.visitors c)

abbrev pub answer_at : GuardView → ℕ → List ℕ
answer_at g c = bytes_at g.visitors c

-- the answer was taken
abbrev pub answered : ℕ → GuardView → GuardView
answered c g = record g { visitors = without_bytes g.visitors c }
