-- The calls of a frame act for the session of its connection.
use Rattle.std.proofs.Common.{◌≡◌, ℕ, List, Option, Result, Ok, Err, inl, inr, ap, subst, refl}
use Rattle.std.specs.Prelude.{◌⊎◌, None, Some}
use Rattle.std.specs.List.{AllByRecursion}
use Rattle.zcodec.specs.declared.fault.Fault.{Fault}
use Rattle.zcalls.specs.declared.call.Call.{Call}
use Rattle.zjute.specs.declared.request.Request.{Request}
use Rattle.zrequests.specs.Asking.{Meaning}
use Rattle.zrequests.specs.Laws.{CallIsFor}
use Rattle.zrequests.specs.Requests.{calls_in}
use Rattle.zrequests.specs.declared.fault.Unasked.TheVariants.{Refused, Memory}
use Rattle.zrequests.proofs.SessionCalls.{calls_are_for_their_session}
use Rattle.zresponses.specs.declared.answer.Answer.{Answer}
use Rattle.zconnections.specs.Tables.{closed}
use Rattle.zfront.specs.Front.{FrontView, with_tables}
use Rattle.zfront.specs.Requests.{touched_by, Makes, Acts, ActsOr, Requests, as_named, request_in}
use Rattle.zfront.specs.Walks.{walked}
use Rattle.zfront_laws.specs.Laws.{NoRequestMakesNoCall, RequestsAreForTheirSession}

pub no_request_makes_no_call : NoRequestMakesNoCall
no_request_makes_no_call bytes session c fault old new no_request has =
    let is : new ≡ with_tables (closed c old.tables) old = subst (λ read. Requests (as_named old.clock.base read) session c old new) no_request has in
    (is, ap (λ (v : FrontView). v.tree) is)

-- what a frame does that was read so
abbrev Outcome : Result Request Fault → ℕ → ℕ → FrontView → FrontView → Type 0
Outcome read session c old new =
    (new.tree ≡ old.tree)
    ⊎ ((asked : Request) × (calls : List Call) × (read ≡ Ok asked) × AllByRecursion (CallIsFor session) calls
    × Makes calls c asked (touched_by session old) new)

acted : (meaning : Meaning (List Call)) (session c : ℕ) (asked : Request) (old new : FrontView)
    → ((calls : List Call) → meaning ≡ Ok calls → AllByRecursion (CallIsFor session) calls) → Acts meaning c asked (touched_by session old) new
    → Outcome (Ok asked) session c old new
acted (Err (Refused code)) session c asked old new for_it is = inl (ap (λ (v : FrontView). v.tree) is)
acted (Err Memory) session c asked old new for_it is = absurd is
acted (Ok calls) session c asked old new for_it has = inr (asked, calls, refl, for_it calls refl, has)

acted_or : (walk : Option Answer) (meaning : Meaning (List Call)) (session c : ℕ) (asked : Request) (old new : FrontView)
    → ((calls : List Call) → meaning ≡ Ok calls → AllByRecursion (CallIsFor session) calls) → ActsOr walk meaning c asked (touched_by session old) new
    → Outcome (Ok asked) session c old new
acted_or (Some answer) meaning session c asked old new for_it is = inl (ap (λ (v : FrontView). v.tree) is)
acted_or None meaning session c asked old new for_it has = acted meaning session c asked old new for_it has

by_reading : (read : Result Request Fault) (session c : ℕ) (old new : FrontView) → Requests read session c old new → Outcome read session c old new
by_reading (Err fault) session c old new is = inl (ap (λ (v : FrontView). v.tree) is)
by_reading (Ok asked) session c old new has =
    acted_or (walked session asked.asked old.tree) (calls_in old.clock.terms session asked.asked) session c asked old new
    (calls_are_for_their_session old.clock.terms session asked.asked) has

pub requests_are_for_their_session : RequestsAreForTheirSession
requests_are_for_their_session bytes session c old new has = by_reading (request_in old.clock.base bytes) session c old new has
