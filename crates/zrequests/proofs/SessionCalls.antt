-- A request's calls act for the session of its connection alone.
use Rattle.std.proofs.Common.{◌≡◌, ℕ, List, [], ◌∷◌, Option, Ok, Err, refl}
use Rattle.std.specs.Prelude.{ℤ, pos, nat_lt, length, Some, None}
use Rattle.std.specs.List.{AllByRecursion}
use Rattle.std.specs.Ordering.{int_eq}
use Rattle.ztree.specs.Tree.{Path}
use Rattle.zcalls.specs.declared.call.Kind.{Kind}
use Rattle.zcalls.specs.declared.call.Lifetime.TheVariants.{Persistent, WithTtl, Ephemeral, Container}
use Rattle.zcalls.specs.Part.{named, sequential}
use Rattle.zcalls.specs.declared.call.Create.{Create}
use Rattle.zcalls.specs.declared.call.Part.{Part}
use Rattle.zcalls.specs.declared.call.Part.TheVariants as part
use Rattle.zcalls.specs.declared.call.Update.TheVariants as act
use Rattle.zcalls.specs.declared.call.Query.{Query as Question}
use Rattle.zcalls.specs.declared.call.Query.TheVariants.{GetData, Exists, GetChildren}
use Rattle.zcalls.specs.declared.call.Call.{Call}
use Rattle.zcalls.specs.declared.call.Call.TheVariants.{Update, Query}
use Rattle.zjute.specs.declared.code.Code.TheVariants.{BadArguments, InvalidAcl, MarshallingError, AuthFailed}
use Rattle.zjute.specs.declared.request.Asked.TheVariants as asked
use Rattle.zjute.specs.declared.request.CreateRequest.{CreateRequest as AskedCreate}
use Rattle.zjute.specs.declared.request.CreateTtl.{CreateTtl}
use Rattle.zjute.specs.declared.part.PartRequest.{PartRequest as AskedPart}
use Rattle.zjute.specs.declared.part.PartRequest.TheVariants as of_multi
use Rattle.zjute.specs.declared.part.LookPart.{LookPart}
use Rattle.zjute.specs.declared.part.LookPart.TheVariants as of_look
use Rattle.zjute.specs.WatchNumbers.{mode_of, type_of}
use Rattle.zrequests.specs.declared.fault.Unasked.TheVariants.{Refused}
use Rattle.zrequests.specs.declared.limits.TheConstants.{MAX_PATHS}
use Rattle.zrequests.specs.Terms.{Terms}
use Rattle.zrequests.specs.Asking.{Meaning, then_means, each_in, path_in, data_in, has_open_acl, kind_in, ttl_in, timed_kind_in}
use Rattle.zrequests.specs.Requests.{node_in, create_in, timed_create_in, delete_in, check_in, set_in, set_acl_in, part_in, one, one_of_parts, or_never, parts_in, multi_in, query_in, look_in, looks_in, watch_in, watched_in, all_watched_in, numbered_in, look_alone, create_alone}
use Rattle.zrequests.proofs.Meanings.{choice, done, each_for, never, behind, through}
use Rattle.zrequests.specs.Laws.{IsForSession, PartIsFor, CallIsFor, CallsAreForTheirSession}

module _ (session : ℕ) where
  abbrev Calls : List Call → Type 0
  Calls = AllByRecursion (CallIsFor session)

  abbrev Made : Create → Type 0
  Made create = IsForSession session create.kind.lifetime

  kind_for : (flags : ℤ) (kind : Kind) → kind_in session flags ≡ Ok kind → IsForSession session kind.lifetime
  kind_for flags =
      let P = λ (k : Kind). IsForSession session k.lifetime in
      choice P (int_eq flags (pos 0)) (Ok (named Persistent)) _ (done P (named Persistent) tt)
      (choice P (int_eq flags (pos 1)) (Ok (named (Ephemeral session))) _ (done P (named (Ephemeral session)) refl)
      (choice P (int_eq flags (pos 2)) (Ok (sequential Persistent)) _ (done P (sequential Persistent) tt)
      (choice P (int_eq flags (pos 3)) (Ok (sequential (Ephemeral session))) _ (done P (sequential (Ephemeral session)) refl)
      (choice P (int_eq flags (pos 4)) (Ok (named Container)) (Err (Refused BadArguments)) (done P (named Container) tt) (never P (Refused BadArguments))))))

  timed_for : (ticks : ℕ) (flags : ℤ) (kind : Kind) → timed_kind_in ticks flags ≡ Ok kind → IsForSession session kind.lifetime
  timed_for ticks flags =
      let P = λ (k : Kind). IsForSession session k.lifetime in
      choice P (int_eq flags (pos 5)) (Ok (named (WithTtl ticks))) _ (done P (named (WithTtl ticks)) tt)
      (choice P (int_eq flags (pos 6)) (Ok (sequential (WithTtl ticks))) (Err (Refused BadArguments)) (done P (sequential (WithTtl ticks)) tt) (never P (Refused BadArguments)))

  node_for : (terms : Terms) (kind : Kind) (create : AskedCreate) → IsForSession session kind.lifetime → (made : Create) → node_in terms kind create ≡ Ok made → Made made
  node_for terms kind create is =
      behind Made (path_in create.path) _
      (λ path. choice Made (has_open_acl create.acls) (then_means (data_in terms create.bytes) (λ bytes. Ok (record { path = path; kind = kind; bytes = bytes }))) (Err (Refused InvalidAcl))
      (behind Made (data_in terms create.bytes) (λ bytes. Ok (record { path = path; kind = kind; bytes = bytes })) (λ bytes. done Made (record { path = path; kind = kind; bytes = bytes }) is))
      (never Made (Refused InvalidAcl)))

  create_for : (terms : Terms) (create : AskedCreate) (made : Create) → create_in terms session create ≡ Ok made → Made made
  create_for terms create = through (λ (k : Kind). IsForSession session k.lifetime) Made (kind_in session create.flags) (λ kind. node_in terms kind create) (kind_for create.flags) (λ kind. node_for terms kind create)

  timed_create_for : (terms : Terms) (timed : CreateTtl) (made : Create) → timed_create_in terms timed ≡ Ok made → Made made
  timed_create_for terms timed =
      behind Made (ttl_in terms.tick timed.ttl) (λ ticks. then_means (timed_kind_in ticks timed.create.flags) (λ kind. node_in terms kind timed.create))
      (λ ticks. through (λ (k : Kind). IsForSession session k.lifetime) Made (timed_kind_in ticks timed.create.flags) (λ kind. node_in terms kind timed.create) (timed_for ticks timed.create.flags) (λ kind. node_for terms kind timed.create))

  made_part : (m : Meaning Create) → ((made : Create) → m ≡ Ok made → Made made) → (p : Part) → then_means m (λ create. Ok (part.Create create)) ≡ Ok p → PartIsFor session p
  made_part m for = through Made (PartIsFor session) m (λ create. Ok (part.Create create)) for (λ create is. done (PartIsFor session) (part.Create create) is)

  part_for : (terms : Terms) (asked : AskedPart) (p : Part) → part_in terms session asked ≡ Ok p → PartIsFor session p
  part_for terms (of_multi.Create create) = made_part (create_in terms session create) (create_for terms create)
  part_for terms (of_multi.Create2 create) = made_part (create_in terms session create) (create_for terms create)
  part_for terms (of_multi.CreateTtl timed) = made_part (timed_create_in terms timed) (timed_create_for terms timed)
  part_for terms (of_multi.CreateContainer create) = made_part (create_in terms session create) (create_for terms create)
  part_for terms (of_multi.Delete at) = behind (PartIsFor session) (delete_in at) (λ delete. Ok (part.Delete delete)) (λ delete. done (PartIsFor session) (part.Delete delete) tt)
  part_for terms (of_multi.SetData set) = behind (PartIsFor session) (set_in terms set) (λ set. Ok (part.SetData set)) (λ set. done (PartIsFor session) (part.SetData set) tt)
  part_for terms (of_multi.Check at) = behind (PartIsFor session) (check_in at) (λ check. Ok (part.Check check)) (λ check. done (PartIsFor session) (part.Check check) tt)

  parts_for : (terms : Terms) (parts : List AskedPart) → AllByRecursion (PartIsFor session) (parts_in terms session parts)
  parts_for terms [] = tt
  parts_for terms (asked ∷ more) = at (part_in terms session asked) (part_for terms asked) (parts_for terms more)
    where
      at : (m : Meaning Part) → ((p : Part) → m ≡ Ok p → PartIsFor session p) → AllByRecursion (PartIsFor session) (parts_in terms session more)
          → AllByRecursion (PartIsFor session) (or_never m (parts_in terms session more))
      at (Ok p) for are = (for p refl, are)
      at (Err why) for are = (tt, tt)

  one_for : (call : Call) → CallIsFor session call → (calls : List Call) → one call ≡ Ok calls → Calls calls
  one_for call is = done Calls (call ∷ []) (is, tt)

  query_for : (query : Path → Question) (path : Option (List ℕ)) (call : Call) → query_in query path ≡ Ok call → CallIsFor session call
  query_for query path = behind (CallIsFor session) (path_in path) (λ path. Ok (Query (query path))) (λ path. done (CallIsFor session) (Query (query path)) tt)

  look_for : (look : LookPart) (call : Call) → look_in look ≡ Ok call → CallIsFor session call
  look_for (of_look.GetData asked) = query_for GetData asked.path
  look_for (of_look.GetChildren asked) = query_for GetChildren asked.path

  alone_for : (query : Path → Question) (path : Option (List ℕ)) (calls : List Call) → look_alone query path ≡ Ok calls → Calls calls
  alone_for query path = through (CallIsFor session) Calls (query_in query path) one (query_for query path) one_for

  made_for : (m : Meaning Create) → ((made : Create) → m ≡ Ok made → Made made) → (calls : List Call) → create_alone m ≡ Ok calls → Calls calls
  made_for m for = through Made Calls m (λ create. one (Update (act.Create create))) for (λ create is. one_for (Update (act.Create create)) is)

  multi_for : (terms : Terms) (parts : List AskedPart) (calls : List Call) → multi_in terms session parts ≡ Ok calls → Calls calls
  multi_for terms [] = done Calls [] tt
  multi_for terms (first ∷ parts) =
      let all = parts_in terms session (first ∷ parts) in
      choice Calls (nat_lt terms.parts (length (first ∷ parts))) (Err (Refused BadArguments)) (one_of_parts all)
      (never Calls (Refused BadArguments)) (one_for (Update (act.Multi all)) (parts_for terms (first ∷ parts)))

  looks_for : (terms : Terms) (looks : List LookPart) (calls : List Call) → looks_in terms looks ≡ Ok calls → Calls calls
  looks_for terms looks =
      choice Calls (nat_lt terms.parts (length looks)) (Err (Refused BadArguments)) (each_in look_in looks) (never Calls (Refused BadArguments))
      (each_for (CallIsFor session) look_in look_for looks)

numbered_for : {A : Type 0} (session : ℕ) (known : Option A) (path : Option (List ℕ)) (calls : List Call) → numbered_in known path ≡ Ok calls → Calls session calls
numbered_for session None path = never (Calls session) (Refused MarshallingError)
numbered_for session (Some known) path = alone_for session Exists path

pub calls_are_for_their_session : CallsAreForTheirSession
calls_are_for_their_session terms session (asked.Create create) = made_for session (create_in terms session create) (create_for session terms create)
calls_are_for_their_session terms session (asked.Create2 create) = made_for session (create_in terms session create) (create_for session terms create)
calls_are_for_their_session terms session (asked.CreateContainer create) = made_for session (create_in terms session create) (create_for session terms create)
calls_are_for_their_session terms session (asked.CreateTtl timed) = made_for session (timed_create_in terms timed) (timed_create_for session terms timed)
calls_are_for_their_session terms session (asked.Delete at) = behind (Calls session) (delete_in at) (λ delete. one (Update (act.Delete delete))) (λ delete. one_for session (Update (act.Delete delete)) tt)
calls_are_for_their_session terms session (asked.SetData set) = behind (Calls session) (set_in terms set) (λ set. one (Update (act.SetData set))) (λ set. one_for session (Update (act.SetData set)) tt)
calls_are_for_their_session terms session (asked.Check at) = behind (Calls session) (check_in at) (λ check. one_of_parts (part.Check check ∷ [])) (λ check. one_for session (Update (act.Multi (part.Check check ∷ []))) (tt, tt))
calls_are_for_their_session terms session (asked.Multi parts) = multi_for session terms parts
calls_are_for_their_session terms session (asked.Exists look) = alone_for session Exists look.path
calls_are_for_their_session terms session (asked.GetData look) = alone_for session GetData look.path
calls_are_for_their_session terms session (asked.GetChildren look) = alone_for session GetChildren look.path
calls_are_for_their_session terms session (asked.GetChildren2 look) =
    behind (Calls session) (path_in look.path) (λ path. Ok (Query (GetChildren path) ∷ Query (Exists path) ∷ []))
    (λ path. done (Calls session) (Query (GetChildren path) ∷ Query (Exists path) ∷ []) (tt, (tt, tt)))
calls_are_for_their_session terms session (asked.GetAcl path) = alone_for session Exists path
calls_are_for_their_session terms session (asked.MultiRead looks) = looks_for session terms looks
calls_are_for_their_session terms session (asked.SetWatches set) =
    choice (Calls session) (nat_lt MAX_PATHS (length (watched_in set))) (Err (Refused BadArguments)) (each_in watch_in (watched_in set)) (never (Calls session) (Refused BadArguments))
    (each_for (CallIsFor session) watch_in (λ path. query_for session Exists (Some path)) (watched_in set))
calls_are_for_their_session terms session (asked.Sync None) = never (Calls session) (Refused BadArguments)
calls_are_for_their_session terms session (asked.Sync (Some path)) = done (Calls session) [] tt
calls_are_for_their_session terms session (asked.Auth auth) =
    choice (Calls session) _ (Ok []) (Err (Refused AuthFailed)) (done (Calls session) [] tt) (never (Calls session) (Refused AuthFailed))
calls_are_for_their_session terms session asked.Ping = done (Calls session) [] tt
calls_are_for_their_session terms session asked.CloseSession = one_for session (Update (act.Close session)) refl
calls_are_for_their_session terms session (asked.SetAcl set) =
    behind (Calls session) (set_acl_in set) (λ set. one (Update (act.SetAcl set))) (λ set. one_for session (Update (act.SetAcl set)) tt)
calls_are_for_their_session terms session (asked.Sasl token) = done (Calls session) [] tt
calls_are_for_their_session terms session (asked.GetEphemerals front) = done (Calls session) [] tt
calls_are_for_their_session terms session (asked.GetAllChildrenNumber top) = done (Calls session) [] tt
calls_are_for_their_session terms session asked.WhoAmI = done (Calls session) [] tt
calls_are_for_their_session terms session (asked.CheckWatches at) = numbered_for session (type_of at.kind) at.path
calls_are_for_their_session terms session (asked.RemoveWatches at) = numbered_for session (type_of at.kind) at.path
calls_are_for_their_session terms session (asked.SetWatches2 set) =
    choice (Calls session) (nat_lt MAX_PATHS (length (all_watched_in set))) (Err (Refused BadArguments)) (each_in watch_in (all_watched_in set)) (never (Calls session) (Refused BadArguments))
    (each_for (CallIsFor session) watch_in (λ path. query_for session Exists (Some path)) (all_watched_in set))
calls_are_for_their_session terms session (asked.AddWatch add) = numbered_for session (mode_of add.mode) add.path
calls_are_for_their_session terms session (asked.Other kind bytes) = never (Calls session) _
