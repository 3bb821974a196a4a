-- What a request asks of the service: queries, or one update that sets no watch.
use Rattle.std.proofs.Common.{◌≡◌, ℕ, List, [], ◌∷◌, Option, Ok, Err, refl, inl, inr}
use Rattle.std.specs.Prelude.{◌⊎◌, nat_lt, length, Some, None}
use Rattle.ztree.specs.Tree.{Path}
use Rattle.zcalls.specs.declared.call.Part.TheVariants as part
use Rattle.zcalls.specs.declared.call.Update.{Update as Act}
use Rattle.zcalls.specs.declared.call.Update.TheVariants as act
use Rattle.zcalls.specs.declared.call.Query.{Query as Question}
use Rattle.zcalls.specs.declared.call.Query.TheVariants.{GetData, Exists, GetChildren}
use Rattle.zcalls.specs.declared.call.Call.{Call}
use Rattle.zcalls.specs.declared.call.Call.TheVariants.{Update, Query}
use Rattle.zcalls.specs.declared.reply.Reply.{Reply}
use Rattle.zjute.specs.declared.code.Code.TheVariants.{BadArguments, MarshallingError, AuthFailed}
use Rattle.zjute.specs.declared.request.Asked.{Asked}
use Rattle.zjute.specs.declared.request.Asked.TheVariants as asked
use Rattle.zjute.specs.WatchNumbers.{mode_of, type_of}
use Rattle.zjute.specs.declared.part.PartRequest.{PartRequest as AskedPart}
use Rattle.zjute.specs.declared.part.LookPart.{LookPart}
use Rattle.zjute.specs.declared.part.LookPart.TheVariants as of_look
use Rattle.zrequests.specs.declared.fault.Unasked.{Unasked}
use Rattle.zrequests.specs.declared.fault.Unasked.TheVariants.{Refused}
use Rattle.zrequests.specs.declared.limits.TheConstants.{MAX_PATHS}
use Rattle.zrequests.specs.Terms.{Terms}
use Rattle.zrequests.specs.Asking.{Meaning, each_in, path_in}
use Rattle.zrequests.specs.Requests.{create_in, timed_create_in, delete_in, check_in, set_in, set_acl_in, parts_in, one, one_of_parts}
use Rattle.zrequests.specs.Requests.{multi_in, query_in, look_in, looks_in, watch_in, watched_in, all_watched_in, numbered_in, look_alone, calls_in}
use Rattle.zrequests.proofs.Meanings.{meant, unmeant, behind, choice, done, each_for, never, through}
use Rattle.zresponses.specs.effects.Wishes.{wishes}
use Rattle.zfront_laws.proofs.watches_lemmas.Wishing.{AreQueries, IsQuery}

-- one update, and no watch
abbrev pub IsUpdate : Asked → List Call → Type 0
IsUpdate asks calls = (u : Act) × (calls ≡ Update u ∷ []) × ((replies : List Reply) → wishes asks calls replies ≡ [])

abbrev pub Sorts : Asked → List Call → Type 0
Sorts asks calls = AreQueries calls ⊎ IsUpdate asks calls

query_sorts : (query : Path → Question) (path : Option (List ℕ)) (call : Call) → query_in query path ≡ Ok call → IsQuery call
query_sorts query path = behind IsQuery (path_in path) (λ path. Ok (Query (query path))) (λ path. done IsQuery (Query (query path)) tt)

look_sorts : (look : LookPart) (call : Call) → look_in look ≡ Ok call → IsQuery call
look_sorts (of_look.GetData look) = query_sorts GetData look.path
look_sorts (of_look.GetChildren look) = query_sorts GetChildren look.path

module _ (asks : Asked) where
  none : (calls : List Call) → meant [] ≡ meant calls → Sorts asks calls
  none = done (Sorts asks) [] (inl tt)

  queries : (m : Meaning (List Call)) → ((calls : List Call) → m ≡ Ok calls → AreQueries calls) → (calls : List Call)
      → m ≡ Ok calls → Sorts asks calls
  queries m all calls is = inl (all calls is)

  alone : (query : Path → Question) (path : Option (List ℕ)) (calls : List Call) → look_alone query path ≡ Ok calls → Sorts asks calls
  alone query path =
      through IsQuery (Sorts asks) (query_in query path) one (query_sorts query path) (λ call is. done (Sorts asks) (call ∷ []) (inl (is, tt)))

  refused : (fault : Unasked) (calls : List Call) → unmeant fault ≡ meant calls → Sorts asks calls
  refused fault = never (Sorts asks) fault

  numbered : {A : Type 0} (known : Option A) (path : Option (List ℕ)) (calls : List Call) → numbered_in known path ≡ Ok calls → Sorts asks calls
  numbered None path = refused (Refused MarshallingError)
  numbered (Some known) path = alone Exists path

  update : (u : Act) → ((replies : List Reply) → wishes asks (Update u ∷ []) replies ≡ []) → (calls : List Call)
      → one (Update u) ≡ Ok calls → Sorts asks calls
  update u no_watch = done (Sorts asks) (Update u ∷ []) (inr (u, refl, no_watch))

multi_sorts : (terms : Terms) (session : ℕ) (asks : Asked) → ((u : Act) (replies : List Reply) → wishes asks (Update u ∷ []) replies ≡ [])
    → (parts : List AskedPart) (calls : List Call) → multi_in terms session parts ≡ Ok calls → Sorts asks calls
multi_sorts terms session asks no_watch [] = none asks
multi_sorts terms session asks no_watch (first ∷ parts) =
    let all = act.Multi (parts_in terms session (first ∷ parts)) in
    choice (Sorts asks) (nat_lt terms.parts (length (first ∷ parts))) (Err (Refused BadArguments)) (one (Update all))
    (refused asks (Refused BadArguments)) (update asks all (no_watch all))

pub sorts : (terms : Terms) (session : ℕ) (asks : Asked) (calls : List Call) → calls_in terms session asks ≡ Ok calls → Sorts asks calls
sorts terms session (asked.Create create) =
    let asks = asked.Create create in
    behind (Sorts asks) (create_in terms session create) (λ create. one (Update (act.Create create)))
    (λ create. update asks (act.Create create) (λ replies. refl))
sorts terms session (asked.Create2 create) =
    let asks = asked.Create2 create in
    behind (Sorts asks) (create_in terms session create) (λ create. one (Update (act.Create create)))
    (λ create. update asks (act.Create create) (λ replies. refl))
sorts terms session (asked.CreateContainer create) =
    let asks = asked.CreateContainer create in
    behind (Sorts asks) (create_in terms session create) (λ create. one (Update (act.Create create)))
    (λ create. update asks (act.Create create) (λ replies. refl))
sorts terms session (asked.CreateTtl timed) =
    let asks = asked.CreateTtl timed in
    behind (Sorts asks) (timed_create_in terms timed) (λ create. one (Update (act.Create create)))
    (λ create. update asks (act.Create create) (λ replies. refl))
sorts terms session (asked.Delete at) =
    let asks = asked.Delete at in
    behind (Sorts asks) (delete_in at) (λ delete. one (Update (act.Delete delete))) (λ delete. update asks (act.Delete delete) (λ replies. refl))
sorts terms session (asked.SetData set) =
    let asks = asked.SetData set in
    behind (Sorts asks) (set_in terms set) (λ set. one (Update (act.SetData set))) (λ set. update asks (act.SetData set) (λ replies. refl))
sorts terms session (asked.Check at) =
    let asks = asked.Check at in
    behind (Sorts asks) (check_in at) (λ check. one_of_parts (part.Check check ∷ []))
    (λ check. update asks (act.Multi (part.Check check ∷ [])) (λ replies. refl))
sorts terms session (asked.Multi parts) = multi_sorts terms session (asked.Multi parts) (λ u replies. refl) parts
sorts terms session (asked.Exists look) = alone (asked.Exists look) Exists look.path
sorts terms session (asked.GetData look) = alone (asked.GetData look) GetData look.path
sorts terms session (asked.GetChildren look) = alone (asked.GetChildren look) GetChildren look.path
sorts terms session (asked.GetChildren2 look) =
    let asks = asked.GetChildren2 look in
    behind (Sorts asks) (path_in look.path) (λ path. Ok (Query (GetChildren path) ∷ Query (Exists path) ∷ []))
    (λ path. done (Sorts asks) (Query (GetChildren path) ∷ Query (Exists path) ∷ []) (inl (tt, (tt, tt))))
sorts terms session (asked.GetAcl path) = alone (asked.GetAcl path) Exists path
sorts terms session (asked.MultiRead looks) =
    queries (asked.MultiRead looks) (looks_in terms looks)
    (choice AreQueries (nat_lt terms.parts (length looks)) (Err (Refused BadArguments)) (each_in look_in looks)
    (never AreQueries (Refused BadArguments))
    (each_for IsQuery look_in look_sorts looks))
sorts terms session (asked.SetWatches set) =
    queries (asked.SetWatches set) _
    (choice AreQueries (nat_lt MAX_PATHS (length (watched_in set))) (Err (Refused BadArguments)) (each_in watch_in (watched_in set))
    (never AreQueries (Refused BadArguments))
    (each_for IsQuery watch_in (λ path. query_sorts Exists (Some path)) (watched_in set)))
sorts terms session (asked.Sync None) = refused (asked.Sync None) (Refused BadArguments)
sorts terms session (asked.Sync (Some path)) = none (asked.Sync (Some path))
sorts terms session (asked.Auth auth) =
    choice (Sorts (asked.Auth auth)) _ (Ok []) (Err (Refused AuthFailed)) (none (asked.Auth auth)) (refused (asked.Auth auth) (Refused AuthFailed))
sorts terms session asked.Ping = none asked.Ping
sorts terms session asked.CloseSession = update asked.CloseSession (act.Close session) (λ replies. refl)
sorts terms session (asked.SetAcl set) =
    let asks = asked.SetAcl set in
    behind (Sorts asks) (set_acl_in set) (λ set. one (Update (act.SetAcl set))) (λ set. update asks (act.SetAcl set) (λ replies. refl))
sorts terms session (asked.Sasl token) = none (asked.Sasl token)
sorts terms session (asked.GetEphemerals front) = none (asked.GetEphemerals front)
sorts terms session (asked.GetAllChildrenNumber top) = none (asked.GetAllChildrenNumber top)
sorts terms session asked.WhoAmI = none asked.WhoAmI
sorts terms session (asked.CheckWatches at) = numbered (asked.CheckWatches at) (type_of at.kind) at.path
sorts terms session (asked.RemoveWatches at) = numbered (asked.RemoveWatches at) (type_of at.kind) at.path
sorts terms session (asked.SetWatches2 set) =
    queries (asked.SetWatches2 set) _
    (choice AreQueries (nat_lt MAX_PATHS (length (all_watched_in set))) (Err (Refused BadArguments)) (each_in watch_in (all_watched_in set))
    (never AreQueries (Refused BadArguments))
    (each_for IsQuery watch_in (λ path. query_sorts Exists (Some path)) (all_watched_in set)))
sorts terms session (asked.AddWatch add) = numbered (asked.AddWatch add) (mode_of add.mode) add.path
sorts terms session (asked.Other kind bytes) = refused (asked.Other kind bytes) _
