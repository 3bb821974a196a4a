-- The calls of a request of watches: each is the query of a path that it names.
use Rattle.std.proofs.Common.{◌≡◌, ◌∙◌, ℕ, List, [], ◌∷◌, ◌++◌, length, take, drop, Option, Some, None, Ok, Err, refl, ap, subst, inl, inr, append_assoc}
use Rattle.std.specs.Prelude.{nat_lt}
use Rattle.std.specs.List.{AllByRecursion}
use Rattle.zcalls.specs.declared.call.Call.{Call}
use Rattle.zcalls.specs.declared.call.Call.TheVariants.{Update, Query}
use Rattle.zcalls.specs.declared.call.Query.TheVariants.{Exists, GetData, GetChildren}
use Rattle.zjute.specs.declared.code.Code.TheVariants.{BadArguments, MarshallingError}
use Rattle.zjute.specs.declared.request.Asked.{Asked}
use Rattle.zjute.specs.declared.request.Asked.TheVariants as asked
use Rattle.zjute.specs.declared.request.SetWatches.{SetWatches}
use Rattle.zjute.specs.declared.request.SetWatches2.{SetWatches2}
use Rattle.zjute.specs.WatchNumbers.{mode_of, type_of}
use Rattle.zrequests.specs.Terms.{Terms}
use Rattle.zrequests.specs.declared.fault.Unasked.TheVariants.{Refused}
use Rattle.zrequests.specs.declared.limits.TheConstants.{MAX_PATHS}
use Rattle.zrequests.specs.Asking.{Meaning, then_means, each_in, path_in}
use Rattle.zrequests.specs.Requests.{all_watched_in, calls_in, numbered_in, one, query_in, watch_in, watched_in}
use Rattle.zrequests.proofs.Meanings.{choice, done, never, through}
use Rattle.zwatches.specs.declared.kind.Kind.{Kind}
use Rattle.zwatches.specs.declared.kind.Kind.TheVariants.{Data, Missing, Children}
use Rattle.zfront_laws.specs.watches.Watching.{Names}

-- the calls of a list, then those of the list after it
module _ {A B : Type 0} (means : A → Meaning B) where
  abbrev Parts : List A → List A → List B → Type 0
  Parts xs ys read = (each_in means xs ≡ Ok (take (length xs) read)) × (each_in means ys ≡ Ok (drop (length xs) read))

  pub parts : (xs ys : List A) (read : List B) → each_in means (xs ++ ys) ≡ Ok read → Parts xs ys read
  parts [] ys = λ read is. (refl, is)
  parts (x ∷ xs) ys =
      through (λ y. means x ≡ Ok y) (Parts (x ∷ xs) ys) (means x) (λ y. then_means (each_in means (xs ++ ys)) (λ more. Ok (y ∷ more)))
      (λ y is. is)
      (λ y first.
      through (Parts xs ys) (Parts (x ∷ xs) ys) (each_in means (xs ++ ys)) (λ more. Ok (y ∷ more)) (parts xs ys)
      (λ more are. done (Parts (x ∷ xs) ys) (y ∷ more) (
        ap (λ m. then_means m (λ y. then_means (each_in means xs) (λ more. Ok (y ∷ more)))) first
            ∙ ap (λ m. then_means m (λ more. Ok (y ∷ more))) are.0,
        are.1,
      )))

-- the call asks whether a node exists that these texts name
abbrev pub AsksOf : List (List ℕ) → Call → Type 0
AsksOf texts (Query (Exists path)) = Names texts path
AsksOf texts other = Unit {0}

asks_more : (text : List ℕ) (texts : List (List ℕ)) (call : Call) → AsksOf texts call → AsksOf (text ∷ texts) call
asks_more text texts (Query (Exists path)) named = (named.0, inr named.1, named.2)
asks_more text texts (Query (GetData path)) named = tt
asks_more text texts (Query (GetChildren path)) named = tt
asks_more text texts (Update update) named = tt

all_more : (text : List ℕ) (texts : List (List ℕ)) (calls : List Call) → AllByRecursion (AsksOf texts) calls
    → AllByRecursion (AsksOf (text ∷ texts)) calls
all_more text texts [] all = tt
all_more text texts (call ∷ calls) all = (asks_more text texts call all.0, all_more text texts calls all.1)

first_asks : (text : List ℕ) (texts : List (List ℕ)) (call : Call) → watch_in text ≡ Ok call → AsksOf (text ∷ texts) call
first_asks text texts =
    through (λ path. path_in (Some text) ≡ Ok path) (AsksOf (text ∷ texts)) (path_in (Some text)) (λ path. Ok (Query (Exists path)))
    (λ path is. is)
    (λ path is. done (AsksOf (text ∷ texts)) (Query (Exists path)) (text, inl refl, is))

-- each call asks so
all_ask : (texts : List (List ℕ)) (calls : List Call) → each_in watch_in texts ≡ Ok calls → AllByRecursion (AsksOf texts) calls
all_ask [] = done (AllByRecursion (AsksOf [])) [] tt
all_ask (text ∷ texts) =
    through (AsksOf (text ∷ texts)) (AllByRecursion (AsksOf (text ∷ texts))) (watch_in text)
    (λ call. then_means (each_in watch_in texts) (λ calls. Ok (call ∷ calls))) (first_asks text texts)
    (λ call one.
    through (AllByRecursion (AsksOf texts)) (AllByRecursion (AsksOf (text ∷ texts))) (each_in watch_in texts) (λ calls. Ok (call ∷ calls))
    (all_ask texts)
    (λ calls all. done (AllByRecursion (AsksOf (text ∷ texts))) (call ∷ calls) (one, all_more text texts calls all)))

-- the paths that a request names for watches of a kind
abbrev pub list_of : Kind → SetWatches → List (List ℕ)
list_of Data set = set.data_watches
list_of Missing set = set.exist_watches
list_of Children set = set.child_watches
list_of other set = []

-- the calls of a request that re-registers watches: those of each list, in order
pub record AsksAgain (set : SetWatches) (calls : List Call) : Type 0 where
  pub of_data : AllByRecursion (AsksOf set.data_watches) (take (length set.data_watches) calls)
  pub of_missing : AllByRecursion (AsksOf set.exist_watches) (take (length set.exist_watches) (drop (length set.data_watches) calls))
  pub of_children : AllByRecursion (AsksOf set.child_watches) (drop (length set.exist_watches) (drop (length set.data_watches) calls))

asks_again : (set : SetWatches) (calls : List Call) → each_in watch_in (watched_in set) ≡ Ok calls → AsksAgain set calls
asks_again set calls is =
    let of_missing = set.exist_watches in
    let of_children = set.child_watches in
    let rest = drop (length set.data_watches) calls in
    let first =
    parts watch_in set.data_watches (of_missing ++ of_children) calls
    (subst (λ texts. each_in watch_in texts ≡ Ok calls) (append_assoc set.data_watches of_missing of_children) is) in
    let second = parts watch_in of_missing of_children rest first.1 in
    record {
      of_data = all_ask set.data_watches (take (length set.data_watches) calls) first.0;
      of_missing = all_ask of_missing (take (length of_missing) rest) second.0;
      of_children = all_ask of_children (drop (length of_missing) rest) second.1;
    }

-- the same with watches that stay
pub record AsksEach (all : SetWatches2) (calls : List Call) : Type 0 where
  pub of_once : AsksAgain all.watches (take (length (watched_in all.watches)) calls)
  pub of_persistent : AllByRecursion (AsksOf all.persistent_watches)
      (take (length all.persistent_watches) (drop (length (watched_in all.watches)) calls))
  pub of_recursive : AllByRecursion (AsksOf all.recursive_watches)
      (drop (length all.persistent_watches) (drop (length (watched_in all.watches)) calls))

asks_each : (all : SetWatches2) (calls : List Call) → each_in watch_in (all_watched_in all) ≡ Ok calls → AsksEach all calls
asks_each all calls is =
    let of_once = watched_in all.watches in
    let persistent = all.persistent_watches in
    let recursive = all.recursive_watches in
    let rest = drop (length of_once) calls in
    let first =
    parts watch_in of_once (persistent ++ recursive) calls
    (subst (λ texts. each_in watch_in texts ≡ Ok calls) (append_assoc of_once persistent recursive) is) in
    let second = parts watch_in persistent recursive rest first.1 in
    record {
      of_once = asks_again all.watches (take (length of_once) calls) first.0;
      of_persistent = all_ask persistent (take (length persistent) rest) second.0;
      of_recursive = all_ask recursive (drop (length persistent) rest) second.1;
    }

-- the call asks whether the node exists that this text names
abbrev pub AsksAt : Option (List ℕ) → Call → Type 0
AsksAt text (Query (Exists path)) = path_in text ≡ Ok path
AsksAt text other = Unit {0}

-- the first call asks so
abbrev pub FirstAsks : Option (List ℕ) → List Call → Type 0
FirstAsks text [] = Unit {0}
FirstAsks text (call ∷ calls) = AsksAt text call

first_ask : {A : Type 0} (known : Option A) (text : Option (List ℕ)) (calls : List Call) → numbered_in known text ≡ Ok calls → FirstAsks text calls
first_ask None text = never (FirstAsks text) (Refused MarshallingError)
first_ask (Some known) text =
    through (AsksAt text) (FirstAsks text) (query_in Exists text) one
    (through (λ path. path_in text ≡ Ok path) (AsksAt text) (path_in text) (λ path. Ok (Query (Exists path)))
    (λ path is. is)
    (λ path is. done (AsksAt text) (Query (Exists path)) is))
    (λ call asks. done (FirstAsks text) (call ∷ []) asks)

-- where a request is of watches, its calls are those
abbrev pub AsksIf : Asked → List Call → Type 0
AsksIf (asked.SetWatches set) calls = AsksAgain set calls
AsksIf (asked.SetWatches2 all) calls = AsksEach all calls
AsksIf (asked.AddWatch add) calls = FirstAsks add.path calls
AsksIf (asked.RemoveWatches at) calls = FirstAsks at.path calls
AsksIf other calls = Unit {0}

pub asks_if : (terms : Terms) (session : ℕ) (asks : Asked) (calls : List Call) → calls_in terms session asks ≡ Ok calls → AsksIf asks calls
asks_if terms session (asked.SetWatches set) =
    choice (AsksAgain set) (nat_lt MAX_PATHS (length (watched_in set))) (Err (Refused BadArguments)) (each_in watch_in (watched_in set))
    (never (AsksAgain set) (Refused BadArguments))
    (asks_again set)
asks_if terms session (asked.SetWatches2 all) =
    choice (AsksEach all) (nat_lt MAX_PATHS (length (all_watched_in all))) (Err (Refused BadArguments)) (each_in watch_in (all_watched_in all))
    (never (AsksEach all) (Refused BadArguments))
    (asks_each all)
asks_if terms session (asked.AddWatch add) = first_ask (mode_of add.mode) add.path
asks_if terms session (asked.RemoveWatches at) = first_ask (type_of at.kind) at.path
asks_if terms session other = λ calls is. tt
