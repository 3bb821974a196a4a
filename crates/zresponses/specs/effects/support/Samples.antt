-- Samples for the worked examples.
use Rattle.std.specs.Prelude.{ℕ, pos, Bool, false, List, [], ◌∷◌, codes, replicate, Some}
use Rattle.ztree.specs.support.Samples.{at_a, at_a_b}
use Rattle.zcalls.specs.declared.call.Call.{Call}
use Rattle.zcalls.specs.declared.call.Call.TheVariants.{Query}
use Rattle.zcalls.specs.declared.call.Query.TheVariants.{Exists}
use Rattle.zresponses.specs.declared.clock.Now.{Now}
use Rattle.zjute.specs.declared.connecting.ConnectRequest.{ConnectRequest}
use Rattle.zjute.specs.declared.request.Asked.{Asked}
use Rattle.zjute.specs.declared.request.Look.{Look}
use Rattle.zjute.specs.declared.request.Request.{Request}
use Rattle.zjute.specs.declared.request.SetWatches.{SetWatches}
use Rattle.zjute.specs.declared.request.AddWatch.{AddWatch}
use Rattle.zjute.specs.declared.request.SetWatches2.{SetWatches2}
use Rattle.zjute.specs.declared.request.WatchesAt.{WatchesAt}

-- a query of /a, with a watch or without
abbrev pub look_a : Bool → Look
look_a watch = record { path = Some (codes "/a"); watch = watch }

-- the calls that ask whether /a and /a/b exist
abbrev pub exists_a : Call
exists_a = Query (Exists at_a)

abbrev pub exists_a_b : Call
exists_a_b = Query (Exists at_a_b)

-- a client that has seen change 1 re-registers watches: of the data of /a, of the creation of /a,
-- and of the children of /a/b
abbrev pub set_again : SetWatches
set_again = record {
  relative_zxid = pos 1;
  data_watches = codes "/a" ∷ [];
  exist_watches = codes "/a" ∷ [];
  child_watches = codes "/a/b" ∷ [];
}

-- and a persistent watch of /a, and a recursive one of /a/b
abbrev pub set_each_again : SetWatches2
set_each_again = record {
  watches = set_again;
  persistent_watches = codes "/a" ∷ [];
  recursive_watches = codes "/a/b" ∷ [];
}

-- a watch of /a with the mode of this number
abbrev pub add_a : ℕ → AddWatch
add_a mode = record { path = Some (codes "/a"); mode = pos mode }

-- the watches of /a with the type of this number
abbrev pub watches_a : ℕ → WatchesAt
watches_a kind = record { path = Some (codes "/a"); kind = pos kind }

-- the request 9
abbrev pub request_9 : Asked → Request
request_9 asked = record { xid = pos 9; asked = asked }

-- a tree is at tick 4, and its last change was the 8th
abbrev pub now : Now
now = record { zxid = 8; time = 4 }

-- a password
abbrev pub some_password : List ℕ
some_password = replicate 16 7

-- a client that has seen change 5 comes back to session 7
abbrev pub greeting : ConnectRequest
greeting = record {
  protocol_version = pos 0;
  last_zxid_seen = pos 5;
  timeout = pos 10000;
  session_id = pos 7;
  password = Some some_password;
  read_only = Some false;
}
