-- What a process did in a round over its links.
use Rattle.std.proofs.Common.{◌≡◌, [], ◌++◌, option_to_list, refl, sym, ap}
use Rattle.zprotocol.specs.declared.process.Process.{Process}
use Rattle.zprotocol.specs.world.History.{History}
use Rattle.zprotocol.specs.declared.traces.trace.Act.{Act}
use Rattle.zactor.specs.declared.done.Done.{Done}
use Rattle.zactor.specs.declared.handed.Handed.{Handed}
use Rattle.zactor.specs.declared.done.Done.TheVariants.{Acted, Unheard, Stopped, Left, Began, Answered}
use Rattle.zactor.specs.declared.input.Input.TheVariants.{Hear}
use Rattle.zactor.specs.Acting.{reported_by}
use Rattle.zthreads.specs.declared.endpoint.Endpoint.{Endpoint}
use Rattle.zthreads.specs.declared.host.Host.{Host}
use Rattle.zthreads.specs.Endpoints.{IsEntered, process_of, SameBooks, SameEndpoint, stamp_of_endpoint}
use Rattle.zthreads.specs.Hosts.{Received}
use Rattle.zthreads.specs.Acts.{order_of}
use Rattle.zthreads.specs.Rounds.{WentOn}
use Rattle.zthreads.specs.Reported.{act_heard}
use Rattle.zthreads.proofs.Orders.{followed_more, followed_same}
use Rattle.zthreads.proofs.Said.{goes_both, goes_more, goes_same}
use Rattle.zthreads.proofs.Wires.{same_endpoint}

module _ (a b : Endpoint) (same : SameEndpoint a b) where
  -- it did nothing
  pub went_idle : SameBooks a b → WentOn a b
  went_idle books = record {
    same = same;
    goes = goes_same a b books;
    orders = λ received waiting before. followed_same a b received waiting books before;
  }

  -- it did one thing, which was to follow no order
  pub went_further : (act : Act) (reported : History) → IsEntered a b (stamp_of_endpoint b) act reported → order_of act ≡ [] → WentOn a b
  went_further act reported did none = record {
    same = same;
    goes = goes_more a b act reported did;
    orders = λ received waiting before.
        followed_more a b act reported received waiting waiting did (ap (λ l. l ++ option_to_list waiting) (sym none)) before;
  }

pub went_both : (a b c : Endpoint) → WentOn a b → WentOn b c → WentOn a c
went_both a b c first second = record {
  same = same_endpoint a b c first.same second.same;
  goes = goes_both a b c first.goes second.goes;
  orders = λ received waiting before. second.orders received waiting (first.orders received waiting before);
}

-- it did nothing in between
pub went_by : (a b c d : Endpoint) → WentOn a b → SameEndpoint b c → SameBooks b c → WentOn c d → WentOn a d
went_by a b c d first same books last = went_both a c d (went_both a b c first (went_idle b c same books)) last

-- to receive a message is to follow no order
no_order : (from : Process) (done : Done) → order_of (act_heard from done) ≡ []
no_order from Acted = refl
no_order from Unheard = refl
no_order from Stopped = refl
no_order from Left = refl
no_order from (Began number) = refl
no_order from (Answered number) = refl

pub went_received : (a b : Host) (before after : Handed) (done : Done) → SameEndpoint a.endpoint b.endpoint → Received a b before after done
    → WentOn a.endpoint b.endpoint
went_received a b before after done same (from, m, acted, handed) =
    went_further a.endpoint b.endpoint same (act_heard from done) (reported_by (process_of a.endpoint) (Hear from m.1) done) acted.did.entered (no_order from done)
