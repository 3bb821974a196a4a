-- What is loaded of one sender is changed.
use Rattle.std.proofs.Common.{◌≡◌, ℕ, ◌<◌, List, length, get_or, set, Option, None, sym, ap, subst, ◌∙◌}
use Rattle.zprotocol.specs.declared.limits.TheConstants.{PROCESSES}
use Rattle.zprotocol.specs.declared.process.Process.{Process}
use Rattle.zprotocol.specs.Places.{place_of}
use Rattle.zserver.specs.Server.{TreeMessage}
use Rattle.zpeers.specs.declared.fault.PeerFault.{PeerFault}
use Rattle.zpeers.specs.Records.{LinkRecord}
use Rattle.zpeers.specs.Incoming.{ArrivingView, IncomingView, arriving_from, OthersArrive, Accepts, IsPeerFault}
use Rattle.zpeers.proofs.Receivers.{read_is, new_is, others_are}

abbrev pub view_of : List (Option ArrivingView) → IncomingView
view_of slots = record { slots = slots }

module _ (v : IncomingView) (xs : List (Option ArrivingView)) (view : view_of xs ≡ v) (i : ℕ) (from : Process) (here : i ≡ place_of from)
    (inside : i < PROCESSES) (all : length xs ≡ PROCESSES) (slot : Option ArrivingView) (read : slot ≡ get_or xs i slot) where
  pub arrives : slot ≡ arriving_from v from
  arrives = read_is None xs i from here inside all slot read ∙ ap (λ (v : IncomingView). arriving_from v from) view

  pub others_arrive : (new : Option ArrivingView) → OthersArrive v (view_of (set xs i new)) from
  others_arrive new p other = others_are None xs i from here inside all new p other ∙ ap (λ (v : IncomingView). arriving_from v p) view

  pub accepts : (own : Process) (r : LinkRecord) (new : Option ArrivingView) (it : Option TreeMessage) → Accepts own from r slot new it
      → Accepts own from r (arriving_from v from) (arriving_from (view_of (set xs i new)) from) it
  accepts own r new it so =
      subst (λ (s : Option ArrivingView). Accepts own from r s (arriving_from (view_of (set xs i new)) from) it) arrives
      (subst (λ (n : Option ArrivingView). Accepts own from r slot n it) (sym (new_is None xs i from here inside all new)) so)

  pub refuses : (own : Process) (r : LinkRecord) (fault : PeerFault) → IsPeerFault own from r slot fault → IsPeerFault own from r (arriving_from v from) fault
  refuses own r fault so = subst (λ (s : Option ArrivingView). IsPeerFault own from r s fault) arrives so
