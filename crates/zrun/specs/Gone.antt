-- What the processes of a run did, by what they left, with or without traces.
use Rattle.std.specs.Prelude.{◌≡◌, ℕ, List}
use Rattle.zprotocol.specs.declared.process.Process.{Process}
use Rattle.zprotocol.specs.server.Machine.{cached_tree}
use Rattle.zprotocol.specs.Places.{process_at}
use Rattle.zprotocol.specs.traces.Deeds.{GoesBy, puts, takes}
use Rattle.zprotocol.specs.traces.Lawful.{Begins}
use Rattle.zthreads.specs.declared.endpoint.Ending.{Ending}
use Rattle.zthreads.specs.Endpoints.{Each, opening_of, TreeDeed}
use Rattle.zthreads.specs.Endings.{AccountsAtEnd}
use Rattle.zrun.specs.Left.{self_at}

-- the steps (deeds) of all processes account for what they left
pub record Went (last clients : ℕ) (endings : List Ending) (deeds : Process → List TreeDeed) : Type 0 where
  -- each process follows its table from the initial state
  pub goes : (p : Process) → GoesBy cached_tree p (opening_of last clients p) 0 (deeds p)
  -- what was received from each channel is a prefix of what was sent there
  pub linked : (from to : Process) → Begins (takes from (deeds to)) (puts to (deeds from))
  -- the steps of each sent and received what its ends of the channels say
  pub left : Each (λ i e. AccountsAtEnd (self_at last clients i) e (deeds (process_at i))) endings
