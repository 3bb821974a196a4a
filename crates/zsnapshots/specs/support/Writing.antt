-- What a writer of rows holds.
use Rattle.std.specs.Prelude.{◌≡◌, ℕ, Bool, false, List, refl}
use Rattle.std.specs.Coded.{Coded, code_by, coded×, coded_ℕ, coded_bool, coded_list}
use Rattle.ztree.specs.Tree.{Path}
use Rattle.zops.specs.Machine.{MachineState, MachineView}
use Rattle.zops.specs.support.Codes.{coded_machine_state}
use Rattle.zsnapshots.specs.States.{KeysView, WritingView, AreKeysOf, written_of}

-- how keys are stored
abbrev pub coded_keys : Coded KeysView
coded_keys =
    code_by (Bool × (List ℕ × (List Path × List ℕ)))
    (coded× coded_bool (coded× (coded_list coded_ℕ)
    (coded× (coded_list (coded_list (coded_list coded_ℕ))) (coded_list coded_ℕ))))
    (λ k. (k.is_alone, (k.sessions, (k.paths, k.clients))))
    (λ p. record { is_alone = p.0; sessions = p.1.0; paths = p.1.1.0; clients = p.1.1.1 })
    (λ _. refl)

-- how what was written so far is stored
abbrev pub coded_writing : Coded WritingView
coded_writing =
    code_by (MachineState × ℕ) (coded× coded_machine_state coded_ℕ) (λ w. (w.state, w.written))
    (λ p. record { state = p.0; written = p.1 }) (λ _. refl)

-- the machine can be read, and these are the keys of its rows, or of those of its tree alone
pub record IsWriting (m : MachineView) (keys : KeysView) : Type 0 where
  pub whole : m.is_broken ≡ false
  pub rows : AreKeysOf keys (written_of keys.is_alone m.state)
