-- What the contracts of a table see: the sessions, and how many Ids were given to rows.
use Rattle.std.specs.Prelude.{ℕ, refl}
use Rattle.std.specs.Coded.{Coded, code_by, coded×, coded_ℕ}
use Rattle.std.specs.FinMap as finite
use Rattle.ztree.specs.Tree.{Sessions}
use Rattle.ztree.specs.support.Codes.{coded_session}

pub record TableView : Type 0 where
  pub sessions : Sessions
  pub given : ℕ

-- how the sessions are stored
abbrev pub coded_sessions : Coded Sessions
coded_sessions = finite.code coded_ℕ coded_session

-- how it is stored
abbrev pub coded_table : Coded TableView
coded_table =
    code_by (Sessions × ℕ) (coded× coded_sessions coded_ℕ)
    (λ t. (t.sessions, t.given)) (λ p. record { sessions = p.0; given = p.1 }) (λ _. refl)
