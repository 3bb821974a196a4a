-- What a player holds between two blocks of a script.
use Rattle.std.specs.Prelude.{◌≡◌, ℕ, List, [], ◌++◌, take}
use Rattle.std.specs.Coded.{Coded, code_by, coded×, coded_ℕ, coded_list}
use Rattle.std.proofs.Common.{refl}
use Rattle.zworld.specs.Held.{Held}
use Rattle.zworld.specs.support.Codes.{coded_held}
use Rattle.zscript.specs.Line.{ServiceWorld}
use Rattle.zscript.specs.Done.{world_between}
use Rattle.zscript.specs.declared.limits.TheConstants.{KEPT}

-- What its world holds, what is stored of the line that has begun, and the replies that are not
-- written yet.
pub record PlayerView : Type 0 where
  pub world : Held
  pub line : List ℕ
  pub held : List ℕ

-- A player of these.
abbrev pub player_view : Held → List ℕ → List ℕ → PlayerView
player_view world line held = record { world = world; line = line; held = held }

-- How it is stored.
abbrev pub coded_player_view : Coded PlayerView
coded_player_view = code_by (Held × (List ℕ × List ℕ)) (coded× coded_held (coded× (coded_list coded_ℕ) (coded_list coded_ℕ)))
    (λ p. (p.world, (p.line, p.held)))
    (λ q. record { world = q.0; line = q.1.0; held = q.1.1 }) (λ _. refl)

-- The world that it represents, between two lines.
abbrev pub world_now : PlayerView → ServiceWorld
world_now p = world_between p.world

-- A player that has read nothing yet, or holds nothing of what it has read.
abbrev pub IsFresh : PlayerView → Type 0
IsFresh p = (p.line ≡ []) × (p.held ≡ [])

-- What is stored of a line: no more than shows that it is too long.
unfoldable pub kept_front : List ℕ → List ℕ
kept_front line = take KEPT line

-- The beginning of a text was written, and the rest is held.
pub record Reports (took : List ℕ → Type 0) (text held : List ℕ) : Type 0 where
  pub front : List ℕ
  pub taken : took front
  pub split : text ≡ front ++ held
