-- The words for tasks on a folder: this project's profile.
use Rattle.std.specs.Prelude.{◌≡◌, ℕ, if◌then◌else◌, List, [], ◌∷◌, codes, Option, Some, None}
use Rattle.std.specs.Str.{bytes_eq}
use Rattle.zdaemon.specs.Asked.{Spells}
use Rattle.zdaemon.specs.declared.tasks.Task.{Task}
use Rattle.zdaemon.specs.declared.tasks.Task.TheVariants.{Compact, Beginning, Export, Stat}

abbrev pub task_named : List ℕ → Option Task
task_named word =
    if bytes_eq word (codes "compact") then Some Compact else
    if bytes_eq word (codes "beginning") then Some Beginning else
    if bytes_eq word (codes "export") then Some Export else
    if bytes_eq word (codes "stat") then Some Stat else None

-- after the program's name a folder and a task; the number in the head of its journal, 1 to 16
abbrev pub IsTask : List (List ℕ) → Task × ℕ → Type 0
IsTask (name ∷ folder ∷ task ∷ servers ∷ []) asked = (task_named task ≡ Some asked.0) × Spells 8 servers asked.1
IsTask words asked = ⊥
