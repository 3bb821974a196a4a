-- What a process did, in the world.
use Rattle.std.proofs.Common.{◌≡◌, Bool, true, false, [], ◌∷◌, ◌++◌, refl, sym}
use Rattle.std.specs.Prelude.{if◌then◌else◌}
use Rattle.std.proofs.lemmas.List.{append-nil}
use Rattle.zprotocol.specs.declared.process.Process.{Process}
use Rattle.zprotocol.specs.world.History.{History}
use Rattle.zprotocol.specs.world.World.{World}
use Rattle.zprotocol.specs.world.Does.{Effect}
use Rattle.zprotocol.specs.world.Events.{goes_on, did_in}

-- a history that continues
pub goes_on_is : (history reported : History) → goes_on history reported ≡ history ++ reported
goes_on_is history [] = sym (append-nil history)
goes_on_is history (seen ∷ more) = refl

-- where it did one of two things, what holds of both worlds holds
pub by_choice : {M : Type 0} (P : World M → Type 0) (b : Bool) (w : World M) (p : Process) (x y : Effect M)
    → P (did_in w p x) → P (did_in w p y) → P (did_in w p (if b then x else y))
by_choice P true w p x y first second = first
by_choice P false w p x y first second = second
