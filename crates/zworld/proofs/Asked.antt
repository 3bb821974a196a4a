-- What the master and the clients are asked, by their standings.
use Rattle.std.proofs.Common.{◌≡◌, ◌<◌, ℕ, true, Bor, Option, None, Some, List, length, get_or, sym, ap, refl, ◌∙◌}
use Rattle.std.specs.Option.{option_copied}
use mathlib.Core.Bool.{true≢false}
use Rattle.zprotocol.specs.declared.process.Process.{Process}
use Rattle.zprotocol.specs.declared.process.Process.TheVariants.{Master, Client}
use Rattle.zprotocol.specs.Places.{place_of}
use Rattle.zactor.specs.Acting.{TreeStanding, can_stand, client_in, master_in}
use Rattle.zprotocol.specs.world.Does.{AtMaster, AtServer, AtClient, Out}
use Rattle.zworld.specs.Held.{client_of, master_of, standing_at}
use Rattle.zworld.proofs.Giving.{standing_read}

-- the master is there, and each client is
pub master_there : (standing : TreeStanding) → can_stand Master standing ≡ true → master_in standing ≡ Some (master_of standing)
master_there (AtMaster v) can = refl
master_there (AtServer v) can = absurd (true≢false (sym can))
master_there (AtClient v) can = absurd (true≢false (sym can))
master_there Out can = absurd (true≢false (sym can))

pub client_there : (c : ℕ) (standing : TreeStanding) → can_stand (Client c) standing ≡ true → client_in standing ≡ Some (client_of standing)
client_there c (AtClient v) can = refl
client_there c (AtMaster v) can = absurd (true≢false (sym can))
client_there c (AtServer v) can = absurd (true≢false (sym can))
client_there c Out can = absurd (true≢false (sym can))

-- so what is read at the master's position is the master
pub master_asked : (actors : List TreeStanding) (was : TreeStanding) → 0 < length actors → was ≡ get_or actors 0 was
    → ((p : Process) → can_stand p (standing_at actors p) ≡ true) → master_in was ≡ Some (master_of (standing_at actors Master))
master_asked actors was inside read stand =
    ap master_in (sym (standing_read actors Master 0 was refl inside read)) ∙ master_there (standing_at actors Master) (stand Master)

-- and what is read at a client's is that client
pub client_asked : (actors : List TreeStanding) (c place : ℕ) (was : TreeStanding) → place ≡ place_of (Client c) → place < length actors
    → was ≡ get_or actors place was
    → ((p : Process) → can_stand p (standing_at actors p) ≡ true) → client_in was ≡ Some (client_of (standing_at actors (Client c)))
client_asked actors c place was at inside read stand =
    ap client_in (sym (standing_read actors (Client c) place was at inside read)) ∙ client_there c (standing_at actors (Client c)) (stand (Client c))

-- none was asked, though one was there
pub nobody_asked : {A : Type 0} (asked : Option (Bor A)) (o : Option A) (x : A) → option_copied asked ≡ o → o ≡ Some x → asked ≡ None → ⊥
nobody_asked asked o x copied some none = let never : Some x ≡ None = sym some ∙ sym copied ∙ ap option_copied none in cc never
