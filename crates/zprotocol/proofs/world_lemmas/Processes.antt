-- One process and another.
use Rattle.std.proofs.Common.{◌≡◌, true, refl, ap, eqb-true, eq-eqb}
use Rattle.zprotocol.specs.declared.process.Process.{Process}
use Rattle.zprotocol.specs.declared.process.Process.TheVariants.{Master, Server, Client}
use Rattle.zprotocol.specs.world.Links.{is_same}

-- two that are the same are one
pub same_process : (p q : Process) → is_same p q ≡ true → p ≡ q
same_process Master Master h = refl
same_process Master (Server t) h = cc
same_process Master (Client d) h = cc
same_process (Server s) Master h = cc
same_process (Server s) (Server t) h = ap Server (eqb-true s t h)
same_process (Server s) (Client d) h = cc
same_process (Client c) Master h = cc
same_process (Client c) (Server t) h = cc
same_process (Client c) (Client d) h = ap Client (eqb-true c d h)

-- each process is itself
pub same_itself : (p : Process) → is_same p p ≡ true
same_itself Master = refl
same_itself (Server s) = eq-eqb s s refl
same_itself (Client c) = eq-eqb c c refl
