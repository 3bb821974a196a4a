-- The flags of the servers whose failure notice is stored.
use Rattle.std.proofs.Common.{◌≡◌, Bool, false, List, [], refl}
use Rattle.zprotocol.specs.declared.process.Process.{Process}
use Rattle.zprotocol.specs.declared.process.Process.TheVariants.{Master, Server, Client}
use Rattle.zworld.specs.links.Places.{Sent, is_noted, links_of, sent_of}
use Rattle.zworld.specs.links.support.Counts.{passing}
use Rattle.zworld.proofs.links_lemmas.Counts.{fails_at}

-- where none is counted there is none
pub none_noted : (noted : List Bool) → passing (λ b. b) noted ≡ 0 → (p : Process) → is_noted noted p ≡ false
none_noted noted none Master = refl
none_noted noted none (Server s) = fails_at (λ b. b) noted s false refl none
none_noted noted none (Client c) = refl

-- and where nothing was sent either, all channels are empty
pub none_kept : {T : Type 0} (sent : Sent T) (noted : List Bool) → sent ≡ [] → ((p : Process) → is_noted noted p ≡ false)
    → (from to : Process) → links_of {T = T} (record { sent = sent; noted = noted }) from to ≡ []
unfolding links_of sent_of
none_kept sent noted nothing none from to = rw (nothing, none from) refl
