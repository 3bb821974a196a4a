-- What a record does while a state is being loaded.
use Rattle.std.proofs.Common.{◌≡◌, ℕ, ◌≤◌, true, List, [], ◌∷◌, length, Option, None, Some, refl, sym, ap, subst, arith}
use Rattle.std.specs.Prelude.{◌==◌}
use Rattle.std.proofs.lemmas.Bool.Decides.{nat_tests}
use Rattle.zprotocol.specs.declared.process.Process.{Process}
use Rattle.zserver.specs.Server.{TreeMessage}
use Rattle.zwire.specs.declared.limits.TheConstants.{MAX_FRAME}
use Rattle.zpeers.specs.declared.fault.PeerFault.{PeerFault}
use Rattle.zpeers.specs.declared.fault.PeerFault.TheVariants as fault
use Rattle.zpeers.specs.declared.tags.TheConstants.{END}
use Rattle.zpeers.specs.Records.{LinkRecord}
use Rattle.zpeers.specs.Incoming.{ArrivingView, Accepts, IsFaultAt, IsPeerFault}
use Rattle.zpeers.specs.support.Arriving.{IsFinished}

pub no_bytes : (bytes : List ℕ) → (length bytes == 0) ≡ true → bytes ≡ []
no_bytes [] is = refl
no_bytes (x ∷ xs) is = absurd (grind (arith, nat_tests, is))

pub end_accepted : (slot new : Option ArrivingView) (a : ArrivingView) (bytes : List ℕ) (m : TreeMessage) → slot ≡ Some a → bytes ≡ []
    → new ≡ None → IsFinished a m → (own from : Process) → Accepts own from (record { tag = END; bytes = bytes }) slot new (Some m)
end_accepted slot new a bytes m is empty none f own from =
    subst (λ (s : Option ArrivingView). Accepts own from (record { tag = END; bytes = bytes }) s new (Some m)) (sym is)
    (f.0, ap (λ (bs : List ℕ). record { tag = END; bytes = bs }) empty, f.1, f.2, f.3, none)

-- the fault of a record that isn't too long
pub peer_fault : (own from : Process) (r : LinkRecord) (loaded : Option ArrivingView) (it : PeerFault) → length r.bytes ≤ MAX_FRAME
    → IsFaultAt own from r loaded it → IsPeerFault own from r loaded it
peer_fault own from r loaded fault.TooLong short is = absurd is
peer_fault own from r loaded fault.NoTag short is = (short, is)
peer_fault own from r loaded fault.RowsAwaited short is = (short, is)
peer_fault own from r loaded fault.NothingLoaded short is = (short, is)
peer_fault own from r loaded (fault.Contents it) short is = (short, is)
peer_fault own from r loaded fault.OtherSender short is = (short, is)
peer_fault own from r loaded fault.OtherReceiver short is = (short, is)
peer_fault own from r loaded (fault.Row it) short is = (short, is)
peer_fault own from r loaded fault.NotEmpty short is = (short, is)
peer_fault own from r loaded fault.Unfinished short is = (short, is)
peer_fault own from r loaded fault.Memory short is = (short, is)
