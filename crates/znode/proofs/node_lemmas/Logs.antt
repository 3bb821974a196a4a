-- Entries among inputs, and the orders that they have.
use Rattle.std.proofs.Common.{◌≡◌, ℕ, List, [], ◌∷◌, ◌++◌, Some, Ok, refl, sym, ap, subst, ◌∙◌, append_assoc}
use Rattle.std.specs.Prelude.{option_to_list}
use Rattle.zcodec.specs.Readers.{whole}
use Rattle.zserver.specs.Server.{TreeMessage}
use Rattle.zmaster_log.specs.declared.entry.LogEntry.{LogEntry}
use Rattle.zmaster_log.specs.Bytes.{entry}
use Rattle.zmaster_log.specs.Log.{State, entry_played, log_played, order_for}
use Rattle.zpeers.specs.Records.{TreeTransfer}
use Rattle.znode.specs.pipe.Inputs.{InputView, Entry, CaughtUp, Link, Lost, Turn, Ended}
use Rattle.znode.specs.Laws.{LogOf, orders_in}

-- the entry of an input, if it is one
abbrev pub EntryOf : InputView → List LogEntry → Type 0
EntryOf (Entry index bytes) es = (e : LogEntry) × (whole entry bytes ≡ Ok e) × (es ≡ e ∷ [])
EntryOf other es = es ≡ []

log_one : (it : InputView) (es : List LogEntry) → EntryOf it es → LogOf (it ∷ []) es
log_one (Entry index bytes) es is = (is.0, [], is.1, refl, is.2)
log_one CaughtUp es is = is
log_one (Link from r) es is = is
log_one (Lost s) es is = is
log_one Turn es is = is
log_one (Ended from) es is = is

pub log_more : (inputs : List InputView) (entries : List LogEntry) (it : InputView) (es : List LogEntry)
    → LogOf inputs entries → EntryOf it es → LogOf (inputs ++ it ∷ []) (entries ++ es)
log_more [] entries it es are is = subst (λ (l : List LogEntry). LogOf (it ∷ []) (l ++ es)) (sym are) (log_one it es is)
log_more (Entry index bytes ∷ inputs) entries it es are is =
    (are.0, are.1 ++ es, are.2, log_more inputs are.1 it es are.3 is, ap (λ (l : List LogEntry). l ++ es) are.4)
log_more (CaughtUp ∷ inputs) entries it es are is = log_more inputs entries it es are is
log_more (Link from r ∷ inputs) entries it es are is = log_more inputs entries it es are is
log_more (Lost s ∷ inputs) entries it es are is = log_more inputs entries it es are is
log_more (Turn ∷ inputs) entries it es are is = log_more inputs entries it es are is
log_more (Ended from ∷ inputs) entries it es are is = log_more inputs entries it es are is

-- a log in two parts
pub played-both : (state : State) (a b : List LogEntry)
    → (log_played {T = TreeTransfer} state (a ++ b)).0 ≡ (log_played {T = TreeTransfer} (log_played {T = TreeTransfer} state a).0 b).0
played-both state [] b = refl
played-both state (e ∷ a) b = played-both (entry_played {T = TreeTransfer} state e).0 a b

pub orders-both : (own : ℕ) (state : State) (a b : List LogEntry)
    → orders_in own state (a ++ b) ≡ orders_in own state a ++ orders_in own (log_played {T = TreeTransfer} state a).0 b
orders-both own state [] b = refl
orders-both own state (e ∷ a) b =
    let did = entry_played {T = TreeTransfer} state e in
    ap (λ (l : List TreeMessage). option_to_list (order_for (Some own) did.1) ++ l) (orders-both own did.0 a b)
    ∙ sym (append_assoc (option_to_list (order_for (Some own) did.1)) (orders_in own did.0 a)
    (orders_in own (log_played {T = TreeTransfer} did.0 a).0 b))
