-- Calls that are made one after the other.
use Rattle.std.proofs.Common.{◌≡◌, ℕ, ◌+◌, ◌<◌, suc, List, ◌∷◌, ◌++◌, length, drop, get_or, sym, ap, add-one, drop-cons}
use Rattle.zcalls.specs.declared.call.Call.{Call}
use Rattle.zcalls.specs.declared.reply.Reply.{Reply}
use Rattle.zfront.specs.Front.{FrontView, asked, replies_to}

-- a list from an index on begins with the element at that index
pub ahead : {T : Type 0} (xs : List T) (i : ℕ) (x : T) → i < length xs → x ≡ get_or xs i x → drop i xs ≡ x ∷ drop (i + 1) xs
ahead xs i x below is = rw (add-one, drop-cons xs i x below) (ap (λ y. y ∷ drop (suc i) xs) (sym is))

-- those up to a position were made, and these are the replies to them
pub record HasAsked (old : FrontView) (calls : List Call) (i : ℕ) (v : FrontView) (replies : List Reply) : Type 0 where
  pub replies_are : replies ++ replies_to (drop i calls) v ≡ replies_to calls old
  pub view_is : asked (drop i calls) v ≡ asked calls old
