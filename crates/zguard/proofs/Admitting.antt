-- Who is admitted by a frame gave a login by it.
use Rattle.std.proofs.Common.{◌≡◌, ℤ, ℕ, Bool, true, false, List, [], length, drop, Option, None, Some, Result, Ok, Err, refl}
use Rattle.std.specs.Prelude.{nat_lt, if◌then◌else◌}
use Rattle.std.specs.Ordering.{int_eq}
use Rattle.zcodec.specs.declared.fault.Fault.{Fault}
use Rattle.zcodec.specs.Readers.{whole}
use Rattle.zjute.specs.Asking.{request}
use Rattle.zjute.specs.Frames.{Front, Whole, Partial, TooLong, next_of}
use Rattle.zjute.specs.declared.code.Code.TheVariants.{AuthFailed, SessionClosedRequireSaslAuth}
use Rattle.zjute.specs.declared.request.Asked.{Asked}
use Rattle.zjute.specs.declared.request.Asked.TheVariants as asks
use Rattle.zjute.specs.declared.request.Auth.{Auth}
use Rattle.zjute.specs.declared.request.Request.{Request}
use Rattle.zguard.specs.declared.limits.TheConstants.{AUTH, MAX_KEPT}
use Rattle.zguard.specs.Judging.{VerdictView, Waits, Admits, Refuses, asked_judged, auth_judged, by_head, front_judged, gives_login, head_of, judged, part_judged, refusal, request_judged}
use Rattle.zguard.specs.Laws.{IsLogin}

refused_never : (answer : List ℕ) → Refuses answer ≡ Admits → ⊥
refused_never answer e = cc e

waits_never : Waits ≡ Admits → ⊥
waits_never e = cc e

-- by its head alone no frame admits
head_admits : (head : Option (ℤ × ℤ)) (headless of_auth : VerdictView) → (headless ≡ Admits → ⊥) → by_head head headless of_auth ≡ Admits → of_auth ≡ Admits
head_admits None headless of_auth none e = absurd (none e)
head_admits (Some head) headless of_auth none e = by (int_eq head.1 AUTH) e
  where
    by : (is_auth : Bool) → (if is_auth then of_auth else Refuses (refusal head.0 SessionClosedRequireSaslAuth)) ≡ Admits → of_auth ≡ Admits
    by true e = e
    by false e = absurd (refused_never _ e)

-- nor does a part of one
part_never : (came : List ℕ) → part_judged came ≡ Admits → ⊥
part_never came e = by (nat_lt MAX_KEPT (length came)) (head_admits (head_of (drop 4 came)) Waits _ waits_never e)
  where
    by : (long : Bool) → (if long then Refuses [] else Waits) ≡ Admits → ⊥
    by true e = refused_never [] e
    by false e = waits_never e

pub record Gives (logins : List (List ℕ)) (it : Asked) : Type 0 where
  pub auth : Auth
  pub is_auth : it ≡ asks.Auth auth
  pub gives : gives_login logins auth ≡ true

asked_admits : (logins : List (List ℕ)) (xid : ℤ) (it : Asked) → asked_judged logins xid it ≡ Admits → Gives logins it
asked_admits logins xid (asks.Auth auth) e = by (gives_login logins auth) refl e
  where
    by : (gives : Bool) → gives_login logins auth ≡ gives → (if gives then Admits else Refuses (refusal xid AuthFailed)) ≡ Admits
        → Gives logins (asks.Auth auth)
    by true gives e = record { auth = auth; is_auth = refl; gives = gives }
    by false gives e = absurd (refused_never _ e)
asked_admits logins xid (asks.Create x) e = absurd (refused_never _ e)
asked_admits logins xid (asks.Delete x) e = absurd (refused_never _ e)
asked_admits logins xid (asks.Exists x) e = absurd (refused_never _ e)
asked_admits logins xid (asks.GetData x) e = absurd (refused_never _ e)
asked_admits logins xid (asks.SetData x) e = absurd (refused_never _ e)
asked_admits logins xid (asks.GetAcl x) e = absurd (refused_never _ e)
asked_admits logins xid (asks.SetAcl x) e = absurd (refused_never _ e)
asked_admits logins xid (asks.GetChildren x) e = absurd (refused_never _ e)
asked_admits logins xid (asks.Sync x) e = absurd (refused_never _ e)
asked_admits logins xid asks.Ping e = absurd (refused_never _ e)
asked_admits logins xid (asks.GetChildren2 x) e = absurd (refused_never _ e)
asked_admits logins xid (asks.Check x) e = absurd (refused_never _ e)
asked_admits logins xid (asks.Multi x) e = absurd (refused_never _ e)
asked_admits logins xid (asks.Create2 x) e = absurd (refused_never _ e)
asked_admits logins xid (asks.CheckWatches x) e = absurd (refused_never _ e)
asked_admits logins xid (asks.RemoveWatches x) e = absurd (refused_never _ e)
asked_admits logins xid (asks.CreateContainer x) e = absurd (refused_never _ e)
asked_admits logins xid (asks.CreateTtl x) e = absurd (refused_never _ e)
asked_admits logins xid (asks.MultiRead x) e = absurd (refused_never _ e)
asked_admits logins xid (asks.SetWatches x) e = absurd (refused_never _ e)
asked_admits logins xid (asks.SetWatches2 x) e = absurd (refused_never _ e)
asked_admits logins xid (asks.AddWatch x) e = absurd (refused_never _ e)
asked_admits logins xid (asks.Sasl x) e = absurd (refused_never _ e)
asked_admits logins xid (asks.GetEphemerals x) e = absurd (refused_never _ e)
asked_admits logins xid (asks.GetAllChildrenNumber x) e = absurd (refused_never _ e)
asked_admits logins xid asks.WhoAmI e = absurd (refused_never _ e)
asked_admits logins xid asks.CloseSession e = absurd (refused_never _ e)
asked_admits logins xid (asks.Other n x) e = absurd (refused_never _ e)

auth_admits : (logins : List (List ℕ)) (bytes : List ℕ) → auth_judged logins bytes ≡ Admits → IsLogin logins bytes
auth_admits logins bytes e = by (whole request bytes) refl e
  where
    by : (read : Result Request Fault) → whole request bytes ≡ read → request_judged logins read ≡ Admits → IsLogin logins bytes
    by (Err fault) is e = absurd (refused_never _ e)
    by (Ok r) is e =
        let gives = asked_admits logins r.xid r.asked e in
        record { asked_for = r; auth = gives.auth; reads = is; is_auth = gives.is_auth; gives = gives.gives }

pub record Admitted (logins : List (List ℕ)) (came : List ℕ) : Type 0 where
  pub login : List ℕ
  pub rest : List ℕ
  pub first : next_of came ≡ Whole login rest
  pub is_login : IsLogin logins login

pub judged_admits : (logins : List (List ℕ)) (came : List ℕ) → judged logins came ≡ Admits → Admitted logins came
judged_admits logins came e = by (next_of came) refl e
  where
    by : (front : Front) → next_of came ≡ front → front_judged logins came front ≡ Admits → Admitted logins came
    by (Whole login rest) is e = record {
      login = login;
      rest = rest;
      first = is;
      is_login = auth_admits logins login (head_admits (head_of login) (Refuses []) (auth_judged logins login) (refused_never []) e);
    }
    by Partial is e = absurd (part_never came e)
    by TooLong is e = absurd (refused_never _ e)
