use Rattle.std.proofs.Common.{◌≡◌, ◌∙◌, ℕ, List, [], Ok, refl, sym, ap}
use Rattle.zcodec.specs.Forms.{number_at}
use Rattle.zcodec.specs.Readers.{whole}
use Rattle.zjute.specs.Asking.{request, asked, asked_at, late_ops, middle_ops, op_of}
use Rattle.zjute.specs.Frames.{Whole, next_of}
use Rattle.zjute.specs.Jute.{int}
use Rattle.zjute.specs.declared.request.Asked.TheVariants as asks
use Rattle.zjute.specs.declared.request.Auth.{Auth}
use Rattle.zjute.specs.declared.request.Request.{Request}
use Rattle.zguard.specs.Laws.{GaveLogin}
use Rattle.zguard.specs.support.Samples.{greeting, greeting_frame, ping, ping_frame}
use Rattle.zguard.proofs.Cutting.{next_more}
use Rattle.zguard_laws.proofs.Frames.{nothing_none, one_alone}
use Rattle.zguard_laws.proofs.rows.who_has_given.Goals as goal

greets : next_of greeting_frame ≡ Whole greeting []
unfolding next_of
greets = refl

asks_ping : next_of ping_frame ≡ Whole ping []
unfolding next_of
asks_ping = refl

none_given : (logins : List (List ℕ)) → GaveLogin logins [] → ⊥
none_given logins gave = nothing_none gave.greeting gave.more gave.first

same_whole : (a b x y : List ℕ) → Whole a x ≡ Whole b y → (a ≡ b) × (x ≡ y)
same_whole a b x y is = (cc, cc)

ping_reads : (r : Request) → whole request ping ≡ Ok r → r.asked ≡ asks.Ping
unfolding request asked asked_at op_of middle_ops late_ops int number_at
ping_reads r reads = cc reads

no_auth : (auth : Auth) → asks.Ping ≡ asks.Auth auth → ⊥
no_auth auth is = cc is

pub returns-clause-nothing : goal.returns-clause-nothing
returns-clause-nothing c logins gave = gave

pub returns-clause-greeting : goal.returns-clause-greeting
returns-clause-greeting c logins gave =
    one_alone greeting_frame greeting [] greets nothing_none gave.greeting gave.more gave.login gave.rest gave.first gave.second

pub returns-clause-request : goal.returns-clause-request
returns-clause-request c logins gave =
    let more = (same_whole greeting gave.greeting ping_frame gave.more
    (sym (next_more greeting_frame ping_frame greeting [] greets).0 ∙ gave.first)).1 in
    let login = (same_whole ping gave.login [] gave.rest (sym asks_ping ∙ ap next_of more ∙ gave.second)).0 in
    let is = gave.is_login in
    no_auth is.auth (sym (ping_reads is.asked_for (ap (whole request) login ∙ is.reads)) ∙ is.is_auth)

pub returns-clause-login : goal.returns-clause-login
returns-clause-login c logins more login rest second is = record {
  greeting = greeting;
  more = more;
  login = login;
  rest = rest;
  first = (next_more greeting_frame more greeting [] greets).0;
  second = second;
  is_login = is;
}

pub returns-clause-other : goal.returns-clause-other
returns-clause-other c logins bytes gave = none_given logins gave

pub returns-clause-earlier : goal.returns-clause-earlier
returns-clause-earlier c logins bytes gave = gave
