-- Samples for the worked examples.
use Rattle.std.specs.Prelude.{ℕ, List, [], ◌∷◌, pos, negsuc, codes, Option, None, Some, Err, false}
use Rattle.zjute.specs.declared.acl.Acl.{Acl}
use Rattle.zjute.specs.declared.code.Code.TheVariants.{BadArguments, InvalidAcl, MarshallingError, Unimplemented, AuthFailed}
use Rattle.zjute.specs.declared.request.CreateRequest.{CreateRequest}
use Rattle.zjute.specs.declared.request.CreateTtl.{CreateTtl}
use Rattle.zjute.specs.declared.request.AtVersion.{AtVersion}
use Rattle.zjute.specs.declared.request.SetDataRequest.{SetDataRequest}
use Rattle.zjute.specs.declared.request.SetAclRequest.{SetAclRequest}
use Rattle.zjute.specs.declared.request.Look.{Look}
use Rattle.zrequests.specs.declared.fault.Unasked.TheVariants.{Refused}
use Rattle.zrequests.specs.Asking.{Meaning}
use Rattle.zrequests.specs.Terms.{Terms, profile}

-- the terms of the profile, and small ones, with a tick of 2,000 milliseconds
abbrev pub terms : Terms
terms = profile 2000

abbrev pub small : Terms
small = record { tick = 2000; bytes = 1; parts = 1 }

-- refusals, one for each code
abbrev pub bad : {A : Type 0} → Meaning A
bad = Err (Refused BadArguments)

abbrev pub unimplemented : {A : Type 0} → Meaning A
unimplemented = Err (Refused Unimplemented)

abbrev pub invalid_acl : {A : Type 0} → Meaning A
invalid_acl = Err (Refused InvalidAcl)

abbrev pub auth_failed : {A : Type 0} → Meaning A
auth_failed = Err (Refused AuthFailed)

abbrev pub marshalling : {A : Type 0} → Meaning A
marshalling = Err (Refused MarshallingError)

-- the entry of the open ACL
abbrev pub open_entry : Acl
open_entry = record { perms = pos 31; scheme = Some (codes "world"); id = Some (codes "anyone") }

-- the text of /a
abbrev pub text_a : Option (List ℕ)
text_a = Some (codes "/a")

-- requests for /a
abbrev pub create_a : CreateRequest
create_a = record { path = text_a; bytes = None; acls = Some (open_entry ∷ []); flags = pos 1 }

abbrev pub timed_a : CreateTtl
timed_a = record { create = record create_a { flags = pos 5 }; ttl = pos 3000 }

abbrev pub at_version : AtVersion
at_version = record { path = text_a; version = negsuc 1 }

abbrev pub set_a : SetDataRequest
set_a = record { path = text_a; bytes = Some (7 ∷ []); version = negsuc 0 }

abbrev pub set_acl_a : SetAclRequest
set_acl_a = record { path = text_a; acls = Some (open_entry ∷ []); version = pos 0 }

abbrev pub look_a : Look
look_a = record { path = text_a; watch = false }
