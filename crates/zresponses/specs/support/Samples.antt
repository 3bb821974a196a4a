-- Samples for the worked examples.
use Rattle.std.specs.Prelude.{List, ℕ, [], ◌∷◌, pos, codes, Some, false}
use Rattle.ztree.specs.support.Samples.{at_a_b}
use Rattle.zcalls.specs.declared.call.Create.{Create}
use Rattle.zcalls.specs.declared.call.Expected.TheVariants.{Any}
use Rattle.zcalls.specs.declared.call.SetAcl.{SetAcl}
use Rattle.zcalls.specs.declared.call.Lifetime.TheVariants.{Ephemeral, WithTtl, Container}
use Rattle.zcalls.specs.Part.{named, sequential}
use Rattle.zjute.specs.declared.stat.StatRecord.{StatRecord as ReportedStat}
use Rattle.zjute.specs.declared.request.CreateRequest.{CreateRequest as AskedCreate}
use Rattle.zjute.specs.declared.request.AtVersion.{AtVersion}
use Rattle.zjute.specs.declared.request.SetAclRequest.{SetAclRequest}
use Rattle.zjute.specs.declared.request.Look.{Look}
use Rattle.zrequests.specs.Terms.{profile}
use Rattle.zresponses.specs.Answers.{open_acls}
use Rattle.zresponses.specs.declared.clock.Clock.{Clock}
use Rattle.zresponses.specs.declared.clock.Now.{Now}

-- a service of the profile that began at 1,000,000 milliseconds, with ticks of 2,000 and no base of
-- zxids
abbrev pub clock : Clock
clock = record { terms = profile 2000; started = 1000000; base = 0 }

-- after change 20, at tick 21
abbrev pub now : Now
now = record { zxid = 20; time = 21 }

-- the stat for a client whose numbers all differ
abbrev pub reported_stat : ReportedStat
reported_stat = record {
  czxid = pos 1;
  mzxid = pos 2;
  ctime = pos 1008000;
  mtime = pos 1010000;
  version = pos 6;
  cversion = pos 8;
  aversion = pos 13;
  ephemeral_owner = pos 9;
  data_length = pos 2;
  num_children = pos 11;
  pzxid = pos 3;
}

-- creates beneath /a: an ephemeral of session 9, a node with a TTL, and a container
abbrev pub create_b : Create
create_b = record { path = at_a_b; kind = sequential (Ephemeral 9); bytes = 7 ∷ 8 ∷ 9 ∷ [] }

abbrev pub timed_b : Create
timed_b = record { path = at_a_b; kind = named (WithTtl 5); bytes = [] }

abbrev pub container_b : Create
container_b = record { path = at_a_b; kind = named Container; bytes = [] }

-- the stats for a client of the nodes that they made
abbrev pub reported_of_b : ReportedStat
reported_of_b = record {
  czxid = pos 20;
  mzxid = pos 20;
  ctime = pos 1042000;
  mtime = pos 1042000;
  version = pos 0;
  cversion = pos 0;
  aversion = pos 0;
  ephemeral_owner = pos 9;
  data_length = pos 3;
  num_children = pos 0;
  pzxid = pos 20;
}

abbrev pub reported_of_timed : ReportedStat
reported_of_timed = record reported_of_b { ephemeral_owner = pos 0; data_length = pos 0 }

-- a write of the ACL of /a/b, at any version
abbrev pub to_list_b : SetAcl
to_list_b = record { path = at_a_b; version = Any }

-- the text of /a/b, and requests for it
abbrev pub text_a_b : List ℕ
text_a_b = codes "/a/b"

abbrev pub asked_b : AskedCreate
asked_b = record { path = Some text_a_b; bytes = Some []; acls = Some []; flags = pos 3 }

abbrev pub at_b : AtVersion
at_b = record { path = Some text_a_b; version = pos 7 }

abbrev pub set_acl_b : SetAclRequest
set_acl_b = record { path = Some text_a_b; acls = Some open_acls; version = pos 0 }

abbrev pub look_b : Look
look_b = record { path = Some text_a_b; watch = false }

-- a read of this path
abbrev pub look_of : List ℕ → Look
look_of path = record { path = Some path; watch = false }
