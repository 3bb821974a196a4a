-- All that a request asks for of watches is granted.
use Rattle.std.proofs.Common.{ℕ, List, inl}
use Rattle.ztree.specs.Tree.{Tree}
use Rattle.zcalls.specs.declared.call.Call.{Call}
use Rattle.zcalls.specs.declared.reply.Reply.{Reply}
use Rattle.zjute.specs.declared.request.Asked.{Asked}
use Rattle.zjute.specs.declared.request.Asked.TheVariants as asked
use Rattle.zjute.specs.WatchNumbers.{type_of}
use Rattle.zresponses.specs.effects.Watching.{granted_all}
use Rattle.zresponses.specs.effects.Wishes.{wishes}
use Rattle.zfront_laws.specs.watches.Watching.{Asking}
use Rattle.zfront_laws.proofs.watches_lemmas.Adding.{add_grants, check_grants, each_grants, end_grants}
use Rattle.zfront_laws.proofs.watches_lemmas.Again.{set_grants}
use Rattle.zfront_laws.proofs.watches_lemmas.Granting.{Grants, grants_nothing, look_grants}
use Rattle.zfront_laws.proofs.watches_lemmas.Renewing.{AsksIf}
use Rattle.zfront_laws.proofs.watches_lemmas.Wishing.{AreOf}

pub wishes_grant : {Asks : Asking} (c : ℕ) (t : Tree) (asks : Asked) (calls : List Call) (replies : List Reply) → Asks c asks
    → AsksIf asks calls → AreOf t calls replies
    → Grants Asks (granted_all c (wishes asks calls replies)) t.nodes
wishes_grant c t (asked.Exists look) calls replies mine named all = look_grants c t look calls replies all
wishes_grant c t (asked.GetData look) calls replies mine named all = look_grants c t look calls replies all
wishes_grant c t (asked.GetChildren look) calls replies mine named all = look_grants c t look calls replies all
wishes_grant c t (asked.GetChildren2 look) calls replies mine named all = look_grants c t look calls replies all
wishes_grant c t (asked.SetWatches set) calls replies mine named all = set_grants c t set (inl mine) calls replies named all
wishes_grant c t (asked.SetWatches2 set) calls replies mine named all = each_grants c t set mine calls replies named all
wishes_grant c t (asked.AddWatch add) calls replies mine named all = add_grants c t.nodes add mine calls named
wishes_grant c t (asked.CheckWatches at) calls replies mine named all = check_grants c t.nodes (type_of at.kind) calls
wishes_grant c t (asked.RemoveWatches at) calls replies mine named all = end_grants c t.nodes at mine calls named
wishes_grant c t other calls replies mine named all = grants_nothing t.nodes
