use Rattle.std.proofs.Common.{rules, tests, Some, sym, ap, ◌∙◌}
use Rattle.std.proofs.lemmas.Iterator.{YieldsList-from_slice}
use Rattle.std.proofs.lemmas.Iterator.Search.{all_from_yields_List}
use Rattle.zrequests.specs.Asking.{has_open_acl, is_open}
use Rattle.zrequests.proofs.Open.{open_list}
use Rattle.zrequests.proofs.words.is_open_acl.Goals as goal

pub returns-then-not-is_empty : goal.returns-then-not-is_empty
returns-then-not-is_empty c =
    let acls = c.as_slice-acls.result.now in
    all_from_yields_List is_open _ _ _ c.all.ensures.ran (YieldsList-from_slice acls c.iter.ensures.rest) (λ x b q k. search (rules, tests))
    ∙ open_list acls c.is_empty.result c.is_empty.ensures c.if-not-is_empty.true
    ∙ sym (ap has_open_acl (c.in-Some.is ∙ ap Some (sym c.as_slice-acls.ensures.acls)))
