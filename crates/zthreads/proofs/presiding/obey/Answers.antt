use Rattle.std.proofs.Common.{◌≡◌, ◌++◌, [], ◌∷◌, None, map, sym, ap, ◌∙◌, subst, option_to_list}
use Rattle.std.proofs.lemmas.List.{append_cancel_right}
use Rattle.zchannels.specs.Outcomes.{order_of}
use Rattle.zthreads.specs.Endpoints.{trace_of}
use Rattle.zprotocol.specs.declared.traces.trace.Act.TheVariants.{Ordered}
use Rattle.zthreads.specs.Acts as acts
use Rattle.zthreads.specs.Outcomes.{outcome_at, unfollowed, unsaid}
use Rattle.zthreads.specs.Said.{spoken, WereSaid}
use Rattle.zthreads.specs.Owned.{master_view}
use Rattle.zthreads.proofs.Orders.{followed_more}
use Rattle.zthreads.proofs.Outcomes.{order_of-outcome_at}
use Rattle.zthreads.proofs.Said.{all_still_said, goes_more, goes_same, one_more_said}
use Rattle.zthreads.proofs.presiding.obey.Goals as goal

pub returns-in-Some-clause-followed : goal.returns-in-Some-clause-followed
returns-in-Some-clause-followed c received followed =
    let a = c.args.chief.now.host.endpoint in
    let b = c.follow.new.self.host.endpoint in
    let order = c.in-Deed.order in
    let is : option_to_list (unfollowed c.args.owed) ≡ acts.order_of (Ordered order) ++ [] =
    ap (λ o. option_to_list (unfollowed o)) c.in-Deed.is in
    followed_more a b (Ordered order) [] received (unfollowed c.args.owed) None c.in-Some.ensures.done is followed

pub returns-in-Some-clause-unsaid : goal.returns-in-Some-clause-unsaid
returns-in-Some-clause-unsaid c =
    let order = c.in-Deed.order in
    ap (λ o. order_of o ∷ []) c.in-Some.ensures.said
    ∙ ap (λ o. o ∷ []) (order_of-outcome_at (master_view c.args.chief.now) order)
    ∙ sym (ap (λ o. unsaid o) c.in-Deed.is)

pub returns-in-Some-clause-said : goal.returns-in-Some-clause-said
returns-in-Some-clause-said c before followed were =
    let t = c.args.chief.now in
    let a = t.host.endpoint in
    let b = c.follow.new.self.host.endpoint in
    let view = master_view t in
    let order = c.in-Deed.order in
    let outcome = c.in-Some.outcome in
    let did = c.in-Some.ensures.done in
    let said = c.in-Some.ensures.said in
    let is : order_of outcome ≡ order = ap (λ o. order_of o) said ∙ order_of-outcome_at view order in
    let waits : unsaid c.args.owed ≡ order ∷ [] = ap (λ o. unsaid o) c.in-Deed.is in
    let asked : option_to_list (unfollowed c.args.owed) ≡ order ∷ [] = ap (λ o. option_to_list (unfollowed o)) c.in-Deed.is in
    let were_said : WereSaid a [] before = subst (λ os. WereSaid a [] os) (ap (λ o. spoken before o) c.in-Deed.is) were in
    one_more_said b [] before outcome (all_still_said a b [] before c.follow.ensures.same (goes_more a b (Ordered order) [] did) were_said)
    (record {
      at = a;
      view = view;
      same = c.follow.ensures.same;
      stood = c.in-Some.ensures.stood;
      table = said ∙ ap (λ o. outcome_at view o) (sym is);
      had = λ cut.
          let e = did cut in
          record {
            rest = record { stamp = b.stamp; act = Ordered order } ∷ [];
            trace = e.trace;
            followed = sym (append_cancel_right (map order_of before) (acts.orders_in (trace_of a)) (order ∷ [])
                (ap (λ l. map order_of before ++ l) (sym waits) ∙ followed e.whole ∙ ap (λ l. acts.orders_in (trace_of a) ++ l) asked));
          };
    })

pub returns-in-None-clause-said : goal.returns-in-None-clause-said
returns-in-None-clause-said c before followed were =
    let a = c.args.chief.now.host.endpoint in
    let b = c.follow.new.self.host.endpoint in
    all_still_said a b [] before c.follow.ensures.same (goes_same a b c.in-None.ensures.idle)
    (subst (λ os. WereSaid a [] os) (ap (λ o. spoken before o) c.in-Deed.is) were)
