use Rattle.std.proofs.Common.{◌≡◌, ◌+◌, ◌++◌, ◌∷◌, [], Some, length, refl, sym, ap, subst, ◌∙◌, append_assoc, append-nil, length-append}
use Rattle.std.specs.Prelude.{IsSome}
use Rattle.std.specs.declared.vec.Vec.{Vec}
use Rattle.std.specs.declared.alloc.Global.{Global}
use Rattle.std.specs.declared.option.Option.{Option}
use Rattle.std.proofs.lemmas.List.{nil_from_length}
use Rattle.std.proofs.lemmas.List.Elements.{All-push, All-same}
use Rattle.zthreads.specs.declared.caller.Caller.{Caller}
use Rattle.zthreads.specs.Callers.{caller_endpoint, caller_id}
use Rattle.ztree.proofs.Maps.{same_some}
use Rattle.zrun.specs.declared.client.Client.{Client}
use Rattle.zrun.specs.declared.posts.ClientPost.{ClientPost}
use Rattle.zrun.specs.Clients.{AreIn, BelongsTo, number_of}
use Rattle.zrun.specs.Origins.{endpoint_wiring, IsOneOf}
use Rattle.zrun.proofs.Places.{each_push, next_number, next_one}
use Rattle.zrun.proofs.clients.Clients.new.Goals as goal

pub loop-post-preserved : goal.loop-post-preserved
loop-post-preserved c =
    let i = c.loop-post.invariant in
    let run = c.args.posts.items in
    let yielded = c.loop-post.yielded in
    let post = c.in-Some.post in
    let rest = c.next.new.self.rest.items in
    let places = c.loop-post.places.items in
    let client = c.introduce.result in
    let step = c.in-Some.ensures.steps.0 in
    let all = i.0 ∙ ap (λ l. yielded ++ l) step in
    let grown = c.in_ok-push.ensures.items in
    let made : client.caller ≡ post.caller = c.introduce.ensures in
    let here : BelongsTo run client =
    subst (λ (x : Caller). IsOneOf run (caller_id x) (endpoint_wiring (caller_endpoint x))) (sym made) (next_one run yielded rest post c.requires all) in
    let number : number_of client ≡ length places = ap caller_id made ∙ next_number run yielded rest post c.requires all ∙ sym i.1 in (
      all ∙ sym (append_assoc yielded (post ∷ []) rest),
      ap length grown ∙ length-append places (Some client ∷ []) ∙ ap (λ n. n + 1) i.1 ∙ sym (length-append yielded (post ∷ [])),
      i.2,
      subst (λ l. AreIn run l) (sym grown)
          (each_push (λ k (place : Option Client). (x : Client) → place ≡ Some x → BelongsTo run x × (number_of x ≡ k)) places (Some client) i.3
          (λ x is. subst (λ (y : Client). BelongsTo run y × (number_of y ≡ length places)) (same_some client x is) (here, number))),
      All-same IsSome c.push.new.self.items (places ++ Some client ∷ []) grown (All-push IsSome places (Some client) i.4 refl),
    )

pub invariant_of-result : goal.invariant_of-result
invariant_of-result c =
    let i = c.loop-post.invariant in
    let posts = c.args.posts in
    let yielded = c.loop-post.yielded in
    let rest = c.loop-post.post-iterator.rest in
    let ended : rest.items ≡ [] = nil_from_length rest.items (sym rest.ok.0 ∙ c.in-None.ensures.steps.0) in
    let all : posts.items ≡ yielded = i.0 ∙ ap (λ l. yielded ++ l) ended ∙ append-nil yielded in
    let is : c.of-run.result.value ≡ posts = i.2 in
    record {
      many = i.1 ∙ ap length (sym all) ∙ ap (λ (v : Vec ClientPost Global). length v.items) (sym is);
      own = subst (λ (v : Vec ClientPost Global). AreIn v.items c.loop-post.places.items) (sym is) i.3;
    }
