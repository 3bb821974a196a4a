-- In lawful traces the record of a client has its own events alone.
use Rattle.std.proofs.Common.{◌≡◌, ◌==◌, ◌∷◌, [], ℕ, Bool, true, false, refl, sym, ap, subst, ◌∙◌, inl, inr, eqb-true, if◌then◌else◌}
use Rattle.zcalls.specs.Lists.{Among}
use Rattle.zcalls.specs.declared.call.Call.TheVariants.{Query}
use Rattle.zcalls.specs.declared.call.Query.TheVariants as query
use Rattle.zcalls.specs.declared.reply.Reply.TheVariants as reply
use Rattle.zprotocol.specs.server.Machine.{cached_tree}
use Rattle.zprotocol.specs.declared.world.history.CallEvent.{CallEvent}
use Rattle.zprotocol.specs.declared.world.history.CallEvent.TheVariants.{Answer, Begin}
use Rattle.zprotocol.specs.declared.traces.trace.Traces.{Traces}
use Rattle.zprotocol.specs.traces.Audit.{world_after_steps}
use Rattle.zprotocol.specs.traces.Lawful.{AreLawful}
use Rattle.zprotocol.specs.traces.Traces.{client_of, record_of, reported_of}
use Rattle.zprotocol.specs.world.History.{History}
use Rattle.zprotocol.proofs.traces_lemmas.Existence.{has_a_merge}
use Rattle.zprotocol.proofs.traces_lemmas.Simulation.{lawful_reported}
use Rattle.zrace.specs.Records.{IsRecorded}
use Rattle.zrace.specs.Shown.{IsShown}

-- of what a client's record takes of a history, all is that client's
only_own : (c : ℕ) (x e : CallEvent) (b : Bool) (rest : History) → (client_of x == c) ≡ b → (Among e rest → client_of e ≡ c)
    → Among e (if b then x ∷ rest else rest) → client_of e ≡ c
only_own c x e true rest is others (inl same) = ap client_of (sym same) ∙ eqb-true (client_of x) c is
only_own c x e true rest is others (inr among) = others among
only_own c x e false rest is others among = others among

own_reports : (c : ℕ) (history : History) (e : CallEvent) → Among e (reported_of c history) → client_of e ≡ c
own_reports c [] e among = absurd among
own_reports c (x ∷ history) e among = only_own c x e (client_of x == c) (reported_of c history) refl (own_reports c history e) among

own_event : (t : Traces) → AreLawful t → (c : ℕ) (e : CallEvent) → Among e (record_of t c) → client_of e ≡ c
own_event t lawful c e among =
    let merge = has_a_merge t in
    own_reports c (world_after_steps t merge.0).history e
    (subst (λ (h : History). Among e h) (sym (lawful_reported cached_tree t lawful.0 merge.0 lawful.1 merge.1 c)) among)

-- so what its record shows is its own
pub own_shown : (t : Traces) → AreLawful t → (c node version : ℕ) → IsShown node version (record_of t c)
    → IsRecorded c node version (record_of t c)
own_shown t lawful c node version s =
    let call = Query (query.Exists s.1) in
    let given = reply.Exists s.2 in
    let seen = record_of t c in (
      s.0,
      s.1,
      s.2,
      s.3,
      subst (λ (k : ℕ). Among (Begin k s.0 call) seen) (own_event t lawful c (Begin s.4.0 s.0 call) s.4.1) s.4.1,
      subst (λ (k : ℕ). Among (Answer k s.0 given) seen) (own_event t lawful c (Answer s.5.0 s.0 given) s.5.1) s.5.1,
      s.6,
    )
