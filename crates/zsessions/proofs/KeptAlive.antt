-- A session that is renewed.
use Rattle.std.proofs.Common.{◌≡◌, ◌≢◌, ◌⊎◌, inl, inr, ℕ, ◌+◌, Some, None, false, sym, ap, ◌∙◌}
use Rattle.std.specs.Prelude.{◌==◌}
use Rattle.std.specs.Option.{option_map_or}
use Rattle.std.specs.FinMap.{get, insert, nat_cmp-IsAntisymmetric}
use Rattle.std.specs.Cmp.{nat_cmp_total}
use Rattle.ztree.proofs.Maps.{get-insert-here, get-insert-elsewhere}
use Rattle.ztree.specs.Tree.{Sessions}
use Rattle.ztree.specs.Sessions.{renewed_session}
use Rattle.ztree.specs.declared.session.Session.{Session}
use Rattle.zsessions.specs.Deadlines.{with_deadline, with_renewed, is_held_by}
use Rattle.zsessions.proofs.Read.{same_number, same_sessions}

pub held-none : (m : Sessions) (client id : ℕ) → get m id ≡ None → is_held_by m client id ≡ false
held-none m client id none = ap (λ o. option_map_or (λ (s : Session). s.client == client) o false) none

module _ (m : Sessions) (id : ℕ) (s : Session) (there : get m id ≡ Some s) where
  pub held-some : (client : ℕ) → is_held_by m client id ≡ (s.client == client)
  held-some client = ap (λ o. option_map_or (λ (t : Session). t.client == client) o false) there

  renewed-insert : (now : ℕ) → with_renewed m id now ≡ insert m id (renewed_session now s)
  renewed-insert now = ap (λ o. option_map_or (λ (t : Session). insert m id (renewed_session now t)) o m) there

  pub renewed-deadline : (now : ℕ) → with_deadline m id (now + s.timeout) ≡ with_renewed m id now
  renewed-deadline now =
      ap (λ o. option_map_or (λ (t : Session). insert m id (record t { deadline = now + s.timeout })) o m) there
      ∙ sym (renewed-insert now)

  -- what is there put there again
  put_again : insert m id s ≡ m
  put_again = same_sessions _ _ (λ q. by q (same_number q id))
    where
      by : (q : ℕ) → (q ≡ id) ⊎ (q ≢ id) → get (insert m id s) q ≡ get m q
      by q (inl same) =
          ap (get (insert m id s)) same ∙ get-insert-here nat_cmp_total nat_cmp-IsAntisymmetric m id s
          ∙ sym (ap (get m) same ∙ there)
      by q (inr other) = get-insert-elsewhere nat_cmp_total nat_cmp-IsAntisymmetric m id s q other

  -- renewed twice at one tick, it has the deadline that it had
  pub renewed-again : (now : ℕ) → now + s.timeout ≡ s.deadline → m ≡ with_renewed m id now
  renewed-again now same =
      sym put_again ∙ ap (λ deadline. insert m id (record s { deadline = deadline })) (sym same)
      ∙ sym (renewed-insert now)
