-- How what a machine represents is stored, by the codes of its parts: a proof distinguishes
-- machines by them.
use Rattle.std.specs.Prelude.{ℕ, Bool, refl}
use Rattle.std.specs.Coded.{Coded, code_by, coded×, coded_ℕ, coded_bool}
use Rattle.std.specs.Ordering.{nat_cmp}
use Rattle.std.specs.FinMap as finite
use Rattle.ztree.specs.Tree.{Tree}
use Rattle.ztree.specs.support.Codes.{coded_tree}
use Rattle.zcalls.specs.declared.reply.Reply.{Reply}
use Rattle.zcalls.specs.contracts.reply.Reply as reply
use Rattle.zcalls.specs.Cached.{Cached, CachedState}
use Rattle.zops.specs.Machine.{MachineState, MachineView}

-- how a cached reply is stored
abbrev pub coded_kept : Coded Cached
coded_kept = code_by (ℕ × Reply) (coded× coded_ℕ reply.the_row.coded) (λ k. (k.number, k.reply)) (λ p. record { number = p.0; reply = p.1 }) (λ _. refl)

-- how the cached replies are stored
abbrev pub coded_replies : Coded (finite.FinMap nat_cmp Cached)
coded_replies = finite.code coded_ℕ coded_kept

-- how a tree with cached replies is stored
abbrev pub coded_service : Coded (CachedState Tree)
coded_service = code_by (Tree × finite.FinMap nat_cmp Cached) (coded× coded_tree coded_replies) (λ s. (s.plain, s.kept)) (λ p. record { plain = p.0; kept = p.1 }) (λ _. refl)

-- how a machine's state is stored
abbrev pub coded_machine_state : Coded MachineState
coded_machine_state = code_by (CachedState Tree × ℕ) (coded× coded_service coded_ℕ) (λ s. (s.service, s.applied)) (λ p. record { service = p.0; applied = p.1 }) (λ _. refl)

-- how a machine is stored
abbrev pub coded_machine_view : Coded MachineView
coded_machine_view = code_by (MachineState × Bool) (coded× coded_machine_state coded_bool) (λ m. (m.state, m.is_broken)) (λ p. record { state = p.0; is_broken = p.1 }) (λ _. refl)
