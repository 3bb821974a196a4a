-- Of lawful traces that aren't cut nothing but out of memory is found.
use Rattle.std.proofs.Common.{◌≡◌, ℕ, true, false, refl, sym, ap, ◌∙◌}
use Rattle.std.specs.Prelude.{Result, Ok, Err, IfOk}
use mathlib.Core.Logic.{∥∥₁_elim}
use mathlib.Core.HLevel.{⊥_prop}
use Rattle.zalloc.specs.declared.memory.Memory as zpath_memory
use Rattle.zprotocol.specs.server.Machine.{cached_tree}
use Rattle.zworld.specs.Steps.{WorldView, world_in}
use Rattle.zprotocol.specs.traces.Traces.{client_count}
use Rattle.zprotocol.specs.world.World.{opening_world}
use Rattle.zprotocol.specs.declared.traces.trace.Traces.{Traces}
use Rattle.zprotocol.specs.traces.Lawful.{AreLawful}
use Rattle.zprotocol.specs.traces.Audit.{opening_of, is_any_cut, IsDisordered, IsMismatched}
use Rattle.zprotocol.proofs.traces_lemmas.Found.{lawful_not_disordered, lawful_not_mismatched}
use Rattle.zaudit.specs.declared.faults.AuditFault.{AuditFault}
use Rattle.zaudit.specs.declared.faults.AuditFault.TheVariants.{Cut, Disorder, Mismatch, Memory}

pub only_memory : (t : Traces) (fault : AuditFault) → (fault ≡ Cut → is_any_cut t ≡ true) → (fault ≡ Disorder → IsDisordered t)
    → (fault ≡ Mismatch → IsMismatched t)
    → ∥ AreLawful t ∥₁ → is_any_cut t ≡ false → fault ≡ Memory
only_memory t Cut cut disorder mismatch lawful whole =
    let both : true ≡ false = sym (cut refl) ∙ whole in
    absurd (cc both)
only_memory t Disorder cut disorder mismatch lawful whole = absurd (∥∥₁_elim lawful ⊥_prop (λ l. lawful_not_disordered t l (disorder refl)))
only_memory t Mismatch cut disorder mismatch lawful whole = absurd (∥∥₁_elim lawful ⊥_prop (λ l. lawful_not_mismatched t l (mismatch refl)))
only_memory t Memory cut disorder mismatch lawful whole = refl

pub opened_so : (t : Traces) (n : ℕ) → n ≡ client_count t → (r : Result WorldView zpath_memory.Memory)
    → IfOk r (λ w. world_in w ≡ opening_world cached_tree t.last n)
    → IfOk r (λ w. opening_of t ≡ world_in w)
opened_so t n count (Ok w) same = sym (same ∙ ap (opening_world cached_tree t.last) count)
opened_so t n count (Err memory) same = tt
