-- A whole state: its rows make it, and each row has bytes.
use Rattle.std.proofs.Common.{◌≡◌, List, [], ◌∷◌, ◌++◌, sym, ap, ◌∙◌}
use Rattle.std.specs.List.{AllByRecursion}
use Rattle.std.specs.FinMap as finite
use Rattle.zops.specs.Machine.{MachineState}
use Rattle.zsnapshots.specs.States.{head_of, body_of, rows_of}
use Rattle.zsnapshots.proofs.Next.{of_kind, session_in, node_in, reply_in, body-sessions, body-nodes, body-replies, same_header, same_body}

-- two states with the same rows are one
pub same_state : (v w : MachineState) → rows_of v ≡ rows_of w → v ≡ w
same_state v w is =
    let head = same_header v (head_of w) (body_of w) is in
    let body = same_body v (head_of w) (body_of w) is in
    let sessions = finite.same_entries_map v.service.plain.sessions w.service.plain.sessions (sym (body-sessions v)
    ∙ ap (of_kind session_in) body ∙ body-sessions w) in
    let nodes = finite.same_entries_map v.service.plain.nodes w.service.plain.nodes (sym (body-nodes v) ∙ ap (of_kind node_in) body ∙ body-nodes w) in
    let kept = finite.same_entries_map v.service.kept w.service.kept (sym (body-replies v) ∙ ap (of_kind reply_in) body ∙ body-replies w) in
    λ i. record {
      service = record {
        plain = record { nodes = nodes i; sessions = sessions i; time = (head i).time; zxid = (head i).zxid; limits = (head i).limits };
        kept = kept i;
      };
      applied = (head i).last;
    }

module _ {X : Type 0} where
  pub all-push : (P : X → Type 0) (xs : List X) (x : X) → AllByRecursion P xs → P x → AllByRecursion P (xs ++ x ∷ [])
  all-push P [] x all here = (here, tt)
  all-push P (y ∷ xs) x all here = (all.0, all-push P xs x all.1 here)
