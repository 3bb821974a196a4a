-- How a node answers a turn.
use Rattle.std.proofs.Common.{◌≡◌, ℕ, Bool, List, [], ◌∷◌, ◌++◌, ◌&&◌, cond, Option, None, Some, refl, sym, ap, subst, ◌∙◌, append_assoc, arith}
use Rattle.std.specs.Prelude.{is_some, is_none, IfSome, IfNone}
use Rattle.std.proofs.lemmas.List.{append-nil}
use Rattle.std.proofs.lemmas.List.Concat.{flat_map-append}
use Rattle.zprotocol.specs.declared.limits.TheConstants.{PROCESSES}
use Rattle.zprotocol.specs.declared.process.Process.{Process}
use Rattle.zwire.specs.declared.fault.WriteError.{WriteError}
use Rattle.zwire.specs.declared.fault.WriteError.TheVariants as writing
use Rattle.zmaster_log.specs.declared.entry.LogEntry.{LogEntry}
use Rattle.zpeers.specs.Outgoing.{OutgoingView, IsNextReceiver, NoneWaits, place_after}
use Rattle.znode.specs.declared.fault.NodeFault.{NodeFault}
use Rattle.znode.specs.declared.fault.NodeFault.TheVariants as fault
use Rattle.znode.specs.declared.status.NodeStatus.{NodeStatus}
use Rattle.znode.specs.pipe.Inputs.{Turn}
use Rattle.znode.specs.pipe.Outputs.{OutputView, End, output}
use Rattle.znode.specs.pipe.Serving.{outputs_text}
use Rattle.znode.specs.Node.{NodeView, status_of}
use Rattle.znode.specs.Entries.{wanted_by}
use Rattle.znode.specs.Steps.{IsNodeFault}
use Rattle.znode.specs.Turns.{Answers, Sends, Waits, asked_after, asked_output, asking, known_output}
use Rattle.znode.specs.support.Faults.{of_writing}
use Rattle.znode.specs.support.Turns.{IsAnySendFault, SendsAll}

pub waits_of : (r : Option Process) (o : OutgoingView) → IfSome r (IsNextReceiver o None)
    → IfNone r (NoneWaits o (place_after None) PROCESSES) → Waits (is_some r) o
waits_of None o some none = λ p link. none p (omega arith) link.1
waits_of (Some p) o some none = (p, some.waits)

-- what ends the node at a turn
pub turn_fault : (v : NodeView) (own : ℕ) (error : WriteError) → v.replica.own ≡ Some own
    → IsAnySendFault own v.seat.outgoing error → IsNodeFault v Turn (of_writing error)
turn_fault v own writing.Memory is long = tt
turn_fault v own writing.TooLong is long = (own, is, long)

-- the status and what was asked say nothing of it
pub same_turn_fault : (v : NodeView) (status : Option NodeStatus) (asked : Option (List ℕ)) (error : NodeFault)
    → IsNodeFault (record v { known = status; asked = asked }) Turn error → IsNodeFault v Turn error
same_turn_fault v status asked fault.Memory failed = tt
same_turn_fault v status asked fault.TooLong failed = failed
same_turn_fault v status asked fault.Entry failed = failed
same_turn_fault v status asked fault.Order failed = failed
same_turn_fault v status asked fault.NoServer failed = failed
same_turn_fault v status asked fault.Master failed = failed
same_turn_fault v status asked (fault.Peer it) failed = failed

regroup : (start a b d end : List ℕ) → (((start ++ a) ++ b) ++ d) ++ end ≡ start ++ (((a ++ b) ++ d) ++ end)
regroup start a b d end = simp append_assoc

-- the outputs of an answer, one after the other
pub texts_join : (start mid1 mid2 mid3 end : List ℕ) (a b d : List OutputView) (it : OutputView)
    → mid1 ≡ start ++ outputs_text a → mid2 ≡ mid1 ++ outputs_text b → mid3 ≡ mid2 ++ outputs_text d → end ≡ mid3 ++ output.spell it
    → end ≡ start ++ outputs_text (a ++ b ++ d ++ it ∷ [])
texts_join start mid1 mid2 mid3 end a b d it ea eb ed ee =
    ee ∙ ap (λ (t : List ℕ). t ++ output.spell it) (ed ∙ ap (λ (t : List ℕ). t ++ outputs_text d) (eb ∙ ap (λ (t : List ℕ). t ++ outputs_text b) ea))
    ∙ regroup start (outputs_text a) (outputs_text b) (outputs_text d) (output.spell it) ∙ ap (λ (t : List ℕ). start ++ t) (sym whole)
  where
    whole : outputs_text (a ++ b ++ d ++ it ∷ []) ≡ ((outputs_text a ++ outputs_text b) ++ outputs_text d) ++ output.spell it
    whole =
        flat_map-append output.spell (a ++ b ++ d) (it ∷ [])
        ∙ ap (λ (t : List ℕ). t ++ outputs_text (it ∷ [])) (flat_map-append output.spell (a ++ b) d
        ∙ ap (λ (t : List ℕ). t ++ outputs_text d) (flat_map-append output.spell a b))
        ∙ ap (λ (t : List ℕ). ((outputs_text a ++ outputs_text b) ++ outputs_text d) ++ t) (append-nil (output.spell it))

-- a node whose status is known, and which has asked
abbrev after_status : NodeView → NodeView
after_status v = record v { known = Some (status_of v) }

abbrev after_asking : NodeView → NodeView
after_asking v = record v { asked = asked_after v.asked (asking v) }

abbrev after_both : NodeView → NodeView
after_both v = record v { known = Some (status_of v); asked = asked_after v.asked (asking v) }

-- what it asks for doesn't depend on the status that is known
same_wanted : (own : Option ℕ) (v : NodeView) (status : Option NodeStatus) → wanted_by own (record v { known = status }) ≡ wanted_by own v
same_wanted None v status = refl
same_wanted (Some s) v status = refl

same_asking : (v : NodeView) (status : Option NodeStatus) → asking (record v { known = status }) ≡ asking v
same_asking v status = ap (λ (e : Option LogEntry). cond (v.is_at_end && is_none v.asked) e None) (same_wanted v.replica.own v status)

asked_is : (v known asked : NodeView) → known ≡ after_status v → asked ≡ after_asking known → asked ≡ after_both v
asked_is v known asked is_known is_asked =
    is_asked ∙ ap after_asking is_known
    ∙ ap (λ (e : Option LogEntry). record (after_status v) { asked = asked_after v.asked e }) (same_asking v (Some (status_of v)))

-- the records that are sent, and their text
abbrev SendsText : NodeView → NodeView → List ℕ → List ℕ → Type 0
SendsText v w before after =
    (outputs : List OutputView) × Sends v.replica.own outputs v.seat.outgoing w.seat.outgoing × (after ≡ before ++ outputs_text outputs)

-- the status, the entry that is asked for, the records and the end are an answer
pub answers_of : (v known asked w : NodeView) (more : Bool) (start a b d end : List ℕ)
    → known ≡ after_status v → asked ≡ after_asking known → w ≡ record asked { seat = record asked.seat { outgoing = w.seat.outgoing } }
    → a ≡ start ++ outputs_text (known_output v.known (status_of v))
    → b ≡ a ++ outputs_text (asked_output known.replica.played (asking known))
    → SendsText asked w b d → end ≡ d ++ output.spell (End more) → Waits more w.seat.outgoing
    → (outputs : List OutputView) × Answers v outputs w × (end ≡ start ++ outputs_text outputs)
answers_of v known asked w more start a b d end is_known is_asked rest known_text asked_text sends end_text waits =
    let is : asked ≡ after_both v = asked_is v known asked is_known is_asked in
    let text : b ≡ a ++ outputs_text (asked_output v.replica.played (asking v)) =
    asked_text ∙ ap (λ (x : NodeView). a ++ outputs_text (asked_output x.replica.played (asking x))) is_known
    ∙ ap (λ (e : Option LogEntry). a ++ outputs_text (asked_output v.replica.played e)) (same_asking v (Some (status_of v))) in
    let sent : SendsText (after_both v) w b d = subst (λ (x : NodeView). SendsText x w b d) is sends in (
      known_output v.known (status_of v) ++ asked_output v.replica.played (asking v) ++ sent.0 ++ End more ∷ [],
      record {
        records = sent.0;
        sends = sent.1;
        more = more;
        waits = waits;
        all = refl;
        rest = rest ∙ ap (λ (x : NodeView). record x { seat = record x.seat { outgoing = w.seat.outgoing } }) is;
      },
      texts_join start a b d end (known_output v.known (status_of v)) (asked_output v.replica.played (asking v)) sent.0 (End more)
          known_text text sent.2 end_text,
    )

-- what ends the node after it has asked would have ended it before
pub answer_fault : (v known asked : NodeView) (error : NodeFault) → known ≡ after_status v → asked ≡ after_asking known
    → IsNodeFault asked Turn error → IsNodeFault v Turn error
answer_fault v known asked error is_known is_asked failed =
    same_turn_fault v (Some (status_of v)) (asked_after v.asked (asking v)) error
    (subst (λ (x : NodeView). IsNodeFault x Turn error) (asked_is v known asked is_known is_asked) failed)

-- the records that a node with a server sends
pub sends_all_of : (v : NodeView) (found : Option ℕ) (own : ℕ) (old new : OutgoingView) (before after : List ℕ)
    → found ≡ v.replica.own → found ≡ Some own → old ≡ v.seat.outgoing → SendsAll own old new before after
    → (outputs : List OutputView) × Sends v.replica.own outputs v.seat.outgoing new × (after ≡ before ++ outputs_text outputs)
sends_all_of v found own old new before after is_own is_found is_old all = (
  all.outputs,
  subst (λ (o : Option ℕ). Sends o all.outputs v.seat.outgoing new) (sym is_found ∙ is_own)
      (subst (λ (o : OutgoingView). Sends (Some own) all.outputs o new) is_old all.sends),
  all.text,
)
