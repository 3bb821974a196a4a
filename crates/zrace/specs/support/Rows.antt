-- Words of the worked examples.
use Rattle.std.specs.Prelude.{◌≡◌, ℕ, false, ◌==◌, List, [], ◌∷◌, Option}
use Rattle.std.specs.List.{slice_split}
use Rattle.ztree.specs.declared.node.Stat.{Stat}
use Rattle.zcalls.specs.declared.call.Call.TheVariants.{Query}
use Rattle.zcalls.specs.declared.call.Query.TheVariants as query
use Rattle.zcalls.specs.declared.reply.Reply.TheVariants as reply
use Rattle.zprotocol.specs.declared.world.history.CallEvent.{CallEvent}
use Rattle.zprotocol.specs.declared.world.history.CallEvent.TheVariants.{Answer, Begin}
use Rattle.zprotocol.specs.world.History.{History}
use Rattle.zprotocol.specs.declared.traces.trace.Traces.{Traces}
use Rattle.zprotocol.specs.traces.Traces.{client_count, record_of}
use Rattle.zprotocol.specs.traces.Audit.{is_any_cut}
use Rattle.zrace.specs.Asked.{race_numbers}

-- The numbers that a text's words, between spaces, give.
abbrev pub text_numbers : List ℕ → Option (List ℕ)
text_numbers text = race_numbers (slice_split (λ byte. byte == 0x20) text)

-- The client's call of that number, which asks whether the node of that name exists, and its reply.
abbrev pub exists_call : ℕ → ℕ → List ℕ → CallEvent
exists_call client number name = Begin client number (Query (query.Exists (name ∷ [])))

abbrev pub exists_reply : ℕ → ℕ → Stat → CallEvent
exists_reply client number stat = Answer client number (reply.Exists stat)

-- No trace is cut, and of two clients only the second recorded something.
pub record HasSecond (t : Traces) (history : History) : Type 0 where
  pub whole : is_any_cut t ≡ false
  pub two : client_count t ≡ 2
  pub first : record_of t 0 ≡ []
  pub second : record_of t 1 ≡ history
