-- What holds of the text over the world: its lines have the history of one run.
use Rattle.std.specs.Prelude.{◌≡◌, ◌⊎◌, ℕ, List, Some, codes}
use Rattle.ztree.specs.declared.limits.TheConstants.{MAX_CLIENTS}
use Rattle.zcalls.specs.Lists.{Among}
use Rattle.zcalls.specs.declared.reply.Reply.{Reply}
use Rattle.zprotocol.specs.server.Machine.{cached_tree}
use Rattle.zprotocol.specs.declared.world.event.Event.{Event}
use Rattle.zprotocol.specs.declared.world.outcome.Outcome.{Outcome}
use Rattle.zprotocol.specs.declared.world.history.CallEvent.TheVariants.{Answer}
use Rattle.zprotocol.specs.world.World.{opening_world}
use Rattle.zprotocol.specs.world.Events.{run}
use Rattle.zscript_text.specs.Reply.{reply_text}
use Rattle.zscript.specs.Line.{ScriptState, LineEffect, opening_script, effect_of, histories}

-- there are events such that the histories of all lines, one after the other, are the history of
-- their run
abbrev pub LinesReportOneRun : Type 0
LinesReportOneRun =
    (servers : ℕ) (outcomes : List Outcome) (lines : List (List ℕ))
    → (events : List Event) × ((run cached_tree (opening_world cached_tree servers MAX_CLIENTS) events).history ≡ histories (opening_script servers outcomes) lines)

-- a call is answered with a reply to it in the history, or with `unanswered` where the history has
-- none
abbrev pub IsAnsweredBy : LineEffect → Type 0
IsAnsweredBy effect =
    (client number : ℕ) → effect.own ≡ Some (client, number)
    → ((reply : Reply) × Among (Answer client number reply) effect.did.world.history × (effect.result ≡ reply_text reply))
    ⊎ ((effect.result ≡ codes "unanswered") × ((reply : Reply) → Among (Answer client number reply) effect.did.world.history → ⊥))

-- the same, of every line
abbrev pub CallsAreAnsweredByTheirReplies : Type 0
CallsAreAnsweredByTheirReplies = (s : ScriptState) (line : List ℕ) → IsAnsweredBy (effect_of s line)
