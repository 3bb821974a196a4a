use Rattle.std.proofs.Common.{◌||◌, ◌∙◌, Bool, List, [], sym, ap, ap₂}
use Rattle.clap.specs.Walk.{Rule}
use Rattle.clap.specs.Simple.{App, new_shape, with_rule}
use Rattle.zarguments.proofs.CommandLine.{rules-more}
use Rattle.zarguments.proofs.line.command_line.Goals as goal

pub loop-option-preserved : goal.loop-option-preserved
loop-option-preserved c =
    let before = c.loop-option.invariant in
    let with_these : List Rule → App = λ rules. record { top = record (new_shape c.args.name.now) { rules = rules }; subs = [] } in
    record {
      shape = c.in_ok-subcommand.ensures.shape c.argument.ensures.local
          ∙ ap₂ with_rule before.shape c.argument.ensures.rule
          ∙ ap with_these (sym (rules-more c.args.options.now c.loop-option.option-index _ c.loop-option-test.true));
      local = c.in_ok-subcommand.ensures.globals ∙ ap₂ (λ (a b : Bool). a || b) before.local c.argument.ensures.local;
    }
