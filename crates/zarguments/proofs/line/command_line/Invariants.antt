use Rattle.std.proofs.Common.{◌≡◌, false, map, take}
use Rattle.clap.specs.Simple.{app_of}
use Rattle.clap.specs.declared.builder.command.Command.TheViews.{out-Command}
use Rattle.zarguments.specs.Asked.{spelling_of}
use Rattle.zarguments.proofs.CommandLine.{with_options}
use Rattle.zarguments.proofs.line.command_line.Given as goal

abbrev pub invariant-loop-option : goal.invariant-loop-option
invariant-loop-option l = record {
  shape : app_of l.subcommand ≡ with_options l.name (map spelling_of (take l.option-index l.options));
  local : (out-Command l.subcommand).has_globals ≡ false;
}
