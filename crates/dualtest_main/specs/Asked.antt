-- The command that words ask for, as the program keeps it. No contract of a public function cites it.
use Rattle.dualtest_main.specs.declared.command.Command as asked
use Rattle.dualtest_main.specs.declared.command.Command.TheVariants.{Check, Judge, Replay, Script}
use Rattle.dualtest_main.specs.Words.{Command, check, judge, replay, script}

abbrev pub command_of : asked.Command → Command
command_of (Check spec) = check spec.now
command_of (Judge spec exchange) = judge spec.now exchange.now
command_of (Replay spec exchange world) = replay spec.now exchange.now world.now
command_of (Script spec recipe) = script spec.now recipe
