use Rattle.std.proofs.Common.{rules}
use Rattle.spec_build.proofs.WholeRead.{tree_built}
use Rattle.spec_build.proofs.build.build.Goals as goal

pub returns : goal.returns
returns c = λ tree fits braces. let e = tree_built tree c.args.tokens.now fits braces in search rules
