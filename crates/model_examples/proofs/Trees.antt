-- What has to be unfolded so that trees which are written out compute.
use Rattle.std.specs.Fmt.{digits}
use Rattle.spec_model.specs.declared.tree.Kind.{out-Kind, roll-Kind}
use Rattle.spec_model.specs.declared.tree.Block.{out-Block, roll-Block}
use Rattle.spec_model.specs.declared.tree.Case.{out-Case, roll-Case}
use Rattle.spec_model.specs.declared.tree.Kind.TheBlock.{shape-the_row-Case-0, hidden-the_row-Case-0, shown-the_row-Case-0, shape-the_row-Block-1, hidden-the_row-Block-1, shown-the_row-Block-1, shape-the_row-Stmt-2, hidden-the_row-Stmt-2, shown-the_row-Stmt-2}

unfoldable pub trees : Unit {0}
unfolding out-Kind roll-Kind out-Block roll-Block out-Case roll-Case denote.Hole.Carrier.out denote.Hole.Carrier.roll denote.Hole.Carrier.shown denote.Hole.Carrier.hidden shape-the_row-Case-0 hidden-the_row-Case-0 shown-the_row-Case-0 shape-the_row-Block-1 hidden-the_row-Block-1 shown-the_row-Block-1 shape-the_row-Stmt-2 hidden-the_row-Stmt-2 shown-the_row-Stmt-2 digits
trees = tt
