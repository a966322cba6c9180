-- Tests of the parts of a statement.
use Rattle.std.specs.Prelude.{Bool, true, false, not, ◌||◌, ◌++◌, List, length, nat_lt}
use Rattle.std.specs.List.{list_any}
use Rattle.spec_model.specs.declared.tree.Case.{Case, out-Case}
use Rattle.spec_model.specs.declared.tree.Chan.{Chan}
use Rattle.spec_model.specs.declared.tree.Chan.TheVariants.{Bind, From}
use Rattle.spec_model.specs.declared.tree.Expr.{Expr}
use Rattle.spec_model.specs.declared.tree.Expr.TheVariants as written
use Rattle.spec_model.specs.declared.tree.Item.{Item}
use Rattle.spec_model.specs.declared.tree.Item.TheVariants.{Lit, Hole}
use Rattle.spec_rules.specs.declared.names.Known.{Known}
use Rattle.spec_rules.specs.declared.names.ValueType.TheVariants.{Text, Number, Conn}
use Rattle.spec_rules.specs.Bad.{is_long}
use Rattle.spec_rules.specs.Names.{binds_known, is_known, may_be, names_of_chan, names_of_pattern}

-- whether a written value is a name that is not known
abbrev pub is_unknown_value : List Known → Expr → Bool
is_unknown_value known (written.Name name) = not (is_known known name)
is_unknown_value known _ = false

-- whether a written value is a text that is too long
abbrev pub is_long_value : Expr → Bool
is_long_value (written.Text text) = is_long text
is_long_value _ = false

-- whether an item of a pattern is a text that is too long
abbrev pub is_long_item : Item → Bool
is_long_item (Lit text) = is_long text
is_long_item (Hole name kind) = false

abbrev pub has_long_items : Case → Bool
has_long_items case = list_any is_long_item (out-Case case).items

abbrev pub has_many_items : Case → Bool
has_many_items case = nat_lt 16 (length (out-Case case).items)

-- whether a part of a send is of a type that it may be
abbrev pub may_be_part : List Known → Expr → Bool
may_be_part known part = may_be known Text part || may_be known Number part

-- whether a case binds a name that is known, or two of one name
abbrev pub case_binds_again : List Known → Chan → Case → Bool
case_binds_again known chan case = binds_known known (names_of_chan chan ++ names_of_pattern (out-Case case).items)

-- whether a message may be taken so, by the types
abbrev pub may_take : List Known → Chan → Bool
may_take known (Bind name) = true
may_take known (From conn) = may_be known Conn conn
