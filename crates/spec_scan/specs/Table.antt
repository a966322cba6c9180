-- Which goals a token of a class takes the place of: the grammar as a table. The first goal is the next that is read.
use Rattle.std.specs.Prelude.{Bool, true, false, List, [], ◌∷◌, ◌++◌, Option, Some, None, is_some, option_and_then}
use Rattle.spec_model.specs.declared.token.Keyword.{Keyword}
use Rattle.spec_model.specs.declared.token.Keyword.TheVariants as words
use Rattle.spec_model.specs.declared.token.Placed.{Placed}
use Rattle.spec_model.specs.declared.token.Punctuation.{Punctuation}
use Rattle.spec_model.specs.declared.token.Punctuation.TheVariants as signs
use Rattle.spec_model.specs.declared.token.Token.{Token}
use Rattle.spec_model.specs.declared.token.Token.TheVariants as tokens
use Rattle.spec_scan.specs.declared.goal.Class.{Class}
use Rattle.spec_scan.specs.declared.goal.Class.TheVariants as classes
use Rattle.spec_scan.specs.declared.goal.Goal.{Goal}
use Rattle.spec_scan.specs.declared.goal.Goal.TheVariants as goals

abbrev pub class_of : Token → Class
class_of (tokens.Keyword word) = classes.Keyword word
class_of (tokens.Name text) = classes.Name
class_of (tokens.Number number) = classes.Number
class_of (tokens.Text text) = classes.Text
class_of (tokens.Sign sign) = classes.Sign sign

-- what follows a keyword
abbrev pub word_rule : Goal → Keyword → Option (List Goal)
word_rule goals.Spec words.Frame =
    Some (goals.Framing ∷ goals.HeaderNumber ∷ goals.Conns ∷ goals.Decls ∷ goals.Start ∷ goals.Loop ∷ [])
word_rule goals.Framing words.Line = Some []
word_rule goals.Framing words.Len16 = Some []
word_rule goals.Conns words.Conns = Some (goals.HeaderNumber ∷ [])
word_rule goals.Decls words.Text = Some (goals.Name ∷ goals.Becomes ∷ goals.Text ∷ goals.Decls ∷ [])
word_rule goals.Decls words.Num = Some (goals.Name ∷ goals.Becomes ∷ goals.Number ∷ goals.Decls ∷ [])
word_rule goals.Decls words.Conn = Some (goals.Name ∷ goals.Becomes ∷ goals.Number ∷ goals.Decls ∷ [])
word_rule goals.Decls words.Table = Some (goals.Name ∷ goals.Decls ∷ [])
word_rule goals.Start words.Start = Some (goals.Open ∷ goals.Stmts ∷ goals.Close ∷ [])
word_rule goals.Loop words.Loop = Some (goals.Open ∷ goals.Stmts ∷ goals.Close ∷ [])
word_rule goals.Stmts words.Recv = Some (goals.Chan ∷ goals.Open ∷ goals.Cases ∷ goals.Other ∷ goals.Close ∷ goals.Stmts ∷ [])
word_rule goals.Stmts words.Send = Some (goals.Conn ∷ goals.SendPart ∷ goals.SendParts ∷ goals.Stmts ∷ [])
word_rule goals.Stmts words.Pick = Some (goals.Name ∷ goals.Number ∷ goals.Alphabet ∷ goals.Stmts ∷ [])
word_rule goals.Stmts words.Set = Some (goals.Name ∷ goals.Atom ∷ goals.Tail ∷ goals.Stmts ∷ [])
word_rule goals.Stmts words.If = Some (goals.Atom ∷ goals.Comparison ∷ goals.Atom ∷ goals.Block ∷ goals.Else ∷ goals.Stmts ∷ [])
word_rule goals.Stmts words.Either = Some (goals.Block ∷ goals.Arm ∷ goals.Arms ∷ goals.Stmts ∷ [])
word_rule goals.Stmts words.Where = Some (goals.Atom ∷ goals.Comparison ∷ goals.Atom ∷ goals.Stmts ∷ [])
word_rule goals.Stmts words.Put = Some (goals.Name ∷ goals.Atom ∷ goals.Atom ∷ goals.Stmts ∷ [])
word_rule goals.Stmts words.Get = Some (goals.Name ∷ goals.Atom ∷ goals.Name ∷ goals.Block ∷ goals.Else ∷ goals.Stmts ∷ [])
word_rule goals.Stmts words.Del = Some (goals.Name ∷ goals.Atom ∷ goals.Stmts ∷ [])
word_rule goals.Chan words.From = Some (goals.Conn ∷ [])
word_rule goals.Cases words.Case = Some (goals.Item ∷ goals.Items ∷ goals.Block ∷ goals.Cases ∷ [])
word_rule goals.Other words.Other = Some (goals.Name ∷ goals.Block ∷ [])
word_rule goals.HoleKind words.Word = Some []
word_rule goals.HoleKind words.Num = Some []
word_rule goals.HoleKind words.Rest = Some []
word_rule goals.Alphabet words.Hex = Some []
word_rule goals.Alphabet words.Alnum = Some []
word_rule goals.Alphabet words.Any = Some []
word_rule goals.Arm words.Or = Some (goals.Block ∷ [])
word_rule goals.Arms words.Or = Some (goals.Block ∷ goals.Arms ∷ [])
word_rule goals.Else words.Else = Some (goals.Block ∷ [])
word_rule _ _ = None

-- what follows a name
abbrev pub name_rule : Goal → Option (List Goal)
name_rule goals.Chan = Some []
name_rule goals.Conn = Some []
name_rule goals.Item = Some (goals.Colon ∷ goals.HoleKind ∷ [])
name_rule goals.Items = Some (goals.Colon ∷ goals.HoleKind ∷ goals.Items ∷ [])
name_rule goals.SendPart = Some []
name_rule goals.SendParts = Some (goals.SendParts ∷ [])
name_rule goals.Atom = Some []
name_rule goals.Name = Some []
name_rule _ = None

-- what follows a number
abbrev pub number_rule : Goal → Option (List Goal)
number_rule goals.HeaderNumber = Some []
number_rule goals.Conn = Some []
number_rule goals.Atom = Some []
number_rule goals.Number = Some []
number_rule _ = None

-- what follows a string
abbrev pub text_rule : Goal → Option (List Goal)
text_rule goals.Item = Some []
text_rule goals.Items = Some (goals.Items ∷ [])
text_rule goals.SendPart = Some []
text_rule goals.SendParts = Some (goals.SendParts ∷ [])
text_rule goals.Atom = Some []
text_rule goals.Text = Some []
text_rule _ = None

-- what follows a sign
abbrev pub sign_rule : Goal → Punctuation → Option (List Goal)
sign_rule goals.Block signs.Open = Some (goals.Stmts ∷ goals.Close ∷ [])
sign_rule goals.Open signs.Open = Some []
sign_rule goals.Close signs.Close = Some []
sign_rule goals.Colon signs.Colon = Some []
sign_rule goals.Becomes signs.Becomes = Some []
sign_rule goals.Comparison signs.Same = Some []
sign_rule goals.Comparison signs.Other = Some []
sign_rule goals.Comparison signs.Less = Some []
sign_rule goals.Tail signs.Plus = Some (goals.Atom ∷ [])
sign_rule goals.Tail signs.Minus = Some (goals.Atom ∷ [])
sign_rule _ _ = None

-- the goals in whose place a token of this class leaves others, which come first then
abbrev pub rule : Goal → Class → Option (List Goal)
rule goal (classes.Keyword word) = word_rule goal word
rule goal classes.Name = name_rule goal
rule goal classes.Number = number_rule goal
rule goal classes.Text = text_rule goal
rule goal (classes.Sign sign) = sign_rule goal sign

-- whether nothing is a spelling of the goal
abbrev pub may_end : Goal → Bool
may_end goals.Decls = true
may_end goals.Start = true
may_end goals.Stmts = true
may_end goals.Cases = true
may_end goals.Items = true
may_end goals.SendParts = true
may_end goals.Tail = true
may_end goals.Arms = true
may_end goals.Else = true
may_end _ = false

-- what is left of the goals behind a token that the first of them takes, or of later ones where it may be passed over
abbrev pub pushed : Option (List Goal) → Bool → List Goal → Option (List Goal) → Option (List Goal)
pushed (Some goals) _ below later = Some (goals ++ below)
pushed None true below later = later
pushed None false below later = None

-- the goals behind a token of this class
abbrev pub shift : List Goal → Class → Option (List Goal)
shift [] class = None
shift (goal ∷ below) class = pushed (rule goal class) (may_end goal) below (shift below class)

-- whether a token of this class may come next
abbrev pub takes : List Goal → Class → Bool
takes goals class = is_some (shift goals class)

-- the goals behind tokens
abbrev pub shifts : List Placed → List Goal → Option (List Goal)
shifts [] goals = Some goals
shifts (placed ∷ more) goals = option_and_then (shifts more) (shift goals (class_of placed.token))
