-- The parts of a send, made from a template. Definition: own.
use Rattle.std.specs.Prelude.{ℕ, zero, suc, ◌+◌, ◌-◌, Bool, ◌&&◌, ◌==◌, nat_le, nat_lt, if◌then◌else◌, List, [], ◌∷◌, length, map, replicate, take, slice_index_or}
use Rattle.spec_model.specs.declared.event.Framing.{Framing}
use Rattle.spec_model.specs.declared.event.Framing.TheVariants.{Line, Len16}
use Rattle.spec_model.specs.declared.tree.HoleKind.TheVariants.{Word, Num, Rest}
use Rattle.spec_model.specs.declared.tree.Item.{Item}
use Rattle.spec_model.specs.declared.tree.Item.TheVariants as items
use Rattle.spec_model.specs.Message.{line_feed}
use Rattle.exchange_text.specs.declared.action.Part.{Part}
use Rattle.exchange_text.specs.declared.action.Part.TheVariants.{Lit, Piece}
use Rattle.script_gen.specs.declared.plan.Plan.{Plan}
use Rattle.script_gen.specs.declared.plan.Site.{Site}
use Rattle.script_gen.specs.Words.{Drawing, draw, given, ◌>>=◌}

-- in `line` framing a space stands for LF, which no message has
abbrev pub as_in_message : Framing → ℕ → ℕ
as_in_message Line byte = if byte == line_feed then 32 else byte
as_in_message Len16 byte = byte

-- so many letters, each `a` and what is drawn of 26 behind it
unfoldable pub letters : ℕ → Drawing (List ℕ)
letters zero = given []
letters (suc count) = do
  letter ← draw 26
  more ← letters count
  given ((97 + letter) ∷ more)

abbrev pub literal : ℕ → Drawing Part
literal count = do
  text ← letters count
  given (Lit text)

-- a word of one to six letters
unfoldable pub word : Drawing Part
word = do
  more ← draw 6
  literal (1 + more)

-- up to eight letters
unfoldable pub rest : Drawing Part
rest = do
  count ← draw 9
  literal count

-- the decimal of a number below ten
unfoldable pub number : Drawing Part
number = do
  digit ← draw 10
  given (Lit ((48 + digit) ∷ []))

-- the bytes at a site of the message of this number that was received, counted from 1; zeros fill in
abbrev pub piece_at : Site → ℕ → Part
piece_at site receipt = Piece receipt site.start site.len (replicate site.len 48)

-- a piece of a message received, where so many were sent before
unfoldable pub piece : List Site → ℕ → Drawing Part
piece sites earlier = do
  site ← draw (length sites)
  receipt ← draw earlier
  given (piece_at (slice_index_or sites site (record { start = 0; len = 0 })) (1 + receipt))

-- whether there is a site, and a message was sent before, so that a word may be a piece
abbrev pub may_be_piece : List Site → ℕ → Bool
may_be_piece sites earlier = nat_lt 0 (length sites) && nat_lt 0 earlier

-- by one more drawing a piece or a word
unfoldable pub piece_or_word : List Site → ℕ → Drawing Part
piece_or_word sites earlier = do
  choice ← draw 2
  if choice == 0 then piece sites earlier else word

-- what stands for a word
abbrev pub word_part : List Site → ℕ → Drawing Part
word_part sites earlier = if may_be_piece sites earlier then piece_or_word sites earlier else word

-- the part of an item, where so many messages were sent on the connection before
abbrev pub part_of : Plan → ℕ → Item → Drawing Part
part_of plan earlier (items.Lit text) = given (Lit (map (as_in_message plan.shape.framing) text))
part_of plan earlier (items.Hole name Word) = word_part plan.sites earlier
part_of plan earlier (items.Hole name Num) = number
part_of plan earlier (items.Hole name Rest) = rest

-- the parts of a template
unfoldable pub parts_of : Plan → ℕ → List Item → Drawing (List Part)
parts_of plan earlier [] = given []
parts_of plan earlier (item ∷ template) = do
  part ← part_of plan earlier item
  parts ← parts_of plan earlier template
  given (part ∷ parts)

-- The parts for which there is room: a literal is cut, and a piece that is longer is left out.
abbrev pub within : ℕ → List Part → List Part
within room [] = []
within room (Lit text ∷ parts) = Lit (take room text) ∷ within (room - length text) parts
within room (Piece receipt start len fill ∷ parts) =
    if nat_le len room then Piece receipt start len fill ∷ within (room - len) parts else within room parts

-- one empty literal, where no part is left
abbrev pub one_at_least : List Part → List Part
one_at_least [] = Lit [] ∷ []
one_at_least (part ∷ parts) = part ∷ parts
