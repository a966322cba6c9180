-- Texts of lines, and where the reading of one is refused. Definition: own.
use Rattle.std.specs.Prelude.{◌≡◌, ◌≢◌, ◌⊎◌, ℕ, ◌+◌, ◌<◌, ◌≤◌, true, not, ◌==◌, List, [], ◌∷◌, ◌++◌, length, flat_map, codes}
use Rattle.std.specs.List.{list_all}
use Rattle.spec_model.specs.Message.{line_feed}
use Rattle.exchange_text.specs.declared.refusal.TextRefusal.{TextRefusal}
use Rattle.exchange_text.specs.declared.refusal.TextRefusal.TheVariants as refusals

-- a line, and the LF that ends it
abbrev pub ended : List ℕ → List ℕ
ended line = line ++ line_feed ∷ []

-- lines, each with the LF that ends it
abbrev pub ended_lines : List (List ℕ) → List ℕ
ended_lines lines = flat_map ended lines

-- the last line of each text
abbrev pub last_line : List ℕ
last_line = codes "end"

-- the text of these lines and the last one
abbrev pub text_of : List (List ℕ) → List ℕ
text_of lines = ended_lines lines ++ ended last_line

-- the byte does not stand among these
abbrev pub Lacks : ℕ → List ℕ → Type 0
Lacks byte bytes = list_all (λ other. not (other == byte)) bytes ≡ true

-- bytes without LF
abbrev pub IsLine : List ℕ → Type 0
IsLine bytes = Lacks line_feed bytes

-- The bytes begin with this line, and the rest stands behind it.
pub record HasLine (bytes line rest : List ℕ) : Type 0 where
  pub parts : bytes ≡ ended line ++ rest
  pub no_line_feed : IsLine line

-- A kind of text: how many first lines it has, how many lines may stand between these and the last one at most, and which line is of the
-- form for its place, behind the lines before it.
--
-- A text is read line by line. Of what stands behind the lines that have been read is asked, in this order: whether no LF is left in it;
-- whether its first line is the last one, the first lines having been read; whether the greatest number of lines has been read; and
-- whether its first line is not of the form for its place.
module _ (first_lines greatest : ℕ) (HasForm : List (List ℕ) → List ℕ → Type 0) where
  -- These lines have been read: each is of the form for its place, and they are not too many.
  pub record AreRead (lines : List (List ℕ)) : Type 0 where
    pub few : length lines ≤ first_lines + greatest
    pub each : (before behind : List (List ℕ)) (line : List ℕ) → lines ≡ before ++ line ∷ behind → HasForm before line

  -- The last line is next, and bytes follow it.
  pub record GoesOnBehindEnd (before : List (List ℕ)) (rest : List ℕ) : Type 0 where
    pub behind : List ℕ
    pub first_read : first_lines ≤ length before
    pub last_next : HasLine rest last_line behind
    pub more : behind ≢ []

  -- The greatest number of lines has been read, and the next one is not the last.
  pub record PassesLimit (before : List (List ℕ)) (rest : List ℕ) : Type 0 where
    pub line : List ℕ
    pub behind : List ℕ
    pub full : length before ≡ first_lines + greatest
    pub next : HasLine rest line behind
    pub not_last : line ≢ last_line

  -- The next line is not the last one, one more may be read, and the line is not of the form for its place.
  pub record HasBadLine (before : List (List ℕ)) (rest : List ℕ) : Type 0 where
    pub line : List ℕ
    pub behind : List ℕ
    pub next : HasLine rest line behind
    pub not_last : ¬ ((first_lines ≤ length before) × (line ≡ last_line))
    pub room : length before < first_lines + greatest
    pub no_form : ¬ HasForm before line

  -- why the reading stops behind lines that have been read, at the line of which number; lines are counted from 1
  abbrev pub StopsAt : List (List ℕ) → List ℕ → TextRefusal → Type 0
  StopsAt before rest (refusals.NoEnd number) = IsLine rest × (number ≡ length before + 1)
  StopsAt before rest (refusals.Limit number) = PassesLimit before rest × (number ≡ length before + 1)
  StopsAt before rest (refusals.BadLine number) =
      (GoesOnBehindEnd before rest × (number ≡ length before + 2)) ⊎ (HasBadLine before rest × (number ≡ length before + 1))
  StopsAt before rest refusals.Memory = ⊥

  -- The refusal of a text: it is read up to a place, and the reading stops there.
  pub record IsRefused (text : List ℕ) (refusal : TextRefusal) : Type 0 where
    pub before : List (List ℕ)
    pub rest : List ℕ
    pub parts : text ≡ ended_lines before ++ rest
    pub read : AreRead before
    pub stops : StopsAt before rest refusal

-- Which lines are of the form for their place in a text of one first line and lines of events.
abbrev pub HasEventForm : {E : Type 0} → List ℕ → (E → List ℕ) → (E → Type 0) → List (List ℕ) → List ℕ → Type 0
HasEventForm {E} first_line line_of IsRight [] line = line ≡ first_line
HasEventForm {E} first_line line_of IsRight (first ∷ before) line = (event : E) × IsRight event × (line ≡ line_of event)

-- an error is want of memory, or this holds
abbrev pub UnlessMemory : TextRefusal → Type 0 → Type 0
UnlessMemory refusals.Memory holds = Unit {0}
UnlessMemory _ holds = holds
