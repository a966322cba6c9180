-- A loose reading of lines, which private functions cite alone. It gives back what a line spells; of other lines it makes
-- anything, so whoever reads so compares the line with the one spelling of what was read.
use Rattle.std.specs.Prelude.{◌≡◌, ℕ, ◌+◌, ◌-◌, ◌*◌, ◌^◌, ◌<◌, ◌≤◌, min, Bool, true, false, ◌==◌, if◌then◌else◌, List, [], ◌∷◌, length, take, drop, fold, position, Option, Some, None, option_map, option_and_then, unwrap_or}
use Rattle.std.specs.List.{AllByRecursion}
use Rattle.spec_model.specs.declared.event.ClientEvent.{ClientEvent}
use Rattle.spec_model.specs.declared.event.ClientEvent.TheVariants as clients
use Rattle.spec_model.specs.declared.event.ServerEvent.{ServerEvent}
use Rattle.spec_model.specs.declared.event.ServerEvent.TheVariants as servers
use Rattle.spec_model.specs.declared.quote.Progress.TheVariants.{Between}
use Rattle.spec_model.specs.Quote.{IsText, backslash, quote_sign}
use Rattle.spec_model.specs.Reading.{read_on}
use Rattle.exchange_text.specs.declared.action.Action.{Action}
use Rattle.exchange_text.specs.declared.action.Action.TheVariants.{Send, Await}
use Rattle.exchange_text.specs.declared.action.Part.{Part}
use Rattle.exchange_text.specs.declared.action.Part.TheVariants.{Lit, Piece}
use Rattle.exchange_text.specs.declared.action.TheConstants.{MAX_PARTS}

-- what stands before the first such byte, and behind it
abbrev pub split_once : ℕ → List ℕ → Option (List ℕ × List ℕ)
split_once byte bytes = option_map (λ at. (take at bytes, drop (at + 1) bytes)) (position (λ other. other == byte) bytes)

-- the number whose digits these are, where it is at most 65,535
abbrev pub number_of : List ℕ → ℕ
number_of digits = fold (λ number digit. min (min (number * 10) 65535 + (digit - 48)) 65535) 0 digits

-- the text of a quotation: what stands between its first byte and its last one, read loosely
abbrev pub unquoted : List ℕ → List ℕ
unquoted quotation = read_on Between (take (length quotation - 2) (drop 1 quotation))

-- the event of a connection, by what stands behind its number and a space: a sign, a space and a quotation, or any word
abbrev pub client_event_behind : ℕ → List ℕ → Option ClientEvent
client_event_behind conn (sign ∷ space ∷ quotation) =
    if sign == 62 then Some (clients.Sends conn (unquoted quotation))
    else (if sign == 60 then Some (clients.Receives conn (unquoted quotation)) else Some (clients.Garbles conn))
client_event_behind conn _ = None

-- the client event of a line
abbrev pub client_event_of : List ℕ → Option ClientEvent
client_event_of line = option_and_then (λ parts. client_event_behind (number_of parts.0) parts.1) (split_once 32 line)

-- a connection and a message, with a space between
abbrev pub passed : List ℕ → Option (ℕ × List ℕ)
passed bytes = option_map (λ parts. (number_of parts.0, unquoted parts.1)) (split_once 32 bytes)

-- the bytes begin with `y`
abbrev pub begins_with_y : List ℕ → Bool
begins_with_y [] = false
begins_with_y (first ∷ bytes) = first == 121

-- the server event of a word, by what stands behind it and a space; the words differ in their first two letters
abbrev pub server_event_behind : List ℕ → List ℕ → Option ServerEvent
server_event_behind (first ∷ second ∷ word) behind =
    if first == 97 then Some (servers.Arm (number_of behind))
    else (if first == 112 then Some (servers.Pick (unquoted behind))
    else (if first == 115 then option_map (λ parts. servers.Send parts.0 parts.1) (passed behind)
    else (if second == 97 then option_map (λ parts. servers.Take parts.0 parts.1) (passed behind)
    else Some (servers.Test (begins_with_y behind)))))
server_event_behind _ behind = None

-- the server event of a line
abbrev pub server_event_of : List ℕ → Option ServerEvent
server_event_of line = option_and_then (λ parts. server_event_behind parts.0 parts.1) (split_once 32 line)

-- a number before the first space, and what stands behind that
abbrev pub next_number : List ℕ → ℕ × List ℕ
next_number bytes = unwrap_or (option_map (λ parts. (number_of parts.0, parts.1)) (split_once 32 bytes)) (0, [])

-- how many bytes stand before the quote that ends a quotation; a byte behind a backslash is escaped
abbrev pub quoted_length : Bool → List ℕ → ℕ
quoted_length is_escaped [] = 0
quoted_length true (byte ∷ bytes) = 1 + quoted_length false bytes
quoted_length false (byte ∷ bytes) = if byte == quote_sign then 0 else (1 + quoted_length (byte == backslash) bytes)

-- the text of the quotation that stands first, and what stands behind it
abbrev pub quotation_first : List ℕ → List ℕ × List ℕ
quotation_first [] = ([], [])
quotation_first (quote ∷ quoted) =
    let len = quoted_length false quoted in (read_on Between (take len quoted), drop (len + 1) quoted)

-- a piece that stands first: a word, three numbers and a quotation
abbrev pub piece_first : List ℕ → Part × List ℕ
piece_first bytes =
    let receipt = next_number (next_number bytes).1 in
    let start = next_number receipt.1 in
    let len = next_number start.1 in
    let fill = quotation_first len.1 in
    (Piece receipt.0 start.0 len.0 fill.0, fill.1)

-- the part that stands first
abbrev pub part_first : List ℕ → Part × List ℕ
part_first [] = piece_first []
part_first (first ∷ bytes) =
    if first == quote_sign then (let text = quotation_first (first ∷ bytes) in (Lit text.0, text.1)) else piece_first (first ∷ bytes)

-- The numbers of a part are read back, and so are its bytes.
abbrev pub IsLegiblePart : Part → Type 0
IsLegiblePart (Lit text) = IsText text
IsLegiblePart (Piece receipt start len fill) = (receipt < 2 ^ 16) × (start < 2 ^ 16) × (len < 2 ^ 16) × IsText fill

-- An action on a connection is read back.
abbrev pub IsLegible : ℕ × Action → Type 0
IsLegible (conn, Send parts) = (conn < 2 ^ 16) × (length parts ≤ MAX_PARTS) × AllByRecursion IsLegiblePart parts
IsLegible (conn, Await count) = (conn < 2 ^ 16) × (count < 2 ^ 16)

-- What is read of bytes is the value that has them, where one does that is read back.
abbrev pub GivesBack : {A : Type 0} → (A → List ℕ) → (A → Type 0) → List ℕ → Option A → Type 0
GivesBack {A} bytes_of IsRead bytes found = (value : A) → IsRead value → bytes_of value ≡ bytes → found ≡ Some value
