-- Parts of a send, read back.
use Rattle.std.proofs.Common.{◌≡◌, ◌≢◌, ℕ, ◌+◌, ◌-◌, ◌/◌, ◌%◌, ◌^◌, ◌<◌, ◌≤◌, Bool, true, false, ◌&&◌, cond, eqb, leb, get_or, List, [], ◌∷◌, ◌++◌, flat_map, length, take, drop, drop-cons, add-one, refl, sym, ◌∙◌, ap, arith, append_assoc, append-nil, length-append, codes}
use Rattle.std.specs.Fmt.{decimal}
use Rattle.std.specs.List.{AllByRecursion}
use Rattle.std.proofs.lemmas.Bool.{ne_eqb}
use Rattle.std.proofs.lemmas.List.{drop_at, take_all, take_at}
use Rattle.spec_model.specs.Message.{line_feed}
use Rattle.spec_model.specs.Quote.{IsText, backslash, hex_digit, quote_sign, quoted_byte, quotation_of}
use Rattle.spec_model.proofs.Unquoted.{read_on-quoted}
use Rattle.exchange_text.specs.declared.action.Part.{Part}
use Rattle.exchange_text.specs.declared.action.Part.TheVariants.{Lit, Piece}
use Rattle.exchange_text.specs.LooseReading.{IsLegiblePart, next_number, part_first, piece_first, quotation_first, quoted_length}
use Rattle.exchange_text.specs.ScriptText.{part_text, spaced_part}
use Rattle.exchange_text.specs.Text.{IsLine, Lacks}
use Rattle.exchange_text.proofs.Numbers.{number_of-decimal, Lacks-decimal}
use Rattle.exchange_text.proofs.Quotations.{hex_digit_is_not, IsLine-quotation_of}
use Rattle.exchange_text.proofs.Separators.{Lacks-append, split_once_at}

-- No quote that ends a quotation stands in the spelling of a byte, whichever of its spellings is chosen by these tests.
chosen_length : (byte : ℕ) (rest : List ℕ) (is_quote is_backslash is_plain : Bool) → eqb byte quote_sign ≡ is_quote → eqb byte backslash ≡ is_backslash
    → quoted_length false (cond is_quote (backslash ∷ quote_sign ∷ []) (cond is_backslash (backslash ∷ backslash ∷ [])
    (cond is_plain (byte ∷ []) (backslash ∷ 120 ∷ hex_digit (byte / 16) ∷ hex_digit (byte % 16) ∷ []))) ++ rest)
    ≡ length (cond is_quote (backslash ∷ quote_sign ∷ []) (cond is_backslash (backslash ∷ backslash ∷ [])
    (cond is_plain (byte ∷ []) (backslash ∷ 120 ∷ hex_digit (byte / 16) ∷ hex_digit (byte % 16) ∷ [])))) + quoted_length false rest
chosen_length byte rest true is_backslash is_plain quote slash = omega arith
chosen_length byte rest false true is_plain quote slash = omega arith
chosen_length byte rest false false true quote slash = rw (quote, slash) (omega arith)
chosen_length byte rest false false false quote slash =
    rw (
      hex_digit_is_not 34 (byte / 16) (λ below same. absurd (omega arith)) (λ above same. absurd (omega arith)),
      hex_digit_is_not 92 (byte / 16) (λ below same. absurd (omega arith)) (λ above same. absurd (omega arith)),
      hex_digit_is_not 34 (byte % 16) (λ below same. absurd (omega arith)) (λ above same. absurd (omega arith)),
      hex_digit_is_not 92 (byte % 16) (λ below same. absurd (omega arith)) (λ above same. absurd (omega arith)),
    )
    (omega arith)

-- bytes from a place on, one place further: behind a backslash, and not
pub escaped_step : (bytes : List ℕ) (place total : ℕ) (is_escaped next : Bool) → place < length bytes → is_escaped ≡ true → next ≡ false
    → place + quoted_length is_escaped (drop place bytes) ≡ total → (place + 1) + quoted_length next (drop (place + 1) bytes) ≡ total
escaped_step bytes place total is_escaped next within escaped is_next here =
    let others : drop place bytes ≡ get_or bytes place 0 ∷ drop (place + 1) bytes = rw (add-one, drop-cons bytes place 0) refl in
    let step : place + (1 + quoted_length false (drop (place + 1) bytes)) ≡ total = rw (escaped, others) at here in
    rw is_next (omega arith)

pub plain_step : (bytes : List ℕ) (place total : ℕ) (is_escaped next : Bool) → place < length bytes → is_escaped ≡ false → get_or bytes place 0 ≢ 34
    → next ≡ eqb (get_or bytes place 0) 92 → place + quoted_length is_escaped (drop place bytes) ≡ total → (place + 1) + quoted_length next (drop (place + 1) bytes) ≡ total
plain_step bytes place total is_escaped next within plain no_quote is_next here =
    let others : drop place bytes ≡ get_or bytes place 0 ∷ drop (place + 1) bytes = rw (add-one, drop-cons bytes place 0) refl in
    let step : place + (1 + quoted_length (eqb (get_or bytes place 0) 92) (drop (place + 1) bytes)) ≡ total = rw (plain, others, ne_eqb (get_or bytes place 0) 34 no_quote) at here in
    rw is_next (omega arith)

quoted_length-inside : (text behind : List ℕ) → quoted_length false (flat_map quoted_byte text ++ 34 ∷ behind) ≡ length (flat_map quoted_byte text)
quoted_length-inside [] behind = refl
quoted_length-inside (byte ∷ text) behind =
    ap (quoted_length false) (append_assoc (quoted_byte byte) (flat_map quoted_byte text) (34 ∷ behind))
    ∙ (chosen_length byte (flat_map quoted_byte text ++ 34 ∷ behind) _ _ (leb 32 byte && leb byte 126) refl refl
    ∙ (ap (λ n. length (quoted_byte byte) + n) (quoted_length-inside text behind)
    ∙ sym (length-append (quoted_byte byte) (flat_map quoted_byte text))))

-- a quotation that stands first is read as the text that it quotes
quotation_back : (text behind : List ℕ) → IsText text → quotation_first (quotation_of text ++ behind) ≡ (text, behind)
quotation_back text behind small =
    let inside = flat_map quoted_byte text in
    let joined = append_assoc inside (34 ∷ []) behind in
    let len : quoted_length false ((inside ++ 34 ∷ []) ++ behind) ≡ length inside = ap (quoted_length false) joined ∙ quoted_length-inside text behind in
    let front : take (length inside) ((inside ++ 34 ∷ []) ++ behind) ≡ inside = ap (take (length inside)) joined ∙ take_at inside (34 ∷ behind) (length inside) refl in
    let back : drop (length inside + 1) ((inside ++ 34 ∷ []) ++ behind) ≡ behind = drop_at (inside ++ 34 ∷ []) behind (length inside + 1) (length-append inside (34 ∷ [])) in
    rw (len, front, back, read_on-quoted text small) refl

-- a number that stands before the first space is read
number_back : (number : ℕ) (behind : List ℕ) → number < 2 ^ 16 → next_number (decimal number ++ (codes " " ++ behind)) ≡ (number, behind)
number_back number behind small =
    rw (split_once_at 32 (decimal number) behind (Lacks-decimal 32 number (omega arith) small), number_of-decimal number small) refl

-- what stands behind a word and a space is read behind it
word_back : (word behind : List ℕ) → Lacks 32 word → (next_number (word ++ 32 ∷ behind)).1 ≡ behind
word_back word behind lacks = rw (split_once_at 32 word behind lacks) refl

-- the numbers of a piece
abbrev numbers_text : ℕ → ℕ → ℕ → List ℕ → List ℕ
numbers_text receipt start len behind = decimal receipt ++ (codes " " ++ (decimal start ++ (codes " " ++ (decimal len ++ (codes " " ++ behind)))))

-- each number is read behind those before it
piece_steps : (next : List ℕ → ℕ × List ℕ) (quotation : List ℕ → List ℕ × List ℕ) (bytes numbers behind_receipt behind_start behind_len fill behind : List ℕ) (receipt start len : ℕ)
    → (next bytes).1 ≡ numbers → next numbers ≡ (receipt, behind_receipt) → next behind_receipt ≡ (start, behind_start) → next behind_start ≡ (len, behind_len)
    → quotation behind_len ≡ (fill, behind)
    → ◌≡◌ {A = Part × List ℕ} (
      Piece (next (next bytes).1).0 (next (next (next bytes).1).1).0 (next (next (next (next bytes).1).1).1).0 (quotation (next (next (next (next bytes).1).1).1).1).0,
      (quotation (next (next (next (next bytes).1).1).1).1).1,
    )
    (Piece receipt start len fill, behind)
piece_steps next quotation bytes numbers behind_receipt behind_start behind_len fill behind receipt start len word first second third last =
    rw (word, first, second, third, last) refl

piece_back : (receipt start len : ℕ) (fill behind : List ℕ) → receipt < 2 ^ 16 → start < 2 ^ 16 → len < 2 ^ 16 → IsText fill
    → piece_first (codes "piece " ++ numbers_text receipt start len (quotation_of fill ++ behind)) ≡ (Piece receipt start len fill, behind)
piece_back receipt start len fill behind small_receipt small_start small_len text =
    let quotation = quotation_of fill ++ behind in
    let behind_start = decimal len ++ (codes " " ++ quotation) in
    let behind_receipt = decimal start ++ (codes " " ++ behind_start) in
    piece_steps next_number quotation_first (codes "piece " ++ numbers_text receipt start len quotation) (numbers_text receipt start len quotation)
    behind_receipt behind_start quotation fill behind receipt start len
    (word_back (codes "piece") (numbers_text receipt start len quotation) refl)
    (number_back receipt behind_receipt small_receipt) (number_back start behind_start small_start) (number_back len quotation small_len)
    (quotation_back fill behind text)

-- what stands behind a piece
numbers_behind : (receipt start len : ℕ) (quotation behind : List ℕ) → numbers_text receipt start len quotation ++ behind ≡ numbers_text receipt start len (quotation ++ behind)
numbers_behind receipt start len quotation behind = simp append_assoc

-- a part that stands first is read as it is
pub part_back : (part : Part) (behind : List ℕ) → IsLegiblePart part → part_first (part_text part ++ behind) ≡ (part, behind)
part_back (Lit text) behind small = ap (λ first. (Lit first.0, first.1)) (quotation_back text behind small)
part_back (Piece receipt start len fill) behind (small_receipt, small_start, small_len, text) =
    ap (λ bytes. part_first (codes "piece " ++ bytes)) (numbers_behind receipt start len (quotation_of fill) behind)
    ∙ piece_back receipt start len fill behind small_receipt small_start small_len text

-- Where bytes are those of parts, these parts have been read of them, and the others are left.
abbrev pub HaveRead : List ℕ → List Part → List ℕ → Type 0
HaveRead bytes parts rest =
    (written : List Part) → AllByRecursion IsLegiblePart written → flat_map spaced_part written ≡ bytes
    → (more : List Part) × (written ≡ parts ++ more) × AllByRecursion IsLegiblePart more × (flat_map spaced_part more ≡ rest)

-- bytes are the first one and the others
pub first_and_others : (bytes : List ℕ) → 1 ≤ length bytes → bytes ≡ get_or bytes 0 0 ∷ take (length bytes - 1) (drop 1 bytes)
first_and_others [] some = absurd (omega arith)
first_and_others (byte ∷ bytes) some = ap (λ others. byte ∷ others) (sym (take_all (length (byte ∷ bytes) - 1) bytes (omega arith)))

pub none_have_read : (bytes : List ℕ) → HaveRead bytes [] bytes
none_have_read bytes written small same = (written, refl, small, same)

pub one_more_part : (bytes : List ℕ) (parts : List Part) (rest : List ℕ) (space : ℕ) (first : List ℕ) (part : Part) (behind : List ℕ) → HaveRead bytes parts rest
    → rest ≡ space ∷ first → part_first first ≡ (part, behind) → HaveRead bytes (parts ++ part ∷ []) behind
one_more_part bytes parts rest space first part behind read is is_first written small same = go (read written small same)
  where
    go : (more : List Part) × (written ≡ parts ++ more) × AllByRecursion IsLegiblePart more × (flat_map spaced_part more ≡ rest)
        → (more : List Part) × (written ≡ (parts ++ part ∷ []) ++ more) × AllByRecursion IsLegiblePart more × (flat_map spaced_part more ≡ behind)
    go ([], whole, legible, left) = let none : [] ≡ space ∷ first = left ∙ is in absurd (cc)
    go (next ∷ more, whole, legible, left) =
        let text : 32 ∷ (part_text next ++ flat_map spaced_part more) ≡ space ∷ first = left ∙ is in
        let begins : part_text next ++ flat_map spaced_part more ≡ first = cc in
        let parts_are = sym (part_back next (flat_map spaced_part more) legible.0) ∙ (ap part_first begins ∙ is_first) in
        let same_part : next ≡ part = ap (λ first. first.0) parts_are in
        (more, whole ∙ (ap (λ next. parts ++ next ∷ more) same_part ∙ sym (append_assoc parts (part ∷ []) more)), legible.1, ap (λ first. first.1) parts_are)

-- These are all where nothing is left, and where there may be no more.
pub nothing_left : (bytes : List ℕ) (parts : List Part) → HaveRead bytes parts [] → (written : List Part) → AllByRecursion IsLegiblePart written → flat_map spaced_part written ≡ bytes → parts ≡ written
nothing_left bytes parts read written small same = go (read written small same)
  where
    go : (more : List Part) × (written ≡ parts ++ more) × AllByRecursion IsLegiblePart more × (flat_map spaced_part more ≡ []) → parts ≡ written
    go ([], whole, legible, left) = sym (whole ∙ append-nil parts)
    go (next ∷ more, whole, legible, left) = let some : 32 ∷ (part_text next ++ flat_map spaced_part more) ≡ [] = left in absurd (cc)

pub no_more_parts : (bytes : List ℕ) (parts : List Part) (rest : List ℕ) (most : ℕ) → HaveRead bytes parts rest → most ≤ length parts
    → (written : List Part) → length written ≤ most → AllByRecursion IsLegiblePart written → flat_map spaced_part written ≡ bytes → parts ≡ written
no_more_parts bytes parts rest most read full written few small same = go (read written small same)
  where
    go : (more : List Part) × (written ≡ parts ++ more) × AllByRecursion IsLegiblePart more × (flat_map spaced_part more ≡ rest) → parts ≡ written
    go ([], whole, legible, left) = sym (whole ∙ append-nil parts)
    go (next ∷ more, whole, legible, left) =
        let count : length written ≡ length parts + length (next ∷ more) = ap length whole ∙ length-append parts (next ∷ more) in
        let one : 1 ≤ length (next ∷ more) = omega arith in
        absurd (omega arith)

-- Parts are those of one list.
pub one_list_of_parts : (parts others : List Part) → AllByRecursion IsLegiblePart parts → AllByRecursion IsLegiblePart others
    → flat_map spaced_part parts ≡ flat_map spaced_part others → parts ≡ others
one_list_of_parts [] [] small small' same = refl
one_list_of_parts [] (other ∷ others) small small' same = absurd (cc)
one_list_of_parts (part ∷ parts) [] small small' same = absurd (cc)
one_list_of_parts (part ∷ parts) (other ∷ others) small small' same =
    let texts : part_text part ++ flat_map spaced_part parts ≡ part_text other ++ flat_map spaced_part others = cc in
    let firsts = sym (part_back part (flat_map spaced_part parts) small.0) ∙ (ap part_first texts ∙ part_back other (flat_map spaced_part others) small'.0) in
    let first : part ≡ other = ap (λ first. first.0) firsts in
    let behind = one_list_of_parts parts others small.1 small'.1 (ap (λ first. first.1) firsts) in
    cc

-- no LF stands in the text of a part
IsLine-numbers : (receipt start len : ℕ) (quotation : List ℕ) → receipt < 2 ^ 16 → start < 2 ^ 16 → len < 2 ^ 16 → IsLine quotation → IsLine (numbers_text receipt start len quotation)
IsLine-numbers receipt start len quotation small_receipt small_start small_len is_line =
    let behind_len = Lacks-append line_feed (decimal len) (codes " " ++ quotation) (Lacks-decimal line_feed len (omega arith) small_len) is_line in
    let behind_start = Lacks-append line_feed (decimal start) (codes " " ++ (decimal len ++ (codes " " ++ quotation))) (Lacks-decimal line_feed start (omega arith) small_start) behind_len in
    Lacks-append line_feed (decimal receipt) (codes " " ++ (decimal start ++ (codes " " ++ (decimal len ++ (codes " " ++ quotation))))) (Lacks-decimal line_feed receipt (omega arith) small_receipt) behind_start

IsLine-part_text : (part : Part) → IsLegiblePart part → IsLine (part_text part)
IsLine-part_text (Lit text) small = IsLine-quotation_of text
IsLine-part_text (Piece receipt start len fill) (small_receipt, small_start, small_len, text) =
    IsLine-numbers receipt start len (quotation_of fill) small_receipt small_start small_len (IsLine-quotation_of fill)

pub IsLine-parts : (parts : List Part) → AllByRecursion IsLegiblePart parts → IsLine (flat_map spaced_part parts)
IsLine-parts [] small = refl
IsLine-parts (part ∷ parts) small =
    Lacks-append line_feed (spaced_part part) (flat_map spaced_part parts) (IsLine-part_text part small.0) (IsLine-parts parts small.1)
