-- Tokens that are put one by one are laid out as the canonical spelling lays them out.
use Rattle.std.proofs.Common.{◌≡◌, ℕ, Bool, true, false, if◌then◌else◌, List, [], ◌∷◌, ◌++◌, refl, ap, sym, ◌∙◌, append_assoc}
use Rattle.spec_model.specs.declared.event.Framing.{Framing}
use Rattle.spec_model.specs.declared.event.Framing.TheVariants as framings
use Rattle.spec_model.specs.declared.token.Keyword.TheVariants as words
use Rattle.spec_model.specs.declared.token.Punctuation.TheVariants as signs
use Rattle.spec_model.specs.declared.token.Token.{Token}
use Rattle.spec_model.specs.declared.token.Token.TheVariants as tokens
use Rattle.spec_model.specs.declared.tree.Spec.{Spec}
use Rattle.spec_model.specs.Canonical.{canonical, gap, goes_on, new_line, one_space, token_text, depth_behind, layout_behind, tokens_of}
use Rattle.spec_model.specs.Grammar as gr
use Rattle.spec_model.specs.Grammar.{Piece, some, at, capped, never, pieces_of_spec}
use Rattle.spec_model.specs.Message.{line_feed}
use Rattle.spec_print.specs.declared.page.Stands.TheVariants as stands
use Rattle.spec_print.specs.Listed as li
use Rattle.spec_print.specs.Page.{Printed, before_of, stand_of, gap_behind, gap_behind_open, gap_behind_other, put, puts, blank}

word_behind_open : (depth : ℕ) (t : Bool) → new_line depth ≡ gap_behind_open depth (if t then stands.Apart else stands.First)
word_behind_open depth true = refl
word_behind_open depth false = refl

word_behind_other : (depth : ℕ) (t : Bool) → (if t then one_space else new_line depth) ≡ gap_behind_other depth (if t then stands.Apart else stands.First)
word_behind_other depth true = refl
word_behind_other depth false = refl

gap_put : (depth : ℕ) (before token : Token) → gap depth before token ≡ gap_behind depth (before_of before) (stand_of token)
gap_put depth (tokens.Sign signs.Colon) token = refl
gap_put depth _ (tokens.Sign signs.Colon) = refl
gap_put depth _ (tokens.Sign signs.Close) = refl
gap_put depth (tokens.Sign signs.Open) (tokens.Keyword keyword) = word_behind_open depth (goes_on keyword)
gap_put depth _ (tokens.Keyword keyword) = word_behind_other depth (goes_on keyword)
gap_put depth _ _ = refl

joined : (a b c d : List ℕ) → (a ++ (b ++ c)) ++ d ≡ a ++ (b ++ (c ++ d))
joined a b c d = append_assoc a (b ++ c) d ∙ ap (λ x. a ++ x) (append_assoc b c d)

-- the text so far, and the layout of the tokens behind the last one
laid_out : (text : List ℕ) (depth : ℕ) (last : Token) (pieces : List Piece)
    → (puts (record { text = text; depth = depth; before = before_of last }) pieces).text ++ line_feed ∷ [] ≡ text ++ layout_behind depth last (tokens_of pieces)
laid_out text depth last [] = refl
laid_out text depth last (some token ∷ pieces) =
    let parting = gap_behind depth (before_of last) (stand_of token) in
    laid_out (text ++ (parting ++ token_text token)) (depth_behind depth token) token pieces
    ∙ (joined text parting (token_text token) (layout_behind (depth_behind depth token) token (tokens_of pieces))
    ∙ ap (λ g. text ++ (g ++ (token_text token ++ layout_behind (depth_behind depth token) token (tokens_of pieces)))) (sym (gap_put depth last token)))
laid_out text depth last (at place token ∷ pieces) =
    let parting = gap_behind depth (before_of last) (stand_of token) in
    laid_out (text ++ (parting ++ token_text token)) (depth_behind depth token) token pieces
    ∙ (joined text parting (token_text token) (layout_behind (depth_behind depth token) token (tokens_of pieces))
    ∙ ap (λ g. text ++ (g ++ (token_text token ++ layout_behind (depth_behind depth token) token (tokens_of pieces)))) (sym (gap_put depth last token)))
laid_out text depth last (capped number ∷ pieces) =
    let token = tokens.Number number in
    let parting = gap_behind depth (before_of last) (stand_of token) in
    laid_out (text ++ (parting ++ token_text token)) (depth_behind depth token) token pieces
    ∙ (joined text parting (token_text token) (layout_behind (depth_behind depth token) token (tokens_of pieces))
    ∙ ap (λ g. text ++ (g ++ (token_text token ++ layout_behind (depth_behind depth token) token (tokens_of pieces)))) (sym (gap_put depth last token)))
laid_out text depth last (never ∷ pieces) = laid_out text depth last pieces

conns_placed : (page : Printed) (f : Framing) (limit place : ℕ) (token : Token) (pieces : List Piece)
    → puts page (gr.framing f ∷ capped limit ∷ some token ∷ pieces) ≡ puts page (gr.framing f ∷ capped limit ∷ at place token ∷ pieces)
conns_placed page framings.Line limit place token pieces = refl
conns_placed page framings.Len16 limit place token pieces = refl

-- a page on which all tokens of a specification were put is its canonical spelling, but for the last LF
pub page_is_canonical : (spec : Spec) (page : Printed) → li.Puts blank (li.whole spec) page → page.text ++ line_feed ∷ [] ≡ canonical spec
unfolding canonical
page_is_canonical spec page h =
    let behind = capped spec.shape.conns ∷ gr.decls spec.decls (li.start spec.start (li.block_after words.Loop spec.body [])) in
    let first = put blank (tokens.Keyword words.Frame) in
    ap (λ p. p.text ++ line_feed ∷ []) (sym (h []) ∙ conns_placed first spec.shape.framing spec.shape.limit spec.conns_at (tokens.Keyword words.Conns) behind)
    ∙ laid_out (token_text (tokens.Keyword words.Frame)) 0 (tokens.Keyword words.Frame)
    (gr.framing spec.shape.framing ∷ capped spec.shape.limit ∷ at spec.conns_at (tokens.Keyword words.Conns) ∷ behind)
