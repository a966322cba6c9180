-- What the keys of a form say.
use Rattle.std.proofs.Common.{◌≡◌, ◌⊎◌, ℕ, min, max, true, ◌==◌, List, [], ◌∷◌, ◌++◌, length, slice_get, Some, refl, sym, ◌∙◌, ap, arith, inl, inr, eq-eqb}
use Rattle.std.specs.Option.{option_map_or}
use Rattle.std.proofs.lemmas.Bool.{eqb-true}
use Rattle.spec_model.specs.declared.event.Framing.{Framing}
use Rattle.spec_model.specs.declared.event.Framing.TheVariants.{Len16}
use Rattle.spec_model.specs.declared.tree.Alphabet.{Alphabet}
use Rattle.spec_model.specs.declared.tree.Alphabet.TheVariants.{Hex, Alnum, Any}
use Rattle.spec_model.specs.Step.{may_be_picked}
use Rattle.spec_model.specs.Value.{only_if, ◌>>=◌}
use Rattle.spec_model.proofs.Partial.{bind_gave, only_if_gave}
use Rattle.constraint_set.specs.Form.{alphabet_byte, difference_key_by, pair_key, place_bytes, place_of, root_key_by, symbol_bytes, text_key}
use Rattle.constraint_set.specs.declared.atom.Atom.{Atom}
use Rattle.constraint_set.specs.declared.atom.Atom.TheVariants.{Const, Sym}
use Rattle.constraint_set.specs.declared.symbol.Symbol.{Symbol}
use Rattle.constraint_set.proofs.NumberedTexts.{length-text_numbered}

-- a symbol that is reached at a place
pub record IsReached (symbols : List Symbol) (roots : List Atom) (r place : ℕ) (symbol : Symbol) : Type 0 where
  pub place_is : place_of symbols roots r ≡ Some place
  pub at : slice_get symbols r ≡ Some symbol

-- a symbol and a constant, either way round
pub record SaysText (framing : Framing) (symbols : List Symbol) (roots : List Atom) (x y : Atom) (key : List ℕ) : Type 0 where
  pub r : ℕ
  pub place : ℕ
  pub symbol : Symbol
  pub text : List ℕ
  pub reached : IsReached symbols roots r place symbol
  pub may : may_be_picked framing symbol.len symbol.alphabet text ≡ true
  pub key_is : key ≡ 3 ∷ (place_bytes place ++ text)
  pub sides : ((x ≡ Sym r) × (y ≡ Const text)) ⊎ ((x ≡ Const text) × (y ≡ Sym r))

-- two symbols
pub record SaysPair (symbols : List Symbol) (roots : List Atom) (x y : Atom) (key : List ℕ) : Type 0 where
  pub r : ℕ
  pub s : ℕ
  pub r_place : ℕ
  pub s_place : ℕ
  pub a : Symbol
  pub b : Symbol
  pub r_reached : IsReached symbols roots r r_place a
  pub s_reached : IsReached symbols roots s s_place b
  pub len : a.len ≡ b.len
  pub key_is : key ≡ 2 ∷ (place_bytes (min r_place s_place) ++ place_bytes (max r_place s_place))
  pub left : x ≡ Sym r
  pub right : y ≡ Sym s

text_key_says : (framing : Framing) (symbols : List Symbol) (roots : List Atom) (r : ℕ) (text key : List ℕ) (x y : Atom) → ((x ≡ Sym r) × (y ≡ Const text)) ⊎ ((x ≡ Const text) × (y ≡ Sym r))
    → text_key framing symbols roots r text ≡ Some key → SaysText framing symbols roots x y key
text_key_says framing symbols roots r text key x y sides gives =
    let symbol = bind_gave (slice_get symbols r) (λ (symbol : Symbol). place_of symbols roots r >>= (λ place. only_if (may_be_picked framing symbol.len symbol.alphabet text) (Some (3 ∷ (place_bytes place ++ text))))) key gives in
    let place = bind_gave (place_of symbols roots r) (λ place. only_if (may_be_picked framing symbol.0.len symbol.0.alphabet text) (Some (3 ∷ (place_bytes place ++ text)))) key symbol.2 in
    let may = only_if_gave (may_be_picked framing symbol.0.len symbol.0.alphabet text) (Some (3 ∷ (place_bytes place.0 ++ text))) key place.2 in
    let same : Some (3 ∷ (place_bytes place.0 ++ text)) ≡ Some key = may.1 in
    let key_same : key ≡ 3 ∷ (place_bytes place.0 ++ text) = cc in
    record { r = r; place = place.0; symbol = symbol.0; text = text; reached = record { place_is = place.1; at = symbol.1 }; may = may.0; key_is = key_same; sides = sides }

pair_key_says : (framing : Framing) (symbols : List Symbol) (roots : List Atom) (r s : ℕ) (key : List ℕ) → pair_key symbols roots r s ≡ Some key → SaysPair symbols roots (Sym r) (Sym s) key
pair_key_says framing symbols roots r s key gives =
    let a = bind_gave (slice_get symbols r) (λ (a : Symbol). slice_get symbols s >>= (λ (b : Symbol). place_of symbols roots r >>= (λ p. place_of symbols roots s >>= (λ q.
    only_if (a.len == b.len) (Some (2 ∷ (place_bytes (min p q) ++ place_bytes (max p q)))))))) key gives in
    let b = bind_gave (slice_get symbols s) (λ (b : Symbol). place_of symbols roots r >>= (λ p. place_of symbols roots s >>= (λ q.
    only_if (a.0.len == b.len) (Some (2 ∷ (place_bytes (min p q) ++ place_bytes (max p q))))))) key a.2 in
    let p = bind_gave (place_of symbols roots r) (λ p. place_of symbols roots s >>= (λ q.
    only_if (a.0.len == b.0.len) (Some (2 ∷ (place_bytes (min p q) ++ place_bytes (max p q)))))) key b.2 in
    let q = bind_gave (place_of symbols roots s) (λ q. only_if (a.0.len == b.0.len) (Some (2 ∷ (place_bytes (min p.0 q) ++ place_bytes (max p.0 q))))) key p.2 in
    let len = only_if_gave (a.0.len == b.0.len) (Some (2 ∷ (place_bytes (min p.0 q.0) ++ place_bytes (max p.0 q.0)))) key q.2 in
    let same : Some (2 ∷ (place_bytes (min p.0 q.0) ++ place_bytes (max p.0 q.0))) ≡ Some key = len.1 in
    let key_same : key ≡ 2 ∷ (place_bytes (min p.0 q.0) ++ place_bytes (max p.0 q.0)) = cc in
    record {
      r = r;
      s = s;
      r_place = p.0;
      s_place = q.0;
      a = a.0;
      b = b.0;
      r_reached = record { place_is = p.1; at = a.1 };
      s_reached = record { place_is = q.1; at = b.1 };
      len = eqb-true a.0.len b.0.len len.0;
      key_is = key_same;
      left = refl;
      right = refl;
    }

-- what the key of a difference says
pub key_says : (framing : Framing) (symbols : List Symbol) (roots : List Atom) (x y : Atom) (key : List ℕ) → difference_key_by framing symbols roots x y ≡ Some key
    → SaysText framing symbols roots x y key ⊎ SaysPair symbols roots x y key
key_says framing symbols roots (Const text) (Const other) key gives = absurd (cc)
key_says framing symbols roots (Const text) (Sym r) key gives = inl (text_key_says framing symbols roots r text key (Const text) (Sym r) (inr (refl, refl)) gives)
key_says framing symbols roots (Sym r) (Const text) key gives = inl (text_key_says framing symbols roots r text key (Sym r) (Const text) (inl (refl, refl)) gives)
key_says framing symbols roots (Sym r) (Sym s) key gives = inr (pair_key_says framing symbols roots r s key gives)

-- the key of a symbol that is reached and a constant that it could be
pub text_key_is : (framing : Framing) (symbols : List Symbol) (roots : List Atom) (r place : ℕ) (symbol : Symbol) (text : List ℕ) → IsReached symbols roots r place symbol
    → may_be_picked framing symbol.len symbol.alphabet text ≡ true → text_key framing symbols roots r text ≡ Some (3 ∷ (place_bytes place ++ text))
text_key_is framing symbols roots r place symbol text reached may =
    ap (λ found. found >>= (λ (symbol : Symbol). place_of symbols roots r >>= (λ place. only_if (may_be_picked framing symbol.len symbol.alphabet text) (Some (3 ∷ (place_bytes place ++ text)))))) reached.at
    ∙ ap (λ found. found >>= (λ place. only_if (may_be_picked framing symbol.len symbol.alphabet text) (Some (3 ∷ (place_bytes place ++ text))))) reached.place_is
    ∙ ap (λ test. only_if test (Some (3 ∷ (place_bytes place ++ text)))) may

-- the key of two symbols of one length that are reached
pub pair_key_is : (symbols : List Symbol) (roots : List Atom) (r s p q : ℕ) (a b : Symbol) → IsReached symbols roots r p a → IsReached symbols roots s q b → a.len ≡ b.len
    → pair_key symbols roots r s ≡ Some (2 ∷ (place_bytes (min p q) ++ place_bytes (max p q)))
pair_key_is symbols roots r s p q a b first second len =
    ap (λ found. found >>= (λ (a : Symbol). slice_get symbols s >>= (λ (b : Symbol). place_of symbols roots r >>= (λ p. place_of symbols roots s >>= (λ q.
    only_if (a.len == b.len) (Some (2 ∷ (place_bytes (min p q) ++ place_bytes (max p q))))))))) first.at
    ∙ ap (λ found. found >>= (λ (b : Symbol). place_of symbols roots r >>= (λ p. place_of symbols roots s >>= (λ q.
    only_if (a.len == b.len) (Some (2 ∷ (place_bytes (min p q) ++ place_bytes (max p q)))))))) second.at
    ∙ ap (λ found. found >>= (λ p. place_of symbols roots s >>= (λ q.
    only_if (a.len == b.len) (Some (2 ∷ (place_bytes (min p q) ++ place_bytes (max p q))))))) first.place_is
    ∙ ap (λ found. found >>= (λ q. only_if (a.len == b.len) (Some (2 ∷ (place_bytes (min p q) ++ place_bytes (max p q)))))) second.place_is
    ∙ ap (λ test. only_if test (Some (2 ∷ (place_bytes (min p q) ++ place_bytes (max p q))))) (eq-eqb a.len b.len len)

-- the key of a root that stands for a symbol that is reached
pub root_key_is : (symbols : List Symbol) (roots : List Atom) (r place : ℕ) (symbol : Symbol) → IsReached symbols roots r place symbol
    → root_key_by symbols roots (Sym r) ≡ 1 ∷ symbol.len ∷ alphabet_byte symbol.alphabet ∷ place_bytes place
root_key_is symbols roots r place symbol reached =
    ap (λ found. 1 ∷ option_map_or (λ (symbol : Symbol). symbol_bytes symbol ++ option_map_or place_bytes (place_of symbols roots r) []) found []) reached.at
    ∙ ap (λ found. 1 ∷ (symbol_bytes symbol ++ option_map_or place_bytes found [])) reached.place_is

-- two alphabets have two bytes
pub alphabets_apart : (a b : Alphabet) → alphabet_byte a ≡ alphabet_byte b → a ≡ b
alphabets_apart Hex Hex same = refl
alphabets_apart Hex Alnum same = absurd (omega arith)
alphabets_apart Hex Any same = absurd (omega arith)
alphabets_apart Alnum Hex same = absurd (omega arith)
alphabets_apart Alnum Alnum same = refl
alphabets_apart Alnum Any same = absurd (omega arith)
alphabets_apart Any Hex same = absurd (omega arith)
alphabets_apart Any Alnum same = absurd (omega arith)
alphabets_apart Any Any same = refl

-- joined lists whose fronts have one length
pub same_fronts : (xs ys zs ws : List ℕ) → length xs ≡ length ys → xs ++ zs ≡ ys ++ ws → (xs ≡ ys) × (zs ≡ ws)
same_fronts [] [] zs ws long same = (refl, same)
same_fronts [] (y ∷ ys) zs ws long same = absurd (omega arith)
same_fronts (x ∷ xs) [] zs ws long same = absurd (omega arith)
same_fronts (x ∷ xs) (y ∷ ys) zs ws long same =
    let rest = same_fronts xs ys zs ws (omega arith) (cc) in
    let first : x ≡ y = cc in
    let others = rest.0 in
    (cc, rest.1)

pub same_place_bytes : (p q : ℕ) (zs ws : List ℕ) → place_bytes p ++ zs ≡ place_bytes q ++ ws → (place_bytes p ≡ place_bytes q) × (zs ≡ ws)
same_place_bytes p q zs ws same = same_fronts (place_bytes p) (place_bytes q) zs ws (length-text_numbered Len16 Any 8 p ∙ sym (length-text_numbered Len16 Any 8 q)) same
