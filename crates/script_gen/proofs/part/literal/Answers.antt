use Rattle.std.proofs.Common.{◌≡◌, ℕ, zero, suc, ◌+◌, ◌-◌, List, [], ◌∷◌, ◌++◌, refl, sym, ap, subst, ◌∙◌, append_assoc, arith}
use Rattle.std.proofs.lemmas.List.{append-nil}
use Rattle.rand_chacha.specs.ChaCha.{ChaCha}
use Rattle.exchange_text.specs.Actions.{MayStandIn}
use Rattle.exchange_text.specs.declared.action.Part.TheVariants.{Lit}
use Rattle.script_gen.specs.Parts.{letters}
use Rattle.script_gen.specs.Words.{draw}
use Rattle.script_gen.proofs.LiteralBytes.{letters_stand}
use Rattle.script_gen.proofs.part.literal.Goals as goal

letters_more : (left after letter : ℕ) (text : List ℕ) (words behind : ChaCha) → after + 1 ≡ left → letter ≡ (draw 26 words).0 → behind ≡ (draw 26 words).1
    → ((text ++ (97 + letter) ∷ []) ++ (letters after behind).0 ≡ text ++ (letters left words).0) × ((letters after behind).1 ≡ (letters left words).1)
unfolding letters
letters_more zero after letter text words behind next is is_behind = absurd (omega (arith, next))
letters_more (suc left) after letter text words behind next is is_behind =
    let same : after ≡ left = omega arith in
    rw (same, is, is_behind) (append_assoc text ((97 + (draw 26 words).0) ∷ []) (letters left (draw 26 words).1).0, refl)

none_left : (left : ℕ) (text : List ℕ) (words : ChaCha) → left ≡ 0 → (text ++ (letters left words).0 ≡ text) × ((letters left words).1 ≡ words)
unfolding letters
none_left left text words none = rw none (append-nil text, refl)

pub loop-preserved : goal.loop-preserved
loop-preserved c =
    let more = letters_more (c.args.count - c.loop.counter) (c.args.count - (c.loop.counter + 1)) c.draw.result c.loop.text.items c.loop.words c.draw.new.self
    (omega (arith, c.loop-test.true)) c.draw.ensures.drawn c.draw.ensures.left in
    record {
      text = rw c.in_ok-push.ensures.items (more.0 ∙ c.loop.invariant.text);
      left = more.1 ∙ c.loop.invariant.left;
    }

pub returns-clause-part : goal.returns-clause-part
returns-clause-part c =
    let none = none_left (c.args.count - c.loop.counter) c.loop.text.items c.loop.words (omega (arith, c.loop-test.false)) in
    ap Lit (c.from_vec.ensures ∙ sym none.0 ∙ c.loop.invariant.text)

pub returns-clause-left : goal.returns-clause-left
returns-clause-left c =
    let none = none_left (c.args.count - c.loop.counter) c.loop.text.items c.loop.words (omega (arith, c.loop-test.false)) in
    sym none.1 ∙ c.loop.invariant.left

pub returns-clause-fits : goal.returns-clause-fits
returns-clause-fits c =
    let none = none_left (c.args.count - c.loop.counter) c.loop.text.items c.loop.words (omega (arith, c.loop-test.false)) in
    λ framing. subst (MayStandIn framing) (sym (c.from_vec.ensures ∙ sym none.0 ∙ c.loop.invariant.text)) (letters_stand framing c.args.count c.args.words.now)
