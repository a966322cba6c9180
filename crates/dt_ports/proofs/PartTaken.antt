-- A piece of which some bytes are taken.
use Rattle.std.proofs.Common.{◌≡◌, ℕ, suc, ◌+◌, ◌-◌, ◌<◌, List, ◌∷◌, length, take, drop, get_or, min, refl, sym, ap, subst, ◌∙◌, append_assoc, arith}
use Rattle.std.proofs.Math.Seq.{take-add, drop-cons, drop-drop}
use Rattle.std.proofs.lemmas.Bool.{lt-ltb}
use Rattle.std.proofs.lemmas.List.{take_rest}
use Rattle.dt_ports.specs.declared.steps.Incoming.{Incoming}
use Rattle.dt_ports.specs.declared.steps.Incoming.TheVariants.{Piece}
use Rattle.dt_ports.specs.Arrivals.{arrival_at}
use Rattle.dt_ports.specs.MemLink.{arrival_after}

-- Where a receive leaves some of a piece, so many more bytes of it are taken.
part_taken : (steps later : List Incoming) (passed taken size : ℕ) (bytes : List ℕ) → drop passed steps ≡ Piece bytes ∷ later →
    size < length (drop taken bytes) → arrival_after (arrival_at steps passed taken) size ≡ arrival_at steps passed (taken + size)
part_taken steps later passed taken size bytes is short =
    rw (is, lt-ltb size (length (drop taken bytes)) short, drop-drop size taken bytes, take-add taken size bytes, append_assoc) refl

-- the same, where the step is looked up, and as many bytes are put into a room as fit
pub part_taken-at : (steps : List Incoming) (passed taken size count : ℕ) (bytes : List ℕ) (step : Incoming) →
    passed < length steps → step ≡ get_or steps passed step → step ≡ Piece bytes →
    count ≡ min (length (take (length bytes - taken) (drop taken bytes))) size → count < length (take (length bytes - taken) (drop taken bytes)) →
    arrival_at steps passed (taken + count) ≡ arrival_after (arrival_at steps passed taken) size
part_taken-at steps passed taken size count bytes step within at is_piece is_count short =
    let P : List ℕ → Type 0 = λ rest. count < length rest in
    let Q : List ℕ → Type 0 = λ rest. count ≡ min (length rest) size in
    let left : count < length (drop taken bytes) = subst P (take_rest bytes taken) short in
    let all : count ≡ min (length (drop taken bytes)) size = subst Q (take_rest bytes taken) is_count in
    let fills : count ≡ size = omega arith in
    let front = drop-cons steps passed step within ∙ ap (λ item. item ∷ drop (suc passed) steps) (sym at ∙ is_piece) in
    rw fills (sym (part_taken steps (drop (suc passed) steps) passed taken size bytes front (omega arith)))
