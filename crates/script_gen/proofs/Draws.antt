-- What is drawn is below its count.
use Rattle.std.proofs.Common.{ℕ, ◌<◌, arith}
use Rattle.rand_chacha.specs.ChaCha.{ChaCha}
use Rattle.script_gen.specs.Words.{draw}

pub draw-below : (count : ℕ) (words : ChaCha) → 0 < count → (draw count words).0 < count
unfolding draw
draw-below count words some = omega arith
