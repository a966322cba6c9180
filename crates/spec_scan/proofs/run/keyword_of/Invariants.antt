use Rattle.std.proofs.Common.{◌≡◌, bytes_eq, find, drop}
use Rattle.spec_model.specs.Canonical.{keyword_text}
use Rattle.spec_scan.proofs.run.keyword_of.Given as goal

abbrev pub invariant-loop-word : goal.invariant-loop-word
invariant-loop-word l = find (λ word. bytes_eq (keyword_text word) l.run) l.words ≡ find (λ word. bytes_eq (keyword_text word) l.run) (drop l.word-index l.words)
