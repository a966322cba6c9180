use Rattle.std.proofs.Common.{◌≡◌, ◌++◌, codes, true, sym, ◌∙◌, ap, arith}
use Rattle.std.specs.Fmt.{decimal}
use Rattle.std.proofs.lemmas.Bool.Decides.{Decides-eqb}
use Rattle.std.proofs.lemmas.Slice.Eq.{slice_eq-Decides}
use Rattle.exchange_text.specs.LooseReading.{number_of}
use Rattle.exchange_text.proofs.Numbers.{number_of-decimal}
use Rattle.exchange_text.proofs.script.read_conns.Goals as goal
use Rattle.exchange_text.proofs.script.read_conns.Goals.{else-is_spelled_so-via-then-is_spelled_so+then-conns-ge1+else-conns-shape, else-is_spelled_so-via-then-is_spelled_so+else-conns-ge1, else-is_spelled_so-via-else-is_spelled_so}

pub returns-else-is_spelled_so-clause-none : goal.returns-else-is_spelled_so-clause-none
returns-else-is_spelled_so-clause-none c = λ conns are same.
    let line : codes "conns " ++ c.in_ok-digits.digits.now ≡ codes "conns " ++ decimal conns = sym c.in_ok-digits.ensures.some ∙ same in
    let digits : c.in_ok-digits.digits.now ≡ decimal conns = cc in
    let number : c.number_of-conns.result ≡ conns = c.number_of-conns.ensures ∙ (ap number_of digits ∙ number_of-decimal conns (omega (arith, are.1))) in
    elim c.else-is_spelled_so.branch [
      | else-is_spelled_so-via-then-is_spelled_so+then-conns-ge1+else-conns-shape w ↦ absurd (omega (arith, are.1))
      | else-is_spelled_so-via-then-is_spelled_so+else-conns-ge1 w ↦ absurd (omega (arith, are.0))
      | else-is_spelled_so-via-else-is_spelled_so w ↦
          let spelled : c.as_bytes.result.now ≡ c.in_ok-digits.digits.now = c.as_bytes.ensures.value ∙ (c.format.ensures.text ∙ (ap decimal number ∙ sym digits)) in
          let equal : c.eq-is_spelled_so.result ≡ true = (slice_eq-Decides Decides-eqb _ _ _ c.eq-is_spelled_so.ensures).1 spelled in
          absurd (cc)
    ]
