-- What is told, with more at its end.
use Rattle.std.proofs.Common.{◌≡◌, ℕ, ◌<◌, List, [], ◌++◌, length, take, drop, Option, Some, None, sym, ap, ◌∙◌, append_assoc, append-nil, arith, length-append}
use Rattle.std.proofs.lemmas.List.{take-append-drop}
use Rattle.std.specs.Option.{IfSome}
use Rattle.conn_worker.specs.Seen.{NoShorter}
use Rattle.conn_worker.specs.Turn.{Grew}
use Rattle.dt_ports.specs.Told.{told_with}

-- what is told and what is left are together the same, however much of it is told
pub told-moved : (told : Option (List ℕ)) (count : ℕ) (left all : List ℕ) → IfSome told (λ bytes. bytes ++ left ≡ all)
    → IfSome (told_with (take count left) told) (λ bytes. bytes ++ drop count left ≡ all)
told-moved None count left all is = tt
told-moved (Some bytes) count left all is =
    append_assoc bytes (take count left) (drop count left) ∙ ap (λ more. bytes ++ more) (take-append-drop count left) ∙ is

-- what is left to tell comes to nothing
pub told-all : (told : Option (List ℕ)) (left all : List ℕ) → left ≡ [] → IfSome told (λ bytes. bytes ++ left ≡ all) → IfSome told (λ bytes. bytes ≡ all)
told-all None left all none is = tt
told-all (Some bytes) left all none is = sym (append-nil bytes) ∙ ap (λ more. bytes ++ more) (sym none) ∙ is

-- a frame more is left to tell, where nothing was left
pub told-due : (told : Option (List ℕ)) (left all frame : List ℕ) → left ≡ [] → IfSome told (λ bytes. bytes ++ left ≡ all)
    → IfSome told (λ bytes. bytes ++ frame ≡ all ++ frame)
told-due None left all frame none is = tt
told-due (Some bytes) left all frame none is = ap (λ front. front ++ frame) (told-all (Some bytes) left all none is)

-- what came is more, and so is what is behind its front
pub told-came : (told : Option (List ℕ)) (front behind more : List ℕ) → IfSome told (λ bytes. bytes ≡ front ++ behind)
    → IfSome (told_with more told) (λ bytes. bytes ≡ front ++ (behind ++ more))
told-came None front behind more is = tt
told-came (Some bytes) front behind more is = ap (λ all. all ++ more) is ∙ append_assoc front behind more

-- a frame at the front of what is behind goes to the front
pub told-kept : (told : Option (List ℕ)) (front frame behind rest : List ℕ) → behind ≡ frame ++ rest → IfSome told (λ bytes. bytes ≡ front ++ behind)
    → IfSome told (λ bytes. bytes ≡ (front ++ frame) ++ rest)
told-kept None front frame behind rest at is = tt
told-kept (Some bytes) front frame behind rest at is = is ∙ ap (λ more. front ++ more) at ∙ sym (append_assoc front frame rest)

-- nothing is told and nothing left
pub told-none : (told : Option (List ℕ)) → IfSome told (λ bytes. bytes ≡ []) → IfSome told (λ bytes. bytes ++ [] ≡ [])
told-none None is = tt
told-none (Some bytes) is = append-nil bytes ∙ is

-- what is told with bytes more grew, and became no shorter
pub grew_with : (told : Option (List ℕ)) (more : List ℕ) → 0 < length more → Grew told (told_with more told)
grew_with None more some = tt
grew_with (Some bytes) more some = omega (arith, length-append bytes more)

pub no_shorter_with : (told : Option (List ℕ)) (more : List ℕ) → NoShorter told (told_with more told)
no_shorter_with None more = tt
no_shorter_with (Some bytes) more = omega (arith, length-append bytes more)

pub no_shorter_same : (told : Option (List ℕ)) → NoShorter told told
no_shorter_same None = tt
no_shorter_same (Some bytes) = omega arith

pub no_shorter_both : (first between last : Option (List ℕ)) → NoShorter first between → NoShorter between last → NoShorter first last
no_shorter_both None None None one other = tt
no_shorter_both None None (Some last) one other = absurd other
no_shorter_both None (Some between) last one other = absurd one
no_shorter_both (Some first) None last one other = absurd one
no_shorter_both (Some first) (Some between) None one other = absurd other
no_shorter_both (Some first) (Some between) (Some last) one other = omega arith

pub grew_then : (first between last : Option (List ℕ)) → Grew first between → NoShorter between last → Grew first last
grew_then None between last grew longer = tt
grew_then (Some first) None None grew longer = grew
grew_then (Some first) None (Some last) grew longer = absurd longer
grew_then (Some first) (Some between) None grew longer = absurd longer
grew_then (Some first) (Some between) (Some last) grew longer = omega arith

pub then_grew : (first between last : Option (List ℕ)) → NoShorter first between → Grew between last → Grew first last
then_grew None between last longer grew = tt
then_grew (Some first) None last longer grew = absurd longer
then_grew (Some first) (Some between) None longer grew = grew
then_grew (Some first) (Some between) (Some last) longer grew = omega arith
