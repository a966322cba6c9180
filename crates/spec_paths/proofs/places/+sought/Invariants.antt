use Rattle.std.proofs.Common.{◌≡◌, ◌+◌, length, map, take}
use Rattle.std.specs.List.{concat}
use Rattle.spec_rules.specs.Bad.{places_in}
use Rattle.spec_paths.specs.Crowded.{block_of_case}
use Rattle.spec_paths.specs.Sought.{places_of_stmt}
use Rattle.spec_paths.proofs.places.+sought.Given as goal

-- the places skipped so far, and those still to be skipped
abbrev pub invariant-seek_in_arms-loop-arm : goal.invariant-seek_in_arms-loop-arm
invariant-seek_in_arms-loop-arm l = l.skipped ≡ length (concat (map places_in (take l.arm-index l.arm-items))) + l.left

abbrev pub invariant-seek_in_block-loop-stmt : goal.invariant-seek_in_block-loop-stmt
invariant-seek_in_block-loop-stmt l = l.skipped ≡ length (concat (map places_of_stmt (take l.stmt-index l.stmt-items))) + l.left

abbrev pub invariant-seek_in_cases-loop-case : goal.invariant-seek_in_cases-loop-case
invariant-seek_in_cases-loop-case l = l.skipped ≡ length (concat (map (λ case. places_in (block_of_case case)) (take l.case-index l.case-items))) + l.left
