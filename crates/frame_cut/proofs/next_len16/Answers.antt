use Rattle.std.proofs.Common.{◌≡◌, ℕ, ◌+◌, ◌-◌, ◌*◌, List, length, take, drop, arith}
use Rattle.std.proofs.lemmas.List.{length-drop, length-take}
use Rattle.frame_cut.proofs.LengthCuts.{cut-empty, cut-unfinished, cut-unfinished_at_one, cut-whole}
use Rattle.frame_cut.proofs.next_len16.Goals as goal

-- the code's last bytes are those behind the first two
behind_length : (bytes : List ℕ) → length (take (length bytes - 2) (drop 2 bytes)) ≡ length (drop 2 bytes)
behind_length bytes = omega (arith, length-take (length bytes - 2) (drop 2 bytes), length-drop 2 bytes)

pub returns-in-empty : goal.returns-in-empty
returns-in-empty c = cut-empty c.args.shape.now c.requires c.args.bytes.now c.in-empty.len_below

pub returns-in-len1-2 : goal.returns-in-len1-2
returns-in-len1-2 c =
    cut-unfinished_at_one c.args.shape.now c.requires c.args.bytes.now c.in-len1.len_at_least c.in-len1.len_below
    (omega (arith, c.from.ensures, c.from-limit.ensures, c.if-from-limit.false))

pub returns-then-behind-len : goal.returns-then-behind-len
returns-then-behind-len c =
    cut-unfinished c.args.shape.now c.requires c.args.bytes.now c.in-len2-up.len_at_least (λ place. omega (arith, c.type_inv.bytes place))
    (omega arith) (omega (arith, behind_length c.args.bytes.now))

pub returns-else-behind-len : goal.returns-else-behind-len
returns-else-behind-len c =
    cut-whole c.args.shape.now c.requires c.args.bytes.now c.in-len2-up.len_at_least (λ place. omega (arith, c.type_inv.bytes place))
    (c.from-in-len2-up.result * 256 + c.from-in-len2-up-2.result) (omega arith) (omega arith)
    (omega (arith, behind_length c.args.bytes.now))
