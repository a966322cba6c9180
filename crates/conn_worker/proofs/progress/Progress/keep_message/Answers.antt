use Rattle.std.proofs.Common.{◌≡◌, ℕ, ◌-◌, ◌+◌, List, take, drop, ap, ◌∙◌, arith}
use Rattle.std.proofs.lemmas.Grind.{common_steps}
use Rattle.conn_worker.proofs.SeenAt.{kept_at}
use Rattle.conn_worker.proofs.progress.Progress.keep_message.Goals as goal

-- the bytes between two places
between : (bytes at_hand message : List ℕ) (start len : ℕ) → message ≡ take (start + len - start) (drop start bytes) → bytes ≡ at_hand
    → message ≡ take len (drop start at_hand)
between bytes at_hand message start len is same =
    is ∙ (ap (λ bytes. take (start + len - start) (drop start bytes)) same ∙ ap (λ count. take count (drop start at_hand)) (omega arith))

pub returns-in-Kept-clause-saw : goal.returns-in-Kept-clause-saw
returns-in-Kept-clause-saw g c = λ link.
    kept_at link _ _ c.args.start c.args.len c.args.used c.in_ok-receipt.receipt c.in_ok-message.message _ _ _ _ _ _ c.in-Kept.verdict _ c.self.view_is c.requires.whole
    (between _ _ _ c.args.start c.args.len c.in_ok-receipt.ensures c.as_slice.ensures)
    (between _ _ _ c.args.start c.args.len c.in_ok-message.ensures c.as_slice.ensures)
    (grind (arith, common_steps)) c.pass.ensures c.in-Kept.ensures.grows c.in-Kept.ensures.counted c.kept.ensures
