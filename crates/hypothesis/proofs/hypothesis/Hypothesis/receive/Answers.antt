use Rattle.std.proofs.Common.{◌≡◌, [], Some, None, option_copied, sym, ◌∙◌, ap, slice_get, slice_index_or, subst}
use Rattle.std.specs.List.{concat}
use Rattle.hypothesis.specs.declared.received.Received.TheVariants.{Yes}
use Rattle.hypothesis.specs.Received.{Tells}
use Rattle.hypothesis.proofs.Receiving.{oldest_pending, tells_accepted, tells_nothing, tells_refused}
use Rattle.hypothesis.proofs.hypothesis.Hypothesis.receive.Goals as goal

pub returns-in_default-clause-ok : goal.returns-in_default-clause-ok
returns-in_default-clause-ok c = λ dual exchange skeleton is_dual stands.
    let none : oldest_pending c.args.self.now c.args.conn ≡ None
    = ap (λ pending. slice_get (slice_index_or pending c.args.conn []) 0) (sym c.as_slice.ensures) ∙ sym c.oldest_pending.ensures ∙ ap option_copied c.in_default.is in
    tells_nothing dual is_dual exchange skeleton c.args.conn c.args.message.now c.args.self.now stands none

pub returns-then-not-is_joined-clause-ok : goal.returns-then-not-is_joined-clause-ok
returns-then-not-is_joined-clause-ok c = λ dual exchange skeleton is_dual stands.
    let is : oldest_pending c.args.self.now c.args.conn ≡ Some c.in-Some.oldest.now
    = ap (λ pending. slice_get (slice_index_or pending c.args.conn []) 0) (sym c.as_slice.ensures) ∙ sym c.oldest_pending.ensures ∙ ap option_copied c.in-Some.is in
    let other : ¬ (concat c.in-Some.oldest.now ≡ c.args.message.now)
    = λ same. (let joined = c.is_joined.ensures.1 (ap concat c.as_slice-2.ensures ∙ same ∙ sym c.as_slice-3.ensures) in cc (joined, c.if-not-is_joined.true)) in
    tells_refused dual is_dual exchange skeleton c.args.conn c.args.message.now c.args.self.now stands c.in-Some.oldest.now is other

pub returns-clause-ok : goal.returns-clause-ok
returns-clause-ok c = λ dual exchange skeleton is_dual stands.
    let is : oldest_pending c.args.self.now c.args.conn ≡ Some c.in-Some.oldest.now
    = ap (λ pending. slice_get (slice_index_or pending c.args.conn []) 0) (sym c.as_slice.ensures) ∙ sym c.oldest_pending.ensures ∙ ap option_copied c.in-Some.is in
    let same : concat c.in-Some.oldest.now ≡ c.args.message.now
    = ap concat (sym c.as_slice-2.ensures) ∙ c.is_joined.ensures.0 c.if-not-is_joined.false ∙ c.as_slice-3.ensures in
    let accepted = tells_accepted dual is_dual exchange skeleton c.args.conn c.args.message.now c.args.self.now stands c.in-Some.oldest.now is same in
    subst
    (λ pending. Tells dual exchange skeleton c.args.conn c.args.message.now c.args.self.now (record c.args.self.now { state = record c.args.self.now.state { pending = pending } }) Yes)
    (sym c.take_oldest.ensures) accepted
