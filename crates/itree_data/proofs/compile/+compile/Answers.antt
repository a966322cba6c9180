use Rattle.std.proofs.Common.{rules, ◌≡◌, ◌++◌, ◌∷◌, [], length, take, drop, refl, sym, ◌∙◌, ap, subst, arith, append_assoc, append-nil, ◌-◌}
use Rattle.std.proofs.Math.Seq.{drop-length}
use Rattle.std.proofs.lemmas.List.{take_at}
use Rattle.std.proofs.lemmas.Option.{slice_get-get_or}
use Rattle.std.specs.Prelude.{reverse, Some}
use Rattle.spec_model.specs.declared.tree.Kind.{out-Kind, the_lemmas}
use Rattle.spec_model.specs.declared.tree.Kind.TheVariants as kinds
use Rattle.spec_model.specs.declared.tree.Kind.TheOpen.{Send, Pick, Assign, Assume}
use Rattle.spec_model.specs.Config.{kind_of}
use Rattle.spec_rules.specs.declared.names.ValueType.TheVariants.{Text}
use Rattle.spec_rules.specs.Names.{local, names_of_chan}
use Rattle.itree_data.specs.declared.node.TakeCase.{TakeCase}
use Rattle.itree_data.specs.Making.{AreSound, IsAllSound, MakesArms, MakesCases, MakesStmts}
use Rattle.itree_data.specs.Scope.{bound_by}
use Rattle.itree_data.proofs.Blocks.{arms_next, assume_puts, cases_next, makes_if, makes_lookup, makes_recv, sound_absent, sound_arms, sound_cases, sound_fails, sound_found, sound_holds, sound_rest, stmts_next}
use Rattle.itree_data.proofs.Composing.{delete_makes, either_makes, no_arms, no_cases, no_stmts, puts_makes, put_makes}
use Rattle.itree_data.proofs.Named.{assume_sides, if_sides, lookup_named, recv_conn}
use Rattle.itree_data.proofs.Sound.{sound_at}
use Rattle.itree_data.proofs.compile.+compile.Goals as goal

-- nothing is left behind the last one
pub arms-loop-left-init : goal.arms-loop-left-init
arms-loop-left-init t c =
    let arms = c.as_slice-arms.result.now in
    record {
      within = omega arith;
      made = rw (c.new-targets.ensures.items) (subst (λ xs. MakesArms c.args.decls.now c.args.scope.now xs c.args.next c.args.nodes.now c.args.nodes.now []) (sym (drop-length arms))
          (no_arms c.args.decls.now c.args.scope.now c.args.next c.args.nodes.now));
    }

pub arms-loop-left-preserved : goal.arms-loop-left-preserved
arms-loop-left-preserved t c =
    let arms = c.as_slice-arms.result.now in
    let pushed = c.in_ok-push.ensures.items in
    let next = arms_next c.args.decls.now c.args.scope.now arms c.loop-left.targets.items c.args.next c.in_ok-statements.field-0 c.args.nodes.now c.loop-left.nodes c.statements.new.nodes
    c.loop-left.left c.index-arms-left.result c.loop-left-test.true c.loop-left.invariant.within c.index-arms-left.is c.loop-left.invariant.made c.in_ok-statements.ensures in
    record {
      within = omega (arith, c.loop-left.invariant.within);
      made = subst (λ targets. MakesArms c.args.decls.now c.args.scope.now (drop (c.loop-left.left - 1) arms) c.args.next c.args.nodes.now c.statements.new.nodes (reverse targets)) (sym pushed) next;
    }

pub cases-loop-left-init : goal.cases-loop-left-init
cases-loop-left-init t c =
    let cases = c.as_slice-cases.result.now in
    record {
      within = omega arith;
      made = rw (c.new-taken.ensures.items) (subst (λ xs. MakesCases c.args.decls.now c.args.scope.now c.args.named.now xs c.args.next c.args.nodes.now c.args.nodes.now []) (sym (drop-length cases))
          (no_cases c.args.decls.now c.args.scope.now c.args.named.now c.args.next c.args.nodes.now));
    }

pub cases-loop-left-preserved : goal.cases-loop-left-preserved
cases-loop-left-preserved t c =
    let cases = c.as_slice-cases.result.now in
    let pushed = c.in_ok-push.ensures.items in
    let one : TakeCase = record { items = c.in_ok-items.items; next = c.in_ok-first.first } in
    let inner_is = c.as_slice-in-loop-left.ensures.value ∙ rw c.as_slice.ensures at c.in_ok-inner.ensures in
    let items_are = rw (c.as_slice-in-loop-left-2.ensures, c.in_ok-slot_count.ensures) at c.in_ok-items.ensures in
    let next = cases_next c.args.decls.now c.args.scope.now c.args.named.now c.as_slice-in-loop-left.result.now cases c.loop-left.taken.items c.args.next c.args.nodes.now c.loop-left.nodes
    c.statements.new.nodes c.loop-left.left c.index-cases-left.result one c.loop-left-test.true c.loop-left.invariant.within c.index-cases-left.is c.requires.begins inner_is items_are
    c.loop-left.invariant.made c.in_ok-first.ensures in
    record {
      within = omega (arith, c.loop-left.invariant.within);
      made = subst (λ taken. MakesCases c.args.decls.now c.args.scope.now c.args.named.now (drop (c.loop-left.left - 1) cases) c.args.next c.args.nodes.now c.statements.new.nodes (reverse taken)) (sym pushed) next;
    }

pub statement-statements-requires : goal.statement-statements-requires
statement-statements-requires t c =
    let kind = ap out-Kind c.in-Recv.is ∙ kinds.outs-Recv c.in-Recv.chan c.in-Recv.cases c.in-Recv.other c.in-Recv.rest in
    let named_is = c.as_slice-named.ensures.value ∙ c.in_ok-named-in-Recv.ensures in
    let inner_is = c.as_slice.ensures.value ∙ c.in_ok-inner-in-Recv.ensures ∙ ap (λ named. named ++ local c.in-Recv.other Text ∷ []) named_is
    ∙ append_assoc c.args.scope.now (names_of_chan c.in-Recv.chan) (local c.in-Recv.other Text ∷ []) in
    (search (rules, the_lemmas), sound_rest c.args.decls.now c.args.scope.now c.as_slice.result.now c.args.stmt.now c.in-Recv.chan c.in-Recv.cases c.in-Recv.other c.in-Recv.rest kind inner_is c.requires)

pub statement-cases-requires : goal.statement-cases-requires
statement-cases-requires t c =
    let kind = ap out-Kind c.in-Recv.is ∙ kinds.outs-Recv c.in-Recv.chan c.in-Recv.cases c.in-Recv.other c.in-Recv.rest in
    let named_is = c.as_slice-named.ensures.value ∙ c.in_ok-named-in-Recv.ensures in (
      search (rules, the_lemmas),
      (
        ap (take (length c.args.scope.now)) named_is ∙ take_at c.args.scope.now (names_of_chan c.in-Recv.chan) (length c.args.scope.now) refl,
        sound_cases c.args.decls.now c.args.scope.now c.as_slice-named.result.now c.args.stmt.now c.in-Recv.chan c.in-Recv.cases c.in-Recv.other c.in-Recv.rest kind named_is c.requires,
      ),
    )

pub statement-take-requires-clause-chan : goal.statement-take-requires-clause-chan
statement-take-requires-clause-chan t c =
    let kind = ap out-Kind c.in-Recv.is ∙ kinds.outs-Recv c.in-Recv.chan c.in-Recv.cases c.in-Recv.other c.in-Recv.rest in
    recv_conn c.args.decls.now c.args.scope.now c.in-Recv.chan c.in-Recv.cases c.in-Recv.other c.in-Recv.rest (subst (IsAllSound c.args.decls.now c.args.scope.now) kind c.requires)

pub statement-statements-requires-in-If : goal.statement-statements-requires-in-If
statement-statements-requires-in-If t c =
    let kind = ap out-Kind c.in-If.is ∙ kinds.outs-If c.in-If.cond c.in-If.yes c.in-If.no in
    (search (rules, the_lemmas), sound_fails c.args.decls.now c.args.scope.now c.args.stmt.now c.in-If.cond c.in-If.yes c.in-If.no kind c.requires)

pub statement-statements-requires-in-If-2 : goal.statement-statements-requires-in-If-2
statement-statements-requires-in-If-2 t c =
    let kind = ap out-Kind c.in-If.is ∙ kinds.outs-If c.in-If.cond c.in-If.yes c.in-If.no in
    (search (rules, the_lemmas), sound_holds c.args.decls.now c.args.scope.now c.args.stmt.now c.in-If.cond c.in-If.yes c.in-If.no kind c.requires)

pub statement-ask-requires : goal.statement-ask-requires
statement-ask-requires t c =
    let kind = ap out-Kind c.in-If.is ∙ kinds.outs-If c.in-If.cond c.in-If.yes c.in-If.no in
    if_sides c.args.decls.now c.args.scope.now c.in-If.cond c.in-If.yes c.in-If.no (subst (IsAllSound c.args.decls.now c.args.scope.now) kind c.requires)

pub statement-arms-requires : goal.statement-arms-requires
statement-arms-requires t c =
    let kind = ap out-Kind c.in-Either.is ∙ kinds.outs-Either c.in-Either.arms in
    (search (rules, the_lemmas), sound_arms c.args.decls.now c.args.scope.now c.args.stmt.now c.in-Either.arms kind c.requires)

pub statement-ask-requires-in-Assume : goal.statement-ask-requires-in-Assume
statement-ask-requires-in-Assume t c =
    let kind = ap out-Kind c.in-Assume.is ∙ kinds.outs-Assume c.in-Assume.cond in
    assume_sides c.args.decls.now c.args.scope.now c.in-Assume.cond (subst (IsAllSound c.args.decls.now c.args.scope.now) kind c.requires)

pub statement-statements-requires-in-Lookup : goal.statement-statements-requires-in-Lookup
statement-statements-requires-in-Lookup t c =
    let kind = ap out-Kind c.in-Lookup.is ∙ kinds.outs-Lookup c.in-Lookup.table c.in-Lookup.key c.in-Lookup.name c.in-Lookup.found c.in-Lookup.missing in
    (search (rules, the_lemmas), sound_absent c.args.decls.now c.args.scope.now c.args.stmt.now c.in-Lookup.table c.in-Lookup.key c.in-Lookup.name c.in-Lookup.found c.in-Lookup.missing kind c.requires)

pub statement-statements-requires-in-Lookup-2 : goal.statement-statements-requires-in-Lookup-2
statement-statements-requires-in-Lookup-2 t c =
    let kind = ap out-Kind c.in-Lookup.is ∙ kinds.outs-Lookup c.in-Lookup.table c.in-Lookup.key c.in-Lookup.name c.in-Lookup.found c.in-Lookup.missing in
    let inner_is = c.as_slice-in-Lookup.ensures.value ∙ c.in_ok-inner-in-Lookup.ensures in (
      search (rules, the_lemmas),
      sound_found c.args.decls.now c.args.scope.now c.as_slice-in-Lookup.result.now c.args.stmt.now c.in-Lookup.table c.in-Lookup.key c.in-Lookup.name c.in-Lookup.found c.in-Lookup.missing kind inner_is c.requires,
    )

pub statement-find_pair-requires : goal.statement-find_pair-requires
statement-find_pair-requires t c =
    let kind = ap out-Kind c.in-Lookup.is ∙ kinds.outs-Lookup c.in-Lookup.table c.in-Lookup.key c.in-Lookup.name c.in-Lookup.found c.in-Lookup.missing in
    lookup_named c.args.decls.now c.args.scope.now c.in-Lookup.table c.in-Lookup.key c.in-Lookup.name c.in-Lookup.found c.in-Lookup.missing (subst (IsAllSound c.args.decls.now c.args.scope.now) kind c.requires)

pub statement-returns-in_ok-first-in-Recv : goal.statement-returns-in_ok-first-in-Recv
statement-returns-in_ok-first-in-Recv t c =
    let kind = ap out-Kind c.in-Recv.is ∙ kinds.outs-Recv c.in-Recv.chan c.in-Recv.cases c.in-Recv.other c.in-Recv.rest in
    let named_is = c.as_slice-named.ensures.value ∙ c.in_ok-named-in-Recv.ensures in
    let inner_is = c.as_slice.ensures.value ∙ c.in_ok-inner-in-Recv.ensures ∙ ap (λ named. named ++ local c.in-Recv.other Text ∷ []) named_is
    ∙ append_assoc c.args.scope.now (names_of_chan c.in-Recv.chan) (local c.in-Recv.other Text ∷ []) in
    makes_recv c.args.decls.now c.args.scope.now c.as_slice-named.result.now c.as_slice.result.now c.args.stmt.now c.in-Recv.chan c.in-Recv.cases c.in-Recv.other c.in-Recv.rest
    c.in_ok-taken-in-Recv.taken.items c.args.next c.in_ok-last-in-Recv.last c.args.nodes.now c.statements.new.nodes c.cases.new.nodes c.take.new.nodes c.in_ok-first-in-Recv.first kind named_is inner_is
    c.in_ok-last-in-Recv.ensures c.in_ok-taken-in-Recv.ensures c.in_ok-first-in-Recv.ensures

pub statement-returns-in_ok-first-in-Send : goal.statement-returns-in_ok-first-in-Send
statement-returns-in_ok-first-in-Send t c =
    let kind = ap out-Kind c.in-Send.is ∙ kinds.outs-Send c.in-Send.conn c.in-Send.parts in
    puts_makes c.args.decls.now c.args.scope.now c.args.stmt.now (Send c.in-Send.conn c.in-Send.parts) c.args.next c.args.nodes.now c.send.new.nodes c.in_ok-first-in-Send.first kind refl
    (rw c.as_slice-in-Send.ensures at c.in_ok-first-in-Send.ensures)

pub statement-returns-in_ok-first-in-Pick : goal.statement-returns-in_ok-first-in-Pick
statement-returns-in_ok-first-in-Pick t c =
    let kind = ap out-Kind c.in-Pick.is ∙ kinds.outs-Pick c.in-Pick.name c.in-Pick.len c.in-Pick.alphabet in
    puts_makes c.args.decls.now c.args.scope.now c.args.stmt.now (Pick c.in-Pick.name c.in-Pick.len c.in-Pick.alphabet) c.args.next c.args.nodes.now c.choose.new.nodes c.in_ok-first-in-Pick.first kind refl
    c.in_ok-first-in-Pick.ensures

pub statement-returns-in_ok-first-in-Assign : goal.statement-returns-in_ok-first-in-Assign
statement-returns-in_ok-first-in-Assign t c =
    let kind = ap out-Kind c.in-Assign.is ∙ kinds.outs-Assign c.in-Assign.name c.in-Assign.left c.in-Assign.tail in
    puts_makes c.args.decls.now c.args.scope.now c.args.stmt.now (Assign c.in-Assign.name c.in-Assign.left c.in-Assign.tail) c.args.next c.args.nodes.now c.assign.new.nodes c.in_ok-first-in-Assign.first kind refl
    c.in_ok-first-in-Assign.ensures

pub statement-returns-in_ok-first-in-If : goal.statement-returns-in_ok-first-in-If
statement-returns-in_ok-first-in-If t c =
    let kind = ap out-Kind c.in-If.is ∙ kinds.outs-If c.in-If.cond c.in-If.yes c.in-If.no in
    makes_if c.args.decls.now c.args.scope.now c.args.stmt.now c.in-If.cond c.in-If.yes c.in-If.no c.args.next c.in_ok-holds-in-If.holds c.in_ok-fails-in-If.fails c.args.nodes.now c.statements-in-If.new.nodes
    c.statements-in-If-2.new.nodes c.ask.new.nodes c.in_ok-first-in-If.first kind c.in_ok-fails-in-If.ensures c.in_ok-holds-in-If.ensures c.in_ok-first-in-If.ensures

pub statement-returns-in_ok-first-in-Either : goal.statement-returns-in_ok-first-in-Either
statement-returns-in_ok-first-in-Either t c =
    let kind = ap out-Kind c.in-Either.is ∙ kinds.outs-Either c.in-Either.arms in
    either_makes c.args.decls.now c.args.scope.now c.args.stmt.now c.in-Either.arms c.in_ok-targets-in-Either.targets.items c.args.next c.args.nodes.now c.arms.new.nodes c.put.new.nodes c.in_ok-first-in-Either.first
    kind c.in_ok-targets-in-Either.ensures (rw c.from_vec-arms.ensures at c.in_ok-first-in-Either.ensures)

pub statement-returns-in_ok-first-in-Assume : goal.statement-returns-in_ok-first-in-Assume
statement-returns-in_ok-first-in-Assume t c =
    let kind = ap out-Kind c.in-Assume.is ∙ kinds.outs-Assume c.in-Assume.cond in
    puts_makes c.args.decls.now c.args.scope.now c.args.stmt.now (Assume c.in-Assume.cond) c.args.next c.args.nodes.now c.ask-in-Assume.new.nodes c.in_ok-first-in-Assume.first kind refl
    (assume_puts c.args.decls.now c.args.scope.now c.in-Assume.cond c.args.next c.args.nodes.now c.ask-in-Assume.new.nodes c.in_ok-first-in-Assume.first c.in_ok-first-in-Assume.ensures)

pub statement-returns-in_ok-first-in-Put : goal.statement-returns-in_ok-first-in-Put
statement-returns-in_ok-first-in-Put t c =
    let kind = ap out-Kind c.in-Put.is ∙ kinds.outs-Put c.in-Put.table c.in-Put.key c.in-Put.value in
    let puts = c.in_ok-first-in-Put.ensures in
    put_makes c.args.decls.now c.args.scope.now c.args.stmt.now c.in-Put.table c.in-Put.key c.in-Put.value puts.table puts.key_val puts.val c.args.next puts.missing puts.holds c.args.nodes.now puts.middle puts.last
    c.put_pair.new.nodes c.in_ok-first-in-Put.first kind puts.table_is puts.key_is puts.val_is puts.put_add puts.put_renew puts.put

pub statement-returns-in_ok-first-in-Lookup : goal.statement-returns-in_ok-first-in-Lookup
statement-returns-in_ok-first-in-Lookup t c =
    let kind = ap out-Kind c.in-Lookup.is ∙ kinds.outs-Lookup c.in-Lookup.table c.in-Lookup.key c.in-Lookup.name c.in-Lookup.found c.in-Lookup.missing in
    let inner_is = c.as_slice-in-Lookup.ensures.value ∙ c.in_ok-inner-in-Lookup.ensures in
    makes_lookup c.args.decls.now c.args.scope.now c.as_slice-in-Lookup.result.now c.args.stmt.now c.in-Lookup.table c.in-Lookup.key c.in-Lookup.name c.in-Lookup.found c.in-Lookup.missing c.args.next
    c.in_ok-inside-in-Lookup.inside c.in_ok-otherwise-in-Lookup.otherwise c.args.nodes.now c.statements-in-Lookup.new.nodes c.statements-in-Lookup-2.new.nodes c.find_pair.new.nodes c.in_ok-first-in-Lookup.first
    kind inner_is c.in_ok-otherwise-in-Lookup.ensures c.in_ok-inside-in-Lookup.ensures c.in_ok-first-in-Lookup.ensures

pub statement-returns-in_ok-first-in-Delete : goal.statement-returns-in_ok-first-in-Delete
statement-returns-in_ok-first-in-Delete t c =
    let kind = ap out-Kind c.in-Delete.is ∙ kinds.outs-Delete c.in-Delete.table c.in-Delete.key in
    let puts = c.in_ok-first-in-Delete.ensures in
    delete_makes c.args.decls.now c.args.scope.now c.args.stmt.now c.in-Delete.table c.in-Delete.key puts.table puts.key_val c.args.next puts.holds c.args.nodes.now puts.last c.delete_pair.new.nodes
    c.in_ok-first-in-Delete.first kind puts.table_is puts.key_is puts.put_remove puts.put

-- nothing is left behind the last one
pub statements-loop-left-init : goal.statements-loop-left-init
statements-loop-left-init t c =
    let stmts = c.as_slice-stmts.result.now in
    record {
      within = omega arith;
      made = subst (λ xs. MakesStmts c.args.decls.now (c.args.scope.now ++ bound_by (take (length stmts) stmts)) xs c.args.next c.args.nodes.now c.args.nodes.now c.args.next) (sym (drop-length stmts))
          (no_stmts c.args.decls.now (c.args.scope.now ++ bound_by (take (length stmts) stmts)) c.args.next c.args.nodes.now);
    }

pub statements-statement-requires : goal.statements-statement-requires
statements-statement-requires t c =
    let stmts = c.as_slice-stmts.result.now in
    let there = slice_get-get_or stmts (c.loop-left.left - 1) c.index-stmts-left.result (omega (arith, c.loop-left-test.true, c.loop-left.invariant.within)) ∙ ap Some (sym c.index-stmts-left.is) in
    let inner_is = c.as_slice.ensures.value ∙ c.in_ok-inner.ensures in
    let all_sound : AreSound c.args.decls.now c.args.scope.now stmts = subst (AreSound c.args.decls.now c.args.scope.now) (sym c.as_slice-stmts.ensures) c.requires in (
      search (rules, the_lemmas),
      subst (λ inner. IsAllSound c.args.decls.now inner (kind_of c.index-stmts-left.result)) (sym inner_is)
          (sound_at c.args.decls.now c.args.scope.now stmts (c.loop-left.left - 1) c.index-stmts-left.result all_sound there),
    )

pub statements-loop-left-preserved : goal.statements-loop-left-preserved
statements-loop-left-preserved t c =
    let stmts = c.as_slice-stmts.result.now in
    let inner_is = c.as_slice.ensures.value ∙ c.in_ok-inner.ensures in
    record {
      within = omega (arith, c.loop-left.invariant.within);
      made = stmts_next c.args.decls.now c.args.scope.now c.as_slice.result.now stmts c.args.next c.loop-left.first c.args.nodes.now c.loop-left.nodes c.statement.new.nodes c.in_ok-first.first c.loop-left.left
          c.index-stmts-left.result c.loop-left-test.true c.loop-left.invariant.within c.index-stmts-left.is inner_is c.loop-left.invariant.made c.in_ok-first.ensures;
    }

-- nothing is before the first one
pub statements-returns : goal.statements-returns
statements-returns t c =
    let stmts = c.as_slice-stmts.result.now in
    let none_left : c.loop-left.left ≡ 0 = omega (arith, c.loop-left-test.false) in
    let all = subst (λ n. MakesStmts c.args.decls.now (c.args.scope.now ++ bound_by (take n stmts)) (drop n stmts) c.args.next c.args.nodes.now c.loop-left.nodes c.loop-left.first) none_left c.loop-left.invariant.made in
    let here = subst (λ scope. MakesStmts c.args.decls.now scope stmts c.args.next c.args.nodes.now c.loop-left.nodes c.loop-left.first) (append-nil c.args.scope.now) all in
    subst (λ stmts. MakesStmts c.args.decls.now c.args.scope.now stmts c.args.next c.args.nodes.now c.loop-left.nodes c.loop-left.first) c.as_slice-stmts.ensures here
