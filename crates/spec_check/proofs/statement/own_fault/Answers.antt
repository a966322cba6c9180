use Rattle.spec_check.proofs.statement.own_fault.Goals as goal

pub returns : goal.returns
returns c =
    let known = c.args.known.now in
    rw (
      ← c.in_ok-again.ensures,
      ← c.uses_unknown.ensures,
      ← c.is_well_typed.ensures,
      ← c.takes_in_start.ensures,
      ← c.has_bad_length.ensures known,
      ← c.names_past_conns.ensures,
      ← c.has_too_many_cases.ensures known,
      ← c.has_too_many_items.ensures known,
      ← c.has_too_many_parts.ensures known,
      ← c.has_too_many_arms.ensures known,
      ← c.has_long_text.ensures,
    ) c.first_listed.ensures
