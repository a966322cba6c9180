-- What a command comes to, file by file: it ends at a file, or it goes on with what the file holds.
use Rattle.std.proofs.Common.{◌≡◌, ℕ, List, Some, Result, Ok, Err, refl, sym, ◌∙◌, ap, subst}
use Rattle.spec_model.specs.declared.tree.Spec.{Spec}
use Rattle.exchange_text.specs.declared.refusal.TextRefusal.{TextRefusal}
use Rattle.dualtest_main.specs.declared.reading.TheConstants.{SPEC_LIMIT}
use Rattle.dualtest_main.specs.declared.status.Status.{Status}
use Rattle.dualtest_main.specs.declared.stop.Stop.{Stop}
use Rattle.dualtest_main.specs.Outcome.{GoesOnWith, Holds, HoldsSpec, StopsCommand}
use Rattle.dualtest_main.specs.Report.{status_of}
use Rattle.dualtest_main.specs.Words.{Command, spec_of}
use Rattle.dualtest_main.proofs.OneEnd.{EndsAt, Files, LinesEnd, command_goes_on, lines_go_on, never_ends, one_command_end, one_end, one_lines_end, one_spec, one_value}

-- what comes of a file that is read
abbrev pub Comes : {V : Type 0} → (V → Status → List ℕ → Type 0) → Result V Stop → Status → List ℕ → Type 0
Comes Behind (Ok value) status report = Behind value status report
Comes Behind (Err stop) status report = status ≡ status_of stop

-- A file is read with this outcome, and then comes what comes of that.
pub record Stage {V : Type 0} (At : Result V Stop → Type 0) (Behind : V → Status → List ℕ → Type 0) (status : Status) (report : List ℕ) : Type 0 where
  pub outcome : Result V Stop
  pub at : At outcome
  pub behind : Comes Behind outcome status report

-- Files have one outcome each.
module _ {V : Type 0} (At : Result V Stop → Type 0) (one : (outcome other : Result V Stop) → At outcome → At other → outcome ≡ other)
    (Behind : V → Status → List ℕ → Type 0)
  where
    -- with what a file holds a command goes on
    pub stage_at : (value : V) (status : Status) (report : List ℕ) → At (Ok value) → Stage At Behind status report → Behind value status report
    stage_at value status report holds stage =
        subst (λ outcome. Comes Behind outcome status report) (one stage.outcome (Ok value) stage.at holds) stage.behind

    comes_once : (outcome : Result V Stop) (status other : Status) (report other_report : List ℕ) → At outcome
        → ((value : V) → At (Ok value) → Behind value status report → Behind value other other_report → status ≡ other)
        → Comes Behind outcome status report → Comes Behind outcome other other_report → status ≡ other
    comes_once (Ok value) status other report other_report at one_behind comes others = one_behind value at comes others
    comes_once (Err stop) status other report other_report at one_behind comes others = comes ∙ sym others

    -- one status comes of it, where one comes of each value
    pub stage_once : (status other : Status) (report other_report : List ℕ)
        → ((value : V) → At (Ok value) → Behind value status report → Behind value other other_report → status ≡ other)
        → Stage At Behind status report → Stage At Behind other other_report → status ≡ other
    stage_once status other report other_report one_behind stage others =
        let same = one others.outcome stage.outcome others.at stage.at in
        comes_once stage.outcome status other report other_report stage.at one_behind stage.behind
        (subst (λ outcome. Comes Behind outcome other other_report) same others.behind)

module _ (files : Files) where
  -- what a command makes of the file of its specification
  abbrev pub AtSpec : Command → Result Spec Stop → Type 0
  AtSpec command (Ok spec) = HoldsSpec (Some files) (spec_of command) spec × GoesOnWith command spec
  AtSpec command (Err stop) = EndsAt files (spec_of command) SPEC_LIMIT (StopsCommand command) 1 stop

  never_both : (command : Command) (spec : Spec) (stop : Stop) → AtSpec command (Ok spec) → AtSpec command (Err stop) → ⊥
  never_both command spec stop (holds, goes_on) ends =
      never_ends files (spec_of command) SPEC_LIMIT (StopsCommand command) 1 stop holds.text holds.held
      (command_goes_on command holds.text spec holds.spells holds.accepted goes_on stop) ends

  pub one_at_spec : (command : Command) (outcome other : Result Spec Stop) → AtSpec command outcome → AtSpec command other → outcome ≡ other
  one_at_spec command (Ok spec) (Ok other) (holds, goes_on) (others, goes_too) = ap Ok (one_spec files (spec_of command) spec other holds others)
  one_at_spec command (Ok spec) (Err stop) at ends = absurd (never_both command spec stop at ends)
  one_at_spec command (Err stop) (Ok spec) ends at = absurd (never_both command spec stop at ends)
  one_at_spec command (Err stop) (Err other) ends others =
      ap Err (one_end files (spec_of command) SPEC_LIMIT (StopsCommand command) 1 stop other (λ text. one_command_end command text stop other) ends others)

  -- what a command makes of a file of lines, of whose texts each has one outcome
  module _ {V : Type 0} (Outcome : List ℕ → Result V TextRefusal → Type 0) (name : List ℕ) (limit number : ℕ) where
    abbrev pub AtLines : Result V Stop → Type 0
    AtLines (Ok value) = (text : List ℕ) × Holds (Some files) name limit text × Outcome text (Ok value)
    AtLines (Err stop) = EndsAt files name limit (LinesEnd Outcome number) number stop

    pub one_at_lines : ((text : List ℕ) (one other : Result V TextRefusal) → Outcome text one → Outcome text other → one ≡ other)
        → (outcome other : Result V Stop) → AtLines outcome → AtLines other → outcome ≡ other
    one_at_lines one (Ok value) (Ok other) (text, held, spells) (other_text, others, other_spells) =
        ap Ok (one_value Outcome number one files name limit text other_text value other held others spells other_spells)
    one_at_lines one (Ok value) (Err stop) (text, held, spells) ends =
        absurd (never_ends files name limit (LinesEnd Outcome number) number stop text held (lines_go_on Outcome number one text value spells stop) ends)
    one_at_lines one (Err stop) (Ok value) ends (text, held, spells) =
        absurd (never_ends files name limit (LinesEnd Outcome number) number stop text held (lines_go_on Outcome number one text value spells stop) ends)
    one_at_lines one (Err stop) (Err other) ends others =
        ap Err (one_end files name limit (LinesEnd Outcome number) number stop other (λ text. one_lines_end Outcome number one text stop other) ends others)
