-- A command ends early at its files in one way, and at none whose text is gone on with.
use Rattle.std.proofs.Common.{◌≡◌, ℕ, ◌<◌, ◌≤◌, ◌^◌, List, Some, Result, Ok, Err, refl, sym, ◌∙◌, ap, subst, arith, Bool, true, false, ◌&&◌, nat_le}
use Rattle.std.proofs.lemmas.Bool.{leb-true}
use Rattle.std.proofs.lemmas.Fmt.{decimal_injective}
use Rattle.spec_model.specs.declared.tree.Spec.{Spec}
use Rattle.spec_rules.specs.declared.fault.Fault.TheVariants as faults
use Rattle.spec_rules.specs.declared.fault.Limit.TheVariants as limits
use Rattle.spec_rules.specs.Accepted.{IsAccepted, IsFirstBad}
use Rattle.spec_rules.specs.Bad.{is_within}
use Rattle.spec_rules.proofs.Faults.{same_first}
use Rattle.spec_scan.proofs.OnePlace.{one_place}
use Rattle.spec_syntax.specs.Readable.{IsReadable}
use Rattle.spec_syntax.proofs.OneReading.{one_tree, refused_not_read}
use Rattle.hypothesis.specs.Judged.{PicksNothing}
use Rattle.exchange_text.specs.declared.refusal.TextRefusal.{TextRefusal}
use Rattle.dt_ports.specs.declared.files.FileCounts.{FileCounts}
use Rattle.dualtest_main.specs.declared.stop.Stop.{Stop}
use Rattle.dualtest_main.specs.declared.stop.Stop.TheVariants as stops
use Rattle.dualtest_main.specs.declared.stop.TextFault.{TextFault}
use Rattle.dualtest_main.specs.declared.stop.TextFault.TheVariants as text_faults
use Rattle.dualtest_main.specs.Headline.{IsUnhindered}
use Rattle.dualtest_main.specs.Outcome.{GoesOnWith, Holds, HoldsSpec, IsLonger, JudgedSpecStops, LinesStop, SpecStops, Stops, StopsCommand, refusal_of}
use Rattle.dualtest_main.specs.declared.reading.TheConstants.{SPEC_LIMIT}
use Rattle.dualtest_main.specs.Report.{status_of}
use Rattle.dualtest_main.specs.declared.recipe.Recipe.{Recipe}
use Rattle.dualtest_main.specs.Words.{Asks, Command, IsWithinBounds, check, judge, recipe_words, replay, script}

-- the files that are told
abbrev pub Files : Type 0
Files = List (List ℕ × List ℕ)

-- words spell the numbers of a script in one way
one_recipe : (recipe other : Recipe) → IsWithinBounds recipe → IsWithinBounds other → recipe_words recipe ≡ recipe_words other → recipe ≡ other
one_recipe recipe other bounds others same =
    let few : recipe.conns ≤ 16 = bounds.conns in
    let few_others : other.conns ≤ 16 = others.conns in
    let short : recipe.steps ≤ 4096 = bounds.steps in
    let short_others : other.steps ≤ 4096 = others.steps in
    let seeds : recipe.seed ≡ other.seed = decimal_injective recipe.seed other.seed bounds.seed others.seed (cc same) in
    let conns : recipe.conns ≡ other.conns = decimal_injective recipe.conns other.conns (omega (arith, few)) (omega (arith, few_others)) (cc same) in
    let steps : recipe.steps ≡ other.steps = decimal_injective recipe.steps other.steps (omega (arith, short)) (omega (arith, short_others)) (cc same) in
    ap (λ n. record recipe { seed = n }) seeds ∙ ap (λ n. record recipe { seed = other.seed; conns = n }) conns ∙ ap (λ n. record other { steps = n }) steps

-- words ask for one command
pub one_command : (words : List (List ℕ)) (command other : Command) → Asks words command → Asks words other → command ≡ other
one_command words (check spec) (check other) asks others = ap check (let same = sym asks.words_are ∙ others.words_are in cc same)
one_command words (judge spec exchange) (judge other_spec other) asks others =
    let same = sym asks.words_are ∙ others.words_are in
    let specs : spec ≡ other_spec = cc same in
    let exchanges : exchange ≡ other = cc same in
    ap (λ s. judge s exchange) specs ∙ ap (judge other_spec) exchanges
one_command words (replay spec exchange world) (replay other_spec other other_world) asks others =
    let same = sym asks.words_are ∙ others.words_are in
    let specs : spec ≡ other_spec = cc same in
    let exchanges : exchange ≡ other = cc same in
    let worlds : world ≡ other_world = cc same in
    ap (λ s. replay s exchange world) specs ∙ ap (λ e. replay other_spec e world) exchanges ∙ ap (replay other_spec other) worlds
one_command words (script spec recipe) (script other_spec other) asks others =
    let same = sym asks.words_are ∙ others.words_are in
    let specs : spec ≡ other_spec = cc same in
    let numbers : recipe_words recipe ≡ recipe_words other = cc same in
    ap (λ s. script s recipe) specs ∙ ap (script other_spec) (one_recipe recipe other asks.bounded others.bounded numbers)
one_command words command other asks others = absurd (let same = sym asks.words_are ∙ others.words_are in cc same)

-- a file holds one text
one_text : (files : Files) (name : List ℕ) (limit : ℕ) (text other : List ℕ) → Holds (Some files) name limit text → Holds (Some files) name limit other → text ≡ other
one_text files name limit text other held others = cc (held.as_told, others.as_told)

-- and the text of one specification
pub one_spec : (files : Files) (name : List ℕ) (spec other : Spec) → HoldsSpec (Some files) name spec → HoldsSpec (Some files) name other → spec ≡ other
one_spec files name spec other holds others =
    let same = one_text files name SPEC_LIMIT holds.text others.text holds.held others.held in
    one_tree others.text spec other (subst (λ text. IsReadable text spec) same holds.spells) others.spells

within_both : (first second : Bool) → ((first && second) ≡ false → ⊥) → (first ≡ true) × (second ≡ true)
within_both true true within = (refl, refl)
within_both true false within = absurd (within refl)
within_both false second within = absurd (within refl)

-- an accepted specification has 1 to 16 connections
one_to_16 : (spec : Spec) → IsAccepted spec → (1 ≤ spec.shape.conns) × (spec.shape.conns ≤ 16)
one_to_16 spec accepted =
    let within : is_within 1 16 spec.shape.conns ≡ false → ⊥ = λ past. accepted.none_bad (faults.Limit limits.Conns) spec.conns_at (past, refl) in
    let both = within_both (nat_le 1 spec.shape.conns) (nat_le spec.shape.conns 16) within in
    (leb-true 1 spec.shape.conns both.0, leb-true spec.shape.conns 16 both.1)

pub at_least_1 : (spec : Spec) → IsAccepted spec → 1 ≤ spec.shape.conns
at_least_1 spec accepted = (one_to_16 spec accepted).0

pub at_most_16 : (spec : Spec) → IsAccepted spec → spec.shape.conns ≤ 16
at_most_16 spec accepted = (one_to_16 spec accepted).1

pub few_conns : (spec : Spec) → IsAccepted spec → spec.shape.conns < 2 ^ 16
few_conns spec accepted = omega (arith, at_most_16 spec accepted)

-- Why an unhindered command ends at a told file: it is too long, or its text is one at which the command ends so.
pub data EndsAt (files : Files) (name : List ℕ) (limit : ℕ) (TextStops : List ℕ → Stop → Type 0) (file : ℕ) : Stop → Type 0 where
  too_long : IsLonger (Some files) name limit → EndsAt files name limit TextStops file (stops.TooLong file)
  at_text : {stop : Stop} (text : List ℕ) → Holds (Some files) name limit text → TextStops text stop → EndsAt files name limit TextStops file stop

pub ends_at : (files : Files) (name : List ℕ) (limit : ℕ) (TextStops : List ℕ → Stop → Type 0) (file : ℕ) (old new : FileCounts) (stop : Stop)
    → IsUnhindered (status_of stop) → Stops (Some files) name limit TextStops file old new stop → EndsAt files name limit TextStops file stop
ends_at files name limit TextStops file old new (stops.ReadFault number) unhindered at_file = absurd unhindered
ends_at files name limit TextStops file old new stops.Memory unhindered at_file = absurd unhindered
ends_at files name limit TextStops file old new (stops.TooLong number) unhindered at_file =
    subst (λ n. EndsAt files name limit TextStops file (stops.TooLong n)) (sym at_file.0) (too_long at_file.1)
ends_at files name limit TextStops file old new (stops.Syntax place) unhindered at_file = at_text at_file.0 at_file.1 at_file.2
ends_at files name limit TextStops file old new (stops.Bad fault place) unhindered at_file = at_text at_file.0 at_file.1 at_file.2
ends_at files name limit TextStops file old new (stops.Text number fault line) unhindered at_file = at_text at_file.0 at_file.1 at_file.2
ends_at files name limit TextStops file old new (stops.Unbuilt number) unhindered at_file = at_text at_file.0 at_file.1 at_file.2

-- a file that is too long holds no text within its limit
not_longer : (files : Files) (name : List ℕ) (limit : ℕ) (text : List ℕ) → Holds (Some files) name limit text → IsLonger (Some files) name limit → ⊥
not_longer files name limit text held longer =
    let within = held.within in
    let longer_text = rw held.as_told at longer in omega (arith, longer_text, within)

-- no command that is not hindered ends at a file of which each text that it holds is gone on with
pub never_ends : (files : Files) (name : List ℕ) (limit : ℕ) (TextStops : List ℕ → Stop → Type 0) (file : ℕ) (stop : Stop) (text : List ℕ)
    → Holds (Some files) name limit text → (TextStops text stop → ⊥) → EndsAt files name limit TextStops file stop → ⊥
never_ends files name limit TextStops file _ text held goes_on (too_long longer) = not_longer files name limit text held longer
never_ends files name limit TextStops file stop text held goes_on (at_text other others at_other) =
    goes_on (subst (λ t. TextStops t stop) (one_text files name limit other text others held) at_other)

-- it ends at a file in one way, where it ends at each text in one way
pub one_end : (files : Files) (name : List ℕ) (limit : ℕ) (TextStops : List ℕ → Stop → Type 0) (file : ℕ) (stop other : Stop)
    → ((text : List ℕ) → TextStops text stop → TextStops text other → stop ≡ other)
    → EndsAt files name limit TextStops file stop → EndsAt files name limit TextStops file other → stop ≡ other
one_end files name limit TextStops file _ _ one (too_long longer) (too_long others) = refl
one_end files name limit TextStops file _ other one (too_long longer) (at_text text held at_other) = absurd (not_longer files name limit text held longer)
one_end files name limit TextStops file stop _ one (at_text text held at_stop) (too_long longer) = absurd (not_longer files name limit text held longer)
one_end files name limit TextStops file stop other one (at_text text held at_stop) (at_text other_text others at_other) =
    one other_text (subst (λ t. TextStops t stop) (one_text files name limit text other_text held others) at_stop) at_other

-- a text of an accepted specification is gone on with
pub spec_goes_on : (text : List ℕ) (spec : Spec) → IsReadable text spec → IsAccepted spec → (stop : Stop) → SpecStops text stop → ⊥
spec_goes_on text spec readable accepted (stops.Syntax place) ends = refused_not_read text place spec ends readable
spec_goes_on text spec readable accepted (stops.Bad fault place) ends =
    accepted.none_bad fault place (subst (λ s. IsFirstBad s fault place) (one_tree text ends.0 spec ends.1 readable) ends.2).bad
spec_goes_on text spec readable accepted (stops.Text file fault line) ends = ends
spec_goes_on text spec readable accepted (stops.Unbuilt file) ends = ends
spec_goes_on text spec readable accepted (stops.ReadFault file) ends = ends
spec_goes_on text spec readable accepted (stops.TooLong file) ends = ends
spec_goes_on text spec readable accepted stops.Memory ends = ends

-- and by `judge`, where it also picks nothing
pub judged_goes_on : (text : List ℕ) (spec : Spec) → IsReadable text spec → IsAccepted spec → PicksNothing spec → (stop : Stop) → JudgedSpecStops text stop → ⊥
judged_goes_on text spec readable accepted picks_nothing (stops.Unbuilt file) ends = ends.1.3 (subst PicksNothing (one_tree text spec ends.1.0 readable ends.1.1) picks_nothing)
judged_goes_on text spec readable accepted picks_nothing (stops.Syntax place) ends = spec_goes_on text spec readable accepted (stops.Syntax place) ends
judged_goes_on text spec readable accepted picks_nothing (stops.Bad fault place) ends = spec_goes_on text spec readable accepted (stops.Bad fault place) ends
judged_goes_on text spec readable accepted picks_nothing (stops.Text file fault line) ends = ends
judged_goes_on text spec readable accepted picks_nothing (stops.ReadFault file) ends = ends
judged_goes_on text spec readable accepted picks_nothing (stops.TooLong file) ends = ends
judged_goes_on text spec readable accepted picks_nothing stops.Memory ends = ends

-- a text of a specification ends each command in one way
one_spec_end : (text : List ℕ) (stop other : Stop) → SpecStops text stop → SpecStops text other → stop ≡ other
one_spec_end text (stops.Syntax place) (stops.Syntax other) ends others = ap stops.Syntax (one_place text place other ends others)
one_spec_end text (stops.Syntax place) (stops.Bad fault at) ends others = absurd (refused_not_read text place others.0 ends others.1)
one_spec_end text (stops.Bad fault at) (stops.Syntax place) ends others = absurd (refused_not_read text place ends.0 others ends.1)
one_spec_end text (stops.Bad fault at) (stops.Bad other other_at) ends others =
    let here = subst (λ s. IsFirstBad s fault at) (one_tree text ends.0 others.0 ends.1 others.1) ends.2 in
    let same = same_first others.0 fault other at other_at here others.2 in
    ap (λ f. stops.Bad f at) same.0 ∙ ap (stops.Bad other) same.1
one_spec_end text (stops.ReadFault file) other ends others = absurd ends
one_spec_end text (stops.TooLong file) other ends others = absurd ends
one_spec_end text (stops.Text file fault line) other ends others = absurd ends
one_spec_end text (stops.Unbuilt file) other ends others = absurd ends
one_spec_end text stops.Memory other ends others = absurd ends
one_spec_end text (stops.Syntax place) _ ends others = absurd others
one_spec_end text (stops.Bad fault at) _ ends others = absurd others

one_judged_end : (text : List ℕ) (stop other : Stop) → JudgedSpecStops text stop → JudgedSpecStops text other → stop ≡ other
one_judged_end text (stops.Unbuilt file) (stops.Unbuilt other) ends others = ap stops.Unbuilt (ends.0 ∙ sym others.0)
one_judged_end text (stops.Unbuilt file) (stops.Syntax place) ends others = absurd (spec_goes_on text ends.1.0 ends.1.1 ends.1.2 (stops.Syntax place) others)
one_judged_end text (stops.Unbuilt file) (stops.Bad fault at) ends others = absurd (spec_goes_on text ends.1.0 ends.1.1 ends.1.2 (stops.Bad fault at) others)
one_judged_end text (stops.Unbuilt file) _ ends others = absurd others
one_judged_end text (stops.Syntax place) (stops.Unbuilt other) ends others = absurd (spec_goes_on text others.1.0 others.1.1 others.1.2 (stops.Syntax place) ends)
one_judged_end text (stops.Bad fault at) (stops.Unbuilt other) ends others = absurd (spec_goes_on text others.1.0 others.1.1 others.1.2 (stops.Bad fault at) ends)
one_judged_end text (stops.Syntax place) (stops.Syntax other) ends others = one_spec_end text (stops.Syntax place) (stops.Syntax other) ends others
one_judged_end text (stops.Syntax place) (stops.Bad fault at) ends others = one_spec_end text (stops.Syntax place) (stops.Bad fault at) ends others
one_judged_end text (stops.Bad fault at) (stops.Syntax place) ends others = one_spec_end text (stops.Bad fault at) (stops.Syntax place) ends others
one_judged_end text (stops.Bad fault at) (stops.Bad other other_at) ends others = one_spec_end text (stops.Bad fault at) (stops.Bad other other_at) ends others
one_judged_end text (stops.ReadFault file) other ends others = absurd ends
one_judged_end text (stops.TooLong file) other ends others = absurd ends
one_judged_end text (stops.Text file fault line) other ends others = absurd ends
one_judged_end text stops.Memory other ends others = absurd ends
one_judged_end text (stops.Syntax place) _ ends others = absurd others
one_judged_end text (stops.Bad fault at) _ ends others = absurd others

-- a text of a specification ends each command in one way, and one of a specification with which the command goes on in none
pub one_command_end : (command : Command) (text : List ℕ) (stop other : Stop) → StopsCommand command text stop → StopsCommand command text other → stop ≡ other
one_command_end (check spec) text stop other ends others = one_spec_end text stop other ends others
one_command_end (judge spec exchange) text stop other ends others = one_judged_end text stop other ends others
one_command_end (replay spec exchange world) text stop other ends others = one_spec_end text stop other ends others
one_command_end (script spec recipe) text stop other ends others = one_spec_end text stop other ends others

pub command_goes_on : (command : Command) (text : List ℕ) (spec : Spec) → IsReadable text spec → IsAccepted spec → GoesOnWith command spec → (stop : Stop) → StopsCommand command text stop → ⊥
command_goes_on (check name) text spec readable accepted goes_on stop ends = spec_goes_on text spec readable accepted stop ends
command_goes_on (judge name exchange) text spec readable accepted picks_nothing stop ends = judged_goes_on text spec readable accepted picks_nothing stop ends
command_goes_on (replay name exchange world) text spec readable accepted goes_on stop ends = spec_goes_on text spec readable accepted stop ends
command_goes_on (script name recipe) text spec readable accepted goes_on stop ends = spec_goes_on text spec readable accepted stop ends

-- A text of lines has one outcome: a command ends there, or it goes on with the one value that the text spells.
same_refusal : (fault other : TextFault) (line other_line : ℕ) → refusal_of fault line ≡ refusal_of other other_line → (fault ≡ other) × (line ≡ other_line)
same_refusal text_faults.BadLine text_faults.BadLine line other_line same = (refl, cc same)
same_refusal text_faults.NoEnd text_faults.NoEnd line other_line same = (refl, cc same)
same_refusal text_faults.Limit text_faults.Limit line other_line same = (refl, cc same)
same_refusal text_faults.BadLine text_faults.NoEnd line other_line same = absurd (cc same)
same_refusal text_faults.BadLine text_faults.Limit line other_line same = absurd (cc same)
same_refusal text_faults.NoEnd text_faults.BadLine line other_line same = absurd (cc same)
same_refusal text_faults.NoEnd text_faults.Limit line other_line same = absurd (cc same)
same_refusal text_faults.Limit text_faults.BadLine line other_line same = absurd (cc same)
same_refusal text_faults.Limit text_faults.NoEnd line other_line same = absurd (cc same)

module _ {V : Type 0} (Outcome : List ℕ → Result V TextRefusal → Type 0) (number : ℕ) where
  abbrev pub LinesEnd : List ℕ → Stop → Type 0
  LinesEnd text stop = LinesStop number (λ refusal. Outcome text (Err refusal)) stop

  module _ (one_outcome : (text : List ℕ) (one other : Result V TextRefusal) → Outcome text one → Outcome text other → one ≡ other) where
    pub one_lines_end : (text : List ℕ) (stop other : Stop) → LinesEnd text stop → LinesEnd text other → stop ≡ other
    one_lines_end text (stops.Text file fault line) (stops.Text other_file other other_line) ends others =
        let refusals_same = one_outcome text (Err (refusal_of fault line)) (Err (refusal_of other other_line)) ends.1 others.1 in
        let same = same_refusal fault other line other_line (cc refusals_same) in
        ap (λ f. stops.Text f fault line) (ends.0 ∙ sym others.0) ∙ ap (λ f. stops.Text other_file f line) same.0 ∙ ap (stops.Text other_file other) same.1
    one_lines_end text (stops.Syntax place) other ends others = absurd ends
    one_lines_end text (stops.Bad fault at) other ends others = absurd ends
    one_lines_end text (stops.Unbuilt file) other ends others = absurd ends
    one_lines_end text (stops.ReadFault file) other ends others = absurd ends
    one_lines_end text (stops.TooLong file) other ends others = absurd ends
    one_lines_end text stops.Memory other ends others = absurd ends
    one_lines_end text (stops.Text file fault line) _ ends others = absurd others

    pub lines_go_on : (text : List ℕ) (value : V) → Outcome text (Ok value) → (stop : Stop) → LinesEnd text stop → ⊥
    lines_go_on text value spells (stops.Text file fault line) ends = absurd (cc (one_outcome text (Ok value) (Err (refusal_of fault line)) spells ends.1))
    lines_go_on text value spells (stops.Syntax place) ends = ends
    lines_go_on text value spells (stops.Bad fault at) ends = ends
    lines_go_on text value spells (stops.Unbuilt file) ends = ends
    lines_go_on text value spells (stops.ReadFault file) ends = ends
    lines_go_on text value spells (stops.TooLong file) ends = ends
    lines_go_on text value spells stops.Memory ends = ends

    pub one_value : (files : Files) (name : List ℕ) (limit : ℕ) (text other_text : List ℕ) (value other : V) → Holds (Some files) name limit text → Holds (Some files) name limit other_text
        → Outcome text (Ok value) → Outcome other_text (Ok other) → value ≡ other
    one_value files name limit text other_text value other held others spells other_spells =
        let same = one_text files name limit text other_text held others in
        let values = one_outcome other_text (Ok value) (Ok other) (subst (λ t. Outcome t (Ok value)) same spells) other_spells in
        cc values
