-- Lines that are read back as what they are lines of.
use Rattle.std.proofs.Common.{◌≡◌, ◌≢◌, ℕ, List, Option, Some, None, sym, ◌∙◌, ap, subst}

-- A reading of lines that gives back each value that is right.
module _ {E : Type 0} (line_of : E → List ℕ) (IsRight : E → Type 0) (read : List ℕ → Option E)
    (read_back : (event : E) → IsRight event → read (line_of event) ≡ Some event)
  where
    -- A line that is not read is the line of no such value.
    pub none_unread : (line : List ℕ) → read line ≡ None → (event : E) → IsRight event → line_of event ≢ line
    none_unread line unread event right same =
        let both : Some event ≡ None = sym (read_back event right) ∙ (ap read same ∙ unread) in
        absurd (cc)

    -- A line that is read is the line of no other.
    pub one_read : (line : List ℕ) (found : E) → read line ≡ Some found → (event : E) → IsRight event → line_of event ≡ line → event ≡ found
    one_read line found is_read event right same =
        let both : Some event ≡ Some found = sym (read_back event right) ∙ (ap read same ∙ is_read) in
        cc

    -- Where what is read is not right, or has another line, the line is that of nothing that is right.
    pub not_right : (line : List ℕ) (found : E) → read line ≡ Some found → ¬ IsRight found → (event : E) → IsRight event → line_of event ≢ line
    not_right line found is_read wrong event right same = wrong (subst IsRight (one_read line found is_read event right same) right)

    pub other_line : (line : List ℕ) (found : E) → read line ≡ Some found → line_of found ≢ line → (event : E) → IsRight event → line_of event ≢ line
    other_line line found is_read differs event right same = differs (ap line_of (sym (one_read line found is_read event right same)) ∙ same)
