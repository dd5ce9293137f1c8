-- A line of a side, from its parts.
use Rattle.std.proofs.Common.{◌≡◌, ◌∙◌, ℕ, List, ◌++◌, ap, append_assoc}
use Rattle.std.specs.Prelude.{Bool}
use Rattle.nova_model.specs.State.{KernelState}
use Rattle.nova_flowing.specs.Lines.{verdict_at}
use Rattle.nova_flowing.specs.Premises.{verdict_by}
use Rattle.nova_flowing.specs.Tables.{home_table, others_table, own_table, part_table}
use Rattle.nova_flowing.specs.Tests.{is_in}
use Rattle.nova_flowing.specs.declared.deciding.Verdict.{Verdict}

by_tables : KernelState → List Bool → List Bool → List Bool → List Bool → Verdict
by_tables k own others part home = verdict_by k (is_in own) (is_in others) (is_in part) (is_in home)

-- the verdict of a side, by tables that are its own
pub verdict_same : (k : KernelState) (labels : List ℕ) (label : ℕ) (own others part home : List Bool) → own ≡ own_table labels label → others ≡ others_table labels label
    → part ≡ part_table k (is_in (own_table labels label)) → home ≡ home_table k (is_in (own_table labels label))
    → verdict_by k (is_in own) (is_in others) (is_in part) (is_in home) ≡ verdict_at k labels label
unfolding by_tables
verdict_same k labels label own others part home a b c d =
    ap (λ (t : List Bool). by_tables k t others part home) a
    ∙ ap (λ (t : List Bool). by_tables k (own_table labels label) t part home) b
    ∙ ap (λ (t : List Bool). by_tables k (own_table labels label) (others_table labels label) t home) c
    ∙ ap (λ (t : List Bool). by_tables k (own_table labels label) (others_table labels label) (part_table k (is_in (own_table labels label))) t) d

pub line_whole : (flow side verdict told before first second after : List ℕ) → first ≡ before ++ flow → second ≡ first ++ side → verdict ≡ told → after ≡ second ++ verdict → after ≡ before ++ (flow ++ (side ++ told))
line_whole flow side verdict told before first second after one two same three =
    three ∙ ap (λ (v : List ℕ). second ++ v) same ∙ ap (λ (t : List ℕ). t ++ told) two ∙ append_assoc first side told
    ∙ ap (λ (t : List ℕ). t ++ (side ++ told)) one ∙ append_assoc before flow (side ++ told)

pub lapse_whole : (head turn middle ec doing before first after : List ℕ) → first ≡ before ++ (head ++ (turn ++ (middle ++ ec))) → after ≡ first ++ doing
    → after ≡ before ++ (head ++ (turn ++ (middle ++ (ec ++ doing))))
lapse_whole head turn middle ec doing before first after one two =
    two ∙ ap (λ (t : List ℕ). t ++ doing) one ∙ append_assoc before (head ++ (turn ++ (middle ++ ec))) doing
    ∙ ap (λ (t : List ℕ). before ++ t) (append_assoc head (turn ++ (middle ++ ec)) doing)
    ∙ ap (λ (t : List ℕ). before ++ (head ++ t)) (append_assoc turn (middle ++ ec) doing)
    ∙ ap (λ (t : List ℕ). before ++ (head ++ (turn ++ t))) (append_assoc middle ec doing)
