-- Each part moves the cursor on.
use Rattle.std.proofs.Common.{◌≡◌, ℕ, ◌+◌, ◌^◌, subst, arith}
use Rattle.std.specs.Prelude.{Some, Ok}
use Rattle.std.proofs.lemmas.Nat.{pow_pos}
use Rattle.nova_range.proofs.Multiples.{end_within}
use Rattle.nova_model.specs.Deeds.{deed}
use Rattle.nova_model.specs.Hypercalls.{row}
use Rattle.nova_model.specs.State.{KernelState, pd_of}
use Rattle.nova_model.specs.Transfers.{next_source}
use Rattle.nova_model.specs.declared.deed.Deed.{Deed}
use Rattle.nova_model.specs.declared.deed.Deed.TheVariants.{Gives, Skips}
use Rattle.nova_model.specs.declared.delegation.Derivation.{Derivation}
use Rattle.nova_model.specs.declared.transfer.Delivery.{Delivery}
use Rattle.nova_model.specs.declared.transfer.Job.{Job}
use Rattle.nova_model.specs.declared.transfer.Reason.{Reason}
use Rattle.law_forest.proofs.Jobs.{job_ranges}
use Rattle.law_forest.proofs.Transfers.{left_facts, next_facts}
use Rattle.law_forest.proofs.Walk.{deed_holds, job_in}
use Rattle.law_forest.specs.Items.{job_at_cursor}
use Rattle.law_turns.specs.Giving.{MovesOn}
use Rattle.law_turns.proofs.Rows.{IsWhole, done_weaker, row_whole}

abbrev pub Moves : KernelState → ℕ → Deed → Type 0
Moves k ec (Gives child cursor) = MovesOn k ec cursor
Moves k ec (Skips reason place cursor) = MovesOn k ec cursor
Moves k ec other = Unit {0}

whole_moves : (k : KernelState) (ec : ℕ) (d : Deed) → IsWhole d → Moves k ec d
whole_moves k ec (Gives child cursor) whole = absurd (cc)
whole_moves k ec (Skips reason place cursor) whole = absurd (cc)
whole_moves k ec other whole = tt

-- after the derivation that is next, which is at or after the cursor and begins in the source
next_moves : (k : KernelState) (ec : ℕ) (v : Delivery) (j : Job) (d : Derivation) → job_in v ≡ Ok j → next_source k.delegations.list (job_at_cursor k ec j) ≡ Some d →
    MovesOn k ec (d.base + 2 ^ d.order)
next_moves k ec v j d reads next =
    let source = (job_ranges v.range_word v.second_word v.delegations v.giver v.receiver j reads).source in
    let left = left_facts (job_at_cursor k ec j) d (next_facts k.delegations.list (job_at_cursor k ec j) d next).left in
    let from = left.at_cursor in
    let first = left.first in
    let end = end_within j.source j.order source.order source.aligned source.base in
    let some = pow_pos d.order in
    record { from = omega (arith, from, first, end); further = omega (arith, from, some) }

pub deed_moves : (k : KernelState) (ec : ℕ) → Moves k ec (deed k ec)
deed_moves k ec =
    deed_holds (Moves k ec) k ec tt
    (record {
      steps = tt;
      raises = λ reason q0 q1. tt;
      dies = λ reason q0. tt;
      refuses = λ number status. tt;
      waits = λ pt reason q0 q1 is. tt;
      sends = λ pt reason q0 q1 is. tt;
      aborts = λ handler is. tt;
      removes = λ range own leaf is next. tt;
      returns = λ range own is next. tt;
      rows = λ asks c read. done_weaker IsWhole (Moves k ec) (row k ec (pd_of k ec) c) (whole_moves k ec) (row_whole k ec (pd_of k ec) c);
    })
    (record {
      gives = λ d x g. next_moves k ec g.item g.job d g.reads g.next;
      skips = λ d reason place s. next_moves k ec s.item s.job d s.reads s.next;
      finishes = λ v end answer present is. tt;
    })

pub gives_move : (k : KernelState) (ec cursor : ℕ) (child : Derivation) → deed k ec ≡ Gives child cursor → MovesOn k ec cursor
gives_move k ec cursor child is = subst (Moves k ec) is (deed_moves k ec)

pub skips_move : (k : KernelState) (ec place cursor : ℕ) (reason : Reason) → deed k ec ≡ Skips reason place cursor → MovesOn k ec cursor
skips_move k ec place cursor reason is = subst (Moves k ec) is (deed_moves k ec)
