-- Source and destination of an item that was read and clamped are ranges.
use Rattle.std.proofs.Common.{◌≡◌, ℕ, subst, refl}
use Rattle.std.specs.Prelude.{Bool, true, false, Option, Some, None, Result, Ok, Err, IfOk, if◌then◌else◌}
use Rattle.nova_range.specs.Clamps.{clamp_of}
use Rattle.nova_range.specs.RangeWords.{HasWord, meaning_of}
use Rattle.nova_range.specs.Ranges.{IsRange}
use Rattle.nova_range.specs.declared.range.Range.{Range}
use Rattle.nova_range.specs.declared.rights.Rights.{Rights}
use Rattle.nova_range.specs.declared.word.WordFault.{WordFault}
use Rattle.nova_range.proofs.Parts.{is_clamped}
use Rattle.nova_range.proofs.Words.{sound}
use Rattle.nova_model.specs.Delegations.{is_same_kind}
use Rattle.nova_model.specs.Transfers.{read_as, hotspot_in, job_at, job_between, job_of}
use Rattle.nova_model.specs.declared.transfer.Job.{Job}
use Rattle.nova_model.specs.declared.transfer.Skip.TheVariants.{Window}
use Rattle.law_forest.specs.Items.{AreRanges}

-- a word that reads as a range
pub read_range : (word : ℕ) (x : Range × Rights) → read_as (meaning_of word) ≡ Some x → IsRange x.0
read_range word x is = by_meaning (meaning_of word) (sound word) is
  where
    of_word : (o : Option (Range × Rights)) → HasWord o → o ≡ Some x → IsRange x.0
    of_word None has e = absurd (cc)
    of_word (Some (range, rights)) has e =
        let same : (range, rights) ≡ x = cc in
        subst (λ (y : Range × Rights). IsRange y.0) same has.0

    by_meaning : (r : Result (Option (Range × Rights)) WordFault) → IfOk r HasWord → read_as r ≡ Some x → IsRange x.0
    by_meaning (Ok o) has e = of_word o has e
    by_meaning (Err fault) has e = absurd (cc)

clamped_ranges : (sent window : Range × Rights) (hotspot giver receiver : ℕ) → IsRange sent.0 → IsRange window.0 →
    AreRanges (job_at sent.0 sent.1 (clamp_of sent.0 window.0 hotspot) giver receiver)
clamped_ranges sent window hotspot giver receiver of_sent of_window =
    let parts = is_clamped sent.0 window.0 hotspot of_sent of_window in
    let source = parts.source.range in
    let dest = parts.dest.range in
    record {
      source = record { order = source.order; aligned = source.aligned; base = source.base };
      dest = record { order = dest.order; aligned = dest.aligned; base = dest.base };
    }

-- what holds of each clamped item holds of the item that was read
item_holds : (P : Job → Type 0) (sent window : Option (Range × Rights)) (hotspot giver receiver : ℕ) (j : Job) →
    ((s w : Range × Rights) → sent ≡ Some s → window ≡ Some w → P (job_at s.0 s.1 (clamp_of s.0 w.0 hotspot) giver receiver)) →
    job_between sent window hotspot giver receiver ≡ Ok j → P j
item_holds P None window hotspot giver receiver j each is = absurd (cc)
item_holds P (Some sent) None hotspot giver receiver j each is = absurd (cc)
item_holds P (Some sent) (Some window) hotspot giver receiver j each is = by_test (is_same_kind sent.0.kind window.0.kind) is (each sent window refl refl)
  where
    by_test : (t : Bool) → (if t then Ok (job_at sent.0 sent.1 (clamp_of sent.0 window.0 hotspot) giver receiver) else Err Window) ≡ Ok j →
        P (job_at sent.0 sent.1 (clamp_of sent.0 window.0 hotspot) giver receiver) → P j
    by_test true e holds =
        let same : job_at sent.0 sent.1 (clamp_of sent.0 window.0 hotspot) giver receiver ≡ j = cc in
        subst P same holds
    by_test false e holds = absurd (cc)

pub job_ranges : (word second window giver receiver : ℕ) (j : Job) → job_of word second window giver receiver ≡ Ok j → AreRanges j
job_ranges word second window giver receiver j is =
    item_holds AreRanges (read_as (meaning_of word)) (read_as (meaning_of window)) (hotspot_in second) giver receiver j
    (λ s w sent taken. clamped_ranges s w (hotspot_in second) giver receiver (read_range word s sent) (read_range window w taken)) is

-- the giver, the receiver, and what the word reads as, with its rights
pub record IsBetween (word from to : ℕ) (j : Job) : Type 0 where
  pub giver : j.giver ≡ from
  pub receiver : j.receiver ≡ to
  pub sent : Range × Rights
  pub reads : read_as (meaning_of word) ≡ Some sent
  pub rights : j.rights ≡ sent.1

pub job_between_them : (word second window giver receiver : ℕ) (j : Job) → job_of word second window giver receiver ≡ Ok j → IsBetween word giver receiver j
job_between_them word second window giver receiver j is =
    item_holds (IsBetween word giver receiver) (read_as (meaning_of word)) (read_as (meaning_of window)) (hotspot_in second) giver receiver j
    (λ s w sent taken. record { giver = refl; receiver = refl; sent = s; reads = sent; rights = refl }) is
