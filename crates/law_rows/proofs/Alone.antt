-- What a deed that no registers ask for leaves.
use Rattle.std.proofs.Common.{◌≡◌, ◌≢◌, ℕ, zero, suc, false, [], ◌∷◌, Option, Some, None, refl, ap, sym, ◌∙◌}
use Rattle.rv_model.specs.Step.{Once, Raised, Went}
use Rattle.nova_model.specs.Deeds.{done, followed, instruction, stepped, told}
use Rattle.nova_model.specs.State.{Contexts, KernelState, context_at, ec_in, with_ec}
use Rattle.nova_model.specs.declared.context.EcState.{EcState}
use Rattle.nova_model.specs.declared.context.Mark.{Mark}
use Rattle.nova_model.specs.declared.deed.Deed.{Deed}
use Rattle.nova_model.specs.declared.deed.Deed.TheVariants.{Rests, Steps, Raises, Dies, Waits, Sends, Gives, Skips, Finishes, Aborts, Removes, Returns}
use Rattle.nova_model.specs.declared.transfer.ItemWords.{ItemWords}
use Rattle.nova_model.specs.declared.transfer.Sequel.{Sequel}
use Rattle.nova_model.specs.declared.transfer.Sequel.TheVariants as sequel
use Rattle.law_rows.specs.Changing.{is_asked_for, partner}

-- WHAT IS THE SAME OF TWO STATES

record AreSame (k new : KernelState) : Type 0 where
  semaphores : new.semaphores ≡ k.semaphores
  identifiers : new.identifiers ≡ k.identifiers
  times : new.times ≡ k.times
  objects : new.objects ≡ k.objects

stepped_same : (k : KernelState) (ec : ℕ) (o : Once) → AreSame k (stepped k ec o)
stepped_same k ec (Raised reason q0 q1) = record { semaphores = refl; identifiers = refl; times = refl; objects = refl }
stepped_same k ec (Went regs store) = record { semaphores = refl; identifiers = refl; times = refl; objects = refl }

told_same : (k : KernelState) (item : ℕ) (words : Option ItemWords) → AreSame k (told k item words)
told_same k item None = record { semaphores = refl; identifiers = refl; times = refl; objects = refl }
told_same k item (Some w) = record { semaphores = refl; identifiers = refl; times = refl; objects = refl }

followed_same : (k : KernelState) (ec : ℕ) (after : Sequel) → AreSame k (followed k ec after)
followed_same k ec sequel.Item = record { semaphores = refl; identifiers = refl; times = refl; objects = refl }
followed_same k ec sequel.Opened = record { semaphores = refl; identifiers = refl; times = refl; objects = refl }
followed_same k ec sequel.Taken = record { semaphores = refl; identifiers = refl; times = refl; objects = refl }
followed_same k ec (sequel.Replied caller m) = record { semaphores = refl; identifiers = refl; times = refl; objects = refl }

after_both : (k l m : KernelState) → AreSame k l → AreSame l m → AreSame k m
after_both k l m a b = record {
  semaphores = b.semaphores ∙ a.semaphores;
  identifiers = b.identifiers ∙ a.identifiers;
  times = b.times ∙ a.times;
  objects = b.objects ∙ a.objects;
}

finished_same : (k l : KernelState) (ec item : ℕ) (words : Option ItemWords) (after : Sequel) → AreSame k l → AreSame k (followed (told l item words) ec after)
finished_same k l ec item words after is = after_both k l _ is (after_both l (told l item words) _ (told_same l item words) (followed_same (told l item words) ec after))

done_same : (k : KernelState) (ec : ℕ) (d : Deed) → is_asked_for d ≡ false → AreSame k (done k ec d)
done_same k ec Rests none = record { semaphores = refl; identifiers = refl; times = refl; objects = refl }
done_same k ec Steps none = stepped_same k ec (instruction k ec)
done_same k ec (Raises reason q0 q1) none = record { semaphores = refl; identifiers = refl; times = refl; objects = refl }
done_same k ec (Dies reason q0) none = record { semaphores = refl; identifiers = refl; times = refl; objects = refl }
done_same k ec (Waits handler reason q0 q1) none = record { semaphores = refl; identifiers = refl; times = refl; objects = refl }
done_same k ec (Sends handler ip identifier mtd reason q0 q1) none = record { semaphores = refl; identifiers = refl; times = refl; objects = refl }
done_same k ec (Gives child cursor) none = record { semaphores = refl; identifiers = refl; times = refl; objects = refl }
done_same k ec (Skips reason place cursor) none = record { semaphores = refl; identifiers = refl; times = refl; objects = refl }
done_same k ec (Finishes item end words after) none =
    let f = finished_same k _ ec item words after (record { semaphores = refl; identifiers = refl; times = refl; objects = refl }) in
    record { semaphores = f.semaphores; identifiers = f.identifiers; times = f.times; objects = f.objects }
done_same k ec (Aborts handler m) none = record { semaphores = refl; identifiers = refl; times = refl; objects = refl }
done_same k ec (Removes leaf) none = record { semaphores = refl; identifiers = refl; times = refl; objects = refl }
done_same k ec Returns none = record { semaphores = refl; identifiers = refl; times = refl; objects = refl }
done_same k ec other none = absurd (cc)

pub semaphores_same : (k : KernelState) (ec : ℕ) (d : Deed) → is_asked_for d ≡ false → (done k ec d).semaphores ≡ k.semaphores
semaphores_same k ec d none = (done_same k ec d none).semaphores

pub identifiers_same : (k : KernelState) (ec : ℕ) (d : Deed) → is_asked_for d ≡ false → (done k ec d).identifiers ≡ k.identifiers
identifiers_same k ec d none = (done_same k ec d none).identifiers

pub times_same : (k : KernelState) (ec : ℕ) (d : Deed) → is_asked_for d ≡ false → (done k ec d).times ≡ k.times
times_same k ec d none = (done_same k ec d none).times

pub objects_same : (k : KernelState) (ec : ℕ) (d : Deed) → is_asked_for d ≡ false → (done k ec d).objects ≡ k.objects
objects_same k ec d none = (done_same k ec d none).objects

-- OTHERS

set_other : (cs : Contexts) (e n : ℕ) (x : EcState) → n ≢ e → ec_in (with_ec cs e x) n ≡ ec_in cs n
set_other [] e n x other = refl
set_other (c ∷ cs) zero zero x other = absurd (other refl)
set_other (c ∷ cs) zero (suc n) x other = refl
set_other (c ∷ cs) (suc e) zero x other = refl
set_other (c ∷ cs) (suc e) (suc n) x other = set_other cs e n x (λ same. other (ap suc same))

stepped_other : (k : KernelState) (ec n : ℕ) (o : Once) → n ≢ ec → context_at (stepped k ec o) n ≡ context_at k n
stepped_other k ec n (Raised reason q0 q1) other = refl
stepped_other k ec n (Went regs store) other = set_other k.contexts ec n _ other

told_other : (k : KernelState) (item n : ℕ) (words : Option ItemWords) → context_at (told k item words) n ≡ context_at k n
told_other k item n None = refl
told_other k item n (Some w) = refl

followed_other : (k : KernelState) (ec n : ℕ) (after : Sequel) → ((caller : ℕ) (mark : Mark) → after ≡ sequel.Replied caller mark → n ≢ caller) →
    context_at (followed k ec after) n ≡ context_at k n
followed_other k ec n sequel.Item none = refl
followed_other k ec n sequel.Opened none = refl
followed_other k ec n sequel.Taken none = refl
followed_other k ec n (sequel.Replied caller m) none = set_other k.contexts caller n _ (none caller m refl)

pub others_stay : (k : KernelState) (ec n : ℕ) (d : Deed) → is_asked_for d ≡ false → n ≢ ec → partner d ≢ Some n → context_at (done k ec d) n ≡ context_at k n
others_stay k ec n Rests none other apart = refl
others_stay k ec n Steps none other apart = stepped_other k ec n (instruction k ec) other
others_stay k ec n (Raises reason q0 q1) none other apart = set_other k.contexts ec n _ other
others_stay k ec n (Dies reason q0) none other apart = set_other k.contexts ec n _ other
others_stay k ec n (Waits handler reason q0 q1) none other apart = set_other k.contexts ec n _ other
others_stay k ec n (Sends handler ip identifier mtd reason q0 q1) none other apart =
    set_other (with_ec k.contexts ec _) handler n _ (λ same. apart (ap Some (sym same))) ∙ set_other k.contexts ec n _ other
others_stay k ec n (Gives child cursor) none other apart = refl
others_stay k ec n (Skips reason place cursor) none other apart = refl
others_stay k ec n (Finishes item end words after) none other apart =
    followed_other (told _ item words) ec n after (λ caller m is same. apart (ap (λ (s : Sequel). partner (Finishes item end words s)) is ∙ ap Some (sym same)))
    ∙ (told_other _ item n words ∙ set_other k.contexts ec n _ other)
others_stay k ec n (Aborts handler m) none other apart = set_other k.contexts ec n _ other
others_stay k ec n (Removes leaf) none other apart = refl
others_stay k ec n Returns none other apart = set_other k.contexts ec n _ other
others_stay k ec n wrong none other apart = absurd (cc)
