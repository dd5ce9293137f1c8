-- How many objects and derivations there are after a deed.
use Rattle.std.proofs.Common.{◌≡◌, ℕ, ◌≤◌, Bool, true, false, not, ◌==◌, List, [], ◌∷◌, filter, length, Option, Some, None, refl, ◌∙◌, arith}
use Rattle.rv_model.specs.Step.{Once, Raised, Went}
use Rattle.nova_model.specs.Deeds.{done, followed, instruction, is_making, recalled, replied_to, stepped, told, woken_in}
use Rattle.nova_model.specs.State.{KernelState}
use Rattle.nova_model.specs.declared.context.EcState.{EcState}
use Rattle.nova_model.specs.declared.context.Mark.{Mark}
use Rattle.nova_model.specs.declared.context.Mark.TheVariants as mark
use Rattle.nova_model.specs.declared.deed.Deed.{Deed}
use Rattle.nova_model.specs.declared.deed.Deed.TheVariants.{Rests, Steps, Raises, Dies, Waits, Sends, Refuses, Makes, Recalls, Tells, Names, Opens, Gives, Skips, Finishes, Calls, Helps, Replies, Aborts, Revokes, Removes, Returns, Ups, Downs, Blocks}
use Rattle.nova_model.specs.declared.delegation.Derivation.{Derivation}
use Rattle.nova_model.specs.declared.transfer.ItemWords.{ItemWords}
use Rattle.nova_model.specs.declared.transfer.Sequel.{Sequel}
use Rattle.nova_model.specs.declared.transfer.Sequel.TheVariants as sequel
use Rattle.law_rows.specs.Size.{size}

fewer : (p : Derivation → Bool) (ds : List Derivation) → length (filter p ds) ≤ length ds
fewer p [] = omega arith
fewer p (d ∷ ds) = go (fewer p ds) (p d) refl where
  go : length (filter p ds) ≤ length ds → (b : Bool) → p d ≡ b → length (filter p (d ∷ ds)) ≤ length (d ∷ ds)
  go rest true t = rw t (omega arith)
  go rest false t = rw t (omega arith)

same : (a b : KernelState) → size a ≡ size b → size a ≤ size b
same a b is = omega arith

step_size : (k : KernelState) (ec : ℕ) (o : Once) → size (stepped k ec o) ≡ size k
step_size k ec (Raised reason q0 q1) = refl
step_size k ec (Went regs store) = refl

recalled_size : (k : KernelState) (ec : ℕ) (o : Option EcState) → size (recalled k ec o) ≡ size k
recalled_size k ec None = refl
recalled_size k ec (Some x) = refl

replied_size : (k : KernelState) (ec caller : ℕ) (m : Mark) (items : Bool) → size (replied_to k ec caller m items) ≡ size k
replied_size k ec caller mark.Call true = refl
replied_size k ec caller mark.Call false = refl
replied_size k ec caller mark.Exit true = refl
replied_size k ec caller mark.Exit false = refl

told_size : (k : KernelState) (item : ℕ) (words : Option ItemWords) → size (told k item words) ≡ size k
told_size k item None = refl
told_size k item (Some w) = refl

followed_size : (k : KernelState) (ec : ℕ) (after : Sequel) → size (followed k ec after) ≡ size k
followed_size k ec sequel.Item = refl
followed_size k ec sequel.Opened = refl
followed_size k ec sequel.Taken = refl
followed_size k ec (sequel.Replied caller m) = refl

woken_size : (k : KernelState) (o : Option ℕ) → size (woken_in k o) ≡ size k
woken_size k None = refl
woken_size k (Some ec) = refl

pub no_more : (k : KernelState) (ec : ℕ) (d : Deed) → is_making d ≡ false → size (done k ec d) ≤ size k
no_more k ec Rests none = omega arith
no_more k ec Steps none = let is = step_size k ec (instruction k ec) in omega arith
no_more k ec (Raises reason q0 q1) none = same (done k ec (Raises reason q0 q1)) k refl
no_more k ec (Dies reason q0) none = same (done k ec (Dies reason q0)) k refl
no_more k ec (Waits handler reason q0 q1) none = same (done k ec (Waits handler reason q0 q1)) k refl
no_more k ec (Sends handler ip identifier mtd reason q0 q1) none = same (done k ec (Sends handler ip identifier mtd reason q0 q1)) k refl
no_more k ec (Refuses call status) none = same (done k ec (Refuses call status)) k refl
no_more k ec (Makes call target new) none = cc
no_more k ec (Recalls whose) none = same (done k ec (Recalls whose)) k (recalled_size _ whose _)
no_more k ec (Tells call value) none = same (done k ec (Tells call value)) k refl
no_more k ec (Names pt identifier) none = same (done k ec (Names pt identifier)) k refl
no_more k ec (Opens target domain) none = cc
no_more k ec (Gives child cursor) none = cc
no_more k ec (Skips reason place cursor) none = same (done k ec (Skips reason place cursor)) k refl
no_more k ec (Finishes item end words after) none = same (done k ec (Finishes item end words after)) k (followed_size _ ec after ∙ told_size _ item words)
no_more k ec (Calls handler ip identifier items) none = same (done k ec (Calls handler ip identifier items)) k refl
no_more k ec (Helps handler) none = same (done k ec (Helps handler)) k refl
no_more k ec (Replies caller m items) none = same (done k ec (Replies caller m items)) k (replied_size _ ec caller m items)
no_more k ec (Aborts handler m) none = same (done k ec (Aborts handler m)) k refl
no_more k ec (Revokes range own) none = same (done k ec (Revokes range own)) k refl
no_more k ec (Removes leaf) none = let less = fewer (λ d. not (d.id == leaf.id)) k.delegations.list in omega arith
no_more k ec Returns none = same (done k ec Returns) k refl
no_more k ec (Ups sm woken) none = same (done k ec (Ups sm woken)) k (woken_size _ woken)
no_more k ec (Downs sm) none = same (done k ec (Downs sm)) k refl
no_more k ec (Blocks sm until) none = same (done k ec (Blocks sm until)) k refl
