-- What a reduced search says of orders that lead to no state that it found: by the turns that go on from them.
use Rattle.std.proofs.Common.{◌≡◌, ℕ, ◌<◌, List, [], ◌∷◌, ◌++◌, refl, sym, subst, append_assoc}
use Rattle.std.specs.Prelude.{Bool, true, false, Contains}
use Rattle.std.proofs.lemmas.List.{append-nil}
use Rattle.nova_model.specs.State.{KernelState}
use Rattle.nova_model.specs.Runs.{run}
use Rattle.nova_search.specs.declared.merging.Merging.{Merging}
use Rattle.nova_search.specs.Merged.{IsOne}
use Rattle.nova_search.specs.Reductions.{AreNoted, IsCovered, IsNoted, IsStable}
use Rattle.nova_search.specs.Searches.{AreProcessors}
use Rattle.nova_search.proofs.Covering.{notes_after}
use Rattle.nova_search.proofs.Ways.{processors_more, run_more}

not_so : (b : Bool) → (b ≡ true → ⊥) → b ≡ false
not_so true never = absurd (never refl)
not_so false never = refl

-- it holds still after more turns
stays_on : (property : KernelState → Bool) (k : KernelState) (order more : List ℕ) → IsStable property k → AreProcessors k.cpus order → AreProcessors k.cpus more →
    property (run k order) ≡ true → property (run k (order ++ more)) ≡ true
stays_on property k order [] stable are rest holds = subst (λ (o : List ℕ). property (run k o) ≡ true) (sym (append-nil order)) holds
stays_on property k order (q ∷ more) stable are rest holds =
    subst (λ (o : List ℕ). property (run k o) ≡ true) (append_assoc order (q ∷ []) more)
    (stays_on property k (order ++ q ∷ []) more stable (processors_more k.cpus order q are rest.0) rest.1
    (subst (λ (s : KernelState). property s ≡ true) (sym (run_more k order q)) (stable.stays order q are rest.0 holds)))

module _ (T : Type 0) (touched : KernelState → ℕ → T → Type 0) (noted : ℕ → T → Bool) (m : Merging) (k : KernelState) (states : List KernelState) where
  abbrev Covered : List ℕ → Type 0
  Covered order = IsCovered T touched noted m k.cpus states k order

  pub stable_found : (property : KernelState → Bool) → IsStable property k → ((s t : KernelState) → IsOne m s t → property s ≡ property t) →
      ((s : KernelState) → Contains states s → property s ≡ false) → (order : List ℕ) → AreProcessors k.cpus order → Covered order → property (run k order) ≡ false
  stable_found property stable same none order are c = not_so (property (run k order)) (λ holds. absurd (
      let later : property (run k (order ++ c.more)) ≡ true = stays_on property k order c.more stable are c.processors holds in
      let one : property c.there.one ≡ property (run k (order ++ c.more)) = same c.there.one (run k (order ++ c.more)) c.there.is in
      let not : property c.there.one ≡ false = none c.there.one c.there.there in
      cc
      ))

  note_of : (order : List ℕ) (cpu : ℕ) → Covered (order ++ cpu ∷ []) → IsNoted T touched noted m (run k order) cpu
  note_of order cpu c =
      (notes_after T touched noted m k order (cpu ∷ c.more)
      (subst (λ (o : List ℕ). AreNoted T touched noted m k o) (append_assoc order (cpu ∷ []) c.more) c.notes)).0

  pub never_done : (does : KernelState → ℕ → Bool) (shows : ℕ → T → Bool) → ((s : KernelState) (cpu : ℕ) (t : T) → touched s cpu t → does s cpu ≡ true → shows cpu t ≡ true) →
      ((cpu : ℕ) (t : T) → cpu < k.cpus → noted cpu t ≡ true → shows cpu t ≡ false) → (order : List ℕ) (cpu : ℕ) → cpu < k.cpus → Covered (order ++ cpu ∷ []) →
      does (run k order) cpu ≡ false
  never_done does shows shown silent order cpu less c = not_so (does (run k order) cpu) (λ done. absurd (
      let n : IsNoted T touched noted m (run k order) cpu = note_of order cpu c in
      let seen : shows cpu n.touch ≡ true = shown (run k order) cpu n.touch n.touches.touch done in
      let not : shows cpu n.touch ≡ false = silent cpu n.touch less n.is in
      cc
      ))
