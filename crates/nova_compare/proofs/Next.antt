-- The vertex of a kernel that begins, and the vertex after a turn.
use Rattle.std.proofs.Common.{◌≡◌, ℕ, ◌+◌, List, [], length, map, ap, sym, ◌∙◌, subst, refl}
use Rattle.std.specs.Prelude.{Option, Some, None, IsSome, replicate}
use Rattle.nova_model.specs.Boot.{Scenario, boot}
use Rattle.nova_model.specs.Runs.{after, run}
use Rattle.nova_model.specs.State.{KernelState}
use Rattle.nova_model.specs.Turn.{Step, answer_of, turn}
use Rattle.nova_model.specs.declared.event.Event.{Event}
use Rattle.nova_model.specs.declared.event.Turn.TheVariants.{Stepped}
use Rattle.law_turns.specs.Keeping.{IsKept}
use Rattle.law_alike.specs.Alike.{AreStampsGiven}
use Rattle.law_sameness.specs.Counts.{Counts, IsFresh, counts_after, counts_of, first_stamp, stamp_in}
use Rattle.law_sameness.specs.States.{AreZero}
use Rattle.law_sameness.proofs.Counted.{made_counts}
use Rattle.nova_compare.specs.Steps.{IsAfter, IsSuccessor}
use Rattle.nova_compare.specs.Vertices.{IsBooted, IsVertex}

pub boot_counts : (k : KernelState) (clocks : List ℕ) (stamps : List (Option ℕ)) (id : ℕ) → ((s : Scenario) → IsFresh (boot s)) → IsBooted k → clocks ≡ replicate k.cpus 0 →
    stamps ≡ map first_stamp k.objects → id ≡ k.consoles + 1 + length k.objects → record { clocks = clocks; stamps = stamps; next_stamp = 1; next_id = id } ≡ counts_of k
boot_counts k clocks stamps id begins b c s i =
    let f : IsFresh k = subst IsFresh (sym b.is) (begins b.scenario) in
    ap (λ (l : List ℕ). made_counts l stamps 1 id) (c ∙ sym f.clocks)
    ∙ ap (λ (l : List (Option ℕ)). made_counts k.times.clocks l 1 id) (s ∙ sym f.stamps)
    ∙ ap (λ (n : ℕ). made_counts k.times.clocks (map stamp_in k.budgets) n id) (sym f.next)
    ∙ ap (λ (n : ℕ). made_counts k.times.clocks (map stamp_in k.budgets) k.next_stamp n) (i ∙ sym f.id)

pub begin_vertex : (k s : KernelState) (t : Counts) → ((s : Scenario) → IsFresh (boot s)) → ((scenario : Scenario) (turns : List ℕ) → IsKept (run (boot scenario) turns)) →
    ((scenario : Scenario) (turns : List ℕ) → AreStampsGiven (run (boot scenario) turns)) →
    ((scenario : Scenario) (turns : List ℕ) → AreZero (run (boot scenario) turns)) → IsBooted k → t ≡ counts_of k → s ≡ k → IsVertex s t
begin_vertex k s t begins kept given zero b is same = subst (λ (x : KernelState). IsVertex x t) (sym same) (record {
  kept = subst IsKept (sym b.is) (kept b.scenario []);
  given = subst AreStampsGiven (sym b.is) (given b.scenario []);
  zero = subst AreZero (sym b.is) (zero b.scenario []);
  counts = is;
  processors = (let f : IsFresh k = subst IsFresh (sym b.is) (begins b.scenario) in f.processors ∙ sym f.clocks);
})

pub next_vertex : (k s : KernelState) (cpu : ℕ) (t u : Counts) (e : Event) → ((k : KernelState) (cpu : ℕ) → IsKept k → IsKept (after k cpu)) →
    ((k : KernelState) (cpu : ℕ) → AreStampsGiven k → AreStampsGiven (after k cpu)) →
    ((k : KernelState) (cpu : ℕ) → AreZero k → AreZero (after k cpu)) →
    ((k : KernelState) (cpu : ℕ) (e : Event) → answer_of (turn k cpu) ≡ Stepped e → counts_of (after k cpu) ≡ counts_after (counts_of k) k e (after k cpu)) →
    ((k : KernelState) (cpu : ℕ) → k.stirs.processors ≡ k.times.clocks → (after k cpu).stirs.processors ≡ (after k cpu).times.clocks) →
    IsVertex k t → IsAfter k cpu s e → u ≡ counts_after t k e s → IsVertex s u
next_vertex k s cpu t u e keeps gives zeros turns stays v a is = subst (λ (x : KernelState). IsVertex x u) (sym a.state) (record {
  kept = keeps k cpu v.kept;
  given = gives k cpu v.given;
  zero = zeros k cpu v.zero;
  counts =
      is ∙ ap (λ (x : KernelState). counts_after t k e x) a.state ∙ ap (λ (c : Counts). counts_after c k e (after k cpu)) v.counts ∙ sym (turns k cpu e a.answer);
  processors = stays k cpu v.processors;
})

some_turn : (o : Option Step) (e : Event) → answer_of o ≡ Stepped e → IsSome o
some_turn None e is = absurd (cc)
some_turn (Some s) e is = refl

pub next_succeeds : (k s : KernelState) (cpu : ℕ) (e : Event) → IsAfter k cpu s e → IsSuccessor k cpu s
next_succeeds k s cpu e a = record {
  state = a.state;
  there = some_turn (turn k cpu) e a.answer;
  turns = a.turns;
  cpus = a.cpus;
}
