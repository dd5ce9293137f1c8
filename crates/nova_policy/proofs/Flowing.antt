-- Flows of the state after the first turns of a run, and lapses of those after them.
use Rattle.std.proofs.Common.{◌≡◌, ◌⊎◌, ℕ, zero, suc, Bool, true, ◌≤◌, List, [], ◌∷◌, ◌++◌, drop, length, take, Option, Result, Ok, Err, inl, inr, refl, sym, ap, subst, arith, string_bytes}
use Rattle.nova_model.specs.Runs.{IsFreeOfIdle, run}
use Rattle.nova_model.specs.State.{KernelState}
use Rattle.nova_naming.specs.Statements.{Stated}
use Rattle.nova_judging.specs.declared.answer.Answer.{Answer}
use Rattle.nova_judging.specs.declared.answer.Told.{Told as Answered}
use Rattle.nova_flowing.specs.Working.{IsWorkEnd, IsWorkTold, first_lapse, work_by}
use Rattle.nova_flowing.specs.declared.lapse.Lapse.{Lapse}
use Rattle.nova_watching.specs.Worked.{AreLapses}
use Rattle.nova_policy.specs.Flows.{AreFlows, HasLines}
use Rattle.nova_policy.specs.Runs.{IsAnsweredOn, IsDecidedOn, IsToldFlowing, IsToldOn, IsUntoldOn}
use Rattle.nova_policy.specs.declared.exit.Exit.{Exit}
use Rattle.nova_policy.specs.declared.exit.Exit.TheVariants.{Memory}

record IsParted (n : ℕ) (list before since : List ℕ) : Type 0 where
  first : take n list ≡ before
  rest : drop n list ≡ since

-- no more than so many, and what comes after these
nothing_after : (n : ℕ) → IsParted n [] [] []
nothing_after zero = record { first = refl; rest = refl }
nothing_after (suc n) = record { first = refl; rest = refl }

parted : (n : ℕ) (before since : List ℕ) → length before ≤ n → (since ≡ []) ⊎ (length before ≡ n) → IsParted n (before ++ since) before since
parted n [] since few (inl none) = subst (λ (l : List ℕ). IsParted n l [] l) (sym none) (nothing_after n)
parted n [] since few (inr all) = subst (λ (m : ℕ). IsParted m since [] since) all (record { first = refl; rest = refl })
parted zero (x ∷ before) since few later = absurd (omega (arith, few))
parted (suc n) (x ∷ before) since few later =
    let next = parted n before since (omega (arith, few)) (less later) in
    record { first = ap (λ (l : List ℕ). x ∷ l) next.first; rest = next.rest }
  where
    less : (since ≡ []) ⊎ (length (x ∷ before) ≡ suc n) → (since ≡ []) ⊎ (length before ≡ n)
    less (inl none) = inl none
    less (inr all) = inr (omega (arith, all))

parted_by : (k : KernelState) (from : ℕ) (list : List ℕ) (lapses : List Lapse) → (a : AreLapses from k list lapses) → IsParted from list a.before a.since
parted_by k from list lapses a = subst (λ (l : List ℕ). IsParted from l a.before a.since) a.whole (parted from a.before a.since a.early a.later)

works_by : (k : KernelState) (from : ℕ) (list : List ℕ) (lapses : List Lapse) → AreLapses from k list lapses → (revokes : Bool) (S : ℕ → Bool) →
    IsWorkTold revokes S (run k (take from list)) (length (take from list)) (drop from list) (first_lapse revokes S lapses)
works_by k from list lapses a revokes S =
    let parts = parted_by k from list lapses a in
    subst (λ (l : List ℕ). IsWorkTold revokes S (run k l) (length l) (drop from list) (first_lapse revokes S lapses)) (sym parts.first)
    (subst (λ (l : List ℕ). IsWorkTold revokes S (run k a.before) (length a.before) l (first_lapse revokes S lapses)) (sym parts.rest) (a.works revokes S))

-- until when sides are at work by their lapses, where they may revoke and where they may not
abbrev pub EndsBy : Type 0
EndsBy =
    (S : ℕ → Bool) (k : KernelState) (n : ℕ) (turns : List ℕ) (lapses : List Lapse) → ((revokes : Bool) → IsWorkTold revokes S k n turns (first_lapse revokes S lapses)) →
    IsWorkEnd S k n turns (work_by k.delegations.list S lapses)

-- what is told of the first turns, with the lines of flows after it
pub flowing : (k now : KernelState) (list : List ℕ) (policy : Option (List Stated)) (from : ℕ) (lapses : List Lapse) (first t : Answered) (lines : List ℕ) → now ≡ run k list →
    IsDecidedOn k list policy from (Ok first) → AreFlows policy now lapses lines → HasLines first lines t → IsToldFlowing k list policy from lapses (Ok t)
flowing k now list policy from lapses first t lines ran told flows with = record {
  first = string_bytes first.text;
  lines = lines;
  whole = with.text;
  told = subst (λ (a : Answer). IsToldOn k list policy from a (string_bytes first.text)) (sym with.answer) told;
  flows = subst (λ (s : KernelState). AreFlows policy s lapses lines) ran flows;
}

pub unflowing : (k : KernelState) (list : List ℕ) (policy : Option (List Stated)) (from : ℕ) (lapses : List Lapse) (e : Exit) (r : Result Answered Exit) → r ≡ Err e → IsUntoldOn k list policy e →
    IsToldFlowing k list policy from lapses r
unflowing k list policy from lapses e r is fault = subst (IsToldFlowing k list policy from lapses) (sym is) fault

pub with_lapses : EndsBy → (k : KernelState) (list part : List ℕ) (policy : Option (List Stated)) (from : ℕ) (lapses : List Lapse) (r : Result Answered Exit) → part ≡ take from list → IsFreeOfIdle k list →
    AreLapses from k list lapses → IsToldFlowing k part policy from lapses r → IsAnsweredOn k list policy from true r
with_lapses ends k list part policy from lapses r is free all told = by_result r (subst (λ (l : List ℕ). IsToldFlowing k l policy from lapses r) is told)
  where
    by_result : (q : Result Answered Exit) → IsToldFlowing k (take from list) policy from lapses q → IsAnsweredOn k list policy from true q
    by_result (Ok t) h = record {
      first = h.first;
      lines = h.lines;
      whole = h.whole;
      told = h.told;
      flows = record { no_idle = free; lapses = lapses; works = λ S. ends S (run k (take from list)) (length (take from list)) (drop from list) lapses (λ revokes. works_by k from list lapses all revokes S); lines = h.flows };
    }
    by_result (Err e) h = h

pub no_memory : (k : KernelState) (list : List ℕ) (policy : Option (List Stated)) (from : ℕ) (flow : Bool) (r : Result Answered Exit) → r ≡ Err Memory → IsAnsweredOn k list policy from flow r
no_memory k list policy from flow r is = subst (IsAnsweredOn k list policy from flow) (sym is) tt
