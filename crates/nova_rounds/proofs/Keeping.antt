-- What holds of a run that went on holds of the run that is kept.
use Rattle.std.proofs.Common.{◌≡◌, subst, sym}
use Rattle.std.specs.Prelude.{true, false, Result, Ok, Err, IfOk, IfErr, OnOk, IsOk}
use Rattle.nova_finished.specs.declared.fault.RunFault.{RunFault}
use Rattle.nova_finished.specs.declared.finished.Finished.{Finished}

none_is : false ≡ true → ⊥
none_is h = cc

pub kept_runs : {A Q : Type 0} (run : Finished) (P : Finished → Type 0) (kept : Result Finished RunFault) (went : Result A RunFault) →
    IfOk kept (λ f. f ≡ run) → OnOk kept (IsOk went) → OnOk went Q → (Q → P run) → IfOk kept P
kept_runs run P (Ok f) (Ok x) same is holds leads = subst P (sym same) (leads holds)
kept_runs run P (Ok f) (Err e) same is holds leads = absurd (none_is is)
kept_runs run P (Err e) went same is holds leads = tt

pub kept_holds : {A R Q : Type 0} (kept : Result Finished RunFault) (went : Result A RunFault) → OnOk kept (IsOk went) → OnOk went R → (R → Q) → OnOk kept Q
kept_holds (Ok f) (Ok x) is holds leads = leads holds
kept_holds (Ok f) (Err e) is holds leads = absurd (none_is is)
kept_holds (Err e) went is holds leads = tt

pub kept_fails : {A : Type 0} (P : RunFault → Type 0) (kept : Result Finished RunFault) (went : Result A RunFault) →
    IfErr kept (λ fault. went ≡ Err fault) → IfErr went P → IfErr kept P
kept_fails P (Ok f) went is holds = tt
kept_fails {A} P (Err e) went is holds = subst (λ (w : Result A RunFault). IfErr w P) is holds

pub kept_fault : {A : Type 0} (fault : RunFault) (kept : Result Finished RunFault) (went : Result A RunFault) →
    IfErr kept (λ f. went ≡ Err f) → kept ≡ Err fault → went ≡ Err fault
kept_fault {A} fault kept went is same = subst (λ (r : Result Finished RunFault). IfErr r (λ f. went ≡ Err f)) same is
