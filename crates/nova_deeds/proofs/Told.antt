-- What a handler gives goes to its caller, which is there.
use Rattle.std.proofs.Common.{◌≡◌, ℕ, ◌≤◌, refl, ap, sym, ◌∙◌, subst}
use Rattle.std.specs.Prelude.{Option, Some, None, IfSome, IsSome, option_and_then, option_map}
use Rattle.nova_model.specs.Deliveries.{delivery_between, told_by}
use Rattle.nova_model.specs.Edges.{AreCallers, caller_in}
use Rattle.nova_model.specs.State.{Contexts, KernelState, context, context_at, context_in, ec_in}
use Rattle.nova_model.specs.declared.context.EcState.{EcState}
use Rattle.nova_model.specs.declared.context.Mark.{Mark}
use Rattle.nova_model.specs.declared.context.Mark.TheVariants.{Call, Exit}
use Rattle.nova_model.specs.declared.transfer.Delivery.{Delivery}
use Rattle.nova_model.specs.declared.transfer.Sequel.TheVariants.{Replied}
use Rattle.nova_deeds.specs.Acts.{IsGivenBy}

-- the caller of a context that is there
caller_kept : (cs : Contexts) (ec : ℕ) (o : Option EcState) (c : Option (ℕ × Mark)) → ec_in cs ec ≡ o → IsSome o → (context_in o).caller ≡ c → caller_in cs ec ≡ c
caller_kept cs ec None c is there h = absurd (cc)
caller_kept cs ec (Some x) c is there h = ap (option_and_then (λ (x : EcState). x.caller)) is ∙ h

-- a context on the processor of a context that is there
there_too : (a b : Option EcState) → option_map (λ (x : EcState). x.cpu) a ≡ option_map (λ (x : EcState). x.cpu) b → IsSome b → IsSome a
there_too (Some x) b same there = refl
there_too None None same there = there
there_too None (Some y) same there = absurd (cc)

-- the context that is told of the items is there
told_there : (k : KernelState) (caller : ℕ) (mark : Mark) → IsSome (context_at k caller) → IfSome (told_by caller mark) (λ to. IsSome (context_at k to))
told_there k caller Call there = there
told_there k caller Exit there = tt

pub given_to_caller : (k : KernelState) (ec item caller : ℕ) (mark : Mark) (v : Delivery) → IsSome (context_at k ec) → AreCallers k.contexts →
    (context k ec).caller ≡ Some (caller, mark) → v.items ≤ 62 → v ≡ delivery_between k ec caller item (told_by caller mark) (Replied caller mark) →
    IsGivenBy k ec item v
given_to_caller k ec item caller mark v there callers serves items is =
    let kept : caller_in k.contexts ec ≡ Some (caller, mark) = caller_kept k.contexts ec (ec_in k.contexts ec) (Some (caller, mark)) refl there serves in
    subst (λ (w : Delivery). IsGivenBy k ec item w) (sym is) (record {
      items = subst (λ (w : Delivery). w.items ≤ 62) is items;
      told = told_there k caller mark (there_too (ec_in k.contexts caller) (ec_in k.contexts ec) (callers ec caller mark kept) there);
      last = kept;
    })
