-- What becomes of the context that makes an object, whose table of execution contexts grows.
use Rattle.std.proofs.Common.{◌≡◌, ℕ, zero, suc, [], ◌∷◌, ◌++◌, Option, Some, None, refl}
use Rattle.std.specs.Prelude.{IsSome}
use Rattle.nova_model.specs.Deeds.{answered, done}
use Rattle.nova_model.specs.State.{Contexts, KernelState, context, context_at, ec_in, ec_of, with_ec}
use Rattle.nova_model.specs.declared.context.EcState.{EcState}
use Rattle.nova_model.specs.declared.context.State.TheVariants.{Granting}
use Rattle.nova_model.specs.declared.deed.Deed.TheVariants.{Makes, Opens}
use Rattle.nova_model.specs.declared.new_object.NewObject.{NewObject}
use Rattle.nova_range.specs.declared.status.Status.TheVariants.{Success}

-- a context that is there, with another in its place, where the table has one more
set_more : (cs : Contexts) (ec : ℕ) (x : EcState) (more : Option EcState) → IsSome (ec_in cs ec) → ec_of (with_ec cs ec x ++ more ∷ []) ec ≡ x
set_more [] ec x more there = let none : IsSome {T = EcState} None = there in absurd (cc)
set_more (c ∷ cs) zero x more there = refl
set_more (c ∷ cs) (suc ec) x more there = set_more cs ec x more there

pub made : (k : KernelState) (ec call target : ℕ) (made : NewObject) → IsSome (context_at k ec) → context (done k ec (Makes call target made)) ec ≡ answered (context k ec) Success None
made k ec call target new there = set_more k.contexts ec (answered (context k ec) Success None) _ there

pub opened : (k : KernelState) (ec target domain : ℕ) → IsSome (context_at k ec) → context (done k ec (Opens target domain)) ec ≡ record (context k ec) { state = Granting (Some domain) }
opened k ec target domain there = set_more k.contexts ec (record (context k ec) { state = Granting (Some domain) }) _ there
