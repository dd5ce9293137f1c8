-- The execution contexts that have a view.
use Rattle.std.proofs.Common.{◌≡◌, refl, ℕ, ◌+◌, List, [], ◌∷◌}
use Rattle.std.specs.Prelude.{Some, None, slice_get, zero, suc, IsSome, map}
use Rattle.nova_model.specs.Capabilities.{is_vcpu}
use Rattle.nova_model.specs.State.{Contexts, KernelState, context_at, entry}
use Rattle.nova_objects.specs.declared.object.Object.{Object}
use Rattle.nova_objects.specs.declared.object.Object.TheVariants.{Ec, Pd, Pt, Sc, Sm}
use Rattle.law_turns.specs.Tables.{HasTables, IsOf, tag, tags_from}

-- where the object is a virtual CPU, its execution context is there
there_from : (n : ℕ) (cs : Contexts) (os : List Object) (e : ℕ) → map tag cs ≡ tags_from n os → IsOf os is_vcpu e → IsSome (entry (slice_get cs e))
there_from n cs [] e same is = absurd (cc)
there_from n [] (o ∷ os) e same is = absurd (cc)
there_from n (Some x ∷ cs) (o ∷ os) zero same is = refl
there_from n (None ∷ cs) (Ec pd cpu kind event ∷ os) zero same is = absurd (cc)
there_from n (None ∷ cs) (Pd ∷ os) zero same is = absurd (cc)
there_from n (None ∷ cs) (Sc ec cpu priority quantum ∷ os) zero same is = absurd (cc)
there_from n (None ∷ cs) (Pt ec mtd ip ∷ os) zero same is = absurd (cc)
there_from n (None ∷ cs) (Sm ∷ os) zero same is = absurd (cc)
there_from n (c ∷ cs) (o ∷ os) (suc e) same is = there_from (n + 1) cs os e (let rest : map tag cs ≡ tags_from (n + 1) os = cc in rest) is

pub virtual_there : (k : KernelState) (ec : ℕ) → HasTables k → IsOf k.objects is_vcpu ec → IsSome (context_at k ec)
virtual_there k ec tables is = there_from 0 k.contexts k.objects ec tables.contexts is
