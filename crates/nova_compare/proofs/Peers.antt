-- Objects of which the same one has the lesser stamp, where they are peers.
use Rattle.std.proofs.Common.{◌≡◌, ◌∙◌, ℕ, zero, suc, ◌<◌, List, [], ◌∷◌, length, ap, ap₂, sym, arith}
use Rattle.std.specs.Prelude.{Bool, true, false, ◌==◌, ◌&&◌, nat_lt, Option, Some, slice_get, slice_index_or}
use Rattle.std.specs.Bool.{OnTrue}
use Rattle.std.proofs.lemmas.Option.{slice_get-get_or}
use Rattle.nova_objects.specs.declared.object.Object.{Object}
use Rattle.nova_objects.specs.declared.object.Object.TheVariants.{Pd, Sc}
use Rattle.law_sameness.specs.States.{IsInStep, stamp_at}
use Rattle.nova_compare.specs.Peers.{are_peers, is_schedule}

equal_itself : (n : ℕ) → (n == n) ≡ true
equal_itself n = grind arith

peers_are : (ec cpu priority quantum its_ec its_quantum : ℕ) → are_peers (Sc ec cpu priority quantum) (Sc its_ec cpu priority its_quantum) ≡ true
peers_are ec cpu priority quantum its_ec its_quantum = ap₂ (λ (s t : Bool). s && t) (equal_itself cpu) (equal_itself priority)

there : (objects : List Object) (n : ℕ) (o : Object) → n < length objects → slice_get objects n ≡ Some o → slice_index_or objects n Pd ≡ o
there objects n o less at = let both : Some (slice_index_or objects n Pd) ≡ Some o = sym (slice_get-get_or objects n Pd less) ∙ at in cc

pub no_peers : (objects : List Object) (a b : List (Option ℕ)) (m n : ℕ) → m < length objects → n < length objects →
    are_peers (slice_index_or objects m Pd) (slice_index_or objects n Pd) ≡ false → IsInStep objects a b m n
no_peers objects a b m n first second none h =
    absurd (let both : true ≡ false =
    sym (peers_are h.first_ec h.cpu h.priority h.first_quantum h.second_ec h.second_quantum)
    ∙ sym (ap₂ are_peers (there objects m _ first h.first) (there objects n _ second h.second)) ∙ none in cc)

pub no_schedule : (objects : List Object) (a b : List (Option ℕ)) (m n : ℕ) → m < length objects → is_schedule (slice_index_or objects m Pd) ≡ false → IsInStep objects a b m n
no_schedule objects a b m n first none h =
    absurd (let both : true ≡ false = sym (ap is_schedule (there objects m (Sc h.first_ec h.cpu h.priority h.first_quantum) first h.first)) ∙ none in cc)

there_below : (objects : List Object) (n : ℕ) (o : Object) → slice_get objects n ≡ Some o → n < length objects
there_below [] n o is = absurd (cc)
there_below (x ∷ objects) zero o is = omega arith
there_below (x ∷ objects) (suc n) o is = let less = there_below objects n o is in omega (arith, less)

with_below : (objects : List Object) (a b : List (Option ℕ)) (m n : ℕ) → ((n : ℕ) → n < length objects → IsInStep objects a b m n) → IsInStep objects a b m n
with_below objects a b m n below h = below n (there_below objects n (Sc h.second_ec h.cpu h.priority h.second_quantum) h.second) h

pub with_any : (r : Bool) (objects : List Object) (a b : List (Option ℕ)) (m : ℕ) → OnTrue r ((n : ℕ) → n < length objects → IsInStep objects a b m n) →
    OnTrue r ((n : ℕ) → IsInStep objects a b m n)
with_any true objects a b m below = λ n. with_below objects a b m n below
with_any false objects a b m below = tt

-- each two, from those of each that is there
pub any_two : (objects : List Object) (a b : List (Option ℕ)) → ((m n : ℕ) → m < length objects → IsInStep objects a b m n) → (m n : ℕ) → IsInStep objects a b m n
any_two objects a b each m n h = each m n (there_below objects m (Sc h.first_ec h.cpu h.priority h.first_quantum) h.first) h

-- stamps that are the same are in step
pub same_in_step : (objects : List Object) (a b : List (Option ℕ)) → a ≡ b → (m n : ℕ) → IsInStep objects a b m n
same_in_step objects a b same m n h = ap (λ (l : List (Option ℕ)). nat_lt (stamp_at l m) (stamp_at l n)) same
