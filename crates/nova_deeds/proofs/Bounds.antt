-- Bounds of what is counted, table by table: they stay where an entry joins or changes.
use Rattle.std.proofs.Common.{◌≡◌, ℕ, zero, suc, ◌+◌, ◌≤◌, List, [], ◌∷◌, ◌++◌, length, refl, ap, sym, ◌∙◌, arith}
use Rattle.std.specs.Prelude.{◌<◌, Bool, true, false, Option, Some, None, IsSome, option_map, slice_get, slice_set}
use Rattle.std.proofs.lemmas.List.{length-append}
use Rattle.nova_model.specs.Creation.{budget_of, stir_count_of, stamp_past, transfer_of}
use Rattle.nova_model.specs.Deeds.{transfer_after, gave, skipped}
use Rattle.nova_model.specs.State.{KernelState, entry, transfer_in}
use Rattle.nova_objects.specs.declared.object.Object.{Object}
use Rattle.nova_objects.specs.declared.object.EcKind.TheVariants.{Local, Global, Vcpu}
use Rattle.nova_objects.specs.declared.object.Object.TheVariants.{Pd, Ec, Sc, Pt, Sm}
use Rattle.nova_model.specs.declared.new_object.NewObject.{NewObject}
use Rattle.nova_model.specs.declared.new_object.NewObject.TheVariants as new
use Rattle.nova_model.specs.declared.transfer.Sequel.{Sequel}
use Rattle.nova_model.specs.declared.transfer.Sequel.TheVariants.{Item, Opened, Taken, Replied}
use Rattle.nova_model.specs.declared.transfer.Transfer.{Transfer}
use Rattle.nova_model.specs.declared.budget.Budget.{Budget}
use Rattle.nova_deeds.specs.Acts.{IsSequel}
use Rattle.nova_deeds.specs.Counted.{IsAtItem, IsGivenWithin, IsPaidWithin}
use Rattle.nova_deeds.specs.Stirs.{IsStirredWithin}
use Rattle.nova_deeds.specs.StirCounts.{risen, risen_from}

-- tables

pub there-set : {T : Type 0} → (xs : List (Option T)) (i n : ℕ) (x : T) → IsSome (entry (slice_get xs n)) → IsSome (entry (slice_get (slice_set xs i (Some x)) n))
there-set [] i n x h = h
there-set (y ∷ xs) zero zero x h = refl
there-set (y ∷ xs) zero (suc n) x h = h
there-set (y ∷ xs) (suc i) zero x h = h
there-set (y ∷ xs) (suc i) (suc n) x h = there-set xs i n x h

pub there-more : {T : Type 0} → (xs : List (Option T)) (n : ℕ) (o : Option T) → IsSome (entry (slice_get xs n)) → IsSome (entry (slice_get (xs ++ o ∷ []) n))
there-more [] n o h = cc
there-more (x ∷ xs) zero o h = h
there-more (x ∷ xs) (suc n) o h = there-more xs n o h

pub length-more : {S T : Type 0} → (xs : List S) (ys : List T) (x : S) (y : T) → length xs ≡ length ys → length (xs ++ x ∷ []) ≡ length (ys ++ y ∷ [])
length-more xs ys x y h = length-append xs (x ∷ []) ∙ ap (λ n. n + 1) h ∙ sym (length-append ys (y ∷ []))

-- children of items

pub given-later : (turns : ℕ) (o : Option Transfer) → IsGivenWithin turns o → IsGivenWithin (turns + 1) o
given-later turns (Some t) h = omega arith
given-later turns None h = omega arith

pub given-more : (turns n : ℕ) (xs : List (Option Transfer)) (o : Option Transfer) → IsGivenWithin (turns + 1) o → IsGivenWithin turns (entry (slice_get xs n)) →
    IsGivenWithin (turns + 1) (entry (slice_get (xs ++ o ∷ []) n))
given-more turns zero [] o new old = new
given-more turns (suc n) [] o new old = omega arith
given-more turns zero (x ∷ xs) o new old = given-later turns x old
given-more turns (suc n) (x ∷ xs) o new old = given-more turns n xs o new old

pub given-set : (turns : ℕ) (xs : List (Option Transfer)) (i n : ℕ) (t : Transfer) →
    (IsGivenWithin turns (entry (slice_get xs i)) → IsGivenWithin (turns + 1) (Some t)) → IsGivenWithin turns (entry (slice_get xs n)) →
    IsGivenWithin (turns + 1) (entry (slice_get (slice_set xs i (Some t)) n))
given-set turns [] i n t new old = omega arith
given-set turns (x ∷ xs) zero zero t new old = new old
given-set turns (x ∷ xs) zero (suc n) t new old = given-later turns (entry (slice_get xs n)) old
given-set turns (x ∷ xs) (suc i) zero t new old = given-later turns x old
given-set turns (x ∷ xs) (suc i) (suc n) t new old = given-set turns xs i n t new old

pub none-given : (turns : ℕ) (o : Object) → IsGivenWithin (turns + 1) (transfer_of o)
none-given turns Pd = omega arith
none-given turns (Ec pd cpu kind event) = omega arith
none-given turns (Sc ec cpu priority quantum) = omega arith
none-given turns (Pt ec mtd ip) = omega arith
none-given turns Sm = omega arith

pub gave-within : (turns cursor : ℕ) (o : Option Transfer) → IsGivenWithin turns o → IsGivenWithin (turns + 1) (Some (gave (transfer_in o) cursor))
gave-within turns cursor (Some t) h = omega arith
gave-within turns cursor None h = omega arith

pub skipped-within : (turns cursor : ℕ) (o : Option Transfer) → IsGivenWithin turns o → IsGivenWithin (turns + 1) (Some (skipped (transfer_in o) cursor))
skipped-within turns cursor (Some t) h = omega arith
skipped-within turns cursor None h = omega arith

-- the present item stays such as a message may have

pub item-more : (n : ℕ) (xs : List (Option Transfer)) (o : Option Transfer) → IsAtItem o → IsAtItem (entry (slice_get xs n)) → IsAtItem (entry (slice_get (xs ++ o ∷ []) n))
item-more zero [] o new old = new
item-more (suc n) [] o new old = tt
item-more zero (x ∷ xs) o new old = old
item-more (suc n) (x ∷ xs) o new old = item-more n xs o new old

pub item-set : (xs : List (Option Transfer)) (i n : ℕ) (t : Transfer) → (IsAtItem (entry (slice_get xs i)) → t.item < 62) → IsAtItem (entry (slice_get xs n)) →
    IsAtItem (entry (slice_get (slice_set xs i (Some t)) n))
item-set [] i n t new old = tt
item-set (x ∷ xs) zero zero t new old = new old
item-set (x ∷ xs) zero (suc n) t new old = old
item-set (x ∷ xs) (suc i) zero t new old = old
item-set (x ∷ xs) (suc i) (suc n) t new old = item-set xs i n t new old

pub none-item : (o : Object) → IsAtItem (transfer_of o)
none-item Pd = tt
none-item (Ec pd cpu kind event) = omega arith
none-item (Sc ec cpu priority quantum) = tt
none-item (Pt ec mtd ip) = tt
none-item Sm = tt

pub same-item : (o : Option Transfer) → IsAtItem o → (transfer_in o).item < 62
same-item (Some t) h = h
same-item None h = omega arith

pub next-item : (k : KernelState) (ec item : ℕ) (after : Sequel) → IsSequel k ec item after → (transfer_after item after).item < 62
next-item k ec item Item h = h
next-item k ec item Opened h = omega arith
next-item k ec item Taken h = omega arith
next-item k ec item (Replied caller mark) h = omega arith

pub next-given : (turns item : ℕ) (after : Sequel) → IsGivenWithin (turns + 1) (Some (transfer_after item after))
next-given turns item Item = omega arith
next-given turns item Opened = omega arith
next-given turns item Taken = omega arith
next-given turns item (Replied caller mark) = omega arith

-- stir counts of virtual CPUs

pub inputs-more : (turns n : ℕ) (xs : List (Option ℕ)) (o : Option ℕ) → IsStirredWithin turns o → IsStirredWithin turns (entry (slice_get xs n)) →
    IsStirredWithin turns (entry (slice_get (xs ++ o ∷ []) n))
inputs-more turns zero [] o new old = new
inputs-more turns (suc n) [] o new old = omega arith
inputs-more turns zero (x ∷ xs) o new old = old
inputs-more turns (suc n) (x ∷ xs) o new old = inputs-more turns n xs o new old

pub none-stirred : (turns : ℕ) (o : Object) → IsStirredWithin turns (stir_count_of o)
none-stirred turns Pd = omega arith
none-stirred turns (Ec pd cpu Local event) = omega arith
none-stirred turns (Ec pd cpu Global event) = omega arith
none-stirred turns (Ec pd cpu Vcpu event) = omega arith
none-stirred turns (Sc ec cpu priority quantum) = omega arith
none-stirred turns (Pt ec mtd ip) = omega arith
none-stirred turns Sm = omega arith

risen-within : (turns : ℕ) (stirs : Bool) (o : Option ℕ) → IsStirredWithin turns o → IsStirredWithin (turns + 1) (option_map (risen stirs) o)
risen-within turns true (Some count) h = omega arith
risen-within turns false (Some count) h = omega arith
risen-within turns stirs None h = omega arith

pub inputs-risen : (turns g n : ℕ) (stirs : ℕ → Bool) (xs : List (Option ℕ)) → IsStirredWithin turns (entry (slice_get xs n)) →
    IsStirredWithin (turns + 1) (entry (slice_get (risen_from stirs g xs) n))
inputs-risen turns g n stirs [] h = omega arith
inputs-risen turns g zero stirs (x ∷ xs) h = risen-within turns (stirs g) x h
inputs-risen turns g (suc n) stirs (x ∷ xs) h = inputs-risen turns (g + 1) n stirs xs h

pub length-risen : (g : ℕ) (stirs : ℕ → Bool) (xs : List (Option ℕ)) → length (risen_from stirs g xs) ≡ length xs
length-risen g stirs [] = refl
length-risen g stirs (x ∷ xs) = ap suc (length-risen (g + 1) stirs xs)

-- budgets

pub ticks-more : (turns n : ℕ) (xs : List (Option Budget)) (o : Option Budget) → IsPaidWithin turns o → IsPaidWithin turns (entry (slice_get xs n)) →
    IsPaidWithin turns (entry (slice_get (xs ++ o ∷ []) n))
ticks-more turns zero [] o new old = new
ticks-more turns (suc n) [] o new old = omega arith
ticks-more turns zero (x ∷ xs) o new old = old
ticks-more turns (suc n) (x ∷ xs) o new old = ticks-more turns n xs o new old

pub none-paid : (turns stamp : ℕ) (new : NewObject) → IsPaidWithin turns (budget_of stamp new)
none-paid turns stamp (new.Sc ec cpu priority quantum) = omega arith
none-paid turns stamp new.Pd = omega arith
none-paid turns stamp (new.Ec pd cpu kind sp event) = omega arith
none-paid turns stamp (new.Pt ec mtd ip) = omega arith
none-paid turns stamp (new.Sm count) = omega arith

pub stamp-made : (stamp : ℕ) (new : NewObject) → stamp_past stamp new ≤ stamp + 1
stamp-made stamp (new.Sc ec cpu priority quantum) = omega arith
stamp-made stamp new.Pd = omega arith
stamp-made stamp (new.Ec pd cpu kind sp event) = omega arith
stamp-made stamp (new.Pt ec mtd ip) = omega arith
stamp-made stamp (new.Sm count) = omega arith
