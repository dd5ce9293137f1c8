-- Tables as lists: what their entries have, against the objects, and where one object joins.
use Rattle.std.proofs.Common.{◌≡◌, ℕ, zero, suc, ◌+◌, List, [], ◌∷◌, ◌++◌, length, refl, ap, ◌∙◌, sym, arith}
use Rattle.std.specs.Prelude.{Bool, true, map, slice_get, slice_set, Option, Some, None, IfSome, is_some, option_map}
use Rattle.std.specs.List.{AllByRecursion}
use Rattle.nova_objects.specs.declared.object.EcKind.TheVariants.{Local, Global, Vcpu}
use Rattle.nova_objects.specs.declared.object.Object.{Object}
use Rattle.nova_objects.specs.declared.object.Object.TheVariants.{Pd, Ec, Sc, Pt, Sm}
use Rattle.nova_model.specs.Capabilities.{is_ec, is_local, is_pt, is_sc, is_sm, is_vcpu}
use Rattle.nova_model.specs.Creation.{budget_of, context_of, count_of, stir_count_of, identifier_of, idle_semaphore, object_of, transfer_of, with_object, words_of}
use Rattle.nova_model.specs.State.{KernelState}
use Rattle.nova_model.specs.declared.new_object.NewObject.{NewObject}
use Rattle.nova_model.specs.declared.new_object.NewObject.TheVariants as new
use Rattle.law_turns.specs.Tables.{HasTables, IsOf, Refers, cpu_of, has_words, tag, tag_of, tags_from}
use Rattle.law_turns.proofs.Setting.{get_kept, joined_length}

-- LISTS

pub get_map : {A B : Type 0} (f : A → B) (xs : List A) (n : ℕ) → slice_get (map f xs) n ≡ option_map f (slice_get xs n)
get_map f [] n = refl
get_map f (x ∷ xs) zero = refl
get_map f (x ∷ xs) (suc n) = get_map f xs n

pub map_more : {A B : Type 0} (f : A → B) (xs : List A) (x : A) → map f (xs ++ x ∷ []) ≡ map f xs ++ f x ∷ []
map_more f [] x = refl
map_more {A} {B} f (y ∷ xs) x = ap (λ (l : List B). f y ∷ l) (map_more f xs x)

pub map_set : {A B : Type 0} (f : A → B) (xs : List A) (n : ℕ) (v : A) → IfSome (slice_get xs n) (λ x. f v ≡ f x) → map f (slice_set xs n v) ≡ map f xs
map_set f [] n v h = refl
map_set {A} {B} f (x ∷ xs) zero v h = ap (λ (y : B). y ∷ map f xs) h
map_set {A} {B} f (x ∷ xs) (suc n) v h = ap (λ (l : List B). f x ∷ l) (map_set f xs n v h)

-- numbers and processors of execution contexts
pub tags_more : (n : ℕ) (os : List Object) (o : Object) → tags_from n (os ++ o ∷ []) ≡ tags_from n os ++ tag_of (n + length os) o ∷ []
tags_more n [] o = let e : n ≡ n + 0 = omega arith in ap (λ (m : ℕ). tag_of m o ∷ []) e
tags_more n (x ∷ os) o =
    let e : n + 1 + length os ≡ n + suc (length os) = omega arith in
    ap (λ (l : List (Option (ℕ × ℕ))). tag_of n x ∷ l) (tags_more (n + 1) os o ∙ ap (λ (m : ℕ). tags_from (n + 1) os ++ tag_of m o ∷ []) e)

pub get_tags : (m : ℕ) (os : List Object) (n : ℕ) → slice_get (tags_from m os) n ≡ option_map (tag_of (m + n)) (slice_get os n)
get_tags m [] n = refl
get_tags m (o ∷ os) zero = let e : m ≡ m + 0 = omega arith in ap (λ (i : ℕ). Some (tag_of i o)) e
get_tags m (o ∷ os) (suc n) = let e : m + 1 + n ≡ m + suc n = omega arith in get_tags (m + 1) os n ∙ ap (λ (i : ℕ). option_map (tag_of i) (slice_get os n)) e

pub tags_length : (n : ℕ) (os : List Object) → length (tags_from n os) ≡ length os
tags_length n [] = refl
tags_length n (o ∷ os) = ap suc (tags_length (n + 1) os)

-- ONE OBJECT MORE

pub tag_new : (n : ℕ) (made : NewObject) → tag (context_of n made) ≡ tag_of n (object_of made)
tag_new n new.Pd = refl
tag_new n (new.Ec pd cpu kind sp event) = refl
tag_new n (new.Sc ec cpu priority quantum) = refl
tag_new n (new.Pt ec mtd ip) = refl
tag_new n (new.Sm count) = refl

pub words_new : (o : Object) → is_some (words_of o) ≡ has_words o
words_new Pd = refl
words_new (Ec pd cpu Local event) = refl
words_new (Ec pd cpu Global event) = refl
words_new (Ec pd cpu Vcpu event) = refl
words_new (Sc ec cpu priority quantum) = refl
words_new (Pt ec mtd ip) = refl
words_new Sm = refl

pub guest_new : (o : Object) → is_some (stir_count_of o) ≡ is_vcpu o
guest_new Pd = refl
guest_new (Ec pd cpu Local event) = refl
guest_new (Ec pd cpu Global event) = refl
guest_new (Ec pd cpu Vcpu event) = refl
guest_new (Sc ec cpu priority quantum) = refl
guest_new (Pt ec mtd ip) = refl
guest_new Sm = refl

pub transfer_new : (o : Object) → is_some (transfer_of o) ≡ is_ec o
transfer_new Pd = refl
transfer_new (Ec pd cpu kind event) = refl
transfer_new (Sc ec cpu priority quantum) = refl
transfer_new (Pt ec mtd ip) = refl
transfer_new Sm = refl

pub budget_new : (stamp : ℕ) (made : NewObject) → is_some (budget_of stamp made) ≡ is_sc (object_of made)
budget_new stamp new.Pd = refl
budget_new stamp (new.Ec pd cpu kind sp event) = refl
budget_new stamp (new.Sc ec cpu priority quantum) = refl
budget_new stamp (new.Pt ec mtd ip) = refl
budget_new stamp (new.Sm count) = refl

pub identifier_new : (made : NewObject) → is_some (identifier_of made) ≡ is_pt (object_of made)
identifier_new new.Pd = refl
identifier_new (new.Ec pd cpu kind sp event) = refl
identifier_new (new.Sc ec cpu priority quantum) = refl
identifier_new (new.Pt ec mtd ip) = refl
identifier_new (new.Sm count) = refl

pub semaphore_new : (made : NewObject) → is_some (option_map idle_semaphore (count_of made)) ≡ is_sm (object_of made)
semaphore_new new.Pd = refl
semaphore_new (new.Ec pd cpu kind sp event) = refl
semaphore_new (new.Sc ec cpu priority quantum) = refl
semaphore_new (new.Pt ec mtd ip) = refl
semaphore_new (new.Sm count) = refl

pub maps_more : {T : Type 0} (is : Object → Bool) (xs : List (Option T)) (os : List Object) (x : Option T) (o : Object) → map is_some xs ≡ map is os → is_some x ≡ is o →
    map is_some (xs ++ x ∷ []) ≡ map is (os ++ o ∷ [])
maps_more is xs os x o h new =
    map_more is_some xs x ∙ ap (λ (l : List Bool). l ++ is_some x ∷ []) h ∙ ap (λ (b : Bool). map is os ++ b ∷ []) new ∙ sym (map_more is os o)

cpu_more : (os : List Object) (o : Object) (ec cpu : ℕ) (at : Option Object) → slice_get os ec ≡ at → cpu_of at ≡ Some cpu → cpu_of (slice_get (os ++ o ∷ []) ec) ≡ Some cpu
cpu_more os o ec cpu None is h = absurd (cc)
cpu_more os o ec cpu (Some x) is h = ap cpu_of (get_kept os o ec x is) ∙ h

kind_more : (os : List Object) (o : Object) (is : Object → Bool) (n : ℕ) (at : Option Object) → slice_get os n ≡ at → option_map is at ≡ Some true → IsOf (os ++ o ∷ []) is n
kind_more os o is n None at h = absurd (cc)
kind_more os o is n (Some x) at h = ap (λ (e : Option Object). option_map is e) (get_kept os o n x at) ∙ h

refers_more : (os : List Object) (o x : Object) → Refers os x → Refers (os ++ o ∷ []) x
refers_more os o Pd h = tt
refers_more os o (Ec pd cpu kind event) h = get_kept os o pd Pd h
refers_more os o (Sc ec cpu priority quantum) h = cpu_more os o ec cpu (slice_get os ec) refl h
refers_more os o (Pt ec mtd ip) h = kind_more os o is_local ec (slice_get os ec) refl h
refers_more os o Sm h = tt

pub all_refer : (os : List Object) (o : Object) (xs : List Object) → AllByRecursion (Refers os) xs → Refers os o → AllByRecursion (Refers (os ++ o ∷ [])) (xs ++ o ∷ [])
all_refer os o [] h last = (refers_more os o o last, tt)
all_refer os o (x ∷ xs) h last = (refers_more os o x h.0, all_refer os o xs h.1 last)

pub made_fits : (k : KernelState) (domain target : ℕ) (made : NewObject) → Refers k.objects (object_of made) → HasTables k → HasTables (with_object k domain target made)
made_fits k domain target made refers h = record {
  contexts =
      let e : length k.objects ≡ 0 + length k.objects = omega arith in
      map_more tag k.contexts (context_of (length k.objects) made)
      ∙ ap (λ (l : List (Option (ℕ × ℕ))). l ++ tag (context_of (length k.objects) made) ∷ []) h.contexts
      ∙ ap (λ (t : Option (ℕ × ℕ)). tags_from 0 k.objects ++ t ∷ []) (tag_new (length k.objects) made ∙ ap (λ (m : ℕ). tag_of m (object_of made)) e)
      ∙ sym (tags_more 0 k.objects (object_of made));
  messages = maps_more has_words k.messages k.objects (words_of (object_of made)) (object_of made) h.messages (words_new (object_of made));
  transfers = maps_more is_ec k.transfers k.objects (transfer_of (object_of made)) (object_of made) h.transfers (transfer_new (object_of made));
  budgets = maps_more is_sc k.budgets k.objects (budget_of k.next_stamp made) (object_of made) h.budgets (budget_new k.next_stamp made);
  identifiers = maps_more is_pt k.identifiers k.objects (identifier_of made) (object_of made) h.identifiers (identifier_new made);
  semaphores = maps_more is_sm k.semaphores k.objects (option_map idle_semaphore (count_of made)) (object_of made) h.semaphores (semaphore_new made);
  guests = maps_more is_vcpu k.stirs.guests k.objects (stir_count_of (object_of made)) (object_of made) h.guests (guest_new (object_of made));
  refer = all_refer k.objects (object_of made) k.objects h.refer refers;
  deadlines = joined_length k.times.deadlines None ∙ ap (λ (n : ℕ). n + 1) h.deadlines ∙ sym (joined_length k.objects (object_of made));
  clocks = h.clocks;
}
