-- Every turn keeps frames, messages and registers whole, and a kernel begins with them.
use Rattle.nova_model.specs.Sources.{Source, with_source}
use Rattle.law_forest.proofs.Boots.{sources_keep}
use Rattle.std.proofs.Common.{◌≡◌, ℕ, zero, suc, ◌+◌, ◌/◌, ◌%◌, ◌≤◌, List, [], ◌∷◌, ◌++◌, length, ap, sym, ◌∙◌, subst, refl, arith}
use Rattle.std.specs.Prelude.{◌^◌, true, replicate, slice_get, Option, Some, None, IfSome, option_map}
use Rattle.std.specs.List.{AllByRecursion}
use Rattle.std.proofs.lemmas.List.{length-append, length-replicate}
use Rattle.rv_model.specs.Step.{Once, Raised, Went, Store}
use Rattle.nova_guest.specs.Cells.{page_size}
use Rattle.nova_objects.specs.declared.object.EcKind.TheVariants.{Local, Global, Vcpu}
use Rattle.nova_objects.specs.declared.object.Object.{Object}
use Rattle.nova_objects.specs.declared.object.Object.TheVariants.{Pd, Ec, Sc, Pt, Sm}
use Rattle.nova_range.specs.Rights.{write_right}
use Rattle.nova_model.specs.AddressSpaces.{AddressSpace, frame_for, space, stored_at}
use Rattle.nova_model.specs.Boot.{Image, Scenario, bare, boot, laid, with_image, with_images}
use Rattle.nova_model.specs.Capabilities.{is_ec}
use Rattle.nova_model.specs.Creation.{context_of, object_of, words_of}
use Rattle.nova_model.specs.Deeds.{address_space, deed, instruction}
use Rattle.nova_model.specs.Inputs.{store_of}
use Rattle.nova_model.specs.Memory.{Memory, written}
use Rattle.nova_model.specs.Runs.{after}
use Rattle.nova_model.specs.State.{KernelState, Contexts, context, context_in, ec_of, no_words}
use Rattle.nova_model.specs.declared.context.EcState.{EcState}
use Rattle.nova_model.specs.declared.deed.Deed.{Deed}
use Rattle.nova_model.specs.declared.deed.Deed.TheVariants.{Steps}
use Rattle.nova_model.specs.declared.new_object.NewObject.{NewObject}
use Rattle.nova_model.specs.declared.new_object.NewObject.TheVariants as new
use Rattle.nova_model.specs.declared.root.Root.{Root}
use Rattle.nova_model.specs.declared.event.Event.{Event}
use Rattle.law_forest.specs.Effects.{Effect, all_edited, applied, effect, joined, memory_with, put, store_by, passing_effect, passing_ends}
use Rattle.law_forest.specs.Turns.{Acts, IsTurning, Turning, turned, Passes}
use Rattle.law_forest.proofs.Turning.{after_keeps}
use Rattle.law_turns.proofs.Courses.{edited_length}
use Rattle.law_isolation.specs.Sound.{AreWhole, IsWhole}
use Rattle.law_isolation.proofs.Instructions.{IsGood, IsInPage, length_reg, one_good}
use Rattle.law_isolation.proofs.Sizes.{AreFit, AreSized, IsOfSize, IsSized, edits_fit, length_all, more_each, no_words_sized, put_sized, whole_written, words_sized, ends_fit}

-- AN INSTRUCTION

page_fits : (n : ℕ) → n ≤ 4096 → n ≤ page_size
unfolding page_size
page_fits n h = h

stored_whole : (m : Memory) (s : Store) (f : Option ℕ) → s.address % 4096 + s.width ≤ 4096 → AreWhole m.ram → AreWhole (stored_at m s f).ram
stored_whole m s None fits whole = whole
stored_whole m s (Some f) fits whole = whole_written page_size m f (s.address % 4096) s.width s.value (page_fits (s.address % 4096 + s.width) fits) whole

memory_whole : (m : Memory) (store : Option (AddressSpace × Store)) → IfSome store (λ p. IsInPage (Some p.1)) → AreWhole m.ram → AreWhole (memory_with m store).ram
memory_whole m None fits whole = whole
memory_whole m (Some (a, s)) fits whole = stored_whole m s (frame_for a write_right s.address) fits.1 whole

once_stores : (a : AddressSpace) (n : ℕ) (o : Once) → IsGood n o → IfSome {T = AddressSpace × Store} (option_map (λ (s : Store). (a, s)) (store_of o)) (λ p. IsInPage (Some p.1))
once_stores a n (Raised reason q0 q1) good = tt
once_stores a n (Went regs None) good = tt
once_stores a n (Went regs (Some s)) good = good.1

stores_fit : (k : KernelState) (ec : ℕ) (d : Deed) → IsGood (length (context k ec).regs.x) (instruction k ec) → IfSome (store_by k ec d) (λ p. IsInPage (Some p.1))
stores_fit k ec Steps good = once_stores (address_space k ec) (length (context k ec).regs.x) (instruction k ec) good
stores_fit k ec other good = tt

-- AN OBJECT THAT IS MADE

registers_more : (cs : Contexts) (os : List Object) (c : Option EcState) (o : Object) → length cs ≡ length os →
    ((g : ℕ) → option_map is_ec (slice_get os g) ≡ Some true → length (ec_of cs g).regs.x ≡ 32) → (is_ec o ≡ true → length (context_in c).regs.x ≡ 32) →
    (g : ℕ) → option_map is_ec (slice_get (os ++ o ∷ []) g) ≡ Some true → length (ec_of (cs ++ c ∷ []) g).regs.x ≡ 32
registers_more [] [] c o same all new_ zero is = new_ (cc)
registers_more [] [] c o same all new_ (suc g) is = absurd (cc)
registers_more [] (p ∷ os) c o same all new_ g is = absurd (omega (arith, same))
registers_more (d ∷ cs) [] c o same all new_ g is = absurd (omega (arith, same))
registers_more (d ∷ cs) (p ∷ os) c o same all new_ zero is = all zero is
registers_more (d ∷ cs) (p ∷ os) c o same all new_ (suc g) is = registers_more cs os c o (omega (arith, same)) (λ j h. all (suc j) h) new_ g is

new_registers : (number : ℕ) (made : NewObject) → is_ec (object_of made) ≡ true → length (context_in (context_of number made)).regs.x ≡ 32
new_registers number (new.Ec pd cpu kind sp event) is = length_reg (record { pc = 0; x = replicate 32 0 }) 2 sp ∙ length-replicate {A = ℕ} 32 0
new_registers number new.Pd is = absurd (cc)
new_registers number (new.Sc ec cpu priority quantum) is = absurd (cc)
new_registers number (new.Pt ec mtd ip) is = absurd (cc)
new_registers number (new.Sm count) is = absurd (cc)

new_words : (o : Object) → IsSized (Some (words_of o))
new_words Pd = no_words_sized
new_words (Ec pd cpu Local event) = no_words_sized
new_words (Ec pd cpu Global event) = no_words_sized
new_words (Ec pd cpu Vcpu event) = no_words_sized
new_words (Sc ec cpu priority quantum) = no_words_sized
new_words (Pt ec mtd ip) = no_words_sized
new_words Sm = no_words_sized

-- ANY EFFECT

joined_words : (ms : List (Option (List ℕ))) (made : Option NewObject) → AreSized ms → AreSized (joined ms (option_map (λ m. words_of (object_of m)) made))
joined_words ms None all = all
joined_words ms (Some made) all = more_each IsSized ms (words_of (object_of made)) (new_words (object_of made)) no_words_sized all

joined_registers : (os : List Object) (cs : Contexts) (made : Option NewObject) → length cs ≡ length os →
    ((g : ℕ) → option_map is_ec (slice_get os g) ≡ Some true → length (ec_of cs g).regs.x ≡ 32) → (g : ℕ) →
    option_map is_ec (slice_get (joined os (option_map object_of made)) g) ≡ Some true → length (ec_of (joined cs (option_map (context_of (length os)) made)) g).regs.x ≡ 32
joined_registers os cs None as_many all g is = all g is
joined_registers os cs (Some made) as_many all g is =
    registers_more cs os (context_of (length os) made) (object_of made) as_many all (new_registers (length os) made) g is

joined_places : (os : List Object) (cs : Contexts) (made : Option NewObject) → length cs ≡ length os →
    length (joined cs (option_map (context_of (length os)) made)) ≡ length (joined os (option_map object_of made))
joined_places os cs None as_many = as_many
joined_places os cs (Some made) as_many = length-append cs _ ∙ (ap (λ (n : ℕ). n + 1) as_many ∙ sym (length-append os _))

applied_whole : (k : KernelState) (e : Effect) → AreFit k.contexts e.edits → IsOfSize e.words → IfSome e.store (λ p. IsInPage (Some p.1)) → IsWhole k → IsWhole (applied k e)
applied_whole k e edits words store whole =
    let places = edited_length k.contexts e.edits ∙ whole.places in record {
      frames = memory_whole k.memory e.store store whole.frames;
      messages = joined_words (put k.messages e.words) e.made (put_sized k.messages e.words words whole.messages);
      registers = joined_registers k.objects (all_edited k.contexts e.edits) e.made places (λ g is. length_all k.contexts e.edits g edits ∙ whole.registers g is);
      places = joined_places k.objects (all_edited k.contexts e.edits) e.made places;
    }

-- EACH TURN

turned_whole : (k : KernelState) (cpu : ℕ) (t : Turning) (e : Event) → IsTurning k cpu t e → IsWhole k → IsWhole (turned k cpu t)
turned_whole k cpu t e (Acts c chosen is event) whole =
    let d = deed k c.actor in
    let good = one_good (length (context k c.actor).regs.x) (context k c.actor).regs (space (address_space k c.actor)) refl in
    let now = applied_whole k (effect k c.actor d) (edits_fit k c.actor d good) (words_sized k c.actor d whole.messages) (stores_fit k c.actor d good) whole in
    subst (λ (u : Turning). IsWhole (turned k cpu u)) (sym is) (record { frames = now.frames; messages = now.messages; registers = now.registers; places = now.places })
turned_whole k cpu t e (Passes p comes is event) whole =
    let now = applied_whole k (passing_effect k p) (ends_fit k.contexts (passing_ends k p)) tt tt whole in
    subst (λ (u : Turning). IsWhole (turned k cpu u)) (sym is) (record { frames = now.frames; messages = now.messages; registers = now.registers; places = now.places })

pub turn_whole : (k : KernelState) (cpu : ℕ) → IsWhole k → IsWhole (after k cpu)
turn_whole k cpu whole = after_keeps IsWhole turned_whole k cpu whole

-- THE BEGINNING

all_same : (P : List ℕ → Type 0) (n : ℕ) (p : List ℕ) → P p → AllByRecursion P (replicate n p)
all_same P zero p h = tt
all_same P (suc n) p h = (h, all_same P n p h)

page_whole : (n : ℕ) → n ≡ page_size → length (replicate {A = ℕ} n 0) ≡ page_size
page_whole n h = length-replicate {A = ℕ} n 0 ∙ h

is_page : 4096 ≡ page_size
unfolding page_size
is_page = refl

bare_whole : (cpus ram consoles : ℕ) (root : Root) → IsWhole (bare cpus ram consoles root)
bare_whole cpus ram consoles root = record {
  frames = all_same (λ (bytes : List ℕ). length bytes ≡ page_size) (2 ^ ram) (replicate 4096 0) (page_whole 4096 is_page);
  messages = words;
  registers = counts;
  places = refl;
}
  where
    words : AreSized (None ∷ Some no_words ∷ None ∷ [])
    words zero = no_words_sized
    words (suc zero) = no_words_sized
    words (suc (suc zero)) = no_words_sized
    words (suc (suc (suc i))) = no_words_sized

    counts : (ec : ℕ) → option_map is_ec (slice_get (bare cpus ram consoles root).objects ec) ≡ Some true → length (context (bare cpus ram consoles root) ec).regs.x ≡ 32
    counts zero is = absurd (cc)
    counts (suc zero) is = length_reg (record { pc = root.pc; x = replicate 32 0 }) 2 root.sp ∙ length-replicate {A = ℕ} 32 0
    counts (suc (suc zero)) is = absurd (cc)
    counts (suc (suc (suc i))) is = absurd (cc)

pub laid_whole : (m : Memory) (address : ℕ) (bytes : List ℕ) → AreWhole m.ram → AreWhole (laid m address bytes).ram
laid_whole m address [] whole = whole
laid_whole m address (b ∷ bytes) whole =
    laid_whole (written m (address / 4096) (address % 4096) 1 b) (address + 1) bytes
    (whole_written page_size m (address / 4096) (address % 4096) 1 b (page_fits (address % 4096 + 1) (omega arith)) whole)

images_whole : (k : KernelState) (images : List Image) → IsWhole k → IsWhole (with_images k images)
images_whole k [] whole = whole
images_whole k (image ∷ images) whole = images_whole (with_image k image) images
    (record { frames = laid_whole k.memory image.address image.bytes whole.frames; messages = whole.messages; registers = whole.registers; places = whole.places })

source_whole : (k : KernelState) (s : Source) → IsWhole k → IsWhole (with_source k s)
source_whole k s whole = record {
  frames = whole.frames;
  messages = joined_words k.messages (Some (new.Sm 0)) whole.messages;
  registers = joined_registers k.objects k.contexts (Some (new.Sm 0)) whole.places whole.registers;
  places = joined_places k.objects k.contexts (Some (new.Sm 0)) whole.places;
}

pub boot_whole : (s : Scenario) → IsWhole (boot s)
boot_whole s =
    sources_keep IsWhole source_whole (with_images (bare s.cpus s.ram s.consoles s.root) s.images) s.sources
    (images_whole (bare s.cpus s.ram s.consoles s.root) s.images (bare_whole s.cpus s.ram s.consoles s.root))
