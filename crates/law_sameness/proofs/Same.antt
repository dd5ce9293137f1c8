-- Two vertices of which all that is read and all that is counted is the same are in one state.
use Rattle.std.proofs.Common.{◌≡◌, ℕ, suc, ◌<◌, List, [], ◌∷◌, length, map, ap, ap₂, sym, ◌∙◌, subst, refl, arith}
use Rattle.std.specs.Prelude.{Bool, true, false, slice_get, Option, Some, None, is_some, option_map}
use Rattle.std.proofs.lemmas.List.{length-map}
use Rattle.nova_objects.specs.declared.object.Object.{Object}
use Rattle.nova_model.specs.Capabilities.{is_vcpu}
use Rattle.nova_model.specs.State.{Contexts, KernelState, Semaphore, entry}
use Rattle.nova_model.specs.declared.budget.Budget.{Budget}
use Rattle.nova_model.specs.declared.delegation.Derivation.{Derivation}
use Rattle.nova_model.specs.declared.log.LogByte.{LogByte}
use Rattle.nova_model.specs.declared.times.AlarmState.{AlarmState}
use Rattle.nova_model.specs.declared.times.Deadline.{Deadline}
use Rattle.nova_model.specs.declared.transfer.Transfer.{Transfer}
use Rattle.law_turns.specs.Tables.{HasTables}
use Rattle.law_turns.proofs.Tags.{tags_length}
use Rattle.law_sameness.specs.Counts.{Counts, stamp_in}
use Rattle.law_sameness.specs.States.{AreCountedAlike, AreMomentsSame, AreReadAlike, IsSameAt, count_in, is_guest_in}
use Rattle.law_turns.specs.Keeping.{IsKept}

-- TABLES

pub same_tables : {T : Type 0} (xs ys : List (Option T)) → length xs ≡ length ys → ((n : ℕ) → n < length xs → entry (slice_get xs n) ≡ entry (slice_get ys n)) → xs ≡ ys
same_tables [] [] long each = refl
same_tables [] (y ∷ ys) long each = absurd (omega (arith, long))
same_tables (x ∷ xs) [] long each = absurd (omega (arith, long))
same_tables (x ∷ xs) (y ∷ ys) long each =
    let first : x ≡ y = each 0 (omega arith) in
    ap₂ (λ (h : Option _) (t : List (Option _)). h ∷ t) first (same_tables xs ys (omega (arith, long)) (λ n less. each (suc n) (omega (arith, less))))

-- LENGTHS

pub table_length : {T : Type 0} (xs : List (Option T)) (is : Object → Bool) (os : List Object) → map is_some xs ≡ map is os → length xs ≡ length os
table_length xs is os same = sym (length-map xs is_some) ∙ ap length same ∙ length-map os is

pub contexts_length : (k : KernelState) → HasTables k → length k.contexts ≡ length k.objects
contexts_length k tables = sym (length-map k.contexts _) ∙ ap length tables.contexts ∙ tags_length 0 k.objects

-- BUDGETS

same_budget : (x y : Option Budget) → stamp_in x ≡ stamp_in y → option_map (λ (b : Budget). b.ticks) x ≡ option_map (λ (b : Budget). b.ticks) y →
    option_map (λ (b : Budget). b.left) x ≡ option_map (λ (b : Budget). b.left) y → x ≡ y
same_budget None None stamp ticks left = refl
same_budget None (Some c) stamp ticks left = absurd (cc)
same_budget (Some b) None stamp ticks left = absurd (cc)
same_budget (Some b) (Some c) stamp ticks left =
    let s : b.stamp ≡ c.stamp = cc in
    let t : b.ticks ≡ c.ticks = cc in
    let l : b.left ≡ c.left = cc in
    ap (λ (n : ℕ). Some (record { left = n; stamp = b.stamp; ticks = b.ticks })) l
    ∙ ap (λ (n : ℕ). Some (record { left = c.left; stamp = n; ticks = b.ticks })) s
    ∙ ap (λ (n : ℕ). Some (record { left = c.left; stamp = c.stamp; ticks = n })) t

same_budgets : (xs ys : List (Option Budget)) → map stamp_in xs ≡ map stamp_in ys →
    ((n : ℕ) → n < length xs → option_map (λ (b : Budget). b.ticks) (entry (slice_get xs n)) ≡ option_map (λ (b : Budget). b.ticks) (entry (slice_get ys n))) →
    ((n : ℕ) → n < length xs → option_map (λ (b : Budget). b.left) (entry (slice_get xs n)) ≡ option_map (λ (b : Budget). b.left) (entry (slice_get ys n))) → xs ≡ ys
same_budgets [] [] stamps ticks left = refl
same_budgets [] (y ∷ ys) stamps ticks left = absurd (cc)
same_budgets (x ∷ xs) [] stamps ticks left = absurd (cc)
same_budgets (x ∷ xs) (y ∷ ys) stamps ticks left =
    let first : stamp_in x ≡ stamp_in y = cc in
    let rest : map stamp_in xs ≡ map stamp_in ys = cc in
    ap₂ (λ (h : Option Budget) (t : List (Option Budget)). h ∷ t) (same_budget x y first (ticks 0 (omega arith)) (left 0 (omega arith)))
    (same_budgets xs ys rest (λ n less. ticks (suc n) (omega (arith, less))) (λ n less. left (suc n) (omega (arith, less))))

-- VIRTUAL CPUS

same_guest : (x y : Option ℕ) (o : Object) → is_some x ≡ is_vcpu o → is_some y ≡ is_vcpu o → (is_vcpu o ≡ true → count_in x ≡ count_in y) → x ≡ y
same_guest None None o a b same = refl
same_guest None (Some n) o a b same = absurd (let both : false ≡ true = a ∙ sym b in cc)
same_guest (Some m) None o a b same = absurd (let both : true ≡ false = a ∙ sym b in cc)
same_guest (Some m) (Some n) o a b same = ap (λ (k : ℕ). Some k) (same (sym a))

same_guests : (xs ys : List (Option ℕ)) (os : List Object) → map is_some xs ≡ map is_vcpu os → map is_some ys ≡ map is_vcpu os →
    ((n : ℕ) → n < length os → is_guest_in (slice_get os n) ≡ true → count_in (entry (slice_get xs n)) ≡ count_in (entry (slice_get ys n))) → xs ≡ ys
same_guests [] [] [] a b each = refl
same_guests [] (y ∷ ys) [] a b each = absurd (cc)
same_guests (x ∷ xs) ys [] a b each = absurd (cc)
same_guests [] ys (o ∷ os) a b each = absurd (cc)
same_guests (x ∷ xs) [] (o ∷ os) a b each = absurd (cc)
same_guests (x ∷ xs) (y ∷ ys) (o ∷ os) a b each =
    let first : is_some x ≡ is_vcpu o = cc in
    let second : is_some y ≡ is_vcpu o = cc in
    let rest : map is_some xs ≡ map is_vcpu os = cc in
    let rests : map is_some ys ≡ map is_vcpu os = cc in
    ap₂ (λ (h : Option ℕ) (t : List (Option ℕ)). h ∷ t) (same_guest x y o first second (each 0 (omega arith)))
    (same_guests xs ys os rest rests (λ n less. each (suc n) (omega (arith, less))))

-- ALL PARTS

-- the state of all its parts
abbrev built : (delegations_list : List Derivation) → (delegations_next : ℕ) → (objects : List Object) → (contexts : Contexts) → (messages : List (Option (List ℕ))) → (transfers : List (Option Transfer)) → (budgets : List (Option Budget)) → (identifiers : List (Option ℕ)) → (semaphores : List (Option Semaphore)) → (memory_ram : List (List ℕ)) → (memory_log : List LogByte) → (next_stamp : ℕ) → (turns : ℕ) → (cpus : ℕ) → (consoles : ℕ) → (stirs_guests : List (Option ℕ)) → (stirs_processors : List ℕ) → (times_clocks : List ℕ) → (times_deadlines : List (Option Deadline)) → (times_alarms : List AlarmState) → KernelState
built delegations_list delegations_next objects contexts messages transfers budgets identifiers semaphores memory_ram memory_log next_stamp turns cpus consoles stirs_guests stirs_processors times_clocks times_deadlines times_alarms = record {
  delegations = record { list = delegations_list; next = delegations_next };
  objects = objects;
  contexts = contexts;
  messages = messages;
  transfers = transfers;
  budgets = budgets;
  identifiers = identifiers;
  semaphores = semaphores;
  memory = record { ram = memory_ram; log = memory_log };
  next_stamp = next_stamp;
  turns = turns;
  cpus = cpus;
  consoles = consoles;
  stirs = record { guests = stirs_guests; processors = stirs_processors };
  times = record { clocks = times_clocks; deadlines = times_deadlines; alarms = times_alarms };
}

pub all_parts : (a b : KernelState) → a.delegations.list ≡ b.delegations.list → a.delegations.next ≡ b.delegations.next → a.objects ≡ b.objects → a.contexts ≡ b.contexts → a.messages ≡ b.messages → a.transfers ≡ b.transfers → a.budgets ≡ b.budgets → a.identifiers ≡ b.identifiers → a.semaphores ≡ b.semaphores → a.memory.ram ≡ b.memory.ram → a.memory.log ≡ b.memory.log → a.next_stamp ≡ b.next_stamp → a.turns ≡ b.turns → a.cpus ≡ b.cpus → a.consoles ≡ b.consoles → a.stirs.guests ≡ b.stirs.guests → a.stirs.processors ≡ b.stirs.processors → a.times.clocks ≡ b.times.clocks → a.times.deadlines ≡ b.times.deadlines → a.times.alarms ≡ b.times.alarms → a ≡ b
all_parts a b s0 s1 s2 s3 s4 s5 s6 s7 s8 s9 s10 s11 s12 s13 s14 s15 s16 s17 s18 s19 =
    ap (λ (x : List Derivation). built x a.delegations.next a.objects a.contexts a.messages a.transfers a.budgets a.identifiers a.semaphores a.memory.ram a.memory.log a.next_stamp a.turns a.cpus a.consoles a.stirs.guests a.stirs.processors a.times.clocks a.times.deadlines a.times.alarms) s0
    ∙ ap (λ (x : ℕ). built b.delegations.list x a.objects a.contexts a.messages a.transfers a.budgets a.identifiers a.semaphores a.memory.ram a.memory.log a.next_stamp a.turns a.cpus a.consoles a.stirs.guests a.stirs.processors a.times.clocks a.times.deadlines a.times.alarms) s1
    ∙ ap (λ (x : List Object). built b.delegations.list b.delegations.next x a.contexts a.messages a.transfers a.budgets a.identifiers a.semaphores a.memory.ram a.memory.log a.next_stamp a.turns a.cpus a.consoles a.stirs.guests a.stirs.processors a.times.clocks a.times.deadlines a.times.alarms) s2
    ∙ ap (λ (x : Contexts). built b.delegations.list b.delegations.next b.objects x a.messages a.transfers a.budgets a.identifiers a.semaphores a.memory.ram a.memory.log a.next_stamp a.turns a.cpus a.consoles a.stirs.guests a.stirs.processors a.times.clocks a.times.deadlines a.times.alarms) s3
    ∙ ap (λ (x : List (Option (List ℕ))). built b.delegations.list b.delegations.next b.objects b.contexts x a.transfers a.budgets a.identifiers a.semaphores a.memory.ram a.memory.log a.next_stamp a.turns a.cpus a.consoles a.stirs.guests a.stirs.processors a.times.clocks a.times.deadlines a.times.alarms) s4
    ∙ ap (λ (x : List (Option Transfer)). built b.delegations.list b.delegations.next b.objects b.contexts b.messages x a.budgets a.identifiers a.semaphores a.memory.ram a.memory.log a.next_stamp a.turns a.cpus a.consoles a.stirs.guests a.stirs.processors a.times.clocks a.times.deadlines a.times.alarms) s5
    ∙ ap (λ (x : List (Option Budget)). built b.delegations.list b.delegations.next b.objects b.contexts b.messages b.transfers x a.identifiers a.semaphores a.memory.ram a.memory.log a.next_stamp a.turns a.cpus a.consoles a.stirs.guests a.stirs.processors a.times.clocks a.times.deadlines a.times.alarms) s6
    ∙ ap (λ (x : List (Option ℕ)). built b.delegations.list b.delegations.next b.objects b.contexts b.messages b.transfers b.budgets x a.semaphores a.memory.ram a.memory.log a.next_stamp a.turns a.cpus a.consoles a.stirs.guests a.stirs.processors a.times.clocks a.times.deadlines a.times.alarms) s7
    ∙ ap (λ (x : List (Option Semaphore)). built b.delegations.list b.delegations.next b.objects b.contexts b.messages b.transfers b.budgets b.identifiers x a.memory.ram a.memory.log a.next_stamp a.turns a.cpus a.consoles a.stirs.guests a.stirs.processors a.times.clocks a.times.deadlines a.times.alarms) s8
    ∙ ap (λ (x : List (List ℕ)). built b.delegations.list b.delegations.next b.objects b.contexts b.messages b.transfers b.budgets b.identifiers b.semaphores x a.memory.log a.next_stamp a.turns a.cpus a.consoles a.stirs.guests a.stirs.processors a.times.clocks a.times.deadlines a.times.alarms) s9
    ∙ ap (λ (x : List LogByte). built b.delegations.list b.delegations.next b.objects b.contexts b.messages b.transfers b.budgets b.identifiers b.semaphores b.memory.ram x a.next_stamp a.turns a.cpus a.consoles a.stirs.guests a.stirs.processors a.times.clocks a.times.deadlines a.times.alarms) s10
    ∙ ap (λ (x : ℕ). built b.delegations.list b.delegations.next b.objects b.contexts b.messages b.transfers b.budgets b.identifiers b.semaphores b.memory.ram b.memory.log x a.turns a.cpus a.consoles a.stirs.guests a.stirs.processors a.times.clocks a.times.deadlines a.times.alarms) s11
    ∙ ap (λ (x : ℕ). built b.delegations.list b.delegations.next b.objects b.contexts b.messages b.transfers b.budgets b.identifiers b.semaphores b.memory.ram b.memory.log b.next_stamp x a.cpus a.consoles a.stirs.guests a.stirs.processors a.times.clocks a.times.deadlines a.times.alarms) s12
    ∙ ap (λ (x : ℕ). built b.delegations.list b.delegations.next b.objects b.contexts b.messages b.transfers b.budgets b.identifiers b.semaphores b.memory.ram b.memory.log b.next_stamp b.turns x a.consoles a.stirs.guests a.stirs.processors a.times.clocks a.times.deadlines a.times.alarms) s13
    ∙ ap (λ (x : ℕ). built b.delegations.list b.delegations.next b.objects b.contexts b.messages b.transfers b.budgets b.identifiers b.semaphores b.memory.ram b.memory.log b.next_stamp b.turns b.cpus x a.stirs.guests a.stirs.processors a.times.clocks a.times.deadlines a.times.alarms) s14
    ∙ ap (λ (x : List (Option ℕ)). built b.delegations.list b.delegations.next b.objects b.contexts b.messages b.transfers b.budgets b.identifiers b.semaphores b.memory.ram b.memory.log b.next_stamp b.turns b.cpus b.consoles x a.stirs.processors a.times.clocks a.times.deadlines a.times.alarms) s15
    ∙ ap (λ (x : List ℕ). built b.delegations.list b.delegations.next b.objects b.contexts b.messages b.transfers b.budgets b.identifiers b.semaphores b.memory.ram b.memory.log b.next_stamp b.turns b.cpus b.consoles b.stirs.guests x a.times.clocks a.times.deadlines a.times.alarms) s16
    ∙ ap (λ (x : List ℕ). built b.delegations.list b.delegations.next b.objects b.contexts b.messages b.transfers b.budgets b.identifiers b.semaphores b.memory.ram b.memory.log b.next_stamp b.turns b.cpus b.consoles b.stirs.guests b.stirs.processors x a.times.deadlines a.times.alarms) s17
    ∙ ap (λ (x : List (Option Deadline)). built b.delegations.list b.delegations.next b.objects b.contexts b.messages b.transfers b.budgets b.identifiers b.semaphores b.memory.ram b.memory.log b.next_stamp b.turns b.cpus b.consoles b.stirs.guests b.stirs.processors b.times.clocks x a.times.alarms) s18
    ∙ ap (λ (x : List AlarmState). built b.delegations.list b.delegations.next b.objects b.contexts b.messages b.transfers b.budgets b.identifiers b.semaphores b.memory.ram b.memory.log b.next_stamp b.turns b.cpus b.consoles b.stirs.guests b.stirs.processors b.times.clocks b.times.deadlines x) s19

-- WHAT IS READ

-- tables of which all that is read is the same
pub record AreTablesSame (a b : KernelState) : Type 0 where
  pub contexts : a.contexts ≡ b.contexts
  pub messages : a.messages ≡ b.messages
  pub transfers : a.transfers ≡ b.transfers
  pub identifiers : a.identifiers ≡ b.identifiers
  pub semaphores : a.semaphores ≡ b.semaphores

pub tables_same : (a b : KernelState) → IsKept a → IsKept b → AreReadAlike a b → AreTablesSame a b
tables_same a b v w alike = record {
  contexts =
      let la = contexts_length a x in let lb = contexts_length b y in
      same_tables a.contexts b.contexts (la ∙ long ∙ sym lb) (λ n less. (each n (omega (arith, less, la))).context);
  messages =
      let la = table_length a.messages _ a.objects x.messages in let lb = table_length b.messages _ b.objects y.messages in
      same_tables a.messages b.messages (la ∙ long ∙ sym lb) (λ n less. (each n (omega (arith, less, la))).words);
  transfers =
      let la = table_length a.transfers _ a.objects x.transfers in let lb = table_length b.transfers _ b.objects y.transfers in
      same_tables a.transfers b.transfers (la ∙ long ∙ sym lb) (λ n less. (each n (omega (arith, less, la))).transfer);
  identifiers =
      let la = table_length a.identifiers _ a.objects x.identifiers in let lb = table_length b.identifiers _ b.objects y.identifiers in
      same_tables a.identifiers b.identifiers (la ∙ long ∙ sym lb) (λ n less. (each n (omega (arith, less, la))).identifier);
  semaphores =
      let la = table_length a.semaphores _ a.objects x.semaphores in let lb = table_length b.semaphores _ b.objects y.semaphores in
      same_tables a.semaphores b.semaphores (la ∙ long ∙ sym lb) (λ n less. (each n (omega (arith, less, la))).semaphore);
}
  where
    x : HasTables a
    x = v.tables

    y : HasTables b
    y = w.tables

    each : (n : ℕ) → n < length a.objects → IsSameAt a b n
    each = alike.each

    long : length a.objects ≡ length b.objects
    long = ap length alike.objects

-- AND WHAT IS COUNTED

pub same_state : (a b : KernelState) → IsKept a → IsKept b → a.stirs.processors ≡ a.times.clocks → b.stirs.processors ≡ b.times.clocks → AreReadAlike a b →
    AreCountedAlike a b → AreMomentsSame (length a.objects) a.times b.times → a ≡ b
same_state a b v w one other alike counted moments =
    all_parts a b alike.derivations (ap (λ (c : Counts). c.next_id) counted.counts) alike.objects t.contexts t.messages t.transfers budgets t.identifiers t.semaphores alike.ram alike.log
    (ap (λ (c : Counts). c.next_stamp) counted.counts) counted.turns alike.cpus alike.consoles guests (one ∙ clocks ∙ sym other) clocks deadlines moments.alarms
  where
    t : AreTablesSame a b
    t = tables_same a b v w alike

    clocks : a.times.clocks ≡ b.times.clocks
    clocks = ap (λ (c : Counts). c.clocks) counted.counts

    x : HasTables a
    x = v.tables

    y : HasTables b
    y = w.tables

    long : length a.objects ≡ length b.objects
    long = ap length alike.objects

    budgets : a.budgets ≡ b.budgets
    budgets =
        let la = table_length a.budgets _ a.objects x.budgets in
        same_budgets a.budgets b.budgets (ap (λ (c : Counts). c.stamps) counted.counts)
        (λ n less. (counted.each n (omega (arith, less, la))).ticks) (λ n less. (alike.each n (omega (arith, less, la))).left)

    guests : a.stirs.guests ≡ b.stirs.guests
    guests =
        same_guests a.stirs.guests b.stirs.guests a.objects x.guests (subst (λ (os : List Object). map is_some b.stirs.guests ≡ map is_vcpu os) (sym alike.objects) y.guests)
        (λ n less. (counted.each n less).stirs)

    deadlines : a.times.deadlines ≡ b.times.deadlines
    deadlines =
        let la = x.deadlines in
        same_tables a.times.deadlines b.times.deadlines (la ∙ long ∙ sym y.deadlines) (λ n less. moments.deadlines n (omega (arith, less, la)))
