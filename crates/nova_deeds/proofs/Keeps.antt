-- A deed keeps what turns are charged to, and gives at most one number of each kind: one row a variant.
use Rattle.std.proofs.Common.{◌≡◌, ℕ, ◌+◌, List, [], ◌∷◌, length, refl, ◌∙◌, arith}
use Rattle.std.specs.Prelude.{◌<◌, ◌≤◌, Bool, Option, Some, None, true, false, slice_set}
use Rattle.std.proofs.lemmas.List.{length-append, length-set}
use Rattle.rv_model.specs.Step.{Once, Raised, Went, Store}
use Rattle.nova_utcb.specs.Messages.{exited}
use Rattle.nova_range.specs.declared.mtd.Mtd.{Mtd}
use Rattle.nova_range.specs.declared.status.Status.TheVariants.{Success}
use Rattle.nova_model.specs.AddressSpaces.{AddressSpace, stored_among, words_at}
use Rattle.nova_model.specs.Creation.{budget_of, with_object, object_of}
use Rattle.nova_model.specs.Deeds.{address_space, after_item, answered, brought, memory_after, messages_after, parked, passed, followed, woken_in, told, transfer_after, with_context, with_transfer, gave, skipped, actor_after, performed, recalled, stepped, done, instruction}
use Rattle.nova_model.specs.Delegations.{Delegations, added, without}
use Rattle.nova_model.specs.Memory.{Memory}
use Rattle.nova_model.specs.Semaphores.{Semaphores, changed_by, downed, lowered, raised, semaphore_at, upped}
use Rattle.nova_model.specs.Semaphores as semaphores
use Rattle.nova_model.specs.State.{KernelState, Semaphore, context, message, transfer, transfer_at, with_message}
use Rattle.nova_model.specs.declared.context.EcState.{EcState}
use Rattle.nova_model.specs.declared.context.Mark.{Mark}
use Rattle.nova_model.specs.declared.context.Mark.TheVariants as mark
use Rattle.nova_model.specs.declared.deed.Deed.{Deed}
use Rattle.nova_model.specs.declared.context.State.TheVariants.{Calling, Replying}
use Rattle.nova_model.specs.declared.deed.Deed.TheVariants.{Rests, Steps, Makes, Recalls, Names, Opens, Gives, Skips, Finishes, Calls, Replies, Sends, Removes, Ups, Downs, Blocks}
use Rattle.nova_model.specs.declared.new_object.NewObject.{NewObject}
use Rattle.nova_model.specs.declared.new_object.NewObject.TheVariants as new
use Rattle.nova_model.specs.declared.transfer.ItemEnd.{ItemEnd}
use Rattle.nova_model.specs.declared.transfer.ItemWords.{ItemWords}
use Rattle.nova_model.specs.declared.transfer.Sequel.{Sequel}
use Rattle.nova_model.specs.declared.transfer.Sequel.TheVariants.{Item, Opened, Taken, Replied}
use Rattle.nova_model.specs.declared.transfer.Transfer.{Transfer}
use Rattle.nova_model.specs.declared.times.Deadline.{Deadline}
use Rattle.nova_model.specs.Times.{Times}
use Rattle.nova_deeds.proofs.Bounds.{there-set, there-more, length-more, given-later, given-more, given-set, none-given, gave-within, skipped-within, item-more, item-set, none-item, same-item, next-item, next-given, inputs-more, none-stirred, ticks-more, none-paid, stamp-made}
use Rattle.nova_deeds.specs.Acts.{DeedFits, IsSequel}
use Rattle.nova_deeds.specs.Counted.{KeepsCounts, IsAtItem, IsGivenWithin}

-- an execution context changes

pub KeepsCounts-self : (k : KernelState) → KeepsCounts k k
KeepsCounts-self k = record {
  contexts = λ ec h. h;
  budgets = λ sc h. h;
  ticks = λ sc turns h. h;
  transfers = λ ec turns h. given-later turns (transfer_at k ec) h;
  items = λ ec h. h;
  next_stamp = omega arith;
  turns = refl;
  cpus = refl;
  processors = refl;
  guests = λ g turns h. h;
  objects = omega arith;
  derivations = omega arith;
  tables = λ t. t;
}

pub with_context-keeps : (k new : KernelState) (ec : ℕ) (x : EcState) → KeepsCounts k new → KeepsCounts k (with_context new ec x)
with_context-keeps k new ec x h = record {
  contexts = λ n there. there-set new.contexts ec n x (h.contexts n there);
  budgets = h.budgets;
  ticks = h.ticks;
  transfers = h.transfers;
  items = h.items;
  next_stamp = h.next_stamp;
  turns = h.turns;
  cpus = h.cpus;
  processors = h.processors;
  guests = h.guests;
  objects = h.objects;
  derivations = h.derivations;
  tables = λ t. let u = h.tables t in record {
    contexts = length-set new.contexts ec (Some x) ∙ u.contexts;
    messages = u.messages;
    transfers = u.transfers;
    budgets = u.budgets;
    identifiers = u.identifiers;
    semaphores = u.semaphores;
    guests = u.guests;
    deadlines = u.deadlines;
  };
}

-- other memory, and tables as long as before, of which no entry is looked at

tables-keep : (k new : KernelState) (memory : Memory) (messages : List (Option (List ℕ))) (identifiers : List (Option ℕ)) (all : Semaphores) → KeepsCounts k new →
    length messages ≡ length new.messages → length identifiers ≡ length new.identifiers → length all ≡ length new.semaphores →
    KeepsCounts k (record new { memory = memory; messages = messages; identifiers = identifiers; semaphores = all })
tables-keep k new memory messages identifiers all h m i s = record {
  contexts = h.contexts;
  budgets = h.budgets;
  ticks = h.ticks;
  transfers = h.transfers;
  items = h.items;
  next_stamp = h.next_stamp;
  turns = h.turns;
  cpus = h.cpus;
  processors = h.processors;
  guests = h.guests;
  objects = h.objects;
  derivations = h.derivations;
  tables = λ t. let u = h.tables t in record {
    contexts = u.contexts;
    messages = m ∙ u.messages;
    transfers = u.transfers;
    budgets = u.budgets;
    identifiers = i ∙ u.identifiers;
    semaphores = s ∙ u.semaphores;
    guests = u.guests;
    deadlines = u.deadlines;
  };
}

with_message-keeps : (k new : KernelState) (ec : ℕ) (m : List ℕ) → KeepsCounts k new → KeepsCounts k (with_message new ec m)
with_message-keeps k new ec m h = tables-keep k new new.memory (slice_set new.messages ec (Some m)) new.identifiers new.semaphores h (length-set new.messages ec (Some m)) refl refl

pub semaphores-keeps : (k new : KernelState) (all : Semaphores) → KeepsCounts k new → length all ≡ length new.semaphores → KeepsCounts k (record new { semaphores = all })
semaphores-keeps k new all h long = tables-keep k new new.memory new.messages new.identifiers all h refl refl long

-- deadlines, and what else stands in times, are not looked at here

pub times-keep : (k new : KernelState) (times : Times) → KeepsCounts k new → length times.deadlines ≡ length new.times.deadlines → KeepsCounts k (record new { times = times })
times-keep k new times h long = record {
  contexts = h.contexts;
  budgets = h.budgets;
  ticks = h.ticks;
  transfers = h.transfers;
  items = h.items;
  next_stamp = h.next_stamp;
  turns = h.turns;
  cpus = h.cpus;
  processors = h.processors;
  guests = h.guests;
  objects = h.objects;
  derivations = h.derivations;
  tables = λ t. let u = h.tables t in record {
    contexts = u.contexts;
    messages = u.messages;
    transfers = u.transfers;
    budgets = u.budgets;
    identifiers = u.identifiers;
    semaphores = u.semaphores;
    guests = u.guests;
    deadlines = long ∙ u.deadlines;
  };
}

pub deadlines-keep : (k new : KernelState) (deadlines : List (Option Deadline)) → KeepsCounts k new → length deadlines ≡ length new.times.deadlines →
    KeepsCounts k (record new { times = record new.times { deadlines = deadlines } })
deadlines-keep k new deadlines h long = times-keep k new (record new.times { deadlines = deadlines }) h long

-- at most one derivation more

delegations-keep : (k : KernelState) (f : Delegations) → f.next ≤ k.delegations.next + 1 → KeepsCounts k (record k { delegations = f })
delegations-keep k f few = let kept = KeepsCounts-self k in record {
  contexts = kept.contexts;
  budgets = kept.budgets;
  ticks = kept.ticks;
  transfers = kept.transfers;
  items = kept.items;
  next_stamp = kept.next_stamp;
  turns = refl;
  cpus = refl;
  processors = refl;
  guests = kept.guests;
  objects = kept.objects;
  derivations = few;
  tables = λ t. record { contexts = t.contexts; messages = t.messages; transfers = t.transfers; budgets = t.budgets; identifiers = t.identifiers; semaphores = t.semaphores; guests = t.guests; deadlines = t.deadlines };
}

-- the rows

changed-keeps : (k : KernelState) (ec : ℕ) (x : EcState) → KeepsCounts k (with_context k ec x)
changed-keeps k ec x = with_context-keeps k k ec x (KeepsCounts-self k)

stored-length : (messages : List (Option (List ℕ))) (ec : ℕ) (s : Store) (o : Option (List ℕ)) → length (stored_among messages ec s o) ≡ length messages
stored-length messages ec s None = refl
stored-length messages ec s (Some m) = length-set messages ec _

messages-length : (a : AddressSpace) (ec : ℕ) (o : Option Store) (messages : List (Option (List ℕ))) → length (messages_after a ec o messages) ≡ length messages
messages-length a ec None messages = refl
messages-length a ec (Some s) messages = stored-length messages ec s (words_at a s.address)

stepped-keeps : (k : KernelState) (ec : ℕ) (o : Once) → KeepsCounts k (stepped k ec o)
stepped-keeps k ec (Raised reason q0 q1) = KeepsCounts-self k
stepped-keeps k ec (Went regs store) =
    tables-keep k (with_context k ec (record (context k ec) { regs = regs })) (memory_after (address_space k ec) store k.memory)
    (messages_after (address_space k ec) ec store k.messages) k.identifiers k.semaphores (changed-keeps k ec _)
    (messages-length (address_space k ec) ec store k.messages) refl refl

made-keeps : (k : KernelState) (ec : ℕ) (x : EcState) (pd selector : ℕ) (new : NewObject) → KeepsCounts k (with_object (with_context k ec x) pd selector new)
made-keeps k ec x pd selector new = record {
  contexts = λ n there. there-more (slice_set k.contexts ec (Some x)) n _ (there-set k.contexts ec n x there);
  budgets = λ sc h. there-more k.budgets sc _ h;
  ticks = λ sc turns h. ticks-more turns sc k.budgets (budget_of k.next_stamp new) (none-paid turns k.next_stamp new) h;
  transfers = λ n turns h. given-more turns n k.transfers _ (none-given turns (object_of new)) h;
  items = λ n h. item-more n k.transfers _ (none-item (object_of new)) h;
  next_stamp = stamp-made k.next_stamp new;
  turns = refl;
  cpus = refl;
  processors = refl;
  guests = λ g turns h. inputs-more turns g k.stirs.guests _ (none-stirred turns (object_of new)) h;
  objects = omega (arith, length-append k.objects (object_of new ∷ []));
  derivations = omega arith;
  tables = λ t. record {
    contexts = length-more (slice_set k.contexts ec (Some x)) k.objects _ _ (length-set k.contexts ec (Some x) ∙ t.contexts);
    messages = length-more k.messages k.objects _ _ t.messages;
    transfers = length-more k.transfers k.objects _ _ t.transfers;
    budgets = length-more k.budgets k.objects _ _ t.budgets;
    identifiers = length-more k.identifiers k.objects _ _ t.identifiers;
    semaphores = length-more k.semaphores k.objects _ _ t.semaphores;
    guests = length-more k.stirs.guests k.objects _ _ t.guests;
    deadlines = length-more k.times.deadlines k.objects _ _ t.deadlines;
  };
}

recalled-keeps : (k : KernelState) (ec other : ℕ) (x : EcState) (o : Option EcState) → KeepsCounts k (recalled (with_context k ec x) other o)
recalled-keeps k ec other x None = changed-keeps k ec x
recalled-keeps k ec other x (Some y) = with_context-keeps k (with_context k ec x) other (record y { recall = true }) (changed-keeps k ec x)

named-keeps : (k : KernelState) (ec pt identifier : ℕ) (x : EcState) →
    KeepsCounts k (record (with_context k ec x) { identifiers = slice_set k.identifiers pt (Some identifier) })
named-keeps k ec pt identifier x =
    tables-keep k (with_context k ec x) k.memory k.messages (slice_set k.identifiers pt (Some identifier)) k.semaphores (changed-keeps k ec x)
    refl (length-set k.identifiers pt (Some identifier)) refl

-- a part of an item: at most one derivation more, and the transfer of the giver changes

part-keeps : (k new : KernelState) (ec : ℕ) (t : Transfer) → KeepsCounts k new → new.transfers ≡ k.transfers →
    ((turns : ℕ) → IsGivenWithin turns (transfer_at k ec) → IsGivenWithin (turns + 1) (Some t)) → (IsAtItem (transfer_at k ec) → t.item < 62) →
    KeepsCounts k (with_transfer new ec t)
part-keeps k new ec t kept same within item = record {
  contexts = kept.contexts;
  budgets = kept.budgets;
  ticks = kept.ticks;
  transfers = λ n turns h. rw same (given-set turns k.transfers ec n t (within turns) h);
  items = λ n h. rw same (item-set k.transfers ec n t item h);
  next_stamp = kept.next_stamp;
  turns = kept.turns;
  cpus = kept.cpus;
  processors = kept.processors;
  guests = kept.guests;
  objects = kept.objects;
  derivations = kept.derivations;
  tables = λ o. let u = kept.tables o in record {
    contexts = u.contexts;
    messages = u.messages;
    transfers = length-set new.transfers ec (Some t) ∙ u.transfers;
    budgets = u.budgets;
    identifiers = u.identifiers;
    semaphores = u.semaphores;
    guests = u.guests;
    deadlines = u.deadlines;
  };
}

-- message words, and the states of others

told-keeps : (k new : KernelState) (item : ℕ) (words : Option ItemWords) → KeepsCounts k new → KeepsCounts k (told new item words)
told-keeps k new item None kept = kept
told-keeps k new item (Some w) kept = with_message-keeps k new w.ec _ kept

followed-keeps : (k new : KernelState) (ec : ℕ) (after : Sequel) → KeepsCounts k new → KeepsCounts k (followed new ec after)
followed-keeps k new ec Item kept = kept
followed-keeps k new ec Opened kept = kept
followed-keeps k new ec Taken kept = kept
followed-keeps k new ec (Replied caller m) kept = with_context-keeps k new caller _ kept

brought-keeps : (k new : KernelState) (ec caller : ℕ) (m : Mark) → KeepsCounts k new → KeepsCounts k (brought new ec caller m)
brought-keeps k new ec caller mark.Call kept = with_message-keeps k new caller _ kept
brought-keeps k new ec caller mark.Exit kept = kept

replied-keeps : (k : KernelState) (ec caller : ℕ) (m : Mark) (items : Bool) → KeepsCounts k (performed k ec (Replies caller m items))
replied-keeps k ec caller m true = brought-keeps k (with_context k ec (record (context k ec) { state = Replying })) ec caller m (changed-keeps k ec _)
replied-keeps k ec caller m false =
    with_context-keeps k (brought (with_context k ec (parked (context k ec))) ec caller m) caller _
    (brought-keeps k (with_context k ec (parked (context k ec))) ec caller m (changed-keeps k ec _))

called-keeps : (k : KernelState) (ec handler ip identifier : ℕ) (items : Bool) → KeepsCounts k (performed k ec (Calls handler ip identifier items))
called-keeps k ec handler ip identifier items =
    let mid = with_context k ec (record (context k ec) { state = Calling handler }) in
    with_context-keeps k (passed mid ec handler) handler _ (with_message-keeps k mid handler _ (changed-keeps k ec _))

sent-keeps : (k : KernelState) (ec handler ip identifier : ℕ) (mtd : Mtd) (reason q0 q1 : ℕ) →
    KeepsCounts k (performed k ec (Sends handler ip identifier mtd reason q0 q1))
sent-keeps k ec handler ip identifier mtd reason q0 q1 =
    let mid = with_context k ec (record (context k ec) { state = Calling handler }) in
    with_context-keeps k (with_message mid handler (exited mtd q0 q1 (context mid ec).regs (message mid handler))) handler _
    (with_message-keeps k mid handler _ (changed-keeps k ec _))

-- semaphores of one change

pub semaphores-length : (change : Semaphore → Semaphore) (all : Semaphores) (sm : ℕ) → length (semaphores.changed change all sm) ≡ length all
semaphores-length change all sm = by_entry (semaphore_at all sm)
  where
    by_entry : (o : Option Semaphore) → length (changed_by change all sm o) ≡ length all
    by_entry None = refl
    by_entry (Some x) = length-set all sm (Some (change x))

pub woken-keeps : (k new : KernelState) (whom : Option ℕ) → KeepsCounts k new → KeepsCounts k (woken_in new whom)
woken-keeps k new None kept = kept
woken-keeps k new (Some w) kept = deadlines-keep k (with_context new w _) (slice_set new.times.deadlines w None) (with_context-keeps k new w _ kept) (length-set new.times.deadlines w None)

downed-keeps : (k : KernelState) (ec sm : ℕ) (x : EcState) → KeepsCounts k (record (with_context k ec x) { semaphores = downed k.semaphores sm ec })
downed-keeps k ec sm x =
    semaphores-keeps k (with_context k ec x) (downed k.semaphores sm ec) (changed-keeps k ec x) (semaphores-length (lowered ec) k.semaphores sm)

upped-keeps : (k : KernelState) (ec sm : ℕ) (whom : Option ℕ) → KeepsCounts k (performed k ec (Ups sm whom))
upped-keeps k ec sm whom =
    woken-keeps k (record (with_context k ec (answered (context k ec) Success None)) { semaphores = upped k.semaphores sm }) whom
    (semaphores-keeps k (with_context k ec (answered (context k ec) Success None)) (upped k.semaphores sm) (changed-keeps k ec _)
    (semaphores-length raised k.semaphores sm))

told-transfers : (k : KernelState) (item : ℕ) (words : Option ItemWords) → (told k item words).transfers ≡ k.transfers
told-transfers k item None = refl
told-transfers k item (Some w) = refl

followed-transfers : (k : KernelState) (ec : ℕ) (after : Sequel) → (followed k ec after).transfers ≡ k.transfers
followed-transfers k ec Item = refl
followed-transfers k ec Opened = refl
followed-transfers k ec Taken = refl
followed-transfers k ec (Replied caller m) = refl

finished-keeps : (k : KernelState) (ec item : ℕ) (end : ItemEnd) (words : Option ItemWords) (after : Sequel) → IsSequel k ec item after →
    KeepsCounts k (done k ec (Finishes item end words after))
finished-keeps k ec item end words after sequel =
    let mid = with_context k ec (after_item (context k ec) after) in
    part-keeps k (followed (told mid item words) ec after) ec (transfer_after item after)
    (followed-keeps k (told mid item words) ec after (told-keeps k mid item words (changed-keeps k ec _)))
    (followed-transfers (told mid item words) ec after ∙ told-transfers mid item words)
    (λ turns h. next-given turns item after) (λ h. next-item k ec item after sequel)

pub done-keeps : (k : KernelState) (ec : ℕ) (d : Deed) → DeedFits k ec d → KeepsCounts k (done k ec d)
done-keeps k ec Rests fits = KeepsCounts-self k
done-keeps k ec Steps fits = stepped-keeps k ec (instruction k ec)
done-keeps k ec (Makes call target new) fits = made-keeps k ec _ _ target new
done-keeps k ec (Recalls other) fits = recalled-keeps k ec other _ _
done-keeps k ec (Opens target number) fits = made-keeps k ec _ _ target new.Pd
done-keeps k ec (Gives child cursor) fits =
    part-keeps k (record k { delegations = added k.delegations child }) ec (gave (transfer k ec) cursor) (delegations-keep k (added k.delegations child) (omega arith)) refl
    (λ turns h. gave-within turns cursor (transfer_at k ec) h) (λ h. same-item (transfer_at k ec) h)
done-keeps k ec (Skips reason place cursor) fits =
    part-keeps k k ec (skipped (transfer k ec) cursor) (KeepsCounts-self k) refl (λ turns h. skipped-within turns cursor (transfer_at k ec) h)
    (λ h. same-item (transfer_at k ec) h)
done-keeps k ec (Removes leaf) fits = delegations-keep k (without k.delegations leaf.id) (omega arith)
done-keeps k ec (Finishes item end words after) fits = finished-keeps k ec item end words after fits.1.1
done-keeps k ec (Names pt identifier) fits = named-keeps k ec pt identifier _
done-keeps k ec (Calls handler ip identifier items) fits = called-keeps k ec handler ip identifier items
done-keeps k ec (Replies caller m items) fits = replied-keeps k ec caller m items
done-keeps k ec (Sends handler ip identifier mtd reason q0 q1) fits = sent-keeps k ec handler ip identifier mtd reason q0 q1
done-keeps k ec (Ups sm whom) fits = upped-keeps k ec sm whom
done-keeps k ec (Downs sm) fits = downed-keeps k ec sm _
done-keeps k ec (Blocks sm None) fits = downed-keeps k ec sm _
done-keeps k ec (Blocks sm (Some d)) fits =
    deadlines-keep k (record (with_context k ec _) { semaphores = downed k.semaphores sm ec }) (slice_set k.times.deadlines ec (Some d)) (downed-keeps k ec sm _) (length-set k.times.deadlines ec (Some d))
done-keeps k ec other fits = changed-keeps k ec (actor_after (context k ec) other)
