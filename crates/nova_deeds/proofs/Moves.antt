-- After a deed the queues are right but for the marks of the processor on which a context moved: one row a variant.
use Rattle.std.proofs.Common.{◌≡◌, ℕ, ◌<◌, length, refl, ap, sym, ◌∙◌, subst, arith, IsSome}
use Rattle.std.specs.Prelude.{Bool, true, false, List, Option, Some, None, Ok, if◌then◌else◌, option_and_then, slice_get}
use Rattle.std.proofs.lemmas.List.{length-set}
use Rattle.rv_model.specs.Step.{Once, Raised, Went}
use Rattle.nova_range.specs.declared.status.Status.TheVariants.{Success}
use Rattle.nova_model.specs.Creation.{context_of, with_object}
use Rattle.nova_model.specs.Deeds.{answered, actor_after, done, instruction, parked, performed, recalled, resumed, serving, stepped, told, with_context}
use Rattle.nova_model.specs.Edges.{AreCallers, AreEdges, acts, caller_in, cpu_in, edge_of}
use Rattle.nova_model.specs.Semaphores.{semaphore, woken}
use Rattle.nova_model.specs.State.{Contexts, KernelState, context, context_at, ec_in, ec_of, is_local_thread, message, pd_of, with_ec}
use Rattle.nova_model.specs.declared.context.EcState.{EcState}
use Rattle.nova_model.specs.declared.context.Mark.{Mark}
use Rattle.nova_model.specs.declared.context.Mark.TheVariants as mark
use Rattle.nova_model.specs.declared.context.State.TheVariants.{Calling, Replying}
use Rattle.nova_model.specs.declared.deed.Deed.{Deed}
use Rattle.nova_model.specs.declared.deed.Deed.TheVariants.{Rests, Steps, Dies, Waits, Sends, Makes, Recalls, Names, Opens, Gives, Skips, Removes, Finishes, Calls, Helps, Replies, Aborts, Ups, Downs, Blocks}
use Rattle.nova_model.specs.declared.new_object.NewObject.{NewObject}
use Rattle.nova_model.specs.declared.new_object.NewObject.TheVariants as new
use Rattle.nova_model.specs.declared.transfer.ItemEnd.{ItemEnd}
use Rattle.nova_model.specs.declared.transfer.ItemWords.{ItemWords}
use Rattle.nova_model.specs.declared.transfer.Sequel.{Sequel}
use Rattle.nova_model.specs.declared.transfer.Sequel.TheVariants.{Item, Opened, Taken, Replied}
use Rattle.nova_objects.specs.declared.object.EcKind.TheVariants.{Local, Global, Vcpu}
use Rattle.nova_objects.specs.declared.object.Object.{Object}
use Rattle.nova_objects.specs.declared.object.Object.TheVariants.{Pd, Ec, Sc, Pt, Sm}
use Rattle.nova_ec.specs.Changes.{KeepsSound, goes_on}
use Rattle.nova_ec.proofs.Acting.{deeds_keep_chases}
use Rattle.nova_ec.proofs.Changes.{deeds_keep}
use Rattle.nova_ec.proofs.Tables.{edges_set}
use Rattle.law_turns.proofs.Serving.{IsReached, exit_reaches, send_reaches}
use Rattle.law_turns.specs.Links.{AreServed}
use Rattle.law_turns.specs.Waiting.{AreBlocked}
use Rattle.nova_sched.specs.Queues.{Schedule}
use Rattle.nova_deeds.specs.Acts.{DeedFits, IsSequel}
use Rattle.nova_deeds.specs.Counted.{IsCounted}
use Rattle.nova_choice.specs.Schedules.{AreQueued, AreQueuedBut, HasHome, IsAtHome, is_moving, IsPlacedIn, joined, leads, processor_at, schedule_after, stale_by}
use Rattle.nova_choice.proofs.Joins.{queued_joined, leads_more}
use Rattle.nova_choice.proofs.Serving.{queued_apart, serving_leads}
use Rattle.nova_choice.proofs.Waits.{KeepsQueued, LeadsBut, acting, cpu_of, kept_moved, kept_steady, kept_twice, leads_any, leads_twice, moved, queued_kept, same_state, there_at}
use Rattle.nova_deeds.proofs.Answered.{completed_serving, parked_local, sent_serving}
use Rattle.nova_deeds.proofs.Served.{still_there, woken_there}

-- a new object's processor is there
at_home : (cpus ec cpu : ℕ) (cs : Contexts) (o : Option Object) → processor_at o ≡ Some cpu → IsAtHome cpus cs ec o → (cpu < cpus) × (cpu_in cs ec ≡ Some cpu)
at_home cpus ec cpu cs (Some (Ec pd its Global event)) is home =
    let same : its ≡ cpu = cc in subst (λ (n : ℕ). (n < cpus) × (cpu_in cs ec ≡ Some n)) same home
at_home cpus ec cpu cs (Some (Ec pd its Vcpu event)) is home =
    let same : its ≡ cpu = cc in subst (λ (n : ℕ). (n < cpus) × (cpu_in cs ec ≡ Some n)) same home
at_home cpus ec cpu cs (Some (Ec pd its Local event)) is home = absurd cc
at_home cpus ec cpu cs (Some Pd) is home = absurd cc
at_home cpus ec cpu cs (Some (Sc its home_cpu priority quantum)) is home = absurd cc
at_home cpus ec cpu cs (Some (Pt its mtd ip)) is home = absurd cc
at_home cpus ec cpu cs (Some Sm) is home = absurd cc
at_home cpus ec cpu cs None is home = absurd cc

pub home_from : (k : KernelState) (s : Schedule) (new : NewObject) → AreQueued k s → IsPlacedIn k new → HasHome s.cpus k.contexts new
home_from k s (new.Ec pd cpu kind sp event) queued placed = let few = queued.cpus in omega (arith, few, placed)
home_from k s (new.Sc ec cpu priority quantum) queued placed = at_home s.cpus ec cpu k.contexts (slice_get k.objects ec) placed (queued.homes ec)
home_from k s new.Pd queued placed = tt
home_from k s (new.Pt ec mtd ip) queued placed = tt
home_from k s (new.Sm count) queued placed = tt

home_along : (stale : Option ℕ) (cpus : ℕ) (cs ds : Contexts) (new : NewObject) → LeadsBut stale cs ds → HasHome cpus cs new → HasHome cpus ds new
home_along stale cpus cs ds (new.Ec pd cpu kind sp event) kept home = home
home_along stale cpus cs ds (new.Sc ec cpu priority quantum) kept home = (home.0, kept.homes ec cpu home.1)
home_along stale cpus cs ds new.Pd kept home = tt
home_along stale cpus cs ds (new.Pt ec mtd ip) kept home = tt
home_along stale cpus cs ds (new.Sm count) kept home = tt

-- a context that does a deed is there and acts, and what it finds is sound
pub record MayMove (k : KernelState) (ec : ℕ) : Type 0 where
  pub there : IsSome (context_at k ec)
  pub awake : acts k.contexts ec ≡ true
  pub edges : AreEdges k.contexts
  pub callers : AreCallers k.contexts
  pub served : AreServed (is_local_thread k) k.contexts
  pub blocked : AreBlocked k.contexts k.semaphores
  pub contexts : length k.contexts ≡ length k.objects
  pub budgets : length k.budgets ≡ length k.objects

pub may_move : (k : KernelState) (ec : ℕ) → IsCounted k → IsSome (context_at k ec) → acts k.contexts ec ≡ true → MayMove k ec
may_move k ec counted there awake = record {
  there = there;
  awake = awake;
  edges = counted.kept.edges;
  callers = λ e c m is. (counted.kept.served.linked c e).cpu m is;
  served = counted.kept.served;
  blocked = counted.kept.blocked;
  contexts = counted.tables.contexts;
  budgets = counted.tables.budgets;
}

-- the processor whose marks are old when a deed is done, in the state before it
abbrev pub stale_at : KernelState → ℕ → Deed → Option ℕ
stale_at k ec (Ups sm whom) = option_and_then (cpu_in k.contexts) whom
stale_at k ec d = if is_moving d then Some (context k ec).cpu else None

-- what is left of the queues: processors stay, and the marks of one alone may be old
pub record Leaves (stale : Option ℕ) (k new : KernelState) (after : Schedule) : Type 0 where
  pub homes : (e cpu : ℕ) → cpu_in k.contexts e ≡ Some cpu → cpu_in new.contexts e ≡ Some cpu
  pub queued : AreQueuedBut stale new after

leaves : (stale : Option ℕ) (k new : KernelState) (s : Schedule) → AreQueued k s → KeepsQueued stale k new → Leaves stale k new s
leaves stale k new s queued kept = record { homes = kept.contexts.homes; queued = queued_kept stale k new s queued kept }

placed_along : (k : KernelState) (ec : ℕ) (y : EcState) (new : NewObject) → IsPlacedIn k new → IsPlacedIn (with_context k ec y) new
placed_along k ec y (new.Ec pd cpu kind sp event) placed = placed
placed_along k ec y (new.Sc its cpu priority quantum) placed = placed
placed_along k ec y new.Pd placed = tt
placed_along k ec y (new.Pt its mtd ip) placed = tt
placed_along k ec y (new.Sm count) placed = tt

-- a context that acts before and after its deed moves no turns
going : (k : KernelState) (ec : ℕ) (d : Deed) → MayMove k ec → goes_on d ≡ true → (actor_after (context k ec) d).cpu ≡ (context k ec).cpu →
    KeepsQueued None k (with_context k ec (actor_after (context k ec) d))
going k ec d may goes cpu = record {
  contexts = acting k.contexts ec (actor_after (context k ec) d) may.there cpu (deeds_keep_chases k.contexts ec d may.awake goes);
  objects = refl;
  budgets = refl;
  next_stamp = refl;
  cpus = refl;
}

-- an object is made
made_leaves : (k : KernelState) (s : Schedule) (ec pd selector : ℕ) (y : EcState) (new : NewObject) → MayMove k ec → KeepsQueued None k (with_context k ec y) →
    y.cpu ≡ (context k ec).cpu → edge_of y.state ≡ None → IsPlacedIn k new → AreQueued k s →
    Leaves None k (with_object (with_context k ec y) pd selector new) (joined (with_ec k.contexts ec y) s (length k.objects) new)
made_leaves k s ec pd selector y new may kept cpu none placed queued =
    let after : AreEdges (with_ec k.contexts ec y) = edges_set k.contexts ec (context k ec) y None may.edges (there_at k.contexts ec may.there) cpu none tt in
    record {
      homes = λ e c at. (leads_more (with_ec k.contexts ec y) (context_of (length k.objects) new) after).homes e c (kept.contexts.homes e c at);
      queued = queued_joined None (with_context k ec y) s pd selector new after (length-set k.contexts ec (Some y) ∙ may.contexts) may.budgets
          (home_along None s.cpus k.contexts (with_ec k.contexts ec y) new kept.contexts (home_from k s new queued placed)) (placed_along k ec y new placed)
          (queued_kept None k (with_context k ec y) s queued kept);
    }

stepped_keeps : (k : KernelState) (ec : ℕ) (o : Once) → IsSome (context_at k ec) → KeepsQueued None k (stepped k ec o)
stepped_keeps k ec (Raised reason q0 q1) there = same_state k
stepped_keeps k ec (Went regs store) there = record {
  contexts = kept_steady k.contexts ec (context k ec) (record (context k ec) { regs = regs }) (there_at k.contexts ec there) refl refl;
  objects = refl;
  budgets = refl;
  next_stamp = refl;
  cpus = refl;
}

recalled_keeps : (stale : Option ℕ) (k mid : KernelState) (other : ℕ) (o : Option EcState) → KeepsQueued stale k mid → context_at mid other ≡ o →
    KeepsQueued stale k (recalled mid other o)
recalled_keeps stale k mid other None kept at = kept
recalled_keeps stale k mid other (Some y) kept at =
    let ds = with_ec mid.contexts other (record y { recall = true }) in
    record {
      contexts = leads_twice stale k.contexts mid.contexts ds kept.contexts
          (leads_any stale mid.contexts ds (kept_steady mid.contexts other y (record y { recall = true }) at refl refl));
      objects = kept.objects;
      budgets = kept.budgets;
      next_stamp = kept.next_stamp;
      cpus = kept.cpus;
    }

-- what the queues are not about changes
pub aside : (stale : Option ℕ) (k mid new : KernelState) → KeepsQueued stale k mid → new.contexts ≡ mid.contexts → new.objects ≡ mid.objects → new.budgets ≡ mid.budgets →
    new.next_stamp ≡ mid.next_stamp → new.cpus ≡ mid.cpus → KeepsQueued stale k new
aside stale k mid new kept contexts objects budgets stamp cpus = record {
  contexts = subst (λ (ds : Contexts). LeadsBut stale k.contexts ds) (sym contexts) kept.contexts;
  objects = objects ∙ kept.objects;
  budgets = budgets ∙ kept.budgets;
  next_stamp = stamp ∙ kept.next_stamp;
  cpus = cpus ∙ kept.cpus;
}

-- words that are told are among them
told_aside : (stale : Option ℕ) (k mid : KernelState) (item : ℕ) (words : Option ItemWords) → KeepsQueued stale k mid → KeepsQueued stale k (told mid item words)
told_aside stale k mid item None kept = kept
told_aside stale k mid item (Some w) kept = aside stale k mid _ kept refl refl refl refl refl

-- one changes, and then another of its processor
two_queued : (k : KernelState) (ec other : ℕ) (x : EcState) (f : EcState → EcState) → AreEdges k.contexts → IsSome (context_at k ec) → x.cpu ≡ (context k ec).cpu →
    ((z : EcState) → (f z).cpu ≡ z.cpu) → cpu_in k.contexts other ≡ cpu_in k.contexts ec →
    KeepsQueued (Some (context k ec).cpu) k (with_context (with_context k ec x) other (f (context (with_context k ec x) other)))
two_queued k ec other x f sound there cpu keeps near =
    record { contexts = kept_twice k.contexts ec other x f sound there cpu keeps near; objects = refl; budgets = refl; next_stamp = refl; cpus = refl }

-- a call or an exit is sent, and message words change
sent_leaves : (k new : KernelState) (s : Schedule) (ec handler ip identifier : ℕ) (m : Mark) (items : Bool) → MayMove k ec → IsReached k.contexts ec handler → AreQueued k s →
    let mid = with_context k ec (record (context k ec) { state = Calling handler }) in
    new.contexts ≡ with_ec mid.contexts handler (serving (context mid handler) ec m ip identifier items) →
    new.objects ≡ k.objects → new.budgets ≡ k.budgets → new.next_stamp ≡ k.next_stamp → new.cpus ≡ k.cpus → Leaves None k new s
sent_leaves k new s ec handler ip identifier m items may reached queued contexts objects budgets stamp cpus =
    let y : EcState = record (context k ec) { state = Calling handler } in
    let mid = with_context k ec y in
    let stale = Some (context k ec).cpu in
    let kept : KeepsQueued stale k new = aside stale k (with_context mid handler (serving (context mid handler) ec m ip identifier items)) new
    (two_queued k ec handler y (λ z. serving z ec m ip identifier items) may.edges may.there refl (λ z. refl) reached.may.one_processor)
    contexts objects budgets stamp cpus in
    let both = sent_serving (is_local_thread k) k.contexts ec handler ip identifier m items may.edges may.awake reached may.served in
    record {
      homes = kept.contexts.homes;
      queued = queued_apart stale k new s handler queued kept (parked_local (is_local_thread k) k.contexts ec handler reached may.served)
          (λ z apart. ap (λ (ds : Contexts). leads ds z) contexts ∙ serving_leads k.contexts _ ec handler z both apart);
    }

resumed_cpu : (x : EcState) (m : Mark) (words : List ℕ) → (resumed x m words).cpu ≡ x.cpu
resumed_cpu x mark.Call words = refl
resumed_cpu x mark.Exit words = refl

-- a reply completes, and message words change
completed_leaves : (k new : KernelState) (s : Schedule) (ec caller : ℕ) (m : Mark) (words : List ℕ) → MayMove k ec → caller_in k.contexts ec ≡ Some (caller, m) → AreQueued k s →
    let mid = with_context k ec (parked (context k ec)) in
    new.contexts ≡ with_ec mid.contexts caller (resumed (context mid caller) m words) →
    new.objects ≡ k.objects → new.budgets ≡ k.budgets → new.next_stamp ≡ k.next_stamp → new.cpus ≡ k.cpus → Leaves None k new s
completed_leaves k new s ec caller m words may is queued contexts objects budgets stamp cpus =
    let mid = with_context k ec (parked (context k ec)) in
    let stale = Some (context k ec).cpu in
    let kept : KeepsQueued stale k new = aside stale k (with_context mid caller (resumed (context mid caller) m words)) new
    (two_queued k ec caller (parked (context k ec)) (λ z. resumed z m words) may.edges may.there refl (λ z. resumed_cpu z m words) (may.callers ec caller m is))
    contexts objects budgets stamp cpus in
    let both = completed_serving (is_local_thread k) k.contexts ec caller m words may.edges may.callers may.awake is may.served in
    record {
      homes = kept.contexts.homes;
      queued = queued_apart stale k new s ec queued kept ((may.served.well ec).kept caller m is)
          (λ z apart. ap (λ (ds : Contexts). leads ds z) contexts ∙ sym (serving_leads _ k.contexts caller ec z both apart));
    }

replied_leaves : (k : KernelState) (s : Schedule) (ec caller : ℕ) (m : Mark) (items : Bool) → MayMove k ec → caller_in k.contexts ec ≡ Some (caller, m) → AreQueued k s →
    Leaves None k (performed k ec (Replies caller m items)) s
replied_leaves k s ec caller mark.Call true may is queued =
    leaves None k _ s queued (aside None k (with_context k ec (record (context k ec) { state = Replying })) _ (going k ec (Replies caller mark.Call true) may refl refl) refl refl refl refl refl)
replied_leaves k s ec caller mark.Exit true may is queued = leaves None k _ s queued (going k ec (Replies caller mark.Exit true) may refl refl)
replied_leaves k s ec caller mark.Call false may is queued = completed_leaves k _ s ec caller mark.Call (message k ec) may is queued refl refl refl refl refl
replied_leaves k s ec caller mark.Exit false may is queued = completed_leaves k _ s ec caller mark.Exit (message k ec) may is queued refl refl refl refl refl

-- the end of an item, with words that are told
finished_leaves : (k : KernelState) (s : Schedule) (ec item : ℕ) (end : ItemEnd) (words : Option ItemWords) (after : Sequel) → MayMove k ec → IsSequel k ec item after → AreQueued k s →
    Leaves None k (done k ec (Finishes item end words after)) s
finished_leaves k s ec item end words Item may sequel queued =
    leaves None k _ s queued (aside None k _ _ (told_aside None k _ item words (going k ec (Finishes item end words Item) may refl refl)) refl refl refl refl refl)
finished_leaves k s ec item end words Opened may sequel queued =
    leaves None k _ s queued (aside None k _ _ (told_aside None k _ item words (going k ec (Finishes item end words Opened) may refl refl)) refl refl refl refl refl)
finished_leaves k s ec item end words Taken may sequel queued =
    leaves None k _ s queued (aside None k _ _ (told_aside None k _ item words (going k ec (Finishes item end words Taken) may refl refl)) refl refl refl refl refl)
finished_leaves k s ec item end None (Replied caller m) may sequel queued = completed_leaves k _ s ec caller m _ may sequel queued refl refl refl refl refl
finished_leaves k s ec item end (Some w) (Replied caller m) may sequel queued = completed_leaves k _ s ec caller m _ may sequel queued refl refl refl refl refl

-- an up and a down leave the context that acts so: all turns stay, but for those of the context that an up wakes
pub answered_queued : (k : KernelState) (ec : ℕ) → MayMove k ec → KeepsQueued None k (with_context k ec (answered (context k ec) Success None))
answered_queued k ec may = going k ec (Downs 0) may refl refl

upped_queued : (k : KernelState) (ec sm : ℕ) (whom : Option ℕ) → MayMove k ec → woken (semaphore k.semaphores sm) ≡ Ok whom →
    KeepsQueued (stale_at k ec (Ups sm whom)) k (performed k ec (Ups sm whom))
upped_queued k ec sm None may is =
    aside None k (with_context k ec (answered (context k ec) Success None)) _ (answered_queued k ec may) refl refl refl refl refl
upped_queued k ec sm (Some w) may is =
    let mid = with_ec k.contexts ec (answered (context k ec) Success None) in
    let sound : KeepsSound k.contexts mid = deeds_keep k.contexts ec (Downs 0) may.there tt in
    let its : IsSome (ec_in mid w) = still_there k.contexts ec w (answered (context k ec) Success None) (woken_there k.contexts k.semaphores sm w may.blocked is) in
    let first = answered_queued k ec may in
    let home : Some (ec_of mid w).cpu ≡ cpu_in k.contexts w = sym (cpu_of mid w its) ∙ sound.cpus w in
    record {
      contexts = subst (λ (stale : Option ℕ). LeadsBut stale k.contexts (with_ec mid w (answered (ec_of mid w) Success None))) home
          (leads_twice (Some (ec_of mid w).cpu) k.contexts mid (with_ec mid w (answered (ec_of mid w) Success None))
          (leads_any (Some (ec_of mid w).cpu) k.contexts mid first.contexts)
          (kept_moved mid w (ec_of mid w) (answered (ec_of mid w) Success None) (sound.edges may.edges) (there_at mid w its) refl));
      objects = refl;
      budgets = refl;
      next_stamp = refl;
      cpus = refl;
    }

pub done_leaves : (k : KernelState) (s : Schedule) (ec : ℕ) (d : Deed) → MayMove k ec → DeedFits k ec d → AreQueued k s →
    Leaves (stale_at k ec d) k (done k ec d) (schedule_after k ec s d)
done_leaves k s ec Rests may fits queued = leaves None k k s queued (same_state k)
done_leaves k s ec Steps may fits queued = leaves None k _ s queued (stepped_keeps k ec (instruction k ec) may.there)
done_leaves k s ec (Makes call target new) may fits queued =
    made_leaves k s ec (pd_of k ec) target (actor_after (context k ec) (Makes call target new)) new may (going k ec (Makes call target new) may refl refl) refl refl fits.1 queued
done_leaves k s ec (Opens target domain) may fits queued =
    made_leaves k s ec (pd_of k ec) target (actor_after (context k ec) (Opens target domain)) new.Pd may (going k ec (Opens target domain) may refl refl) refl refl tt queued
done_leaves k s ec (Recalls other) may fits queued =
    leaves None k _ s queued (recalled_keeps None k (with_context k ec (actor_after (context k ec) (Recalls other))) other _ (going k ec (Recalls other) may refl refl) refl)
done_leaves k s ec (Names pt identifier) may fits queued =
    leaves None k _ s queued (aside None k (with_context k ec (actor_after (context k ec) (Names pt identifier))) _ (going k ec (Names pt identifier) may refl refl) refl refl refl refl refl)
done_leaves k s ec (Gives child cursor) may fits queued = leaves None k _ s queued (aside None k k _ (same_state k) refl refl refl refl refl)
done_leaves k s ec (Skips reason place cursor) may fits queued = leaves None k _ s queued (aside None k k _ (same_state k) refl refl refl refl refl)
done_leaves k s ec (Removes leaf) may fits queued = leaves None k _ s queued (aside None k k _ (same_state k) refl refl refl refl refl)
done_leaves k s ec (Finishes item end words after) may fits queued = finished_leaves k s ec item end words after may fits.1.1 queued
done_leaves k s ec (Calls handler ip identifier items) may fits queued =
    sent_leaves k _ s ec handler ip identifier mark.Call items may (send_reaches k.contexts ec handler false fits.0) queued refl refl refl refl refl
done_leaves k s ec (Sends handler ip identifier mtd reason q0 q1) may fits queued =
    sent_leaves k _ s ec handler ip identifier mark.Exit false may (exit_reaches k.contexts ec handler fits.0) queued refl refl refl refl refl
done_leaves k s ec (Replies caller m items) may fits queued = replied_leaves k s ec caller m items may fits.0 queued
done_leaves k s ec (Aborts handler mark.Call) may fits queued = leaves None k _ s queued (going k ec (Aborts handler mark.Call) may refl refl)
done_leaves k s ec (Aborts handler mark.Exit) may fits queued =
    leaves _ k _ s queued (moved k ec (actor_after (context k ec) (Aborts handler mark.Exit)) may.edges may.there refl)
done_leaves k s ec (Ups sm whom) may fits queued = leaves _ k _ s queued (upped_queued k ec sm whom may fits)
done_leaves k s ec (Downs sm) may fits queued =
    leaves None k _ s queued (aside None k (with_context k ec (answered (context k ec) Success None)) _ (answered_queued k ec may) refl refl refl refl refl)
done_leaves k s ec (Blocks sm until) may fits queued =
    leaves _ k _ s queued
    (aside (Some (context k ec).cpu) k (with_context k ec (actor_after (context k ec) (Blocks sm until))) _
    (moved k ec (actor_after (context k ec) (Blocks sm until)) may.edges may.there refl) refl refl refl refl refl)
done_leaves k s ec (Dies reason q0) may fits queued = leaves _ k _ s queued (moved k ec (actor_after (context k ec) (Dies reason q0)) may.edges may.there refl)
done_leaves k s ec (Waits handler reason q0 q1) may fits queued =
    leaves _ k _ s queued (moved k ec (actor_after (context k ec) (Waits handler reason q0 q1)) may.edges may.there refl)
done_leaves k s ec (Helps handler) may fits queued = leaves _ k _ s queued (moved k ec (actor_after (context k ec) (Helps handler)) may.edges may.there refl)
done_leaves k s ec other may fits queued = leaves None k _ s queued (going k ec other may refl refl)

-- whose marks are old is the same after the deed
stale_stays : (k : KernelState) (ds : Contexts) (ec : ℕ) (d : Deed) → MayMove k ec → DeedFits k ec d →
    ((e cpu : ℕ) → cpu_in k.contexts e ≡ Some cpu → cpu_in ds e ≡ Some cpu) → stale_by ds ec d ≡ stale_at k ec d
stale_stays k ds ec (Ups sm None) may fits homes = refl
stale_stays k ds ec (Ups sm (Some w)) may fits homes =
    let home = cpu_of k.contexts w (woken_there k.contexts k.semaphores sm w may.blocked fits) in homes w (ec_of k.contexts w).cpu home ∙ sym home
stale_stays k ds ec other may fits homes = by_test (is_moving other)
  where
    by_test : (t : Bool) → option_and_then (cpu_in ds) (if t then Some ec else None) ≡ (if t then Some (context k ec).cpu else None)
    by_test true = homes ec (context k ec).cpu (cpu_of k.contexts ec may.there)
    by_test false = refl

-- in other words: what is left to be marked when a deed is done
pub stale_after : (k new : KernelState) (s after : Schedule) (ec : ℕ) (d : Deed) (stale : Option ℕ) → MayMove k ec → DeedFits k ec d → AreQueued k s → new ≡ done k ec d →
    after ≡ schedule_after k ec s d → stale ≡ stale_by new.contexts ec d → AreQueuedBut stale new after
stale_after k new s after ec d stale may fits queued is marks home =
    let left = done_leaves k s ec d may fits queued in
    subst (λ (o : Option ℕ). AreQueuedBut o new after)
    (sym (home ∙ ap (λ (x : KernelState). stale_by x.contexts ec d) is ∙ stale_stays k (done k ec d).contexts ec d may fits left.homes))
    (subst (λ (x : KernelState). AreQueuedBut (stale_at k ec d) x after) (sym is)
    (subst (λ (x : Schedule). AreQueuedBut (stale_at k ec d) (done k ec d) x) (sym marks) left.queued))

-- nothing changed
pub queued_same : (k new : KernelState) (s after : Schedule) → AreQueued k s → new ≡ k → after ≡ s → AreQueued new after
queued_same k new s after queued same is =
    subst (λ (x : KernelState). AreQueued x after) (sym same) (subst (λ (x : Schedule). AreQueued k x) (sym is) queued)
