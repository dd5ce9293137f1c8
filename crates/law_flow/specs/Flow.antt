-- Noninterference of a side: which part of a state is the side's, two states in which that part is the same, whatever the rest is, and what keeps others out of it.
-- `S` says which protection domains are the side's, by number, and `P` which objects its part has; `T` says which domains are the others'. What they hold and reach, and when they are apart, is as in integrity.
use Rattle.std.specs.Prelude.{◌≡◌, ◌≤◌, ◌&&◌, ℕ, Contains, Bool, IsSome, nat_lt, true, false, List, [], ◌∷◌, ◌++◌, drop, length, map, slice_get, Option, Some, None, option_and_then, option_map, Result, Ok}
use Rattle.std.specs.List.{find}
use Rattle.nova_calls.specs.Hypercalls.{call_of}
use Rattle.nova_calls.specs.declared.call.Call.{Call}
use Rattle.nova_calls.specs.declared.call.Call.TheVariants.{CreatePd, CreateEc, CreateSc, CreatePt, CreateSm, Revoke, SmCtrl}
use Rattle.nova_calls.specs.declared.call.SmAction.TheVariants.{DownWithin}
use Rattle.nova_guest.specs.declared.page.Page.{Page}
use Rattle.nova_objects.specs.declared.object.Object.TheVariants.{Ec, Pt, Sc, Sm}
use Rattle.nova_objects.specs.declared.object.EcKind.{EcKind}
use Rattle.nova_objects.specs.ObjectTables.{is_domain}
use Rattle.nova_range.specs.Rights.{write_right}
use Rattle.nova_range.specs.declared.range.Kind.{Kind}
use Rattle.nova_range.specs.declared.range.Kind.TheVariants.{Obj}
use Rattle.nova_range.specs.declared.range.Range.{Range}
use Rattle.nova_range.specs.declared.rights.Rights.{Rights}
use Rattle.nova_range.specs.declared.status.Status.{Status}
use Rattle.nova_model.specs.Choice.{Candidate, in_front, next_to_act}
use Rattle.nova_model.specs.Deeds.{deed}
use Rattle.nova_model.specs.Delegations.{covers, is_child_of, range_of, reach}
use Rattle.nova_model.specs.Edges.{caller_in, edge, is_giving, state_in}
use Rattle.nova_model.specs.Lines.{line}
use Rattle.nova_model.specs.Runs.{after, run}
use Rattle.nova_model.specs.Semaphores.{waits}
use Rattle.nova_model.specs.Translations.{nearest}
use Rattle.nova_model.specs.State.{Contexts, KernelState, budget_at, context, deadline_of, pd_of, processor_of}
use Rattle.nova_model.specs.Times.{clock}
use Rattle.nova_model.specs.declared.budget.Budget.{Budget}
use Rattle.nova_model.specs.declared.context.EcState.{EcState}
use Rattle.nova_model.specs.declared.context.Mark.{Mark}
use Rattle.nova_model.specs.declared.context.State.{State}
use Rattle.nova_model.specs.declared.context.State.TheVariants.{Blocked, Revoking}
use Rattle.nova_model.specs.declared.delegation.Derivation.{Derivation}
use Rattle.nova_model.specs.declared.deed.Deed.{Deed}
use Rattle.nova_model.specs.declared.deed.Deed.TheVariants.{Gives, Removes}
use Rattle.nova_model.specs.declared.log.LogByte.{LogByte}
use Rattle.nova_model.specs.declared.times.AlarmState.{AlarmState}
use Rattle.law_turns.specs.Revoking.{is_revoking}
use Rattle.law_integrity.specs.Confined.{AreSetsApart, HoldsAny, IsOwned, Of, Reach}
use Rattle.law_integrity.specs.Rights.{GivesTo, IsAsking}

-- THE SIDE'S PART

-- What the side's domains hold, its portals lead to, its execution contexts wait for, serve and wait at, who waits at its semaphores, and the execution contexts of its domains are all of its part. So are handlers of other domains that serve it.
pub record IsSide (k : KernelState) (S P : ℕ → Type 0) : Type 0 where
  pub holds : (d : Derivation) → Contains k.delegations.list d → S d.pd → d.kind ≡ Obj → P d.target
  pub handlers : (n handler mtd ip : ℕ) → P n → slice_get k.objects n ≡ Some (Pt handler mtd ip) → P handler
  pub edges : (n handler : ℕ) → P n → edge k.contexts n ≡ Some handler → P handler
  pub callers : (n caller : ℕ) (mark : Mark) → P n → caller_in k.contexts n ≡ Some (caller, mark) → P caller
  pub queues : (sm n : ℕ) → P sm → waits k.semaphores sm n ≡ true → P n
  pub blocked : (n sm : ℕ) → P n → state_in k.contexts n ≡ Some (Blocked sm) → P sm
  pub members : (n pd cpu : ℕ) (kind : EcKind) (event : ℕ) → slice_get k.objects n ≡ Some (Ec pd cpu kind event) → S pd → P n

-- what a range gives its domain: at which places, with which rights, and to what. Neither its number nor its parent is in it, which tell of the turns of others.
pub record Held : Type 0 where
  pub range : Range
  pub rights : Rights
  pub target : ℕ

abbrev pub held_by : Derivation → Held
held_by d = record { range = range_of d; rights = d.rights; target = d.target }

-- what a domain holds at a place: a page or a selector
abbrev pub held_at : KernelState → Kind → ℕ → ℕ → Option Held
held_at k kind pd place = option_map held_by (find (covers kind pd place) k.delegations.list)

-- What of a domain's a range comes of: the nearest of its line that lies there, which a translation tells. What of others lies between is not in it.
abbrev pub origin_of : List Derivation → ℕ → Option Derivation → Option Held
origin_of list from o = option_map held_by (option_and_then (λ d. nearest list d from) o)

abbrev pub origin_at : KernelState → Kind → ℕ → ℕ → ℕ → Option Held
origin_at k kind pd place from = origin_of k.delegations.list from (find (covers kind pd place) k.delegations.list)

-- how many turns a scheduling context has paid for
abbrev pub ticks_at : KernelState → ℕ → Option ℕ
ticks_at k sc = option_map (λ (b : Budget). b.ticks) (budget_at k sc)

-- what all who may call an execution context meet of it: its processor, its state, and whom it serves; not its registers
pub record Front : Type 0 where
  pub cpu : ℕ
  pub state : State
  pub caller : Option (ℕ × Mark)

abbrev pub front_of : EcState → Front
front_of x = record { cpu = x.cpu; state = x.state; caller = x.caller }

abbrev pub fronts : Contexts → List (Option Front)
fronts contexts = map (option_map front_of) contexts

-- In two states the side's part is the same: its objects, under the same numbers, with identifiers of portals, semaphores with their queues, ticks and deadlines; of the execution contexts of its
-- domains registers, states, callers and recalls, message words and places in items, and of those of other domains, which serve it, the fronts alone; what its domains hold at each place, and of what of theirs it comes; and the bytes
-- of each frame to which a page of one of them leads. Of the rest only the number of RAM frames is.
pub record AreAlike (k l : KernelState) (S P : ℕ → Type 0) : Type 0 where
  pub objects : (n : ℕ) → P n → slice_get l.objects n ≡ slice_get k.objects n
  pub fronts : (n : ℕ) → P n → slice_get (fronts l.contexts) n ≡ slice_get (fronts k.contexts) n
  pub contexts : (n : ℕ) → P n → S (pd_of k n) → slice_get l.contexts n ≡ slice_get k.contexts n
  pub messages : (n : ℕ) → P n → S (pd_of k n) → slice_get l.messages n ≡ slice_get k.messages n
  pub transfers : (n : ℕ) → P n → S (pd_of k n) → slice_get l.transfers n ≡ slice_get k.transfers n
  pub identifiers : (n : ℕ) → P n → slice_get l.identifiers n ≡ slice_get k.identifiers n
  pub semaphores : (n : ℕ) → P n → slice_get l.semaphores n ≡ slice_get k.semaphores n
  pub ticks : (n : ℕ) → P n → ticks_at l n ≡ ticks_at k n
  pub deadlines : (n : ℕ) → P n → slice_get l.times.deadlines n ≡ slice_get k.times.deadlines n
  pub spaces : (kind : Kind) (pd place : ℕ) → S pd → held_at l kind pd place ≡ held_at k kind pd place
  pub origins : (kind : Kind) (pd place from : ℕ) → S pd → S from → origin_at l kind pd place from ≡ origin_at k kind pd place from
  pub frames : (pd page : ℕ) (to : Page) → S pd → reach k.delegations.list pd page ≡ Some to → slice_get l.memory.ram to.frame ≡ slice_get k.memory.ram to.frame
  pub size : length l.memory.ram ≡ length k.memory.ram

-- A SIDE AT WORK

-- of a down with a deadline the first is asked, of a revoke the second, and of a call that makes an object the third
abbrev pub IsCallAtWork : Type 0 → Type 0 → Type 0 → Result Call Status → Type 0
IsCallAtWork timed revoking creating (Ok (CreatePd target pd first)) = creating
IsCallAtWork timed revoking creating (Ok (CreateEc target pd cpu kind sp event)) = creating
IsCallAtWork timed revoking creating (Ok (CreateSc target pd whose quantum priority)) = creating
IsCallAtWork timed revoking creating (Ok (CreatePt target pd handler mtd ip)) = creating
IsCallAtWork timed revoking creating (Ok (CreateSm target pd count)) = creating
IsCallAtWork timed revoking creating (Ok (Revoke range own)) = revoking
IsCallAtWork timed revoking creating (Ok (SmCtrl sm (DownWithin ticks))) = timed
IsCallAtWork timed revoking creating other = Unit {0}

-- If it makes a hypercall in its turn, this is such a one. Of one that gives items, or a first range, and of one that revokes, something else is asked, too.
pub record IsAtWork (timed giving revoking creating : Type 0) (k : KernelState) (ec : ℕ) : Type 0 where
  pub calls : IsAsking k ec → IsCallAtWork timed revoking creating (call_of (context k ec).regs)
  pub gives : is_giving (context k ec).state ≡ true → giving
  pub revokes : is_revoking (context k ec).state ≡ true → revoking

-- the clock of its processor is the same in both
abbrev pub HasSameClock : KernelState → KernelState → ℕ → Type 0
HasSameClock k l ec = clock l.times (processor_of k ec) ≡ clock k.times (processor_of k ec)

-- No execution context of the side's is amid a revoke; and, by the record, none of others is that revokes what something of the side's was derived from.
abbrev pub RevokesNothing : KernelState → (ℕ → Type 0) → Type 0
RevokesNothing k S = (n : ℕ) (range : Range) (own : Bool) → (context k n).state ≡ Revoking range own → S (pd_of k n) → ⊥

pub record IsUnrevoked (k : KernelState) (S : ℕ → Type 0) : Type 0 where
  pub own : RevokesNothing k S
  pub lines : (n : ℕ) (range : Range) (own : Bool) (d ancestor : Derivation) → (context k n).state ≡ Revoking range own → Contains k.delegations.list d → S d.pd →
      Contains (line k.delegations.list d) ancestor → ancestor.pd ≡ pd_of k n → ⊥

-- Items, and the first range of a protection domain, are given within the side, where no revoke is in the way: from one of its domains to one of them.
pub record IsGivingWithin (k : KernelState) (S : ℕ → Type 0) (ec : ℕ) : Type 0 where
  pub between : (giver receiver : ℕ) → GivesTo k ec giver receiver → S giver × S receiver
  pub unrevoked : IsUnrevoked k S

-- in both states
pub record AreGivingWithin (k l : KernelState) (S : ℕ → Type 0) (ec : ℕ) : Type 0 where
  pub first : IsGivingWithin k S ec
  pub second : IsGivingWithin l S ec

-- the same range of a domain of the side's in two states, under whatever numbers and of whatever parents
pub record IsSameRange (k l : KernelState) (S : ℕ → Type 0) (d e : Derivation) : Type 0 where
  pub of : S d.pd
  pub first : Contains k.delegations.list d
  pub second : Contains l.delegations.list e
  pub pd : e.pd ≡ d.pd
  pub held : held_by e ≡ held_by d

-- In two states the side's ranges are made of each other alike, and in the same order: a revoke takes away the newest child of the newest child and so on, first.
pub record AreDerivedAlike (k l : KernelState) (S : ℕ → Type 0) : Type 0 where
  pub children : (c d e f : Derivation) → IsSameRange k l S c e → IsSameRange k l S d f → is_child_of f.id e ≡ is_child_of d.id c
  pub order : (c d e f : Derivation) → IsSameRange k l S c e → IsSameRange k l S d f → nat_lt e.id f.id ≡ nat_lt c.id d.id

-- nothing that others hold is made of what a domain of the side's holds
abbrev pub DerivesWithin : KernelState → (ℕ → Type 0) → Type 0
DerivesWithin k S = (d ancestor : Derivation) → Contains k.delegations.list d → Contains (line k.delegations.list d) ancestor → S ancestor.pd → S d.pd

-- what is asked of two states where the side revokes
pub record AreRevokingWithin (k l : KernelState) (S : ℕ → Type 0) : Type 0 where
  pub alike : AreDerivedAlike k l S
  pub first : DerivesWithin k S
  pub second : DerivesWithin l S

-- WHERE IT CREATES

-- The side alone creates: all numbers that no object has yet are its, of objects and of domains, so that its part has them once they are made. Of the objects that are there its part has the
-- execution contexts of its domains, and what schedules those of its part.
pub record IsCreatingAlone (k : KernelState) (S P : ℕ → Type 0) : Type 0 where
  pub objects : (n : ℕ) → length k.objects ≤ n → P n
  pub domains : (n : ℕ) → length k.objects ≤ n → S n
  pub members : (n pd cpu : ℕ) (kind : EcKind) (event : ℕ) → slice_get k.objects n ≡ Some (Ec pd cpu kind event) → S pd → P n
  pub schedules : (n donor cpu priority quantum : ℕ) → slice_get k.objects n ≡ Some (Sc donor cpu priority quantum) → P donor → P n

-- so in both states, which have as many objects, so that what is made has one number, and as many processors
pub record AreCreatingAlone (k l : KernelState) (S P : ℕ → Type 0) : Type 0 where
  pub first : IsCreatingAlone k S P
  pub second : IsCreatingAlone l S P
  pub objects : length l.objects ≡ length k.objects
  pub cpus : l.cpus ≡ k.cpus

-- of these numbers those of protection domains that are there, and those of objects that are
abbrev pub domains : KernelState → (ℕ → Bool) → ℕ → Bool
domains k S n = S n && is_domain (slice_get k.objects n)

abbrev pub existing : KernelState → (ℕ → Bool) → ℕ → Bool
existing k P n = P n && nat_lt n (length k.objects)

-- ALONG TURNS

-- who acts in the turn of a processor, and the scheduling context that pays, where it is one of the side's
abbrev pub if_own : Bool → Candidate → Option (ℕ × ℕ)
if_own true c = Some (c.actor, c.sc)
if_own false c = None

abbrev pub own_turn : (ℕ → Bool) → KernelState → ℕ → Option (ℕ × ℕ)
own_turn S k cpu = option_and_then (λ c. if_own (S (pd_of k c.actor)) c) (next_to_act k cpu)

-- the side's turns among these, in order, by who acts and who pays
abbrev pub schedule : (ℕ → Bool) → KernelState → List ℕ → List (ℕ × ℕ)
schedule S k [] = []
schedule S k (cpu ∷ turns) = in_front (own_turn S k cpu) (schedule S (after k cpu) turns)

-- a deed but for the numbers of a range that is given or taken away and of its parent, which tell of the turns of others
abbrev pub unnumbered : Deed → Deed
unnumbered (Gives child cursor) = Gives (record child { id = 0; parent = None }) cursor
unnumbered (Removes leaf) = Removes (record leaf { id = 0; parent = None })
unnumbered other = other

-- what is done in them, and by whom, but for numbers of ranges
abbrev pub own_deed : (ℕ → Bool) → KernelState → ℕ → Option (ℕ × Deed)
own_deed S k cpu = option_map (λ (p : ℕ × ℕ). (p.0, unnumbered (deed k p.0))) (own_turn S k cpu)

abbrev pub own_deeds : (ℕ → Bool) → KernelState → List ℕ → List (ℕ × Deed)
own_deeds S k [] = []
own_deeds S k (cpu ∷ turns) = in_front (own_deed S k cpu) (own_deeds S (after k cpu) turns)

-- the bytes that they append to the log of the consoles, in order
abbrev pub gain_for : KernelState → ℕ → Option (ℕ × ℕ) → List LogByte
gain_for k cpu None = []
gain_for k cpu (Some p) = drop (length k.memory.log) (after k cpu).memory.log

abbrev pub own_bytes : (ℕ → Bool) → KernelState → List ℕ → List LogByte
own_bytes S k [] = []
own_bytes S k (cpu ∷ turns) = gain_for k cpu (own_turn S k cpu) ++ own_bytes S (after k cpu) turns

-- A turn of others leaves the side's part, and what is of the side is so still. So of each of these turns that is none of the side's, and where the side gives items, it does so within.
pub record IsLeftAlone (k : KernelState) (S P : ℕ → Type 0) (cpu : ℕ) : Type 0 where
  pub same : AreAlike k (after k cpu) S P
  pub side : IsSide (after k cpu) S P

abbrev pub GivesWithin : (ℕ → Bool) → KernelState → ℕ → Type 0
GivesWithin S k cpu = (ec sc : ℕ) → own_turn S k cpu ≡ Some (ec, sc) → is_giving (context k ec).state ≡ true → IsGivingWithin k (Of S) ec

-- where the side may revoke, nothing that others hold is made of what it holds
abbrev pub AreLeftAlone : Bool → (ℕ → Bool) → (ℕ → Bool) → KernelState → List ℕ → Type 0
AreLeftAlone revokes S P k [] = Unit {0}
AreLeftAlone revokes S P k (cpu ∷ turns) =
    (own_turn S k cpu ≡ None → IsLeftAlone k (Of S) (Of P) cpu) × GivesWithin S k cpu × (revokes ≡ true → DerivesWithin k (Of S)) × AreLeftAlone revokes S P (after k cpu) turns

-- what a side may do along turns beside what each at work does
pub record Allowed : Type 0 where
  pub revokes : Bool
  pub creates : Bool

-- one that makes no object
abbrev pub fixed : Bool → Allowed
fixed revokes = record { revokes = revokes; creates = false }

-- In each of the side's turns it is at work, with deadlines, and below without: it gives only while none of it is amid a revoke, and revokes and creates only where it is allowed.
abbrev pub AreAtWork : Allowed → (ℕ → Bool) → KernelState → List ℕ → Type 0
AreAtWork allowed S k [] = Unit {0}
AreAtWork allowed S k (cpu ∷ turns) =
    ((ec sc : ℕ) → own_turn S k cpu ≡ Some (ec, sc) → IsAtWork (Unit {0}) (RevokesNothing k (Of S)) (allowed.revokes ≡ true) (allowed.creates ≡ true) k ec) × AreAtWork allowed S (after k cpu) turns

abbrev pub AreAtWorkTimeless : Allowed → (ℕ → Bool) → KernelState → List ℕ → Type 0
AreAtWorkTimeless allowed S k [] = Unit {0}
AreAtWorkTimeless allowed S k (cpu ∷ turns) =
    ((ec sc : ℕ) → own_turn S k cpu ≡ Some (ec, sc) → IsAtWork ⊥ (RevokesNothing k (Of S)) (allowed.revokes ≡ true) (allowed.creates ≡ true) k ec) × AreAtWorkTimeless allowed S (after k cpu) turns

-- Two runs, of these turns from these states, come to the same part of the side's, by the same deeds and bytes of it.
pub record AreAlikeAlong (k l : KernelState) (turns others : List ℕ) (S P : ℕ → Bool) : Type 0 where
  pub part : AreAlike (run k turns) (run l others) (Of S) (Of P)
  pub deeds : own_deeds S l others ≡ own_deeds S k turns
  pub bytes : own_bytes S l others ≡ own_bytes S k turns

-- In these turns nobody else makes an object.
abbrev pub OthersMakeNothing : (ℕ → Bool) → KernelState → List ℕ → Type 0
OthersMakeNothing S k [] = Unit {0}
OthersMakeNothing S k (cpu ∷ turns) = (own_turn S k cpu ≡ None → length (after k cpu).objects ≡ length k.objects) × OthersMakeNothing S (after k cpu) turns

-- WHAT KEEPS OTHERS OUT

-- The side's objects are there, and are its own: domains and execution contexts of it, portals to its handlers, and scheduling contexts that are bound to its execution contexts; and the others hold none of
-- its semaphores. Nothing that its domains hold comes from the others', and they write to no frame to which a page of it leads.
pub record IsGuarded (k : KernelState) (S T P : ℕ → Type 0) : Type 0 where
  pub there : (n : ℕ) → P n → IsSome (slice_get k.objects n)
  pub owned : (n : ℕ) → P n → IsOwned k S n (slice_get k.objects n)
  pub semaphores : (n : ℕ) → P n → slice_get k.objects n ≡ Some Sm → HoldsAny k T n → ⊥
  pub lines : (d ancestor : Derivation) → Contains k.delegations.list d → S d.pd → Contains (line k.delegations.list d) ancestor → T ancestor.pd → ⊥
  pub memory : (pd page : ℕ) (to : Page) → S pd → reach k.delegations.list pd page ≡ Some to → Reach k T write_right to.frame → ⊥

-- no alarm rings at a semaphore of the side's, and none of it has a deadline
pub record IsTimeless (k : KernelState) (P : ℕ → Type 0) : Type 0 where
  pub alarms : (n : ℕ) (a : AlarmState) → slice_get k.times.alarms n ≡ Some a → P a.alarm.sm → ⊥
  pub deadlines : (n : ℕ) → P n → deadline_of k.times n ≡ None

-- The condition, of one state: the side and the others are two closed sets that share no object, and beside which all is idle; the side's part is its own, and guarded.
pub record IsPartitioned (k : KernelState) (S T P : ℕ → Type 0) : Type 0 where
  pub apart : AreSetsApart k S T
  pub side : IsSide k S P
  pub guarded : IsGuarded k S T P
