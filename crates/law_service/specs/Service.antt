-- A side that trusted servers serve: what enters its part in turns that are none of its own, and what each such entry makes of the part.
-- `S` says which protection domains are the side's, and `P` which objects its part has: among them the handlers that serve it, of which the part has the fronts alone.
use Rattle.std.specs.Prelude.{◌≡◌, ℕ, suc, ◌+◌, ◌-◌, ◌^◌, ◌==◌, ◌&&◌, ◌||◌, Bool, true, false, not, max, nat_le, nat_lt, List, [], ◌∷◌, drop, get_or, take, Option, Some, None, option_and_then, if◌then◌else◌, Contains, IsSome, slice_get}
use Rattle.std.specs.List.{list_all}
use Rattle.rv_model.specs.Step.{Store}
use Rattle.nova_range.specs.Mtds.{names}
use Rattle.nova_range.specs.declared.mtd.TheConstants.Mtd.{PC, LOW, HIGH}
use Rattle.nova_range.specs.declared.status.Status.TheVariants.{Success}
use Rattle.nova_utcb.specs.Messages.{copied, groups_in, ruled, with_item, word}
use Rattle.nova_guest.specs.declared.page.Page.{Page}
use Rattle.nova_objects.specs.declared.object.Object.{Object}
use Rattle.nova_objects.specs.declared.object.Object.TheVariants.{Pd, Pt}
use Rattle.nova_range.specs.declared.range.Kind.TheVariants.{Obj}
use Rattle.nova_model.specs.Choice.{Candidate, choose, in_front, next_to_act}
use Rattle.nova_model.specs.Delegations.{derived, is_memory, parent_of, reach}
use Rattle.nova_model.specs.Lines.{line, line_by}
use Rattle.nova_model.specs.Memory.{Memory}
use Rattle.nova_model.specs.Deeds.{deed}
use Rattle.nova_model.specs.Runs.{after}
use Rattle.nova_model.specs.Semaphores.{raised}
use Rattle.nova_model.specs.State.{KernelState, Semaphore, context, message, no_words, pd_of}
use Rattle.nova_model.specs.declared.context.Mark.{Mark}
use Rattle.nova_model.specs.declared.context.Mark.TheVariants as mark
use Rattle.nova_model.specs.declared.context.State.TheVariants.{Granting, Replying}
use Rattle.nova_model.specs.declared.delegation.Derivation.{Derivation}
use Rattle.nova_model.specs.declared.deed.Deed.{Deed}
use Rattle.nova_model.specs.declared.deed.Deed.TheVariants.{Finishes, Gives, Recalls, Replies, Skips, Steps, Ups}
use Rattle.nova_model.specs.declared.times.Deadline.{Deadline}
use Rattle.nova_model.specs.declared.transfer.ItemWords.{ItemWords}
use Rattle.nova_model.specs.declared.transfer.Sequel.TheVariants as sequel
use Rattle.law_forest.specs.Effects.{Answers, Becomes, Branch, Edits, Effect, Joins, Parks, Recalled, Resumes, applied, cleared_by, wakes_by}
use Rattle.law_forest.specs.Turns.{budgets_charged}
use Rattle.law_origins.specs.Giving.{Acts}
use Rattle.law_turns.specs.Revoking.{is_revoking}
use Rattle.law_integrity.specs.Confined.{Of}
use Rattle.law_integrity.specs.Rights.{ServesCaller, StoresTo}
use Rattle.law_flow.specs.Flow.{AreAlike, DerivesWithin, GivesWithin, Held, IsLeftAlone, IsSide, IsTimeless, held_by, own_turn}

-- WHAT ENTERS

-- A reply, to a call or to an exit, with the words that it gives on or has written back, and zeros for all others; the beginning of one with items, with the words that it gives a call on; a part of an item, by
-- which a domain comes to hold a range, with the bytes of the frames to which that leads; an item that ended, with what its caller is told, and who replied to whom where it was the last of a reply to a call; an up, with who is woken; or a recall.
pub data Gift : Type 0 where
  Answer : (handler caller : ℕ) → (words : List ℕ) → Gift
  Return : (handler caller : ℕ) → (words : List ℕ) → Gift
  Begin : (handler caller : ℕ) → (words : Option (List ℕ)) → Gift
  Part : (domain : ℕ) → (held : Held) → (bytes : List (List ℕ)) → Gift
  Item : (item : ℕ) → (told : ItemWords) → (replied : Option (ℕ × ℕ)) → Gift
  Up : (sm : ℕ) → (woken : Option ℕ) → Gift
  Recall : (whose : ℕ) → Gift

-- the words by which a reply to an exit writes registers back: word 4, which names groups, and those of the groups that it names
abbrev pub is_returned : List ℕ → ℕ → Bool
is_returned m i =
    (i == 4) || (((i == 7) && names (groups_in m) PC) || (((nat_le 9 i && nat_le i 23) && names (groups_in m) LOW) || ((nat_le 24 i && nat_le i 39) && names (groups_in m) HIGH)))

unfoldable pub returned : List ℕ → List ℕ
returned m = ruled (λ i stays. if is_returned m i then word m i else stays) no_words

-- the bytes of the frames to which a range leads, as far as they are RAM
abbrev pub bytes_of : List (List ℕ) → Held → List (List ℕ)
bytes_of ram held = if is_memory held.range.kind then take (2 ^ held.range.order) (drop held.target ram) else []

-- nothing of the side's is above it
abbrev pub is_foreign : (ℕ → Bool) → List Derivation → Derivation → Bool
is_foreign S list d = list_all (λ a. not (S a.pd)) (line_by d.id list (parent_of list d))

abbrev pub if_foreign : Bool → Gift → Option Gift
if_foreign foreign g = if foreign then Some g else None

-- it is of no domain of the side's
abbrev pub is_other : (ℕ → Bool) → KernelState → ℕ → Bool
is_other S k ec = not (S (pd_of k ec))

-- what it gives by a deed; by items nothing, where it is of the side's domains
abbrev pub gift_of : (ℕ → Bool) → KernelState → ℕ → Deed → Option Gift
gift_of S k ec (Replies caller mark.Call false) = Some (Answer ec caller (copied (message k ec) no_words))
gift_of S k ec (Replies caller mark.Exit false) = Some (Return ec caller (returned (message k ec)))
gift_of S k ec (Replies caller mark.Call true) = if_foreign (is_other S k ec) (Begin ec caller (Some (copied (message k ec) no_words)))
gift_of S k ec (Replies caller mark.Exit true) = if_foreign (is_other S k ec) (Begin ec caller None)
gift_of S k ec (Gives child cursor) = if_foreign (is_other S k ec && is_foreign S k.delegations.list child) (Part child.pd (held_by child) (bytes_of k.memory.ram (held_by child)))
gift_of S k ec (Finishes item end (Some told) sequel.Item) = if_foreign (is_other S k ec) (Item item told None)
gift_of S k ec (Finishes item end (Some told) (sequel.Replied caller mark.Call)) = if_foreign (is_other S k ec) (Item item told (Some (ec, caller)))
gift_of S k ec (Finishes item end None (sequel.Replied caller mark.Exit)) = if_foreign (is_other S k ec) (Return ec caller (returned (message k ec)))
gift_of S k ec (Ups sm woken) = Some (Up sm woken)
gift_of S k ec (Recalls whose) = Some (Recall whose)
gift_of S k ec other = None

-- it is given to the part: who gets the reply, is told of the item or is recalled, or the semaphore, is of it; or a domain of the side's comes to hold the range, and an object in it is of the part
abbrev pub concerns : (ℕ → Bool) → (ℕ → Bool) → Gift → Bool
concerns S P (Answer handler caller words) = P caller
concerns S P (Return handler caller words) = P caller
concerns S P (Begin handler caller words) = P caller
concerns S P (Part domain held bytes) = S domain && (is_memory held.range.kind || P held.target)
concerns S P (Item item told replied) = P told.ec
concerns S P (Up sm woken) = P sm
concerns S P (Recall whose) = P whose

-- An entry: the gift, if any, who acts, where the part has it, and which of the part's scheduling contexts pays, if one does.
pub record Entry : Type 0 where
  pub gift : Option Gift
  pub actor : Option ℕ
  pub payer : Option ℕ

abbrev pub if_of : (ℕ → Bool) → ℕ → Option ℕ
if_of P n = if P n then Some n else None

abbrev pub if_concerns : (ℕ → Bool) → (ℕ → Bool) → Gift → Option Gift
if_concerns S P g = if concerns S P g then Some g else None

-- nothing enters where nothing is given and no scheduling context of the part pays
abbrev pub if_enters : Entry → Option Gift → Option ℕ → Option Entry
if_enters e None None = None
if_enters e gift payer = Some e

abbrev pub entry_of : (ℕ → Bool) → (ℕ → Bool) → KernelState → Candidate → Entry
entry_of S P k c = record { gift = option_and_then (if_concerns S P) (gift_of S k c.actor (deed k c.actor)); actor = if_of P c.actor; payer = if_of P c.sc }

abbrev pub entry_by : (ℕ → Bool) → (ℕ → Bool) → KernelState → Candidate → Option Entry
entry_by S P k c = if_enters (entry_of S P k c) (entry_of S P k c).gift (entry_of S P k c).payer

-- what enters the part in a turn in which none of the side's domains acts
abbrev pub entry_in : (ℕ → Bool) → (ℕ → Bool) → KernelState → ℕ → Option Entry
entry_in S P k cpu = option_and_then (entry_by S P k) (next_to_act k cpu)

-- WHAT AN ENTRY MAKES OF THE PART

-- who gives it goes on with success
abbrev pub goes_on : Option ℕ → Edits → Edits
goes_on None es = es
goes_on (Some actor) es = (actor, Answers Success None) ∷ es

abbrev pub replied_edits : Option (ℕ × ℕ) → Edits
replied_edits None = []
replied_edits (Some (handler, caller)) = (handler, Parks) ∷ (caller, Resumes mark.Call no_words) ∷ []

-- the handler parks, and its caller goes on; or it begins with items; or who is woken goes on; or a recall is asked for
abbrev pub gift_edits : Option ℕ → Option Gift → Edits
gift_edits actor None = []
gift_edits actor (Some (Answer handler caller words)) = (handler, Parks) ∷ (caller, Resumes mark.Call words) ∷ []
gift_edits actor (Some (Return handler caller words)) = (handler, Parks) ∷ (caller, Resumes mark.Exit words) ∷ []
gift_edits actor (Some (Begin handler caller words)) = (handler, Becomes Replying) ∷ []
gift_edits actor (Some (Part domain held bytes)) = []
gift_edits actor (Some (Item item told replied)) = replied_edits replied
gift_edits actor (Some (Up sm woken)) = goes_on actor (wakes_by woken)
gift_edits actor (Some (Recall whose)) = goes_on actor ((whose, Recalled) ∷ [])

abbrev pub gift_words : KernelState → Option Gift → Option (ℕ × List ℕ)
gift_words k (Some (Answer handler caller words)) = Some (caller, copied words (message k caller))
gift_words k (Some (Begin handler caller (Some words))) = Some (caller, copied words (message k caller))
gift_words k (Some (Item item told replied)) = Some (told.ec, with_item (message k told.ec) item told.first told.second)
gift_words k other = None

abbrev pub gift_semaphore : Option Gift → Option (ℕ × (Semaphore → Semaphore))
gift_semaphore (Some (Up sm woken)) = Some (sm, raised)
gift_semaphore other = None

abbrev pub gift_deadline : Option Gift → Option (ℕ × Option Deadline)
gift_deadline (Some (Up sm woken)) = cleared_by woken
gift_deadline other = None

-- a number of which nothing in the list is made
abbrev pub past_parent : Option ℕ → ℕ
past_parent None = 0
past_parent (Some id) = suc id

abbrev pub past_parents : List Derivation → ℕ
past_parents [] = 0
past_parents (d ∷ list) = max (past_parent d.parent) (past_parents list)

-- the range joins as one that is made of nothing, since nothing of the side's is above it
abbrev pub gift_branch : List Derivation → Option Gift → Option Branch
gift_branch list (Some (Part domain held bytes)) = Some (Joins (derived (past_parents list) None domain held.range held.rights held.target))
gift_branch list other = None

-- and the frames to which it leads have its bytes
abbrev pub is_led : Held → ℕ → Bool
is_led held frame = is_memory held.range.kind && (nat_le held.target frame && nat_lt frame (held.target + 2 ^ held.range.order))

abbrev pub laid_from : Held → List (List ℕ) → ℕ → List (List ℕ) → List (List ℕ)
laid_from held bytes frame [] = []
laid_from held bytes frame (old ∷ ram) = (if is_led held frame then get_or bytes (frame - held.target) [] else old) ∷ laid_from held bytes (suc frame) ram

abbrev pub gift_memory : Memory → Option Gift → Memory
gift_memory m (Some (Part domain held bytes)) = record m { ram = laid_from held bytes 0 m.ram }
gift_memory m other = m

abbrev pub entry_effect : KernelState → Entry → Effect
entry_effect k e = record {
  made = None;
  branch = gift_branch k.delegations.list e.gift;
  edits = gift_edits e.actor e.gift;
  words = gift_words k e.gift;
  transfer = None;
  identifier = None;
  semaphore = gift_semaphore e.gift;
  store = None;
  deadline = gift_deadline e.gift;
  rings = None;
}

-- the state with the gift in it, and with the turn charged to who pays
abbrev pub entered : KernelState → Entry → KernelState
entered k e = record (applied k (entry_effect k e)) { budgets = budgets_charged k.objects k.budgets k.next_stamp e.payer; memory = gift_memory k.memory e.gift }

-- A turn comes to no more than the entry: the part after it is that of the state with the entry in it, and what is of the side is so still.
pub record IsEntered (k : KernelState) (S P : ℕ → Type 0) (cpu : ℕ) (e : Entry) : Type 0 where
  pub same : AreAlike (entered k e) (after k cpu) S P
  pub side : IsSide (after k cpu) S P

-- SERVERS AND STRANGERS

-- in its turn this execution context writes to no frame to which a page of the side leads
abbrev pub IsWalled : KernelState → (ℕ → Type 0) → ℕ → Type 0
IsWalled k S ec = (pd page : ℕ) (to : Page) (store : Store) → S pd → reach k.delegations.list pd page ≡ Some to → StoresTo k ec to.frame store → ⊥

-- it computes; or it goes on with the items of a reply, and gives and tells nothing: a part is skipped, or an item other than the last ended of which nobody is told
abbrev pub computes : Deed → Bool
computes Steps = true
computes (Skips reason place cursor) = true
computes (Finishes item end None sequel.Item) = true
computes other = false

-- An object, of this number, is strange to the part: it isn't of it, no portal to a handler of it, and no domain of the side's.
abbrev pub IsStrange : (ℕ → Type 0) → (ℕ → Type 0) → ℕ → Option Object → Type 0
IsStrange S P n (Some Pd) = (P n → ⊥) × (S n → ⊥)
IsStrange S P n (Some (Pt handler mtd ip)) = (P n → ⊥) × (P handler → ⊥)
IsStrange S P n other = P n → ⊥

-- One that acts in a turn is a stranger to the part: neither it nor its domain is of it; what its domain holds is strange; it serves none of the part or the side, and gives no first range to a domain of the side's; it revokes nothing that the side
-- holds, nor what that was made of, and writes to no frame that the side sees; and who pays isn't of the part.
pub record IsStranger (k : KernelState) (S P : ℕ → Type 0) (cpu ec : ℕ) : Type 0 where
  pub itself : P ec → ⊥
  pub domain : S (pd_of k ec) → ⊥
  pub holds : (d : Derivation) → Contains k.delegations.list d → d.pd ≡ pd_of k ec → d.kind ≡ Obj → IsStrange S P d.target (slice_get k.objects d.target)
  pub serves : (caller : ℕ) (mark : Mark) → ServesCaller k ec caller mark → (P caller → ⊥) × (S (pd_of k caller) → ⊥)
  pub firsts : (domain : ℕ) → (context k ec).state ≡ Granting (Some domain) → S domain → ⊥
  pub lines : is_revoking (context k ec).state ≡ true → (d ancestor : Derivation) → Contains k.delegations.list d → S d.pd → Contains (line k.delegations.list d) ancestor → ancestor.pd ≡ pd_of k ec → ⊥
  pub memory : IsWalled k S ec
  pub payer : (sc : ℕ) → choose k cpu ≡ Some sc → P sc → ⊥

-- ALONG TURNS

-- A turn that is none of the side's leaves the part alone, where nothing enters, and else comes to no more than what enters; so each of these turns, and where the side gives items, it does so within. Where it may
-- revoke, nothing that others hold is made of what it holds.
abbrev pub IsServedBy : KernelState → (ℕ → Type 0) → (ℕ → Type 0) → ℕ → Option Entry → Type 0
IsServedBy k S P cpu None = IsLeftAlone k S P cpu
IsServedBy k S P cpu (Some e) = IsEntered k S P cpu e

abbrev pub AreServed : Bool → (ℕ → Bool) → (ℕ → Bool) → KernelState → List ℕ → Type 0
AreServed revokes S P k [] = Unit {0}
AreServed revokes S P k (cpu ∷ turns) =
    (own_turn S k cpu ≡ None → IsServedBy k (Of S) (Of P) cpu (entry_in S P k cpu)) × GivesWithin S k cpu × (revokes ≡ true → DerivesWithin k (Of S)) × AreServed revokes S P (after k cpu) turns

-- what happens to the part: a turn of the side's, by who acts and who pays, or an entry; and along turns, in order
pub data Happening : Type 0 where
  Own : (ec sc : ℕ) → Happening
  Enters : Entry → Happening

abbrev pub happening_of : Option (ℕ × ℕ) → Option Entry → Option Happening
happening_of (Some own) entry = Some (Own own.0 own.1)
happening_of None (Some entry) = Some (Enters entry)
happening_of None None = None

abbrev pub course : (ℕ → Bool) → (ℕ → Bool) → KernelState → List ℕ → List Happening
course S P k [] = []
course S P k (cpu ∷ turns) = in_front (happening_of (own_turn S k cpu) (entry_in S P k cpu)) (course S P (after k cpu) turns)

-- WHAT CAN BE CHECKED OF EACH TURN

-- Why a turn that is none of the side's leaves the part alone, or comes to no more than its entry: a stranger acts; one gives; one computes or goes on with items, and writes to no frame that the side sees; or nobody acts, no alarm rings at the
-- part's semaphores, and none of the part has a deadline. So of each of these turns that is none of the side's, and where the side gives items, it does so within.
pub data IsAdmitted (k : KernelState) (S P : ℕ → Bool) (cpu : ℕ) : Type 0 where
  ByStranger : (ec : ℕ) → Acts k cpu ec → IsStranger k (Of S) (Of P) cpu ec → IsAdmitted k S P cpu
  ByGift : (e : Entry) → entry_in S P k cpu ≡ Some e → IsSome e.gift → IsAdmitted k S P cpu
  ByComputing : (ec : ℕ) → Acts k cpu ec → computes (deed k ec) ≡ true → IsWalled k (Of S) ec → IsAdmitted k S P cpu
  ByNobody : next_to_act k cpu ≡ None → IsTimeless k (Of P) → IsAdmitted k S P cpu

abbrev pub AreAdmitted : (ℕ → Bool) → (ℕ → Bool) → KernelState → List ℕ → Type 0
AreAdmitted S P k [] = Unit {0}
AreAdmitted S P k (cpu ∷ turns) = (own_turn S k cpu ≡ None → IsAdmitted k S P cpu) × GivesWithin S k cpu × AreAdmitted S P (after k cpu) turns
