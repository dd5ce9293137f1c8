-- Edges lead to local threads: to handlers of portals.
use Rattle.std.proofs.Common.{◌≡◌, ◌⊎◌, ℕ, zero, suc, List, [], ◌∷◌, ◌++◌, length, refl, sym, ap, ◌∙◌, subst, inl, inr}
use Rattle.std.specs.Prelude.{Bool, true, false, if◌then◌else◌, IfSome, slice_get, Option, Some, None, option_map, option_and_then}
use Rattle.std.specs.List.{AllByRecursion}
use Rattle.std.proofs.lemmas.Option.{same_Some}
use Rattle.rv_model.specs.Step.{Once, Raised, Went}
use Rattle.nova_objects.specs.declared.object.EcKind.TheVariants.{Local, Global, Vcpu}
use Rattle.nova_objects.specs.declared.object.Object.{Object}
use Rattle.nova_objects.specs.declared.object.Object.TheVariants.{Pt, Sm}
use Rattle.nova_range.specs.declared.status.Status.{Status}
use Rattle.nova_model.specs.Boot.{Image, Scenario, bare, boot, with_image, with_images}
use Rattle.nova_model.specs.Capabilities.{is_local}
use Rattle.nova_model.specs.Choice.{Candidate, next_to_act}
use Rattle.nova_model.specs.Creation.{context_of}
use Rattle.nova_model.specs.Deeds.{deed, instruction}
use Rattle.nova_model.specs.Edges.{edge, edge_of}
use Rattle.nova_model.specs.Runs.{after, run}
use Rattle.nova_model.specs.Sources.{Source, with_source}
use Rattle.nova_model.specs.State.{Contexts, KernelState, context_in, ec_in, ec_of}
use Rattle.nova_model.specs.declared.admit.ExitAdmit.TheVariants as exit
use Rattle.nova_model.specs.declared.context.EcState.{EcState}
use Rattle.nova_model.specs.declared.context.Mark.TheVariants as mark
use Rattle.nova_model.specs.declared.deed.Deed.{Deed}
use Rattle.nova_model.specs.declared.deed.Deed.TheVariants as deeds
use Rattle.nova_model.specs.declared.new_object.NewObject.{NewObject}
use Rattle.nova_model.specs.declared.new_object.NewObject.TheVariants as new
use Rattle.nova_model.specs.declared.transfer.Sequel.{Sequel}
use Rattle.nova_model.specs.declared.transfer.Sequel.TheVariants as sequel
use Rattle.nova_model.specs.declared.context.State.TheVariants.{Granting, Ready}
use Rattle.law_forest.specs.Effects.{made_by, Answers, Becomes, Edit, Edits, Moves, Parks, Raises as Raising, Recalled, Resumes, Serves, Stays, all_edited, edit_at, edited, edits_by, follows_by, joined, recalls_by, steps_by, wakes_by, Passing, ends_by, passing_ends}
use Rattle.law_forest.specs.Turns.{Acts as Chosen, Idles, Passes, Takes, acting, passing, turned}
use Rattle.law_forest.proofs.Boots.{sources_keep}
use Rattle.law_forest.proofs.Turning.{comes}
use Rattle.law_isolation.proofs.Runs.{reached_sound}
use Rattle.law_turns.specs.Tables.{HasTables, IsOf, Refers}
use Rattle.law_turns.proofs.Setting.{get_kept, more_at}
use Rattle.law_origins.proofs.Bases.{reached_selectors}
use Rattle.law_origins.proofs.Lists.{by_turns, run_append}
use Rattle.law_forest.proofs.Doing.{set_at}
use Rattle.law_integrity.specs.Rightful.{IsRightful}
use Rattle.law_origins.specs.Giving.{Acts as Acting}
use Rattle.law_integrity.specs.Rights.{CallsAt, ExitsAt}
use Rattle.law_integrity.specs.Waits.{HasLocalEdges}
use Rattle.law_integrity.proofs.Rightful.{deed_rightful}
use Rattle.law_integrity.proofs.Entries.{join_each}
use Rattle.law_integrity.proofs.Own.{exits_at}

-- the edge of an entry
abbrev edge_in : Option EcState → Option ℕ
edge_in o = option_and_then edge_of (option_map (λ x. x.state) o)

abbrev pub GoTo : (ℕ → Type 0) → Option EcState → Type 0
GoTo P o = (h : ℕ) → edge_in o ≡ Some h → P h

-- the edge that an edit makes
abbrev leads : Edit → Option ℕ
leads (Becomes s) = edge_of s
leads other = None

abbrev AllLead : (ℕ → ℕ → Type 0) → Edits → Type 0
AllLead P [] = Unit {0}
AllLead P ((m, e) ∷ es) = IfSome (leads e) (P m) × AllLead P es

if_leads : (P : ℕ → Type 0) (o : Option ℕ) (h : ℕ) → IfSome o P → o ≡ Some h → P h
if_leads P (Some x) h p is = subst P (same_Some x h is) p
if_leads P None h p is = absurd (cc)

serves_none : (items : Bool) (h : ℕ) → edge_of (if items then Granting None else Ready) ≡ Some h → ⊥
serves_none true h is = cc
serves_none false h is = cc

edited_goes : (P : ℕ → Type 0) (o : Option EcState) (e : Edit) → IfSome (leads e) P → GoTo P o → GoTo P (Some (edited (context_in o) e))
edited_goes P o (Becomes s) new old h is = if_leads P (edge_of s) h new is
edited_goes P o (Raising reason q0 q1) new old h is = absurd (cc)
edited_goes P o (Answers status value) new old h is = absurd (cc)
edited_goes P o (Serves caller came ip identifier items) new old h is = absurd (serves_none items h is)
edited_goes P o Parks new old h is = absurd (cc)
edited_goes P o (Resumes mark.Call m) new old h is = absurd (cc)
edited_goes P o (Resumes mark.Exit m) new old h is = absurd (cc)
edited_goes P (Some x) Stays new old h is = old h is
edited_goes P (Some x) Recalled new old h is = old h is
edited_goes P (Some x) (Moves regs) new old h is = old h is
edited_goes P None Stays new old h is = absurd (cc)
edited_goes P None Recalled new old h is = absurd (cc)
edited_goes P None (Moves regs) new old h is = absurd (cc)

edits_go : (P : ℕ → ℕ → Type 0) (cs : Contexts) (es : Edits) → AllLead P es → ((n : ℕ) → GoTo (P n) (ec_in cs n)) → (n : ℕ) → GoTo (P n) (ec_in (all_edited cs es) n)
edits_go P cs [] new old n = old n
edits_go P cs ((m, e) ∷ es) new old n =
    edits_go P (edit_at cs m e) es new.1
    (λ i. set_at (GoTo (P i)) cs m i (edited (ec_of cs m) e) (old i)
    (λ same. subst (λ (j : ℕ). GoTo (P j) (Some (edited (ec_of cs m) e))) (sym same) (edited_goes (P m) (ec_in cs m) e new.0 (old m)))) n

-- THE EDITS OF A DEED

-- the handler for which it comes to wait
abbrev Awaits : (ℕ → Type 0) → Deed → Type 0
Awaits P (deeds.Calls handler ip number items) = P handler
Awaits P (deeds.Sends handler ip number mtd reason q0 q1) = P handler
Awaits P (deeds.Helps handler) = P handler
Awaits P (deeds.Waits handler reason q0 q1) = P handler
Awaits P other = Unit {0}

steps_lead : (P : ℕ → ℕ → Type 0) (ec : ℕ) (o : Once) → AllLead P (steps_by ec o)
steps_lead P ec (Raised reason q0 q1) = tt
steps_lead P ec (Went regs store) = (tt, tt)

recalls_lead : (P : ℕ → ℕ → Type 0) (whose : ℕ) (o : Option EcState) → AllLead P (recalls_by whose o)
recalls_lead P whose None = tt
recalls_lead P whose (Some x) = (tt, tt)

wakes_lead : (P : ℕ → ℕ → Type 0) (o : Option ℕ) → AllLead P (wakes_by o)
wakes_lead P None = tt
wakes_lead P (Some w) = (tt, tt)

follows_lead : (P : ℕ → ℕ → Type 0) (ec : ℕ) (m : List ℕ) (after : Sequel) → AllLead P (follows_by ec m after)
follows_lead P ec m (sequel.Replied caller came) = (tt, (tt, tt))
follows_lead P ec m other = (tt, tt)

deed_leads : (P : ℕ → ℕ → Type 0) (k : KernelState) (ec : ℕ) (d : Deed) → Awaits (P ec) d → AllLead P (edits_by k ec d)
deed_leads P k ec deeds.Rests a = tt
deed_leads P k ec (deeds.Gives child cursor) a = tt
deed_leads P k ec (deeds.Skips reason place cursor) a = tt
deed_leads P k ec (deeds.Removes leaf) a = tt
deed_leads P k ec deeds.Steps a = steps_lead P ec (instruction k ec)
deed_leads P k ec (deeds.Calls handler ip number items) a = (a, (tt, tt))
deed_leads P k ec (deeds.Sends handler ip number mtd reason q0 q1) a = (a, (tt, tt))
deed_leads P k ec (deeds.Helps handler) a = (a, tt)
deed_leads P k ec (deeds.Waits handler reason q0 q1) a = (a, tt)
deed_leads P k ec (deeds.Replies caller came true) a = (tt, tt)
deed_leads P k ec (deeds.Replies caller came false) a = (tt, (tt, tt))
deed_leads P k ec (deeds.Recalls whose) a = (tt, recalls_lead P whose _)
deed_leads P k ec (deeds.Ups sm whom) a = (tt, wakes_lead P whom)
deed_leads P k ec (deeds.Finishes item end words after) a = follows_lead P ec _ after
deed_leads P k ec (deeds.Aborts handler mark.Call) a = (tt, tt)
deed_leads P k ec (deeds.Aborts handler mark.Exit) a = (tt, tt)
deed_leads P k ec other a = (tt, tt)

born_goes : (P : ℕ → Type 0) (n : ℕ) (m : NewObject) → GoTo P (context_of n m)
born_goes P n (new.Ec pd cpu Local sp event) h is = absurd (cc)
born_goes P n (new.Ec pd cpu Global sp event) h is = absurd (cc)
born_goes P n (new.Ec pd cpu Vcpu sp event) h is = absurd (cc)
born_goes P n other h is = absurd (cc)

-- HANDLERS ARE LOCAL THREADS

pub at_index : (P : Object → Type 0) (os : List Object) (n : ℕ) (o : Object) → AllByRecursion P os → slice_get os n ≡ Some o → P o
at_index P [] n o all is = absurd (cc)
at_index P (x ∷ os) zero o all is = subst P (same_Some x o is) all.0
at_index P (x ∷ os) (suc n) o all is = at_index P os n o all.1 is

pub handler_local : (k : KernelState) (portal handler mtd ip : ℕ) → HasTables k → slice_get k.objects portal ≡ Some (Pt handler mtd ip) → IsOf k.objects is_local handler
handler_local k portal handler mtd ip tables is = at_index (Refers k.objects) k.objects portal (Pt handler mtd ip) tables.refer is

awaits_local : (k : KernelState) (ec : ℕ) (d : Deed) → HasTables k → IsRightful k ec d → Awaits (IsOf k.objects is_local) d
awaits_local k ec (deeds.Calls handler ip number items) tables r = handler_local k r.at.portal handler r.at.mtd r.at.ip tables r.at.object
awaits_local k ec (deeds.Helps handler) tables r = handler_local k r.at.portal handler r.at.mtd r.at.ip tables r.at.object
awaits_local k ec (deeds.Sends handler ip number mtd reason q0 q1) tables r = handler_local k r.portal handler mtd.0 ip tables r.object
awaits_local k ec (deeds.Waits handler reason q0 q1) tables r = handler_local k r.3.portal handler r.2 r.0 tables r.3.object
awaits_local k ec other tables r = tt

local_kept : (os : List Object) (o : Option Object) (h : ℕ) → IsOf os is_local h → IsOf (joined os o) is_local h
local_kept os None h is = is
local_kept os (Some x) h is = by_object (slice_get os h) refl is
  where
    by_object : (p : Option Object) → slice_get os h ≡ p → option_map is_local p ≡ Some true → IsOf (os ++ x ∷ []) is_local h
    by_object None at e = absurd (cc)
    by_object (Some y) at e = ap (option_map is_local) (get_kept os x h y at) ∙ e

-- ALONG TURNS

turned_edges : (k : KernelState) (cpu : ℕ) (c : Candidate) → HasTables k → IsRightful k c.actor (deed k c.actor) → HasLocalEdges k → HasLocalEdges (turned k cpu (acting k c))
turned_edges k cpu c tables r local e h is =
    local_kept k.objects _ h
    (join_each (GoTo (IsOf k.objects is_local)) (all_edited k.contexts (edits_by k c.actor (deed k c.actor))) (context_of (length k.objects)) (made_by (deed k c.actor)) e
    (edits_go (λ n. IsOf k.objects is_local) k.contexts (edits_by k c.actor (deed k c.actor)) (deed_leads (λ n. IsOf k.objects is_local) k c.actor (deed k c.actor) (awaits_local k c.actor (deed k c.actor) tables r)) local e)
    (λ m made last. born_goes (IsOf k.objects is_local) (length k.objects) m) h is)

-- a context whose wait ends waits for none
ends_lead : (P : ℕ → ℕ → Type 0) (o : Option (ℕ × Status)) → AllLead P (ends_by o)
ends_lead P None = tt
ends_lead P (Some (w, status)) = (tt, tt)

passing_edges : (k : KernelState) (cpu : ℕ) (p : Passing) → HasLocalEdges k → HasLocalEdges (turned k cpu (passing k p))
passing_edges k cpu p local = edits_go (λ n. IsOf k.objects is_local) k.contexts (ends_by (passing_ends k p)) (ends_lead (λ n. IsOf k.objects is_local) (passing_ends k p)) local

after_edges : (k : KernelState) (cpu : ℕ) → HasTables k → ((ec : ℕ) → IsRightful k ec (deed k ec)) → HasLocalEdges k → HasLocalEdges (after k cpu)
after_edges k cpu tables right local = elim (comes k cpu) [
  | Idles none quiet same answer ↦ subst HasLocalEdges (sym same) local
  | Takes t e is state answer ↦ elim is [
    | Chosen c chosen its event ↦ subst HasLocalEdges (sym (state ∙ ap (turned k cpu) its)) (turned_edges k cpu c tables (right c.actor) local)
    | Passes p passes its event ↦ subst HasLocalEdges (sym (state ∙ ap (turned k cpu) its)) (passing_edges k cpu p local)
  ]
]

root_edges : (s : Scenario) → HasLocalEdges (bare s.cpus s.ram s.consoles s.root)
root_edges s zero h is = absurd (cc)
root_edges s (suc zero) h is = absurd (cc)
root_edges s (suc (suc zero)) h is = absurd (cc)
root_edges s (suc (suc (suc e))) h is = absurd (cc)

images_edges : (k : KernelState) (images : List Image) → HasLocalEdges k → HasLocalEdges (with_images k images)
images_edges k [] local = local
images_edges k (image ∷ images) local = images_edges (with_image k image) images local

source_edges : (k : KernelState) (source : Source) → HasLocalEdges k → HasLocalEdges (with_source k source)
source_edges k source local e h is =
    local_kept k.objects (Some Sm) h (more_at (GoTo (IsOf k.objects is_local)) k.contexts None e (local e) (λ old. old) h is)

pub reached_rightful : (s : Scenario) (turns : List ℕ) (ec : ℕ) → IsRightful (run (boot s) turns) ec (deed (run (boot s) turns) ec)
reached_rightful s turns ec = deed_rightful (run (boot s) turns) ec (reached_sound s turns).forest (reached_selectors s turns) (reached_sound s turns).kept.served

pub local_edges : (s : Scenario) (turns : List ℕ) → HasLocalEdges (run (boot s) turns)
local_edges s =
    by_turns (λ (turns : List ℕ). HasLocalEdges (run (boot s) turns))
    (sources_keep HasLocalEdges source_edges (with_images (bare s.cpus s.ram s.consoles s.root) s.images) s.sources (images_edges _ s.images (root_edges s)))
    (λ turns cpu local. subst HasLocalEdges (sym (run_append (boot s) turns (cpu ∷ [])))
    (after_edges (run (boot s) turns) cpu (reached_sound s turns).kept.tables (λ ec. reached_rightful s turns ec) local))

-- HOW A CONTEXT COMES TO WAIT

-- it waited so before; or it came to in a turn of its own, by a portal that its domain held
abbrev Comes : KernelState → ℕ → ℕ → ℕ → Type 0
Comes k actor n h = (edge k.contexts n ≡ Some h) ⊎ ((actor ≡ n) × (CallsAt k n h ⊎ ExitsAt k n h))

awaits_by : (k : KernelState) (ec : ℕ) (d : Deed) → IsRightful k ec d → Awaits (Comes k ec ec) d
awaits_by k ec (deeds.Calls handler ip number items) r = inr (refl, inl r.at)
awaits_by k ec (deeds.Helps handler) r = inr (refl, inl r.at)
awaits_by k ec (deeds.Sends handler ip number mtd reason q0 q1) r = inr (refl, inr (exits_at k ec handler ip number mtd.0 reason q0 q1 exit.Sends r))
awaits_by k ec (deeds.Waits handler reason q0 q1) r = inr (refl, inr (exits_at k ec handler r.0 r.1 r.2 reason q0 q1 exit.Waits r.3))
awaits_by k ec other r = tt

turned_comes : (k : KernelState) (cpu n h : ℕ) (c : Candidate) → IsRightful k c.actor (deed k c.actor) → edge (turned k cpu (acting k c)).contexts n ≡ Some h → Comes k c.actor n h
turned_comes k cpu n h c r is =
    join_each (GoTo (Comes k c.actor n)) (all_edited k.contexts (edits_by k c.actor (deed k c.actor))) (context_of (length k.objects)) (made_by (deed k c.actor)) n
    (edits_go (Comes k c.actor) k.contexts (edits_by k c.actor (deed k c.actor)) (deed_leads (Comes k c.actor) k c.actor (deed k c.actor) (awaits_by k c.actor (deed k c.actor) r)) (λ i h is. inl is) n)
    (λ m made last. born_goes (Comes k c.actor n) (length k.objects) m) h is

passing_comes : (k : KernelState) (cpu n h : ℕ) (p : Passing) → edge (turned k cpu (passing k p)).contexts n ≡ Some h → edge k.contexts n ≡ Some h
passing_comes k cpu n h p is =
    edits_go (λ i h. edge k.contexts i ≡ Some h) k.contexts (ends_by (passing_ends k p)) (ends_lead (λ i h. edge k.contexts i ≡ Some h) (passing_ends k p)) (λ i h is. is) n h is

pub edge_came : (k : KernelState) (cpu n h : ℕ) → ((ec : ℕ) → IsRightful k ec (deed k ec)) → edge (after k cpu).contexts n ≡ Some h →
    (edge k.contexts n ≡ Some h) ⊎ (Acting k cpu n × (CallsAt k n h ⊎ ExitsAt k n h))
edge_came k cpu n h right is = elim (comes k cpu) [
  | Idles none quiet same answer ↦ inl (ap (λ (s : KernelState). edge s.contexts n) (sym same) ∙ is)
  | Takes t e takes state answer ↦ elim takes [
    | Chosen c chosen its event ↦ by_case c chosen (turned_comes k cpu n h c (right c.actor) (ap (λ (s : KernelState). edge s.contexts n) (sym (state ∙ ap (turned k cpu) its)) ∙ is))
    | Passes p passes its event ↦ inl (passing_comes k cpu n h p (ap (λ (s : KernelState). edge s.contexts n) (sym (state ∙ ap (turned k cpu) its)) ∙ is))
  ]
]
  where
    by_case : (c : Candidate) → next_to_act k cpu ≡ Some c → Comes k c.actor n h → (edge k.contexts n ≡ Some h) ⊎ (Acting k cpu n × (CallsAt k n h ⊎ ExitsAt k n h))
    by_case c chosen (inl before) = inl before
    by_case c chosen (inr now) = inr (ap (option_map (λ (d : Candidate). d.actor)) chosen ∙ ap (λ (m : ℕ). Some m) now.0, now.1)
