-- Each input of a virtual CPU is by right.
use Rattle.std.proofs.Common.{◌≡◌, ℕ, zero, suc, ◌<◌, ◌/◌, ◌%◌, ◌⊎◌, List, ap, sym, ◌∙◌, subst, refl, inl, inr, arith}
use Rattle.std.specs.Prelude.{Bool, true, false, ◌==◌, ◌&&◌, Contains, IfSome, Option, Some, None, option_map, option_and_then, if◌then◌else◌, is_some, slice_get}
use Rattle.std.proofs.lemmas.Bool.{and_parts, or_cases, cases_eq, eqb-true}
use Rattle.std.proofs.lemmas.Option.{same_Some}
use Rattle.rv_model.specs.Step.{Store}
use Rattle.law_forest.specs.Courses.{IsLeaf}
use Rattle.law_forest.specs.Effects.{branch_by, branched}
use Rattle.law_forest.specs.Made.{IsGivenChild, IsNextLeaf, MayUse}
use Rattle.law_forest.proofs.Allowed.{IsAllowed, deed_allowed}
use Rattle.law_forest.proofs.Extremes.{any_in}
use Rattle.law_forest.proofs.Lines.{line_none, parent_facts}
use Rattle.law_forest.proofs.Members.{IsIn, contains_from_in, in_filtered, in_from_contains}
use Rattle.nova_guest.specs.Frames.{frame_with}
use Rattle.nova_guest.specs.declared.input.Input.{Input}
use Rattle.nova_guest.specs.declared.input.Input.TheVariants as input_as
use Rattle.nova_guest.specs.declared.page.Page.{Page}
use Rattle.law_isolation.specs.Sound.{IsVirtual}
use Rattle.law_isolation.proofs.OwnTurns.{caller_of, own_is}
use Rattle.law_isolation.proofs.Runs.{reached_sound}
use Rattle.law_isolation.proofs.Turns.{other_is}
use Rattle.law_turns.proofs.Referring.{Asks, deed_asks}
use Rattle.nova_model.specs.AddressSpaces.{frame_for, own_page}
use Rattle.nova_model.specs.Boot.{Scenario, boot}
use Rattle.nova_model.specs.Capabilities.{control_right, is_ec}
use Rattle.nova_model.specs.Deeds.{address_space, deed, instruction}
use Rattle.nova_model.specs.Delegations.{Delegations, is_memory, parent_of, reach}
use Rattle.nova_model.specs.Deliveries.{delivery, delivery_between, first_delivery, given_to, taken_from, told_by}
use Rattle.nova_model.specs.Edges.{state_in}
use Rattle.nova_model.specs.Forest.{IsForest}
use Rattle.nova_model.specs.Inputs.{foreign_at, foreign_by, given_of, in_ram, input_of, is_covered_for, only_if, others_input, own_input, reply_of, store_of}
use Rattle.nova_model.specs.Lines.{line, line_by}
use Rattle.nova_model.specs.Revokes.{Revocation, in_scope, is_made_of, is_met, is_own, is_top, scope}
use Rattle.nova_model.specs.Running.{revoke_by, revoke_of}
use Rattle.nova_model.specs.Runs.{after, run}
use Rattle.nova_model.specs.State.{KernelState, context, context_at, context_in, message, own_words, pd_of, transfer}
use Rattle.nova_model.specs.Views.{is_memory_of}
use Rattle.nova_model.specs.declared.context.EcState.{EcState}
use Rattle.nova_model.specs.declared.context.Mark.{Mark}
use Rattle.nova_model.specs.declared.context.Mark.TheVariants as mark
use Rattle.nova_model.specs.declared.context.State.{State}
use Rattle.nova_model.specs.declared.context.State.TheVariants.{Calling, Granting, Replying, Revoking}
use Rattle.nova_model.specs.declared.deed.Deed.{Deed}
use Rattle.nova_model.specs.declared.deed.Deed.TheVariants.{Steps, Raises, Dies, Sends, Recalls, Gives, Removes, Finishes, Replies, Aborts}
use Rattle.nova_model.specs.declared.delegation.Derivation.{Derivation}
use Rattle.nova_model.specs.declared.transfer.Delivery.{Delivery}
use Rattle.nova_model.specs.declared.transfer.Sequel.TheVariants as sequel
use Rattle.nova_range.specs.Rights.{allows, write_right}
use Rattle.nova_range.specs.declared.range.Kind.{Kind}
use Rattle.nova_range.specs.declared.range.Kind.TheVariants.{Mem, Obj}
use Rattle.nova_range.specs.declared.range.Range.{Range}
use Rattle.law_turns.specs.Links.{IsCallerOf}
use Rattle.law_origins.specs.Giving.{Acts, FirstRange, IsGiver, IsTakenByRight, HasPageTo, Replies as RepliesWith, TakesItems}
use Rattle.law_origins.specs.Sending.{HandlesLast}
use Rattle.law_origins.specs.Whose.{HasRight, IsInputBy}
use Rattle.law_origins.proofs.Actors.{actor_lives, input_is, is_done}
use Rattle.law_origins.proofs.Origins.{run_origin}
use Rattle.law_origins.proofs.Warrants.{Warrant, deed_warrant}

-- where an input comes by a test, the test holds
pub only_if_holds : (P : Input → Type 0) (t : Bool) (i : Input) → (t ≡ true → P i) → IfSome (only_if t i) P
only_if_holds P true i h = h refl
only_if_holds P false i h = tt

-- ITS OWN

own_right : (k : KernelState) (turns : List ℕ) (cpu ec g : ℕ) (d : Deed) → ec ≡ g → IfSome (own_input d) (HasRight k turns cpu ec g)
own_right k turns cpu ec g Steps same = same
own_right k turns cpu ec g (Raises reason q0 q1) same = same
own_right k turns cpu ec g (Sends handler ip identifier mtd reason q0 q1) same = same
own_right k turns cpu ec g (Dies reason q0) same = same
own_right k turns cpu ec g (Aborts handler mark) same = same
own_right k turns cpu ec g other same = tt

-- A STORE

reaches : (k : KernelState) (ec address frame : ℕ) → frame_for (address_space k ec) write_right address ≡ Some frame → HasPageTo k (pd_of k ec) write_right frame
reaches k ec address frame h = by_own (is_some (own_words k ec) && (address / 4096 == own_page)) h
  where
    by_test : (p : Page) → reach k.delegations.list (pd_of k ec) (address / 4096) ≡ Some p → (t : Bool) → allows p.rights write_right ≡ t → (if t then Some p.frame else None) ≡ Some frame →
        HasPageTo k (pd_of k ec) write_right frame
    by_test p leads true allowed g = record {
      page = address / 4096;
      rights = p.rights;
      leads = leads ∙ ap (λ (f : ℕ). Some (record { frame = f; rights = p.rights })) (same_Some p.frame frame g);
      allowed = allowed;
    }
    by_test p leads false allowed g = absurd (cc)

    by_page : (o : Option Page) → reach k.delegations.list (pd_of k ec) (address / 4096) ≡ o → option_and_then (frame_with write_right) o ≡ Some frame → HasPageTo k (pd_of k ec) write_right frame
    by_page None leads g = absurd (cc)
    by_page (Some p) leads g = by_test p leads (allows p.rights write_right) refl g

    by_own : (t : Bool) → option_and_then (frame_with write_right) (if t then None else reach k.delegations.list (pd_of k ec) (address / 4096)) ≡ Some frame → HasPageTo k (pd_of k ec) write_right frame
    by_own true g = absurd (cc)
    by_own false g = by_page (reach k.delegations.list (pd_of k ec) (address / 4096)) refl g

store_right : (k : KernelState) (turns : List ℕ) (cpu ec g : ℕ) (o : Option Store) →
    IfSome (option_and_then (foreign_by (run k turns) ec (pd_of (run k turns) g)) o) (HasRight k turns cpu ec g)
store_right k turns cpu ec g None = tt
store_right k turns cpu ec g (Some s) = by_frame (frame_for (address_space now ec) write_right s.address) refl
  where
    now : KernelState
    now = run k turns

    by_cover : (f : ℕ) → frame_for (address_space now ec) write_right s.address ≡ Some f → (t : Bool) →
        IfSome (if t then Some (input_as.Foreign f (s.address % 4096) s.width s.value) else None) (HasRight k turns cpu ec g)
    by_cover f is true = reaches now ec s.address f is
    by_cover f is false = tt

    by_ram : (f : ℕ) → frame_for (address_space now ec) write_right s.address ≡ Some f → (t : Bool) →
        IfSome (option_and_then (foreign_at now (pd_of now g) s) (if t then Some f else None)) (HasRight k turns cpu ec g)
    by_ram f is true = by_cover f is (is_covered_for now (pd_of now g) f)
    by_ram f is false = tt

    by_frame : (o : Option ℕ) → frame_for (address_space now ec) write_right s.address ≡ o →
        IfSome (option_and_then (foreign_at now (pd_of now g) s) (option_and_then (in_ram now) o)) (HasRight k turns cpu ec g)
    by_frame None is = tt
    by_frame (Some f) is = by_ram f is (is_some (slice_get now.memory.ram f))

-- A REPLY

some_state : (o : Option EcState) (s : State) → option_map (λ x. x.state) o ≡ Some s → (context_in o).state ≡ s
some_state (Some x) s h = same_Some x.state s h
some_state None s h = absurd (cc)

replies_last : (s : Scenario) (turns : List ℕ) (cpu ec g : ℕ) (came : Mark) → Acts (run (boot s) turns) cpu ec → IsVirtual (run (boot s) turns) g →
    IsCallerOf (run (boot s) turns) ec g came → HandlesLast (boot s) turns g ec
replies_last s turns cpu ec g came acts virtual keeps =
    let now : KernelState = run (boot s) turns in
    let waits : state_in now.contexts g ≡ Some (Calling ec) =
    ((reached_sound s turns).kept.served.linked g ec).waits came (sym (caller_of now ec) ∙ keeps) (actor_lives now cpu ec acts) in
    run_origin s turns g (Calling ec) tt (some_state (context_at now g) (Calling ec) waits) virtual

reply_right : (s : Scenario) (turns : List ℕ) (cpu ec g caller : ℕ) → Acts (run (boot s) turns) cpu ec → IsVirtual (run (boot s) turns) g →
    IsCallerOf (run (boot s) turns) ec caller mark.Exit → IfSome (only_if (caller == g) (reply_of (message (run (boot s) turns) ec))) (HasRight (boot s) turns cpu ec g)
reply_right s turns cpu ec g caller acts virtual keeps =
    only_if_holds (HasRight (boot s) turns cpu ec g) (caller == g) (reply_of (message (run (boot s) turns) ec))
    (λ own. replies_last s turns cpu ec g mark.Exit acts virtual (subst (λ (n : ℕ). IsCallerOf (run (boot s) turns) ec n mark.Exit) (eqb-true caller g own) keeps))

-- A DERIVATION THAT JOINS

pub kind_is : (kind : Kind) → is_memory kind ≡ true → kind ≡ Mem
kind_is Mem h = refl
kind_is Obj h = absurd (cc)

-- a handler that takes items was called
takes_call : (s : Scenario) (turns : List ℕ) (ec caller : ℕ) (came : Mark) → (context (run (boot s) turns) ec).state ≡ Granting None →
    (context (run (boot s) turns) ec).caller ≡ Some (caller, came) → came ≡ mark.Call
takes_call s turns ec caller came is keeps =
    ((reached_sound s turns).kept.served.well ec).taking caller came (sym (caller_of (run (boot s) turns) ec) ∙ keeps) (by_entry (context_at (run (boot s) turns) ec) is)
  where
    by_entry : (o : Option EcState) → (context_in o).state ≡ Granting None → option_map (λ (x : EcState). x.state) o ≡ Some (Granting None)
    by_entry (Some x) h = ap Some h
    by_entry None h = absurd (cc)

giver_is : (s : Scenario) (turns : List ℕ) (ec pd giver : ℕ) (v : Delivery) → delivery (run (boot s) turns) ec (context (run (boot s) turns) ec).state ≡ Some v →
    v.receiver ≡ pd → v.giver ≡ giver → IsGiver (boot s) turns ec pd giver
giver_is s turns ec pd giver v present receives gives = by_state (context now ec).state refl present
  where
    now : KernelState
    now = run (boot s) turns

    by_taken : (c : Option (ℕ × Mark)) → (context now ec).caller ≡ c → (context now ec).state ≡ Granting None → taken_from now ec (transfer now ec).item c ≡ Some v → IsGiver (boot s) turns ec pd giver
    by_taken None keeps is e = absurd (cc)
    by_taken (Some (caller, came)) keeps is e =
        let w : Delivery = delivery_between now caller ec (transfer now ec).item (Some ec) sequel.Taken in
        let same : w ≡ v = same_Some w v e in
        TakesItems caller is (keeps ∙ ap (λ (m : Mark). Some (caller, m)) (takes_call s turns ec caller came is keeps))
        (ap (λ (w : Delivery). w.receiver) same ∙ receives) (ap (λ (w : Delivery). w.giver) same ∙ gives)

    by_reply : (c : Option (ℕ × Mark)) → (context now ec).caller ≡ c → (context now ec).state ≡ Replying → given_to now ec (transfer now ec).item c ≡ Some v → IsGiver (boot s) turns ec pd giver
    by_reply None keeps is e = absurd (cc)
    by_reply (Some (caller, came)) keeps is e =
        let w : Delivery = delivery_between now ec caller (transfer now ec).item (told_by caller came) (sequel.Replied caller came) in
        let same : w ≡ v = same_Some w v e in
        RepliesWith caller came is keeps (ap (λ (w : Delivery). w.giver) same ∙ gives) (ap (λ (w : Delivery). w.receiver) same ∙ receives)

    by_first : (domain : ℕ) → (context now ec).state ≡ Granting (Some domain) → first_delivery now ec domain ≡ v → IsGiver (boot s) turns ec pd giver
    by_first domain is same =
        let its : domain ≡ pd = ap (λ (w : Delivery). w.receiver) same ∙ receives in
        let at : (context now ec).state ≡ Granting (Some pd) = is ∙ ap (λ (n : ℕ). Granting (Some n)) its in
        FirstRange at (ap (λ (w : Delivery). w.giver) same ∙ gives) (run_origin s turns ec (Granting (Some pd)) tt at)

    by_state : (t : State) → (context now ec).state ≡ t → delivery now ec t ≡ Some v → IsGiver (boot s) turns ec pd giver
    by_state (Granting (Some domain)) is e = by_first domain is (same_Some (first_delivery now ec domain) v e)
    by_state (Granting None) is e = by_taken (context now ec).caller refl is e
    by_state Replying is e = by_reply (context now ec).caller refl is e
    by_state other is e = absurd (cc)

given_right : (s : Scenario) (turns : List ℕ) (cpu ec g cursor : ℕ) (d : Derivation) → (after (run (boot s) turns) cpu).delegations ≡ branched (run (boot s) turns).delegations (branch_by (run (boot s) turns) ec (Gives d cursor)) →
    IsGivenChild (run (boot s) turns) ec d → IfSome (only_if (is_memory_of (pd_of (run (boot s) turns) g) d) (given_of (run (boot s) turns) d)) (HasRight (boot s) turns cpu ec g)
given_right s turns cpu ec g cursor d joins child = only_if_holds (HasRight (boot s) turns cpu ec g) (is_memory_of (pd_of now g) d) (given_of now d) (λ is. given is)
  where
    now : KernelState
    now = run (boot s) turns

    given : is_memory_of (pd_of now g) d ≡ true → HasRight (boot s) turns cpu ec g (given_of now d)
    given is =
        let parts = and_parts (is_memory d.kind) (d.pd == pd_of now g) is in
        let domain : d.pd ≡ pd_of now g = eqb-true d.pd (pd_of now g) parts.1 in
        record {
          child = d;
          parent = child.source;
          joins = joins;
          there = child.there;
          edge = child.parent;
          allowed = child.rights;
          domain = domain;
          kind = kind_is d.kind parts.0;
          from = refl;
          size = refl;
          may = refl;
          leads = refl;
          bytes = refl;
          giver = giver_is s turns ec (pd_of now g) child.source.pd child.item child.present (sym child.receiver ∙ domain) (sym child.held);
        }

-- A DERIVATION THAT GOES

-- what stands above a member of a line is in the line
line_up : (f : Delegations) → IsForest f → (n : ℕ) (d t p : Derivation) → IsIn f.list d → d.id < n → IsIn (line_by n f.list (Some d)) t → parent_of f.list t ≡ Some p → IsIn (line_by n f.list (Some d)) p
line_up f forest zero d t p i less there up = absurd there
line_up f forest (suc n) d t p i less (inl same) up = inr (at_head n (omega (arith, younger, less)))
  where
    own : parent_of f.list d ≡ Some p
    own = ap (parent_of f.list) same ∙ up

    younger : p.id < d.id
    younger = (parent_facts f d p forest i own).within.older

    at_head : (m : ℕ) → p.id < m → IsIn (line_by m f.list (parent_of f.list d)) p
    at_head zero small = absurd (omega (arith, small))
    at_head (suc m) small = subst (λ (o : Option Derivation). IsIn (line_by (suc m) f.list o) p) (sym own) (inl refl)
line_up f forest (suc n) d t p i less (inr there) up = inr (by_parent (λ q j k l. line_up f forest n q t p j k l up) (parent_of f.list d) refl there)
  where
    by_parent : ((q : Derivation) → IsIn f.list q → q.id < n → IsIn (line_by n f.list (Some q)) t → IsIn (line_by n f.list (Some q)) p) →
        (o : Option Derivation) → parent_of f.list d ≡ o → IsIn (line_by n f.list o) t → IsIn (line_by n f.list o) p
    by_parent rest None is there = absurd (subst (λ (l : List Derivation). IsIn l t) (line_none n f.list) there)
    by_parent rest (Some q) is there =
        let up = parent_facts f d q forest i is in
        let older = up.within.older in
        rest q up.there (omega (arith, older, less)) there

pub met_pd : (r : Revocation) (d : Derivation) → is_met r d ≡ true → d.pd ≡ r.pd
met_pd r d h = eqb-true d.pd r.pd (and_parts (d.pd == r.pd) _ (and_parts _ (d.pd == r.pd && _) h).1).0

-- the line of what is in a scope has one of the revoker
pub record IsUnder (f : Delegations) (leaf : Derivation) (pd : ℕ) : Type 0 where
  pub ancestor : Derivation
  pub above : Contains (line f.list leaf) ancestor
  pub held : ancestor.pd ≡ pd

pub under : (f : Delegations) (r : Revocation) (leaf : Derivation) → IsForest f → IsIn f.list leaf → in_scope r f.list leaf ≡ true → IsUnder f leaf r.pd
under f r leaf forest i h = by_top (any_in (is_top r f.list) (line f.list leaf) h)
  where
    by_made : (t : Derivation) → IsIn (line f.list leaf) t → (o : Option Derivation) → parent_of f.list t ≡ o → is_made_of r t o ≡ true → IsUnder f leaf r.pd
    by_made t there None up made = absurd (cc)
    by_made t there (Some p) up made =
        record {
          ancestor = p;
          above = contains_from_in (line f.list leaf) p (line_up f forest (suc leaf.id) leaf t p i (omega arith) there up);
          held = met_pd r p (and_parts (is_met r p) _ made).0;
        }

    by_case : (t : Derivation) → IsIn (line f.list leaf) t → ((is_made_of r t (parent_of f.list t) ≡ true) ⊎ (is_own r t ≡ true)) → IsUnder f leaf r.pd
    by_case t there (inl made) = by_made t there (parent_of f.list t) refl made
    by_case t there (inr own) =
        record { ancestor = t; above = contains_from_in (line f.list leaf) t there; held = met_pd r t (and_parts (is_met r t) _ (and_parts r.own _ own).1).0 }

    by_top : (t : Derivation) × IsIn (line f.list leaf) t × (is_top r f.list t ≡ true) → IsUnder f leaf r.pd
    by_top top = by_case top.0 top.1 (or_cases (is_made_of r top.0 (parent_of f.list top.0)) (is_own r top.0) top.2)

-- a context that runs a revoke is revoking
pub record IsRevoking (k : KernelState) (ec : ℕ) (r : Revocation) : Type 0 where
  pub range : Range
  pub own : Bool
  pub state : (context k ec).state ≡ Revoking range own
  pub domain : r.pd ≡ pd_of k ec
  pub is : r ≡ record { pd = pd_of k ec; range = range; own = own }

revoking : (k : KernelState) (ec : ℕ) (r : Revocation) → revoke_of k ec ≡ Some r → IsRevoking k ec r
revoking k ec r runs = by_entry (context_at k ec) refl runs
  where
    by_state : (s : State) → (context k ec).state ≡ s → revoke_by (pd_of k ec) s ≡ Some r → IsRevoking k ec r
    by_state (Revoking range own) is h = record { range = range; own = own; state = is; domain = sym (ap (λ (r : Revocation). r.pd) (same_Some (record { pd = pd_of k ec; range = range; own = own }) r h)); is = sym (same_Some (record { pd = pd_of k ec; range = range; own = own }) r h) }
    by_state other is h = absurd (cc)

    by_entry : (o : Option EcState) → context_at k ec ≡ o → option_and_then (λ x. revoke_by (pd_of k ec) x.state) o ≡ Some r → IsRevoking k ec r
    by_entry None at h = absurd (cc)
    by_entry (Some x) at h = by_state x.state (ap (λ (o : Option EcState). (context_in o).state) at) h

taken_right : (k : KernelState) (turns : List ℕ) (cpu ec g : ℕ) (leaf : Derivation) → IsForest (run k turns).delegations → (after (run k turns) cpu).delegations ≡ branched (run k turns).delegations (branch_by (run k turns) ec (Removes leaf)) →
    IsNextLeaf (run k turns) ec leaf → IfSome (only_if (is_memory_of (pd_of (run k turns) g) leaf) (input_as.Taken leaf.base leaf.order)) (HasRight k turns cpu ec g)
taken_right k turns cpu ec g leaf forest goes next =
    only_if_holds (HasRight k turns cpu ec g) (is_memory_of (pd_of now g) leaf) (input_as.Taken leaf.base leaf.order) (λ is. taken is)
  where
    now : KernelState
    now = run k turns

    taken : is_memory_of (pd_of now g) leaf ≡ true → IsTakenByRight now cpu ec g leaf.base leaf.order
    taken is =
        let parts = and_parts (is_memory leaf.kind) (leaf.pd == pd_of now g) is in
        let facts : IsLeaf next.revoke now.delegations leaf = next.goes forest in
        let runs : IsRevoking now ec next.revoke = revoking now ec next.revoke next.runs in
        let line_ : IsUnder now.delegations leaf next.revoke.pd = under now.delegations next.revoke leaf forest (in_from_contains now.delegations.list leaf facts.there) facts.taken in
        record {
          leaf = leaf;
          goes = goes;
          there = facts.there;
          domain = eqb-true leaf.pd (pd_of now g) parts.1;
          kind = kind_is leaf.kind parts.0;
          from = refl;
          size = refl;
          range = runs.range;
          own = runs.own;
          revokes = runs.state;
          taken = subst (λ (r : Revocation). Contains (scope r now.delegations.list) leaf) runs.is
              (contains_from_in (scope next.revoke now.delegations.list) leaf (in_filtered (in_scope next.revoke now.delegations.list) now.delegations.list leaf
              (in_from_contains now.delegations.list leaf facts.there) facts.taken));
          ancestor = line_.ancestor;
          above = line_.above;
          held = line_.held ∙ runs.domain;
        }

-- EACH

others_right : (s : Scenario) (turns : List ℕ) (cpu ec g : ℕ) (d : Deed) → Acts (run (boot s) turns) cpu ec → IsVirtual (run (boot s) turns) g →
    Warrant (run (boot s) turns) ec d → Asks (run (boot s) turns) ec d → IsAllowed (run (boot s) turns) ec d →
    (after (run (boot s) turns) cpu).delegations ≡ branched (run (boot s) turns).delegations (branch_by (run (boot s) turns) ec d) →
    IfSome (others_input (run (boot s) turns) ec g d) (HasRight (boot s) turns cpu ec g)
others_right s turns cpu ec g Steps acts virtual warrant asks allowed done = store_right (boot s) turns cpu ec g (store_of (instruction (run (boot s) turns) ec))
others_right s turns cpu ec g (Recalls whose) acts virtual warrant asks allowed done =
    only_if_holds (HasRight (boot s) turns cpu ec g) (whose == g) input_as.Recall
    (λ own. subst (MayUse (run (boot s) turns) (pd_of (run (boot s) turns) ec) is_ec control_right) (eqb-true whose g own) warrant)
others_right s turns cpu ec g (Replies caller mark.Exit false) acts virtual warrant asks allowed done = reply_right s turns cpu ec g caller acts virtual asks
others_right s turns cpu ec g (Replies caller mark.Exit true) acts virtual warrant asks allowed done = tt
others_right s turns cpu ec g (Replies caller mark.Call items) acts virtual warrant asks allowed done = tt
others_right s turns cpu ec g (Finishes item end words (sequel.Replied caller mark.Exit)) acts virtual warrant asks allowed done = reply_right s turns cpu ec g caller acts virtual asks.1
others_right s turns cpu ec g (Finishes item end words (sequel.Replied caller mark.Call)) acts virtual warrant asks allowed done = tt
others_right s turns cpu ec g (Finishes item end words other) acts virtual warrant asks allowed done = tt
others_right s turns cpu ec g (Gives child cursor) acts virtual warrant asks allowed done = given_right s turns cpu ec g cursor child done allowed
others_right s turns cpu ec g (Removes leaf) acts virtual warrant asks allowed done = taken_right (boot s) turns cpu ec g leaf (reached_sound s turns).forest done allowed
others_right s turns cpu ec g other acts virtual warrant asks allowed done = tt

deed_right : (s : Scenario) (turns : List ℕ) (cpu ec g : ℕ) → Acts (run (boot s) turns) cpu ec → IsVirtual (run (boot s) turns) g →
    IfSome (input_of (run (boot s) turns) ec g (deed (run (boot s) turns) ec)) (HasRight (boot s) turns cpu ec g)
deed_right s turns cpu ec g acts virtual = elim (cases_eq ec g) [
  | inl same ↦ subst (λ (n : ℕ). IfSome (input_of now n g (deed now n)) (HasRight (boot s) turns cpu n g)) (sym same)
      (subst (λ (o : Option Input). IfSome o (HasRight (boot s) turns cpu g g)) (sym (own_is now g (deed now g))) (own_right (boot s) turns cpu g g (deed now g) refl))
  | inr ne ↦ subst (λ (o : Option Input). IfSome o (HasRight (boot s) turns cpu ec g)) (sym (other_is now ec g (deed now ec) ne))
      (others_right s turns cpu ec g (deed now ec) acts virtual (deed_warrant now ec) (deed_asks now ec) (deed_allowed now ec) (is_done now cpu ec acts).delegations)
]
  where
    now : KernelState
    now = run (boot s) turns

pub input_right : (s : Scenario) (turns : List ℕ) (cpu ec g : ℕ) (i : Input) → IsInputBy s turns cpu ec g i → HasRight (boot s) turns cpu ec g i
input_right s turns cpu ec g i by =
    subst (λ (o : Option Input). IfSome o (HasRight (boot s) turns cpu ec g)) (sym (input_is (run (boot s) turns) cpu ec g by.acts) ∙ by.is) (deed_right s turns cpu ec g by.acts by.virtual)
