-- A turn in which another execution context acts.
use Rattle.std.proofs.Common.{◌≡◌, ℕ, ◌%◌, ◌≢◌, List, [], ◌∷◌, ◌++◌, length, ap, sym, ◌∙◌, subst, refl, inl, inr, arith}
use Rattle.std.specs.Prelude.{Bool, true, false, not, ◌==◌, filter, slice_get, Option, Some, None, IsSome, is_some, option_and_then, option_map, if◌then◌else◌}
use Rattle.std.specs.List.{AllByRecursion, list_any}
use Rattle.std.proofs.lemmas.Bool.{cases_Bool, cases_eq, eq-eqb, ne_eqb}
use Rattle.rv_model.specs.Step.{Once, Raised, Went, Store}
use Rattle.nova_guest.specs.Alone.{applied, with_map, with_maps}
use Rattle.nova_guest.specs.Cells.{cell_at, stored_in}
use Rattle.nova_guest.specs.Keyed.{placed}
use Rattle.nova_guest.specs.Maps.{base_of, is_map, overlaps}
use Rattle.nova_guest.specs.declared.cell.Cell.{Cell}
use Rattle.nova_guest.specs.declared.guest.Guest.{Guest}
use Rattle.nova_guest.specs.declared.guest.GuestState.TheVariants as guest
use Rattle.nova_guest.specs.declared.input.Input.TheVariants as input
use Rattle.nova_guest.specs.declared.map.Map.{Map}
use Rattle.nova_objects.specs.declared.object.Object.{Object}
use Rattle.nova_objects.specs.declared.object.Object.TheVariants.{Pd, Ec, Sc, Pt, Sm}
use Rattle.nova_range.specs.Rights.{write_right}
use Rattle.nova_model.specs.AddressSpaces.{frame_for, stored_at}
use Rattle.nova_model.specs.Capabilities.{is_ec, is_vcpu}
use Rattle.nova_model.specs.Deeds.{address_space, instruction, with_context, memory_after, messages_after, actor_after, stepped, recalled, resumed, brought, completed, with_transfer, done}
use Rattle.nova_model.specs.Deeds.{told as told_words}
use Rattle.nova_model.specs.Delegations.{added, without}
use Rattle.nova_model.specs.Forest.{AreApart, IsFitting}
use Rattle.nova_model.specs.Inputs.{contents_of, foreign_at, foreign_by, given_of, in_ram, is_covered_for, only_if, others_input, reply_of, store_of}
use Rattle.nova_model.specs.Memory.{Memory, written, written_in}
use Rattle.nova_model.specs.State.{KernelState, context, context_at, context_in, message, pd_of}
use Rattle.nova_model.specs.Views.{view, guest_of, guest_state, is_memory_of, map_of, maps_of, cells_of}
use Rattle.nova_model.specs.declared.context.EcState.{EcState}
use Rattle.nova_model.specs.declared.context.Mark.{Mark}
use Rattle.nova_model.specs.declared.context.Mark.TheVariants as mark
use Rattle.nova_model.specs.declared.deed.Deed.{Deed}
use Rattle.nova_model.specs.declared.deed.Deed.TheVariants.{Steps, Recalls, Gives, Finishes, Replies, Removes}
use Rattle.nova_model.specs.declared.delegation.Derivation.{Derivation}
use Rattle.nova_model.specs.declared.transfer.ItemEnd.{ItemEnd}
use Rattle.nova_model.specs.declared.transfer.ItemWords.{ItemWords}
use Rattle.nova_model.specs.declared.transfer.Sequel.{Sequel}
use Rattle.nova_model.specs.declared.transfer.Transfer.{Transfer}
use Rattle.nova_model.specs.declared.transfer.Sequel.TheVariants as sequel
use Rattle.nova_utcb.specs.Messages.{written_back}
use Rattle.law_forest.proofs.Allowed.{GivesFitting}
use Rattle.law_forest.proofs.Members.{IsIn, all_weaker, in_from_contains}
use Rattle.law_isolation.specs.Law.{answered}
use Rattle.law_isolation.proofs.Premises.{HasPremises, IsGuest}
use Rattle.law_isolation.proofs.Exchanges.{apart_maps, cells_given_of, covered_for, maps_added, maps_others, none_overlap, IsApartFrom}
use Rattle.law_isolation.proofs.OwnTurns.{guest_at}
use Rattle.law_isolation.proofs.Removals.{cells_taken, has_taken, maps_taken, maps_untaken}
use Rattle.law_isolation.proofs.Replies.{back_same}
use Rattle.law_isolation.proofs.Seen.{IsSeenSame, maps_at, seen_context, seen_same, seen_self, seen_trans, view_context, view_is, view_self, at_other}
use Rattle.law_isolation.proofs.Spaces.{MapsApart, apart_maps_of, cell_of, same_kind}
use Rattle.law_isolation.proofs.Unseen.{Facts, WaitsFor, unseen_law}
use Rattle.law_isolation.proofs.Stores.{cells_written, stored_nowhere}

-- what another does is one input of it
abbrev pub OtherLaw : KernelState → ℕ → ℕ → Deed → Type 0
OtherLaw k ec g d = view (done k ec d) g ≡ (answered (view k g) (others_input k ec g d)).guest

-- A STORE

-- the guest with other cells
cells_view : (k : KernelState) (g : ℕ) (m : Memory) (cells : List Cell) → cells_of (maps_at k g) m.ram ≡ cells →
    view (record k { memory = m }) g ≡ record (view k g) { cells = cells }
cells_view k g m cells same =
    view_is (record k { memory = m }) g
    ∙ (ap (λ (cs : List Cell). record (guest_at k g) { cells = cs }) same ∙ sym (ap (λ (v : Guest). record v { cells = cells }) (view_is k g)))

alone_foreign : (v : Guest) (frame offset width value : ℕ) →
    (answered v (Some (input.Foreign frame offset width value))).guest ≡ record v { cells = stored_in v.cells frame offset width value }
unfolding applied
alone_foreign v frame offset width value = refl

pub view_cells : (k : KernelState) (g : ℕ) → (view k g).cells ≡ cells_of (maps_at k g) k.memory.ram
view_cells k g = ap (λ (v : Guest). v.cells) (view_is k g)

-- to a RAM frame
ram_law : (k : KernelState) (g : ℕ) (s : Store) (f : ℕ) → HasPremises k →
    view (record k { memory = written k.memory f (s.address % 4096) s.width s.value }) g ≡ (answered (view k g) (foreign_at k (pd_of k g) s f)).guest
ram_law k g s f sound = by_cover (is_covered_for k (pd_of k g) f) refl
  where
    stored_cells : List Cell
    stored_cells = stored_in (cells_of (maps_at k g) k.memory.ram) f (s.address % 4096) s.width s.value

    at_view : view (record k { memory = written k.memory f (s.address % 4096) s.width s.value }) g ≡ record (view k g) { cells = stored_in (cells_of (maps_at k g) k.memory.ram) f (s.address % 4096) s.width s.value }
    at_view = cells_view k g (written k.memory f (s.address % 4096) s.width s.value) (stored_in (cells_of (maps_at k g) k.memory.ram) f (s.address % 4096) s.width s.value)
        (cells_written (maps_at k g) k.memory f (s.address % 4096) s.width s.value)

    uncovered : is_covered_for k (pd_of k g) f ≡ false → cell_at (cells_of (maps_at k g) k.memory.ram) f ≡ None
    uncovered is = cell_of (maps_at k g) k.memory.ram f ∙ rw (sym (covered_for (pd_of k g) f k.delegations.list sound.forest.apart) ∙ is) refl

    by_cover : (t : Bool) → is_covered_for k (pd_of k g) f ≡ t →
        view (record k { memory = written k.memory f (s.address % 4096) s.width s.value }) g
        ≡ (answered (view k g) (if t then Some (input.Foreign f (s.address % 4096) s.width s.value) else None)).guest
    by_cover true is =
        at_view ∙ (ap (λ (cs : List Cell). record (view k g) { cells = stored_in cs f (s.address % 4096) s.width s.value }) (sym (view_cells k g))
        ∙ sym (alone_foreign (view k g) f (s.address % 4096) s.width s.value))
    by_cover false is =
        at_view ∙ (ap (λ (cs : List Cell). record (view k g) { cells = cs })
        (stored_nowhere (cells_of (maps_at k g) k.memory.ram) f (s.address % 4096) s.width s.value (uncovered is) ∙ sym (view_cells k g)))

-- to a frame of either kind
frame_law : (k : KernelState) (g : ℕ) (s : Store) (f : ℕ) → HasPremises k → (b : Option (List ℕ)) → slice_get k.memory.ram f ≡ b →
    view (record k { memory = written_in k.memory b f (s.address % 4096) s.width s.value }) g
    ≡ (answered (view k g) (option_and_then (foreign_at k (pd_of k g) s) (if is_some b then Some f else None))).guest
frame_law k g s f sound (Some bytes) is =
    ap (λ (b : Option (List ℕ)). view (record k { memory = written_in k.memory b f (s.address % 4096) s.width s.value }) g) (sym is) ∙ ram_law k g s f sound
frame_law k g s f sound None is = seen_same k _ g (record { own = refl; object = refl; maps = refl; ram = refl })

stored_law : (k : KernelState) (g : ℕ) (s : Store) (f : Option ℕ) → HasPremises k →
    view (record k { memory = stored_at k.memory s f }) g ≡ (answered (view k g) (option_and_then (foreign_at k (pd_of k g) s) (option_and_then (in_ram k) f))).guest
stored_law k g s None sound = seen_same k _ g (record { own = refl; object = refl; maps = refl; ram = refl })
stored_law k g s (Some f) sound = frame_law k g s f sound (slice_get k.memory.ram f) refl

store_law : (k : KernelState) (ec g : ℕ) (store : Option Store) (messages : List (Option (List ℕ))) → HasPremises k →
    view (record k { memory = memory_after (address_space k ec) store k.memory; messages = messages }) g
    ≡ (answered (view k g) (option_and_then (foreign_by k ec (pd_of k g)) store)).guest
store_law k ec g None messages sound = seen_same k _ g (record { own = refl; object = refl; maps = refl; ram = refl })
store_law k ec g (Some s) messages sound =
    seen_same (record k { memory = memory_after (address_space k ec) (Some s) k.memory }) _ g (record { own = refl; object = refl; maps = refl; ram = refl })
    ∙ stored_law k g s (frame_for (address_space k ec) write_right s.address) sound

steps_law : (k : KernelState) (ec g : ℕ) → HasPremises k → ec ≢ g → (o : Once) →
    view (stepped k ec o) g ≡ (answered (view k g) (option_and_then (foreign_by k ec (pd_of k g)) (store_of o))).guest
steps_law k ec g sound ne (Raised reason q0 q1) = refl
steps_law k ec g sound ne (Went regs store) =
    view_context (record k { memory = memory_after (address_space k ec) store k.memory; messages = messages_after (address_space k ec) ec store k.messages }) ec g _ ne
    ∙ store_law k ec g store (messages_after (address_space k ec) ec store k.messages) sound

-- A RECALL

alone_recalls : (v : Guest) → (answered v (Some input.Recall)).guest ≡ record v { recall = true }
unfolding applied
alone_recalls v = refl

recalled_itself : (k : KernelState) (g : ℕ) (o : Option EcState) → context_at k g ≡ o → IsSome (context_at k g) → view (recalled k g o) g ≡ record (view k g) { recall = true }
recalled_itself k g None is there = absurd (cc)
recalled_itself k g (Some x) is there =
    view_self k g (record x { recall = true }) there
    ∙ (ap (λ (o : Option EcState). guest_of (record (context_in o) { recall = true }) (maps_at k g) k.memory.ram) (sym is)
    ∙ sym (ap (λ (v : Guest). record v { recall = true }) (view_is k g)))

recalled_other : (k : KernelState) (whose g : ℕ) (o : Option EcState) → whose ≢ g → view (recalled k whose o) g ≡ view k g
recalled_other k whose g None ne = refl
recalled_other k whose g (Some x) ne = view_context k whose g _ ne

recall_law : (k : KernelState) (whose g : ℕ) → IsSome (context_at k g) → view (recalled k whose (context_at k whose)) g ≡ (answered (view k g) (only_if (whose == g) input.Recall)).guest
recall_law k whose g there = elim (cases_eq whose g) [
  | inl same ↦ rw (eq-eqb whose g same) (subst (λ (n : ℕ). view (recalled k n (context_at k n)) g ≡ (answered (view k g) (Some input.Recall)).guest) (sym same)
      (recalled_itself k g (context_at k g) refl there ∙ sym (alone_recalls (view k g))))
  | inr ne ↦ rw (ne_eqb whose g ne) (recalled_other k whose g (context_at k whose) ne)
]

-- A REPLY

vcpu_is_ec : (o : Option Object) → option_map is_vcpu o ≡ Some true → option_map is_ec o ≡ Some true
vcpu_is_ec None h = absurd (cc)
vcpu_is_ec (Some (Ec pd cpu kind event)) h = refl
vcpu_is_ec (Some Pd) h = absurd (cc)
vcpu_is_ec (Some (Sc ec cpu priority quantum)) h = absurd (cc)
vcpu_is_ec (Some (Pt ec mtd ip)) h = absurd (cc)
vcpu_is_ec (Some Sm) h = absurd (cc)

guest_registers : (k : KernelState) (g : ℕ) → HasPremises k → IsGuest k g → length (context k g).regs.x ≡ 32
guest_registers k g sound is = sound.whole.registers g (vcpu_is_ec (slice_get k.objects g) is.object)

alone_resumes : (v : Guest) (m : List ℕ) → v.state ≡ guest.Waiting → length m ≡ 128 → length v.regs.x ≡ 32 →
    (answered v (Some (reply_of m))).guest ≡ record v { state = guest.Ready; regs = written_back m v.regs }
unfolding applied
alone_resumes v m waits size count = rw waits (ap (λ (r : _). record v { state = guest.Ready; regs = r }) (back_same m v.regs size count))

-- after what leaves the view
resumed_after : (k mid : KernelState) (g : ℕ) (m : List ℕ) → IsSeenSame k mid g → IsSome (context_at mid g) → length (context k g).regs.x ≡ 32 → length m ≡ 128 →
    guest_state (context k g).state ≡ guest.Waiting → view (with_context mid g (resumed (context mid g) mark.Exit m)) g ≡ (answered (view k g) (Some (reply_of m))).guest
resumed_after k mid g m seen there count size waits =
    view_self mid g (resumed (context mid g) mark.Exit m) there
    ∙ (sym (alone_resumes (guest_at mid g) m (ap (λ (x : EcState). guest_state x.state) seen.own ∙ waits) size (ap (λ (x : EcState). length x.regs.x) seen.own ∙ count))
    ∙ (sym (ap (λ (v : Guest). (answered v (Some (reply_of m))).guest) (view_is mid g)) ∙ ap (λ (v : Guest). (answered v (Some (reply_of m))).guest) (seen_same k mid g seen)))

completed_law : (k mid : KernelState) (ec g caller : ℕ) → IsSeenSame k mid g → IsSome (context_at mid g) → HasPremises k → IsGuest k g → message mid ec ≡ message k ec →
    WaitsFor k g caller mark.Exit → view (completed mid ec caller mark.Exit) g ≡ (answered (view k g) (only_if (caller == g) (reply_of (message k ec)))).guest
completed_law k mid ec g caller seen there sound is same waits = elim (cases_eq caller g) [
  | inl own ↦ rw (eq-eqb caller g own) (subst (λ (n : ℕ). view (completed mid ec n mark.Exit) g ≡ (answered (view k g) (Some (reply_of (message k ec)))).guest) (sym own)
      (ap (λ (m : List ℕ). view (with_context mid g (resumed (context mid g) mark.Exit m)) g) same ∙ resumed_after k mid g (message k ec) seen there (guest_registers k g sound is) (sound.whole.messages ec) (waits own).1))
  | inr ne ↦ rw (ne_eqb caller g ne) (view_context mid caller g _ ne ∙ seen_same k mid g seen)
]

-- a call is not the guest's
completed_call : (k mid : KernelState) (ec g caller : ℕ) → IsSeenSame k mid g → WaitsFor k g caller mark.Call → view (completed mid ec caller mark.Call) g ≡ view k g
completed_call k mid ec g caller seen waits = view_context mid caller g _ (λ own. no_exit ((waits own).0)) ∙ seen_same k mid g seen
  where
    no_exit : mark.Call ≢ mark.Exit
    no_exit e = absurd (cc)

-- A DERIVATION THAT IS MADE

alone_gives : (v : Guest) (k : KernelState) (d : Derivation) → list_any (overlaps d.base d.order) v.maps ≡ false →
    (answered v (Some (given_of k d))).guest ≡ with_map v (map_of d) (contents_of k.memory.ram d.target d.order)
unfolding applied
alone_gives v k d free = rw free refl

pub fits_apart : (pd : ℕ) (d : Derivation) (list : List Derivation) → is_memory_of pd d ≡ true →
    AllByRecursion (λ a. a.pd ≡ d.pd → a.kind ≡ d.kind → AreApart a d) list → AllByRecursion (IsApartFrom pd d) list
fits_apart pd d list is all =
    all_weaker (λ a. a.pd ≡ d.pd → a.kind ≡ d.kind → AreApart a d) (IsApartFrom pd d) list
    (λ a apart of_. turned a (apart_maps_of a d (apart (grind arith) (same_kind a.kind d.kind (grind arith) (grind arith))))) all
  where
    turned : (a : Derivation) → MapsApart (map_of a) (map_of d) → MapsApart (map_of d) (map_of a)
    turned a (inl h) = inr h
    turned a (inr h) = inl h

given_view : (k : KernelState) (g : ℕ) (d : Derivation) → HasPremises k → IsFitting k.delegations d → is_memory_of (pd_of k g) d ≡ true →
    guest_of (context k g) (maps_of (pd_of k g) (k.delegations.list ++ d ∷ [])) k.memory.ram ≡ (answered (guest_at k g) (Some (given_of k d))).guest
given_view k g d sound fits is =
    let all : AllByRecursion (IsApartFrom (pd_of k g) d) k.delegations.list = fits_apart (pd_of k g) d k.delegations.list is fits.apart in
    let maps : AllByRecursion (MapsApart (map_of d)) (maps_at k g) = apart_maps (pd_of k g) d k.delegations.list all in
    ap (λ (ms : List Map). guest_of (context k g) ms k.memory.ram) (maps_added (pd_of k g) d k.delegations.list is all)
    ∙ (ap (λ (cs : List Cell). record (guest_at k g) { maps = placed base_of (map_of d) (maps_at k g); cells = cs })
    (cells_given_of (map_of d) (maps_at k g) k.memory.ram sound.whole.frames maps)
    ∙ sym (alone_gives (guest_at k g) k d (none_overlap (map_of d) (maps_at k g) maps)))

give_law : (k : KernelState) (g : ℕ) (d : Derivation) → HasPremises k → IsFitting k.delegations d →
    view (record k { delegations = added k.delegations d }) g ≡ (answered (view k g) (only_if (is_memory_of (pd_of k g) d) (given_of k d))).guest
give_law k g d sound fits = elim (cases_Bool (is_memory_of (pd_of k g) d)) [
  | inl of_ ↦ rw of_ (view_is (record k { delegations = added k.delegations d }) g
      ∙ (given_view k g d sound fits of_ ∙ sym (ap (λ (v : Guest). (answered v (Some (given_of k d))).guest) (view_is k g))))
  | inr not_ ↦ rw not_ (seen_same k (record k { delegations = added k.delegations d }) g
      (record { own = refl; object = refl; maps = maps_others (pd_of k g) d k.delegations.list not_; ram = refl }))
]

-- A DERIVATION THAT GOES

pub alone_takes : (v : Guest) (base order : ℕ) → list_any (is_map base order) v.maps ≡ true →
    (answered v (Some (input.Taken base order))).guest ≡ with_maps v (filter (λ m. not (is_map base order m)) v.maps)
unfolding applied
alone_takes v base order there = rw there refl

taken_view : (k : KernelState) (g : ℕ) (leaf : Derivation) → HasPremises k → IsIn k.delegations.list leaf → is_memory_of (pd_of k g) leaf ≡ true →
    guest_of (context k g) (maps_of (pd_of k g) (without k.delegations leaf.id).list) k.memory.ram ≡ (answered (guest_at k g) (Some (input.Taken leaf.base leaf.order))).guest
taken_view k g leaf sound there is =
    let left : List Map = filter (λ m. not (is_map leaf.base leaf.order m)) (maps_at k g) in
    ap (λ (ms : List Map). guest_of (context k g) ms k.memory.ram) (maps_taken (pd_of k g) k.delegations leaf sound.forest there is)
    ∙ (ap (λ (cs : List Cell). record (guest_at k g) { maps = left; cells = cs }) (cells_taken (λ m. not (is_map leaf.base leaf.order m)) (maps_at k g) k.memory.ram)
    ∙ sym (alone_takes (guest_at k g) leaf.base leaf.order (has_taken (pd_of k g) k.delegations leaf sound.forest there is)))

take_law : (k : KernelState) (g : ℕ) (leaf : Derivation) → HasPremises k → IsIn k.delegations.list leaf →
    view (record k { delegations = without k.delegations leaf.id }) g ≡ (answered (view k g) (only_if (is_memory_of (pd_of k g) leaf) (input.Taken leaf.base leaf.order))).guest
take_law k g leaf sound there = elim (cases_Bool (is_memory_of (pd_of k g) leaf)) [
  | inl of_ ↦ rw of_ (view_is (record k { delegations = without k.delegations leaf.id }) g
      ∙ (taken_view k g leaf sound there of_ ∙ sym (ap (λ (v : Guest). (answered v (Some (input.Taken leaf.base leaf.order))).guest) (view_is k g))))
  | inr not_ ↦ rw not_ (seen_same k (record k { delegations = without k.delegations leaf.id }) g
      (record { own = refl; object = refl; maps = maps_untaken (pd_of k g) k.delegations leaf sound.forest there not_; ram = refl }))
]

-- EACH DEED

-- its own context is written first, and then the rest
abbrev mid : KernelState → ℕ → Deed → KernelState
mid k ec d = with_context k ec (actor_after (context k ec) d)

mid_seen : (k : KernelState) (ec g : ℕ) (d : Deed) → ec ≢ g → IsSeenSame k (mid k ec d) g
mid_seen k ec g d ne = seen_context k ec g (actor_after (context k ec) d) ne

mid_there : (k : KernelState) (ec g : ℕ) (d : Deed) → ec ≢ g → IsGuest k g → IsSome (context_at (mid k ec d) g)
mid_there k ec g d ne is = ap is_some (at_other k ec g (actor_after (context k ec) d) ne) ∙ is.there

told_seen : (k : KernelState) (g item : ℕ) (words : Option ItemWords) → IsSeenSame k (told_words k item words) g
told_seen k g item None = seen_self k g
told_seen k g item (Some w) = record { own = refl; object = refl; maps = refl; ram = refl }

brought_seen : (k : KernelState) (ec g caller : ℕ) (came : Mark) → IsSeenSame k (brought k ec caller came) g
brought_seen k ec g caller mark.Call = record { own = refl; object = refl; maps = refl; ram = refl }
brought_seen k ec g caller mark.Exit = seen_self k g

-- how far it is with its items is not in the view
transfer_view : (k : KernelState) (ec g : ℕ) (t : Transfer) → view (with_transfer k ec t) g ≡ view k g
transfer_view k ec g t = seen_same k (with_transfer k ec t) g (record { own = refl; object = refl; maps = refl; ram = refl })

replies_law : (k : KernelState) (ec g caller : ℕ) (came : Mark) (items : Bool) → HasPremises k → ec ≢ g → IsGuest k g → WaitsFor k g caller came →
    OtherLaw k ec g (Replies caller came items)
replies_law k ec g caller mark.Exit true sound ne is waits = view_context k ec g _ ne
replies_law k ec g caller mark.Call true sound ne is waits =
    let d : Deed = Replies caller mark.Call true in
    seen_same k (brought (mid k ec d) ec caller mark.Call) g (seen_trans k (mid k ec d) (brought (mid k ec d) ec caller mark.Call) g (mid_seen k ec g d ne) (brought_seen (mid k ec d) ec g caller mark.Call))
replies_law k ec g caller mark.Exit false sound ne is waits =
    let d : Deed = Replies caller mark.Exit false in completed_law k (mid k ec d) ec g caller (mid_seen k ec g d ne) (mid_there k ec g d ne is) sound is refl waits
replies_law k ec g caller mark.Call false sound ne is waits =
    let d : Deed = Replies caller mark.Call false in
    completed_call k (brought (mid k ec d) ec caller mark.Call) ec g caller
    (seen_trans k (mid k ec d) (brought (mid k ec d) ec caller mark.Call) g (mid_seen k ec g d ne) (brought_seen (mid k ec d) ec g caller mark.Call)) waits

finished_seen : (k : KernelState) (ec g item : ℕ) (end : ItemEnd) (words : Option ItemWords) (after : Sequel) → ec ≢ g →
    IsSeenSame k (told_words (mid k ec (Finishes item end words after)) item words) g
finished_seen k ec g item end words after ne =
    let m : KernelState = mid k ec (Finishes item end words after) in
    seen_trans k m (told_words m item words) g (mid_seen k ec g (Finishes item end words after) ne) (told_seen m g item words)

finishes_law : (k : KernelState) (ec g item : ℕ) (end : ItemEnd) (words : Option ItemWords) (after : Sequel) → HasPremises k → ec ≢ g → IsGuest k g →
    Facts k g (Finishes item end words after) → OtherLaw k ec g (Finishes item end words after)
finishes_law k ec g item end words sequel.Item sound ne is facts = transfer_view _ ec g _ ∙ seen_same k _ g (finished_seen k ec g item end words sequel.Item ne)
finishes_law k ec g item end words sequel.Opened sound ne is facts = transfer_view _ ec g _ ∙ seen_same k _ g (finished_seen k ec g item end words sequel.Opened ne)
finishes_law k ec g item end words sequel.Taken sound ne is facts = transfer_view _ ec g _ ∙ seen_same k _ g (finished_seen k ec g item end words sequel.Taken ne)
finishes_law k ec g item end words (sequel.Replied caller mark.Call) sound ne is facts =
    transfer_view _ ec g _ ∙ completed_call k _ ec g caller (finished_seen k ec g item end words (sequel.Replied caller mark.Call) ne) facts.0
finishes_law k ec g item end words (sequel.Replied caller mark.Exit) sound ne is facts =
    transfer_view _ ec g _ ∙ by_words words (facts.1 refl)
  where
    by_words : (w : Option ItemWords) → w ≡ None →
        view (completed (told_words (mid k ec (Finishes item end words (sequel.Replied caller mark.Exit))) item w) ec caller mark.Exit) g
        ≡ (answered (view k g) (only_if (caller == g) (reply_of (message k ec)))).guest
    by_words None none =
        let d : Deed = Finishes item end words (sequel.Replied caller mark.Exit) in completed_law k (mid k ec d) ec g caller (mid_seen k ec g d ne) (mid_there k ec g d ne is) sound is refl facts.0
    by_words (Some w) none = absurd (cc)

pub other_law : (k : KernelState) (ec g : ℕ) (d : Deed) → HasPremises k → ec ≢ g → IsGuest k g → Facts k g d → GivesFitting k.delegations d → OtherLaw k ec g d
other_law k ec g Steps sound ne is facts fits = steps_law k ec g sound ne (instruction k ec)
other_law k ec g (Recalls whose) sound ne is facts fits =
    recall_law (mid k ec (Recalls whose)) whose g (mid_there k ec g (Recalls whose) ne is)
    ∙ ap (λ (v : Guest). (answered v (only_if (whose == g) input.Recall)).guest) (view_context k ec g _ ne)
other_law k ec g (Gives child cursor) sound ne is facts fits = transfer_view _ ec g _ ∙ give_law k g child sound fits
other_law k ec g (Finishes item end words after) sound ne is facts fits = finishes_law k ec g item end words after sound ne is facts
other_law k ec g (Replies caller came items) sound ne is facts fits = replies_law k ec g caller came items sound ne is facts
other_law k ec g (Removes leaf) sound ne is facts fits = take_law k g leaf sound (in_from_contains k.delegations.list leaf facts)
other_law k ec g other sound ne is facts fits = unseen_law k ec g other refl ne is facts
