-- What a gift and a deed do to execution contexts, message words, places in items, ranges and frames is the same to a side's part.
use Rattle.std.proofs.Common.{◌≡◌, ◌<◌, ℕ, ◌+◌, List, [], ◌∷◌, ◌++◌, length, refl, sym, ap, ◌∙◌, subst, inl, inr, arith}
use Rattle.std.specs.Prelude.{◌&&◌, ◌||◌, ◌⊎◌, ◌≢◌, Bool, true, false, not, slice_set, Contains, is_some, slice_get, option_map, Option, Some, None, if◌then◌else◌}
use Rattle.std.specs.List.{find}
use Rattle.std.proofs.lemmas.Bool.{and_parts}
use Rattle.std.proofs.lemmas.Option.{same_Some}
use Rattle.nova_range.specs.declared.range.Kind.{Kind}
use Rattle.nova_range.specs.declared.range.Kind.TheVariants.{Obj}
use Rattle.rv_model.specs.Registers.{Registers}
use Rattle.nova_objects.specs.declared.object.Object.{Object}
use Rattle.nova_objects.specs.declared.object.Object.TheVariants.{Pd, Ec, Sc, Pt, Sm}
use Rattle.nova_range.specs.declared.status.Status.TheVariants.{Success}
use Rattle.nova_utcb.specs.Messages.{copied}
use Rattle.nova_model.specs.Capabilities.{is_ec}
use Rattle.nova_model.specs.Delegations.{Delegations, added, covers, derived, is_child_of, is_memory}
use Rattle.nova_model.specs.Forest.{IsChildless}
use Rattle.nova_model.specs.Runs.{after}
use Rattle.nova_model.specs.State.{Contexts, KernelState, ec_in, ec_of, entry, message, no_words, pd_of, with_ec}
use Rattle.nova_model.specs.declared.context.EcState.{EcState}
use Rattle.nova_model.specs.declared.context.Mark.TheVariants as mark
use Rattle.nova_model.specs.declared.context.State.TheVariants.{Ready}
use Rattle.nova_model.specs.declared.deed.Deed.{Deed}
use Rattle.nova_model.specs.declared.deed.Deed.TheVariants as deeds
use Rattle.nova_model.specs.declared.delegation.Derivation.{Derivation}
use Rattle.nova_model.specs.declared.transfer.Sequel.TheVariants as sequel
use Rattle.nova_model.specs.declared.transfer.Transfer.{Transfer}
use Rattle.law_forest.specs.Effects.{Answers, Branch, Edits, Joins, Parks, Recalled, Resumes, Stays, all_edited, branch_by, branched, edit_at, edited, edits_by, put, recalls_by, transfer_by, wakes_by, words_by}
use Rattle.law_forest.specs.Changes.{Change, Goes, Joins as JoinsTo, Stays as StaysSo}
use Rattle.law_forest.proofs.Changes.{turn_change}
use Rattle.law_forest.proofs.Members.{IsIn, contains_from_in, in_from_contains}
use Rattle.law_forest.proofs.Scopes.{next_childless}
use Rattle.law_turns.proofs.Links.{place}
use Rattle.law_turns.proofs.Setting.{get_other}
use Rattle.law_turns.proofs.Tags.{get_map}
use Rattle.law_turns.proofs.TablesKept.{set_there, tags_at}
use Rattle.law_turns.specs.Tables.{HasTables, tag, tag_of}
use Rattle.law_isolation.specs.Sound.{IsSound}
use Rattle.law_isolation.proofs.Runs.{turn_sound}
use Rattle.law_origins.proofs.Warrants.{Warrant}
use Rattle.law_integrity.specs.Confined.{Of}
use Rattle.law_flow.specs.Flow.{Front, Held, front_of, fronts, held_by, origin_of}
use Rattle.law_flow.proofs.Doing.{Shown}
use Rattle.law_flow.proofs.Giving.{in_joined, spaces_joined}
use Rattle.law_flow.proofs.Holds.{IsTwin}
use Rattle.law_flow.proofs.Taking.{last_one, last_there}
use Rattle.law_flow.proofs.Keeping.{AllOwn}
use Rattle.law_flow.proofs.Tables.{AreSame, edits_alike, fronts_alike, fronts_set, set_itself}
use Rattle.law_service.specs.Service.{Answer, Begin, Gift, Item, Part, Recall, Return, Up, bytes_of, concerns, gift_branch, gift_edits, gift_memory, gift_of, gift_words, goes_on, if_foreign, if_of, is_foreign, is_other, past_parents, returned}
use Rattle.law_service.proofs.Ranges.{foreign_origin, joined_origins, laid_itself, laid_length, no_own_child, past_childless, root_origin}
use Rattle.law_service.proofs.Words.{back_so, copied_through}

-- AN EDIT THAT THE PART DOESN'T SHOW

itself : {T : Type 0} (P : ℕ → Type 0) (xs : List T) → AreSame P xs xs
itself P xs n p = refl

unseen_edit : (P : ℕ → Type 0) (cs : Contexts) (ec : ℕ) (x : EcState) → (P ec → ⊥) → AreSame P cs (with_ec cs ec x)
unseen_edit P cs ec x never n p = get_other cs ec n (Some x) (λ same. never (subst P same p))

unseen_front : (P : ℕ → Type 0) (cs : Contexts) (ec : ℕ) (x : EcState) → (P ec → ⊥) → AreSame P (fronts cs) (fronts (with_ec cs ec x))
unseen_front P cs ec x never n p =
    ap (λ (l : List (Option Front)). slice_get l n) (fronts_set cs ec x) ∙ get_other (fronts cs) ec n (Some (front_of x)) (λ same. never (subst P same p))

pub not_of : (P : ℕ → Bool) (n : ℕ) → P n ≡ false → P n ≡ true → ⊥
not_of P n none some = let both : false ≡ true = sym none ∙ some in cc

-- WHAT IS GIVEN BY ITEMS

pub other_gives : (t : Bool) (x g : Gift) → if_foreign t x ≡ Some g → (t ≡ true) × (x ≡ g)
other_gives true x g h = (refl, same_Some x g h)
other_gives false x g h = absurd (cc)

pub by_other : (S : ℕ → Bool) (k : KernelState) (ec : ℕ) → is_other S k ec ≡ true → S (pd_of k ec) ≡ true → ⊥
by_other S k ec other s = let both : not true ≡ true = sym (ap not s) ∙ other in cc

-- A CONTEXT THAT GIVES GOES ON

pub record SameEdits (k : KernelState) (S P : ℕ → Type 0) (es fs : Edits) : Type 0 where
  pub contexts : AreSame (Shown k S P) (all_edited k.contexts es) (all_edited k.contexts fs)
  pub fronts : AreSame P (fronts (all_edited k.contexts es)) (fronts (all_edited k.contexts fs))

goes_so : (k : KernelState) (S P : ℕ → Bool) (ec : ℕ) (es : Edits) → SameEdits k (Of S) (Of P) (goes_on (if_of P ec) es) ((ec, Answers Success None) ∷ es)
goes_so k S P ec es = by_test (P ec) refl
  where
    by_test : (t : Bool) → P ec ≡ t → SameEdits k (Of S) (Of P) (goes_on (if t then Some ec else None) es) ((ec, Answers Success None) ∷ es)
    by_test true is = record { contexts = itself (Shown k (Of S) (Of P)) _; fronts = itself (Of P) _ }
    by_test false is =
        let x : EcState = edited (ec_of k.contexts ec) (Answers Success None) in
        record {
          contexts = edits_alike (Shown k (Of S) (Of P)) k.contexts (edit_at k.contexts ec (Answers Success None)) es (unseen_edit (Shown k (Of S) (Of P)) k.contexts ec x (λ q. not_of P ec is q.0));
          fronts = fronts_alike (Of P) k.contexts (edit_at k.contexts ec (Answers Success None)) es (unseen_front (Of P) k.contexts ec x (not_of P ec is));
        }

-- A CONTEXT THAT IS RECALLED IS THERE

tagged : (n : ℕ) (o : Option (Option EcState)) (p : Option Object) → option_map tag o ≡ option_map (tag_of n) p → option_map is_ec p ≡ Some true → is_some (entry o) ≡ true
tagged n (Some (Some x)) p same is = refl
tagged n (Some None) (Some (Ec pd cpu kind event)) same is = absurd (cc)
tagged n None (Some (Ec pd cpu kind event)) same is = absurd (cc)
tagged n o (Some Pd) same is = absurd (cc)
tagged n o (Some (Sc donor cpu priority quantum)) same is = absurd (cc)
tagged n o (Some (Pt handler mtd ip)) same is = absurd (cc)
tagged n o (Some Sm) same is = absurd (cc)
tagged n o None same is = absurd (cc)

recalled_there : (k : KernelState) (ec whose : ℕ) → HasTables k → option_map is_ec (slice_get k.objects whose) ≡ Some true →
    recalls_by whose (ec_in (edit_at k.contexts ec (Answers Success None)) whose) ≡ (whose, Recalled) ∷ []
recalled_there k ec whose tables is =
    by_entry (ec_in (edit_at k.contexts ec (Answers Success None)) whose)
    (set_there k.contexts ec (edited (ec_of k.contexts ec) (Answers Success None)) whose (tagged (0 + whose) (slice_get k.contexts whose) (slice_get k.objects whose) (tags_at k whose tables) is))
  where
    by_entry : (o : Option EcState) → is_some o ≡ true → recalls_by whose o ≡ (whose, Recalled) ∷ []
    by_entry None h = absurd (cc)
    by_entry (Some x) h = refl

-- A CONTEXT THAT STAYS

pub entry_there : (cs : Contexts) (ec : ℕ) (x : EcState) → ec_in cs ec ≡ Some x → slice_get cs ec ≡ Some (Some x)
entry_there cs ec x is = by_entry (slice_get cs ec) is
  where
    by_entry : (o : Option (Option EcState)) → entry o ≡ Some x → o ≡ Some (Some x)
    by_entry None h = absurd (cc)
    by_entry (Some o) h = ap (λ (p : Option EcState). Some p) h

pub front_stays : (cs : Contexts) (ec : ℕ) (x : EcState) (n : ℕ) → ec_in cs ec ≡ Some x → slice_get (slice_set (fronts cs) ec (Some (front_of x))) n ≡ slice_get (fronts cs) n
front_stays cs ec x n is = elim (place n ec) [
  | inl same ↦
      let there : slice_get (fronts cs) ec ≡ Some (Some (front_of x)) = get_map (option_map front_of) cs ec ∙ ap (option_map (option_map front_of)) (entry_there cs ec x is) in
      ap (slice_get (slice_set (fronts cs) ec (Some (front_of x)))) same
      ∙ set_itself (fronts cs) ec (Some (front_of x))
      ∙ ap (option_map (λ (y : Option Front). Some (front_of x))) there
      ∙ sym (ap (slice_get (fronts cs)) same ∙ there)
  | inr other ↦ get_other (fronts cs) ec n (Some (front_of x)) other
]

-- RANGES

-- one that joined in a turn
pub record IsNewest (k : KernelState) (child : Derivation) : Type 0 where
  pub id : child.id ≡ k.delegations.next
  pub childless : IsChildless k.delegations.list child.id
  pub other : is_child_of child.id child ≡ false

pub newest : (k : KernelState) (cpu : ℕ) (child : Derivation) → IsSound k → (after k cpu).delegations ≡ added k.delegations child → IsNewest k child
newest k cpu child sound is = by_change (turn_change k cpu sound.forest)
  where
    grown : (after k cpu).delegations.next ≡ k.delegations.next + 1
    grown = ap (λ (f : Delegations). f.next) is

    by_id : child.id ≡ k.delegations.next → IsNewest k child
    by_id same = record {
      id = same;
      childless = subst (IsChildless k.delegations.list) (sym same) (next_childless k.delegations sound.forest);
      other = no_own_child (after k cpu).delegations (turn_sound k cpu sound).forest child (subst (λ (f : Delegations). IsIn f.list child) (sym is) (last_there k.delegations.list child));
    }

    by_change : Change k.delegations (after k cpu).delegations → IsNewest k child
    by_change (StaysSo same) = absurd (let next = ap (λ (f : Delegations). f.next) same in omega (arith, next, grown))
    by_change (JoinsTo d fits same) = by_id (ap (λ (x : Derivation). x.id) (last_one k.delegations.list child d (ap (λ (f : Delegations). f.list) (sym is ∙ same))) ∙ fits.id)
    by_change (Goes d there childless same) = absurd (let next : (after k cpu).delegations.next ≡ k.delegations.next = ap (λ (f : Delegations). f.next) same in omega (arith, next, grown))

-- a gift and a deed leave the side the same ranges, frames and objects
pub record AreRangesSo (k : KernelState) (S P : ℕ → Bool) (g : Gift) (o : Option Branch) : Type 0 where
  pub spaces : (kind : Kind) (pd place : ℕ) → S pd ≡ true →
      ◌≡◌ {A = Option Held} (option_map held_by (find (covers kind pd place) (branched k.delegations o).list)) (option_map held_by (find (covers kind pd place) (branched k.delegations (gift_branch k.delegations.list (Some g))).list))
  pub origins : (kind : Kind) (pd place from : ℕ) → S pd ≡ true → S from ≡ true →
      origin_of (branched k.delegations o).list from (find (covers kind pd place) (branched k.delegations o).list)
      ≡ origin_of (branched k.delegations (gift_branch k.delegations.list (Some g))).list from (find (covers kind pd place) (branched k.delegations (gift_branch k.delegations.list (Some g))).list)
  pub frames : (frame : ℕ) → slice_get k.memory.ram frame ≡ slice_get (gift_memory k.memory (Some g)).ram frame
  pub size : length k.memory.ram ≡ length (gift_memory k.memory (Some g)).ram
  pub holds : (e : Derivation) → Contains (branched k.delegations o).list e → S e.pd ≡ true → e.kind ≡ Obj → Contains k.delegations.list e ⊎ (P e.target ≡ true)

unranged : (k : KernelState) (S P : ℕ → Bool) (g : Gift) → gift_branch [] (Some g) ≡ None → AreRangesSo k S P g None
unranged k S P (Answer handler caller words) none = record { spaces = λ kind pd place s. refl; origins = λ kind pd place from s t. refl; frames = λ f. refl; size = refl; holds = λ e there s kind. inl there }
unranged k S P (Return handler caller words) none = record { spaces = λ kind pd place s. refl; origins = λ kind pd place from s t. refl; frames = λ f. refl; size = refl; holds = λ e there s kind. inl there }
unranged k S P (Begin handler caller words) none = record { spaces = λ kind pd place s. refl; origins = λ kind pd place from s t. refl; frames = λ f. refl; size = refl; holds = λ e there s kind. inl there }
unranged k S P (Item item told replied) none = record { spaces = λ kind pd place s. refl; origins = λ kind pd place from s t. refl; frames = λ f. refl; size = refl; holds = λ e there s kind. inl there }
unranged k S P (Up sm woken) none = record { spaces = λ kind pd place s. refl; origins = λ kind pd place from s t. refl; frames = λ f. refl; size = refl; holds = λ e there s kind. inl there }
unranged k S P (Recall whose) none = record { spaces = λ kind pd place s. refl; origins = λ kind pd place from s t. refl; frames = λ f. refl; size = refl; holds = λ e there s kind. inl there }
unranged k S P (Part domain held bytes) none = absurd (cc)

part_ranges : (k : KernelState) (S P : ℕ → Bool) (child : Derivation) → IsNewest k child → is_foreign S k.delegations.list child ≡ true → (S child.pd && (is_memory child.kind || P child.target)) ≡ true →
    AreRangesSo k S P (Part child.pd (held_by child) (bytes_of k.memory.ram (held_by child))) (Some (Joins child))
part_ranges k S P child new foreign of =
    let list : List Derivation = k.delegations.list in
    let x : Derivation = derived (past_parents list) None child.pd (held_by child).range (held_by child).rights (held_by child).target in
    let twins : IsTwin x child = record { pd = refl; held = refl } in
    record {
      spaces = λ kind pd place s. spaces_joined kind pd place list list x child twins refl;
      origins = λ kind pd place from s t.
          joined_origins list list x child (past_childless list) new.childless twins kind pd place from refl refl
          (foreign_origin S list child from new.childless new.other foreign t ∙ sym (root_origin (list ++ x ∷ []) x from refl));
      frames = λ frame. sym (laid_itself (held_by child) k.memory.ram frame);
      size = sym (laid_length (held_by child) (bytes_of k.memory.ram (held_by child)) 0 k.memory.ram);
      holds = λ e there s kind. elim (in_joined list child e (in_from_contains (list ++ child ∷ []) e there)) [
        | inl old ↦ inl (contains_from_in list e old)
        | inr same ↦
            let object : is_memory child.kind ≡ false = ap (λ (d : Derivation). is_memory d.kind) (sym same) ∙ ap is_memory kind in
            let allowed : (is_memory child.kind || P child.target) ≡ true = (and_parts (S child.pd) (is_memory child.kind || P child.target) of).1 in
            inr (ap (λ (d : Derivation). P d.target) same ∙ sym (ap (λ (t : Bool). t || P child.target) object) ∙ allowed)
      ];
    }

-- THE TURN OF A DEED

-- what a gift and a deed do to execution contexts, message words, places in items and ranges is the same, and no words are waited for or served by what the gift edits
pub record IsGiven (k : KernelState) (S P : ℕ → Bool) (actor : Option ℕ) (ec : ℕ) (g : Gift) (d : Deed) : Type 0 where
  pub edits : SameEdits k (Of S) (Of P) (gift_edits actor (Some g)) (edits_by k ec d)
  pub words : AreSame (Shown k (Of S) (Of P)) (put k.messages (gift_words k (Some g))) (put k.messages (words_by k ec d))
  pub well : AllOwn (Of P) (edits_by k ec d)
  pub transfers : AreSame (Shown k (Of S) (Of P)) k.transfers (put k.transfers (transfer_by k ec d))
  pub ranges : AreRangesSo k S P g (branch_by k ec d)

sized_words : length no_words ≡ 128
sized_words = refl

-- it is there
pub record IsGiver (k : KernelState) (S P : ℕ → Bool) (ec : ℕ) (d : Deed) : Type 0 where
  pub sound : IsSound k
  pub warrant : Warrant k ec d
  pub there : ec_in k.contexts ec ≡ Some (ec_of k.contexts ec)
  pub joins : (child : Derivation) (cursor : ℕ) → d ≡ deeds.Gives child cursor → IsNewest k child

other_context : (k : KernelState) (S P : ℕ → Bool) (ec n : ℕ) → (S (pd_of k ec) ≡ true → ⊥) → Shown k (Of S) (Of P) n → n ≢ ec
other_context k S P ec n foreign q = λ same. foreign (subst (λ (m : ℕ). S (pd_of k m) ≡ true) same q.1)

copied_so : (k : KernelState) (S P : ℕ → Bool) (ec caller : ℕ) → IsSound k →
    AreSame (Shown k (Of S) (Of P)) (put k.messages (Some (caller, copied (copied (message k ec) no_words) (message k caller)))) (put k.messages (Some (caller, copied (message k ec) (message k caller))))
copied_so k S P ec caller sound n q =
    let some : 0 < length no_words = omega (arith, sized_words) in
    let size : length (message k caller) ≡ length no_words = sound.whole.messages caller ∙ sym sized_words in
    ap (λ (m : List ℕ). slice_get (put k.messages (Some (caller, m))) n) (sym (copied_through (message k ec) no_words (message k caller) some size))

returned_so : (k : KernelState) (S P : ℕ → Bool) (ec caller : ℕ) →
    SameEdits k (Of S) (Of P) ((ec, Parks) ∷ (caller, Resumes mark.Exit (returned (message k ec))) ∷ []) ((ec, Parks) ∷ (caller, Resumes mark.Exit (message k ec)) ∷ [])
returned_so k S P ec caller =
    let same : edited (ec_of (edit_at k.contexts ec Parks) caller) (Resumes mark.Exit (returned (message k ec))) ≡ edited (ec_of (edit_at k.contexts ec Parks) caller) (Resumes mark.Exit (message k ec)) =
    ap (λ (r : Registers). record (ec_of (edit_at k.contexts ec Parks) caller) { regs = r; state = Ready }) (back_so (message k ec) (ec_of (edit_at k.contexts ec Parks) caller).regs) in
    record {
      contexts = λ n q. ap (λ (x : EcState). slice_get (with_ec (edit_at k.contexts ec Parks) caller x) n) (sym same);
      fronts = λ n q. ap (λ (x : EcState). slice_get (fronts (with_ec (edit_at k.contexts ec Parks) caller x)) n) (sym same);
    }

stays_so : (k : KernelState) (S P : ℕ → Bool) (ec : ℕ) → (S (pd_of k ec) ≡ true → ⊥) → ec_in k.contexts ec ≡ Some (ec_of k.contexts ec) → SameEdits k (Of S) (Of P) [] ((ec, Stays) ∷ [])
stays_so k S P ec foreign there = record {
  contexts = λ n q. get_other k.contexts ec n (Some (ec_of k.contexts ec)) (other_context k S P ec n foreign q);
  fronts = λ n q. ap (λ (l : List (Option Front)). slice_get l n) (fronts_set k.contexts ec (ec_of k.contexts ec)) ∙ front_stays k.contexts ec (ec_of k.contexts ec) n there;
}

nothing_new : (k : KernelState) (S P : ℕ → Bool) → SameEdits k (Of S) (Of P) [] []
nothing_new k S P = record { contexts = itself (Shown k (Of S) (Of P)) _; fronts = itself (Of P) _ }

moved_on : (k : KernelState) (S P : ℕ → Bool) (ec : ℕ) (t : Transfer) → (S (pd_of k ec) ≡ true → ⊥) → AreSame (Shown k (Of S) (Of P)) k.transfers (put k.transfers (Some (ec, t)))
moved_on k S P ec t foreign n q = get_other k.transfers ec n (Some t) (other_context k S P ec n foreign q)

pub given_is : (k : KernelState) (S P : ℕ → Bool) (ec : ℕ) (d : Deed) → IsGiver k S P ec d → (g : Gift) → concerns S P g ≡ true → gift_of S k ec d ≡ Some g → IsGiven k S P (if_of P ec) ec g d
given_is k S P ec (deeds.Replies caller mark.Call false) its g of is =
    subst (λ (g : Gift). IsGiven k S P (if_of P ec) ec g (deeds.Replies caller mark.Call false)) (same_Some (Answer ec caller (copied (message k ec) no_words)) g is)
    (record {
      edits = record { contexts = itself (Shown k (Of S) (Of P)) _; fronts = itself (Of P) _ };
      words = copied_so k S P ec caller its.sound;
      well = (tt, (tt, tt));
      transfers = itself (Shown k (Of S) (Of P)) _;
      ranges = unranged k S P (Answer ec caller (copied (message k ec) no_words)) refl;
    })
given_is k S P ec (deeds.Replies caller mark.Exit false) its g of is =
    subst (λ (g : Gift). IsGiven k S P (if_of P ec) ec g (deeds.Replies caller mark.Exit false)) (same_Some (Return ec caller (returned (message k ec))) g is)
    (record {
      edits = returned_so k S P ec caller;
      words = itself (Shown k (Of S) (Of P)) _;
      well = (tt, (tt, tt));
      transfers = itself (Shown k (Of S) (Of P)) _;
      ranges = unranged k S P (Return ec caller (returned (message k ec))) refl;
    })
given_is k S P ec (deeds.Replies caller mark.Call true) its g of is =
    subst (λ (g : Gift). IsGiven k S P (if_of P ec) ec g (deeds.Replies caller mark.Call true)) (other_gives (is_other S k ec) (Begin ec caller (Some (copied (message k ec) no_words))) g is).1
    (record {
      edits = record { contexts = itself (Shown k (Of S) (Of P)) _; fronts = itself (Of P) _ };
      words = copied_so k S P ec caller its.sound;
      well = ((λ h is. absurd (cc), λ sm is. absurd (cc)), tt);
      transfers = itself (Shown k (Of S) (Of P)) _;
      ranges = unranged k S P (Begin ec caller (Some (copied (message k ec) no_words))) refl;
    })
given_is k S P ec (deeds.Replies caller mark.Exit true) its g of is =
    subst (λ (g : Gift). IsGiven k S P (if_of P ec) ec g (deeds.Replies caller mark.Exit true)) (other_gives (is_other S k ec) (Begin ec caller None) g is).1
    (record {
      edits = record { contexts = itself (Shown k (Of S) (Of P)) _; fronts = itself (Of P) _ };
      words = itself (Shown k (Of S) (Of P)) _;
      well = ((λ h is. absurd (cc), λ sm is. absurd (cc)), tt);
      transfers = itself (Shown k (Of S) (Of P)) _;
      ranges = unranged k S P (Begin ec caller None) refl;
    })
given_is k S P ec (deeds.Gives child cursor) its g of is =
    let x : Gift = Part child.pd (held_by child) (bytes_of k.memory.ram (held_by child)) in
    let all = other_gives (is_other S k ec && is_foreign S k.delegations.list child) x g is in
    let both = and_parts (is_other S k ec) (is_foreign S k.delegations.list child) all.0 in
    subst (λ (g : Gift). IsGiven k S P (if_of P ec) ec g (deeds.Gives child cursor)) all.1
    (record {
      edits = nothing_new k S P;
      words = itself (Shown k (Of S) (Of P)) _;
      well = tt;
      transfers = moved_on k S P ec _ (by_other S k ec both.0);
      ranges = part_ranges k S P child (its.joins child cursor refl) both.1 (ap (concerns S P) all.1 ∙ of);
    })
given_is k S P ec (deeds.Finishes item end (Some told) sequel.Item) its g of is =
    subst (λ (g : Gift). IsGiven k S P (if_of P ec) ec g (deeds.Finishes item end (Some told) sequel.Item)) (other_gives (is_other S k ec) (Item item told None) g is).1
    (record {
      edits = stays_so k S P ec (by_other S k ec (other_gives (is_other S k ec) (Item item told None) g is).0) its.there;
      words = itself (Shown k (Of S) (Of P)) _;
      well = (tt, tt);
      transfers = moved_on k S P ec _ (by_other S k ec (other_gives (is_other S k ec) (Item item told None) g is).0);
      ranges = unranged k S P (Item item told None) refl;
    })
given_is k S P ec (deeds.Finishes item end (Some told) (sequel.Replied caller mark.Call)) its g of is =
    subst (λ (g : Gift). IsGiven k S P (if_of P ec) ec g (deeds.Finishes item end (Some told) (sequel.Replied caller mark.Call))) (other_gives (is_other S k ec) (Item item told (Some (ec, caller))) g is).1
    (record {
      edits = record { contexts = itself (Shown k (Of S) (Of P)) _; fronts = itself (Of P) _ };
      words = itself (Shown k (Of S) (Of P)) _;
      well = (tt, (tt, tt));
      transfers = moved_on k S P ec _ (by_other S k ec (other_gives (is_other S k ec) (Item item told (Some (ec, caller))) g is).0);
      ranges = unranged k S P (Item item told (Some (ec, caller))) refl;
    })
given_is k S P ec (deeds.Finishes item end None (sequel.Replied caller mark.Exit)) its g of is =
    subst (λ (g : Gift). IsGiven k S P (if_of P ec) ec g (deeds.Finishes item end None (sequel.Replied caller mark.Exit))) (other_gives (is_other S k ec) (Return ec caller (returned (message k ec))) g is).1
    (record {
      edits = returned_so k S P ec caller;
      words = itself (Shown k (Of S) (Of P)) _;
      well = (tt, (tt, tt));
      transfers = moved_on k S P ec _ (by_other S k ec (other_gives (is_other S k ec) (Return ec caller (returned (message k ec))) g is).0);
      ranges = unranged k S P (Return ec caller (returned (message k ec))) refl;
    })
given_is k S P ec (deeds.Ups sm woken) its g of is =
    subst (λ (g : Gift). IsGiven k S P (if_of P ec) ec g (deeds.Ups sm woken)) (same_Some (Up sm woken) g is)
    (record {
      edits = goes_so k S P ec (wakes_by woken);
      words = itself (Shown k (Of S) (Of P)) _;
      well = (tt, wakes_well woken);
      transfers = itself (Shown k (Of S) (Of P)) _;
      ranges = unranged k S P (Up sm woken) refl;
    })
  where
    wakes_well : (o : Option ℕ) → AllOwn (Of P) (wakes_by o)
    wakes_well None = tt
    wakes_well (Some w) = (tt, tt)
given_is k S P ec (deeds.Recalls whose) its g of is =
    let there = recalled_there k ec whose its.sound.kept.tables its.warrant.leads in
    subst (λ (g : Gift). IsGiven k S P (if_of P ec) ec g (deeds.Recalls whose)) (same_Some (Recall whose) g is)
    (record {
      edits = subst (λ (es : Edits). SameEdits k (Of S) (Of P) (goes_on (if_of P ec) ((whose, Recalled) ∷ [])) ((ec, Answers Success None) ∷ es)) (sym there) (goes_so k S P ec ((whose, Recalled) ∷ []));
      words = itself (Shown k (Of S) (Of P)) _;
      well = subst (λ (es : Edits). AllOwn (Of P) ((ec, Answers Success None) ∷ es)) (sym there) (tt, (tt, tt));
      transfers = itself (Shown k (Of S) (Of P)) _;
      ranges = unranged k S P (Recall whose) refl;
    })
given_is k S P ec (deeds.Finishes item end None sequel.Item) its g of is = absurd (cc)
given_is k S P ec (deeds.Finishes item end None sequel.Opened) its g of is = absurd (cc)
given_is k S P ec (deeds.Finishes item end None sequel.Taken) its g of is = absurd (cc)
given_is k S P ec (deeds.Finishes item end None (sequel.Replied caller mark.Call)) its g of is = absurd (cc)
given_is k S P ec (deeds.Finishes item end (Some told) sequel.Opened) its g of is = absurd (cc)
given_is k S P ec (deeds.Finishes item end (Some told) sequel.Taken) its g of is = absurd (cc)
given_is k S P ec (deeds.Finishes item end (Some told) (sequel.Replied caller mark.Exit)) its g of is = absurd (cc)
given_is k S P ec other its g of is = absurd (cc)
