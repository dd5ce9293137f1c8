-- The side's part after a turn in which one of it makes an object, of what is there then.
use Rattle.std.proofs.Common.{arith, ◌≡◌, ◌⊎◌, ◌<◌, ℕ, [], ◌∷◌, ◌++◌, length, sym, ap, ◌∙◌, subst, inl, inr}
use Rattle.std.specs.Prelude.{Bool, option_map, slice_get, Option, Some, None}
use Rattle.nova_objects.specs.declared.object.Object.TheVariants.{Ec, Pd, Pt}
use Rattle.nova_model.specs.Creation.{context_of, count_of, idle_semaphore, object_of, root_capability}
use Rattle.nova_model.specs.State.{Contexts, KernelState, Semaphore, ec_in, entry, pd_of}
use Rattle.nova_model.specs.declared.context.EcState.{EcState}
use Rattle.nova_model.specs.declared.delegation.Derivation.{Derivation}
use Rattle.nova_model.specs.declared.new_object.NewObject.{NewObject}
use Rattle.law_forest.specs.Effects.{Edit, edit_at}
use Rattle.law_forest.specs.Turns.{turned}
use Rattle.law_forest.proofs.Members.{contains_from_in, in_from_contains}
use Rattle.law_turns.specs.Tables.{HasTables, Refers}
use Rattle.law_turns.proofs.Setting.{get_below, get_joined, more_at, set_length}
use Rattle.law_turns.proofs.TablesKept.{contexts_length}
use Rattle.law_integrity.proofs.Edges.{at_index}
use Rattle.law_integrity.proofs.Entries.{same_length}
use Rattle.law_integrity.proofs.Homes.{AreHomed}
use Rattle.nova_model.specs.Capabilities.{is_sm}
use Rattle.std.specs.Prelude.{is_some}
use Rattle.law_flow.specs.Flow.{IsSide}
use Rattle.law_flow.proofs.Creating.{IsMadeOf}
use Rattle.law_flow.proofs.Existing.{none_past}
use Rattle.law_flow.proofs.Giving.{in_joined}
use Rattle.law_flow.proofs.Keeping.{EditOwn, IsWell, QueueOwn, all_well}
use Rattle.law_flow.proofs.Making.{born, new_handler, new_queue, new_well}

-- a part and domains that have what is made, and else what they had
pub record AreWider (k : KernelState) (S R P Q : ℕ → Type 0) : Type 0 where
  pub last : Q (length k.objects)
  pub up : (n : ℕ) → P n → Q n
  pub down : (n : ℕ) → Q n → P n ⊎ (n ≡ length k.objects)
  pub domains : (pd : ℕ) → slice_get k.objects pd ≡ Some Pd → R pd → S pd

well_up : (P Q : ℕ → Type 0) → ((n : ℕ) → P n → Q n) → (o : Option EcState) → IsWell P o → IsWell Q o
well_up P Q up o well = record { waits = λ h is. up h (well.waits h is); serves = λ c m is. up c (well.serves c m is); blocks = λ sm is. up sm (well.blocks sm is) }

well_none : (Q : ℕ → Type 0) → IsWell Q None
well_none Q = record { waits = λ h is. absurd (cc); serves = λ c m is. absurd (cc); blocks = λ sm is. absurd (cc) }

pub grown_side : (k : KernelState) (S R P Q : ℕ → Type 0) → IsSide k S P → HasTables k → AreHomed k → AreWider k S R P Q → (cpu ec sc target : ℕ) (made : NewObject) (edit : Edit) → S (pd_of k ec) → IsMadeOf P made → EditOwn P edit → (stirs : ℕ → Bool) →
    IsSide (turned k cpu (born k ec sc target made edit stirs)) R Q
grown_side k S R P Q side tables homed w cpu ec sc target made edit mine of edits stirs = record {
  holds = λ d there r kind. elim (in_joined k.delegations.list root d (in_from_contains (k.delegations.list ++ root ∷ []) d there)) [
    | inl old ↦
        let was = contains_from_in k.delegations.list d old in w.up d.target (side.holds d was (w.domains d.pd (homed.holders d was) r) kind)
    | inr same ↦ subst (λ (e : Derivation). Q e.target) (sym same) w.last
  ];
  handlers = λ n handler mtd ip q is. elim (get_joined k.objects (object_of made) n (Pt handler mtd ip) is) [
    | inl old ↦ w.up handler (side.handlers n handler mtd ip (there n (get_below k.objects n (Pt handler mtd ip) old) q) old)
    | inr one ↦ w.up handler (new_handler P made handler mtd ip of one.1)
  ];
  edges = λ n h q is. (well n q).waits h is;
  callers = λ n c came q is. (well n q).serves c came is;
  queues = λ sm n q is. more_at (QueueOwn Q) k.semaphores (option_map idle_semaphore (count_of made)) sm (queue sm q) (λ none. new_queue Q made) n is;
  blocked = λ n sm q is. (well n q).blocks sm is;
  members = λ n pd its kind event is r. elim (get_joined k.objects (object_of made) n (Ec pd its kind event) is) [
    | inl old ↦ w.up n (side.members n pd its kind event old (w.domains pd (at_index (Refers k.objects) k.objects n (Ec pd its kind event) tables.refer old) r))
    | inr one ↦ subst Q (sym one.0) w.last
  ];
}
  where
    root : Derivation
    root = root_capability k (pd_of k ec) target (object_of made)

    there : (n : ℕ) → n < length k.objects → Q n → P n
    there n below q = elim (w.down n q) [
      | inl p ↦ p
      | inr last ↦ absurd (omega (arith, below, last))
    ]

    answered : Contexts
    answered = edit_at k.contexts ec edit

    old_well : (n : ℕ) → Q n → IsWell Q (ec_in (edit_at k.contexts ec edit) n)
    old_well n q = elim (w.down n q) [
      | inl p ↦
          well_up P Q w.up (ec_in answered n)
          (all_well P k.contexts ((ec, edit) ∷ []) (λ i r. record { waits = λ h is. side.edges i h r is; serves = λ c came is. side.callers i c came r is; blocks = λ sm is. side.blocked i sm r is }) (edits, tt) n p)
      | inr last ↦
          let long : length answered ≡ length k.objects = set_length k.contexts ec _ ∙ contexts_length k tables in
          subst (IsWell Q) (sym (ap (λ (o : Option (Option EcState)). entry o) (none_past answered n (omega (arith, long, last))))) (well_none Q)
    ]

    well : (n : ℕ) → Q n → IsWell Q (ec_in (edit_at k.contexts ec edit ++ context_of (length k.objects) made ∷ []) n)
    well n q = more_at (IsWell Q) answered (context_of (length k.objects) made) n (old_well n q) (λ none. new_well Q (length k.objects) made)

    queue : (sm : ℕ) → Q sm → QueueOwn Q (entry (slice_get k.semaphores sm))
    queue sm q = elim (w.down sm q) [
      | inl p ↦ λ i there_. w.up i (side.queues sm i p there_)
      | inr last ↦
          let long : length k.semaphores ≡ length k.objects = same_length is_some is_sm k.semaphores k.objects tables.semaphores in
          subst (QueueOwn Q) (sym (ap (λ (o : Option (Option Semaphore)). entry o) (none_past k.semaphores sm (omega (arith, long, last))))) (λ i is. absurd (cc))
    ]
