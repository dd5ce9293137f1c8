-- The event at the end of an item tells what its execution context counted.
use Rattle.std.proofs.Common.{◌≡◌, ℕ, List, ap, ◌∙◌, subst, refl}
use Rattle.std.specs.Prelude.{true, false, Option, Some}
use Rattle.nova_model.specs.Edges.{is_giving}
use Rattle.nova_model.specs.Boot.{Scenario, boot}
use Rattle.nova_model.specs.Choice.{Candidate}
use Rattle.nova_model.specs.Deeds.{deed, sign_of}
use Rattle.nova_model.specs.Deliveries.{delivery}
use Rattle.nova_model.specs.Hypercalls.{row}
use Rattle.nova_model.specs.Runs.{run, trace}
use Rattle.nova_model.specs.State.{KernelState, context, pd_of, transfer}
use Rattle.nova_model.specs.Turn.{event_of, answer_of, turn}
use Rattle.nova_model.specs.declared.context.State.{State}
use Rattle.nova_model.specs.declared.context.State.TheVariants.{Granting, Replying}
use Rattle.nova_model.specs.declared.deed.Deed.{Deed}
use Rattle.nova_model.specs.declared.deed.Deed.TheVariants.{Finishes, Replies}
use Rattle.nova_model.specs.declared.event.Event.{Event}
use Rattle.nova_model.specs.declared.event.EventKind.TheVariants.{Ended}
use Rattle.nova_model.specs.declared.event.Turn.TheVariants.{Stepped}
use Rattle.nova_model.specs.declared.transfer.Delivery.{Delivery}
use Rattle.nova_model.specs.declared.transfer.ItemEnd.{ItemEnd}
use Rattle.nova_model.specs.declared.transfer.ItemEnd.TheVariants.{Given, Skipped, Translated}
use Rattle.nova_model.specs.declared.transfer.ItemWords.{ItemWords}
use Rattle.nova_model.specs.declared.transfer.Sequel.{Sequel}
use Rattle.law_forest.proofs.Walk as walk
use Rattle.law_forest.proofs.Turning.{of_kind}
use Rattle.law_turns.specs.Giving.{IsEndOfItem}
use Rattle.law_turns.proofs.Counting.{counts_children}
use Rattle.law_turns.proofs.Rows.{IsWhole, done_weaker, is_part, row_whole}

-- an item that ends is the present one, and told as it stands
abbrev Told : KernelState → ℕ → ItemEnd → Type 0
Told k ec (Given children) = children ≡ (transfer k ec).children
Told k ec other = Unit {0}

abbrev EndsAs : KernelState → ℕ → Deed → Type 0
EndsAs k ec (Finishes item end words after) = (is_giving (context k ec).state ≡ true) × ((item ≡ (transfer k ec).item) × Told k ec end)
EndsAs k ec other = Unit {0}

whole_ends : (k : KernelState) (ec : ℕ) (d : Deed) → is_part d ≡ false → EndsAs k ec d
whole_ends k ec (Finishes item end words after) whole = absurd (cc)
whole_ends k ec other whole = tt

delivery_gives : (k : KernelState) (ec : ℕ) (s : State) (v : Delivery) → delivery k ec s ≡ Some v → is_giving s ≡ true
delivery_gives k ec (Granting new) v is = refl
delivery_gives k ec Replying v is = refl
delivery_gives k ec other v is = absurd (cc)

end_tells : (k : KernelState) (ec : ℕ) (v : Delivery) (end : ItemEnd) (answer : ℕ) → walk.EndsAs k ec v end answer → Told k ec end
end_tells k ec v (Given children) answer is = is.0
end_tells k ec v (Skipped skip) answer is = tt
end_tells k ec v (Translated word) answer is = tt

deed_ends : (k : KernelState) (ec : ℕ) → EndsAs k ec (deed k ec)
deed_ends k ec =
    walk.deed_holds (EndsAs k ec) k ec tt
    (record {
      steps = tt;
      raises = λ reason q0 q1. tt;
      dies = λ reason q0. tt;
      refuses = λ number status. tt;
      waits = λ pt reason q0 q1 is. tt;
      sends = λ pt reason q0 q1 is. tt;
      aborts = λ handler is. tt;
      removes = λ range own leaf is next. tt;
      returns = λ range own is next. tt;
      rows = λ asks c read. done_weaker IsWhole (EndsAs k ec) (row k ec (pd_of k ec) c) (whole_ends k ec) (row_whole k ec (pd_of k ec) c);
    })
    (record {
      gives = λ d x g. tt;
      skips = λ d reason place is. tt;
      finishes = λ v end answer present is. (delivery_gives k ec (context k ec).state v present, (refl, end_tells k ec v end answer is));
    })

-- only the end of a delegation tells it
record IsEnd (d : Deed) : Type 0 where
  item : ℕ
  children : ℕ
  words : Option ItemWords
  after : Sequel
  is : d ≡ Finishes item (Given children) words after

ends : (d : Deed) → (sign_of d).0 ≡ Ended → IsEnd d
ends (Finishes item (Given children) words after) tells = record { item = item; children = children; words = words; after = after; is = refl }
ends (Replies caller mark true) tells = absurd cc
ends other tells = absurd cc

-- of the chosen context
chosen_ends : (s : Scenario) (turns : List ℕ) (cpu : ℕ) (c : Candidate) → (sign_of (deed (run (boot s) turns) c.actor)).0 ≡ Ended →
    IsEndOfItem (run (boot s) turns) (trace (boot s) turns) (event_of cpu c (deed (run (boot s) turns) c.actor))
chosen_ends s turns cpu c tells =
    let k = run (boot s) turns in
    let e = ends (deed k c.actor) tells in
    let end = subst (EndsAs k c.actor) e.is (deed_ends k c.actor) in record {
      gives = end.0;
      item = ap (λ (d : Deed). (sign_of d).1) e.is ∙ end.1.0;
      children = ap (λ (d : Deed). (sign_of d).2) e.is ∙ end.1.1 ∙ counts_children s turns c.actor;
    }

pub tells_children : (s : Scenario) (turns : List ℕ) (cpu : ℕ) (e : Event) → answer_of (turn (run (boot s) turns) cpu) ≡ Stepped e → e.kind ≡ Ended →
    IsEndOfItem (run (boot s) turns) (trace (boot s) turns) e
tells_children s turns cpu e steps tells =
    let k = run (boot s) turns in
    of_kind Ended refl (λ (f : Event). IsEndOfItem k (trace (boot s) turns) f) k cpu e steps (λ c chosen state kind. chosen_ends s turns cpu c kind) tells
