-- A deed of another that is nothing for a virtual CPU: its view stays.
use Rattle.std.proofs.Common.{◌≡◌, ℕ, zero, suc, ◌≢◌, List, [], ◌∷◌, ◌++◌, ap, sym, ◌∙◌, refl}
use Rattle.std.specs.Prelude.{Bool, Contains, true, false, slice_get, Option, Some, None, IsSome, is_some, option_map}
use Rattle.nova_guest.specs.declared.guest.GuestState.TheVariants as guest
use Rattle.nova_objects.specs.declared.object.Object.{Object}
use Rattle.nova_model.specs.Capabilities.{is_vcpu}
use Rattle.nova_model.specs.Creation.{object_of, root_capability}
use Rattle.nova_model.specs.Deeds.{done}
use Rattle.nova_model.specs.State.{KernelState, Contexts, ec_in, ec_of, context, context_in, pd_of}
use Rattle.nova_model.specs.Views.{guest_state, maps_of, view}
use Rattle.nova_model.specs.declared.context.EcState.{EcState}
use Rattle.nova_model.specs.declared.context.Mark.{Mark}
use Rattle.nova_model.specs.declared.context.Mark.TheVariants as mark
use Rattle.nova_model.specs.declared.deed.Deed.{Deed}
use Rattle.nova_model.specs.declared.deed.Deed.TheVariants.{Rests, Steps, Sends, Makes, Recalls, Opens, Gives, Skips, Finishes, Calls, Replies, Aborts, Removes, Ups}
use Rattle.nova_model.specs.declared.new_object.NewObject.TheVariants as new
use Rattle.nova_model.specs.declared.transfer.Sequel.TheVariants as sequel
use Rattle.law_forest.specs.Effects.{Edits, all_edited, applied, branch_by, branched, edit_at, edited, edits_by, effect, joined, made_by, memory_with, store_by}
use Rattle.law_forest.proofs.Doing.{done_is}
use Rattle.law_turns.proofs.Setting.{entry_other}
use Rattle.law_isolation.proofs.Exchanges.{maps_others}
use Rattle.law_isolation.proofs.Premises.{IsGuest}
use Rattle.law_isolation.proofs.Seen.{seen_same}

-- the caller of a reply that completes, where it is the virtual CPU: it waits for the reply to its exit
abbrev pub WaitsFor : KernelState → ℕ → ℕ → Mark → Type 0
WaitsFor k g caller came = caller ≡ g → (came ≡ mark.Exit) × (guest_state (context k g).state ≡ guest.Waiting)

-- what the law asks of a deed that another does
abbrev pub Facts : KernelState → ℕ → Deed → Type 0
Facts k g (Sends handler ip identifier mtd reason q0 q1) = handler ≢ g
Facts k g (Calls handler ip identifier items) = handler ≢ g
Facts k g (Replies caller came items) = WaitsFor k g caller came
Facts k g (Finishes item end words (sequel.Replied caller came)) = WaitsFor k g caller came × (came ≡ mark.Exit → words ≡ None)
Facts k g (Removes leaf) = Contains k.delegations.list leaf
Facts k g (Ups sm (Some whom)) = whom ≢ g
Facts k g other = Unit {0}

-- AN OBJECT THAT IS MADE

ec_more : (cs ds : Contexts) (g : ℕ) → IsSome (ec_in cs g) → ec_of (cs ++ ds) g ≡ ec_of cs g
ec_more [] ds g there = absurd (cc)
ec_more (c ∷ cs) ds zero there = refl
ec_more (c ∷ cs) ds (suc g) there = ec_more cs ds g there

object_more : (os ps : List Object) (g : ℕ) → option_map is_vcpu (slice_get os g) ≡ Some true → slice_get (os ++ ps) g ≡ slice_get os g
object_more [] ps g is = absurd (cc)
object_more (o ∷ os) ps zero is = refl
object_more (o ∷ os) ps (suc g) is = object_more os ps g is

-- A DEED THAT IS NOTHING FOR IT

-- those that may be an input
abbrev is_seen : Deed → Bool
is_seen Steps = true
is_seen (Recalls whose) = true
is_seen (Gives child cursor) = true
is_seen (Removes leaf) = true
is_seen (Finishes item end words after) = true
is_seen (Replies caller came items) = true
is_seen other = false

-- no edit is of it
abbrev AreOfOthers : ℕ → Edits → Type 0
AreOfOthers g [] = Unit {0}
AreOfOthers g ((n, e) ∷ es) = (n ≢ g) × AreOfOthers g es

edits_leave : (cs : Contexts) (es : Edits) (g : ℕ) → AreOfOthers g es → ec_in (all_edited cs es) g ≡ ec_in cs g
edits_leave cs [] g others = refl
edits_leave cs ((n, e) ∷ es) g others = edits_leave (edit_at cs n e) es g others.1 ∙ entry_other cs n g (edited (ec_of cs n) e) (λ same. others.0 (sym same))

edits_apart : (k : KernelState) (ec g : ℕ) (d : Deed) → is_seen d ≡ false → ec ≢ g → Facts k g d → AreOfOthers g (edits_by k ec d)
edits_apart k ec g Steps unseen ne facts = absurd cc
edits_apart k ec g (Recalls whose) unseen ne facts = absurd cc
edits_apart k ec g (Finishes item end words after) unseen ne facts = absurd cc
edits_apart k ec g (Replies caller came items) unseen ne facts = absurd cc
edits_apart k ec g (Gives child cursor) unseen ne facts = tt
edits_apart k ec g (Removes leaf) unseen ne facts = tt
edits_apart k ec g (Skips reason place cursor) unseen ne facts = tt
edits_apart k ec g Rests unseen ne facts = tt
edits_apart k ec g (Sends handler ip identifier mtd reason q0 q1) unseen ne facts = (ne, (facts, tt))
edits_apart k ec g (Calls handler ip identifier items) unseen ne facts = (ne, (facts, tt))
edits_apart k ec g (Ups sm None) unseen ne facts = (ne, tt)
edits_apart k ec g (Ups sm (Some whom)) unseen ne facts = (ne, (facts, tt))
edits_apart k ec g (Aborts handler mark.Call) unseen ne facts = (ne, tt)
edits_apart k ec g other unseen ne facts = (ne, tt)

-- only a root capability joins
branch_unseen : (k : KernelState) (ec g : ℕ) (d : Deed) → is_seen d ≡ false →
    maps_of (pd_of k g) (branched k.delegations (branch_by k ec d)).list ≡ maps_of (pd_of k g) k.delegations.list
branch_unseen k ec g (Gives child cursor) unseen = absurd cc
branch_unseen k ec g (Removes leaf) unseen = absurd cc
branch_unseen k ec g (Makes call target made) unseen = maps_others (pd_of k g) (root_capability k (pd_of k ec) target (object_of made)) k.delegations.list refl
branch_unseen k ec g (Opens target number) unseen = maps_others (pd_of k g) (root_capability k (pd_of k ec) target (object_of new.Pd)) k.delegations.list refl
branch_unseen k ec g other unseen = refl

store_unseen : (k : KernelState) (ec : ℕ) (d : Deed) → is_seen d ≡ false → (memory_with k.memory (store_by k ec d)).ram ≡ k.memory.ram
store_unseen k ec Steps unseen = absurd cc
store_unseen k ec other unseen = refl

joined_own : (cs : Contexts) (o : Option (Option EcState)) (g : ℕ) → IsSome (ec_in cs g) → ec_of (joined cs o) g ≡ ec_of cs g
joined_own cs None g there = refl
joined_own cs (Some x) g there = ec_more cs (x ∷ []) g there

joined_object : (os : List Object) (o : Option Object) (g : ℕ) → option_map is_vcpu (slice_get os g) ≡ Some true → slice_get (joined os o) g ≡ slice_get os g
joined_object os None g is = refl
joined_object os (Some x) g is = object_more os (x ∷ []) g is

pub unseen_law : (k : KernelState) (ec g : ℕ) (d : Deed) → is_seen d ≡ false → ec ≢ g → IsGuest k g → Facts k g d → view (done k ec d) g ≡ view k g
unseen_law k ec g d unseen ne is facts =
    let same = edits_leave k.contexts (edits_by k ec d) g (edits_apart k ec g d unseen ne facts) in
    ap (λ (s : KernelState). view s g) (done_is k ec d)
    ∙ seen_same k (applied k (effect k ec d)) g (record {
      own = joined_own (all_edited k.contexts (edits_by k ec d)) _ g (ap is_some same ∙ is.there) ∙ ap context_in same;
      object = joined_object k.objects (option_map object_of (made_by d)) g is.object;
      maps = branch_unseen k ec g d unseen;
      ram = store_unseen k ec d unseen;
    })
