-- Edges, callers, numbers and processors stay sound under each change, and ways along new edges come from old ones.
use Rattle.std.proofs.Common.{◌≡◌, ℕ, ap, sym, ◌∙◌, subst, inl, inr, refl, IsSome}
use Rattle.std.specs.Prelude.{Bool, true, false, ◌⊎◌, List, Option, Some, None, option_map}
use Rattle.nova_range.specs.declared.status.Status.{Status}
use Rattle.nova_model.specs.Deeds.{actor_after, answered, parked, resumed, serving}
use Rattle.nova_model.specs.Edges.{MayServe, MayWait, after_edges, cpu_in, edge}
use Rattle.nova_model.specs.State.{Contexts, context_in, ec_in, ec_of, with_ec}
use Rattle.nova_model.specs.declared.context.EcState.{EcState}
use Rattle.nova_model.specs.declared.context.Mark.{Mark}
use Rattle.nova_model.specs.declared.context.Mark.TheVariants as mark
use Rattle.nova_model.specs.declared.deed.Deed.{Deed}
use Rattle.nova_model.specs.declared.deed.Deed.TheVariants.{Rests, Steps, Waits, Sends, Gives, Skips, Finishes, Calls, Helps, Replies, Aborts, Removes}
use Rattle.nova_model.specs.declared.transfer.Sequel.TheVariants as sequel
use Rattle.nova_ec.specs.Changes.{AnsweringKeeps, ChangesKeep, CompletingKeeps, DeedsKeep, KeepsSound, NewWays, OthersStayTwice, ParkingKeeps, Passes, ResumingKeeps, SendingKeeps, ServingKeeps, edge_by}
use Rattle.nova_ec.specs.Tables.{MayBecome}
use Rattle.nova_ec.proofs.Callers.{server_there, callers_put}
use Rattle.nova_ec.proofs.Tables.{cpu-set, edge-set_other, edges_put, numbered_put, there_by_cpu}
use Rattle.nova_ec.proofs.Untouched.{others_stay, stay_through}
use Rattle.nova_ec.proofs.Walks.{Reaches, along}

pub there_at : (cs : Contexts) (e : ℕ) → IsSome (ec_in cs e) → ec_in cs e ≡ Some (ec_of cs e)
there_at cs e there = by_place (ec_in cs e) there
  where
    by_place : (o : Option EcState) → IsSome o → o ≡ Some (context_in o)
    by_place None some = absurd cc
    by_place (Some x) some = refl

-- what a context may become

pub deed_may : (cs : Contexts) (e : ℕ) (d : Deed) → IsSome (ec_in cs e) → MayWait cs e (edge_by d) → MayBecome cs e (actor_after (ec_of cs e) d)
deed_may cs e Rests there may = (ec_of cs e, there_at cs e there, refl, inl refl, refl, inl refl)
deed_may cs e Steps there may = (ec_of cs e, there_at cs e there, refl, inl refl, refl, inl refl)
deed_may cs e (Waits handler reason q0 q1) there may = (ec_of cs e, there_at cs e there, refl, inr may, refl, inl refl)
deed_may cs e (Sends handler ip identifier mtd reason q0 q1) there may = (ec_of cs e, there_at cs e there, refl, inr may, refl, inl refl)
deed_may cs e (Gives child cursor) there may = (ec_of cs e, there_at cs e there, refl, inl refl, refl, inl refl)
deed_may cs e (Skips reason place cursor) there may = (ec_of cs e, there_at cs e there, refl, inl refl, refl, inl refl)
deed_may cs e (Finishes item end words sequel.Item) there may = (ec_of cs e, there_at cs e there, refl, inl refl, refl, inl refl)
deed_may cs e (Finishes item end words (sequel.Replied caller mark)) there may = (ec_of cs e, there_at cs e there, refl, inr tt, refl, inr tt)
deed_may cs e (Calls handler ip identifier items) there may = (ec_of cs e, there_at cs e there, refl, inr may, refl, inl refl)
deed_may cs e (Helps handler) there may = (ec_of cs e, there_at cs e there, refl, inr may, refl, inl refl)
deed_may cs e (Replies caller mark false) there may = (ec_of cs e, there_at cs e there, refl, inr tt, refl, inr tt)
deed_may cs e (Aborts handler mark.Call) there may = (ec_of cs e, there_at cs e there, refl, inr tt, refl, inl refl)
deed_may cs e (Removes leaf) there may = (ec_of cs e, there_at cs e there, refl, inl refl, refl, inl refl)
deed_may cs e other there may = (ec_of cs e, there_at cs e there, refl, inr tt, refl, inl refl)

pub serving_may : (cs : Contexts) (h c ip identifier : ℕ) (mark : Mark) (items : Bool) → IsSome (ec_in cs h) → MayServe cs h (Some (c, mark)) →
    MayBecome cs h (serving (ec_of cs h) c mark ip identifier items)
serving_may cs h c ip identifier mark true there may = (ec_of cs h, there_at cs h there, refl, inr tt, refl, inr may)
serving_may cs h c ip identifier mark false there may = (ec_of cs h, there_at cs h there, refl, inr tt, refl, inr may)

pub parked_may : (cs : Contexts) (h : ℕ) → IsSome (ec_in cs h) → MayBecome cs h (parked (ec_of cs h))
parked_may cs h there = (ec_of cs h, there_at cs h there, refl, inr tt, refl, inr tt)

pub answered_may : (cs : Contexts) (e : ℕ) (status : Status) (value : Option ℕ) → IsSome (ec_in cs e) → MayBecome cs e (answered (ec_of cs e) status value)
answered_may cs e status value there = (ec_of cs e, there_at cs e there, refl, inr tt, refl, inl refl)

pub resumed_may : (cs : Contexts) (e : ℕ) (mark : Mark) (m : List ℕ) → IsSome (ec_in cs e) → MayBecome cs e (resumed (ec_of cs e) mark m)
resumed_may cs e mark.Call m there = (ec_of cs e, there_at cs e there, refl, inr tt, refl, inl refl)
resumed_may cs e mark.Exit m there = (ec_of cs e, there_at cs e there, refl, inr tt, refl, inl refl)

-- what each keeps

pub changes_keep : ChangesKeep
changes_keep cs e y may = record {
  edges = λ sound. edges_put cs e y sound may;
  callers = λ sound. callers_put cs e y sound may;
  numbers = λ sound. numbered_put cs e y sound may;
  cpus = cpu-set cs e may.0 y may.1 may.2;
}

pub deeds_keep : DeedsKeep
deeds_keep cs e d there may = changes_keep cs e (actor_after (ec_of cs e) d) (deed_may cs e d there may)

pub serving_keeps : ServingKeeps
serving_keeps cs h c ip identifier mark items there may =
    changes_keep cs h (serving (ec_of cs h) c mark ip identifier items) (serving_may cs h c ip identifier mark items there may)

pub parking_keeps : ParkingKeeps
parking_keeps cs h there = changes_keep cs h (parked (ec_of cs h)) (parked_may cs h there)

pub answering_keeps : AnsweringKeeps
answering_keeps cs e status value there = changes_keep cs e (answered (ec_of cs e) status value) (answered_may cs e status value there)

pub resuming_keeps : ResumingKeeps
resuming_keeps cs e mark m there = changes_keep cs e (resumed (ec_of cs e) mark m) (resumed_may cs e mark m there)

pub keeps_through : (cs ds es : Contexts) → KeepsSound cs ds → KeepsSound ds es → KeepsSound cs es
keeps_through cs ds es first second = record {
  edges = λ sound. second.edges (first.edges sound);
  callers = λ sound. second.callers (first.callers sound);
  numbers = λ sound. second.numbers (first.numbers sound);
  cpus = λ e. second.cpus e ∙ first.cpus e;
}

-- two contexts of one processor: where either is there, so is the other, also after a change
some_there : (cs : Contexts) (e : ℕ) → (x : EcState) × (ec_in cs e ≡ Some x) → IsSome (ec_in cs e)
some_there cs e is = subst (λ (o : Option EcState). IsSome o) (sym is.1) refl

pub there_on_one : (cs ds : Contexts) (e f : ℕ) → KeepsSound cs ds → IsSome (ec_in cs e) → cpu_in cs f ≡ cpu_in cs e → IsSome (ec_in ds f)
there_on_one cs ds e f kept there same =
    some_there ds f (there_by_cpu ds f (ec_of cs e).cpu (kept.cpus f ∙ same ∙ ap (option_map (λ (x : EcState). x.cpu)) (there_at cs e there)))

pub sending_keeps : SendingKeeps
sending_keeps cs c h ip identifier mark items there new =
    let ds = with_ec cs c (actor_after (ec_of cs c) (Calls h ip identifier items)) in
    let first : KeepsSound cs ds = deeds_keep cs c (Calls h ip identifier items) there new in
    let serves : MayServe ds h (Some (c, mark)) = first.cpus c ∙ sym new.one_processor ∙ sym (first.cpus h) in
    keeps_through cs ds _ first (serving_keeps ds h c ip identifier mark items (there_on_one cs ds c h first there new.one_processor) serves)

pub completing_keeps : CompletingKeeps
completing_keeps cs h c mark m sound serves =
    let there : IsSome (ec_in cs h) = some_there cs h (server_there cs h c mark serves) in
    let ds = with_ec cs h (parked (ec_of cs h)) in
    let first : KeepsSound cs ds = parking_keeps cs h there in
    keeps_through cs ds _ first (resuming_keeps ds c mark m (there_on_one cs ds h c first there (sound h c mark serves)))

-- ways

pub new_ways : NewWays
new_ways cs e x f n y way = by_side (along n (edge cs) (edge (with_ec cs e y)) e x f (edge-set_other cs e y) way)
  where
    by_side : (after_edges n (edge cs) x ≡ Some f) ⊎ Reaches (edge cs) (edge (with_ec cs e y)) x e → (after_edges n (edge cs) x ≡ Some f) ⊎ Passes cs (with_ec cs e y) x e
    by_side (inl same) = inl same
    by_side (inr passes) = inr (record { edges = passes.0; before = passes.1; after = passes.2 })

-- other processors

pub others_stay_twice : OthersStayTwice
others_stay_twice cs e f z y w sound kept same apart =
    let ds = with_ec cs e y in
    stay_through cs ds (with_ec ds f w) z (others_stay cs e z y sound apart)
    (others_stay ds f z w (kept.edges sound) (λ at. apart (sym (kept.cpus z) ∙ at ∙ kept.cpus f ∙ same)))
