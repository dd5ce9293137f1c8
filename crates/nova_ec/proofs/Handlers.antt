-- What becomes of a caller and its handler, and what their change leaves.
use Rattle.std.proofs.Common.{◌≡◌, ◌<◌, ℕ, ◌==◌, [], ◌∷◌, length, slice_set, ap, sym, ◌∙◌, subst, refl, arith, IsSome, if◌then◌else◌}
use Rattle.std.specs.Prelude.{◌≢◌, Bool, false, Option, Some}
use Rattle.std.proofs.lemmas.List.{get_or-set_same, get_or-set_other}
use Rattle.rv_model.specs.Registers.{Registers, reg}
use Rattle.nova_model.specs.Deeds.{serving}
use Rattle.nova_model.specs.Edges.{IsNewEdge, circle, cpu_in}
use Rattle.nova_model.specs.State.{Contexts, context_in, ec_in, ec_of, with_ec}
use Rattle.nova_model.specs.declared.context.EcState.{EcState}
use Rattle.nova_model.specs.declared.context.Mark.{Mark}
use Rattle.nova_model.specs.declared.context.State.{State}
use Rattle.nova_model.specs.declared.context.State.TheVariants.{Calling}
use Rattle.nova_ec.specs.Changes.{with_both, with_sent}
use Rattle.nova_ec.specs.Handlers.{MayReply, Begins}
use Rattle.nova_ec.specs.Tables.{turned_to}
use Rattle.nova_ec.proofs.Admitted.{same_when}
use Rattle.nova_ec.proofs.Changes.{there_at}
use Rattle.nova_ec.proofs.Tables.{cpu-set, ec_in-set_same, ec_in-set_other}

-- ONE CHANGES

-- a context that is put into the table is there, and others stay
pub put_itself : (cs : Contexts) (e : ℕ) (y : EcState) → IsSome (ec_in cs e) → ec_in (with_ec cs e y) e ≡ Some y
put_itself cs e y is = ec_in-set_same cs e (ec_of cs e) y (there_at cs e is)

pub put_other : (cs : Contexts) (e f : ℕ) (y : EcState) → f ≢ e → ec_in (with_ec cs e y) f ≡ ec_in cs f
put_other cs e f y other = ec_in-set_other cs e f (Some y) other

-- a context that is about to do another thing
pub turned : (cs : Contexts) (e : ℕ) (state : State) → IsSome (ec_in cs e) → ec_in (turned_to cs e state) e ≡ Some (record (ec_of cs e) { state = state })
turned cs e state is = put_itself cs e (record (ec_of cs e) { state = state }) is

pub turned_others : (cs : Contexts) (e f : ℕ) (state : State) → f ≢ e → ec_in (turned_to cs e state) f ≡ ec_in cs f
turned_others cs e f state other = put_other cs e f (record (ec_of cs e) { state = state }) other

-- the caller may wait for a handler that may reply; both are there
pub may_wait : (cs : Contexts) (e h : ℕ) → MayReply cs e h → IsNewEdge cs e h × IsSome (ec_in cs e) × IsSome (ec_in cs h)
may_wait cs e h may = (
  record { one_processor = may.together.one_processor; no_circle = may.no_circle },
  may.together.there,
  (same_when (ec_in cs e) (ec_in cs h) may.together.there may.together.one_processor).1,
)

-- no edges lead from one to itself: following them meets it at once
not_itself : (cs : Contexts) (e h : ℕ) → IsSome (ec_in cs h) → circle cs h e ≡ false → e ≢ h
not_itself [] e h is none equal = absurd cc
not_itself (c ∷ cs) e h is none equal = grind (arith, equal, none)

apart : (cs : Contexts) (e h : ℕ) → MayReply cs e h → e ≢ h
apart cs e h may = not_itself cs e h (may_wait cs e h may).2 may.no_circle

-- where the caller is about to do another thing, the handler is still there, and the caller on its processor
pub handler_stays : (cs : Contexts) (e h : ℕ) (state : State) → MayReply cs e h → IsSome (ec_in (turned_to cs e state) h)
handler_stays cs e h state may = subst IsSome (sym (turned_others cs e h state (λ at. apart cs e h may (sym at)))) (may_wait cs e h may).2

pub may_serve : (cs : Contexts) (e h : ℕ) (state : State) → MayReply cs e h → cpu_in (turned_to cs e state) e ≡ cpu_in (turned_to cs e state) h
may_serve cs e h state may =
    let stays = cpu-set cs e (ec_of cs e) (record (ec_of cs e) { state = state }) (there_at cs e may.together.there) refl in
    stays e ∙ sym may.together.one_processor ∙ sym (stays h)

-- TWO CHANGE

module _ (cs : Contexts) (e f : ℕ) (y : EcState) (next : EcState → EcState) where
  pub both_first : IsSome (ec_in cs e) → e ≢ f → ec_in (with_both cs e y f next) e ≡ Some y
  both_first is two = put_other (with_ec cs e y) f e (next (ec_of (with_ec cs e y) f)) two ∙ put_itself cs e y is

  pub both_second : IsSome (ec_in cs f) → e ≢ f → ec_in (with_both cs e y f next) f ≡ Some (next (ec_of cs f))
  both_second is two =
      let stays : ec_in (with_ec cs e y) f ≡ ec_in cs f = put_other cs e f y (λ at. two (sym at)) in
      put_itself (with_ec cs e y) f (next (ec_of (with_ec cs e y) f)) (subst IsSome (sym stays) is)
      ∙ ap (λ (o : Option EcState). Some (next (context_in o))) stays

  pub both_others : (z : ℕ) → z ≢ e → z ≢ f → ec_in (with_both cs e y f next) z ≡ ec_in cs z
  both_others z first second = put_other (with_ec cs e y) f z (next (ec_of (with_ec cs e y) f)) second ∙ put_other cs e z y first

-- registers of a context that begins, and of one that returns
pub one_register : (r : Registers) (v : ℕ) → 10 < length r.x → reg (record r { x = slice_set r.x 10 v }) 10 ≡ v
one_register r v wide = get_or-set_same r.x 10 v 0 wide

pub other_register : (r : Registers) (pc v i : ℕ) → i ≢ 10 → reg (record { pc = pc; x = slice_set r.x 10 v }) i ≡ reg r i
other_register r pc v i other = ap (λ (w : ℕ). if i == 0 then 0 else w) (get_or-set_other r.x 10 i v 0 other)

begins : (x : EcState) (caller : ℕ) (mark : Mark) (ip identifier : ℕ) (items : Bool) → 10 < length x.regs.x →
    Begins x (serving x caller mark ip identifier items) caller mark ip identifier items
begins x caller mark ip identifier items wide = record {
  same = record { id = refl; cpu = refl; recall = refl };
  served = refl;
  state = refl;
  pc = refl;
  named = one_register x.regs identifier wide;
  registers = λ i other. other_register x.regs ip identifier i other;
}

-- a call or an exit that is sent
module _ (cs : Contexts) (e h : ℕ) (mark : Mark) (ip identifier : ℕ) (items : Bool) where
  pub sent_caller : MayReply cs e h → ec_in (with_sent cs e h mark ip identifier items) e ≡ Some (record (ec_of cs e) { state = Calling h })
  sent_caller may =
      both_first cs e h (record (ec_of cs e) { state = Calling h }) (λ x. serving x e mark ip identifier items) may.together.there (apart cs e h may)

  pub sent_handler : MayReply cs e h → 10 < length (ec_of cs h).regs.x →
      (y : EcState) × (ec_in (with_sent cs e h mark ip identifier items) h ≡ Some y) × Begins (ec_of cs h) y e mark ip identifier items
  sent_handler may wide = (
    serving (ec_of cs h) e mark ip identifier items,
    both_second cs e h (record (ec_of cs e) { state = Calling h }) (λ x. serving x e mark ip identifier items) (may_wait cs e h may).2 (apart cs e h may),
    begins (ec_of cs h) e mark ip identifier items wide,
  )

  pub sent_others : (z : ℕ) → z ≢ e → z ≢ h → ec_in (with_sent cs e h mark ip identifier items) z ≡ ec_in cs z
  sent_others z first second = both_others cs e h (record (ec_of cs e) { state = Calling h }) (λ x. serving x e mark ip identifier items) z first second
