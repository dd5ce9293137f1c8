-- What is seen of a deed before it is decided: whom it may reach, whether it may move memory, and whether it is an instruction that goes on.
use Rattle.std.proofs.Common.{◌≡◌, ◌⊎◌, ℕ, ap, refl, inl, inr, ◌∙◌}
use Rattle.std.specs.Prelude.{Bool, true, false, ◌==◌, not, nat_lt, Option, Some, None, Result, Ok, Err, if◌then◌else◌}
use Rattle.rv_model.specs.Step.{Once, Raised, Went}
use Rattle.nova_calls.specs.Hypercalls.{call_of}
use Rattle.nova_calls.specs.declared.call.Call.{Call}
use Rattle.nova_calls.specs.declared.call.Call.TheVariants as asks
use Rattle.nova_calls.specs.declared.call.SmAction.TheVariants as act
use Rattle.nova_calls.specs.declared.numbers.TheConstants.{CREATE_EC, CREATE_PT, CREATE_SC, CREATE_SM, SC_CTRL}
use Rattle.nova_range.specs.declared.range.Range.{Range}
use Rattle.nova_range.specs.declared.rights.Rights.{Rights}
use Rattle.nova_range.specs.declared.status.Status.{Status}
use Rattle.nova_range.specs.declared.status.Status.TheVariants.{BadCap, BadCpu, Busy, Timeout}
use Rattle.nova_model.specs.Calls.{exit_admitted}
use Rattle.nova_model.specs.Capabilities.{bind_portal_right, bind_scheduling_right, control_right, down_right, is_ec, is_local, is_pt, is_sc, is_schedulable, is_sm, named, up_right}
use Rattle.nova_model.specs.Deeds.{deed, deed_in, instruction, ready, removes, signalled, stepping}
use Rattle.nova_model.specs.Deliveries.{delivers, delivery}
use Rattle.nova_model.specs.Edges.{is_asking}
use Rattle.nova_model.specs.Exits.{exit_at, exit_portal, exit_to}
use Rattle.nova_model.specs.Hypercalls.{and_then, deadline_after, downed_by, downed_within, hypercall, is_scheduled, maker, makes, new_domain, row, ticks_in, unless, unless_busy, upped_by}
use Rattle.nova_model.specs.Portals.{handler_of}
use Rattle.nova_model.specs.Revokes.{next_leaf}
use Rattle.nova_model.specs.Running.{is_revoked}
use Rattle.nova_model.specs.Semaphores.{answer_of, semaphore, woken}
use Rattle.nova_model.specs.State.{KernelState, budget_at, context, pd_of, processor_of, transfer}
use Rattle.nova_model.specs.declared.admit.ExitAdmit.{ExitAdmit}
use Rattle.nova_model.specs.declared.admit.ExitAdmit.TheVariants as exit
use Rattle.nova_model.specs.declared.context.EcState.{EcState}
use Rattle.nova_model.specs.declared.context.State.{State}
use Rattle.nova_model.specs.declared.context.State.TheVariants.{Blocked, Calling, Dead, Exiting, Fresh, Granting, Helping, Parked, Ready, Replying, Revoking, Sending}
use Rattle.nova_model.specs.declared.deed.Deed.{Deed}
use Rattle.nova_model.specs.declared.deed.Deed.TheVariants.{Blocks, Makes, Names, Recalls, Refuses, Rests, Steps, Tells}
use Rattle.nova_model.specs.declared.delegation.Derivation.{Derivation}
use Rattle.nova_model.specs.declared.new_object.NewObject.{NewObject}
use Rattle.nova_model.specs.declared.new_object.NewObject.TheVariants as new
use Rattle.nova_model.specs.declared.semaphore.Down.{Down}
use Rattle.nova_model.specs.declared.semaphore.Down.TheVariants as lowering
use Rattle.nova_model.specs.declared.semaphore.Overflow.{Overflow}
use Rattle.law_forest.proofs.Walk.{IfDone, delivers_holds, hypercall_holds}
use Rattle.law_turns.proofs.Rows.{call_holds, create_pd_holds, named_holds, reply_holds, unless_holds}
use Rattle.law_swaps.specs.Touches.{Executes}
use Rattle.nova_touching.specs.Whom.{is_moving, moves_by, whom_asked, whom_by, whom_of, whom_read}
use Rattle.nova_touching.specs.declared.whom.Whom.{Whom}
use Rattle.nova_touching.specs.declared.whom.Whom.TheVariants.{Anybody, Nobody, TheBlocked}

-- nobody, or whom is seen
abbrev pub IsWhom : Whom → Deed → Type 0
IsWhom whom d = (whom_by d ≡ Nobody) ⊎ (whom_by d ≡ whom)

-- ROWS

record IsOfRow (reached : Whom) (d : Deed) : Type 0 where
  whom : IsWhom reached d
  moves : moves_by d ≡ false
  steps : d ≡ Steps → ⊥

makes_are : (k : KernelState) (domain number target pd : ℕ) (whom : Whom) (made : ℕ → Result NewObject Status) →
    ((o : ℕ) → IfDone (λ (m : NewObject). IsWhom whom (Makes number target m)) (made o)) → IfDone (IsOfRow whom) (makes k domain number target pd made)
makes_are k domain number target pd whom made each = by_owner (maker k domain target pd)
  where
    by_new : (r : Result NewObject Status) → IfDone (λ (m : NewObject). IsWhom whom (Makes number target m)) r →
        IfDone (IsOfRow whom) (and_then r (λ m. unless_busy k domain target (Makes number target m)))
    by_new (Ok m) is = unless_holds (IsOfRow whom) (is_revoked k domain target) Busy (Ok (Makes number target m)) (record { whom = is; moves = refl; steps = λ h. absurd cc })
    by_new (Err status) is = tt

    by_owner : (owner : Result ℕ Status) → IfDone (IsOfRow whom) (and_then owner (λ o. and_then (made o) (λ m. unless_busy k domain target (Makes number target m))))
    by_owner (Ok o) = by_new (made o) (each o)
    by_owner (Err status) = tt

opens_is : (k : KernelState) (target : ℕ) (first : Option (Range × Rights)) → IsOfRow Nobody (new_domain k target first)
opens_is k target None = record { whom = inl refl; moves = refl; steps = λ h. absurd cc }
opens_is k target (Some range) = record { whom = inl refl; moves = refl; steps = λ h. absurd cc }

row_is : (k : KernelState) (ec domain : ℕ) (c : Call) → IfDone (IsOfRow (whom_asked c)) (row k ec domain c)
row_is k ec domain (asks.Call portal flag) =
    call_holds (IsOfRow Nobody) k ec domain portal flag (λ pt is. record { whom = inl refl; moves = refl; steps = λ h. absurd cc })
    (λ pt is. record { whom = inl refl; moves = refl; steps = λ h. absurd cc })
row_is k ec domain asks.Reply = reply_holds (IsOfRow Nobody) k ec (λ caller mark is. record { whom = inl refl; moves = refl; steps = λ h. absurd cc })
row_is k ec domain (asks.CreatePd target pd first) = create_pd_holds (IsOfRow Nobody) k domain target pd first (opens_is k target first)
row_is k ec domain (asks.CreateEc target pd cpu kind sp event) = makes_are k domain CREATE_EC target pd Nobody _ (λ o. by_test o (not (nat_lt cpu k.cpus)))
  where
    by_test : (o : ℕ) (t : Bool) → IfDone (λ (m : NewObject). IsWhom Nobody (Makes CREATE_EC target m)) (unless t BadCpu (Ok (new.Ec o cpu kind sp event)))
    by_test o true = tt
    by_test o false = inl refl
row_is k ec domain (asks.CreateSc target pd whose quantum priority) =
    makes_are k domain CREATE_SC target pd Anybody _ (λ o. by_named (named k domain is_schedulable bind_scheduling_right whose))
  where
    by_test : (n : ℕ) (t : Bool) → IfDone (λ (m : NewObject). IsWhom Anybody (Makes CREATE_SC target m)) (unless t BadCap (Ok (new.Sc n (processor_of k n) priority quantum)))
    by_test n true = tt
    by_test n false = inr refl

    by_named : (r : Result ℕ Status) → IfDone (λ (m : NewObject). IsWhom Anybody (Makes CREATE_SC target m))
        (and_then r (λ n. unless (is_scheduled k n) BadCap (Ok (new.Sc n (processor_of k n) priority quantum))))
    by_named (Ok n) = by_test n (is_scheduled k n)
    by_named (Err status) = tt
row_is k ec domain (asks.CreatePt target pd whose mtd ip) =
    makes_are k domain CREATE_PT target pd Nobody _ (λ o. by_named (named k domain is_local bind_portal_right whose))
  where
    by_named : (r : Result ℕ Status) → IfDone (λ (m : NewObject). IsWhom Nobody (Makes CREATE_PT target m)) (and_then r (λ handler. Ok (new.Pt handler mtd.0 ip)))
    by_named (Ok n) = inl refl
    by_named (Err status) = tt
row_is k ec domain (asks.CreateSm target pd count) = makes_are k domain CREATE_SM target pd Nobody (λ o. Ok (new.Sm count)) (λ o. inl refl)
row_is k ec domain (asks.Revoke range own) = record { whom = inl refl; moves = refl; steps = λ h. absurd cc }
row_is k ec domain (asks.Lookup range) = record { whom = inl refl; moves = refl; steps = λ h. absurd cc }
row_is k ec domain (asks.EcCtrl whose) =
    named_holds (IsOfRow Anybody) (named k domain is_ec control_right whose) (λ n. Recalls n) (λ n. record { whom = inr refl; moves = refl; steps = λ h. absurd cc })
row_is k ec domain (asks.ScCtrl sc) =
    named_holds (IsOfRow Nobody) (named k domain is_sc control_right sc) (λ n. Tells SC_CTRL (ticks_in (budget_at k n))) (λ n. record { whom = inl refl; moves = refl; steps = λ h. absurd cc })
row_is k ec domain (asks.PtCtrl pt identifier) =
    named_holds (IsOfRow Nobody) (named k domain is_pt control_right pt) (λ n. Names n identifier) (λ n. record { whom = inl refl; moves = refl; steps = λ h. absurd cc })
row_is k ec domain (asks.SmCtrl selector act.Up) = by_named (named k domain is_sm up_right selector)
  where
    by_woken : (sm : ℕ) (o : Result (Option ℕ) Overflow) → IfDone (IsOfRow TheBlocked) (upped_by sm o)
    by_woken sm (Ok whom) = record { whom = inr refl; moves = refl; steps = λ h. absurd cc }
    by_woken sm (Err e) = tt

    by_named : (r : Result ℕ Status) → IfDone (IsOfRow TheBlocked) (and_then r (λ sm. upped_by sm (woken (semaphore k.semaphores sm))))
    by_named (Ok sm) = by_woken sm (woken (semaphore k.semaphores sm))
    by_named (Err status) = tt
row_is k ec domain (asks.SmCtrl selector act.Down) = by_named (named k domain is_sm down_right selector)
  where
    by_down : (sm : ℕ) (d : Down) → IsOfRow Nobody (downed_by sm d)
    by_down sm lowering.Done = record { whom = inl refl; moves = refl; steps = λ h. absurd cc }
    by_down sm lowering.Blocked = record { whom = inl refl; moves = refl; steps = λ h. absurd cc }

    by_named : (r : Result ℕ Status) → IfDone (IsOfRow Nobody) (and_then r (λ sm. Ok (downed_by sm (answer_of (semaphore k.semaphores sm)))))
    by_named (Ok sm) = by_down sm (answer_of (semaphore k.semaphores sm))
    by_named (Err status) = tt
row_is k ec domain (asks.SmCtrl selector (act.DownWithin ticks)) = by_named (named k domain is_sm down_right selector)
  where
    by_ticks : (sm : ℕ) (t : Bool) → IfDone (IsOfRow Nobody) (unless t Timeout (Ok (Blocks sm (Some (deadline_after k ec sm ticks)))))
    by_ticks sm true = tt
    by_ticks sm false = record { whom = inl refl; moves = refl; steps = λ h. absurd cc }

    by_down : (sm : ℕ) (d : Down) → IfDone (IsOfRow Nobody) (downed_within sm ticks (deadline_after k ec sm ticks) d)
    by_down sm lowering.Done = record { whom = inl refl; moves = refl; steps = λ h. absurd cc }
    by_down sm lowering.Blocked = by_ticks sm (ticks == 0)

    by_named : (r : Result ℕ Status) → IfDone (IsOfRow Nobody) (and_then r (λ sm. downed_within sm ticks (deadline_after k ec sm ticks) (answer_of (semaphore k.semaphores sm))))
    by_named (Ok sm) = by_down sm (answer_of (semaphore k.semaphores sm))
    by_named (Err status) = tt

-- DEEDS

-- what is seen of a context's state and registers
pub record Fits (x : EcState) (d : Deed) : Type 0 where
  pub whom : IsWhom (whom_of x) d
  pub moves : moves_by d ≡ true → is_moving x.state ≡ true
  pub steps : d ≡ Steps → Executes x

-- one that stays on its processor, moves nothing, and is no instruction that goes on
still : (x : EcState) (d : Deed) → whom_by d ≡ Nobody → moves_by d ≡ false → (d ≡ Steps → ⊥) → Fits x d
still x d whom moves steps = record { whom = inl whom; moves = λ is. absurd (let both = moves in cc); steps = λ is. absurd (steps is) }

asks_fits : (k : KernelState) (ec : ℕ) (x : EcState) → context k ec ≡ x → is_asking x.state ≡ true → Fits x (hypercall k ec (pd_of k ec) x.regs)
asks_fits k ec x is asks = hypercall_holds (Fits x) k ec (pd_of k ec) x.regs
    (λ call status. still x (Refuses call status) refl refl (λ h. absurd cc))
    (λ c read. by_row c read (row k ec (pd_of k ec) c) (row_is k ec (pd_of k ec) c))
  where
    seen : (c : Call) → call_of x.regs ≡ Ok c → whom_of x ≡ whom_asked c
    seen c read = ap (λ (t : Bool). if t then whom_read (call_of x.regs) else Nobody) asks ∙ ap whom_read read

    by_whom : (c : Call) (d : Deed) → call_of x.regs ≡ Ok c → IsWhom (whom_asked c) d → IsWhom (whom_of x) d
    by_whom c d read (inl nobody) = inl nobody
    by_whom c d read (inr same) = inr (same ∙ (let back = seen c read in cc))

    by_row : (c : Call) → call_of x.regs ≡ Ok c → (r : Result Deed Status) → IfDone (IsOfRow (whom_asked c)) r → IfDone (Fits x) r
    by_row c read (Ok d) h = record { whom = by_whom c d read h.whom; moves = λ is. absurd (let both = h.moves in cc); steps = λ is. absurd (h.steps is) }
    by_row c read (Err status) h = tt

exits_fit : (k : KernelState) (ec reason q0 q1 : ℕ) (x : EcState) (r : Result ℕ Status) → Fits x (exit_at k ec reason q0 q1 r)
exits_fit k ec reason q0 q1 x (Err status) = still x _ refl refl (λ h. absurd cc)
exits_fit k ec reason q0 q1 x (Ok pt) = by_admit (exit_admitted k.contexts ec (handler_of k pt))
  where
    by_admit : (a : ExitAdmit) → Fits x (exit_to k pt reason q0 q1 a)
    by_admit exit.Dies = still x _ refl refl (λ h. absurd cc)
    by_admit exit.Waits = still x _ refl refl (λ h. absurd cc)
    by_admit exit.Sends = still x _ refl refl (λ h. absurd cc)

revokes_fit : (x : EcState) (o : Option Derivation) → is_moving x.state ≡ true → Fits x (removes o)
revokes_fit x None moving = still x _ refl refl (λ h. absurd cc)
revokes_fit x (Some leaf) moving = record { whom = inl refl; moves = λ is. moving; steps = λ h. absurd cc }

gives_fit : (k : KernelState) (ec : ℕ) (s : State) → (context k ec).state ≡ s → is_moving s ≡ true → Fits (context k ec) (delivers k (transfer k ec) (delivery k ec s))
gives_fit k ec s is moving =
    delivers_holds (Fits (context k ec)) k ec (delivery k ec s) (ap (delivery k ec) is) (still (context k ec) Rests refl refl (λ h. absurd cc))
    (record {
      gives = λ d x g. record { whom = inl refl; moves = λ h. ap is_moving is ∙ moving; steps = λ h. absurd cc };
      skips = λ d reason place g. record { whom = inl refl; moves = λ h. ap is_moving is ∙ moving; steps = λ h. absurd cc };
      finishes = λ v end answer present ends. record { whom = inl refl; moves = λ h. ap is_moving is ∙ moving; steps = λ h. absurd cc };
    })

pub deed_fits : (k : KernelState) (ec : ℕ) → Fits (context k ec) (deed k ec)
unfolding deed
deed_fits k ec = by_state (context k ec).state refl
  where
    by_signal : (context k ec).state ≡ Ready → (reason q0 q1 : ℕ) (t : Bool) → Fits (context k ec) (signalled k ec reason q0 q1 t)
    by_signal is reason q0 q1 true = asks_fits k ec (context k ec) refl (ap is_asking is)
    by_signal is reason q0 q1 false = still (context k ec) _ refl refl (λ h. absurd cc)

    by_once : (context k ec).state ≡ Ready → (context k ec).recall ≡ false → (o : Once) → Fits (context k ec) (stepping k ec o)
    by_once is recall (Raised reason q0 q1) = by_signal is reason q0 q1 _
    by_once is recall (Went regs store) = record { whom = inl refl; moves = λ h. absurd cc; steps = λ h. record { state = is; recall = recall } }

    by_recall : (context k ec).state ≡ Ready → (t : Bool) → (context k ec).recall ≡ t → Fits (context k ec) (ready k ec t)
    by_recall is true recall = still (context k ec) _ refl refl (λ h. absurd cc)
    by_recall is false recall = by_once is recall (instruction k ec)

    by_state : (s : State) → (context k ec).state ≡ s → Fits (context k ec) (deed_in k ec s)
    by_state Fresh is = still (context k ec) _ refl refl (λ h. absurd cc)
    by_state Ready is = by_recall is (context k ec).recall refl
    by_state (Exiting reason q0 q1) is = exits_fit k ec reason q0 q1 (context k ec) (exit_portal k ec reason)
    by_state Parked is = still (context k ec) _ refl refl (λ h. absurd cc)
    by_state Dead is = still (context k ec) _ refl refl (λ h. absurd cc)
    by_state (Blocked sm) is = still (context k ec) _ refl refl (λ h. absurd cc)
    by_state (Granting made) is = gives_fit k ec (Granting made) is refl
    by_state Replying is = gives_fit k ec Replying is refl
    by_state (Calling handler) is = still (context k ec) _ refl refl (λ h. absurd cc)
    by_state (Helping handler) is = asks_fits k ec (context k ec) refl (ap is_asking is)
    by_state (Revoking range own) is = revokes_fit (context k ec) (next_leaf (record { pd = pd_of k ec; range = range; own = own }) k.delegations) (ap is_moving is)
    by_state (Sending reason q0 q1 handler) is = exits_fit k ec reason q0 q1 (context k ec) (exit_portal k ec reason)
