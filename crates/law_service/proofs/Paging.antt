-- A run in which the server gives a tenant a page with its reply: what the premises look at in its states is computed.
use Rattle.std.proofs.Common.{◌≡◌, ℕ, refl}
use Rattle.std.specs.Prelude.{true, false, map, replicate, Some, None}
use Rattle.rv_model.specs.Codes.{instr_of}
use Rattle.rv_model.specs.Step.{one}
use Rattle.nova_calls.specs.Hypercalls.{call_of}
use Rattle.nova_model.specs.Boot.{boot}
use Rattle.nova_model.specs.Choice.{choice, next_to_act}
use Rattle.nova_model.specs.Deeds.{deed}
use Rattle.nova_model.specs.Inputs.{input_of}
use Rattle.nova_model.specs.Runs.{after, run}
use Rattle.nova_model.specs.State.{KernelState, Semaphore, context, is_thread}
use Rattle.nova_model.specs.Times.{next_entry}
use Rattle.nova_model.specs.Turn.{charged, turn}
use Rattle.nova_model.specs.declared.context.Mark.{Mark}
use Rattle.nova_model.specs.declared.context.State.TheVariants.{Exiting, Fresh}
use Rattle.nova_utcb.specs.Messages.{copied, exited}
use Rattle.law_origins.specs.Giving.{Acts}
use Rattle.law_turns.specs.Links.{caller_at as caller_of, state_at as state_of}
use Rattle.law_flow.specs.Flow.{own_turn}
use Rattle.law_service.specs.Examples.{paged_tenants, tenant_domain}
use Rattle.law_service.specs.Service.{computes, returned}
use Rattle.law_service.proofs.Meeting.{nothing, objects_there, ranges_there, states_there}

-- WHAT THE STATES ARE

abbrev pub at_0 : KernelState
at_0 = run (boot paged_tenants) (replicate 59 0)

abbrev pub at_1 : KernelState
at_1 = after at_0 0

abbrev pub at_2 : KernelState
at_2 = after at_1 0

abbrev pub at_3 : KernelState
at_3 = after at_2 0

abbrev pub at_4 : KernelState
at_4 = after at_3 0

abbrev pub at_5 : KernelState
at_5 = after at_4 0

abbrev pub at_6 : KernelState
at_6 = after at_5 0

abbrev pub at_7 : KernelState
at_7 = after at_6 0

abbrev pub at_8 : KernelState
at_8 = after at_7 0

abbrev pub at_9 : KernelState
at_9 = after at_8 0

abbrev pub at_10 : KernelState
at_10 = after at_9 0

abbrev pub at_11 : KernelState
at_11 = after at_10 0

abbrev pub at_12 : KernelState
at_12 = after at_11 0

abbrev pub at_13 : KernelState
at_13 = after at_12 0

pub objects_are : at_0.objects ≡ objects_there
unfolding one instr_of call_of choice deed input_of next_entry charged turn
objects_are = refl

pub ranges_are : at_0.delegations.list ≡ ranges_there
unfolding one instr_of call_of choice deed input_of next_entry charged turn
ranges_are = refl

pub states_are : map state_of at_0.contexts ≡ states_there
unfolding one instr_of call_of choice deed input_of next_entry charged turn
states_are = refl

pub callers_are : map caller_of at_0.contexts ≡ nothing {T = ℕ × Mark}
unfolding one instr_of call_of choice deed input_of next_entry charged turn
callers_are = refl

pub semaphores_are : at_0.semaphores ≡ nothing {T = Semaphore}
unfolding one instr_of call_of choice deed input_of next_entry charged turn
semaphores_are = refl

pub own_0 : own_turn tenant_domain at_0 0 ≡ Some (10, 12)
unfolding one instr_of call_of choice deed input_of next_entry next_to_act charged turn copied exited returned
own_0 = refl

pub own_1 : own_turn tenant_domain at_1 0 ≡ Some (10, 12)
unfolding one instr_of call_of choice deed input_of next_entry next_to_act charged turn copied exited returned
own_1 = refl

pub own_2 : own_turn tenant_domain at_2 0 ≡ None
unfolding one instr_of call_of choice deed input_of next_entry next_to_act charged turn copied exited returned
own_2 = refl

pub own_3 : own_turn tenant_domain at_3 0 ≡ None
unfolding one instr_of call_of choice deed input_of next_entry next_to_act charged turn copied exited returned
own_3 = refl

pub own_4 : own_turn tenant_domain at_4 0 ≡ None
unfolding one instr_of call_of choice deed input_of next_entry next_to_act charged turn copied exited returned
own_4 = refl

pub own_5 : own_turn tenant_domain at_5 0 ≡ None
unfolding one instr_of call_of choice deed input_of next_entry next_to_act charged turn copied exited returned
own_5 = refl

pub own_6 : own_turn tenant_domain at_6 0 ≡ None
unfolding one instr_of call_of choice deed input_of next_entry next_to_act charged turn copied exited returned
own_6 = refl

pub own_7 : own_turn tenant_domain at_7 0 ≡ None
unfolding one instr_of call_of choice deed input_of next_entry next_to_act charged turn copied exited returned
own_7 = refl

pub own_8 : own_turn tenant_domain at_8 0 ≡ None
unfolding one instr_of call_of choice deed input_of next_entry next_to_act charged turn copied exited returned
own_8 = refl

pub own_9 : own_turn tenant_domain at_9 0 ≡ None
unfolding one instr_of call_of choice deed input_of next_entry next_to_act charged turn copied exited returned
own_9 = refl

pub own_10 : own_turn tenant_domain at_10 0 ≡ None
unfolding one instr_of call_of choice deed input_of next_entry next_to_act charged turn copied exited returned
own_10 = refl

pub own_11 : own_turn tenant_domain at_11 0 ≡ None
unfolding one instr_of call_of choice deed input_of next_entry next_to_act charged turn copied exited returned
own_11 = refl

pub own_12 : own_turn tenant_domain at_12 0 ≡ None
unfolding one instr_of call_of choice deed input_of next_entry next_to_act charged turn copied exited returned
own_12 = refl

pub own_13 : own_turn tenant_domain at_13 0 ≡ None
unfolding one instr_of call_of choice deed input_of next_entry next_to_act charged turn copied exited returned
own_13 = refl

pub fresh_state : (context at_0 10).state ≡ Fresh
unfolding one instr_of call_of choice deed input_of next_entry charged turn
fresh_state = refl

pub exit_state : (context at_1 10).state ≡ Exiting 0 0 0
unfolding one instr_of call_of choice deed input_of next_entry charged turn
exit_state = refl

pub no_thread : is_thread at_0 10 ≡ false
unfolding one instr_of call_of choice deed input_of next_entry charged turn
no_thread = refl

pub still_no_thread : is_thread at_1 10 ≡ false
unfolding one instr_of call_of choice deed input_of next_entry charged turn
still_no_thread = refl

pub acts_2 : Acts at_2 0 4
unfolding one instr_of call_of choice deed input_of next_entry next_to_act charged turn copied exited returned
acts_2 = refl

pub computes_2 : computes (deed at_2 4) ≡ true
unfolding one instr_of call_of choice deed input_of next_entry charged turn
computes_2 = refl

pub ranges_2 : at_2.delegations.list ≡ ranges_there
unfolding one instr_of call_of choice deed input_of next_entry charged turn
ranges_2 = refl

pub acts_3 : Acts at_3 0 4
unfolding one instr_of call_of choice deed input_of next_entry next_to_act charged turn copied exited returned
acts_3 = refl

pub computes_3 : computes (deed at_3 4) ≡ true
unfolding one instr_of call_of choice deed input_of next_entry charged turn
computes_3 = refl

pub acts_4 : Acts at_4 0 4
unfolding one instr_of call_of choice deed input_of next_entry next_to_act charged turn copied exited returned
acts_4 = refl

pub computes_4 : computes (deed at_4 4) ≡ true
unfolding one instr_of call_of choice deed input_of next_entry charged turn
computes_4 = refl

pub acts_5 : Acts at_5 0 4
unfolding one instr_of call_of choice deed input_of next_entry next_to_act charged turn copied exited returned
acts_5 = refl

pub computes_5 : computes (deed at_5 4) ≡ true
unfolding one instr_of call_of choice deed input_of next_entry charged turn
computes_5 = refl

pub acts_6 : Acts at_6 0 4
unfolding one instr_of call_of choice deed input_of next_entry next_to_act charged turn copied exited returned
acts_6 = refl

pub computes_6 : computes (deed at_6 4) ≡ true
unfolding one instr_of call_of choice deed input_of next_entry charged turn
computes_6 = refl

pub acts_7 : Acts at_7 0 4
unfolding one instr_of call_of choice deed input_of next_entry next_to_act charged turn copied exited returned
acts_7 = refl

pub computes_7 : computes (deed at_7 4) ≡ true
unfolding one instr_of call_of choice deed input_of next_entry charged turn
computes_7 = refl

pub acts_8 : Acts at_8 0 4
unfolding one instr_of call_of choice deed input_of next_entry next_to_act charged turn copied exited returned
acts_8 = refl

pub computes_8 : computes (deed at_8 4) ≡ true
unfolding one instr_of call_of choice deed input_of next_entry charged turn
computes_8 = refl

pub acts_9 : Acts at_9 0 4
unfolding one instr_of call_of choice deed input_of next_entry next_to_act charged turn copied exited returned
acts_9 = refl

pub computes_9 : computes (deed at_9 4) ≡ true
unfolding one instr_of call_of choice deed input_of next_entry charged turn
computes_9 = refl

pub acts_10 : Acts at_10 0 4
unfolding one instr_of call_of choice deed input_of next_entry next_to_act charged turn copied exited returned
acts_10 = refl

pub computes_10 : computes (deed at_10 4) ≡ true
unfolding one instr_of call_of choice deed input_of next_entry charged turn
computes_10 = refl
