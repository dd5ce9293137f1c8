-- The number of a hypercall, by its name.
use Rattle.std.specs.Prelude.{ℕ}
use Rattle.nova_calls.specs.declared.call.Call.{Call}
use Rattle.nova_calls.specs.declared.call.Call.TheVariants as call
use Rattle.nova_calls.specs.declared.numbers.TheConstants.{CALL, REPLY, CREATE_PD, CREATE_EC, CREATE_SC, CREATE_PT, CREATE_SM, REVOKE, LOOKUP, EC_CTRL, SC_CTRL, PT_CTRL, SM_CTRL}

abbrev pub number_of : Call → ℕ
number_of (call.Call portal flag) = CALL
number_of call.Reply = REPLY
number_of (call.CreatePd target pd first) = CREATE_PD
number_of (call.CreateEc target pd cpu kind sp event) = CREATE_EC
number_of (call.CreateSc target pd ec quantum priority) = CREATE_SC
number_of (call.CreatePt target pd ec mtd ip) = CREATE_PT
number_of (call.CreateSm target pd count) = CREATE_SM
number_of (call.Revoke range own) = REVOKE
number_of (call.Lookup range) = LOOKUP
number_of (call.EcCtrl ec) = EC_CTRL
number_of (call.ScCtrl sc) = SC_CTRL
number_of (call.PtCtrl pt identifier) = PT_CTRL
number_of (call.SmCtrl sm action) = SM_CTRL
