-- What states and calls are of: who creates, gives and revokes.
use Rattle.std.proofs.Common.{◌≡◌, refl}
use Rattle.std.specs.Prelude.{false, true, Option, Some, None, Result, Ok}
use Rattle.nova_calls.specs.declared.call.Call.{Call}
use Rattle.nova_calls.specs.declared.call.Call.TheVariants.{CreatePd, CreateEc, CreateSc, CreatePt, CreateSm, Revoke, SmCtrl}
use Rattle.nova_calls.specs.declared.call.SmAction.TheVariants.{DownWithin}
use Rattle.nova_range.specs.declared.status.Status.{Status}
use Rattle.nova_model.specs.Edges.{is_giving}
use Rattle.nova_model.specs.declared.context.State.{State}
use Rattle.nova_model.specs.declared.context.State.TheVariants.{Granting, Replying, Revoking}
use Rattle.law_turns.specs.Revoking.{is_revoking}
use Rattle.law_flow.specs.Flow.{IsCallAtWork}
use Rattle.nova_flowing.specs.Working.{kind_in, kind_of}
use Rattle.nova_flowing.specs.declared.lapse.LapseKind.{LapseKind}
use Rattle.nova_flowing.specs.declared.lapse.LapseKind.TheVariants.{Creates, Gives, Revokes}

pub none_is : (kind : LapseKind) → ◌≡◌ {A = Option LapseKind} None (Some kind) → ⊥
none_is kind is = absurd (cc)

-- what each state is of
pub state_gives : (s : State) → kind_in s ≡ None → is_giving s ≡ true → ⊥
state_gives (Granting new) is gives = absurd (cc)
state_gives Replying is gives = absurd (cc)
state_gives other is gives = absurd (cc)

pub state_revokes : (s : State) → kind_in s ≡ None → is_revoking s ≡ true → ⊥
state_revokes (Revoking range own) is revokes = absurd (cc)
state_revokes other is revokes = absurd (cc)

-- one that gives
pub record IsGift (s : State) : Type 0 where
  pub gives : is_giving s ≡ true
  pub stays : is_revoking s ≡ true → ⊥

pub gift_state : (s : State) → kind_in s ≡ Some Gives → IsGift s
gift_state (Granting new) is = record { gives = refl; stays = λ none. absurd (cc) }
gift_state Replying is = record { gives = refl; stays = λ none. absurd (cc) }
gift_state other is = absurd (cc)

-- one that revokes
pub record IsRevoke (s : State) : Type 0 where
  pub keeps : is_giving s ≡ true → ⊥
  pub revokes : is_revoking s ≡ true

pub revoke_state : (s : State) → kind_in s ≡ Some Revokes → IsRevoke s
revoke_state (Revoking range own) is = record { keeps = λ none. absurd (cc); revokes = refl }
revoke_state (Granting new) is = absurd (cc)
revoke_state Replying is = absurd (cc)
revoke_state other is = absurd (cc)

-- it is a call that creates
pub no_birth : (s : State) → kind_in s ≡ Some Creates → ⊥
no_birth (Granting new) is = absurd (cc)
no_birth Replying is = absurd (cc)
no_birth (Revoking range own) is = absurd (cc)
no_birth other is = absurd (cc)

pub call_works : (revoking : Type 0) (r : Result Call Status) → kind_of r ≡ None → IsCallAtWork (Unit {0}) revoking (false ≡ true) r
call_works revoking (Ok (CreatePd target pd first)) is = absurd (cc)
call_works revoking (Ok (CreateEc target pd cpu kind sp event)) is = absurd (cc)
call_works revoking (Ok (CreateSc target pd whose quantum priority)) is = absurd (cc)
call_works revoking (Ok (CreatePt target pd handler mtd ip)) is = absurd (cc)
call_works revoking (Ok (CreateSm target pd count)) is = absurd (cc)
call_works revoking (Ok (Revoke range own)) is = absurd (cc)
call_works revoking (Ok (SmCtrl sm (DownWithin ticks))) is = tt
call_works revoking other is = tt

never : false ≡ true → ⊥
never is = absurd (cc)

pub call_creates : (revoking : Type 0) (r : Result Call Status) → kind_of r ≡ Some Creates → IsCallAtWork (Unit {0}) revoking (false ≡ true) r → ⊥
call_creates revoking (Ok (CreatePd target pd first)) is works = never works
call_creates revoking (Ok (CreateEc target pd cpu its sp event)) is works = never works
call_creates revoking (Ok (CreateSc target pd whose quantum priority)) is works = never works
call_creates revoking (Ok (CreatePt target pd handler mtd ip)) is works = never works
call_creates revoking (Ok (CreateSm target pd count)) is works = never works
call_creates revoking (Ok (Revoke range own)) is works = absurd (cc)
call_creates revoking other is works = absurd (cc)

pub call_revokes : (revoking : Type 0) (r : Result Call Status) → kind_of r ≡ Some Revokes → IsCallAtWork (Unit {0}) revoking (false ≡ true) r → revoking
call_revokes revoking (Ok (Revoke range own)) is works = works
call_revokes revoking (Ok (CreatePd target pd first)) is works = absurd (cc)
call_revokes revoking (Ok (CreateEc target pd cpu its sp event)) is works = absurd (cc)
call_revokes revoking (Ok (CreateSc target pd whose quantum priority)) is works = absurd (cc)
call_revokes revoking (Ok (CreatePt target pd handler mtd ip)) is works = absurd (cc)
call_revokes revoking (Ok (CreateSm target pd count)) is works = absurd (cc)
call_revokes revoking other is works = absurd (cc)

pub revokes_call : (revoking : Type 0) (r : Result Call Status) → kind_of r ≡ Some Revokes → revoking → IsCallAtWork (Unit {0}) revoking (false ≡ true) r
revokes_call revoking (Ok (Revoke range own)) is may = may
revokes_call revoking (Ok (CreatePd target pd first)) is may = absurd (cc)
revokes_call revoking (Ok (CreateEc target pd cpu its sp event)) is may = absurd (cc)
revokes_call revoking (Ok (CreateSc target pd whose quantum priority)) is may = absurd (cc)
revokes_call revoking (Ok (CreatePt target pd handler mtd ip)) is may = absurd (cc)
revokes_call revoking (Ok (CreateSm target pd count)) is may = absurd (cc)
revokes_call revoking other is may = absurd (cc)

-- no call is for giving
pub no_gift : (r : Result Call Status) → kind_of r ≡ Some Gives → ⊥
no_gift (Ok (CreatePd target pd first)) is = absurd (cc)
no_gift (Ok (CreateEc target pd cpu its sp event)) is = absurd (cc)
no_gift (Ok (CreateSc target pd whose quantum priority)) is = absurd (cc)
no_gift (Ok (CreatePt target pd handler mtd ip)) is = absurd (cc)
no_gift (Ok (CreateSm target pd count)) is = absurd (cc)
no_gift (Ok (Revoke range own)) is = absurd (cc)
no_gift other is = absurd (cc)
