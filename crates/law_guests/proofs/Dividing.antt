-- A guest on divided processors, where its side is at home.
use Rattle.std.proofs.Common.{◌≡◌, ℕ, List}
use Rattle.std.specs.Prelude.{Bool, true, filter}
use Rattle.nova_model.specs.Boot.{Scenario, boot}
use Rattle.nova_model.specs.Runs.{run}
use Rattle.nova_model.specs.State.{pd_of}
use Rattle.law_isolation.specs.Sound.{IsVirtual}
use Rattle.law_integrity.specs.Confined.{Of}
use Rattle.law_flow.specs.Flow.{AreAlike, AreAtWork, AreRevokingWithin, IsPartitioned, fixed}
use Rattle.law_flow.specs.Processors.{AreTimed, IsDivided}
use Rattle.law_flow.proofs.Divided.{goes_divided}
use Rattle.law_flow.proofs.Home.{AreTogether}
use Rattle.law_flow.proofs.Pairs.{never}
use Rattle.law_flow.proofs.Second.{there_second}
use Rattle.law_guests.specs.Guests.{AreOneGuest, watched}
use Rattle.law_guests.proofs.Facts.{ComparingFacts, ViewFacts}
use Rattle.law_guests.proofs.Comparing.{guests_home}

pub guests_divided : ViewFacts → ComparingFacts → (revokes : Bool) (a b : Scenario) (before since turns others : List ℕ) (S T U P C : ℕ → Bool) (g : ℕ) →
    IsPartitioned (run (boot a) before) (Of S) (Of T) (Of P) → IsPartitioned (run (boot b) since) (Of S) (Of U) (Of P) →
    IsDivided (run (boot a) before) (Of S) (Of T) (Of P) (Of C) → IsDivided (run (boot b) since) (Of S) (Of U) (Of P) (Of C) →
    AreAlike (run (boot a) before) (run (boot b) since) (Of S) (Of P) → AreTimed (run (boot a) before) (run (boot b) since) (Of P) (Of C) → (revokes ≡ true → AreRevokingWithin (run (boot a) before) (run (boot b) since) (Of S)) → AreAtWork (fixed revokes) S (run (boot a) before) turns →
    filter C turns ≡ filter C others → IsVirtual (run (boot a) before) g → S (pd_of (run (boot a) before) g) ≡ true → AreOneGuest (watched a before g turns) (watched b since g others)
guests_divided f c revokes a b before since turns others S T U P C g first second divided also alike timed takes works same virtual mine =
    let together : AreTogether (fixed revokes) (run (boot a) before) (run (boot b) since) S P C = record { timed = timed; within = takes; alone = λ h. absurd (never h) } in
    let goes = goes_divided (fixed revokes) a before turns S P C (Of T) first divided (λ yes. (takes yes).first) works (λ h. absurd (never h)) in
    let there = there_second (fixed revokes) b since others S P C (Of U) (run (boot a) before) (Of T) turns second also goes works (λ h. absurd (never h)) alike together same in
    guests_home f c revokes a b before since turns others S P C (Of T) (Of U) g first goes works (goes_divided (fixed revokes) b since others S P C (Of U) second also (λ yes. (takes yes).second) there.0 (λ h. absurd (never h))) alike together same virtual mine
