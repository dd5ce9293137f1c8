use Rattle.std.proofs.Common.{rules, arith, ◌≡◌, ◌<◌, ℕ, ap, ap₂, sym, ◌∙◌, refl}
use Rattle.std.specs.Prelude.{false, true, Option, Some, None, is_some, option_map, slice_get}
use Rattle.nova_model.specs.Choice.{choice}
use Rattle.nova_model.specs.State.{context}
use Rattle.nova_burst.specs.Lending.{domain_of_virtual, has_code, is_at_code, is_leasable, regs_to_step, turns_left}
use Rattle.nova_deeds.specs.Stirs.{stir_of}
use Rattle.nova_kernel.specs.Views.{left_of}
use Rattle.nova_model.specs.Times.{until_due}
use Rattle.nova_burst.proofs.Finding.{found_is, leasable_is, leasable_none, left_before, next_is, nothing_left, pays_some, virtual_is}
use Rattle.nova_burst.proofs.Returning.{stirs_same}
use Rattle.nova_burst.proofs.leasing.find.Goals as goal

pub returns-in_err-guest-clause-given : goal.returns-in_err-guest-clause-given
returns-in_err-guest-clause-given c =
    let k = c.args.kernel.now.state in
    let none : option_map (λ c. c.actor) (choice k c.args.cpu) ≡ None = search rules in
    let nothing : is_some c.from_residual.result ≡ false = search rules in
    nothing ∙ sym (leasable_none k c.args.cpu none)

pub returns-in_err-sc-clause-given : goal.returns-in_err-sc-clause-given
returns-in_err-sc-clause-given c =
    let k = c.args.kernel.now.state in
    let acts : option_map (λ c. c.actor) (choice k c.args.cpu) ≡ Some c.in_ok-guest.guest = search rules in
    let none : option_map (λ c. c.sc) (choice k c.args.cpu) ≡ None = search rules in
    absurd (pays_some k c.args.cpu c.in_ok-guest.guest acts none)

pub returns-in_err-left-clause-given : goal.returns-in_err-left-clause-given
returns-in_err-left-clause-given c =
    let k = c.args.kernel.now.state in
    let acts : option_map (λ c. c.actor) (choice k c.args.cpu) ≡ Some c.in_ok-guest.guest = search rules in
    let pays : option_map (λ c. c.sc) (choice k c.args.cpu) ≡ Some c.in_ok-sc.sc = search rules in
    let none : turns_left (left_of k c.in_ok-sc.sc) (until_due k.times c.args.cpu) ≡ None = search rules in
    let nothing : is_some c.from_residual-in_err-left.result ≡ false = search rules in
    nothing ∙ sym (nothing_left k c.args.cpu c.in_ok-guest.guest c.in_ok-sc.sc (next_is k c.args.cpu c.in_ok-guest.guest c.in_ok-sc.sc acts pays) none)

pub returns-in_err-pd-clause-given : goal.returns-in_err-pd-clause-given
returns-in_err-pd-clause-given c =
    let k = c.args.kernel.now.state in
    let g = c.in_ok-guest.guest in
    let acts : option_map (λ c. c.actor) (choice k c.args.cpu) ≡ Some g = search rules in
    let pays : option_map (λ c. c.sc) (choice k c.args.cpu) ≡ Some c.in_ok-sc.sc = search rules in
    let there : c.args.cpu < k.cpus = search rules in
    let turns : turns_left (left_of k c.in_ok-sc.sc) (until_due k.times c.args.cpu) ≡ Some c.in_ok-left.left = search rules in
    let next = next_is k c.args.cpu g c.in_ok-sc.sc acts pays in
    let before = left_before k c.args.cpu g c.in_ok-sc.sc c.in_ok-left.left next turns in
    let none : domain_of_virtual (slice_get k.objects g) ≡ None = search rules in
    let nothing : is_some c.from_residual-in_err-pd.result ≡ false = search rules in
    nothing ∙ sym (leasable_is k c.args.cpu g c.in_ok-sc.sc there before.calm next ∙ ap (λ (o : Option ℕ). has_code k o (regs_to_step (context k g))) none)

pub returns-in_err-regs-clause-given : goal.returns-in_err-regs-clause-given
returns-in_err-regs-clause-given c =
    let k = c.args.kernel.now.state in
    let g = c.in_ok-guest.guest in
    let acts : option_map (λ c. c.actor) (choice k c.args.cpu) ≡ Some g = search rules in
    let pays : option_map (λ c. c.sc) (choice k c.args.cpu) ≡ Some c.in_ok-sc.sc = search rules in
    let there : c.args.cpu < k.cpus = search rules in
    let turns : turns_left (left_of k c.in_ok-sc.sc) (until_due k.times c.args.cpu) ≡ Some c.in_ok-left.left = search rules in
    let next = next_is k c.args.cpu g c.in_ok-sc.sc acts pays in
    let before = left_before k c.args.cpu g c.in_ok-sc.sc c.in_ok-left.left next turns in
    let domain : domain_of_virtual (slice_get k.objects g) ≡ Some c.in_ok-pd.pd = search rules in
    let none : regs_to_step (context k g) ≡ None = search rules in
    let nothing : is_some c.from_residual-in_err-regs.result ≡ false = search rules in
    nothing ∙ sym (leasable_is k c.args.cpu g c.in_ok-sc.sc there before.calm next ∙ ap₂ (has_code k) domain none)

pub returns-then-not-is_at_code-clause-given : goal.returns-then-not-is_at_code-clause-given
returns-then-not-is_at_code-clause-given c =
    let k = c.args.kernel.now.state in
    let g = c.in_ok-guest.guest in
    let acts : option_map (λ c. c.actor) (choice k c.args.cpu) ≡ Some g = search rules in
    let pays : option_map (λ c. c.sc) (choice k c.args.cpu) ≡ Some c.in_ok-sc.sc = search rules in
    let there : c.args.cpu < k.cpus = search rules in
    let turns : turns_left (left_of k c.in_ok-sc.sc) (until_due k.times c.args.cpu) ≡ Some c.in_ok-left.left = search rules in
    let next = next_is k c.args.cpu g c.in_ok-sc.sc acts pays in
    let before = left_before k c.args.cpu g c.in_ok-sc.sc c.in_ok-left.left next turns in
    let domain : domain_of_virtual (slice_get k.objects g) ≡ Some c.in_ok-pd.pd = search rules in
    let regs : regs_to_step (context k g) ≡ Some c.in_ok-regs.regs = search rules in
    let not_code : is_at_code k c.in_ok-pd.pd c.in_ok-regs.regs.pc ≡ false = search rules in
    sym (leasable_is k c.args.cpu g c.in_ok-sc.sc there before.calm next ∙ (ap₂ (has_code k) domain regs ∙ not_code))

pub returns-clause-given : goal.returns-clause-given
returns-clause-given c =
    let k = c.args.kernel.now.state in
    let g = c.in_ok-guest.guest in
    let acts : option_map (λ c. c.actor) (choice k c.args.cpu) ≡ Some g = search rules in
    let pays : option_map (λ c. c.sc) (choice k c.args.cpu) ≡ Some c.in_ok-sc.sc = search rules in
    let there : c.args.cpu < k.cpus = search rules in
    let turns : turns_left (left_of k c.in_ok-sc.sc) (until_due k.times c.args.cpu) ≡ Some c.in_ok-left.left = search rules in
    let next = next_is k c.args.cpu g c.in_ok-sc.sc acts pays in
    let before = left_before k c.args.cpu g c.in_ok-sc.sc c.in_ok-left.left next turns in
    let domain : domain_of_virtual (slice_get k.objects g) ≡ Some c.in_ok-pd.pd = search rules in
    let regs : regs_to_step (context k g) ≡ Some c.in_ok-regs.regs = search rules in
    let code : is_at_code k c.in_ok-pd.pd c.in_ok-regs.regs.pc ≡ true = search rules in
    sym (leasable_is k c.args.cpu g c.in_ok-sc.sc there before.calm next ∙ (ap₂ (has_code k) domain regs ∙ code))

pub returns-clause-found : goal.returns-clause-found
returns-clause-found c =
    let k = c.args.kernel.now.state in
    let g = c.in_ok-guest.guest in
    let acts : option_map (λ c. c.actor) (choice k c.args.cpu) ≡ Some g = search rules in
    let pays : option_map (λ c. c.sc) (choice k c.args.cpu) ≡ Some c.in_ok-sc.sc = search rules in
    let there : c.args.cpu < k.cpus = search rules in
    let turns : turns_left (left_of k c.in_ok-sc.sc) (until_due k.times c.args.cpu) ≡ Some c.in_ok-left.left = search rules in
    let next = next_is k c.args.cpu g c.in_ok-sc.sc acts pays in
    let before = left_before k c.args.cpu g c.in_ok-sc.sc c.in_ok-left.left next turns in
    let domain : domain_of_virtual (slice_get k.objects g) ≡ Some c.in_ok-pd.pd = search rules in
    let regs : regs_to_step (context k g) ≡ Some c.in_ok-regs.regs = search rules in
    let kept : c.stir-kept.result ≡ stir_of k g c.args.cpu = search rules in
    found_is k c.args.cpu c.in_ok-sc.sc (record { guest = g; pd = c.in_ok-pd.pd; kept = c.stir-kept.result; left = c.in_ok-left.left; regs = c.in_ok-regs.regs })
    c.actor.ensures.reached c.actor.ensures.processors there next before.left domain regs (kept ∙ stirs_same k g c.args.cpu)

pub stir-kept-requires-clause-guest : goal.stir-kept-requires-clause-guest
stir-kept-requires-clause-guest c =
    let k = c.args.kernel.now.state in
    let domain : domain_of_virtual (slice_get k.objects c.in_ok-guest.guest) ≡ Some c.in_ok-pd.pd = search rules in
    let is = virtual_is k c.in_ok-guest.guest c.in_ok-pd.pd domain in
    search rules
