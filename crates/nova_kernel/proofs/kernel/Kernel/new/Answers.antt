use Rattle.std.proofs.Common.{ℕ, [], sym, subst}
use Rattle.nova_model.specs.Boot.{Scenario, bare}
use Rattle.nova_model.specs.declared.root.Root.{Root}
use Rattle.law_leases.specs.Commits.{IsReached}
use Rattle.nova_turn.specs.Counted.{IsCounted}
use Rattle.nova_turn.specs.Parts.{state_of}
use Rattle.nova_choice.specs.Schedules.{root_schedule}
use Rattle.nova_turn.proofs.Booted.{IsCounted_bare}
use Rattle.nova_turn.proofs.Moves.{queued_same}
use Rattle.nova_kernel.proofs.Known.{none_known}
use Rattle.nova_kernel.specs.Begun.{IsBegun}
use Rattle.nova_kernel.proofs.Begun.{bare_begun}
use Rattle.nova_kernel.proofs.Booted.{bare_runs}
use Rattle.nova_choice.proofs.Started.{queued_bare}
use Rattle.nova_kernel.proofs.kernel.Kernel.new.Goals as goal

abbrev bare_scenario : ℕ → ℕ → ℕ → Root → Scenario
bare_scenario cpus ram consoles root = record { cpus = cpus; ram = ram; consoles = consoles; root = root; images = []; sources = [] }

pub invariant_of-result : goal.invariant_of-result
invariant_of-result c = record {
  tables = record {
    counted = subst IsCounted (sym c.in_ok-parts.ensures.shown) (IsCounted_bare c.args.cpus c.args.ram c.args.consoles c.args.root c.requires.consoles
        (c.turns_keep_what_they_find.ensures.begins c.args.cpus c.args.ram c.args.consoles c.args.root));
    queued =
        queued_same (bare c.args.cpus c.args.ram c.args.consoles c.args.root) (state_of c.in_ok-parts.parts) (root_schedule c.args.cpus c.args.root)
        c.in_ok-parts.parts.queues.all (queued_bare c.args.cpus c.args.ram c.args.consoles c.args.root) c.in_ok-parts.ensures.shown c.in_ok-parts.ensures.queues;
    running =
        bare_runs c.args.cpus c.args.ram c.args.consoles c.args.root (state_of c.in_ok-parts.parts) c.in_ok-parts.parts.revokes c.in_ok-parts.ensures.shown
        c.in_ok-parts.ensures.revokes;
  };
  reached = subst IsReached (sym c.in_ok-parts.ensures.shown) (c.what_bursts_stand_on_is_kept.ensures.begins (bare_scenario c.args.cpus c.args.ram c.args.consoles c.args.root));
  known = none_known (state_of c.in_ok-parts.parts) 8;
  begun = subst IsBegun (sym c.in_ok-parts.ensures.shown) (bare_begun c.args.cpus c.args.ram c.args.consoles c.args.root c.requires.consoles);
}
