use Rattle.std.proofs.Common.{◌≡◌, ◌++◌, ◌-◌, string_bytes, flat_map}
use Rattle.std.specs.List.{range_with_len}
use Rattle.rv_model.specs.Registers.{reg}
use Rattle.nova_report.specs.Report.{register_word, register_words}
use Rattle.nova_report.proofs.objects.write_registers.Given as goal

abbrev pub invariant-loop-i : goal.invariant-loop-i
invariant-loop-i l =
    string_bytes l.out ++ flat_map (λ i. register_word i (reg l.regs i)) (range_with_len l.i (32 - l.i))
    ≡ string_bytes l.initial.out ++ register_words l.regs
