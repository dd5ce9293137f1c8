use Rattle.std.proofs.Common.{rules, arith, ◌≡◌, ◌++◌, string_bytes}
use Rattle.rv_model.specs.Registers.{reg}
use Rattle.nova_report.specs.Report.{register_word}
use Rattle.nova_report.proofs.Ranges.{range_more, range_end}
use Rattle.nova_report.proofs.objects.write_registers.Goals as goal

pub loop-i-preserved : goal.loop-i-preserved
loop-i-preserved c =
    let regs = c.args.regs.now in
    let wrote : string_bytes c.write_register.new.out ≡ string_bytes c.loop-i.out ++ register_word c.loop-i.i (reg regs c.loop-i.i) = search rules in
    range_more (λ i. register_word i (reg regs i)) c.loop-i.i 32 (string_bytes c.loop-i.out) _ c.loop-i.invariant
    (string_bytes c.write_register.new.out) (omega arith) wrote

pub returns : goal.returns
returns c =
    range_end (λ i. register_word i (reg c.args.regs.now i)) c.loop-i.i 32 (string_bytes c.loop-i.out) _ c.loop-i.invariant (omega arith)
