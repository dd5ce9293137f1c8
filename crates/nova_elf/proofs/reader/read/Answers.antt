use Rattle.std.proofs.Common.{rules, ◌≡◌, ◌≢◌, Some, None, Err, length, sym, ◌∙◌}
use Rattle.nova_elf.specs.Executable.{program, first_fault}
use Rattle.nova_elf.specs.Headers.{headers, first_fault_in, segments_of}
use Rattle.nova_elf.specs.declared.fault.ElfFault.TheVariants.{Memory}
use Rattle.nova_elf.proofs.HeaderLemmas.{headers_apart}
use Rattle.nova_elf.proofs.ReadLemmas.{fault_read, headers_fit}
use Rattle.nova_elf.proofs.reader.read.Goals as goal

pub returns-in-Some-header_fault-clause-exact : goal.returns-in-Some-header_fault-clause-exact
unfolding first_fault program
returns-in-Some-header_fault-clause-exact c =
    let bytes = c.args.bytes.now in
    let fault = c.in-Some-header_fault.fault in
    let here : first_fault_in (length bytes) 0 (headers bytes) ≡ Some fault = cc in
    let apart : fault ≢ Memory = λ e. headers_apart (length bytes) 0 (headers bytes) cc in
    let wanted : program bytes ≡ Err fault = search rules in
    fault_read (program bytes) fault apart wanted

pub returns-clause-segments : goal.returns-clause-segments
returns-clause-segments c =
    let bytes = c.args.bytes.now in
    let none : first_fault_in (length bytes) 0 (headers bytes) ≡ None = sym c.header_fault.ensures ∙ c.in_default-header_fault.is in
    let is : c.into.result ≡ segments_of (headers bytes) = search rules in
    rw is (headers_fit (length bytes) 0 (headers bytes) none)
