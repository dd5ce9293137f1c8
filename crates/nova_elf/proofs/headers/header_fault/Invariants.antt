use Rattle.std.proofs.Common.{◌≡◌, length}
use Rattle.nova_elf.specs.Headers.{headers, first_fault_in}
use Rattle.nova_elf.proofs.HeaderLemmas.{headers_left}
use Rattle.nova_elf.proofs.headers.header_fault.Given as goal

abbrev pub invariant-loop-index : goal.invariant-loop-index
invariant-loop-index l = first_fault_in (length l.bytes) l.index (headers_left l.bytes l.index) ≡ first_fault_in (length l.bytes) 0 (headers l.bytes)
