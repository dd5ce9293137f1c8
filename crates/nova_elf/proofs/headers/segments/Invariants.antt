use Rattle.std.proofs.Common.{◌≡◌, ◌++◌}
use Rattle.nova_elf.specs.Headers.{headers, segments_of}
use Rattle.nova_elf.proofs.HeaderLemmas.{headers_left}
use Rattle.nova_elf.proofs.headers.segments.Given as goal

abbrev pub invariant-loop-index : goal.invariant-loop-index
invariant-loop-index l = l.segments.items ++ segments_of (headers_left l.bytes l.index) ≡ segments_of (headers l.bytes)
