use Rattle.nova_range.proofs.Parts.{is_clamped, source_bits, dest_bits}
use Rattle.nova_range.proofs.laws.clamps_are_parts.Goals as goal

pub returns-clause-parts : goal.returns-clause-parts
returns-clause-parts c = is_clamped

pub returns-clause-source : goal.returns-clause-source
returns-clause-source c = source_bits

pub returns-clause-dest : goal.returns-clause-dest
returns-clause-dest c = dest_bits
