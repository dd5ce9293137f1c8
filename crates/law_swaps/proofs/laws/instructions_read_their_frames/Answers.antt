use Rattle.law_swaps.proofs.Reading.{reads_frames}
use Rattle.law_swaps.proofs.laws.instructions_read_their_frames.Goals as goal

pub returns : goal.returns
returns c = reads_frames
