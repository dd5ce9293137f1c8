use Rattle.law_sides.proofs.Untouched.{frames_hidden, frames_left}
use Rattle.law_sides.proofs.laws.isolated_sides_touch_no_frame_of_another.Goals as goal

pub returns-clause-frames : goal.returns-clause-frames
returns-clause-frames c shared flows = frames_left

pub returns-clause-blind : goal.returns-clause-blind
returns-clause-blind c shared flows = frames_hidden
