-- The types of objects that hypercalls ask capabilities to lead to.
use Rattle.std.specs.Prelude.{Bool}
use Rattle.nova_objects.specs.declared.object.Object.{Object}
use Rattle.nova_model.specs.Capabilities.{is_pd, is_ec, is_local, is_schedulable, is_sc, is_pt, is_sm}
use Rattle.nova_turn.specs.declared.decide.capabilities.ObjectType.{ObjectType}
use Rattle.nova_turn.specs.declared.decide.capabilities.ObjectType.TheVariants.{Pd, Ec, Local, Schedulable, Sc, Pt, Sm}

abbrev pub is_of : ObjectType → Object → Bool
is_of Pd = is_pd
is_of Ec = is_ec
is_of Local = is_local
is_of Schedulable = is_schedulable
is_of Sc = is_sc
is_of Pt = is_pt
is_of Sm = is_sm
